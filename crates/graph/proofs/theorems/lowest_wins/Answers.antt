use Rattle.graph.proofs.Verdicts.{lowest_wins_lem}
use Rattle.graph.proofs.theorems.lowest_wins.Goals as goal

pub returns : goal.returns
returns c = lowest_wins_lem
