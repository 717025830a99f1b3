use Rattle.std.proofs.Common.{refl}
use Rattle.std.proofs.lemmas.Iterator.Consumers.{nth_from_yields_List, YieldsList-from_first}
use Rattle.text.proofs.Parts.{nth_or_empty}
use Rattle.graph.proofs.journal.third_word.Goals as goal

pub returns : goal.returns
returns c =
    nth_or_empty _ 2 _ _ _
    (nth_from_yields_List _ _ 2 c.nth.ensures.ran (YieldsList-from_first (λ word. word.now) (λ words. words) _ c.new.ensures)) c.unwrap_or.ensures refl
