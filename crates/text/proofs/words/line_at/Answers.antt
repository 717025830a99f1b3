use Rattle.std.proofs.Common.{refl}
use Rattle.std.proofs.lemmas.Iterator.Consumers.{nth_from_yields_List, YieldsList-from_first}
use Rattle.text.proofs.Parts.{nth_or_empty}
use Rattle.text.proofs.words.line_at.Goals as goal

pub returns : goal.returns
returns c =
    nth_or_empty _ c.args.n _ _ _
    (nth_from_yields_List _ _ c.args.n c.nth.ensures.ran (YieldsList-from_first (λ line. line.now) (λ lines. lines) _ c.new.ensures.is)) c.unwrap_or.ensures refl
