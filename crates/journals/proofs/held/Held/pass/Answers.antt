use Rattle.std.proofs.lemmas.Slice.{between_is}
use Rattle.std.proofs.lemmas.List.{drop-drop}
use Rattle.journals.proofs.held.Held.pass.Goals as goal

pub returns : goal.returns
returns c = rw (← c.self.view_is) (simp (between_is, drop-drop))
