-- What a graph that has not begun answers: nothing is on its edges, and no worker has made a checkpoint.
use Rattle.std.specs.Prelude.{ℕ, cond, List, Some, None, Ok, Err, Option, Result}
use Rattle.items.specs.declared.Refusal.{Refusal}
use Rattle.items.specs.Refusals.{number_of}
use Rattle.text.specs.Words.{words_of}
use Rattle.model.specs.declared.Call.{Call}
use Rattle.model.specs.declared.Call.TheVariants.{Step, Feed, Checkpoint, Commit, Crash}
use Rattle.model.specs.Graph.{Topology}
use Rattle.model.specs.Address.{addressed}
use Rattle.scripts.specs.declared.command.Command.{Command}
use Rattle.scripts.specs.declared.command.Command.TheVariants as command
use Rattle.scripts.specs.declared.fresh.Answer.{Answer}
use Rattle.scripts.specs.declared.fresh.Answer.TheVariants as answer
use Rattle.scripts.specs.Command.{command_of}

-- done and nothing changed, the state is shown, refused by a number, or it would change something
pub data Said : Type 0 where
  done : Said
  shown : Said
  refused : ℕ → Said
  would_change : Said

abbrev pub said_of : Result Answer Refusal → Said
said_of (Ok answer.Done) = done
said_of (Ok answer.Shown) = shown
said_of (Ok answer.NotBuilt) = would_change
said_of (Err r) = refused (number_of r)

abbrev pub checkpoint_answer : Topology → ℕ → Said
checkpoint_answer g w = cond (addressed g (Feed w)) would_change (refused 6)

abbrev pub addressed_answer : Topology → Call → Said
addressed_answer g (Step w e) = refused 3
addressed_answer g (Feed w) = would_change
addressed_answer g (Checkpoint w) = checkpoint_answer g w
addressed_answer g (Commit c) = refused 7
addressed_answer g Crash = done

abbrev pub call_answer : Topology → Call → Said
call_answer g c = cond (addressed g c) (addressed_answer g c) (refused 5)

abbrev pub command_answer : Topology → Option Command → Said
command_answer g None = refused 1
command_answer g (Some command.Show) = shown
command_answer g (Some (command.Call c)) = call_answer g c

abbrev pub line_answer : Topology → List ℕ → Said
line_answer g line = command_answer g (command_of (words_of line))
