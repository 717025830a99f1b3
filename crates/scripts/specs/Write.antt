-- A command written out.
use Rattle.std.specs.Prelude.{◌≡◌, ℕ, Bool, true, ◌&&◌, List, [], ◌∷◌, Some, codes, decimal, nat_le}
use Rattle.text.specs.Number.{most}
use Rattle.text.specs.Words.{words_of}
use Rattle.text.specs.Laws.{joined}
use Rattle.model.specs.declared.Call.TheVariants.{Step, Feed, Checkpoint, Commit, Crash}
use Rattle.scripts.specs.declared.command.Command.{Command}
use Rattle.scripts.specs.declared.command.Command.TheVariants as command
use Rattle.scripts.specs.Command.{command_of}

abbrev pub command_words : Command → List (List ℕ)
command_words (command.Call (Step w e)) = codes "step" ∷ decimal w ∷ decimal e ∷ []
command_words (command.Call (Feed w)) = codes "feed" ∷ decimal w ∷ []
command_words (command.Call (Checkpoint w)) = codes "cut" ∷ decimal w ∷ []
command_words (command.Call (Commit n)) = codes "declare" ∷ decimal n ∷ []
command_words (command.Call Crash) = codes "stop" ∷ []
command_words command.Show = codes "show" ∷ []

-- its numbers have 32 bits
abbrev pub command_fits : Command → Bool
command_fits (command.Call (Step w e)) = nat_le w most && nat_le e most
command_fits (command.Call (Feed w)) = nat_le w most
command_fits (command.Call (Checkpoint w)) = nat_le w most
command_fits (command.Call (Commit n)) = nat_le n most
command_fits (command.Call Crash) = true
command_fits command.Show = true

-- A line of a script is just what is written for its command.
abbrev pub CommandIs : Type 0
CommandIs =
    (l : List ℕ) (c : Command) →
    (command_of (words_of l) ≡ Some c → (command_fits c ≡ true) × (l ≡ joined (command_words c)))
    × (command_fits c ≡ true → l ≡ joined (command_words c) → command_of (words_of l) ≡ Some c)
