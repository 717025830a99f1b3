-- The lines of a script, by their words.
use Rattle.std.specs.Prelude.{ℕ, cond, List, [], ◌∷◌, Some, None, codes, Option}
use Rattle.std.specs.Option.{option_map}
use Rattle.text.specs.Words.{none_of, one_of, two_of, lookup}
use Rattle.model.specs.declared.Call.TheVariants.{Step, Feed, Checkpoint, Commit, Crash}
use Rattle.scripts.specs.declared.command.Word.{Word}
use Rattle.scripts.specs.declared.command.Word.TheVariants as word
use Rattle.scripts.specs.declared.command.Command.{Command}
use Rattle.scripts.specs.declared.command.Command.TheVariants as command

abbrev pub word_table : List (List ℕ × Word)
word_table =
    (codes "step", word.Step) ∷ (codes "feed", word.Feed) ∷ (codes "cut", word.Cut) ∷ (codes "declare", word.Declare)
    ∷ (codes "stop", word.Stop) ∷ (codes "show", word.Show) ∷ []

abbrev pub word_named : List ℕ → Option Word
word_named w = lookup w word_table

abbrev pub command_with : Word → List (List ℕ) → Option Command
command_with word.Step ws = option_map (λ p. command.Call (Step p.0 p.1)) (two_of ws)
command_with word.Feed ws = option_map (λ w. command.Call (Feed w)) (one_of ws)
command_with word.Cut ws = option_map (λ w. command.Call (Checkpoint w)) (one_of ws)
command_with word.Declare ws = option_map (λ n. command.Call (Commit n)) (one_of ws)
command_with word.Stop ws = cond (none_of ws) (Some (command.Call Crash)) None
command_with word.Show ws = cond (none_of ws) (Some command.Show) None

abbrev pub command_after : Option Word → List (List ℕ) → Option Command
command_after None ws = None
command_after (Some w) ws = command_with w ws

abbrev pub command_of : List (List ℕ) → Option Command
command_of [] = None
command_of (w ∷ ws) = command_after (word_named w) ws
