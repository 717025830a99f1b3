-- A line that is read is what is written for its command, and the other way round.
use Rattle.std.proofs.Common.{◌≡◌, ℕ, ◌≤◌, true, leb, List, [], ◌∷◌, Some, None, codes, decimal, Option, sym, refl, ap, ◌∙◌, subst, le-leb, leb-true}
use Rattle.std.proofs.lemmas.Bool.{and_parts, and_from}
use Rattle.text.specs.Number.{most}
use Rattle.text.specs.Words.{words_of, none_of, one_of, two_of}
use Rattle.text.specs.Name.{visible}
use Rattle.text.specs.Laws.{joined}
use Rattle.text.proofs.Joins.{words_are_lem}
use Rattle.text.proofs.Tables.{not_some, some_same, only-way, lookup-word, mapped_from, none_is, one_is, two_is}
use Rattle.text.proofs.Spelling.{plain_number, one_plain, two_plain, one_back, two_back, line_words}
use Rattle.model.specs.declared.Call.TheVariants.{Step, Feed, Checkpoint, Commit, Crash}
use Rattle.scripts.specs.declared.command.Word.{Word}
use Rattle.scripts.specs.declared.command.Word.TheVariants as word
use Rattle.scripts.specs.declared.command.Command.{Command}
use Rattle.scripts.specs.declared.command.Command.TheVariants as command
use Rattle.scripts.specs.Command.{word_table, word_named, command_with, command_after, command_of}
use Rattle.scripts.specs.Write.{command_words, command_fits, CommandIs}

abbrev keyword : Word → List ℕ
keyword word.Step = codes "step"
keyword word.Feed = codes "feed"
keyword word.Cut = codes "cut"
keyword word.Declare = codes "declare"
keyword word.Stop = codes "stop"
keyword word.Show = codes "show"

word_is : (w : List ℕ) (x : Word) → word_named w ≡ Some x → w ≡ keyword x
word_is w x h = lookup-word keyword word_table (refl, (refl, (refl, (refl, (refl, (refl, tt)))))) w x h

abbrev Spelt : Word → List (List ℕ) → Command → Type 0
Spelt x ws c = (command_fits c ≡ true) × (keyword x ∷ ws ≡ command_words c)

-- a command with one number
spelt_one : (x : Word) (f : ℕ → Command) → ((n : ℕ) → (n ≤ most → command_fits (f n) ≡ true) × (keyword x ∷ decimal n ∷ [] ≡ command_words (f n))) →
    (ws : List (List ℕ)) (n : ℕ) (c : Command) → one_of ws ≡ Some n → f n ≡ c → Spelt x ws c
spelt_one x f law ws n c h is =
    let t = one_is ws n h in
    subst (Spelt x ws) is ((law n).0 t.1, ap (λ v. keyword x ∷ v) t.0 ∙ (law n).1)

spelt : (x : Word) (ws : List (List ℕ)) (c : Command) → command_with x ws ≡ Some c → Spelt x ws c
spelt word.Step ws c h =
    let m = mapped_from (λ p. command.Call (Step p.0 p.1)) (two_of ws) c h in
    let t = two_is ws m.0 m.1 in
    subst (Spelt word.Step ws) m.2
    (and_from (leb m.0.0 most) (leb m.0.1 most) (le-leb m.0.0 most t.1.0) (le-leb m.0.1 most t.1.1), ap (λ x. codes "step" ∷ x) t.0)
spelt word.Feed ws c h =
    let m = mapped_from (λ w. command.Call (Feed w)) (one_of ws) c h in
    spelt_one word.Feed (λ w. command.Call (Feed w)) (λ n. (le-leb n most, refl)) ws m.0 c m.1 m.2
spelt word.Cut ws c h =
    let m = mapped_from (λ w. command.Call (Checkpoint w)) (one_of ws) c h in
    spelt_one word.Cut (λ w. command.Call (Checkpoint w)) (λ n. (le-leb n most, refl)) ws m.0 c m.1 m.2
spelt word.Declare ws c h =
    let m = mapped_from (λ n. command.Call (Commit n)) (one_of ws) c h in
    spelt_one word.Declare (λ n. command.Call (Commit n)) (λ n. (le-leb n most, refl)) ws m.0 c m.1 m.2
spelt word.Stop ws c h =
    let p = only-way (none_of ws) (Some (command.Call Crash)) c h in
    subst (Spelt word.Stop ws) (some_same p.1) (refl, ap (λ x. codes "stop" ∷ x) (none_is ws p.0))
spelt word.Show ws c h =
    let p = only-way (none_of ws) (Some command.Show) c h in
    subst (Spelt word.Show ws) (some_same p.1) (refl, ap (λ x. codes "show" ∷ x) (none_is ws p.0))

after_word : (o : Option Word) (ws : List (List ℕ)) (c : Command) → command_after o ws ≡ Some c → (x : Word) × (o ≡ Some x) × (command_with x ws ≡ Some c)
after_word None ws c h = absurd (not_some c h)
after_word (Some x) ws c h = (x, refl, h)

words_spelt : (ws : List (List ℕ)) (c : Command) → command_of ws ≡ Some c → (command_fits c ≡ true) × (ws ≡ command_words c)
words_spelt [] c h = absurd (not_some c h)
words_spelt (w ∷ ws) c h =
    let q = after_word (word_named w) ws c h in
    let s = spelt q.0 ws c q.2 in
    (s.0, ap (λ v. v ∷ ws) (word_is w q.0 q.1) ∙ s.1)

-- written and read
words_one : (w : List ℕ) (n : ℕ) → visible w ≡ true → n ≤ most → words_of (joined (w ∷ decimal n ∷ [])) ≡ w ∷ decimal n ∷ []
words_one w n v le = line_words w (decimal n ∷ []) v (one_plain (decimal n) (plain_number n le))

back : (c : Command) → command_fits c ≡ true → command_of (words_of (joined (command_words c))) ≡ Some c
back (command.Call (Step w e)) h =
    let p = and_parts (leb w most) (leb e most) h in
    let a = leb-true w most p.0 in
    let b = leb-true e most p.1 in
    ap command_of (line_words (codes "step") (decimal w ∷ decimal e ∷ []) refl (two_plain (decimal w) (decimal e) (plain_number w a) (plain_number e b)))
    ∙ rw (two_back w e a b) refl
back (command.Call (Feed w)) h = let a = leb-true w most h in ap command_of (words_one (codes "feed") w refl a) ∙ rw (one_back w a) refl
back (command.Call (Checkpoint w)) h = let a = leb-true w most h in ap command_of (words_one (codes "cut") w refl a) ∙ rw (one_back w a) refl
back (command.Call (Commit n)) h = let a = leb-true n most h in ap command_of (words_one (codes "declare") n refl a) ∙ rw (one_back n a) refl
back (command.Call Crash) h = refl
back command.Show h = refl

pub command_is_lem : CommandIs
command_is_lem l c = (
  λ h. let s = words_spelt (words_of l) c h in (s.0, sym (words_are_lem l).1 ∙ ap joined s.1),
  λ fits is. ap (λ x. command_of (words_of x)) is ∙ back c fits,
)
