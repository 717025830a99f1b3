-- A line that is read is what is written for it.
use Rattle.std.proofs.Common.{◌≡◌, ℕ, ◌≤◌, Bool, true, false, cond, ◌&&◌, leb, List, [], ◌∷◌, Some, None, codes, Option, sym, refl, ap, ◌∙◌, subst, inl, inr, le-leb, leb-true}
use borrow.Author.Tests.{clash}
use Rattle.std.specs.Str.{bytes_eq}
use Rattle.std.proofs.lemmas.Bool.{and_parts, and_from}
use Rattle.std.proofs.lemmas.Slice.Eq.{bytes_eq-Decides}
use Rattle.text.specs.Number.{most}
use Rattle.text.specs.Name.{is_name}
use Rattle.text.specs.Words.{words_of, none_of, one_of, two_of}
use Rattle.text.specs.Laws.{joined}
use Rattle.text.proofs.Joins.{words_are_lem}
use Rattle.text.proofs.Tables.{not_some, some_same, which-way, only-way, lookup-word, mapped_from, none_is, one_is, two_is}
use Rattle.model.specs.declared.Kind.{Kind}
use Rattle.model.specs.declared.Kind.TheVariants as kind
use Rattle.graph.specs.declared.line.Name.{Name}
use Rattle.graph.specs.declared.line.Name.TheVariants as name
use Rattle.graph.specs.declared.line.Line.{Line}
use Rattle.graph.specs.declared.line.Line.TheVariants as line
use Rattle.graph.specs.Line.{kind_table, kind_named, journal_of, kind_of, kind_with, worker_of, edge_of, line_of}
use Rattle.graph.specs.Write.{kind_words, line_text, writable, line_writable, LineIs}
use Rattle.graph.proofs.Back.{worker_back, edge_back}

-- the word of a kind
abbrev keyword : Name → List ℕ
keyword name.Source = codes "source"
keyword name.Keep = codes "keep"
keyword name.Scale = codes "scale"
keyword name.Group = codes "group"
keyword name.Spread = codes "spread"
keyword name.Window = codes "window"
keyword name.Sink = codes "sink"

kind_word : (w : List ℕ) (x : Name) → kind_named w ≡ Some x → w ≡ keyword x
kind_word w x h = lookup-word keyword kind_table (refl, (refl, (refl, (refl, (refl, (refl, (refl, tt))))))) w x h

-- a kind that was read is what is written for it
abbrev Spelt : Name → List (List ℕ) → Kind → Type 0
Spelt x ws k = (n : List ℕ) × (writable n k ≡ true) × (keyword x ∷ ws ≡ kind_words n k)

fit : (a b : ℕ) → a ≤ most → b ≤ most → (leb a most && leb b most) ≡ true
fit a b x y = and_from (leb a most) (leb b most) (le-leb a most x) (le-leb b most y)

spelt_source : (ws : List (List ℕ)) → journal_of ws ≡ true → Spelt name.Source ws kind.Source
spelt_source [] h = absurd (clash h)
spelt_source (w ∷ ws) h = go (none_of ws) refl h
  where
    go : (t : Bool) → none_of ws ≡ t → cond t (is_name w) false ≡ true → Spelt name.Source (w ∷ ws) kind.Source
    go true is ok = (w, ok, ap (λ x. codes "source" ∷ w ∷ x) (none_is ws is))
    go false is ok = absurd (clash ok)

spelt : (x : Name) (ws : List (List ℕ)) (k : Kind) → kind_of x ws ≡ Some k → Spelt x ws k
spelt name.Source ws k h =
    let p = only-way (journal_of ws) (Some kind.Source) k h in
    subst (Spelt name.Source ws) (some_same p.1) (spelt_source ws p.0)
spelt name.Keep ws k h =
    let m = mapped_from (λ p. kind.Keep p.0 p.1) (two_of ws) k h in
    let t = two_is ws m.0 m.1 in
    subst (Spelt name.Keep ws) m.2 ([], fit m.0.0 m.0.1 t.1.0 t.1.1, ap (λ x. codes "keep" ∷ x) t.0)
spelt name.Scale ws k h =
    let m = mapped_from (λ p. kind.Scale p.0 p.1) (two_of ws) k h in
    let t = two_is ws m.0 m.1 in
    subst (Spelt name.Scale ws) m.2 ([], fit m.0.0 m.0.1 t.1.0 t.1.1, ap (λ x. codes "scale" ∷ x) t.0)
spelt name.Group ws k h =
    let m = mapped_from (λ n. kind.Group n) (one_of ws) k h in
    let t = one_is ws m.0 m.1 in
    subst (Spelt name.Group ws) m.2 ([], le-leb m.0 most t.1, ap (λ x. codes "group" ∷ x) t.0)
spelt name.Spread ws k h =
    let p = only-way (none_of ws) (Some kind.Spread) k h in
    subst (Spelt name.Spread ws) (some_same p.1) ([], refl, ap (λ x. codes "spread" ∷ x) (none_is ws p.0))
spelt name.Window ws k h =
    let m = mapped_from (λ n. kind.Window n) (one_of ws) k h in
    let t = one_is ws m.0 m.1 in
    subst (Spelt name.Window ws) m.2 ([], le-leb m.0 most t.1, ap (λ x. codes "window" ∷ x) t.0)
spelt name.Sink ws k h =
    let p = only-way (none_of ws) (Some kind.Sink) k h in
    subst (Spelt name.Sink ws) (some_same p.1) ([], refl, ap (λ x. codes "sink" ∷ x) (none_is ws p.0))

-- a line's words, for what it says
abbrev Written : List (List ℕ) → Line → Type 0
Written ws said = (n : List ℕ) × (line_writable n said ≡ true) × (joined ws ≡ line_text n said)

named_kind : (o : Option Name) (ws : List (List ℕ)) (k : Kind) → kind_with o ws ≡ Some k → (x : Name) × (o ≡ Some x) × (kind_of x ws ≡ Some k)
named_kind None ws k h = absurd (not_some k h)
named_kind (Some x) ws k h = (x, refl, h)

worker_written : (ws : List (List ℕ)) (said : Line) → worker_of ws ≡ Some said → Written (codes "worker" ∷ ws) said
worker_written [] said h = absurd (not_some said h)
worker_written (w ∷ ws) said h =
    let m = mapped_from (λ k. line.Worker k) (kind_with (kind_named w) ws) said h in
    let q = named_kind (kind_named w) ws m.0 m.1 in
    let s = spelt q.0 ws m.0 q.2 in
    subst (Written (codes "worker" ∷ w ∷ ws)) m.2
    (s.0, s.1, ap (λ x. joined (codes "worker" ∷ x)) (ap (λ v. v ∷ ws) (kind_word w q.0 q.1) ∙ s.2))

edge_written : (ws : List (List ℕ)) (said : Line) → edge_of ws ≡ Some said → Written (codes "edge" ∷ ws) said
edge_written ws said h =
    let m = mapped_from (λ p. line.Edge (record { from = p.0; to = p.1 })) (two_of ws) said h in
    let t = two_is ws m.0 m.1 in
    subst (Written (codes "edge" ∷ ws)) m.2 ([], fit m.0.0 m.0.1 t.1.0 t.1.1, ap (λ x. joined (codes "edge" ∷ x)) t.0)

line_written : (ws : List (List ℕ)) (said : Line) → line_of ws ≡ Some said → Written ws said
line_written [] said h = absurd (not_some said h)
line_written (w ∷ ws) said h = elim (which-way (bytes_eq w (codes "worker")) (worker_of ws) (cond (bytes_eq w (codes "edge")) (edge_of ws) None) said h) [
  | inl p ↦ subst (λ v. Written (v ∷ ws) said) (sym ((bytes_eq-Decides w (codes "worker")).0 p.0)) (worker_written ws said p.1)
  | inr rest ↦ let p = only-way (bytes_eq w (codes "edge")) (edge_of ws) said rest in
      subst (λ v. Written (v ∷ ws) said) (sym ((bytes_eq-Decides w (codes "edge")).0 p.0)) (edge_written ws said p.1)
]

line_back : (n : List ℕ) (said : Line) → line_writable n said ≡ true → line_of (words_of (line_text n said)) ≡ Some said
line_back n (line.Worker k) h = worker_back n k h
line_back n (line.Edge x) h = let p = and_parts (leb x.from most) (leb x.to most) h in edge_back x (leb-true x.from most p.0, leb-true x.to most p.1)

pub line_is_lem : LineIs
line_is_lem l said = (
  λ h. let w = line_written (words_of l) said h in (w.0, w.1, sym (words_are_lem l).1 ∙ w.2),
  λ n ok is. ap (λ x. line_of (words_of x)) is ∙ line_back n said ok,
)
