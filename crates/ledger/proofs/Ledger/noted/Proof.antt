-- `noted` makes the struct anew, and its ghost field is chosen here: what it was, and the bytes behind it.
use Rattle.std.proofs.Common.{◌≡◌, T, List, [], ◌∷◌, ◌++◌, sym, refl, subst}
use seplogic.Ra.Ura.{Ura}
use mir.Syntax.{Ty}
use mir.Val.{Val, vstruct, vnil, has_ty, WT}
use base.Logic.{SProp, ent, via, fst∗, snd∗}
use prog.Memory.{Memory}
use prog.Routine.{Routine}
use prog.Wp.{Calls, Loops, WpFn, Tables}
use types.Logic.{Logic, sem}
use contract.Monad.{Fun, fact_use}
use contract.Running.{tables, tables_of}
use sound.WpLaws.{WpFn-mono}
use types.Kit.{raw, ◌$◌, ◌∵◌, !, qed, move, join, fjoin, suffices, done, feq_i, fpack}
use types.Run.{returns, enter, no_more}
use types.ByLocal.{alloc_all, pass_all, free_all, look_at, sets}
use types.Part.{agg}
use denote.RattleType.{RattleType, owns, Valss}
use denote.Signature.{name_of, meet_at, Slot, types_at, plain}
use denote.Builtin.{u8, SliceRefOf}
use denote.Exit.{yes}
use denote.Laws.{Typed, Is, Are, Ises, owns_show, showss}
use denote.Memory.{lone}
use denote.Slice.{shr_slice_Lawful}
use Rattle.ledger.proofs.Ledger.TheLaws.{the_row_laws}
use denote.Steps.{nothing}
use denote.Struct.Owning.{shape}
use denote.Struct.Struct.{within}
use denote.Triple.Clauses.{Clauses, closing}
use denote.Triple.Entry.{on_entry, alive}
use denote.Triple.Spec.{Meets, triple_of}
use denote.Triple.Table.{entered}
use denote.Triple.Walked.{says, Stays, stay_dropped, Goes-dropped, walk_of, ends_at, walk_Meets}
use Rattle.ledger.specs.contracts.Ledger.{the_type, the_row}
use Rattle.ledger.specs.contracts.Ledger.noted.{ended, clauses}
use Rattle.ledger.specs.contracts.Ledger.noted.Key.{name as #self}
use Rattle.ledger.proofs.Ledger.noted.Statement as stated
use Rattle.ledger.proofs.Ledger.noted.Code as code

one : (τ : Ty) (vs : List Val) → Typed (τ ∷ []) vs → (v : Val) × (vs ≡ v ∷ []) × (T (has_ty τ v) × WT v)
one τ [] t = absurd t
one τ (v ∷ []) t = (v, refl, t.0)
one τ (v ∷ w ∷ vs) t = absurd t.1

abbrev slot : Slot 1
slot = SliceRefOf (0 ∷ []) tt (plain (λ κs. u8)) (λ κs. tt)

abbrev stayed : Stays ended.signature.params ended.kept
stayed = (stay_dropped (plain (λ _. the_row)) yes, (stay_dropped slot yes, tt))

module _ {M : Type 1} {𝓤 : Ura M} (𝓛 : Logic 𝓤) (mem : Memory → SProp 𝓤) (run : Routine → Fun 𝓤) where
  open 𝓛 use {H}

  abbrev held : Clauses 𝓤 ended
  held = clauses 𝓛 mem run

  module _ (C : Calls 𝓤 H) (Λ : Loops 𝓤 H) (z : (walk_of 𝓛 ended stayed held).Ghost) where
    abbrev toks : SProp 𝓤
    toks = alive 𝓛 ended.signature z.0.0 z.0.1

    abbrev Post : Val → SProp 𝓤
    Post = (walk_of 𝓛 ended stayed held).post z

    abbrev Goes : List Val → List Val → Type 1
    Goes a b = ent 𝓤 toks (WpFn 𝓤 H C Λ code.function (a ++ (b ++ [])) Post)

    walk : (a b : Val) → T (has_ty (lone the_row.mir) a) × WT a → T (has_ty (lone (slot.row z.0.0).mir) b) × WT b → Goes (a ∷ []) (b ∷ [])
    walk a b ga gb =
        qed 𝓛 (raw toks ∷ []) ∵
        enter ! C Λ code.function (a ∷ b ∷ []) _ $ alloc_all ! (λ l. pass_all ! refl (ga, (gb, tt)) $
        sets ! (agg ! (no_more !)) refl (tt, tt) $
        returns ! (look_at ! 0 refl) $ free_all ! refl $
        feq_i ! (List Val) (vstruct vnil ∷ []) (vstruct vnil ∷ []) refl $ nothing ! $ move ! (1 ∷ 0 ∷ []) $ fjoin ! $
        fpack ! (Valss []) (within (shape the_type) tt (vstruct vnil ∷ [])) tt $ nothing ! $ move ! (1 ∷ 0 ∷ []) $ fjoin ! $
        suffices ! _ (ends_at 𝓛 ended stayed held z (vstruct vnil) (record { bytes = z.0.3.0.bytes ++ z.0.3.1.0.now }) (tt, (tt, tt)) (tt, (tt, tt))) $ says ! refl $
        nothing ! $ nothing ! $ fjoin ! $ nothing ! $ fjoin ! $ join ! $ move ! (1 ∷ 0 ∷ []) $ join ! $ done !)

    entry : (a b : List Val) → Is the_row z.0.3.0 a → Is (slot.row z.0.0) z.0.3.1.0 b → Goes a b
    entry a b ia ib =
        let ta = one (lone the_row.mir) a ((the_row_laws.lawful 𝓛).typed z.0.3.0 a ia) in
        let tb = one (lone (slot.row z.0.0).mir) b ((shr_slice_Lawful 𝓛 (name_of (0 ∷ [])) (meet_at 1 (0 ∷ []) tt z.0.0) u8).typed z.0.3.1.0 b ib) in
        subst (λ x. Goes x b) (sym ta.1) (subst (λ x. Goes (ta.0 ∷ []) x) (sym tb.1) (walk ta.0 tb.0 ta.2 tb.2))

  meets : (𝓣 : Tables 𝓤 H) → Meets 𝓛 ended.signature (WpFn 𝓤 H 𝓣.C 𝓣.Λ code.function) (closing 𝓛 ended held)
  meets 𝓣 =
      walk_Meets 𝓛 ended stayed
      (Goes-dropped 𝓛 1 (plain (λ _. the_row)) yes (λ κs x f. refl), (Goes-dropped 𝓛 1 slot yes (λ κs x f. refl), tt)) held
      (WpFn 𝓤 H 𝓣.C 𝓣.Λ code.function) (WpFn-mono 𝓤 H 𝓛.laws 𝓣 code.function)
      (λ z. let a = z.0.3 in let vss = z.0.4 in let Rs : List RattleType = types_at ended.signature.params z.0.0 in
      let pre = on_entry 𝓛 ended.signature z.0.0 z.0.1 a vss in
      fact_use 𝓤 (Are Rs (Ises Rs) a vss)
      (via 𝓤 (sem 𝓛 (owns Rs a vss)) (via 𝓤 pre (fst∗ 𝓤 pre ((held z.0.0 a).requires z.1)) (snd∗ 𝓤 (alive 𝓛 ended.signature z.0.0 z.0.1) (sem 𝓛 (owns Rs a vss)))) (owns_show 𝓛 Rs (Ises Rs) (showss 𝓛 Rs) a vss))
      (λ are. via 𝓤 (alive 𝓛 ended.signature z.0.0 z.0.1) (via 𝓤 pre (fst∗ 𝓤 pre ((held z.0.0 a).requires z.1)) (fst∗ 𝓤 (alive 𝓛 ended.signature z.0.0 z.0.1) (sem 𝓛 (owns Rs a vss))))
      (entry 𝓣.C 𝓣.Λ z vss.0 vss.1.0 are.0 are.1.0)))

pub noted_spec : {M : Type 1} → stated.statement M
unfolding tables_of
noted_spec 𝓤 𝓛 𝓜 𝓡 wired =
    let A = 𝓛.A in
    let 𝓣 : Tables 𝓤 𝓛.H = tables_of 𝓤 𝓛.H 𝓜 (tables 𝓤 𝓛.H 𝓜 𝓡 𝓡.env) in
    entered 𝓤 𝓛.H (triple_of 𝓛 ended.signature (closing 𝓛 ended (clauses 𝓛 𝓜.mem 𝓡.returns))) 𝓣.C 𝓣.Λ #self code.function (code.unfolded 𝓤 𝓛.H 𝓜 𝓡 wired)
    (meets 𝓛 𝓜.mem 𝓡.returns 𝓣)
