use Rattle.std.proofs.Common.{Some, None, refl, ◌∙◌, rules}
use Rattle.std.proofs.lemmas.List.Folds.{fold_stuck}
use Rattle.text.specs.Number.{read_on}
use Rattle.text.proofs.digits.value_of.Goals as goal

pub returns-in_err-value : goal.returns-in_err-value
returns-in_err-value c =
    c.from_residual.ensures ∙ fold_stuck read_on None (λ byte. refl) (Some 0) c.args.word.now c.loop-byte.byte-index 0 c.loop-byte-test.true (search rules)
