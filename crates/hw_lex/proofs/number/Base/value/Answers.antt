use Rattle.std.proofs.Common.{ℕ, List, ◌≡◌, arith, ap, sym, ◌∙◌}
use Rattle.std.proofs.lemmas.List.{drop_all}
use Rattle.hw_lex.specs.Number.{value_from}
use Rattle.hw_lex.proofs.Values.{product_too_large, sum_too_large}
use Rattle.hw_lex.proofs.number.Base.value.Goals as goal

pub returns-in_err-checked_mul : goal.returns-in_err-checked_mul
returns-in_err-checked_mul c =
    let large = rw c.radix.ensures at c.in_err-checked_mul.ensures in
    rw c.from_residual.ensures (product_too_large c.args.self c.loop-digit.value c.loop-digit.digit-index _ _ c.args.digits.now c.loop-digit-test.true c.loop-digit.invariant.0 large)

pub returns-in_err-value : goal.returns-in_err-value
returns-in_err-value c =
    let product = rw c.radix.ensures at c.in_ok-checked_mul.ensures in
    rw c.from_residual-in_err-value.ensures (sum_too_large c.args.self c.loop-digit.value c.loop-digit.digit-index _ _ _ _ c.args.digits.now c.loop-digit-test.true c.loop-digit.invariant.0 (sym product.1) c.digit_value.ensures c.in_err-value.ensures)

pub returns : goal.returns
returns c =
    let all = drop_all c.loop-digit.digit-index c.args.digits.now c.loop-digit-test.false in
    let is = c.loop-digit.invariant.0 in
    let total : c.loop-digit.value ≡ value_from c.args.self 0 c.args.digits.now = sym (ap (λ (x : List ℕ). value_from c.args.self c.loop-digit.value x) all) ∙ is in
    (omega (arith, c.loop-digit.invariant.1, total), total)
