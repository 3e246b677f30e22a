use Rattle.std.proofs.Common.{ℕ, ◌≤◌, ◌<◌, ◌^◌, length, decimal, arith}
use Rattle.std.proofs.lemmas.Fmt.{length-decimal-le}
use Rattle.itoa.proofs.Decimal.{length_four}
use Rattle.filc_report.proofs.digits.count_digits.Goals as goal

few_digits : (number : ℕ) → number < 2 ^ 64 → length (decimal number) ≤ 20
few_digits number fits = length-decimal-le 20 number (omega arith) (omega (arith, fits)) fits

pub overflow_add-count : goal.overflow_add-count
overflow_add-count c = let so_far = c.loop-left.invariant in omega (arith, so_far, few_digits c.args.number c.ranges.number.fits)

pub overflow_add-result : goal.overflow_add-result
overflow_add-result c = let so_far = c.loop-left.invariant in omega (arith, so_far, c.count_few.ensures, few_digits c.args.number c.ranges.number.fits)

pub loop-left-preserved : goal.loop-left-preserved
loop-left-preserved c =
    let so_far = c.loop-left.invariant in
    omega (arith, so_far, length_four c.loop-left.left c.loop-left-test.true c.loop-left.auto.left-fits.fits)

pub returns-clause-few : goal.returns-clause-few
returns-clause-few c = let so_far = c.loop-left.invariant in omega (arith, so_far, c.count_few.ensures, few_digits c.args.number c.ranges.number.fits)
