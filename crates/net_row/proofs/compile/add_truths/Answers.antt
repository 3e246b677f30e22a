use Rattle.std.proofs.Common.{◌≡◌, ◌<◌, Some, length, ap, refl, subst, arith}
use Rattle.std.specs.Prelude.{slice_get}
use Rattle.std.proofs.lemmas.Option.{slice_get_read}
use Rattle.net_row.proofs.MadeLemmas.{start_within, truth_added}
use Rattle.net_row.proofs.compile.add_truths.Goals as goal

pub bounds-tests-place : goal.bounds-tests-place
bounds-tests-place c =
    let within = start_within c.args.numbered.now c.requires.numbered c.args.number c.index.result.now c.requires.number c.index.ensures in
    omega (arith, within, c.loop-place-test.true, c.tests_upto-end.ensures, ap length c.as_slice-tests.ensures.value)

pub index_mut-requires : goal.index_mut-requires
index_mut-requires c =
    let within = start_within c.args.numbered.now c.requires.numbered c.args.number c.index.result.now c.requires.number c.index.ensures in
    omega (arith, within, c.loop-place-test.true, c.tests_upto-end.ensures, c.loop-place.invariant.made.tests, c.loop-place.made.truths.of_tests.ok.0)

pub loop-place-preserved : goal.loop-place-preserved
loop-place-preserved c =
    let tests = c.args.numbered.now.guards.tests.items in
    let place = c.loop-place.place in
    let test = c.index-tests-place.result in
    let within = start_within c.args.numbered.now c.requires.numbered c.args.number c.index.result.now c.requires.number c.index.ensures in
    let lt : place < length tests = omega (arith, within, c.loop-place-test.true, c.tests_upto-end.ensures) in
    let same = c.as_slice-tests.ensures.value in
    let at : slice_get c.as_slice-tests.result.now place ≡ Some test = slice_get_read c.as_slice-tests.result.now (length c.as_slice-tests.result.now) place test refl (omega (arith, lt, ap length same)) c.index-tests-place.is in
    truth_added c.args.numbered.now c.args.made.now c.loop-place.made _ place test c.in_ok-truth.truth c.loop-place.invariant (subst (λ ts. slice_get ts place ≡ Some test) same at) c.in_ok-truth.ensures refl refl refl
