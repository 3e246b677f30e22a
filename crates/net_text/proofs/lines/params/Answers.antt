use Rattle.std.proofs.Common.{◌≡◌, ◌<◌, length, arith}
use Rattle.std.proofs.lemmas.Bool.Decides.{nat_tests}
use Rattle.std.proofs.lemmas.Result.{err_from_is_err_and}
use Rattle.net_text.specs.inside.ReadLines.{params_of_text}
use Rattle.net_text.proofs.ParamLemmas.{goes_on, fails, is_done}
use Rattle.net_text.proofs.lines.params.Goals as goal

pub returns-in_err-number : goal.returns-in_err-number
returns-in_err-number c =
    let p = err_from_is_err_and c.from_residual.result c.from_residual.ensures.1 in
    let some : 0 < length c.loop-rest.rest.now = grind (arith, nat_tests) in
    rw (p.1, p.2) (fails c.in_err-number.field-0.0 c.loop-rest.params.items c.loop-rest.rest.now (params_of_text (length c.args.text.now) c.args.text.now) some c.in_err-number.ensures.read c.loop-rest.invariant)

pub loop-rest-preserved : goal.loop-rest-preserved
loop-rest-preserved c =
    let some : 0 < length c.loop-rest.rest.now = grind (arith, nat_tests) in
    rw c.in_ok-push.ensures.items (goes_on c.loop-rest.params.items c.loop-rest.rest.now c.in_ok-number.number c.in_ok-number.after.now (params_of_text (length c.args.text.now) c.args.text.now) some c.in_ok-number.ensures.read c.loop-rest.invariant)

pub returns : goal.returns
returns c =
    let none : length c.loop-rest.rest.now ≡ 0 = grind (arith, nat_tests) in
    is_done c.loop-rest.params.items c.loop-rest.rest.now (params_of_text (length c.args.text.now) c.args.text.now) none c.loop-rest.invariant
