use Rattle.std.proofs.Common.{◌^◌, ◌<◌, ◌≤◌, arith}
use Rattle.std.proofs.Math.Pow.{pow_mono}
use Rattle.std.proofs.lemmas.Bool.Decides.{nat_tests}
use Rattle.ver_print.proofs.addresses.can_exceed.Goals as goal

pub returns-then-idx-ge64 : goal.returns-then-idx-ge64
returns-then-idx-ge64 c =
    let powers : 2 ^ 64 ≤ 2 ^ c.args.idx = pow_mono c.if-idx-ge64.true in
    let small : c.args.size < 2 ^ 64 = omega (arith, c.ranges.size) in
    let below : c.args.size < 2 ^ c.args.idx = omega (arith, powers, small) in
    grind (arith, nat_tests)
