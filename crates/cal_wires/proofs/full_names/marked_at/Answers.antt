use Rattle.std.proofs.Common.{length-drop, ap, length, arith}
use Rattle.cal_wires.proofs.full_names.marked_at.Goals as goal

pub returns-then-key-place-lt2 : goal.returns-then-key-place-lt2
returns-then-key-place-lt2 c byte rest here = omega (arith, ap length here, length-drop c.args.place c.args.key.now, c.if-key-place-lt2.true)
