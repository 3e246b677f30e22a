use Rattle.std.proofs.Math.Nat.{mod-add-mod}
use Rattle.std.proofs.Common.{◌*◌, ◌^◌}
use Rattle.filc_run.proofs.soak.next_number.Goals as goal

pub returns : goal.returns
returns c = mod-add-mod (6364136223846793005 * c.args.number) (2 ^ 64) 1442695040888963407
