use Rattle.std.proofs.Common.{arith}
use Rattle.cal_lower.proofs.SizeLemmas.{few_body}
use Rattle.cal_lower.proofs.sizes.few_parts.Goals as goal

pub returns-in_ok-_after-in-Body : goal.returns-in_ok-_after-in-Body
returns-in_ok-_after-in-Body c = λ names item. few_body names item c.args.control.now c.in-Body.statement c.in_ok-_after-in-Body._after c.in-Body.is (c.in_ok-_after-in-Body.ensures names item) (omega arith)
