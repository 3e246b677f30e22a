use Rattle.std.proofs.Common.{arith}
use Rattle.cal_parse.proofs.ControlLaws.{control_body, control_none}
use Rattle.cal_parse.proofs.control.control_of.Goals as goal

pub returns-then-len-eq0 : goal.returns-then-len-eq0
returns-then-len-eq0 c = λ names. control_none names c.args.statements.items (omega (arith, c.len.ensures, c.if-len-eq0.true))

pub returns-else-len-eq0 : goal.returns-else-len-eq0
returns-else-len-eq0 c = λ names. control_body names c.args.statements.items _ (λ e. absurd (omega (arith, c.len.ensures, c.if-len-eq0.false))) (c.branch_of.ensures names)
