use Rattle.std.proofs.Common.{arith}
use Rattle.par_parse.proofs.ExpressionLaws.{product_tree}
use Rattle.par_parse.proofs.expression.product_of.Goals as goal

pub returns-then-len-ne1 : goal.returns-then-len-ne1
returns-then-len-ne1 c = λ names. product_tree names c.args.factors (λ e. absurd (omega (arith, c.len.ensures, c.if-len-ne1.true)))

-- one is there
pub returns-in-None : goal.returns-in-None
returns-in-None c = let h = rw c.in-None.is at c.pop.ensures.cases in absurd (omega (arith, h.0, c.len.ensures, c.if-len-ne1.false))
