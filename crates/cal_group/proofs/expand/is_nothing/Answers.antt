use Rattle.cal_group.proofs.BlockLemmas.{seq_nothing, seq_something}
use Rattle.cal_group.proofs.expand.is_nothing.Goals as goal

pub returns-in-Seq-clause-nothing : goal.returns-in-Seq-clause-nothing
returns-in-Seq-clause-nothing c = λ names. seq_nothing names c.args.statement.now c.in-Seq.statements c.in-Seq.is c.is_empty.result c.is_empty.ensures

pub returns-in-Seq-clause-something : goal.returns-in-Seq-clause-something
returns-in-Seq-clause-something c = λ names. seq_something names c.args.statement.now c.in-Seq.statements c.in-Seq.is c.is_empty.result c.is_empty.ensures
