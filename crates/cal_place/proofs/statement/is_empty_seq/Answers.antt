use Rattle.cal_place.proofs.BranchLemmas.{seq_told}
use Rattle.cal_place.proofs.statement.is_empty_seq.Goals as goal

pub returns-in-Seq : goal.returns-in-Seq
returns-in-Seq c = λ names rest. seq_told names rest c.args.statement.now c.in-Seq.list c.is_empty.result c.in-Seq.is c.is_empty.ensures
