use Rattle.cal_lower.proofs.PushLemmas.{no_pieces}
use Rattle.cal_lower.proofs.pieces.Pieces.new.Goals as goal

pub returns : goal.returns
returns c = λ names. no_pieces names (record { cells = c.new.result; sets = c.new-2.result }) c.new.ensures.items c.new-2.ensures.items
