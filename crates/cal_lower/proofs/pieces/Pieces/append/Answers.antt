use Rattle.cal_lower.proofs.PushLemmas.{more_pieces}
use Rattle.cal_lower.proofs.pieces.Pieces.append.Goals as goal

pub returns : goal.returns
returns c = λ names list more first second.
    more_pieces names list more c.args.self.now c.args.others (record { cells = c.append.new.self; sets = c.append-2.new.self }) first second c.in_ok-append.ensures.items c.in_ok-append-2.ensures.items
