use Rattle.std.proofs.Common.{◌≡◌, ◌++◌, take}
use Rattle.ver_print.specs.inside.Pieces.{pieces_text}
use Rattle.ver_print.proofs.pieces.put_pieces.Given as goal

abbrev pub invariant-loop-piece : goal.invariant-loop-piece
invariant-loop-piece l = l.out.items ≡ l.initial.out.items ++ pieces_text l.cell (take l.piece-index l.pieces)
