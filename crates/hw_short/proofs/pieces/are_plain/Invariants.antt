use Rattle.std.proofs.Common.{take}
use Rattle.std.specs.Prelude.{All}
use Rattle.hw_short.specs.inside.ShortNames.{IsPlainPiece}
use Rattle.hw_short.proofs.pieces.are_plain.Given as goal

-- the pieces so far are plain
abbrev pub invariant-loop-piece : goal.invariant-loop-piece
invariant-loop-piece l = All (IsPlainPiece l.texts.all) (take l.piece-index l.pieces)
