use Rattle.std.proofs.Common.{◌≡◌, ℕ, Vec, Global, map, take}
use Rattle.hw_short.specs.inside.ShortNames.{piece_text}
use Rattle.hw_short.proofs.pieces.texts_of_pieces.Given as goal

-- the texts of the pieces so far
abbrev pub invariant-loop-piece : goal.invariant-loop-piece
invariant-loop-piece l = map (λ (t : Vec ℕ Global). t.items) l.made.items ≡ map (piece_text l.texts.all) (take l.piece-index l.pieces)
