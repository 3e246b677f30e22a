use Rattle.std.proofs.Common.{refl, subst}
use Rattle.std.specs.Prelude.{All}
use Rattle.std.proofs.lemmas.List.{take_all}
use Rattle.std.proofs.lemmas.List.Elements.{All-more}
use Rattle.hw_short.specs.inside.ShortNames.{IsPlainPiece}
use Rattle.hw_short.proofs.pieces.are_plain.Goals as goal

pub is_plain-requires : goal.is_plain-requires
is_plain-requires c = c.requires c.loop-piece.piece-index _ c.loop-piece-test.true

pub loop-piece-preserved : goal.loop-piece-preserved
loop-piece-preserved c = All-more (IsPlainPiece c.args.texts.now.all) c.args.pieces.now c.loop-piece.piece-index _ c.loop-piece-test.true c.loop-piece.invariant (c.if-not-is_plain.ensures refl)

pub returns : goal.returns
returns c plain = subst (All (IsPlainPiece c.args.texts.now.all)) (take_all c.loop-piece.piece-index c.args.pieces.now c.loop-piece-test.false) c.loop-piece.invariant
