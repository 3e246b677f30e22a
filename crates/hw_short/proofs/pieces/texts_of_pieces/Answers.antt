use Rattle.std.proofs.Common.{◌++◌, ◌∷◌, [], ℕ, List, Vec, Global, map, sym, ap, ap₂, ◌∙◌}
use Rattle.std.proofs.lemmas.List.{map-append, map_more, take_all}
use Rattle.hw_names.specs.Name.{Text}
use Rattle.hw_short.specs.inside.ShortNames.{piece_text}
use Rattle.hw_short.proofs.pieces.texts_of_pieces.Goals as goal

abbrev bytes : Vec ℕ Global → Text
bytes t = t.items

pub text_of_piece-requires : goal.text_of_piece-requires
text_of_piece-requires c = c.requires c.loop-piece.piece-index _ c.loop-piece-test.true

pub loop-piece-preserved : goal.loop-piece-preserved
loop-piece-preserved c =
    let made = c.loop-piece.made.items in
    let text = c.in_ok-text_of_piece.field-0 in
    let said = piece_text c.args.texts.now.all in
    let pieces = c.args.pieces.now in
    ap (map bytes) c.in_ok-push.ensures.items
    ∙ map-append bytes made (text ∷ [])
    ∙ ap₂ (λ (l : List Text) (t : Text). l ++ t ∷ []) c.loop-piece.invariant c.in_ok-text_of_piece.ensures
    ∙ sym (map_more said pieces c.loop-piece.piece-index _ c.loop-piece-test.true)

pub returns : goal.returns
returns c = c.loop-piece.invariant ∙ ap (map (piece_text c.args.texts.now.all)) (take_all c.loop-piece.piece-index c.args.pieces.now c.loop-piece-test.false)
