use Rattle.std.proofs.Common.{◌+◌, ◌++◌, None, drop, get_or}
use Rattle.std.specs.Prelude.{flat_map}
use Rattle.std.proofs.lemmas.List.{drop_all, drop_more}
use Rattle.cal_lower.specs.inside.Pieces.{piece_sets}
use Rattle.cal_state.specs.inside.States.{all_next_sets, as_wires}
use Rattle.cal_state.proofs.EncodingLoopLemmas.{pieces_end, pieces_next}
use Rattle.cal_state.proofs.component.Sets.push_pieces.Goals as goal

pub loop-place-preserved : goal.loop-place-preserved
loop-place-preserved c = λ names pieces trees left wires states are kinds places shows.
    let xs = c.args.places.now in
    let i = c.loop-place.place-index in
    pieces_next names left (wires ++ flat_map piece_sets (as_wires pieces trees)) (states ++ all_next_sets pieces trees) c.loop-place.self c.push_piece.new.self
    (drop i xs) (drop (i + 1) xs) (get_or xs i None) (drop_more xs i None c.loop-place-test.true) (c.loop-place.invariant names pieces trees left wires states are kinds places shows)
    (λ p x l w s k h e. c.in_ok-push_piece.ensures names p x l w s are k h e)

pub returns : goal.returns
returns c = λ names pieces trees left wires states are kinds places shows.
    let xs = c.args.places.now in
    let i = c.loop-place.place-index in
    pieces_end names left (wires ++ flat_map piece_sets (as_wires pieces trees)) (states ++ all_next_sets pieces trees) c.loop-place.self (drop i xs)
    (drop_all i xs c.loop-place-test.false) (c.loop-place.invariant names pieces trees left wires states are kinds places shows)
