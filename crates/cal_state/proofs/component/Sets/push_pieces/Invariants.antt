use Rattle.std.proofs.Common.{List, ◌++◌, drop}
use Rattle.std.specs.Prelude.{flat_map}
use Rattle.std.specs.List.{AllZip}
use Rattle.hw_names.specs.Name.{Text}
use Rattle.cal_ast.specs.Tree.{Assignment}
use Rattle.cal_lower.specs.inside.Pieces.{Piece, piece_sets}
use Rattle.cal_state.specs.inside.Making.{AreTexts, HasKind, ShowsEncoding, ShowsPlace}
use Rattle.cal_state.specs.inside.States.{all_next_sets, as_wires}
use Rattle.cal_state.specs.inside.Threads.{Place}
use Rattle.cal_state.proofs.EncodingLoopLemmas.{PiecesSoFar}
use Rattle.cal_state.proofs.component.Sets.push_pieces.Given as goal

abbrev pub invariant-loop-place : goal.invariant-loop-place
invariant-loop-place l = (names : List Text) (pieces : List Piece) (trees : List Place) (left wires states : List Assignment) → AreTexts names l.texts → AllZip HasKind trees pieces
    → AllZip (ShowsPlace names) trees l.places → ShowsEncoding names (record { left = flat_map piece_sets pieces ++ left; wires = wires; states = states }) l.initial.self
    → PiecesSoFar names left (wires ++ flat_map piece_sets (as_wires pieces trees)) (states ++ all_next_sets pieces trees) l.self (drop l.place-index l.places)
