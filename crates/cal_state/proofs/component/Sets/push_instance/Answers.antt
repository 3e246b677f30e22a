use Rattle.std.proofs.Common.{◌≡◌, List, [], ◌∷◌, ◌++◌, None, codes, refl, ◌∙◌, append_assoc}
use Rattle.std.specs.Prelude.{flat_map}
use Rattle.std.proofs.lemmas.Result.{on_ok_weaker}
use Rattle.cal_ast.specs.Tree.{Assignment}
use Rattle.cal_lower.specs.inside.Lowered.{control_ends, instance_pieces, start_guard}
use Rattle.cal_lower.specs.inside.Making as making
use Rattle.cal_lower.specs.inside.Pieces.{Piece, Register, Wire, busy_name, over_name, piece, piece_set, piece_sets, start_name}
use Rattle.cal_state.specs.inside.Encoded.{busy_guard, instance_wires, over_set, over_state}
use Rattle.cal_state.specs.inside.States.{is_in}
use Rattle.cal_state.proofs.EncodingLoopLemmas.{encoding_same}
use Rattle.cal_state.proofs.component.Sets.push_instance.Goals as goal

pub returns : goal.returns
returns c = λ names plan sets left are count busy over shows.
    let start = piece Wire start_name start_guard in
    let runs = piece Register busy_name (making.busy_guard plan) in
    let ends = piece Register over_name (control_ends plan) in
    let s = piece_set start in
    let b = piece_set (piece Wire busy_name (busy_guard plan)) in
    let o = piece_set (piece Wire over_name (is_in (over_state plan))) in
    let all = c.in_ok-stay_all.ensures names sets (flat_map piece_sets (instance_pieces plan) ++ left) [] [] count shows in
    let one = c.in_ok-stay.ensures names s (piece_sets runs ++ (piece_sets ends ++ left)) sets [] all in
    let (_drove, two) = c.in_ok-_runs.ensures names runs (busy_guard plan) (piece_sets ends ++ left) (sets ++ s ∷ []) [] refl busy one in
    let three = c.hold.ensures names ends (over_state plan) left ((sets ++ s ∷ []) ++ b ∷ []) [] are refl over two in
    let same : ((sets ++ s ∷ []) ++ b ∷ []) ++ o ∷ [] ≡ sets ++ flat_map piece_sets (instance_wires plan) =
    append_assoc (sets ++ s ∷ []) (b ∷ []) (o ∷ []) ∙ append_assoc sets (s ∷ []) (b ∷ o ∷ []) in
    on_ok_weaker c.hold.result
    (λ h. encoding_same names left left (((sets ++ s ∷ []) ++ b ∷ []) ++ o ∷ []) (sets ++ flat_map piece_sets (instance_wires plan)) (over_set plan ∷ []) (over_set plan ∷ []) c.hold.new.self refl same refl h)
    three
