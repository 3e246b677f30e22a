use Rattle.std.proofs.Common.{◌++◌, List, [], ◌∷◌, OnOk, subst}
use Rattle.cal_ast.specs.Plan.{section_plan}
use Rattle.cal_ast.specs.Tree.{control_tree}
use Rattle.cal_lower.specs.inside.Lowered.{control_ends, start_guard}
use Rattle.cal_lower.specs.inside.Making.{busy_guard}
use Rattle.cal_lower.specs.inside.Pieces.{Piece, Register, Wire, busy_name, over_name, piece, start_name}
use Rattle.cal_lower.specs.inside.Shown.{ShowsPieces, one_when}
use Rattle.cal_lower.proofs.GrownLemmas.{labels_texts, pieces_kept}
use Rattle.cal_lower.proofs.InstanceLemmas.{labels_in_three, three_more}
use Rattle.cal_lower.proofs.instance.push_instance.Goals as goal

pub push-requires-3-clause-texts : goal.push-requires-3-clause-texts
push-requires-3-clause-texts c =
    let first = labels_in_three c.args.labels.now c.start_guard.new.labels c.push.new.labels c.busy_guard.new.labels c.start_guard.ensures.kept c.push.ensures.kept c.busy_guard.ensures.kept in
    let kept = labels_in_three c.args.labels.now c.busy_guard.new.labels c.push-2.new.labels c.control_ends.new.labels first c.push-2.ensures.kept c.control_ends.ensures.kept in
    labels_texts c.args.labels.now c.control_ends.new.labels kept c.requires

pub returns-clause-pushed : goal.returns-clause-pushed
returns-clause-pushed c = λ source item list shows.
    let plan = section_plan item (control_tree source c.args.control.now) in
    let one = c.start_guard.new.labels.names in
    let two = c.push.new.labels.names in
    let three = c.busy_guard.new.labels.names in
    let four = c.push-2.new.labels.names in
    let five = c.control_ends.new.labels.names in
    let starts : Piece = piece Wire start_name start_guard in
    let runs : Piece = piece Register busy_name (busy_guard plan) in
    let ends : Piece = piece Register over_name (control_ends plan) in
    let start_drive = c.one_when-starts.ensures one start_guard c.in_ok-start_guard.ensures.guard in
    let run_drive = c.one_when-runs.ensures three (busy_guard plan) (c.in_ok-busy_guard.ensures.guard source item) in
    let end_drive = c.one_when-ends.ensures five (control_ends plan) (c.in_ok-control_ends.ensures.guard source item) in
    let first = c.in_ok-push.ensures.pushed list (one_when start_guard) (pieces_kept c.args.labels.now.names one list c.args.pieces.now c.start_guard.ensures.kept.names shows) start_drive in
    let second = c.in_ok-push-2.ensures.pushed (list ++ starts ∷ []) (one_when (busy_guard plan)) (pieces_kept two three (list ++ starts ∷ []) c.push.new.self c.busy_guard.ensures.kept.names first) run_drive in
    let so_far = (list ++ starts ∷ []) ++ runs ∷ [] in
    let third = c.push-3.ensures.pushed so_far (one_when (control_ends plan)) (pieces_kept four five so_far c.push-2.new.self c.control_ends.ensures.kept.names second) end_drive in
    let P : List Piece → Type 0 = λ l. OnOk c.push-3.result (ShowsPieces c.push-3.new.labels.names l c.push-3.new.self) in
    subst P (three_more list starts runs ends) third
