use Rattle.std.proofs.Common.{◌++◌, List, [], ◌∷◌, All, OnOk, map, sym, subst}
use Rattle.std.proofs.lemmas.Result.{on_ok_weaker}
use Rattle.hw_names.proofs.NameLemmas.{text_of-KeepsTexts}
use Rattle.hw_names.specs.Name.{text_of}
use Rattle.cal_ast.specs.Numbers.{DoneHasNumbers}
use Rattle.cal_ast.specs.Tree.{done_tree, group_tree}
use Rattle.cal_ast.specs.declared.tree.DoneSet.{DoneSet}
use Rattle.cal_lower.specs.inside.Lowered.{acts_guard, done_wire}
use Rattle.cal_lower.specs.inside.Pieces.{Piece, Wire, acts_name}
use Rattle.cal_lower.specs.inside.Shown.{ShowsPieces, driven, one_when}
use Rattle.cal_lower.proofs.GroupPieceLemmas.{can_group_later, group_number, group_whole}
use Rattle.cal_lower.proofs.GrownLemmas.{pieces_kept}
use Rattle.cal_lower.proofs.StableLemmas.{KeepsTexts-trans}
use Rattle.cal_lower.proofs.groups.push_group.Goals as goal

pub push-requires-clause-number : goal.push-requires-clause-number
push-requires-clause-number c =
    let (source, plan, can) = c.requires.group in
    let old = c.args.labels.now in
    let mid = c.acts_guard.new.labels in
    group_number source mid.names plan c.args.acts.now c.args.group.now (can_group_later source old.names mid.names plan c.args.acts.now c.args.group.now c.acts_guard.ensures.kept.names can)

pub returns-clause-pushed : goal.returns-clause-pushed
returns-clause-pushed c = λ source plan list can shows.
    let group = c.args.group.now in
    let old = c.args.labels.now.names in
    let mid = c.acts_guard.new.labels.names in
    let after = c.push.new.labels.names in
    let last = c.push_dones.new.labels.names in
    let tree = acts_guard plan (group_tree source group) in
    let to_mid = KeepsTexts-trans source old mid can.kept c.acts_guard.ensures.kept.names in
    let to_after = KeepsTexts-trans source mid after to_mid c.push.ensures.kept.names in
    let drive = c.one_when.ensures mid tree (c.in_ok-guard.ensures.guard source plan can) in
    let wire : Piece = driven Wire (acts_name (text_of mid group.name)) (one_when tree) in
    let first = c.in_ok-push.ensures.pushed list (one_when tree) (pieces_kept old mid list c.args.pieces.now c.acts_guard.ensures.kept.names shows) drive in
    let D : List DoneSet → Type 0 = All (DoneHasNumbers source) in
    let Q : List DoneSet → Type 0 = λ ds. OnOk c.push_dones.result (ShowsPieces last ((list ++ wire ∷ []) ++ map done_wire (map (done_tree source) ds)) c.push_dones.new.pieces) in
    let dones = subst Q c.deref.ensures.value (c.push_dones.ensures.pushed source (list ++ wire ∷ []) to_after (subst D (sym c.deref.ensures.value) can.numbers.dones) first) in
    on_ok_weaker c.push_dones.result
    (λ shown. group_whole source plan list last group (text_of mid group.name) c.push_dones.new.pieces (text_of-KeepsTexts source mid group.name to_mid can.numbers.name) shown) dones
