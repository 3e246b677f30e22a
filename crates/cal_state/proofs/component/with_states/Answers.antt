use Rattle.std.proofs.Common.{◌≡◌, List, [], ◌∷◌, ◌++◌, length, map, Option, sym, subst, ◌∙◌}
use Rattle.std.specs.Prelude.{flat_map}
use Rattle.std.specs.List.{AllZip}
use Rattle.std.proofs.lemmas.List.{length-map}
use Rattle.cal_ast.specs.Items.{items_before_control}
use Rattle.cal_ast.specs.Numbers.{CellHasNumbers}
use Rattle.cal_ast.specs.Plan.{plan_of}
use Rattle.cal_ast.specs.Tree.{Assignment, CellDef, assignment_tree, cell_tree, component_tree}
use Rattle.cal_ast.specs.declared.tree.Group.{Group}
use Rattle.cal_lower.specs.inside.Lowered.{control_pieces, done_set, instance_pieces, plan_pieces, with_registers}
use Rattle.cal_lower.specs.inside.Pieces.{piece_cell, piece_sets}
use Rattle.cal_lower.specs.inside.Shown.{ShowAll}
use Rattle.cal_lower.proofs.StableLemmas.{KeepsTexts-trans}
use Rattle.cal_state.specs.inside.Encoded.{instance_wires, over_set, with_states}
use Rattle.cal_state.specs.inside.Making.{ShowSets, ShowsEncoding, ShowsPlace}
use Rattle.cal_state.specs.inside.States.{all_next_sets, as_wires, thread_cell, thread_enable}
use Rattle.cal_state.specs.inside.Threads.{plan_places, threads}
use Rattle.cal_state.specs.declared.threads.State as state
use Rattle.cal_state.proofs.EncodingLoopLemmas.{groups_sets}
use Rattle.cal_state.proofs.MadeLemmas.{texts_kept}
use Rattle.cal_state.proofs.WholeLemmas.{bits_cells, bits_sets, component_encoded, control_wires, plan_kinds, plan_part, sets_made, sets_order, states_part}
use Rattle.cal_state.proofs.component.with_states.Goals as goal

pub returns-in_err-cells-clause-kept : goal.returns-in_err-cells-clause-kept
returns-in_err-cells-clause-kept c = KeepsTexts-trans c.args.names.now c.of.new.names c.places_of.new.names c.of.ensures.kept c.places_of.ensures.kept

pub returns-in_err-push_instance-clause-kept : goal.returns-in_err-push_instance-clause-kept
returns-in_err-push_instance-clause-kept c = KeepsTexts-trans c.args.names.now c.of.new.names c.places_of.new.names c.of.ensures.kept c.places_of.ensures.kept

pub returns-in_err-push_groups-clause-kept : goal.returns-in_err-push_groups-clause-kept
returns-in_err-push_groups-clause-kept c = KeepsTexts-trans c.args.names.now c.of.new.names c.places_of.new.names c.of.ensures.kept c.places_of.ensures.kept

pub returns-in_err-push_pieces-clause-kept : goal.returns-in_err-push_pieces-clause-kept
returns-in_err-push_pieces-clause-kept c = KeepsTexts-trans c.args.names.now c.of.new.names c.places_of.new.names c.of.ensures.kept c.places_of.ensures.kept

pub returns-in_err-sets-clause-kept : goal.returns-in_err-sets-clause-kept
returns-in_err-sets-clause-kept c = KeepsTexts-trans c.args.names.now c.of.new.names c.places_of.new.names c.of.ensures.kept c.places_of.ensures.kept

pub returns-clause-kept : goal.returns-clause-kept
returns-clause-kept c = KeepsTexts-trans c.args.names.now c.of.new.names c.places_of.new.names c.of.ensures.kept c.places_of.ensures.kept

pub returns-clause-encoded : goal.returns-clause-encoded
returns-clause-encoded c = λ texts shows.
    let source = c.args.source.now in
    let bits = c.args.bits in
    let tree = component_tree texts source in
    let plan = plan_of tree in
    let n0 = c.args.names.now in
    let n1 = c.of.new.names in
    let n2 = c.places_of.new.names in
    let kept = KeepsTexts-trans n0 n1 n2 c.of.ensures.kept c.places_of.ensures.kept in
    let are = texts_kept n1 n2 c.places_of.ensures.kept c.in_ok-texts.texts c.in_ok-texts.ensures.texts in
    let control = c.in_ok-control.ensures.made texts (length (items_before_control tree)) c.in_ok-texts.ensures.texts in
    let places = control.places in
    let registers = places.registers in
    let busy = c.in_ok-busy.ensures n2 plan are registers.on in
    let own : length tree.cells ≡ c.len-own.result = length-map source.cells.items (cell_tree texts) ∙ sym source.cells.ok.0 ∙ sym c.len-own.ensures in
    let count : length tree.sets ≡ c.len.result = length-map source.sets.items (assignment_tree texts) ∙ sym source.sets.ok.0 ∙ sym c.len.ensures in
    let C : List CellDef → Type 0 = λ l. ShowAll CellHasNumbers cell_tree n2 (tree.cells ++ l ++ map thread_cell (threads plan)) c.in_ok-cells.cells.items in
    let cells = subst C (control_wires tree)
    (c.in_ok-cells.ensures n2 tree.cells (map piece_cell (control_pieces tree)) (map thread_cell (threads plan)) own are.wire (bits_cells tree n0 n2 kept bits (with_registers tree) shows) registers.cells) in
    let groups = source.groups.items in
    let G : List Assignment = groups_sets texts plan groups in
    let P : List Assignment = plan_part tree in
    let wires = tree.sets ++ flat_map piece_sets (instance_wires plan) in
    let S : List Assignment → Type 0 = λ l. ShowSets n2 l bits.sets.items in
    let start = c.of-parts.ensures n2 (tree.sets ++ (flat_map piece_sets (instance_pieces plan) ++ (G ++ (P ++ done_set ∷ [])))) (subst S (sets_order tree) (bits_sets tree n0 n2 kept bits (with_registers tree) shows)) in
    let first = c.in_ok-push_instance.ensures n2 plan tree.sets (G ++ (P ++ done_set ∷ [])) are count busy control.over start in
    let A : List Group → Type 0 = λ gs. ShowsEncoding n2 (record { left = groups_sets texts plan gs ++ (P ++ done_set ∷ []); wires = wires; states = over_set plan ∷ [] }) c.push_instance.new.self in
    let B : List Group → Type 0 = λ gs. ShowsEncoding n2 (record { left = P ++ done_set ∷ []; wires = wires ++ groups_sets texts plan gs; states = over_set plan ∷ [] }) c.push_groups.new.self in
    let second = subst B c.deref.ensures.value
    (c.in_ok-push_groups.ensures n2 texts plan (P ++ done_set ∷ []) wires (over_set plan ∷ []) (subst A (sym c.deref.ensures.value) first)) in
    let Z : List (Option state.State) → Type 0 = AllZip (ShowsPlace n2) (plan_places plan) in
    let third = c.in_ok-push_pieces.ensures n2 (plan_pieces plan) (plan_places plan) (done_set ∷ []) (wires ++ G) (over_set plan ∷ []) are (plan_kinds plan)
    (subst Z (sym c.deref-2.ensures.value) places.pieces) second in
    let last = c.in_ok-sets.ensures n2 done_set ((wires ++ G) ++ states_part tree) (over_set plan ∷ [] ++ all_next_sets (plan_pieces plan) (plan_places plan)) (map thread_enable (threads plan)) third registers.enables in
    let F : List Assignment → Type 0 = λ l. ShowSets n2 l c.in_ok-sets.sets.items in
    component_encoded tree n0 n2 kept bits c.in_ok-cells.cells c.in_ok-sets.sets shows cells (subst F (sets_made tree) last)
