use Rattle.std.proofs.Common.{List, All, map, refl, sym, ap, subst, ◌∙◌, arith}
use Rattle.cal_ast.specs.Items.{TheAssignment, TheSignature, TheStatement, control_statements}
use Rattle.cal_ast.specs.Numbers.{CellHasNumbers, GroupHasNumbers, SetHasNumbers}
use Rattle.cal_ast.specs.Rules.{C1}
use Rattle.cal_ast.specs.Tree.{Assignment, Component, ControlSection, assignment_tree, cell_tree, group_tree}
use Rattle.cal_ast.specs.declared.tree.Assign.{Assign}
use Rattle.cal_ast.specs.declared.tree.CalCell.{CalCell}
use Rattle.cal_ast.specs.declared.tree.Group.{Group}
use Rattle.cal_place.specs.Around.{names_at}
use Rattle.cal_rules.specs.inside.Walks.{Passes, WalksOver}
use Rattle.cal_rules.specs.declared.walk.Walk.{Walk}
use Rattle.cal_rules.proofs.ComponentLemmas.{cell_part, end_told, ends_by_cells, ends_by_groups, ends_by_sets, ends_by_signature, group_part, set_part, signature_part, statement_part, to_cells, to_groups, to_sets, walk_told}
use Rattle.cal_rules.proofs.WalkLemmas.{Ends, ended, ends_later, passes_both, walks_on}
use Rattle.cal_rules.proofs.component.judge_component.Goals as goal

start : Walk
start = record { item = 0 }

pub judge_cells-requires-clause-new : goal.judge_cells-requires-clause-new
judge_cells-requires-clause-new c = (c.in_ok-pass.ensures c.args.place.now TheSignature c.at_signature.ensures).0 0 TheSignature (omega arith) 0 C1 (omega arith)

pub judge_cells-requires-clause-numbers : goal.judge_cells-requires-clause-numbers
judge_cells-requires-clause-numbers c =
    let A : List CalCell → Type 0 = All (CellHasNumbers (names_at c.args.place.now)) in
    subst A (sym c.deref.ensures.value) c.comp-comp.ensures.numbers.cells

pub judge_cells-requires-clause-are : goal.judge_cells-requires-clause-are
judge_cells-requires-clause-are c =
    ap (map (cell_tree (names_at c.args.place.now))) c.deref.ensures.value ∙ ap (λ (x : Component). x.cells) c.comp-comp.ensures.comp

pub judge_groups-requires-clause-numbers : goal.judge_groups-requires-clause-numbers
judge_groups-requires-clause-numbers c =
    let A : List Group → Type 0 = All (GroupHasNumbers (names_at c.args.place.now)) in
    subst A (sym c.deref-2.ensures.value) c.comp-comp.ensures.numbers.groups

pub judge_groups-requires-clause-are : goal.judge_groups-requires-clause-are
judge_groups-requires-clause-are c =
    ap (map (group_tree (names_at c.args.place.now))) c.deref-2.ensures.value ∙ ap (λ (x : Component). x.groups) c.comp-comp.ensures.comp

pub judge_sets-requires : goal.judge_sets-requires
judge_sets-requires c =
    let A : List Assign → Type 0 = All (SetHasNumbers (names_at c.args.place.now)) in
    subst A (sym c.deref-3.ensures.value) c.comp-comp.ensures.numbers.sets

pub returns-in_err-pass-clause-broken : goal.returns-in_err-pass-clause-broken
unfolding start
returns-in_err-pass-clause-broken c =
    let p = c.args.place.now in
    let end = c.in_err-pass.field-0.0 in
    end_told p start c.from_residual.result end refl c.from_residual.ensures.1
    (ends_by_signature p start end (ended p (Unit {0}) (signature_part p) start c.pass.new.self end (c.in_err-pass.ensures p TheSignature c.at_signature.ensures)))

pub returns-in_err-judge_cells-clause-broken : goal.returns-in_err-judge_cells-clause-broken
unfolding start
returns-in_err-judge_cells-clause-broken c =
    let p = c.args.place.now in
    let end = c.in_err-judge_cells.field-0.0 in
    let one = c.in_ok-pass.ensures p TheSignature c.at_signature.ensures in
    end_told p start c.from_residual-in_err-judge_cells.result end refl c.from_residual-in_err-judge_cells.ensures.1
    (ends_by_cells p start end (ends_later p (signature_part p) (cell_part p) start c.pass.new.self end one
    (ended p (Unit {0}) (cell_part p) c.pass.new.self c.judge_cells.new.walk end c.in_err-judge_cells.ensures)))

pub returns-in_err-judge_groups-clause-broken : goal.returns-in_err-judge_groups-clause-broken
unfolding start
returns-in_err-judge_groups-clause-broken c =
    let p = c.args.place.now in
    let end = c.in_err-judge_groups.field-0.0 in
    let one = c.in_ok-pass.ensures p TheSignature c.at_signature.ensures in
    let two = passes_both p (signature_part p) (cell_part p) start c.pass.new.self c.judge_cells.new.walk one c.in_ok-judge_cells.ensures in
    end_told p start c.from_residual-in_err-judge_groups.result end refl c.from_residual-in_err-judge_groups.ensures.1
    (ends_by_groups p start end (ends_later p (to_cells p) (group_part p) start c.judge_cells.new.walk end two
    (ended p (Unit {0}) (group_part p) c.judge_cells.new.walk c.judge_groups.new.walk end c.in_err-judge_groups.ensures)))

pub returns-in_err-judge_sets-clause-broken : goal.returns-in_err-judge_sets-clause-broken
unfolding start
returns-in_err-judge_sets-clause-broken c =
    let p = c.args.place.now in
    let end = c.in_err-judge_sets.field-0.0 in
    let tree = assignment_tree (names_at p) in
    let one = c.in_ok-pass.ensures p TheSignature c.at_signature.ensures in
    let two = passes_both p (signature_part p) (cell_part p) start c.pass.new.self c.judge_cells.new.walk one c.in_ok-judge_cells.ensures in
    let three = passes_both p (to_cells p) (group_part p) start c.judge_cells.new.walk c.judge_groups.new.walk two c.in_ok-judge_groups.ensures in
    let E : List Assignment → Type 0 = λ sets. Ends p (map TheAssignment sets) c.judge_groups.new.walk end in
    let same = ap (map tree) c.deref-3.ensures.value ∙ ap (λ (x : Component). x.sets) c.comp-comp.ensures.comp in
    let own = ended p (Unit {0}) (map TheAssignment (map tree c.deref-3.result.now)) c.judge_groups.new.walk c.judge_sets.new.walk end c.in_err-judge_sets.ensures in
    end_told p start c.from_residual-in_err-judge_sets.result end refl c.from_residual-in_err-judge_sets.ensures.1
    (ends_by_sets p start end (ends_later p (to_groups p) (set_part p) start c.judge_groups.new.walk end three (subst E same own)))

-- the whole walk, past the signature, the cells, the groups and the assignments, and then over the control statements
pub returns : goal.returns
unfolding start
returns c =
    let p = c.args.place.now in
    let tree = assignment_tree (names_at p) in
    let r = c.judge_control.result in
    let one = c.in_ok-pass.ensures p TheSignature c.at_signature.ensures in
    let two = passes_both p (signature_part p) (cell_part p) start c.pass.new.self c.judge_cells.new.walk one c.in_ok-judge_cells.ensures in
    let three = passes_both p (to_cells p) (group_part p) start c.judge_cells.new.walk c.judge_groups.new.walk two c.in_ok-judge_groups.ensures in
    let P : List Assignment → Type 0 = λ sets. Passes p (map TheAssignment sets) c.judge_groups.new.walk c.judge_sets.new.walk in
    let same = ap (map tree) c.deref-3.ensures.value ∙ ap (λ (x : Component). x.sets) c.comp-comp.ensures.comp in
    let four = passes_both p (to_groups p) (set_part p) start c.judge_groups.new.walk c.judge_sets.new.walk three (subst P same c.in_ok-judge_sets.ensures) in
    let W : ControlSection → Type 0 = λ part. WalksOver p (map TheStatement (control_statements part)) c.judge_sets.new.walk c.judge_control.new.walk r in
    let last = subst W (ap (λ (x : Component). x.control) c.comp-comp.ensures.comp) c.judge_control.ensures in
    let told = walk_told p start c.judge_control.new.walk r refl (walks_on p (to_sets p) (statement_part p) start c.judge_sets.new.walk c.judge_control.new.walk r four last) in
    record { kept = told.0; broken = told.1 }
