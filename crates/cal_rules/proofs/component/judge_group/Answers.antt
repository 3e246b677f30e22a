use Rattle.std.proofs.Common.{List, [], ◌∷◌, ◌++◌, All, map, take, sym, subst}
use Rattle.cal_ast.specs.Items.{TheAssignment, TheDone, TheGroup, each}
use Rattle.cal_ast.specs.Numbers.{SetHasNumbers}
use Rattle.cal_ast.specs.Tree.{assignment_tree, group_tree}
use Rattle.cal_ast.specs.declared.tree.Assign.{Assign}
use Rattle.cal_place.specs.Around.{comp_at, names_at}
use Rattle.cal_rules.specs.inside.Walks.{Passes}
use Rattle.cal_rules.proofs.WalkLemmas.{Ends, ended, ends_later, ends_sooner, passes_both, walk_passed, walks_on}
use Rattle.cal_rules.proofs.component.judge_group.Goals as goal

pub judge_sets-requires : goal.judge_sets-requires
judge_sets-requires c =
    let A : List Assign → Type 0 = All (SetHasNumbers (names_at c.args.place.now)) in
    subst A (sym c.deref.ensures.value) c.requires.numbers.sets

pub returns-in_err-pass : goal.returns-in_err-pass
returns-in_err-pass c =
    let p = c.args.place.now in
    let old = c.args.walk.now in
    let g = group_tree (names_at p) c.args.group.now in
    let header = TheGroup (take c.args.number (comp_at p).groups) g in
    let sets = map TheAssignment g.sets in
    let end = c.in_err-pass.field-0.0 in
    walk_passed p ((header ∷ sets) ++ each (TheDone g) g.dones) old c.pass.new.self c.from_residual.result end c.from_residual.ensures.1
    (ends_sooner p (header ∷ sets) (each (TheDone g) g.dones) old end
    (ends_sooner p (header ∷ []) sets old end (ended p (Unit {0}) (header ∷ []) old c.pass.new.self end (c.in_err-pass.ensures p header c.at_group.ensures))))

pub returns-in_err-judge_sets : goal.returns-in_err-judge_sets
returns-in_err-judge_sets c =
    let p = c.args.place.now in
    let old = c.args.walk.now in
    let mid = c.pass.new.self in
    let tree = assignment_tree (names_at p) in
    let g = group_tree (names_at p) c.args.group.now in
    let header = TheGroup (take c.args.number (comp_at p).groups) g in
    let sets = map TheAssignment g.sets in
    let end = c.in_err-judge_sets.field-0.0 in
    let E : List Assign → Type 0 = λ l. Ends p (map TheAssignment (map tree l)) mid end in
    let first = ended p (Unit {0}) (map TheAssignment (map tree c.deref.result.now)) mid c.judge_sets.new.walk end c.in_err-judge_sets.ensures in
    walk_passed p ((header ∷ sets) ++ each (TheDone g) g.dones) old c.judge_sets.new.walk c.from_residual-in_err-judge_sets.result end c.from_residual-in_err-judge_sets.ensures.1
    (ends_sooner p (header ∷ sets) (each (TheDone g) g.dones) old end
    (ends_later p (header ∷ []) sets old mid end (c.in_ok-pass.ensures p header c.at_group.ensures) (subst E c.deref.ensures.value first)))

pub returns : goal.returns
returns c =
    let p = c.args.place.now in
    let old = c.args.walk.now in
    let mid = c.pass.new.self in
    let tree = assignment_tree (names_at p) in
    let g = group_tree (names_at p) c.args.group.now in
    let header = TheGroup (take c.args.number (comp_at p).groups) g in
    let sets = map TheAssignment g.sets in
    let P : List Assign → Type 0 = λ l. Passes p (map TheAssignment (map tree l)) mid c.judge_sets.new.walk in
    let past = passes_both p (header ∷ []) sets old mid c.judge_sets.new.walk (c.in_ok-pass.ensures p header c.at_group.ensures) (subst P c.deref.ensures.value c.in_ok-judge_sets.ensures) in
    walks_on p (header ∷ sets) (each (TheDone g) g.dones) old c.judge_sets.new.walk c.judge_dones.new.walk c.judge_dones.result past c.judge_dones.ensures
