use Rattle.std.proofs.Common.{map, sym, subst}
use Rattle.cal_ast.specs.Items.{TheStatement, control_statements}
use Rattle.cal_ast.specs.Tree.{control_tree}
use Rattle.cal_ast.specs.declared.tree.ControlPart.{ControlPart}
use Rattle.cal_place.specs.Around.{names_at}
use Rattle.cal_rules.specs.inside.Walks.{Passes, WalksOver}
use Rattle.cal_rules.proofs.WalkLemmas.{passes_none}
use Rattle.cal_rules.proofs.component.judge_control.Goals as goal

pub returns-in-Absent : goal.returns-in-Absent
returns-in-Absent c =
    let p = c.args.place.now in
    let walk = c.args.walk.now in
    let P : ControlPart → Type 0 = λ part. Passes p (map TheStatement (control_statements (control_tree (names_at p) part))) walk walk in
    subst P (sym c.in-Absent.is) (passes_none p walk)

pub returns-in-Empty : goal.returns-in-Empty
returns-in-Empty c =
    let p = c.args.place.now in
    let walk = c.args.walk.now in
    let P : ControlPart → Type 0 = λ part. Passes p (map TheStatement (control_statements (control_tree (names_at p) part))) walk walk in
    subst P (sym c.in-Empty.is) (passes_none p walk)

pub returns-in-Body : goal.returns-in-Body
returns-in-Body c =
    let p = c.args.place.now in
    let W : ControlPart → Type 0 = λ part. WalksOver p (map TheStatement (control_statements (control_tree (names_at p) part))) c.args.walk.now c.judge_statement.new.walk c.judge_statement.result in
    subst W (sym c.in-Body.is) c.judge_statement.ensures
