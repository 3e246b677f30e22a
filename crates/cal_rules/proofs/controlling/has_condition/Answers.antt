use Rattle.std.proofs.Common.{subst}
use Rattle.cal_ast.specs.Controlling.{HasCondition}
use Rattle.cal_ast.specs.Numbers.{StatementHasNumbers}
use Rattle.cal_ast.specs.declared.tree.Control.{Control}
use Rattle.cal_place.specs.Around.{comp_at, design_at, names_at}
use Rattle.cal_rules.proofs.KindLemmas.{tested_kind}
use Rattle.cal_rules.proofs.controlling.has_condition.Goals as goal

pub is_condition-requires-clause-port : goal.is_condition-requires-clause-port
is_condition-requires-clause-port c =
    let N : Control → Type 0 = StatementHasNumbers (names_at c.args.place.now) in
    (subst N c.in-If.is c.requires).0

pub is_condition-requires-clause-by : goal.is_condition-requires-clause-by
is_condition-requires-clause-by c =
    let N : Control → Type 0 = StatementHasNumbers (names_at c.args.place.now) in
    (subst N c.in-If.is c.requires).1

pub is_condition-requires-in-While-clause-port : goal.is_condition-requires-in-While-clause-port
is_condition-requires-in-While-clause-port c =
    let N : Control → Type 0 = StatementHasNumbers (names_at c.args.place.now) in
    (subst N c.in-While.is c.requires).0

pub is_condition-requires-in-While-clause-by : goal.is_condition-requires-in-While-clause-by
is_condition-requires-in-While-clause-by c =
    let N : Control → Type 0 = StatementHasNumbers (names_at c.args.place.now) in
    (subst N c.in-While.is c.requires).1

pub returns-in-If : goal.returns-in-If
returns-in-If c =
    let p = c.args.place.now in
    tested_kind (names_at p) (HasCondition (design_at p) (comp_at p)) c.args.statement.now _ c.is_condition.result c.in-If.is c.is_condition.ensures

pub returns-in-While : goal.returns-in-While
returns-in-While c =
    let p = c.args.place.now in
    tested_kind (names_at p) (HasCondition (design_at p) (comp_at p)) c.args.statement.now _ c.is_condition-in-While.result c.in-While.is c.is_condition-in-While.ensures
