use Rattle.std.proofs.Common.{List, All, subst, sym}
use Rattle.hw_names.specs.Name.{text_of}
use Rattle.cal_ast.specs.Naming.{InvokeNamesKnown, StatementNamesKnown}
use Rattle.cal_ast.specs.Numbers.{InHasNumbers, OutHasNumbers, StatementHasNumbers}
use Rattle.cal_ast.specs.declared.tree.Control.{Control}
use Rattle.cal_ast.specs.declared.tree.InBind.{InBind}
use Rattle.cal_ast.specs.declared.tree.OutBind.{OutBind}
use Rattle.cal_place.specs.Around.{comp_at, design_at, names_at}
use Rattle.cal_rules.proofs.KindLemmas.{binds_listed, free_kind, tested_kind}
use Rattle.cal_rules.proofs.naming.statement_names_known.Goals as goal

pub is_known-requires : goal.is_known-requires
is_known-requires c =
    let N : Control → Type 0 = StatementHasNumbers (names_at c.args.place.now) in
    (subst N c.in-If.is c.requires).0

pub is_known-requires-in-While : goal.is_known-requires-in-While
is_known-requires-in-While c =
    let N : Control → Type 0 = StatementHasNumbers (names_at c.args.place.now) in
    (subst N c.in-While.is c.requires).0

pub invoke_names_known-requires-clause-cell : goal.invoke_names_known-requires-clause-cell
invoke_names_known-requires-clause-cell c =
    let N : Control → Type 0 = StatementHasNumbers (names_at c.args.place.now) in
    (subst N c.in-Invoke.is c.requires).0

pub invoke_names_known-requires-clause-ins : goal.invoke_names_known-requires-clause-ins
invoke_names_known-requires-clause-ins c =
    let names = names_at c.args.place.now in
    let N : Control → Type 0 = StatementHasNumbers names in
    subst (λ (bs : List InBind). All (InHasNumbers names) bs) (sym c.deref.ensures.value) (subst N c.in-Invoke.is c.requires).1

pub invoke_names_known-requires-clause-outs : goal.invoke_names_known-requires-clause-outs
invoke_names_known-requires-clause-outs c =
    let names = names_at c.args.place.now in
    let N : Control → Type 0 = StatementHasNumbers names in
    subst (λ (bs : List OutBind). All (OutHasNumbers names) bs) (sym c.deref-in-Invoke.ensures.value) (subst N c.in-Invoke.is c.requires).2

pub returns-in-If : goal.returns-in-If
returns-in-If c =
    let p = c.args.place.now in
    tested_kind (names_at p) (StatementNamesKnown (design_at p) (comp_at p)) c.args.statement.now _ c.is_known.result c.in-If.is
    (λ yes'. record { condition = c.is_known.ensures.0 yes'; invoke = tt }, λ known. c.is_known.ensures.1 known.condition)

pub returns-in-While : goal.returns-in-While
returns-in-While c =
    let p = c.args.place.now in
    tested_kind (names_at p) (StatementNamesKnown (design_at p) (comp_at p)) c.args.statement.now _ c.is_known-in-While.result c.in-While.is
    (λ yes'. record { condition = c.is_known-in-While.ensures.0 yes'; invoke = tt }, λ known. c.is_known-in-While.ensures.1 known.condition)

pub returns-in-Invoke : goal.returns-in-Invoke
returns-in-Invoke c =
    let p = c.args.place.now in
    let names = names_at p in
    let told = binds_listed names c.invoke_names_known.result (InvokeNamesKnown (design_at p) (comp_at p) (text_of names c.in-Invoke.cell)) c.in-Invoke.ins.items c.deref.result.now c.in-Invoke.outs.items c.deref-in-Invoke.result.now
    c.deref.ensures.value c.deref-in-Invoke.ensures.value c.invoke_names_known.ensures in
    tested_kind names (StatementNamesKnown (design_at p) (comp_at p)) c.args.statement.now _ c.invoke_names_known.result c.in-Invoke.is
    (λ yes'. record { condition = tt; invoke = told.0 yes' }, λ known. told.1 known.invoke)

pub returns-in-Enable : goal.returns-in-Enable
returns-in-Enable c =
    let p = c.args.place.now in
    free_kind (names_at p) (StatementNamesKnown (design_at p) (comp_at p)) c.args.statement.now _ c.in-Enable.is (record { condition = tt; invoke = tt })

pub returns-in-Seq : goal.returns-in-Seq
returns-in-Seq c =
    let p = c.args.place.now in
    free_kind (names_at p) (StatementNamesKnown (design_at p) (comp_at p)) c.args.statement.now _ c.in-Seq.is (record { condition = tt; invoke = tt })

pub returns-in-Par : goal.returns-in-Par
returns-in-Par c =
    let p = c.args.place.now in
    free_kind (names_at p) (StatementNamesKnown (design_at p) (comp_at p)) c.args.statement.now _ c.in-Par.is (record { condition = tt; invoke = tt })
