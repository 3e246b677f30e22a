use Rattle.std.proofs.Common.{List, All, subst, sym}
use Rattle.net_core.specs.Graph.{source_ports}
use Rattle.cal_ast.specs.Numbers.{InHasNumbers, StatementHasNumbers}
use Rattle.cal_ast.specs.Sides.{IsSource, StatementReads}
use Rattle.cal_ast.specs.Tree.{InBinding}
use Rattle.cal_ast.specs.declared.tree.Control.{Control}
use Rattle.cal_ast.specs.declared.tree.InBind.{InBind}
use Rattle.cal_place.specs.Around.{comp_at, design_at, names_at}
use Rattle.cal_rules.proofs.KindLemmas.{free_kind, ins_listed, tested_kind}
use Rattle.cal_rules.proofs.sides.statement_reads.Goals as goal

pub is_source-requires : goal.is_source-requires
is_source-requires c =
    let N : Control → Type 0 = StatementHasNumbers (names_at c.args.place.now) in
    (subst N c.in-If.is c.requires).0

pub is_source-requires-in-While : goal.is_source-requires-in-While
is_source-requires-in-While c =
    let N : Control → Type 0 = StatementHasNumbers (names_at c.args.place.now) in
    (subst N c.in-While.is c.requires).0

pub give_sources-requires : goal.give_sources-requires
give_sources-requires c =
    let names = names_at c.args.place.now in
    let N : Control → Type 0 = StatementHasNumbers names in
    subst (λ (bs : List InBind). All (InHasNumbers names) bs) (sym c.deref.ensures.value) (subst N c.in-Invoke.is c.requires).1

pub returns-in-If : goal.returns-in-If
returns-in-If c =
    let p = c.args.place.now in
    tested_kind (names_at p) (StatementReads (design_at p) (comp_at p)) c.args.statement.now _ c.is_source.result c.in-If.is
    (λ yes'. record { condition = c.is_source.ensures.0 yes'; invoke = tt }, λ reads. c.is_source.ensures.1 reads.condition)

pub returns-in-While : goal.returns-in-While
returns-in-While c =
    let p = c.args.place.now in
    tested_kind (names_at p) (StatementReads (design_at p) (comp_at p)) c.args.statement.now _ c.is_source-in-While.result c.in-While.is
    (λ yes'. record { condition = c.is_source-in-While.ensures.0 yes'; invoke = tt }, λ reads. c.is_source-in-While.ensures.1 reads.condition)

pub returns-in-Invoke : goal.returns-in-Invoke
returns-in-Invoke c =
    let p = c.args.place.now in
    let names = names_at p in
    let told = ins_listed names c.give_sources.result (All (λ (b : InBinding). All (IsSource (design_at p) (comp_at p)) (source_ports b.src))) c.in-Invoke.ins.items c.deref.result.now c.deref.ensures.value c.give_sources.ensures in
    tested_kind names (StatementReads (design_at p) (comp_at p)) c.args.statement.now _ c.give_sources.result c.in-Invoke.is
    (λ yes'. record { condition = tt; invoke = told.0 yes' }, λ reads. told.1 reads.invoke)

pub returns-in-Enable : goal.returns-in-Enable
returns-in-Enable c =
    let p = c.args.place.now in
    free_kind (names_at p) (StatementReads (design_at p) (comp_at p)) c.args.statement.now _ c.in-Enable.is (record { condition = tt; invoke = tt })

pub returns-in-Seq : goal.returns-in-Seq
returns-in-Seq c =
    let p = c.args.place.now in
    free_kind (names_at p) (StatementReads (design_at p) (comp_at p)) c.args.statement.now _ c.in-Seq.is (record { condition = tt; invoke = tt })

pub returns-in-Par : goal.returns-in-Par
returns-in-Par c =
    let p = c.args.place.now in
    free_kind (names_at p) (StatementReads (design_at p) (comp_at p)) c.args.statement.now _ c.in-Par.is (record { condition = tt; invoke = tt })
