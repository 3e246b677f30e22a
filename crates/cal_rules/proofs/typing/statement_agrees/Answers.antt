use Rattle.std.proofs.Common.{List, All, subst, sym}
use Rattle.hw_names.specs.Name.{text_of}
use Rattle.cal_ast.specs.Numbers.{InHasNumbers, OutHasNumbers, StatementHasNumbers}
use Rattle.cal_ast.specs.Tree.{in_tree, out_tree}
use Rattle.cal_ast.specs.Typing.{InAgrees, OutAgrees, StatementAgrees}
use Rattle.cal_ast.specs.declared.tree.Control.{Control}
use Rattle.cal_ast.specs.declared.tree.InBind.{InBind}
use Rattle.cal_ast.specs.declared.tree.OutBind.{OutBind}
use Rattle.std.proofs.Common.{map}
use Rattle.cal_place.specs.Around.{comp_at, design_at, names_at}
use Rattle.cal_rules.proofs.KindLemmas.{ins_listed, outs_listed, tested_kind}
use Rattle.cal_rules.proofs.TestLemmas.{both_parts, first_fails}
use Rattle.cal_rules.proofs.typing.statement_agrees.Goals as goal

pub ins_agree-requires-clause-cell : goal.ins_agree-requires-clause-cell
ins_agree-requires-clause-cell c =
    let N : Control → Type 0 = StatementHasNumbers (names_at c.args.place.now) in
    (subst N c.in-Invoke.is c.requires).0

pub ins_agree-requires-clause-ins : goal.ins_agree-requires-clause-ins
ins_agree-requires-clause-ins c =
    let names = names_at c.args.place.now in
    let N : Control → Type 0 = StatementHasNumbers names in
    subst (λ (bs : List InBind). All (InHasNumbers names) bs) (sym c.deref.ensures.value) (subst N c.in-Invoke.is c.requires).1

pub outs_agree-requires-clause-cell : goal.outs_agree-requires-clause-cell
outs_agree-requires-clause-cell c =
    let N : Control → Type 0 = StatementHasNumbers (names_at c.args.place.now) in
    (subst N c.in-Invoke.is c.requires).0

pub outs_agree-requires-clause-outs : goal.outs_agree-requires-clause-outs
outs_agree-requires-clause-outs c =
    let names = names_at c.args.place.now in
    let N : Control → Type 0 = StatementHasNumbers names in
    subst (λ (bs : List OutBind). All (OutHasNumbers names) bs) (sym c.deref-then-ins_agree.ensures.value) (subst N c.in-Invoke.is c.requires).2

pub returns-then-ins_agree : goal.returns-then-ins_agree
returns-then-ins_agree c =
    let p = c.args.place.now in
    let names = names_at p in
    let cell = text_of names c.in-Invoke.cell in
    let I = All (InAgrees (design_at p) (comp_at p) cell) in
    let O = All (OutAgrees (design_at p) (comp_at p) cell) in
    let ins = ins_listed names c.ins_agree.result I c.in-Invoke.ins.items c.deref.result.now c.deref.ensures.value c.ins_agree.ensures in
    let outs = outs_listed names c.outs_agree.result O c.in-Invoke.outs.items c.deref-then-ins_agree.result.now c.deref-then-ins_agree.ensures.value c.outs_agree.ensures in
    tested_kind names (StatementAgrees (design_at p) (comp_at p)) c.args.statement.now _ c.outs_agree.result c.in-Invoke.is
    (both_parts (I (map (in_tree names) c.in-Invoke.ins.items)) (O (map (out_tree names) c.in-Invoke.outs.items)) c.ins_agree.result c.outs_agree.result ins c.if-ins_agree.true outs)

pub returns-else-ins_agree : goal.returns-else-ins_agree
returns-else-ins_agree c =
    let p = c.args.place.now in
    let names = names_at p in
    let cell = text_of names c.in-Invoke.cell in
    let I = All (InAgrees (design_at p) (comp_at p) cell) in
    let O = All (OutAgrees (design_at p) (comp_at p) cell) in
    let ins = ins_listed names c.ins_agree.result I c.in-Invoke.ins.items c.deref.result.now c.deref.ensures.value c.ins_agree.ensures in
    tested_kind names (StatementAgrees (design_at p) (comp_at p)) c.args.statement.now _ c.ins_agree.result c.in-Invoke.is
    (first_fails (I (map (in_tree names) c.in-Invoke.ins.items)) (O (map (out_tree names) c.in-Invoke.outs.items)) c.ins_agree.result ins c.if-ins_agree.false)
