use Rattle.std.proofs.Common.{◌↔◌, Bool, List, All, map, subst, sym}
use Rattle.std.specs.Bool.{IsTrue}
use Rattle.std.proofs.lemmas.Result.{IfOk-weaker}
use Rattle.hw_names.specs.Name.{text_of}
use Rattle.cal_ast.specs.Controlling.{CanInvoke, Invokes}
use Rattle.cal_ast.specs.Numbers.{InHasNumbers, OutHasNumbers, StatementHasNumbers}
use Rattle.cal_ast.specs.Tree.{in_tree, out_tree, statement_tree}
use Rattle.cal_ast.specs.declared.tree.Control.{Control}
use Rattle.cal_ast.specs.declared.tree.InBind.{InBind}
use Rattle.cal_ast.specs.declared.tree.OutBind.{OutBind}
use Rattle.cal_place.specs.Around.{comp_at, design_at, names_at}
use Rattle.cal_rules.proofs.KindLemmas.{binds_listed, tested_kind}
use Rattle.cal_rules.proofs.controlling.invokes.Goals as goal

pub can_invoke-requires-clause-cell : goal.can_invoke-requires-clause-cell
can_invoke-requires-clause-cell c =
    let N : Control → Type 0 = StatementHasNumbers (names_at c.args.place.now) in
    (subst N c.in-Invoke.is c.requires).0

pub can_invoke-requires-clause-ins : goal.can_invoke-requires-clause-ins
can_invoke-requires-clause-ins c =
    let names = names_at c.args.place.now in
    let N : Control → Type 0 = StatementHasNumbers names in
    subst (λ (bs : List InBind). All (InHasNumbers names) bs) (sym c.deref.ensures.value) (subst N c.in-Invoke.is c.requires).1

pub can_invoke-requires-clause-outs : goal.can_invoke-requires-clause-outs
can_invoke-requires-clause-outs c =
    let names = names_at c.args.place.now in
    let N : Control → Type 0 = StatementHasNumbers names in
    subst (λ (bs : List OutBind). All (OutHasNumbers names) bs) (sym c.deref-in-Invoke.ensures.value) (subst N c.in-Invoke.is c.requires).2

pub returns-in-Invoke : goal.returns-in-Invoke
returns-in-Invoke c =
    let p = c.args.place.now in
    let names = names_at p in
    let d = design_at p in
    let t = comp_at p in
    let cell = text_of names c.in-Invoke.cell in
    let Can : Bool → Type 0 = λ can. IsTrue can ↔ CanInvoke d t cell (map (in_tree names) c.deref.result.now) (map (out_tree names) c.deref-in-Invoke.result.now) in
    let Told : Bool → Type 0 = λ can. IsTrue can ↔ Invokes d t (statement_tree names c.args.statement.now) in
    IfOk-weaker c.can_invoke.result Can Told (λ can told. tested_kind names (Invokes d t) c.args.statement.now _ can c.in-Invoke.is
    (binds_listed names can (CanInvoke d t cell) c.in-Invoke.ins.items c.deref.result.now c.in-Invoke.outs.items c.deref-in-Invoke.result.now c.deref.ensures.value c.deref-in-Invoke.ensures.value told))
    c.can_invoke.ensures
