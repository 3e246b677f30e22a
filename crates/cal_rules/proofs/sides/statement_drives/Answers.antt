use Rattle.std.proofs.Common.{List, All, subst, sym}
use Rattle.cal_ast.specs.Numbers.{OutHasNumbers, StatementHasNumbers}
use Rattle.cal_ast.specs.Sides.{IsDestination, StatementDrives}
use Rattle.cal_ast.specs.Tree.{OutBinding}
use Rattle.cal_ast.specs.declared.tree.Control.{Control}
use Rattle.cal_ast.specs.declared.tree.OutBind.{OutBind}
use Rattle.cal_place.specs.Around.{comp_at, design_at, names_at}
use Rattle.cal_rules.proofs.KindLemmas.{outs_listed, tested_kind}
use Rattle.cal_rules.proofs.sides.statement_drives.Goals as goal

pub drive_destinations-requires : goal.drive_destinations-requires
drive_destinations-requires c =
    let names = names_at c.args.place.now in
    let N : Control → Type 0 = StatementHasNumbers names in
    subst (λ (bs : List OutBind). All (OutHasNumbers names) bs) (sym c.deref.ensures.value) (subst N c.in-Invoke.is c.requires).2

pub returns-in-Invoke : goal.returns-in-Invoke
returns-in-Invoke c =
    let p = c.args.place.now in
    let names = names_at p in
    tested_kind names (StatementDrives (design_at p) (comp_at p)) c.args.statement.now _ c.drive_destinations.result c.in-Invoke.is
    (outs_listed names c.drive_destinations.result (All (λ (b : OutBinding). IsDestination (design_at p) (comp_at p) b.dst)) c.in-Invoke.outs.items c.deref.result.now c.deref.ensures.value c.drive_destinations.ensures)
