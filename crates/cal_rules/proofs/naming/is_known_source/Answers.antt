use Rattle.std.proofs.Common.{subst}
use Rattle.net_core.specs.declared.net.Src.{Src}
use Rattle.cal_ast.specs.Naming.{IsKnownPort}
use Rattle.cal_ast.specs.Numbers.{SourceHasNumbers}
use Rattle.cal_ast.specs.Tree.{port_tree}
use Rattle.cal_ast.specs.declared.tree.CalPort.{CalPort}
use Rattle.cal_place.specs.Around.{comp_at, design_at, names_at}
use Rattle.cal_rules.proofs.SourceLemmas.{literal_kept, port_kept}
use Rattle.cal_rules.proofs.naming.is_known_source.Goals as goal

pub is_known-requires : goal.is_known-requires
is_known-requires c =
    let N : Src CalPort → Type 0 = SourceHasNumbers (names_at c.args.place.now) in
    subst N c.in-Port.is c.requires

pub returns-in-Port : goal.returns-in-Port
returns-in-Port c =
    let p = c.args.place.now in
    port_kept (IsKnownPort (design_at p) (comp_at p)) (port_tree (names_at p)) c.args.src c.in-Port.port c.is_known.result c.in-Port.is c.is_known.ensures

pub returns-in-Lit : goal.returns-in-Lit
returns-in-Lit c =
    let p = c.args.place.now in
    literal_kept (IsKnownPort (design_at p) (comp_at p)) (port_tree (names_at p)) c.args.src _ _ c.in-Lit.is
