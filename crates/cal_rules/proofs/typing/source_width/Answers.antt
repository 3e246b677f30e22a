use Rattle.std.proofs.Common.{ap, subst, sym, ◌∙◌}
use Rattle.net_core.specs.Guard.{source_tree}
use Rattle.net_core.specs.declared.net.Src.{Src}
use Rattle.cal_ast.specs.Numbers.{SourceHasNumbers}
use Rattle.cal_ast.specs.Tree.{port_tree}
use Rattle.cal_ast.specs.Typing.{source_width}
use Rattle.cal_ast.specs.declared.tree.CalPort.{CalPort}
use Rattle.cal_place.specs.Around.{comp_at, design_at, names_at}
use Rattle.cal_rules.proofs.typing.source_width.Goals as goal

pub port_width-requires : goal.port_width-requires
port_width-requires c =
    let N : Src CalPort → Type 0 = SourceHasNumbers (names_at c.args.place.now) in
    subst N c.in-Port.is c.requires

pub returns-in-Port : goal.returns-in-Port
returns-in-Port c =
    let p = c.args.place.now in
    c.port_width.ensures ∙ ap (λ (s : Src CalPort). source_width (design_at p) (comp_at p) (source_tree (port_tree (names_at p)) s)) (sym c.in-Port.is)

pub returns-in-Lit : goal.returns-in-Lit
returns-in-Lit c =
    let p = c.args.place.now in
    ap (λ (s : Src CalPort). source_width (design_at p) (comp_at p) (source_tree (port_tree (names_at p)) s)) (sym c.in-Lit.is)
