use Rattle.std.proofs.Common.{sym, subst}
use Rattle.net_core.specs.Graph.{source_ports}
use Rattle.net_core.specs.Guard.{source_tree}
use Rattle.net_core.specs.declared.net.Src.{Src}
use Rattle.cal_ast.specs.Numbers.{SourceHasNumbers}
use Rattle.cal_ast.specs.Tree.{port_tree}
use Rattle.cal_ast.specs.declared.tree.CalPort.{CalPort}
use Rattle.cal_place.specs.ReadPorts.{AddsPorts}
use Rattle.cal_place.proofs.ReadLemmas.{adds_none, adds_one}
use Rattle.cal_place.proofs.reads.add_source.Goals as goal

pub returns-in_ok-push-in-Port : goal.returns-in_ok-push-in-Port
returns-in_ok-push-in-Port c names numbers =
    let old = c.args.ports.now.items in
    let own = subst (λ (s : Src CalPort). SourceHasNumbers names s) c.in-Port.is numbers in
    subst (λ (s : Src CalPort). AddsPorts names old c.push.new.self.items (source_ports (source_tree (port_tree names) s))) (sym c.in-Port.is)
    (adds_one names old c.push.new.self.items c.in-Port.port c.in_ok-push-in-Port.ensures.items own)

pub returns-in-Lit : goal.returns-in-Lit
returns-in-Lit c names numbers =
    let old = c.args.ports.now.items in
    subst (λ (s : Src CalPort). AddsPorts names old old (source_ports (source_tree (port_tree names) s))) (sym c.in-Lit.is) (adds_none names old)
