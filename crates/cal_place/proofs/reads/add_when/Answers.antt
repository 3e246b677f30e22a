use Rattle.std.proofs.Common.{Option, sym, subst}
use Rattle.std.specs.Prelude.{OnOk}
use Rattle.net_core.specs.Graph.{option_ports}
use Rattle.net_core.specs.Guard.{guard_option}
use Rattle.net_core.specs.declared.net.Guard.{Guard}
use Rattle.cal_ast.specs.Numbers.{WhenHasNumbers}
use Rattle.cal_ast.specs.Tree.{port_tree}
use Rattle.cal_ast.specs.declared.tree.CalPort.{CalPort}
use Rattle.cal_place.specs.ReadPorts.{AddsPorts}
use Rattle.cal_place.proofs.ReadLemmas.{adds_none}
use Rattle.cal_place.proofs.reads.add_when.Goals as goal

pub returns-in-Some : goal.returns-in-Some
returns-in-Some c names numbers =
    let own = subst (λ (o : Option (Guard CalPort)). WhenHasNumbers names o) c.in-Some.is numbers in
    subst (λ (o : Option (Guard CalPort)). OnOk c.add_guard.result (AddsPorts names c.args.ports.now.items c.add_guard.new.ports.items (option_ports (guard_option (port_tree names) o)))) (sym c.in-Some.is) (c.add_guard.ensures names own)

pub returns-in-None : goal.returns-in-None
returns-in-None c names numbers =
    let old = c.args.ports.now.items in
    subst (λ (o : Option (Guard CalPort)). AddsPorts names old old (option_ports (guard_option (port_tree names) o))) (sym c.in-None.is) (adds_none names old)
