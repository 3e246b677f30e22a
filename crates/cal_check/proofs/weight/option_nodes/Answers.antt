use Rattle.std.proofs.Common.{Option, sym, ap, ◌∙◌}
use Rattle.net_core.specs.Guard.{guard_option}
use Rattle.net_core.specs.Weight.{option_nodes, saturated}
use Rattle.net_core.specs.declared.net.Guard.{Guard}
use Rattle.net_core.proofs.GuardLemmas.{node_count-guard_tree}
use Rattle.cal_ast.specs.Tree.{port_tree}
use Rattle.cal_ast.specs.declared.tree.CalPort.{CalPort}
use Rattle.cal_check.proofs.weight.option_nodes.Goals as goal

pub returns-in-Some : goal.returns-in-Some
returns-in-Some c = λ names.
    c.guard_nodes.ensures ∙ ap saturated (node_count-guard_tree (λ (p : CalPort). p) (port_tree names) c.in-Some.guard)
    ∙ ap (λ (guard : Option (Guard CalPort)). saturated (option_nodes (guard_option (port_tree names) guard))) (sym c.in-Some.is)

pub returns-in-None : goal.returns-in-None
returns-in-None c = λ names. ap (λ (guard : Option (Guard CalPort)). saturated (option_nodes (guard_option (port_tree names) guard))) (sym c.in-None.is)
