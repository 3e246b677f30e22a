use Rattle.std.proofs.Common.{map}
use Rattle.fil_ast.specs.Tree.{port_tree}
use Rattle.filc_report.proofs.FlowLemmas.{AreGiven}
use Rattle.filc_report.proofs.flows.inputs_of.Given as goal

-- the inputs so far have their values
abbrev pub invariant-loop-port : goal.invariant-loop-port
invariant-loop-port l = AreGiven l.event (map (port_tree l.names) l.comp.ins.items) l.tx.values.items l.port-index l.given l.inputs.items
