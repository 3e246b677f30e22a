use Rattle.std.proofs.Common.{Ok, List, map, ap, ◌∙◌}
use Rattle.std.proofs.lemmas.List.{take_all}
use Rattle.fil_ast.specs.Tree.{port_tree}
use Rattle.fil_ast.specs.declared.tree.FilPort.{FilPort}
use Rattle.fil_flow.specs.inside.Body.{data_names}
use Rattle.fil_flow.proofs.PortLemmas.{port_more}
use Rattle.fil_flow.proofs.earlier.port_names.Goals as goal

pub loop-port-init : goal.loop-port-init
loop-port-init c distinct = c.beside-found.ensures

pub loop-port-preserved : goal.loop-port-preserved
loop-port-preserved c distinct =
    port_more c.args.names.now c.args.ports.now c.loop-port.port-index _ c.text.result.now c.loop-port.found c.add_name.new.names c.in_ok-_new._new
    c.loop-port-test.true c.text.ensures distinct (c.loop-port.invariant distinct)
    (λ yes. c.in_ok-_new.ensures.new (ap Ok yes)) (λ no. c.in_ok-_new.ensures.there (ap Ok no))

pub returns : goal.returns
returns c distinct =
    c.loop-port.invariant distinct ∙ ap (λ (ps : List FilPort). data_names (map (port_tree c.args.names.now) ps)) (take_all c.loop-port.port-index c.args.ports.now c.loop-port-test.false)
