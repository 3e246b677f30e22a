use Rattle.std.proofs.Common.{◌≤◌, ℕ, List, length, take, sym, subst, subst₂, arith}
use Rattle.std.proofs.lemmas.List.{length-map, take_all}
use Rattle.std.proofs.lemmas.Option.{slice_get-get_or}
use Rattle.hw_names.specs.Name.{Text, text_of}
use Rattle.fil_ast.specs.declared.tree.FilPort.{FilPort}
use Rattle.fil_loops.specs.inside.Reached.{AreNumbered, port_names}
use Rattle.fil_loops.proofs.DependLemmas.{name_at, numbered_more, numbered_within}
use Rattle.fil_loops.proofs.PortGraphLemmas.{adds_no_more}
use Rattle.fil_loops.proofs.PortNumberLemmas.{next_name}
use Rattle.fil_loops.proofs.wires.own_ports.Goals as goal

pub loop-port-preserved : goal.loop-port-preserved
loop-port-preserved c =
    let names = c.args.names.now in
    let ports = c.args.ports.now in
    let all = port_names names ports in
    let k = c.loop-port.port-index in
    let text = c.text.result.now in
    let old = c.loop-port.graph in
    let new = c.named.new.self in
    let at = name_at names ports k _ text (slice_get-get_or ports k _ c.loop-port-test.true) c.text.ensures in
    let one_more = next_name all k text at in
    let numbered = numbered_more old.ports.names new.ports.names c.named.ensures.same.texts c.loop-port.numbers.items (take k all) c.in_ok-number.number text c.loop-port.invariant.numbered c.in_ok-number.ensures.number in
    record {
      numbered = subst₂ (λ (ns : List ℕ) (ts : List Text). AreNumbered new.ports.names ns ts) (sym c.in_ok-push.ensures.items) one_more numbered;
      adds = adds_no_more c.args.graph.now old new c.loop-port.invariant.adds c.named.ensures.same;
    }

pub returns-clause-numbered : goal.returns-clause-numbered
returns-clause-numbered c =
    let all = port_names c.args.names.now c.args.ports.now in
    let end : length all ≤ c.loop-port.port-index = omega (arith, c.loop-port-test.false, length-map c.args.ports.now (λ (p : FilPort). text_of c.args.names.now p.name)) in
    subst (AreNumbered c.loop-port.graph.ports.names c.loop-port.numbers.items) (take_all c.loop-port.port-index all end) c.loop-port.invariant.numbered

pub returns-clause-within : goal.returns-clause-within
returns-clause-within c =
    numbered_within c.loop-port.graph.ports.names c.loop-port.numbers.items (take c.loop-port.port-index (port_names c.args.names.now c.args.ports.now)) c.loop-port.invariant.numbered
