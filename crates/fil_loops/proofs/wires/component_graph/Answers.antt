use Rattle.std.proofs.Common.{◌≡◌, [], ◌++◌, List, ℕ, ◌<◌, length, sym, ap, subst, ◌∙◌, arith}
use Rattle.std.specs.Prelude.{All}
use Rattle.std.proofs.lemmas.List.Elements.{All-append, All-weaker}
use Rattle.hw_names.proofs.NameLemmas.{length-KeepsTexts}
use Rattle.hw_names.specs.Name.{Text}
use Rattle.fil_ast.specs.Tree.{component_tree}
use Rattle.fil_ast.specs.Wires.{through_before, whole_scope}
use Rattle.fil_loops.specs.inside.Ports.{PortList}
use Rattle.fil_loops.specs.inside.PortGraph.{Below, HasInstances, NoPair}
use Rattle.fil_loops.specs.inside.Readings.{ReadsAt}
use Rattle.fil_loops.specs.inside.Reached.{AreNumbered, port_names}
use Rattle.fil_loops.specs.OwnPorts.{input_names, output_names, own_port_names}
use Rattle.fil_loops.proofs.DependLemmas.{numbered_both, numbered_kept, tree_names}
use Rattle.fil_loops.proofs.PortGraphLemmas.{adds_before, instances_kept}
use Rattle.fil_loops.proofs.ReadingLemmas.{whole_graph}
use Rattle.fil_loops.proofs.wires.component_graph.Goals as goal

pub returns-clause-reads : goal.returns-clause-reads
returns-clause-reads c comps place =
    let names = c.args.place.now.names.now in
    let comp = c.args.place.now.comp.now in
    let tree = component_tree names comp in
    let scope = whole_scope comps tree in
    let start = c.new-graph.result in
    let first = c.add_body.new.graph in
    let mid = c.own_ports.new.graph in
    let g = c.own_ports-2.new.graph in
    let has : HasInstances scope start = ap (λ (p : PortList). p.instances) c.new-graph.ensures.ports ∙ place.shows.instances in
    let P : Text → Text → Type 0 = Below (ReadsAt (through_before []) scope tree.body) (length comp.body.items) in
    whole_graph comps names comp start g c.new-graph.ensures.entries
    (adds_before P start mid g (adds_before P start first mid (c.in_ok-add_body.ensures comps place has) c.in_ok-own.ensures.same) c.in_ok-outputs.ensures.same)

pub returns-clause-instances : goal.returns-clause-instances
returns-clause-instances c comps place =
    let tree = component_tree c.args.place.now.names.now c.args.place.now.comp.now in
    let scope = whole_scope comps tree in
    let has : HasInstances scope c.new-graph.result = ap (λ (p : PortList). p.instances) c.new-graph.ensures.ports ∙ place.shows.instances in
    let P : Text → Text → Type 0 = Below (ReadsAt (through_before []) scope tree.body) (length c.args.place.now.comp.now.body.items) in
    let begun = instances_kept P scope c.new-graph.result c.add_body.new.graph (c.in_ok-add_body.ensures comps place has) has in
    instances_kept NoPair scope c.own_ports.new.graph c.own_ports-2.new.graph c.in_ok-outputs.ensures.same (instances_kept NoPair scope c.add_body.new.graph c.own_ports.new.graph c.in_ok-own.ensures.same begun)

pub returns-clause-own : goal.returns-clause-own
returns-clause-own c comps place =
    let names = c.args.place.now.names.now in
    let comp = c.args.place.now.comp.now in
    let before = c.own_ports.new.graph.ports.names in
    let after = c.own_ports-2.new.graph.ports.names in
    let ins = c.in_ok-own.own.items in
    let outs = c.in_ok-outputs.outputs.items in
    let same_ins : port_names names c.deref.result.now ≡ input_names (component_tree names comp) = ap (port_names names) c.deref.ensures.value ∙ tree_names names comp.ins.items in
    let same_outs : port_names names c.deref-2.result.now ≡ output_names (component_tree names comp) = ap (port_names names) c.deref-2.ensures.value ∙ tree_names names comp.outs.items in
    let inputs = numbered_kept before after c.in_ok-outputs.ensures.same.texts ins _ (subst (AreNumbered before ins) same_ins c.in_ok-own.ensures.numbered) in
    let outputs = subst (AreNumbered after outs) same_outs c.in_ok-outputs.ensures.numbered in
    let both = numbered_both after ins outs _ _ inputs outputs in
    let all = c.in_ok-extend_from_slice.ensures.items ∙ ap (λ (l : List ℕ). ins ++ l) c.deref-3.ensures.value in
    subst (λ (l : List ℕ). AreNumbered after l (own_port_names (component_tree names comp))) (sym all) both

pub returns-clause-within : goal.returns-clause-within
returns-clause-within c =
    let before = c.own_ports.new.graph.ports.names in
    let after = c.own_ports-2.new.graph.ports.names in
    let W : ℕ → Type 0 = λ n. n < length after in
    let longer = length-KeepsTexts before after c.in_ok-outputs.ensures.same.texts in
    let inputs = All-weaker (λ (n : ℕ). n < length before) W (λ n lt. omega (arith, lt, longer)) c.in_ok-own.own.items c.in_ok-own.ensures.within in
    let all = c.in_ok-extend_from_slice.ensures.items ∙ ap (λ (l : List ℕ). c.in_ok-own.own.items ++ l) c.deref-3.ensures.value in
    subst (All W) (sym all) (All-append W c.in_ok-own.own.items c.in_ok-outputs.outputs.items inputs c.in_ok-outputs.ensures.within)
