use Rattle.std.proofs.Common.{List, map, slice_get, refl, sym, ap, subst, ◌∙◌, arith}
use Rattle.std.proofs.lemmas.List.{length-map}
use Rattle.hw_names.specs.Name.{Text, KeepsTexts}
use Rattle.hw_names.proofs.NameLemmas.{length-KeepsTexts}
use Rattle.cal_ast.specs.Tree.{PortName, port_tree}
use Rattle.cal_place.specs.Around.{names_at}
use Rattle.cal_wires.specs.Nodes.{APort, AreNumbers, PortList, port_by}
use Rattle.cal_wires.specs.WireGraphs.{HasNumber, IsPair}
use Rattle.cal_wires.proofs.GainLemmas.{grows_all, grows_start, number_kept, number_within, reads_next}
use Rattle.cal_wires.proofs.readings.add_reads.Goals as goal

pub port-requires : goal.port-requires
port-requires c =
    subst (λ (names : List Text). AreNumbers names c.line_port.result) (sym (c.loop-read.invariant.names ∙ c.requires.names))
    (c.line_port.ensures.numbers (names_at c.args.place.now) (c.requires.reads c.loop-read.read-index _ c.loop-read-test.true))

pub add-requires : goal.add-requires
add-requires c =
    let first = length-KeepsTexts c.args.graph.now.ports.keys c.loop-read.graph.ports.keys c.loop-read.invariant.texts in
    let second = length-KeepsTexts c.loop-read.graph.ports.keys c.port.new.self.ports.keys c.port.ensures.grows.adds.texts in
    record { key = omega (arith, first, second, c.requires.number); value = number_within c.port.new.self _ c.in_ok-other.other c.in_ok-other.ensures.number }

pub loop-read-init : goal.loop-read-init
loop-read-init c =
    let names = names_at c.args.place.now in
    record { grows = λ node is. grows_start (λ j port. IsPair node (APort port)) (map (port_tree names) c.args.reads.now) c.args.graph.now; names = refl; texts = λ i text at. at }

pub loop-read-preserved : goal.loop-read-preserved
loop-read-preserved c =
    let names = names_at c.args.place.now in
    let start = c.args.graph.now in
    let before = c.loop-read.graph in
    let mid = c.port.new.self in
    let texts : KeepsTexts start.ports.keys mid.ports.keys = λ i text at. c.port.ensures.grows.adds.texts i text (c.loop-read.invariant.texts i text at) in
    let named = ap (λ (ns : List Text). port_by ns c.line_port.result) (c.loop-read.invariant.names ∙ c.requires.names) ∙ c.line_port.ensures.is names in
    let other : HasNumber mid (APort _) c.in_ok-other.other = subst (λ (p : PortName). HasNumber mid (APort p) c.in_ok-other.other) named c.in_ok-other.ensures.number in
    record {
      grows = λ node is.
          let own = number_kept start mid node c.args.number texts is in
          reads_next names node c.args.reads.now c.loop-read.read-index _ start before mid c.add.new.self c.loop-read-test.true (c.loop-read.invariant.grows node is) c.port.ensures.grows (c.in_ok-add.ensures.pair node _ own other);
      names = ap (λ (ports : PortList). ports.names) c.in_ok-add.ensures.ports ∙ c.port.ensures.grows.adds.names ∙ c.loop-read.invariant.names;
      texts = λ i text at. ap (λ (ports : PortList). slice_get ports.keys i) c.in_ok-add.ensures.ports ∙ texts i text at;
    }

pub returns : goal.returns
returns c node is =
    let names = names_at c.args.place.now in
    grows_all (λ j port. IsPair node (APort port)) (map (port_tree names) c.args.reads.now) c.loop-read.read-index c.args.graph.now c.loop-read.graph (omega (arith, c.loop-read-test.false, length-map c.args.reads.now (port_tree names))) (c.loop-read.invariant.grows node is)
