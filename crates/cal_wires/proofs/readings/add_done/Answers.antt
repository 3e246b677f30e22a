use Rattle.std.proofs.Common.{List, codes, ap, sym, subst, ◌∙◌}
use Rattle.std.proofs.lemmas.Result.{on_ok_weaker}
use Rattle.hw_names.specs.Name.{Text, text_of}
use Rattle.net_core.specs.Numbers.{IsNumberOf}
use Rattle.cal_ast.specs.Tree.{PortName, port_of}
use Rattle.cal_place.specs.Around.{names_at}
use Rattle.cal_wires.specs.Nodes.{APort, AHole, port_by}
use Rattle.cal_wires.specs.WireGraphs.{HasNumber, IsPair}
use Rattle.cal_wires.proofs.GainLemmas.{done_added, grows_after, number_kept, number_within}
use Rattle.cal_wires.proofs.readings.add_done.Goals as goal

pub port-requires : goal.port-requires
port-requires c = c.cell_port.ensures.numbers c.args.graph.now.ports.names (subst (λ (names : List Text). IsNumberOf names c.args.cell) (sym c.requires.names) c.requires.cell) tt

pub add-requires : goal.add-requires
add-requires c = record {
  key = number_within c.port.new.self _ c.args.hole.node (number_kept c.args.graph.now c.port.new.self _ c.args.hole.node c.port.ensures.grows.adds.texts c.requires.hole);
  value = number_within c.port.new.self _ c.in_ok-done.done c.in_ok-done.ensures.number;
}

pub returns : goal.returns
returns c =
    let cell = text_of (names_at c.args.place.now) c.args.cell in
    let k = c.args.hole.group in
    let start = c.args.graph.now in
    let mid = c.port.new.self in
    let names = ap (λ (names : List Text). port_by names c.cell_port.result) c.requires.names in
    let named = names ∙ c.cell_port.ensures.is (names_at c.args.place.now) in
    let is = subst (λ (p : PortName). HasNumber mid (APort p) c.in_ok-done.done) named c.in_ok-done.ensures.number in
    let hole = number_kept start mid (AHole k) c.args.hole.node c.port.ensures.grows.adds.texts c.requires.hole in
    on_ok_weaker c.add.result
    (λ p. done_added cell k start c.add.new.self (grows_after (IsPair (AHole k) (APort (port_of cell (codes "done")))) start mid c.add.new.self c.port.ensures.grows p))
    (c.add.ensures.pair (AHole k) (APort (port_of cell (codes "done"))) hole is)
