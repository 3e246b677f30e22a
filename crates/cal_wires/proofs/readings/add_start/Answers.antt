use Rattle.std.proofs.Common.{Bor, List, Option, Some, None, ap, sym, subst, ◌∙◌}
use Rattle.std.specs.Option.{option_map}
use Rattle.std.proofs.lemmas.Result.{on_ok_weaker}
use Rattle.hw_names.specs.Name.{Text, text_of}
use Rattle.net_core.specs.Numbers.{IsNumberOf}
use Rattle.cal_ast.specs.Invoking.{starts_cell}
use Rattle.cal_ast.specs.Tree.{PortName, port_of}
use Rattle.cal_place.specs.Around.{names_at}
use Rattle.cal_wires.specs.Nodes.{APort, AHole, port_by}
use Rattle.cal_wires.specs.Readings.{ReadsSet, ReadsSets}
use Rattle.cal_wires.specs.WireGraphs.{Grows, HasNumber, IsPair}
use Rattle.cal_wires.proofs.GainLemmas.{at_none, grows_after, grows_none, number_kept, number_within, start_added}
use Rattle.cal_wires.proofs.readings.add_start.Goals as goal

pub port-requires : goal.port-requires
port-requires c = c.cell_port.ensures.numbers c.args.graph.now.ports.names (subst (λ (names : List Text). IsNumberOf names c.args.cell) (sym c.requires.names) c.requires.cell) tt

pub add-requires : goal.add-requires
add-requires c = record {
  key = number_within c.port.new.self _ c.in_ok-number-in-Some.number c.in_ok-number-in-Some.ensures.number;
  value = number_within c.port.new.self _ c.args.hole.node (number_kept c.args.graph.now c.port.new.self _ c.args.hole.node c.port.ensures.grows.adds.texts c.requires.hole);
}

pub returns-in_ok-number-in-Some : goal.returns-in_ok-number-in-Some
returns-in_ok-number-in-Some c =
    let cell = text_of (names_at c.args.place.now) c.args.cell in
    let k = c.args.hole.group in
    let go : Text = c.in-Some.go.now in
    let start = c.args.graph.now in
    let mid = c.port.new.self in
    let names = ap (λ (names : List Text). port_by names c.cell_port.result) c.requires.names in
    let named = names ∙ c.cell_port.ensures.is (names_at c.args.place.now) ∙ ap (port_of cell) c.as_bytes.ensures.value in
    let is = subst (λ (p : PortName). HasNumber mid (APort p) c.in_ok-number-in-Some.number) named c.in_ok-number-in-Some.ensures.number in
    let hole = number_kept start mid (AHole k) c.args.hole.node c.port.ensures.grows.adds.texts c.requires.hole in
    let pair = c.add.ensures.pair (APort (port_of cell go)) (AHole k) is hole in
    let told = ap (option_map (λ (g : Bor Text). g.now)) (sym c.in-Some.is) ∙ c.go.ensures in
    on_ok_weaker c.add.result
    (λ p. subst (λ (o : Option Text). Grows (ReadsSets (Some k) (starts_cell cell o)) start c.add.new.self) told
    (start_added cell go k start c.add.new.self (grows_after (IsPair (APort (port_of cell go)) (AHole k)) start mid c.add.new.self c.port.ensures.grows p)))
    pair

pub returns-in-None : goal.returns-in-None
returns-in-None c =
    let cell = text_of (names_at c.args.place.now) c.args.cell in
    let k = c.args.hole.group in
    let g = c.args.graph.now in
    let told = ap (option_map (λ (g : Bor Text). g.now)) (sym c.in-None.is) ∙ c.go.ensures in
    subst (λ (o : Option Text). Grows (ReadsSets (Some k) (starts_cell cell o)) g g) told (grows_none (ReadsSets (Some k) (starts_cell cell None)) g (at_none (λ j. ReadsSet (Some k))))
