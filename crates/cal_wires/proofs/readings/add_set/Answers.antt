use Rattle.std.proofs.Common.{◌≡◌, List, Option, map, option_map, refl, sym, ap, subst, ◌∙◌}
use Rattle.std.specs.Prelude.{All, IfSome, OnOk}
use Rattle.std.proofs.lemmas.Result.{on_ok_weaker}
use Rattle.hw_names.specs.Name.{Text}
use Rattle.cal_ast.specs.Numbers.{PortHasNumbers}
use Rattle.cal_ast.specs.Tree.{PortName, Assignment, assignment_tree, port_tree}
use Rattle.cal_ast.specs.Wires.{set_ports}
use Rattle.cal_place.specs.Around.{names_at}
use Rattle.cal_wires.specs.Nodes.{APort, AHole, AreNumbers, port_by}
use Rattle.cal_wires.specs.Readings.{ReadsEach, ReadsSet}
use Rattle.cal_wires.specs.WireGraphs.{Grows, HasHole}
use Rattle.cal_wires.specs.declared.graph.Hole.{Hole}
use Rattle.cal_wires.proofs.GainLemmas.{number_kept, number_within, set_alone, set_with_hole}
use Rattle.cal_wires.proofs.readings.add_set.Goals.{In_ok-add_reads}
use Rattle.cal_wires.proofs.readings.add_set.Goals as goal

pub port-requires : goal.port-requires
port-requires c = subst (λ (names : List Text). AreNumbers names c.line_port.result) (sym c.requires.names) (c.line_port.ensures.numbers (names_at c.args.place.now) c.requires.set.0)

-- the destination, as the tree has it
named : (c : In_ok-add_reads) → port_by c.args.graph.now.ports.names c.line_port.result ≡ port_tree (names_at c.args.place.now) c.args.set.now.dst
named c = ap (λ (names : List Text). port_by names c.line_port.result) c.requires.names ∙ c.line_port.ensures.is (names_at c.args.place.now)

pub add_reads-requires : goal.add_reads-requires
add_reads-requires c =
    let are = c.in_ok-reads.ensures (names_at c.args.place.now) c.requires.set.1 c.requires.set.2 in
    record {
      names = c.port.ensures.grows.adds.names ∙ c.requires.names;
      number = number_within c.port.new.self _ c.in_ok-number.number c.in_ok-number.ensures.number;
      reads = subst (All (PortHasNumbers (names_at c.args.place.now))) (sym c.deref.ensures.value) are.numbers;
    }

-- the readings of the assignment alone
own_reads : (c : In_ok-add_reads) → Grows (ReadsEach (APort (port_by c.args.graph.now.ports.names c.line_port.result)) (set_ports (assignment_tree (names_at c.args.place.now) c.args.set.now))) c.port.new.self c.add_reads.new.graph
own_reads c =
    let names = names_at c.args.place.now in
    let are = c.in_ok-reads.ensures names c.requires.set.1 c.requires.set.2 in
    subst (λ (ps : List PortName). Grows (ReadsEach (APort (port_by c.args.graph.now.ports.names c.line_port.result)) ps) c.port.new.self c.add_reads.new.graph)
    (ap (map (port_tree names)) c.deref.ensures.value ∙ are.ports) (c.in_ok-add_reads.ensures (APort (port_by c.args.graph.now.ports.names c.line_port.result)) c.in_ok-number.ensures.number)

pub add-requires : goal.add-requires
add-requires c =
    let r : In_ok-add_reads = (goal.at.add-requires c).In_ok-add_reads in
    let start = r.args.graph.now in
    let mid = r.port.new.self in
    let end = r.add_reads.new.graph in
    let hole : HasHole start c.in-Some.hole = subst (λ (o : Option Hole). IfSome o (HasHole start)) c.in-Some.is r.requires.hole in
    record {
      key = number_within end _ r.in_ok-number.number (number_kept mid end _ r.in_ok-number.number (own_reads r).adds.texts r.in_ok-number.ensures.number);
      value = number_within end _ c.in-Some.hole.node (number_kept mid end _ c.in-Some.hole.node (own_reads r).adds.texts (number_kept start mid _ c.in-Some.hole.node r.port.ensures.grows.adds.texts hole));
    }

pub returns-in-Some : goal.returns-in-Some
returns-in-Some c =
    let r : In_ok-add_reads = (goal.at.returns-in-Some c).In_ok-add_reads in
    let names = names_at r.args.place.now in
    let start = r.args.graph.now in
    let mid = r.port.new.self in
    let end = r.add_reads.new.graph in
    let h = c.in-Some.hole in
    let hole : HasHole start h = subst (λ (o : Option Hole). IfSome o (HasHole start)) c.in-Some.is r.requires.hole in
    let is_port = number_kept mid end (APort (port_by r.args.graph.now.ports.names r.line_port.result)) r.in_ok-number.number (own_reads r).adds.texts r.in_ok-number.ensures.number in
    let is_hole = number_kept mid end (AHole h.group) h.node (own_reads r).adds.texts (number_kept start mid (AHole h.group) h.node r.port.ensures.grows.adds.texts hole) in
    let a : Assignment = assignment_tree names r.args.set.now in
    let added = on_ok_weaker c.add.result
    (λ pair. set_with_hole a h.group (port_by r.args.graph.now.ports.names r.line_port.result) (set_ports a) start mid end c.add.new.self (named r) refl r.port.ensures.grows (own_reads r) pair)
    (c.add.ensures.pair (APort (port_by r.args.graph.now.ports.names r.line_port.result)) (AHole h.group) is_port is_hole) in
    subst (λ (o : Option Hole). OnOk c.add.result (Grows (ReadsSet (option_map (λ (x : Hole). x.group) o) a) start c.add.new.self)) (sym c.in-Some.is) added

pub returns : goal.returns
returns c =
    let r : In_ok-add_reads = (goal.at.returns c).In_ok-add_reads in
    let a : Assignment = assignment_tree (names_at r.args.place.now) r.args.set.now in
    let added = set_alone a (port_by r.args.graph.now.ports.names r.line_port.result) (set_ports a) r.args.graph.now r.port.new.self r.add_reads.new.graph (named r) refl r.port.ensures.grows (own_reads r) in
    subst (λ (o : Option Hole). Grows (ReadsSet (option_map (λ (x : Hole). x.group) o) a) r.args.graph.now r.add_reads.new.graph) (sym c.in-None.is) added
