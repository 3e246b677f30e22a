use Rattle.std.proofs.Common.{List, map, refl, ap, subst, sym, ◌∙◌, arith}
use Rattle.std.specs.Prelude.{All}
use Rattle.std.proofs.lemmas.List.{length-map}
use Rattle.cal_ast.specs.Numbers.{DoneHasNumbers, PortHasNumbers}
use Rattle.cal_ast.specs.Tree.{PortName, done_tree, port_tree}
use Rattle.cal_ast.specs.declared.tree.DoneSet.{DoneSet}
use Rattle.cal_place.specs.Around.{names_at}
use Rattle.cal_wires.specs.Nodes.{AHole}
use Rattle.cal_place.specs.ReadPorts.{AreReads}
use Rattle.cal_wires.specs.Readings.{ReadsDone, ReadsEach}
use Rattle.cal_wires.specs.WireGraphs.{Grows, HasHole}
use Rattle.cal_ast.specs.Wires.{done_ports}
use Rattle.cal_place.proofs.FoundLemmas.{to_map}
use Rattle.cal_wires.proofs.GainLemmas.{grows_all, grows_next, grows_start, item_at, number_kept, number_within}
use Rattle.cal_wires.proofs.readings.add_dones.Goals.{In_ok-reads}
use Rattle.cal_wires.proofs.readings.add_dones.Goals as goal

is_hole : (c : In_ok-reads) → HasHole c.loop-done.graph c.args.hole
is_hole c = number_kept c.args.graph.now c.loop-done.graph _ c.args.hole.node c.loop-done.invariant.adds.texts c.requires.hole

own_numbers : (c : In_ok-reads) → DoneHasNumbers (names_at c.args.place.now) c.done-item.result
own_numbers c =
    let D : DoneSet → Type 0 = DoneHasNumbers (names_at c.args.place.now) in
    subst D (sym c.done-item.is) (c.requires.dones c.loop-done.done-index c.done-item.result c.loop-done-test.true)

own_reads : (c : In_ok-reads) → AreReads (names_at c.args.place.now) (done_ports (done_tree (names_at c.args.place.now) c.done-item.result)) c.in_ok-reads.reads.items
own_reads c = let own = own_numbers c in c.in_ok-reads.ensures (names_at c.args.place.now) own.1 own.2

pub add_reads-requires : goal.add_reads-requires
add_reads-requires c =
    let r : In_ok-reads = (goal.at.add_reads-requires c).In_ok-reads in
    record {
      names = r.loop-done.invariant.adds.names ∙ r.requires.names;
      number = number_within r.loop-done.graph _ r.args.hole.node (is_hole r);
      reads = subst (All (PortHasNumbers (names_at r.args.place.now))) (sym c.deref.ensures.value) (own_reads r).numbers;
    }

pub loop-done-init : goal.loop-done-init
loop-done-init c = grows_start (λ j. ReadsDone c.args.hole.group) (map (done_tree (names_at c.args.place.now)) c.args.dones.now) c.args.graph.now

pub loop-done-preserved : goal.loop-done-preserved
loop-done-preserved c =
    let r : In_ok-reads = (goal.at.loop-done-preserved c).In_ok-reads in
    let names = names_at r.args.place.now in
    let f = done_tree names in
    let dones = r.args.dones.now in
    let k = r.loop-done.done-index in
    let d = r.done-item.result in
    let at = to_map f dones k d (item_at dones dones k d refl r.loop-done-test.true r.done-item.is) in
    let reads = subst (λ (ps : List PortName). Grows (ReadsEach (AHole r.args.hole.group) ps) r.loop-done.graph c.add_reads.new.graph)
    (ap (map (port_tree names)) c.deref.ensures.value ∙ (own_reads r).ports) (c.in_ok-add_reads.ensures (AHole r.args.hole.group) (is_hole r)) in
    grows_next (λ j. ReadsDone r.args.hole.group) (map f dones) k (f d) r.args.graph.now r.loop-done.graph c.add_reads.new.graph at r.loop-done.invariant reads

pub returns : goal.returns
returns c =
    let f = done_tree (names_at c.args.place.now) in
    grows_all (λ j. ReadsDone c.args.hole.group) (map f c.args.dones.now) c.loop-done.done-index c.args.graph.now c.loop-done.graph (omega (arith, c.loop-done-test.false, length-map c.args.dones.now f)) c.loop-done.invariant
