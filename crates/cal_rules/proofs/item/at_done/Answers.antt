use Rattle.std.proofs.Common.{List, All, map, take, sym, ap, subst, ◌∙◌}
use Rattle.std.proofs.lemmas.Bool.Decides.{not_from_Decides}
use Rattle.cal_ast.specs.Items.{TheDone}
use Rattle.cal_ast.specs.Numbers.{PortHasNumbers}
use Rattle.cal_ast.specs.Sides.{IsSource}
use Rattle.cal_ast.specs.Tree.{PortName, done_tree, group_tree, port_tree}
use Rattle.cal_ast.specs.Wires.{done_ports}
use Rattle.cal_ast.specs.declared.tree.CalPort.{CalPort}
use Rattle.net_core.specs.Graph.{option_ports, source_ports}
use Rattle.cal_place.specs.Around.{KeepsAt, comp_at, design_at, names_at}
use Rattle.cal_place.specs.ReadPorts.{AreReads}
use Rattle.cal_rules.proofs.LeastLemmas.{all_kept, is_C2, is_C4, is_C6, is_C7, is_C8}
use Rattle.cal_place.proofs.ReadLemmas.{all_both}
use Rattle.cal_rules.proofs.item.at_done.Goals as goal

pub done_names_known-requires-clause-reads : goal.done_names_known-requires-clause-reads
done_names_known-requires-clause-reads c =
    let p = c.args.place.now in
    let A : List CalPort → Type 0 = AreReads (names_at p) (done_ports (done_tree (names_at p) c.args.done.now)) in
    subst A (sym c.deref.ensures.value) (c.in_ok-reads.ensures (names_at p) c.requires.numbers.1 c.requires.numbers.2)

pub are_sources-requires : goal.are_sources-requires
are_sources-requires c =
    let p = c.args.place.now in
    let A : List CalPort → Type 0 = All (PortHasNumbers (names_at p)) in
    subst A (sym c.deref-2.ensures.value) (c.in_ok-reads.ensures (names_at p) c.requires.numbers.1 c.requires.numbers.2).numbers

pub returns-then-not-done_names_known : goal.returns-then-not-done_names_known
returns-then-not-done_names_known c =
    let p = c.args.place.now in
    let g = group_tree (names_at p) c.args.group.now in
    let item = TheDone g (take c.args.number g.dones) (done_tree (names_at p) c.args.done.now) in
    is_C2 (KeepsAt p item) tt (not_from_Decides c.done_names_known.result c.done_names_known.ensures c.if-not-done_names_known.true)

pub returns-then-not-done_agrees : goal.returns-then-not-done_agrees
returns-then-not-done_agrees c =
    let p = c.args.place.now in
    let g = group_tree (names_at p) c.args.group.now in
    let item = TheDone g (take c.args.number g.dones) (done_tree (names_at p) c.args.done.now) in
    is_C4 (KeepsAt p item) tt (c.done_names_known.ensures.0 c.if-not-done_names_known.false) tt (not_from_Decides c.done_agrees.result c.done_agrees.ensures c.if-not-done_agrees.true)

pub returns-then-not-are_sources : goal.returns-then-not-are_sources
returns-then-not-are_sources c =
    let p = c.args.place.now in
    let g = group_tree (names_at p) c.args.group.now in
    let d = done_tree (names_at p) c.args.done.now in
    let item = TheDone g (take c.args.number g.dones) d in
    let reads = c.in_ok-reads.ensures (names_at p) c.requires.numbers.1 c.requires.numbers.2 in
    let same = ap (map (port_tree (names_at p))) c.deref-2.ensures.value ∙ reads.ports in
    let A : List PortName → Type 0 = All (IsSource (design_at p) (comp_at p)) in
    is_C6 (KeepsAt p item) tt (c.done_names_known.ensures.0 c.if-not-done_names_known.false) tt (c.done_agrees.ensures.0 c.if-not-done_agrees.false) tt
    (λ both. not_from_Decides c.are_sources.result c.are_sources.ensures c.if-not-are_sources.true
    (subst A (sym same) ((all_both (IsSource (design_at p) (comp_at p)) (option_ports d.guard) (source_ports d.src)).1 both)))

pub returns-then-not-is_only_done : goal.returns-then-not-is_only_done
returns-then-not-is_only_done c =
    let p = c.args.place.now in
    let g = group_tree (names_at p) c.args.group.now in
    let d = done_tree (names_at p) c.args.done.now in
    let item = TheDone g (take c.args.number g.dones) d in
    let reads = c.in_ok-reads.ensures (names_at p) c.requires.numbers.1 c.requires.numbers.2 in
    let same = ap (map (port_tree (names_at p))) c.deref-2.ensures.value ∙ reads.ports in
    let A : List PortName → Type 0 = All (IsSource (design_at p) (comp_at p)) in
    let sources = (all_both (IsSource (design_at p) (comp_at p)) (option_ports d.guard) (source_ports d.src)).0 (subst A same (c.are_sources.ensures.0 c.if-not-are_sources.false)) in
    is_C7 (KeepsAt p item) tt (c.done_names_known.ensures.0 c.if-not-done_names_known.false) tt (c.done_agrees.ensures.0 c.if-not-done_agrees.false) tt sources
    (not_from_Decides c.is_only_done.result c.is_only_done.ensures c.if-not-is_only_done.true)

pub returns-then-not-may_have_done : goal.returns-then-not-may_have_done
returns-then-not-may_have_done c =
    let p = c.args.place.now in
    let g = group_tree (names_at p) c.args.group.now in
    let d = done_tree (names_at p) c.args.done.now in
    let item = TheDone g (take c.args.number g.dones) d in
    let reads = c.in_ok-reads.ensures (names_at p) c.requires.numbers.1 c.requires.numbers.2 in
    let same = ap (map (port_tree (names_at p))) c.deref-2.ensures.value ∙ reads.ports in
    let A : List PortName → Type 0 = All (IsSource (design_at p) (comp_at p)) in
    let sources = (all_both (IsSource (design_at p) (comp_at p)) (option_ports d.guard) (source_ports d.src)).0 (subst A same (c.are_sources.ensures.0 c.if-not-are_sources.false)) in
    is_C8 (KeepsAt p item) tt (c.done_names_known.ensures.0 c.if-not-done_names_known.false) tt (c.done_agrees.ensures.0 c.if-not-done_agrees.false) tt sources (c.is_only_done.ensures.0 c.if-not-is_only_done.false)
    (not_from_Decides c.may_have_done.result (c.may_have_done.ensures (names_at p)) c.if-not-may_have_done.true)

pub returns : goal.returns
returns c =
    let p = c.args.place.now in
    let g = group_tree (names_at p) c.args.group.now in
    let d = done_tree (names_at p) c.args.done.now in
    let item = TheDone g (take c.args.number g.dones) d in
    let reads = c.in_ok-reads.ensures (names_at p) c.requires.numbers.1 c.requires.numbers.2 in
    let same = ap (map (port_tree (names_at p))) c.deref-2.ensures.value ∙ reads.ports in
    let A : List PortName → Type 0 = All (IsSource (design_at p) (comp_at p)) in
    let sources = (all_both (IsSource (design_at p) (comp_at p)) (option_ports d.guard) (source_ports d.src)).0 (subst A same (c.are_sources.ensures.0 c.if-not-are_sources.false)) in
    all_kept (KeepsAt p item) tt (c.done_names_known.ensures.0 c.if-not-done_names_known.false) tt (c.done_agrees.ensures.0 c.if-not-done_agrees.false) tt sources (c.is_only_done.ensures.0 c.if-not-is_only_done.false)
    ((c.may_have_done.ensures (names_at p)).0 c.if-not-may_have_done.false) tt tt tt
