use Rattle.std.proofs.Common.{List, All, map, sym, ap, subst, ◌∙◌}
use Rattle.std.proofs.lemmas.Bool.Decides.{not_from_Decides}
use Rattle.cal_ast.specs.Items.{TheAssignment}
use Rattle.cal_ast.specs.Numbers.{PortHasNumbers}
use Rattle.cal_ast.specs.Sides.{IsSource}
use Rattle.cal_ast.specs.Tree.{PortName, assignment_tree, port_tree}
use Rattle.cal_ast.specs.Wires.{set_ports}
use Rattle.cal_ast.specs.declared.tree.CalPort.{CalPort}
use Rattle.net_core.specs.Graph.{option_ports, source_ports}
use Rattle.cal_place.specs.Around.{KeepsAt, comp_at, design_at, names_at}
use Rattle.cal_place.specs.ReadPorts.{AreReads}
use Rattle.cal_rules.proofs.LeastLemmas.{all_kept, is_C2, is_C4, is_C5, is_C6}
use Rattle.cal_place.proofs.ReadLemmas.{all_both}
use Rattle.cal_rules.proofs.item.at_assignment.Goals as goal

pub names_known-requires-clause-reads : goal.names_known-requires-clause-reads
names_known-requires-clause-reads c =
    let p = c.args.place.now in
    let A : List CalPort → Type 0 = AreReads (names_at p) (set_ports (assignment_tree (names_at p) c.args.set.now)) in
    subst A (sym c.deref.ensures.value) (c.in_ok-reads.ensures (names_at p) c.requires.1 c.requires.2)

pub are_sources-requires : goal.are_sources-requires
are_sources-requires c =
    let p = c.args.place.now in
    let A : List CalPort → Type 0 = All (PortHasNumbers (names_at p)) in
    subst A (sym c.deref-2.ensures.value) (c.in_ok-reads.ensures (names_at p) c.requires.1 c.requires.2).numbers

pub returns-then-not-names_known : goal.returns-then-not-names_known
returns-then-not-names_known c =
    let p = c.args.place.now in
    is_C2 (KeepsAt p (TheAssignment (assignment_tree (names_at p) c.args.set.now))) tt (not_from_Decides c.names_known.result c.names_known.ensures c.if-not-names_known.true)

pub returns-then-not-widths_agree : goal.returns-then-not-widths_agree
returns-then-not-widths_agree c =
    let p = c.args.place.now in
    is_C4 (KeepsAt p (TheAssignment (assignment_tree (names_at p) c.args.set.now))) tt (c.names_known.ensures.0 c.if-not-names_known.false) tt
    (not_from_Decides c.widths_agree.result c.widths_agree.ensures c.if-not-widths_agree.true)

pub returns-then-not-drives_destination : goal.returns-then-not-drives_destination
returns-then-not-drives_destination c =
    let p = c.args.place.now in
    is_C5 (KeepsAt p (TheAssignment (assignment_tree (names_at p) c.args.set.now))) tt (c.names_known.ensures.0 c.if-not-names_known.false) tt (c.widths_agree.ensures.0 c.if-not-widths_agree.false)
    (not_from_Decides c.drives_destination.result c.drives_destination.ensures c.if-not-drives_destination.true)

pub returns-then-not-are_sources : goal.returns-then-not-are_sources
returns-then-not-are_sources c =
    let p = c.args.place.now in
    let a = assignment_tree (names_at p) c.args.set.now in
    let reads = c.in_ok-reads.ensures (names_at p) c.requires.1 c.requires.2 in
    let same = ap (map (port_tree (names_at p))) c.deref-2.ensures.value ∙ reads.ports in
    let A : List PortName → Type 0 = All (IsSource (design_at p) (comp_at p)) in
    is_C6 (KeepsAt p (TheAssignment a)) tt (c.names_known.ensures.0 c.if-not-names_known.false) tt (c.widths_agree.ensures.0 c.if-not-widths_agree.false) (c.drives_destination.ensures.0 c.if-not-drives_destination.false)
    (λ both. not_from_Decides c.are_sources.result c.are_sources.ensures c.if-not-are_sources.true
    (subst A (sym same) ((all_both (IsSource (design_at p) (comp_at p)) (option_ports a.guard) (source_ports a.src)).1 both)))

pub returns : goal.returns
returns c =
    let p = c.args.place.now in
    let a = assignment_tree (names_at p) c.args.set.now in
    let reads = c.in_ok-reads.ensures (names_at p) c.requires.1 c.requires.2 in
    let same = ap (map (port_tree (names_at p))) c.deref-2.ensures.value ∙ reads.ports in
    let A : List PortName → Type 0 = All (IsSource (design_at p) (comp_at p)) in
    all_kept (KeepsAt p (TheAssignment a)) tt (c.names_known.ensures.0 c.if-not-names_known.false) tt (c.widths_agree.ensures.0 c.if-not-widths_agree.false) (c.drives_destination.ensures.0 c.if-not-drives_destination.false)
    ((all_both (IsSource (design_at p) (comp_at p)) (option_ports a.guard) (source_ports a.src)).0 (subst A same (c.are_sources.ensures.0 c.if-not-are_sources.false))) tt tt tt tt tt
