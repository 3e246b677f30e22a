use Rattle.std.proofs.Common.{codes, subst, ◌∙◌}
use Rattle.cal_ast.specs.Tree.{PortName, own}
use Rattle.cal_place.specs.Around.{comp_at, design_at}
use Rattle.cal_wires.specs.Nodes.{APort, AHole}
use Rattle.cal_wires.specs.WireGraphs.{HasHole, HasNumber}
use Rattle.std.proofs.lemmas.Bool.Decides.{not_from_Decides}
use Rattle.cal_wires.proofs.GainLemmas.{go_added, go_none, number_kept, number_within}
use Rattle.cal_wires.proofs.readings.add_hole.Goals.{In_ok-go}
use Rattle.cal_wires.proofs.readings.add_hole.Goals as goal

pub port-requires : goal.port-requires
port-requires c = c.own_port.ensures.numbers c.hole.new.self.ports.names tt

pub returns-then-not-has_go-clause-adds : goal.returns-then-not-has_go-clause-adds
returns-then-not-has_go-clause-adds c =
    let p = c.args.place.now in
    go_none (design_at p) (comp_at p) c.args.graph.now.holes c.args.graph.now c.hole.new.self (not_from_Decides c.has_go.result c.has_go.ensures c.if-not-has_go.true) c.in_ok-hole.ensures.adds

is_hole : (c : In_ok-go) → HasHole c.port.new.self c.in_ok-hole.hole
is_hole c = number_kept c.hole.new.self c.port.new.self _ c.in_ok-hole.hole.node c.port.ensures.grows.adds.texts c.in_ok-hole.ensures.hole

pub add-requires : goal.add-requires
add-requires c =
    let r : In_ok-go = (goal.at.add-requires c).In_ok-go in
    record { key = number_within r.port.new.self _ r.in_ok-hole.hole.node (is_hole r); value = number_within r.port.new.self _ r.in_ok-go.go r.in_ok-go.ensures.number }

pub returns-clause-hole : goal.returns-clause-hole
returns-clause-hole c =
    let r : In_ok-go = (goal.at.returns-clause-hole c).In_ok-go in
    let h = r.in_ok-hole.hole in
    let go = subst (λ (p : PortName). HasNumber r.port.new.self (APort p) r.in_ok-go.go) (r.own_port.ensures.is r.hole.new.self.ports.names) r.in_ok-go.ensures.number in
    number_kept r.port.new.self c.add.new.self (AHole h.group) h.node (c.in_ok-add.ensures.pair (AHole h.group) (APort (own (codes "go"))) (is_hole r) go).adds.texts (is_hole r)

pub returns-clause-adds : goal.returns-clause-adds
returns-clause-adds c =
    let r : In_ok-go = (goal.at.returns-clause-adds c).In_ok-go in
    let p = r.args.place.now in
    let h = r.in_ok-hole.hole in
    let go = subst (λ (x : PortName). HasNumber r.port.new.self (APort x) r.in_ok-go.go) (r.own_port.ensures.is r.hole.new.self.ports.names) r.in_ok-go.ensures.number in
    let pair = c.in_ok-add.ensures.pair (AHole h.group) (APort (own (codes "go"))) (is_hole r) go in
    go_added (design_at p) (comp_at p) r.args.graph.now.holes h.group r.args.graph.now r.hole.new.self r.port.new.self c.add.new.self r.in_ok-hole.ensures.group (r.has_go.ensures.0 r.if-not-has_go.false) r.in_ok-hole.ensures.adds r.port.ensures.grows pair

pub returns-clause-holes : goal.returns-clause-holes
returns-clause-holes c =
    let r : In_ok-go = (goal.at.returns-clause-holes c).In_ok-go in
    let h = r.in_ok-hole.hole in
    let go = subst (λ (x : PortName). HasNumber r.port.new.self (APort x) r.in_ok-go.go) (r.own_port.ensures.is r.hole.new.self.ports.names) r.in_ok-go.ensures.number in
    (c.in_ok-add.ensures.pair (AHole h.group) (APort (own (codes "go"))) (is_hole r) go).holes ∙ r.port.ensures.grows.holes ∙ r.in_ok-hole.ensures.holes
