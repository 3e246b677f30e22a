use Rattle.std.proofs.Common.{◌≤◌, length, None, arith}
use Rattle.std.proofs.lemmas.Bool.Decides.{not_from_Decides}
use Rattle.cal_ast.specs.Naming.{IsKnownPort}
use Rattle.cal_ast.specs.Tree.{port_tree}
use Rattle.cal_ast.specs.declared.tree.CalPort.{CalPort}
use Rattle.cal_place.specs.Around.{comp_at, design_at, names_at}
use Rattle.cal_rules.proofs.EachLemmas.{each_fails, each_more, each_passes}
use Rattle.cal_rules.proofs.naming.are_known.Goals as goal

nothing : CalPort
nothing = record { cell = None; port = record { 0 = 0 } }

pub is_known-requires : goal.is_known-requires
unfolding nothing
is_known-requires c = c.requires c.loop-port.port-index nothing c.loop-port-test.true

pub returns-then-not-is_known : goal.returns-then-not-is_known
unfolding nothing
returns-then-not-is_known c =
    let p = c.args.place.now in
    each_fails (IsKnownPort (design_at p) (comp_at p)) (port_tree (names_at p)) c.args.ports.now c.loop-port.port-index nothing c.loop-port-test.true
    (not_from_Decides c.is_known.result c.is_known.ensures c.if-not-is_known.true)

pub loop-port-preserved : goal.loop-port-preserved
unfolding nothing
loop-port-preserved c =
    let p = c.args.place.now in
    each_more (IsKnownPort (design_at p) (comp_at p)) (port_tree (names_at p)) c.args.ports.now c.loop-port.port-index nothing c.loop-port-test.true c.loop-port.invariant
    (c.is_known.ensures.0 c.if-not-is_known.false)

pub returns : goal.returns
returns c =
    let p = c.args.place.now in
    let end : length c.args.ports.now ≤ c.loop-port.port-index = omega arith in
    each_passes (IsKnownPort (design_at p) (comp_at p)) (port_tree (names_at p)) c.args.ports.now c.loop-port.port-index end c.loop-port.invariant
