use Rattle.std.proofs.Common.{◌≤◌, length, None, arith}
use Rattle.std.proofs.lemmas.Bool.Decides.{not_from_Decides}
use Rattle.cal_ast.specs.Sides.{IsSource}
use Rattle.cal_ast.specs.Tree.{port_tree}
use Rattle.cal_ast.specs.declared.tree.CalPort.{CalPort}
use Rattle.cal_place.specs.Around.{comp_at, design_at, names_at}
use Rattle.cal_rules.proofs.EachLemmas.{each_fails, each_more, each_passes}
use Rattle.cal_rules.proofs.sides.are_sources.Goals as goal

nothing : CalPort
nothing = record { cell = None; port = record { 0 = 0 } }

pub is_source-requires : goal.is_source-requires
unfolding nothing
is_source-requires c = c.requires c.loop-port.port-index nothing c.loop-port-test.true

pub returns-then-not-is_source : goal.returns-then-not-is_source
unfolding nothing
returns-then-not-is_source c =
    let p = c.args.place.now in
    each_fails (IsSource (design_at p) (comp_at p)) (port_tree (names_at p)) c.args.ports.now c.loop-port.port-index nothing c.loop-port-test.true
    (not_from_Decides c.is_source.result c.is_source.ensures c.if-not-is_source.true)

pub loop-port-preserved : goal.loop-port-preserved
unfolding nothing
loop-port-preserved c =
    let p = c.args.place.now in
    each_more (IsSource (design_at p) (comp_at p)) (port_tree (names_at p)) c.args.ports.now c.loop-port.port-index nothing c.loop-port-test.true c.loop-port.invariant
    (c.is_source.ensures.0 c.if-not-is_source.false)

pub returns : goal.returns
returns c =
    let p = c.args.place.now in
    let end : length c.args.ports.now ≤ c.loop-port.port-index = omega arith in
    each_passes (IsSource (design_at p) (comp_at p)) (port_tree (names_at p)) c.args.ports.now c.loop-port.port-index end c.loop-port.invariant
