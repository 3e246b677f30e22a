use Rattle.std.proofs.Common.{◌≤◌, length, None, arith}
use Rattle.std.proofs.lemmas.Bool.Decides.{not_from_Decides}
use Rattle.cal_ast.specs.Sides.{IsDestination}
use Rattle.cal_ast.specs.Tree.{OutBinding, out_tree}
use Rattle.cal_ast.specs.declared.tree.OutBind.{OutBind}
use Rattle.cal_place.specs.Around.{comp_at, design_at, names_at}
use Rattle.cal_rules.proofs.EachLemmas.{each_fails, each_more, each_passes}
use Rattle.cal_rules.proofs.sides.drive_destinations.Goals as goal

nothing : OutBind
nothing = record { port = record { 0 = 0 }; dst = record { cell = None; port = record { 0 = 0 } } }

pub is_destination-requires : goal.is_destination-requires
unfolding nothing
is_destination-requires c = (c.requires c.loop-bind.bind-index nothing c.loop-bind-test.true).1

pub returns-then-not-is_destination : goal.returns-then-not-is_destination
unfolding nothing
returns-then-not-is_destination c =
    let p = c.args.place.now in
    each_fails (λ (b : OutBinding). IsDestination (design_at p) (comp_at p) b.dst) (out_tree (names_at p)) c.args.outs.now c.loop-bind.bind-index nothing c.loop-bind-test.true
    (not_from_Decides c.is_destination.result c.is_destination.ensures c.if-not-is_destination.true)

pub loop-bind-preserved : goal.loop-bind-preserved
unfolding nothing
loop-bind-preserved c =
    let p = c.args.place.now in
    each_more (λ (b : OutBinding). IsDestination (design_at p) (comp_at p) b.dst) (out_tree (names_at p)) c.args.outs.now c.loop-bind.bind-index nothing c.loop-bind-test.true c.loop-bind.invariant
    (c.is_destination.ensures.0 c.if-not-is_destination.false)

pub returns : goal.returns
returns c =
    let p = c.args.place.now in
    let end : length c.args.outs.now ≤ c.loop-bind.bind-index = omega arith in
    each_passes (λ (b : OutBinding). IsDestination (design_at p) (comp_at p) b.dst) (out_tree (names_at p)) c.args.outs.now c.loop-bind.bind-index end c.loop-bind.invariant
