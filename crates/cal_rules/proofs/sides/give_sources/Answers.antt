use Rattle.std.proofs.Common.{◌≤◌, length, None, arith}
use Rattle.std.proofs.lemmas.Bool.Decides.{not_from_Decides}
use Rattle.cal_ast.specs.Sides.{IsSource}
use Rattle.std.proofs.Common.{All}
use Rattle.net_core.specs.Graph.{source_ports}
use Rattle.cal_ast.specs.Tree.{InBinding, in_tree}
use Rattle.cal_ast.specs.declared.tree.InBind.{InBind}
use Rattle.net_core.specs.declared.net.Src.TheVariants.{Port}
use Rattle.cal_place.specs.Around.{comp_at, design_at, names_at}
use Rattle.cal_rules.proofs.EachLemmas.{each_fails, each_more, each_passes}
use Rattle.cal_rules.proofs.sides.give_sources.Goals as goal

nothing : InBind
nothing = record { port = record { 0 = 0 }; src = Port (record { cell = None; port = record { 0 = 0 } }) }

pub may_be_read-requires : goal.may_be_read-requires
unfolding nothing
may_be_read-requires c = (c.requires c.loop-bind.bind-index nothing c.loop-bind-test.true).1

pub returns-then-not-may_be_read : goal.returns-then-not-may_be_read
unfolding nothing
returns-then-not-may_be_read c =
    let p = c.args.place.now in
    each_fails (λ (b : InBinding). All (IsSource (design_at p) (comp_at p)) (source_ports b.src)) (in_tree (names_at p)) c.args.ins.now c.loop-bind.bind-index nothing c.loop-bind-test.true
    (not_from_Decides c.may_be_read.result c.may_be_read.ensures c.if-not-may_be_read.true)

pub loop-bind-preserved : goal.loop-bind-preserved
unfolding nothing
loop-bind-preserved c =
    let p = c.args.place.now in
    each_more (λ (b : InBinding). All (IsSource (design_at p) (comp_at p)) (source_ports b.src)) (in_tree (names_at p)) c.args.ins.now c.loop-bind.bind-index nothing c.loop-bind-test.true c.loop-bind.invariant
    (c.may_be_read.ensures.0 c.if-not-may_be_read.false)

pub returns : goal.returns
returns c =
    let p = c.args.place.now in
    let end : length c.args.ins.now ≤ c.loop-bind.bind-index = omega arith in
    each_passes (λ (b : InBinding). All (IsSource (design_at p) (comp_at p)) (source_ports b.src)) (in_tree (names_at p)) c.args.ins.now c.loop-bind.bind-index end c.loop-bind.invariant
