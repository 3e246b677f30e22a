use Rattle.std.proofs.Common.{◌≤◌, length, None, arith}
use Rattle.std.proofs.lemmas.Bool.Decides.{not_from_Decides}
use Rattle.hw_names.specs.Name.{text_of}
use Rattle.cal_ast.specs.Controlling.{BindsOutput}
use Rattle.cal_ast.specs.Tree.{out_tree}
use Rattle.cal_ast.specs.declared.tree.OutBind.{OutBind}
use Rattle.cal_place.specs.Around.{comp_at, design_at, names_at}
use Rattle.cal_rules.proofs.EachLemmas.{each_fails, each_more, each_passes}
use Rattle.cal_rules.proofs.controlling.bind_outputs.Goals as goal

nothing : OutBind
nothing = record { port = record { 0 = 0 }; dst = record { cell = None; port = record { 0 = 0 } } }

pub is_on_side-requires : goal.is_on_side-requires
unfolding nothing
is_on_side-requires c = (c.requires.cell, (c.requires.outs c.loop-bind.bind-index nothing c.loop-bind-test.true).0)

pub returns-then-not-is_on_side : goal.returns-then-not-is_on_side
unfolding nothing
returns-then-not-is_on_side c =
    let p = c.args.place.now in
    each_fails (BindsOutput (design_at p) (comp_at p) (text_of (names_at p) c.args.cell)) (out_tree (names_at p)) c.args.outs.now c.loop-bind.bind-index nothing c.loop-bind-test.true
    (not_from_Decides c.is_on_side.result c.is_on_side.ensures c.if-not-is_on_side.true)

pub loop-bind-preserved : goal.loop-bind-preserved
unfolding nothing
loop-bind-preserved c =
    let p = c.args.place.now in
    each_more (BindsOutput (design_at p) (comp_at p) (text_of (names_at p) c.args.cell)) (out_tree (names_at p)) c.args.outs.now c.loop-bind.bind-index nothing c.loop-bind-test.true c.loop-bind.invariant
    (c.is_on_side.ensures.0 c.if-not-is_on_side.false)

pub returns : goal.returns
returns c =
    let p = c.args.place.now in
    let end : length c.args.outs.now ≤ c.loop-bind.bind-index = omega arith in
    each_passes (BindsOutput (design_at p) (comp_at p) (text_of (names_at p) c.args.cell)) (out_tree (names_at p)) c.args.outs.now c.loop-bind.bind-index end c.loop-bind.invariant
