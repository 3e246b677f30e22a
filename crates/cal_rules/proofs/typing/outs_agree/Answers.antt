use Rattle.std.proofs.Common.{◌≤◌, length, None, arith}
use Rattle.std.proofs.lemmas.Bool.Decides.{not_from_Decides}
use Rattle.hw_names.specs.Name.{text_of}
use Rattle.cal_ast.specs.Typing.{OutAgrees}
use Rattle.cal_ast.specs.Tree.{out_tree}
use Rattle.cal_ast.specs.declared.tree.OutBind.{OutBind}
use Rattle.cal_place.specs.Around.{comp_at, design_at, names_at}
use Rattle.cal_rules.proofs.EachLemmas.{each_fails, each_more, each_passes}
use Rattle.cal_rules.proofs.typing.outs_agree.Goals as goal

nothing : OutBind
nothing = record { port = record { 0 = 0 }; dst = record { cell = None; port = record { 0 = 0 } } }

pub out_agrees-requires-clause-bind : goal.out_agrees-requires-clause-bind
unfolding nothing
out_agrees-requires-clause-bind c = c.requires.outs c.loop-bind.bind-index nothing c.loop-bind-test.true

pub returns-then-not-out_agrees : goal.returns-then-not-out_agrees
unfolding nothing
returns-then-not-out_agrees c =
    let p = c.args.place.now in
    each_fails (OutAgrees (design_at p) (comp_at p) (text_of (names_at p) c.args.cell)) (out_tree (names_at p)) c.args.outs.now c.loop-bind.bind-index nothing c.loop-bind-test.true
    (not_from_Decides c.out_agrees.result c.out_agrees.ensures c.if-not-out_agrees.true)

pub loop-bind-preserved : goal.loop-bind-preserved
unfolding nothing
loop-bind-preserved c =
    let p = c.args.place.now in
    each_more (OutAgrees (design_at p) (comp_at p) (text_of (names_at p) c.args.cell)) (out_tree (names_at p)) c.args.outs.now c.loop-bind.bind-index nothing c.loop-bind-test.true c.loop-bind.invariant
    (c.out_agrees.ensures.0 c.if-not-out_agrees.false)

pub returns : goal.returns
returns c =
    let p = c.args.place.now in
    let end : length c.args.outs.now ≤ c.loop-bind.bind-index = omega arith in
    each_passes (OutAgrees (design_at p) (comp_at p) (text_of (names_at p) c.args.cell)) (out_tree (names_at p)) c.args.outs.now c.loop-bind.bind-index end c.loop-bind.invariant
