use Rattle.std.proofs.Common.{◌≤◌, length, None, arith}
use Rattle.std.proofs.lemmas.Bool.Decides.{not_from_Decides}
use Rattle.hw_names.specs.Name.{text_of}
use Rattle.cal_ast.specs.Naming.{BindsKnownOut}
use Rattle.cal_ast.specs.Tree.{out_tree}
use Rattle.cal_ast.specs.declared.tree.OutBind.{OutBind}
use Rattle.cal_place.specs.Around.{comp_at, design_at, names_at}
use Rattle.cal_rules.proofs.EachLemmas.{each_fails, each_more, each_passes}
use Rattle.cal_rules.proofs.naming.bind_known_outs.Goals as goal

nothing : OutBind
nothing = record { port = record { 0 = 0 }; dst = record { cell = None; port = record { 0 = 0 } } }

pub binds_known_out-requires-clause-bind : goal.binds_known_out-requires-clause-bind
unfolding nothing
binds_known_out-requires-clause-bind c = c.requires.outs c.loop-bind.bind-index nothing c.loop-bind-test.true

pub returns-then-not-binds_known_out : goal.returns-then-not-binds_known_out
unfolding nothing
returns-then-not-binds_known_out c =
    let p = c.args.place.now in
    each_fails (BindsKnownOut (design_at p) (comp_at p) (text_of (names_at p) c.args.cell)) (out_tree (names_at p)) c.args.outs.now c.loop-bind.bind-index nothing c.loop-bind-test.true
    (not_from_Decides c.binds_known_out.result c.binds_known_out.ensures c.if-not-binds_known_out.true)

pub loop-bind-preserved : goal.loop-bind-preserved
unfolding nothing
loop-bind-preserved c =
    let p = c.args.place.now in
    each_more (BindsKnownOut (design_at p) (comp_at p) (text_of (names_at p) c.args.cell)) (out_tree (names_at p)) c.args.outs.now c.loop-bind.bind-index nothing c.loop-bind-test.true c.loop-bind.invariant
    (c.binds_known_out.ensures.0 c.if-not-binds_known_out.false)

pub returns : goal.returns
returns c =
    let p = c.args.place.now in
    let end : length c.args.outs.now ≤ c.loop-bind.bind-index = omega arith in
    each_passes (BindsKnownOut (design_at p) (comp_at p) (text_of (names_at p) c.args.cell)) (out_tree (names_at p)) c.args.outs.now c.loop-bind.bind-index end c.loop-bind.invariant
