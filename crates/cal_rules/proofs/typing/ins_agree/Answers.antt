use Rattle.std.proofs.Common.{◌≤◌, length, None, arith}
use Rattle.std.proofs.lemmas.Bool.Decides.{not_from_Decides}
use Rattle.hw_names.specs.Name.{text_of}
use Rattle.cal_ast.specs.Typing.{InAgrees}
use Rattle.cal_ast.specs.Tree.{in_tree}
use Rattle.cal_ast.specs.declared.tree.InBind.{InBind}
use Rattle.net_core.specs.declared.net.Src.TheVariants.{Port}
use Rattle.cal_place.specs.Around.{comp_at, design_at, names_at}
use Rattle.cal_rules.proofs.EachLemmas.{each_fails, each_more, each_passes}
use Rattle.cal_rules.proofs.typing.ins_agree.Goals as goal

nothing : InBind
nothing = record { port = record { 0 = 0 }; src = Port (record { cell = None; port = record { 0 = 0 } }) }

pub in_agrees-requires-clause-bind : goal.in_agrees-requires-clause-bind
unfolding nothing
in_agrees-requires-clause-bind c = c.requires.ins c.loop-bind.bind-index nothing c.loop-bind-test.true

pub returns-then-not-in_agrees : goal.returns-then-not-in_agrees
unfolding nothing
returns-then-not-in_agrees c =
    let p = c.args.place.now in
    each_fails (InAgrees (design_at p) (comp_at p) (text_of (names_at p) c.args.cell)) (in_tree (names_at p)) c.args.ins.now c.loop-bind.bind-index nothing c.loop-bind-test.true
    (not_from_Decides c.in_agrees.result c.in_agrees.ensures c.if-not-in_agrees.true)

pub loop-bind-preserved : goal.loop-bind-preserved
unfolding nothing
loop-bind-preserved c =
    let p = c.args.place.now in
    each_more (InAgrees (design_at p) (comp_at p) (text_of (names_at p) c.args.cell)) (in_tree (names_at p)) c.args.ins.now c.loop-bind.bind-index nothing c.loop-bind-test.true c.loop-bind.invariant
    (c.in_agrees.ensures.0 c.if-not-in_agrees.false)

pub returns : goal.returns
returns c =
    let p = c.args.place.now in
    let end : length c.args.ins.now ≤ c.loop-bind.bind-index = omega arith in
    each_passes (InAgrees (design_at p) (comp_at p) (text_of (names_at p) c.args.cell)) (in_tree (names_at p)) c.args.ins.now c.loop-bind.bind-index end c.loop-bind.invariant
