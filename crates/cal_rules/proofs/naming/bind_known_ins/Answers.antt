use Rattle.std.proofs.Common.{◌≤◌, length, None, arith}
use Rattle.std.proofs.lemmas.Bool.Decides.{not_from_Decides}
use Rattle.hw_names.specs.Name.{text_of}
use Rattle.cal_ast.specs.Naming.{BindsKnownIn}
use Rattle.cal_ast.specs.Tree.{in_tree}
use Rattle.cal_ast.specs.declared.tree.InBind.{InBind}
use Rattle.net_core.specs.declared.net.Src.TheVariants.{Port}
use Rattle.cal_place.specs.Around.{comp_at, design_at, names_at}
use Rattle.cal_rules.proofs.EachLemmas.{each_fails, each_more, each_passes}
use Rattle.cal_rules.proofs.naming.bind_known_ins.Goals as goal

nothing : InBind
nothing = record { port = record { 0 = 0 }; src = Port (record { cell = None; port = record { 0 = 0 } }) }

pub binds_known_in-requires-clause-bind : goal.binds_known_in-requires-clause-bind
unfolding nothing
binds_known_in-requires-clause-bind c = c.requires.ins c.loop-bind.bind-index nothing c.loop-bind-test.true

pub returns-then-not-binds_known_in : goal.returns-then-not-binds_known_in
unfolding nothing
returns-then-not-binds_known_in c =
    let p = c.args.place.now in
    each_fails (BindsKnownIn (design_at p) (comp_at p) (text_of (names_at p) c.args.cell)) (in_tree (names_at p)) c.args.ins.now c.loop-bind.bind-index nothing c.loop-bind-test.true
    (not_from_Decides c.binds_known_in.result c.binds_known_in.ensures c.if-not-binds_known_in.true)

pub loop-bind-preserved : goal.loop-bind-preserved
unfolding nothing
loop-bind-preserved c =
    let p = c.args.place.now in
    each_more (BindsKnownIn (design_at p) (comp_at p) (text_of (names_at p) c.args.cell)) (in_tree (names_at p)) c.args.ins.now c.loop-bind.bind-index nothing c.loop-bind-test.true c.loop-bind.invariant
    (c.binds_known_in.ensures.0 c.if-not-binds_known_in.false)

pub returns : goal.returns
returns c =
    let p = c.args.place.now in
    let end : length c.args.ins.now ≤ c.loop-bind.bind-index = omega arith in
    each_passes (BindsKnownIn (design_at p) (comp_at p) (text_of (names_at p) c.args.cell)) (in_tree (names_at p)) c.args.ins.now c.loop-bind.bind-index end c.loop-bind.invariant
