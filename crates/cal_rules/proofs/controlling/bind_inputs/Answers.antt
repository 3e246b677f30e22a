use Rattle.std.proofs.Common.{bytes_eq, ◌≤◌, length, None, sym, ◌∙◌, arith}
use Rattle.std.proofs.lemmas.Bool.Decides.{not_from_Decides}
use Rattle.std.proofs.lemmas.Slice.Eq.{bytes_eq-Decides}
use Rattle.hw_names.specs.Name.{text_of}
use Rattle.net_core.specs.declared.net.Src.TheVariants.{Port}
use Rattle.cal_ast.specs.Controlling.{BindsInput}
use Rattle.cal_ast.specs.Tree.{in_tree}
use Rattle.cal_ast.specs.declared.tree.InBind.{InBind}
use Rattle.cal_place.specs.Around.{comp_at, design_at, names_at}
use Rattle.cal_rules.proofs.EachLemmas.{each_fails, each_more, each_passes}
use Rattle.cal_rules.proofs.controlling.bind_inputs.Goals as goal

nothing : InBind
nothing = record { port = record { 0 = 0 }; src = Port (record { cell = None; port = record { 0 = 0 } }) }

pub text-requires : goal.text-requires
unfolding nothing
text-requires c = (c.requires.ins c.loop-bind.bind-index nothing c.loop-bind-test.true).0

pub is_on_side-requires : goal.is_on_side-requires
unfolding nothing
is_on_side-requires c = (c.requires.cell, (c.requires.ins c.loop-bind.bind-index nothing c.loop-bind-test.true).0)

pub returns-then-eq : goal.returns-then-eq
unfolding nothing
returns-then-eq c =
    let p = c.args.place.now in
    let same = sym c.text.ensures ∙ (bytes_eq-Decides c.text.result.now c.args.go.now).0 (sym c.eq.ensures ∙ c.if-eq.true) in
    each_fails (BindsInput (design_at p) (comp_at p) (text_of (names_at p) c.args.cell) c.args.go.now) (in_tree (names_at p)) c.args.ins.now c.loop-bind.bind-index nothing c.loop-bind-test.true
    (λ binds. binds.1 same)

pub returns-then-not-is_on_side : goal.returns-then-not-is_on_side
unfolding nothing
returns-then-not-is_on_side c =
    let p = c.args.place.now in
    each_fails (BindsInput (design_at p) (comp_at p) (text_of (names_at p) c.args.cell) c.args.go.now) (in_tree (names_at p)) c.args.ins.now c.loop-bind.bind-index nothing c.loop-bind-test.true
    (λ binds. not_from_Decides c.is_on_side.result c.is_on_side.ensures c.if-not-is_on_side.true binds.0)

pub loop-bind-preserved : goal.loop-bind-preserved
unfolding nothing
loop-bind-preserved c =
    let p = c.args.place.now in
    let differ = not_from_Decides (bytes_eq c.text.result.now c.args.go.now) (bytes_eq-Decides c.text.result.now c.args.go.now) (sym c.eq.ensures ∙ c.if-eq.false) in
    each_more (BindsInput (design_at p) (comp_at p) (text_of (names_at p) c.args.cell) c.args.go.now) (in_tree (names_at p)) c.args.ins.now c.loop-bind.bind-index nothing c.loop-bind-test.true c.loop-bind.invariant
    (c.is_on_side.ensures.0 c.if-not-is_on_side.false, λ same. differ (c.text.ensures ∙ same))

pub returns : goal.returns
returns c =
    let p = c.args.place.now in
    let end : length c.args.ins.now ≤ c.loop-bind.bind-index = omega arith in
    each_passes (BindsInput (design_at p) (comp_at p) (text_of (names_at p) c.args.cell) c.args.go.now) (in_tree (names_at p)) c.args.ins.now c.loop-bind.bind-index end c.loop-bind.invariant
