use Rattle.std.proofs.Common.{◌≡◌, ◌≤◌, get_or, length, map, None, slice_get, Some, sym, ap, ◌∙◌, arith}
use Rattle.std.proofs.lemmas.List.{length-map}
use Rattle.net_core.specs.declared.net.Src.TheVariants.{Port}
use Rattle.cal_ast.specs.Tree.{InBinding, in_tree}
use Rattle.cal_ast.specs.declared.tree.InBind.{InBind}
use Rattle.cal_place.specs.Around.{names_at}
use Rattle.cal_place.proofs.FirstLemmas.{firsts_all, firsts_more}
use Rattle.cal_place.proofs.FoundLemmas.{to_map}
use Rattle.cal_place.proofs.ListLemmas.{mapped_at}
use Rattle.cal_rules.proofs.controlling.bind_once.Goals as goal

nothing : InBind
nothing = record { port = record { 0 = 0 }; src = Port (record { cell = None; port = record { 0 = 0 } }) }

pub text-requires : goal.text-requires
unfolding nothing
text-requires c = (c.requires c.loop-number.number nothing c.loop-number-test.true).0

pub loop-number-preserved : goal.loop-number-preserved
unfolding nothing
loop-number-preserved c =
    let tree = in_tree (names_at c.args.place.now) in
    let ins = c.args.ins.now in
    let k = c.loop-number.number in
    let bindings = map tree ins in
    let pins = map (λ (b : InBinding). b.pin) bindings in
    let at : slice_get pins k ≡ Some c.text.result.now =
    to_map (λ (b : InBinding). b.pin) bindings k (tree (get_or ins k nothing)) (mapped_at tree ins k nothing c.loop-number-test.true) ∙ ap Some (sym c.text.ensures) in
    firsts_more pins k c.text.result.now c.loop-number.bound c.add.new.self at c.in_ok-add.ensures c.loop-number.invariant

pub returns : goal.returns
returns c =
    let tree = in_tree (names_at c.args.place.now) in
    let ins = c.args.ins.now in
    let bindings = map tree ins in
    let pins = map (λ (b : InBinding). b.pin) bindings in
    let end : length pins ≤ c.loop-number.number = omega (arith, c.loop-number-test.false, length-map bindings (λ (b : InBinding). b.pin), length-map ins tree) in
    c.are_distinct.ensures pins (firsts_all pins c.loop-number.number c.loop-number.bound end c.loop-number.invariant)
