use Rattle.std.proofs.Common.{◌≡◌, ◌<◌, ◌≤◌, length, slice_get, Some, refl, ap, arith}
use Rattle.std.proofs.lemmas.List.{length-map}
use Rattle.std.proofs.lemmas.Option.{slice_get_read}
use Rattle.cal_ast.specs.Tree.{component_tree, design_of}
use Rattle.cal_check.specs.Weight.{own_weight}
use Rattle.cal_place.proofs.ListLemmas.{at_mapped}
use Rattle.cal_check.proofs.WeightLemmas.{own_all, own_more, own_none}
use Rattle.cal_check.proofs.weight.own_weights.Goals as goal

pub bounds-signatures-number : goal.bounds-signatures-number
bounds-signatures-number c =
    let d = c.args.design.now in
    omega (arith, c.requires.sized, ap length c.deref-comp-items.ensures.value, length-map d.comps.items (component_tree d.names))

pub loop-number-init : goal.loop-number-init
loop-number-init c = own_none own_weight c.new-weights.result.items c.new-weights.ensures.items

pub loop-number-preserved : goal.loop-number-preserved
loop-number-preserved c =
    let d = c.args.design.now in
    let n = c.loop-number.number in
    let comp = component_tree d.names c.comp-item.result in
    let at : slice_get (design_of d) n ≡ Some comp =
    at_mapped (component_tree d.names) d.comps.items c.deref-comp-items.result.now n c.comp-item.result c.deref-comp-items.ensures.value c.loop-number-test.true c.comp-item.is in
    let signatures = c.args.signatures.now in
    let s = c.index-signatures-number.result in
    let within : n < length signatures = omega (arith, c.requires.sized, ap length c.deref-comp-items.ensures.value, length-map d.comps.items (component_tree d.names)) in
    let shown : slice_get signatures n ≡ Some s = slice_get_read signatures (length signatures) n s refl within c.index-signatures-number.is in
    own_more own_weight (design_of d) n comp c.loop-number.weights.items c.push.new.self.items c.own_weight.result at c.in_ok-push.ensures.items (c.own_weight.ensures d.names (c.requires.each n comp s at shown)) c.loop-number.invariant

pub returns : goal.returns
returns c =
    let d = c.args.design.now in
    let end : length (design_of d) ≤ c.loop-number.number =
    omega (arith, ap length c.deref-comp-items.ensures.value, length-map d.comps.items (component_tree d.names)) in
    own_all own_weight (design_of d) c.loop-number.number c.loop-number.weights.items end c.loop-number.invariant
