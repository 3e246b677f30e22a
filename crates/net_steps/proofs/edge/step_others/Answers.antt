use Rattle.std.proofs.Common.{◌≡◌, ◌∙◌, ◌<◌, [], Some, get_or, length, sym, ap, arith}
use Rattle.std.proofs.lemmas.Option.{slice_get-get_or}
use Rattle.net_steps.specs.Edge.{IsSteppedOther}
use Rattle.net_steps.proofs.EdgeLemmas.{still, stepped_none, stepped_more, stepped_all}
use Rattle.net_steps.proofs.edge.step_others.Goals as goal

pub loop-number-init : goal.loop-number-init
loop-number-init c = stepped_none c.args.places.now c.args.slots.now c.args.others.now

pub loop-number-preserved : goal.loop-number-preserved
loop-number-preserved c =
    let places = c.args.places.now in
    let old = c.args.others.now in
    let others = c.loop-number.others in
    let i = c.loop-number.number in
    let o = c.index-others-number.result in
    let so_far = c.loop-number.invariant in
    let lt : i < length places = omega (arith, c.loop-number-test.true) in
    let lt_old : i < length old = omega (arith, lt, c.requires.count) in
    let lt_new : i < length others = omega (arith, lt_old, so_far.all) in
    let same : get_or others i o ≡ get_or old i o = still places c.args.slots.now i old others o lt_new so_far in
    let is : IsSteppedOther (get_or places i []) c.args.slots.now (get_or others i o) c.step.new.self = record { prim = c.step.ensures.prim; state = c.step.ensures.state; widths = c.step.ensures.widths; outputs = c.step.ensures.outputs } in
    stepped_more places c.args.slots.now i old others (get_or places i []) (get_or others i o) c.step.new.self (slice_get-get_or places i [] lt) (slice_get-get_or old i o lt_old ∙ ap Some (sym same)) lt_new is so_far

pub returns : goal.returns
returns c = stepped_all c.args.places.now c.args.slots.now c.loop-number.number c.args.others.now c.loop-number.others (omega (arith, c.loop-number-test.false)) c.loop-number.invariant
