use Rattle.std.proofs.Common.{◌≢◌, ◌+◌, ◌<◌, length, map, sym, ap, subst, length-set, get_or-set_other, ◌∙◌, arith}
use Rattle.std.proofs.lemmas.List.{length-map}
use Rattle.std.proofs.lemmas.Option.{slice_get_within}
use Rattle.net_steps.specs.Operations.{value_of, IsBelow}
use Rattle.net_steps.specs.declared.operation.Operation.{Operation}
use Rattle.net_steps.proofs.OperationLemmas.{below_more, made_more}
use Rattle.net_steps.proofs.RunLemmas.{mapped_at}
use Rattle.net_steps.proofs.row.make.Goals as goal

pub result-value-requires-clause-below : goal.result-value-requires-clause-below
result-value-requires-clause-below g c =
    let steps = c.args.steps.now in
    let i = c.loop-number.number in
    let slots = c.loop-number.slots in
    let step = g.S.Step.meaning c.index-steps-number.result in
    let here = mapped_at g.S.Step.meaning steps i c.index-steps-number.result c.loop-number-test.true c.index-steps-number.is in
    let P : Operation → Type 0 = λ one. IsBelow c.args.others.now c.args.choices.now (length slots) one in
    subst P (sym c.operation.ensures)
    (below_more c.args.others.now c.args.choices.now (c.args.base + i) (length slots) step (omega (arith, c.loop-number-test.true, c.requires.room, c.loop-number.invariant.count)) (c.requires.below i step here))

pub loop-number-preserved : goal.loop-number-preserved
loop-number-preserved g c =
    let steps = c.args.steps.now in
    let slots = c.loop-number.slots in
    let i = c.loop-number.number in
    let step = g.S.Step.meaning c.index-steps-number.result in
    let here = mapped_at g.S.Step.meaning steps i c.index-steps-number.result c.loop-number-test.true c.index-steps-number.is in
    let room : c.args.base + i < length slots = omega (arith, c.loop-number-test.true, c.requires.room, c.loop-number.invariant.count) in
    record {
      count = length-set slots (c.args.base + i) c.result-value.result ∙ c.loop-number.invariant.count;
      opening = λ k lt. let ne : k ≢ c.args.base + i = omega (arith, lt) in get_or-set_other slots (c.args.base + i) k c.result-value.result 0 ne ∙ c.loop-number.invariant.opening k lt;
      made = made_more c.args.others.now c.args.choices.now c.args.base i (map g.S.Step.meaning steps) slots step c.result-value.result room c.requires.below here
          (c.result-value.ensures ∙ ap (value_of c.args.others.now c.args.choices.now slots) c.operation.ensures) c.loop-number.invariant.made;
    }

pub returns-clause-made : goal.returns-clause-made
returns-clause-made g c = λ k step at.
    let steps = c.args.steps.now in
    let lt = slice_get_within (map g.S.Step.meaning steps) k step at in
    c.loop-number.invariant.made k step (omega (arith, lt, length-map steps g.S.Step.meaning, c.loop-number-test.false)) at
