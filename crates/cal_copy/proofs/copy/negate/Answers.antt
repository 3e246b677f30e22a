use Rattle.std.proofs.Common.{◌≡◌, ℕ, ap, ◌∙◌, add-one, arith}
use Rattle.cal_copy.specs.inside.Copies.{port_guard}
use Rattle.cal_copy.specs.inside.Negations.{negations}
use Rattle.cal_copy.proofs.CopyLemmas.{not_numbers, not_tree}
use Rattle.cal_copy.proofs.copy.negate.Goals as goal

pub loop-preserved : goal.loop-preserved
loop-preserved c = record {
  numbers = λ names h. not_numbers names c.in_ok-new.field-0 c.loop.negated c.in_ok-new.ensures.ok (c.loop.invariant.numbers names h);
  tree = λ names. rw add-one (not_tree names c.loop.counter (port_guard names c.args.guard) c.in_ok-new.field-0 c.loop.negated c.in_ok-new.ensures.ok (c.loop.invariant.tree names));
}

pub returns-clause-tree : goal.returns-clause-tree
returns-clause-tree c = λ names.
    let all : c.loop.counter ≡ c.args.count = omega arith in
    c.loop.invariant.tree names ∙ ap (λ (n : ℕ). negations n (port_guard names c.args.guard)) all
