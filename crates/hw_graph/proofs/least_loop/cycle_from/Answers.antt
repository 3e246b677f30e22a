use Rattle.std.proofs.Common.{arith, ◌≡◌, ◌∙◌, ◌<◌, ◌-◌, length, get_or, rules, sym}
use Rattle.std.proofs.lemmas.Grind.{common_steps}
use Rattle.hw_graph.proofs.CycleLemmas.{read_is, read_is_not, seeking_more, seeking_found, seeking_over}
use Rattle.hw_graph.proofs.least_loop.cycle_from.Goals as goal

pub returns-then-eq-clause-some : goal.returns-then-eq-clause-some
returns-then-eq-clause-some c =
    let old = c.loop-top.walk in
    let some : 0 < length old.path.items = search rules in
    let at_top : c.in-Some.top ≡ get_or old.path.items (length old.path.items - 1) 0 = search rules in
    seeking_found c.args.reads.now c.args.start old c.step.new.self c.loop-top.invariant c.in-Some.top some at_top c.in_ok-step.ensures.walk c.requires.in_range c.in_ok-step.field-0 c.in_ok-step.ensures.step (read_is c.in_ok-step.field-0 c.args.start (sym c.eq.ensures ∙ c.if-eq.true))

pub loop-top-preserved : goal.loop-top-preserved
loop-top-preserved c =
    let old = c.loop-top.walk in
    let some : 0 < length old.path.items = search rules in
    let at_top : c.in-Some.top ≡ get_or old.path.items (length old.path.items - 1) 0 = search rules in
    seeking_more c.args.reads.now c.args.start old c.step.new.self c.loop-top.invariant c.in-Some.top some at_top c.in_ok-step.ensures.walk c.requires.in_range c.in_ok-step.field-0 c.in_ok-step.ensures.step (read_is_not c.in_ok-step.field-0 c.args.start (sym c.eq.ensures ∙ c.if-eq.false))

pub returns-clause-none : goal.returns-clause-none
returns-clause-none c = seeking_over c.args.reads.now c.args.start c.loop-top.walk c.loop-top.invariant (grind (arith, common_steps))
