use Rattle.std.proofs.Common.{◌≡◌, ◌∙◌, ◌<◌, Some, sym, arith, get_or, length, subst}
use Rattle.std.specs.Prelude.{slice_get}
use Rattle.std.proofs.lemmas.List.{get_or_default}
use Rattle.hw_graph.proofs.ComponentLemmas.{reads_in_range}
use Rattle.hw_graph.proofs.ReachLemmas.{reaching_start, reaching_more, reaching_few, reaching_over}
use Rattle.hw_graph.proofs.reach.add_reached.Goals as goal

pub add_unmarked-requires-clause-in_range : goal.add_unmarked-requires-clause-in_range
add_unmarked-requires-clause-in_range c = λ k d lt.
    omega (arith, reads_in_range c.args.reads.now c.requires.in_range c.args.start c.get.result.now c.get.ensures k d lt, c.requires.size)

pub loop-next-init : goal.loop-next-init
loop-next-init c =
    reaching_start c.args.reads.now c.args.start c.get.result.now c.get.ensures c.add_unmarked.new.marks c.args.reached.now.items c.add_unmarked.new.reached.items c.requires.none c.in_ok-add_unmarked.ensures.marks c.in_ok-add_unmarked.ensures.added

pub add_unmarked-requires-in-loop-next-clause-in_range :
    goal.add_unmarked-requires-in-loop-next-clause-in_range
add_unmarked-requires-in-loop-next-clause-in_range c = λ k d lt.
    omega (arith, reads_in_range c.args.reads.now c.requires.in_range c.index.result.now c.get-in-loop-next.result.now c.get-in-loop-next.ensures k d lt, c.loop-next.auto.marks, c.add_unmarked.auto.marks, c.requires.size)

pub loop-next-smaller : goal.loop-next-smaller
loop-next-smaller c =
    let few = reaching_few c.args.reads.now c.args.start c.loop-next.marks c.loop-next.reached.items c.loop-next.next c.loop-next.invariant (c.loop-next.auto.marks ∙ c.add_unmarked.auto.marks ∙ c.requires.size) in
    let within : c.loop-next.next < length c.loop-next.reached.items = omega (arith, c.loop-next-test.true, c.len.ensures) in
    omega (arith, few, within)

pub loop-next-preserved : goal.loop-next-preserved
loop-next-preserved c =
    let reads = c.args.reads.now in
    let reached = c.loop-next.reached.items in
    let next = c.loop-next.next in
    let got = c.get-in-loop-next.result.now in
    let within : next < length reached = omega (arith, c.loop-next-test.true, c.len.ensures) in
    let at : get_or reached next 0 ≡ c.index.result.now = get_or_default reached next 0 c.index.result.now within ∙ sym c.index.ensures in
    let got_at : slice_get reads (get_or reached next 0) ≡ Some got = subst (λ port. slice_get reads port ≡ Some got) (sym at) c.get-in-loop-next.ensures in
    reaching_more reads c.args.start c.loop-next.marks reached next c.loop-next.invariant within got got_at c.add_unmarked-in-loop-next.new.marks c.add_unmarked-in-loop-next.new.reached.items c.in_ok-add_unmarked-2.ensures.marks c.in_ok-add_unmarked-2.ensures.added

pub returns-clause-reached : goal.returns-clause-reached
returns-clause-reached c =
    reaching_over c.args.reads.now c.args.start c.loop-next.marks c.loop-next.reached.items c.loop-next.next c.loop-next.invariant (omega (arith, c.loop-next-test.false, c.len.ensures))
