use Rattle.std.proofs.Common.{◌≡◌, ◌+◌, ◌∙◌, ◌∷◌, [], false, inl, inr, sym, ap, arith, subst}
use Rattle.std.proofs.lemmas.Bool.{cases_lt}
use Rattle.std.proofs.lemmas.List.{length_push, get_or_push, get_or_append_left}
use Rattle.hw_graph.proofs.ComponentLemmas.{read_of, reads_in_range}
use Rattle.hw_graph.proofs.CycleLemmas.{off_cycles}
use Rattle.hw_graph.specs.Graph.{IsOffCycles}
use Rattle.hw_graph.proofs.least_loop.mark_inner_readers.Goals as goal

pub has_number-requires : goal.has_number-requires
has_number-requires c = λ k d lt.
    omega (arith, reads_in_range c.args.reads.now c.requires.in_range c.loop-port.port c.get.result.now c.get.ensures k d lt, c.requires.all)

pub loop-port-preserved : goal.loop-port-preserved
loop-port-preserved c =
    let reads = c.args.reads.now in
    let here = c.loop-port.port in
    let old = c.loop-port.marks.items in
    let mark = c.has_number.result in
    let before = c.loop-port.invariant in
    let off = λ (unmarked : mark ≡ false).
    off_cycles reads c.args.numbers.now c.requires.falling here (λ next has same.
    let there = read_of reads here c.get.result.now c.get.ensures next has in
    let marked = c.has_number.ensures.1 (there.0, next, there.1, there.2, same) in
    absurd (cc)) in
    rw c.in_ok-push.ensures.items
    (record {
      all = length_push old mark ∙ ap (λ n. n + 1) before.all;
      others = λ port lt unmarked. elim (cases_lt port here) [
        | inl earlier ↦ before.others port earlier (sym (get_or_append_left old (mark ∷ []) false port (omega (arith, earlier, before.all))) ∙ unmarked)
        | inr last ↦
            let e : port ≡ here = omega (arith, lt, last) in
            subst (IsOffCycles reads) (sym e) (off (sym (get_or_push old mark false port (omega (arith, e, before.all))) ∙ unmarked))
      ];
    })
