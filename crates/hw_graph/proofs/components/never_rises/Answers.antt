use Rattle.std.proofs.Common.{◌≡◌, ◌≤◌, ℕ, inl, inr, get_or, refl, arith}
use Rattle.std.proofs.lemmas.Bool.{cases_lt}
use Rattle.std.proofs.lemmas.List.Elements.{All-contains}
use Rattle.hw_graph.proofs.ComponentLemmas.{read_at, read_of, reads_in_range}
use Rattle.hw_graph.proofs.components.never_rises.Goals as goal

pub are_at_most-requires : goal.are_at_most-requires
are_at_most-requires c = λ k d lt.
    omega (arith, reads_in_range c.args.reads.now c.requires.in_range c.loop-port.port c.get.result.now c.get.ensures k d lt, c.requires.all)

pub returns-then-not-are_at_most : goal.returns-then-not-are_at_most
returns-then-not-are_at_most c = (
  λ bad. absurd (cc),
  λ never. c.if-not-are_at_most.ensures.1 (λ k d lt. never c.loop-port.port (get_or c.get.result.now k d) (read_at c.args.reads.now c.loop-port.port c.get.result.now c.get.ensures k d lt)),
)

pub loop-port-preserved : goal.loop-port-preserved
loop-port-preserved c = λ port other lt has.
    let numbers = c.args.numbers.now in
    let here = c.loop-port.port in
    elim (cases_lt port here) [
      | inl before ↦ c.loop-port.invariant port other before has
      | inr last ↦
          let e : port ≡ here = omega (arith, lt, last) in
          let there = read_of c.args.reads.now here c.get.result.now c.get.ensures other (rw e at has) in
          rw e (All-contains (λ (q : ℕ). get_or numbers q 0 ≤ get_or numbers here 0) c.get.result.now other (c.if-not-are_at_most.ensures.0 refl) there)
    ]
