use Rattle.std.proofs.Common.{◌≡◌, ℕ, ◌<◌, ◌≤◌, List, length, ap, arith, sym, subst, Vec, Global, IsPermutation}
use Rattle.std.specs.Prelude.{⊤, All, Contains}
use Rattle.std.proofs.lemmas.List.Elements.{All-same, All-weaker, All-contains}
use Rattle.std.proofs.lemmas.List.Sorted.{All-permutation, Contains-permutation}
use Rattle.std.proofs.lemmas.Option.{MatchOption-at_some}
use Rattle.hw_graph.proofs.ComponentLemmas.{gathered_in_range}
use Rattle.hw_graph.specs.Graph.{HasRead}
use Rattle.hw_graph.specs.Groups.{IsGathered}
use Rattle.hw_graph.specs.declared.groups.Entry.{Entry}
use Rattle.hw_levels.specs.Levels.{IsBelow}
use Rattle.hw_levels.specs.inside.Link.{AreBelow, AreKept}
use Rattle.hw_levels.specs.declared.cells.CellPort.{CellPort}
use Rattle.hw_levels.proofs.OrderLemmas.{entry_read}
use Rattle.hw_levels.proofs.levels.levels_of.Goals as goal

abbrev AreWithin : ℕ → List CellPort → Type 0
AreWithin count ports = All (λ (port : CellPort). port.node < count) ports

sorted_within : (count : ℕ) (ports sorted slice : List CellPort) → AreWithin count ports → IsPermutation ports sorted → slice ≡ sorted → AreWithin count slice
sorted_within count ports sorted slice within moved same =
    All-same (λ (port : CellPort). port.node < count) slice sorted same (All-permutation (λ (port : CellPort). port.node < count) ports sorted moved within)

pub link-requires-clause-ports : goal.link-requires-clause-ports
link-requires-clause-ports c =
    sorted_within c.args.count c.args.ports.items c.sort_unstable.new.self.items c.as_slice.result.now c.requires.ports c.sort_unstable.ensures.permutation c.as_slice.ensures.value

pub levels_in-requires : goal.levels_in-requires
levels_in-requires c =
    let all = c.in_ok-all.all in
    gathered_in_range c.as_slice-2.result.now all c.in_ok-reads.reads
    (All-same (λ (entry : Entry). (entry.key < all) × (entry.value < all)) c.as_slice-2.result.now c.link.new.entries.items c.as_slice-2.ensures.value c.in_ok-all.ensures.in_range)
    c.in_ok-reads.ensures

pub keeps_levels-requires : goal.keeps_levels-requires
keeps_levels-requires c =
    let levels = c.as_slice-4.result.now in
    let gathered = c.in_ok-reads.ensures in
    let more = c.in_ok-all.ensures.more in
    let same : length c.in-Some.levels.items ≡ length c.in_ok-reads.reads =
    MatchOption-at_some ⊤ (λ (l : Vec ℕ Global). length l.items ≡ length c.in_ok-reads.reads) c.in-Some.levels c.in-Some.is c.in_ok-levels.ensures.all in
    let enough : c.args.count ≤ length levels = omega (arith, ap length c.as_slice-4.ensures.value, same, gathered.all, more) in
    All-weaker (λ (port : CellPort). port.node < c.args.count) (λ (port : CellPort). port.node < length levels) (λ port lt. omega (arith, lt, enough)) c.as_slice-3.result.now
    (sorted_within c.args.count c.args.ports.items c.sort_unstable.new.self.items c.as_slice-3.result.now c.requires.ports c.sort_unstable.ensures.permutation c.as_slice-3.ensures.value)

-- levels of a graph that has these entries are levels of them
levels_from : (entries linked : List Entry) (count all : ℕ) (reads : List (List ℕ)) (levels : List ℕ) → AreBelow count entries → count ≤ all → AreKept entries linked → IsGathered linked all reads → ((port other : ℕ) → HasRead reads port other → IsBelow levels other port) → (entry : Entry) → Contains entries entry → IsBelow levels entry.value entry.key
levels_from entries linked count all reads levels within more kept gathered below entry has =
    let at = All-contains (λ (e : Entry). (e.key < count) × (e.value < count)) entries entry within has in
    below entry.key entry.value (entry_read linked all reads gathered entry (kept entry has) (omega (arith, at.0, more)))

pub returns-then-keeps_levels-clause-levels : goal.returns-then-keeps_levels-clause-levels
returns-then-keeps_levels-clause-levels c =
    let linked = c.link.new.entries.items in
    let reads = c.in_ok-reads.reads in
    let levels = c.in-Some.levels in
    let ports = c.args.ports.items in
    let sorted = c.sort_unstable.new.self.items in
    let gathered = subst (λ (l : List Entry). IsGathered l c.in_ok-all.all reads) c.as_slice-2.ensures.value c.in_ok-reads.ensures in
    let below = MatchOption-at_some ⊤ (λ (l : Vec ℕ Global). (port other : ℕ) → HasRead reads port other → IsBelow l.items other port) levels c.in-Some.is c.in_ok-levels.ensures.below in
    let moved = λ (port : CellPort) (has : Contains ports port). subst (λ (l : List CellPort). Contains l port) (sym c.as_slice-3.ensures.value) (Contains-permutation ports sorted port c.sort_unstable.ensures.permutation has) in
    record {
      wires = levels_from c.args.entries.items linked c.args.count c.in_ok-all.all reads levels.items c.requires.entries c.in_ok-all.ensures.more.0 c.in_ok-all.ensures.kept gathered below;
      cells = λ output input has_output has_input reach.
          subst (λ (l : List ℕ). IsBelow l input.node output.node) c.as_slice-4.ensures.value
          (c.keeps_levels.ensures c.if-keeps_levels.true output input (moved output has_output) (moved input has_input) reach);
    }
