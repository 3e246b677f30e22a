-- A graph of a cell's ports alone, gathered from pairs, leads as the cell.
use Rattle.std.proofs.Common.{◌≡◌, ◌↔◌, inl, inr, ℕ, ◌<◌, List, [], length, get_or, refl, sym, subst, ◌∙◌, arith}
use Rattle.std.specs.Prelude.{All, Contains}
use Rattle.std.proofs.lemmas.List.Elements.{Contains-get_or}
use Rattle.hw_graph.proofs.ComponentLemmas.{gathered_in_range}
use Rattle.hw_graph.proofs.MemberLemmas.{in_of, contains_of}
use Rattle.hw_graph.specs.Graph as graph
use Rattle.hw_graph.specs.Graph.{HasRead}
use Rattle.hw_graph.specs.Groups.{IsGathered}
use Rattle.hw_graph.specs.inside.Components.{AreBelow}
use Rattle.hw_graph.specs.declared.groups.Entry.{Entry}
use Rattle.hw_cells.specs.Cells.{HasTwoSides, IsCondensed, IsFit, ReadsThrough}
use Rattle.hw_cells.specs.inside.Pairs.{AddsPairs, AddsStarts, IsStartOf, IsWithin}
use Rattle.hw_cells.specs.declared.cell.Cell.{Cell}
use Rattle.hw_cells.specs.declared.pairs.Start.{Start}
use Rattle.hw_cells.proofs.CopyLemmas.{through_within}
use Rattle.hw_cells.proofs.PairLemmas.{reads_through, says_through, start_within}
use Rattle.hw_cells.proofs.FlatLemmas.{entry_read, read_entry}

-- the entries say exactly which ports read one another through the cell
abbrev pub ArePairs : Cell → List Entry → Type 0
ArePairs cell pairs = (port other : ℕ) → Contains pairs (record { key = port; value = other }) ↔ ReadsThrough cell port other

module _ (cell : Cell) (none starts : List Start) (no_starts : none ≡ []) (gets : AddsStarts cell none starts) where
  start_of : (start : Start) → Contains starts start → IsStartOf cell start
  start_of start has = elim (gets.only start has) [
    | inl early ↦ let at = subst (λ (l : List Start). Contains l start) no_starts early in absurd (omega (arith, at.1))
    | inr of_cell ↦ of_cell
  ]

  pub all_within : (ports : ℕ) → IsFit ports cell → All (IsWithin (length cell.reads.now)) starts
  all_within ports fit k d lt = let start = get_or starts k d in start_within ports cell.reads.now cell start refl fit (start_of start (Contains-get_or starts k d lt))

  pub only_pairs : (old new : List Entry) → old ≡ [] → AddsPairs cell.reads.now starts old new → ArePairs cell new
  only_pairs old new no_entries adds port other = (to, from)
    where
      to : Contains new (record { key = port; value = other }) → ReadsThrough cell port other
      to has =
          let e : Entry = record { key = port; value = other } in
          elim (adds.only e has) [
            | inl early ↦ let at = subst (λ (l : List Entry). Contains l e) no_entries early in absurd (omega (arith, at.1))
            | inr (start, given, reads) ↦ reads_through cell.reads.now cell start port other refl (start_of start given) reads
          ]

      from : ReadsThrough cell port other → Contains new (record { key = port; value = other })
      from = says_through cell.reads.now cell starts old new refl gets.all adds port other

pub pairs_below : (ports : ℕ) (cell : Cell) (pairs : List Entry) → IsFit ports cell → ArePairs cell pairs → AreBelow ports pairs
pairs_below ports cell pairs fit are = λ k d lt.
    let e = get_or pairs k d in
    through_within ports cell e.key e.value fit ((are e.key e.value).0 (Contains-get_or pairs k d lt))

pub keys_below : (ports : ℕ) (cell : Cell) (pairs : List Entry) → IsFit ports cell → ArePairs cell pairs → All (λ (e : Entry). e.key < ports) pairs
keys_below ports cell pairs fit are = λ k d lt. (pairs_below ports cell pairs fit are k d lt).0

module _ (ports : ℕ) (cell : Cell) (pairs : List Entry) (reads : List (List ℕ)) (fit : IsFit ports cell) (sides : HasTwoSides cell) (are : ArePairs cell pairs) (gathered : IsGathered pairs ports reads) where
  to_cell : (port other : ℕ) → HasRead reads port other → ReadsThrough cell port other
  to_cell port other has = (are port other).0 (contains_of pairs (record { key = port; value = other }) (read_entry pairs ports reads gathered port other has))

  from_cell : (port other : ℕ) → ReadsThrough cell port other → HasRead reads port other
  from_cell port other through =
      entry_read pairs ports reads gathered port other (through_within ports cell port other fit through).0 (in_of pairs (record { key = port; value = other }) ((are port other).1 through))

  -- what is read reads nothing
  ends : (port next other : ℕ) → ReadsThrough cell port next → ReadsThrough cell next other → ⊥
  ends port next other to from = sides from.output to.input from.has_output to.has_input (from.is_output ∙ sym to.is_input)

  first : (port other : ℕ) → graph.Reaches reads port other → (next : ℕ) × ReadsThrough cell port next
  first port other (graph.Directly p q has) = (q, to_cell p q has)
  first port other (graph.Through p next q has rest) = (next, to_cell p next has)

  reaches_cell : (port other : ℕ) → graph.Reaches reads port other → ReadsThrough cell port other
  reaches_cell port other (graph.Directly p q has) = to_cell p q has
  reaches_cell port other (graph.Through p next q has rest) = let f = first next q rest in absurd (ends p next f.0 (to_cell p next has) f.1)

  pub is_condensed : IsCondensed ports cell reads
  is_condensed = record {
    all = gathered.all;
    in_range = gathered_in_range pairs ports reads (pairs_below ports cell pairs fit are) gathered;
    reaches = λ port other. (reaches_cell port other, λ through. graph.Directly port other (from_cell port other through));
  }
