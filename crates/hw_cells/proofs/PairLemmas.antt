-- Entries between cells' ports alone say what the ports read through the cells.
use Rattle.std.proofs.Common.{◌≡◌, ◌↔◌, ◌⊎◌, inl, inr, ℕ, ◌+◌, ◌<◌, Bool, true, List, [], ◌∷◌, ◌++◌, length, map, get_or, take, sym, ap, ap₂, subst, ◌∙◌, arith}
use Rattle.std.specs.Prelude.{All, Contains, filter}
use Rattle.std.specs.Int.{bit_at}
use Rattle.std.proofs.lemmas.Bool.Decides.{Decides-eqb}
use Rattle.std.proofs.lemmas.List.{append-nil, append_assoc, get_or-map, get_or-take, length-map, length-take, nil_from_length, take_more}
use Rattle.std.proofs.lemmas.List.Elements.{All-contains, All-get_or, All-map, All-weaker, Contains-append_cases, Contains-append_left, Contains-append_right, Contains-get_or, Contains-push, Contains-push_cases}
use Rattle.hw_graph.proofs.MemberLemmas.{In, in_of, contains_of, in_map, from_map, in_filter, from_filter}
use Rattle.hw_graph.specs.declared.groups.Entry.{Entry}
use Rattle.hw_cells.specs.Cells.{IsFit, IsOrReaches, IsPinWithin, ReadsThrough}
use Rattle.hw_cells.specs.inside.Pairs.{AddsPairs, AddsStarts, HasStarts, IsStartOf, IsWithin, ReadsFrom, has_bit, pair_entries, pair_entry}
use Rattle.hw_cells.specs.Cells.{HasBit}
use Rattle.hw_cells.specs.inside.Words.{TellReached}
use Rattle.hw_cells.specs.declared.cell.Cell.{Cell}
use Rattle.hw_cells.specs.declared.cell.Pin.{Pin}
use Rattle.hw_cells.specs.declared.pairs.Start.{Start}

-- ---- starts, output by output

-- the list keeps its starts, and gets those of these outputs of the cell
pub record AddsSome (cell : Cell) (outputs : List Pin) (old new : List Start) : Type 0 where
  pub kept : (start : Start) → Contains old start → Contains new start
  pub only : (start : Start) → Contains new start → Contains old start ⊎ IsStartOf cell start
  pub all : (output : Pin) → Contains outputs output → (start : Start) × Contains new start × (start.output ≡ output) × (start.inputs.now ≡ cell.inputs.items)

pub starts_none : (cell : Cell) (old : List Start) → AddsSome cell [] old old
starts_none cell old = record { kept = λ start has. has; only = λ start has. inl has; all = λ output has. absurd (omega (arith, has.1)) }

pub starts_next : (cell : Cell) (k : ℕ) (d : Pin) (start : Start) (old before new : List Start) → k < length cell.outputs.items → start.output ≡ get_or cell.outputs.items k d → start.inputs.now ≡ cell.inputs.items → new ≡ before ++ start ∷ [] → AddsSome cell (take k cell.outputs.items) old before → AddsSome cell (take (k + 1) cell.outputs.items) old new
starts_next cell k d start old before new within output_is inputs_are is so_far = record { kept = kept; only = only; all = all }
  where
    has_new : (x : Start) → Contains (before ++ start ∷ []) x → Contains new x
    has_new x = subst (λ (l : List Start). Contains l x) (sym is)

    of_cell : Contains cell.outputs.items start.output
    of_cell = subst (Contains cell.outputs.items) (sym output_is) (Contains-get_or cell.outputs.items k d within)

    kept : (x : Start) → Contains old x → Contains new x
    kept x has = has_new x (Contains-append_left before (start ∷ []) x (so_far.kept x has))

    only : (x : Start) → Contains new x → Contains old x ⊎ IsStartOf cell x
    only x has = elim (Contains-push_cases before start x (subst (λ (l : List Start). Contains l x) is has)) [
      | inl early ↦ so_far.only x early
      | inr same ↦ inr (subst (IsStartOf cell) same (of_cell, inputs_are))
    ]

    all : (output : Pin) → Contains (take (k + 1) cell.outputs.items) output → (x : Start) × Contains new x × (x.output ≡ output) × (x.inputs.now ≡ cell.inputs.items)
    all output has =
        let next : take (k + 1) cell.outputs.items ≡ take k cell.outputs.items ++ start.output ∷ [] =
        take_more cell.outputs.items k d within ∙ ap (λ (pin : Pin). take k cell.outputs.items ++ pin ∷ []) (sym output_is) in
        elim (Contains-push_cases (take k cell.outputs.items) start.output output (subst (λ (l : List Pin). Contains l output) next has)) [
          | inl early ↦ let s = so_far.all output early in (s.0, has_new s.0 (Contains-append_left before (start ∷ []) s.0 s.1), s.2, s.3)
          | inr same ↦ (start, has_new start (Contains-push before start), same, inputs_are)
        ]

pub starts_end : (cell : Cell) (old new : List Start) → AddsSome cell cell.outputs.items old new → AddsStarts cell old new
starts_end cell old new adds = record { kept = adds.kept; only = adds.only; all = λ output input has has_input. adds.all output has }

-- a cell with no inputs has no starts
pub starts_of_none : (cell : Cell) (old : List Start) → length cell.inputs.items ≡ 0 → AddsStarts cell old old
starts_of_none cell old none = record { kept = λ start has. has; only = λ start has. inl has; all = λ output input has has_input. absurd (omega (arith, none, has_input.1)) }

-- one of the first is one of all
pub from_take : (count : ℕ) (starts : List Start) (start : Start) → Contains (take count starts) start → Contains starts start
from_take count starts start has =
    let lower : has.0 < length starts = omega (arith, has.1, length-take count starts) in
    let below : has.0 < count = omega (arith, has.1, length-take count starts) in
    (has.0, lower, sym (get_or-take count starts has.0 start below) ∙ has.2)

-- ---- pairs, start by start

-- the list keeps its entries where it goes on
pub pairs_none : (reads : List (List ℕ)) (old : List Entry) → AddsPairs reads [] old old
pairs_none reads old = record { kept = λ entry has. has; only = λ entry has. inl has; all = λ start port other has from. absurd (omega (arith, has.1)) }

module _ (reads : List (List ℕ)) (test : Pin → Bool) (start : Start) (tells : (input : Pin) → (test input ≡ true) ↔ IsOrReaches reads start.output.node input.node) where
  -- an entry of the start says what it reads
  from_entry : (e : Entry) → Contains (pair_entries test start) e → ReadsFrom reads start e.key e.value
  from_entry e has =
      let m = from_map (pair_entry start.output) (filter test start.inputs.now) e (in_of (pair_entries test start) e has) in
      let f = from_filter test start.inputs.now m.0 m.1 in
      record {
        input = m.0;
        has_input = contains_of start.inputs.now m.0 f.0;
        is_output = ap (λ (x : Entry). x.key) m.2;
        is_input = ap (λ (x : Entry). x.value) m.2;
        reaches = (tells m.0).0 f.1;
      }

  to_entry : (port other : ℕ) → ReadsFrom reads start port other → Contains (pair_entries test start) (record { key = port; value = other })
  to_entry port other from =
      let there = in_filter test start.inputs.now from.input (in_of start.inputs.now from.input from.has_input) ((tells from.input).1 from.reaches) in
      let make : ℕ → ℕ → Entry = λ a b. record { key = a; value = b } in
      contains_of (pair_entries test start) (record { key = port; value = other })
      (subst (In (pair_entries test start)) (ap₂ make from.is_output from.is_input) (in_map (pair_entry start.output) (filter test start.inputs.now) from.input there))

  pub pairs_more : (starts : List Start) (old before new : List Entry) → new ≡ before ++ pair_entries test start → AddsPairs reads starts old before → AddsPairs reads (starts ++ start ∷ []) old new
  pairs_more starts old before new is so_far = record { kept = kept; only = only; all = all }
    where
      more : List Entry
      more = pair_entries test start

      has_new : (e : Entry) → Contains (before ++ more) e → Contains new e
      has_new e = subst (λ (l : List Entry). Contains l e) (sym is)

      kept : (e : Entry) → Contains old e → Contains new e
      kept e has = has_new e (Contains-append_left before more e (so_far.kept e has))

      only : (e : Entry) → Contains new e → Contains old e ⊎ ((x : Start) × Contains (starts ++ start ∷ []) x × ReadsFrom reads x e.key e.value)
      only e has = elim (Contains-append_cases before more e (subst (λ (l : List Entry). Contains l e) is has)) [
        | inl early ↦ elim (so_far.only e early) [
          | inl first ↦ inl first
          | inr some ↦ inr (some.0, Contains-append_left starts (start ∷ []) some.0 some.1, some.2)
        ]
        | inr late ↦ inr (start, Contains-push starts start, from_entry e late)
      ]

      all : (x : Start) (port other : ℕ) → Contains (starts ++ start ∷ []) x → ReadsFrom reads x port other → Contains new (record { key = port; value = other })
      all x port other has from =
          let e : Entry = record { key = port; value = other } in
          elim (Contains-push_cases starts start x has) [
            | inl early ↦ has_new e (Contains-append_left before more e (so_far.all x port other early from))
            | inr same ↦ has_new e (Contains-append_right before more e (to_entry port other (subst (λ (s : Start). ReadsFrom reads s port other) (sym same) from)))
          ]

-- the next of the starts, of whose inputs a test tells which are reached
pub pairs_next : (reads : List (List ℕ)) (test : Pin → Bool) (starts : List Start) (k : ℕ) (d start : Start) (old before new : List Entry) → ((input : Pin) → (test input ≡ true) ↔ IsOrReaches reads start.output.node input.node) → k < length starts → start ≡ get_or starts k d → new ≡ before ++ pair_entries test start → AddsPairs reads (take k starts) old before → AddsPairs reads (take (k + 1) starts) old new
pairs_next reads test starts k d start old before new tells within is new_is so_far =
    let next : take (k + 1) starts ≡ take k starts ++ start ∷ [] = take_more starts k d within ∙ ap (λ (s : Start). take k starts ++ s ∷ []) (sym is) in
    subst (λ (list : List Start). AddsPairs reads list old new) (sym next) (pairs_more reads test start tells (take k starts) old before new new_is so_far)

-- the bits of words tell it of starts whose nodes have bits in them
pub bits_tell : (reads : List (List ℕ)) (starts : List Start) (nodes words : List ℕ) (k : ℕ) (d start : Start) → nodes ≡ map (λ (s : Start). s.output.node) starts → TellReached reads nodes words → k < length starts → start ≡ get_or starts k d → (input : Pin) → (has_bit words k input ≡ true) ↔ IsOrReaches reads start.output.node input.node
bits_tell reads starts nodes words k d start nodes_are reached within is input =
    (λ has. tells.0 (decides.0 has), λ reaches. decides.1 (tells.1 reaches))
  where
    in_nodes : k < length nodes
    in_nodes = omega (arith, within, ap length nodes_are, length-map starts (λ (s : Start). s.output.node))

    node_is : get_or nodes k 0 ≡ start.output.node
    node_is = ap (λ (l : List ℕ). get_or l k 0) nodes_are ∙ get_or-map (λ (s : Start). s.output.node) starts k d 0 within ∙ ap (λ (s : Start). s.output.node) (sym is)

    tells : HasBit (get_or words input.node 0) k ↔ IsOrReaches reads start.output.node input.node
    tells = subst (λ (n : ℕ). HasBit (get_or words input.node 0) k ↔ IsOrReaches reads n input.node) node_is (reached k input.node in_nodes)

    decides : (has_bit words k input ≡ true) ↔ HasBit (get_or words input.node 0) k
    decides = Decides-eqb (bit_at (get_or words input.node 0) k) 1

-- the nodes of the outputs of starts within the nodes
pub outputs_within : (nodes : ℕ) (starts : List Start) → All (IsWithin nodes) starts → All (λ (node : ℕ). node < nodes) (map (λ (s : Start). s.output.node) starts)
outputs_within nodes starts within =
    let below = λ (node : ℕ). node < nodes in
    All-map below (λ (s : Start). s.output.node) starts (All-weaker (IsWithin nodes) (λ (s : Start). s.output.node < nodes) (λ s is. is.output) starts within)

-- some starts, and then others
pub pairs_then : (reads : List (List ℕ)) (some more : List Start) (old before new : List Entry) → AddsPairs reads some old before → AddsPairs reads more before new → AddsPairs reads (some ++ more) old new
pairs_then reads some more old before new first second = record { kept = λ e has. second.kept e (first.kept e has); only = only; all = all }
  where
    only : (e : Entry) → Contains new e → Contains old e ⊎ ((x : Start) × Contains (some ++ more) x × ReadsFrom reads x e.key e.value)
    only e has = elim (second.only e has) [
      | inl early ↦ elim (first.only e early) [
        | inl at_first ↦ inl at_first
        | inr one ↦ inr (one.0, Contains-append_left some more one.0 one.1, one.2)
      ]
      | inr one ↦ inr (one.0, Contains-append_right some more one.0 one.1, one.2)
    ]

    all : (x : Start) (port other : ℕ) → Contains (some ++ more) x → ReadsFrom reads x port other → Contains new (record { key = port; value = other })
    all x port other has from = elim (Contains-append_cases some more x has) [
      | inl early ↦ second.kept (record { key = port; value = other }) (first.all x port other early from)
      | inr late ↦ second.all x port other late from
    ]

-- the first of the starts, and then all
pub pairs_again : (reads : List (List ℕ)) (count : ℕ) (starts : List Start) (old before new : List Entry) → AddsPairs reads (take count starts) old before → AddsPairs reads starts before new → AddsPairs reads starts old new
pairs_again reads count starts old before new first all = record { kept = λ e has. all.kept e (first.kept e has); only = only; all = all.all }
  where
    only : (e : Entry) → Contains new e → Contains old e ⊎ ((x : Start) × Contains starts x × ReadsFrom reads x e.key e.value)
    only e has = elim (all.only e has) [
      | inl early ↦ elim (first.only e early) [
        | inl at_first ↦ inl at_first
        | inr one ↦ inr (one.0, from_take count starts one.0 one.1, one.2)
      ]
      | inr one ↦ inr one
    ]

-- ---- starts, some after others

-- what starts are done, before those that are left
pub record AreDone (reads : List (List ℕ)) (starts rest : List Start) (old new : List Entry) : Type 0 where
  pub done : List Start
  pub parts : starts ≡ done ++ rest
  pub adds : AddsPairs reads done old new

pub none_done : (reads : List (List ℕ)) (starts rest : List Start) (old : List Entry) → rest ≡ starts → AreDone reads starts rest old old
none_done reads starts rest old is = record { done = []; parts = sym is; adds = pairs_none reads old }

pub more_done : (reads : List (List ℕ)) (starts some rest left : List Start) (old before new : List Entry) → rest ≡ some ++ left → AddsPairs reads some before new → AreDone reads starts rest old before → AreDone reads starts left old new
more_done reads starts some rest left old before new parts adds so_far = record {
  done = so_far.done ++ some;
  parts = so_far.parts ∙ ap (λ (l : List Start). so_far.done ++ l) parts ∙ sym (append_assoc so_far.done some left);
  adds = pairs_then reads so_far.done some old before new so_far.adds adds;
}

pub all_done : (reads : List (List ℕ)) (starts rest : List Start) (old new : List Entry) → length rest ≡ 0 → AreDone reads starts rest old new → AddsPairs reads starts old new
all_done reads starts rest old new none so_far = subst (λ (l : List Start). AddsPairs reads l old new) (sym is) so_far.adds
  where
    is : starts ≡ so_far.done
    is = so_far.parts ∙ ap (λ (l : List Start). so_far.done ++ l) (nil_from_length rest none) ∙ append-nil so_far.done

-- some that are left are starts within the nodes
pub left_within : (reads : List (List ℕ)) (nodes : ℕ) (starts some rest left : List Start) (old new : List Entry) → rest ≡ some ++ left → AreDone reads starts rest old new → All (IsWithin nodes) starts → All (IsWithin nodes) some
left_within reads nodes starts some rest left old new parts so_far all k d lt =
    let start = get_or some k d in
    let in_rest = subst (λ (l : List Start). Contains l start) (sym parts) (Contains-append_left some left start (Contains-get_or some k d lt)) in
    let in_starts = subst (λ (l : List Start). Contains l start) (sym so_far.parts) (Contains-append_right so_far.done rest start in_rest) in
    All-contains (IsWithin nodes) starts start all in_starts

-- ---- what starts of cells read

-- a start of a fit cell is within the nodes of its graph
pub start_within : (ports : ℕ) (reads : List (List ℕ)) (cell : Cell) (start : Start) → cell.reads.now ≡ reads → IsFit ports cell → IsStartOf cell start → IsWithin (length reads) start
start_within ports reads cell start is fit of_cell = record {
  output = omega (arith, (All-contains pin_within cell.outputs.items start.output fit.outputs of_cell.0).1, ap length is);
  inputs = subst (All (λ (input : Pin). input.node < length reads)) (sym of_cell.1) inputs;
}
  where
    pin_within : Pin → Type 0
    pin_within = IsPinWithin ports (length cell.reads.now)

    inputs : All (λ (input : Pin). input.node < length reads) cell.inputs.items
    inputs k d lt = let within = All-get_or pin_within cell.inputs.items k d lt fit.inputs in omega (arith, within.1, ap length is)

pub reads_through : (reads : List (List ℕ)) (cell : Cell) (start : Start) (port other : ℕ) → cell.reads.now ≡ reads → IsStartOf cell start → ReadsFrom reads start port other → ReadsThrough cell port other
reads_through reads cell start port other is of_cell from = record {
  output = start.output;
  input = from.input;
  has_output = of_cell.0;
  has_input = subst (λ (inputs : List Pin). Contains inputs from.input) of_cell.1 from.has_input;
  is_output = from.is_output;
  is_input = from.is_input;
  reaches = subst (λ (graph : List (List ℕ)). IsOrReaches graph start.output.node from.input.node) (sym is) from.reaches;
}

-- where the starts have those of a cell, the entries say all that is read through it
pub says_through : (reads : List (List ℕ)) (cell : Cell) (starts : List Start) (old new : List Entry) → cell.reads.now ≡ reads → HasStarts starts cell → AddsPairs reads starts old new → (port other : ℕ) → ReadsThrough cell port other → Contains new (record { key = port; value = other })
says_through reads cell starts old new is given adds port other through =
    let r = given through.output through.input through.has_output through.has_input in
    let start = r.0 in
    let reaches = subst (λ (graph : List (List ℕ)). IsOrReaches graph through.output.node through.input.node) is through.reaches in
    adds.all start port other r.1
    (record {
      input = through.input;
      has_input = subst (λ (inputs : List Pin). Contains inputs through.input) (sym r.3) through.has_input;
      is_output = ap (λ (pin : Pin). pin.port) r.2 ∙ through.is_output;
      is_input = through.is_input;
      reaches = subst (λ (pin : Pin). IsOrReaches reads pin.node through.input.node) (sym r.2) reaches;
    })
