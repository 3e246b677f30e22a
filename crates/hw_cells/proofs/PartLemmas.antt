-- Cells by the components that they are made of: what is read through those with few pins is said, and the others are left.
use Rattle.std.proofs.Common.{◌≡◌, ◌⊎◌, inl, inr, ℕ, zero, suc, ◌+◌, ◌<◌, ◌≤◌, Bool, true, false, eqb, List, [], ◌∷◌, ◌++◌, length, get_or, drop, drop-cons, take, slice_get, Option, Some, None, refl, sym, ap, subst, subst₂, ◌∙◌, if◌then◌else◌, arith}
use Rattle.std.specs.Prelude.{All, Contains}
use Rattle.std.specs.List.{list_any}
use Rattle.std.proofs.lemmas.Bool.{cases_lt}
use Rattle.std.proofs.lemmas.Bool.Decides.{nat_tests}
use Rattle.std.proofs.lemmas.List.{get_or_past, take_more}
use Rattle.std.proofs.lemmas.List.Elements.{All-contains, Contains-append_cases, Contains-append_left, Contains-append_right, Contains-get_or, Contains-push, Contains-push_cases}
use Rattle.std.proofs.lemmas.Grind.{flat_map-append}
use Rattle.std.proofs.lemmas.Option.{get_or_from_slice_get, same_Some, slice_get-get_or, slice_get_within}
use Rattle.indexmap.specs.IndexSet.{insert_key}
use Rattle.hw_graph.proofs.MemberLemmas.{In, contains_of, from_flat_map, in_append, in_flat_map, in_left, in_of, in_right}
use Rattle.hw_graph.specs.Graph.{HasRead}
use Rattle.hw_graph.specs.Groups.{IsGathered}
use Rattle.hw_graph.specs.declared.groups.Entry.{Entry}
use Rattle.hw_cells.specs.Cells.{AreOfParts, IsFit, ReadsThrough}
use Rattle.hw_cells.specs.inside.Pairs.{AddsPairs, AddsStarts, HasStarts, IsStartOf, IsWithin}
use Rattle.hw_cells.specs.inside.Parts.{AreByPart, IsAmong, SayAll, Splits, Takes, cells_at, one_or_none}
use Rattle.hw_cells.specs.declared.cell.Cell.{Cell}
use Rattle.hw_cells.specs.declared.pairs.Start.{Start}
use Rattle.hw_cells.proofs.FlatLemmas.{entry_read, read_entry}
use Rattle.hw_cells.proofs.PairLemmas.{from_take, reads_through, says_through, start_within}

-- ---- lists

-- the element at a place is one of the list
pub contains_at : {X : Type 0} (xs : List X) (k : ℕ) (x : X) → slice_get xs k ≡ Some x → Contains xs x
contains_at xs k x at = (k, slice_get_within xs k x at, get_or_from_slice_get xs k x x at)

one_at : {X : Type 0} (xs : List X) (k : ℕ) (x y : X) → slice_get xs k ≡ Some x → slice_get xs k ≡ Some y → x ≡ y
one_at xs k x y at other = same_Some x y (sym at ∙ other)

-- a place keeps its element where the list goes on
at_left : {X : Type 0} (xs ys : List X) (k : ℕ) (x : X) → slice_get xs k ≡ Some x → slice_get (xs ++ ys) k ≡ Some x
at_left [] ys k x at = cc
at_left (y ∷ xs) ys zero x at = at
at_left (y ∷ xs) ys (suc k) x at = at_left xs ys k x at

some_element : {X : Type 0} (xs : List X) → 0 < length xs → (x : X) × Contains xs x
some_element [] some = absurd (omega (arith, some))
some_element (x ∷ xs) some = (x, contains_of (x ∷ xs) x (inl refl))

-- ---- the cells of each component

-- the entry's value is the number of a cell, and its key the place of the cell's component
abbrev pub HasPlace : List Cell → List ℕ → Entry → Type 0
HasPlace cells parts entry = (cell : Cell) × (slice_get cells entry.value ≡ Some cell) × (slice_get parts entry.key ≡ Some cell.part)

-- each of the cells of these numbers has an entry
pub record ArePlaced (cells : List Cell) (numbers : List ℕ) (parts : List ℕ) (entries : List Entry) : Type 0 where
  pub each : (entry : Entry) → In entries entry → HasPlace cells parts entry
  pub only : (entry : Entry) → In entries entry → Contains numbers entry.value
  pub all : (number : ℕ) → Contains numbers number → (key : ℕ) × In entries (record { key = key; value = number })

pub placed_none : (cells : List Cell) (parts : List ℕ) (entries : List Entry) → entries ≡ [] → ArePlaced cells [] parts entries
placed_none cells parts entries none = record {
  each = λ entry has. absurd (subst (λ (list : List Entry). In list entry) none has);
  only = λ entry has. absurd (subst (λ (list : List Entry). In list entry) none has);
  all = λ number has. absurd (omega (arith, has.1));
}

insert_kept : (before after : List ℕ) (part : ℕ) → after ≡ insert_key eqb before part → (k x : ℕ) → slice_get before k ≡ Some x → slice_get after k ≡ Some x
insert_kept before after part is k x at = by (list_any (eqb part) before) is
  where
    by : (b : Bool) → after ≡ (if b then before else before ++ part ∷ []) → slice_get after k ≡ Some x
    by true e = ap (λ (list : List ℕ). slice_get list k) e ∙ at
    by false e = ap (λ (list : List ℕ). slice_get list k) e ∙ at_left before (part ∷ []) k x at

placed_more : (cells : List Cell) (numbers : List ℕ) (number : ℕ) (cell : Cell) (before after : List ℕ) (key : ℕ) (entries : List Entry) → slice_get cells number ≡ Some cell → after ≡ insert_key eqb before cell.part → slice_get after key ≡ Some cell.part → ArePlaced cells numbers before entries → ArePlaced cells (numbers ++ number ∷ []) after (entries ++ record { key = key; value = number } ∷ [])
placed_more cells numbers number cell before after key entries at is stored placed = record { each = each; only = only; all = all }
  where
    this : Entry
    this = record { key = key; value = number }

    each : (entry : Entry) → In (entries ++ this ∷ []) entry → HasPlace cells after entry
    each entry has = elim (in_append entries (this ∷ []) entry has) [
      | inl early ↦ let p = placed.each entry early in (p.0, p.1, insert_kept before after cell.part is entry.key (p.0).part p.2)
      | inr (inl same) ↦ subst (HasPlace cells after) same (cell, at, stored)
      | inr (inr none) ↦ absurd none
    ]

    only : (entry : Entry) → In (entries ++ this ∷ []) entry → Contains (numbers ++ number ∷ []) entry.value
    only entry has = elim (in_append entries (this ∷ []) entry has) [
      | inl early ↦ Contains-append_left numbers (number ∷ []) entry.value (placed.only entry early)
      | inr (inl same) ↦ subst (λ (e : Entry). Contains (numbers ++ number ∷ []) e.value) same (Contains-push numbers number)
      | inr (inr none) ↦ absurd none
    ]

    all : (n : ℕ) → Contains (numbers ++ number ∷ []) n → (k : ℕ) × In (entries ++ this ∷ []) (record { key = k; value = n })
    all n has = elim (Contains-push_cases numbers number n has) [
      | inl early ↦ let p = placed.all n early in (p.0, in_left entries (this ∷ []) (record { key = p.0; value = n }) p.1)
      | inr is_last ↦ (key, in_right entries (this ∷ []) (record { key = key; value = n }) (inl (ap (λ (v : ℕ). record { key = key; value = v }) is_last)))
    ]

pub placed_next : (cells : List Cell) (numbers : List ℕ) (k d : ℕ) (cell : Cell) (before after : List ℕ) (key : ℕ) (entries : List Entry) → k < length numbers → slice_get cells (get_or numbers k d) ≡ Some cell → after ≡ insert_key eqb before cell.part → slice_get after key ≡ Some cell.part → ArePlaced cells (take k numbers) before entries → ArePlaced cells (take (k + 1) numbers) after (entries ++ record { key = key; value = get_or numbers k d } ∷ [])
placed_next cells numbers k d cell before after key entries lt at is stored so_far =
    subst (λ (list : List ℕ). ArePlaced cells list after (entries ++ record { key = key; value = get_or numbers k d } ∷ [])) (sym (take_more numbers k d lt))
    (placed_more cells (take k numbers) (get_or numbers k d) cell before after key entries at is stored so_far)

pub keys_within : (cells : List Cell) (numbers : List ℕ) (parts : List ℕ) (entries : List Entry) → ArePlaced cells numbers parts entries → All (λ (entry : Entry). entry.key < length parts) entries
keys_within cells numbers parts entries placed = λ k d lt.
    let entry = get_or entries k d in
    let p = placed.each entry (in_of entries entry (Contains-get_or entries k d lt)) in
    slice_get_within parts entry.key (p.0).part p.2

pub by_part : (cells : List Cell) (numbers : List ℕ) (parts : List ℕ) (entries : List Entry) (groups : List (List ℕ)) → ArePlaced cells numbers parts entries → IsGathered entries (length parts) groups → AreByPart cells numbers groups
by_part cells numbers parts entries groups placed gathered = record { only = only; all = all; same = same }
  where
    place : (group number : ℕ) → HasRead groups group number → HasPlace cells parts (record { key = group; value = number })
    place group number has = placed.each (record { key = group; value = number }) (read_entry entries (length parts) groups gathered group number has)

    only : (group number : ℕ) → HasRead groups group number → Contains numbers number
    only group number has = placed.only (record { key = group; value = number }) (read_entry entries (length parts) groups gathered group number has)

    all : (number : ℕ) → Contains numbers number → (group : ℕ) × HasRead groups group number
    all number has =
        let p = placed.all number has in
        let entry : Entry = record { key = p.0; value = number } in
        let q = placed.each entry p.1 in
        (p.0, entry_read entries (length parts) groups gathered p.0 number (slice_get_within parts p.0 (q.0).part q.2) p.1)

    same : (group one other : ℕ) (a b : Cell) → HasRead groups group one → HasRead groups group other → slice_get cells one ≡ Some a → slice_get cells other ≡ Some b → a.part ≡ b.part
    same group one other a b has_one has_other at_one at_other =
        let p = place group one has_one in
        let q = place group other has_other in
        let parts_are : (p.0).part ≡ (q.0).part = one_at parts group (p.0).part (q.0).part p.2 q.2 in
        ap (λ (c : Cell). c.part) (one_at cells one a p.0 at_one p.1) ∙ parts_are ∙ ap (λ (c : Cell). c.part) (one_at cells other q.0 b q.1 at_other)

-- ---- cells of some numbers

none_among : (cells : List Cell) (cell : Cell) → IsAmong cells [] cell → ⊥
none_among cells cell among = omega (arith, among.1.1)

among_more : (cells : List Cell) (numbers : List ℕ) (number : ℕ) (cell other : Cell) → slice_get cells number ≡ Some cell → IsAmong cells (numbers ++ number ∷ []) other → IsAmong cells numbers other ⊎ (cell ≡ other)
among_more cells numbers number cell other at among = elim (Contains-push_cases numbers number among.0 among.1) [
  | inl early ↦ inl (among.0, early, among.2)
  | inr is ↦ inr (one_at cells among.0 cell other (ap (slice_get cells) (sym is) ∙ at) among.2)
]

among_early : (cells : List Cell) (numbers : List ℕ) (number : ℕ) (cell : Cell) → IsAmong cells numbers cell → IsAmong cells (numbers ++ number ∷ []) cell
among_early cells numbers number cell among = (among.0, contains_of (numbers ++ number ∷ []) among.0 (in_left numbers (number ∷ []) among.0 (in_of numbers among.0 among.1)), among.2)

pub contains_early : {X : Type 0} (xs : List X) (y x : X) → Contains xs x → Contains (xs ++ y ∷ []) x
contains_early xs y x has = contains_of (xs ++ y ∷ []) x (in_left xs (y ∷ []) x (in_of xs x has))

-- the cell that is left is the last one
pushed_is_cell : (cells : List Cell) (number : ℕ) (cell other : Cell) (before now : List Cell) → slice_get cells number ≡ Some cell → ((c : Cell) → Contains now c → Contains before c ⊎ Contains cells c) → Contains (now ++ cell ∷ []) other → Contains before other ⊎ Contains cells other
pushed_is_cell cells number cell other before now at others has = elim (Contains-push_cases now cell other has) [
  | inl early ↦ others other early
  | inr is ↦ inr (subst (Contains cells) is (contains_at cells number cell at))
]

-- the cell of the first number
pub first_among : (cells : List Cell) (numbers : List ℕ) (d : Cell) → 0 < length numbers → All (λ (number : ℕ). number < length cells) numbers → IsAmong cells numbers (get_or cells (get_or numbers 0 0) d)
first_among cells numbers d some within = (get_or numbers 0 0, Contains-get_or numbers 0 0 some, slice_get-get_or cells (get_or numbers 0 0) d (within 0 0 some))

-- ---- the cells of numbers

pub cells_at-push : (cells : List Cell) (numbers : List ℕ) (number : ℕ) (cell : Cell) → slice_get cells number ≡ Some cell → cells_at cells (numbers ++ number ∷ []) ≡ cells_at cells numbers ++ cell ∷ []
cells_at-push cells numbers number cell at =
    flat_map-append (λ n. one_or_none (slice_get cells n)) numbers (number ∷ []) ∙ ap (λ (found : Option Cell). cells_at cells numbers ++ (one_or_none found ++ [])) at

pub cells_at-among : (cells : List Cell) (numbers : List ℕ) (cell : Cell) → IsAmong cells numbers cell → Contains (cells_at cells numbers) cell
cells_at-among cells numbers cell among =
    let here = subst (λ (found : Option Cell). In (one_or_none found) cell) (sym among.2) (inl refl) in
    contains_of (cells_at cells numbers) cell (in_flat_map (λ n. one_or_none (slice_get cells n)) numbers among.0 cell (in_of numbers among.0 among.1) here)

pub among-cells_at : (cells : List Cell) (numbers : List ℕ) (cell : Cell) → Contains (cells_at cells numbers) cell → IsAmong cells numbers cell
among-cells_at cells numbers cell has =
    let r = from_flat_map (λ n. one_or_none (slice_get cells n)) numbers cell (in_of (cells_at cells numbers) cell has) in
    (r.0, contains_of numbers r.0 r.1, found (slice_get cells r.0) r.2)
  where
    found : (some : Option Cell) → In (one_or_none some) cell → some ≡ Some cell
    found (Some c) (inl same) = ap Some same
    found (Some c) (inr none) = absurd none
    found None none = absurd none

pub cells_at-all : (P : Cell → Type 0) (cells : List Cell) (numbers : List ℕ) → All P cells → All P (cells_at cells numbers)
cells_at-all P cells numbers all k d lt =
    let cell = get_or (cells_at cells numbers) k d in
    let r = among-cells_at cells numbers cell (Contains-get_or (cells_at cells numbers) k d lt) in
    All-contains P cells cell all (contains_at cells r.0 cell r.2)

pub cells_at-drop : (cells : List Cell) (numbers : List ℕ) (index d : ℕ) (cell : Cell) → index < length numbers → slice_get cells (get_or numbers index d) ≡ Some cell → cells_at cells (drop index numbers) ≡ cell ∷ cells_at cells (drop (index + 1) numbers)
cells_at-drop cells numbers index d cell lt at =
    let on : suc index ≡ index + 1 = omega arith in
    let parts : drop index numbers ≡ get_or numbers index d ∷ drop (index + 1) numbers = drop-cons numbers index d lt ∙ ap (λ (k : ℕ). get_or numbers index d ∷ drop k numbers) on in
    ap (cells_at cells) parts ∙ ap (λ (found : Option Cell). one_or_none found ++ cells_at cells (drop (index + 1) numbers)) at

-- ---- cells that give starts

pub takes_none : (cells : List Cell) (before : List Cell) (starts : List Start) → starts ≡ [] → Takes cells [] starts before before
takes_none cells before starts none = record {
  kept = λ cell has. has;
  others = λ cell has. inl has;
  from = λ start has. let at = subst (λ (list : List Start). Contains list start) none has in absurd (omega (arith, at.1));
  each = λ cell among. absurd (none_among cells cell among);
}

takes_left : (cells : List Cell) (numbers : List ℕ) (number : ℕ) (cell : Cell) (starts : List Start) (before now : List Cell) → slice_get cells number ≡ Some cell → Takes cells numbers starts before now → Takes cells (numbers ++ number ∷ []) starts before (now ++ cell ∷ [])
takes_left cells numbers number cell starts before now at takes = record {
  kept = λ c has. contains_early now cell c (takes.kept c has);
  others = λ c has. pushed_is_cell cells number cell c before now at takes.others has;
  from = λ start has. let r = takes.from start has in (r.0, among_early cells numbers number r.0 r.1, r.2);
  each = each;
}
  where
    each : (c : Cell) → IsAmong cells (numbers ++ number ∷ []) c → Contains (now ++ cell ∷ []) c ⊎ HasStarts starts c
    each c among = elim (among_more cells numbers number cell c at among) [
      | inl early ↦ elim (takes.each c early) [ inl left ↦ inl (contains_early now cell c left) | inr given ↦ inr given ]
      | inr is ↦ inl (subst (Contains (now ++ cell ∷ [])) is (Contains-push now cell))
    ]

takes_starts : (cells : List Cell) (numbers : List ℕ) (number : ℕ) (cell : Cell) (starts more : List Start) (before now : List Cell) → slice_get cells number ≡ Some cell → AddsStarts cell starts more → Takes cells numbers starts before now → Takes cells (numbers ++ number ∷ []) more before now
takes_starts cells numbers number cell starts more before now at adds takes = record { kept = takes.kept; others = takes.others; from = from; each = each }
  where
    from : (start : Start) → Contains more start → (c : Cell) × IsAmong cells (numbers ++ number ∷ []) c × IsStartOf c start
    from start has = elim (adds.only start has) [
      | inl early ↦ let r = takes.from start early in (r.0, among_early cells numbers number r.0 r.1, r.2)
      | inr of_cell ↦ (cell, (number, Contains-push numbers number, at), of_cell)
    ]

    each : (c : Cell) → IsAmong cells (numbers ++ number ∷ []) c → Contains now c ⊎ HasStarts more c
    each c among = elim (among_more cells numbers number cell c at among) [
      | inl early ↦ elim (takes.each c early) [
        | inl left ↦ inl left
        | inr given ↦ inr (λ output input has_output has_input. let r = given output input has_output has_input in (r.0, adds.kept r.0 r.1, r.2, r.3))
      ]
      | inr is ↦ inr (subst (HasStarts more) is adds.all)
    ]

pub takes_left_more : (cells : List Cell) (numbers : List ℕ) (k d : ℕ) (cell : Cell) (starts : List Start) (before now new : List Cell) → k < length numbers → slice_get cells (get_or numbers k d) ≡ Some cell → new ≡ now ++ cell ∷ [] → Takes cells (take k numbers) starts before now → Takes cells (take (k + 1) numbers) starts before new
takes_left_more cells numbers k d cell starts before now new lt at is so_far =
    subst₂ (λ (list : List ℕ) (after : List Cell). Takes cells list starts before after) (sym (take_more numbers k d lt)) (sym is) (takes_left cells (take k numbers) (get_or numbers k d) cell starts before now at so_far)

pub takes_starts_more : (cells : List Cell) (numbers : List ℕ) (k d : ℕ) (cell : Cell) (starts more : List Start) (before now : List Cell) → k < length numbers → slice_get cells (get_or numbers k d) ≡ Some cell → AddsStarts cell starts more → Takes cells (take k numbers) starts before now → Takes cells (take (k + 1) numbers) more before now
takes_starts_more cells numbers k d cell starts more before now lt at adds so_far =
    subst (λ (list : List ℕ). Takes cells list more before now) (sym (take_more numbers k d lt)) (takes_starts cells (take k numbers) (get_or numbers k d) cell starts more before now at adds so_far)

-- ---- what is said of the cells of some numbers

module _ (cells : List Cell) (numbers : List ℕ) (starts : List Start) (before now : List Cell) (takes : Takes cells numbers starts before now) where
  pub some_number : (size : ℕ) → length starts ≡ size → eqb size 0 ≡ false → 0 < length numbers
  some_number size size_is not_empty =
      let some : 0 < size = grind (arith, nat_tests, not_empty) in
      let start = some_element starts (omega (arith, some, size_is)) in
      let r = takes.from start.0 start.1 in
      omega (arith, r.1.1.1)

  -- no starts: the cells that are not left read nothing
  pub splits_none : starts ≡ [] → (entries : List Entry) → Splits cells (IsAmong cells numbers) entries entries before now
  splits_none none entries = record { kept = λ entry has. has; only = λ entry has. inl has; left = takes.kept; others = takes.others; each = each }
    where
      says_all : (cell : Cell) → HasStarts starts cell → SayAll entries cell
      says_all cell given = λ port other through.
          let r = given through.output through.input through.has_output through.has_input in
          let at = subst (λ (list : List Start). Contains list r.0) none r.1 in
          absurd (omega (arith, at.1))

      each : (cell : Cell) → IsAmong cells numbers cell → Contains now cell ⊎ SayAll entries cell
      each cell among = elim (takes.each cell among) [ inl left ↦ inl left | inr given ↦ inr (says_all cell given) ]

  -- a graph with a loop: all the cells are left
  pub splits_left : (more : List ℕ) → now ≡ cells_at cells more → (entries : List Entry) → Splits cells (IsAmong cells numbers) entries entries before (cells_at cells (more ++ numbers))
  splits_left more now_is entries = record {
    kept = λ entry has. has;
    only = λ entry has. inl has;
    left = λ cell has. early cell (takes.kept cell has);
    others = others;
    each = λ cell among. inl (subst (λ (l : List Cell). Contains l cell) (sym parts) (Contains-append_right (cells_at cells more) (cells_at cells numbers) cell (cells_at-among cells numbers cell among)));
  }
    where
      parts : cells_at cells (more ++ numbers) ≡ cells_at cells more ++ cells_at cells numbers
      parts = flat_map-append (λ n. one_or_none (slice_get cells n)) more numbers

      early : (cell : Cell) → Contains now cell → Contains (cells_at cells (more ++ numbers)) cell
      early cell has =
          subst (λ (l : List Cell). Contains l cell) (sym parts) (Contains-append_left (cells_at cells more) (cells_at cells numbers) cell (subst (λ (l : List Cell). Contains l cell) now_is has))

      others : (cell : Cell) → Contains (cells_at cells (more ++ numbers)) cell → Contains before cell ⊎ Contains cells cell
      others cell has = elim (Contains-append_cases (cells_at cells more) (cells_at cells numbers) cell (subst (λ (l : List Cell). Contains l cell) parts has)) [
        | inl some ↦ takes.others cell (subst (λ (l : List Cell). Contains l cell) (sym now_is) some)
        | inr of_numbers ↦ let r = among-cells_at cells numbers cell of_numbers in inr (contains_at cells r.0 cell r.2)
      ]

  module _ (reads : List (List ℕ)) (same : (cell : Cell) → IsAmong cells numbers cell → cell.reads.now ≡ reads) where
    pub starts_within : (ports : ℕ) → All (IsFit ports) cells → All (IsWithin (length reads)) starts
    starts_within ports fits = λ k d lt.
        let start = get_or starts k d in
        let r = takes.from start (Contains-get_or starts k d lt) in
        let fit = All-contains (IsFit ports) cells r.0 fits (contains_at cells r.1.0 r.0 r.1.2) in
        start_within ports reads r.0 start (same r.0 r.1) fit r.2

    only_through : (some : List Start) → ((start : Start) → Contains some start → Contains starts start) → (old new : List Entry) → AddsPairs reads some old new → (entry : Entry) → Contains new entry → Contains old entry ⊎ ((cell : Cell) × Contains cells cell × ReadsThrough cell entry.key entry.value)
    only_through some are old new adds entry has = elim (adds.only entry has) [
      | inl early ↦ inl early
      | inr (start, given, from) ↦
          let r = takes.from start (are start given) in
          inr (r.0, contains_at cells r.1.0 r.0 r.1.2, reads_through reads r.0 start entry.key entry.value (same r.0 r.1) r.2 from)
    ]

    -- where some starts were searched from, the entries say more, and it is no matter which cells are left
    pub splits_searched : (count : ℕ) (old new : List Entry) (after : List Cell) → AddsPairs reads (take count starts) old new → Splits cells (IsAmong cells numbers) old old before after → Splits cells (IsAmong cells numbers) old new before after
    splits_searched count old new after adds splits = record {
      kept = adds.kept;
      only = only_through (take count starts) (from_take count starts) old new adds;
      left = splits.left;
      others = splits.others;
      each = λ cell among. elim (splits.each cell among) [
        | inl left ↦ inl left
        | inr said ↦ inr (λ port other through. adds.kept (record { key = port; value = other }) (said port other through))
      ];
    }

    pub splits_pairs : (old new : List Entry) → AddsPairs reads starts old new → Splits cells (IsAmong cells numbers) old new before now
    splits_pairs old new adds = record { kept = adds.kept; only = only_through starts (λ start has. has) old new adds; left = takes.kept; others = takes.others; each = each }
      where
        each : (cell : Cell) → IsAmong cells numbers cell → Contains now cell ⊎ SayAll new cell
        each cell among = elim (takes.each cell among) [ inl left ↦ inl left | inr given ↦ inr (says_through reads cell starts old new (same cell among) given adds) ]

-- ---- component by component

-- one of the cells of the first groups
abbrev pub IsAmongFirst : List Cell → List (List ℕ) → ℕ → Cell → Type 0
IsAmongFirst cells groups count cell = (group : ℕ) × (group < count) × IsAmong cells (get_or groups group []) cell

pub splits_start : (cells : List Cell) (groups : List (List ℕ)) (entries : List Entry) (left : List Cell) → Splits cells (IsAmongFirst cells groups 0) entries entries left left
splits_start cells groups entries left = record {
  kept = λ entry has. has;
  only = λ entry has. inl has;
  left = λ cell has. has;
  others = λ cell has. inl has;
  each = λ cell among. absurd (omega (arith, among.1));
}

pub splits_more : (cells : List Cell) (groups : List (List ℕ)) (part : ℕ) (numbers : List ℕ) (first old new : List Entry) (before now after : List Cell) → slice_get groups part ≡ Some numbers → Splits cells (IsAmongFirst cells groups part) first old before now → Splits cells (IsAmong cells numbers) old new now after → Splits cells (IsAmongFirst cells groups (part + 1)) first new before after
splits_more cells groups part numbers first old new before now after at so_far more = record {
  kept = λ entry has. more.kept entry (so_far.kept entry has);
  only = λ entry has. elim (more.only entry has) [ inl early ↦ so_far.only entry early | inr through ↦ inr through ];
  left = λ cell has. more.left cell (so_far.left cell has);
  others = λ cell has. elim (more.others cell has) [ inl early ↦ so_far.others cell early | inr of_cells ↦ inr of_cells ];
  each = each;
}
  where
    each : (cell : Cell) → IsAmongFirst cells groups (part + 1) cell → Contains after cell ⊎ SayAll new cell
    each cell among = elim (cases_lt among.0 part) [
      | inl early ↦ elim (so_far.each cell (among.0, early, among.2)) [
        | inl left ↦ inl (more.left cell left)
        | inr said ↦ inr (λ port other through. more.kept (record { key = port; value = other }) (said port other through))
      ]
      | inr past ↦
          let is_last : among.0 ≡ part = omega (arith, among.1, past) in
          let numbers_are : get_or groups among.0 [] ≡ numbers = ap (λ (group : ℕ). get_or groups group []) is_last ∙ get_or_from_slice_get groups part numbers [] at in
          more.each cell (subst (λ (list : List ℕ). IsAmong cells list cell) numbers_are among.2)
    ]

module _ (cells : List Cell) (among : List ℕ) (groups : List (List ℕ)) (by : AreByPart cells among groups) where
  -- the group of a number is one of them
  group_within : (group number : ℕ) → HasRead groups group number → group < length groups
  group_within group number has = elim (cases_lt group (length groups)) [
    | inl lt ↦ lt
    | inr past ↦ let none : get_or groups group [] ≡ [] = get_or_past groups group [] past in absurd (omega (arith, has.1, ap length none))
  ]

  in_group : (cell : Cell) → IsAmong cells among cell → IsAmongFirst cells groups (length groups) cell
  in_group cell has = let r = by.all has.0 has.1 in (r.0, group_within r.0 has.0 r.1, (has.0, r.1, has.2))

  pub splits_end : (count : ℕ) (first new : List Entry) (before after : List Cell) → length groups ≤ count → Splits cells (IsAmongFirst cells groups count) first new before after → Splits cells (IsAmong cells among) first new before after
  splits_end count first new before after whole splits = record {
    kept = splits.kept;
    only = splits.only;
    left = splits.left;
    others = splits.others;
    each = λ cell has. let r = in_group cell has in splits.each cell (r.0, omega (arith, r.1, whole), r.2);
  }

  module _ (part : ℕ) (numbers : List ℕ) (at : slice_get groups part ≡ Some numbers) where
    of_group : (number : ℕ) → Contains numbers number → HasRead groups part number
    of_group number has = subst (λ (list : List ℕ). Contains list number) (sym (get_or_from_slice_get groups part numbers [] at)) has

    pub numbers_within : All (λ (number : ℕ). number < length cells) among → All (λ (number : ℕ). number < length cells) numbers
    numbers_within within = λ k d lt.
        let number = get_or numbers k d in
        All-contains (λ (n : ℕ). n < length cells) among number within (by.only part number (of_group number (Contains-get_or numbers k d lt)))

    pub one_graph : AreOfParts cells → (cell other : Cell) → IsAmong cells numbers cell → IsAmong cells numbers other → cell.reads.now ≡ other.reads.now
    one_graph parts cell other one two =
        parts cell other (contains_at cells one.0 cell one.2) (contains_at cells two.0 other two.2)
        (by.same part one.0 two.0 cell other (of_group one.0 one.1) (of_group two.0 two.1) one.2 two.2)
