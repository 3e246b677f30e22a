-- Places in an order of a graph's ports, and the graph that entries make.
use Rattle.std.proofs.Common.{◌≡◌, ℕ, ◌+◌, ◌<◌, inl, inr, List, [], length, get_or, set, take, refl, sym, ap, ◌∙◌, arith, subst, get_or-set_same, get_or-set_other}
use Rattle.std.specs.Prelude.{Contains, filter}
use Rattle.std.proofs.lemmas.Bool.{cases_eq, cases_lt}
use Rattle.std.proofs.lemmas.Bool.Decides.{Decides-eqb}
use Rattle.std.proofs.lemmas.List.{get_or_past, get_or-take, length-take}
use Rattle.std.proofs.lemmas.Option.{get_or_from_slice_get}
use Rattle.hw_graph.proofs.MemberLemmas.{in_of, contains_of, in_map, in_filter}
use Rattle.hw_graph.proofs.SearchLemmas.{contained_at}
use Rattle.hw_graph.specs.Graph.{HasRead, IsReadOrder}
use Rattle.hw_graph.specs.Groups.{IsGathered, with_key, has_key}
use Rattle.hw_graph.specs.declared.groups.Entry.{Entry}
use Rattle.hw_levels.specs.Levels.{IsBelow}

-- the port at a place stands nowhere else in the list
abbrev pub IsOnce : List ℕ → ℕ → Type 0
IsOnce order i = (j : ℕ) → j < length order → get_or order j 0 ≡ get_or order i 0 → j ≡ i

-- the ports so far that stand once in the list have their places
abbrev pub HavePlaces : List ℕ → List ℕ → ℕ → Type 0
HavePlaces order places n = (i : ℕ) → i < n → IsOnce order i → get_or places (get_or order i 0) 0 ≡ i

pub places_more : (order places : List ℕ) (n : ℕ) → n < length order → get_or order n 0 < length places → HavePlaces order places n → HavePlaces order (set places (get_or order n 0) n) (n + 1)
places_more order places n within port_within have i lt once = elim (cases_eq (get_or order n 0) (get_or order i 0)) [
  | inl same ↦
      let here : n ≡ i = once n within same in
      subst (λ (k : ℕ). get_or (set places (get_or order n 0) n) (get_or order k 0) 0 ≡ k) here (get_or-set_same places (get_or order n 0) n 0 port_within)
  | inr other ↦
      let ne : n ≡ i → ⊥ = λ e. other (ap (λ (k : ℕ). get_or order k 0) e) in
      get_or-set_other places (get_or order n 0) (get_or order i 0) n 0 (λ e. other (sym e)) ∙ have i (omega (arith, lt, ne)) once
]

-- what reads nothing is no port that reads
read_within : (reads : List (List ℕ)) (port other : ℕ) → HasRead reads port other → port < length reads
read_within reads port other has = elim (cases_lt port (length reads)) [
  | inl lt ↦ lt
  | inr past ↦ let none : get_or reads port [] ≡ [] = get_or_past reads port [] past in absurd (omega (arith, has.1, ap length none))
]

-- in an order each port has a place below that of each port that reads it
pub places_rise : (reads : List (List ℕ)) (order places : List ℕ) → IsReadOrder reads order → ((i : ℕ) → i < length order → IsOnce order i → get_or places (get_or order i 0) 0 ≡ i) → (port other : ℕ) → HasRead reads port other → IsBelow places other port
places_rise reads order places is have port other has =
    let there = is.each port (read_within reads port other has) in
    let port_at : get_or order there.0 0 ≡ port = contained_at order port there in
    let before = is.after there.0 other there.1 (subst (λ (p : ℕ). HasRead reads p other) (sym port_at) has) in
    let early : before.0 < there.0 = omega (arith, before.1, length-take there.0 order) in
    let other_at : get_or order before.0 0 ≡ other = sym (get_or-take there.0 order before.0 0 early) ∙ contained_at (take there.0 order) other before in
    let within : before.0 < length order = omega (arith, early, there.1) in
    let port_place : get_or places port 0 ≡ there.0 =
    subst (λ (p : ℕ). get_or places p 0 ≡ there.0) port_at (have there.0 there.1 (λ j lt same. is.once j there.0 lt there.1 same)) in
    let other_place : get_or places other 0 ≡ before.0 =
    subst (λ (p : ℕ). get_or places p 0 ≡ before.0) other_at (have before.0 within (λ j lt same. is.once j before.0 lt within same)) in
    omega (arith, port_place, other_place, early)

-- each entry is a read
pub entry_read : (entries : List Entry) (count : ℕ) (reads : List (List ℕ)) → IsGathered entries count reads → (entry : Entry) → Contains entries entry → entry.key < count → HasRead reads entry.key entry.value
entry_read entries count reads gathered entry has below =
    let is : get_or reads entry.key [] ≡ with_key entry.key entries = get_or_from_slice_get reads entry.key (with_key entry.key entries) [] (gathered.each entry.key below) in
    let kept = in_filter (has_key entry.key) entries entry (in_of entries entry has) ((Decides-eqb entry.key entry.key).1 refl) in
    let there = in_map (λ (x : Entry). x.value) (filter (has_key entry.key) entries) entry kept in
    subst (λ (l : List ℕ). Contains l entry.value) (sym is) (contains_of (with_key entry.key entries) entry.value there)
