-- Reads of one port after another, and of the graph turned round.
use Rattle.std.proofs.Common.{◌≡◌, ℕ, ◌<◌, inl, inr, List, [], ◌∷◌, ◌++◌, length, get_or, Some, sym, ap, arith, subst, Result, Ok, Err}
use Rattle.std.specs.Prelude.{slice_get, Contains, All, filter, IfOk}
use Rattle.std.proofs.lemmas.Bool.{cases_lt}
use Rattle.std.proofs.lemmas.List.{get_or_past}
use Rattle.std.proofs.lemmas.List.Elements.{All-contains, All-push, Contains-get_or}
use Rattle.std.proofs.lemmas.Option.{get_or_from_slice_get}
use Rattle.hw_graph.proofs.MemberLemmas.{in_of, contains_of, from_map, from_filter}
use Rattle.hw_graph.specs.inside.Components.{AreBelow}
use Rattle.hw_graph.specs.Groups.{IsGathered, with_key, has_key}
use Rattle.hw_graph.specs.Graph.{HasRead, AreInRange}
use Rattle.hw_graph.specs.declared.groups.Entry.{Entry}

-- a port's reads as they were got
pub read_at : (reads : List (List ℕ)) (port : ℕ) (got : List ℕ) → slice_get reads port ≡ Some got → (k d : ℕ) → k < length got → HasRead reads port (get_or got k d)
read_at reads port got at k d lt =
    subst (λ l. Contains l (get_or got k d)) (sym (get_or_from_slice_get reads port got [] at)) (Contains-get_or got k d lt)

pub read_of : (reads : List (List ℕ)) (port : ℕ) (got : List ℕ) → slice_get reads port ≡ Some got → (other : ℕ) → HasRead reads port other → Contains got other
read_of reads port got at other has = subst (λ l. Contains l other) (get_or_from_slice_get reads port got [] at) has

pub reads_in_range : (reads : List (List ℕ)) → AreInRange reads → (port : ℕ) (got : List ℕ) → slice_get reads port ≡ Some got → All (λ (other : ℕ). other < length reads) got
reads_in_range reads range port got at k d lt = range port (get_or got k d) (read_at reads port got at k d lt)

-- what is gathered from entries below a count is below it
pub gathered_in_range : (entries : List Entry) (count : ℕ) (groups : List (List ℕ)) → AreBelow count entries → IsGathered entries count groups → AreInRange groups
gathered_in_range entries count groups below gathered port other has = elim (cases_lt port (length groups)) [
  | inl lt ↦
      let there = read_of groups port (with_key port entries) (gathered.each port (omega (arith, lt, gathered.all))) other has in
      let m = from_map (λ (e : Entry). e.value) (filter (has_key port) entries) other (in_of (with_key port entries) other there) in
      let f = from_filter (has_key port) entries m.0 m.1 in
      let b = All-contains (λ (e : Entry). (e.key < count) × (e.value < count)) entries m.0 below (contains_of entries m.0 f.0) in
      omega (arith, b.1, m.2, gathered.all)
  | inr past ↦ let none : get_or groups port [] ≡ [] = get_or_past groups port [] past in absurd (omega (arith, has.1, ap length none))
]

pub below_more : (count : ℕ) (entries : List Entry) (e : Entry) → e.key < count → e.value < count → AreBelow count entries → AreBelow count (entries ++ e ∷ [])
below_more count entries e key value below = All-push (λ (x : Entry). (x.key < count) × (x.value < count)) entries e below (key, value)

pub ok_of : {T E : Type 0} (P Q : T → Type 0) → ((x : T) → P x → Q x) → (r : Result T E) → IfOk r P → IfOk r Q
ok_of P Q f (Ok x) h = f x h
ok_of P Q f (Err e) h = h
