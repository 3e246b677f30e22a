-- The assignments of each name, found by their numbers.
use Rattle.std.proofs.Common.{◌≡◌, ℕ, suc, ◌+◌, ◌<◌, Bool, true, false, cond, ◌==◌, List, [], ◌∷◌, ◌++◌, length, map, filter, take, get_or, slice_get, All, Contains, IsSome, is_some, Option, Some, None, bytes_eq, option_to_list, refl, sym, ap, ◌∙◌, arith, length-take}
use Rattle.std.proofs.lemmas.Bool.Decides.{Decides-eqb, same_from_decides}
use Rattle.std.proofs.lemmas.List.{take_more}
use Rattle.std.proofs.lemmas.List.Elements.{All-nil, All-cons, All-head, All-tail, All-weaker}
use Rattle.std.proofs.lemmas.Option.{same_Some}
use Rattle.std.proofs.lemmas.Slice.Eq.{bytes_eq-Decides}
use Rattle.hw_graph.specs.Groups.{has_key, with_key}
use Rattle.hw_graph.specs.declared.groups.Entry.{Entry}
use Rattle.hw_names.proofs.NameLemmas.{Contains-slice_get, same_number, slice_get-text_of}
use Rattle.hw_names.specs.Name.{AreDistinct, Text, text_of}
use Rattle.net_core.specs.Netlist.{SetLine, set_of}
use Rattle.net_core.specs.Numbers.{SetHasNumbers}
use Rattle.net_core.specs.declared.net.NetAssign.{NetAssign}
use Rattle.ver_print.specs.inside.Drivers.{entries_of, picked}
use Rattle.ver_print.specs.Values.{sets_to}

abbrev entry : NetAssign → ℕ → Entry
entry a number = record { key = a.dst.0; value = number }

-- ---- the entries

entries_of-push : (k : ℕ) (sets : List NetAssign) (a : NetAssign) (n : ℕ) → n ≡ k + length sets → entries_of k (sets ++ a ∷ []) ≡ entries_of k sets ++ entry a n ∷ []
entries_of-push k [] a n is = ap (λ (m : ℕ). entry a m ∷ []) (let same : k ≡ n = omega arith in same)
entries_of-push k (b ∷ sets) a n is = ap (λ (es : List Entry). entry b k ∷ es) (entries_of-push (suc k) sets a n (omega arith))

pub entries_more : (sets : List NetAssign) (i : ℕ) (a : NetAssign) → i < length sets → a ≡ get_or sets i a → entries_of 0 (take i sets) ++ entry a i ∷ [] ≡ entries_of 0 (take (i + 1) sets)
entries_more sets i a within is =
    let next : take (i + 1) sets ≡ take i sets ++ a ∷ [] = take_more sets i a within ∙ ap (λ (b : NetAssign). take i sets ++ b ∷ []) (sym is) in
    sym (ap (entries_of 0) next ∙ entries_of-push 0 (take i sets) a i (omega (arith, length-take i sets)))

pub entries_below : (names : List Text) (k : ℕ) (sets : List NetAssign) → All (SetHasNumbers names) sets → All (λ (e : Entry). e.key < length names) (entries_of k sets)
entries_below names k [] numbers = All-nil (λ (e : Entry). e.key < length names)
entries_below names k (a ∷ sets) numbers =
    All-cons (λ (e : Entry). e.key < length names) (entry a k) (entries_of (suc k) sets) (All-head (SetHasNumbers names) a sets numbers).0
    (entries_below names (suc k) sets (All-tail (SetHasNumbers names) a sets numbers))

-- ---- the numbers of a name's assignments

abbrev values : List Entry → List ℕ
values entries = map (λ (e : Entry). e.value) entries

numbers_step : (b : Bool) (key k n : ℕ) (e : Entry) (entries : List Entry) → e.value ≡ k → k < n → All (λ (m : ℕ). m < n) (with_key key entries)
    → All (λ (m : ℕ). m < n) (values (cond b (e ∷ filter (has_key key) entries) (filter (has_key key) entries)))
numbers_step true key k n e entries is below rest = All-cons (λ (m : ℕ). m < n) e.value (with_key key entries) (omega (arith, is, below)) rest
numbers_step false key k n e entries is below rest = rest

pub numbers_within : (key k : ℕ) (sets : List NetAssign) → All (λ (n : ℕ). n < k + length sets) (with_key key (entries_of k sets))
numbers_within key k [] = All-nil (λ (n : ℕ). n < k + 0)
numbers_within key k (a ∷ sets) =
    let rest : All (λ (n : ℕ). n < k + suc (length sets)) (with_key key (entries_of (suc k) sets)) =
    All-weaker (λ (n : ℕ). n < suc k + length sets) (λ (n : ℕ). n < k + suc (length sets)) (λ n lt. omega arith) (with_key key (entries_of (suc k) sets)) (numbers_within key (suc k) sets) in
    numbers_step (a.dst.0 == key) key k (k + suc (length sets)) (entry a k) (entries_of (suc k) sets) refl (omega arith) rest

module _ (names : List Text) (distinct : AreDistinct names) (key : ℕ) (port : Text) (at : slice_get names key ≡ Some port) where
  -- an assignment has the key exactly where it drives the port
  same_test : (a : NetAssign) → SetHasNumbers names a → (a.dst.0 == key) ≡ bytes_eq (text_of names a.dst) port
  same_test a numbers =
      let here : slice_get names a.dst.0 ≡ Some (text_of names a.dst) = slice_get-text_of names a.dst numbers.0 in
      let to : a.dst.0 ≡ key → text_of names a.dst ≡ port = λ same. same_Some (text_of names a.dst) port (sym here ∙ ap (slice_get names) same ∙ at) in
      let back : text_of names a.dst ≡ port → a.dst.0 ≡ key = λ same. same_number names a.dst.0 key port distinct (here ∙ ap Some same) at in
      same_from_decides (a.dst.0 == key) (bytes_eq (text_of names a.dst) port)
      (λ t. to ((Decides-eqb a.dst.0 key).0 t), λ s. (Decides-eqb a.dst.0 key).1 (back s)) (bytes_eq-Decides (text_of names a.dst) port)

  abbrev found_from : ℕ → List NetAssign → List Entry
  found_from k sets = filter (has_key key) (entries_of k sets)

  picked_step : (b : Bool) (all sets : List NetAssign) (k : ℕ) (a : NetAssign) → slice_get all k ≡ Some a
      → map (set_of names) (picked all (values (found_from (suc k) sets))) ≡ sets_to port (map (set_of names) sets)
      → map (set_of names) (picked all (values (cond b (entry a k ∷ found_from (suc k) sets) (found_from (suc k) sets))))
      ≡ cond b (set_of names a ∷ sets_to port (map (set_of names) sets)) (sets_to port (map (set_of names) sets))
  picked_step true all sets k a first rest =
      ap (λ (o : Option NetAssign). map (set_of names) (option_to_list o ++ picked all (values (found_from (suc k) sets)))) first
      ∙ ap (λ (lines : List SetLine). set_of names a ∷ lines) rest
  picked_step false all sets k a first rest = rest

  picked_from : (all sets : List NetAssign) (k : ℕ) → ((j : ℕ) → slice_get sets j ≡ slice_get all (k + j)) → All (SetHasNumbers names) sets
      → map (set_of names) (picked all (values (found_from k sets))) ≡ sets_to port (map (set_of names) sets)
  picked_from all [] k same numbers = refl
  picked_from all (a ∷ sets) k same numbers =
      let rest = picked_from all sets (suc k) (λ j. same (suc j) ∙ ap (slice_get all) (let e : k + suc j ≡ suc k + j = omega arith in e)) (All-tail (SetHasNumbers names) a sets numbers) in
      let first : slice_get all k ≡ Some a = sym (same 0 ∙ ap (slice_get all) (let e : k + 0 ≡ k = omega arith in e)) in
      ap (λ (b : Bool). map (set_of names) (picked all (values (cond b (entry a k ∷ found_from (suc k) sets) (found_from (suc k) sets))))) (same_test a (All-head (SetHasNumbers names) a sets numbers))
      ∙ picked_step (bytes_eq (text_of names a.dst) port) all sets k a first rest

  -- the assignments with the numbers of the name are those that drive the port
  pub picked_are : (sets : List NetAssign) (numbers : List ℕ) → All (SetHasNumbers names) sets → numbers ≡ with_key key (entries_of 0 sets)
      → map (set_of names) (picked sets numbers) ≡ sets_to port (map (set_of names) sets)
  picked_are sets numbers have are =
      ap (λ (ns : List ℕ). map (set_of names) (picked sets ns)) are ∙ picked_from sets sets 0 (λ j. ap (slice_get sets) (let e : j ≡ 0 + j = omega arith in e)) have

-- no assignment drives a port whose name is none of the names
pub none_drives : (names : List Text) (port : Text) → (Contains names port → ⊥) → (sets : List NetAssign) → All (SetHasNumbers names) sets → [] ≡ sets_to port (map (set_of names) sets)
none_drives names port absent [] numbers = refl
none_drives names port absent (a ∷ sets) numbers =
    none_drives names port absent sets (All-tail (SetHasNumbers names) a sets numbers)
    ∙ ap (λ (b : Bool). cond b (set_of names a ∷ sets_to port (map (set_of names) sets)) (sets_to port (map (set_of names) sets))) (sym (other (bytes_eq (text_of names a.dst) port) refl))
  where
    other : (b : Bool) → bytes_eq (text_of names a.dst) port ≡ b → bytes_eq (text_of names a.dst) port ≡ false
    other true e =
        let there = slice_get-text_of names a.dst (All-head (SetHasNumbers names) a sets numbers).0 in
        absurd (absent (Contains-slice_get names a.dst.0 port (there ∙ ap Some ((bytes_eq-Decides (text_of names a.dst) port).0 e))))
    other false e = e

-- what was not found is not there
pub absent_where_none : {X : Type 0} (found : Option X) (P : Type 0) → (P → IsSome found) → found ≡ None → P → ⊥
absent_where_none found P some none there =
    let yes : is_some found ≡ true = some there in
    let no : is_some found ≡ false = ap is_some none in
    cc
