-- Readings that a graph of ports and holes gains, one after another.
use Rattle.std.proofs.Common.{◌≡◌, ◌↔◌, ◌⊎◌, inl, inr, ℕ, zero, suc, ◌+◌, ◌<◌, ◌≤◌, Bool, true, false, List, [], ◌∷◌, ◌++◌, Option, Some, None, length, map, take, get_or, slice_get, refl, sym, ap, subst, subst₂, ◌∙◌, add-zero, zero-add, arith}
use Rattle.std.specs.Prelude.{All, Contains, IfSome, codes, if◌then◌else◌}
use Rattle.std.proofs.lemmas.Bool.{cases_lt}
use Rattle.std.proofs.lemmas.List.{take_all, take_more, length-append}
use Rattle.std.proofs.lemmas.List.Elements.{All-push, All-contains, All-weaker, Contains-push_cases, Contains-append_left, Contains-push}
use Rattle.std.proofs.lemmas.Option.{get_or_from_slice_get, slice_get-get_or, slice_get_within, same_Some}
use Rattle.hw_graph.specs.declared.groups.Entry.{Entry}
use Rattle.hw_names.proofs.NameLemmas.{KeepsTexts-append, length-KeepsTexts}
use Rattle.hw_names.specs.Name.{Text, KeepsTexts, text_of}
use Rattle.hw_names.specs.declared.names.NameId.{NameId}
use Rattle.net_core.specs.declared.net.Src.TheVariants.{Lit}
use Rattle.cal_ast.specs.Invoking.{gives_input, invoke_done, starts_cell, takes_output}
use Rattle.cal_ast.specs.Sides.{IsSource}
use Rattle.cal_ast.specs.Tree.{PortName, own, port_of, port_tree, in_tree, out_tree, Assignment, GroupDef, Component, Design}
use Rattle.cal_ast.specs.declared.tree.CalPort.{CalPort}
use Rattle.cal_ast.specs.declared.tree.InBind.{InBind}
use Rattle.cal_ast.specs.declared.tree.OutBind.{OutBind}
use Rattle.cal_ast.specs.Wires.{set_ports}
use Rattle.cal_wires.specs.Nodes.{Node, APort, AHole, IsKey, PortList, key_of}
use Rattle.cal_wires.specs.Readings.{AddsGroups, AnyAt, AnyOf, ReadsDone, ReadsDones, ReadsEach, ReadsGo, ReadsGroup, ReadsGroups, ReadsSet, ReadsSets}
use Rattle.cal_wires.specs.WireGraphs.{Adds, Grows, HasHole, HasNumber, HasReading, IsPair, NoPair}
use Rattle.cal_wires.specs.declared.graph.Hole.{Hole}
use Rattle.cal_wires.specs.declared.graph.WireGraph.{WireGraph}
use Rattle.cal_place.proofs.FoundLemmas.{to_map}
use Rattle.cal_wires.proofs.FullNameLemmas.{same_node}

-- ---- entries, keys and numbers

abbrev pub IsWithin : List Text → Entry → Type 0
IsWithin keys e = (e.key < length keys) × (e.value < length keys)

pub within_more : (old new : List Text) (entries : List Entry) → KeepsTexts old new → All (IsWithin old) entries → All (IsWithin new) entries
within_more old new entries keeps all =
    let longer = length-KeepsTexts old new keeps in
    All-weaker (IsWithin old) (IsWithin new) (λ e within. (omega (arith, within.0), omega (arith, within.1))) entries all

-- one more entry, or none where there was no memory for it
pub within_pushed : (keys : List Text) (old new : List Entry) (e : Entry) (b : Bool) → new ≡ (if b then old ++ e ∷ [] else old) → All (IsWithin keys) old → IsWithin keys e → All (IsWithin keys) new
within_pushed keys old new e true are all within = subst (All (IsWithin keys)) (sym are) (All-push (IsWithin keys) old e all within)
within_pushed keys old new e false are all within = subst (All (IsWithin keys)) (sym are) all

-- the keys are as they were, or there is one more
pub keys_grown : (old new : List Text) (key : Text) → (new ≡ old) ⊎ (new ≡ old ++ key ∷ []) → All IsKey old → IsKey key → All IsKey new
keys_grown old new key (inl same) all is = subst (All IsKey) (sym same) all
keys_grown old new key (inr added) all is = subst (All IsKey) (sym added) (All-push IsKey old key all is)

-- and so numbers keep their keys
pub keys_kept : (old new : List Text) (key : Text) → (new ≡ old) ⊎ (new ≡ old ++ key ∷ []) → KeepsTexts old new
keys_kept old new key (inl same) i text at = ap (λ (l : List Text). slice_get l i) same ∙ at
keys_kept old new key (inr added) i text at = ap (λ (l : List Text). slice_get l i) added ∙ KeepsTexts-append old (key ∷ []) i text at

same_text : (old new : List Text) (i : ℕ) (text : Text) → KeepsTexts old new → i < length old → slice_get new i ≡ Some text → slice_get old i ≡ Some text
same_text old new i text keeps lt at =
    let there = slice_get-get_or old i [] lt in
    there ∙ (sym (keeps i (get_or old i []) there) ∙ at)

pub number_kept : (old new : WireGraph) (node : Node) (i : ℕ) → KeepsTexts old.ports.keys new.ports.keys → HasNumber old node i → HasNumber new node i
number_kept old new node i keeps is = record { has_key = is.has_key; at = keeps i (key_of node) is.at }

number_back : (old new : WireGraph) (node : Node) (i : ℕ) → KeepsTexts old.ports.keys new.ports.keys → i < length old.ports.keys → HasNumber new node i → HasNumber old node i
number_back old new node i keeps lt is = record { has_key = is.has_key; at = same_text old.ports.keys new.ports.keys i (key_of node) keeps lt is.at }

pub number_within : (g : WireGraph) (node : Node) (i : ℕ) → HasNumber g node i → i < length g.ports.keys
number_within g node i is = slice_get_within g.ports.keys i (key_of node) is.at

pub hole_kept : (old new : WireGraph) (hole : Option Hole) → KeepsTexts old.ports.keys new.ports.keys → IfSome hole (HasHole old) → IfSome hole (HasHole new)
hole_kept old new None keeps is = is
hole_kept old new (Some h) keeps is = number_kept old new (AHole h.group) h.node keeps is

-- one number, one node
pub one_node : (g : WireGraph) (n m : Node) (i : ℕ) → HasNumber g n i → HasNumber g m i → n ≡ m
one_node g n m i is_n is_m = same_node n m is_n.has_key is_m.has_key (same_Some (key_of n) (key_of m) (sym is_n.at ∙ is_m.at))

-- each number has a node
pub node_at : (g : WireGraph) → All IsKey g.ports.keys → (i : ℕ) → i < length g.ports.keys → (node : Node) × HasNumber g node i
node_at g nodes i lt =
    let key = nodes i [] lt in
    (key.node, record { has_key = key.has_key; at = slice_get-get_or g.ports.keys i [] lt ∙ ap Some key.is })

-- ---- what a graph gains

pub adds_none : (P : Node → Node → Type 0) (g : WireGraph) → ((n o : Node) → P n o → ⊥) → Adds P g g
adds_none P g none = record {
  names = refl;
  texts = λ i text at. at;
  nodes = λ all. all;
  has = λ n o. (λ h. inl h, λ e. elim e [ inl h ↦ h | inr p ↦ absurd (none n o p) ]);
}

pub adds_same : (P Q : Node → Node → Type 0) (old new : WireGraph) → ((n o : Node) → P n o ↔ Q n o) → Adds P old new → Adds Q old new
adds_same P Q old new same adds = record {
  names = adds.names;
  texts = adds.texts;
  nodes = adds.nodes;
  has = λ n o. (
    λ h. elim ((adds.has n o).0 h) [ inl before ↦ inl before | inr p ↦ inr ((same n o).0 p) ],
    λ e. elim e [ inl before ↦ (adds.has n o).1 (inl before) | inr q ↦ (adds.has n o).1 (inr ((same n o).1 q)) ],
  );
}

pub adds_both : (P Q : Node → Node → Type 0) (a b c : WireGraph) → Adds P a b → Adds Q b c → Adds (λ n o. P n o ⊎ Q n o) a c
adds_both P Q a b c first second = record {
  names = second.names ∙ first.names;
  texts = λ i text at. second.texts i text (first.texts i text at);
  nodes = λ all. second.nodes (first.nodes all);
  has = λ n o. (
    λ h. elim ((second.has n o).0 h) [
      | inl m ↦ elim ((first.has n o).0 m) [ inl before ↦ inl before | inr p ↦ inr (inl p) ]
      | inr q ↦ inr (inr q)
    ],
    λ e. elim e [
      | inl before ↦ (second.has n o).1 (inl ((first.has n o).1 (inl before)))
      | inr both ↦ elim both [
        | inl p ↦ (second.has n o).1 (inl ((first.has n o).1 (inr p)))
        | inr q ↦ (second.has n o).1 (inr q)
      ]
    ],
  );
}

no_pair_or : (P : Node → Node → Type 0) (n o : Node) → (NoPair n o ⊎ P n o) ↔ P n o
no_pair_or P n o = (λ e. elim e [ inl none ↦ absurd none | inr p ↦ p ], λ p. inr p)

pub adds_after : (P : Node → Node → Type 0) (a b c : WireGraph) → Adds NoPair a b → Adds P b c → Adds P a c
adds_after P a b c first second = adds_same (λ n o. NoPair n o ⊎ P n o) P a c (no_pair_or P) (adds_both NoPair P a b c first second)

-- keys are added, and no entry
module _ (old new : WireGraph) (names : new.ports.names ≡ old.ports.names) (keeps : KeepsTexts old.ports.keys new.ports.keys) (nodes : All IsKey old.ports.keys → All IsKey new.ports.keys) (entries : new.entries.items ≡ old.entries.items) where
  no_more : (n o : Node) → HasReading new n o → HasReading old n o ⊎ NoPair n o
  no_more n o h =
      let there = subst (λ (es : List Entry). Contains es h.entry) entries h.there in
      let within = All-contains (IsWithin old.ports.keys) old.entries.items h.entry old.in_range there in
      inl (record { entry = h.entry; there = there; key = number_back old new n h.entry.key keeps within.0 h.key; value = number_back old new o h.entry.value keeps within.1 h.value })

  still_read : (n o : Node) → HasReading old n o ⊎ NoPair n o → HasReading new n o
  still_read n o (inl h) = record {
    entry = h.entry;
    there = subst (λ (es : List Entry). Contains es h.entry) (sym entries) h.there;
    key = number_kept old new n h.entry.key keeps h.key;
    value = number_kept old new o h.entry.value keeps h.value;
  }
  still_read n o (inr none) = absurd none

  pub adds_keys : Adds NoPair old new
  adds_keys = record { names = names; texts = keeps; nodes = nodes; has = λ n o. (no_more n o, still_read n o) }

-- one reading
module _ (old new : WireGraph) (node other : Node) (e : Entry) (ports : new.ports ≡ old.ports) (items : new.entries.items ≡ old.entries.items ++ e ∷ [])
    (key : HasNumber old node e.key) (value : HasNumber old other e.value) where
  keys : new.ports.keys ≡ old.ports.keys
  keys = ap (λ (p : PortList). p.keys) ports

  keeps_all : KeepsTexts old.ports.keys new.ports.keys
  keeps_all i text at = ap (λ (l : List Text). slice_get l i) keys ∙ at

  was : (n : Node) (i : ℕ) → HasNumber new n i → HasNumber old n i
  was n i is = record { has_key = is.has_key; at = ap (λ (l : List Text). slice_get l i) (sym keys) ∙ is.at }

  gained : (n o : Node) → HasReading new n o → HasReading old n o ⊎ IsPair node other n o
  gained n o h = elim (Contains-push_cases old.entries.items e h.entry (subst (λ (es : List Entry). Contains es h.entry) items h.there)) [
    | inl before ↦ inl (record { entry = h.entry; there = before; key = was n h.entry.key h.key; value = was o h.entry.value h.value })
    | inr same ↦
        (let at_key : HasNumber old n e.key = subst (λ (x : Entry). HasNumber old n x.key) (sym same) (was n h.entry.key h.key) in
        let at_value : HasNumber old o e.value = subst (λ (x : Entry). HasNumber old o x.value) (sym same) (was o h.entry.value h.value) in
        inr (one_node old node n e.key key at_key, one_node old other o e.value value at_value))
  ]

  made : HasReading new node other
  made = record {
    entry = e;
    there = subst (λ (es : List Entry). Contains es e) (sym items) (Contains-push old.entries.items e);
    key = number_kept old new node e.key keeps_all key;
    value = number_kept old new other e.value keeps_all value;
  }

  kept_reading : (n o : Node) → HasReading old n o ⊎ IsPair node other n o → HasReading new n o
  kept_reading n o (inl h) = record {
    entry = h.entry;
    there = subst (λ (es : List Entry). Contains es h.entry) (sym items) (Contains-append_left old.entries.items (e ∷ []) h.entry h.there);
    key = number_kept old new n h.entry.key keeps_all h.key;
    value = number_kept old new o h.entry.value keeps_all h.value;
  }
  kept_reading n o (inr same) =
      let at : HasReading new n other = subst (λ (x : Node). HasReading new x other) same.0 made in
      subst (λ (y : Node). HasReading new n y) same.1 at

  pub adds_pair : Adds (IsPair node other) old new
  adds_pair = record { names = ap (λ (p : PortList). p.names) ports; texts = keeps_all; nodes = λ all. subst (All IsKey) (sym keys) all; has = λ n o. (gained n o, kept_reading n o) }

-- ---- lists

pub item_at : {X : Type 0} (xs ys : List X) (k : ℕ) (x : X) → ys ≡ xs → k < length ys → x ≡ get_or ys k x → slice_get xs k ≡ Some x
item_at {X} xs ys k x same lt is = subst (λ (l : List X). slice_get l k ≡ Some x) same (slice_get-get_or ys k x lt ∙ ap Some (sym is))

pub take_get : {X : Type 0} (n : ℕ) (xs : List X) (j : ℕ) (y : X) → j < n → slice_get xs j ≡ Some y → slice_get (take n xs) j ≡ Some y
take_get zero xs j y lt at = absurd (omega (arith, lt))
take_get (suc n) [] j y lt at = at
take_get (suc n) (x ∷ xs) zero y lt at = at
take_get (suc n) (x ∷ xs) (suc j) y lt at = take_get n xs j y (omega (arith, lt)) at

pub get_take : {X : Type 0} (n : ℕ) (xs : List X) (j : ℕ) (y : X) → slice_get (take n xs) j ≡ Some y → (j < n) × (slice_get xs j ≡ Some y)
get_take zero xs j y at = absurd (cc)
get_take (suc n) [] j y at = absurd (cc)
get_take (suc n) (x ∷ xs) zero y at = (omega arith, at)
get_take (suc n) (x ∷ xs) (suc j) y at = let r = get_take n xs j y at in (omega (arith, r.0), r.1)

pub get_left : {X : Type 0} (xs ys : List X) (j : ℕ) (x : X) → slice_get xs j ≡ Some x → slice_get (xs ++ ys) j ≡ Some x
get_left [] ys j x at = absurd (cc)
get_left (z ∷ xs) ys zero x at = at
get_left (z ∷ xs) ys (suc j) x at = get_left xs ys j x at

pub get_right : {X : Type 0} (xs ys : List X) (j : ℕ) → slice_get (xs ++ ys) (length xs + j) ≡ slice_get ys j
get_right [] ys j = ap (slice_get ys) (zero-add j)
get_right (x ∷ xs) ys j =
    let e : suc (length xs) + j ≡ suc (length xs + j) = omega arith in
    ap (slice_get (x ∷ (xs ++ ys))) e ∙ get_right xs ys j

pub get_either : {X : Type 0} (xs ys : List X) (j : ℕ) (x : X) → slice_get (xs ++ ys) j ≡ Some x → (slice_get xs j ≡ Some x) ⊎ ((k : ℕ) × (length xs + k ≡ j) × (slice_get ys k ≡ Some x))
get_either [] ys j x at = inr (j, zero-add j, at)
get_either (z ∷ xs) ys zero x at = inl at
get_either (z ∷ xs) ys (suc j) x at =
    elim (get_either xs ys j x at) [
      | inl here ↦ inl here
      | inr (k, e, there) ↦ inr (k, omega (arith, e), there)
    ]

-- ---- the readings of each of a list

module _ {X : Type 0} (R : ℕ → X → Node → Node → Type 0) where
  pub at_none : (n o : Node) → AnyAt R [] n o → ⊥
  at_none n o (j, x, at, r) = absurd (cc)

  one_more : (xs : List X) (i : ℕ) (x : X) → slice_get xs i ≡ Some x → (n o : Node) → (AnyAt R (take i xs) n o ⊎ R i x n o) ↔ AnyAt R (take (i + 1) xs) n o
  one_more xs i x at n o = (to, from)
    where
      to : AnyAt R (take i xs) n o ⊎ R i x n o → AnyAt R (take (i + 1) xs) n o
      to (inl (j, y, at_j, r)) =
          let there = get_take i xs j y at_j in
          (j, y, take_get (i + 1) xs j y (omega (arith, there.0)) there.1, r)
      to (inr r) = (i, x, take_get (i + 1) xs i x (omega arith) at, r)

      from : AnyAt R (take (i + 1) xs) n o → AnyAt R (take i xs) n o ⊎ R i x n o
      from (j, y, at_j, r) =
          let there = get_take (i + 1) xs j y at_j in
          elim (cases_lt j i) [
            | inl less ↦ inl (j, y, take_get i xs j y less there.1, r)
            | inr past ↦
                (let e : j ≡ i = omega (arith, past, there.0) in
                let here : slice_get xs i ≡ Some y = subst (λ (k : ℕ). slice_get xs k ≡ Some y) e there.1 in
                let same : y ≡ x = same_Some y x (sym here ∙ at) in
                inr (subst₂ (λ (k : ℕ) (z : X). R k z n o) e same r))
          ]

  pub adds_next : (xs : List X) (i : ℕ) (x : X) (a b c : WireGraph) → slice_get xs i ≡ Some x → Adds (AnyAt R (take i xs)) a b → Adds (R i x) b c → Adds (AnyAt R (take (i + 1) xs)) a c
  adds_next xs i x a b c at first second =
      adds_same (λ n o. AnyAt R (take i xs) n o ⊎ R i x n o) (AnyAt R (take (i + 1) xs)) a c (one_more xs i x at) (adds_both (AnyAt R (take i xs)) (R i x) a b c first second)

  pub either_part : (xs ys : List X) (n o : Node) → (AnyAt R xs n o ⊎ AnyAt (λ j. R (length xs + j)) ys n o) ↔ AnyAt R (xs ++ ys) n o
  either_part xs ys n o = (to, from)
    where
      to : AnyAt R xs n o ⊎ AnyAt (λ j. R (length xs + j)) ys n o → AnyAt R (xs ++ ys) n o
      to (inl (j, x, at, r)) = (j, x, get_left xs ys j x at, r)
      to (inr (j, y, at, r)) = (length xs + j, y, get_right xs ys j ∙ at, r)

      from : AnyAt R (xs ++ ys) n o → AnyAt R xs n o ⊎ AnyAt (λ j. R (length xs + j)) ys n o
      from (j, x, at, r) =
          elim (get_either xs ys j x at) [
            | inl here ↦ inl (j, x, here, r)
            | inr (k, e, there) ↦ inr (k, x, there, subst (λ (i : ℕ). R i x n o) (sym e) r)
          ]

  pub only_one : (x : X) (n o : Node) → R 0 x n o ↔ AnyAt R (x ∷ []) n o
  only_one x n o = (λ r. (0, x, refl, r), from)
    where
      from : AnyAt R (x ∷ []) n o → R 0 x n o
      from (zero, y, at, r) = subst (λ (z : X). R 0 z n o) (sym (same_Some x y at)) r
      from (suc j, y, at, r) = absurd (cc)

-- ---- gains where no hole is made

pub grows_none : (P : Node → Node → Type 0) (g : WireGraph) → ((n o : Node) → P n o → ⊥) → Grows P g g
grows_none P g none = record { adds = adds_none P g none; holes = refl }

pub grows_same : (P Q : Node → Node → Type 0) (a b : WireGraph) → ((n o : Node) → P n o ↔ Q n o) → Grows P a b → Grows Q a b
grows_same P Q a b same grows = record { adds = adds_same P Q a b same grows.adds; holes = grows.holes }

pub grows_both : (P Q : Node → Node → Type 0) (a b c : WireGraph) → Grows P a b → Grows Q b c → Grows (λ n o. P n o ⊎ Q n o) a c
grows_both P Q a b c first second = record { adds = adds_both P Q a b c first.adds second.adds; holes = second.holes ∙ first.holes }

pub grows_after : (P : Node → Node → Type 0) (a b c : WireGraph) → Grows NoPair a b → Grows P b c → Grows P a c
grows_after P a b c first second = record { adds = adds_after P a b c first.adds second.adds; holes = second.holes ∙ first.holes }

module _ {X : Type 0} (R : ℕ → X → Node → Node → Type 0) where
  pub grows_start : (xs : List X) (g : WireGraph) → Grows (AnyAt R (take 0 xs)) g g
  grows_start xs g = grows_none (AnyAt R []) g (at_none R)

  pub grows_next : (xs : List X) (i : ℕ) (x : X) (a b c : WireGraph) → slice_get xs i ≡ Some x → Grows (AnyAt R (take i xs)) a b → Grows (R i x) b c → Grows (AnyAt R (take (i + 1) xs)) a c
  grows_next xs i x a b c at first second = record { adds = adds_next R xs i x a b c at first.adds second.adds; holes = second.holes ∙ first.holes }

  pub grows_all : (xs : List X) (i : ℕ) (a b : WireGraph) → length xs ≤ i → Grows (AnyAt R (take i xs)) a b → Grows (AnyAt R xs) a b
  grows_all xs i a b done grows = subst (λ (l : List X). Grows (AnyAt R l) a b) (take_all i xs done) grows

module _ {X : Type 0} (R : X → Node → Node → Type 0) where
  pub grows_parts : (xs ys : List X) (a b c : WireGraph) → Grows (AnyOf R xs) a b → Grows (AnyOf R ys) b c → Grows (AnyOf R (xs ++ ys)) a c
  grows_parts xs ys a b c first second =
      grows_same (λ n o. AnyOf R xs n o ⊎ AnyOf R ys n o) (AnyOf R (xs ++ ys)) a c (either_part (λ j. R) xs ys) (grows_both (AnyOf R xs) (AnyOf R ys) a b c first second)

  pub grows_one : (x : X) (a b : WireGraph) → Grows (R x) a b → Grows (AnyOf R (x ∷ [])) a b
  grows_one x a b grows = grows_same (R x) (AnyOf R (x ∷ [])) a b (only_one (λ j. R) x) grows

-- one port more of those that a node reads
pub reads_next : (names : List Text) (node : Node) (reads : List CalPort) (k : ℕ) (d : CalPort) (a b p e : WireGraph) → k < length reads → Grows (ReadsEach node (take k (map (port_tree names) reads))) a b → Grows NoPair b p
    → Grows (IsPair node (APort (port_tree names (get_or reads k d)))) p e → Grows (ReadsEach node (take (k + 1) (map (port_tree names) reads))) a e
reads_next names node reads k d a b p e lt before port pair =
    grows_next (λ j port. IsPair node (APort port)) (map (port_tree names) reads) k (port_tree names (get_or reads k d)) a b e (to_map (port_tree names) reads k (get_or reads k d) (slice_get-get_or reads k d lt)) before
    (grows_after (IsPair node (APort (port_tree names (get_or reads k d)))) b p e port pair)

-- ---- assignments

-- an assignment outside groups
pub set_alone : (a : Assignment) (dst : PortName) (reads : List PortName) (b c d : WireGraph) → dst ≡ a.dst → reads ≡ set_ports a → Grows NoPair b c → Grows (ReadsEach (APort dst) reads) c d → Grows (ReadsSet None a) b d
set_alone a dst reads b c d is_dst are first second =
    let own : Grows (ReadsEach (APort a.dst) (set_ports a)) c d = subst₂ (λ (p : PortName) (ps : List PortName). Grows (ReadsEach (APort p) ps) c d) is_dst are second in
    grows_same (ReadsEach (APort a.dst) (set_ports a)) (ReadsSet None a) b d (λ n o. (λ r. inl r, λ e. elim e [ inl r ↦ r | inr none ↦ absurd none ]))
    (grows_after (ReadsEach (APort a.dst) (set_ports a)) b c d first own)

-- one of a group
pub set_with_hole : (a : Assignment) (k : ℕ) (dst : PortName) (reads : List PortName) (b c d e : WireGraph) → dst ≡ a.dst → reads ≡ set_ports a → Grows NoPair b c → Grows (ReadsEach (APort dst) reads) c d
    → Grows (IsPair (APort dst) (AHole k)) d e → Grows (ReadsSet (Some k) a) b e
set_with_hole a k dst reads b c d e is_dst are first second third =
    let own : Grows (ReadsEach (APort a.dst) (set_ports a)) c d = subst₂ (λ (p : PortName) (ps : List PortName). Grows (ReadsEach (APort p) ps) c d) is_dst are second in
    let hole : Grows (IsPair (APort a.dst) (AHole k)) d e = subst (λ (p : PortName). Grows (IsPair (APort p) (AHole k)) d e) is_dst third in
    grows_both (ReadsEach (APort a.dst) (set_ports a)) (IsPair (APort a.dst) (AHole k)) b d e (grows_after (ReadsEach (APort a.dst) (set_ports a)) b c d first own) hole

-- one binding more
pub bind_next_in : (names : List Text) (k : ℕ) (cell : NameId) (ins : List InBind) (i : ℕ) (d : InBind) (a b e : WireGraph) → i < length ins
    → Grows (AnyOf (ReadsSet (Some k)) (take i (map (gives_input (text_of names cell)) (map (in_tree names) ins)))) a b → Grows (ReadsSet (Some k) (gives_input (text_of names cell) (in_tree names (get_or ins i d)))) b e
    → Grows (AnyOf (ReadsSet (Some k)) (take (i + 1) (map (gives_input (text_of names cell)) (map (in_tree names) ins)))) a e
bind_next_in names k cell ins i d a b e lt before added =
    let f = gives_input (text_of names cell) in
    let x = get_or ins i d in
    grows_next (λ j. ReadsSet (Some k)) (map f (map (in_tree names) ins)) i (f (in_tree names x)) a b e
    (to_map f (map (in_tree names) ins) i (in_tree names x) (to_map (in_tree names) ins i x (slice_get-get_or ins i d lt))) before added

pub bind_next_out : (names : List Text) (k : ℕ) (cell : NameId) (outs : List OutBind) (i : ℕ) (d : OutBind) (a b e : WireGraph) → i < length outs
    → Grows (AnyOf (ReadsSet (Some k)) (take i (map (takes_output (text_of names cell)) (map (out_tree names) outs)))) a b → Grows (ReadsSet (Some k) (takes_output (text_of names cell) (out_tree names (get_or outs i d)))) b e
    → Grows (AnyOf (ReadsSet (Some k)) (take (i + 1) (map (takes_output (text_of names cell)) (map (out_tree names) outs)))) a e
bind_next_out names k cell outs i d a b e lt before added =
    let f = takes_output (text_of names cell) in
    let x = get_or outs i d in
    grows_next (λ j. ReadsSet (Some k)) (map f (map (out_tree names) outs)) i (f (out_tree names x)) a b e
    (to_map f (map (out_tree names) outs) i (out_tree names x) (to_map (out_tree names) outs i x (slice_get-get_or outs i d lt))) before added

abbrev start_set : Text → Text → Assignment
start_set cell go = record { dst = port_of cell go; guard = None; src = Lit 1 1 }

-- the port that starts an invoked cell reads the hole
pub start_added : (cell go : Text) (k : ℕ) (a b : WireGraph) → Grows (IsPair (APort (port_of cell go)) (AHole k)) a b → Grows (ReadsSets (Some k) (starts_cell cell (Some go))) a b
start_added cell go k a b grows =
    grows_one (ReadsSet (Some k)) (start_set cell go) a b
    (grows_same (IsPair (APort (port_of cell go)) (AHole k)) (ReadsSet (Some k) (start_set cell go)) a b (λ n o. (λ p. inr p, λ e. elim e [ inl r ↦ absurd (at_none (λ j port. IsPair (APort (port_of cell go)) (APort port)) n o r) | inr p ↦ p ])) grows)

-- the hole reads the done of an invoked cell
pub done_added : (cell : Text) (k : ℕ) (a b : WireGraph) → Grows (IsPair (AHole k) (APort (port_of cell (codes "done")))) a b → Grows (ReadsDones k (invoke_done [] cell ∷ [])) a b
done_added cell k a b grows =
    grows_one (ReadsDone k) (invoke_done [] cell) a b (grows_one (λ port. IsPair (AHole k) (APort port)) (port_of cell (codes "done")) a b grows)

-- ---- groups

module _ (design : Design) (c : Component) (k : ℕ) where
  -- the component's own go is no input
  pub go_none : (a b : WireGraph) → (IsSource design c (own (codes "go")) → ⊥) → Adds NoPair a b → Adds (ReadsGo design c k) a b
  go_none a b no_input adds = adds_same NoPair (ReadsGo design c k) a b (λ n o. (λ none. absurd none, λ r. no_input r.0)) adds

  -- it is one, and the hole reads it
  pub go_added : (group : ℕ) (a b d e : WireGraph) → group ≡ k → IsSource design c (own (codes "go")) → Adds NoPair a b → Grows NoPair b d → Grows (IsPair (AHole group) (APort (own (codes "go")))) d e → Adds (ReadsGo design c k) a e
  go_added group a b d e is input first second third =
      let go : Node = APort (own (codes "go")) in
      let pair : Adds (IsPair (AHole k) go) d e = subst (λ (m : ℕ). Adds (IsPair (AHole m) go) d e) is third.adds in
      adds_same (IsPair (AHole k) go) (ReadsGo design c k) a e (λ n o. (λ p. (input, p), λ r. r.1)) (adds_after (IsPair (AHole k) go) a b e first (adds_after (IsPair (AHole k) go) b d e second.adds pair))

module _ (design : Design) (c : Component) where
  pub groups_none : (g : WireGraph) → AddsGroups design c [] g g
  groups_none g = record { adds = adds_none (ReadsGroups design c g.holes []) g (at_none (λ j. ReadsGroup design c (g.holes + j))); holes = sym (add-zero g.holes) }

  first_group : (k : ℕ) (group : GroupDef) (n o : Node) → ReadsGroup design c k group n o ↔ ReadsGroups design c k (group ∷ []) n o
  first_group k group n o = (
    λ r. (only_one (λ j. ReadsGroup design c (k + j)) group n o).0 (subst (λ (m : ℕ). ReadsGroup design c m group n o) (sym (add-zero k)) r),
    λ r. subst (λ (m : ℕ). ReadsGroup design c m group n o) (add-zero k) ((only_one (λ j. ReadsGroup design c (k + j)) group n o).1 r),
  )

  -- a group's hole, its assignments and its done lines
  pub group_added : (group : GroupDef) (k : ℕ) (a b d e : WireGraph) → k ≡ a.holes → Adds (ReadsGo design c a.holes) a b → b.holes ≡ a.holes + 1 → Grows (ReadsSets (Some k) group.sets) b d → Grows (ReadsDones k group.dones) d e
      → AddsGroups design c (group ∷ []) a e
  group_added group k a b d e is go holes sets dones = record {
    adds = adds_same (ReadsGroup design c a.holes group) (ReadsGroups design c a.holes (group ∷ [])) a e (first_group a.holes group)
        (adds_both (λ n o. ReadsGo design c a.holes n o ⊎ ReadsSets (Some a.holes) group.sets n o) (ReadsDones a.holes group.dones) a d e
        (adds_both (ReadsGo design c a.holes) (ReadsSets (Some a.holes) group.sets) a b d go (subst (λ (m : ℕ). Adds (ReadsSets (Some m) group.sets) b d) is sets.adds))
        (subst (λ (m : ℕ). Adds (ReadsDones m group.dones) d e) is dones.adds));
    holes = dones.holes ∙ sets.holes ∙ holes;
  }

  shifted : (from k start : ℕ) (ys : List GroupDef) → start ≡ from + k → (n o : Node) → ReadsGroups design c start ys n o ↔ AnyAt (λ j. ReadsGroup design c (from + (k + j))) ys n o
  shifted from k start ys is n o = (to, back)
    where
      to : ReadsGroups design c start ys n o → AnyAt (λ j. ReadsGroup design c (from + (k + j))) ys n o
      to (j, g, at, r) = let e : start + j ≡ from + (k + j) = omega (arith, is) in (j, g, at, subst (λ (m : ℕ). ReadsGroup design c m g n o) e r)

      back : AnyAt (λ j. ReadsGroup design c (from + (k + j))) ys n o → ReadsGroups design c start ys n o
      back (j, g, at, r) = let e : from + (k + j) ≡ start + j = omega (arith, is) in (j, g, at, subst (λ (m : ℕ). ReadsGroup design c m g n o) e r)

  abbrev Later : ℕ → ℕ → List GroupDef → Node → Node → Type 0
  Later from k ys = AnyAt (λ j. ReadsGroup design c (from + (k + j))) ys

  pub groups_both : (xs ys : List GroupDef) (a b d : WireGraph) → AddsGroups design c xs a b → AddsGroups design c ys b d → AddsGroups design c (xs ++ ys) a d
  groups_both xs ys a b d first second = record {
    adds = adds_same (λ n o. ReadsGroups design c a.holes xs n o ⊎ Later a.holes (length xs) ys n o) (ReadsGroups design c a.holes (xs ++ ys)) a d (either_part (λ j. ReadsGroup design c (a.holes + j)) xs ys)
        (adds_both (ReadsGroups design c a.holes xs) (Later a.holes (length xs) ys) a b d first.adds (adds_same (ReadsGroups design c b.holes ys) (Later a.holes (length xs) ys) b d (shifted a.holes (length xs) b.holes ys first.holes) second.adds));
    holes = omega (arith, second.holes, first.holes, length-append xs ys);
  }

  pub groups_all : (xs : List GroupDef) (i : ℕ) (a b : WireGraph) → length xs ≤ i → AddsGroups design c (take i xs) a b → AddsGroups design c xs a b
  groups_all xs i a b done adds = subst (λ (l : List GroupDef). AddsGroups design c l a b) (take_all i xs done) adds

  pub groups_next : (xs : List GroupDef) (i : ℕ) (x : GroupDef) (a b d : WireGraph) → slice_get xs i ≡ Some x → AddsGroups design c (take i xs) a b → AddsGroups design c (x ∷ []) b d → AddsGroups design c (take (i + 1) xs) a d
  groups_next xs i x a b d at first second =
      let longer : take (i + 1) xs ≡ take i xs ++ x ∷ [] = take_more xs i x (slice_get_within xs i x at) ∙ ap (λ (y : GroupDef). take i xs ++ y ∷ []) (get_or_from_slice_get xs i x x at) in
      subst (λ (l : List GroupDef). AddsGroups design c l a d) (sym longer) (groups_both (take i xs) (x ∷ []) a b d first second)
