-- Ports and holes by the numbers of texts.
use Rattle.std.proofs.Common.{◌≡◌, ◌≢◌, ◌⊎◌, inl, inr, ℕ, ◌+◌, ◌<◌, ◌↔◌, Bool, true, false, ◌||◌, List, [], ◌∷◌, ◌++◌, Option, Some, None, Contains, length, map, get_or, slice_get, position, is_some, option_map, take, rules, refl, sym, ap, ap₂, subst, ◌∙◌, if◌then◌else◌, arith}
use Rattle.std.specs.Prelude.{All, IfSome, IsSome, slice_index_or}
use Rattle.std.specs.List.{list_any}
use Rattle.std.proofs.lemmas.List.{length-map, map-append, take_more}
use Rattle.std.proofs.lemmas.List.Elements.{All-head, All-tail, All-weaker, All-push}
use Rattle.std.proofs.lemmas.List.Quantifiers.{all_pairs_push, position-Some}
use Rattle.std.proofs.lemmas.Option.{get_or_from_slice_get, none-some, same_Some, slice_get-get_or, slice_get_within}
use Rattle.indexmap.proofs.CallerLemmas.{Contains-list_any}
use Rattle.indexmap.specs.IndexSet.{insert_key}
use Rattle.hw_names.proofs.NameLemmas.{Contains-slice_get, length-KeepsTexts, same_number, slice_get-text_of}
use Rattle.hw_names.specs.Name.{Text, AreDistinct, KeepsTexts, text_of}
use Rattle.hw_names.specs.declared.names.NameId.{NameId}
use Rattle.cal_ast.proofs.ListLemmas.{Contains-cases_first, Contains-map, Contains-none, place_of}
use Rattle.net_core.specs.Numbers.{IsNumberOf}
use Rattle.cal_ast.specs.Tree.{PortName, own, port_of}
use Rattle.cal_place.specs.FirstPlaces.{IsFirst}
use Rattle.cal_wires.specs.Nodes.{AHole, APort, AreDifferent, AreNumbers, HasKey, IsFit, Node, key_of, node_in, pin_text, port_by}
use Rattle.cal_wires.specs.contracts.ports.NodeKeyPartialEq.TheImpl.{eq-value}
use Rattle.cal_wires.specs.declared.ports.NodeKey.{NodeKey}
use Rattle.cal_wires.specs.declared.ports.NodeKey.TheVariants.{Own, OfCell, Hole}
use Rattle.cal_wires.specs.declared.ports.Port.{Port}
use Rattle.cal_place.proofs.FoundLemmas.{from_map, to_map}
use Rattle.cal_wires.proofs.GainLemmas.{get_take}
use Rattle.cal_wires.proofs.FullNameLemmas.{port_no_hole, same_node, same_port}

-- ---- keys that compare equal are one

pub same_key : (a b : NodeKey) → eq-value.it a b ≡ true → a ≡ b
same_key (Own x) (Own x') h = search rules
same_key (Own x) b h = cc
same_key (OfCell x y) (OfCell x' y') h = search rules
same_key (OfCell x y) b h = cc
same_key (Hole x) (Hole x') h = search rules
same_key (Hole x) b h = cc

-- and a key compares equal to itself
itself : (a : NodeKey) → eq-value.it a a ≡ true
itself (Own x) = search rules
itself (OfCell x y) = search rules
itself (Hole x) = search rules

either_true : (b l : Bool) → l ≡ true → (b || l) ≡ true
either_true true l e = refl
either_true false l e = e

any_there : (k : NodeKey) (keys : List NodeKey) → Contains keys k → list_any (eq-value.it k) keys ≡ true
any_there k [] has = absurd (Contains-none k has)
any_there k (x ∷ keys) has = elim (Contains-cases_first x keys k has) [
  | inl same ↦ ap (λ (b : Bool). b || list_any (eq-value.it k) keys) (subst (λ (y : NodeKey). eq-value.it k y ≡ true) (sym same) (itself k))
  | inr later ↦ either_true (eq-value.it k x) (list_any (eq-value.it k) keys) (any_there k keys later)
]

-- where a search finds a key it stands
pub found_at : (keys : List NodeKey) (k : NodeKey) (i : ℕ) → position (eq-value.it k) keys ≡ Some i → slice_get keys i ≡ Some k
found_at keys k i found =
    let there = position-Some (eq-value.it k) keys i k found in
    slice_get-get_or keys i k there.0 ∙ ap Some (sym (same_key k (get_or keys i k) there.1))

-- what is put among keys is there, or goes last
pub inserted : (keys new : List NodeKey) (k : NodeKey) → new ≡ insert_key eq-value.it keys k → (new ≡ keys) ⊎ (new ≡ keys ++ k ∷ [])
inserted keys new k is = by (list_any (eq-value.it k) keys) is
  where
    by : (b : Bool) → new ≡ (if b then keys else keys ++ k ∷ []) → (new ≡ keys) ⊎ (new ≡ keys ++ k ∷ [])
    by true e = inl e
    by false e = inr e

pub inserted_last : (keys new : List NodeKey) (k : NodeKey) → new ≡ insert_key eq-value.it keys k → ¬ Contains keys k → new ≡ keys ++ k ∷ []
inserted_last keys new k is absent = by (list_any (eq-value.it k) keys) refl
  where
    by : (b : Bool) → list_any (eq-value.it k) keys ≡ b → new ≡ keys ++ k ∷ []
    by true e = absurd (absent (Contains-list_any eq-value.it same_key keys k e))
    by false e = is ∙ ap (λ (c : Bool). if c then keys else keys ++ k ∷ []) e

-- ---- nodes of keys

module _ (old new : List Text) (keeps : KeepsTexts old new) where
  text_kept : (i : ℕ) → i < length old → get_or new i [] ≡ get_or old i []
  text_kept i lt = get_or_from_slice_get new i (get_or old i []) [] (keeps i (get_or old i []) (slice_get-get_or old i [] lt))

  node_kept : (k : NodeKey) → IsFit (length old) k → node_in new k ≡ node_in old k
  node_kept (Own pin) fit = ap (λ (t : Text). APort (record { cell = None; pin = t })) (text_kept pin fit)
  node_kept (OfCell cell pin) fit = ap₂ (λ (s t : Text). APort (record { cell = Some s; pin = t })) (text_kept cell fit.0) (text_kept pin fit.1)
  node_kept (Hole k) fit = refl

  fit_kept : (k : NodeKey) → IsFit (length old) k → IsFit (length new) k
  fit_kept (Own pin) fit = omega (arith, fit, length-KeepsTexts old new keeps)
  fit_kept (OfCell cell pin) fit = (omega (arith, fit.0, length-KeepsTexts old new keeps), omega (arith, fit.1, length-KeepsTexts old new keeps))
  fit_kept (Hole k) fit = fit

  pub all_fit_kept : (keys : List NodeKey) → All (IsFit (length old)) keys → All (IsFit (length new)) keys
  all_fit_kept keys all = All-weaker (IsFit (length old)) (IsFit (length new)) fit_kept keys all

  pub keys_same : (keys : List NodeKey) → All (IsFit (length old)) keys → map (λ k. key_of (node_in new k)) keys ≡ map (λ k. key_of (node_in old k)) keys
  keys_same [] all = refl
  keys_same (k ∷ keys) all = ap₂ ◌∷◌ (ap key_of (node_kept k (All-head (IsFit (length old)) k keys all))) (keys_same keys (All-tail (IsFit (length old)) k keys all))

abbrev cell_in : Node → Option Text
cell_in (APort p) = p.cell
cell_in (AHole k) = None

abbrev pin_in : Node → Text
pin_in (APort p) = p.pin
pin_in (AHole k) = []

abbrev hole_in : Node → ℕ
hole_in (APort p) = 0
hole_in (AHole k) = k

module _ (texts : List Text) where
  pub key_fits : (k : NodeKey) → IsFit (length texts) k → HasKey (node_in texts k)
  key_fits (Own pin) fit = tt
  key_fits (OfCell cell pin) fit = tt
  key_fits (Hole k) fit = fit

  module _ (distinct : AreDistinct texts) where
    same_text_number : (i j : ℕ) → i < length texts → j < length texts → get_or texts i [] ≡ get_or texts j [] → i ≡ j
    same_text_number i j lt_i lt_j e = same_number texts i j (get_or texts i []) distinct (slice_get-get_or texts i [] lt_i) (slice_get-get_or texts j [] lt_j ∙ ap Some (sym e))

    of_one_node : (a b : NodeKey) → IsFit (length texts) a → IsFit (length texts) b → node_in texts a ≡ node_in texts b → a ≡ b
    of_one_node (Own i) (Own j) fit_a fit_b e = ap Own (same_text_number i j fit_a fit_b (ap pin_in e))
    of_one_node (Own i) (OfCell c j) fit_a fit_b e = absurd (none-some (get_or texts c []) (ap cell_in e))
    of_one_node (Own i) (Hole k) fit_a fit_b e = absurd (cc)
    of_one_node (OfCell c i) (Own j) fit_a fit_b e = absurd (none-some (get_or texts c []) (sym (ap cell_in e)))
    of_one_node (OfCell c i) (OfCell d j) fit_a fit_b e =
        let cells = same_text_number c d fit_a.0 fit_b.0 (same_Some (get_or texts c []) (get_or texts d []) (ap cell_in e)) in
        ap₂ OfCell cells (same_text_number i j fit_a.1 fit_b.1 (ap pin_in e))
    of_one_node (OfCell c i) (Hole k) fit_a fit_b e = absurd (cc)
    of_one_node (Hole k) (Own j) fit_a fit_b e = absurd (cc)
    of_one_node (Hole k) (OfCell d j) fit_a fit_b e = absurd (cc)
    of_one_node (Hole j) (Hole k) fit_a fit_b e = ap Hole (ap hole_in e)

    of_one_key : (a b : NodeKey) → IsFit (length texts) a → IsFit (length texts) b → key_of (node_in texts a) ≡ key_of (node_in texts b) → a ≡ b
    of_one_key a b fit_a fit_b e = of_one_node a b fit_a fit_b (same_node (node_in texts a) (node_in texts b) (key_fits a fit_a) (key_fits b fit_b) e)

    module _ (keys : List NodeKey) (fit : All (IsFit (length texts)) keys) where
      -- a key that has a node's is there
      pub key_there : (k : NodeKey) → IsFit (length texts) k → Contains (map (λ k. key_of (node_in texts k)) keys) (key_of (node_in texts k)) → Contains keys k
      key_there k fit_k has =
          let p = place_of (map (λ k. key_of (node_in texts k)) keys) (key_of (node_in texts k)) has in
          let q = from_map (λ k. key_of (node_in texts k)) keys p.0 (key_of (node_in texts k)) p.1 in
          let lt = slice_get_within keys p.0 q.0 q.1 in
          let is_q = get_or_from_slice_get keys p.0 q.0 k q.1 in
          let fit_q : IsFit (length texts) q.0 = subst (IsFit (length texts)) is_q (fit p.0 k lt) in
          let same : q.0 ≡ k = of_one_key q.0 k fit_q fit_k q.2 in
          (p.0, lt, is_q ∙ same)

      -- keys of different nodes are different
      pub keys_distinct : AreDifferent keys → AreDistinct (map (λ k. key_of (node_in texts k)) keys)
      keys_distinct different i j d less within e =
          let f : NodeKey → Text = λ k. key_of (node_in texts k) in
          let lt_j : j < length keys = omega (arith, within, length-map keys f) in
          let lt_i : i < length keys = omega (arith, less, lt_j) in
          let a = get_or keys i (Hole 0) in
          let b = get_or keys j (Hole 0) in
          let is_a : get_or (map f keys) i d ≡ f a = get_or_from_slice_get (map f keys) i (f a) d (to_map f keys i a (slice_get-get_or keys i (Hole 0) lt_i)) in
          let is_b : get_or (map f keys) j d ≡ f b = get_or_from_slice_get (map f keys) j (f b) d (to_map f keys j b (slice_get-get_or keys j (Hole 0) lt_j)) in
          different i j (Hole 0) less lt_j (of_one_key a b (fit i (Hole 0) lt_i) (fit j (Hole 0) lt_j) (sym is_a ∙ e ∙ is_b))

-- a port's name is among the texts
pub pin_there : (texts : List Text) (keys : List NodeKey) → All (IsFit (length texts)) keys → (p : PortName) → Contains (map (λ k. key_of (node_in texts k)) keys) (key_of (APort p)) → Contains texts p.pin
pin_there texts keys fit p has =
    let at = place_of (map (λ k. key_of (node_in texts k)) keys) (key_of (APort p)) has in
    let q = from_map (λ k. key_of (node_in texts k)) keys at.0 (key_of (APort p)) at.1 in
    let lt = slice_get_within keys at.0 q.0 q.1 in
    let fit_q : IsFit (length texts) q.0 = subst (IsFit (length texts)) (get_or_from_slice_get keys at.0 q.0 (Hole 0) q.1) (fit at.0 (Hole 0) lt) in
    by q.0 fit_q (same_node (node_in texts q.0) (APort p) (key_fits texts q.0 fit_q) tt q.2)
  where
    there : (i : ℕ) → i < length texts → get_or texts i [] ≡ p.pin → Contains texts p.pin
    there i lt e = (i, lt, get_or_from_slice_get texts i p.pin p.pin (slice_get-get_or texts i [] lt ∙ ap Some e))

    by : (k : NodeKey) → IsFit (length texts) k → node_in texts k ≡ APort p → Contains texts p.pin
    by (Own i) fit_k e = there i fit_k (ap pin_in e)
    by (OfCell c i) fit_k e = there i fit_k.1 (ap pin_in e)
    by (Hole k) fit_k e = absurd (cc)

-- the names of a design have their numbers among the texts that begin with them
pub name_among : (names all : List Text) (id : NameId) → KeepsTexts names all → IsNumberOf names id → slice_get all id.0 ≡ Some (text_of names id)
name_among names all id begin is = begin id.0 (text_of names id) (slice_get-text_of names id is)

-- the port of a cell and a pin, by their numbers
pub key_names : (names all : List Text) (port : Port) (pin : ℕ) → KeepsTexts names all → AreNumbers names port → slice_get all pin ≡ Some (pin_text names port.pin)
    → ◌≡◌ {A = Node} (APort (record { cell = option_map (λ (id : NameId). slice_index_or all id.0 []) port.cell; pin = slice_index_or all pin [] })) (APort (port_by names port))
key_names names all port pin begin are at = by port.cell are.0
  where
    name : slice_index_or all pin [] ≡ pin_text names port.pin
    name = get_or_from_slice_get all pin (pin_text names port.pin) [] at

    by : (cell : Option NameId) → IfSome cell (IsNumberOf names)
        → ◌≡◌ {A = Node} (APort (record { cell = option_map (λ (id : NameId). slice_index_or all id.0 []) cell; pin = slice_index_or all pin [] })) (APort (record { cell = option_map (text_of names) cell; pin = pin_text names port.pin }))
    by None is = ap (λ (t : Text). APort (record { cell = None; pin = t })) name
    by (Some id) is = ap₂ (λ (s t : Text). APort (record { cell = Some s; pin = t })) (get_or_from_slice_get all id.0 (text_of names id) [] (name_among names all id begin is)) name

pub cells_fit : (names all : List Text) (cell : Option NameId) → KeepsTexts names all → IfSome cell (IsNumberOf names) → IfSome cell (λ (id : NameId). id.0 < length all)
cells_fit names all None begin is = tt
cells_fit names all (Some id) begin is = slice_get_within all id.0 (text_of names id) (name_among names all id begin is)

-- ---- ports and holes, as they are seen

module _ (old new : List Text) (keeps : KeepsTexts old new) (keys : List NodeKey) (fit : All (IsFit (length old)) keys) (seen : List Text) (view : map (λ k. key_of (node_in old k)) keys ≡ seen) where
  pub seen_same : map (λ k. key_of (node_in new k)) keys ≡ seen
  seen_same = keys_same old new keeps keys fit ∙ view

  module _ (set : List NodeKey) (k : NodeKey) (node : Node) (is : node_in new k ≡ node) where
    pub seen_more : set ≡ keys ++ k ∷ [] → map (λ k. key_of (node_in new k)) set ≡ seen ++ key_of node ∷ []
    seen_more e =
        ap (map (λ k. key_of (node_in new k))) e
        ∙ map-append (λ k. key_of (node_in new k)) keys (k ∷ [])
        ∙ ap₂ (λ (l : List Text) (m : Node). l ++ key_of m ∷ []) seen_same is

    pub seen_grown : (set ≡ keys) ⊎ (set ≡ keys ++ k ∷ []) → (map (λ k. key_of (node_in new k)) set ≡ seen) ⊎ (map (λ k. key_of (node_in new k)) set ≡ seen ++ key_of node ∷ [])
    seen_grown (inl e) = inl (ap (map (λ k. key_of (node_in new k))) e ∙ seen_same)
    seen_grown (inr e) = inr (seen_more e)

    -- a key that is there is seen
    pub seen_there : Contains keys k → Contains seen (key_of node)
    seen_there has =
        let there = Contains-map (λ k. key_of (node_in new k)) keys k has in
        subst (λ (t : Text). Contains seen t) (ap key_of is) (subst (λ (l : List Text). Contains l (key_of (node_in new k))) seen_same there)

    pub seen_at : (n : ℕ) → slice_get set n ≡ Some k → slice_get (map (λ k. key_of (node_in new k)) set) n ≡ Some (key_of node)
    seen_at n at = to_map (λ k. key_of (node_in new k)) set n k at ∙ ap (λ (m : Node). Some (key_of m)) is

-- one more that fits
pub fit_grown : (count : ℕ) (keys set : List NodeKey) (k : NodeKey) → (set ≡ keys) ⊎ (set ≡ keys ++ k ∷ []) → All (IsFit count) keys → IsFit count k → All (IsFit count) set
fit_grown count keys set k (inl e) all is = subst (All (IsFit count)) (sym e) all
fit_grown count keys set k (inr e) all is = subst (All (IsFit count)) (sym e) (All-push (IsFit count) keys k all is)

-- a key that is searched for
module _ (texts : List Text) (keys : List NodeKey) (seen : List Text) (view : map (λ k. key_of (node_in texts k)) keys ≡ seen) (k : NodeKey) (node : Node) (is : node_in texts k ≡ node) where
  pub search_found : (o : Option ℕ) → o ≡ position (eq-value.it k) keys → IfSome o (λ n. slice_get seen n ≡ Some (key_of node))
  search_found None e = tt
  search_found (Some n) e =
      ap (λ (l : List Text). slice_get l n) (sym view) ∙ to_map (λ k. key_of (node_in texts k)) keys n k (found_at keys k n (sym e)) ∙ ap (λ (m : Node). Some (key_of m)) is

  pub search_present : AreDistinct texts → All (IsFit (length texts)) keys → IsFit (length texts) k → (o : Option ℕ) → o ≡ position (eq-value.it k) keys → is_some o ≡ list_any (eq-value.it k) keys → IsSome o ↔ Contains seen (key_of node)
  search_present distinct fit fit_k o e found = (
    λ some. by o e some,
    λ has.
        let back = subst (λ (t : Text). Contains (map (λ k. key_of (node_in texts k)) keys) t) (sym (ap key_of is)) (subst (λ (l : List Text). Contains l (key_of node)) (sym view) has) in
        found ∙ any_there k keys (key_there texts distinct keys fit k fit_k back),
  )
    where
      by : (o : Option ℕ) → o ≡ position (eq-value.it k) keys → IsSome o → Contains seen (key_of node)
      by None e some = absurd (cc)
      by (Some n) e some = Contains-slice_get seen n (key_of node) (search_found (Some n) e)

-- keys one after another
pub next_absent : (keys : List Text) (i : ℕ) (key : Text) → AreDistinct keys → slice_get keys i ≡ Some key → ¬ Contains (take i keys) key
next_absent keys i key distinct at has =
    let j = place_of (take i keys) key has in
    let there = get_take i keys j.0 key j.1 in
    omega (arith, there.0, same_number keys j.0 i key distinct there.1 at)

-- so each is the first of its own
pub distinct_first : (keys : List Text) (i : ℕ) (key : Text) → AreDistinct keys → slice_get keys i ≡ Some key → IsFirst keys key i
distinct_first keys i key distinct at = record { here = at; new = next_absent keys i key distinct at }

pub next_key : (keys : List Text) (i : ℕ) (key : Text) → slice_get keys i ≡ Some key → take i keys ++ key ∷ [] ≡ take (i + 1) keys
next_key keys i key at = ap (λ (t : Text). take i keys ++ t ∷ []) (sym (get_or_from_slice_get keys i key key at)) ∙ sym (take_more keys i key (slice_get_within keys i key at))

-- keys stay different with one that is put among them
pub different_kept : (keys new : List NodeKey) (k : NodeKey) → new ≡ insert_key eq-value.it keys k → AreDifferent keys → AreDifferent new
different_kept keys new k is different = by (list_any (eq-value.it k) keys) refl is
  where
    by : (b : Bool) → list_any (eq-value.it k) keys ≡ b → new ≡ (if b then keys else keys ++ k ∷ []) → AreDifferent new
    by true any e = subst AreDifferent (sym e) different
    by false any e =
        let absent : ¬ Contains keys k = (λ has. let bad : true ≡ false = sym (any_there k keys has) ∙ any in cc) in
        subst AreDifferent (sym e)
        (all_pairs_push (λ (a b : NodeKey). a ≢ b) keys k different
        (λ i d lt same. absent (i, lt, get_or_from_slice_get keys i k k (slice_get-get_or keys i d lt ∙ ap Some same))))

-- the key of a port of a cell is made of numbers of its names
pub key_of_cell : (texts : List Text) (k : NodeKey) (cell pin : Text) → key_of (node_in texts k) ≡ key_of (APort (port_of cell pin)) → ((c p : ℕ) → k ≡ OfCell c p → ⊥) → ⊥
key_of_cell texts (Own i) cell pin e none = none-some cell (ap (λ (p : PortName). p.cell) (same_port (own (slice_index_or texts i [])) (port_of cell pin) e))
key_of_cell texts (OfCell c p) cell pin e none = none c p refl
key_of_cell texts (Hole h) cell pin e none = port_no_hole (port_of cell pin) h (sym e)

pub cell_key_at : (texts : List Text) (keys : List NodeKey) (seen : List Text) (place : ℕ) (k : NodeKey) → map (λ k. key_of (node_in texts k)) keys ≡ seen → slice_get keys place ≡ Some k
    → (cell pin : Text) → slice_get seen place ≡ Some (key_of (APort (port_of cell pin))) → ((c p : ℕ) → k ≡ OfCell c p → ⊥) → ⊥
cell_key_at texts keys seen place k view at cell pin there none =
    let own_key = to_map (λ k. key_of (node_in texts k)) keys place k at in
    let same = same_Some (key_of (node_in texts k)) (key_of (APort (port_of cell pin))) (sym own_key ∙ ap (λ (l : List Text). slice_get l place) view ∙ there) in
    key_of_cell texts k cell pin same none
