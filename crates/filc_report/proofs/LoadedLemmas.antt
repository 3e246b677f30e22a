-- Words that are loaded into the shown memories, one after another.
use Rattle.std.proofs.Common.{◌≡◌, ℕ, ◌+◌, ◌-◌, ◌<◌, ◌≤◌, Bool, true, false, if◌then◌else◌, List, [], ◌∷◌, ◌++◌, length, map, take, drop, set, replicate, get_or, Some, refl, sym, ap, subst, ◌∙◌, arith, inl, inr, length-append, length-take, get_or-take, get_or-drop, get_or-set_other, get_or-set_same}
use Rattle.std.specs.Prelude.{slice_get, bytes_eq}
use Rattle.std.specs.Option.{option_map}
use Rattle.std.proofs.Math.ListN.{get_or-append}
use Rattle.std.proofs.Math.Seq.{get_or-append_right}
use Rattle.std.proofs.lemmas.Bool.{cases_lt, cases_eq}
use Rattle.std.proofs.lemmas.Grind.{same_number_lists}
use Rattle.std.proofs.lemmas.List.{get_or_past, get_or-replicate, length-replicate}
use Rattle.std.proofs.lemmas.Option.{slice_get-map, get_or_from_slice_get}
use Rattle.std.proofs.lemmas.Slice.Eq.{bytes_eq-Decides}
use Rattle.hw_names.specs.Name.{Text}
use Rattle.hw_prims.specs.Meaning.{opening_state}
use Rattle.hw_prims.specs.Memory.{padded_words, word_count}
use Rattle.hw_prims.specs.State.{Memory}
use Rattle.hw_prims.specs.declared.prim.Primitive.{Primitive}
use Rattle.hw_prims.specs.declared.prim.Primitive.TheVariants.{StdMemD1, StdMemD2}
use Rattle.net_core.specs.NetRun.{IsNetCell}
use Rattle.net_core.specs.Netlist.{Netlist, CellLine, netlist_of}
use Rattle.net_core.specs.Rules.{IsValid}
use Rattle.net_core.specs.declared.net.Net.{Net}
use Rattle.net_sim.proofs.GiverLemmas.{at_some}
use Rattle.net_sim.proofs.LoadLemmas.{loads_one_word}
use Rattle.net_sim.proofs.ShownLemmas.{kept_at, shown_is_cell, one_primitive}
use Rattle.net_sim.specs.Shown.{shown_cells, IsShown, HasWord, with_word}
use Rattle.net_sim.specs.Sim.{SimValue, IsLoadedSim, IsLoadOfSim}
use Rattle.stim_read.specs.CycleRun.{Load}
use Rattle.filc_load.specs.Given.{memory_name, begun_with, after_loads, after_load}
use Rattle.filc_load.proofs.SettableLemmas.{made_cell}

length-padded_words : (count : ℕ) (words : List ℕ) → length (padded_words count words) ≡ count
length-padded_words count words = omega (arith, length-take count (words ++ replicate count 0), length-append words (replicate count 0), length-replicate {A = ℕ} count 0)

-- zeros after the words are what a read past them gives
padded_at : (count : ℕ) (words : List ℕ) (k : ℕ) → k < count → get_or (padded_words count words) k 0 ≡ get_or words k 0
padded_at count words k within = get_or-take count (words ++ replicate count 0) k 0 within ∙ elim (cases_lt k (length words)) [
  | inl inside ↦ get_or-append words (replicate count 0) 0 k inside
  | inr past ↦ get_or-append_right words (replicate count 0) k 0 past ∙ get_or-replicate count (k - length words) 0 0 (omega (arith, within)) ∙ sym (get_or_past words k 0 past)
]

-- the first i of these words, in the place of the first ones
begun_front : (words before : List ℕ) (i k : ℕ) → i ≤ length words → k < i → get_or (begun_with (take i words) before) k 0 ≡ get_or words k 0
begun_front words before i k within inside =
    get_or-append (take i words) (drop (length (take i words)) before) 0 k (omega (arith, length-take i words)) ∙ get_or-take i words k 0 inside

begun_rest : (words before : List ℕ) (i k : ℕ) → i ≤ length words → i ≤ k → get_or (begun_with (take i words) before) k 0 ≡ get_or before k 0
begun_rest words before i k within past =
    let front : length (take i words) ≡ i = omega (arith, length-take i words) in
    let place : length (take i words) + (k - length (take i words)) ≡ k = omega arith in
    get_or-append_right (take i words) (drop (length (take i words)) before) k 0 (omega arith)
    ∙ get_or-drop (length (take i words)) before (k - length (take i words)) 0
    ∙ ap (λ p. get_or before p 0) place

module _ (count : ℕ) (words before : List ℕ) (i : ℕ) (within : i < length words) (short : length words ≤ count) where
  abbrev pub put : List ℕ
  put = set (padded_words count (begun_with (take i words) before)) i (get_or words i 0)

  put_at : (k : ℕ) → k < count → get_or put k 0 ≡ get_or (begun_with (take (i + 1) words) before) k 0
  put_at k below = elim (cases_eq k i) [
    | inl here ↦
        ap (λ p. get_or put p 0) here
        ∙ get_or-set_same (padded_words count (begun_with (take i words) before)) i (get_or words i 0) 0 (omega (arith, length-padded_words count (begun_with (take i words) before)))
        ∙ ap (λ p. get_or words p 0) (sym here) ∙ sym (begun_front words before (i + 1) k (omega arith) (omega arith))
    | inr other ↦
        get_or-set_other (padded_words count (begun_with (take i words) before)) i k (get_or words i 0) 0 other
        ∙ padded_at count (begun_with (take i words) before) k below
        ∙ elim (cases_lt k i) [
          | inl earlier ↦ begun_front words before i k (omega arith) earlier ∙ sym (begun_front words before (i + 1) k (omega arith) (omega arith))
          | inr later ↦ begun_rest words before i k (omega arith) later ∙ sym (begun_rest words before (i + 1) k (omega arith) (omega arith))
        ]
  ]

  -- one word more is in place
  pub padded-begun_more : padded_words count put ≡ padded_words count (begun_with (take (i + 1) words) before)
  padded-begun_more =
      same_number_lists (padded_words count put) (padded_words count (begun_with (take (i + 1) words) before))
      (length-padded_words count put ∙ sym (length-padded_words count (begun_with (take (i + 1) words) before)))
      (λ k inside.
      let below : k < count = omega (arith, inside, length-padded_words count put) in
      padded_at count put k below ∙ put_at k below ∙ sym (padded_at count (begun_with (take (i + 1) words) before) k below))

-- ---- cells

-- a cell opens with its words and zeros after them
opening_same : (prim : Primitive) (words other : List ℕ) → padded_words (word_count prim) words ≡ padded_words (word_count prim) other → opening_state prim words ≡ opening_state prim other
unfolding opening_state word_count
opening_same (StdMemD1 w size idx) words other same = ap (λ (ws : List ℕ). Memory ws 0) same
opening_same (StdMemD2 w size0 size1 idx0 idx1) words other same = ap (λ (ws : List ℕ). Memory ws 0) same
opening_same prim words other same = refl

-- words that open each cell alike are loaded alike
loaded_alike : (net : Net) (loads other : Text → List ℕ) (sim : SimValue) → IsLoadedSim net loads sim
    → ((cell : Text) (prim : Primitive) → IsNetCell (netlist_of net) cell prim → opening_state prim (loads cell) ≡ opening_state prim (other cell))
    → ((cell : Text) → ((mem : ℕ) (prim : Primitive) → IsShown (netlist_of net) mem cell prim → ⊥) → other cell ≡ [])
    → IsLoadedSim net other sim
loaded_alike net loads other sim loaded same hidden = record {
  net_is = loaded.net_is;
  phase = loaded.phase;
  values = loaded.values;
  states = λ cell prim is. loaded.states cell prim is ∙ same cell prim is;
  hidden = hidden;
}

name_is : (n : Netlist) (mem : ℕ) (line : CellLine) → slice_get (shown_cells n) mem ≡ Some line → memory_name n mem ≡ line.name
name_is n mem line at =
    get_or_from_slice_get (map (λ (c : CellLine). c.name) (shown_cells n)) mem line.name [] (slice_get-map (λ (c : CellLine). c.name) (shown_cells n) mem ∙ ap (option_map (λ (c : CellLine). c.name)) at)

-- a shown memory is made of a primitive
pub shown_memory : (n : Netlist) → IsValid n → (mem : ℕ) → mem < length (shown_cells n) → (prim : Primitive) × IsShown n mem (memory_name n mem) prim
shown_memory n valid mem within =
    let line = at_some (shown_cells n) mem within in
    let place = kept_at n.cells mem line.0 line.1 in
    let made = made_cell n valid place.0 line.0 place.1 in
    (made.0, record { line = line.0; at = line.1; named = sym (name_is n mem line.0 line.1); made_of = made.1 })

-- the words of cells after these are loaded into a memory
abbrev pub after_words : Netlist → (mem : ℕ) → List ℕ → (Text → List ℕ) → Text → List ℕ
after_words n mem words before cell = if bytes_eq (memory_name n mem) cell then begun_with words (before cell) else before cell

module _ (net : Net) (valid : IsValid (netlist_of net)) (mem : ℕ) (words : List ℕ) (before : Text → List ℕ) (i : ℕ) (inside : i < length words) (prim : Primitive) (shown : IsShown (netlist_of net) mem (memory_name (netlist_of net) mem) prim) (short : length words ≤ word_count prim) where
  abbrev n : Netlist
  n = netlist_of net

  abbrev name : Text
  name = memory_name n mem

  -- the words of cells, so far
  abbrev so_far : Text → List ℕ
  so_far = after_words n mem (take i words) before

  abbrev put_there : Text → List ℕ
  put_there = with_word so_far name prim i (get_or words i 0)

  abbrev more : Text → List ℕ
  more = after_words n mem (take (i + 1) words) before

  pick : (b : Bool) (x y : List ℕ) (t : Bool) → t ≡ b → (if t then x else y) ≡ (if b then x else y)
  pick b x y t e = ap (λ (s : Bool). if s then x else y) e

  here : (cell : Text) → bytes_eq name cell ≡ true → padded_words (word_count prim) (put_there cell) ≡ padded_words (word_count prim) (more cell)
  here cell e =
      let same : name ≡ cell = (bytes_eq-Decides name cell).0 e in
      ap (padded_words (word_count prim)) (pick true (set (padded_words (word_count prim) (so_far name)) i (get_or words i 0)) (so_far cell) (bytes_eq name cell) e
      ∙ ap (λ (ws : List ℕ). set (padded_words (word_count prim) ws) i (get_or words i 0)) (pick true (begun_with (take i words) (before name)) (before name) (bytes_eq name name) ((bytes_eq-Decides name name).1 refl)))
      ∙ padded-begun_more (word_count prim) words (before name) i inside short
      ∙ ap (λ (c : Text). padded_words (word_count prim) (begun_with (take (i + 1) words) (before c))) same
      ∙ ap (padded_words (word_count prim)) (sym (pick true (begun_with (take (i + 1) words) (before cell)) (before cell) (bytes_eq name cell) e))

  elsewhere : (cell : Text) → bytes_eq name cell ≡ false → put_there cell ≡ more cell
  elsewhere cell e =
      pick false (set (padded_words (word_count prim) (so_far name)) i (get_or words i 0)) (so_far cell) (bytes_eq name cell) e
      ∙ pick false (begun_with (take i words) (before cell)) (before cell) (bytes_eq name cell) e
      ∙ sym (pick false (begun_with (take (i + 1) words) (before cell)) (before cell) (bytes_eq name cell) e)

  opens_alike : (cell : Text) (other : Primitive) → IsNetCell n cell other → (b : Bool) → bytes_eq name cell ≡ b → opening_state other (put_there cell) ≡ opening_state other (more cell)
  opens_alike cell other is true e =
      let same : name ≡ cell = (bytes_eq-Decides name cell).0 e in
      let one : prim ≡ other = one_primitive n valid cell prim other (subst (λ (c : Text). IsNetCell n c prim) same (shown_is_cell n mem name prim shown)) is in
      opening_same other (put_there cell) (more cell) (subst (λ (p : Primitive). padded_words (word_count p) (put_there cell) ≡ padded_words (word_count p) (more cell)) one (here cell e))
  opens_alike cell other is false e = ap (opening_state other) (elsewhere cell e)

  still_hidden : (sim : SimValue) → IsLoadedSim net put_there sim → (cell : Text) → ((m : ℕ) (p : Primitive) → IsShown n m cell p → ⊥) → (b : Bool) → bytes_eq name cell ≡ b → more cell ≡ []
  still_hidden sim loaded cell none true e =
      let same : name ≡ cell = (bytes_eq-Decides name cell).0 e in
      absurd (none mem prim (subst (λ (c : Text). IsShown n mem c prim) same shown))
  still_hidden sim loaded cell none false e = sym (elsewhere cell e) ∙ loaded.hidden cell none

  -- one word more is loaded
  pub one_more : (sim new : SimValue) → HasWord n mem i → IsLoadedSim net so_far sim → IsLoadOfSim sim mem i (get_or words i 0) new → IsLoadedSim net more new
  one_more sim new has loaded load =
      let after = loads_one_word net so_far sim new mem i (get_or words i 0) name prim valid shown has loaded load in
      loaded_alike net put_there more new after (λ cell other is. opens_alike cell other is (bytes_eq name cell) refl) (λ cell none. still_hidden new after cell none (bytes_eq name cell) refl)

-- one load more
pub loads_more : (n : Netlist) (loads : List Load) (last : Load) (before : Text → List ℕ) → after_loads n (loads ++ last ∷ []) before ≡ after_load n last (after_loads n loads before)
loads_more n [] last before = refl
loads_more n (l ∷ loads) last before = loads_more n loads last (after_load n l before)
