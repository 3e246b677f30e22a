-- The shown memories: their numbers, and the words that are put into them.
use Rattle.std.proofs.Common.{◌≡◌, ℕ, zero, suc, ◌+◌, ◌*◌, ◌<◌, ◌≤◌, List, [], ◌∷◌, ◌++◌, Bool, true, false, cond, Some, None, length, get_or, set, take, map, replicate, refl, sym, ap, ap₂, ◌∙◌, arith, inl, inr, length-append, length-take, length-set}
use Rattle.std.proofs.Math.Seq.{take-append_seam}
use Rattle.std.specs.Prelude.{slice_get, option_map, filter}
use Rattle.std.proofs.lemmas.Bool.{cases_lt, cases_eq}
use Rattle.std.proofs.lemmas.List.{length_push, length-replicate, take_more, take_all, append-nil}
use Rattle.std.proofs.lemmas.List.Elements.{filter-append}
use Rattle.std.proofs.lemmas.Option.{slice_get-map, slice_get_within, slice_get_read, same_Some, get_or_from_slice_get}
use Rattle.hw_names.specs.Name.{Text}
use Rattle.hw_prims.specs.Cell.{CellValue}
use Rattle.hw_prims.specs.Meaning.{opening_state}
use Rattle.hw_prims.specs.Memory.{word_count, padded_words, state_with_word}
use Rattle.hw_prims.specs.State.{Memory}
use Rattle.hw_prims.specs.Table.{prim_of}
use Rattle.hw_prims.specs.declared.prim.Primitive.{Primitive}
use Rattle.hw_prims.specs.declared.prim.Primitive.TheVariants.{StdMemD1, StdMemD2}
use Rattle.net_core.specs.NetRun.{IsNetCell}
use Rattle.net_core.specs.Netlist.{Netlist, CellLine}
use Rattle.net_core.specs.Rules.{IsValid}
use Rattle.net_sim.proofs.GiverLemmas.{at_some}
use Rattle.net_sim.proofs.GrowthLemmas.{slice_get-last}
use Rattle.net_sim.proofs.PlaceLemmas.{listed_cell}
use Rattle.net_sim.proofs.PortLemmas.{cells_once}
use Rattle.net_sim.proofs.PortValueLemmas.{state_of_cell}
use Rattle.net_sim.proofs.StepLemmas.{same_count, same_prim}
use Rattle.net_sim.proofs.ValidLemmas.{slice_get-append_before}
use Rattle.net_sim.specs.Layout.{AreCellPorts, IsCellPorts}
use Rattle.net_sim.specs.Plan.{ArePrims}
use Rattle.net_sim.specs.Shown.{is_shown, shown_cells, IsShown, AreShown, HasOneWordMore}
use Rattle.net_sim.specs.Sim.{cell_names, states_of}
use Rattle.net_sim.specs.declared.cells.CellPorts.{CellPorts}

-- ---- the numbers of the shown cells

-- the numbers of the shown ones among the first cells
pub record AreShownSoFar (n : Netlist) (i : ℕ) (shown : List ℕ) : Type 0 where
  pub all : length shown ≡ length (filter is_shown (take i n.cells))
  pub each : (mem k : ℕ) (line : CellLine) → slice_get (filter is_shown (take i n.cells)) mem ≡ Some line → slice_get shown mem ≡ Some k → slice_get n.cells k ≡ Some line

pub shown_none : (n : Netlist) → AreShownSoFar n 0 []
shown_none n = record { all = refl; each = λ mem k line none at. let bad : None ≡ Some line = none in absurd (cc) }

pub filter_more : (cells : List CellLine) (i : ℕ) (line : CellLine) → slice_get cells i ≡ Some line → filter is_shown (take (i + 1) cells) ≡ filter is_shown (take i cells) ++ cond (is_shown line) (line ∷ []) []
filter_more cells i line at =
    ap (filter is_shown) (take_more cells i line (slice_get_within cells i line at) ∙ ap (λ (c : CellLine). take i cells ++ c ∷ []) (get_or_from_slice_get cells i line line at))
    ∙ filter-append is_shown (take i cells) (line ∷ [])

module _ (n : Netlist) (i : ℕ) (shown : List ℕ) (line : CellLine) (so_far : AreShownSoFar n i shown) (at : slice_get n.cells i ≡ Some line) where
  pub shown_more : line.shown ≡ true → AreShownSoFar n (i + 1) (shown ++ i ∷ [])
  shown_more is = record {
    all = omega (arith, length_push shown i, so_far.all, ap length more, length-append (filter is_shown (take i n.cells)) (line ∷ []));
    each = each;
  }
    where
      more : filter is_shown (take (i + 1) n.cells) ≡ filter is_shown (take i n.cells) ++ line ∷ []
      more = filter_more n.cells i line at ∙ ap (λ b. filter is_shown (take i n.cells) ++ cond b (line ∷ []) []) is

      each : (mem k : ℕ) (other : CellLine) → slice_get (filter is_shown (take (i + 1) n.cells)) mem ≡ Some other → slice_get (shown ++ i ∷ []) mem ≡ Some k → slice_get n.cells k ≡ Some other
      each mem k other there here = elim (cases_lt mem (length shown)) [
        | inl before ↦
            so_far.each mem k other
            (sym (slice_get-append_before (filter is_shown (take i n.cells)) (line ∷ []) mem (omega (arith, before, so_far.all))) ∙ ap (λ l. slice_get l mem) (sym more) ∙ there)
            (sym (slice_get-append_before shown (i ∷ []) mem before) ∙ here)
        | inr past ↦
            let within = slice_get_within (shown ++ i ∷ []) mem k here in
            let same : mem ≡ length shown = omega (arith, within, length_push shown i, past) in
            let k_is : i ≡ k = same_Some i k (sym (slice_get-last shown i) ∙ ap (slice_get (shown ++ i ∷ [])) (sym same) ∙ here) in
            let line_is : line ≡ other = same_Some line other (sym (slice_get-last (filter is_shown (take i n.cells)) line) ∙ ap (slice_get (filter is_shown (take i n.cells) ++ line ∷ [])) (sym so_far.all ∙ sym same) ∙ ap (λ l. slice_get l mem) (sym more) ∙ there) in
            ap (slice_get n.cells) (sym k_is) ∙ at ∙ ap Some line_is
      ]

  pub shown_skip : line.shown ≡ false → AreShownSoFar n (i + 1) shown
  shown_skip is =
      let same : filter is_shown (take (i + 1) n.cells) ≡ filter is_shown (take i n.cells) = filter_more n.cells i line at ∙ ap (λ b. filter is_shown (take i n.cells) ++ cond b (line ∷ []) []) is ∙ append-nil (filter is_shown (take i n.cells)) in
      record { all = so_far.all ∙ ap length (sym same); each = λ mem k other there here. so_far.each mem k other (ap (λ l. slice_get l mem) (sym same) ∙ there) here }

pub shown_all : (n : Netlist) (i : ℕ) (shown : List ℕ) → length n.cells ≤ i → AreShownSoFar n i shown → AreShown n shown
shown_all n i shown past so_far =
    let same = ap (filter is_shown) (take_all i n.cells past) in
    record { all = so_far.all ∙ ap length same; each = λ mem k line there here. so_far.each mem k line (ap (λ l. slice_get l mem) same ∙ there) here }

-- ---- a shown memory and its state

-- an element that passes a test is one of the list
pub kept_at : (cells : List CellLine) (m : ℕ) (line : CellLine) → slice_get (filter is_shown cells) m ≡ Some line → (k : ℕ) × (slice_get cells k ≡ Some line)
kept_at [] m line at = let bad : None ≡ Some line = at in absurd (cc)
kept_at (c ∷ cells) m line at = by (is_shown c) m at (λ i there. kept_at cells i line there)
  where
    by : (b : Bool) (m : ℕ) → slice_get (cond b (c ∷ filter is_shown cells) (filter is_shown cells)) m ≡ Some line → ((i : ℕ) → slice_get (filter is_shown cells) i ≡ Some line → (k : ℕ) × (slice_get cells k ≡ Some line)) → (k : ℕ) × (slice_get (c ∷ cells) k ≡ Some line)
    by true zero there later = (0, there)
    by true (suc i) there later = let r = later i there in (suc r.0, r.1)
    by false i there later = let r = later i there in (suc r.0, r.1)

pub shown_is_cell : (n : Netlist) (mem : ℕ) (cell : Text) (prim : Primitive) → IsShown n mem cell prim → IsNetCell n cell prim
shown_is_cell n mem cell prim is = let k = kept_at n.cells mem is.line is.at in (k.0, is.line, k.1, is.named, is.made_of)

named_line : (n : Netlist) (k : ℕ) (line : CellLine) (cell : Text) → slice_get n.cells k ≡ Some line → line.name ≡ cell → slice_get (cell_names n) k ≡ Some cell
named_line n k line cell at named = slice_get-map (λ (c : CellLine). c.name) n.cells k ∙ ap (option_map (λ (c : CellLine). c.name)) at ∙ ap Some named

-- a cell's name has one number, and one primitive
pub same_cell : (n : Netlist) → IsValid n → (cell : Text) (j k : ℕ) (line other : CellLine) → slice_get n.cells j ≡ Some line → line.name ≡ cell → slice_get n.cells k ≡ Some other → other.name ≡ cell → j ≡ k
same_cell n valid cell j k line other at named at' named' = cells_once n valid j k cell (named_line n j line cell at named) (named_line n k other cell at' named')

pub one_primitive : (n : Netlist) → IsValid n → (cell : Text) (prim prim' : Primitive) → IsNetCell n cell prim → IsNetCell n cell prim' → prim ≡ prim'
one_primitive n valid cell prim prim' has has' =
    let index = same_cell n valid cell has.0 has'.0 has.1 has'.1 has.2 has.3 has'.2 has'.3 in
    let line : has.1 ≡ has'.1 = same_Some has.1 has'.1 (sym has.2 ∙ ap (slice_get n.cells) index ∙ has'.2) in
    same_Some prim prim' (sym has.4 ∙ ap (λ (c : CellLine). prim_of c.prim c.params) line ∙ has'.4)

-- the number of a shown cell, as it is read
pub shown_number : (n : Netlist) (shown : List ℕ) → AreShown n shown → (mem read : ℕ) → mem < length (shown_cells n) → read ≡ get_or shown mem read → slice_get shown mem ≡ Some read
shown_number n shown are mem read lt is = slice_get_read shown (length shown) mem read refl (omega (arith, lt, are.all)) is

-- a shown memory has one primitive
pub shown_once : (n : Netlist) (mem : ℕ) (cell other : Text) (prim prim' : Primitive) → IsShown n mem cell prim → IsShown n mem other prim' → prim ≡ prim'
shown_once n mem cell other prim prim' is is' =
    same_Some prim prim' (sym is.made_of ∙ ap (λ (c : CellLine). prim_of c.prim c.params) (same_Some is.line is'.line (sym is.at ∙ is'.at)) ∙ is'.made_of)

module _ (n : Netlist) (cells : List CellPorts) (valid : IsValid n) (listed : AreCellPorts n cells) (shown : List ℕ) (are : AreShown n shown) where
  -- the number of a shown cell is one of the cells
  pub shown_within : (states : List CellValue) → ArePrims cells states → (mem number : ℕ) → mem < length (shown_cells n) → slice_get shown mem ≡ Some number → number < length states
  shown_within states prims mem number lt at =
      let line = at_some (shown_cells n) mem lt in
      omega (arith, slice_get_within n.cells number line.0 (are.each mem number line.0 line.1 at), listed.all, same_count cells states prims)

  -- the cell there is shown
  pub shown_prim : (states : List CellValue) → ArePrims cells states → (mem number : ℕ) → mem < length (shown_cells n) → slice_get shown mem ≡ Some number → (s : CellValue) → slice_get states number ≡ Some s → (cell : Text) × IsShown n mem cell s.prim
  shown_prim states prims mem number lt at s here =
      let line = at_some (shown_cells n) mem lt in
      let place = are.each mem number line.0 line.1 at in
      let c = at_some cells number (omega (arith, slice_get_within n.cells number line.0 place, listed.all)) in
      let is : IsCellPorts n number line.0 c.0 = listed.each number line.0 c.0 place c.1 in
      (line.0.name, record { line = line.0; at = line.1; named = refl; made_of = is.prim ∙ ap Some (sym (same_prim cells states prims number c.0 s c.1 here)) })

  -- its state, by the cell's name
  pub shown_state : (states : List CellValue) → ArePrims cells states → (mem number : ℕ) (cell : Text) (prim : Primitive) → slice_get shown mem ≡ Some number → IsShown n mem cell prim → (s : CellValue) → slice_get states number ≡ Some s → states_of n (map (λ (x : CellValue). x.state) states) cell prim ≡ s.state
  shown_state states prims mem number cell prim at is s here =
      let l = listed_cell n cells listed cell prim (shown_is_cell n mem cell prim is) in
      let index = same_cell n valid cell l.index number l.line is.line l.at_line l.named (are.each mem number is.line is.at at) is.named in
      state_of_cell n cells valid listed states prims cell prim l s (ap (slice_get states) index ∙ here)

  -- ---- a word put there

  module _ (old new : List CellValue) (mem number place word : ℕ) (prims : ArePrims cells old) (at : slice_get shown mem ≡ Some number) (loads : HasOneWordMore number place word old new) where
    abbrev prim_in : CellValue → Primitive
    prim_in s = s.prim

    prims_at : number < length old → (k : ℕ) → slice_get (map prim_in new) k ≡ slice_get (map prim_in old) k
    prims_at lt k = elim (cases_eq k number) [
      | inl same ↦
          let s = at_some old number lt in
          ap (slice_get (map prim_in new)) same ∙ slice_get-map prim_in new number ∙ ap (option_map prim_in) (loads.loaded s.0 s.1)
          ∙ sym (ap (slice_get (map prim_in old)) same ∙ slice_get-map prim_in old number ∙ ap (option_map prim_in) s.1)
      | inr other ↦ slice_get-map prim_in new k ∙ ap (option_map prim_in) (loads.others k other) ∙ sym (slice_get-map prim_in old k)
    ]

    same_lists : {X : Type 0} (xs ys : List X) → ((k : ℕ) → slice_get xs k ≡ slice_get ys k) → xs ≡ ys
    same_lists [] [] same = refl
    same_lists [] (y ∷ ys) same = let bad : None ≡ Some y = same 0 in absurd (cc)
    same_lists (x ∷ xs) [] same = let bad : Some x ≡ None = same 0 in absurd (cc)
    same_lists (x ∷ xs) (y ∷ ys) same = ap₂ ◌∷◌ (same_Some x y (same 0)) (same_lists xs ys (λ k. same (suc k)))

    -- the cells stay of their primitives
    pub prims_loaded : number < length old → ArePrims cells new
    prims_loaded lt = same_lists (map prim_in new) (map prim_in old) (prims_at lt) ∙ prims

    pub loaded_by_name : (lt : number < length old) (cell : Text) (prim : Primitive) → IsShown n mem cell prim → states_of n (map (λ (x : CellValue). x.state) new) cell prim ≡ state_with_word (states_of n (map (λ (x : CellValue). x.state) old) cell prim) place word
    loaded_by_name lt cell prim is =
        let s = at_some old number lt in
        shown_state new (prims_loaded lt) mem number cell prim at is (record { prim = s.0.prim; state = state_with_word s.0.state place word }) (loads.loaded s.0 s.1)
        ∙ ap (λ x. state_with_word x place word) (sym (shown_state old prims mem number cell prim at is s.0 s.1))

    pub others_by_name : (lt : number < length old) (memory : mem < length (shown_cells n)) (cell : Text) (prim : Primitive) → IsNetCell n cell prim → (IsShown n mem cell prim → ⊥) → states_of n (map (λ (x : CellValue). x.state) new) cell prim ≡ states_of n (map (λ (x : CellValue). x.state) old) cell prim
    others_by_name lt memory cell prim has apart =
        let l = listed_cell n cells listed cell prim has in
        let line = at_some (shown_cells n) mem memory in
        let ne : l.index ≡ number → ⊥ = λ e.
        let same : l.line ≡ line.0 = same_Some l.line line.0 (sym l.at_line ∙ ap (slice_get n.cells) e ∙ are.each mem number line.0 line.1 at) in
        apart (record { line = line.0; at = line.1; named = ap (λ (c : CellLine). c.name) (sym same) ∙ l.named; made_of = ap (λ (c : CellLine). prim_of c.prim c.params) (sym same) ∙ l.made_of }) in
        let s = at_some old l.index (omega (arith, slice_get_within cells l.index l.ports l.at, same_count cells old prims)) in
        state_of_cell n cells valid listed new (prims_loaded lt) cell prim l s.0 (loads.others l.index ne ∙ s.1)
        ∙ sym (state_of_cell n cells valid listed old prims cell prim l s.0 s.1)

-- ---- words that are loaded

length-padded_words : (count : ℕ) (words : List ℕ) → length (padded_words count words) ≡ count
length-padded_words count words = omega (arith, length-take count (words ++ replicate count 0), length-append words (replicate count 0), length-replicate {A = ℕ} count 0)

padded_whole : (count : ℕ) (words : List ℕ) → length words ≡ count → padded_words count words ≡ words
padded_whole count words size = ap (λ k. take k (words ++ replicate count 0)) (sym size) ∙ take-append_seam words (replicate count 0)

padded-set : (count : ℕ) (words : List ℕ) (place word : ℕ) → set (padded_words count words) place word ≡ padded_words count (set (padded_words count words) place word)
padded-set count words place word = sym (padded_whole count (set (padded_words count words) place word) (length-set (padded_words count words) place word ∙ length-padded_words count words))

-- a word put into an opening state gives the opening state of the words with it
pub opening_with_word : (prim : Primitive) (words : List ℕ) (place word : ℕ) → place < word_count prim → state_with_word (opening_state prim words) place word ≡ opening_state prim (set (padded_words (word_count prim) words) place word)
unfolding opening_state word_count
opening_with_word (StdMemD1 w size idx) words place word lt = ap (λ (ws : List ℕ). Memory ws 0) (padded-set size words place word)
opening_with_word (StdMemD2 w size0 size1 idx0 idx1) words place word lt = ap (λ (ws : List ℕ). Memory ws 0) (padded-set (size0 * size1) words place word)
opening_with_word prim words place word lt = absurd (omega (arith, lt))
