-- The states of cells beside their primitives: opened, stepped, and with a word loaded.
use Rattle.std.proofs.Common.{◌≡◌, ℕ, suc, ◌<◌, ◌≤◌, ◌^◌, List, [], ◌∷◌, Some, length, set, refl, sym, ap, ◌∙◌, arith, map, subst, inl, inr, length-set}
use Rattle.std.specs.Prelude.{slice_get, option_map, All}
use Rattle.std.proofs.Math.Nat.{pow-le-pow_right}
use Rattle.std.proofs.lemmas.Bool.{cases_lt, cases_eq}
use Rattle.std.proofs.lemmas.List.{length-map}
use Rattle.std.proofs.lemmas.List.Elements.{All-set}
use Rattle.std.proofs.lemmas.Option.{same_Some, slice_get_within, slice_get_past, slice_get-map}
use Rattle.hw_names.specs.Name.{Text}
use Rattle.hw_prims.proofs.PrimLemmas.{keeps_widths}
use Rattle.hw_prims.specs.Cell.{CellValue}
use Rattle.hw_prims.specs.Laws.{IsStateOf, AreValuesOf}
use Rattle.hw_prims.specs.Meaning.{next_state, opening_state}
use Rattle.hw_prims.specs.Memory.{word_count, word_width, state_with_word}
use Rattle.hw_prims.specs.State.{State, Memory}
use Rattle.hw_prims.specs.Table.{inputs_of, IsMade}
use Rattle.hw_prims.specs.declared.prim.Primitive.{Primitive}
use Rattle.hw_prims.specs.declared.prim.Primitive.TheVariants.{StdMemD1, StdMemD2}
use Rattle.net_core.specs.Netlist.{Netlist}
use Rattle.net_core.specs.NetRun.{IsNetCell}
use Rattle.net_core.specs.Rules.{IsValid}
use Rattle.net_sim.proofs.GiverLemmas.{at_some}
use Rattle.net_sim.proofs.ShownLemmas.{shown_state, loaded_by_name, others_by_name}
use Rattle.net_sim.proofs.SimLemmas.{opening_by_name, stepped_by_name}
use Rattle.net_sim.specs.Compiled.{AreOpening}
use Rattle.net_sim.specs.Evaluated.{AreMoved, moved, cell_inputs}
use Rattle.net_sim.specs.Layout.{port_names, AreCellPorts}
use Rattle.net_sim.specs.OrderValue.{OrderValue}
use Rattle.net_sim.specs.Plan.{IsCompiled}
use Rattle.net_sim.specs.Shown.{IsShown, AreShown, shown_cells, HasOneWordMore}
use Rattle.net_sim.specs.Sim.{states_of, AreStepped}
use Rattle.net_sim.specs.declared.cells.CellPorts.{CellPorts}
use Rattle.net_sim.specs.declared.plan.Giver.{Giver}
use Rattle.net_sim.specs.declared.plan.Source.{Source}
use Rattle.net_row.proofs.RowLemmas.{cells_with, cells_with-prims, cells_with-states, cells_with-at}
use Rattle.net_row.specs.Rows.{AreStatesOf}

length-cells_with : (cells : List CellPorts) (states : List State) → length states ≡ length cells → length (cells_with cells states) ≡ length cells
length-cells_with [] states e = refl
length-cells_with (c ∷ cells) [] e = absurd (omega (arith, e))
length-cells_with (c ∷ cells) (s ∷ states) e = ap suc (length-cells_with cells states (omega (arith, e)))

-- ---- by the names of cells

-- each cell's state is the next one
abbrev pub AreNext : List CellPorts → List ℕ → List State → List State → Type 0
AreNext cells values old new =
    (k : ℕ) (c : CellPorts) (s : State) → slice_get cells k ≡ Some c → slice_get old k ≡ Some s → slice_get new k ≡ Some (next_state c.prim s (cell_inputs values c))

-- one of the states has one more word
pub record IsLoadedAt (old new : List State) (number place word : ℕ) : Type 0 where
  pub loaded : (s : State) → slice_get old number ≡ Some s → slice_get new number ≡ Some (state_with_word s place word)
  pub others : (k : ℕ) → (k ≡ number → ⊥) → slice_get new k ≡ slice_get old k

module _ (n : Netlist) (valid : IsValid n) (cells : List CellPorts) (listed : AreCellPorts n cells) where
  pub opened_by_name : (states : List State) → states ≡ map (λ (c : CellPorts). opening_state c.prim []) cells → (cell : Text) (prim : Primitive) → IsNetCell n cell prim → states_of n states cell prim ≡ opening_state prim []
  opened_by_name states e cell prim has =
      let size : length states ≡ length cells = ap length e ∙ length-map cells (λ (c : CellPorts). opening_state c.prim []) in
      let same = cells_with-states cells states size in
      let opening : AreOpening cells (cells_with cells states) = record { prims_are = cells_with-prims cells states size; states_are = same ∙ e } in
      subst (λ (l : List State). states_of n l cell prim ≡ opening_state prim []) same (opening_by_name n valid cells listed (cells_with cells states) opening cell prim has)

  module _ (old new : List State) (old_all : length old ≡ length cells) (new_all : length new ≡ length cells) where
    same_old : map (λ (s : CellValue). s.state) (cells_with cells old) ≡ old
    same_old = cells_with-states cells old old_all

    same_new : map (λ (s : CellValue). s.state) (cells_with cells new) ≡ new
    same_new = cells_with-states cells new new_all

    value_parts : (states : List State) → length states ≡ length cells → (k : ℕ) (c : CellPorts) (v : CellValue) → slice_get cells k ≡ Some c → slice_get (cells_with cells states) k ≡ Some v → (s : State) × (slice_get states k ≡ Some s) × ((let w : CellValue = record { prim = c.prim; state = s } in w) ≡ v)
    value_parts states size k c v at here =
        let s = at_some states k (omega (arith, size, slice_get_within cells k c at)) in
        (s.0, s.1, same_Some _ v (sym (cells_with-at cells states k c s.0 at s.1) ∙ here))

    moves : (values : List ℕ) → AreNext cells values old new → AreMoved cells values (length cells) (cells_with cells old) (cells_with cells new)
    moves values next = record {
      all = length-cells_with cells new new_all ∙ sym (length-cells_with cells old old_all);
      first = λ k c v lt at here.
          let s = value_parts old old_all k c v at here in
          cells_with-at cells new k c (next_state c.prim s.0 (cell_inputs values c)) at (next k c s.0 at s.1) ∙ ap (λ (w : CellValue). Some (moved values c w)) s.2;
      others = λ k le.
          slice_get_past (cells_with cells new) k (omega (arith, le, length-cells_with cells new new_all))
          ∙ sym (slice_get_past (cells_with cells old) k (omega (arith, le, length-cells_with cells old old_all)));
    }

    pub next_by_name : (order : OrderValue) (sources : List Source) (givers : List Giver) (compiled : IsCompiled n order cells sources givers) (values : List ℕ) → length values ≡ length (port_names n) → AreNext cells values old new → AreStepped n old values new
    next_by_name order sources givers compiled values size next =
        subst (λ (l : List State). AreStepped n l values new) same_old (subst (λ (l : List State). AreStepped n (map (λ (s : CellValue). s.state) (cells_with cells old)) values l) same_new
        (stepped_by_name cells (cells_with cells old) (cells_with cells new) values (cells_with-prims cells old old_all) (moves values next) n order sources givers compiled size))

    one_more : (number place word : ℕ) → number < length cells → IsLoadedAt old new number place word → HasOneWordMore number place word (cells_with cells old) (cells_with cells new)
    one_more number place word within is = record {
      all = length-cells_with cells new new_all ∙ sym (length-cells_with cells old old_all);
      loaded = λ v here.
          let c = at_some cells number within in
          let s = value_parts old old_all number c.0 v c.1 here in
          cells_with-at cells new number c.0 (state_with_word s.0 place word) c.1 (is.loaded s.0 s.1)
          ∙ ap (λ (w : CellValue). let x : CellValue = record { prim = w.prim; state = state_with_word w.state place word } in Some x) s.2;
      others = λ k ne. elim (cases_lt k (length cells)) [
        | inl lt ↦
            let c = at_some cells k lt in
            let s = at_some old k (omega (arith, lt, old_all)) in
            cells_with-at cells new k c.0 s.0 c.1 (is.others k ne ∙ s.1) ∙ sym (cells_with-at cells old k c.0 s.0 c.1 s.1)
        | inr past ↦
            slice_get_past (cells_with cells new) k (omega (arith, past, length-cells_with cells new new_all))
            ∙ sym (slice_get_past (cells_with cells old) k (omega (arith, past, length-cells_with cells old old_all)))
      ];
    }

    module _ (shown : List ℕ) (are : AreShown n shown) (mem number place word : ℕ) (at : slice_get shown mem ≡ Some number) (within : number < length cells) (is : IsLoadedAt old new number place word) where
      before_load : number < length (cells_with cells old)
      before_load = omega (arith, within, length-cells_with cells old old_all)

      pub load_by_name : (cell : Text) (prim : Primitive) → IsShown n mem cell prim → states_of n new cell prim ≡ state_with_word (states_of n old cell prim) place word
      load_by_name cell prim here =
          subst (λ (l : List State). states_of n new cell prim ≡ state_with_word (states_of n l cell prim) place word) same_old
          (subst (λ (l : List State). states_of n l cell prim ≡ state_with_word (states_of n (map (λ (s : CellValue). s.state) (cells_with cells old)) cell prim) place word) same_new
          (loaded_by_name n cells valid listed shown are (cells_with cells old) (cells_with cells new) mem number place word (cells_with-prims cells old old_all) at (one_more number place word within is) before_load cell prim here))

      pub still_by_name : mem < length (shown_cells n) → (cell : Text) (prim : Primitive) → IsNetCell n cell prim → (IsShown n mem cell prim → ⊥) → states_of n new cell prim ≡ states_of n old cell prim
      still_by_name memory cell prim has apart =
          subst (λ (l : List State). states_of n new cell prim ≡ states_of n l cell prim) same_old
          (subst (λ (l : List State). states_of n l cell prim ≡ states_of n (map (λ (s : CellValue). s.state) (cells_with cells old)) cell prim) same_new
          (others_by_name n cells valid listed shown are (cells_with cells old) (cells_with cells new) mem number place word (cells_with-prims cells old old_all) at (one_more number place word within is) before_load memory cell prim has apart))

  -- the state of a shown cell, by its name
  pub shown_by_name : (states : List State) → length states ≡ length cells → (shown : List ℕ) → AreShown n shown → (mem number : ℕ) (cell : Text) (prim : Primitive) → slice_get shown mem ≡ Some number → IsShown n mem cell prim → (c : CellPorts) (s : State) → slice_get cells number ≡ Some c → slice_get states number ≡ Some s → states_of n states cell prim ≡ s
  shown_by_name states size shown are mem number cell prim at is c s at_c at_s =
      subst (λ (l : List State). states_of n l cell prim ≡ s) (cells_with-states cells states size)
      (shown_state n cells valid listed shown are (cells_with cells states) (cells_with-prims cells states size) mem number cell prim at is (record { prim = c.prim; state = s }) (cells_with-at cells states number c s at_c at_s))

  -- ---- states that fit

  pub made_at : (k : ℕ) (c : CellPorts) → slice_get cells k ≡ Some c → IsMade c.prim
  made_at k c at =
      let line = at_some n.cells k (omega (arith, slice_get_within cells k c at, listed.all)) in
      (listed.each k line.0 c line.1 at).made

  pub opened_fit : (states : List State) → states ≡ map (λ (c : CellPorts). opening_state c.prim []) cells → AreStatesOf cells states
  opened_fit states e k c s at here =
      let same : opening_state c.prim [] ≡ s = same_Some _ s (sym (ap (λ l. slice_get l k) e ∙ slice_get-map (λ (x : CellPorts). opening_state x.prim []) cells k ∙ ap (option_map (λ (x : CellPorts). opening_state x.prim [])) at) ∙ here) in
      subst (IsStateOf c.prim) same (keeps_widths c.prim (made_at k c at)).opening

  pub next_fit : (values : List ℕ) (old new : List State) → length old ≡ length cells → AreNext cells values old new → ((k : ℕ) (c : CellPorts) → slice_get cells k ≡ Some c → AreValuesOf (inputs_of c.prim) (cell_inputs values c)) → AreStatesOf cells old → AreStatesOf cells new
  next_fit values old new size next fit states k c s at here =
      let before = at_some old k (omega (arith, size, slice_get_within cells k c at)) in
      let same : next_state c.prim before.0 (cell_inputs values c) ≡ s = same_Some _ s (sym (next k c before.0 at before.1) ∙ here) in
      subst (IsStateOf c.prim) same ((keeps_widths c.prim (made_at k c at)).next before.0 (cell_inputs values c) (states k c before.0 at before.1) (fit k c at))

all_set : (width : ℕ) (words : List ℕ) (place word : ℕ) → word < 2 ^ width → All (λ w. w < 2 ^ width) words → All (λ w. w < 2 ^ width) (set words place word)
all_set width words place word fits all = All-set (λ w. w < 2 ^ width) words place word fits all

-- a word that fits is put into a memory
pub loaded_state_fits : (prim : Primitive) (s : State) (place word : ℕ) → place < word_count prim → word < 2 ^ word_width prim → IsStateOf prim s → IsStateOf prim (state_with_word s place word)
unfolding IsStateOf word_count word_width
loaded_state_fits (StdMemD1 w size idx) (Memory words done) place word lt fits is = (length-set words place word ∙ is.0, all_set w words place word fits is.1, is.2)
loaded_state_fits (StdMemD2 w size0 size1 idx0 idx1) (Memory words done) place word lt fits is = (length-set words place word ∙ is.0, all_set w words place word fits is.1, is.2)
loaded_state_fits (StdMemD1 w size idx) s place word lt fits is = absurd is
loaded_state_fits (StdMemD2 w size0 size1 idx0 idx1) s place word lt fits is = absurd is
loaded_state_fits prim s place word lt fits is = absurd (omega (arith, lt))

pub loaded_fit : (cells : List CellPorts) (old new : List State) (number place word : ℕ) (cell : CellPorts) → slice_get cells number ≡ Some cell → length old ≡ length cells → place < word_count cell.prim → word < 2 ^ word_width cell.prim → IsLoadedAt old new number place word → AreStatesOf cells old → AreStatesOf cells new
loaded_fit cells old new number place word cell at_cell size lt fits is states k c s at here = elim (cases_eq k number) [
  | inl same ↦
      let t = at_some old number (omega (arith, size, slice_get_within cells number cell at_cell)) in
      let mine : cell ≡ c = same_Some cell c (sym at_cell ∙ ap (slice_get cells) (sym same) ∙ at) in
      let is_new : state_with_word t.0 place word ≡ s = same_Some _ s (sym (is.loaded t.0 t.1) ∙ ap (slice_get new) (sym same) ∙ here) in
      subst (λ (x : CellPorts). IsStateOf x.prim s) mine (subst (IsStateOf cell.prim) is_new (loaded_state_fits cell.prim t.0 place word lt fits (states number cell t.0 at_cell t.1)))
  | inr other ↦ states k c s at (sym (is.others k other) ∙ here)
]

-- a value of at most 64 bits fits a slot
pub fits_slot : (value width : ℕ) → value < 2 ^ width → width ≤ 64 → value < 2 ^ 64
fits_slot value width fits low =
    let two : 0 < 2 = omega arith in
    let most : 2 ^ width ≤ 2 ^ 64 = pow-le-pow_right two low in
    omega (arith, fits, most)
