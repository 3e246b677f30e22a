-- The edges of memories.
use Rattle.std.proofs.Common.{◌≡◌, ℕ, zero, suc, ◌+◌, ◌*◌, ◌^◌, ◌<◌, ◌≤◌, List, [], ◌∷◌, length, Bool, true, false, refl, sym, ap, ap₂, subst, ◌∙◌, lit<, arith}
use Rattle.std.proofs.lemmas.Bool.Decides.{nat_tests}
use Rattle.std.proofs.lemmas.Nat.{mul-add-lt}
use Rattle.std.specs.Prelude.{codes, ◌==◌, ◌&&◌, nat_lt, if◌then◌else◌, slice_set, option_and_then, Option, Some, None}
use Rattle.hw_bits.specs.Width.{low_bits}
use Rattle.hw_names.specs.Name.{Text, dotted}
use Rattle.hw_prims.specs.Laws.{IsStateOf}
use Rattle.hw_prims.specs.Meaning.{next_state}
use Rattle.hw_prims.specs.Memory.{place_of, words_with}
use Rattle.hw_prims.specs.State.{State, Memory}
use Rattle.hw_prims.specs.Table.{IsMade, is_made, inputs_of, outputs_of, pin}
use Rattle.hw_prims.specs.declared.prim.Primitive.TheVariants.{StdMemD1, StdMemD2}
use Rattle.ver_lang.specs.CellItems.{below, both_tests, cell_items, d2_index, fitted, index_width, memory_items, write_test, zero_of}
use Rattle.ver_lang.specs.CellLaws.{CellCycle, IsHeld, TakesNext}
use Rattle.ver_lang.specs.Edge.{Update, Takes, TakesWord, all_updates, one_after_other, stored}
use Rattle.ver_lang.specs.Run.{AreUpdated}
use Rattle.ver_lang.specs.Size.{Widths, size}
use Rattle.ver_lang.specs.Tree.{Expr, Name, Signal}
use Rattle.ver_lang.specs.Value.{Cycle, bit, chosen, is_true, value}
use Rattle.ver_lang.proofs.GivenLemmas.{fits_given}
use Rattle.ver_lang.proofs.MemoryLemmas.{IsTest, below_test, both_test, d2_value, fitted_value, index_reaches, index_some}
use Rattle.ver_lang.proofs.UpdateLemmas.{stores_own, takes_own}

and_bit : (a : Bool) (passed : Bool) → is_true (bit (a && is_true (bit passed))) ≡ (a && passed)
and_bit true true = refl
and_bit true false = refl
and_bit false passed = refl

and_with_true : (a : Bool) → a ≡ (a && true)
and_with_true true = refl
and_with_true false = refl

module _ (cell : Text) (widths : Widths) (now : Cycle) where
  abbrev at : Text → ℕ
  at port = now.row (dotted cell port)

  abbrev wide : Text → ℕ
  wide port = widths (dotted cell port)

  -- whether a word is written, by write_en and the test
  enabled : {A : Type 0} (within : Option Expr) (passed : Bool) (x y : Option A) → IsTest widths now within passed →
      chosen (value widths now (size widths (write_test within (Name (dotted cell (codes "write_en"))))) (write_test within (Name (dotted cell (codes "write_en"))))) x y
      ≡ (if is_true (at (codes "write_en")) && passed then x else y)
  unfolding IsTest
  enabled None passed x y is = ap (λ (b : Bool). if b then x else y) (and_with_true (is_true (at (codes "write_en"))) ∙ ap (λ (b : Bool). is_true (at (codes "write_en")) && b) (sym is))
  enabled (Some e) passed x y is =
      ap (λ (v : Option ℕ). chosen (option_and_then (λ (u : ℕ). Some (bit (is_true (at (codes "write_en")) && is_true u))) v) x y) is
      ∙ ap (λ (b : Bool). if b then x else y) (and_bit (is_true (at (codes "write_en"))) passed)

  -- the store of a word that is there
  store_due : (index : Expr) (place v : ℕ) → value widths now (size widths index) index ≡ Some place → place < length (now.words (dotted cell (codes "$0"))) →
      option_and_then (λ (p : ℕ). option_and_then (stored (dotted cell (codes "$0")) (length (now.words (dotted cell (codes "$0")))) p) (Some v)) (value widths now (size widths index) index)
      ≡ Some (TakesWord (dotted cell (codes "$0")) place v ∷ [])
  store_due index place v is there =
      ap (λ (o : Option ℕ). option_and_then (λ (p : ℕ). option_and_then (stored (dotted cell (codes "$0")) (length (now.words (dotted cell (codes "$0")))) p) (Some v)) o) is
      ∙ stored_there (dotted cell (codes "$0")) (length (now.words (dotted cell (codes "$0")))) place v there
    where
      stored_there : (m : Text) (count p u : ℕ) → p < count → stored m count p u ≡ Some (TakesWord m p u ∷ [])
      stored_there m count p u below = grind (arith, nat_tests)

  -- a register or a memory of the cell's own
  abbrev own : Text → ℕ → Signal
  own name w = record { name = dotted cell name; width = w }

  -- what done takes, and the word
  abbrev told : ℕ
  told = low_bits (wide (codes "$1")) (at (codes "write_en"))

  abbrev word : ℕ
  word = low_bits (wide (codes "$0")) (at (codes "write_data"))

  -- what a memory schedules, by what it stores
  abbrev edge_due : Option (List Update) → Option (List Update)
  edge_due stores = one_after_other (one_after_other (Some (Takes (dotted cell (codes "$1")) told ∷ [])) (one_after_other stores (Some []))) (Some [])

  abbrev store : Expr → Option (List Update)
  store index =
      option_and_then (λ (p : ℕ). option_and_then (stored (dotted cell (codes "$0")) (length (now.words (dotted cell (codes "$0")))) p) (Some word)) (value widths now (size widths index) index)

  -- the next state of a memory, by the value of write_en
  abbrev next_memory : List ℕ → Option ℕ → ℕ → State
  next_memory words place on = if on == 1 then Memory (words_with words place (at (codes "write_data"))) 1 else Memory words 0

  module _ (w count place : ℕ) (within : Option Expr) (index : Expr) (words : List ℕ) (word_wide : wide (codes "$0") ≡ w) (done_wide : wide (codes "$1") ≡ 1)
      (data_fits : at (codes "write_data") < 2 ^ w) (held : now.words (dotted cell (codes "$0")) ≡ words) where
    abbrev Edge : Bool → Type 0
    Edge passed =
        (due : List Update) × (all_updates widths now (memory_items cell w count within index) ≡ Some due) × ((next : Cycle) → AreUpdated (memory_items cell w count within index) due now next →
        IsHeld cell (next_memory words (if passed then Some place else None) (at (codes "write_en"))) next)

    -- nothing is stored
    stores_none : (passed : Bool) (on : ℕ) → at (codes "write_en") ≡ on → on < 2 ^ 1 → edge_due (if is_true on && passed then store index else Some []) ≡ Some (Takes (dotted cell (codes "$1")) told ∷ []) →
        ((next : Cycle) → (next.words (dotted cell (codes "$0")) ≡ words) × (next.row (dotted cell (codes "$1")) ≡ on) → IsHeld cell (next_memory words (if passed then Some place else None) on) next) →
        IsTest widths now within passed → Edge passed
    stores_none passed on is fits due leads test = (
      Takes (dotted cell (codes "$1")) told ∷ [],
      ap edge_due (enabled within passed (store index) (Some []) test ∙ ap (λ (n : ℕ). if is_true n && passed then store index else Some []) is) ∙ due,
      λ next u. subst (λ (n : ℕ). IsHeld cell (next_memory words (if passed then Some place else None) n) next) (sym is) (leads next (
        u.memories (own (codes "$0") w) count (0, lit< tt, refl) ∙ held,
        u.registers (own (codes "$1") 1) (zero_of 1) (1, lit< tt, refl)
            ∙ takes_own cell (codes "$1") told (at (codes "$1")) []
            ∙ ap (low_bits (wide (codes "$1"))) is
            ∙ fits_given (wide (codes "$1")) 1 on done_wide fits,
      )),
    )

    -- the word at the place is stored
    stores_one : at (codes "write_en") ≡ 1 → IsTest widths now within true → value widths now (size widths index) index ≡ Some place → place < length words → Edge true
    stores_one is test index_is there =
        let there_now : place < length (now.words (dotted cell (codes "$0"))) = rw held there in
        let stores : store index ≡ Some (TakesWord (dotted cell (codes "$0")) place word ∷ []) = store_due index place word index_is there_now in
        let more : List Update = TakesWord (dotted cell (codes "$0")) place word ∷ [] in (
          Takes (dotted cell (codes "$1")) told ∷ more,
          ap edge_due (enabled within true (store index) (Some []) test ∙ ap (λ (n : ℕ). if is_true n && true then store index else Some []) is ∙ stores),
          λ next u. subst (λ (n : ℕ). IsHeld cell (next_memory words (Some place) n) next) (sym is) (
            u.memories (own (codes "$0") w) count (0, lit< tt, refl)
                ∙ stores_own cell (codes "$0") place word (now.words (dotted cell (codes "$0"))) []
                ∙ ap₂ (λ (ws : List ℕ) (v : ℕ). slice_set ws place v) held (fits_given (wide (codes "$0")) w (at (codes "write_data")) word_wide data_fits),
            u.registers (own (codes "$1") 1) (zero_of 1) (1, lit< tt, refl)
                ∙ takes_own cell (codes "$1") told (at (codes "$1")) more
                ∙ ap (low_bits (wide (codes "$1"))) is
                ∙ fits_given (wide (codes "$1")) 1 1 done_wide (lit< tt),
          ),
        )

    pub edge_taken : (passed : Bool) (on : ℕ) → at (codes "write_en") ≡ on → on < 2 → IsTest widths now within passed →
        (passed ≡ true → (value widths now (size widths index) index ≡ Some place) × (place < length words)) → Edge passed
    edge_taken passed zero is one_bit test there = stores_none passed 0 is (lit< tt) refl (λ next held_next. held_next) test
    edge_taken false (suc zero) is one_bit test there = stores_none false 1 is (lit< tt) refl (λ next held_next. held_next) test
    edge_taken true (suc zero) is one_bit test there = stores_one is test (there refl).0 (there refl).1
    edge_taken passed (suc (suc n)) is one_bit test there = absurd (omega (arith, one_bit))

  pub takes_d1 : (w count idx : ℕ) (state : State) → CellCycle cell (StdMemD1 w count idx) widths now state → TakesNext cell (StdMemD1 w count idx) widths now state
  unfolding cell_items inputs_of outputs_of is_made next_state place_of IsStateOf
  takes_d1 w count idx (Memory words done) c =
      let word_wide : wide (codes "$0") ≡ w = c.declared.own (own (codes "$0") w) (0, lit< tt, refl) in
      let done_wide : wide (codes "$1") ≡ 1 = c.declared.own (own (codes "$1") 1) (1, lit< tt, refl) in
      let address_wide : wide (codes "addr0") ≡ idx = c.declared.pins (pin (codes "addr0") idx) (0, lit< tt, refl) in
      let made : IsMade (StdMemD1 w count idx) = c.made in
      let few : count ≤ 65536 = grind (arith, nat_tests) in
      let reach : count ≤ 2 ^ index_width count = index_reaches count few in
      let a : ℕ = at (codes "addr0") in
      let edge = edge_taken w count a (below cell (codes "addr0") idx count) (fitted cell (codes "addr0") idx (index_width count)) words word_wide done_wide c.inputs_fit.1.0 c.held.0
      (nat_lt a count) (at (codes "write_en")) refl c.inputs_fit.1.1.0 (below_test cell widths now (codes "addr0") idx count c.inputs_fit.0)
      (λ passed.
      let within : a < count = grind (arith, nat_tests) in
      let small : a < 2 ^ index_width count = omega arith in
      (fitted_value cell widths now (codes "addr0") idx (index_width count) _ address_wide (index_some count) small, omega (arith, c.state_fits.0))) in
      record { due = edge.0; scheduled = edge.1; holds = edge.2 }
  takes_d1 w count idx state c = absurd c.state_fits

  pub takes_d2 : (w size0 size1 idx0 idx1 : ℕ) (state : State) → CellCycle cell (StdMemD2 w size0 size1 idx0 idx1) widths now state → TakesNext cell (StdMemD2 w size0 size1 idx0 idx1) widths now state
  unfolding cell_items inputs_of outputs_of is_made next_state place_of IsStateOf
  takes_d2 w size0 size1 idx0 idx1 (Memory words done) c =
      let word_wide : wide (codes "$0") ≡ w = c.declared.own (own (codes "$0") w) (0, lit< tt, refl) in
      let done_wide : wide (codes "$1") ≡ 1 = c.declared.own (own (codes "$1") 1) (1, lit< tt, refl) in
      let row_wide : wide (codes "addr0") ≡ idx0 = c.declared.pins (pin (codes "addr0") idx0) (0, lit< tt, refl) in
      let column_wide : wide (codes "addr1") ≡ idx1 = c.declared.pins (pin (codes "addr1") idx1) (1, lit< tt, refl) in
      let made : IsMade (StdMemD2 w size0 size1 idx0 idx1) = c.made in
      let few : size0 * size1 ≤ 65536 = grind (arith, nat_tests) in
      let a : ℕ = at (codes "addr0") in
      let b : ℕ = at (codes "addr1") in
      let within : Option Expr = both_tests (below cell (codes "addr0") idx0 size0) (below cell (codes "addr1") idx1 size1) in
      let test = both_test widths now (below cell (codes "addr0") idx0 size0) (below cell (codes "addr1") idx1 size1) (nat_lt a size0) (nat_lt b size1)
      (below_test cell widths now (codes "addr0") idx0 size0 c.inputs_fit.0) (below_test cell widths now (codes "addr1") idx1 size1 c.inputs_fit.1.0) in
      let edge = edge_taken w (size0 * size1) (a * size1 + b) within (d2_index cell size0 size1 idx0 idx1) words word_wide done_wide c.inputs_fit.1.1.0 c.held.0
      (nat_lt a size0 && nat_lt b size1) (at (codes "write_en")) refl c.inputs_fit.1.1.1.0 test
      (λ passed.
      let row_below : a < size0 = grind (arith, nat_tests) in
      let column_below : b < size1 = grind (arith, nat_tests) in
      let place_below : a * size1 + b < size1 * size0 = mul-add-lt a size1 b size0 row_below column_below in
      (d2_value cell widths now size0 size1 idx0 idx1 row_wide column_wide row_below column_below few, omega (arith, c.state_fits.0))) in
      record { due = edge.0; scheduled = edge.1; holds = edge.2 }
  takes_d2 w size0 size1 idx0 idx1 state c = absurd c.state_fits
