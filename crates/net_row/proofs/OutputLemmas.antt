-- Which slots have the outputs of cells.
use Rattle.std.proofs.Common.{◌≡◌, ℕ, zero, suc, ◌+◌, ◌<◌, ◌^◌, List, [], ◌∷◌, Result, Ok, Err, IfOk, Option, Some, None, length, refl, sym, ap, ap₂, ◌∙◌, subst, arith}
use Rattle.std.specs.Prelude.{slice_get, slice_index, nat_lt, ◌*◌, ◌&&◌, if◌then◌else◌}
use Rattle.std.proofs.lemmas.List.{length-map}
use Rattle.std.proofs.lemmas.Option.{none-some, slice_get_within}
use Rattle.hw_bits.proofs.WidthLemmas.{low_bits-of_lt}
use Rattle.hw_prims.specs.Meaning.{output_values}
use Rattle.hw_prims.specs.Memory.{place_of, word_at}
use Rattle.hw_prims.specs.State.{State, memory_words}
use Rattle.hw_prims.specs.Table.{Pin, inputs_of, outputs_of, pin_widths}
use Rattle.hw_prims.specs.declared.prim.Primitive.{Primitive}
use Rattle.hw_prims.specs.declared.prim.Primitive.TheVariants.{StdReg, StdMemD1, StdMemD2, StdMultPipe, FilDelay, FilFastMult, FilSeqMult}
use Rattle.net_sim.specs.Evaluated.{cell_inputs}
use Rattle.net_sim.specs.declared.cells.CellPorts.{CellPorts}
use Rattle.net_steps.proofs.StepLemmas.{extends_itself, extends_twice, defined_made}
use Rattle.net_steps.specs.Gates.{AddsGate}
use Rattle.net_steps.specs.Gathered.{gathered}
use Rattle.net_steps.specs.Others.{output_of}
use Rattle.net_steps.specs.Steps.{Defines}
use Rattle.net_steps.specs.StepsValue.{StepsValue}
use Rattle.net_steps.specs.declared.operation.Operation.TheVariants.{Constant, Output}
use Rattle.net_steps.specs.declared.other.Other.{Other as OtherCell}
use Rattle.net_row.proofs.RowLemmas.{AreInputSlots, row_in_before, inputs_in_slots, slots_fit, input_value, input_width, kind_is}
use Rattle.net_row.specs.Kinds.{kind_after, other_state, state_of}
use Rattle.net_row.specs.Outputs.{AddsOutput, AreAddressesOf, AreAddresses}
use Rattle.net_row.specs.Rows.{IsOtherOf}
use Rattle.net_row.specs.declared.kinds.Kind.{Kind}
use Rattle.net_row.specs.declared.kinds.Kind.TheVariants.{Stateless, Register, Delay, FastMult, Other}

-- ---- the slots of some inputs

module _ (ports : List (Option ℕ)) (c : CellPorts) where
  pub slots_of_none : 0 ≡ length (inputs_of c.prim) → AreInputSlots ports c []
  slots_of_none count = record { count = count; each = λ i slot at. absurd (none-some slot at) }

  pub slots_of_one : (a : ℕ) → 1 ≡ length (inputs_of c.prim) → slice_get ports (c.first + 0) ≡ Some (Some a) → AreInputSlots ports c (a ∷ [])
  slots_of_one a count at = record { count = count; each = each }
    where
      each : (i slot : ℕ) → slice_get (a ∷ []) i ≡ Some slot → slice_get ports (c.first + i) ≡ Some (Some slot)
      each zero slot is = at ∙ ap (λ s. Some s) is
      each (suc i) slot is = absurd (none-some slot is)

  pub slots_of_two : (a b : ℕ) → 2 ≡ length (inputs_of c.prim) → slice_get ports (c.first + 0) ≡ Some (Some a) → slice_get ports (c.first + 1) ≡ Some (Some b) → AreInputSlots ports c (a ∷ b ∷ [])
  slots_of_two a b count at at' = record { count = count; each = each }
    where
      each : (i slot : ℕ) → slice_get (a ∷ b ∷ []) i ≡ Some slot → slice_get ports (c.first + i) ≡ Some (Some slot)
      each zero slot is = at ∙ ap (λ s. Some s) is
      each (suc zero) slot is = at' ∙ ap (λ s. Some s) is
      each (suc (suc i)) slot is = absurd (none-some slot is)

  pub slots_of_three : (a b d : ℕ) → 3 ≡ length (inputs_of c.prim) → slice_get ports (c.first + 0) ≡ Some (Some a) → slice_get ports (c.first + 1) ≡ Some (Some b) → slice_get ports (c.first + 2) ≡ Some (Some d) → AreInputSlots ports c (a ∷ b ∷ d ∷ [])
  slots_of_three a b d count at at' at'' = record { count = count; each = each }
    where
      each : (i slot : ℕ) → slice_get (a ∷ b ∷ d ∷ []) i ≡ Some slot → slice_get ports (c.first + i) ≡ Some (Some slot)
      each zero slot is = at ∙ ap (λ s. Some s) is
      each (suc zero) slot is = at' ∙ ap (λ s. Some s) is
      each (suc (suc zero)) slot is = at'' ∙ ap (λ s. Some s) is
      each (suc (suc (suc i))) slot is = absurd (none-some slot is)

-- ---- cells without a state

-- a gate of a cell's inputs is its output
pub gate_output : (old new : StepsValue) (ports : List (Option ℕ)) (cell : CellPorts) (inputs : List ℕ) (slot : ℕ) → AreInputSlots ports cell inputs → AddsGate old new cell.prim inputs slot → AddsOutput old new ports cell Stateless 0 slot
gate_output old new ports cell inputs slot in_slots adds = record {
  extends = adds.extends;
  made = λ f k is_frame at at_kind within fit row values is size agree.
      let before = row_in_before f old new adds.extends row is in
      adds.made row.others row.slots is.made (slots_fit f is_frame k cell at old ports row values before size agree inputs in_slots fit)
      ∙ ap (λ ins. slice_index (output_values cell.prim (state_of row.slots row.others Stateless) ins) 0) (inputs_in_slots f is_frame k cell at old ports row values before size agree inputs in_slots);
}

pub ok_gate : {E : Type 0} (r : Result ℕ E) (old new : StepsValue) (ports : List (Option ℕ)) (cell : CellPorts) (inputs : List ℕ) → AreInputSlots ports cell inputs → IfOk r (AddsGate old new cell.prim inputs) → IfOk r (AddsOutput old new ports cell Stateless 0)
ok_gate (Ok slot) old new ports cell inputs in_slots adds = gate_output old new ports cell inputs slot in_slots adds
ok_gate (Err e) old new ports cell inputs in_slots adds = adds

-- a primitive without a state has one output
one_output : (prim : Primitive) (kept others output : ℕ) → Stateless ≡ kind_after kept others prim → output < length (outputs_of prim) → output ≡ 0
unfolding outputs_of
one_output (StdReg w) kept others output e lt = absurd (cc)
one_output (StdMemD1 w size idx) kept others output e lt = absurd (cc)
one_output (StdMemD2 w size0 size1 idx0 idx1) kept others output e lt = absurd (cc)
one_output (StdMultPipe w) kept others output e lt = absurd (cc)
one_output (FilDelay w) kept others output e lt = absurd (cc)
one_output (FilFastMult w) kept others output e lt = absurd (cc)
one_output (FilSeqMult w) kept others output e lt = absurd (cc)
one_output prim kept others output e lt = omega (arith, lt)

pub combined_output : (old new : StepsValue) (ports : List (Option ℕ)) (cell : CellPorts) (output slot : ℕ) → AddsOutput old new ports cell Stateless 0 slot → AddsOutput old new ports cell Stateless output slot
combined_output old new ports cell output slot adds = record {
  extends = adds.extends;
  made = λ f k is_frame at at_kind within fit row values is size agree.
      let none : output ≡ 0 = one_output cell.prim _ _ output (kind_is f.cells k cell Stateless at at_kind) within in
      let there : 0 < length (outputs_of cell.prim) = omega (arith, within) in
      adds.made f k is_frame at at_kind there fit row values is size agree
      ∙ ap (slice_index (output_values cell.prim (state_of row.slots row.others Stateless) (cell_inputs values cell))) (sym none);
}

pub ok_combined : {E : Type 0} (r : Result ℕ E) (old new : StepsValue) (ports : List (Option ℕ)) (cell : CellPorts) (kind : Kind) (output : ℕ) → kind ≡ Stateless → IfOk r (AddsOutput old new ports cell Stateless 0) → IfOk r (AddsOutput old new ports cell kind output)
ok_combined (Ok slot) old new ports cell kind output is adds = subst (λ x. AddsOutput old new ports cell x output slot) (sym is) (combined_output old new ports cell output slot adds)
ok_combined (Err e) old new ports cell kind output is adds = adds

-- ---- cells whose state is kept

register_values : (prim : Primitive) (kept count first : ℕ) (slots : List ℕ) (others : List OtherCell) (ins : List ℕ) (output : ℕ) → Register first ≡ kind_after kept count prim → output < length (outputs_of prim) → slice_index slots (first + output) ≡ slice_index (output_values prim (state_of slots others (Register first)) ins) output
unfolding output_values outputs_of
register_values (StdReg w) kept count first slots others ins zero e lt = let none : first + 0 ≡ first = omega arith in ap (slice_index slots) none
register_values (StdReg w) kept count first slots others ins (suc zero) e lt = refl
register_values (StdReg w) kept count first slots others ins (suc (suc output)) e lt = absurd (omega (arith, lt))
register_values prim kept count first slots others ins output e lt = absurd (cc)

delay_values : (prim : Primitive) (kept count first : ℕ) (slots : List ℕ) (others : List OtherCell) (ins : List ℕ) (output : ℕ) → Delay first ≡ kind_after kept count prim → output < length (outputs_of prim) → slice_index slots (first + 0) ≡ slice_index (output_values prim (state_of slots others (Delay first)) ins) output
unfolding output_values outputs_of
delay_values (FilDelay w) kept count first slots others ins zero e lt = let none : first + 0 ≡ first = omega arith in ap (slice_index slots) none
delay_values (FilDelay w) kept count first slots others ins (suc output) e lt = absurd (omega (arith, lt))
delay_values prim kept count first slots others ins output e lt = absurd (cc)

fast_mult_values : (prim : Primitive) (kept count first : ℕ) (slots : List ℕ) (others : List OtherCell) (ins : List ℕ) (output : ℕ) → FastMult first ≡ kind_after kept count prim → output < length (outputs_of prim) → slice_index slots (first + 1) ≡ slice_index (output_values prim (state_of slots others (FastMult first)) ins) output
unfolding output_values outputs_of
fast_mult_values (FilFastMult w) kept count first slots others ins zero e lt = refl
fast_mult_values (FilFastMult w) kept count first slots others ins (suc output) e lt = absurd (omega (arith, lt))
fast_mult_values prim kept count first slots others ins output e lt = absurd (cc)

module _ {E : Type 0} (r : Result ℕ E) (steps : StepsValue) (ports : List (Option ℕ)) (cell : CellPorts) (kind : Kind) (output first : ℕ) where
  pub ok_register : kind ≡ Register first → IfOk r (λ slot. slot ≡ first + output) → IfOk r (AddsOutput steps steps ports cell kind output)
  ok_register is = by r
    where
      by : (q : Result ℕ E) → IfOk q (λ slot. slot ≡ first + output) → IfOk q (AddsOutput steps steps ports cell kind output)
      by (Err e) slot_is = slot_is
      by (Ok slot) slot_is = subst (λ x. AddsOutput steps steps ports cell x output slot) (sym is) (record {
        extends = extends_itself steps;
        made = λ f k is_frame at at_kind within fit row values is_row size agree.
            ap (slice_index row.slots) slot_is ∙ register_values cell.prim _ _ first row.slots row.others (cell_inputs values cell) output (kind_is f.cells k cell (Register first) at at_kind) within;
      })

  pub ok_delay : kind ≡ Delay first → IfOk r (λ slot. slot ≡ first + 0) → IfOk r (AddsOutput steps steps ports cell kind output)
  ok_delay is = by r
    where
      by : (q : Result ℕ E) → IfOk q (λ slot. slot ≡ first + 0) → IfOk q (AddsOutput steps steps ports cell kind output)
      by (Err e) slot_is = slot_is
      by (Ok slot) slot_is = subst (λ x. AddsOutput steps steps ports cell x output slot) (sym is) (record {
        extends = extends_itself steps;
        made = λ f k is_frame at at_kind within fit row values is_row size agree.
            ap (slice_index row.slots) slot_is ∙ delay_values cell.prim _ _ first row.slots row.others (cell_inputs values cell) output (kind_is f.cells k cell (Delay first) at at_kind) within;
      })

  pub ok_fast_mult : kind ≡ FastMult first → IfOk r (λ slot. slot ≡ first + 1) → IfOk r (AddsOutput steps steps ports cell kind output)
  ok_fast_mult is = by r
    where
      by : (q : Result ℕ E) → IfOk q (λ slot. slot ≡ first + 1) → IfOk q (AddsOutput steps steps ports cell kind output)
      by (Err e) slot_is = slot_is
      by (Ok slot) slot_is = subst (λ x. AddsOutput steps steps ports cell x output slot) (sym is) (record {
        extends = extends_itself steps;
        made = λ f k is_frame at at_kind within fit row values is_row size agree.
            ap (slice_index row.slots) slot_is ∙ fast_mult_values cell.prim _ _ first row.slots row.others (cell_inputs values cell) output (kind_is f.cells k cell (FastMult first) at at_kind) within;
      })

-- ---- cells that keep their state by themselves

-- an output doesn't depend on the inputs that aren't read
module _ (ports : List (Option ℕ)) (slots ins : List ℕ) (state : State) (port first second : ℕ) where
  abbrev places : List ℕ
  places = first ∷ second ∷ second ∷ second ∷ []

  other_values : (prim : Primitive) (kept count number output : ℕ) → Other number ≡ kind_after kept count prim → AreAddressesOf prim ports port output (first, second) →
      ((i slot width : ℕ) → slice_get (pin_widths (inputs_of prim)) i ≡ Some width → slice_get ports (port + i) ≡ Some (Some slot) → (slice_index ins i ≡ slice_index slots slot) × (slice_index slots slot < 2 ^ width)) →
      slice_index (output_values prim state (gathered slots places (pin_widths (inputs_of prim)))) output ≡ slice_index (output_values prim state ins) output
  unfolding output_values inputs_of place_of
  other_values (StdMemD1 w size idx) kept count number zero e at has =
      let none : port + 0 ≡ port = omega arith in
      let h = has 0 first idx refl (ap (slice_get ports) none ∙ at) in
      ap (λ (a : ℕ). word_at (memory_words state) (if nat_lt a size then Some a else None)) (low_bits-of_lt idx (slice_index slots first) h.1 ∙ sym h.0)
  other_values (StdMemD1 w size idx) kept count number (suc output) e at has = refl
  other_values (StdMemD2 w size0 size1 idx0 idx1) kept count number zero e at has =
      let none : port + 0 ≡ port = omega arith in
      let h = has 0 first idx0 refl (ap (slice_get ports) none ∙ at.0) in
      let h' = has 1 second idx1 refl at.1 in
      ap₂ (λ (a b : ℕ). word_at (memory_words state) (if nat_lt a size0 && nat_lt b size1 then Some (a * size1 + b) else None))
      (low_bits-of_lt idx0 (slice_index slots first) h.1 ∙ sym h.0) (low_bits-of_lt idx1 (slice_index slots second) h'.1 ∙ sym h'.0)
  other_values (StdMemD2 w size0 size1 idx0 idx1) kept count number (suc output) e at has = refl
  other_values (StdMultPipe w) kept count number output e at has = refl
  other_values (FilSeqMult w) kept count number output e at has = refl
  other_values prim kept count number output e at has = absurd (cc)

  read_values : (prim : Primitive) (output : ℕ) (other : Option OtherCell) → IsOtherOf prim other → ((state : State) → slice_index (output_values prim state (gathered slots places (pin_widths (inputs_of prim)))) output ≡ slice_index (output_values prim state ins) output) → output_of slots other output places ≡ slice_index (output_values prim (other_state other) ins) output
  read_values prim output None is same = absurd is
  read_values prim output (Some other) is same =
      ap₂ (λ (p : Primitive) (ws : List ℕ). slice_index (output_values p other.state.state (gathered slots places ws)) output) is.0 is.1 ∙ same other.state.state

pub read_output : (old mid new : StepsValue) (ports : List (Option ℕ)) (cell : CellPorts) (number output zero_slot first second slot : ℕ) → Defines old mid (Constant 0) zero_slot → AreAddresses ports cell output (first, second) → Defines mid new (Output number output first second) slot → AddsOutput old new ports cell (Other number) output slot
read_output old mid new ports cell number output zero_slot first second slot zeros addresses defines =
    let extends = extends_twice old mid new zeros.extends defines.extends in
    record {
      extends = extends;
      made = λ f k is_frame at at_kind within fit row values is size agree.
          let before = row_in_before f old new extends row is in
          let kind = kind_is f.cells k cell (Other number) at at_kind in
          defined_made mid new (Output number output first second) slot defines row.others row.slots is.made
          ∙ read_values ports row.slots (cell_inputs values cell) (other_state None) cell.first first second cell.prim output (slice_get row.others number) (is.others k number cell at at_kind)
          (λ state. other_values ports row.slots (cell_inputs values cell) state cell.first first second cell.prim _ _ number output kind addresses
          (λ i there width wide has. (
            input_value f is_frame k cell at ports row values i there agree (input_within cell.prim i width wide) has,
            fit (cell.first + i) there width has (input_width f is_frame k cell at i width wide) row before,
          )));
    }
  where
    input_within : (prim : Primitive) (i width : ℕ) → slice_get (pin_widths (inputs_of prim)) i ≡ Some width → i < length (inputs_of prim)
    input_within prim i width wide = omega (arith, slice_get_within (pin_widths (inputs_of prim)) i width wide, length-map (inputs_of prim) (λ (p : Pin). p.width))
