-- Nothing is compiled yet, and all is: the program.
use Rattle.std.proofs.Common.{◌≡◌, ◌↔◌, ℕ, zero, suc, ◌+◌, ◌<◌, List, [], ◌∷◌, ◌++◌, Option, Some, None, length, get_or, take, refl, sym, ap, ap₂, ◌∙◌, subst, arith, map}
use Rattle.std.specs.Prelude.{All, replicate, slice_get, slice_index, option_map}
use Rattle.std.proofs.lemmas.List.{get_or-map, length-map, length-replicate, map-append, take_more}
use Rattle.std.proofs.lemmas.Option.{none-some, same_Some, slice_get-map, slice_get-get_or, slice_get_within, get_or_from_slice_get}
use Rattle.net_sim.specs.Evaluated.{Clashes, IsValueOf}
use Rattle.net_sim.specs.Layout.{name_of, port_names}
use Rattle.net_sim.specs.Sim.{input_row, port_row, states_of}
use Rattle.net_steps.specs.Conflicts.{Clashes as ClashesIn}
use Rattle.net_steps.specs.StepsValue.{StepsValue}
use Rattle.net_steps.specs.declared.choice.Choice.{Choice}
use Rattle.net_steps.specs.declared.clashes.Clash.{Clash}
use Rattle.net_steps.specs.declared.equality.Equality.{Equality}
use Rattle.net_steps.specs.declared.operation.Operation.{Operation}
use Rattle.net_row.proofs.PortSlotLemmas.{is_frame}
use Rattle.net_row.proofs.RowLemmas.{row_in_before}
use Rattle.net_row.specs.inside.Compiling.{frame_in, net_of}
use Rattle.net_row.specs.Kinds.{kept_in}
use Rattle.net_row.specs.Outputs.{AddsNext}
use Rattle.net_row.specs.inside.Ports.{IsMadeOf, IsNumbered}
use Rattle.net_row.specs.Places.{ArePlaces}
use Rattle.net_row.specs.Program.{IsProgram, TellsRow, steps_of, values_in, steps_in}
use Rattle.net_row.specs.Rows.{AreValuesAt, IsRowIn, SlotRow, states_in}
use Rattle.net_row.specs.declared.compile.Made.{Made}
use Rattle.net_row.specs.declared.compile.Numbered.{Numbered}
use Rattle.net_row.specs.declared.program.Program.{Program}

-- ---- nothing yet

none_there : {X : Type 0} (count k : ℕ) (x : X) → slice_get (replicate count None) k ≡ Some (Some x) → ⊥
none_there zero k x at = none-some (Some x) at
none_there (suc count) zero x at = none-some x (same_Some None (Some x) at)
none_there (suc count) (suc k) x at = none_there count k x at

pub made_none : (numbered : Numbered) (made : Made) (count tests : ℕ) → made.steps.base ≡ kept_in numbered.cells.now + length (net_of numbered).ins → count ≡ length (port_names (net_of numbered)) → tests ≡ length numbered.guards.tests.items → made.ports.slots.items ≡ replicate count None → made.truths.of_tests.items ≡ replicate tests None → made.clashes.items ≡ []
    → IsMadeOf (net_of numbered) numbered made
made_none numbered made count tests base counted tested ports truths clashes = record {
  base = base;
  count = ap length ports ∙ length-replicate count None ∙ counted;
  ports = record {
    fit = λ port slot width at wide. absurd (no_port port slot at);
    values = λ port slot at. absurd (no_port port slot at);
    told = λ port slot at. absurd (no_port port slot at);
    others = λ k clash at. absurd (none-some clash (ap (λ l. slice_get l k) (sym clashes) ∙ at));
  };
  tests = ap length truths ∙ length-replicate tests None ∙ tested;
  truths = λ k truth at. absurd (none_there tests k truth (ap (λ l. slice_get l k) (sym truths) ∙ at));
}
  where
    no_port : (port slot : ℕ) → slice_get made.ports.slots.items port ≡ Some (Some slot) → ⊥
    no_port port slot at = none_there count port slot (ap (λ l. slice_get l port) (sym ports) ∙ at)

-- ---- the slot of each port

pub slots_more : (ports : List (Option ℕ)) (k slot : ℕ) (slots more : List ℕ) → slice_get ports k ≡ Some (Some slot) → take k ports ≡ map Some slots → more ≡ slots ++ slot ∷ [] → take (k + 1) ports ≡ map Some more
slots_more ports k slot slots more at so_far pushed =
    take_more ports k None (slice_get_within ports k (Some slot) at)
    ∙ ap₂ (λ (l : List (Option ℕ)) o. l ++ o ∷ []) so_far (get_or_from_slice_get ports k (Some slot) None at)
    ∙ sym (map-append Some slots (slot ∷ []))
    ∙ ap (map Some) (sym pushed)

some_of : (o : Option ℕ) (slot : ℕ) → ◌≡◌ {A = Option (Option ℕ)} (option_map Some o) (Some (Some slot)) → o ≡ Some slot
some_of None slot e = absurd (none-some (Some slot) e)
some_of (Some x) slot e = same_Some (Some x) (Some slot) e

-- ---- the program

module _ (numbered : Numbered) (is : IsNumbered (net_of numbered) numbered) (made : Made) (are : IsMadeOf (net_of numbered) numbered made) (new : StepsValue) (program : Program) (adds : AddsNext made.steps new made.ports.slots.items numbered.cells.now program.next.items) (slots : made.ports.slots.items ≡ map Some program.ports.items) (places : ArePlaces numbered.cells.now program.ports.items program.places.items) (steps : steps_in program ≡ new.items) (choices : program.choices.items ≡ new.choices) (assumed : program.assumed.items ≡ new.assumed) (clashes : program.clashes.items ≡ made.clashes.items) where
  count : length program.ports.items ≡ length (port_names (net_of numbered))
  count = sym (length-map program.ports.items Some) ∙ ap length (sym slots) ∙ are.count

  within : All (λ (clash : Clash). clash.port < length (port_names (net_of numbered))) made.clashes.items
  within k d lt =
      let has = are.ports.others k (get_or made.clashes.items k d) (slice_get-get_or made.clashes.items k d lt) in
      omega (arith, slice_get_within made.ports.slots.items (get_or made.clashes.items k d).port (Some has.0) has.1, are.count)

  same_steps : steps_of (net_of numbered) numbered.cells.now program ≡ new
  same_steps =
      ap₂ (λ (cs : List Choice) (a : List Equality). (let s : StepsValue = record { base = kept_in numbered.cells.now + length (net_of numbered).ins; items = steps_in program; choices = cs; assumed = a } in s)) choices assumed
      ∙ ap₂ (λ b (i : List Operation). (let s : StepsValue = record { base = b; items = i; choices = new.choices; assumed = new.assumed } in s)) (sym (adds.extends.base ∙ are.base)) steps

  has_slot : (port slot : ℕ) → slice_get program.ports.items port ≡ Some slot → slice_get made.ports.slots.items port ≡ Some (Some slot)
  has_slot port slot at = ap (λ l. slice_get l port) slots ∙ slice_get-map Some program.ports.items port ∙ ap (option_map Some) at

  module _ (row : SlotRow) (in_row : IsRowIn (frame_in numbered) new row) where
    made_row : IsRowIn (frame_in numbered) made.steps row
    made_row = row_in_before (frame_in numbered) made.steps new adds.extends row in_row

    size : length (values_in program row) ≡ length (port_names (net_of numbered))
    size = length-map program.ports.items (slice_index row.slots) ∙ count

    agree : AreValuesAt made.ports.slots.items row (values_in program row)
    agree port slot at =
        let there = some_of (slice_get program.ports.items port) slot (sym (slice_get-map Some program.ports.items port) ∙ ap (λ l. slice_get l port) (sym slots) ∙ at) in
        slice_get-map (slice_index row.slots) program.ports.items port ∙ ap (option_map (slice_index row.slots)) there

    slot_at : (port : ℕ) → port < length (port_names (net_of numbered)) → slice_get program.ports.items port ≡ Some (get_or program.ports.items port 0)
    slot_at port lt = slice_get-get_or program.ports.items port 0 (omega (arith, lt, count))

    tells : TellsRow (net_of numbered) numbered.cells.now program row
    tells = record {
      fit = λ port slot width at wide. are.ports.fit port slot width (has_slot port slot at) wide row made_row;
      values = λ port lt.
          let n = net_of numbered in
          let slot = get_or program.ports.items port 0 in
          let value = get_or-map (slice_index row.slots) program.ports.items port 0 0 (omega (arith, lt, count)) in
          subst (IsValueOf n (input_row n row.inputs) (states_of n (states_in (frame_in numbered) row)) (port_row n (values_in program row)) (name_of n port)) (sym value)
          (are.ports.values port slot (has_slot port slot (slot_at port lt)) row (values_in program row) made_row size agree);
      told = λ port lt.
          let n = net_of numbered in
          let slot = get_or program.ports.items port 0 in
          subst (λ cs. Clashes n (port_row n (values_in program row)) port ↔ ClashesIn cs row.slots port) (sym clashes)
          (are.ports.told port slot (has_slot port slot (slot_at port lt)) row (values_in program row) made_row size agree);
      next = λ k cell kind at at_kind. adds.made (frame_in numbered) (is_frame numbered is) refl are.ports.fit k cell kind at at_kind row (values_in program row) in_row size agree;
    }

  pub program_is : IsProgram (net_of numbered) numbered.cells.now program
  program_is = record {
    ports = count;
    places = places;
    next = adds.count;
    clashes = subst (All (λ (clash : Clash). clash.port < length (port_names (net_of numbered)))) (sym clashes) within;
    tells = λ row in_row. tells row (subst (λ s. IsRowIn (frame_in numbered) s row) same_steps in_row);
  }
