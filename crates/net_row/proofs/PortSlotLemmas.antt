-- The slot of a port has its value, by what gives it: an input, an output of a cell, or assignments.
use Rattle.std.proofs.Common.{◌≡◌, ℕ, suc, ◌+◌, ◌<◌, ◌^◌, List, [], ◌∷◌, ◌++◌, Some, Result, Ok, Err, IfOk, length, get_or, refl, sym, ap, ◌∙◌, subst, arith, map}
use Rattle.std.specs.Prelude.{slice_get, slice_index}
use Rattle.std.proofs.lemmas.List.{append-nil, length-map}
use Rattle.std.proofs.lemmas.List.Elements.{All-nil}
use Rattle.std.proofs.lemmas.Option.{same_Some, slice_get-get_or, slice_get_read, slice_get_within, get_or_from_slice_get}
use Rattle.hw_prims.proofs.PrimLemmas.{keeps_widths, value_fits}
use Rattle.hw_prims.specs.Cell.{CellValue}
use Rattle.hw_prims.specs.Laws.{AreValuesOf}
use Rattle.hw_prims.specs.Meaning.{output_values}
use Rattle.hw_prims.specs.Table.{IsMade, Pin, outputs_of, pin_widths}
use Rattle.net_core.specs.Circuit.{settled}
use Rattle.net_core.specs.NetRun.{values_for}
use Rattle.net_core.specs.Rules.{PortLine, ports_of}
use Rattle.net_sim.proofs.GiverLemmas.{at_some}
use Rattle.net_sim.proofs.PlanLemmas.{IsCellOf, cell_of_output, given_within, input_width}
use Rattle.net_sim.proofs.PortValueLemmas.{no_clash, value_from_cell, value_from_input, value_from_sets}
use Rattle.net_sim.specs.Evaluated.{Clashes, IsValueOf, cell_inputs}
use Rattle.net_sim.specs.Layout.{name_of, port_names, port_widths}
use Rattle.net_sim.specs.Sim.{input_row, port_row, states_of}
use Rattle.net_sim.specs.declared.cells.CellPorts.{CellPorts}
use Rattle.net_sim.specs.declared.plan.Giver.TheVariants.{Input, Output, Driven}
use Rattle.net_steps.specs.Drivers.{AddsPort, acting}
use Rattle.net_steps.specs.declared.clashes.Clash.{Clash}
use Rattle.net_steps.specs.declared.drivers.Driver.{Driver}
use Rattle.net_row.proofs.DrivenLemmas.{driven_fits, told_by_none, told_by_two}
use Rattle.net_row.proofs.MadeLemmas.{steps_after}
use Rattle.net_row.proofs.RowLemmas.{cells_with, cells_with-at, cells_with-prims, cells_with-states, inputs_fit, length-kinds_after, row_in_before, state_fits, state_in_row, values_agree, values_count, values_fit, values_with}
use Rattle.net_row.specs.inside.Compiling.{AddsDrivers, AddsPortSlot, frame_in, net_of}
use Rattle.net_row.specs.Kinds.{kinds_of, state_of}
use Rattle.net_row.specs.Outputs.{AddsOutput}
use Rattle.net_row.specs.inside.Ports.{AreActing, IsMadeOf, IsNumbered, IsPortValue}
use Rattle.net_row.specs.Rows.{IsFrame, SlotRow, IsRowIn, FitsIn, AreValuesAt, states_in}
use Rattle.net_row.specs.declared.compile.Made.{Made}
use Rattle.net_row.specs.declared.compile.Numbered.{Numbered}
use Rattle.net_row.specs.declared.kinds.Kind.{Kind}
use Rattle.net_row.specs.declared.slots.PortSlots.{PortSlots}

pub is_frame : (numbered : Numbered) → IsNumbered (net_of numbered) numbered → IsFrame (frame_in numbered)
is_frame numbered is = record { valid = is.compiled.valid; listed = is.compiled.listed }

-- ---- inputs

-- values of pins have a value for each
count_pins : (pins : List Pin) (values : List ℕ) → AreValuesOf pins values → length values ≡ length pins
count_pins [] [] are = refl
count_pins [] (v ∷ values) are = absurd are
count_pins (p ∷ pins) [] are = absurd are
count_pins (p ∷ pins) (v ∷ values) are = ap suc (count_pins pins values are.1)

module _ (numbered : Numbered) (is : IsNumbered (net_of numbered) numbered) (old : Made) (made : IsMadeOf (net_of numbered) numbered old) (port : ℕ) (within : port < length (port_names (net_of numbered))) where
  module _ (slot : ℕ) (given : slice_get numbered.givers.items port ≡ Some Input) (slot_is : slot ≡ numbered.kinds.kept + port) where
    below : port < length (net_of numbered).ins
    below = given_within (net_of numbered) numbered.order.now numbered.cells.now numbered.sources.items numbered.givers.items is.compiled port given

    -- the input is in the slot
    input_there : (row : SlotRow) → IsRowIn (frame_in numbered) old.steps row → slice_index row.slots slot ≡ get_or row.inputs port 0
    input_there row in_row =
        let count = count_pins (net_of numbered).ins row.inputs in_row.inputs in
        let at = slice_get-get_or row.inputs port 0 (omega (arith, count, below)) in
        ap (slice_index row.slots) (slot_is ∙ ap (λ k. k + port) is.kept) ∙ in_row.given port (get_or row.inputs port 0) at

    input_fits : (width : ℕ) → slice_get (port_widths (net_of numbered)) port ≡ Some width → FitsIn (frame_in numbered) old.steps width slot
    input_fits width wide row in_row =
        let n = net_of numbered in
        let widths = map (λ (p : Pin). p.width) n.ins in
        let same = same_Some (get_or widths port 0) width (sym (input_width n numbered.order.now numbered.cells.now numbered.sources.items numbered.givers.items is.compiled widths port refl below) ∙ wide) in
        subst (λ v. v < 2 ^ width) (sym (input_there row in_row)) (subst (λ w. get_or row.inputs port 0 < 2 ^ w) same (value_fits n.ins row.inputs in_row.inputs port below))

    pub input_added : AddsPortSlot numbered old old port slot
    input_added = record {
      ports = refl;
      made = made;
      fits = input_fits;
      value = λ row values in_row size agree.
          let n = net_of numbered in
          subst (IsValueOf n (input_row n row.inputs) (states_of n (states_in (frame_in numbered) row)) (port_row n values) (name_of n port)) (sym (input_there row in_row))
          (value_from_input n numbered.order.now numbered.cells.now numbered.sources.items numbered.givers.items is.compiled values size port within row.inputs (states_of n (states_in (frame_in numbered) row)) (count_pins n.ins row.inputs in_row.inputs) given);
      added = [];
      clashes = sym (append-nil old.clashes.items);
      of_port = All-nil (λ (clash : Clash). clash.port ≡ port);
      told = λ row values in_row size agree.
          told_by_none row.slots port (Clashes (net_of numbered) (port_row (net_of numbered) values) port)
          (no_clash (net_of numbered) numbered.order.now numbered.cells.now numbered.sources.items numbered.givers.items is.compiled values size port within Input given (λ e. cc));
    }

  pub if_input_added : {E : Type 0} (r : Result ℕ E) → slice_get numbered.givers.items port ≡ Some Input → IfOk r (λ slot. slot ≡ numbered.kinds.kept + port) → IfOk r (AddsPortSlot numbered old old port)
  if_input_added (Ok slot) given is_slot = input_added slot given is_slot
  if_input_added (Err e) given is_slot = is_slot

  -- ---- outputs of cells

  module _ (new : Made) (m j slot : ℕ) (given : slice_get numbered.givers.items port ≡ Some (Output m j)) (cell : CellPorts) (kind : Kind) (at_cell : slice_get numbered.cells.now m ≡ Some cell) (at_kind : slice_get numbered.kinds.of_cells.items m ≡ Some kind) (within_output : j < length (outputs_of cell.prim)) (wide_output : (w : ℕ) → slice_get (pin_widths (outputs_of cell.prim)) j ≡ Some w → slice_get (port_widths (net_of numbered)) port ≡ Some w) (adds : AddsOutput old.steps new.steps old.ports.slots.items cell kind j slot) (ports : new.ports ≡ old.ports) (truths : new.truths ≡ old.truths) (clashes : new.clashes ≡ old.clashes) where
    kind_there : slice_get (kinds_of numbered.cells.now) m ≡ Some kind
    kind_there = ap (λ l. slice_get l m) (sym is.kinds) ∙ at_kind

    output_there : (row : SlotRow) (values : List ℕ) → IsRowIn (frame_in numbered) new.steps row → length values ≡ length (port_names (net_of numbered)) → AreValuesAt old.ports.slots.items row values → slice_index row.slots slot ≡ slice_index (output_values cell.prim (state_of row.slots row.others kind) (cell_inputs values cell)) j
    output_there row values in_row size agree = adds.made (frame_in numbered) m (is_frame numbered is) at_cell kind_there within_output made.ports.fit row values in_row size agree

    output_fits : (width : ℕ) → slice_get (port_widths (net_of numbered)) port ≡ Some width → FitsIn (frame_in numbered) new.steps width slot
    output_fits width wide row in_row =
        let f = frame_in numbered in
        let slots = old.ports.slots.items in
        let values = values_with slots row in
        let size = values_count slots row ∙ made.count in
        let old_row = row_in_before f old.steps new.steps adds.extends row in_row in
        let fit = values_fit slots row f old.steps made.ports.fit old_row in
        let state = state_of row.slots row.others kind in
        let ins = cell_inputs values cell in
        let kept = (keeps_widths cell.prim (prim_made m cell at_cell)).outputs state ins (state_fits f row m kind kind_there new.steps in_row cell at_cell) (inputs_fit f (is_frame numbered is) m cell at_cell values size fit) in
        let count = length-map (outputs_of cell.prim) (λ (p : Pin). p.width) in
        let at_width = slice_get-get_or (pin_widths (outputs_of cell.prim)) j 0 (omega (arith, within_output, count)) in
        let same = same_Some (get_or (pin_widths (outputs_of cell.prim)) j 0) width (sym (wide_output (get_or (pin_widths (outputs_of cell.prim)) j 0) at_width) ∙ wide) in
        subst (λ v. v < 2 ^ width) (sym (output_there row values in_row size (values_agree slots row)))
        (subst (λ w. slice_index (output_values cell.prim state ins) j < 2 ^ w) same (value_fits (outputs_of cell.prim) (output_values cell.prim state ins) kept j within_output))
      where
        prim_made : (k : ℕ) (c : CellPorts) → slice_get numbered.cells.now k ≡ Some c → IsMade c.prim
        prim_made k c at =
            let line = at_some (net_of numbered).cells k (omega (arith, slice_get_within numbered.cells.now k c at, is.compiled.listed.all)) in
            (is.compiled.listed.each k line.0 c line.1 at).made

    output_value : (row : SlotRow) (values : List ℕ) → IsRowIn (frame_in numbered) new.steps row → length values ≡ length (port_names (net_of numbered)) → AreValuesAt old.ports.slots.items row values → IsPortValue (frame_in numbered) port slot row values
    output_value row values in_row size agree =
        let n = net_of numbered in
        let cells = numbered.cells.now in
        let f = frame_in numbered in
        let states = states_in f row in
        let count : length states ≡ length cells = length-map (kinds_of cells) (state_of row.slots row.others) ∙ length-kinds_after 0 0 cells in
        let state = state_of row.slots row.others kind in
        let own : CellValue = record { prim = cell.prim; state = state } in
        let at_own = cells_with-at cells states m cell state at_cell (state_in_row f row m kind kind_there) in
        subst (λ ss. IsValueOf n (input_row n row.inputs) (states_of n ss) (port_row n values) (name_of n port) (slice_index row.slots slot)) (cells_with-states cells states count)
        (value_from_cell n numbered.order.now cells numbered.sources.items numbered.givers.items is.compiled values size port within (input_row n row.inputs) (cells_with cells states) m j cell own (slice_index row.slots slot) (cells_with-prims cells states count) given at_cell at_own (output_there row values in_row size agree))

    pub output_added : AddsPortSlot numbered old new port slot
    output_added = record {
      ports = ports;
      made = steps_after numbered old (record new { clashes = old.clashes }) adds.extends ports refl truths made;
      fits = output_fits;
      value = λ row values in_row size agree. output_value row values in_row size (subst (λ (p : PortSlots). AreValuesAt p.slots.items row values) ports agree);
      added = [];
      clashes = ap (λ (v : _). v.items) clashes ∙ sym (append-nil old.clashes.items);
      of_port = All-nil (λ (clash : Clash). clash.port ≡ port);
      told = λ row values in_row size agree.
          told_by_none row.slots port (Clashes (net_of numbered) (port_row (net_of numbered) values) port)
          (no_clash (net_of numbered) numbered.order.now numbered.cells.now numbered.sources.items numbered.givers.items is.compiled values size port within (Output m j) given (λ e. cc));
    }

  -- the cell and its kind as they are read
  module _ (new : Made) (m j : ℕ) (given : slice_get numbered.givers.items port ≡ Some (Output m j)) where
    pub output_cell : (cell : CellPorts) × IsCellOf (net_of numbered) numbered.order.now numbered.cells.now numbered.sources.items numbered.givers.items is.compiled port m j cell
    output_cell = cell_of_output (net_of numbered) numbered.order.now numbered.cells.now numbered.sources.items numbered.givers.items is.compiled port m j given

    pub cell_within : m < length numbered.cells.now
    cell_within = slice_get_within numbered.cells.now m output_cell.0 output_cell.1.at

    pub kind_within : m < length numbered.kinds.of_cells.items
    kind_within = omega (arith, cell_within, ap length is.kinds, length-kinds_after 0 0 numbered.cells.now)

    pub if_output_added : {E : Type 0} (r : Result ℕ E) (some : CellPorts) (kind : Kind) → kind ≡ get_or numbered.kinds.of_cells.items m kind → new.ports ≡ old.ports → new.truths ≡ old.truths → new.clashes ≡ old.clashes
        → IfOk r (AddsOutput old.steps new.steps old.ports.slots.items (get_or numbered.cells.now m some) kind j) → IfOk r (AddsPortSlot numbered old new port)
    if_output_added (Ok slot) some kind read ports truths clashes adds =
        output_added new m j slot given output_cell.0 kind output_cell.1.at
        (slice_get_read numbered.kinds.of_cells.items (length numbered.kinds.of_cells.items) m kind refl kind_within read)
        output_cell.1.within output_cell.1.width
        (subst (λ c. AddsOutput old.steps new.steps old.ports.slots.items c kind j slot) (get_or_from_slice_get numbered.cells.now m output_cell.0 some output_cell.1.at) adds)
        ports truths clashes
    if_output_added (Err e) some kind read ports truths clashes adds = adds

  -- ---- assignments

  module _ (mid new : Made) (slot : ℕ) (given : slice_get numbered.givers.items port ≡ Some Driven) (drivers : List Driver) (driven : AddsDrivers numbered old mid port drivers) (adds : AddsPort mid.steps new.steps mid.clashes.items new.clashes.items port drivers slot) (ports : new.ports ≡ mid.ports) (truths : new.truths ≡ mid.truths) where
    acting_there : (row : SlotRow) (values : List ℕ) → IsRowIn (frame_in numbered) new.steps row → length values ≡ length (port_names (net_of numbered)) → AreValuesAt mid.ports.slots.items row values → AreActing (net_of numbered) port drivers row values
    acting_there row values in_row size agree = driven.are row values (row_in_before (frame_in numbered) mid.steps new.steps adds.extends row in_row) size agree

    driven_there : (row : SlotRow) (values : List ℕ) → IsRowIn (frame_in numbered) new.steps row → length values ≡ length (port_names (net_of numbered)) → AreValuesAt mid.ports.slots.items row values → slice_index row.slots slot ≡ settled (values_for (name_of (net_of numbered) port) (port_row (net_of numbered) values) (net_of numbered).sets)
    driven_there row values in_row size agree = adds.value row.others row.slots in_row.made ∙ ap settled (acting_there row values in_row size agree)

    slot_fits : (width : ℕ) → slice_get (port_widths (net_of numbered)) port ≡ Some width → FitsIn (frame_in numbered) new.steps width slot
    slot_fits width wide row in_row =
        let n = net_of numbered in
        let f = frame_in numbered in
        let slots = mid.ports.slots.items in
        let values = values_with slots row in
        let size = values_count slots row ∙ driven.added.made.count in
        let mid_row = row_in_before f mid.steps new.steps adds.extends row in_row in
        let fit = values_fit slots row f mid.steps driven.added.made.ports.fit mid_row in
        let counted : length values ≡ length (port_widths n) = size ∙ length-map (ports_of n) (λ (p : PortLine). p.name) ∙ sym (length-map (ports_of n) (λ (p : PortLine). p.width)) in
        let below = driven_fits n numbered.order.now numbered.cells.now numbered.sources.items numbered.givers.items is.compiled values size counted fit port within in
        subst (λ v. v < 2 ^ width) (sym (driven_there row values in_row size (values_agree slots row)))
        (subst (λ w. settled (values_for (name_of n port) (port_row n values) n.sets) < 2 ^ w) (get_or_from_slice_get (port_widths n) port width 0 wide) below)

    pub driven_added : AddsPortSlot numbered old new port slot
    driven_added = record {
      ports = ports ∙ driven.added.ports;
      made = steps_after numbered mid (record new { clashes = old.clashes }) adds.extends ports (sym driven.added.clashes) truths driven.added.made;
      fits = slot_fits;
      value = λ row values in_row size agree.
          let n = net_of numbered in
          value_from_sets n numbered.order.now numbered.cells.now numbered.sources.items numbered.givers.items is.compiled values size port within (input_row n row.inputs) (states_of n (states_in (frame_in numbered) row)) (slice_index row.slots slot) given
          (driven_there row values in_row size (at_mid row values agree));
      added = adds.added;
      clashes = adds.after_is ∙ ap (λ (v : _). v.items ++ adds.added) driven.added.clashes;
      of_port = adds.of_port;
      told = λ row values in_row size agree.
          told_by_two row.slots port adds.added (acting row.slots drivers) (values_for (name_of (net_of numbered) port) (port_row (net_of numbered) values) (net_of numbered).sets) adds.of_port (adds.told row.others row.slots in_row.made)
          (acting_there row values in_row size (at_mid row values agree));
    }
      where
        at_mid : (row : SlotRow) (values : List ℕ) → AreValuesAt new.ports.slots.items row values → AreValuesAt mid.ports.slots.items row values
        at_mid row values agree = subst (λ (p : PortSlots). AreValuesAt p.slots.items row values) ports agree
