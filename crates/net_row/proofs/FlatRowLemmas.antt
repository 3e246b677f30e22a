-- A row of a program, from its slots: what it evaluates, and what the edge after it and a load make of the states.
use Rattle.std.proofs.Common.{◌≡◌, ℕ, zero, suc, ◌+◌, ◌<◌, ◌≤◌, ◌^◌, List, [], ◌∷◌, Option, Some, None, length, length-take, take, refl, sym, ap, ap₂, ◌∙◌, arith, map, replicate, subst, All}
use Rattle.std.specs.Prelude.{slice_get, slice_index, option_map}
use Rattle.std.proofs.Math.Nat.{mod-eq_of_lt}
use Rattle.std.proofs.lemmas.List.{length-map}
use Rattle.std.proofs.lemmas.Nat.{pow_pos}
use Rattle.std.proofs.lemmas.Option.{same_Some, slice_get_within, slice_get-map, get_or_from_slice_get, none-some}
use Rattle.hw_prims.specs.Laws.{AreValuesOf}
use Rattle.hw_prims.specs.Meaning.{next_state, opening_state}
use Rattle.hw_prims.specs.Memory.{state_with_word}
use Rattle.hw_prims.specs.State.{State, Register as RegisterState, Delay as DelayState, FastMult as FastMultState}
use Rattle.hw_prims.specs.Table.{Pin, inputs_of, pin_widths}
use Rattle.hw_prims.specs.declared.prim.Primitive.{Primitive}
use Rattle.hw_prims.specs.declared.prim.Primitive.TheVariants.{StdReg, StdMemD1, StdMemD2, StdMultPipe, FilDelay, FilFastMult, FilSeqMult}
use Rattle.net_core.specs.Netlist.{Netlist}
use Rattle.net_core.specs.Rules.{PortLine, ports_of}
use Rattle.net_core.specs.declared.table.Table.{Table}
use Rattle.net_sim.proofs.CellInputLemmas.{cut_of_map}
use Rattle.net_sim.proofs.CoverLemmas.{cover}
use Rattle.net_sim.proofs.EvaluateLemmas.{AreDone, IsAmong, IsLeastSoFar, in_range as port_in_range, row_is_made, conflicts_are}
use Rattle.net_sim.proofs.GiverLemmas.{at_some}
use Rattle.net_sim.proofs.PortLemmas.{input_widths}
use Rattle.net_sim.specs.Evaluated.{cell_inputs}
use Rattle.net_sim.specs.Layout.{port_names, port_widths}
use Rattle.net_sim.specs.Sim.{IsEvaluated, input_row, port_row, states_of}
use Rattle.net_sim.specs.declared.cells.CellPorts.{CellPorts}
use Rattle.net_steps.proofs.StepLemmas.{choices_itself}
use Rattle.net_steps.specs.Conflicts.{IsLeastClash, Clashes as ClashesIn}
use Rattle.net_steps.specs.Edge.{AreSteppedOthers}
use Rattle.net_steps.specs.Gathered.{gathered}
use Rattle.net_steps.specs.Operations.{AreMade}
use Rattle.net_steps.specs.declared.clashes.Clash.{Clash}
use Rattle.net_steps.specs.declared.other.Other.{Other as OtherCell}
use Rattle.net_row.proofs.FlatKindLemmas.{one_cell, same_states}
use Rattle.net_row.proofs.FlatOtherLemmas.{are_others_of}
use Rattle.net_row.proofs.FlatStateLemmas.{AreNext, IsLoadedAt}
use Rattle.net_row.proofs.RowLemmas.{AreWithin, cell_count, in_range, inputs_fit, length-kinds_after}
use Rattle.net_row.specs.Flats.{AreOthers, FitWidths, AreOpened, IsBuilt, AreKept, IsAfterRow, IsLoadedOther, states_from, values_from}
use Rattle.net_row.specs.Kinds.{kinds_of, kinds_after, kind_after, kept_for, others_for, state_of, other_state, IfKept}
use Rattle.net_row.specs.Places.{IsPlaces}
use Rattle.net_row.specs.Program.{TellsRow, frame, steps_of, values_in, steps_in}
use Rattle.net_row.specs.Programs.{IsRunOf}
use Rattle.net_row.specs.Rows.{SlotRow, IsRowIn, AreStatesOf, states_in}
use Rattle.net_row.specs.declared.kinds.Kind.{Kind}
use Rattle.net_row.specs.declared.kinds.Kind.TheVariants.{Stateless, Register, Delay, FastMult, Other}
use Rattle.net_row.specs.declared.program.Program.{Program}

-- ---- the inputs of a cell, gathered from slots

gathered_is : (slots places widths : List ℕ) → length widths ≤ length places → AreWithin widths (map (slice_index slots) (take (length widths) places)) → gathered slots places widths ≡ map (slice_index slots) (take (length widths) places)
gathered_is slots places [] le fit = refl
gathered_is slots [] (w ∷ widths) le fit = absurd (omega (arith, le))
gathered_is slots (p ∷ places) (w ∷ widths) le fit =
    ap₂ ◌∷◌ (mod-eq_of_lt (fit 0 (slice_index slots p) w refl refl))
    (gathered_is slots places widths (omega (arith, le)) (λ k value width at wide. fit (suc k) value width at wide))

pub gathered_inputs : (slots ports : List ℕ) (cell : CellPorts) (places widths : List ℕ) → length widths ≤ length places → widths ≡ pin_widths (inputs_of cell.prim) → IsPlaces ports cell places → AreWithin (pin_widths (inputs_of cell.prim)) (cell_inputs (map (slice_index slots) ports) cell) → gathered slots places widths ≡ cell_inputs (map (slice_index slots) ports) cell
gathered_inputs slots ports cell places widths le widths_are is fit =
    let count : length widths ≡ length (inputs_of cell.prim) = ap length widths_are ∙ length-map (inputs_of cell.prim) (λ (p : Pin). p.width) in
    let there : map (slice_index slots) (take (length widths) places) ≡ cell_inputs (map (slice_index slots) ports) cell =
    ap (λ n. map (slice_index slots) (take n places)) count ∙ ap (map (slice_index slots)) is ∙ cut_of_map (slice_index slots) ports cell.first (cell.first + length (inputs_of cell.prim)) in
    gathered_is slots places widths le (subst (λ ws. AreWithin ws (map (slice_index slots) (take (length widths) places))) (sym widths_are) (subst (AreWithin (pin_widths (inputs_of cell.prim))) (sym there) fit)) ∙ there

-- ---- states, cell by cell

-- a kept state by the kept values alone
by_kind : (kept : List ℕ) (others : List OtherCell) (state : State) (kind : Kind) → IfKept kind (state_of kept [] kind ≡ state) → ((number : ℕ) → kind ≡ Other number → state_of kept others (Other number) ≡ state) → state_of kept others kind ≡ state
by_kind kept others state Stateless is other = is
by_kind kept others state (Register k) is other = is
by_kind kept others state (Delay k) is other = is
by_kind kept others state (FastMult k) is other = is
by_kind kept others state (Other number) is other = other number refl

module _ (kinds : List Kind) (kept : List ℕ) (others : List OtherCell) (k : ℕ) (kind : Kind) (at : slice_get kinds k ≡ Some kind) where
  pub state_at : slice_get (states_from kinds kept others) k ≡ Some (state_of kept others kind)
  state_at = slice_get-map (state_of kept others) kinds k ∙ ap (option_map (state_of kept others)) at

  pub state_is : (s : State) → slice_get (states_from kinds kept others) k ≡ Some s → state_of kept others kind ≡ s
  state_is s here = same_Some _ s (sym state_at ∙ here)

-- ---- the opening states

opening_one : (kept : List ℕ) (cells : List OtherCell) (first number : ℕ) (prim : Primitive) → ((k : ℕ) → slice_index kept k ≡ 0) → ((m : ℕ) → kind_after first number prim ≡ Other m → other_state (slice_get cells m) ≡ opening_state prim []) → state_of kept cells (kind_after first number prim) ≡ opening_state prim []
unfolding opening_state
opening_one kept cells first number (StdReg w) none other = ap₂ RegisterState (none first) (none (first + 1))
opening_one kept cells first number (FilDelay w) none other = ap DelayState (none first)
opening_one kept cells first number (FilFastMult w) none other = ap₂ FastMultState (none first) (none (first + 1))
opening_one kept cells first number (StdMemD1 w size idx) none other = other number refl
opening_one kept cells first number (StdMemD2 w size0 size1 idx0 idx1) none other = other number refl
opening_one kept cells first number (StdMultPipe w) none other = other number refl
opening_one kept cells first number (FilSeqMult w) none other = other number refl
opening_one kept cells first number prim none other = refl

opening_after : (kept : List ℕ) (others : List OtherCell) (first number : ℕ) (cells : List CellPorts) → ((k : ℕ) → slice_index kept k ≡ 0) → ((k m : ℕ) (c : CellPorts) → slice_get cells k ≡ Some c → slice_get (kinds_after first number cells) k ≡ Some (Other m) → other_state (slice_get others m) ≡ opening_state c.prim []) → map (state_of kept others) (kinds_after first number cells) ≡ map (λ (c : CellPorts). opening_state c.prim []) cells
opening_after kept others first number [] none other = refl
opening_after kept others first number (c ∷ cells) none other =
    ap₂ ◌∷◌ (opening_one kept others first number c.prim none (λ m is. other 0 m c refl (ap Some is)))
    (opening_after kept others (first + kept_for c.prim) (number + others_for c.prim) cells none (λ k m d at kind. other (suc k) m d at kind))

pub opening_states : (kept : List ℕ) (others : List OtherCell) (cells : List CellPorts) → ((k : ℕ) → slice_index kept k ≡ 0) → AreOthers cells others → All (λ (other : OtherCell). other.state.state ≡ opening_state other.state.prim []) others → map (state_of kept others) (kinds_of cells) ≡ map (λ (c : CellPorts). opening_state c.prim []) cells
opening_states kept others cells none are opening = opening_after kept others 0 0 cells none (λ k m c at kind.
    let o = are.each k m c at kind in
    let lt = slice_get_within others m o.0 o.1 in
    let is : o.0.state.state ≡ opening_state o.0.state.prim [] = subst (λ (x : OtherCell). x.state.state ≡ opening_state x.state.prim []) (get_or_from_slice_get others m o.0 o.0 o.1) (opening m o.0 lt) in
    ap other_state o.1 ∙ is ∙ ap (λ p. opening_state p []) o.2.prim)

pub zeros : (n k : ℕ) → slice_index (replicate n 0) k ≡ 0
zeros zero k = refl
zeros (suc n) zero = refl
zeros (suc n) (suc k) = zeros n k

-- ---- a word put into a memory

module _ (kinds : List Kind) (cells : List CellPorts) (kept : List ℕ) (old new : List OtherCell) (kinds_are : kinds ≡ kinds_of cells) (cell number place word : ℕ) (kind : slice_get kinds cell ≡ Some (Other number)) (is : IsLoadedOther number place word old new) (within : number < length old) where
  other_kind : (k m : ℕ) → (k ≡ cell → ⊥) → slice_get kinds k ≡ Some (Other m) → m ≡ number → ⊥
  other_kind k m ne at same = ne (one_cell cells k cell number (ap (λ l. slice_get l k) (sym kinds_are) ∙ at ∙ ap (λ x. Some (Other x)) same) (ap (λ l. slice_get l cell) (sym kinds_are) ∙ kind))

  still : (k : ℕ) → (k ≡ cell → ⊥) → (found : Kind) → slice_get kinds k ≡ Some found → state_of kept new found ≡ state_of kept old found
  still k ne Stateless at = refl
  still k ne (Register first) at = refl
  still k ne (Delay first) at = refl
  still k ne (FastMult first) at = refl
  still k ne (Other m) at = ap other_state (is.others m (other_kind k m ne at))

  still_at : (k : ℕ) → (k ≡ cell → ⊥) → (o : Option Kind) → slice_get kinds k ≡ o → option_map (state_of kept new) o ≡ option_map (state_of kept old) o
  still_at k ne None at = refl
  still_at k ne (Some found) at = ap Some (still k ne found at)

  pub loaded_at : IsLoadedAt (states_from kinds kept old) (states_from kinds kept new) cell place word
  loaded_at = record {
    loaded = λ s here.
        let o = at_some old number within in
        let n = at_some new number (omega (arith, within, is.all)) in
        let was : o.0.state.state ≡ s = ap other_state (sym o.1) ∙ state_is kinds kept old cell (Other number) kind s here in
        state_at kinds kept new cell (Other number) kind ∙ ap Some (ap other_state n.1 ∙ is.loaded o.0 n.0 o.1 n.1 ∙ ap (λ x. state_with_word x place word) was);
    others = λ k ne.
        slice_get-map (state_of kept new) kinds k
        ∙ still_at k ne (slice_get kinds k) refl
        ∙ sym (slice_get-map (state_of kept old) kinds k);
  }

-- ---- a row

module _ (n : Netlist) (table : Table) (kinds : List Kind) (program : Program) (shown : List ℕ) (built : IsBuilt n table kinds program shown) where
  pub values_count : (slots : List ℕ) → length (values_from program slots) ≡ length (port_names n)
  values_count slots = length-map program.ports.items (slice_index slots) ∙ built.program_is.ports

  pub states_count : (kept : List ℕ) (others : List OtherCell) → length (states_from kinds kept others) ≡ length built.cells
  states_count kept others = length-map kinds (state_of kept others) ∙ ap length built.kinds_are ∙ length-kinds_after 0 0 built.cells

  -- the inputs of each cell fit
  pub cells_fit : (values : List ℕ) → length values ≡ length (port_names n) → FitWidths (port_widths n) values → (k : ℕ) (c : CellPorts) → slice_get built.cells k ≡ Some c → AreValuesOf (inputs_of c.prim) (cell_inputs values c)
  cells_fit values size fit k c at = inputs_fit (frame n built.cells) (record { valid = built.compiled.valid; listed = built.compiled.listed }) k c at values size fit

  -- the slots fit in a row
  pub row_fits : (row : SlotRow) → TellsRow n built.cells program row → FitWidths (port_widths n) (values_from program row.slots)
  row_fits row tells port value width at wide = by (slice_get program.ports.items port) refl (sym (slice_get-map (slice_index row.slots) program.ports.items port) ∙ at)
    where
      by : (o : Option ℕ) → slice_get program.ports.items port ≡ o → option_map (slice_index row.slots) o ≡ Some value → value < 2 ^ width
      by None has e = absurd (none-some value e)
      by (Some slot) has e = subst (λ v. v < 2 ^ width) (same_Some (slice_index row.slots slot) value e) (tells.fit port slot width has wide)

  -- zeros fit
  pub zeros_fit : (slots : List ℕ) → ((k : ℕ) → slice_index slots k ≡ 0) → FitWidths (port_widths n) (values_from program slots)
  zeros_fit slots none port value width at wide = by (slice_get program.ports.items port) (sym (slice_get-map (slice_index slots) program.ports.items port) ∙ at)
    where
      by : (o : Option ℕ) → option_map (slice_index slots) o ≡ Some value → value < 2 ^ width
      by None e = absurd (none-some value e)
      by (Some slot) e =
          let same : 0 ≡ value = sym (none slot) ∙ same_Some (slice_index slots slot) value e in
          let positive : 0 < 2 ^ width = pow_pos width in
          omega (arith, same, positive)

  module _ (others : List OtherCell) (kept was : List ℕ) (are : AreKept n built.cells kinds program others kept was) where
    -- the first slots hold the same states
    pub opened_states : (slots : List ℕ) → ((k : ℕ) → k < length kept → slice_index slots k ≡ slice_index kept k) → map (state_of slots others) (kinds_of built.cells) ≡ states_from kinds kept others
    opened_states slots opened =
        same_states slots kept others built.cells (λ k lt. opened k (omega (arith, lt, are.kept_all)))
        ∙ ap (map (state_of kept others)) (sym built.kinds_are)

    -- slots that were opened and filled are those of a row
    pub row_in : (inputs slots : List ℕ) → AreOpened kept inputs slots → IsRunOf (length kept + length inputs) program others slots → AreValuesOf n.ins inputs → length inputs ≡ length n.ins → IsRowIn (frame n built.cells) (steps_of n built.cells program) (record { slots = slots; inputs = inputs; others = others })
    row_in inputs slots opened run fit count = record {
      made = record {
        choices = program.choices.items;
        table = choices_itself program.choices.items;
        made = subst (λ base. AreMade others program.choices.items base (steps_in program) slots) (ap₂ ◌+◌ are.kept_all count) run.made;
        assumed = run.assumed;
      };
      given = λ k value at.
          ap (λ base. slice_index slots (base + k)) (sym are.kept_all)
          ∙ opened.inputs_next k (slice_get_within inputs k value at) ∙ get_or_from_slice_get inputs k value 0 at;
      inputs = fit;
      states = subst (AreStatesOf built.cells) (sym (opened_states slots opened.kept_first)) are.states;
      others = are_others_of built.cells others are.others_are;
    }

    -- ---- the edge that ends a row

    module _ (new : List OtherCell) (slots : List ℕ) (row : IsAfterRow n built.cells program others kept slots) (stepped : AreSteppedOthers program.places.items slots others new) where
      abbrev this : SlotRow
      this = record { slots = slots; inputs = row.inputs; others = others }

      tells : TellsRow n built.cells program this
      tells = built.program_is.tells this row.row

      fit : FitWidths (port_widths n) (values_from program slots)
      fit = row_fits this tells

      inputs_within : (k : ℕ) (c : CellPorts) → slice_get built.cells k ≡ Some c → AreWithin (pin_widths (inputs_of c.prim)) (cell_inputs (values_from program slots) c)
      inputs_within k c at i value width here wide =
          let widths = (input_widths n built.compiled.valid built.cells built.compiled.listed k c at).1 in
          fit (c.first + i) value width (in_range (values_from program slots) c.first (c.first + length (inputs_of c.prim)) i value here)
          (in_range (port_widths n) c.first (c.first + length (inputs_of c.prim)) i width (ap (λ l. slice_get l i) widths ∙ wide))

      other_next : (k number : ℕ) (c : CellPorts) → slice_get built.cells k ≡ Some c → slice_get (kinds_of built.cells) k ≡ Some (Other number) → other_state (slice_get new number) ≡ next_state c.prim (other_state (slice_get others number)) (cell_inputs (values_from program slots) c)
      other_next k number c at kind =
          let o = are.others_are.each k number c at kind in
          let within = slice_get_within others number o.0 o.1 in
          let m = at_some new number (omega (arith, within, stepped.all)) in
          let p = built.program_is.places.each k number c at kind in
          let is = stepped.each number p.0 o.0 m.0 p.1 o.1 m.1 in
          let count = cell_count (frame n built.cells) (record { valid = built.compiled.valid; listed = built.compiled.listed }) k c at program.ports.items built.program_is.ports in
          let space : length o.0.widths.items ≤ length p.0 = omega (arith, ap length o.2.widths, length-map (inputs_of c.prim) (λ (q : Pin). q.width), ap length p.2, length-take (length (inputs_of c.prim)) p.0, count) in
          let ins = gathered_inputs slots program.ports.items c p.0 o.0.widths.items space o.2.widths p.2 (inputs_within k c at) in
          ap other_state m.1 ∙ is.state
          ∙ ap₂ (λ p i. next_state p o.0.state.state i) o.2.prim ins
          ∙ ap (λ x. next_state c.prim (other_state x) (cell_inputs (values_from program slots) c)) (sym o.1)

      pub are_next : AreNext built.cells (values_from program slots) (states_from kinds kept others) (states_from kinds (map (slice_index slots) program.next.items) new)
      are_next k c s at here =
          let kind = at_some kinds k (let lt = slice_get_within (states_from kinds kept others) k s here in omega (arith, lt, length-map kinds (state_of kept others))) in
          let at_kind : slice_get (kinds_of built.cells) k ≡ Some kind.0 = ap (λ l. slice_get l k) (sym built.kinds_are) ∙ kind.1 in
          let inputs = cell_inputs (values_from program slots) c in
          let same : state_of slots others kind.0 ≡ s = same_Some (state_of slots others kind.0) s (
          sym (slice_get-map (state_of slots others) (kinds_of built.cells) k ∙ ap (option_map (state_of slots others)) at_kind)
          ∙ ap (λ l. slice_get l k) (opened_states slots row.opened) ∙ here) in
          state_at kinds (map (slice_index slots) program.next.items) new k kind.0 kind.1
          ∙ ap Some (by_kind (map (slice_index slots) program.next.items) new (next_state c.prim (state_of slots others kind.0) inputs) kind.0 (tells.next k c kind.0 at at_kind)
          (λ number is. other_next k number c at (at_kind ∙ ap Some is) ∙ ap (λ x. next_state c.prim (state_of slots others x) inputs) (sym is))
          ∙ ap (λ x. next_state c.prim x inputs) same)

  -- ---- what a row evaluates

  module _ (row : SlotRow) (is : IsRowIn (frame n built.cells) (steps_of n built.cells program) row) (found : Option ℕ) (least : IsLeastClash table.names program.clashes.items row.slots found) where
    told : TellsRow n built.cells program row
    told = built.program_is.tells row is

    values : List ℕ
    values = values_in program row

    size : length (values_in program row) ≡ length (port_names n)
    size = values_count row.slots

    names_are : table.names ≡ port_names n
    names_are = built.table_is.names

    within : (i port : ℕ) → slice_get built.order.ports i ≡ Some port → port < length (port_names n)
    within i port at = port_in_range n built.order built.cells built.sources built.givers built.compiled (input_row n row.inputs) (states_of n (states_in (frame n built.cells) row)) i port at

    done : AreDone n (input_row n row.inputs) (states_of n (states_in (frame n built.cells) row)) built.order.ports (length built.order.ports) (values_in program row)
    done k port lt at = told.values port (within k port at)

    among : (port : ℕ) → port < length (port_names n) → IsAmong built.order.ports (length built.order.ports) port
    among port lt =
        let k = cover built.order.ports (length (ports_of n)) built.compiled.ordered.ports.all built.compiled.ordered.ports.in_range built.compiled.ordered.ports.once port (omega (arith, lt, length-map (ports_of n) (λ (p : PortLine). p.name))) in
        (k.0, slice_get_within built.order.ports k.0 port k.1, k.1)

    clash_within : (port : ℕ) → ClashesIn program.clashes.items row.slots port → port < length (port_names n)
    clash_within port clash = subst (λ p. p < length (port_names n)) clash.of_port (subst (λ (x : Clash). x.port < length (port_names n)) (get_or_from_slice_get program.clashes.items clash.number clash.clash clash.clash clash.at) (built.program_is.clashes clash.number clash.clash (slice_get_within program.clashes.items clash.number clash.clash clash.at)))

    least_so_far : (o : Option ℕ) → IsLeastClash (port_names n) program.clashes.items row.slots o → IsLeastSoFar n (port_row n (values_in program row)) built.order.ports (length built.order.ports) o
    least_so_far None none = λ port there clash. none port ((told.told port (within there.0 port there.2)).0 clash)
    least_so_far (Some p) it =
        let lt = clash_within p it.0 in
        (among p lt, (told.told p lt).1 it.0, λ port there clash. it.1 port ((told.told port (within there.0 port there.2)).0 clash))

    pub is_evaluated : IsEvaluated n row.inputs (states_in (frame n built.cells) row) (values_in program row) found
    is_evaluated = record {
      row = λ t. row_is_made n built.order built.cells built.sources built.givers built.compiled (input_row n row.inputs) (states_of n (states_in (frame n built.cells) row)) (values_in program row) size done t;
      conflicts = λ t. conflicts_are n built.order built.cells built.sources built.givers built.compiled (input_row n row.inputs) (states_of n (states_in (frame n built.cells) row)) (values_in program row) size done t found (least_so_far found (subst (λ names. IsLeastClash names program.clashes.items row.slots found) names_are least));
    }
