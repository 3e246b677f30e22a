-- What a simulation by a program is to its callers: a new one, a load, a row, an edge, and the words of a shown memory.
use Rattle.std.proofs.Common.{◌≡◌, ℕ, ◌+◌, ◌<◌, ◌≤◌, ◌^◌, List, [], ◌∷◌, Option, Some, length, get_or, take, length-take, refl, sym, ap, ap₂, ◌∙◌, arith, map, subst, All, inl, inr, true, Bool, false, not, ◌||◌}
use Rattle.std.specs.Prelude.{slice_get, slice_index, option_map}
use Rattle.std.proofs.Math.Nat.{mod-eq_of_lt}
use Rattle.std.proofs.lemmas.Bool.{and_parts, cases_lt}
use Rattle.std.proofs.lemmas.List.{length-map, get_or-map, get_or_past}
use Rattle.std.proofs.lemmas.List.Elements.{All-map, All-same, filter_passes}
use Rattle.std.proofs.lemmas.Option.{same_Some, slice_get_within, slice_get-get_or, slice_get-map, slice_get_read, get_or_from_slice_get}
use Rattle.hw_bits.specs.Values.{values_of, widths_of}
use Rattle.hw_bits.specs.Width.{low_bits}
use Rattle.hw_bits.specs.declared.bits.Bits.{Bits}
use Rattle.hw_names.specs.Name.{Text}
use Rattle.hw_prims.proofs.PortNameLemmas.{keeps_words-made}
use Rattle.hw_prims.specs.Laws.{AreValuesOf}
use Rattle.hw_prims.specs.Memory.{keeps_words, word_count, word_width}
use Rattle.hw_prims.specs.Meaning.{opening_state}
use Rattle.hw_prims.specs.State.{memory_words}
use Rattle.hw_prims.specs.Table.{Pin, is_memory, inputs_of}
use Rattle.hw_prims.specs.declared.prim.Primitive.{Primitive}
use Rattle.net_core.specs.Netlist.{Netlist, CellLine, netlist_of}
use Rattle.net_core.specs.Rules.{PortLine, ports_of, IsValid}
use Rattle.net_core.specs.Table.{IsTableOf}
use Rattle.net_core.specs.declared.net.Net.{Net}
use Rattle.net_core.specs.declared.table.PortInfo.{PortInfo}
use Rattle.net_core.specs.declared.table.Table.{Table}
use Rattle.net_sim.proofs.GiverLemmas.{at_some}
use Rattle.net_sim.proofs.PlanLemmas.{input_width}
use Rattle.net_sim.proofs.ShownLemmas.{shown_once}
use Rattle.net_sim.proofs.SimLemmas.{all_wide}
use Rattle.net_sim.proofs.ValidLemmas.{cell_keeps}
use Rattle.net_sim.specs.Layout.{port_names, port_widths, AreCellPorts, IsCellPorts}
use Rattle.net_sim.specs.Shown.{is_shown, IsShown, shown_cells, HasWord, HasWordWidth}
use Rattle.net_sim.specs.Sim.{SimValue, IfEvaluated, states_of, IsNewSim, IsLoadOfSim, IsWordOfSim, IsWordCountOfSim, IsRowOfSim, IsEdgeOfSim, IsEvaluated, phase_after}
use Rattle.net_sim.specs.declared.cells.CellPorts.{CellPorts}
use Rattle.net_sim.specs.declared.sim.Phase.{Phase}
use Rattle.net_sim.specs.declared.sim.Phase.TheVariants.{Fresh, Evaluated, Stepped}
use Rattle.net_steps.specs.Conflicts.{IsLeastClash}
use Rattle.net_steps.specs.Edge.{AreSteppedOthers}
use Rattle.net_steps.specs.Others.{AreNarrow}
use Rattle.net_steps.specs.declared.clashes.Clash.{Clash}
use Rattle.net_steps.specs.declared.other.Other.{Other as OtherCell}
use Rattle.net_row.proofs.FlatKindLemmas.{memory_by_itself}
use Rattle.net_row.proofs.FlatOtherLemmas.{like_stepped, like_loaded, sound_like, all_fit_like, others_like, are_narrow, of_cell}
use Rattle.net_row.proofs.FlatRowLemmas.{values_count, states_count, cells_fit, row_fits, zeros_fit, opened_states, opening_states, row_in, are_next, is_evaluated, loaded_at, state_at}
use Rattle.net_row.proofs.FlatStateLemmas.{AreNext, IsLoadedAt, next_by_name, next_fit, opened_by_name, opened_fit, load_by_name, still_by_name, shown_by_name, loaded_fit}
use Rattle.net_row.proofs.RowLemmas.{kind_at, cell_count}
use Rattle.net_row.specs.Flats.{IsFlat, flat_value, AreOthers, AreOpeningOthers, AreOpened, IsBuilt, AreKept, IsAfterRow, IsLoadedOther, IsShownAs, HasShown, FitWidths, current_program, states_from, values_from}
use Rattle.net_row.specs.Kinds.{kinds_of, kept_in, others_in, other_state, state_of}
use Rattle.net_row.specs.Program.{IsProgram, frame, steps_of, steps_in}
use Rattle.net_row.specs.Programs.{AreFit, IsFit, IsRunOf, IsSound, program_at}
use Rattle.net_row.specs.Rows.{IsRowIn}
use Rattle.net_row.specs.declared.flat.Flat.TheInside.{Inside}
use Rattle.net_row.specs.declared.kinds.Kind.{Kind}
use Rattle.net_row.specs.declared.kinds.Kind.TheVariants.{Other}
use Rattle.net_row.specs.declared.program.Program.{Program}
use Rattle.net_row.specs.declared.programs.Programs.{Programs}

-- ---- inputs

abbrev tail : List ℕ → List ℕ
tail [] = []
tail (x ∷ xs) = xs

-- values of the widths of pins fit them
pub bits_fit : (pins : List Pin) (inputs : List Bits) → widths_of inputs ≡ map (λ (p : Pin). p.width) pins → AreValuesOf pins (values_of inputs)
bits_fit [] [] e = tt
bits_fit [] (b ∷ inputs) e = absurd (omega (arith, ap length e))
bits_fit (p ∷ pins) [] e = absurd (omega (arith, ap length e))
bits_fit (p ∷ pins) (b ∷ inputs) e =
    let width : b.width ≡ p.width = ap (λ l. get_or l 0 0) e in
    (subst (λ w. b.value < 2 ^ w) width b.fits, bits_fit pins inputs (ap tail e))

-- the widths of the ports, from those of the table
pub widths_narrow : (n : Netlist) → IsValid n → (cells : List CellPorts) → AreCellPorts n cells → (table : Table) → IsTableOf n table → All (λ (p : PortInfo). p.width ≤ 64) table.ports.items → All (λ width. (1 ≤ width) × (width ≤ 64)) (port_widths n)
widths_narrow n valid cells listed table is narrow =
    let wide = all_wide n valid cells listed table.ports.items is.widths in
    All-same (λ width. (1 ≤ width) × (width ≤ 64)) (port_widths n) (map (λ (p : PortInfo). p.width) table.ports.items) (sym is.widths)
    (All-map (λ width. (1 ≤ width) × (width ≤ 64)) (λ (p : PortInfo). p.width) table.ports.items (λ k d lt. ((wide k d lt).0, narrow k d lt)))

module _ (net : Net) (table : Table) (kinds : List Kind) (program : Program) (shown : List ℕ) (built : IsBuilt (netlist_of net) table kinds program shown) where
  abbrev n : Netlist
  n = netlist_of net

  -- what callers see
  abbrev sim : List OtherCell → List ℕ → List ℕ → Phase → SimValue
  sim others kept slots phase = record { net = net; states = states_from kinds kept others; values = values_from program slots; phase = phase }

  pub inputs_narrow : (inputs : List Bits) → widths_of inputs ≡ map (λ (p : Pin). p.width) (netlist_of net).ins → All (λ (b : Bits). b.width ≤ 64) inputs
  inputs_narrow inputs e k d lt =
      let size : length inputs ≡ length (netlist_of net).ins = sym (length-map inputs (λ (b : Bits). b.width)) ∙ ap length e ∙ length-map (netlist_of net).ins (λ (p : Pin). p.width) in
      let at = input_width (netlist_of net) built.order built.cells built.sources built.givers built.compiled (widths_of inputs) k e (omega (arith, lt, size)) in
      let same : get_or (widths_of inputs) k 0 ≡ (get_or inputs k d).width = get_or-map (λ (b : Bits). b.width) inputs k d 0 lt in
      let low = built.narrow k 0 (slice_get_within (port_widths (netlist_of net)) k (get_or (widths_of inputs) k 0) at) in
      let is : get_or (port_widths (netlist_of net)) k 0 ≡ get_or (widths_of inputs) k 0 = get_or_from_slice_get (port_widths (netlist_of net)) k (get_or (widths_of inputs) k 0) 0 at in
      omega (arith, low.1, is, same)

  pub inputs_count : (inputs : List Bits) → widths_of inputs ≡ map (λ (p : Pin). p.width) (netlist_of net).ins → length (values_of inputs) ≡ length (netlist_of net).ins
  inputs_count inputs e = length-map inputs (λ (b : Bits). b.value) ∙ sym (length-map inputs (λ (b : Bits). b.width)) ∙ ap length e ∙ length-map (netlist_of net).ins (λ (p : Pin). p.width)

  -- ---- a shown memory

  -- the number of its cell, and that cell
  pub record IsMemoryAt (others : List OtherCell) (mem : ℕ) : Type 0 where
    pub index : ℕ
    pub cell : CellPorts
    pub name : Text
    pub shown_at : slice_get shown mem ≡ Some index
    pub at : slice_get built.cells index ≡ Some cell
    pub is : IsShown (netlist_of net) mem name cell.prim
    pub number : ℕ
    pub kind : slice_get kinds index ≡ Some (Other number)
    pub other : OtherCell
    pub here : slice_get others number ≡ Some other
    pub prim : other.state.prim ≡ cell.prim

  only_memory : (shown_is memory : Bool) → shown_is ≡ true → (not shown_is || memory) ≡ true → memory ≡ true
  only_memory true memory is e = e
  only_memory false memory is e = absurd (cc)

  module _ (others : List OtherCell) (kept slots : List ℕ) (are : AreKept (netlist_of net) built.cells kinds program others kept slots) where
    pub memory_at : (mem : ℕ) → mem < length (shown_cells (netlist_of net)) → IsMemoryAt others mem
    memory_at mem lt =
        let line = at_some (shown_cells (netlist_of net)) mem lt in
        let index = at_some shown mem (omega (arith, lt, built.shown_are.all)) in
        let at_line = built.shown_are.each mem index.0 line.0 line.1 index.1 in
        let cell = at_some built.cells index.0 (omega (arith, slice_get_within (netlist_of net).cells index.0 line.0 at_line, built.compiled.listed.all)) in
        let made : IsCellPorts (netlist_of net) index.0 line.0 cell.0 = built.compiled.listed.each index.0 line.0 cell.0 at_line cell.1 in
        let keeps = cell_keeps (netlist_of net) built.compiled.valid index.0 line.0 at_line in
        let memory : is_memory line.0.prim ≡ true = only_memory line.0.shown (is_memory line.0.prim) (shown_line mem line.0 line.1) (and_parts _ (not line.0.shown || is_memory line.0.prim) keeps.parameters).1 in
        let words : keeps_words cell.0.prim ≡ true = keeps_words-made line.0.prim line.0.params cell.0.prim made.prim ∙ memory in
        let number = others_in (take_cells index.0) in
        let kind : slice_get (kinds_of built.cells) index.0 ≡ Some (Other (0 + number)) = kind_at 0 0 built.cells index.0 cell.0 cell.1 ∙ ap Some (memory_by_itself cell.0.prim words (0 + kept_in (take_cells index.0)) (0 + number)) in
        let other = are.others_are.each index.0 (0 + number) cell.0 cell.1 kind in
        record {
          index = index.0;
          cell = cell.0;
          name = line.0.name;
          shown_at = index.1;
          at = cell.1;
          is = record { line = line.0; at = line.1; named = refl; made_of = made.prim };
          number = 0 + number;
          kind = ap (λ l. slice_get l index.0) built.kinds_are ∙ kind;
          other = other.0;
          here = other.1;
          prim = other.2.prim;
        }
      where
        take_cells : ℕ → List CellPorts
        take_cells k = take k built.cells

        shown_line : (mem : ℕ) (line : CellLine) → slice_get (shown_cells (netlist_of net)) mem ≡ Some line → line.shown ≡ true
        shown_line mem line at =
            subst (λ (c : CellLine). is_shown c ≡ true) (get_or_from_slice_get (shown_cells (netlist_of net)) mem line line at)
            (filter_passes is_shown (netlist_of net).cells mem line (slice_get_within (shown_cells (netlist_of net)) mem line at))

    -- the number that is found is that of the memory
    pub same_number : (mem number : ℕ) (it : IsMemoryAt others mem) → IsShownAs kinds shown mem number → it.number ≡ number
    same_number mem number it as_other =
        let index : it.index ≡ as_other.cell = same_Some it.index as_other.cell (sym it.shown_at ∙ as_other.at) in
        let kinds : Other it.number ≡ Other number = same_Some (Other it.number) (Other number) (sym it.kind ∙ ap (slice_get kinds) index ∙ as_other.kind) in
        cc

    pub has_shown : (mem : ℕ) → mem < length (shown_cells (netlist_of net)) → HasShown kinds shown mem
    has_shown mem lt = let it = memory_at mem lt in (it.number, record { cell = it.index; at = it.shown_at; kind = it.kind })

    -- the memory itself
    pub record IsFound (mem number : ℕ) (other : OtherCell) : Type 0 where
      pub cell : Text
      pub is : IsShown (netlist_of net) mem cell other.state.prim
      pub state : (name : Text) (prim : Primitive) → IsShown (netlist_of net) mem name prim → states_of (netlist_of net) (states_from kinds kept others) name prim ≡ other.state.state

    pub found_at : (mem number : ℕ) (other : OtherCell) → mem < length (shown_cells (netlist_of net)) → IsShownAs kinds shown mem number → slice_get others number ≡ Some other → IsFound mem number other
    found_at mem number other lt as_other at =
        let it = memory_at mem lt in
        let number_is = same_number mem number it as_other in
        let same : it.other ≡ other = same_Some it.other other (sym it.here ∙ ap (slice_get others) number_is ∙ at) in
        let prim : it.cell.prim ≡ other.state.prim = sym it.prim ∙ ap (λ (o : OtherCell). o.state.prim) same in
        record {
          cell = it.name;
          is = subst (IsShown (netlist_of net) mem it.name) prim it.is;
          state = λ name p is.
              shown_by_name (netlist_of net) built.compiled.valid built.cells built.compiled.listed (states_from kinds kept others) (states_count (netlist_of net) table kinds program shown built kept others) shown built.shown_are mem it.index name p it.shown_at is it.cell (other_state (slice_get others it.number)) it.at (state_at kinds kept others it.index (Other it.number) it.kind)
              ∙ ap other_state (it.here ∙ ap Some same);
        }

    pub shown_within : (mem number : ℕ) → mem < length (shown_cells (netlist_of net)) → IsShownAs kinds shown mem number → number < length others
    shown_within mem number lt as_other =
        let it = memory_at mem lt in
        let same = same_number mem number it as_other in
        let within = slice_get_within others it.number it.other it.here in
        omega (arith, same, within)

    pub word_is : (mem number place word : ℕ) (other : OtherCell) → mem < length (shown_cells (netlist_of net)) → IsShownAs kinds shown mem number → slice_get others number ≡ Some other → word ≡ slice_index (memory_words other.state.state) place → (phase : Phase) → IsWordOfSim (sim others kept slots phase) mem place word
    word_is mem number place word other lt as_other at e phase = λ cell prim is. e ∙ ap (λ s. slice_index (memory_words s) place) (sym ((found_at mem number other lt as_other at).state cell prim is))

    pub width_is : (mem number width : ℕ) (other : OtherCell) → mem < length (shown_cells (netlist_of net)) → IsShownAs kinds shown mem number → slice_get others number ≡ Some other → width ≡ word_width other.state.prim → HasWordWidth (netlist_of net) mem width
    width_is mem number width other lt as_other at e = λ cell prim is.
        let mine = found_at mem number other lt as_other at in
        e ∙ ap word_width (shown_once (netlist_of net) mem mine.cell cell other.state.prim prim mine.is is)

    pub count_is : (mem number count : ℕ) (other : OtherCell) → mem < length (shown_cells (netlist_of net)) → IsShownAs kinds shown mem number → slice_get others number ≡ Some other → count ≡ word_count other.state.prim → count ≡ length (memory_words other.state.state) → (phase : Phase) → IsWordCountOfSim (sim others kept slots phase) mem count
    count_is mem number count other lt as_other at e f phase = λ cell prim is.
        let mine = found_at mem number other lt as_other at in
        (e ∙ ap word_count (shown_once (netlist_of net) mem mine.cell cell other.state.prim prim mine.is is), f ∙ ap (λ s. length (memory_words s)) (sym (mine.state cell prim is)))

    -- what is asked of a place and of a word is asked of the memory's primitive
    pub place_fits : (mem number place : ℕ) (other : OtherCell) → HasWord (netlist_of net) mem place → IsShownAs kinds shown mem number → slice_get others number ≡ Some other → place < word_count other.state.prim
    place_fits mem number place other has as_other at = let mine = found_at mem number other has.memory as_other at in has.within mine.cell other.state.prim mine.is

    pub word_fits : (mem number place width : ℕ) (other : OtherCell) → HasWord (netlist_of net) mem place → HasWordWidth (netlist_of net) mem width → IsShownAs kinds shown mem number → slice_get others number ≡ Some other → width ≡ word_width other.state.prim
    word_fits mem number place width other has wide as_other at = let mine = found_at mem number other has.memory as_other at in wide mine.cell other.state.prim mine.is

    -- ---- a load

    module _ (mem number place word : ℕ) (new : List OtherCell) (has : HasWord (netlist_of net) mem place) (as_other : IsShownAs kinds shown mem number) (fits : (name : Text) (prim : Primitive) → IsShown (netlist_of net) mem name prim → word < 2 ^ word_width prim) (is : IsLoadedOther number place word others new) where
      memory : IsMemoryAt others mem
      memory = memory_at mem has.memory

      number_is : memory.number ≡ number
      number_is = same_number mem number memory as_other

      kind_is : slice_get kinds memory.index ≡ Some (Other number)
      kind_is = memory.kind ∙ ap (λ x. Some (Other x)) number_is

      loaded : IsLoadedAt (states_from kinds kept others) (states_from kinds kept new) memory.index place word
      loaded = loaded_at kinds built.cells kept others new built.kinds_are memory.index number place word kind_is is (shown_within mem number has.memory as_other)

      within : memory.index < length built.cells
      within = slice_get_within built.cells memory.index memory.cell memory.at

      pub load_keeps : AreKept (netlist_of net) built.cells kinds program new kept slots
      load_keeps =
          let like = like_loaded number place word others new is in
          record {
            kept_all = are.kept_all;
            slots_all = are.slots_all;
            others_are = others_like others new like built.cells are.others_are;
            sound = sound_like others new like (steps_of (netlist_of net) built.cells program).base program are.sound;
            states = loaded_fit built.cells (states_from kinds kept others) (states_from kinds kept new) memory.index place word memory.cell memory.at (states_count (netlist_of net) table kinds program shown built kept others) (has.within memory.name memory.cell.prim memory.is) (fits memory.name memory.cell.prim memory.is) loaded are.states;
          }

      pub load_of_sim : (phase : Phase) → IsLoadOfSim (sim others kept slots phase) mem place word (sim new kept slots phase)
      load_of_sim phase = record {
        net = refl;
        values = refl;
        phase = refl;
        loaded = load_by_name (netlist_of net) built.compiled.valid built.cells built.compiled.listed (states_from kinds kept others) (states_from kinds kept new) (states_count (netlist_of net) table kinds program shown built kept others) (states_count (netlist_of net) table kinds program shown built kept new) shown built.shown_are mem memory.index place word memory.shown_at within loaded;
        others = still_by_name (netlist_of net) built.compiled.valid built.cells built.compiled.listed (states_from kinds kept others) (states_from kinds kept new) (states_count (netlist_of net) table kinds program shown built kept others) (states_count (netlist_of net) table kinds program shown built kept new) shown built.shown_are mem memory.index place word memory.shown_at within loaded has.memory;
      }

    -- ---- a row

    pub others_narrow : AreNarrow others
    others_narrow = are_narrow built.cells others are.others_are (netlist_of net) built.compiled.valid built.compiled.listed built.narrow

    module _ (inputs new : List ℕ) (opened : AreOpened kept inputs new) (run : IsRunOf (length kept + length inputs) program others new) (fit : AreValuesOf (netlist_of net).ins inputs) (count : length inputs ≡ length (netlist_of net).ins) (room : length new ≡ length slots) where
      here : IsRowIn (frame (netlist_of net) built.cells) (steps_of (netlist_of net) built.cells program) (record { slots = new; inputs = inputs; others = others })
      here = row_in (netlist_of net) table kinds program shown built others kept slots are inputs new opened run fit count

      pub after_row : IsAfterRow (netlist_of net) built.cells program others kept new
      after_row = record { inputs = inputs; row = here; opened = opened.kept_first }

      pub row_keeps : AreKept (netlist_of net) built.cells kinds program others kept new
      row_keeps = record {
        kept_all = are.kept_all;
        slots_all = omega (arith, room, are.slots_all);
        others_are = are.others_are;
        sound = are.sound;
        states = are.states;
      }

      pub row_values : FitWidths (port_widths (netlist_of net)) (values_from program new)
      row_values = row_fits (netlist_of net) table kinds program shown built (record { slots = new; inputs = inputs; others = others }) (built.program_is.tells _ here)

      pub row_of_sim : (was : List ℕ) (phase : Phase) (found : Option ℕ) → IsLeastClash table.names program.clashes.items new found → IsRowOfSim (record { net = net; states = states_from kinds kept others; values = was; phase = phase }) inputs (sim others kept new (phase_after found)) found
      row_of_sim was phase found least = record {
        net = refl;
        states = refl;
        phase = refl;
        values = values_count (netlist_of net) table kinds program shown built new;
        evaluated = subst (λ states. IsEvaluated (netlist_of net) inputs states (values_from program new) found) (opened_states (netlist_of net) table kinds program shown built others kept slots are new opened.kept_first)
            (is_evaluated (netlist_of net) table kinds program shown built (record { slots = new; inputs = inputs; others = others }) here found least);
      }

    -- ---- the edge that ends a row

    module _ (new : List OtherCell) (row : IsAfterRow (netlist_of net) built.cells program others kept slots) (stepped : AreSteppedOthers program.places.items slots others new) (fitting : FitWidths (port_widths (netlist_of net)) (values_from program slots)) where
      nexts : AreNext built.cells (values_from program slots) (states_from kinds kept others) (states_from kinds (map (slice_index slots) program.next.items) new)
      nexts = are_next (netlist_of net) table kinds program shown built others kept slots are new slots row stepped

      pub edge_keeps : AreKept (netlist_of net) built.cells kinds program new (map (slice_index slots) program.next.items) slots
      edge_keeps =
          let like = like_stepped program.places.items slots others new (built.program_is.places.all ∙ sym are.others_are.all) stepped in
          record {
            kept_all = length-map program.next.items (slice_index slots) ∙ built.program_is.next;
            slots_all = are.slots_all;
            others_are = others_like others new like built.cells are.others_are;
            sound = sound_like others new like (steps_of (netlist_of net) built.cells program).base program are.sound;
            states = next_fit (netlist_of net) built.compiled.valid built.cells built.compiled.listed (values_from program slots) (states_from kinds kept others) (states_from kinds (map (slice_index slots) program.next.items) new) (states_count (netlist_of net) table kinds program shown built kept others) nexts (cells_fit (netlist_of net) table kinds program shown built (values_from program slots) (values_count (netlist_of net) table kinds program shown built slots) fitting) are.states;
          }

      pub edge_of_sim : (phase : Phase) → IsEdgeOfSim (sim others kept slots phase) (sim new (map (slice_index slots) program.next.items) slots Stepped)
      edge_of_sim phase = record {
        net = refl;
        values = refl;
        phase = refl;
        states = next_by_name (netlist_of net) built.compiled.valid built.cells built.compiled.listed (states_from kinds kept others) (states_from kinds (map (slice_index slots) program.next.items) new) (states_count (netlist_of net) table kinds program shown built kept others) (states_count (netlist_of net) table kinds program shown built (map (slice_index slots) program.next.items) new) built.order built.sources built.givers built.compiled (values_from program slots) (values_count (netlist_of net) table kinds program shown built slots) nexts;
      }

  -- ---- a new one

  module _ (others : List OtherCell) (kept slots : List ℕ) (others_are : AreOthers built.cells others) (opening : AreOpeningOthers others) (none : (k : ℕ) → slice_index kept k ≡ 0) where
    states_open : states_from kinds kept others ≡ map (λ (c : CellPorts). opening_state c.prim []) built.cells
    states_open = ap (map (state_of kept others)) built.kinds_are ∙ opening_states kept others built.cells none others_are opening

    pub new_keeps : length kept ≡ kept_in built.cells → (steps_of (netlist_of net) built.cells program).base + length (steps_in program) ≤ length slots → IsSound (steps_of (netlist_of net) built.cells program).base program others → AreKept (netlist_of net) built.cells kinds program others kept slots
    new_keeps kept_all slots_all sound = record {
      kept_all = kept_all;
      slots_all = slots_all;
      others_are = others_are;
      sound = sound;
      states = opened_fit (netlist_of net) built.compiled.valid built.cells built.compiled.listed (states_from kinds kept others) states_open;
    }

    pub new_sim : IsNewSim net (sim others kept slots Fresh)
    new_sim = record {
      net_is = refl;
      phase = refl;
      values = values_count (netlist_of net) table kinds program shown built slots;
      states = opened_by_name (netlist_of net) built.compiled.valid built.cells built.compiled.listed (states_from kinds kept others) states_open;
      hidden = λ cell none. refl;
    }

-- ---- by what a simulation holds

module _ (flat : Inside) (is : IsFlat flat) (mem number : ℕ) (kinds : List Kind) (shown : List ℕ) (kinds_are : kinds ≡ flat.kinds.items) (shown_are : shown ≡ flat.shown.items) (lt : mem < length (shown_cells (netlist_of flat.net.now))) where
  pub has_shown_in : HasShown kinds shown mem
  has_shown_in =
      subst (λ k. HasShown k shown mem) (sym kinds_are) (subst (λ s. HasShown flat.kinds.items s mem) (sym shown_are)
      (has_shown flat.net.now flat.table.now flat.kinds.items (current_program flat) flat.shown.items is.built flat.others.items flat.kept.items flat.slots.items is.are mem lt))

  module _ (found : IsShownAs kinds shown mem number) where
    pub found_in : IsShownAs flat.kinds.items flat.shown.items mem number
    found_in = subst (λ k. IsShownAs k flat.shown.items mem number) kinds_are (subst (λ s. IsShownAs kinds s mem number) shown_are found)

    pub within_in : number < length flat.others.items
    within_in = shown_within flat.net.now flat.table.now flat.kinds.items (current_program flat) flat.shown.items is.built flat.others.items flat.kept.items flat.slots.items is.are mem number lt found_in

    -- the one that is read
    pub read_in : (other : OtherCell) → other ≡ get_or flat.others.items number other → slice_get flat.others.items number ≡ Some other
    read_in other e = slice_get_read flat.others.items (length flat.others.items) number other refl within_in e

-- ---- the value of a port

module _ (flat : Inside) (is : IsFlat flat) (port : ℕ) (lt : port < length (current_program flat).ports.items) where
  pub port_in_table : port < length flat.table.now.ports.items
  port_in_table =
      omega (arith, lt, is.built.program_is.ports, ap length is.built.table_is.widths, length-map flat.table.now.ports.items (λ (p : PortInfo). p.width), length-map (ports_of (netlist_of flat.net.now)) (λ (p : PortLine). p.width), length-map (ports_of (netlist_of flat.net.now)) (λ (p : PortLine). p.name))

  pub slot_within : get_or (current_program flat).ports.items port 0 < length flat.slots.items
  slot_within = let below = is.are.sound.ports port 0 lt in omega (arith, below, is.are.slots_all)

  module _ (info : PortInfo) (read : info ≡ get_or flat.table.now.ports.items port info) where
    pub width_in : slice_get (port_widths (netlist_of flat.net.now)) port ≡ Some info.width
    width_in =
        ap (λ l. slice_get l port) (sym is.built.table_is.widths)
        ∙ slice_get-map (λ (p : PortInfo). p.width) flat.table.now.ports.items port
        ∙ ap (option_map (λ (p : PortInfo). p.width)) (slice_get_read flat.table.now.ports.items (length flat.table.now.ports.items) port info refl port_in_table read)

    pub width_wide : (1 ≤ info.width) × (info.width ≤ 64)
    width_wide = subst (λ w. (1 ≤ w) × (w ≤ 64)) (get_or_from_slice_get (port_widths (netlist_of flat.net.now)) port info.width 0 width_in) (is.built.narrow port 0 (slice_get_within (port_widths (netlist_of flat.net.now)) port info.width width_in))

    there : slice_get (values_from (current_program flat) flat.slots.items) port ≡ Some (slice_index flat.slots.items (get_or (current_program flat).ports.items port 0))
    there =
        slice_get-map (slice_index flat.slots.items) (current_program flat).ports.items port
        ∙ ap (option_map (slice_index flat.slots.items)) (slice_get-get_or (current_program flat).ports.items port 0 lt)

    pub value_in : slice_get (values_from (current_program flat) flat.slots.items) port ≡ Some (low_bits info.width (slice_index flat.slots.items (get_or (current_program flat).ports.items port 0)))
    value_in = there ∙ ap Some (sym (mod-eq_of_lt (is.values port (slice_index flat.slots.items (get_or (current_program flat).ports.items port 0)) info.width there width_in)))

-- ---- a row, from the slots that were filled

-- what is so of the general program and of each case is so of the one with any place
pub of_place : (Is : Program → Type 0) (programs : Programs) → Is programs.general → All Is programs.cases.items → (place : ℕ) → Is (program_at programs place)
of_place Is programs general cases place = elim (cases_lt place (length programs.cases.items)) [
  | inl lt ↦ cases place programs.general lt
  | inr past ↦ subst Is (sym (get_or_past programs.cases.items place programs.general past)) general
]

module _ (flat : Inside) (is : IsFlat flat) (place : ℕ) where
  pub program_is_at : IsProgram (netlist_of flat.net.now) is.built.cells (program_at flat.programs place)
  program_is_at = of_place (IsProgram (netlist_of flat.net.now) is.built.cells) flat.programs is.programs_are.general is.programs_are.cases place

  fit_at : IsFit (kept_in is.built.cells + length (netlist_of flat.net.now).ins) flat.programs.room flat.others.items (program_at flat.programs place)
  fit_at = of_place (IsFit (kept_in is.built.cells + length (netlist_of flat.net.now).ins) flat.programs.room flat.others.items) flat.programs is.fit.general is.fit.cases place

  -- the netlist was compiled to each of its programs
  abbrev pub built_at : IsBuilt (netlist_of flat.net.now) flat.table.now flat.kinds.items (program_at flat.programs place) flat.shown.items
  built_at = record {
    order = is.built.order;
    cells = is.built.cells;
    sources = is.built.sources;
    givers = is.built.givers;
    compiled = is.built.compiled;
    table_is = is.built.table_is;
    kinds_are = is.built.kinds_are;
    shown_are = is.built.shown_are;
    program_is = program_is_at;
    narrow = is.built.narrow;
  }

  pub kept_at : AreKept (netlist_of flat.net.now) is.built.cells flat.kinds.items (program_at flat.programs place) flat.others.items flat.kept.items flat.slots.items
  kept_at = record {
    kept_all = is.are.kept_all;
    slots_all = omega (arith, fit_at.within, is.room);
    others_are = is.are.others_are;
    sound = fit_at.sound;
    states = is.are.states;
  }

  -- its Conflicts are looked for in slots that are there
  pub clashes_at : (slots : List ℕ) → length slots ≡ length flat.slots.items → All (λ (clash : Clash). (clash.first < length slots) × (clash.second < length slots) × (clash.port < length flat.table.now.names)) (program_at flat.programs place).clashes.items
  clashes_at slots all k d lt =
      let names : length flat.table.now.names ≡ length (port_names (netlist_of flat.net.now)) = ap length is.built.table_is.names in
      let within = fit_at.within in
      let here = fit_at.sound.clashes k d lt in
      let port = program_is_at.clashes k d lt in
      (omega (arith, here.0, within, is.room, all), omega (arith, here.1, within, is.room, all), omega (arith, port, names))

module _ (flat : Inside) (is : IsFlat flat) (place : ℕ) (inputs : List Bits) (widths : widths_of inputs ≡ map (λ (p : Pin). p.width) (netlist_of flat.net.now).ins) (others : List OtherCell) (kept new slots : List ℕ) (others_are : others ≡ flat.others.items) (kept_are : kept ≡ flat.kept.items) (opened : AreOpened kept (values_of inputs) new) (run : IsRunOf (length kept + length inputs) (program_at flat.programs place) others new) (room : length new ≡ length flat.slots.items) (slots_are : slots ≡ new) where
  abbrev program : Program
  program = program_at flat.programs place

  opened_in : AreOpened flat.kept.items (values_of inputs) new
  opened_in = subst (λ k. AreOpened k (values_of inputs) new) kept_are opened

  run_in : IsRunOf (length flat.kept.items + length (values_of inputs)) program flat.others.items new
  run_in =
      subst (λ (os : List OtherCell). IsRunOf (length flat.kept.items + length (values_of inputs)) program os new) others_are
      (subst (λ base. IsRunOf base program others new) (ap₂ ◌+◌ (ap length kept_are) (sym (length-map inputs (λ (b : Bits). b.value)))) run)

  fit_in : AreValuesOf (netlist_of flat.net.now).ins (values_of inputs)
  fit_in = bits_fit (netlist_of flat.net.now).ins inputs widths

  count_in : length (values_of inputs) ≡ length (netlist_of flat.net.now).ins
  count_in = inputs_count flat.net.now flat.table.now flat.kinds.items program flat.shown.items (built_at flat is place) inputs widths

  pub row_holds : AreKept (netlist_of flat.net.now) is.built.cells flat.kinds.items program flat.others.items flat.kept.items slots
  row_holds = subst (AreKept (netlist_of flat.net.now) is.built.cells flat.kinds.items program flat.others.items flat.kept.items) (sym slots_are) (row_keeps flat.net.now flat.table.now flat.kinds.items program flat.shown.items (built_at flat is place) flat.others.items flat.kept.items flat.slots.items (kept_at flat is place) (values_of inputs) new opened_in run_in fit_in count_in room)

  pub row_fitting : FitWidths (port_widths (netlist_of flat.net.now)) (values_from program slots)
  row_fitting = subst (λ s. FitWidths (port_widths (netlist_of flat.net.now)) (values_from program s)) (sym slots_are) (row_values flat.net.now flat.table.now flat.kinds.items program flat.shown.items (built_at flat is place) flat.others.items flat.kept.items flat.slots.items (kept_at flat is place) (values_of inputs) new opened_in run_in fit_in count_in room)

  pub row_after : IsAfterRow (netlist_of flat.net.now) is.built.cells program flat.others.items flat.kept.items slots
  row_after = subst (IsAfterRow (netlist_of flat.net.now) is.built.cells program flat.others.items flat.kept.items) (sym slots_are) (after_row flat.net.now flat.table.now flat.kinds.items program flat.shown.items (built_at flat is place) flat.others.items flat.kept.items flat.slots.items (kept_at flat is place) (values_of inputs) new opened_in run_in fit_in count_in room)

  -- with the Conflict that is found in the slots
  pub row_sim : (found : Option ℕ) → IsLeastClash flat.table.now.names program.clashes.items slots found → IsRowOfSim (flat_value flat) (values_of inputs) (record { net = flat.net.now; states = states_from flat.kinds.items flat.kept.items flat.others.items; values = values_from program slots; phase = phase_after found }) found
  row_sim found least =
      subst (λ s. IsRowOfSim (flat_value flat) (values_of inputs) (record { net = flat.net.now; states = states_from flat.kinds.items flat.kept.items flat.others.items; values = values_from program s; phase = phase_after found }) found) (sym slots_are)
      (row_of_sim flat.net.now flat.table.now flat.kinds.items program flat.shown.items (built_at flat is place) flat.others.items flat.kept.items flat.slots.items (kept_at flat is place) (values_of inputs) new opened_in run_in fit_in count_in room (values_from (current_program flat) flat.slots.items) flat.phase found
      (subst (λ s. IsLeastClash flat.table.now.names program.clashes.items s found) slots_are least))

-- ---- an edge, from what was stepped

module _ (flat : Inside) (is : IsFlat flat) (ended : flat.phase ≡ Evaluated) (next slots kept kept_now : List ℕ) (next_are : next ≡ (current_program flat).next.items) (slots_are : slots ≡ flat.slots.items) (kept_is : kept ≡ map (slice_index slots) next) (kept_now_is : kept_now ≡ kept) (places : List (List ℕ)) (seen : List ℕ) (others new others_now : List OtherCell) (places_are : places ≡ (current_program flat).places.items) (seen_are : seen ≡ flat.slots.items) (others_are : others ≡ flat.others.items) (stepped : AreSteppedOthers places seen others new) (others_now_are : others_now ≡ new) where
  after : IsAfterRow (netlist_of flat.net.now) is.built.cells (current_program flat) flat.others.items flat.kept.items flat.slots.items
  after = subst (λ (p : Phase). IfEvaluated p (IsAfterRow (netlist_of flat.net.now) is.built.cells (current_program flat) flat.others.items flat.kept.items flat.slots.items)) ended is.evaluated

  stepped_in : AreSteppedOthers (current_program flat).places.items flat.slots.items flat.others.items new
  stepped_in = subst (λ ps. AreSteppedOthers ps flat.slots.items flat.others.items new) places_are (subst (λ s. AreSteppedOthers places s flat.others.items new) seen_are (subst (λ (os : List OtherCell). AreSteppedOthers places seen os new) others_are stepped))

  kept_in_slots : map (slice_index flat.slots.items) (current_program flat).next.items ≡ kept_now
  kept_in_slots = sym (kept_now_is ∙ kept_is ∙ ap₂ (λ s l. map (slice_index s) l) slots_are next_are)

  pub edge_holds : AreKept (netlist_of flat.net.now) is.built.cells flat.kinds.items (current_program flat) others_now kept_now flat.slots.items
  edge_holds =
      subst (λ (os : List OtherCell). AreKept (netlist_of flat.net.now) is.built.cells flat.kinds.items (current_program flat) os kept_now flat.slots.items) (sym others_now_are)
      (subst (λ k. AreKept (netlist_of flat.net.now) is.built.cells flat.kinds.items (current_program flat) new k flat.slots.items) kept_in_slots
      (edge_keeps flat.net.now flat.table.now flat.kinds.items (current_program flat) flat.shown.items is.built flat.others.items flat.kept.items flat.slots.items is.are new after stepped_in is.values))

  pub edge_fit : AreFit (kept_in is.built.cells + length (netlist_of flat.net.now).ins) others_now flat.programs
  edge_fit =
      let like = like_stepped (current_program flat).places.items flat.slots.items flat.others.items new (is.built.program_is.places.all ∙ sym is.are.others_are.all) stepped_in in
      subst (λ (os : List OtherCell). AreFit (kept_in is.built.cells + length (netlist_of flat.net.now).ins) os flat.programs) (sym others_now_are)
      (all_fit_like flat.others.items new like (kept_in is.built.cells + length (netlist_of flat.net.now).ins) flat.programs is.fit)

  pub edge_sim : IsEdgeOfSim (flat_value flat) (record { net = flat.net.now; states = states_from flat.kinds.items kept_now others_now; values = values_from (current_program flat) flat.slots.items; phase = Stepped })
  edge_sim =
      subst (λ (os : List OtherCell). IsEdgeOfSim (flat_value flat) (record { net = flat.net.now; states = states_from flat.kinds.items kept_now os; values = values_from (current_program flat) flat.slots.items; phase = Stepped })) (sym others_now_are)
      (subst (λ k. IsEdgeOfSim (flat_value flat) (record { net = flat.net.now; states = states_from flat.kinds.items k new; values = values_from (current_program flat) flat.slots.items; phase = Stepped })) kept_in_slots
      (edge_of_sim flat.net.now flat.table.now flat.kinds.items (current_program flat) flat.shown.items is.built flat.others.items flat.kept.items flat.slots.items is.are new after stepped_in is.values flat.phase))
