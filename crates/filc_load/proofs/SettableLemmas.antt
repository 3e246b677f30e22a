-- What a stimulus may set in a netlist that keeps the rules: names that differ, and widths of 1 to 128 bits.
use Rattle.std.proofs.Common.{◌≡◌, ◌≢◌, ℕ, ◌+◌, ◌<◌, ◌≤◌, Bool, true, false, cond, List, [], ◌∷◌, ◌++◌, Option, Some, None, length, map, take, get_or, refl, sym, ap, ap₂, subst, ◌∙◌, arith}
use Rattle.std.specs.Prelude.{slice_get, All, AllPairs, not, ◌||◌, is_some}
use Rattle.std.specs.List.{filter}
use Rattle.std.specs.Option.{option_map}
use Rattle.std.proofs.lemmas.Bool.{and_parts}
use Rattle.std.proofs.lemmas.Bool.Decides.{nat_tests}
use Rattle.std.proofs.lemmas.List.{get_or-map, length-map, map-append, append-nil, take_more, take_all}
use Rattle.std.proofs.lemmas.List.Elements.{All-map, filter_passes}
use Rattle.std.proofs.lemmas.List.Kept.{AllPairs-filter}
use Rattle.std.proofs.lemmas.Option.{slice_get-get_or, slice_get-map, slice_get_within, get_or_from_slice_get, same_Some}
use Rattle.hw_bits.specs.declared.bits.TheConstants.{MAX_WIDTH}
use Rattle.hw_names.specs.Name.{Text, AreDistinct}
use Rattle.hw_prims.proofs.PortNameLemmas.{prim_of-made, keeps_words-made}
use Rattle.hw_prims.specs.Memory.{word_width, keeps_words}
use Rattle.hw_prims.specs.Table.{Pin, is_made, IsMade, is_memory, prim_of}
use Rattle.hw_prims.specs.declared.prim.Primitive.{Primitive}
use Rattle.hw_prims.specs.declared.prim.Primitive.TheVariants.{StdMemD1, StdMemD2}
use Rattle.net_core.specs.declared.stimulus.InputShape.{InputShape}
use Rattle.net_core.proofs.ValidLemmas.{port_names_are_distinct, cell_names_are_distinct}
use Rattle.net_core.specs.Netlist.{Netlist, CellLine}
use Rattle.net_core.specs.Rules.{PortLine, ports_of, own_port, IsValid}
use Rattle.net_core.specs.Table.{IsTableOf}
use Rattle.net_core.specs.declared.stimulus.MemShape.{MemShape}
use Rattle.net_core.specs.declared.table.PortInfo.{PortInfo}
use Rattle.net_core.specs.declared.table.Table.{Table}
use Rattle.net_sim.proofs.GiverLemmas.{at_some}
use Rattle.net_sim.proofs.LayoutLemmas.{in_at}
use Rattle.net_sim.proofs.ShownLemmas.{kept_at, filter_more}
use Rattle.net_sim.proofs.ValidLemmas.{cell_keeps, cell_has_prim}
use Rattle.net_sim.specs.Shown.{is_shown, shown_cells}
use Rattle.stim_read.specs.CycleRules.{input_targets, memory_targets}
use Rattle.filc_load.proofs.InputPortLemmas.{inputs_first, later_ports, input_wide, wide_parts}
use Rattle.filc_load.proofs.ListLemmas.{distinct_front}
use Rattle.filc_load.specs.Settable.{input_shape, settable_inputs, shape_with, memory_shape, settable_memories}

-- ---- names

module _ {X : Type 0} (name : X → Text) (xs : List X) where
  named_apart : AreDistinct (map name xs) → AllPairs (λ a b. name a ≢ name b) xs
  named_apart distinct i j d before within same =
      let first : i < length xs = omega arith in
      distinct i j (name d) before (omega (arith, length-map xs name)) (get_or-map name xs i d (name d) first ∙ same ∙ sym (get_or-map name xs j d (name d) within))

  apart_named : AllPairs (λ a b. name a ≢ name b) xs → AreDistinct (map name xs)
  apart_named apart i j d before within same =
      let last : j < length xs = omega (arith, length-map xs name) in
      let first : i < length xs = omega arith in
      let x = (at_some xs i first).0 in
      apart i j x before last (sym (get_or-map name xs i x d first) ∙ same ∙ get_or-map name xs j x d last)

input_names : (pins : List Pin) (more : List PortLine) → map (λ (p : PortLine). p.name) (map (own_port true false) pins ++ more) ≡ map (λ (i : InputShape). i.name) (map input_shape pins) ++ map (λ (p : PortLine). p.name) more
input_names [] more = refl
input_names (p ∷ pins) more = ap (λ names. p.name ∷ names) (input_names pins more)

-- inputs have names of their own
pub inputs_differ : (n : Netlist) → IsValid n → AreDistinct (input_targets (settable_inputs n)).names
inputs_differ n valid =
    distinct_front (map (λ (i : InputShape). i.name) (settable_inputs n)) (map (λ (p : PortLine). p.name) (later_ports n))
    (let D : List Text → Type 0 = AreDistinct in subst D (ap (map (λ (p : PortLine). p.name)) (inputs_first n) ∙ input_names n.ins (later_ports n)) (port_names_are_distinct n valid))

shape_named : (name : Text) (made : Option Primitive) → (shape_with name made).name ≡ name
shape_named name None = refl
shape_named name (Some prim) = refl

shape_names : (cells : List CellLine) → map (λ (c : CellLine). c.name) cells ≡ map (λ (m : MemShape). m.name) (map memory_shape cells)
shape_names [] = refl
shape_names (c ∷ cells) = ap₂ ◌∷◌ (sym (shape_named c.name (prim_of c.prim c.params))) (shape_names cells)

-- so have memories
pub memories_differ : (n : Netlist) → IsValid n → AreDistinct (memory_targets (settable_memories n)).names
memories_differ n valid =
    let D : List Text → Type 0 = AreDistinct in
    subst D (shape_names (shown_cells n))
    (apart_named (λ (c : CellLine). c.name) (shown_cells n)
    (AllPairs-filter (λ (a b : CellLine). a.name ≢ b.name) is_shown n.cells (named_apart (λ (c : CellLine). c.name) n.cells (cell_names_are_distinct n valid))))

-- ---- widths

-- a value may have so many bits
abbrev IsWide : ℕ → Type 0
IsWide width = (1 ≤ width) × (width ≤ MAX_WIDTH)

-- inputs are 1 to 128 bits wide
pub inputs_have_widths : (n : Netlist) → IsValid n → All (λ (i : InputShape). (1 ≤ i.width) × (i.width ≤ MAX_WIDTH)) (settable_inputs n)
inputs_have_widths n valid =
    All-map (λ (i : InputShape). IsWide i.width) input_shape n.ins
    (λ k d within. wide_parts (get_or n.ins k d).width (input_wide n valid k (get_or n.ins k d) (slice_get-get_or n.ins k d within)))

words_wide : (prim : Primitive) → IsMade prim → keeps_words prim ≡ true → IsWide (word_width prim)
unfolding is_made keeps_words word_width
words_wide (StdMemD1 w size idx) made keeps = grind (arith, nat_tests)
words_wide (StdMemD2 w size0 size1 idx0 idx1) made keeps = grind (arith, nat_tests)
words_wide prim made keeps = cc

memory_where_shown : (shown memory : Bool) → shown ≡ true → (not shown || memory) ≡ true → memory ≡ true
memory_where_shown true memory is e = e
memory_where_shown false memory is e = cc

shape_wide : (name : Text) (made : Option Primitive) (prim : Primitive) → made ≡ Some prim → IsWide (word_width prim) → IsWide (shape_with name made).width
shape_wide name made prim is wide = let P : Option Primitive → Type 0 = λ o. IsWide (shape_with name o).width in subst P (sym is) wide

some_prim : (made : Option Primitive) → is_some made ≡ true → (prim : Primitive) × (made ≡ Some prim)
some_prim None is = cc
some_prim (Some prim) is = (prim, refl)

-- each cell of a valid netlist has a primitive
pub made_cell : (n : Netlist) → IsValid n → (i : ℕ) (line : CellLine) → slice_get n.cells i ≡ Some line → (prim : Primitive) × (prim_of line.prim line.params ≡ Some prim)
made_cell n valid i line at = some_prim (prim_of line.prim line.params) (cell_has_prim n valid i line at)

-- and so are the words of memories
pub memories_have_widths : (n : Netlist) → IsValid n → All (λ (m : MemShape). (1 ≤ m.width) × (m.width ≤ MAX_WIDTH)) (settable_memories n)
memories_have_widths n valid =
    All-map (λ (m : MemShape). IsWide m.width) memory_shape (shown_cells n)
    (λ k d within.
    let line = get_or (shown_cells n) k d in
    let place = kept_at n.cells k line (slice_get-get_or (shown_cells n) k d within) in
    let made = made_cell n valid place.0 line place.1 in
    let keeps = cell_keeps n valid place.0 line place.1 in
    let good = and_parts (is_some (prim_of line.prim line.params)) (not line.shown || is_memory line.prim) keeps.parameters in
    let memory = memory_where_shown line.shown (is_memory line.prim) (filter_passes is_shown n.cells k d within) good.1 in
    shape_wide line.name (prim_of line.prim line.params) made.0 made.1
    (words_wide made.0 (prim_of-made line.prim line.params made.0 made.1) (keeps_words-made line.prim line.params made.0 made.1 ∙ memory)))

-- ---- one after another

module _ (n : Netlist) (table : Table) (is : IsTableOf n table) where
  -- an input stands in the table under its number, with its name and width
  pub input_named : (k : ℕ) (pin : Pin) → slice_get n.ins k ≡ Some pin → slice_get table.names k ≡ Some pin.name
  input_named k pin at =
      ap (λ names. slice_get names k) is.names ∙ slice_get-map (λ (p : PortLine). p.name) (ports_of n) k
      ∙ ap (option_map (λ (p : PortLine). p.name)) (in_at n k pin (slice_get_within n.ins k pin at))
      ∙ ap (λ (p : Pin). Some p.name) (get_or_from_slice_get n.ins k pin pin at)

  pub name_within : (k : ℕ) → k < length n.ins → k < length table.names
  name_within k within = let pin = at_some n.ins k within in slice_get_within table.names k pin.0.name (input_named k pin.0 pin.1)

  pub input_width : (k : ℕ) (pin : Pin) (info : PortInfo) → slice_get n.ins k ≡ Some pin → slice_get table.ports.items k ≡ Some info → info.width ≡ pin.width
  input_width k pin info at there =
      same_Some info.width pin.width (
      sym (ap (option_map (λ (i : PortInfo). i.width)) there) ∙ sym (slice_get-map (λ (i : PortInfo). i.width) table.ports.items k)
      ∙ ap (λ widths. slice_get widths k) is.widths ∙ slice_get-map (λ (p : PortLine). p.width) (ports_of n) k
      ∙ ap (option_map (λ (p : PortLine). p.width)) (in_at n k pin (slice_get_within n.ins k pin at))
      ∙ ap (λ (p : Pin). Some p.width) (get_or_from_slice_get n.ins k pin pin at))

  -- one input more, as the table has it
  pub inputs_more : (k : ℕ) (name : Text) (info : PortInfo) (inputs : List InputShape) → k < length n.ins → slice_get table.names k ≡ Some name → slice_get table.ports.items k ≡ Some info
      → inputs ≡ map input_shape (take k n.ins) → inputs ++ record { name = name; width = info.width } ∷ [] ≡ map input_shape (take (k + 1) n.ins)
  inputs_more k name info inputs within named there are =
      let pin = at_some n.ins k within in
      let named_so : name ≡ pin.0.name = same_Some name pin.0.name (sym named ∙ input_named k pin.0 pin.1) in
      let wide_so : info.width ≡ pin.0.width = input_width k pin.0 info pin.1 there in
      let this : get_or n.ins k pin.0 ≡ pin.0 = get_or_from_slice_get n.ins k pin.0 pin.0 pin.1 in
      ap₂ (λ (before : List InputShape) (last : InputShape). before ++ last ∷ []) are (λ i. record { name = named_so i; width = wide_so i })
      ∙ ap (λ (p : Pin). map input_shape (take k n.ins) ++ input_shape p ∷ []) (sym this)
      ∙ sym (map-append input_shape (take k n.ins) (get_or n.ins k pin.0 ∷ []))
      ∙ ap (map input_shape) (sym (take_more n.ins k pin.0 within))

module _ (cells : List CellLine) (i : ℕ) (line : CellLine) (at : slice_get cells i ≡ Some line) (memories : List MemShape) (are : memories ≡ map memory_shape (filter is_shown (take i cells))) where
  next_if : (b : Bool) → is_shown line ≡ b → map memory_shape (filter is_shown (take (i + 1) cells)) ≡ memories ++ map memory_shape (cond b (line ∷ []) [])
  next_if b is =
      ap (map memory_shape) (filter_more cells i line at ∙ ap (λ t. filter is_shown (take i cells) ++ cond t (line ∷ []) []) is)
      ∙ map-append memory_shape (filter is_shown (take i cells)) (cond b (line ∷ []) [])
      ∙ ap (λ before. before ++ map memory_shape (cond b (line ∷ []) [])) (sym are)

  -- a shown cell is one memory more
  pub memories_more : (shape : MemShape) → line.shown ≡ true → shape ≡ memory_shape line → memories ++ shape ∷ [] ≡ map memory_shape (filter is_shown (take (i + 1) cells))
  memories_more shape shown is = ap (λ last. memories ++ last ∷ []) is ∙ sym (next_if true shown)

  -- any other cell is passed over
  pub memories_same : line.shown ≡ false → memories ≡ map memory_shape (filter is_shown (take (i + 1) cells))
  memories_same hidden = sym (append-nil memories) ∙ sym (next_if false hidden)

-- all cells were passed
pub memories_all : (n : Netlist) (i : ℕ) → length n.cells ≤ i → map memory_shape (filter is_shown (take i n.cells)) ≡ settable_memories n
memories_all n i past = ap (λ cells. map memory_shape (filter is_shown cells)) (take_all i n.cells past)
