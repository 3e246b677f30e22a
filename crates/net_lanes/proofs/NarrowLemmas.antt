-- The first line that makes a port that is too wide, by the lines' parts.
use Rattle.std.proofs.Common.{◌≡◌, ℕ, zero, suc, ◌+◌, ◌<◌, ◌≤◌, List, [], ◌∷◌, ◌++◌, Bool, true, false, length, map, slice_get, Option, Some, None, ◌⊎◌, inl, inr, length-append, refl, sym, ap, subst, ◌∙◌, lit≤, arith}
use Rattle.std.proofs.lemmas.Bool.{cases_lt}
use Rattle.std.specs.List.{list_any}
use Rattle.std.specs.Option.{option_map}
use Rattle.std.specs.Prelude.{◌||◌}
use Rattle.std.proofs.lemmas.List.{length-map}
use Rattle.std.proofs.lemmas.List.Folds.{list_any-append}
use Rattle.std.proofs.lemmas.Option.{slice_get-map, slice_get_within, same_Some}
use Rattle.hw_names.specs.Name.{Text}
use Rattle.hw_prims.specs.Table.{Pin, inputs_of, outputs_of, prim_of}
use Rattle.hw_prims.specs.declared.prim.Primitive.{Primitive}
use Rattle.hw_prims.specs.declared.prim.Primitive.TheVariants.{StdConst, StdWire, StdAdd, StdSub, StdAnd, StdOr, StdXor, StdNot, StdEq, StdNeq, StdLt, StdGt, StdLe, StdGe, StdLsh, StdRsh, StdSlice, StdPad, FilMux, FilSlice, FilConcat, StdReg, StdMemD1, StdMemD2, StdMultPipe, FilDelay, FilFastMult, FilSeqMult}
use Rattle.net_core.specs.Netlist.{Netlist, CellLine, Line, SetLine, InLine, OutLine, WireLine, CellOf, SetOf, lines_of, pin_of, netlist_of}
use Rattle.net_core.specs.Rules.{PortLine, ports_from, cell_input, cell_output}
use Rattle.net_core.specs.declared.net.Net.{Net}
use Rattle.net_core.specs.declared.net.NetPort.{NetPort}
use Rattle.net_sim.proofs.ValidLemmas.{slice_get-append_left, slice_get-append_right}
use Rattle.net_sim.specs.Layout.{AreCellPorts}
use Rattle.net_sim.specs.declared.cells.CellPorts.{CellPorts}
use Rattle.net_lanes.specs.Narrow.{HasNone, IsFirst, is_wide, has_wide_pin, has_wide_port}

-- ---- the first in two lists, one after the other

module _ {A : Type 0} (test : A → Bool) where
  -- an item of two lists is one of the first or of the second
  in_two : (xs ys : List A) (k : ℕ) (x : A) → slice_get (xs ++ ys) k ≡ Some x → ((k < length xs) × (slice_get xs k ≡ Some x)) ⊎ ((j : ℕ) × (k ≡ length xs + j) × (slice_get ys j ≡ Some x))
  in_two [] ys k x at = inr (k, omega arith, at)
  in_two (y ∷ xs) ys zero x at = inl (omega arith, at)
  in_two (y ∷ xs) ys (suc k) x at = elim (in_two xs ys k x at) [
    | inl here ↦ inl (omega (arith, here.0), here.1)
    | inr there ↦ inr (there.0, omega (arith, there.1), there.2)
  ]

  pub none_of_two : (xs ys : List A) → HasNone test xs → HasNone test ys → HasNone test (xs ++ ys)
  none_of_two xs ys first second k x at = elim (in_two xs ys k x at) [
    | inl here ↦ first k x here.1
    | inr there ↦ second there.0 x there.2
  ]

  pub first_of_left : (xs ys : List A) (place : ℕ) → IsFirst test xs place → IsFirst test (xs ++ ys) place
  first_of_left xs ys place first = record {
    item = first.item;
    at = slice_get-append_left xs ys place first.item first.at;
    passes = first.passes;
    earlier = λ k x below at. elim (in_two xs ys k x at) [
      | inl here ↦ first.earlier k x below here.1
      | inr there ↦ absurd (let within = slice_get_within xs place first.item first.at in omega (arith, within, below, there.1))
    ];
  }

  pub first_of_right : (xs ys : List A) (place : ℕ) → HasNone test xs → IsFirst test ys place → IsFirst test (xs ++ ys) (length xs + place)
  first_of_right xs ys place none first = record {
    item = first.item;
    at = slice_get-append_right xs ys place ∙ first.at;
    passes = first.passes;
    earlier = λ k x below at. elim (in_two xs ys k x at) [
      | inl here ↦ none k x here.1
      | inr there ↦ first.earlier there.0 x (omega (arith, below, there.1)) there.2
    ];
  }

  -- a walk that has found none so far
  abbrev pub NoneUpto : ℕ → List A → Type 0
  NoneUpto number items = (k : ℕ) (x : A) → k < number → slice_get items k ≡ Some x → test x ≡ false

  pub none_yet : (items : List A) → NoneUpto 0 items
  none_yet items k x below at = absurd (omega (arith, below))

  pub none_more : (number : ℕ) (items : List A) (x : A) → slice_get items number ≡ Some x → test x ≡ false → NoneUpto number items → NoneUpto (number + 1) items
  none_more number items x here off before k other below at = elim (cases_lt k number) [
    | inl earlier ↦ before k other earlier at
    | inr beyond ↦
        let e : k ≡ number = omega (arith, below, beyond) in
        subst (λ y. test y ≡ false) (same_Some x other (sym here ∙ ap (slice_get items) (sym e) ∙ at)) off
  ]

  pub none_at_all : (number : ℕ) (items : List A) → length items ≤ number → NoneUpto number items → HasNone test items
  none_at_all number items past none k x at = none k x (let within = slice_get_within items k x at in omega (arith, within, past)) at

-- whether one of the items passes
module _ {A : Type 0} (test : A → Bool) where
  pub any_here : (items : List A) (k : ℕ) (x : A) → slice_get items k ≡ Some x → test x ≡ true → list_any test items ≡ true
  any_here [] k x at passes = let bad : ◌≡◌ {A = Option A} None (Some x) = at in absurd cc
  any_here (y ∷ items) zero x at passes = ap (λ b. b || list_any test items) (ap test (same_Some y x at) ∙ passes)
  any_here (y ∷ items) (suc k) x at passes = ap (λ b. test y || b) (any_here items k x at passes) ∙ or_true (test y)
    where
      or_true : (b : Bool) → (b || true) ≡ true
      or_true true = refl
      or_true false = refl

  pub none_any : (items : List A) → HasNone test items → list_any test items ≡ false
  none_any [] none = refl
  none_any (y ∷ items) none =
      ap (λ b. b || list_any test items) (none 0 y refl) ∙ none_any items (λ k x at. none (suc k) x at)

some_at : {A : Type 0} (xs : List A) (k : ℕ) → k < length xs → (x : A) × (slice_get xs k ≡ Some x)
some_at [] k lt = absurd (omega (arith, lt))
some_at (x ∷ xs) zero lt = (x, refl)
some_at (x ∷ xs) (suc k) lt = some_at xs k (omega (arith, lt))

-- the same of lists whose items pass alike
module _ {A B : Type 0} (test : A → Bool) (other : B → Bool) (xs : List A) (ys : List B) (many : length xs ≡ length ys)
    (alike : (k : ℕ) (x : A) (y : B) → slice_get xs k ≡ Some x → slice_get ys k ≡ Some y → other y ≡ test x) where
  pub none_alike : HasNone test xs → HasNone other ys
  none_alike none k y at =
      let x = some_at xs k (let within = slice_get_within ys k y at in omega (arith, within, many)) in
      alike k x.0 y x.1 at ∙ none k x.0 x.1

  pub first_alike : (place : ℕ) → IsFirst test xs place → IsFirst other ys place
  first_alike place first =
      let y = some_at ys place (let within = slice_get_within xs place first.item first.at in omega (arith, within, many)) in
      record {
        item = y.0;
        at = y.1;
        passes = alike place first.item y.0 first.at y.1 ∙ first.passes;
        earlier = λ k z below at.
            let x = some_at xs k (let within = slice_get_within ys k z at in omega (arith, within, many)) in
            alike k x.0 z x.1 at ∙ first.earlier k x.0 below x.1;
      }

-- ---- lines

or_false : (b : Bool) → (b || false) ≡ b
or_false true = refl
or_false false = refl

-- a line of one port of the netlist's own
record IsPinLine (line : Pin → Line) : Type 0 where
  wide_as : (p : Pin) → has_wide_port (line p) ≡ is_wide p.width

in_line : IsPinLine InLine
in_line = record { wide_as = λ p. or_false (is_wide p.width) }

out_line : IsPinLine OutLine
out_line = record { wide_as = λ p. or_false (is_wide p.width) }

wire_line : IsPinLine WireLine
wire_line = record { wide_as = λ p. or_false (is_wide p.width) }

-- an item of a list that is made of another
made_at : {A B : Type 0} (f : A → B) (xs : List A) (k : ℕ) (x : A) (y : B) → slice_get xs k ≡ Some x → slice_get (map f xs) k ≡ Some y → f x ≡ y
made_at f xs k x y at made = same_Some (f x) y (sym (slice_get-map f xs k ∙ ap (option_map f) at) ∙ made)

abbrev is_wide_port : NetPort → Bool
is_wide_port p = is_wide p.width

abbrev is_wide_cell : CellPorts → Bool
is_wide_cell cell = has_wide_pin cell.prim

module _ (names : List Text) (line : Pin → Line) (is : IsPinLine line) (ports : List NetPort) where
  abbrev pin_lines : List Line
  pin_lines = map line (map (pin_of names) ports)

  many_pins : length ports ≡ length pin_lines
  many_pins = sym (length-map (map (pin_of names) ports) line ∙ length-map ports (pin_of names))

  pins_alike : (k : ℕ) (p : NetPort) (l : Line) → slice_get ports k ≡ Some p → slice_get pin_lines k ≡ Some l → has_wide_port l ≡ is_wide_port p
  pins_alike k p l at there =
      let pin : slice_get (map (pin_of names) ports) k ≡ Some (pin_of names p) = slice_get-map (pin_of names) ports k ∙ ap (option_map (pin_of names)) at in
      ap has_wide_port (sym (made_at line (map (pin_of names) ports) k (pin_of names p) l pin there)) ∙ is.wide_as (pin_of names p)

  no_wide_pin : HasNone is_wide_port ports → HasNone has_wide_port pin_lines
  no_wide_pin = none_alike is_wide_port has_wide_port ports pin_lines many_pins pins_alike

  first_wide_pin : (place : ℕ) → IsFirst is_wide_port ports place → IsFirst has_wide_port pin_lines place
  first_wide_pin = first_alike is_wide_port has_wide_port ports pin_lines many_pins pins_alike

any_pin : (side : Pin → PortLine) → ((p : Pin) → is_wide (side p).width ≡ is_wide p.width) → (pins : List Pin) → list_any (λ (p : PortLine). is_wide p.width) (map side pins) ≡ list_any (λ (p : Pin). is_wide p.width) pins
any_pin side same [] = refl
any_pin side same (p ∷ pins) = λ i. same p i || any_pin side same pins i

cell_wide : (c : CellLine) (prim : Primitive) → prim_of c.prim c.params ≡ Some prim → has_wide_port (CellOf c) ≡ has_wide_pin prim
cell_wide c prim made =
    let test = λ (p : PortLine). is_wide p.width in
    let pins = λ (p : Pin). is_wide p.width in
    ap (λ o. list_any test (ports_from o c.name c.prim)) made
    ∙ list_any-append test (map (cell_input c.name) (inputs_of prim)) (map (cell_output c.name) (outputs_of prim))
    ∙ (λ i. any_pin (cell_input c.name) (λ p. refl) (inputs_of prim) i || any_pin (cell_output c.name) (λ p. refl) (outputs_of prim) i)
    ∙ sym (list_any-append pins (inputs_of prim) (outputs_of prim))

module _ (n : Netlist) (cells : List CellPorts) (are : AreCellPorts n cells) where
  many_cells : length cells ≡ length (map CellOf n.cells)
  many_cells = are.all ∙ sym (length-map n.cells CellOf)

  cells_alike : (k : ℕ) (cell : CellPorts) (l : Line) → slice_get cells k ≡ Some cell → slice_get (map CellOf n.cells) k ≡ Some l → has_wide_port l ≡ is_wide_cell cell
  cells_alike k cell l at there =
      let within = slice_get_within cells k cell at in
      let many = are.all in
      let c = some_at n.cells k (omega (arith, within, many)) in
      ap has_wide_port (sym (made_at CellOf n.cells k c.0 l c.1 there)) ∙ cell_wide c.0 cell.prim (are.each k c.0 cell c.1 at).prim

  no_wide_cell : HasNone is_wide_cell cells → HasNone has_wide_port (map CellOf n.cells)
  no_wide_cell = none_alike is_wide_cell has_wide_port cells (map CellOf n.cells) many_cells cells_alike

  first_wide_cell : (place : ℕ) → IsFirst is_wide_cell cells place → IsFirst has_wide_port (map CellOf n.cells) place
  first_wide_cell = first_alike is_wide_cell has_wide_port cells (map CellOf n.cells) many_cells cells_alike

-- assignments make no port
no_wide_set : (sets : List SetLine) → HasNone has_wide_port (map SetOf sets)
no_wide_set sets k l at =
    let within = slice_get_within (map SetOf sets) k l at in
    let a = some_at sets k (omega (arith, within, length-map sets SetOf)) in
    ap has_wide_port (sym (made_at SetOf sets k a.0 l a.1 at))

-- ---- the pins of a primitive are few

pub few_inputs : (prim : Primitive) → length (inputs_of prim) ≤ 8
unfolding inputs_of
few_inputs (StdConst w v) = lit≤ tt
few_inputs (StdWire w) = lit≤ tt
few_inputs (StdAdd w) = lit≤ tt
few_inputs (StdSub w) = lit≤ tt
few_inputs (StdAnd w) = lit≤ tt
few_inputs (StdOr w) = lit≤ tt
few_inputs (StdXor w) = lit≤ tt
few_inputs (StdNot w) = lit≤ tt
few_inputs (StdEq w) = lit≤ tt
few_inputs (StdNeq w) = lit≤ tt
few_inputs (StdLt w) = lit≤ tt
few_inputs (StdGt w) = lit≤ tt
few_inputs (StdLe w) = lit≤ tt
few_inputs (StdGe w) = lit≤ tt
few_inputs (StdLsh w) = lit≤ tt
few_inputs (StdRsh w) = lit≤ tt
few_inputs (StdSlice i o) = lit≤ tt
few_inputs (StdPad i o) = lit≤ tt
few_inputs (FilMux w) = lit≤ tt
few_inputs (FilSlice w hi lo) = lit≤ tt
few_inputs (FilConcat a b) = lit≤ tt
few_inputs (StdReg w) = lit≤ tt
few_inputs (StdMemD1 w size idx) = lit≤ tt
few_inputs (StdMemD2 w size0 size1 idx0 idx1) = lit≤ tt
few_inputs (StdMultPipe w) = lit≤ tt
few_inputs (FilDelay w) = lit≤ tt
few_inputs (FilFastMult w) = lit≤ tt
few_inputs (FilSeqMult w) = lit≤ tt

pub few_outputs : (prim : Primitive) → length (outputs_of prim) ≤ 8
unfolding outputs_of
few_outputs (StdConst w v) = lit≤ tt
few_outputs (StdWire w) = lit≤ tt
few_outputs (StdAdd w) = lit≤ tt
few_outputs (StdSub w) = lit≤ tt
few_outputs (StdAnd w) = lit≤ tt
few_outputs (StdOr w) = lit≤ tt
few_outputs (StdXor w) = lit≤ tt
few_outputs (StdNot w) = lit≤ tt
few_outputs (StdEq w) = lit≤ tt
few_outputs (StdNeq w) = lit≤ tt
few_outputs (StdLt w) = lit≤ tt
few_outputs (StdGt w) = lit≤ tt
few_outputs (StdLe w) = lit≤ tt
few_outputs (StdGe w) = lit≤ tt
few_outputs (StdLsh w) = lit≤ tt
few_outputs (StdRsh w) = lit≤ tt
few_outputs (StdSlice i o) = lit≤ tt
few_outputs (StdPad i o) = lit≤ tt
few_outputs (FilMux w) = lit≤ tt
few_outputs (FilSlice w hi lo) = lit≤ tt
few_outputs (FilConcat a b) = lit≤ tt
few_outputs (StdReg w) = lit≤ tt
few_outputs (StdMemD1 w size idx) = lit≤ tt
few_outputs (StdMemD2 w size0 size1 idx0 idx1) = lit≤ tt
few_outputs (StdMultPipe w) = lit≤ tt
few_outputs (FilDelay w) = lit≤ tt
few_outputs (FilFastMult w) = lit≤ tt
few_outputs (FilSeqMult w) = lit≤ tt

-- ---- all lines

module _ (net : Net) (cells : List CellPorts) (are : AreCellPorts (netlist_of net) cells) where
  abbrev n : Netlist
  n = netlist_of net

  abbrev in_lines : List Line
  in_lines = map InLine n.ins

  abbrev out_lines : List Line
  out_lines = map OutLine n.outs

  abbrev wire_lines : List Line
  wire_lines = map WireLine n.wires

  abbrev cell_lines : List Line
  cell_lines = map CellOf n.cells

  abbrev set_lines : List Line
  set_lines = map SetOf n.sets

  -- the ports or cells before the parts, of which none is too wide
  abbrev pub NoIns : Type 0
  NoIns = HasNone is_wide_port net.ins.items

  abbrev pub NoOuts : Type 0
  NoOuts = HasNone is_wide_port net.outs.items

  abbrev pub NoWires : Type 0
  NoWires = HasNone is_wide_port net.wires.items

  ins_none : NoIns → HasNone has_wide_port in_lines
  ins_none = no_wide_pin net.names InLine in_line net.ins.items

  outs_none : NoIns → NoOuts → HasNone has_wide_port (in_lines ++ out_lines)
  outs_none ins outs = none_of_two has_wide_port in_lines out_lines (ins_none ins) (no_wide_pin net.names OutLine out_line net.outs.items outs)

  wires_none : NoIns → NoOuts → NoWires → HasNone has_wide_port (in_lines ++ out_lines ++ wire_lines)
  wires_none ins outs wires = none_of_two has_wide_port (in_lines ++ out_lines) wire_lines (outs_none ins outs) (no_wide_pin net.names WireLine wire_line net.wires.items wires)

  in_count : length in_lines ≡ length net.ins.items
  in_count = length-map n.ins InLine ∙ length-map net.ins.items (pin_of net.names)

  out_count : length out_lines ≡ length net.outs.items
  out_count = length-map n.outs OutLine ∙ length-map net.outs.items (pin_of net.names)

  wire_count : length wire_lines ≡ length net.wires.items
  wire_count = length-map n.wires WireLine ∙ length-map net.wires.items (pin_of net.names)

  two_count : length (in_lines ++ out_lines) ≡ length net.ins.items + length net.outs.items
  two_count = omega (arith, length-append in_lines out_lines, in_count, out_count)

  three_count : length (in_lines ++ out_lines ++ wire_lines) ≡ length net.ins.items + length net.outs.items + length net.wires.items
  three_count = omega (arith, length-append (in_lines ++ out_lines) wire_lines, two_count, wire_count)

  -- a first one of the first lines is the first of all
  of_cells : (place : ℕ) → IsFirst has_wide_port (in_lines ++ out_lines ++ wire_lines ++ cell_lines) place → IsFirst has_wide_port (lines_of n) place
  of_cells place first = first_of_left has_wide_port (in_lines ++ out_lines ++ wire_lines ++ cell_lines) set_lines place first

  of_wires : (place : ℕ) → IsFirst has_wide_port (in_lines ++ out_lines ++ wire_lines) place → IsFirst has_wide_port (lines_of n) place
  of_wires place first = of_cells place (first_of_left has_wide_port (in_lines ++ out_lines ++ wire_lines) cell_lines place first)

  of_outs : (place : ℕ) → IsFirst has_wide_port (in_lines ++ out_lines) place → IsFirst has_wide_port (lines_of n) place
  of_outs place first = of_wires place (first_of_left has_wide_port (in_lines ++ out_lines) wire_lines place first)

  pub first_in : (place : ℕ) → IsFirst is_wide_port net.ins.items place → IsFirst has_wide_port (lines_of n) place
  first_in place first = of_outs place (first_of_left has_wide_port in_lines out_lines place (first_wide_pin net.names InLine in_line net.ins.items place first))

  pub first_out : (place : ℕ) → NoIns → IsFirst is_wide_port net.outs.items place → IsFirst has_wide_port (lines_of n) (length net.ins.items + place)
  first_out place ins first =
      subst (λ k. IsFirst has_wide_port (lines_of n) (k + place)) in_count
      (of_outs (length in_lines + place) (first_of_right has_wide_port in_lines out_lines place (ins_none ins) (first_wide_pin net.names OutLine out_line net.outs.items place first)))

  pub first_wire : (place : ℕ) → NoIns → NoOuts → IsFirst is_wide_port net.wires.items place → IsFirst has_wide_port (lines_of n) (length net.ins.items + length net.outs.items + place)
  first_wire place ins outs first =
      subst (λ k. IsFirst has_wide_port (lines_of n) (k + place)) two_count
      (of_wires (length (in_lines ++ out_lines) + place) (first_of_right has_wide_port (in_lines ++ out_lines) wire_lines place (outs_none ins outs) (first_wide_pin net.names WireLine wire_line net.wires.items place first)))

  pub first_cell : (place : ℕ) → NoIns → NoOuts → NoWires → IsFirst is_wide_cell cells place → IsFirst has_wide_port (lines_of n) (length net.ins.items + length net.outs.items + length net.wires.items + place)
  first_cell place ins outs wires first =
      subst (λ k. IsFirst has_wide_port (lines_of n) (k + place)) three_count
      (of_cells (length (in_lines ++ out_lines ++ wire_lines) + place) (first_of_right has_wide_port (in_lines ++ out_lines ++ wire_lines) cell_lines place (wires_none ins outs wires) (first_wide_cell n cells are place first)))

  pub none_wide : NoIns → NoOuts → NoWires → HasNone is_wide_cell cells → HasNone has_wide_port (lines_of n)
  none_wide ins outs wires none =
      none_of_two has_wide_port (in_lines ++ out_lines ++ wire_lines ++ cell_lines) set_lines
      (none_of_two has_wide_port (in_lines ++ out_lines ++ wire_lines) cell_lines (wires_none ins outs wires) (no_wide_cell n cells are none)) (no_wide_set n.sets)
