-- What is true of each row stays so when steps are added and when ports get slots; the values of ports, the inputs of cells, and their states in a row.
use Rattle.std.proofs.Common.{◌≡◌, ◌⊎◌, ℕ, zero, suc, ◌+◌, ◌-◌, ◌<◌, ◌≤◌, ◌^◌, List, [], ◌∷◌, ◌++◌, All, take, drop, Option, Some, None, length, get_or, set, map, refl, sym, ap, ap₂, ◌∙◌, subst, arith, inl, inr, length-take, length-drop}
use Rattle.std.specs.Prelude.{slice_get, slice_index, slice_range, option_map}
use Rattle.std.proofs.lemmas.Bool.{cases_lt, cases_eq}
use Rattle.std.proofs.lemmas.List.{length-map, get_or-map, get_or-take, get_or-drop}
use Rattle.std.proofs.lemmas.Nat.{pow_pos}
use Rattle.std.proofs.lemmas.Option.{slice_get-map, slice_get-get_or, slice_get_within, get_or_from_slice_get, same_Some, none-some}
use Rattle.hw_names.specs.Name.{Text}
use Rattle.hw_prims.specs.Cell.{CellValue}
use Rattle.hw_prims.specs.Laws.{AreValuesOf, IsStateOf}
use Rattle.hw_prims.specs.State.{State}
use Rattle.hw_prims.specs.Table.{Pin, inputs_of, pin_widths}
use Rattle.hw_prims.specs.declared.prim.Primitive.{Primitive}
use Rattle.net_core.specs.Netlist.{CellLine}
use Rattle.net_core.specs.Rules.{PortLine, ports_of}
use Rattle.net_sim.proofs.PlaceLemmas.{IsListedCell}
use Rattle.net_sim.proofs.PortLemmas.{part_is, cells_once, input_widths}
use Rattle.net_sim.proofs.RowLemmas.{state_at}
use Rattle.net_sim.proofs.ValidLemmas.{slice_get-append_left, slice_get-append_right, slice_get-append_before}
use Rattle.net_sim.specs.Evaluated.{cell_inputs}
use Rattle.net_sim.specs.Layout.{port_names, port_widths}
use Rattle.net_sim.specs.Plan.{ArePrims}
use Rattle.net_sim.specs.Sim.{cell_names, states_of}
use Rattle.net_sim.specs.declared.cells.CellPorts.{CellPorts}
use Rattle.net_sim.specs.declared.guards.Test.{Test}
use Rattle.net_steps.proofs.StepLemmas.{row_before}
use Rattle.net_steps.specs.Conflicts.{Clashes as ClashesIn}
use Rattle.net_steps.specs.Steps.{Extends}
use Rattle.net_steps.specs.StepsValue.{StepsValue}
use Rattle.net_steps.specs.declared.clashes.Clash.{Clash}
use Rattle.net_steps.specs.declared.truth.Truth.{Truth}
use Rattle.net_row.specs.Kinds.{kind_after, kinds_after, kinds_of, kept_for, kept_in, others_for, others_in, state_of}
use Rattle.net_row.specs.inside.Ports.{AreTruths, ArePorts, IsPortValue, IsTold}
use Rattle.net_row.specs.Rows.{Frame, IsFrame, SlotRow, IsRowIn, InEachRow, FitsIn, AreFitting, AreValuesAt, states_in}
use Rattle.net_row.specs.declared.kinds.Kind.{Kind}

-- ---- when steps are added

module _ (f : Frame) (old new : StepsValue) (extends : Extends old new) where
  -- a row of more steps is one of fewer
  pub row_in_before : (row : SlotRow) → IsRowIn f new row → IsRowIn f old row
  row_in_before row is = record {
    made = row_before old new extends row.others row.slots is.made;
    given = is.given;
    inputs = is.inputs;
    states = is.states;
    others = is.others;
  }

  pub each_row_after : (ports : List (Option ℕ)) (Claim : SlotRow → List ℕ → Type 0) → InEachRow f old ports Claim → InEachRow f new ports Claim
  each_row_after ports Claim each row values is size agree = each row values (row_in_before row is) size agree

  pub fits_after : (width slot : ℕ) → FitsIn f old width slot → FitsIn f new width slot
  fits_after width slot fits row is = fits row (row_in_before row is)

  pub fitting_after : (ports : List (Option ℕ)) → AreFitting f old ports → AreFitting f new ports
  fitting_after ports fit port slot width at wide = fits_after width slot (fit port slot width at wide)

  pub truths_after : (ports : List (Option ℕ)) (tests : List Test) (truths : List (Option Truth)) → AreTruths f old ports tests truths → AreTruths f new ports tests truths
  truths_after ports tests truths are k truth at row values is size agree = are k truth at row values (row_in_before row is) size agree

  pub ports_after : (ports : List (Option ℕ)) (clashes : List Clash) → ArePorts f old ports clashes → ArePorts f new ports clashes
  ports_after ports clashes are = record {
    fit = fitting_after ports are.fit;
    values = λ port slot at row values is size agree. are.values port slot at row values (row_in_before row is) size agree;
    told = λ port slot at row values is size agree. are.told port slot at row values (row_in_before row is) size agree;
    others = are.others;
  }

-- ---- when ports get slots

-- each port that has a slot keeps it
abbrev pub KeepsSlots : List (Option ℕ) → List (Option ℕ) → Type 0
KeepsSlots old new = (port slot : ℕ) → slice_get old port ≡ Some (Some slot) → slice_get new port ≡ Some (Some slot)

module _ (f : Frame) (steps : StepsValue) (old new : List (Option ℕ)) (keeps : KeepsSlots old new) where
  pub values_at_before : (row : SlotRow) (values : List ℕ) → AreValuesAt new row values → AreValuesAt old row values
  values_at_before row values agree port slot at = agree port slot (keeps port slot at)

  pub each_row_with : (Claim : SlotRow → List ℕ → Type 0) → InEachRow f steps old Claim → InEachRow f steps new Claim
  each_row_with Claim each row values is size agree = each row values is size (values_at_before row values agree)

  pub truths_with : (tests : List Test) (truths : List (Option Truth)) → AreTruths f steps old tests truths → AreTruths f steps new tests truths
  truths_with tests truths are k truth at row values is size agree = are k truth at row values is size (values_at_before row values agree)

pub set_there : {X : Type 0} (xs : List X) (i : ℕ) (v w : X) → slice_get xs i ≡ Some w → slice_get (set xs i v) i ≡ Some v
set_there [] i v w at = absurd (none-some w at)
set_there (x ∷ xs) zero v w at = refl
set_there (x ∷ xs) (suc i) v w at = set_there xs i v w at

pub set_elsewhere : {X : Type 0} (xs : List X) (i k : ℕ) (v : X) → (k ≡ i → ⊥) → slice_get (set xs i v) k ≡ slice_get xs k
set_elsewhere [] i k v ne = refl
set_elsewhere (x ∷ xs) zero zero v ne = absurd (ne refl)
set_elsewhere (x ∷ xs) zero (suc k) v ne = refl
set_elsewhere (x ∷ xs) (suc i) zero v ne = refl
set_elsewhere (x ∷ xs) (suc i) (suc k) v ne = set_elsewhere xs i k v (λ e. ne (ap suc e))

-- a port that had no slot gets one
module _ (ports : List (Option ℕ)) (port slot : ℕ) (free : slice_get ports port ≡ Some None) where
  -- a port with a slot is another
  pub not_free : (q t : ℕ) → slice_get ports q ≡ Some (Some t) → q ≡ port → ⊥
  not_free q t at e = let same : Some None ≡ Some (Some t) = sym free ∙ ap (slice_get ports) (sym e) ∙ at in cc

  pub keeps_slots : KeepsSlots ports (set ports port (Some slot))
  keeps_slots q t at = set_elsewhere ports port q (Some slot) (not_free q t at) ∙ at

  pub slot_there : slice_get (set ports port (Some slot)) port ≡ Some (Some slot)
  slot_there = set_there ports port (Some slot) None free

  -- the slot of a port is the new one, or it was there
  pub slot_cases : (q t : ℕ) → slice_get (set ports port (Some slot)) q ≡ Some (Some t) → ((q ≡ port) × (t ≡ slot)) ⊎ (slice_get ports q ≡ Some (Some t))
  slot_cases q t at = elim (cases_eq q port) [
    | inl e ↦ inl (e, (let same : Some (Some t) ≡ Some (Some slot) = sym at ∙ ap (slice_get (set ports port (Some slot))) e ∙ slot_there in cc))
    | inr ne ↦ inr (sym (set_elsewhere ports port q (Some slot) ne) ∙ at)
  ]

  module _ (f : Frame) (steps : StepsValue) (fits : (width : ℕ) → slice_get (port_widths f.net) port ≡ Some width → FitsIn f steps width slot) where
    pub fitting_with : AreFitting f steps ports → AreFitting f steps (set ports port (Some slot))
    fitting_with fit q t width at wide = elim (slot_cases q t at) [
      | inl e ↦ subst (FitsIn f steps width) (sym e.1) (fits width (ap (slice_get (port_widths f.net)) (sym e.0) ∙ wide))
      | inr was ↦ fit q t width was wide
    ]

    module _ (clashes added after : List Clash) (after_is : after ≡ clashes ++ added) (of_port : All (λ (clash : Clash). clash.port ≡ port) added) where
      clash_kept : (slots : List ℕ) (q : ℕ) → ClashesIn clashes slots q → ClashesIn after slots q
      clash_kept slots q is = record {
        number = is.number;
        clash = is.clash;
        at = ap (λ l. slice_get l is.number) after_is ∙ slice_get-append_left clashes added is.number is.clash is.at;
        of_port = is.of_port;
        both = is.both;
      }

      clash_cases : (k : ℕ) (clash : Clash) → slice_get after k ≡ Some clash → (slice_get clashes k ≡ Some clash) ⊎ (clash.port ≡ port)
      clash_cases k clash at = elim (cases_lt k (length clashes)) [
        | inl lt ↦ inl (sym (slice_get-append_before clashes added k lt) ∙ ap (λ l. slice_get l k) (sym after_is) ∙ at)
        | inr le ↦
            let split : length clashes + (k - length clashes) ≡ k = omega (arith, le) in
            inr (in_all added (k - length clashes) clash of_port
            (sym (slice_get-append_right clashes added (k - length clashes)) ∙ ap (slice_get (clashes ++ added)) split ∙ ap (λ l. slice_get l k) (sym after_is) ∙ at))
      ]
        where
          in_all : (cs : List Clash) (j : ℕ) (c : Clash) → All (λ (clash : Clash). clash.port ≡ port) cs → slice_get cs j ≡ Some c → c.port ≡ port
          in_all cs j c all at = ap (λ (x : Clash). x.port) (sym (get_or_from_slice_get cs j c c at)) ∙ all j c (slice_get_within cs j c at)

      clash_was : (slots : List ℕ) (q : ℕ) → (q ≡ port → ⊥) → ClashesIn after slots q → ClashesIn clashes slots q
      clash_was slots q ne is = record {
        number = is.number;
        clash = is.clash;
        at = elim (clash_cases is.number is.clash is.at) [
          | inl was ↦ was
          | inr new ↦ absurd (ne (sym is.of_port ∙ new))
        ];
        of_port = is.of_port;
        both = is.both;
      }

      pub ports_with : ArePorts f steps ports clashes → InEachRow f steps ports (IsPortValue f port slot) → InEachRow f steps ports (IsTold f.net after port) → ArePorts f steps (set ports port (Some slot)) after
      ports_with are value told = record {
        fit = fitting_with are.fit;
        values = λ q t at. elim (slot_cases q t at) [
          | inl e ↦ lift (IsPortValue f q t) (subst (λ x. InEachRow f steps ports (IsPortValue f x t)) (sym e.0) (subst (λ x. InEachRow f steps ports (IsPortValue f port x)) (sym e.1) value))
          | inr was ↦ lift (IsPortValue f q t) (are.values q t was)
        ];
        told = λ q t at. elim (slot_cases q t at) [
          | inl e ↦ lift (IsTold f.net after q) (subst (λ x. InEachRow f steps ports (IsTold f.net after x)) (sym e.0) told)
          | inr was ↦ lift (IsTold f.net after q) (λ row values is size agree.
              let before = are.told q t was row values is size agree in
              (λ clash. clash_kept row.slots q (before.0 clash), λ clash. before.1 (clash_was row.slots q (not_free q t was) clash)))
        ];
        others = λ k clash at. elim (clash_cases k clash at) [
          | inl was ↦ let has = are.others k clash was in (has.0, keeps_slots clash.port has.0 has.1)
          | inr e ↦ (slot, ap (slice_get (set ports port (Some slot))) e ∙ slot_there)
        ];
      }
        where
          lift : (Claim : SlotRow → List ℕ → Type 0) → InEachRow f steps ports Claim → InEachRow f steps (set ports port (Some slot)) Claim
          lift = each_row_with f steps ports (set ports port (Some slot)) keeps_slots

-- ---- values of ports in a row

-- the value in a port's slot; 0 where it has none
abbrev pub value_there : SlotRow → Option ℕ → ℕ
value_there row None = 0
value_there row (Some slot) = slice_index row.slots slot

-- values of the ports that agree with their slots
abbrev pub values_with : List (Option ℕ) → SlotRow → List ℕ
values_with ports row = map (value_there row) ports

-- each value fits its port's width
abbrev pub AreWithin : List ℕ → List ℕ → Type 0
AreWithin widths values = (port value width : ℕ) → slice_get values port ≡ Some value → slice_get widths port ≡ Some width → value < 2 ^ width

module _ (ports : List (Option ℕ)) (row : SlotRow) where
  pub values_agree : AreValuesAt ports row (values_with ports row)
  values_agree port slot at = slice_get-map (value_there row) ports port ∙ ap (option_map (value_there row)) at

  pub values_count : length (values_with ports row) ≡ length ports
  values_count = length-map ports (value_there row)

  pub values_fit : (f : Frame) (steps : StepsValue) → AreFitting f steps ports → IsRowIn f steps row → AreWithin (port_widths f.net) (values_with ports row)
  values_fit f steps fit is port value width at wide = by (slice_get ports port) refl (sym (slice_get-map (value_there row) ports port) ∙ at)
    where
      by : (o : Option (Option ℕ)) → slice_get ports port ≡ o → option_map (value_there row) o ≡ Some value → value < 2 ^ width
      by None has e = absurd (none-some value e)
      by (Some None) has e = let zero_is : 0 ≡ value = cc in let positive : 0 < 2 ^ width = pow_pos width in omega (arith, zero_is, positive)
      by (Some (Some slot)) has e = let same : slice_index row.slots slot ≡ value = cc in let fits = fit port slot width has wide row is in omega (arith, same, fits)

  -- a claim of each row, at these values
  pub claim_there : (f : Frame) (steps : StepsValue) (Claim : SlotRow → List ℕ → Type 0) → length ports ≡ length (port_names f.net) → IsRowIn f steps row → InEachRow f steps ports Claim → Claim row (values_with ports row)
  claim_there f steps Claim count is each = each row (values_with ports row) is (values_count ∙ count) values_agree

-- ---- the inputs of cells

in_take : (n : ℕ) (xs : List ℕ) (i x : ℕ) → slice_get (take n xs) i ≡ Some x → slice_get xs i ≡ Some x
in_take zero xs i x at = absurd (none-some x at)
in_take (suc n) [] i x at = absurd (none-some x at)
in_take (suc n) (y ∷ xs) zero x at = at
in_take (suc n) (y ∷ xs) (suc i) x at = in_take n xs i x at

in_drop : (n : ℕ) (xs : List ℕ) (i x : ℕ) → slice_get (drop n xs) i ≡ Some x → slice_get xs (n + i) ≡ Some x
in_drop zero xs i x at = let same : 0 + i ≡ i = omega arith in ap (slice_get xs) same ∙ at
in_drop (suc n) [] i x at = absurd (none-some x at)
in_drop (suc n) (y ∷ xs) i x at = let same : suc n + i ≡ suc (n + i) = omega arith in ap (slice_get (y ∷ xs)) same ∙ in_drop n xs i x at

-- what is in a part of a list is in the list
pub in_range : (xs : List ℕ) (from to i x : ℕ) → slice_get (slice_range xs from to) i ≡ Some x → slice_get xs (from + i) ≡ Some x
in_range xs from to i x at = in_drop from xs i x (in_take (to - from) (drop from xs) i x at)

-- values fit the widths of pins, one by one
pub values_of_pins : (pins : List Pin) (values : List ℕ) → length values ≡ length pins → AreWithin (pin_widths pins) values → AreValuesOf pins values
values_of_pins [] [] count fit = tt
values_of_pins [] (v ∷ values) count fit = absurd (omega (arith, count))
values_of_pins (p ∷ pins) [] count fit = absurd (omega (arith, count))
values_of_pins (p ∷ pins) (v ∷ values) count fit = (fit 0 v p.width refl refl, values_of_pins pins values (omega (arith, count)) (λ port value width at wide. fit (suc port) value width at wide))

-- the slots of a cell's inputs
pub record AreInputSlots (ports : List (Option ℕ)) (c : CellPorts) (slots : List ℕ) : Type 0 where
  pub count : length slots ≡ length (inputs_of c.prim)
  pub each : (i slot : ℕ) → slice_get slots i ≡ Some slot → slice_get ports (c.first + i) ≡ Some (Some slot)

module _ (f : Frame) (is_frame : IsFrame f) (k : ℕ) (c : CellPorts) (at_c : slice_get f.cells k ≡ Some c) where
  pub cell_room : (values : List ℕ) → length values ≡ length (port_names f.net) → c.first + length (inputs_of c.prim) ≤ length values
  cell_room values size = omega (arith, size, (input_widths f.net is_frame.valid f.cells is_frame.listed k c at_c).0, length-map (ports_of f.net) (λ (p : PortLine). p.width), length-map (ports_of f.net) (λ (p : PortLine). p.name))

  pub cell_count : (values : List ℕ) → length values ≡ length (port_names f.net) → length (cell_inputs values c) ≡ length (inputs_of c.prim)
  cell_count values size = omega (arith, cell_room values size, length-take (c.first + length (inputs_of c.prim) - c.first) (drop c.first values), length-drop c.first values)

  pub input_width : (i width : ℕ) → slice_get (pin_widths (inputs_of c.prim)) i ≡ Some width → slice_get (port_widths f.net) (c.first + i) ≡ Some width
  input_width i width wide = in_range (port_widths f.net) c.first (c.first + length (inputs_of c.prim)) i width (ap (λ l. slice_get l i) (input_widths f.net is_frame.valid f.cells is_frame.listed k c at_c).1 ∙ wide)

  -- they fit where all values do
  pub inputs_fit : (values : List ℕ) → length values ≡ length (port_names f.net) → AreWithin (port_widths f.net) values → AreValuesOf (inputs_of c.prim) (cell_inputs values c)
  inputs_fit values size fit = values_of_pins (inputs_of c.prim) (cell_inputs values c) (cell_count values size) (λ i value width at wide.
      fit (c.first + i) value width (in_range values c.first (c.first + length (inputs_of c.prim)) i value at)
      (input_width i width wide))

  -- one of them, which has a slot
  pub input_value : (ports : List (Option ℕ)) (row : SlotRow) (values : List ℕ) (i slot : ℕ) → AreValuesAt ports row values → i < length (inputs_of c.prim) → slice_get ports (c.first + i) ≡ Some (Some slot) → slice_index (cell_inputs values c) i ≡ slice_index row.slots slot
  input_value ports row values i slot agree lt at =
      let below : i < c.first + length (inputs_of c.prim) - c.first = omega (arith, lt) in
      get_or-take (c.first + length (inputs_of c.prim) - c.first) (drop c.first values) i 0 below ∙ get_or-drop c.first values i 0
      ∙ get_or_from_slice_get values (c.first + i) (slice_index row.slots slot) 0 (agree (c.first + i) slot at)

  module _ (steps : StepsValue) (ports : List (Option ℕ)) (row : SlotRow) (values : List ℕ) (is : IsRowIn f steps row) (size : length values ≡ length (port_names f.net)) (agree : AreValuesAt ports row values) (slots : List ℕ) (in_slots : AreInputSlots ports c slots) where
    -- they are in their slots
    pub inputs_in_slots : map (slice_index row.slots) slots ≡ cell_inputs values c
    inputs_in_slots =
        let count = length-map slots (slice_index row.slots) in
        let in_count = in_slots.count in
        let room = cell_room values size in
        sym (part_is values (map (slice_index row.slots) slots) c.first (c.first + length (inputs_of c.prim)) (omega (arith, count, in_count)) room (λ i lt.
        let below : i < length slots = omega (arith, lt, count) in
        get_or_from_slice_get values (c.first + i) (slice_index row.slots (get_or slots i 0)) 0 (agree (c.first + i) (get_or slots i 0) (in_slots.each i (get_or slots i 0) (slice_get-get_or slots i 0 below)))
        ∙ sym (get_or-map (slice_index row.slots) slots i 0 0 below)))

    -- they fit where the ports with a slot do
    pub slots_fit : AreFitting f steps ports → AreValuesOf (inputs_of c.prim) (map (slice_index row.slots) slots)
    slots_fit fit = values_of_pins (inputs_of c.prim) (map (slice_index row.slots) slots) (length-map slots (slice_index row.slots) ∙ in_slots.count) (λ i value width at wide.
        let lt : i < length slots = omega (arith, slice_get_within (map (slice_index row.slots) slots) i value at, length-map slots (slice_index row.slots)) in
        let there = slice_get-get_or slots i 0 lt in
        let same = same_Some (slice_index row.slots (get_or slots i 0)) value (sym (slice_get-map (slice_index row.slots) slots i ∙ ap (option_map (slice_index row.slots)) there) ∙ at) in
        subst (λ v. v < 2 ^ width) same (fit (c.first + i) (get_or slots i 0) width (in_slots.each i (get_or slots i 0) there)
        (input_width i width wide) row is))

-- ---- the states of cells

-- a cell's kind is its primitive's, after what the cells before keep
pub kind_at : (kept others : ℕ) (cells : List CellPorts) (k : ℕ) (c : CellPorts) → slice_get cells k ≡ Some c → slice_get (kinds_after kept others cells) k ≡ Some (kind_after (kept + kept_in (take k cells)) (others + others_in (take k cells)) c.prim)
kind_at kept others [] k c at = absurd (none-some c at)
kind_at kept others (d ∷ cells) zero c at =
    let same : d ≡ c = cc in
    let none : kept ≡ kept + 0 = omega arith in
    let none' : others ≡ others + 0 = omega arith in
    ap (λ (x : CellPorts). Some (kind_after kept others x.prim)) same ∙ ap₂ (λ (a b : ℕ). Some (kind_after a b c.prim)) none none'
kind_at kept others (d ∷ cells) (suc k) c at =
    let more : kept + kept_for d.prim + kept_in (take k cells) ≡ kept + (kept_for d.prim + kept_in (take k cells)) = omega arith in
    let more' : others + others_for d.prim + others_in (take k cells) ≡ others + (others_for d.prim + others_in (take k cells)) = omega arith in
    kind_at (kept + kept_for d.prim) (others + others_for d.prim) cells k c at ∙ ap₂ (λ (a b : ℕ). Some (kind_after a b c.prim)) more more'

pub length-kinds_after : (kept others : ℕ) (cells : List CellPorts) → length (kinds_after kept others cells) ≡ length cells
length-kinds_after kept others [] = refl
length-kinds_after kept others (c ∷ cells) = ap suc (length-kinds_after (kept + kept_for c.prim) (others + others_for c.prim) cells)

-- the kind of a cell is its primitive's
pub kind_is : (cells : List CellPorts) (k : ℕ) (c : CellPorts) (kind : Kind) → slice_get cells k ≡ Some c → slice_get (kinds_of cells) k ≡ Some kind → kind ≡ kind_after (kept_in (take k cells)) (others_in (take k cells)) c.prim
kind_is cells k c kind at at_kind =
    let none : 0 + kept_in (take k cells) ≡ kept_in (take k cells) = omega arith in
    let none' : 0 + others_in (take k cells) ≡ others_in (take k cells) = omega arith in
    same_Some kind (kind_after (kept_in (take k cells)) (others_in (take k cells)) c.prim) (sym at_kind ∙ kind_at 0 0 cells k c at ∙ ap₂ (λ (a b : ℕ). Some (kind_after a b c.prim)) none none')

module _ (f : Frame) (row : SlotRow) (k : ℕ) (kind : Kind) (at_kind : slice_get (kinds_of f.cells) k ≡ Some kind) where
  pub state_in_row : slice_get (states_in f row) k ≡ Some (state_of row.slots row.others kind)
  state_in_row = slice_get-map (state_of row.slots row.others) (kinds_of f.cells) k ∙ ap (option_map (state_of row.slots row.others)) at_kind

  pub state_fits : (steps : StepsValue) → IsRowIn f steps row → (c : CellPorts) → slice_get f.cells k ≡ Some c → IsStateOf c.prim (state_of row.slots row.others kind)
  state_fits steps is c at = is.states k c (state_of row.slots row.others kind) at state_in_row

  -- by the cell's name
  pub state_by_name : IsFrame f → (cell : Text) (prim : Primitive) (l : IsListedCell f.net f.cells cell prim) → l.index ≡ k → states_of f.net (states_in f row) cell prim ≡ state_of row.slots row.others kind
  state_by_name is_frame cell prim l index =
      let count : length (cell_names f.net) ≡ length (states_in f row) = omega (arith, is_frame.listed.all, length-map (kinds_of f.cells) (state_of row.slots row.others), length-kinds_after 0 0 f.cells, length-map f.net.cells (λ (l : CellLine). l.name)) in
      state_at (cell_names f.net) (states_in f row) (cells_once f.net is_frame.valid) count l.index cell (state_of row.slots row.others kind)
      (slice_get-map (λ (l : CellLine). l.name) f.net.cells l.index ∙ ap (option_map (λ (l : CellLine). l.name)) l.at_line ∙ ap Some l.named)
      (ap (slice_get (states_in f row)) index ∙ state_in_row)

-- the cells with these states
abbrev pub cells_with : List CellPorts → List State → List CellValue
cells_with [] states = []
cells_with (c ∷ cells) [] = []
cells_with (c ∷ cells) (s ∷ states) = record { prim = c.prim; state = s } ∷ cells_with cells states

pub cells_with-prims : (cells : List CellPorts) (states : List State) → length states ≡ length cells → ArePrims cells (cells_with cells states)
cells_with-prims [] states count = refl
cells_with-prims (c ∷ cells) [] count = absurd (omega (arith, count))
cells_with-prims (c ∷ cells) (s ∷ states) count = ap (λ l. c.prim ∷ l) (cells_with-prims cells states (omega (arith, count)))

pub cells_with-states : (cells : List CellPorts) (states : List State) → length states ≡ length cells → map (λ (s : CellValue). s.state) (cells_with cells states) ≡ states
cells_with-states [] [] count = refl
cells_with-states [] (s ∷ states) count = absurd (omega (arith, count))
cells_with-states (c ∷ cells) [] count = absurd (omega (arith, count))
cells_with-states (c ∷ cells) (s ∷ states) count = ap (λ l. s ∷ l) (cells_with-states cells states (omega (arith, count)))

pub cells_with-at : (cells : List CellPorts) (states : List State) (k : ℕ) (c : CellPorts) (s : State) → slice_get cells k ≡ Some c → slice_get states k ≡ Some s → slice_get (cells_with cells states) k ≡ Some (record { prim = c.prim; state = s })
cells_with-at [] states k c s at at' = absurd (none-some c at)
cells_with-at (d ∷ cells) [] k c s at at' = absurd (none-some s at')
cells_with-at (d ∷ cells) (t ∷ states) zero c s at at' =
    let same : d ≡ c = cc in
    let same' : t ≡ s = cc in
    ap₂ (λ (x : CellPorts) (y : State). Some (let r : CellValue = record { prim = x.prim; state = y } in r)) same same'
cells_with-at (d ∷ cells) (t ∷ states) (suc k) c s at at' = cells_with-at cells states k c s at at'
