-- Wires that a Filament design is lowered to can be written where the names of that design are Calyx's.
use Rattle.std.proofs.Common.{◌≡◌, ℕ, true, List, [], ◌∷◌, length, get_or, take, slice_get, All, Contains, Some, refl, sym, ap, subst, inl, inr, ◌∙◌, arith}
use Rattle.std.specs.List.{AllByRecursion}
use Rattle.std.proofs.lemmas.Bool.{false≢true}
use Rattle.std.proofs.lemmas.List.Elements.{All-contains, All-head, All-tail, All-weaker, Contains-get_or, recursion_from_All}
use Rattle.std.proofs.lemmas.Option.{slice_get_within}
use Rattle.hw_grammar.specs.Words.{IsWritten}
use Rattle.hw_prims.specs.Table.{Pin, pin_names}
use Rattle.net_core.specs.Graph.{option_ports, source_ports}
use Rattle.cal_ast.proofs.ListLemmas.{Contains-map, place_of}
use Rattle.cal_ast.specs.Ports.{is_bare_by}
use Rattle.cal_ast.specs.Tree as calyx
use Rattle.cal_ast.specs.Tree.{Assignment, CellDef, ControlSection, Absent, Empty, Body, GroupDef}
use Rattle.cal_ast.specs.Written.{AssignmentIsWritten, CellIsWritten, ComponentIsWritten, ControlIsWritten, DesignIsWritten, GroupIsWritten, InputIsWritten, IsCalName, PinIsWritten, PortIsWritten}
use Rattle.fil_ast.specs.Naming.{instance_names}
use Rattle.fil_ast.specs.Scope.{Instance}
use Rattle.fil_ast.specs.Tree.{Component, Design}
use Rattle.fil_ast.specs.Wires.{whole_scope}
use Rattle.fil_lower.specs.Lowers.{KeepsComponent, Lowers, instance_cell}
use Rattle.fil_lower.proofs.NameLemmas.{from_map}
use Rattle.fil_lower.proofs.UseLemmas.{some_at}
use Rattle.fil_parse.specs.Written as filament
use Rattle.fil_net.proofs.GuardLemmas.{IsBitSet}
use Rattle.fil_net.proofs.ListLemmas.{All-left, All-right}
use Rattle.fil_net.proofs.WrittenLemmas.{IsWrittenCell, IsWrittenLow, IsWrittenPin, low_written}
use Rattle.fil_cal.specs.LoweredText.{HaveCalNames, IsCalInput}
use Rattle.fil_cal.proofs.GuardLemmas.{source_written, when_written}
use Rattle.fil_cal.proofs.NameLemmas.{register_name}
use Rattle.fil_cal.proofs.PortLemmas.{HasNamesOfCalyx, made_name, ports_written}

-- ---- ports

inputs_written : (pins : List Pin) → All IsWrittenPin pins → All IsCalInput (pin_names pins) → AllByRecursion InputIsWritten pins
inputs_written [] numbers names = tt
inputs_written (p ∷ pins) numbers names =
    let name = All-head IsCalInput p.name (pin_names pins) names in
    (((name.0, (All-head IsWrittenPin p pins numbers).1), (name.1, name.2)), inputs_written pins (All-tail IsWrittenPin p pins numbers) (All-tail IsCalInput p.name (pin_names pins) names))

outputs_written : (pins : List Pin) → All IsWrittenPin pins → All IsCalName (pin_names pins) → AllByRecursion PinIsWritten pins
outputs_written [] numbers names = tt
outputs_written (p ∷ pins) numbers names =
    ((All-head IsCalName p.name (pin_names pins) names, (All-head IsWrittenPin p pins numbers).1), outputs_written pins (All-tail IsWrittenPin p pins numbers) (All-tail IsCalName p.name (pin_names pins) names))

no_items : {X : Type 0} (xs : List X) → length xs ≡ 0 → xs ≡ []
no_items [] none = refl
no_items (x ∷ xs) none = absurd (omega (arith, none))

-- a component that no control starts has nothing written of control
control_written : (control : ControlSection) (sets : List Assignment) → is_bare_by control sets ≡ true → ControlIsWritten control
control_written Absent sets bare = tt
control_written Empty sets bare = tt
control_written (Body s) sets bare = absurd (false≢true bare)

module _ (comps : Design) (design : calyx.Design) (lowers : Lowers comps design) (written : filament.DesignIsWritten comps) (names : HaveCalNames comps) where
  -- the component that is lowered to the one at a place
  comp_of : (n : ℕ) (low : calyx.Component) → slice_get design n ≡ Some low → (c : Component) × (slice_get comps n ≡ Some c)
  comp_of n low at_low = let low_place = slice_get_within design n low at_low in some_at comps n (let long = lowers.count in omega (arith, low_place, long))

  -- ---- names

  module _ (n : ℕ) (c : Component) (low : calyx.Component) (here : slice_get comps n ≡ Some c) (at_low : slice_get design n ≡ Some low) where
    keeps : KeepsComponent comps design n c low
    keeps = lowers.components n c low here at_low

    inputs_named : All IsCalInput (pin_names low.ins)
    inputs_named = subst (λ (pins : List Pin). All IsCalInput (pin_names pins)) (sym keeps.ins) (names n c here).ins

    cell_named : (cell : CellDef) → Contains low.cells cell → IsCalName cell.name
    cell_named cell has =
        let instances : List Instance = (whole_scope (take n comps) c).instances in
        elim (keeps.cells.only cell has) [
          | inl of_instance ↦
              (let i = from_map instance_cell instances cell of_instance in
              subst (λ (x : CellDef). IsCalName x.name) i.2 (All-contains IsCalName (instance_names instances) i.0.name (names n c here).instances (Contains-map (λ (j : Instance). j.name) instances i.0 i.1)))
          | inr (generated, made) ↦ register_name cell.name generated
        ]

    component_named : HasNamesOfCalyx low
    component_named = record {
      name = subst IsCalName (sym keeps.name) (names n c here).name;
      ins = All-weaker IsCalInput IsCalName (λ name is. is.0) (pin_names low.ins) inputs_named;
      outs = subst (λ (pins : List Pin). All IsCalName (pin_names pins)) (sym keeps.outs) (names n c here).outs;
      cells = λ k d within. cell_named (get_or low.cells k d) (Contains-get_or low.cells k d within);
    }

  named : (low : calyx.Component) → Contains design low → HasNamesOfCalyx low
  named low among =
      let place = place_of design low among in
      let c = comp_of place.0 low place.1 in
      component_named place.0 c.0 low c.1 place.1

  -- ---- components

  module _ (low : calyx.Component) (among : Contains design low) (numbers : IsWrittenLow low) where
    cell_written : (cell : CellDef) → Contains low.cells cell → CellIsWritten cell
    cell_written cell has = (
      All-contains (λ (d : CellDef). IsCalName d.name) low.cells cell (named low among).cells has,
      (made_name design lowers.wired named low cell among has, recursion_from_All IsWritten cell.params (All-contains IsWrittenCell low.cells cell numbers.cells has).1),
    )

    set_written : (a : Assignment) → Contains low.sets a → AssignmentIsWritten a
    set_written a has =
        let ports = ports_written design lowers.wired named low a among has in
        let is = All-contains IsBitSet low.sets a numbers.sets has in (
          ports.0,
          (
            when_written a.guard is.0 (All-left PortIsWritten (option_ports a.guard) (source_ports a.src) ports.1),
            source_written a.src is.1 (All-right PortIsWritten (option_ports a.guard) (source_ports a.src) ports.1),
          ),
        )

    component_written : All IsCalInput (pin_names low.ins) → ComponentIsWritten low
    component_written inputs = record {
      name = (named low among).name;
      ins = inputs_written low.ins numbers.ins inputs;
      outs = outputs_written low.outs numbers.outs (named low among).outs;
      cells = recursion_from_All CellIsWritten low.cells (λ k d within. cell_written (get_or low.cells k d) (Contains-get_or low.cells k d within));
      groups = subst (λ (gs : List GroupDef). AllByRecursion GroupIsWritten gs) (sym (lowers.wired.no_groups low among)) tt;
      sets = recursion_from_All AssignmentIsWritten low.sets (λ k d within. set_written (get_or low.sets k d) (Contains-get_or low.sets k d within));
      control = control_written low.control low.sets (lowers.wired.bare low among);
    }

  here_written : (low : calyx.Component) → Contains design low → ComponentIsWritten low
  here_written low among =
      let place = place_of design low among in
      let c = comp_of place.0 low place.1 in
      component_written low among (low_written comps design lowers written place.0 c.0 low c.1 place.1) (inputs_named place.0 c.0 low c.1 place.1)

  pub design_written : DesignIsWritten design
  design_written = (
    λ none. written.0 (no_items comps (sym lowers.count ∙ ap (λ (d : calyx.Design). length d) none)),
    recursion_from_All ComponentIsWritten design (λ n d within. here_written (get_or design n d) (Contains-get_or design n d within)),
  )
