-- What names mean at a place: cells, ports and groups.
use Rattle.std.proofs.Common.{◌≡◌, ℕ, ◌<◌, ◌↔◌, Bor, List, length, map, slice_get, Option, Some, None, IfSome, option_map, option_and_then, is_some, IsSome, refl, sym, ap, ap₂, ◌∙◌}
use Rattle.std.specs.Slice.{IsItemAt}
use Rattle.std.proofs.lemmas.Option.{slice_get-map}
use Rattle.hw_names.specs.Name.{Text}
use Rattle.hw_prims.specs.Table.{IsMade, Pin, inputs_of, outputs_of}
use Rattle.hw_prims.specs.declared.prim.Primitive.{Primitive}
use Rattle.cal_ast.proofs.LookupLemmas.{cell_inputs-part, cell_inputs-primitive, cell_outputs-part, cell_outputs-primitive}
use Rattle.cal_ast.specs.Invoking.{go_of, made_go}
use Rattle.cal_ast.specs.Naming.{cell_names}
use Rattle.cal_ast.specs.Ports.{both_sides, cell_named, inputs_in, made_inputs, made_outputs, outputs_in, part_in, part_of, port_in, port_named, primitive_in, primitive_of}
use Rattle.cal_ast.specs.Tree.{CellDef, Component, Design, PortName, port_of}
use Rattle.cal_place.specs.FirstPlaces.{TellsFirst}
use Rattle.cal_place.specs.Prototypes.{IsMadeOf, made_component, made_primitive}
use Rattle.cal_place.specs.declared.prototype.Prototype.{Prototype}
use Rattle.cal_place.specs.declared.prototype.Prototype.TheVariants as made
use Rattle.cal_place.proofs.FoundLemmas.{found_first, found_none, from_map}
use Rattle.cal_place.proofs.GraphLemmas.{exists_at}
use Rattle.cal_place.proofs.ListLemmas.{got}

-- what a cell of a name is made of
pub record IsMadeIn (design : Design) (c : Component) (name : Text) (made : Option Prototype) : Type 0 where
  pub primitive : primitive_in c name ≡ option_and_then made_primitive made
  pub in_range : IfSome (option_and_then made_primitive made) IsMade
  pub part : part_in design c name ≡ option_and_then (slice_get design) (option_and_then made_component made)
  pub within : IfSome (option_and_then made_component made) (λ number. number < length design)

module _ (design : Design) (c : Component) (name : Text) where
  pub made_at_first : (place : ℕ) (made : Option Prototype) → TellsFirst (cell_names c.cells) name (Some place)
      → ((cell : CellDef) → slice_get c.cells place ≡ Some cell → IsMadeOf design cell made) → IsMadeIn design c name made
  made_at_first place made first of =
      let there = from_map (λ (cell : CellDef). cell.name) c.cells place name first.here in
      let cell = there.0 in
      let is = of cell there.1 in
      let found : cell_named c.cells name ≡ Some cell = found_first (λ (x : CellDef). x.name) c.cells name place first ∙ there.1 in
      record {
        primitive = ap (option_and_then primitive_of) found ∙ is.primitive;
        in_range = is.in_range;
        part = ap (option_and_then (part_of design)) found ∙ is.part;
        within = is.within;
      }

  pub made_of_none : TellsFirst (cell_names c.cells) name None → IsMadeIn design c name None
  made_of_none absent =
      let found : cell_named c.cells name ≡ None = found_none (λ (x : CellDef). x.name) c.cells name absent in
      record {
        primitive = ap (option_and_then primitive_of) found;
        in_range = tt;
        part = ap (option_and_then (part_of design)) found;
        within = tt;
      }

  -- the ports of a cell of that name
  module _ (pin : Text) where
    pub pin_of_primitive : (prim : Primitive) → IsMadeIn design c name (Some (made.Primitive prim)) → port_in design c (port_of name pin) ≡ port_named (both_sides (inputs_of prim) (outputs_of prim)) pin
    pin_of_primitive prim is =
        ap₂ (λ ins outs. port_named (both_sides ins outs) pin) (cell_inputs-primitive design c name prim is.primitive) (cell_outputs-primitive design c name prim is.primitive)

    pub pin_of_part : (number : ℕ) (part : Component) → IsMadeIn design c name (Some (made.Component number)) → slice_get design number ≡ Some part → port_in design c (port_of name pin) ≡ port_named (both_sides (inputs_in part) (outputs_in part)) pin
    pin_of_part number part is at =
        ap₂ (λ ins outs. port_named (both_sides ins outs) pin) (cell_inputs-part design c name part (is.part ∙ at)) (cell_outputs-part design c name part (is.part ∙ at))

    pub pin_of_none : IsMadeIn design c name None → port_in design c (port_of name pin) ≡ None
    pin_of_none is =
        ap₂ (λ (ins outs : List Pin). port_named (both_sides ins outs) pin) (ap₂ made_inputs is.primitive is.part) (ap₂ made_outputs is.primitive is.part)

  -- the port that starts it
  pub go_is : (made : Option Prototype) → IsMadeIn design c name made → go_of design c name ≡ made_go (option_and_then made_primitive made) (option_and_then (slice_get design) (option_and_then made_component made))
  go_is made is = ap₂ made_go is.primitive is.part

-- a port by its cell and its name
abbrev pub at_pin : Option Text → Text → PortName
at_pin cell pin = record { cell = cell; pin = pin }

-- there is a cell of a name where a first place is told
pub told_named : (cells : List CellDef) (name : Text) (r : Option ℕ) → TellsFirst (cell_names cells) name r → is_some r ≡ is_some (cell_named cells name)
told_named cells name None absent = ap is_some (sym (found_none (λ (x : CellDef). x.name) cells name absent))
told_named cells name (Some place) first =
    let there = from_map (λ (x : CellDef). x.name) cells place name first.here in
    ap is_some (sym (found_first (λ (x : CellDef). x.name) cells name place first ∙ there.1))

-- a component that is told is there
pub part_there : (design : Design) (o : Option ℕ) → IfSome o (λ number. number < length design) → IsSome o ↔ IsSome (option_and_then (slice_get design) o)
part_there design None within = (λ e. e, λ e. e)
part_there design (Some number) within =
    let c = exists_at design number within in
    (λ e. ap is_some c.1, λ e. refl)

-- what `get` answers, as a look-up in the mapped list
pub got_mapped : {X Y : Type 0} (f : X → Y) (xs : List X) (i : ℕ) (r : Option (Bor X)) → IsItemAt xs i r → option_map (λ (x : Bor X). f x.now) r ≡ slice_get (map f xs) i
got_mapped f xs i None h = ap (option_map f) (got xs i None h) ∙ sym (slice_get-map f xs i)
got_mapped f xs i (Some x) h = ap (option_map f) (got xs i (Some x) h) ∙ sym (slice_get-map f xs i)
