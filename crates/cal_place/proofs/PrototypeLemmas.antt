-- What cells are made of.
use Rattle.std.proofs.Common.{◌≡◌, ℕ, Bool, true, false, List, Option, Some, None, sym, ap, ap₂, subst, ◌∙◌}
use Rattle.std.specs.Prelude.{if◌then◌else◌}
use Rattle.std.proofs.lemmas.Option.{slice_get_within}
use Rattle.hw_names.specs.Name.{Text}
use Rattle.hw_prims.proofs.PortNameLemmas.{unknown_makes_none}
use Rattle.hw_prims.specs.Table.{IsMade, is_primitive, prim_of}
use Rattle.hw_prims.specs.declared.prim.Primitive.{Primitive}
use Rattle.cal_ast.proofs.LookupLemmas.{primitive_of-Some}
use Rattle.cal_ast.specs.Naming.{component_names}
use Rattle.cal_ast.specs.Ports.{component_named, part_of}
use Rattle.cal_ast.specs.Tree.{CellDef, Component, Design}
use Rattle.cal_place.specs.FirstPlaces.{TellsFirst}
use Rattle.cal_place.specs.Prototypes.{IsMadeOf}
use Rattle.cal_place.specs.declared.prototype.Prototype.TheVariants as made
use Rattle.cal_place.proofs.FoundLemmas.{found_first, found_none, from_map}

-- a primitive's name is no component's
no_part : (design : Design) (cell : CellDef) → is_primitive cell.made ≡ true → part_of design cell ≡ None
no_part design cell is = ap (λ (b : Bool). if b then None else component_named design cell.made) is

named_part : (design : Design) (cell : CellDef) → is_primitive cell.made ≡ false → part_of design cell ≡ component_named design cell.made
named_part design cell is = ap (λ (b : Bool). if b then None else component_named design cell.made) is

pub of_primitive : (design : Design) (cell : CellDef) (prim : Primitive) → prim_of cell.made cell.params ≡ Some prim → IsMade prim → IsMadeOf design cell (Some (made.Primitive prim))
of_primitive design cell prim is in_range =
    record {
      primitive = is;
      in_range = in_range;
      part = no_part design cell (primitive_of-Some cell prim is);
      within = tt;
      first = tt;
    }

pub of_wrong_parameters : (design : Design) (cell : CellDef) → is_primitive cell.made ≡ true → prim_of cell.made cell.params ≡ None → IsMadeOf design cell None
of_wrong_parameters design cell known none =
    record {
      primitive = none;
      in_range = tt;
      part = no_part design cell known;
      within = tt;
      first = tt;
    }

pub of_component : (design : Design) (cell : CellDef) (place : ℕ) → is_primitive cell.made ≡ false → TellsFirst (component_names design) cell.made (Some place) → IsMadeOf design cell (Some (made.Component place))
of_component design cell place unknown first =
    let there = from_map (λ (c : Component). c.name) design place cell.made first.here in
    record {
      primitive = unknown_makes_none cell.made cell.params unknown;
      in_range = tt;
      part = named_part design cell unknown ∙ found_first (λ (c : Component). c.name) design cell.made place first;
      within = slice_get_within design place there.0 there.1;
      first = first;
    }

pub of_nothing : (design : Design) (cell : CellDef) → is_primitive cell.made ≡ false → TellsFirst (component_names design) cell.made None → IsMadeOf design cell None
of_nothing design cell unknown absent =
    record {
      primitive = unknown_makes_none cell.made cell.params unknown;
      in_range = tt;
      part = named_part design cell unknown ∙ found_none (λ (c : Component). c.name) design cell.made absent;
      within = tt;
      first = tt;
    }

-- the same of a cell whose name and parameters are told by equal ones
module _ (design : Design) (cell : CellDef) (name : Text) (params : List ℕ) (named : cell.made ≡ name) (same : params ≡ cell.params) where
  makes : (o : Option Primitive) → prim_of name params ≡ o → prim_of cell.made cell.params ≡ o
  makes o is = ap₂ prim_of named (sym same) ∙ is

  known_as : (b : Bool) → is_primitive name ≡ b → is_primitive cell.made ≡ b
  known_as b is = ap is_primitive named ∙ is

  pub told_primitive : (prim : Primitive) → (prim_of name params ≡ Some prim) × IsMade prim → IsMadeOf design cell (Some (made.Primitive prim))
  told_primitive prim is = of_primitive design cell prim (makes (Some prim) is.0) is.1

  pub told_wrong : (is_primitive name ≡ true) × (prim_of name params ≡ None) → IsMadeOf design cell None
  told_wrong is = of_wrong_parameters design cell (known_as true is.0) (makes None is.1)

  pub told_component : (place : ℕ) → is_primitive name ≡ false → TellsFirst (component_names design) name (Some place) → IsMadeOf design cell (Some (made.Component place))
  told_component place unknown first =
      let T : Text → Type 0 = λ t. TellsFirst (component_names design) t (Some place) in
      of_component design cell place (known_as false unknown) (subst T (sym named) first)

  pub told_nothing : is_primitive name ≡ false → TellsFirst (component_names design) name None → IsMadeOf design cell None
  told_nothing unknown absent =
      let T : Text → Type 0 = λ t. TellsFirst (component_names design) t None in
      of_nothing design cell (known_as false unknown) (subst T (sym named) absent)
