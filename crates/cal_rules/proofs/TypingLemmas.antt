-- C3: the parameters of cells.
use Rattle.std.proofs.Common.{◌≡◌, ◌↔◌, Bool, true, false, [], Option, Some, None, is_some, sym, ap, ◌∙◌}
use Rattle.std.specs.Bool.{IsTrue}
use Rattle.hw_prims.specs.Table.{is_primitive}
use Rattle.cal_ast.proofs.LookupLemmas.{part_of-Some}
use Rattle.cal_ast.specs.Ports.{primitive_of}
use Rattle.cal_ast.specs.Tree.{CellDef, Design}
use Rattle.cal_ast.specs.Typing.{HasParameters}
use Rattle.cal_place.specs.Prototypes.{IsMadeOf}
use Rattle.cal_place.specs.declared.prototype.Prototype.{Prototype}
use Rattle.cal_place.specs.declared.prototype.Prototype.TheVariants as made
use Rattle.cal_rules.proofs.NewNameLemmas.{stands_there}

-- a cell with a primitive's name is made of something exactly where it is made of a primitive
made_primitive_only : (design : Design) (cell : CellDef) (o : Option Prototype) → is_primitive cell.made ≡ true → IsMadeOf design cell o → is_some o ≡ is_some (primitive_of cell)
made_primitive_only design cell None is of = ap is_some (sym of.primitive)
made_primitive_only design cell (Some (made.Primitive prim)) is of = ap is_some (sym of.primitive)
made_primitive_only design cell (Some (made.Component number)) is of =
    let part = stands_there design number of.within in
    let other = (part_of-Some design cell part.0 (of.part ∙ part.1)).0 in
    absurd (cc)

pub primitive_parameters : (design : Design) (cell : CellDef) (o : Option Prototype) (r : Bool) → is_primitive cell.made ≡ true → IsMadeOf design cell o → r ≡ is_some o → IsTrue r ↔ HasParameters cell
primitive_parameters design cell o r is of told =
    let same = told ∙ made_primitive_only design cell o is of in (
      λ t. (λ primitive. sym same ∙ t, λ other. let bad : true ≡ false = sym is ∙ other in absurd (cc)),
      λ has. same ∙ has.0 is,
    )

pub component_parameters : (cell : CellDef) (r : Bool) → is_primitive cell.made ≡ false → IsTrue r ↔ (cell.params ≡ []) → IsTrue r ↔ HasParameters cell
component_parameters cell r is told = (
  λ t. (λ primitive. let bad : true ≡ false = sym primitive ∙ is in absurd (cc), λ other. told.0 t),
  λ has. told.1 (has.1 is),
)
