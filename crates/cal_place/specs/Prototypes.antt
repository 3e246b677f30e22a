-- What cells are made of, as code has it. This project's.
use Rattle.std.specs.Prelude.{◌≡◌, ℕ, ◌<◌, List, length, slice_get, Option, Some, None, IfSome, option_and_then}
use Rattle.hw_prims.specs.Table.{IsMade}
use Rattle.hw_prims.specs.declared.prim.Dir.{Dir}
use Rattle.hw_prims.specs.declared.prim.Dir.TheVariants as dir
use Rattle.hw_prims.specs.declared.prim.Primitive.{Primitive}
use Rattle.cal_ast.specs.Naming.{component_names}
use Rattle.cal_ast.specs.Ports.{part_of, primitive_of}
use Rattle.cal_ast.specs.Tree.{CellDef, Design}
use Rattle.cal_place.specs.FirstPlaces.{IsFirst}
use Rattle.cal_place.specs.declared.signature.Side.{Side}
use Rattle.cal_place.specs.declared.signature.Side.TheVariants as side
use Rattle.cal_place.specs.declared.prototype.Prototype.{Prototype}
use Rattle.cal_place.specs.declared.prototype.Prototype.TheVariants as made

abbrev pub made_primitive : Prototype → Option Primitive
made_primitive (made.Primitive prim) = Some prim
made_primitive (made.Component number) = None

abbrev pub made_component : Prototype → Option ℕ
made_component (made.Primitive prim) = None
made_component (made.Component number) = Some number

-- the side of a primitive's port
abbrev pub side_of_dir : Dir → Side
side_of_dir dir.Input = side.Input
side_of_dir dir.Output = side.Output

-- the primitive and the component that the cell is made of, if it is made of one
pub record IsMadeOf (design : Design) (cell : CellDef) (made : Option Prototype) : Type 0 where
  pub primitive : primitive_of cell ≡ option_and_then made_primitive made
  pub in_range : IfSome (option_and_then made_primitive made) IsMade
  pub part : part_of design cell ≡ option_and_then (slice_get design) (option_and_then made_component made)
  pub within : IfSome (option_and_then made_component made) (λ number. number < length design)
  pub first : IfSome (option_and_then made_component made) (λ number. IsFirst (component_names design) cell.made number)

-- each of the cells
pub record AreMadeOf (design : Design) (cells : List CellDef) (mades : List (Option Prototype)) : Type 0 where
  pub sized : length mades ≡ length cells
  pub each : (k : ℕ) (cell : CellDef) (made : Option Prototype) → slice_get cells k ≡ Some cell → slice_get mades k ≡ Some made →
      IsMadeOf design cell made
