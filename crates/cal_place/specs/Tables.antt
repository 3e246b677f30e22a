-- That tables show what the names of a design mean. This project's.
use Rattle.std.specs.Prelude.{◌≡◌, ℕ, List, Vec, Option, length, slice_get, Some}
use Rattle.std.specs.declared.alloc.Global.{Global}
use Rattle.cal_ast.specs.Naming.{component_names}
use Rattle.cal_ast.specs.Tree.{Component, Design}
use Rattle.cal_place.specs.FirstPlaces.{ShowsFirsts}
use Rattle.cal_place.specs.Prototypes.{AreMadeOf}
use Rattle.cal_place.specs.Signatures.{ShowsSignature}
use Rattle.cal_place.specs.declared.prototype.Prototype.{Prototype}
use Rattle.cal_place.specs.declared.signature.Signature.{Signature}
use Rattle.cal_place.specs.declared.tables.Tables.{Tables}

-- each component has its signature
pub record AreSignatures (design : Design) (signatures : List Signature) : Type 0 where
  pub sized : length signatures ≡ length design
  pub each : (n : ℕ) (c : Component) (s : Signature) → slice_get design n ≡ Some c → slice_get signatures n ≡ Some s → ShowsSignature s c

-- what the cells of each component are made of
pub record AreMade (design : Design) (made : List (Vec (Option Prototype) Global)) : Type 0 where
  pub sized : length made ≡ length design
  pub each : (n : ℕ) (c : Component) (cells : Vec (Option Prototype) Global) → slice_get design n ≡ Some c → slice_get made n ≡ Some cells →
      AreMadeOf design c.cells cells.items

pub record ShowsTables (design : Design) (tables : Tables) : Type 0 where
  pub comps : ShowsFirsts tables.comps (component_names design)
  pub signatures : AreSignatures design tables.signatures.items
  pub made : AreMade design tables.made.items
