-- Designs with further components after them. This project's.
use Rattle.std.specs.Prelude.{◌≡◌, ℕ, true, [], ◌++◌, take, slice_get, Some, Contains}
use Rattle.hw_names.specs.Name.{Path}
use Rattle.cal_ast.specs.Instances.{component_at}
use Rattle.cal_ast.specs.Naming.{Unreserved}
use Rattle.cal_ast.specs.Ports.{is_bare}
use Rattle.cal_ast.specs.Rules.{KeepsComponent}
use Rattle.cal_ast.specs.Tree.{Component, Design}
use Rattle.cal_ast.specs.Wires.{HasNoLoop}

-- each component of the front keeps C1 to C12 in its place, and has the hierarchy below it that it had, whatever comes after
pub record KeepsFront (front more : Design) : Type 0 where
  pub keeps : (n : ℕ) (c : Component) → slice_get front n ≡ Some c → KeepsComponent Unreserved (front ++ more) (take n (front ++ more)) c
  pub no_loop : (c : Component) → Contains front c → HasNoLoop (front ++ more) c
  pub hierarchy : (c : Component) → Contains front c → (path : Path) → component_at (front ++ more) c path ≡ component_at front c path

-- each further component is bare and has no groups, and keeps C1 to C12 in its place: by C1 its name is new
pub record IsWiredAfter (front more : Design) : Type 0 where
  pub bare : (c : Component) → Contains more c → is_bare c ≡ true
  pub no_groups : (c : Component) → Contains more c → c.groups ≡ []
  pub keeps : (n : ℕ) (c : Component) → slice_get more n ≡ Some c → KeepsComponent Unreserved (front ++ more) (front ++ take n more) c
  pub no_loop : (c : Component) → Contains more c → HasNoLoop (front ++ more) c
