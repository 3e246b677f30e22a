-- Designs of wires alone: what lowering ends with. This project's.
use Rattle.std.specs.Prelude.{◌≡◌, true, [], Contains}
use Rattle.cal_ast.specs.Ports.{is_bare}
use Rattle.cal_ast.specs.Rules.{CalRules}
use Rattle.cal_ast.specs.Tree.{Component, Design}

-- each component is bare and has no groups, and C1 to C12 hold
pub record IsWired (design : Design) : Type 0 where
  pub bare : (c : Component) → Contains design c → is_bare c ≡ true
  pub no_groups : (c : Component) → Contains design c → c.groups ≡ []
  pub rules : CalRules design
