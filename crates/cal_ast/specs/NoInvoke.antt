-- Designs whose control enables groups alone: what the expansion of invokes ends with. This project's.
use Rattle.std.specs.Prelude.{All, Contains}
use Rattle.cal_ast.specs.Items.{control_statements}
use Rattle.cal_ast.specs.Naming.{AnyName}
use Rattle.cal_ast.specs.Rules.{KeepsRulesUnder, HasNoLoops}
use Rattle.cal_ast.specs.Statement.{IfInvoke}
use Rattle.cal_ast.specs.Tree.{Statement, Component, Design}

abbrev pub IsNoInvoke : Statement → Type 0
IsNoInvoke s = IfInvoke s (λ cell ins outs. ⊥)

-- C1 to C12 hold, but that groups may have any names, and there is no invoke
pub record IsPlainDesign (design : Design) : Type 0 where
  pub keeps : KeepsRulesUnder AnyName design
  pub no_loop : HasNoLoops design
  pub no_invoke : (c : Component) → Contains design c → All IsNoInvoke (control_statements c.control)
