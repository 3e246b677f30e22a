-- Steps as callers see them. This project's.
use Rattle.std.specs.Prelude.{ℕ, List}
use Rattle.net_steps.specs.declared.choice.Choice.{Choice}
use Rattle.net_steps.specs.declared.equality.Equality.{Equality}
use Rattle.net_steps.specs.declared.operation.Operation.{Operation}

-- the slot of the first, what each makes, the table of choices, and what is assumed of each row
pub record StepsValue : Type 0 where
  pub base : ℕ
  pub items : List Operation
  pub choices : List Choice
  pub assumed : List Equality
