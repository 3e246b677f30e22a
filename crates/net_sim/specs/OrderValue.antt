-- An order of ports, and the assignments of each, as callers see it. This project's.
use Rattle.std.specs.Prelude.{ℕ, List}

pub record OrderValue : Type 0 where
  pub ports : List ℕ
  pub sets : List (List ℕ)
