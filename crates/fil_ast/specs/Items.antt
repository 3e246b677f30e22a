-- The numbered places of a component at which its rules are judged. This project's.
use Rattle.std.specs.Prelude.{◌≡◌, ◌⊎◌, ℕ, zero, suc, List, ◌++◌, length, take, flat_map, slice_get, Some}
use Rattle.fil_ast.specs.Scope.{Scope, instances_at, invocations_at}
use Rattle.fil_ast.specs.Tree.{Statement, Component, Design}

pub data Item : Type 0 where
  -- item 0
  TheSignature : Item
  -- a statement, and those before it
  TheStatement : (before : List Statement) → Statement → Item
  -- the item after the last statement
  TheEnd : Item

-- item k of a component
abbrev pub IsItem : Component → ℕ → Item → Type 0
IsItem c zero item = item ≡ TheSignature
IsItem c (suc k) item =
    ((s : Statement) × (slice_get c.body k ≡ Some s) × (item ≡ TheStatement (take k c.body) s)) ⊎ ((k ≡ length c.body) × (item ≡ TheEnd))

-- what names mean after these statements of a component, which stands after these components
abbrev pub scope_after : Design → Component → List Statement → Scope
scope_after earlier comp before =
    record { comps = earlier; comp = comp; instances = flat_map instances_at before; invocations = flat_map invocations_at before }

-- the same, with the instance that the next statement makes
abbrev pub scope_with : Design → Component → List Statement → Statement → Scope
scope_with earlier comp before s =
    record { comps = earlier; comp = comp; instances = flat_map instances_at before ++ instances_at s; invocations = flat_map invocations_at before }
