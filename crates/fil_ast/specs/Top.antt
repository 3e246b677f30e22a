-- The top component of a design. This project's.
use Rattle.std.specs.Prelude.{◌≡◌, ◌⊎◌, ℕ, ◌+◌, ◌<◌, codes, length, slice_get, Some, Contains}
use Rattle.fil_ast.specs.Naming.{component_names}
use Rattle.fil_ast.specs.Tree.{Component, Design}

-- component n is the first that is named main; where none is, the last
abbrev pub IsTop : Design → ℕ → Type 0
IsTop comps n =
    ((c : Component) × (slice_get comps n ≡ Some c) × (c.name ≡ codes "main") ×
    ((m : ℕ) (d : Component) → m < n → slice_get comps m ≡ Some d → ¬ (d.name ≡ codes "main")))
    ⊎ ((¬ Contains (component_names comps) (codes "main")) × (n + 1 ≡ length comps))
