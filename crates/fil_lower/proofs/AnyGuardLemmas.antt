-- A guard that one of several bits is 1.
use Rattle.std.proofs.Common.{◌≡◌, ◌≤◌, List, [], ◌∷◌, length, map, All, Vec, Global, refl, sym, subst, ap, ◌∙◌, arith}
use Rattle.std.specs.List.{AllByRecursion}
use Rattle.std.proofs.lemmas.List.Elements.{recursion_from_All}
use mathlib.Core.Former.{Count}
use Rattle.hw_names.specs.Name.{Text}
use Rattle.net_core.proofs.GuardLemmas.{guard_tree-Any}
use Rattle.net_core.specs.Guard.{Reads, AnyOf, guard_tree, guards_of}
use Rattle.net_core.specs.declared.net.Guard.{Guard, Row_of-Guard, end_of-Guard, more_of-Guard, items-the_row-Guard, items_hidden-the_row-Guard-0}
use Rattle.net_core.specs.declared.net.Guard as code
use Rattle.net_core.specs.declared.net.Guard.TheVariants as variants
use Rattle.net_core.specs.declared.net.Src.TheVariants.{Port}
use Rattle.cal_ast.specs.Numbers.{GuardHasNumbers, GuardsHaveNumbers}
use Rattle.cal_ast.specs.Tree.{PortName, port_tree}
use Rattle.cal_ast.specs.declared.tree.CalPort.{CalPort}
use Rattle.fil_lower.specs.inside.Lowering.{any_of}

any_of_many : (ports : List PortName) → 2 ≤ length ports → AnyOf (guards_of (map (λ p. Reads (Port p)) ports)) ≡ any_of ports
any_of_many [] many = absurd (omega (arith, many))
any_of_many (p ∷ []) many = absurd (omega (arith, many))
any_of_many (p ∷ q ∷ ports) many = refl

pub any_shown : (names : List Text) (ports : List PortName) (v : Vec (Guard CalPort) Global) → 2 ≤ length ports
    → map (guard_tree (port_tree names)) v.items ≡ map (λ p. Reads (Port p)) ports → guard_tree (port_tree names) (variants.Any v) ≡ any_of ports
any_shown names ports v many is = guard_tree-Any (port_tree names) v ∙ ap (λ gs. AnyOf (guards_of gs)) is ∙ any_of_many ports many

abbrev row_of : {P : Type 0} → Guard P → (n : Count) × Row_of-Guard P n
row_of (code.Any' shape row) = (_, row)
row_of guard = (_, end_of-Guard)

row_numbers : (names : List Text) (n : Count) (r : Row_of-Guard CalPort n) → AllByRecursion (GuardHasNumbers names) (items-the_row-Guard CalPort n r) → GuardsHaveNumbers names r
row_numbers names n end_of-Guard h = tt
row_numbers names n (more_of-Guard g rest) h = (h.0, row_numbers names _ rest h.1)

pub any_numbers : (names : List Text) (v : Vec (Guard CalPort) Global) → All (GuardHasNumbers names) v.items → GuardHasNumbers names (variants.Any v)
any_numbers names v h =
    let r = row_of (variants.Any v) in
    let P : List (Guard CalPort) → Type 0 = AllByRecursion (GuardHasNumbers names) in
    row_numbers names r.0 r.1 (subst P (sym (items_hidden-the_row-Guard-0 CalPort v)) (recursion_from_All (GuardHasNumbers names) v.items h))
