-- Lists of guards in guards.
use Rattle.std.proofs.Common.{◌≡◌, List, All, refl, ap, subst, ◌∙◌, Vec, Global}
use Rattle.std.specs.List.{AllByRecursion}
use mathlib.Core.Former.{Count}
use Rattle.std.proofs.lemmas.List.Elements.{All-from_recursion}
use Rattle.hw_names.specs.Name.{Text, text_of}
use Rattle.hw_names.specs.declared.names.NameId.{NameId}
use Rattle.net_core.specs.Guard.{AllOf, AnyOf, MoreGuards, guard_tree, guard_trees}
use Rattle.net_core.specs.Numbers.{GuardHasNumbers, GuardsHaveNumbers}
use Rattle.net_core.specs.declared.net.Guard.{Guard, Row_of-Guard, end_of-Guard, more_of-Guard, items-the_row-Guard, items_hidden-the_row-Guard-0}
use Rattle.net_core.specs.declared.net.Guard as code
use Rattle.net_text.specs.inside.View.{guards_of}

row_is : (names : List Text) (n : Count) (r : Row_of-Guard NameId n) → guard_trees (text_of names) r ≡ guards_of names (items-the_row-Guard NameId n r)
row_is names n end_of-Guard = refl
row_is names n (more_of-Guard g rest) = ap (MoreGuards (guard_tree (text_of names) g)) (row_is names _ rest)

row_numbers : (names : List Text) (n : Count) (r : Row_of-Guard NameId n) → GuardsHaveNumbers names r → AllByRecursion (GuardHasNumbers names) (items-the_row-Guard NameId n r)
row_numbers names n end_of-Guard h = tt
row_numbers names n (more_of-Guard g rest) h = (h.0, row_numbers names _ rest h.1)

-- the guards of a list of two or more
abbrev row_of : Guard NameId → (n : Count) × Row_of-Guard NameId n
row_of (code.All' shape r) = (_, r)
row_of _ = (_, end_of-Guard)

pub all_tree : (names : List Text) (v : Vec (Guard NameId) Global) → guard_tree (text_of names) (code.All v) ≡ AllOf (guards_of names v.items)
all_tree names v =
    let r = row_of (code.All v) in
    ap AllOf (row_is names r.0 r.1) ∙ ap (λ (gs : List (Guard NameId)). AllOf (guards_of names gs)) (items_hidden-the_row-Guard-0 NameId v)

pub any_tree : (names : List Text) (v : Vec (Guard NameId) Global) → guard_tree (text_of names) (code.Any v) ≡ AnyOf (guards_of names v.items)
any_tree names v =
    let r = row_of (code.All v) in
    ap AnyOf (row_is names r.0 r.1) ∙ ap (λ (gs : List (Guard NameId)). AnyOf (guards_of names gs)) (items_hidden-the_row-Guard-0 NameId v)

pub all_numbers : (names : List Text) (v : Vec (Guard NameId) Global) → GuardHasNumbers names (code.All v) → All (GuardHasNumbers names) v.items
all_numbers names v h =
    let r = row_of (code.All v) in
    All-from_recursion (GuardHasNumbers names) v.items (subst (λ (gs : List (Guard NameId)). AllByRecursion (GuardHasNumbers names) gs) (items_hidden-the_row-Guard-0 NameId v) (row_numbers names r.0 r.1 h))

pub any_numbers : (names : List Text) (v : Vec (Guard NameId) Global) → GuardHasNumbers names (code.Any v) → All (GuardHasNumbers names) v.items
any_numbers names v h = all_numbers names v h
