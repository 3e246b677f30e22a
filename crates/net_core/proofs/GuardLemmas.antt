-- A list of guards in a guard, as a list of trees.
use Rattle.std.proofs.Common.{◌≡◌, ℕ, ◌+◌, List, [], ◌∷◌, length, map, sum_by, All, refl, sym, subst, ap, ap₂, ◌∙◌, inl, inr, ◌⊎◌, arith, Option, Some, None, Vec, Global}
use Rattle.std.proofs.lemmas.List.Sums.{sum_by-cons}
use Rattle.std.proofs.lemmas.List.{length-map}
use Rattle.std.specs.List.{AllByRecursion}
use Rattle.std.proofs.lemmas.List.Elements.{All-from_recursion, recursion_from_All}
use mathlib.Core.Former.{Count}
use Rattle.hw_names.specs.Name.{Text, text_of}
use Rattle.hw_names.specs.declared.names.NameId.{NameId}
use Rattle.net_core.specs.Netlist.{cell_of, set_of, netlist_of}
use Rattle.net_core.specs.declared.net.Net.{Net}
use Rattle.net_core.specs.declared.net.NetAssign.{NetAssign}
use Rattle.net_core.specs.Numbers.{GuardHasNumbers, GuardsHaveNumbers}
use Rattle.net_core.specs.Guard.{GuardTree, AllOf, AnyOf, MoreGuards, guards_of, guard_tree, guard_trees, guard_option}
use Rattle.net_core.specs.Weight.{node_count, nodes_count, option_nodes, set_weight, weight_of, saturated}
use Rattle.net_core.specs.declared.net.Guard.{Guard, Row_of-Guard, end_of-Guard, more_of-Guard, items-the_row-Guard, items_hidden-the_row-Guard-0}
use Rattle.net_core.specs.declared.net.Guard as code
use Rattle.net_core.specs.declared.net.Guard.TheVariants as variants

abbrev row_of : {P : Type 0} → Guard P → (n : Count) × Row_of-Guard P n
row_of (code.All' shape row) = (_, row)
row_of (code.Any' shape row) = (_, row)
row_of guard = (_, end_of-Guard)

module _ {P Q : Type 0} (f : P → Q) where
  row_is : (n : _) (r : Row_of-Guard P n) → guard_trees f r ≡ guards_of (map (guard_tree f) (items-the_row-Guard P n r))
  row_is n end_of-Guard = refl
  row_is n (more_of-Guard g rest) = ap (MoreGuards (guard_tree f g)) (row_is _ rest)

  -- the tree of a list that is to hold whole
  pub guard_tree-All : (v : Vec (Guard P) Global) → guard_tree f (variants.All v) ≡ AllOf (guards_of (map (guard_tree f) v.items))
  guard_tree-All v =
      let r = row_of (variants.All v) in
      ap AllOf (row_is r.0 r.1) ∙ ap (λ (gs : List (Guard P)). AllOf (guards_of (map (guard_tree f) gs))) (items_hidden-the_row-Guard-0 P v)

  -- the tree of a list of which one is to hold
  pub guard_tree-Any : (v : Vec (Guard P) Global) → guard_tree f (variants.Any v) ≡ AnyOf (guards_of (map (guard_tree f) v.items))
  guard_tree-Any v =
      let r = row_of (variants.Any v) in
      ap AnyOf (row_is r.0 r.1) ∙ ap (λ (gs : List (Guard P)). AnyOf (guards_of (map (guard_tree f) gs))) (items_hidden-the_row-Guard-0 P v)

pub nodes_count-guards_of : {Q : Type 0} (gs : List (GuardTree Q)) → nodes_count (guards_of gs) ≡ sum_by node_count gs
nodes_count-guards_of [] = refl
nodes_count-guards_of (g ∷ gs) = ap (λ n. node_count g + n) (nodes_count-guards_of gs) ∙ sym (sum_by-cons node_count g gs)

-- a sum over what a list was mapped to
sum_by-map : {X Y : Type 0} (h : Y → ℕ) (f : X → Y) (xs : List X) → sum_by h (map f xs) ≡ sum_by (λ x. h (f x)) xs
sum_by-map h f [] = refl
sum_by-map h f (x ∷ xs) =
    sum_by-cons h (f x) (map f xs) ∙ ap (λ n. h (f x) + n) (sum_by-map h f xs) ∙ sym (sum_by-cons (λ y. h (f y)) x xs)

-- the nodes of a list of guards in a guard
pub node_count-All : {P Q : Type 0} (f : P → Q) (v : Vec (Guard P) Global) → node_count (guard_tree f (variants.All v)) ≡ 1 + sum_by (λ g. node_count (guard_tree f g)) v.items
node_count-All f v =
    ap node_count (guard_tree-All f v) ∙ ap (λ n. 1 + n) (nodes_count-guards_of (map (guard_tree f) v.items) ∙ sum_by-map node_count (guard_tree f) v.items)

pub node_count-Any : {P Q : Type 0} (f : P → Q) (v : Vec (Guard P) Global) → node_count (guard_tree f (variants.Any v)) ≡ 1 + sum_by (λ g. node_count (guard_tree f g)) v.items
node_count-Any f v =
    ap node_count (guard_tree-Any f v) ∙ ap (λ n. 1 + n) (nodes_count-guards_of (map (guard_tree f) v.items) ∙ sum_by-map node_count (guard_tree f) v.items)

pub node_count_of_list : {P Q : Type 0} (f : P → Q) (g : Guard P) (v : Vec (Guard P) Global) → (g ≡ variants.All v) ⊎ (g ≡ variants.Any v)
    → node_count (guard_tree f g) ≡ 1 + sum_by (λ x. node_count (guard_tree f x)) v.items
node_count_of_list f g v (inl is_all) = ap (λ x. node_count (guard_tree f x)) is_all ∙ node_count-All f v
node_count_of_list f g v (inr is_any) = ap (λ x. node_count (guard_tree f x)) is_any ∙ node_count-Any f v

-- the nodes so far with those of a list are all nodes
pub nodes_with_list : {P Q : Type 0} (f : P → Q) (whole g : Guard P) (v : Vec (Guard P) Global) (items : List (Guard P)) (before listed : ℕ)
    → saturated (node_count (guard_tree f whole)) ≡ saturated (before + node_count (guard_tree f g))
    → (g ≡ variants.All v) ⊎ (g ≡ variants.Any v)
    → items ≡ v.items
    → listed ≡ saturated (sum_by (λ x. node_count (guard_tree f x)) items)
    → saturated (saturated (before + 1) + listed) ≡ saturated (node_count (guard_tree f whole))
nodes_with_list f whole g v items before listed all is_list same is_listed =
    omega (arith, node_count_of_list f g v is_list, ap (sum_by (λ x. node_count (guard_tree f x))) same)

-- nodes are counted whatever ports are known by
mutual
  pub node_count-guard_tree : {P Q R : Type 0} (f : P → Q) (h : P → R) (g : Guard P) → node_count (guard_tree f g) ≡ node_count (guard_tree h g)
  node_count-guard_tree f h (code.Read s) = refl
  node_count-guard_tree f h (code.Test op a b) = refl
  node_count-guard_tree f h (code.Not' p g) = ap (λ n. 1 + n) (node_count-guard_tree f h g)
  node_count-guard_tree f h (code.All' shape gs) = ap (λ n. 1 + n) (nodes_count-guard_trees f h gs)
  node_count-guard_tree f h (code.Any' shape gs) = ap (λ n. 1 + n) (nodes_count-guard_trees f h gs)

  nodes_count-guard_trees : {P Q R : Type 0} {m : _} (f : P → Q) (h : P → R) (gs : Row_of-Guard P m) → nodes_count (guard_trees f gs) ≡ nodes_count (guard_trees h gs)
  nodes_count-guard_trees f h end_of-Guard = refl
  nodes_count-guard_trees f h (more_of-Guard g gs) = ap₂ ◌+◌ (node_count-guard_tree f h g) (nodes_count-guard_trees f h gs)

pub option_nodes-guard_option : {P Q R : Type 0} (f : P → Q) (h : P → R) (g : Option (Guard P)) → option_nodes (guard_option f g) ≡ option_nodes (guard_option h g)
option_nodes-guard_option f h None = refl
option_nodes-guard_option f h (Some g) = node_count-guard_tree f h g

-- each guard of a list in a guard has numbers where the guard has
row_numbers : (names : List Text) (n : Count) (r : Row_of-Guard NameId n) → GuardsHaveNumbers names r → AllByRecursion (GuardHasNumbers names) (items-the_row-Guard NameId n r)
row_numbers names n end_of-Guard h = tt
row_numbers names n (more_of-Guard g rest) h = (h.0, row_numbers names _ rest h.1)

all_numbers : (names : List Text) (v : Vec (Guard NameId) Global) → GuardHasNumbers names (variants.All v) → All (GuardHasNumbers names) v.items
all_numbers names v h =
    let r = row_of (variants.All v) in
    let P : List (Guard NameId) → Type 0 = AllByRecursion (GuardHasNumbers names) in
    All-from_recursion (GuardHasNumbers names) v.items (subst P (items_hidden-the_row-Guard-0 NameId v) (row_numbers names r.0 r.1 h))

row_from : (names : List Text) (n : Count) (r : Row_of-Guard NameId n) → AllByRecursion (GuardHasNumbers names) (items-the_row-Guard NameId n r) → GuardsHaveNumbers names r
row_from names n end_of-Guard h = tt
row_from names n (more_of-Guard g rest) h = (h.0, row_from names _ rest h.1)

numbers_from : (names : List Text) (v : Vec (Guard NameId) Global) → All (GuardHasNumbers names) v.items → GuardHasNumbers names (variants.All v)
numbers_from names v h =
    let r = row_of (variants.All v) in
    let P : List (Guard NameId) → Type 0 = AllByRecursion (GuardHasNumbers names) in
    row_from names r.0 r.1 (subst P (sym (items_hidden-the_row-Guard-0 NameId v)) (recursion_from_All (GuardHasNumbers names) v.items h))

-- a guard of a list has numbers where each of the list has
pub numbers_from_list : (names : List Text) (g : Guard NameId) (v : Vec (Guard NameId) Global) → (g ≡ variants.All v) ⊎ (g ≡ variants.Any v) → All (GuardHasNumbers names) v.items → GuardHasNumbers names g
numbers_from_list names g v (inl e) h = let P : Guard NameId → Type 0 = GuardHasNumbers names in subst P (sym e) (numbers_from names v h)
numbers_from_list names g v (inr e) h = let P : Guard NameId → Type 0 = GuardHasNumbers names in subst P (sym e) (numbers_from names v h)

pub list_numbers : (names : List Text) (g : Guard NameId) (v : Vec (Guard NameId) Global) → (g ≡ variants.All v) ⊎ (g ≡ variants.Any v) → GuardHasNumbers names g → All (GuardHasNumbers names) v.items
list_numbers names g v (inl e) h = let P : Guard NameId → Type 0 = GuardHasNumbers names in all_numbers names v (subst P e h)
list_numbers names g v (inr e) h = let P : Guard NameId → Type 0 = GuardHasNumbers names in all_numbers names v (subst P e h)

-- a weight as the code adds it up
pub weight_of-netlist_of : (net : Net) → weight_of (netlist_of net) ≡ length net.cells.items + sum_by (λ (a : NetAssign). 1 + option_nodes (guard_option (λ (id : NameId). id) a.guard)) net.sets.items
weight_of-netlist_of net =
    ap₂ ◌+◌ (length-map net.cells.items (cell_of net.names))
    (sum_by-map set_weight (set_of net.names) net.sets.items ∙ same_sum net.sets.items)
  where
    same_sum : (sets : List NetAssign) → sum_by (λ (a : NetAssign). set_weight (set_of net.names a)) sets ≡ sum_by (λ (a : NetAssign). 1 + option_nodes (guard_option (λ (id : NameId). id) a.guard)) sets
    same_sum [] = refl
    same_sum (a ∷ sets) =
        sum_by-cons (λ (b : NetAssign). set_weight (set_of net.names b)) a sets
        ∙ ap₂ ◌+◌ (ap (λ n. 1 + n) (option_nodes-guard_option (text_of net.names) (λ id. id) a.guard)) (same_sum sets)
        ∙ sym (sum_by-cons (λ (b : NetAssign). 1 + option_nodes (guard_option (λ (id : NameId). id) b.guard)) a sets)
