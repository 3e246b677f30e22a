-- Guards that are made of guards.
use Rattle.std.proofs.Common.{◌≡◌, ◌<◌, ◌≤◌, ℕ, List, [], ◌∷◌, ◌++◌, length, map, All, Vec, Global, length-append, refl, sym, subst, ap, ◌∙◌, inl, inr, ◌⊎◌, arith}
use Rattle.std.specs.List.{AllByRecursion}
use Rattle.std.proofs.lemmas.List.{length-map}
use Rattle.std.proofs.lemmas.List.Elements.{All-from_recursion, All-head, recursion_from_All}
use Rattle.std.specs.Global.{Box}
use mathlib.Core.Former.{Count}
use Rattle.hw_names.specs.Name.{Text}
use Rattle.net_core.proofs.GuardLemmas.{guard_tree-All, guard_tree-Any}
use Rattle.net_core.specs.Guard.{GuardTree, Reads, Negates, AllOf, AnyOf, guards_of, source_tree}
use Rattle.net_core.specs.declared.net.Guard.{Guard, Row_of-Guard, end_of-Guard, more_of-Guard, items-the_row-Guard, items_hidden-the_row-Guard-0}
use Rattle.net_core.specs.declared.net.Guard as code
use Rattle.net_core.specs.declared.net.Guard.TheVariants as variants
use Rattle.net_core.specs.declared.net.Src.{Src}
use Rattle.net_core.specs.declared.net.Src.TheVariants.{Port, Lit}
use Rattle.cal_ast.specs.Numbers.{SourceHasNumbers, GuardHasNumbers, GuardsHaveNumbers}
use Rattle.cal_ast.specs.Tree.{PortName, port_tree}
use Rattle.cal_ast.specs.declared.tree.CalPort.{CalPort}
use Rattle.cal_lower.specs.inside.Pieces.{all_of, any_of, both, either, reads}
use Rattle.cal_lower.specs.inside.Shown.{ShowsGuard, ShowsGuards, ShowsPort, seen_guard}
use Rattle.cal_lower.proofs.StableLemmas.{KeepsTexts-refl}

-- ---- numbers in a list of guards

abbrev row_of : {P : Type 0} → Guard P → (n : Count) × Row_of-Guard P n
row_of (code.All' shape row) = (_, row)
row_of (code.Any' shape row) = (_, row)
row_of guard = (_, end_of-Guard)

row_numbers : (names : List Text) (n : Count) (r : Row_of-Guard CalPort n) → AllByRecursion (GuardHasNumbers names) (items-the_row-Guard CalPort n r) → GuardsHaveNumbers names r
row_numbers names n end_of-Guard h = tt
row_numbers names n (more_of-Guard g rest) h = (h.0, row_numbers names _ rest h.1)

pub any_numbers : (names : List Text) (v : Vec (Guard CalPort) Global) → All (GuardHasNumbers names) v.items → GuardHasNumbers names (variants.Any v)
any_numbers names v h =
    let r = row_of (variants.Any v) in
    let P : List (Guard CalPort) → Type 0 = AllByRecursion (GuardHasNumbers names) in
    row_numbers names r.0 r.1 (subst P (sym (items_hidden-the_row-Guard-0 CalPort v)) (recursion_from_All (GuardHasNumbers names) v.items h))

pub all_numbers : (names : List Text) (v : Vec (Guard CalPort) Global) → All (GuardHasNumbers names) v.items → GuardHasNumbers names (variants.All v)
all_numbers names v h =
    let r = row_of (variants.All v) in
    let P : List (Guard CalPort) → Type 0 = AllByRecursion (GuardHasNumbers names) in
    row_numbers names r.0 r.1 (subst P (sym (items_hidden-the_row-Guard-0 CalPort v)) (recursion_from_All (GuardHasNumbers names) v.items h))

-- and from the guard back to the list
row_of_all : (names : List Text) (n : Count) (r : Row_of-Guard CalPort n) → GuardsHaveNumbers names r → AllByRecursion (GuardHasNumbers names) (items-the_row-Guard CalPort n r)
row_of_all names n end_of-Guard h = tt
row_of_all names n (more_of-Guard g rest) h = (h.0, row_of_all names _ rest h.1)

from_all : (names : List Text) (v : Vec (Guard CalPort) Global) → GuardHasNumbers names (variants.All v) → All (GuardHasNumbers names) v.items
from_all names v h =
    let r = row_of (variants.All v) in
    let P : List (Guard CalPort) → Type 0 = AllByRecursion (GuardHasNumbers names) in
    All-from_recursion (GuardHasNumbers names) v.items (subst P (items_hidden-the_row-Guard-0 CalPort v) (row_of_all names r.0 r.1 h))

pub list_numbers : (names : List Text) (g : Guard CalPort) (v : Vec (Guard CalPort) Global) → (g ≡ variants.All v) ⊎ (g ≡ variants.Any v) → GuardHasNumbers names g
    → All (GuardHasNumbers names) v.items
list_numbers names g v (inl e) h = let P : Guard CalPort → Type 0 = GuardHasNumbers names in from_all names v (subst P e h)
list_numbers names g v (inr e) h = let P : Guard CalPort → Type 0 = GuardHasNumbers names in from_all names v (subst P e h)

module _ (names : List Text) where
  -- ---- one guard

  pub reads_shown : (tree : PortName) (p : CalPort) (b : Box (Src CalPort)) → b.value ≡ Port p → ShowsPort names tree p → ShowsGuard names (reads tree) (variants.Read b)
  reads_shown tree p b is h = record {
    tree = λ later more. ap (λ (s : Src CalPort). Reads (source_tree (port_tree later) s)) is ∙ ap (λ (q : PortName). Reads (Port q)) (h.tree later more);
    numbers = λ later more. let N : Src CalPort → Type 0 = SourceHasNumbers later in subst N (sym is) (h.numbers later more);
  }

  pub literal_shown : (value : ℕ) (b : Box (Src CalPort)) → b.value ≡ Lit 1 value → ShowsGuard names (Reads (Lit 1 value)) (variants.Read b)
  literal_shown value b is = record {
    tree = λ later more. ap (λ (s : Src CalPort). Reads (source_tree (port_tree later) s)) is;
    numbers = λ later more. let N : Src CalPort → Type 0 = SourceHasNumbers later in subst N (sym is) tt;
  }

  pub negates_shown : (tree : GuardTree PortName) (g : Guard CalPort) (b : Box (Guard CalPort)) → b.value ≡ g → ShowsGuard names tree g → ShowsGuard names (Negates tree) (variants.Not b)
  negates_shown tree g b is h = record {
    tree = λ later more. ap (λ (x : Guard CalPort). Negates (seen_guard later x)) is ∙ ap Negates (h.tree later more);
    numbers = λ later more. let N : Guard CalPort → Type 0 = GuardHasNumbers later in subst N (sym is) (h.numbers later more);
  }

  -- ---- lists

  pub all_shown : (trees : List (GuardTree PortName)) (v : Vec (Guard CalPort) Global) → ShowsGuards names trees v.items → ShowsGuard names (AllOf (guards_of trees)) (variants.All v)
  all_shown trees v h = record {
    tree = λ later more. guard_tree-All (port_tree later) v ∙ ap (λ gs. AllOf (guards_of gs)) (h.trees later more);
    numbers = λ later more. all_numbers later v (h.numbers later more);
  }

  pub any_shown : (trees : List (GuardTree PortName)) (v : Vec (Guard CalPort) Global) → ShowsGuards names trees v.items → ShowsGuard names (AnyOf (guards_of trees)) (variants.Any v)
  any_shown trees v h = record {
    tree = λ later more. guard_tree-Any (port_tree later) v ∙ ap (λ gs. AnyOf (guards_of gs)) (h.trees later more);
    numbers = λ later more. any_numbers later v (h.numbers later more);
  }

  all_many : (trees : List (GuardTree PortName)) → 2 ≤ length trees → AllOf (guards_of trees) ≡ all_of trees
  all_many [] many = absurd (omega (arith, many))
  all_many (g ∷ []) many = absurd (omega (arith, many))
  all_many (g ∷ h ∷ gs) many = refl

  any_many : (trees : List (GuardTree PortName)) → 2 ≤ length trees → AnyOf (guards_of trees) ≡ any_of trees
  any_many [] many = absurd (omega (arith, many))
  any_many (g ∷ []) many = absurd (omega (arith, many))
  any_many (g ∷ h ∷ gs) many = refl

  counted : (trees : List (GuardTree PortName)) (items : List (Guard CalPort)) → ShowsGuards names trees items → length trees ≡ length items
  counted trees items h = sym (ap length (h.trees names (KeepsTexts-refl names))) ∙ length-map items (seen_guard names)

  pub all_of_many : (trees : List (GuardTree PortName)) (v : Vec (Guard CalPort) Global) → 2 ≤ length v.items → ShowsGuards names trees v.items → ShowsGuard names (all_of trees) (variants.All v)
  all_of_many trees v many h =
      let P : GuardTree PortName → Type 0 = λ t. ShowsGuard names t (variants.All v) in
      let same = counted trees v.items h in
      subst P (all_many trees (omega (arith, same, many))) (all_shown trees v h)

  pub any_of_many : (trees : List (GuardTree PortName)) (v : Vec (Guard CalPort) Global) → 2 ≤ length v.items → ShowsGuards names trees v.items → ShowsGuard names (any_of trees) (variants.Any v)
  any_of_many trees v many h =
      let P : GuardTree PortName → Type 0 = λ t. ShowsGuard names t (variants.Any v) in
      let same = counted trees v.items h in
      subst P (any_many trees (omega (arith, same, many))) (any_shown trees v h)

  -- of a list of one it is that one, and of none it is a literal
  module _ (trees : List (GuardTree PortName)) (items : List (Guard CalPort)) (h : ShowsGuards names trees items) where
    pub one_shown : (of : List (GuardTree PortName) → GuardTree PortName) (g : Guard CalPort) → items ≡ g ∷ [] → ((t : GuardTree PortName) → of (t ∷ []) ≡ t) → ShowsGuard names (of trees) g
    one_shown of g is alone = record {
      tree = λ later more.
          let trees_are : seen_guard later g ∷ [] ≡ trees = ap (map (seen_guard later)) (sym is) ∙ h.trees later more in
          sym (alone (seen_guard later g)) ∙ ap of trees_are;
      numbers = λ later more.
          let A : List (Guard CalPort) → Type 0 = All (GuardHasNumbers later) in
          All-head (GuardHasNumbers later) g [] (subst A is (h.numbers later more));
    }

    pub none_shown : (of : List (GuardTree PortName) → GuardTree PortName) (value : ℕ) (b : Box (Src CalPort)) → b.value ≡ Lit 1 value → items ≡ [] → of [] ≡ Reads (Lit 1 value)
        → ShowsGuard names (of trees) (variants.Read b)
    none_shown of value b literal is empty =
        let trees_are : [] ≡ trees = ap (map (seen_guard names)) (sym is) ∙ h.trees names (KeepsTexts-refl names) in
        let P : GuardTree PortName → Type 0 = λ t. ShowsGuard names t (variants.Read b) in
        subst P (sym empty ∙ ap of trees_are) (literal_shown value b literal)

  pub no_trees : (trees : List (GuardTree PortName)) (items : List (Guard CalPort)) → ShowsGuards names trees items → items ≡ [] → [] ≡ trees
  no_trees trees items h is = ap (map (seen_guard names)) (sym is) ∙ h.trees names (KeepsTexts-refl names)

  -- a list of two
  pub both_shown : (one other : GuardTree PortName) (v : Vec (Guard CalPort) Global) → ShowsGuards names (one ∷ other ∷ []) v.items → ShowsGuard names (both one other) (variants.All v)
  both_shown one other v h = all_shown (one ∷ other ∷ []) v h

  pub either_shown : (one other : GuardTree PortName) (v : Vec (Guard CalPort) Global) → ShowsGuards names (one ∷ other ∷ []) v.items → ShowsGuard names (either one other) (variants.Any v)
  either_shown one other v h = any_shown (one ∷ other ∷ []) v h

-- ---- a list of fewer than two

pub one_left : {X : Type 0} (items rest : List X) (x : X) → items ≡ rest ++ x ∷ [] → length items < 2 → items ≡ x ∷ []
one_left items [] x is few = is
one_left items (y ∷ rest) x is few = absurd (omega (arith, ap length is, length-append rest (x ∷ []), few))

pub none_left : {X : Type 0} (items : List X) → length items ≡ 0 → items ≡ []
none_left [] none = refl
none_left (x ∷ items) none = absurd (omega (arith, none))
