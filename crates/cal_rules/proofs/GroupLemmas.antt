-- C7 to C10: groups by their names, and their done lines.
use Rattle.std.proofs.Common.{◌≡◌, ◌≢◌, ◌↔◌, ℕ, zero, suc, ◌<◌, ◌≤◌, Bool, true, false, not, eqb, List, [], ◌∷◌, map, take, slice_get, Option, Some, None, Vec, Global, refl, sym, ap, ◌∙◌, arith}
use Rattle.std.specs.Bool.{IsTrue}
use Rattle.std.specs.Prelude.{vec_len}
use Rattle.hw_names.specs.Name.{Text}
use Rattle.cal_ast.specs.Controlling.{group_named}
use Rattle.cal_ast.specs.Tree.{Component, GroupDef}
use Rattle.cal_rules.specs.inside.Groups.{IsGroup}
use Rattle.cal_rules.proofs.TestLemmas.{vec_empty}

-- ---- done lines

none_mapped : {X Y : Type 0} (f : X → Y) (xs : List X) → map f xs ≡ [] → xs ≡ []
none_mapped f [] e = refl
none_mapped f (x ∷ xs) e = absurd (cc)

-- a group that isn't combinational has a done line
pub some_done : {X Y : Type 0} (f : X → Y) (v : Vec X Global) (comb r : Bool) → comb ≡ false → r ≡ eqb (vec_len v) 0 → IsTrue (not r) ↔ (comb ≡ false → map f v.items ≢ [])
some_done f v comb true other is = (
  λ t. let bad : false ≡ true = t in absurd (cc),
  λ has. absurd (has other (ap (map f) ((vec_empty v true is).0 refl))),
)
some_done f v comb false other is = (
  λ t o e. let bad : false ≡ true = (vec_empty v false is).1 (none_mapped f v.items e) in cc,
  λ has. refl,
)

-- there is an element before each but the first
pub some_before : {X : Type 0} (xs : List X) (k : ℕ) (x : X) → slice_get xs k ≡ Some x → 0 < k → take k xs ≡ [] → ⊥
some_before [] k x at later e = cc
some_before (y ∷ ys) zero x at later e = omega arith
some_before (y ∷ ys) (suc k) x at later e = cc

pub none_before_first : {X : Type 0} (xs : List X) (k : ℕ) → k ≤ 0 → take k xs ≡ []
none_before_first xs zero first = refl
none_before_first xs (suc k) first = absurd (omega arith)

-- a test of what is not so
pub not_told : (b : Bool) → IsTrue (not b) ↔ (b ≡ false)
not_told true = (λ t. let bad : false ≡ true = t in absurd (cc), λ e. absurd (cc))
not_told false = (λ t. refl, λ e. refl)

-- ---- groups by their names

module _ (c : Component) (name : Text) (comb : Bool) where
  -- the group that is found
  pub group_told : (g : GroupDef) → group_named c.groups name ≡ Some g → (g.comb ≡ comb) ↔ IsGroup c name comb
  group_told g found = (
    λ e. (g, found, e),
    λ group.
        let same : g ≡ group.0 = (let e : Some g ≡ Some group.0 = sym found ∙ group.1 in cc) in
        ap (λ (x : GroupDef). x.comb) same ∙ group.2,
  )

  -- there is none
  pub no_group : group_named c.groups name ≡ None → IsGroup c name comb → ⊥
  no_group none group = let bad : ◌≡◌ {A = Option GroupDef} None (Some group.0) = sym none ∙ group.1 in cc
