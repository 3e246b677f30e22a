-- C1 and C2 at cells and at the headers of groups.
use Rattle.std.proofs.Common.{◌≡◌, ◌↔◌, inl, inr, ℕ, zero, suc, ◌<◌, Bool, true, false, not, List, [], ◌∷◌, map, take, slice_get, Contains, Option, Some, None, codes, eqb, refl, sym, ap, subst, ◌∙◌, arith}
use Rattle.std.specs.Bool.{IsTrue}
use Rattle.std.specs.Cmp.Lexicographic.{pointwise}
use Rattle.std.specs.Prelude.{length}
use Rattle.std.proofs.lemmas.Bool.Decides.{Decides-eqb}
use Rattle.std.proofs.lemmas.Slice.Eq.{slice_eq-Decides}
use Rattle.hw_names.specs.Name.{Text}
use Rattle.hw_prims.specs.Table.{is_primitive}
use Rattle.hw_prims.specs.declared.prim.Primitive.{Primitive}
use Rattle.cal_ast.proofs.ListLemmas.{Contains-at}
use Rattle.cal_ast.proofs.LookupLemmas.{part_of-Some, primitive_of-Some}
use Rattle.cal_ast.specs.Naming.{IsKnownCell, IsReserved, IsUnreserved, Involves}
use Rattle.cal_ast.specs.Ports.{is_bare, part_of}
use Rattle.cal_ast.specs.Tree.{CellDef, Component, Design}
use Rattle.cal_place.specs.FirstPlaces.{IsFirst}
use Rattle.cal_place.specs.Prototypes.{IsMadeOf}
use Rattle.cal_place.specs.declared.prototype.Prototype.{Prototype}
use Rattle.cal_place.specs.declared.prototype.Prototype.TheVariants as made
use Rattle.cal_place.proofs.FoundLemmas.{take-map, to_map}
use Rattle.cal_place.proofs.ListLemmas.{told_true}

-- ---- names that are new

-- an element's name stands first where no element before it has the name
pub first_name : {X : Type 0} (f : X → Text) (xs : List X) (k : ℕ) (x : X) → slice_get xs k ≡ Some x → IsFirst (map f xs) (f x) k ↔ ¬ Contains (map f (take k xs)) (f x)
first_name f xs k x at = (
  λ first. subst (λ (names : List Text). ¬ Contains names (f x)) (take-map f k xs) first.new,
  λ absent. record { here = to_map f xs k x at; new = subst (λ (names : List Text). ¬ Contains names (f x)) (sym (take-map f k xs)) absent },
)

-- ---- names that lowering makes

reserved_told : (text : Text) (r : Bool) → r ≡ pointwise eqb (codes "c$") (take 2 text) → IsTrue r ↔ IsReserved text
reserved_told text r is =
    let same = slice_eq-Decides Decides-eqb (codes "c$") (take 2 text) r is in
    (λ t. sym (same.0 t), λ e. same.1 (sym e))

-- in a component that is bare each name is free
pub free_if_bare : (c : Component) (name : Text) (bare : Bool) → bare ≡ is_bare c → bare ≡ true → IsTrue true ↔ IsUnreserved c name
free_if_bare c name bare shown is =
    told_true (IsUnreserved c name) (λ other. let bad : true ≡ false = sym is ∙ shown ∙ other in absurd (cc))

pub free_by_name : (c : Component) (name text : Text) (bare r : Bool) → bare ≡ is_bare c → bare ≡ false → text ≡ name → r ≡ pointwise eqb (codes "c$") (take 2 text) → IsTrue (not r) ↔ IsUnreserved c name
free_by_name c name text bare true shown other named is = (
  λ t. let bad : false ≡ true = t in absurd (cc),
  λ free. absurd (free (sym shown ∙ other) (subst (λ (t : Text). IsReserved t) named ((reserved_told text true is).0 refl))),
)
free_by_name c name text bare false shown other named is = (
  λ t none reserved. let bad : false ≡ true = (reserved_told text false is).1 (subst (λ (t : Text). IsReserved t) (sym named) reserved) in cc,
  λ free. refl,
)

-- ---- what cells are made of

pub stands_there : {X : Type 0} (xs : List X) (k : ℕ) → k < length xs → (x : X) × (slice_get xs k ≡ Some x)
stands_there [] k within = absurd (omega arith)
stands_there (x ∷ xs) zero within = (x, refl)
stands_there (x ∷ xs) (suc k) within = stands_there xs k (omega arith)

module _ (design : Design) (c : Component) (cell : CellDef) where
  -- a cell of a primitive is known
  pub known_primitive : (o : Option Prototype) (prim : Primitive) → o ≡ Some (made.Primitive prim) → IsMadeOf design cell o → IsTrue true ↔ IsKnownCell design c cell
  known_primitive o prim is of =
      let at : IsMadeOf design cell (Some (made.Primitive prim)) = subst (λ (m : Option Prototype). IsMadeOf design cell m) is of in
      told_true (IsKnownCell design c cell) (inl (primitive_of-Some cell prim at.primitive))

  -- a cell of a component is known where that does not lead back
  pub known_part : (o : Option Prototype) (number : ℕ) (back : Bool) → o ≡ Some (made.Component number) → IsMadeOf design cell o
      → ((part : Component) → slice_get design number ≡ Some part → IsTrue back ↔ Involves design c.name part) → IsTrue (not back) ↔ IsKnownCell design c cell
  known_part o number true is of told = (
    λ t. let bad : false ≡ true = t in absurd (cc),
    λ known.
        let at : IsMadeOf design cell (Some (made.Component number)) = subst (λ (m : Option Prototype). IsMadeOf design cell m) is of in
        let part = stands_there design number at.within in
        let made_so : part_of design cell ≡ Some part.0 = at.part ∙ part.1 in
        elim known [
          | inl primitive ↦ (let other = (part_of-Some design cell part.0 made_so).0 in absurd (cc))
          | inr that ↦
              let same : part.0 ≡ that.0 = (let e : Some part.0 ≡ Some that.0 = sym made_so ∙ that.1 in cc) in
              absurd (that.2 (subst (λ (p : Component). Involves design c.name p) same ((told part.0 part.1).0 refl)))
        ],
  )
  known_part o number false is of told = (
    λ t.
        let at : IsMadeOf design cell (Some (made.Component number)) = subst (λ (m : Option Prototype). IsMadeOf design cell m) is of in
        let part = stands_there design number at.within in
        inr (part.0, at.part ∙ part.1, λ reaches. let bad : false ≡ true = (told part.0 part.1).1 reaches in cc),
    λ known. refl,
  )

  -- a cell that is made of nothing is known where its name is a primitive's
  pub known_name : (o : Option Prototype) (text : Text) (r : Bool) → o ≡ None → IsMadeOf design cell o → text ≡ cell.made → r ≡ is_primitive text → IsTrue r ↔ IsKnownCell design c cell
  known_name o text r is of named told =
      let at : IsMadeOf design cell None = subst (λ (m : Option Prototype). IsMadeOf design cell m) is of in
      let same : r ≡ is_primitive cell.made = told ∙ ap is_primitive named in (
        λ t. inl (sym same ∙ t),
        λ known. elim known [
          | inl primitive ↦ same ∙ primitive
          | inr that ↦ (let bad : ◌≡◌ {A = Option Component} None (Some that.0) = sym at.part ∙ that.1 in absurd (cc))
        ],
      )

-- a cell of this component that is made of a component, as code has it
pub made_cell : (design : Design) (c : Component) (number : ℕ) (cell : CellDef) (o : Option Prototype) (part : ℕ) → slice_get c.cells number ≡ Some cell → o ≡ Some (made.Component part) → IsMadeOf design cell o
    → (cell : CellDef) × Contains c.cells cell × IsMadeOf design cell (Some (made.Component part))
made_cell design c number cell o part at is of =
    (cell, Contains-at c.cells number cell at, subst (λ (m : Option Prototype). IsMadeOf design cell m) is of)
