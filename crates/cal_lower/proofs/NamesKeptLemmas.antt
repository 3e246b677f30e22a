-- The names of an extended design: components keep theirs, cells are apart, and what cells reach is what they reached.
use Rattle.std.proofs.Common.{◌≡◌, ◌≢◌, inl, inr, ℕ, zero, suc, ◌<◌, List, [], ◌∷◌, ◌++◌, take, false, Some, None, refl, sym, ap, ap₂, subst, ◌∙◌, arith}
use Rattle.std.specs.Prelude.{Contains, slice_get}
use Rattle.std.proofs.lemmas.Bool.{cases_Bool, cond-true, cond-false}
use Rattle.std.proofs.lemmas.List.Elements.{Contains-append_cases}
use Rattle.hw_names.specs.Name.{Text}
use Rattle.hw_prims.specs.Table.{is_primitive}
use Rattle.cal_ast.proofs.ItemLemmas.{new_cell}
use Rattle.cal_ast.proofs.ListLemmas.{place_of, Contains-at, Contains-none, Contains-cases_first, Contains-map}
use Rattle.cal_ast.proofs.SideLemmas.{some_found}
use Rattle.cal_ast.specs.Naming.{AnyName, IsReserved, Involves, Itself, Over, cell_names, component_names}
use Rattle.cal_ast.specs.NoInvoke.{IsPlainDesign}
use Rattle.cal_ast.specs.Plain.{HasPlainTree}
use Rattle.cal_ast.specs.Ports.{is_bare, component_named, part_of}
use Rattle.cal_ast.specs.Tree.{CellDef, Component, Design}
use Rattle.cal_lower.specs.inside.Added.{Additions, extended}
use Rattle.cal_lower.proofs.ExtendedLemmas.{AreOfPrimitives, AreNamed, CellsApart, answer, extended_name, extended_cells, added_cells, added_is_primitive, part_of-extended}
use Rattle.cal_lower.proofs.ListLemmas.{Each, each_from, each_at, each_weaker}
use Rattle.cal_lower.proofs.SourceLemmas.{Contains-before}

-- ---- components

module _ (add : Additions) where
  pub component_names-extended : (cs : Design) → component_names (answer add cs) ≡ component_names cs
  component_names-extended [] = refl
  component_names-extended (c ∷ cs) = ap₂ (λ (x : Text) (xs : List Text). x ∷ xs) (extended_name add c) (component_names-extended cs)

  pub take-extended : (n : ℕ) (cs : Design) → take n (answer add cs) ≡ answer add (take n cs)
  take-extended zero cs = refl
  take-extended (suc n) [] = refl
  take-extended (suc n) (c ∷ cs) = ap (λ (ds : Design). extended add c ∷ ds) (take-extended n cs)

-- ---- cells that are apart

both_apart : (x : CellDef) (xs ys : List CellDef) → Each (λ (y : CellDef). x.name ≢ y.name) xs → Each (λ (y : CellDef). x.name ≢ y.name) ys
    → Each (λ (y : CellDef). x.name ≢ y.name) (xs ++ ys)
both_apart x [] ys one other = other
both_apart x (z ∷ xs) ys one other = (one.0, both_apart x xs ys one.1 other)

pub cells_append : (xs ys : List CellDef) → CellsApart xs → CellsApart ys → Each (λ (x : CellDef). Each (λ (y : CellDef). x.name ≢ y.name) ys) xs → CellsApart (xs ++ ys)
cells_append [] ys left right across = right
cells_append (x ∷ xs) ys left right across = (both_apart x xs ys left.0 across.0, cells_append xs ys left.1 right across.1)

cells_from : (xs : List CellDef) → ((j k : ℕ) (x y : CellDef) → j < k → slice_get xs j ≡ Some x → slice_get xs k ≡ Some y → x.name ≢ y.name) → CellsApart xs
cells_from [] apart = tt
cells_from (x ∷ xs) apart = (
  each_from (λ (y : CellDef). x.name ≢ y.name) xs (λ y has. let p = place_of xs y has in apart 0 (suc p.0) x y (omega arith) refl p.1),
  cells_from xs (λ j k a b less one other. apart (suc j) (suc k) a b (omega arith) one other),
)

-- a cell's name is no earlier one's
pub not_earlier : (xs : List CellDef) → CellsApart xs → (k : ℕ) (x : CellDef) → slice_get xs k ≡ Some x → Contains (cell_names (take k xs)) x.name → ⊥
not_earlier [] apart k x at has = absurd (cc)
not_earlier (y ∷ ys) apart zero x at has = Contains-none x.name has
not_earlier (y ∷ ys) apart (suc k) x at has = elim (Contains-cases_first y.name (cell_names (take k ys)) x.name has) [
  | inl same ↦ each_at (λ (z : CellDef). y.name ≢ z.name) ys x apart.0 (Contains-at ys k x at) same
  | inr there ↦ not_earlier ys apart.1 k x at there
]

module _ (add : Additions) (source : Design) (tree : HasPlainTree source) (plain : IsPlainDesign source) (n : ℕ) (c : Component) (at : slice_get source n ≡ Some c)
    (named : is_bare c ≡ false → AreNamed add c) where
  own_apart : CellsApart c.cells
  own_apart = cells_from c.cells (λ j k x y less one other same.
      (new_cell AnyName source plain.keeps n c at k y other).0
      (subst (λ z. Contains (cell_names (take k c.cells)) z) same (Contains-map (λ (z : CellDef). z.name) (take k c.cells) x (Contains-before c.cells j k x less one))))

  own_or_added : is_bare c ≡ false → (x : CellDef) → Contains c.cells x → Each (λ (y : CellDef). x.name ≢ y.name) (add.cells c)
  own_or_added full x has =
      let k = place_of c.cells x has in
      let R : Text → Type 0 = λ name. IsReserved name in
      each_weaker (λ (y : CellDef). IsReserved y.name) (λ (y : CellDef). x.name ≢ y.name)
      (λ y reserved same. (new_cell AnyName source plain.keeps n c at k.0 x k.1).1 full (subst R (sym same) reserved)) (add.cells c) (named full).reserved

  pub extended_apart : CellsApart (extended add c).cells
  extended_apart =
      let A : List CellDef → Type 0 = λ xs. CellsApart xs in
      let P : List CellDef → Type 0 = λ xs. CellsApart (c.cells ++ xs) in
      subst A (sym (extended_cells add c)) (elim (cases_Bool (is_bare c)) [
        | inl bare ↦ subst P (sym (cond-true (is_bare c) [] (add.cells c) bare)) (cells_append c.cells [] own_apart tt (each_from (λ (x : CellDef). Unit {0}) c.cells (λ x has. tt)))
        | inr full ↦ subst P (sym (cond-false (is_bare c) [] (add.cells c) full))
            (cells_append c.cells (add.cells c) own_apart (named full).apart
            (each_from (λ (x : CellDef). Each (λ (y : CellDef). x.name ≢ y.name) (add.cells c)) c.cells (own_or_added full)))
      ])

-- ---- what cells reach

module _ (add : Additions) (primitive : AreOfPrimitives add) (source : Design) where
  -- what an extended component reaches, its source does
  pub reach_back : (name : Text) (d : Component) → Involves (answer add source) name d → (c : Component) → extended add c ≡ d → Involves source name c
  reach_back name d (Itself _ same) c is = Itself c (sym (extended_name add c) ∙ ap (λ (x : Component). x.name) is ∙ same)
  reach_back name d (Over _ part cell has made rest) c is =
      let C : Component → Type 0 = λ x. Contains x.cells cell in
      let L : List CellDef → Type 0 = λ xs. Contains xs cell in
      let here : Contains (c.cells ++ added_cells add c) cell = subst L (extended_cells add c) (subst C (sym is) has) in
      elim (Contains-append_cases c.cells (added_cells add c) cell here) [
        | inl own ↦
            let p = some_found (extended add) (part_of source cell) part (sym (part_of-extended add primitive source cell) ∙ made) in
            Over c p.0 cell own p.1 (reach_back name part rest p.0 p.2)
        | inr added ↦
            let none : None ≡ Some part =
            sym (cond-true (is_primitive cell.made) None (component_named (answer add source) cell.made) (added_is_primitive add primitive source c cell added)) ∙ made in
            absurd (cc)
      ]
