-- Tables by the numbers of names.
use Rattle.std.proofs.Common.{◌≡◌, inl, inr, ℕ, zero, suc, ◌+◌, ◌<◌, List, [], ◌∷◌, length, map, set, Some, refl, sym, ap, ◌∙◌, subst, arith}
use Rattle.std.specs.Prelude.{slice_get, option_map, Contains}
use Rattle.std.proofs.lemmas.List.Elements.{All-contains}
use Rattle.std.proofs.lemmas.Bool.{cases_eq}
use Rattle.std.proofs.lemmas.Option.{slice_get-map, same_Some}
use Rattle.hw_names.proofs.NameLemmas.{id_from_number, same_id}
use Rattle.hw_names.specs.Name.{Text, AreDistinct, text_of}
use Rattle.hw_names.specs.declared.names.NameId.{NameId}
use Rattle.net_core.specs.Numbers.{IsNumberOf}
use Rattle.cal_ast.proofs.ListLemmas.{Contains-at, place_of}
use Rattle.cal_ast.proofs.LookupLemmas.{cell_named-Some}
use Rattle.cal_ast.proofs.SideLemmas.{some_found}
use Rattle.cal_ast.specs.Numbers.{ComponentHasNumbers, CellHasNumbers, GroupHasNumbers}
use Rattle.cal_ast.specs.Ports.{cell_named}
use Rattle.cal_ast.specs.Tree.{CellDef, GroupDef, Component, cell_tree, component_tree, group_tree}
use Rattle.cal_ast.specs.declared.tree.CalCell.{CalCell}
use Rattle.cal_ast.specs.declared.tree.CalComp.{CalComp}
use Rattle.cal_ast.specs.declared.tree.Group.{Group}
use Rattle.cal_walk.specs.Planning.{TellsLast, ShowsNames, NamesGroup, NamesCell, IsGroupAt, IsMadeOf}
use Rattle.cal_walk.specs.declared.planning.Numbers.{Numbers}

module _ {V : Type 0} where
  pub set_same : (xs : List V) (i : ℕ) (v : V) → i < length xs → slice_get (set xs i v) i ≡ Some v
  set_same [] i v within = absurd (omega arith)
  set_same (x ∷ xs) zero v within = refl
  set_same (x ∷ xs) (suc i) v within = set_same xs i v (omega (arith, within))

  pub set_other : (xs : List V) (i j : ℕ) (v : V) → (j ≡ i → ⊥) → slice_get (set xs i v) j ≡ slice_get xs j
  set_other [] i j v other = refl
  set_other (x ∷ xs) zero zero v other = absurd (other refl)
  set_other (x ∷ xs) zero (suc j) v other = refl
  set_other (x ∷ xs) (suc i) zero v other = refl
  set_other (x ∷ xs) (suc i) (suc j) v other = set_other xs i j v (λ e. other (ap suc e))

  pub in_map : {X : Type 0} (f : X → V) (xs : List X) (k : ℕ) (y : V) → slice_get (map f xs) k ≡ Some y → (x : X) × (slice_get xs k ≡ Some x) × (f x ≡ y)
  in_map f xs k y at = some_found f (slice_get xs k) y (sym (slice_get-map f xs k) ∙ at)

module _ {X V : Type 0} (number : X → ℕ) (value : ℕ → X → V) (xs : List X) where
  -- the table tells of the first elements
  abbrev pub Tells : ℕ → List V → Type 0
  Tells n table =
      (k : ℕ) (x : X) → k < n → slice_get xs k ≡ Some x →
      (j : ℕ) × (y : X) × (slice_get xs j ≡ Some y) × (number y ≡ number x) × (slice_get table (number x) ≡ Some (value j y))

  pub tells_more : (n : ℕ) (x : X) (table : List V) → slice_get xs n ≡ Some x → number x < length table → Tells n table → Tells (n + 1) (set table (number x) (value n x))
  tells_more n x table at within so_far k z less there = elim (cases_eq (number z) (number x)) [
    | inl same ↦
        let here : slice_get (set table (number x) (value n x)) (number z) ≡ Some (value n x) =
        ap (slice_get (set table (number x) (value n x))) same ∙ set_same table (number x) (value n x) within in
        (n, x, at, sym same, here)
    | inr other ↦ elim (cases_eq k n) [
      | inl last ↦
          let S : ℕ → Type 0 = λ i. slice_get xs i ≡ Some z in
          let is : z ≡ x = same_Some z x (sym (subst S last there) ∙ at) in
          absurd (other (ap number is))
      | inr earlier ↦
          let old = so_far k z (omega (arith, less, earlier)) there in
          (old.0, old.1, old.2, old.3, set_other table (number x) (number z) (value n x) other ∙ old.4)
    ]
  ]

  pub tells_none : (table : List V) → Tells 0 table
  tells_none table k x less there = absurd (omega (arith, less))

  pub tells_all : (n : ℕ) (table : List V) → ((k : ℕ) (x : X) → slice_get xs k ≡ Some x → k < n) → Tells n table → TellsLast number value xs table
  tells_all n table within tells k x at = tells k x (within k x at) at

-- the tables of a component
module _ (names : List Text) (distinct : AreDistinct names) (comp : CalComp) (has : ComponentHasNumbers names comp) (numbers : Numbers) where
  abbrev c : Component
  c = component_tree names comp

  shows_group : TellsLast (λ (g : Group). g.name.0) (λ number g. number) comp.groups.items numbers.groups.items → (name : NameId) → IsNumberOf names name
      → NamesGroup c (text_of names name) → (k : ℕ) × (slice_get numbers.groups.items name.0 ≡ Some k) × IsGroupAt c (text_of names name) k
  shows_group tells name within (k, (g, at, text)) =
      let own = in_map (group_tree names) comp.groups.items k g at in
      let there : IsNumberOf names own.0.name = (All-contains (GroupHasNumbers names) comp.groups.items own.0 has.groups (Contains-at comp.groups.items k own.0 own.1)).name in
      let same : name ≡ own.0.name = same_id names name own.0.name distinct within there (text ∙ sym (ap (λ (x : GroupDef). x.name) own.2)) in
      let told = tells k own.0 own.1 in
      let other : Group = told.1 in
      let found : slice_get numbers.groups.items name.0 ≡ Some told.0 = ap (λ (id : NameId). slice_get numbers.groups.items id.0) same ∙ told.4 in
      let stands : slice_get c.groups told.0 ≡ Some (group_tree names other) = slice_get-map (group_tree names) comp.groups.items told.0 ∙ ap (option_map (group_tree names)) told.2 in
      let named : text_of names name ≡ text_of names other.name = ap (text_of names) (same ∙ id_from_number own.0.name other.name (sym told.3)) in
      (told.0, found, (group_tree names other, stands, named))

  shows_made : TellsLast (λ (cell : CalCell). cell.name.0) (λ number (cell : CalCell). cell.made) comp.cells.items numbers.made.items
      → ((cell : CellDef) → Contains c.cells cell → cell_named c.cells cell.name ≡ Some cell) → (name : NameId) → IsNumberOf names name → NamesCell c (text_of names name)
      → (made : NameId) × (slice_get numbers.made.items name.0 ≡ Some made) × IsMadeOf names c name made
  shows_made tells itself name within (def, is) =
      let first = cell_named-Some c.cells (text_of names name) def is in
      let k = place_of c.cells def first.0 in
      let own = in_map (cell_tree names) comp.cells.items k.0 def k.1 in
      let there : IsNumberOf names own.0.name = (All-contains (CellHasNumbers names) comp.cells.items own.0 has.cells (Contains-at comp.cells.items k.0 own.0 own.1)).0 in
      let same : name ≡ own.0.name = same_id names name own.0.name distinct within there (sym first.1 ∙ sym (ap (λ (x : CellDef). x.name) own.2)) in
      let told = tells k.0 own.0 own.1 in
      let other : CalCell = told.1 in
      let found : slice_get numbers.made.items name.0 ≡ Some other.made = ap (λ (id : NameId). slice_get numbers.made.items id.0) same ∙ told.4 in
      let number : IsNumberOf names other.made = (All-contains (CellHasNumbers names) comp.cells.items other has.cells (Contains-at comp.cells.items told.0 other told.2)).1 in
      let stands : slice_get c.cells told.0 ≡ Some (cell_tree names other) = slice_get-map (cell_tree names) comp.cells.items told.0 ∙ ap (option_map (cell_tree names)) told.2 in
      let named : text_of names name ≡ text_of names other.name = ap (text_of names) (same ∙ id_from_number own.0.name other.name (sym told.3)) in
      let again : cell_named c.cells (text_of names other.name) ≡ Some (cell_tree names other) = itself (cell_tree names other) (Contains-at c.cells told.0 (cell_tree names other) stands) in
      (other.made, found, record { number = number; def = cell_tree names other; found = ap (cell_named c.cells) named ∙ again; text = refl })

  pub shows_names : TellsLast (λ (g : Group). g.name.0) (λ number g. number) comp.groups.items numbers.groups.items
      → TellsLast (λ (cell : CalCell). cell.name.0) (λ number (cell : CalCell). cell.made) comp.cells.items numbers.made.items
      → ((cell : CellDef) → Contains c.cells cell → cell_named c.cells cell.name ≡ Some cell) → ShowsNames names c numbers
  shows_names groups made itself = record { groups = shows_group groups; made = shows_made made itself }
