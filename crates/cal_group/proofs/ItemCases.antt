-- What the items of a component are.
use Rattle.std.proofs.Common.{◌≡◌, ℕ, suc, List, [], ◌∷◌, ◌++◌, map, take, Some, refl, sym, ap, ◌∙◌, subst, inl, inr, append_assoc}
use Rattle.std.specs.Prelude.{Contains, flat_map, slice_get}
use Rattle.std.proofs.lemmas.List.{append-nil}
use Rattle.std.proofs.lemmas.List.Elements.{Contains-append_left, Contains-append_right, Contains-append_cases}
use Rattle.cal_ast.proofs.ItemLemmas.{slice_get-each}
use Rattle.cal_ast.proofs.ListLemmas.{Contains-none, Contains-here, Contains-cases_first, Contains-at, Contains-from_map, Contains-flat_map, Contains-from_flat_map}
use Rattle.cal_ast.specs.Items.{Item, TheSignature, TheCell, TheGroup, TheAssignment, TheDone, TheStatement, each, each_after, group_items, control_statements, items_before_control, items_of}
use Rattle.cal_ast.specs.Tree.{CellDef, Assignment, DoneLine, GroupDef, Statement, Component}

-- an element of a list, with those before it
pub record IsEach {A B : Type 0} (f : List A → A → B) (before xs : List A) (y : B) : Type 0 where
  pub k : ℕ
  pub x : A
  pub at : slice_get xs k ≡ Some x
  pub is : f (before ++ take k xs) x ≡ y

each_after-from : {A B : Type 0} (f : List A → A → B) (before xs : List A) (y : B) → Contains (each_after f before xs) y → IsEach f before xs y
each_after-from f before [] y has = absurd (Contains-none y has)
each_after-from f before (x ∷ xs) y has =
    elim (Contains-cases_first (f before x) (each_after f (before ++ x ∷ []) xs) y has) [
      | inl same ↦ record { k = 0; x = x; at = refl; is = ap (λ l. f l x) (append-nil before) ∙ same }
      | inr there ↦ (let r = each_after-from f (before ++ x ∷ []) xs y there in
          record { k = suc r.k; x = r.x; at = r.at; is = ap (λ l. f l r.x) (sym (append_assoc before (x ∷ []) (take r.k xs))) ∙ r.is })
    ]

pub each-from : {A B : Type 0} (f : List A → A → B) (xs : List A) (y : B) → Contains (each f xs) y → IsEach f [] xs y
each-from f xs y has = each_after-from f [] xs y has

-- an item is the signature, a cell, a header, an assignment or a done line of a group, a continuous assignment or a control statement
pub data ItemCase (c : Component) : Item → Type 0 where
  IsSignature : ItemCase c TheSignature
  IsCell : (k : ℕ) (cell : CellDef) → slice_get c.cells k ≡ Some cell → ItemCase c (TheCell (take k c.cells) cell)
  IsGroup : (k : ℕ) (g : GroupDef) → slice_get c.groups k ≡ Some g → ItemCase c (TheGroup (take k c.groups) g)
  IsSetOf : (g : GroupDef) (a : Assignment) → Contains c.groups g → Contains g.sets a → ItemCase c (TheAssignment a)
  IsDoneOf : (g : GroupDef) (k : ℕ) (d : DoneLine) → Contains c.groups g → slice_get g.dones k ≡ Some d → ItemCase c (TheDone g (take k g.dones) d)
  IsSet : (a : Assignment) → Contains c.sets a → ItemCase c (TheAssignment a)
  IsStatement : (s : Statement) → Contains (control_statements c.control) s → ItemCase c (TheStatement s)

module _ (c : Component) where
  cell_case : (item : Item) → IsEach TheCell [] c.cells item → ItemCase c item
  cell_case item e = subst (ItemCase c) e.is (IsCell e.k e.x e.at)

  in_group_case : (item : Item) (k : ℕ) (g : GroupDef) → slice_get c.groups k ≡ Some g → Contains (group_items (take k c.groups) g) item → ItemCase c item
  in_group_case item k g at has =
      let header = TheGroup (take k c.groups) g in
      let of_c = Contains-at c.groups k g at in
      elim (Contains-append_cases (header ∷ map TheAssignment g.sets) (each (TheDone g) g.dones) item has) [
        | inr done ↦ (let e = each-from (TheDone g) g.dones item done in subst (ItemCase c) e.is (IsDoneOf g e.k e.x of_c e.at))
        | inl first ↦ elim (Contains-cases_first header (map TheAssignment g.sets) item first) [
          | inl same ↦ subst (ItemCase c) same (IsGroup k g at)
          | inr set ↦ (let a = Contains-from_map TheAssignment g.sets item set in subst (ItemCase c) a.2 (IsSetOf g a.0 of_c a.1))
        ]
      ]

  group_case : (item : Item) → Contains (flat_map (λ (items : List Item). items) (each group_items c.groups)) item → ItemCase c item
  group_case item has =
      let items = Contains-from_flat_map (λ (items : List Item). items) (each group_items c.groups) item has in
      let e = each-from group_items c.groups items.0 items.1 in
      in_group_case item e.k e.x e.at (subst (λ (l : List Item). Contains l item) (sym e.is) items.2)

  pub item_case : (item : Item) → Contains (items_of c) item → ItemCase c item
  item_case item has =
      let cells = TheSignature ∷ each TheCell c.cells in
      let groups = flat_map (λ (items : List Item). items) (each group_items c.groups) in
      elim (Contains-append_cases (items_before_control c) (map TheStatement (control_statements c.control)) item has) [
        | inr statement ↦ (let s = Contains-from_map TheStatement (control_statements c.control) item statement in subst (ItemCase c) s.2 (IsStatement s.0 s.1))
        | inl before ↦ elim (Contains-append_cases (cells ++ groups) (map TheAssignment c.sets) item before) [
          | inr set ↦ (let a = Contains-from_map TheAssignment c.sets item set in subst (ItemCase c) a.2 (IsSet a.0 a.1))
          | inl first ↦ elim (Contains-append_cases cells groups item first) [
            | inr group ↦ group_case item group
            | inl cell ↦ elim (Contains-cases_first TheSignature (each TheCell c.cells) item cell) [
              | inl same ↦ subst (ItemCase c) same IsSignature
              | inr later ↦ cell_case item (each-from TheCell c.cells item later)
            ]
          ]
        ]
      ]

-- a statement that is an item is a control statement
pub statement_case : (c : Component) (s : Statement) → Contains (items_of c) (TheStatement s) → Contains (control_statements c.control) s
statement_case c s has = by (TheStatement s) (item_case c (TheStatement s) has) refl
  where
    by : (item : Item) → ItemCase c item → item ≡ TheStatement s → Contains (control_statements c.control) s
    by item IsSignature e = absurd (cc)
    by item (IsCell k cell at) e = absurd (cc)
    by item (IsGroup k g at) e = absurd (cc)
    by item (IsSetOf g a of_c here) e = absurd (cc)
    by item (IsDoneOf g k d of_c at) e = absurd (cc)
    by item (IsSet a here) e = absurd (cc)
    by item (IsStatement t here) e = let same : t ≡ s = cc in subst (λ (x : Statement). Contains (control_statements c.control) x) same here

-- the header of a group is an item
pub header_item : (c : Component) (k : ℕ) (g : GroupDef) → slice_get c.groups k ≡ Some g → Contains (items_of c) (TheGroup (take k c.groups) g)
header_item c k g at =
    let item = TheGroup (take k c.groups) g in
    let cells = TheSignature ∷ each TheCell c.cells in
    let groups = flat_map (λ (items : List Item). items) (each group_items c.groups) in
    let sets = map TheAssignment c.sets in
    let here = Contains-append_left (item ∷ map TheAssignment g.sets) (each (TheDone g) g.dones) item (Contains-here item (map TheAssignment g.sets)) in
    let there = Contains-at (each group_items c.groups) k (group_items (take k c.groups) g) (slice_get-each group_items c.groups k g at) in
    Contains-append_left (items_before_control c) (map TheStatement (control_statements c.control)) item
    (Contains-append_left (cells ++ groups) sets item
    (Contains-append_right cells groups item (Contains-flat_map (λ (items : List Item). items) (each group_items c.groups) (group_items (take k c.groups) g) item there here)))
