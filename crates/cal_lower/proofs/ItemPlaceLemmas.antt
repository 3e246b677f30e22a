-- The places at which the rules of a component without control are judged.
use Rattle.std.proofs.Common.{◌≡◌, inl, inr, ℕ, suc, List, [], ◌∷◌, ◌++◌, map, take, Some, refl, sym, ap, subst, ◌∙◌, append_assoc}
use Rattle.std.specs.Prelude.{Contains, flat_map, slice_get}
use Rattle.std.proofs.lemmas.List.{append-nil}
use Rattle.std.proofs.lemmas.List.Elements.{Contains-append_cases}
use Rattle.cal_ast.proofs.ListLemmas.{Contains-none, Contains-cases_first, Contains-from_map, Contains-from_flat_map, Contains-at}
use Rattle.cal_ast.specs.Items.{Item, TheSignature, TheCell, TheGroup, TheAssignment, TheDone, TheStatement, each, each_after, group_items, control_statements, items_before_control, items_of}
use Rattle.cal_ast.specs.Tree.{CellDef, Assignment, DoneLine, GroupDef, Absent, Component}

-- where an element of what a list with those before it is made into comes from
record IsEach (X Y : Type 0) (f : List X → X → Y) (before xs : List X) (y : Y) : Type 0 where
  k : ℕ
  x : X
  at : slice_get xs k ≡ Some x
  is : f (before ++ take k xs) x ≡ y

from_each : (X Y : Type 0) (f : List X → X → Y) (before xs : List X) (y : Y) → Contains (each_after f before xs) y → IsEach X Y f before xs y
from_each X Y f before [] y has = absurd (Contains-none y has)
from_each X Y f before (x ∷ xs) y has = elim (Contains-cases_first (f before x) (each_after f (before ++ x ∷ []) xs) y has) [
  | inl same ↦ record { k = 0; x = x; at = refl; is = ap (λ (zs : List X). f zs x) (append-nil before) ∙ same }
  | inr later ↦
      let m = from_each X Y f (before ++ x ∷ []) xs y later in
      record { k = suc m.k; x = m.x; at = m.at; is = ap (λ (zs : List X). f zs m.x) (sym (append_assoc before (x ∷ []) (take m.k xs))) ∙ m.is }
]

pub data IsPlace (c : Component) : Item → Type 0 where
  Signs : IsPlace c TheSignature
  HasCell : (k : ℕ) (cell : CellDef) → slice_get c.cells k ≡ Some cell → IsPlace c (TheCell (take k c.cells) cell)
  HasGroup : (k : ℕ) (g : GroupDef) → slice_get c.groups k ≡ Some g → IsPlace c (TheGroup (take k c.groups) g)
  Assigns : (a : Assignment) → Contains c.sets a → IsPlace c (TheAssignment a)
  AssignsIn : (g : GroupDef) (a : Assignment) → Contains c.groups g → Contains g.sets a → IsPlace c (TheAssignment a)
  IsDone : (g : GroupDef) (k : ℕ) (l : DoneLine) → Contains c.groups g → slice_get g.dones k ≡ Some l → IsPlace c (TheDone g (take k g.dones) l)

module _ (c : Component) (absent : c.control ≡ Absent) where
  abbrev P : Item → Type 0
  P item = IsPlace c item

  cell_place : (item : Item) → Contains (TheSignature ∷ each TheCell c.cells) item → IsPlace c item
  cell_place item has = elim (Contains-cases_first TheSignature (each TheCell c.cells) item has) [
    | inl same ↦ subst P same Signs
    | inr later ↦ (let m = from_each CellDef Item TheCell [] c.cells item later in subst P m.is (HasCell m.k m.x m.at))
  ]

  group_place : (item : Item) → Contains (flat_map (λ (items : List Item). items) (each group_items c.groups)) item → IsPlace c item
  group_place item has =
      let r = Contains-from_flat_map (λ (items : List Item). items) (each group_items c.groups) item has in
      let m = from_each GroupDef (List Item) group_items [] c.groups r.0 r.1 in
      let I : List Item → Type 0 = λ items. Contains items item in
      let here : Contains (group_items (take m.k c.groups) m.x) item = subst I (sym m.is) r.2 in
      let of : Contains c.groups m.x = Contains-at c.groups m.k m.x m.at in
      elim (Contains-append_cases (TheGroup (take m.k c.groups) m.x ∷ map TheAssignment m.x.sets) (each (TheDone m.x) m.x.dones) item here) [
        | inl front ↦ elim (Contains-cases_first (TheGroup (take m.k c.groups) m.x) (map TheAssignment m.x.sets) item front) [
          | inl same ↦ subst P same (HasGroup m.k m.x m.at)
          | inr set ↦ (let a = Contains-from_map TheAssignment m.x.sets item set in subst P a.2 (AssignsIn m.x a.0 of a.1))
        ]
        | inr done ↦ (let l = from_each DoneLine Item (TheDone m.x) [] m.x.dones item done in subst P l.is (IsDone m.x l.k l.x of l.at))
      ]

  pub place_of_item : (item : Item) → Contains (items_of c) item → IsPlace c item
  place_of_item item has = elim (Contains-append_cases (items_before_control c) (map TheStatement (control_statements c.control)) item has) [
    | inl front ↦
        let cells : List Item = TheSignature ∷ each TheCell c.cells in
        let groups : List Item = flat_map (λ (items : List Item). items) (each group_items c.groups) in
        elim (Contains-append_cases (cells ++ groups) (map TheAssignment c.sets) item front) [
          | inl start ↦ elim (Contains-append_cases cells groups item start) [ inl h ↦ cell_place item h | inr h ↦ group_place item h ]
          | inr set ↦ (let a = Contains-from_map TheAssignment c.sets item set in subst P a.2 (Assigns a.0 a.1))
        ]
    | inr statement ↦
        let none : map TheStatement (control_statements c.control) ≡ [] = ap (λ control. map TheStatement (control_statements control)) absent in
        let I : List Item → Type 0 = λ items. Contains items item in
        absurd (Contains-none item (subst I none statement))
  ]
