-- How many items stand before the control statements, and that no invoke is among them.
use Rattle.std.proofs.Common.{◌≡◌, ℕ, suc, ◌+◌, ◌≤◌, List, [], ◌∷◌, ◌++◌, length, map, take, Some, refl, sym, ap, ap₂, ◌∙◌, arith}
use Rattle.std.specs.Prelude.{flat_map, slice_get}
use Rattle.std.proofs.lemmas.List.{length-append, length-map, map_push, take_all}
use Rattle.hw_names.specs.Name.{Text}
use Rattle.cal_ast.specs.Invoking.{InvokeDef, invokes_among, invokes_in}
use Rattle.cal_ast.specs.Items.{Item, TheSignature, TheCell, TheGroup, TheAssignment, TheDone, TheStatement, each, each_after, group_items, control_statements, items_before_control}
use Rattle.cal_ast.specs.Tree.{CellDef, Assignment, DoneLine, GroupDef, Invoke, Component, assignment_tree, cell_tree, component_tree, done_tree, group_tree}
use Rattle.cal_ast.specs.declared.tree.CalComp.{CalComp}
use Rattle.cal_ast.specs.declared.tree.Group.{Group}
use Rattle.cal_copy.proofs.CopyLemmas.{take_next}

-- ---- how many

length-each_after : {A B : Type 0} (f : List A → A → B) (before xs : List A) → length (each_after f before xs) ≡ length xs
length-each_after f before [] = refl
length-each_after f before (x ∷ xs) = ap suc (length-each_after f (before ++ x ∷ []) xs)

abbrev pub flat : List (List Item) → List Item
flat sections = flat_map (λ items. items) sections

-- the items of groups
abbrev pub counted : List GroupDef → ℕ
counted [] = 0
counted (g ∷ gs) = 1 + length g.sets + length g.dones + counted gs

length-group_items : (before : List GroupDef) (g : GroupDef) → length (group_items before g) ≡ 1 + length g.sets + length g.dones
length-group_items before g =
    omega (arith, length-append (TheGroup before g ∷ map TheAssignment g.sets) (each (TheDone g) g.dones), length-map g.sets TheAssignment, length-each_after (TheDone g) [] g.dones)

pub length-groups : (before gs : List GroupDef) → length (flat (each_after group_items before gs)) ≡ counted gs
length-groups before [] = refl
length-groups before (g ∷ gs) =
    omega (arith, length-append (group_items before g) (flat (each_after group_items (before ++ g ∷ []) gs)), length-group_items before g, length-groups (before ++ g ∷ []) gs)

pub counted_push : (gs : List GroupDef) (g : GroupDef) → counted (gs ++ g ∷ []) ≡ counted gs + 1 + length g.sets + length g.dones
counted_push [] g = omega arith
counted_push (x ∷ gs) g = omega (arith, counted_push gs g)

pub count_before : (c : Component) → length (items_before_control c) ≡ 1 + length c.cells + length c.sets + counted c.groups
count_before c =
    let cells = TheSignature ∷ each TheCell c.cells in
    let groups = flat (each group_items c.groups) in
    let sets = map TheAssignment c.sets in
    omega (
      arith,
      length-append (cells ++ groups) sets,
      length-append cells groups,
      length-each_after TheCell [] c.cells,
      length-groups [] c.groups,
      length-map c.sets TheAssignment,
    )

-- ---- invokes

with_first : (k : ℕ) (x : Item) (xs ys : List Item) → invokes_among (k + 1) (xs ++ ys) ≡ invokes_among (k + 1) xs ++ invokes_among (k + 1 + length xs) ys
    → invokes_among k (x ∷ (xs ++ ys)) ≡ invokes_among k (x ∷ xs) ++ invokes_among (k + length (x ∷ xs)) ys
with_first k x xs ys others = by x
  where
    next : k + length (x ∷ xs) ≡ k + 1 + length xs
    next = omega arith

    rest : invokes_among (k + 1) (xs ++ ys) ≡ invokes_among (k + 1) xs ++ invokes_among (k + length (x ∷ xs)) ys
    rest = others ∙ ap (λ (n : ℕ). invokes_among (k + 1) xs ++ invokes_among n ys) (sym next)

    by : (item : Item) → invokes_among k (item ∷ (xs ++ ys)) ≡ invokes_among k (item ∷ xs) ++ invokes_among (k + length (x ∷ xs)) ys
    by (TheStatement (Invoke cell ins outs)) =
        let i : InvokeDef = record { item = k; cell = cell; ins = ins; outs = outs } in
        ap (λ (is : List InvokeDef). i ∷ is) rest
    by item = rest

pub invokes_both : (k : ℕ) (xs ys : List Item) → invokes_among k (xs ++ ys) ≡ invokes_among k xs ++ invokes_among (k + length xs) ys
invokes_both k [] ys = let same : k ≡ k + 0 = omega arith in ap (λ (n : ℕ). invokes_among n ys) same
invokes_both k (x ∷ xs) ys = with_first k x xs ys (invokes_both (k + 1) xs ys)

-- no item is an invoke
abbrev HasNone : List Item → Type 0
HasNone items = (k : ℕ) → invokes_among k items ≡ []

none_both : (xs ys : List Item) → HasNone xs → HasNone ys → HasNone (xs ++ ys)
none_both xs ys first second k = invokes_both k xs ys ∙ ap₂ ◌++◌ (first k) (second (k + length xs))

none_sets : (sets : List Assignment) → HasNone (map TheAssignment sets)
none_sets [] k = refl
none_sets (a ∷ sets) k = none_sets sets (k + 1)

none_cells : (before cells : List CellDef) → HasNone (each_after TheCell before cells)
none_cells before [] k = refl
none_cells before (x ∷ cells) k = none_cells (before ++ x ∷ []) cells (k + 1)

none_dones : (g : GroupDef) (before dones : List DoneLine) → HasNone (each_after (TheDone g) before dones)
none_dones g before [] k = refl
none_dones g before (d ∷ dones) k = none_dones g (before ++ d ∷ []) dones (k + 1)

none_group : (before : List GroupDef) (g : GroupDef) → HasNone (group_items before g)
none_group before g = none_both (TheGroup before g ∷ map TheAssignment g.sets) (each (TheDone g) g.dones) (λ k. none_sets g.sets (k + 1)) (none_dones g [] g.dones)

none_groups : (before gs : List GroupDef) → HasNone (flat (each_after group_items before gs))
none_groups before [] k = refl
none_groups before (g ∷ gs) k = none_both (group_items before g) (flat (each_after group_items (before ++ g ∷ []) gs)) (none_group before g) (none_groups (before ++ g ∷ []) gs) k

-- the invokes of a component are those among its control statements
pub invokes_after : (c : Component) → invokes_in c ≡ invokes_among (length (items_before_control c)) (map TheStatement (control_statements c.control))
invokes_after c =
    let cells = TheSignature ∷ each TheCell c.cells in
    let groups = flat (each group_items c.groups) in
    let sets = map TheAssignment c.sets in
    let before : HasNone (items_before_control c) = none_both (cells ++ groups) sets (none_both cells groups (λ k. none_cells [] c.cells (k + 1)) (none_groups [] c.groups)) (none_sets c.sets) in
    let after = map TheStatement (control_statements c.control) in
    let count : 0 + length (items_before_control c) ≡ length (items_before_control c) = omega arith in
    invokes_both 0 (items_before_control c) after ∙ ap₂ ◌++◌ (before 0) (ap (λ n. invokes_among n after) count)

-- ---- groups, one after another

module _ (names : List Text) where
  pub counted_more : (groups : List Group) (i : ℕ) (g : Group) (count next : ℕ) → slice_get groups i ≡ Some g → count ≡ counted (map (group_tree names) (take i groups))
      → next ≡ 1 + length g.sets.items + length g.dones.items + count → next ≡ counted (map (group_tree names) (take (i + 1) groups))
  counted_more groups i g count next at so_far is =
      let tree = group_tree names in
      let one : counted (map tree (take (i + 1) groups)) ≡ counted (map tree (take i groups)) + 1 + length (map (assignment_tree names) g.sets.items) + length (map (done_tree names) g.dones.items) =
      ap (λ (gs : List Group). counted (map tree gs)) (take_next groups i g at) ∙ ap counted (map_push tree (take i groups) g) ∙ counted_push (map tree (take i groups)) (tree g) in
      omega (arith, one, length-map g.sets.items (assignment_tree names), length-map g.dones.items (done_tree names), so_far, is)

  -- how many items the groups of a component have
  abbrev pub group_count : List Group → ℕ
  group_count groups = length (flat (each group_items (map (group_tree names) groups)))

  pub counted_all : (groups : List Group) (i count : ℕ) → length groups ≤ i → count ≡ counted (map (group_tree names) (take i groups))
      → count ≡ group_count groups
  counted_all groups i count past so_far =
      so_far ∙ ap (λ (gs : List Group). counted (map (group_tree names) gs)) (take_all i groups past) ∙ sym (length-groups [] (map (group_tree names) groups))

  pub first_item : (comp : CalComp) (groups item : ℕ) → groups ≡ group_count comp.groups.items
      → item ≡ 1 + length comp.cells.items + length comp.sets.items + groups → item ≡ length (items_before_control (component_tree names comp))
  first_item comp groups item of_groups is =
      omega (
        arith,
        count_before (component_tree names comp),
        length-groups [] (map (group_tree names) comp.groups.items),
        length-map comp.cells.items (cell_tree names),
        length-map comp.sets.items (assignment_tree names),
        of_groups,
        is,
      )
