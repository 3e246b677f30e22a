-- The cells of a component by the numbers of their names, and the ports that start them.
use Rattle.std.proofs.Common.{◌≡◌, ◌⊎◌, ℕ, zero, suc, ◌+◌, ◌<◌, List, [], ◌∷◌, ◌++◌, length, map, take, set, All, IfSome, Option, Some, None, option_map, Bor, refl, sym, ap, ◌∙◌, subst, inl, inr, arith}
use Rattle.std.specs.Prelude.{Contains, option_and_then, slice_get, slice_index_or}
use Rattle.std.proofs.lemmas.Bool.{cases_order}
use Rattle.std.proofs.lemmas.List.{length-map, length-set}
use Rattle.std.proofs.lemmas.List.Elements.{All-contains, All-set, Contains-append_left, Contains-append_right, Contains-append_cases}
use Rattle.std.proofs.lemmas.Option.{get_or_from_slice_get, same_Some, slice_get-get_or, slice_get-map}
use Rattle.hw_names.proofs.NameLemmas.{id_from_number, same_id, same_number}
use Rattle.hw_names.specs.Name.{AreDistinct, Text, text_of}
use Rattle.hw_names.specs.declared.names.NameId.{NameId}
use Rattle.net_core.specs.Numbers.{IsNumberOf}
use Rattle.cal_ast.proofs.ItemLemmas.{can_invoke, new_cell, statement_item}
use Rattle.cal_ast.proofs.ListLemmas.{place_of, Contains-none, Contains-here, Contains-cases_first, Contains-from_map, Contains-map}
use Rattle.cal_ast.proofs.LookupLemmas.{cell_named-Some}
use Rattle.cal_ast.specs.Invoking.{go_of, made_go}
use Rattle.cal_ast.specs.Items.{control_statements}
use Rattle.cal_ast.specs.Naming.{Unreserved, cell_names}
use Rattle.cal_ast.specs.Numbers.{CellHasNumbers}
use Rattle.cal_ast.specs.Ports.{cell_named, part_of, primitive_of}
use Rattle.cal_ast.specs.Rules.{KeepsRules}
use Rattle.cal_ast.specs.Tree.{CellDef, Invoke, Component, Design, cell_tree}
use Rattle.cal_ast.specs.declared.tree.CalCell.{CalCell}
use Rattle.cal_copy.proofs.CopyLemmas.{take_next}
use Rattle.cal_group.specs.inside.Expansion.{AreNamed, CanStart, HasCells, HoldsCells}
use Rattle.cal_group.specs.declared.expand.CellTable.{CellTable}
use Rattle.cal_group.specs.declared.expand.PortNames.{PortNames}
use Rattle.cal_group.proofs.RuleOfLemmas.{Contains-before}
use Rattle.cal_group.proofs.TableLemmas.{get-set_other, get-set_same}

-- ---- cells that are noted

-- for each of the cells the table has, by the number of its name, one of them with this name
abbrev pub Tells : List CalCell → List (Option (Bor CalCell)) → Type 0
Tells cells table = (cell : CalCell) → Contains cells cell → (last : Bor CalCell) × Contains cells last.now × (last.now.name ≡ cell.name) × (slice_get table cell.name.0 ≡ Some (Some last))

pub tells_none : (table : List (Option (Bor CalCell))) → Tells [] table
tells_none table cell has = absurd (Contains-none cell has)

-- one more
pub tells_more : (cells : List CalCell) (i : ℕ) (x : CalCell) (b : Bor CalCell) (table : List (Option (Bor CalCell))) → slice_get cells i ≡ Some x → b.now ≡ x → x.name.0 < length table → Tells (take i cells) table
    → Tells (take (i + 1) cells) (set table x.name.0 (Some b))
tells_more cells i x b table at same within so_far = λ cell has. by cell (cases_order cell.name.0 x.name.0) (subst (λ (l : List CalCell). Contains l cell) (take_next cells i x at) has)
  where
    grown : (cell : CalCell) → Contains (take i cells ++ x ∷ []) cell → Contains (take (i + 1) cells) cell
    grown cell has = subst (λ (l : List CalCell). Contains l cell) (sym (take_next cells i x at)) has

    earlier : (cell : CalCell) → (cell.name.0 ≡ x.name.0 → ⊥) → (Contains (take i cells) cell) ⊎ (Contains (x ∷ []) cell)
        → (last : Bor CalCell) × Contains (take (i + 1) cells) last.now × (last.now.name ≡ cell.name) × (slice_get (set table x.name.0 (Some b)) cell.name.0 ≡ Some (Some last))
    earlier cell other (inl before) =
        let told = so_far cell before in
        (told.0, grown told.0.now (Contains-append_left (take i cells) (x ∷ []) told.0.now told.1), told.2, get-set_other table cell.name.0 x.name.0 (Some b) other ∙ told.3)
    earlier cell other (inr here) = elim (Contains-cases_first x [] cell here) [
      | inl one ↦ absurd (other (ap (λ (y : CalCell). y.name.0) (sym one)))
      | inr none ↦ absurd (Contains-none cell none)
    ]

    by : (cell : CalCell) → (cell.name.0 ≡ x.name.0) ⊎ ((cell.name.0 < x.name.0) ⊎ (x.name.0 < cell.name.0)) → Contains (take i cells ++ x ∷ []) cell
        → (last : Bor CalCell) × Contains (take (i + 1) cells) last.now × (last.now.name ≡ cell.name) × (slice_get (set table x.name.0 (Some b)) cell.name.0 ≡ Some (Some last))
    by cell (inl one) has = (
      b,
      grown b.now (subst (λ (y : CalCell). Contains (take i cells ++ x ∷ []) y) (sym same) (Contains-append_right (take i cells) (x ∷ []) x (Contains-here x []))),
      ap (λ (y : CalCell). y.name) same ∙ id_from_number x.name cell.name (sym one),
      ap (slice_get (set table x.name.0 (Some b))) one ∙ get-set_same table x.name.0 (Some b) within,
    )
    by cell (inr (inl less)) has = earlier cell (λ one. omega (arith, less, one)) (Contains-append_cases (take i cells) (x ∷ []) cell has)
    by cell (inr (inr more)) has = earlier cell (λ one. omega (arith, more, one)) (Contains-append_cases (take i cells) (x ∷ []) cell has)

-- the table still holds cells that have numbers
pub holds_more : (source : List Text) (table new : CellTable) (i : ℕ) (b : Bor CalCell) → new.by_name.items ≡ set table.by_name.items i (Some b) → CellHasNumbers source b.now → HoldsCells source table → HoldsCells source new
holds_more source table new i b is numbers holds =
    let P : Option (Bor CalCell) → Type 0 = λ found. IfSome found (λ cell. CellHasNumbers source cell.now) in
    let A : List (Option (Bor CalCell)) → Type 0 = All P in
    record {
      sized = ap length is ∙ length-set table.by_name.items i (Some b) ∙ holds.sized;
      numbers = subst A (sym is) (All-set P table.by_name.items i (Some b) numbers holds.numbers);
    }

same_named : (cells : List CellDef) (x y : CellDef) → AreDistinct (map (λ (cell : CellDef). cell.name) cells) → Contains cells x → Contains cells y → x.name ≡ y.name → x ≡ y
same_named cells x y distinct has_x has_y same =
    let name : CellDef → Text = λ cell. cell.name in
    let j = place_of cells x has_x in
    let k = place_of cells y has_y in
    let at_j : slice_get (map name cells) j.0 ≡ Some x.name = slice_get-map name cells j.0 ∙ ap (option_map name) j.1 in
    let at_k : slice_get (map name cells) k.0 ≡ Some x.name = slice_get-map name cells k.0 ∙ ap (option_map name) k.1 ∙ ap Some (sym same) in
    let one : j.0 ≡ k.0 = same_number (map name cells) j.0 k.0 x.name distinct at_j at_k in
    same_Some x y (sym j.1 ∙ ap (slice_get cells) one ∙ k.1)

-- a component's cells by the numbers of their names
pub has_cells : (source : List Text) (c : Component) (cells : List CalCell) (table : CellTable) → AreDistinct source → All (CellHasNumbers source) cells → c.cells ≡ map (cell_tree source) cells
    → AreDistinct (map (λ (cell : CellDef). cell.name) c.cells) → Tells cells table.by_name.items → HasCells c source table
has_cells source c cells table distinct numbers same names tells = λ name cell number found. (
    let first = cell_named-Some c.cells (text_of source name) cell found in
    let own = Contains-from_map (cell_tree source) cells cell (subst (λ (l : List CellDef). Contains l cell) same first.0) in
    let known = All-contains (CellHasNumbers source) cells own.0 numbers own.1 in
    let id : own.0.name ≡ name = same_id source own.0.name name distinct known.0 number (ap (λ (x : CellDef). x.name) own.2 ∙ first.1) in
    let told = tells own.0 own.1 in
    let last : Bor CalCell = told.0 in
    let there : Contains c.cells (cell_tree source last.now) = subst (λ (l : List CellDef). Contains l (cell_tree source last.now)) (sym same) (Contains-map (cell_tree source) cells last.now told.1) in
    let text : text_of source last.now.name ≡ cell.name = ap (text_of source) (told.2 ∙ id) ∙ sym first.1 in
    let is : cell_tree source last.now ≡ cell = same_named c.cells (cell_tree source last.now) cell names there first.0 text in
    let at : slice_get table.by_name.items name.0 ≡ Some (Some last) = ap (λ (n : NameId). slice_get table.by_name.items n.0) (sym id) ∙ told.3 in
    ap (option_map (λ (made : Bor CalCell). cell_tree source made.now)) (get_or_from_slice_get table.by_name.items name.0 (Some last) None at) ∙ ap Some is)

-- ---- the port that starts a cell

-- what is read of the table
pub read_cell : (source : List Text) (table : CellTable) (name : NameId) (found : Option (Bor CalCell)) → HoldsCells source table → IsNumberOf source name → found ≡ slice_index_or table.by_name.items name.0 found
    → slice_index_or table.by_name.items name.0 None ≡ found
read_cell source table name found holds number is =
    let items = table.by_name.items in
    let within : name.0 < length items = omega (arith, number, holds.sized) in
    get_or_from_slice_get items name.0 found None (slice_get-get_or items name.0 found within ∙ ap Some (sym is))

named_cell : (design : Design) (c : Component) (name go : Text) → go_of design c name ≡ Some go → (cell : CellDef) × (cell_named c.cells name ≡ Some cell) × (made_go (primitive_of cell) (part_of design cell) ≡ Some go)
named_cell design c name go is = by (cell_named c.cells name) refl is
  where
    by : (o : Option CellDef) → cell_named c.cells name ≡ o → made_go (option_and_then primitive_of o) (option_and_then (part_of design) o) ≡ Some go
        → (cell : CellDef) × (cell_named c.cells name ≡ Some cell) × (made_go (primitive_of cell) (part_of design cell) ≡ Some go)
    by None e none = absurd (cc)
    by (Some cell) e some = (cell, e, some)

-- the cell that the table has is that of the name
pub starts_from : (source : List Text) (table : CellTable) (design : Design) (c : Component) (name : NameId) (go : Text) (b : Bor CalCell) → IsNumberOf source name → HasCells c source table
    → slice_index_or table.by_name.items name.0 None ≡ Some b → go_of design c (text_of source name) ≡ Some go → (cell : CellDef) × (made_go (primitive_of (cell_tree source b.now)) (part_of design cell) ≡ Some go)
starts_from source table design c name go b number has at is =
    let found = named_cell design c (text_of source name) go is in
    let noted = has name found.0 number found.1 in
    let same : cell_tree source b.now ≡ found.0 = same_Some (cell_tree source b.now) found.0 (sym (ap (option_map (λ (made : Bor CalCell). cell_tree source made.now)) at) ∙ noted) in
    (found.0, ap (λ (cell : CellDef). made_go (primitive_of cell) (part_of design found.0)) same ∙ found.2)

pub starts_none : (source : List Text) (table : CellTable) (design : Design) (c : Component) (name : NameId) (go : Text) → IsNumberOf source name → HasCells c source table
    → slice_index_or table.by_name.items name.0 None ≡ None → go_of design c (text_of source name) ≡ Some go → ⊥
starts_none source table design c name go number has at is =
    let found = named_cell design c (text_of source name) go is in
    let noted = has name found.0 number found.1 in
    let none : ◌≡◌ {A = Option CellDef} None (Some found.0) = sym (ap (option_map (λ (made : Bor CalCell). cell_tree source made.now)) at) ∙ noted in
    cc

-- a cell of no primitive is started by its go
pub part_starts : (names : List Text) (ports : PortNames) (cell : CellDef) (part : Option Component) (go : Text) → primitive_of cell ≡ None → AreNamed names ports → made_go (primitive_of cell) part ≡ Some go
    → slice_get names ports.go.0 ≡ Some go
part_starts names ports cell part go none named is = by part (sym (ap (λ o. made_go o part) none) ∙ is)
  where
    by : (p : Option Component) → made_go None p ≡ Some go → slice_get names ports.go.0 ≡ Some go
    by None e = absurd (cc)
    by (Some c) e = named.go ∙ e

-- ---- what the rules say

some_at : {X : Type 0} (xs : List X) (j : ℕ) → j < length xs → (x : X) × (slice_get xs j ≡ Some x)
some_at [] j within = absurd (omega (arith, within))
some_at (x ∷ xs) zero within = (x, refl)
some_at (x ∷ xs) (suc j) within = some_at xs j (omega (arith, within))

module _ (design : Design) (keeps : KeepsRules design) (n : ℕ) (c : Component) (at : slice_get design n ≡ Some c) where
  -- C1: cells have names of their own
  pub distinct_cells : AreDistinct (map (λ (cell : CellDef). cell.name) c.cells)
  distinct_cells i j d less within same =
      let name : CellDef → Text = λ cell. cell.name in
      let inside : j < length c.cells = omega (arith, within, length-map c.cells name) in
      let x = some_at c.cells i (omega (arith, less, inside)) in
      let y = some_at c.cells j inside in
      let at_x : slice_get (map name c.cells) i ≡ Some x.0.name = slice_get-map name c.cells i ∙ ap (option_map name) x.1 in
      let at_y : slice_get (map name c.cells) j ≡ Some y.0.name = slice_get-map name c.cells j ∙ ap (option_map name) y.1 in
      let one : x.0.name ≡ y.0.name = sym (get_or_from_slice_get (map name c.cells) i x.0.name d at_x) ∙ same ∙ get_or_from_slice_get (map name c.cells) j y.0.name d at_y in
      (new_cell Unreserved design keeps n c at j y.0 y.1).0
      (subst (λ (text : Text). Contains (cell_names (take j c.cells)) text) one (Contains-map name (take j c.cells) x.0 (Contains-before c.cells i j x.0 less x.1)))

  -- C11: invokes are of cells that can be started
  pub can_start : CanStart design c (control_statements c.control)
  can_start cell ins outs there =
      let can = can_invoke Unreserved design keeps n c at (Invoke cell ins outs) (statement_item c (Invoke cell ins outs) there) in
      (can.go, can.starts)
