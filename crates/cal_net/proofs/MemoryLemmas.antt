-- The shown cells of a flattened design are the observable memories of its top, in their order.
use Rattle.std.proofs.Common.{◌≡◌, ◌≢◌, suc, true, false, ◌&&◌, Bool, List, [], ◌∷◌, ◌++◌, cond, filter, flat_map, map, All, Option, Some, None, append-nil, refl, ap, ap₂, ◌∙◌, arith}
use Rattle.std.specs.Option.{option_map_or}
use Rattle.std.specs.Prelude.{is_some}
use Rattle.std.proofs.lemmas.Bool.{false≢true}
use Rattle.std.proofs.lemmas.List.Elements.{All-head, All-tail, filter-append}
use Rattle.hw_names.specs.Name.{Path, Text}
use Rattle.hw_prims.specs.Table.{is_memory, is_primitive, names_memory, prim_name}
use Rattle.hw_prims.specs.declared.name.PrimName.{PrimName}
use Rattle.net_core.specs.Netlist.{CellLine, Netlist}
use Rattle.cal_ast.specs.Keeping.{IsAddedCell, KeepsComponentShape, flat_cell}
use Rattle.cal_ast.specs.Observable.{observable_memories}
use Rattle.cal_ast.specs.Tree.{CellDef, Component, Design}
use Rattle.net_flat.specs.Listing.{Instance, IsListing, cells_at}
use Rattle.net_sim.specs.Shown.{is_shown, shown_cells}
use Rattle.cal_net.proofs.CellLemmas.{no_second}
use Rattle.cal_net.specs.Face.{face}

-- a memory's name is a primitive's
memory_primitive : (name : Text) → is_memory name ≡ true → is_primitive name ≡ true
unfolding is_memory is_primitive
memory_primitive name memory = by (prim_name name) memory
  where
    by : (o : Option PrimName) → option_map_or names_memory o false ≡ true → is_some o ≡ true
    by None e = absurd (false≢true e)
    by (Some p) e = refl

second_part : (a b : Bool) → (a && b) ≡ true → b ≡ true
second_part true b e = e
second_part false b e = absurd (false≢true e)

abbrev is_made : CellDef → Bool
is_made cell = is_primitive cell.made

abbrev is_observable : CellDef → Bool
is_observable cell = cell.external && is_memory cell.made

-- ---- the top

one_more : (x : CellDef) (made seen : Bool) (xs kept : List CellDef) → (flat_cell [] x).shown ≡ seen → (seen ≡ true → made ≡ true) → filter is_shown (map (flat_cell []) xs) ≡ map (flat_cell []) kept
    → filter is_shown (map (flat_cell []) (cond made (x ∷ xs) xs)) ≡ map (flat_cell []) (cond seen (x ∷ kept) kept)
one_more x true true xs kept e so rest =
    let shown : List CellLine = filter is_shown (map (flat_cell []) xs) in
    ap (λ (b : Bool). cond b (flat_cell [] x ∷ shown) shown) e ∙ ap (λ (lines : List CellLine). flat_cell [] x ∷ lines) rest
one_more x true false xs kept e so rest =
    let shown : List CellLine = filter is_shown (map (flat_cell []) xs) in
    ap (λ (b : Bool). cond b (flat_cell [] x ∷ shown) shown) e ∙ rest
one_more x false true xs kept e so rest = absurd (false≢true (so refl))
one_more x false false xs kept e so rest = rest

own_shown : (cells : List CellDef) → filter is_shown (map (flat_cell []) (filter is_made cells)) ≡ map (flat_cell []) (filter is_observable cells)
own_shown [] = refl
own_shown (x ∷ cells) =
    one_more x (is_made x) (is_observable x) (filter is_made cells) (filter is_observable cells) refl
    (λ seen. memory_primitive x.made (second_part x.external (is_memory x.made) seen)) (own_shown cells)

-- ---- the others

hidden_off_top : (path : Path) (cell : CellDef) → [] ≢ path → (flat_cell path cell).shown ≡ false
hidden_off_top [] cell below = absurd (below refl)
hidden_off_top (s ∷ path) cell below = refl

none_of : (path : Path) (cells : List CellDef) → [] ≢ path → filter is_shown (map (flat_cell path) cells) ≡ []
none_of path [] below = refl
none_of path (x ∷ cells) below =
    let shown : List CellLine = filter is_shown (map (flat_cell path) cells) in
    ap (λ (b : Bool). cond b (flat_cell path x ∷ shown) shown) (hidden_off_top path x below) ∙ none_of path cells below

abbrev IsBelow : Instance → Type 0
IsBelow i = [] ≢ i.0

none_below : (others : List Instance) → All IsBelow others → filter is_shown (flat_map cells_at others) ≡ []
none_below [] all = refl
none_below (i ∷ others) all =
    filter-append is_shown (cells_at i) (flat_map cells_at others)
    ∙ ap₂ ◌++◌ (none_of i.0 (filter is_made i.1.cells) (All-head IsBelow i others all)) (none_below others (All-tail IsBelow i others all))

-- ---- what is added

added_hidden : (added : List CellDef) → All IsAddedCell added → filter is_observable added ≡ []
added_hidden [] all = refl
added_hidden (x ∷ added) all =
    let kept : List CellDef = filter is_observable added in
    ap (λ (b : Bool). cond b (x ∷ kept) kept) (ap (λ (memory : Bool). x.external && memory) (All-head IsAddedCell x added all).no_memory ∙ no_second x.external)
    ∙ added_hidden added (All-tail IsAddedCell x added all)

module _ (c d : Component) (is : KeepsComponentShape c d) where
  observable_kept : observable_memories d ≡ observable_memories c
  observable_kept =
      ap (filter is_observable) is.cells
      ∙ filter-append is_observable c.cells is.added
      ∙ ap (λ (kept : List CellDef). filter is_observable c.cells ++ kept) (added_hidden is.added is.are_added)
      ∙ append-nil (filter is_observable c.cells)

  pub memories_shown : (design : Design) (n : Netlist) → IsListing design d n → shown_cells n ≡ (face c).cells
  memories_shown design n listing =
      let below : All IsBelow listing.others = λ k i within. listing.once 0 (suc k) i (omega arith) (omega (arith, within)) in
      ap (filter is_shown) listing.cells
      ∙ filter-append is_shown (cells_at ([], d)) (flat_map cells_at listing.others)
      ∙ ap₂ ◌++◌ (own_shown d.cells) (none_below listing.others below)
      ∙ append-nil (map (flat_cell []) (observable_memories d))
      ∙ ap (map (flat_cell [])) observable_kept
