-- The items of a component, and what the rules say at each: at the signature, at a cell, at an assignment, at a done line and at a control statement.
use Rattle.std.proofs.Common.{◌≡◌, ℕ, zero, suc, List, [], ◌∷◌, ◌++◌, map, take, Some, sym, ap, ◌∙◌, append_assoc, arith}
use Rattle.std.specs.Prelude.{All, Contains, flat_map, slice_get}
use Rattle.std.proofs.lemmas.List.{append-nil}
use Rattle.std.proofs.lemmas.List.Elements.{Contains-append_left, Contains-append_right}
use Rattle.std.proofs.lemmas.Option.{slice_get-get_or}
use Rattle.hw_names.specs.Name.{AreDistinct}
use Rattle.hw_prims.specs.Table.{pin_names}
use Rattle.cal_ast.proofs.ListLemmas.{place_of, Contains-at, Contains-here, Contains-map, Contains-flat_map}
use Rattle.cal_ast.specs.Controlling.{Invokes}
use Rattle.cal_ast.specs.Items.{Item, TheSignature, TheCell, TheGroup, TheAssignment, TheDone, TheStatement, each, each_after, group_items, control_statements, items_before_control, items_of}
use Rattle.cal_ast.specs.Naming.{GroupNaming, IsNewCell, IsKnownCell, NamesKnown, DoneNamesKnown, StatementNamesKnown}
use Rattle.cal_ast.specs.Ports.{inputs_in, outputs_in}
use Rattle.cal_ast.specs.Rules.{C1, Keeps, KeepsRulesUnder, all_rules}
use Rattle.cal_ast.specs.Sides.{DrivesDestination, ReadsSources, DoneReadsSources, StatementDrives, StatementReads}
use Rattle.cal_ast.specs.Tree.{CellDef, Assignment, DoneLine, GroupDef, Statement, Component, Design}
use Rattle.cal_ast.specs.Typing.{HasWidths, HasParameters, WidthsAgree}

slice_get-each_after : {A B : Type 0} (f : List A → A → B) (before xs : List A) (k : ℕ) (x : A) → slice_get xs k ≡ Some x → slice_get (each_after f before xs) k ≡ Some (f (before ++ take k xs) x)
slice_get-each_after f before [] k x at = absurd (cc)
slice_get-each_after f before (y ∷ ys) zero x at =
    let is : y ≡ x = cc in
    ap (λ z. Some (f before z)) is ∙ ap (λ l. Some (f l x)) (sym (append-nil before))
slice_get-each_after f before (y ∷ ys) (suc k) x at =
    slice_get-each_after f (before ++ y ∷ []) ys k x at ∙ ap (λ l. Some (f l x)) (append_assoc before (y ∷ []) (take k ys))

-- each of a list, with those before it
pub slice_get-each : {A B : Type 0} (f : List A → A → B) (xs : List A) (k : ℕ) (x : A) → slice_get xs k ≡ Some x → slice_get (each f xs) k ≡ Some (f (take k xs) x)
slice_get-each f xs k x at = slice_get-each_after f [] xs k x at

-- ---- where each item stands

abbrev cell_part : Component → List Item
cell_part c = TheSignature ∷ each TheCell c.cells

abbrev group_part : Component → List Item
group_part c = flat_map (λ items. items) (each group_items c.groups)

abbrev set_part : Component → List Item
set_part c = map TheAssignment c.sets

abbrev statement_part : Component → List Item
statement_part c = map TheStatement (control_statements c.control)

in_cell_part : (c : Component) (item : Item) → Contains (cell_part c) item → Contains (items_of c) item
in_cell_part c item has =
    Contains-append_left (items_before_control c) (statement_part c) item
    (Contains-append_left (cell_part c ++ group_part c) (set_part c) item (Contains-append_left (cell_part c) (group_part c) item has))

in_group_part : (c : Component) (item : Item) → Contains (group_part c) item → Contains (items_of c) item
in_group_part c item has =
    Contains-append_left (items_before_control c) (statement_part c) item
    (Contains-append_left (cell_part c ++ group_part c) (set_part c) item (Contains-append_right (cell_part c) (group_part c) item has))

-- the signature is an item
pub signature_item : (c : Component) → Contains (items_of c) TheSignature
signature_item c = in_cell_part c TheSignature (Contains-here TheSignature (each TheCell c.cells))

-- each cell is one, after the cells before it
pub cell_item : (c : Component) (k : ℕ) (cell : CellDef) → slice_get c.cells k ≡ Some cell → Contains (items_of c) (TheCell (take k c.cells) cell)
cell_item c k cell at =
    in_cell_part c (TheCell (take k c.cells) cell) (Contains-at (cell_part c) (suc k) (TheCell (take k c.cells) cell) (slice_get-each TheCell c.cells k cell at))

-- what is an item of a group is one
in_group : (c : Component) (g : GroupDef) (has : Contains c.groups g) (item : Item) → Contains (group_items (take has.0 c.groups) g) item → Contains (items_of c) item
in_group c g has item here =
    let at : slice_get c.groups has.0 ≡ Some g = slice_get-get_or c.groups has.0 g has.1 ∙ ap Some has.2 in
    let there = Contains-at (each group_items c.groups) has.0 (group_items (take has.0 c.groups) g) (slice_get-each group_items c.groups has.0 g at) in
    in_group_part c item (Contains-flat_map (λ (items : List Item). items) (each group_items c.groups) (group_items (take has.0 c.groups) g) item there here)

-- each assignment of a group
pub group_assignment_item : (c : Component) (g : GroupDef) (a : Assignment) → Contains c.groups g → Contains g.sets a → Contains (items_of c) (TheAssignment a)
group_assignment_item c g a of_c has =
    let header = TheGroup (take of_c.0 c.groups) g in
    in_group c g of_c (TheAssignment a)
    (Contains-append_left (header ∷ map TheAssignment g.sets) (each (TheDone g) g.dones) (TheAssignment a)
    (Contains-append_right (header ∷ []) (map TheAssignment g.sets) (TheAssignment a) (Contains-map TheAssignment g.sets a has)))

-- each done line of a group, after those before it
pub done_item : (c : Component) (g : GroupDef) (k : ℕ) (d : DoneLine) → Contains c.groups g → slice_get g.dones k ≡ Some d → Contains (items_of c) (TheDone g (take k g.dones) d)
done_item c g k d of_c at =
    let item = TheDone g (take k g.dones) d in
    let header = TheGroup (take of_c.0 c.groups) g in
    in_group c g of_c item
    (Contains-append_right (header ∷ map TheAssignment g.sets) (each (TheDone g) g.dones) item (Contains-at (each (TheDone g) g.dones) k item (slice_get-each (TheDone g) g.dones k d at)))

-- each continuous assignment
pub assignment_item : (c : Component) (a : Assignment) → Contains c.sets a → Contains (items_of c) (TheAssignment a)
assignment_item c a has =
    Contains-append_left (items_before_control c) (statement_part c) (TheAssignment a)
    (Contains-append_right (cell_part c ++ group_part c) (set_part c) (TheAssignment a) (Contains-map TheAssignment c.sets a has))

-- each control statement
pub statement_item : (c : Component) (s : Statement) → Contains (control_statements c.control) s → Contains (items_of c) (TheStatement s)
statement_item c s has =
    Contains-append_right (items_before_control c) (statement_part c) (TheStatement s) (Contains-map TheStatement (control_statements c.control) s has)

-- ---- what a component keeps at its items, by the place of each rule in the list of them, where C1 stands for any past the last

module _ (naming : GroupNaming) (design : Design) (keeps : KeepsRulesUnder naming design) (n : ℕ) (c : Component) (at : slice_get design n ≡ Some c) where
  at_item : (item : Item) → Contains (items_of c) item → All (Keeps naming design (take n design) c item) all_rules
  at_item item has = let i = place_of (items_of c) item has in keeps n c at i.0 item i.1

  pub new_ports : AreDistinct (pin_names (inputs_in c ++ outputs_in c))
  new_ports = (at_item TheSignature (signature_item c) 0 C1 (omega arith)).ports

  pub has_widths : HasWidths design c
  has_widths = at_item TheSignature (signature_item c) 3 C1 (omega arith)

  module _ (k : ℕ) (cell : CellDef) (there : slice_get c.cells k ≡ Some cell) where
    pub new_cell : IsNewCell c (take k c.cells) cell
    new_cell = at_item (TheCell (take k c.cells) cell) (cell_item c k cell there) 0 C1 (omega arith)

    pub known_cell : IsKnownCell design c cell
    known_cell = at_item (TheCell (take k c.cells) cell) (cell_item c k cell there) 1 C1 (omega arith)

    pub has_parameters : HasParameters cell
    has_parameters = at_item (TheCell (take k c.cells) cell) (cell_item c k cell there) 2 C1 (omega arith)

  -- an assignment, continuous or in a group
  module _ (a : Assignment) (has : Contains (items_of c) (TheAssignment a)) where
    pub names_known : NamesKnown design c a
    names_known = at_item (TheAssignment a) has 1 C1 (omega arith)

    pub widths_agree : WidthsAgree design c a
    widths_agree = at_item (TheAssignment a) has 3 C1 (omega arith)

    pub drives_destination : DrivesDestination design c a
    drives_destination = at_item (TheAssignment a) has 4 C1 (omega arith)

    pub reads_sources : ReadsSources design c a
    reads_sources = at_item (TheAssignment a) has 5 C1 (omega arith)

  module _ (g : GroupDef) (of_c : Contains c.groups g) (k : ℕ) (d : DoneLine) (there : slice_get g.dones k ≡ Some d) where
    pub done_names_known : DoneNamesKnown design c g d
    done_names_known = at_item (TheDone g (take k g.dones) d) (done_item c g k d of_c there) 1 C1 (omega arith)

    pub done_reads_sources : DoneReadsSources design c d
    done_reads_sources = at_item (TheDone g (take k g.dones) d) (done_item c g k d of_c there) 5 C1 (omega arith)

  module _ (s : Statement) (has : Contains (items_of c) (TheStatement s)) where
    pub statement_names_known : StatementNamesKnown design c s
    statement_names_known = at_item (TheStatement s) has 1 C1 (omega arith)

    pub statement_drives : StatementDrives design c s
    statement_drives = at_item (TheStatement s) has 4 C1 (omega arith)

    pub statement_reads : StatementReads design c s
    statement_reads = at_item (TheStatement s) has 5 C1 (omega arith)

    pub can_invoke : Invokes design c s
    can_invoke = at_item (TheStatement s) has 10 C1 (omega arith)
