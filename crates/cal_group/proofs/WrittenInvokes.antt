-- Where a design can be written, so can the one in which its invokes are groups.
use Rattle.std.proofs.Common.{ℕ, ◌+◌, Bool, true, false, List, [], ◌∷◌, ◌++◌, length, map, flat_map, Option, Some, None, if◌then◌else◌}
use Rattle.std.specs.Prelude.{codes}
use Rattle.std.specs.List.{AllByRecursion}
use Rattle.hw_names.specs.Name.{Text}
use Rattle.hw_prims.specs.Memory.{keeps_words}
use Rattle.hw_prims.specs.declared.prim.Primitive.{Primitive}
use Rattle.hw_prims.specs.declared.prim.Primitive.TheVariants.{StdMultPipe, StdReg}
use Rattle.cal_ast.specs.Invoking.{InvokeDef, gives_input, go_of, invoke_group, invoke_sets, invokes_among, invokes_in, made_go, primitive_go, starts_cell, takes_output}
use Rattle.cal_ast.specs.Items.{Item, TheAssignment, TheCell, TheDone, TheGroup, TheSignature, TheStatement, control_statements, each, each_after, group_items, items_before_control, items_of, statements_in, statements_of, unless_empty}
use Rattle.cal_ast.specs.Ports.{part_in, primitive_in}
use Rattle.cal_ast.specs.Tree.{Absent, Assignment, Body, Component, ControlSection, Design, Empty, Enable, GroupDef, If, InBinding, Invoke, MoreStatements, NoStatements, OutBinding, Par, Seq, Statement, Statements, While}
use Rattle.cal_group.specs.inside.Expanded.{expanded, expanded_at, expanded_from, expanded_section, invoke_groups, invoke_name}
use Rattle.cal_ast.specs.Written.{AssignmentIsWritten, ComponentIsWritten, ControlIsWritten, GroupIsWritten, InIsWritten, IsCalName, NameIsWritten, OutIsWritten, StatementIsWritten, StatementsAreWritten}
use Rattle.cal_ast.proofs.WrittenLists.{all_append, all_map}
use Rattle.cal_group.proofs.WrittenNames.{done_pin_named, enable_named, go_named, invoke_named, one_written}

-- ---- the invokes of a component

mutual
  inside_written : (s : Statement) → StatementIsWritten s → AllByRecursion StatementIsWritten (statements_in s)
  inside_written (Enable group) is = (is, tt)
  inside_written (Seq ss) is = (is, all_inside_written ss is)
  inside_written (Par ss) is = (is, all_inside_written ss is)
  inside_written (If port by s t) is =
      all_append StatementIsWritten (If port by s t ∷ unless_empty s (statements_in s)) (unless_empty t (statements_in t))
      (is, some_written s (statements_in s) (inside_written s is.1.1.0)) (some_written t (statements_in t) (inside_written t is.1.1.1))
  inside_written (While port by s) is = (is, some_written s (statements_in s) (inside_written s is.1.1))
  inside_written (Invoke cell ins outs) is = (is, tt)

  all_inside_written : (ss : Statements) → StatementsAreWritten ss → AllByRecursion StatementIsWritten (statements_of ss)
  all_inside_written NoStatements are = tt
  all_inside_written (MoreStatements s ss) are = all_append StatementIsWritten (statements_in s) (statements_of ss) (inside_written s are.0) (all_inside_written ss are.1)

  some_written : (s : Statement) (inside : List Statement) → AllByRecursion StatementIsWritten inside → AllByRecursion StatementIsWritten (unless_empty s inside)
  some_written (Seq NoStatements) inside are = tt
  some_written s inside are = are

statements_written : (control : ControlSection) → ControlIsWritten control → AllByRecursion StatementIsWritten (control_statements control)
statements_written Absent is = tt
statements_written Empty is = tt
statements_written (Body s) is = inside_written s is

-- if the item is a statement, it can be written
abbrev ItemIsWritten : Item → Type 0
ItemIsWritten (TheStatement s) = StatementIsWritten s
ItemIsWritten item = Unit {0}

abbrev AreItems : List Item → Type 0
AreItems items = AllByRecursion ItemIsWritten items

each_written : {A : Type 0} (f : List A → A → Item) → ((before : List A) (x : A) → ItemIsWritten (f before x)) → (before xs : List A) → AreItems (each_after f before xs)
each_written f is before [] = tt
each_written f is before (x ∷ xs) = (is before x, each_written f is (before ++ x ∷ []) xs)

assignments_written : (sets : List Assignment) → AreItems (map TheAssignment sets)
assignments_written [] = tt
assignments_written (a ∷ sets) = (tt, assignments_written sets)

group_items_written : (before gs : List GroupDef) → AreItems (flat_map (λ (items : List Item). items) (each_after group_items before gs))
group_items_written before [] = tt
group_items_written before (g ∷ gs) =
    all_append ItemIsWritten (group_items before g) (flat_map (λ (items : List Item). items) (each_after group_items (before ++ g ∷ []) gs))
    (all_append ItemIsWritten (TheGroup before g ∷ map TheAssignment g.sets) (each (TheDone g) g.dones) (tt, assignments_written g.sets) (each_written (TheDone g) (λ earlier d. tt) [] g.dones))
    (group_items_written (before ++ g ∷ []) gs)

items_written : (c : Component) → ControlIsWritten c.control → AreItems (items_of c)
items_written c is =
    let cells = TheSignature ∷ each TheCell c.cells in
    let groups = flat_map (λ (items : List Item). items) (each group_items c.groups) in
    let sets = map TheAssignment c.sets in
    all_append ItemIsWritten (cells ++ groups ++ sets) (map TheStatement (control_statements c.control))
    (all_append ItemIsWritten (cells ++ groups) sets
    (all_append ItemIsWritten cells groups (tt, each_written TheCell (λ before cell. tt) [] c.cells) (group_items_written [] c.groups)) (assignments_written c.sets))
    (all_map StatementIsWritten ItemIsWritten TheStatement (λ s written. written) (control_statements c.control) (statements_written c.control is))

abbrev InvokeIsWritten : InvokeDef → Type 0
InvokeIsWritten i = IsCalName i.cell × (AllByRecursion InIsWritten i.ins × AllByRecursion OutIsWritten i.outs)

invokes_written : (k : ℕ) (items : List Item) → AreItems items → AllByRecursion InvokeIsWritten (invokes_among k items)
invokes_written k [] are = tt
invokes_written k (TheStatement (Invoke cell ins outs) ∷ items) are = (are.0, invokes_written (k + 1) items are.1)
invokes_written k (item ∷ items) are = invokes_written (k + 1) items are.1

-- ---- their groups

enable_chosen : (test : Bool) → NameIsWritten (if test then Some (codes "write_en") else None)
enable_chosen true = enable_named
enable_chosen false = tt

primitive_go_named : (prim : Primitive) → NameIsWritten (primitive_go prim)
primitive_go_named (StdReg width) = enable_named
primitive_go_named (StdMultPipe width) = go_named
primitive_go_named prim = enable_chosen (keeps_words prim)

made_go_named : (prim : Option Primitive) (part : Option Component) → NameIsWritten (made_go prim part)
made_go_named (Some prim) part = primitive_go_named prim
made_go_named None (Some part) = go_named
made_go_named None None = tt

module _ (cell : Text) (named : IsCalName cell) where
  input_given : (b : InBinding) → InIsWritten b → AssignmentIsWritten (gives_input cell b)
  input_given b is = ((named, is.0), (tt, is.1))

  output_taken : (b : OutBinding) → OutIsWritten b → AssignmentIsWritten (takes_output cell b)
  output_taken b is = (is.1, (tt, (named, is.0)))

  cell_started : (go : Option Text) → NameIsWritten go → AllByRecursion AssignmentIsWritten (starts_cell cell go)
  cell_started None is = tt
  cell_started (Some go) is = (((named, is), (tt, one_written)), tt)

module _ (design : Design) (c : Component) where
  sets_written : (i : InvokeDef) → InvokeIsWritten i → AllByRecursion AssignmentIsWritten (invoke_sets design c i)
  sets_written i is =
      let inputs = map (gives_input i.cell) i.ins in
      let starts = starts_cell i.cell (go_of design c i.cell) in
      let outputs = map (takes_output i.cell) i.outs in
      all_append AssignmentIsWritten (inputs ++ starts) outputs
      (all_append AssignmentIsWritten inputs starts (all_map InIsWritten AssignmentIsWritten (gives_input i.cell) (input_given i.cell is.0) i.ins is.1.0)
      (cell_started i.cell is.0 (go_of design c i.cell) (made_go_named (primitive_in c i.cell) (part_in design c i.cell))))
      (all_map OutIsWritten AssignmentIsWritten (takes_output i.cell) (output_taken i.cell is.0) i.outs is.1.1)

  group_written : (i : InvokeDef) → InvokeIsWritten i → GroupIsWritten (invoke_group design c (invoke_name i.item) i)
  group_written i is = (invoke_named i.item, (sets_written i is, ((invoke_named i.item, (tt, (is.0, done_pin_named))), tt)))

-- ---- control

mutual
  statement_expanded : (k : ℕ) (s : Statement) → StatementIsWritten s → StatementIsWritten (expanded_at k s)
  statement_expanded k (Enable group) is = is
  statement_expanded k (Seq ss) is = statements_expanded (k + 1) ss is
  statement_expanded k (Par ss) is = statements_expanded (k + 1) ss is
  statement_expanded k (If port by s t) is =
      (is.0, (is.1.0, (statement_expanded (k + 1) s is.1.1.0, statement_expanded (k + 1 + length (unless_empty s (statements_in s))) t is.1.1.1)))
  statement_expanded k (While port by s) is = (is.0, (is.1.0, statement_expanded (k + 1) s is.1.1))
  statement_expanded k (Invoke cell ins outs) is = invoke_named k

  statements_expanded : (k : ℕ) (ss : Statements) → StatementsAreWritten ss → StatementsAreWritten (expanded_from k ss)
  statements_expanded k NoStatements are = tt
  statements_expanded k (MoreStatements s ss) are = (statement_expanded k s are.0, statements_expanded (k + length (statements_in s)) ss are.1)

section_expanded : (k : ℕ) (control : ControlSection) → ControlIsWritten control → ControlIsWritten (expanded_section k control)
section_expanded k Absent is = tt
section_expanded k Empty is = tt
section_expanded k (Body s) is = statement_expanded k s is

-- ---- the component

pub expanded_written : (design : Design) (c : Component) → ComponentIsWritten c → ComponentIsWritten (expanded design c)
expanded_written design c is =
    let invokes = invokes_written 0 (items_of c) (items_written c is.control) in
    record {
      name = is.name;
      ins = is.ins;
      outs = is.outs;
      cells = is.cells;
      groups = all_append GroupIsWritten c.groups (invoke_groups design c) is.groups
          (all_map InvokeIsWritten GroupIsWritten (λ (i : InvokeDef). invoke_group design c (invoke_name i.item) i) (group_written design c) (invokes_in c) invokes);
      sets = is.sets;
      control = section_expanded (length (items_before_control c)) c.control is.control;
    }
