-- A text spells at most one design, which can be written; each of its names has a number.
use Rattle.std.proofs.Common.{◌≡◌, ℕ, zero, suc, ◌<◌, List, [], ◌∷◌, length, map, get_or, Option, Some, None, refl, subst, arith, Vec, Global, Result, Ok, Err}
use Rattle.std.specs.Prelude.{All, IfOk, IfSome, option_map}
use Rattle.std.specs.List.{AllByRecursion}
use Rattle.hw_names.specs.Name.{Text, text_of}
use Rattle.hw_names.specs.declared.names.NameId.{NameId}
use Rattle.hw_lex.specs.declared.token.Dialect.TheVariants.{Cal}
use Rattle.hw_grammar.specs.declared.terminal.Terminal.{Terminal}
use Rattle.hw_grammar.proofs.Passing.{ArePairs}
use Rattle.hw_grammar.proofs.Alike.{IsAlike, lexed_alike}
use Rattle.hw_grammar.proofs.Whole.{spells_one}
use Rattle.net_core.specs.declared.net.Src.{Src}
use Rattle.net_core.specs.declared.net.Src.TheVariants.{Port, Lit}
use Rattle.net_core.specs.declared.net.Guard.{Guard, Row_of-Guard, end_of-Guard, more_of-Guard}
use Rattle.net_core.specs.declared.net.Guard as guards
use Rattle.net_core.specs.Guard.{source_tree, guard_tree, guard_trees, guard_option}
use Rattle.net_core.specs.Numbers.{IsNumberOf}
use Rattle.cal_ast.specs.Tree.{Design, port_tree, pin_tree, cell_tree, assignment_tree, done_tree, group_tree, in_tree, out_tree, statement_tree, statement_trees, control_tree, component_tree, design_of}
use Rattle.cal_ast.specs.declared.tree.CalPort.{CalPort}
use Rattle.cal_ast.specs.declared.tree.CalPin.{CalPin}
use Rattle.cal_ast.specs.declared.tree.CalCell.{CalCell}
use Rattle.cal_ast.specs.declared.tree.Assign.{Assign}
use Rattle.cal_ast.specs.declared.tree.DoneSet.{DoneSet}
use Rattle.cal_ast.specs.declared.tree.Group.{Group}
use Rattle.cal_ast.specs.declared.tree.InBind.{InBind}
use Rattle.cal_ast.specs.declared.tree.OutBind.{OutBind}
use Rattle.cal_ast.specs.declared.tree.Control.{Control, Row_of-Control, end_of-Control, more_of-Control}
use Rattle.cal_ast.specs.declared.tree.Control as code
use Rattle.cal_ast.specs.declared.tree.ControlPart.{ControlPart}
use Rattle.cal_ast.specs.declared.tree.ControlPart.TheVariants as part
use Rattle.cal_ast.specs.declared.tree.CalComp.{CalComp}
use Rattle.cal_ast.specs.declared.tree.CalDesign.{CalDesign}
use Rattle.cal_ast.specs.Numbers.{PortHasNumbers, SourceHasNumbers, GuardHasNumbers, GuardsHaveNumbers, WhenHasNumbers, PinHasNumber, CellHasNumbers, SetHasNumbers, DoneHasNumbers, GroupHasNumbers, InHasNumbers, OutHasNumbers, StatementHasNumbers, StatementsHaveNumbers, ControlHasNumbers, ComponentHasNumbers, HasNumbers}
use Rattle.cal_parse.specs.declared.parse.CalTextEnd.{CalTextEnd}
use Rattle.cal_parse.specs.Grammar.{IsFile}
use Rattle.cal_parse.specs.Spelling.{SpellsDesign}
use Rattle.cal_ast.specs.Written.{IsCalName, NameIsWritten, PortIsWritten, SourceIsWritten, GuardIsWritten, GuardsAreWritten, WhenIsWritten, PinIsWritten, InputIsWritten, CellIsWritten, AssignmentIsWritten, DoneIsWritten, GroupIsWritten, InIsWritten, OutIsWritten, StatementIsWritten, StatementsAreWritten, ControlIsWritten, ComponentIsWritten, DesignIsWritten}
use Rattle.cal_parse.proofs.Exactness.{file-exact}
use Rattle.cal_parse.proofs.Passages.{passes-file}

no_more : (R : Terminal → Terminal → Type 0) (others : List Terminal) → ArePairs R [] others → others ≡ []
no_more R [] p = refl
no_more R (u ∷ others) p = absurd p

pub one_tree : (text : List ℕ) (a b : Design) → SpellsDesign text a → SpellsDesign text b → a ≡ b
one_tree text a b (old, (tokens, ts, p, s)) (new, (others, us, q, r)) =
    let k = passes-file old new ts us a [] (lexed_alike Cal old new text tokens others ts us p q) s in
    let all : IsFile new us a [] = subst (λ (x : List Terminal). IsFile new us a x) (no_more (IsAlike Cal old new) k.1.0 k.1.1) k.1.2 in
    spells_one (file-exact new) us a b all r

pub tree_written : (text : List ℕ) (design : Design) → SpellsDesign text design → DesignIsWritten design
tree_written text design (names, (tokens, ts, p, s)) = (passes-file names names ts ts design [] (lexed_alike Cal names names text tokens tokens ts ts p p) s).0

-- ---- numbers of names

number_in : (names : List Text) (i : ℕ) → IsCalName (get_or names i []) → i < length names
number_in [] i w = absurd w.0
number_in (x ∷ names) zero w = omega arith
number_in (x ∷ names) (suc i) w = let r = number_in names i w in omega arith

number_of : (names : List Text) (id : NameId) → IsCalName (text_of names id) → IsNumberOf names id
number_of names id w = number_in names id.0 w

all_of : {X Y : Type 0} (P : X → Type 0) (Q : Y → Type 0) (f : X → Y) → ((x : X) → Q (f x) → P x) → (xs : List X) → AllByRecursion Q (map f xs) → All P xs
all_of P Q f h [] a = λ k d lt. absurd (omega arith)
all_of P Q f h (x ∷ xs) a = λ k. elim k as (λ k. (d : _) → k < length (x ∷ xs) → P (get_or (x ∷ xs) k d)) [
  | zero ↦ λ d lt. h x a.0
  | suc k ↦ λ d lt. all_of P Q f h xs a.1 k d (omega arith)
]

module _ (names : List Text) where
  name_number : (o : Option NameId) → NameIsWritten (option_map (text_of names) o) → IfSome o (IsNumberOf names)
  name_number None w = tt
  name_number (Some id) w = number_of names id w

  port_numbers : (p : CalPort) → PortIsWritten (port_tree names p) → PortHasNumbers names p
  port_numbers p w = (name_number p.cell w.0, number_of names p.port w.1)

  source_numbers : (s : Src CalPort) → SourceIsWritten (source_tree (port_tree names) s) → SourceHasNumbers names s
  source_numbers (Port p) w = port_numbers p w
  source_numbers (Lit width value) w = tt

  mutual
    guard_numbers : (g : Guard CalPort) → GuardIsWritten (guard_tree (port_tree names) g) → GuardHasNumbers names g
    guard_numbers (guards.Read s) w = source_numbers s.value w
    guard_numbers (guards.Test op a b) w = (source_numbers a.value w.0, source_numbers b.value w.1)
    guard_numbers (guards.Not' p g) w = guard_numbers g w
    guard_numbers (guards.All' shape gs) w = guards_numbers gs w.1
    guard_numbers (guards.Any' shape gs) w = guards_numbers gs w.1

    guards_numbers : {m : _} (gs : Row_of-Guard CalPort m) → GuardsAreWritten (guard_trees (port_tree names) gs) → GuardsHaveNumbers names gs
    guards_numbers end_of-Guard w = tt
    guards_numbers (more_of-Guard g gs) w = (guard_numbers g w.0, guards_numbers gs w.1)

  when_numbers : (o : Option (Guard CalPort)) → WhenIsWritten (guard_option (port_tree names) o) → WhenHasNumbers names o
  when_numbers None w = tt
  when_numbers (Some g) w = guard_numbers g w

  cell_numbers : (c : CalCell) → CellIsWritten (cell_tree names c) → CellHasNumbers names c
  cell_numbers c w = (number_of names c.name w.0, number_of names c.made w.1.0)

  set_numbers : (a : Assign) → AssignmentIsWritten (assignment_tree names a) → SetHasNumbers names a
  set_numbers a w = (port_numbers a.dst w.0, when_numbers a.guard w.1.0, source_numbers a.src w.1.1)

  done_numbers : (d : DoneSet) → DoneIsWritten (done_tree names d) → DoneHasNumbers names d
  done_numbers d w = (number_of names d.of w.0, when_numbers d.guard w.1.0, source_numbers d.src w.1.1)

  group_numbers : (g : Group) → GroupIsWritten (group_tree names g) → GroupHasNumbers names g
  group_numbers g w = record {
    name = number_of names g.name w.0;
    sets = all_of (SetHasNumbers names) AssignmentIsWritten (assignment_tree names) set_numbers g.sets.items w.1.0;
    dones = all_of (DoneHasNumbers names) DoneIsWritten (done_tree names) done_numbers g.dones.items w.1.1;
  }

  in_numbers : (b : InBind) → InIsWritten (in_tree names b) → InHasNumbers names b
  in_numbers b w = (number_of names b.port w.0, source_numbers b.src w.1)

  out_numbers : (b : OutBind) → OutIsWritten (out_tree names b) → OutHasNumbers names b
  out_numbers b w = (number_of names b.port w.0, port_numbers b.dst w.1)

  mutual
    statement_numbers : (s : Control) → StatementIsWritten (statement_tree names s) → StatementHasNumbers names s
    statement_numbers (code.Enable g) w = number_of names g w
    statement_numbers (code.Seq' shape ss) w = statements_numbers ss w
    statement_numbers (code.Par' shape ss) w = statements_numbers ss w
    statement_numbers (code.If' port by p s q t) w = (port_numbers port w.0, name_number by w.1.0, statement_numbers s w.1.1.0, statement_numbers t w.1.1.1)
    statement_numbers (code.While' port by p s) w = (port_numbers port w.0, name_number by w.1.0, statement_numbers s w.1.1)
    statement_numbers (code.Invoke cell ins outs) w = (
      number_of names cell w.0,
      all_of (InHasNumbers names) InIsWritten (in_tree names) in_numbers ins.items w.1.0,
      all_of (OutHasNumbers names) OutIsWritten (out_tree names) out_numbers outs.items w.1.1,
    )

    statements_numbers : {m : _} (ss : Row_of-Control m) → StatementsAreWritten (statement_trees names ss) → StatementsHaveNumbers names ss
    statements_numbers end_of-Control w = tt
    statements_numbers (more_of-Control s ss) w = (statement_numbers s w.0, statements_numbers ss w.1)

  control_numbers : (c : ControlPart) → ControlIsWritten (control_tree names c) → ControlHasNumbers names c
  control_numbers part.Absent w = tt
  control_numbers part.Empty w = tt
  control_numbers (part.Body s) w = statement_numbers s w

  component_numbers : (c : CalComp) → ComponentIsWritten (component_tree names c) → ComponentHasNumbers names c
  component_numbers c w = record {
    name = number_of names c.name w.name;
    ins = all_of (PinHasNumber names) InputIsWritten (pin_tree names) (λ p v. number_of names p.name v.0.0) c.ins.items w.ins;
    outs = all_of (PinHasNumber names) PinIsWritten (pin_tree names) (λ p v. number_of names p.name v.0) c.outs.items w.outs;
    cells = all_of (CellHasNumbers names) CellIsWritten (cell_tree names) cell_numbers c.cells.items w.cells;
    groups = all_of (GroupHasNumbers names) GroupIsWritten (group_tree names) group_numbers c.groups.items w.groups;
    sets = all_of (SetHasNumbers names) AssignmentIsWritten (assignment_tree names) set_numbers c.sets.items w.sets;
    control = control_numbers c.control w.control;
  }

pub design_numbers : (d : CalDesign) → DesignIsWritten (design_of d) → HasNumbers d
design_numbers d w = all_of (ComponentHasNumbers d.names) ComponentIsWritten (component_tree d.names) (component_numbers d.names) d.comps.items w.1

-- of what is read
pub result_written : (source : List ℕ) (r : Result CalDesign CalTextEnd) → IfOk r (λ d. SpellsDesign source (design_of d)) → IfOk r (λ d. DesignIsWritten (design_of d))
result_written source (Ok d) s = tree_written source (design_of d) s
result_written source (Err e) s = tt

pub result_numbers : (source : List ℕ) (r : Result CalDesign CalTextEnd) → IfOk r (λ d. SpellsDesign source (design_of d)) → IfOk r HasNumbers
result_numbers source (Ok d) s = design_numbers d (tree_written source (design_of d) s)
result_numbers source (Err e) s = tt
