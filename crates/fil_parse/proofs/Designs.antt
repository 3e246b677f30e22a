-- A text spells at most one design, which can be written; each of its names has a number.
use Rattle.std.proofs.Common.{◌≡◌, ℕ, zero, suc, ◌<◌, List, [], ◌∷◌, length, map, get_or, refl, subst, arith}
use Rattle.std.specs.Prelude.{All}
use Rattle.std.specs.List.{AllByRecursion}
use Rattle.hw_names.specs.Name.{Text, text_of}
use Rattle.hw_names.specs.declared.names.NameId.{NameId}
use Rattle.hw_lex.specs.declared.token.Dialect.TheVariants.{Fil}
use Rattle.hw_grammar.specs.declared.terminal.Terminal.{Terminal}
use Rattle.hw_grammar.proofs.Passing.{ArePairs}
use Rattle.hw_grammar.proofs.Alike.{IsAlike, lexed_alike}
use Rattle.hw_grammar.proofs.Whole.{spells_one}
use Rattle.fil_ast.specs.Tree.{Design, time_tree, event_tree, interface_tree, port_tree, value_tree, statement_tree, component_tree, design_of}
use Rattle.fil_ast.specs.declared.tree.Time.{Time}
use Rattle.fil_ast.specs.declared.tree.EventDef.{EventDef}
use Rattle.fil_ast.specs.declared.tree.GoPort.{GoPort}
use Rattle.fil_ast.specs.declared.tree.FilPort.{FilPort}
use Rattle.fil_ast.specs.declared.tree.FilComp.{FilComp}
use Rattle.fil_ast.specs.declared.tree.FilDesign.{FilDesign}
use Rattle.fil_ast.specs.declared.tree.Value.{Value}
use Rattle.fil_ast.specs.declared.tree.Value.TheVariants as values
use Rattle.fil_ast.specs.declared.tree.Stmt.{Stmt}
use Rattle.fil_ast.specs.declared.tree.Stmt.TheVariants as stmts
use Rattle.fil_ast.specs.Numbers.{IsNumberOf, TimeHasNumber, EventHasNumber, InterfaceHasNumbers, PortHasNumbers, ValueHasNumbers, StatementHasNumbers, ComponentHasNumbers, HasNumbers}
use Rattle.fil_parse.specs.Grammar.{IsFile}
use Rattle.fil_parse.specs.Spelling.{SpellsDesign}
use Rattle.fil_parse.specs.Written.{IsFilName, TimeIsWritten, EventIsWritten, InterfaceIsWritten, PortIsWritten, ValueIsWritten, StatementIsWritten, ComponentIsWritten, DesignIsWritten}
use Rattle.fil_parse.proofs.Exactness.{file-exact}
use Rattle.fil_parse.proofs.Passages.{passes-file}

no_more : (R : Terminal → Terminal → Type 0) (others : List Terminal) → ArePairs R [] others → others ≡ []
no_more R [] p = refl
no_more R (u ∷ others) p = absurd p

pub one_tree : (text : List ℕ) (a b : Design) → SpellsDesign text a → SpellsDesign text b → a ≡ b
one_tree text a b (old, (tokens, ts, p, s)) (new, (others, us, q, r)) =
    let k = passes-file old new ts us a [] (lexed_alike Fil old new text tokens others ts us p q) s in
    let all : IsFile new us a [] = subst (λ (x : List Terminal). IsFile new us a x) (no_more (IsAlike Fil old new) k.1.0 k.1.1) k.1.2 in
    spells_one (file-exact new) us a b all r

pub tree_written : (text : List ℕ) (design : Design) → SpellsDesign text design → DesignIsWritten design
tree_written text design (names, (tokens, ts, p, s)) = (passes-file names names ts ts design [] (lexed_alike Fil names names text tokens tokens ts ts p p) s).0

-- ---- numbers of names

number_in : (names : List Text) (i : ℕ) → IsFilName (get_or names i []) → i < length names
number_in [] i w = absurd w.0
number_in (x ∷ names) zero w = omega arith
number_in (x ∷ names) (suc i) w = let r = number_in names i w in omega arith

number_of : (names : List Text) (id : NameId) → IsFilName (text_of names id) → IsNumberOf names id
number_of names id w = number_in names id.0 w

all_of : {X Y : Type 0} (P : X → Type 0) (Q : Y → Type 0) (f : X → Y) → ((x : X) → Q (f x) → P x) → (xs : List X) → AllByRecursion Q (map f xs) → All P xs
all_of P Q f h [] a = λ k d lt. absurd (omega arith)
all_of P Q f h (x ∷ xs) a = λ k. elim k as (λ k. (d : _) → k < length (x ∷ xs) → P (get_or (x ∷ xs) k d)) [
  | zero ↦ λ d lt. h x a.0
  | suc k ↦ λ d lt. all_of P Q f h xs a.1 k d (omega arith)
]

module _ (names : List Text) where
  time_number : (t : Time) → TimeIsWritten (time_tree names t) → TimeHasNumber names t
  time_number t w = number_of names t.event w.0

  event_number : (e : EventDef) → EventIsWritten (event_tree names e) → EventHasNumber names e
  event_number e w = number_of names e.name w.0

  interface_numbers : (g : GoPort) → InterfaceIsWritten (interface_tree names g) → InterfaceHasNumbers names g
  interface_numbers g w = (number_of names g.event w.0, number_of names g.name w.1.0)

  port_numbers : (p : FilPort) → PortIsWritten (port_tree names p) → PortHasNumbers names p
  port_numbers p w = (time_number p.from w.0, time_number p.to w.1.0, number_of names p.name w.1.1.0)

  value_numbers : (v : Value) → ValueIsWritten (value_tree names v) → ValueHasNumbers names v
  value_numbers (values.Port p) w = number_of names p w
  value_numbers (values.Out v p) w = (number_of names v w.0, number_of names p w.1)
  value_numbers (values.Lit width value) w = tt

  statement_numbers : (s : Stmt) → StatementIsWritten (statement_tree names s) → StatementHasNumbers names s
  statement_numbers (stmts.New name made params) w = (number_of names name w.0, number_of names made w.1.0)
  statement_numbers (stmts.Call name inst at args) w = (
    number_of names name w.0,
    number_of names inst w.1.0,
    (all_of (TimeHasNumber names) TimeIsWritten (time_tree names) time_number at.items w.1.1.0.1, all_of (ValueHasNumbers names) ValueIsWritten (value_tree names) value_numbers args.items w.1.1.1),
  )
  statement_numbers (stmts.Both name made params at args) w = (
    number_of names name w.0,
    number_of names made w.1.0,
    (all_of (TimeHasNumber names) TimeIsWritten (time_tree names) time_number at.items w.1.1.1.0.1, all_of (ValueHasNumbers names) ValueIsWritten (value_tree names) value_numbers args.items w.1.1.1.1),
  )
  statement_numbers (stmts.Set dst value) w = (number_of names dst w.0, value_numbers value w.1)

  component_numbers : (c : FilComp) → ComponentIsWritten (component_tree names c) → ComponentHasNumbers names c
  component_numbers c w = record {
    name = number_of names c.name w.name;
    events = all_of (EventHasNumber names) EventIsWritten (event_tree names) event_number c.events.items w.events;
    interfaces = all_of (InterfaceHasNumbers names) InterfaceIsWritten (interface_tree names) interface_numbers c.gos.items w.interfaces;
    ins = all_of (PortHasNumbers names) PortIsWritten (port_tree names) port_numbers c.ins.items w.ins;
    outs = all_of (PortHasNumbers names) PortIsWritten (port_tree names) port_numbers c.outs.items w.outs;
    body = all_of (StatementHasNumbers names) StatementIsWritten (statement_tree names) statement_numbers c.body.items w.body;
  }

pub design_numbers : (d : FilDesign) → DesignIsWritten (design_of d) → HasNumbers d
design_numbers d w = all_of (ComponentHasNumbers d.names) ComponentIsWritten (component_tree d.names) (component_numbers d.names) d.comps.items w.1
