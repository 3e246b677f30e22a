-- A text spells at most one design, which can be written; each of its names has a number.
use Rattle.std.proofs.Common.{◌≡◌, ℕ, zero, suc, ◌<◌, List, [], ◌∷◌, length, map, get_or, Option, Some, None, refl, subst, arith, Result, Ok, Err}
use Rattle.std.specs.Prelude.{All, IfOk, IfSome, option_map}
use Rattle.std.specs.List.{AllByRecursion}
use Rattle.hw_names.specs.Name.{Text, text_of}
use Rattle.hw_names.specs.declared.names.NameId.{NameId}
use Rattle.hw_lex.specs.declared.token.Dialect.TheVariants.{Filp}
use Rattle.hw_grammar.specs.declared.terminal.Terminal.{Terminal}
use Rattle.hw_grammar.proofs.Passing.{ArePairs}
use Rattle.hw_grammar.proofs.Alike.{IsAlike, lexed_alike}
use Rattle.hw_grammar.proofs.Whole.{spells_one}
use Rattle.fil_ast.specs.Numbers.{IsNumberOf}
use Rattle.par_parse.specs.declared.parse.FilpTextEnd.{FilpTextEnd}
use Rattle.par_parse.specs.declared.tree.Expression.{Expression, Row_of-Expression, end_of-Expression, more_of-Expression}
use Rattle.par_parse.specs.declared.tree.Expression as expression
use Rattle.par_parse.specs.declared.tree.ParamName.{ParamName}
use Rattle.par_parse.specs.declared.tree.ParamTime.{ParamTime}
use Rattle.par_parse.specs.declared.tree.ParamEvent.{ParamEvent}
use Rattle.par_parse.specs.declared.tree.ParamGo.{ParamGo}
use Rattle.par_parse.specs.declared.tree.ParamPort.{ParamPort}
use Rattle.par_parse.specs.declared.tree.ParamValue.{ParamValue}
use Rattle.par_parse.specs.declared.tree.ParamValue.TheVariants as value
use Rattle.par_parse.specs.declared.tree.ParamStatement.{ParamStatement, Row_of-ParamStatement, end_of-ParamStatement, more_of-ParamStatement}
use Rattle.par_parse.specs.declared.tree.ParamStatement as statement
use Rattle.par_parse.specs.declared.tree.ParamComponent.{ParamComponent}
use Rattle.par_parse.specs.declared.tree.ParamDesign.{ParamDesign}
use Rattle.par_parse.specs.Tree.{DesignTree, expression_tree, expression_trees, name_tree, time_tree, event_tree, interface_tree, port_tree, value_tree, statement_tree, statement_trees, component_tree, design_of}
use Rattle.par_parse.specs.Numbers.{ExpressionHasNumbers, ExpressionsHaveNumbers, NameHasNumbers, TimeHasNumbers, EventHasNumbers, InterfaceHasNumbers, PortHasNumbers, ValueHasNumbers, StatementHasNumbers, StatementsHaveNumbers, ComponentHasNumbers, HasNumbers}
use Rattle.par_parse.specs.Grammar.{IsFile}
use Rattle.par_parse.specs.Spelling.{SpellsDesign}
use Rattle.par_parse.specs.Written.{IsFilpName, PartsAreWritten, ItemsAreWritten, ExpressionIsWritten, IndexIsWritten, NameIsWritten, TimeIsWritten, EventIsWritten, InterfaceIsWritten, PortIsWritten, ValueIsWritten, StatementIsWritten, StatementsAreWritten, ComponentIsWritten, DesignIsWritten}
use Rattle.par_parse.proofs.Exactness.{file-exact}
use Rattle.par_parse.proofs.Passages.{file}

no_more : (R : Terminal → Terminal → Type 0) (others : List Terminal) → ArePairs R [] others → others ≡ []
no_more R [] p = refl
no_more R (u ∷ others) p = absurd p

pub one_tree : (text : List ℕ) (a b : DesignTree) → SpellsDesign text a → SpellsDesign text b → a ≡ b
one_tree text a b (old, (tokens, ts, p, s)) (new, (others, us, q, r)) =
    let k = (file old new).passes ts us a [] (lexed_alike Filp old new text tokens others ts us p q) s in
    let all : IsFile new us a [] = subst (λ (x : List Terminal). IsFile new us a x) (no_more (IsAlike Filp old new) k.1.0 k.1.1) k.1.2 in
    spells_one (file-exact new) us a b all r

pub tree_written : (text : List ℕ) (design : DesignTree) → SpellsDesign text design → DesignIsWritten design
tree_written text design (names, (tokens, ts, p, s)) = ((file names names).passes ts ts design [] (lexed_alike Filp names names text tokens tokens ts ts p p) s).0

-- ---- numbers of names

number_in : (names : List Text) (i : ℕ) → IsFilpName (get_or names i []) → i < length names
number_in [] i w = absurd w.0
number_in (x ∷ names) zero w = omega arith
number_in (x ∷ names) (suc i) w = let r = number_in names i w in omega arith

number_of : (names : List Text) (id : NameId) → IsFilpName (text_of names id) → IsNumberOf names id
number_of names id w = number_in names id.0 w

all_of : {X Y : Type 0} (P : X → Type 0) (Q : Y → Type 0) (f : X → Y) → ((x : X) → Q (f x) → P x) → (xs : List X) → AllByRecursion Q (map f xs) → All P xs
all_of P Q f h [] a = λ k d lt. absurd (omega arith)
all_of P Q f h (x ∷ xs) a = λ k. elim k as (λ k. (d : _) → k < length (x ∷ xs) → P (get_or (x ∷ xs) k d)) [
  | zero ↦ λ d lt. h x a.0
  | suc k ↦ λ d lt. all_of P Q f h xs a.1 k d (omega arith)
]

module _ (names : List Text) where
  mutual
    part_numbers : (e : Expression) → PartsAreWritten (expression_tree names e) → ExpressionHasNumbers names e
    part_numbers (expression.Num n) w = tt
    part_numbers (expression.Name id) w = number_of names id w
    part_numbers (expression.Sum' shape es) w = item_numbers es w.1
    part_numbers (expression.Minus' p e) w = part_numbers e w.1
    part_numbers (expression.Product' shape es) w = item_numbers es w.1

    item_numbers : {m : _} (es : Row_of-Expression m) → ItemsAreWritten (expression_trees names es) → ExpressionsHaveNumbers names es
    item_numbers end_of-Expression w = tt
    item_numbers (more_of-Expression e es) w = (part_numbers e w.0, item_numbers es w.1)

  expression_numbers : (e : Expression) → ExpressionIsWritten (expression_tree names e) → ExpressionHasNumbers names e
  expression_numbers e w = part_numbers e w.1

  index_numbers : (o : Option Expression) → IndexIsWritten (option_map (expression_tree names) o) → IfSome o (ExpressionHasNumbers names)
  index_numbers None w = tt
  index_numbers (Some e) w = expression_numbers e w

  name_numbers : (n : ParamName) → NameIsWritten (name_tree names n) → NameHasNumbers names n
  name_numbers n w = (number_of names n.name w.0, index_numbers n.index w.1)

  time_numbers : (t : ParamTime) → TimeIsWritten (time_tree names t) → TimeHasNumbers names t
  time_numbers t w = (number_of names t.event w.0, expression_numbers t.plus w.1)

  event_numbers : (e : ParamEvent) → EventIsWritten (event_tree names e) → EventHasNumbers names e
  event_numbers e w = (number_of names e.name w.0, expression_numbers e.delay w.1)

  interface_numbers : (g : ParamGo) → InterfaceIsWritten (interface_tree names g) → InterfaceHasNumbers names g
  interface_numbers g w = (number_of names g.event w.0, name_numbers g.name w.1.0, expression_numbers g.width w.1.1)

  port_numbers : (p : ParamPort) → PortIsWritten (port_tree names p) → PortHasNumbers names p
  port_numbers p w = (time_numbers p.from w.0, time_numbers p.to w.1.0, name_numbers p.name w.1.1.0, expression_numbers p.width w.1.1.1)

  value_numbers : (v : ParamValue) → ValueIsWritten (value_tree names v) → ValueHasNumbers names v
  value_numbers (value.Port p) w = name_numbers p w
  value_numbers (value.Out v p) w = (name_numbers v w.0, name_numbers p w.1)
  value_numbers (value.Lit width n) w = tt
  value_numbers (value.Made width n) w = (expression_numbers width w.0, expression_numbers n w.1)

  params_numbers : (params : List Expression) → AllByRecursion ExpressionIsWritten (map (expression_tree names) params) → All (ExpressionHasNumbers names) params
  params_numbers params w = all_of (ExpressionHasNumbers names) ExpressionIsWritten (expression_tree names) expression_numbers params w

  times_numbers : (at : List ParamTime) → AllByRecursion TimeIsWritten (map (time_tree names) at) → All (TimeHasNumbers names) at
  times_numbers at w = all_of (TimeHasNumbers names) TimeIsWritten (time_tree names) time_numbers at w

  args_numbers : (args : List ParamValue) → AllByRecursion ValueIsWritten (map (value_tree names) args) → All (ValueHasNumbers names) args
  args_numbers args w = all_of (ValueHasNumbers names) ValueIsWritten (value_tree names) value_numbers args w

  mutual
    statement_numbers : (s : ParamStatement) → StatementIsWritten (statement_tree names s) → StatementHasNumbers names s
    statement_numbers (statement.New name made params) w = (name_numbers name w.0, number_of names made w.1.0, params_numbers params.items w.1.1)
    statement_numbers (statement.Call name inst at args) w = (name_numbers name w.0, name_numbers inst w.1.0, (times_numbers at.items w.1.1.0.1, args_numbers args.items w.1.1.1))
    statement_numbers (statement.Both name made params at args) w = (
      name_numbers name w.0,
      number_of names made w.1.0,
      params_numbers params.items w.1.1.0,
      (times_numbers at.items w.1.1.1.0.1, args_numbers args.items w.1.1.1.1),
    )
    statement_numbers (statement.Set dst v) w = (name_numbers dst w.0, value_numbers v w.1)
    statement_numbers (statement.For' name from to shape body) w = (
      number_of names name w.0,
      expression_numbers from w.1.0,
      expression_numbers to w.1.1.0,
      statements_numbers body w.1.1.1,
    )
    statement_numbers (statement.If' less left right then_shape then_this else_shape else_this) w = (
      expression_numbers left w.0,
      expression_numbers right w.1.0,
      statements_numbers then_this w.1.1.0,
      statements_numbers else_this w.1.1.1,
    )

    statements_numbers : {m : _} (ss : Row_of-ParamStatement m) → StatementsAreWritten (statement_trees names ss) → StatementsHaveNumbers names ss
    statements_numbers end_of-ParamStatement w = tt
    statements_numbers (more_of-ParamStatement s ss) w = (statement_numbers s w.0, statements_numbers ss w.1)

  component_numbers : (c : ParamComponent) → ComponentIsWritten (component_tree names c) → ComponentHasNumbers names c
  component_numbers c w = record {
    name = number_of names c.name w.name;
    params = all_of (IsNumberOf names) IsFilpName (text_of names) (number_of names) c.params.items w.params;
    events = all_of (EventHasNumbers names) EventIsWritten (event_tree names) event_numbers c.events.items w.events;
    interfaces = all_of (InterfaceHasNumbers names) InterfaceIsWritten (interface_tree names) interface_numbers c.gos.items w.interfaces;
    ins = all_of (PortHasNumbers names) PortIsWritten (port_tree names) port_numbers c.ins.items w.ins;
    outs = all_of (PortHasNumbers names) PortIsWritten (port_tree names) port_numbers c.outs.items w.outs;
    body = all_of (StatementHasNumbers names) StatementIsWritten (statement_tree names) statement_numbers c.body.items w.body;
  }

pub design_numbers : (d : ParamDesign) → DesignIsWritten (design_of d) → HasNumbers d
design_numbers d w = all_of (ComponentHasNumbers d.names) ComponentIsWritten (component_tree d.names) (component_numbers d.names) d.comps.items w.1

-- of what is read
pub result_written : (source : List ℕ) (r : Result ParamDesign FilpTextEnd) → IfOk r (λ d. SpellsDesign source (design_of d)) → IfOk r (λ d. DesignIsWritten (design_of d))
result_written source (Ok d) s = tree_written source (design_of d) s
result_written source (Err e) s = tt

pub result_numbers : (source : List ℕ) (r : Result ParamDesign FilpTextEnd) → IfOk r (λ d. SpellsDesign source (design_of d)) → IfOk r HasNumbers
result_numbers source (Ok d) s = design_numbers d (tree_written source (design_of d) s)
result_numbers source (Err e) s = tt
