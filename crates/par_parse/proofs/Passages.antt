-- What one text spells with two lists of names: each rule passes from the one to the other, and what it spells can be written.
use Rattle.std.proofs.Common.{ℕ, zero, suc, Bool, true, false, List, [], ◌∷◌, Option, Some, None, refl, arith}
use Rattle.std.specs.List.{AllByRecursion}
use Rattle.hw_names.specs.Name.{Text}
use Rattle.hw_lex.specs.declared.token.Dialect.TheVariants.{Filp}
use Rattle.hw_grammar.specs.declared.sort.Sort.{Sort}
use Rattle.hw_grammar.specs.declared.sort.Sort.TheVariants.{Comp, New, Interface, Import, For, In, If, Else, Lit, At, LeftBracket, RightBracket, LeftParen, RightParen, LeftAngle, RightAngle, LeftBrace, RightBrace, Comma, Colon, ColonEquals, Semicolon, Equals, Plus, Minus, Star, Hash, Dot, DotDot, Arrow, EqualsEquals}
use Rattle.hw_grammar.specs.declared.sort.Sort.TheVariants as sorts
use Rattle.hw_grammar.specs.declared.terminal.Terminal.{Terminal}
use Rattle.hw_grammar.specs.Grammar.{One, Mapped, AnyWord, AnyNumber}
use Rattle.hw_grammar.proofs.Passing.{Both, OfEach, OfSome, passes-one}
use Rattle.hw_grammar.proofs.Alike.{IsAlike, same_sorts}
use Rattle.hw_grammar.proofs.Carrying.{Carries, carries-any_word, carries-any_number, carries-any_literal, carries-empty, carries-mapped, carries-weaker, carries-then, carries-either, carries-optional, carries-after, carries-closed, carries-between, carries-many, carries-separated, carries-listed}
use Rattle.par_parse.specs.Tree.{ExpressionTree, Num, InputValue, EventTree, InterfaceTree, PortTree, NameTree, GivingTree, StatementTree, expressions_of, statements_of}
use Rattle.par_parse.specs.Tree as tree
use Rattle.par_parse.specs.Grammar.{AtomOf, product_from, TermOf, minus_from, NextTermOf, sum_from, list_from, ExpressionTo, IsExpression, IsAtom, name_from, IsName, time_from, IsTime, output_from, literal_from, made_literal_from, IsValue, giving_from, IsCall, AreGivenParameters, new_from, call_from, connect_from, IsPlainStatement, BlockOf, IsRange, for_from, IsComparison, IsCondition, MaybeElse, if_from, StatementTo, IsStatement, port_from, IsPlacedPort, IsPort, interface_from, IsNamedInterface, InputTree, InterfacePort, DataInput, IsInput, event_from, IsEvent, interfaces_of, data_of, inputs_from, AreParameters, AreEvents, AreInputs, AreOutputs, Ports, ArePorts, component_from, IsComponent, IsImport, AreImports, design_from, IsFile}
use Rattle.par_parse.specs.Written.{IsFilpName, AreNoMinus, PartsAreWritten, ItemsAreWritten, ExpressionIsWritten, NameIsWritten, TimeIsWritten, ValueIsWritten, GivingIsWritten, StatementIsWritten, StatementsAreWritten, EventIsWritten, InterfaceIsWritten, PortIsWritten, ComponentIsWritten, DesignIsWritten}

abbrev AnyBool : Bool → Type 0
AnyBool x = Unit {0}

abbrev Anything : Unit {0} → Type 0
Anything x = Unit {0}

-- ---- what can be written, made of parts that can

no_minus : (es : List ExpressionTree) → AllByRecursion ExpressionIsWritten es → AreNoMinus (expressions_of es)
no_minus [] h = tt
no_minus (e ∷ es) h = (h.0.0, no_minus es h.1)

factors_written : (es : List ExpressionTree) → AllByRecursion ExpressionIsWritten es → ItemsAreWritten (expressions_of es)
factors_written [] h = tt
factors_written (e ∷ es) h = (h.0.1, factors_written es h.1)

product_written : (es : List ExpressionTree) → OfEach ExpressionIsWritten es → ExpressionIsWritten (product_from es)
product_written [] h = absurd (h.0 refl)
product_written (e ∷ []) h = h.1.0
product_written (e ∷ f ∷ es) h = (tt, ((h.1.0.0, (h.1.1.0.0, no_minus es h.1.1.1)), factors_written (e ∷ f ∷ es) h.1))

terms_written : (es : List ExpressionTree) → AllByRecursion PartsAreWritten es → ItemsAreWritten (expressions_of es)
terms_written [] h = tt
terms_written (e ∷ es) h = (h.0, terms_written es h.1)

-- terms, the first of which is added
abbrev TermsAreWritten : List ExpressionTree → Type 0
TermsAreWritten [] = ⊥
TermsAreWritten (e ∷ es) = ExpressionIsWritten e × AllByRecursion PartsAreWritten es

sum_written : (es : List ExpressionTree) → TermsAreWritten es → ExpressionIsWritten (sum_from es)
sum_written [] h = absurd h
sum_written (e ∷ []) h = h.0
sum_written (e ∷ f ∷ es) h = (tt, (h.0.0, (h.0.1, terms_written (f ∷ es) h.1)))

name_written : (x : Text × Option ExpressionTree) → IsFilpName x.0 × OfSome ExpressionIsWritten x.1 → NameIsWritten (name_from x)
name_written (name, None) q = q
name_written (name, Some index) q = q

new_written : (x : NameTree × (Text × (List ExpressionTree × Option GivingTree)))
    → NameIsWritten x.0 × (IsFilpName x.1.0 × (AllByRecursion ExpressionIsWritten x.1.1.0 × OfSome GivingIsWritten x.1.1.1)) → StatementIsWritten (new_from x)
new_written (name, (comp, (params, None))) (a, (b, (c, d))) = (a, (b, c))
new_written (name, (comp, (params, Some gives))) (a, (b, (c, d))) = (a, (b, (c, d)))

statements_written : (ss : List StatementTree) → AllByRecursion StatementIsWritten ss → StatementsAreWritten (statements_of ss)
statements_written [] h = tt
statements_written (s ∷ ss) h = (h.0, statements_written ss h.1)

abbrev InputIsWritten : InputTree → Type 0
InputIsWritten (InterfacePort port) = InterfaceIsWritten port
InputIsWritten (DataInput port) = PortIsWritten port

interfaces_written : (inputs : List InputTree) → AllByRecursion InputIsWritten inputs → AllByRecursion InterfaceIsWritten (interfaces_of inputs)
interfaces_written [] h = tt
interfaces_written (InterfacePort port ∷ inputs) h = (h.0, interfaces_written inputs h.1)
interfaces_written (DataInput port ∷ inputs) h = interfaces_written inputs h.1

data_written : (inputs : List InputTree) → AllByRecursion InputIsWritten inputs → AllByRecursion PortIsWritten (data_of inputs)
data_written [] h = tt
data_written (InterfacePort port ∷ inputs) h = data_written inputs h.1
data_written (DataInput port ∷ inputs) h = (h.0, data_written inputs h.1)

component_written : (x : Text × (List Text × (List EventTree × (Ports × List StatementTree))))
    → IsFilpName x.0 × (AllByRecursion IsFilpName x.1.0 × (OfEach EventIsWritten x.1.1.0
    × (((AllByRecursion InterfaceIsWritten x.1.1.1.0.0.0 × AllByRecursion PortIsWritten x.1.1.1.0.0.1) × AllByRecursion PortIsWritten x.1.1.1.0.1) × AllByRecursion StatementIsWritten x.1.1.1.1)))
    → ComponentIsWritten (component_from x)
component_written x (name, (params, (events, (((interfaces, ins), outs), body)))) = record {
  name = name;
  params = params;
  some_event = events.0;
  events = events.1;
  interfaces = interfaces;
  ins = ins;
  outs = outs;
  body = body;
}

-- ---- the rules

module _ (old new : List Text) where
  word : Carries Filp old new (AnyWord old) (AnyWord new) IsFilpName
  word = carries-any_word Filp old new

  -- a terminal of the sort, whatever it is
  mark : (A : Type 0) (v : A) (sort : Sort) (Q : A → Type 0) → Q v → Carries Filp old new (Mapped (λ (t : Terminal). v) (One sort)) (Mapped (λ (t : Terminal). v) (One sort)) Q
  mark A v sort Q q = record { passes = passes-one (IsAlike Filp old new) (same_sorts Filp old new) sort (λ (t : Terminal). v) (λ (t : Terminal). v) Q (λ t u r e. (q, refl)) }

  -- ---- expressions

  numeral : Carries Filp old new (Mapped Num AnyNumber) (Mapped Num AnyNumber) ExpressionIsWritten
  numeral = carries-mapped Num (carries-any_number Filp old new) (λ n q. (tt, q))

  variable : Carries Filp old new (Mapped tree.Name (AnyWord old)) (Mapped tree.Name (AnyWord new)) ExpressionIsWritten
  variable = carries-mapped tree.Name word (λ name q. (tt, q))

  atom : (d : ℕ) → Carries Filp old new (ExpressionTo old d) (ExpressionTo new d) ExpressionIsWritten → Carries Filp old new (AtomOf old (ExpressionTo old d)) (AtomOf new (ExpressionTo new d)) ExpressionIsWritten
  atom d e = carries-either numeral (carries-either variable (carries-between LeftParen RightParen e))

  term : (d : ℕ) → Carries Filp old new (ExpressionTo old d) (ExpressionTo new d) ExpressionIsWritten → Carries Filp old new (TermOf old (ExpressionTo old d)) (TermOf new (ExpressionTo new d)) ExpressionIsWritten
  term d e = carries-mapped product_from (carries-separated Star (atom d e)) product_written

  next_term : (d : ℕ) → Carries Filp old new (ExpressionTo old d) (ExpressionTo new d) ExpressionIsWritten → Carries Filp old new (NextTermOf old (ExpressionTo old d)) (NextTermOf new (ExpressionTo new d)) PartsAreWritten
  next_term d e =
      carries-either (carries-weaker (carries-after Plus (term d e)) (λ x q. q.1)) (carries-mapped minus_from (carries-after Minus (term d e)) (λ x q. q))

  expression_to : (d : ℕ) → Carries Filp old new (ExpressionTo old d) (ExpressionTo new d) ExpressionIsWritten
  expression_to zero = carries-either numeral variable
  expression_to (suc d) =
      let e = expression_to d in
      carries-mapped {P = TermsAreWritten} sum_from (carries-mapped list_from (carries-then (term d e) (carries-many (next_term d e))) (λ x q. q)) sum_written

  expression : Carries Filp old new (IsExpression old) (IsExpression new) ExpressionIsWritten
  expression = record {
    passes = λ ts us a rest pairs l. let k = (expression_to l.0).passes ts us a rest pairs l.1 in (k.0, (k.1.0, k.1.1, (l.0, k.1.2)));
  }

  any_atom : Carries Filp old new (IsAtom old) (IsAtom new) ExpressionIsWritten
  any_atom = carries-either numeral (carries-either variable (carries-between LeftParen RightParen expression))

  -- ---- names, times and values

  name : Carries Filp old new (IsName old) (IsName new) NameIsWritten
  name = carries-mapped name_from (carries-then word (carries-optional (carries-after Hash any_atom))) name_written

  time : Carries Filp old new (IsTime old) (IsTime new) TimeIsWritten
  time =
      carries-mapped time_from (carries-then word (carries-either (carries-after Plus expression) (carries-empty (Num 0) ExpressionIsWritten (tt, omega arith)))) (λ x q. q)

  value : Carries Filp old new (IsValue old) (IsValue new) ValueIsWritten
  value =
      carries-either (carries-mapped InputValue name (λ x q. q))
      (carries-either (carries-mapped output_from (carries-then name (carries-after Dot name)) (λ x q. q))
      (carries-either (carries-mapped literal_from (carries-any_literal Filp old new) (λ x q. q))
      (carries-mapped made_literal_from (carries-after Lit (carries-between LeftParen RightParen (carries-then (carries-closed Comma expression) expression))) (λ x q. q))))

  -- ---- statements

  call : Carries Filp old new (IsCall old) (IsCall new) GivingIsWritten
  call =
      carries-mapped giving_from (carries-then (carries-between LeftAngle RightAngle (carries-separated Comma time)) (carries-between LeftParen RightParen (carries-listed Comma value))) (λ x q. q)

  given_parameters : Carries Filp old new (AreGivenParameters old) (AreGivenParameters new) (AllByRecursion ExpressionIsWritten)
  given_parameters =
      carries-either (carries-weaker (carries-between LeftBracket RightBracket (carries-separated Comma expression)) (λ x q. q.1))
      (carries-empty {A = List ExpressionTree} [] (AllByRecursion ExpressionIsWritten) tt)

  plain_statement : Carries Filp old new (IsPlainStatement old) (IsPlainStatement new) StatementIsWritten
  plain_statement =
      carries-either (carries-mapped new_from (carries-then name (carries-after ColonEquals (carries-after New
      (carries-then word (carries-closed Semicolon (carries-then given_parameters (carries-optional call))))))) new_written)
      (carries-either (carries-mapped call_from (carries-then name (carries-after ColonEquals (carries-then name (carries-closed Semicolon call)))) (λ x q. q))
      (carries-mapped connect_from (carries-then name (carries-after Equals (carries-closed Semicolon value))) (λ x q. q)))

  block : (d : ℕ) → Carries Filp old new (StatementTo old d) (StatementTo new d) StatementIsWritten → Carries Filp old new (BlockOf (StatementTo old d)) (BlockOf (StatementTo new d)) (AllByRecursion StatementIsWritten)
  block d s = carries-between LeftBrace RightBrace (carries-many s)

  range : Carries Filp old new (IsRange old) (IsRange new) (Both IsFilpName (Both ExpressionIsWritten ExpressionIsWritten))
  range = carries-then word (carries-after In (carries-then (carries-closed DotDot expression) expression))

  comparison : Carries Filp old new IsComparison IsComparison AnyBool
  comparison = carries-either (mark Bool false EqualsEquals AnyBool tt) (mark Bool true LeftAngle AnyBool tt)

  condition : Carries Filp old new (IsCondition old) (IsCondition new) (Both ExpressionIsWritten (Both AnyBool ExpressionIsWritten))
  condition = carries-then expression (carries-then comparison expression)

  maybe_else : (d : ℕ) → Carries Filp old new (StatementTo old d) (StatementTo new d) StatementIsWritten → Carries Filp old new (MaybeElse (StatementTo old d)) (MaybeElse (StatementTo new d)) (AllByRecursion StatementIsWritten)
  maybe_else d s = carries-either (carries-after Else (block d s)) (carries-empty {A = List StatementTree} [] (AllByRecursion StatementIsWritten) tt)

  statement_to : (d : ℕ) → Carries Filp old new (StatementTo old d) (StatementTo new d) StatementIsWritten
  statement_to zero = plain_statement
  statement_to (suc d) =
      let s = statement_to d in
      carries-either plain_statement
      (carries-either (carries-mapped for_from (carries-after For (carries-then range (block d s))) (λ x q. (q.0.0, (q.0.1.0, (q.0.1.1, statements_written x.1 q.1)))))
      (carries-mapped if_from (carries-after If (carries-then condition (carries-then (block d s) (maybe_else d s))))
      (λ x q. (q.0.0, (q.0.1.1, (statements_written x.1.0 q.1.0, statements_written x.1.1 q.1.1))))))

  statement : Carries Filp old new (IsStatement old) (IsStatement new) StatementIsWritten
  statement = record {
    passes = λ ts us a rest pairs l. let k = (statement_to l.0).passes ts us a rest pairs l.1 in (k.0, (k.1.0, k.1.1, (l.0, k.1.2)));
  }

  -- ---- signatures

  placed : Carries Filp old new (IsPlacedPort old) (IsPlacedPort new) PortIsWritten
  placed =
      carries-mapped port_from (carries-after LeftBracket (carries-then (carries-closed Comma time)
      (carries-then (carries-closed RightBracket time) (carries-then (carries-closed Colon name) expression)))) (λ x q. q)

  port : Carries Filp old new (IsPort old) (IsPort new) PortIsWritten
  port = carries-after At placed

  interface : Carries Filp old new (IsNamedInterface old) (IsNamedInterface new) InterfaceIsWritten
  interface =
      carries-mapped interface_from (carries-then (carries-between LeftBracket RightBracket word) (carries-then (carries-closed Colon name) expression)) (λ x q. q)

  input : Carries Filp old new (IsInput old) (IsInput new) InputIsWritten
  input =
      carries-either (carries-mapped InterfacePort (carries-after At (carries-after Interface interface)) (λ x q. q)) (carries-mapped DataInput port (λ x q. q))

  event : Carries Filp old new (IsEvent old) (IsEvent new) EventIsWritten
  event = carries-mapped event_from (carries-then (carries-closed Colon word) expression) (λ x q. q)

  parameters : Carries Filp old new (AreParameters old) (AreParameters new) (AllByRecursion IsFilpName)
  parameters =
      carries-either (carries-weaker (carries-between LeftBracket RightBracket (carries-separated Comma word)) (λ x q. q.1))
      (carries-empty {A = List Text} [] (AllByRecursion IsFilpName) tt)

  events : Carries Filp old new (AreEvents old) (AreEvents new) (OfEach EventIsWritten)
  events = carries-between LeftAngle RightAngle (carries-separated Comma event)

  inputs : Carries Filp old new (AreInputs old) (AreInputs new) (Both (AllByRecursion InterfaceIsWritten) (AllByRecursion PortIsWritten))
  inputs = carries-mapped inputs_from (carries-between LeftParen RightParen (carries-listed Comma input)) (λ x q. (interfaces_written x q, data_written x q))

  outputs : Carries Filp old new (AreOutputs old) (AreOutputs new) (AllByRecursion PortIsWritten)
  outputs = carries-between LeftParen RightParen (carries-listed Comma port)

  ports : Carries Filp old new (ArePorts old) (ArePorts new) (Both (Both (AllByRecursion InterfaceIsWritten) (AllByRecursion PortIsWritten)) (AllByRecursion PortIsWritten))
  ports = carries-then inputs (carries-after Arrow outputs)

  -- ---- components and files

  body : Carries Filp old new (BlockOf (IsStatement old)) (BlockOf (IsStatement new)) (AllByRecursion StatementIsWritten)
  body = carries-between LeftBrace RightBrace (carries-many statement)

  component : Carries Filp old new (IsComponent old) (IsComponent new) ComponentIsWritten
  component = carries-mapped component_from (carries-after Comp (carries-then word (carries-then parameters (carries-then events (carries-then ports body))))) component_written

  import_line : Carries Filp old new IsImport IsImport Anything
  import_line = carries-after Import (carries-closed Semicolon (mark (Unit {0}) tt sorts.Text Anything tt))

  imports : Carries Filp old new AreImports AreImports Anything
  imports = carries-mapped (λ (x : List (Unit {0})). tt) (carries-many import_line) (λ x q. tt)

  pub file : Carries Filp old new (IsFile old) (IsFile new) DesignIsWritten
  file = carries-mapped design_from (carries-then imports (carries-then component (carries-many component))) (λ x q. ((λ e. absurd cc), q.1))
