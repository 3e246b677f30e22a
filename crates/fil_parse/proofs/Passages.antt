-- What one text spells with two lists of names: each rule passes from the one to the other, and what it spells can be written.
use Rattle.std.proofs.Common.{◌≡◌, ◌≢◌, ℕ, List, [], ◌∷◌, Option, Some, None, refl, arith}
use Rattle.std.specs.List.{AllByRecursion}
use Rattle.hw_names.specs.Name.{Text}
use Rattle.hw_lex.specs.declared.token.Dialect.TheVariants.{Fil}
use Rattle.hw_grammar.specs.declared.sort.Sort.TheVariants.{Comp, New, Interface, Import, At, LeftBracket, RightBracket, LeftParen, RightParen, LeftAngle, RightAngle, LeftBrace, RightBrace, Comma, Colon, ColonEquals, Semicolon, Equals, Plus, Dot, Arrow}
use Rattle.hw_grammar.specs.declared.sort.Sort.TheVariants as sorts
use Rattle.hw_grammar.specs.declared.terminal.Terminal.{Terminal}
use Rattle.hw_grammar.specs.Grammar.{One, Empty, Mapped, AnyWord, AnyNumber, AnyLiteral, Then, Either, Optional, After, Closed, Between, Many, Separated, Listed}
use Rattle.hw_grammar.specs.Words.{IsWritten}
use Rattle.hw_grammar.proofs.Passing.{Passes, Both, OfEach, OfSome, passes-one, passes-empty, passes-mapped, passes-weaker, passes-then, passes-either, passes-optional, passes-mark, passes-closed, passes-between, passes-many, passes-separated, passes-listed}
use Rattle.hw_grammar.proofs.Alike.{IsAlike, same_sorts, passes-any_word, passes-any_number, passes-any_literal}
use Rattle.fil_ast.specs.Tree.{Event, DataPort, InputValue, Giving, Statement}
use Rattle.fil_parse.specs.Grammar.{time_from, output_from, literal_from, giving_from, new_from, call_from, connect_from, port_from, interface_from, Input, InterfacePort, DataInput, interfaces_of, data_of, event_from, component_from, design_from, IsTime, IsValue, IsCall, AreParameters, IsStatement, IsPlacedPort, IsPort, IsNamedInterface, IsInput, IsEvent, AreEvents, AreInputs, AreOutputs, IsBody, IsComponent, IsImport, AreImports, IsFile}
use Rattle.fil_parse.specs.Written.{IsFilName, TimeIsWritten, EventIsWritten, InterfaceIsWritten, PortIsWritten, ValueIsWritten, GivingIsWritten, StatementIsWritten, ComponentIsWritten, DesignIsWritten}

abbrev InputIsWritten : Input → Type 0
InputIsWritten (InterfacePort port) = InterfaceIsWritten port
InputIsWritten (DataInput port) = PortIsWritten port

abbrev Anything : Unit {0} → Type 0
Anything x = Unit {0}

new_written : (x : Text × (Text × (List ℕ × Option Giving))) → IsFilName x.0 × (IsFilName x.1.0 × (AllByRecursion IsWritten x.1.1.0 × OfSome GivingIsWritten x.1.1.1)) → StatementIsWritten (new_from x)
new_written (name, (comp, (params, None))) (a, (b, (c, d))) = (a, (b, c))
new_written (name, (comp, (params, Some gives))) (a, (b, (c, d))) = (a, (b, (c, d)))

interfaces_written : (inputs : List Input) → AllByRecursion InputIsWritten inputs → AllByRecursion InterfaceIsWritten (interfaces_of inputs)
interfaces_written [] h = tt
interfaces_written (InterfacePort port ∷ inputs) h = (h.0, interfaces_written inputs h.1)
interfaces_written (DataInput port ∷ inputs) h = interfaces_written inputs h.1

data_written : (inputs : List Input) → AllByRecursion InputIsWritten inputs → AllByRecursion PortIsWritten (data_of inputs)
data_written [] h = tt
data_written (InterfacePort port ∷ inputs) h = data_written inputs h.1
data_written (DataInput port ∷ inputs) h = (h.0, data_written inputs h.1)

component_written : (x : Text × (List Event × (List Input × (List DataPort × List Statement))))
    → IsFilName x.0 × (((x.1.0 ≢ []) × AllByRecursion EventIsWritten x.1.0) × (AllByRecursion InputIsWritten x.1.1.0 × (AllByRecursion PortIsWritten x.1.1.1.0 × AllByRecursion StatementIsWritten x.1.1.1.1)))
    → ComponentIsWritten (component_from x)
component_written x (name, (events, (inputs, (outs, body)))) = record {
  name = name;
  some_event = events.0;
  events = events.1;
  interfaces = interfaces_written x.1.1.0 inputs;
  ins = data_written x.1.1.0 inputs;
  outs = outs;
  body = body;
}

module _ (old new : List Text) where
  abbrev R : Terminal → Terminal → Type 0
  R = IsAlike Fil old new

  same : (t u : Terminal) → R t u → u.sort ≡ t.sort
  same = same_sorts Fil old new

  passes-time : Passes R (IsTime old) (IsTime new) TimeIsWritten
  passes-time = passes-mapped R same time_from (Then (AnyWord old) (Either (After Plus AnyNumber) (Empty 0))) (Then (AnyWord new) (Either (After Plus AnyNumber) (Empty 0))) (Both IsFilName IsWritten) TimeIsWritten (passes-then R same (AnyWord old) (AnyWord new) IsFilName (Either (After Plus AnyNumber) (Empty 0)) (Either (After Plus AnyNumber) (Empty 0)) IsWritten (passes-any_word Fil old new) (passes-either R same (After Plus AnyNumber) (After Plus AnyNumber) (Empty 0) (Empty 0) IsWritten (passes-mark R same Plus AnyNumber AnyNumber IsWritten (passes-any_number Fil old new)) (passes-empty R same 0 IsWritten (omega arith)))) (λ x q. q)

  passes-value : Passes R (IsValue old) (IsValue new) ValueIsWritten
  passes-value = passes-either R same (Mapped InputValue (AnyWord old)) (Mapped InputValue (AnyWord new)) (Either (Mapped output_from (Then (AnyWord old) (After Dot (AnyWord old)))) (Mapped literal_from AnyLiteral)) (Either (Mapped output_from (Then (AnyWord new) (After Dot (AnyWord new)))) (Mapped literal_from AnyLiteral)) ValueIsWritten (passes-mapped R same InputValue (AnyWord old) (AnyWord new) IsFilName ValueIsWritten (passes-any_word Fil old new) (λ x q. q)) (passes-either R same (Mapped output_from (Then (AnyWord old) (After Dot (AnyWord old)))) (Mapped output_from (Then (AnyWord new) (After Dot (AnyWord new)))) (Mapped literal_from AnyLiteral) (Mapped literal_from AnyLiteral) ValueIsWritten (passes-mapped R same output_from (Then (AnyWord old) (After Dot (AnyWord old))) (Then (AnyWord new) (After Dot (AnyWord new))) (Both IsFilName IsFilName) ValueIsWritten (passes-then R same (AnyWord old) (AnyWord new) IsFilName (After Dot (AnyWord old)) (After Dot (AnyWord new)) IsFilName (passes-any_word Fil old new) (passes-mark R same Dot (AnyWord old) (AnyWord new) IsFilName (passes-any_word Fil old new))) (λ x q. q)) (passes-mapped R same literal_from AnyLiteral AnyLiteral (Both IsWritten IsWritten) ValueIsWritten (passes-any_literal Fil old new) (λ x q. q)))

  passes-call : Passes R (IsCall old) (IsCall new) GivingIsWritten
  passes-call = passes-mapped R same giving_from (Then (Between LeftAngle (Separated Comma (IsTime old)) RightAngle) (Between LeftParen (Listed Comma (IsValue old)) RightParen)) (Then (Between LeftAngle (Separated Comma (IsTime new)) RightAngle) (Between LeftParen (Listed Comma (IsValue new)) RightParen)) (Both (OfEach TimeIsWritten) (AllByRecursion ValueIsWritten)) GivingIsWritten (passes-then R same (Between LeftAngle (Separated Comma (IsTime old)) RightAngle) (Between LeftAngle (Separated Comma (IsTime new)) RightAngle) (OfEach TimeIsWritten) (Between LeftParen (Listed Comma (IsValue old)) RightParen) (Between LeftParen (Listed Comma (IsValue new)) RightParen) (AllByRecursion ValueIsWritten) (passes-between R same LeftAngle RightAngle (Separated Comma (IsTime old)) (Separated Comma (IsTime new)) (OfEach TimeIsWritten) (passes-separated R same Comma (IsTime old) (IsTime new) TimeIsWritten passes-time)) (passes-between R same LeftParen RightParen (Listed Comma (IsValue old)) (Listed Comma (IsValue new)) (AllByRecursion ValueIsWritten) (passes-listed R same Comma (IsValue old) (IsValue new) ValueIsWritten passes-value))) (λ x q. q)

  passes-params : Passes R AreParameters AreParameters (AllByRecursion IsWritten)
  passes-params = passes-weaker R same (Between LeftBracket (Separated Comma AnyNumber) RightBracket) (Between LeftBracket (Separated Comma AnyNumber) RightBracket) (OfEach IsWritten) (AllByRecursion IsWritten) (passes-between R same LeftBracket RightBracket (Separated Comma AnyNumber) (Separated Comma AnyNumber) (OfEach IsWritten) (passes-separated R same Comma AnyNumber AnyNumber IsWritten (passes-any_number Fil old new))) (λ xs q. q.1)

  passes-statement : Passes R (IsStatement old) (IsStatement new) StatementIsWritten
  passes-statement = passes-either R same (Mapped new_from (Then (AnyWord old) (After ColonEquals (After New (Then (AnyWord old) (Closed (Then (Either AreParameters (Empty [])) (Optional (IsCall old))) Semicolon)))))) (Mapped new_from (Then (AnyWord new) (After ColonEquals (After New (Then (AnyWord new) (Closed (Then (Either AreParameters (Empty [])) (Optional (IsCall new))) Semicolon)))))) (Either (Mapped call_from (Then (AnyWord old) (After ColonEquals (Then (AnyWord old) (Closed (IsCall old) Semicolon))))) (Mapped connect_from (Then (AnyWord old) (After Equals (Closed (IsValue old) Semicolon))))) (Either (Mapped call_from (Then (AnyWord new) (After ColonEquals (Then (AnyWord new) (Closed (IsCall new) Semicolon))))) (Mapped connect_from (Then (AnyWord new) (After Equals (Closed (IsValue new) Semicolon))))) StatementIsWritten (passes-mapped R same new_from (Then (AnyWord old) (After ColonEquals (After New (Then (AnyWord old) (Closed (Then (Either AreParameters (Empty [])) (Optional (IsCall old))) Semicolon))))) (Then (AnyWord new) (After ColonEquals (After New (Then (AnyWord new) (Closed (Then (Either AreParameters (Empty [])) (Optional (IsCall new))) Semicolon))))) (Both IsFilName (Both IsFilName (Both (AllByRecursion IsWritten) (OfSome GivingIsWritten)))) StatementIsWritten (passes-then R same (AnyWord old) (AnyWord new) IsFilName (After ColonEquals (After New (Then (AnyWord old) (Closed (Then (Either AreParameters (Empty [])) (Optional (IsCall old))) Semicolon)))) (After ColonEquals (After New (Then (AnyWord new) (Closed (Then (Either AreParameters (Empty [])) (Optional (IsCall new))) Semicolon)))) (Both IsFilName (Both (AllByRecursion IsWritten) (OfSome GivingIsWritten))) (passes-any_word Fil old new) (passes-mark R same ColonEquals (After New (Then (AnyWord old) (Closed (Then (Either AreParameters (Empty [])) (Optional (IsCall old))) Semicolon))) (After New (Then (AnyWord new) (Closed (Then (Either AreParameters (Empty [])) (Optional (IsCall new))) Semicolon))) (Both IsFilName (Both (AllByRecursion IsWritten) (OfSome GivingIsWritten))) (passes-mark R same New (Then (AnyWord old) (Closed (Then (Either AreParameters (Empty [])) (Optional (IsCall old))) Semicolon)) (Then (AnyWord new) (Closed (Then (Either AreParameters (Empty [])) (Optional (IsCall new))) Semicolon)) (Both IsFilName (Both (AllByRecursion IsWritten) (OfSome GivingIsWritten))) (passes-then R same (AnyWord old) (AnyWord new) IsFilName (Closed (Then (Either AreParameters (Empty [])) (Optional (IsCall old))) Semicolon) (Closed (Then (Either AreParameters (Empty [])) (Optional (IsCall new))) Semicolon) (Both (AllByRecursion IsWritten) (OfSome GivingIsWritten)) (passes-any_word Fil old new) (passes-closed R same Semicolon (Then (Either AreParameters (Empty [])) (Optional (IsCall old))) (Then (Either AreParameters (Empty [])) (Optional (IsCall new))) (Both (AllByRecursion IsWritten) (OfSome GivingIsWritten)) (passes-then R same (Either AreParameters (Empty [])) (Either AreParameters (Empty [])) (AllByRecursion IsWritten) (Optional (IsCall old)) (Optional (IsCall new)) (OfSome GivingIsWritten) (passes-either R same AreParameters AreParameters (Empty []) (Empty []) (AllByRecursion IsWritten) passes-params (passes-empty R same [] (AllByRecursion IsWritten) tt)) (passes-optional R same (IsCall old) (IsCall new) GivingIsWritten passes-call))))))) new_written) (passes-either R same (Mapped call_from (Then (AnyWord old) (After ColonEquals (Then (AnyWord old) (Closed (IsCall old) Semicolon))))) (Mapped call_from (Then (AnyWord new) (After ColonEquals (Then (AnyWord new) (Closed (IsCall new) Semicolon))))) (Mapped connect_from (Then (AnyWord old) (After Equals (Closed (IsValue old) Semicolon)))) (Mapped connect_from (Then (AnyWord new) (After Equals (Closed (IsValue new) Semicolon)))) StatementIsWritten (passes-mapped R same call_from (Then (AnyWord old) (After ColonEquals (Then (AnyWord old) (Closed (IsCall old) Semicolon)))) (Then (AnyWord new) (After ColonEquals (Then (AnyWord new) (Closed (IsCall new) Semicolon)))) (Both IsFilName (Both IsFilName GivingIsWritten)) StatementIsWritten (passes-then R same (AnyWord old) (AnyWord new) IsFilName (After ColonEquals (Then (AnyWord old) (Closed (IsCall old) Semicolon))) (After ColonEquals (Then (AnyWord new) (Closed (IsCall new) Semicolon))) (Both IsFilName GivingIsWritten) (passes-any_word Fil old new) (passes-mark R same ColonEquals (Then (AnyWord old) (Closed (IsCall old) Semicolon)) (Then (AnyWord new) (Closed (IsCall new) Semicolon)) (Both IsFilName GivingIsWritten) (passes-then R same (AnyWord old) (AnyWord new) IsFilName (Closed (IsCall old) Semicolon) (Closed (IsCall new) Semicolon) GivingIsWritten (passes-any_word Fil old new) (passes-closed R same Semicolon (IsCall old) (IsCall new) GivingIsWritten passes-call)))) (λ x q. q)) (passes-mapped R same connect_from (Then (AnyWord old) (After Equals (Closed (IsValue old) Semicolon))) (Then (AnyWord new) (After Equals (Closed (IsValue new) Semicolon))) (Both IsFilName ValueIsWritten) StatementIsWritten (passes-then R same (AnyWord old) (AnyWord new) IsFilName (After Equals (Closed (IsValue old) Semicolon)) (After Equals (Closed (IsValue new) Semicolon)) ValueIsWritten (passes-any_word Fil old new) (passes-mark R same Equals (Closed (IsValue old) Semicolon) (Closed (IsValue new) Semicolon) ValueIsWritten (passes-closed R same Semicolon (IsValue old) (IsValue new) ValueIsWritten passes-value))) (λ x q. q)))

  passes-placed : Passes R (IsPlacedPort old) (IsPlacedPort new) PortIsWritten
  passes-placed = passes-mapped R same port_from (After LeftBracket (Then (Closed (IsTime old) Comma) (Then (Closed (IsTime old) RightBracket) (Then (Closed (AnyWord old) Colon) AnyNumber)))) (After LeftBracket (Then (Closed (IsTime new) Comma) (Then (Closed (IsTime new) RightBracket) (Then (Closed (AnyWord new) Colon) AnyNumber)))) (Both TimeIsWritten (Both TimeIsWritten (Both IsFilName IsWritten))) PortIsWritten (passes-mark R same LeftBracket (Then (Closed (IsTime old) Comma) (Then (Closed (IsTime old) RightBracket) (Then (Closed (AnyWord old) Colon) AnyNumber))) (Then (Closed (IsTime new) Comma) (Then (Closed (IsTime new) RightBracket) (Then (Closed (AnyWord new) Colon) AnyNumber))) (Both TimeIsWritten (Both TimeIsWritten (Both IsFilName IsWritten))) (passes-then R same (Closed (IsTime old) Comma) (Closed (IsTime new) Comma) TimeIsWritten (Then (Closed (IsTime old) RightBracket) (Then (Closed (AnyWord old) Colon) AnyNumber)) (Then (Closed (IsTime new) RightBracket) (Then (Closed (AnyWord new) Colon) AnyNumber)) (Both TimeIsWritten (Both IsFilName IsWritten)) (passes-closed R same Comma (IsTime old) (IsTime new) TimeIsWritten passes-time) (passes-then R same (Closed (IsTime old) RightBracket) (Closed (IsTime new) RightBracket) TimeIsWritten (Then (Closed (AnyWord old) Colon) AnyNumber) (Then (Closed (AnyWord new) Colon) AnyNumber) (Both IsFilName IsWritten) (passes-closed R same RightBracket (IsTime old) (IsTime new) TimeIsWritten passes-time) (passes-then R same (Closed (AnyWord old) Colon) (Closed (AnyWord new) Colon) IsFilName AnyNumber AnyNumber IsWritten (passes-closed R same Colon (AnyWord old) (AnyWord new) IsFilName (passes-any_word Fil old new)) (passes-any_number Fil old new))))) (λ x q. q)

  passes-port : Passes R (IsPort old) (IsPort new) PortIsWritten
  passes-port = passes-mark R same At (IsPlacedPort old) (IsPlacedPort new) PortIsWritten passes-placed

  passes-interface : Passes R (IsNamedInterface old) (IsNamedInterface new) InterfaceIsWritten
  passes-interface = passes-mapped R same interface_from (Then (Between LeftBracket (AnyWord old) RightBracket) (Then (Closed (AnyWord old) Colon) AnyNumber)) (Then (Between LeftBracket (AnyWord new) RightBracket) (Then (Closed (AnyWord new) Colon) AnyNumber)) (Both IsFilName (Both IsFilName IsWritten)) InterfaceIsWritten (passes-then R same (Between LeftBracket (AnyWord old) RightBracket) (Between LeftBracket (AnyWord new) RightBracket) IsFilName (Then (Closed (AnyWord old) Colon) AnyNumber) (Then (Closed (AnyWord new) Colon) AnyNumber) (Both IsFilName IsWritten) (passes-between R same LeftBracket RightBracket (AnyWord old) (AnyWord new) IsFilName (passes-any_word Fil old new)) (passes-then R same (Closed (AnyWord old) Colon) (Closed (AnyWord new) Colon) IsFilName AnyNumber AnyNumber IsWritten (passes-closed R same Colon (AnyWord old) (AnyWord new) IsFilName (passes-any_word Fil old new)) (passes-any_number Fil old new))) (λ x q. q)

  passes-input : Passes R (IsInput old) (IsInput new) InputIsWritten
  passes-input = passes-either R same (Mapped InterfacePort (After At (After Interface (IsNamedInterface old)))) (Mapped InterfacePort (After At (After Interface (IsNamedInterface new)))) (Mapped DataInput (IsPort old)) (Mapped DataInput (IsPort new)) InputIsWritten (passes-mapped R same InterfacePort (After At (After Interface (IsNamedInterface old))) (After At (After Interface (IsNamedInterface new))) InterfaceIsWritten InputIsWritten (passes-mark R same At (After Interface (IsNamedInterface old)) (After Interface (IsNamedInterface new)) InterfaceIsWritten (passes-mark R same Interface (IsNamedInterface old) (IsNamedInterface new) InterfaceIsWritten passes-interface)) (λ x q. q)) (passes-mapped R same DataInput (IsPort old) (IsPort new) PortIsWritten InputIsWritten passes-port (λ x q. q))

  passes-event : Passes R (IsEvent old) (IsEvent new) EventIsWritten
  passes-event = passes-mapped R same event_from (Then (Closed (AnyWord old) Colon) AnyNumber) (Then (Closed (AnyWord new) Colon) AnyNumber) (Both IsFilName IsWritten) EventIsWritten (passes-then R same (Closed (AnyWord old) Colon) (Closed (AnyWord new) Colon) IsFilName AnyNumber AnyNumber IsWritten (passes-closed R same Colon (AnyWord old) (AnyWord new) IsFilName (passes-any_word Fil old new)) (passes-any_number Fil old new)) (λ x q. q)

  passes-events : Passes R (AreEvents old) (AreEvents new) (OfEach EventIsWritten)
  passes-events = passes-between R same LeftAngle RightAngle (Separated Comma (IsEvent old)) (Separated Comma (IsEvent new)) (OfEach EventIsWritten) (passes-separated R same Comma (IsEvent old) (IsEvent new) EventIsWritten passes-event)

  passes-inputs : Passes R (AreInputs old) (AreInputs new) (AllByRecursion InputIsWritten)
  passes-inputs = passes-between R same LeftParen RightParen (Listed Comma (IsInput old)) (Listed Comma (IsInput new)) (AllByRecursion InputIsWritten) (passes-listed R same Comma (IsInput old) (IsInput new) InputIsWritten passes-input)

  passes-outputs : Passes R (AreOutputs old) (AreOutputs new) (AllByRecursion PortIsWritten)
  passes-outputs = passes-between R same LeftParen RightParen (Listed Comma (IsPort old)) (Listed Comma (IsPort new)) (AllByRecursion PortIsWritten) (passes-listed R same Comma (IsPort old) (IsPort new) PortIsWritten passes-port)

  passes-body : Passes R (IsBody old) (IsBody new) (AllByRecursion StatementIsWritten)
  passes-body = passes-between R same LeftBrace RightBrace (Many (IsStatement old)) (Many (IsStatement new)) (AllByRecursion StatementIsWritten) (passes-many R same (IsStatement old) (IsStatement new) StatementIsWritten passes-statement)

  passes-component : Passes R (IsComponent old) (IsComponent new) ComponentIsWritten
  passes-component = passes-mapped R same component_from (After Comp (Then (AnyWord old) (Then (AreEvents old) (Then (AreInputs old) (Then (After Arrow (AreOutputs old)) (IsBody old)))))) (After Comp (Then (AnyWord new) (Then (AreEvents new) (Then (AreInputs new) (Then (After Arrow (AreOutputs new)) (IsBody new)))))) (Both IsFilName (Both (OfEach EventIsWritten) (Both (AllByRecursion InputIsWritten) (Both (AllByRecursion PortIsWritten) (AllByRecursion StatementIsWritten))))) ComponentIsWritten (passes-mark R same Comp (Then (AnyWord old) (Then (AreEvents old) (Then (AreInputs old) (Then (After Arrow (AreOutputs old)) (IsBody old))))) (Then (AnyWord new) (Then (AreEvents new) (Then (AreInputs new) (Then (After Arrow (AreOutputs new)) (IsBody new))))) (Both IsFilName (Both (OfEach EventIsWritten) (Both (AllByRecursion InputIsWritten) (Both (AllByRecursion PortIsWritten) (AllByRecursion StatementIsWritten))))) (passes-then R same (AnyWord old) (AnyWord new) IsFilName (Then (AreEvents old) (Then (AreInputs old) (Then (After Arrow (AreOutputs old)) (IsBody old)))) (Then (AreEvents new) (Then (AreInputs new) (Then (After Arrow (AreOutputs new)) (IsBody new)))) (Both (OfEach EventIsWritten) (Both (AllByRecursion InputIsWritten) (Both (AllByRecursion PortIsWritten) (AllByRecursion StatementIsWritten)))) (passes-any_word Fil old new) (passes-then R same (AreEvents old) (AreEvents new) (OfEach EventIsWritten) (Then (AreInputs old) (Then (After Arrow (AreOutputs old)) (IsBody old))) (Then (AreInputs new) (Then (After Arrow (AreOutputs new)) (IsBody new))) (Both (AllByRecursion InputIsWritten) (Both (AllByRecursion PortIsWritten) (AllByRecursion StatementIsWritten))) passes-events (passes-then R same (AreInputs old) (AreInputs new) (AllByRecursion InputIsWritten) (Then (After Arrow (AreOutputs old)) (IsBody old)) (Then (After Arrow (AreOutputs new)) (IsBody new)) (Both (AllByRecursion PortIsWritten) (AllByRecursion StatementIsWritten)) passes-inputs (passes-then R same (After Arrow (AreOutputs old)) (After Arrow (AreOutputs new)) (AllByRecursion PortIsWritten) (IsBody old) (IsBody new) (AllByRecursion StatementIsWritten) (passes-mark R same Arrow (AreOutputs old) (AreOutputs new) (AllByRecursion PortIsWritten) passes-outputs) passes-body))))) component_written

  passes-import : Passes R IsImport IsImport Anything
  passes-import = passes-mark R same Import (Closed (Mapped (λ (t : Terminal). tt) (One sorts.Text)) Semicolon) (Closed (Mapped (λ (t : Terminal). tt) (One sorts.Text)) Semicolon) Anything (passes-closed R same Semicolon (Mapped (λ (t : Terminal). tt) (One sorts.Text)) (Mapped (λ (t : Terminal). tt) (One sorts.Text)) Anything (passes-one R same sorts.Text (λ (t : Terminal). tt) (λ (t : Terminal). tt) Anything (λ t u r e. (tt, refl))))

  passes-imports : Passes R AreImports AreImports Anything
  passes-imports = passes-mapped R same (λ (x : List (Unit {0})). tt) (Many IsImport) (Many IsImport) (AllByRecursion Anything) Anything (passes-many R same IsImport IsImport Anything passes-import) (λ x q. tt)

  pub passes-file : Passes R (IsFile old) (IsFile new) DesignIsWritten
  passes-file = passes-mapped R same design_from (Then AreImports (Then (IsComponent old) (Many (IsComponent old)))) (Then AreImports (Then (IsComponent new) (Many (IsComponent new)))) (Both Anything (Both ComponentIsWritten (AllByRecursion ComponentIsWritten))) DesignIsWritten (passes-then R same AreImports AreImports Anything (Then (IsComponent old) (Many (IsComponent old))) (Then (IsComponent new) (Many (IsComponent new))) (Both ComponentIsWritten (AllByRecursion ComponentIsWritten)) passes-imports (passes-then R same (IsComponent old) (IsComponent new) ComponentIsWritten (Many (IsComponent old)) (Many (IsComponent new)) (AllByRecursion ComponentIsWritten) passes-component (passes-many R same (IsComponent old) (IsComponent new) ComponentIsWritten passes-component))) (λ x q. ((λ e. absurd cc), q.1))
