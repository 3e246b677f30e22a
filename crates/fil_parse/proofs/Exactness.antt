-- The readers of Filament are exact. In each proof `refl` says that the sets of sorts by which the reader chooses are apart.
use Rattle.std.proofs.Common.{◌≡◌, ℕ, true, false, List, [], ◌∷◌, Option, Some, None, inl, inr, refl, ap, subst, ◌∙◌}
use Rattle.hw_names.specs.Name.{Text}
use Rattle.hw_grammar.specs.declared.sort.Sort.TheVariants.{Name, Literal, Comp, New, Interface, Import, At, LeftBracket, RightBracket, LeftParen, RightParen, LeftAngle, RightAngle, LeftBrace, RightBrace, Comma, Colon, ColonEquals, Semicolon, Equals, Plus, Dot, Arrow}
use Rattle.hw_grammar.specs.declared.sort.Sort.TheVariants as sorts
use Rattle.hw_grammar.specs.declared.terminal.Terminal.{Terminal}
use Rattle.hw_grammar.specs.Grammar.{Lang, Empty, Mapped, AnyWord, AnyLiteral, Then, Either, Optional, After, Closed, Between, Separated, Listed}
use Rattle.hw_grammar.specs.Reading.{whole}
use Rattle.hw_grammar.proofs.Exact.{Exact, one-exact, empty-exact, then-exact, mapped-exact, either-exact, optional-exact, many-exact, after-exact, separated-exact, listed-exact, same-exact}
use Rattle.hw_grammar.proofs.Carried.{any_number-exact, any_literal-exact}
use Rattle.hw_grammar.proofs.Closed.{any_word-exact, closed-exact, between-exact}
use Rattle.hw_grammar.proofs.Whole.{Judged, judge}
use Rattle.fil_ast.specs.Tree.{ValueTree, Giving, Statement}
use Rattle.fil_parse.specs.Grammar.{time_from, literal_from, giving_from, port_from, interface_from, Input, InterfacePort, DataInput, event_from, component_from, design_from, IsTime, IsValue, IsCall, AreParameters, IsStatement, IsPlacedPort, IsPort, IsNamedInterface, IsInput, IsEvent, AreEvents, AreInputs, AreOutputs, IsBody, IsComponent, IsImport, AreImports, IsFile}
use Rattle.fil_parse.specs.inside.Reading.{time_at, named_value, value_at, times_at, values_at, call_at, params_at, new_by, call_by, connect_by, new_at, called_at, connected_at, of_name, statement_at, placed_at, port_at, interface_at, input_at, event_at, events_at, inputs_at, outputs_at, body_at, component_at, import_at, imports_at, file_at}

module _ (names : List Text) where
  pub time-exact : Exact (IsTime names) (time_at names) (Name ∷ []) false (Plus ∷ [])
  unfolding time_at
  time-exact = mapped-exact time_from (then-exact (any_word-exact names) (either-exact (after-exact Plus any_number-exact) (empty-exact 0) refl) refl)

  -- factored to the left
  abbrev FactoredValue : Lang ValueTree
  FactoredValue = Either (Mapped named_value (Then (AnyWord names) (Optional (After Dot (AnyWord names))))) (Mapped literal_from AnyLiteral)

  value_up : (w : List Terminal) (a : ValueTree) (m : List Terminal) → FactoredValue w a m → IsValue names w a m
  value_up w a m (inl ((t, o), (mid, n, inr (eo, em)), e)) = inl (t, subst (λ (r : List Terminal). AnyWord names w t r) em n, e ∙ ap (λ (v : Option Text). named_value (t, v)) eo)
  value_up w a m (inl ((t, o), (mid, n, inl (u, l, eo)), e)) = inr (inl ((t, u), (mid, n, l), e ∙ ap (λ (v : Option Text). named_value (t, v)) eo))
  value_up w a m (inr l) = inr (inr l)

  value_down : (w : List Terminal) (a : ValueTree) (m : List Terminal) → IsValue names w a m → FactoredValue w a m
  value_down w a m (inl (t, n, e)) = inl ((t, None), (m, n, inr (refl, refl)), e)
  value_down w a m (inr (inl ((t, u), (mid, n, l), e))) = inl ((t, Some u), (mid, n, inl (u, l, refl)), e)
  value_down w a m (inr (inr l)) = inr l

  pub value-exact : Exact (IsValue names) (value_at names) (Name ∷ Literal ∷ []) false (Dot ∷ [])
  unfolding value_at
  value-exact =
      same-exact value_up value_down
      (either-exact (mapped-exact named_value (then-exact (any_word-exact names) (optional-exact (after-exact Dot (any_word-exact names)) refl) refl)) (mapped-exact literal_from any_literal-exact) refl)

  pub times-exact : Exact (Between LeftAngle (Separated Comma (IsTime names)) RightAngle) (times_at names) (LeftAngle ∷ []) false []
  unfolding times_at
  times-exact = between-exact LeftAngle RightAngle (separated-exact Comma time-exact refl) refl

  pub values-exact : Exact (Between LeftParen (Listed Comma (IsValue names)) RightParen) (values_at names) (LeftParen ∷ []) false []
  unfolding values_at
  values-exact = between-exact LeftParen RightParen (listed-exact Comma value-exact refl) refl

  pub call-exact : Exact (IsCall names) (call_at names) (LeftAngle ∷ []) false []
  unfolding call_at
  call-exact = mapped-exact giving_from (then-exact times-exact values-exact refl)

pub params-exact : Exact AreParameters params_at (LeftBracket ∷ []) false []
unfolding params_at
params-exact = between-exact LeftBracket RightBracket (separated-exact Comma any_number-exact refl) refl

-- ---- statements

module _ (names : List Text) where
  abbrev IsNewBy : Lang (Text → Statement)
  IsNewBy = Mapped new_by (Then (AnyWord names) (Closed (Then (Either AreParameters (Empty [])) (Optional (IsCall names))) Semicolon))

  abbrev IsCallBy : Lang (Text → Statement)
  IsCallBy = Mapped call_by (Then (AnyWord names) (Closed (IsCall names) Semicolon))

  abbrev IsConnectBy : Lang (Text → Statement)
  IsConnectBy = Mapped connect_by (Closed (IsValue names) Semicolon)

  abbrev FactoredStatement : Lang Statement
  FactoredStatement = Mapped of_name (Then (AnyWord names) (Either (After ColonEquals (Either (After New IsNewBy) IsCallBy)) (After Equals IsConnectBy)))

  new-exact : Exact IsNewBy (new_at names) (Name ∷ []) false []
  unfolding new_at
  new-exact =
      mapped-exact new_by (then-exact (any_word-exact names) (closed-exact Semicolon (then-exact (either-exact params-exact (empty-exact {A = List ℕ} []) refl) (optional-exact (call-exact names) refl) refl) refl) refl)

  called-exact : Exact IsCallBy (called_at names) (Name ∷ []) false []
  unfolding called_at
  called-exact = mapped-exact call_by (then-exact (any_word-exact names) (closed-exact Semicolon (call-exact names) refl) refl)

  connected-exact : Exact IsConnectBy (connected_at names) (Name ∷ Literal ∷ []) false []
  unfolding connected_at
  connected-exact = mapped-exact connect_by (closed-exact Semicolon (value-exact names) refl)

  by : (f g : Text → Statement) (n : Text) → f ≡ g → f n ≡ g n
  by f g n e = ap (λ (h : Text → Statement). h n) e

  statement_up : (w : List Terminal) (a : Statement) (m : List Terminal) → FactoredStatement w a m → IsStatement names w a m
  statement_up w a m ((n, f), (m1, name, inl ((d, f1), (m2, def, inl ((k, f2), (m3, new, (x, l, e4)), e3)), e2)), e) =
      inl ((n, x), (m1, name, ((d, x), (m2, def, ((k, x), (m3, new, l), refl)), refl)), e ∙ by f f1 n e2 ∙ by f1 f2 n e3 ∙ by f2 (new_by x) n e4)
  statement_up w a m ((n, f), (m1, name, inl ((d, f1), (m2, def, inr (x, l, e3)), e2)), e) =
      inr (inl ((n, x), (m1, name, ((d, x), (m2, def, l), refl)), e ∙ by f f1 n e2 ∙ by f1 (call_by x) n e3))
  statement_up w a m ((n, f), (m1, name, inr ((q, f1), (m2, eq, (x, l, e3)), e2)), e) =
      inr (inr ((n, x), (m1, name, ((q, x), (m2, eq, l), refl)), e ∙ by f f1 n e2 ∙ by f1 (connect_by x) n e3))

  statement_down : (w : List Terminal) (a : Statement) (m : List Terminal) → IsStatement names w a m → FactoredStatement w a m
  statement_down w a m (inl ((n, x0), (m1, name, ((d, x1), (m2, def, ((k, x), (m3, new, l), e3)), e2)), e)) =
      ((n, new_by x), (m1, name, inl ((d, new_by x), (m2, def, inl ((k, new_by x), (m3, new, (x, l, refl)), refl)), refl)), e ∙ ap (λ (v : Text × (List ℕ × Option Giving)). new_by v n) (e2 ∙ e3))
  statement_down w a m (inr (inl ((n, x0), (m1, name, ((d, x), (m2, def, l), e2)), e))) =
      ((n, call_by x), (m1, name, inl ((d, call_by x), (m2, def, inr (x, l, refl)), refl)), e ∙ ap (λ (v : Text × Giving). call_by v n) e2)
  statement_down w a m (inr (inr ((n, x0), (m1, name, ((q, x), (m2, eq, l), e2)), e))) =
      ((n, connect_by x), (m1, name, inr ((q, connect_by x), (m2, eq, (x, l, refl)), refl)), e ∙ ap (λ (v : ValueTree). connect_by v n) e2)

  pub statement-exact : Exact (IsStatement names) (statement_at names) (Name ∷ []) false []
  unfolding statement_at
  statement-exact =
      same-exact statement_up statement_down
      (mapped-exact of_name (then-exact (any_word-exact names) (either-exact (after-exact ColonEquals (either-exact (after-exact New new-exact) called-exact refl)) (after-exact Equals connected-exact) refl) refl))

  -- ---- ports

  pub placed-exact : Exact (IsPlacedPort names) (placed_at names) (LeftBracket ∷ []) false []
  unfolding placed_at
  placed-exact =
      mapped-exact port_from (after-exact LeftBracket (then-exact (closed-exact Comma (time-exact names) refl) (then-exact (closed-exact RightBracket (time-exact names) refl) (then-exact (closed-exact Colon (any_word-exact names) refl) any_number-exact refl) refl) refl))

  pub port-exact : Exact (IsPort names) (port_at names) (At ∷ []) false []
  unfolding port_at
  port-exact = after-exact At placed-exact

  interface-exact : Exact (IsNamedInterface names) (interface_at names) (LeftBracket ∷ []) false []
  unfolding interface_at
  interface-exact =
      mapped-exact interface_from (then-exact (between-exact LeftBracket RightBracket (any_word-exact names) refl) (then-exact (closed-exact Colon (any_word-exact names) refl) any_number-exact refl) refl)

  abbrev FactoredInput : Lang Input
  FactoredInput = After At (Either (After Interface (Mapped InterfacePort (IsNamedInterface names))) (Mapped DataInput (IsPlacedPort names)))

  input_up : (w : List Terminal) (a : Input) (m : List Terminal) → FactoredInput w a m → IsInput names w a m
  input_up w a m ((t, p), (m1, at, inl ((k, q), (m2, i, (g, l, e3)), e2)), e) = inl (g, ((t, g), (m1, at, ((k, g), (m2, i, l), refl)), refl), e ∙ e2 ∙ e3)
  input_up w a m ((t, p), (m1, at, inr (d, l, e2)), e) = inr (d, ((t, d), (m1, at, l), refl), e ∙ e2)

  input_down : (w : List Terminal) (a : Input) (m : List Terminal) → IsInput names w a m → FactoredInput w a m
  input_down w a m (inl (g0, ((t, g1), (m1, at, ((k, g), (m2, i, l), e3)), e2), e)) =
      ((t, InterfacePort g), (m1, at, inl ((k, InterfacePort g), (m2, i, (g, l, refl)), refl)), e ∙ ap InterfacePort (e2 ∙ e3))
  input_down w a m (inr (d0, ((t, d), (m1, at, l), e2), e)) = ((t, DataInput d), (m1, at, inr (d, l, refl)), e ∙ ap DataInput e2)

  pub input-exact : Exact (IsInput names) (input_at names) (At ∷ []) false []
  unfolding input_at
  input-exact =
      same-exact input_up input_down (after-exact At (either-exact (after-exact Interface (mapped-exact InterfacePort interface-exact)) (mapped-exact DataInput placed-exact) refl))

  -- ---- components

  pub event-exact : Exact (IsEvent names) (event_at names) (Name ∷ []) false []
  unfolding event_at
  event-exact = mapped-exact event_from (then-exact (closed-exact Colon (any_word-exact names) refl) any_number-exact refl)

  events-exact : Exact (AreEvents names) (events_at names) (LeftAngle ∷ []) false []
  unfolding events_at
  events-exact = between-exact LeftAngle RightAngle (separated-exact Comma event-exact refl) refl

  inputs-exact : Exact (AreInputs names) (inputs_at names) (LeftParen ∷ []) false []
  unfolding inputs_at
  inputs-exact = between-exact LeftParen RightParen (listed-exact Comma input-exact refl) refl

  outputs-exact : Exact (AreOutputs names) (outputs_at names) (LeftParen ∷ []) false []
  unfolding outputs_at
  outputs-exact = between-exact LeftParen RightParen (listed-exact Comma port-exact refl) refl

  body-exact : Exact (IsBody names) (body_at names) (LeftBrace ∷ []) false []
  unfolding body_at
  body-exact = between-exact LeftBrace RightBrace (many-exact statement-exact refl) refl

  pub component-exact : Exact (IsComponent names) (component_at names) (Comp ∷ []) false []
  unfolding component_at
  component-exact =
      mapped-exact component_from (after-exact Comp (then-exact (any_word-exact names) (then-exact events-exact (then-exact inputs-exact (then-exact (after-exact Arrow outputs-exact) body-exact refl) refl) refl) refl))

import-exact : Exact IsImport import_at (Import ∷ []) false []
unfolding import_at
import-exact = after-exact Import (closed-exact Semicolon (mapped-exact (λ (t : Terminal). tt) (one-exact sorts.Text)) refl)

imports-exact : Exact AreImports imports_at (Import ∷ []) true (Import ∷ [])
unfolding imports_at
imports-exact = mapped-exact (λ (xs : List (Unit {0})). tt) (many-exact import-exact refl)

pub file-exact : (names : List Text) → Exact (IsFile names) (file_at names) (Import ∷ Comp ∷ []) false (Comp ∷ [])
unfolding file_at
file-exact names =
    mapped-exact design_from (then-exact imports-exact (then-exact (component-exact names) (many-exact (component-exact names) refl) refl) refl)

-- the one tree of the terminals, or where they are refused
pub file_judged : (names : List Text) (ts : List Terminal) → Judged (IsFile names) ts (whole (file_at names ts))
file_judged names ts = judge (IsFile names) (Comp ∷ []) (Import ∷ Comp ∷ []) false (file-exact names).law ts (file_at names ts) ((file-exact names).reads ts)
