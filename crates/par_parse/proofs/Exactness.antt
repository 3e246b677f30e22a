-- The readers of Filament with parameters are exact. In each proof `refl` says that the sets of sorts by which the reader chooses are apart.
use Rattle.std.proofs.Common.{◌≡◌, ℕ, zero, suc, true, false, List, [], ◌∷◌, length, Option, Some, None, inl, inr, refl, ap, subst, ◌∙◌, arith}
use Rattle.hw_names.specs.Name.{Text}
use Rattle.hw_grammar.specs.declared.sort.Sort.TheVariants.{Name, Literal, Comp, New, Interface, Import, For, In, If, Else, Lit, At, LeftBracket, RightBracket, LeftParen, RightParen, LeftAngle, RightAngle, LeftBrace, RightBrace, Comma, Colon, ColonEquals, Semicolon, Equals, Plus, Hash, Dot, DotDot, Arrow, EqualsEquals}
use Rattle.hw_grammar.specs.declared.sort.Sort.TheVariants as sorts
use Rattle.hw_grammar.specs.declared.terminal.Terminal.{Terminal}
use Rattle.hw_grammar.specs.Grammar.{Lang, Empty, Mapped, AnyWord, AnyLiteral, Then, Either, Optional, After, Closed, Between, Many, Separated, Listed}
use Rattle.hw_grammar.specs.Reading.{whole}
use Rattle.hw_grammar.proofs.Exact.{IsLang, Exact, one-exact, empty-exact, then-exact, mapped-exact, either-exact, optional-exact, many-exact, after-exact, separated-exact, listed-exact, same-exact, mapped-law, then-law, either-law, many-law}
use Rattle.hw_grammar.proofs.Carried.{any_literal-exact}
use Rattle.hw_grammar.proofs.Closed.{any_word-exact, closed-exact, between-exact}
use Rattle.hw_grammar.proofs.Upto.{Upto, upto, upto-then, upto-mapped, upto-either, upto-after, upto-many, upto-less}
use Rattle.hw_grammar.proofs.Limit.{Within, Limit, limit-const, limit-mapped, limit-then, limit-either, limit-after, limit-many, upto-same, upto-nothing, law-wider, after-law, limit-law}
use Rattle.hw_grammar.proofs.Parts.{upto-between, between-law, limit-between, first_then, pair-limit}
use Rattle.hw_grammar.proofs.Whole.{Judged, judge}
use Rattle.par_parse.specs.Tree.{ExpressionTree, Num, NameTree, ValueTree, GivingTree, StatementTree}
use Rattle.par_parse.specs.Grammar.{name_from, time_from, literal_from, made_literal_from, giving_from, for_from, if_from, port_from, interface_from, InputTree, InterfacePort, DataInput, event_from, inputs_from, component_from, design_from, IsExpression, IsAtom, IsName, IsTime, IsMadeLiteral, IsValue, IsCall, AreGivenParameters, IsPlainStatement, BlockOf, IsRange, ForOf, IsComparison, IsCondition, MaybeElse, IfOf, StatementOf, StatementTo, IsStatement, IsPlacedPort, IsPort, IsNamedInterface, IsInput, IsEvent, AreParameters, AreEvents, AreInputs, AreOutputs, ArePorts, IsComponent, IsImport, AreImports, IsFile}
use Rattle.par_parse.specs.inside.Reading.{index_at, name_at, plus_at, time_at, named_value, named_value_at, made_literal_at, value_set, value_at, times_at, values_at, call_at, given_parameters_at, new_by, call_by, connect_by, new_at, called_at, connected_at, named_statement_at, of_name, plain_statement_at, statement_set, block_by, range_at, for_by, comparison_at, condition_at, maybe_else_by, branches_by, if_by, statement_by, statement_to, body_at, placed_at, port_at, interface_at, input_at, event_at, parameters_at, events_at, input_list_at, inputs_at, outputs_at, ports_at, component_at, import_at, imports_at, file_at}
use Rattle.par_parse.proofs.Expressions.{Follow, expression-exact, atom-exact}

module _ (names : List Text) where
  -- ---- names, times and values

  index-exact : Exact (Optional (After Hash (IsAtom names))) (index_at names) (Hash ∷ []) true (Hash ∷ [])
  unfolding index_at
  index-exact = optional-exact (after-exact Hash (atom-exact names)) refl

  name-exact : Exact (IsName names) (name_at names) (Name ∷ []) false (Hash ∷ [])
  unfolding name_at
  name-exact = mapped-exact name_from (then-exact (any_word-exact names) index-exact refl)

  plus-exact : Exact (Either (After Plus (IsExpression names)) (Empty (Num 0))) (plus_at names) (Plus ∷ []) true (Plus ∷ Follow)
  unfolding plus_at
  plus-exact = either-exact (after-exact Plus (expression-exact names)) (empty-exact (Num 0)) refl

  time-exact : Exact (IsTime names) (time_at names) (Name ∷ []) false (Plus ∷ Follow)
  unfolding time_at
  time-exact = mapped-exact time_from (then-exact (any_word-exact names) plus-exact refl)

  -- factored to the left
  abbrev IsNamedValue : Lang ValueTree
  IsNamedValue = Mapped named_value (Then (IsName names) (Optional (After Dot (IsName names))))

  abbrev FactoredValue : Lang ValueTree
  FactoredValue = Either IsNamedValue (Either (Mapped literal_from AnyLiteral) (IsMadeLiteral names))

  value_up : (w : List Terminal) (a : ValueTree) (m : List Terminal) → FactoredValue w a m → IsValue names w a m
  value_up w a m (inl ((t, o), (mid, n, inr (eo, em)), e)) = inl (t, subst (λ (r : List Terminal). IsName names w t r) em n, e ∙ ap (λ (v : Option NameTree). named_value (t, v)) eo)
  value_up w a m (inl ((t, o), (mid, n, inl (u, l, eo)), e)) = inr (inl ((t, u), (mid, n, l), e ∙ ap (λ (v : Option NameTree). named_value (t, v)) eo))
  value_up w a m (inr l) = inr (inr l)

  value_down : (w : List Terminal) (a : ValueTree) (m : List Terminal) → IsValue names w a m → FactoredValue w a m
  value_down w a m (inl (t, n, e)) = inl ((t, None), (m, n, inr (refl, refl)), e)
  value_down w a m (inr (inl ((t, u), (mid, n, l), e))) = inl ((t, Some u), (mid, n, inl (u, l, refl)), e)
  value_down w a m (inr (inr l)) = inr l

  named_value-exact : Exact IsNamedValue (named_value_at names) (Name ∷ []) false (Dot ∷ Hash ∷ Hash ∷ [])
  unfolding named_value_at
  named_value-exact = mapped-exact named_value (then-exact name-exact (optional-exact (after-exact Dot name-exact) refl) refl)

  made_literal-exact : Exact (IsMadeLiteral names) (made_literal_at names) (Lit ∷ []) false []
  unfolding made_literal_at
  made_literal-exact =
      mapped-exact made_literal_from (after-exact Lit (between-exact LeftParen RightParen (then-exact (closed-exact Comma (expression-exact names) refl) (expression-exact names) refl) refl))

  value-exact : Exact (IsValue names) (value_at names) value_set false (Dot ∷ Hash ∷ Hash ∷ [])
  unfolding value_at
  value-exact = same-exact value_up value_down (either-exact named_value-exact (either-exact (mapped-exact literal_from any_literal-exact) made_literal-exact refl) refl)

  -- ---- plain statements

  times-exact : Exact (Between LeftAngle (Separated Comma (IsTime names)) RightAngle) (times_at names) (LeftAngle ∷ []) false []
  unfolding times_at
  times-exact = between-exact LeftAngle RightAngle (separated-exact Comma time-exact refl) refl

  values-exact : Exact (Between LeftParen (Listed Comma (IsValue names)) RightParen) (values_at names) (LeftParen ∷ []) false []
  unfolding values_at
  values-exact = between-exact LeftParen RightParen (listed-exact Comma value-exact refl) refl

  call-exact : Exact (IsCall names) (call_at names) (LeftAngle ∷ []) false []
  unfolding call_at
  call-exact = mapped-exact giving_from (then-exact times-exact values-exact refl)

  given_parameters-exact : Exact (AreGivenParameters names) (given_parameters_at names) (LeftBracket ∷ []) true (LeftBracket ∷ [])
  unfolding given_parameters_at
  given_parameters-exact =
      either-exact (between-exact LeftBracket RightBracket (separated-exact Comma (expression-exact names) refl) refl) (empty-exact {A = List ExpressionTree} []) refl

  abbrev IsNewBy : Lang (NameTree → StatementTree)
  IsNewBy = Mapped new_by (Then (AnyWord names) (Closed (Then (AreGivenParameters names) (Optional (IsCall names))) Semicolon))

  abbrev IsCallBy : Lang (NameTree → StatementTree)
  IsCallBy = Mapped call_by (Then (IsName names) (Closed (IsCall names) Semicolon))

  abbrev IsConnectBy : Lang (NameTree → StatementTree)
  IsConnectBy = Mapped connect_by (Closed (IsValue names) Semicolon)

  abbrev IsNamedBy : Lang (NameTree → StatementTree)
  IsNamedBy = Either (After ColonEquals (Either (After New IsNewBy) IsCallBy)) (After Equals IsConnectBy)

  abbrev FactoredStatement : Lang StatementTree
  FactoredStatement = Mapped of_name (Then (IsName names) IsNamedBy)

  new-exact : Exact IsNewBy (new_at names) (Name ∷ []) false []
  unfolding new_at
  new-exact =
      mapped-exact new_by (then-exact (any_word-exact names) (closed-exact Semicolon (then-exact given_parameters-exact (optional-exact call-exact refl) refl) refl) refl)

  called-exact : Exact IsCallBy (called_at names) (Name ∷ []) false []
  unfolding called_at
  called-exact = mapped-exact call_by (then-exact name-exact (closed-exact Semicolon call-exact refl) refl)

  connected-exact : Exact IsConnectBy (connected_at names) value_set false []
  unfolding connected_at
  connected-exact = mapped-exact connect_by (closed-exact Semicolon value-exact refl)

  named_statement-exact : Exact IsNamedBy (named_statement_at names) (ColonEquals ∷ Equals ∷ []) false []
  unfolding named_statement_at
  named_statement-exact = either-exact (after-exact ColonEquals (either-exact (after-exact New new-exact) called-exact refl)) (after-exact Equals connected-exact) refl

  by : (f g : NameTree → StatementTree) (n : NameTree) → f ≡ g → f n ≡ g n
  by f g n e = ap (λ (h : NameTree → StatementTree). h n) e

  statement_up : (w : List Terminal) (a : StatementTree) (m : List Terminal) → FactoredStatement w a m → IsPlainStatement names w a m
  statement_up w a m ((n, f), (m1, name, inl ((d, f1), (m2, def, inl ((k, f2), (m3, new, (x, l, e4)), e3)), e2)), e) =
      inl ((n, x), (m1, name, ((d, x), (m2, def, ((k, x), (m3, new, l), refl)), refl)), e ∙ by f f1 n e2 ∙ by f1 f2 n e3 ∙ by f2 (new_by x) n e4)
  statement_up w a m ((n, f), (m1, name, inl ((d, f1), (m2, def, inr (x, l, e3)), e2)), e) =
      inr (inl ((n, x), (m1, name, ((d, x), (m2, def, l), refl)), e ∙ by f f1 n e2 ∙ by f1 (call_by x) n e3))
  statement_up w a m ((n, f), (m1, name, inr ((q, f1), (m2, eq, (x, l, e3)), e2)), e) =
      inr (inr ((n, x), (m1, name, ((q, x), (m2, eq, l), refl)), e ∙ by f f1 n e2 ∙ by f1 (connect_by x) n e3))

  statement_down : (w : List Terminal) (a : StatementTree) (m : List Terminal) → IsPlainStatement names w a m → FactoredStatement w a m
  statement_down w a m (inl ((n, x0), (m1, name, ((d, x1), (m2, def, ((k, x), (m3, new, l), e3)), e2)), e)) =
      ((n, new_by x), (m1, name, inl ((d, new_by x), (m2, def, inl ((k, new_by x), (m3, new, (x, l, refl)), refl)), refl)), e ∙ ap (λ (v : Text × (List ExpressionTree × Option GivingTree)). new_by v n) (e2 ∙ e3))
  statement_down w a m (inr (inl ((n, x0), (m1, name, ((d, x), (m2, def, l), e2)), e))) =
      ((n, call_by x), (m1, name, inl ((d, call_by x), (m2, def, inr (x, l, refl)), refl)), e ∙ ap (λ (v : NameTree × GivingTree). call_by v n) e2)
  statement_down w a m (inr (inr ((n, x0), (m1, name, ((q, x), (m2, eq, l), e2)), e))) =
      ((n, connect_by x), (m1, name, inr ((q, connect_by x), (m2, eq, (x, l, refl)), refl)), e ∙ ap (λ (v : ValueTree). connect_by v n) e2)

  plain_statement-exact : Exact (IsPlainStatement names) (plain_statement_at names) (Name ∷ []) false []
  unfolding plain_statement_at
  plain_statement-exact = same-exact statement_up statement_down (mapped-exact of_name (then-exact name-exact named_statement-exact refl))

  -- ---- loops and choices

  range-exact : Exact (IsRange names) (range_at names) (Name ∷ []) false Follow
  unfolding range_at
  range-exact = then-exact (any_word-exact names) (after-exact In (then-exact (closed-exact DotDot (expression-exact names) refl) (expression-exact names) refl)) refl

  comparison-exact : Exact IsComparison comparison_at (EqualsEquals ∷ LeftAngle ∷ []) false []
  unfolding comparison_at
  comparison-exact = either-exact (mapped-exact (λ (t : Terminal). false) (one-exact EqualsEquals)) (mapped-exact (λ (t : Terminal). true) (one-exact LeftAngle)) refl

  condition-exact : Exact (IsCondition names) (condition_at names) (sorts.Number ∷ Name ∷ LeftParen ∷ []) false Follow
  unfolding condition_at
  condition-exact = then-exact (expression-exact names) (then-exact comparison-exact (expression-exact names) refl) refl

  abbrev Branches : Lang StatementTree → Lang (List StatementTree × List StatementTree)
  Branches S = Then (BlockOf S) (MaybeElse S)

  abbrev WithBlock : Lang StatementTree → Lang StatementTree
  WithBlock S = Either (ForOf names S) (IfOf names S)

  module _ (S : ℕ → Lang StatementTree) (L : Lang StatementTree) (x : Limit S L) where
    block-limit : Limit (λ d. BlockOf (S d)) (BlockOf L)
    block-limit = limit-between LeftBrace RightBrace (λ d. Many (S d)) (Many L) (limit-many S L x)

    for-limit : Limit (λ d. ForOf names (S d)) (ForOf names L)
    for-limit =
        limit-mapped (λ d. After For (Then (IsRange names) (BlockOf (S d)))) (After For (Then (IsRange names) (BlockOf L))) for_from
        (limit-after For (λ d. Then (IsRange names) (BlockOf (S d))) (Then (IsRange names) (BlockOf L))
        (limit-then (λ d. IsRange names) (IsRange names) (λ d. BlockOf (S d)) (BlockOf L) (limit-const (IsRange names)) block-limit))

    else-limit : Limit (λ d. MaybeElse (S d)) (MaybeElse L)
    else-limit =
        limit-either (λ d. After Else (BlockOf (S d))) (After Else (BlockOf L)) (λ d. Empty []) (Empty [])
        (limit-after Else (λ d. BlockOf (S d)) (BlockOf L) block-limit) (limit-const (Empty []))

    if-limit : Limit (λ d. IfOf names (S d)) (IfOf names L)
    if-limit =
        limit-mapped (λ d. After If (Then (IsCondition names) (Branches (S d)))) (After If (Then (IsCondition names) (Branches L))) if_from
        (limit-after If (λ d. Then (IsCondition names) (Branches (S d))) (Then (IsCondition names) (Branches L))
        (limit-then (λ d. IsCondition names) (IsCondition names) (λ d. Branches (S d)) (Branches L) (limit-const (IsCondition names))
        (limit-then (λ d. BlockOf (S d)) (BlockOf L) (λ d. MaybeElse (S d)) (MaybeElse L) block-limit else-limit)))

    of-limit : Limit (λ d. StatementOf names (S d)) (StatementOf names L)
    of-limit =
        limit-either (λ d. IsPlainStatement names) (IsPlainStatement names) (λ d. WithBlock (S d)) (WithBlock L) (limit-const (IsPlainStatement names))
        (limit-either (λ d. ForOf names (S d)) (ForOf names L) (λ d. IfOf names (S d)) (IfOf names L) for-limit if-limit)

  -- ---- statements, by the depth of their blocks

  plain_within : (S : Lang StatementTree) → Within (IsPlainStatement names) (StatementOf names S)
  plain_within S w a m l = inl l

  within-of : (S T : Lang StatementTree) → Within S T → Within (StatementOf names S) (StatementOf names T)
  within-of S T h = (of-limit (first_then S T) T (pair-limit S T h)).up 0

  statement_grows : (d : ℕ) → Within (StatementTo names d) (StatementTo names (suc d))
  statement_grows zero = plain_within (StatementTo names zero)
  statement_grows (suc d) = within-of (StatementTo names d) (StatementTo names (suc d)) (statement_grows d)

  statement-limit : Limit (StatementTo names) (IsStatement names)
  statement-limit = record { up = λ d w a m l. (d, l); down = λ w a m l. l; grows = statement_grows }

  statement_in : Within (StatementOf names (IsStatement names)) (IsStatement names)
  statement_in w a m l = let v = (of-limit (StatementTo names) (IsStatement names) statement-limit).down w a m l in (suc v.0, v.1)

  statement_out : Within (IsStatement names) (StatementOf names (IsStatement names))
  statement_out w a m (zero, l) = plain_within (IsStatement names) w a m l
  statement_out w a m (suc d, l) = (of-limit (StatementTo names) (IsStatement names) statement-limit).up d w a m l

  block-law : (S : Lang StatementTree) → IsLang S statement_set false → IsLang (BlockOf S) (LeftBrace ∷ []) false
  block-law S s = between-law LeftBrace RightBrace (many-law s)

  of-law : (S : Lang StatementTree) → IsLang S statement_set false → IsLang (StatementOf names S) statement_set false
  of-law S s =
      let block : IsLang (BlockOf S) (LeftBrace ∷ []) false = block-law S s in
      either-law plain_statement-exact.law (either-law (mapped-law for_from (after-law For (then-law range-exact.law block)))
      (mapped-law if_from (after-law If (then-law condition-exact.law (then-law block (either-law (after-law Else block) (empty-exact {A = List StatementTree} []).law))))))

  statement-law-to : (d : ℕ) → IsLang (StatementTo names d) statement_set false
  statement-law-to zero = law-wider statement_set refl plain_statement-exact.law
  statement-law-to (suc d) = of-law (StatementTo names d) (statement-law-to d)

  statement-law : IsLang (IsStatement names) statement_set false
  statement-law = limit-law statement-limit statement-law-to

  module _ (n : ℕ) (s : Upto n (IsStatement names) (statement_to names n) statement_set false (Else ∷ [])) where
    block-upto : Upto (suc n) (BlockOf (IsStatement names)) (block_by (statement_to names n)) (LeftBrace ∷ []) false []
    unfolding block_by
    block-upto = upto-between n LeftBrace RightBrace (upto-many n s refl) refl

    for-upto : Upto (suc n) (ForOf names (IsStatement names)) (for_by names (statement_to names n)) (For ∷ []) false []
    unfolding for_by
    for-upto = upto-mapped (suc n) for_from (upto-less (suc n) (upto-after (suc n) For (upto-then (suc n) (upto (suc n) range-exact) block-upto refl)))

    else-upto : Upto (suc n) (MaybeElse (IsStatement names)) (maybe_else_by (statement_to names n)) (Else ∷ []) true (Else ∷ [])
    unfolding maybe_else_by
    else-upto = upto-either (suc n) (upto-less (suc n) (upto-after (suc n) Else block-upto)) (upto (suc n) (empty-exact {A = List StatementTree} [])) refl

    if-upto : Upto (suc n) (IfOf names (IsStatement names)) (if_by names (statement_to names n)) (If ∷ []) false (Else ∷ [])
    unfolding if_by branches_by
    if-upto =
        upto-mapped (suc n) if_from (upto-less (suc n) (upto-after (suc n) If
        (upto-then (suc n) (upto (suc n) condition-exact) (upto-then (suc n) block-upto else-upto refl) refl)))

    statement-by-upto : Upto (suc n) (IsStatement names) (statement_by names (statement_to names n)) statement_set false (Else ∷ [])
    unfolding statement_by
    statement-by-upto =
        upto-same (suc n) statement-law statement_in statement_out
        (upto-either (suc n) (upto (suc n) plain_statement-exact) (upto-either (suc n) for-upto if-upto refl) refl)

  statement-upto : (n : ℕ) → Upto n (IsStatement names) (statement_to names n) statement_set false (Else ∷ [])
  statement-upto zero = upto-nothing (Else ∷ []) statement-law
  statement-upto (suc n) = statement-by-upto n (statement-upto n)

  body-exact : Exact (BlockOf (IsStatement names)) (body_at names) (LeftBrace ∷ []) false []
  unfolding body_at
  body-exact = record {
    law = block-law (IsStatement names) statement-law;
    reads = λ ts. (block-upto (length ts) (statement-upto (length ts))).reads ts (omega arith);
  }

  -- ---- signatures

  placed-exact : Exact (IsPlacedPort names) (placed_at names) (LeftBracket ∷ []) false Follow
  unfolding placed_at
  placed-exact =
      mapped-exact port_from (after-exact LeftBracket (then-exact (closed-exact Comma time-exact refl) (then-exact (closed-exact RightBracket time-exact refl)
      (then-exact (closed-exact Colon name-exact refl) (expression-exact names) refl) refl) refl))

  port-exact : Exact (IsPort names) (port_at names) (At ∷ []) false Follow
  unfolding port_at
  port-exact = after-exact At placed-exact

  interface-exact : Exact (IsNamedInterface names) (interface_at names) (LeftBracket ∷ []) false Follow
  unfolding interface_at
  interface-exact =
      mapped-exact interface_from (then-exact (between-exact LeftBracket RightBracket (any_word-exact names) refl)
      (then-exact (closed-exact Colon name-exact refl) (expression-exact names) refl) refl)

  abbrev FactoredInput : Lang InputTree
  FactoredInput = After At (Either (After Interface (Mapped InterfacePort (IsNamedInterface names))) (Mapped DataInput (IsPlacedPort names)))

  input_up : (w : List Terminal) (a : InputTree) (m : List Terminal) → FactoredInput w a m → IsInput names w a m
  input_up w a m ((t, p), (m1, at, inl ((k, q), (m2, i, (g, l, e3)), e2)), e) = inl (g, ((t, g), (m1, at, ((k, g), (m2, i, l), refl)), refl), e ∙ e2 ∙ e3)
  input_up w a m ((t, p), (m1, at, inr (d, l, e2)), e) = inr (d, ((t, d), (m1, at, l), refl), e ∙ e2)

  input_down : (w : List Terminal) (a : InputTree) (m : List Terminal) → IsInput names w a m → FactoredInput w a m
  input_down w a m (inl (g0, ((t, g1), (m1, at, ((k, g), (m2, i, l), e3)), e2), e)) =
      ((t, InterfacePort g), (m1, at, inl ((k, InterfacePort g), (m2, i, (g, l, refl)), refl)), e ∙ ap InterfacePort (e2 ∙ e3))
  input_down w a m (inr (d0, ((t, d), (m1, at, l), e2), e)) = ((t, DataInput d), (m1, at, inr (d, l, refl)), e ∙ ap DataInput e2)

  input-exact : Exact (IsInput names) (input_at names) (At ∷ []) false (Plus ∷ sorts.Minus ∷ sorts.Star ∷ Plus ∷ sorts.Minus ∷ sorts.Star ∷ [])
  unfolding input_at
  input-exact =
      same-exact input_up input_down (after-exact At (either-exact (after-exact Interface (mapped-exact InterfacePort interface-exact)) (mapped-exact DataInput placed-exact) refl))

  inputs-exact : Exact (AreInputs names) (inputs_at names) (LeftParen ∷ []) false []
  unfolding inputs_at input_list_at
  inputs-exact = mapped-exact inputs_from (between-exact LeftParen RightParen (listed-exact Comma input-exact refl) refl)

  outputs-exact : Exact (AreOutputs names) (outputs_at names) (LeftParen ∷ []) false []
  unfolding outputs_at
  outputs-exact = between-exact LeftParen RightParen (listed-exact Comma port-exact refl) refl

  ports-exact : Exact (ArePorts names) (ports_at names) (LeftParen ∷ []) false []
  unfolding ports_at
  ports-exact = then-exact inputs-exact (after-exact Arrow outputs-exact) refl

  -- ---- components

  parameters-exact : Exact (AreParameters names) (parameters_at names) (LeftBracket ∷ []) true (LeftBracket ∷ [])
  unfolding parameters_at
  parameters-exact =
      either-exact (between-exact LeftBracket RightBracket (separated-exact Comma (any_word-exact names) refl) refl) (empty-exact {A = List Text} []) refl

  event-exact : Exact (IsEvent names) (event_at names) (Name ∷ []) false Follow
  unfolding event_at
  event-exact = mapped-exact event_from (then-exact (closed-exact Colon (any_word-exact names) refl) (expression-exact names) refl)

  events-exact : Exact (AreEvents names) (events_at names) (LeftAngle ∷ []) false []
  unfolding events_at
  events-exact = between-exact LeftAngle RightAngle (separated-exact Comma event-exact refl) refl

  component-exact : Exact (IsComponent names) (component_at names) (Comp ∷ []) false []
  unfolding component_at
  component-exact =
      mapped-exact component_from (after-exact Comp (then-exact (any_word-exact names)
      (then-exact parameters-exact (then-exact events-exact (then-exact ports-exact body-exact refl) refl) refl) refl))

import-exact : Exact IsImport import_at (Import ∷ []) false []
unfolding import_at
import-exact = after-exact Import (closed-exact Semicolon (mapped-exact (λ (t : Terminal). tt) (one-exact sorts.Text)) refl)

imports-exact : Exact AreImports imports_at (Import ∷ []) true (Import ∷ [])
unfolding imports_at
imports-exact = mapped-exact (λ (xs : List (Unit {0})). tt) (many-exact import-exact refl)

pub file-exact : (names : List Text) → Exact (IsFile names) (file_at names) (Import ∷ Comp ∷ []) false (Comp ∷ [])
unfolding file_at
file-exact names =
    mapped-exact design_from (then-exact imports-exact (then-exact (component-exact names) (many-exact (component-exact names) refl) refl) refl)

-- the one tree of the terminals, or where they are refused
pub file_judged : (names : List Text) (ts : List Terminal) → Judged (IsFile names) ts (whole (file_at names ts))
file_judged names ts = judge (IsFile names) (Comp ∷ []) (Import ∷ Comp ∷ []) false (file-exact names).law ts (file_at names ts) ((file-exact names).reads ts)
