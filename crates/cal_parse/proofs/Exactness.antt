-- The readers of Calyx are exact. In each proof `refl` says that the sets of sorts by which the reader chooses are apart.
use Rattle.std.proofs.Common.{◌≡◌, ℕ, zero, suc, Bool, true, false, List, [], ◌∷◌, length, Option, Some, None, inl, inr, refl, ap, subst, ◌∙◌, arith}
use Rattle.hw_names.specs.Name.{Text}
use Rattle.hw_grammar.specs.declared.sort.Sort.{Sort}
use Rattle.hw_grammar.specs.declared.sort.Sort.TheVariants.{Name, Number, Import, Component, Cells, Wires, Control, Group, Comb, Seq, Par, If, Else, While, With, Invoke, At, LeftBracket, RightBracket, LeftParen, RightParen, LeftAngle, RightAngle, LeftBrace, RightBrace, Comma, Colon, Semicolon, Equals, Dot, Arrow}
use Rattle.hw_grammar.specs.declared.sort.Sort.TheVariants as sorts
use Rattle.hw_grammar.specs.declared.terminal.Special.TheVariants.{Done}
use Rattle.hw_grammar.specs.declared.terminal.Terminal.{Terminal}
use Rattle.hw_grammar.specs.Grammar.{Lang, One, Empty, Mapped, AnyWord, Then, Either, Optional, After, Closed, Between, Many}
use Rattle.hw_grammar.specs.Reading.{whole}
use Rattle.hw_grammar.proofs.Exact.{IsLang, Exact, one-exact, empty-exact, then-exact, mapped-exact, either-exact, optional-exact, many-exact, after-exact, separated-exact, listed-exact, same-exact, mapped-law, then-law, either-law, many-law}
use Rattle.hw_grammar.proofs.Carried.{any_number-exact}
use Rattle.hw_grammar.proofs.Closed.{any_word-exact, closed-exact, between-exact}
use Rattle.hw_grammar.proofs.Specials.{special-exact}
use Rattle.hw_grammar.proofs.Upto.{Upto, upto, upto-then, upto-mapped, upto-either, upto-after, upto-many, upto-less}
use Rattle.hw_grammar.proofs.Limit.{Within, Limit, limit-const, limit-mapped, limit-then, limit-either, limit-after, limit-many, upto-same, upto-nothing, law-wider, after-law, limit-law}
use Rattle.hw_grammar.proofs.Parts.{upto-between, between-law, limit-between, first_then, pair-limit}
use Rattle.hw_grammar.proofs.Whole.{Judged, judge}
use Rattle.cal_ast.specs.Tree.{PortName, Assignment, DoneLine, InBinding, OutBinding, Statement}
use Rattle.cal_ast.specs.Tree as tree
use Rattle.cal_parse.specs.Grammar.{port_from, Source, Guard, is_external, is_some_true, either_from, meant_from, MeantPin, pin_from, inputs_from, outputs_from, cell_from, assignment_from, done_from, GroupLine, AssignmentLine, LineOfDone, lines_from, group_from, Wire, GroupWire, AssignmentWire, wires_from, in_from, out_from, seq_from, par_from, branch_from, if_from, while_from, invoke_from, control_from, component_from, design_from, Past, IsPort, IsAttribute, AreAttributes, IsAngleEntry, AreAngleEntries, IsAngle, MaybeAngle, IsPin, AreInputs, AreOutputs, AreParameters, IsCell, IsSetting, IsAssignment, IsDoneMark, IsDoneLine, IsGroupLine, AreGroupLines, MaybeComb, IsGroup, IsWire, IsInBinding, IsOutBinding, BlockOf, BranchOf, IsEnable, MaybeWith, MaybeElse, IsCondition, IfOf, WhileOf, AreInBindings, AreOutBindings, IsInvoke, StatementOf, StatementTo, IsStatement, MaybeControl, MaybeOutputs, AreCells, AreWires, IsComponentBody, IsComponent, IsImport, AreImports, IsFile}
use Rattle.cal_parse.specs.inside.Reading.{attribute_at, attributes_at, angle_entry_at, more_entries_at, entries_at, angle_at, maybe_angle_at, pin_at, pin_set, inputs_at, outputs_at, listed_numbers_at, parameters_at, cell_at, assignment_at, done_mark_at, done_by, assignment_by, dotted_at, named_line_at, of_name, line_at, lines_at, maybe_comb_at, group_at, wire_at, wire_set, wire_list_at, wires_at, in_binding_at, out_binding_at, in_bindings_at, out_bindings_at, statement_set, block_by, branch_by, enable_at, maybe_with_at, maybe_else_by, condition_at, branches_by, if_by, while_by, invoke_at, plain_statement_by, statement_by, statement_to, maybe_control_at, maybe_outputs_at, cells_at, component_body_at, component_set, component_at, import_at, imports_at, components_at, file_at}
use Rattle.cal_parse.proofs.Parts.{past-exact}
use Rattle.cal_parse.proofs.Guards.{port-exact, source-exact}
use Rattle.cal_parse.proofs.Settings.{setting-exact}

-- ---- attributes

attribute-exact : Exact IsAttribute attribute_at (At ∷ []) false (LeftParen ∷ [])
unfolding attribute_at
attribute-exact =
    after-exact At (mapped-exact (λ (x : Bool × Option ℕ). x.0) (then-exact (mapped-exact (λ (t : Terminal). is_external t.special) (one-exact Name))
    (optional-exact (between-exact LeftParen RightParen any_number-exact refl) refl) refl))

pub attributes-exact : Exact AreAttributes attributes_at (At ∷ []) true (At ∷ LeftParen ∷ [])
unfolding attributes_at
attributes-exact = mapped-exact is_some_true (many-exact attribute-exact refl)

angle_entry-exact : Exact IsAngleEntry angle_entry_at (sorts.Text ∷ []) false []
unfolding angle_entry_at
angle_entry-exact =
    mapped-exact (λ (x : Bool × ℕ). x.0) (then-exact (closed-exact Equals (mapped-exact (λ (t : Terminal). is_external t.special) (one-exact sorts.Text)) refl) any_number-exact refl)

entries-exact : Exact AreAngleEntries entries_at (sorts.Text ∷ []) false (Comma ∷ [])
unfolding entries_at more_entries_at
entries-exact = mapped-exact either_from (then-exact angle_entry-exact (mapped-exact is_some_true (many-exact (after-exact Comma angle_entry-exact) refl)) refl)

angle-exact : Exact IsAngle angle_at (LeftAngle ∷ []) false []
unfolding angle_at
angle-exact = between-exact LeftAngle RightAngle entries-exact refl

maybe_angle-exact : Exact MaybeAngle maybe_angle_at (LeftAngle ∷ []) true (LeftAngle ∷ [])
unfolding maybe_angle_at
maybe_angle-exact = either-exact angle-exact (empty-exact false) refl

-- ---- signatures and cells

parameters-exact : Exact AreParameters parameters_at (LeftParen ∷ []) false []
unfolding parameters_at listed_numbers_at
parameters-exact = between-exact LeftParen RightParen (either-exact (separated-exact Comma any_number-exact refl) (empty-exact {A = List ℕ} []) refl) refl

module _ (names : List Text) where
  pin-exact : Exact (IsPin names) (pin_at names) pin_set false []
  unfolding pin_at
  pin-exact = past-exact attributes-exact (mapped-exact pin_from (then-exact (closed-exact Colon (mapped-exact (meant_from names) (one-exact Name)) refl) any_number-exact refl)) refl

  inputs-exact : Exact (AreInputs names) (inputs_at names) (LeftParen ∷ []) false []
  unfolding inputs_at
  inputs-exact = between-exact LeftParen RightParen (mapped-exact inputs_from (listed-exact Comma pin-exact refl)) refl

  outputs-exact : Exact (AreOutputs names) (outputs_at names) (LeftParen ∷ []) false []
  unfolding outputs_at
  outputs-exact = between-exact LeftParen RightParen (mapped-exact outputs_from (listed-exact Comma pin-exact refl)) refl

  cell-exact : Exact (IsCell names) (cell_at names) pin_set false []
  unfolding cell_at
  cell-exact =
      mapped-exact cell_from (then-exact attributes-exact (then-exact (any_word-exact names) (then-exact maybe_angle-exact
      (after-exact Equals (then-exact (any_word-exact names) (closed-exact Semicolon parameters-exact refl) refl)) refl) refl) refl)

  -- ---- assignments and groups

  assignment-exact : Exact (IsAssignment names) (assignment_at names) (Name ∷ []) false []
  unfolding assignment_at
  assignment-exact = mapped-exact assignment_from (then-exact (closed-exact Equals (port-exact names) refl) (setting-exact names) refl)

done_mark-exact : Exact IsDoneMark done_mark_at (LeftBracket ∷ []) false []
unfolding done_mark_at
done_mark-exact = between-exact LeftBracket RightBracket (mapped-exact (λ (t : Terminal). tt) (special-exact Done)) refl

module _ (names : List Text) where
  -- factored to the left
  abbrev IsDoneBy : Lang (Text → GroupLine)
  IsDoneBy = Mapped done_by (Past IsDoneMark (After Equals (IsSetting names)))

  abbrev IsAssignmentBy : Lang (Text → GroupLine)
  IsAssignmentBy = Mapped assignment_by (Then (Closed (Optional (After Dot (AnyWord names))) Equals) (IsSetting names))

  abbrev FactoredLine : Lang GroupLine
  FactoredLine = Mapped of_name (Then (AnyWord names) (Either IsDoneBy IsAssignmentBy))

  abbrev PlainLine : Lang GroupLine
  PlainLine = Either (Mapped AssignmentLine (IsAssignment names)) (Mapped LineOfDone (IsDoneLine names))

  by : (f g : Text → GroupLine) (n : Text) → f ≡ g → f n ≡ g n
  by f g n e = ap (λ (h : Text → GroupLine). h n) e

  line_up : (w : List Terminal) (a : GroupLine) (m : List Terminal) → FactoredLine w a m → PlainLine w a m
  line_up w a m ((n, f), (m1, name, inl (x, l, e2)), e) = inr (done_from (n, x), ((n, x), (m1, name, l), refl), e ∙ by f (done_by x) n e2)
  line_up w a m ((n, f), (m1, name, inr ((o0, x), (m2, ((o, t), (m3, opt, eq), e3), setting), e2)), e) =
      let port : PortName = port_from (n, o) in
      let line : Option Text → GroupLine = λ o. AssignmentLine (assignment_from (port_from (n, o), x)) in
      inl (assignment_from (port, x), ((port, x), (m2, ((port, t), (m3, ((n, o), (m1, name, opt), refl), eq), refl), setting), refl), e ∙ by f (assignment_by (o0, x)) n e2 ∙ ap line e3)

  line_down : (w : List Terminal) (a : GroupLine) (m : List Terminal) → PlainLine w a m → FactoredLine w a m
  line_down w a m (inr (d, ((n, x), (m1, name, l), e2), e)) = ((n, done_by x), (m1, name, inl (x, l, refl)), e ∙ ap LineOfDone e2)
  line_down w a m (inl (b, ((port0, x), (m2, ((port, t), (m3, ((n, o), (m1, name, opt), e5), eq), e4), setting), e2), e)) =
      ((n, assignment_by (o, x)), (m1, name, inr ((o, x), (m2, ((o, t), (m3, opt, eq), refl), setting), refl)), e ∙ ap AssignmentLine (e2 ∙ ap (λ (p : PortName). assignment_from (p, x)) (e4 ∙ e5)))

  named_line-exact : Exact (Either IsDoneBy IsAssignmentBy) (named_line_at names) (LeftBracket ∷ Dot ∷ Equals ∷ []) false []
  unfolding named_line_at dotted_at
  named_line-exact =
      either-exact (mapped-exact done_by (past-exact done_mark-exact (after-exact Equals (setting-exact names)) refl))
      (mapped-exact assignment_by (then-exact (closed-exact Equals (optional-exact (after-exact Dot (any_word-exact names)) refl) refl) (setting-exact names) refl)) refl

  line-exact : Exact (IsGroupLine names) (line_at names) pin_set false []
  unfolding line_at
  line-exact = past-exact attributes-exact (same-exact line_up line_down (mapped-exact of_name (then-exact (any_word-exact names) named_line-exact refl))) refl

  lines-exact : Exact (AreGroupLines names) (lines_at names) pin_set true pin_set
  unfolding lines_at
  lines-exact = mapped-exact lines_from (many-exact line-exact refl)

  group-exact : Exact (IsGroup names) (group_at names) (Comb ∷ Group ∷ []) false []
  unfolding group_at maybe_comb_at
  group-exact =
      mapped-exact group_from (then-exact (either-exact (mapped-exact (λ (t : Terminal). true) (one-exact Comb)) (empty-exact false) refl)
      (after-exact Group (then-exact (any_word-exact names) (past-exact maybe_angle-exact (between-exact LeftBrace RightBrace lines-exact refl) refl) refl)) refl)

  wire-exact : Exact (IsWire names) (wire_at names) wire_set false []
  unfolding wire_at
  wire-exact = past-exact attributes-exact (either-exact (mapped-exact GroupWire group-exact) (mapped-exact AssignmentWire (assignment-exact names)) refl) refl

  wires-exact : Exact (AreWires names) (wires_at names) (Wires ∷ []) false []
  unfolding wires_at wire_list_at
  wires-exact = after-exact Wires (between-exact LeftBrace RightBrace (mapped-exact wires_from (many-exact wire-exact refl)) refl)

  -- ---- control

  in_binding-exact : Exact (IsInBinding names) (in_binding_at names) (Name ∷ []) false (Dot ∷ [])
  unfolding in_binding_at
  in_binding-exact = mapped-exact in_from (then-exact (closed-exact Equals (any_word-exact names) refl) (source-exact names) refl)

  out_binding-exact : Exact (IsOutBinding names) (out_binding_at names) (Name ∷ []) false (Dot ∷ [])
  unfolding out_binding_at
  out_binding-exact = mapped-exact out_from (then-exact (closed-exact Equals (any_word-exact names) refl) (port-exact names) refl)

  in_bindings-exact : Exact (AreInBindings names) (in_bindings_at names) (LeftParen ∷ []) false []
  unfolding in_bindings_at
  in_bindings-exact = between-exact LeftParen RightParen (listed-exact Comma in_binding-exact refl) refl

  out_bindings-exact : Exact (AreOutBindings names) (out_bindings_at names) (LeftParen ∷ []) false []
  unfolding out_bindings_at
  out_bindings-exact = between-exact LeftParen RightParen (listed-exact Comma out_binding-exact refl) refl

  enable-exact : Exact (IsEnable names) (enable_at names) (Name ∷ []) false []
  unfolding enable_at
  enable-exact = mapped-exact tree.Enable (closed-exact Semicolon (any_word-exact names) refl)

  with-exact : Exact (MaybeWith names) (maybe_with_at names) (With ∷ []) true (With ∷ [])
  unfolding maybe_with_at
  with-exact = optional-exact (after-exact With (any_word-exact names)) refl

  condition-exact : Exact (IsCondition names) (condition_at names) (Name ∷ []) false (With ∷ Dot ∷ [])
  unfolding condition_at
  condition-exact = then-exact (port-exact names) with-exact refl

  invoke-exact : Exact (IsInvoke names) (invoke_at names) (Invoke ∷ []) false []
  unfolding invoke_at
  invoke-exact = mapped-exact invoke_from (after-exact Invoke (then-exact (any_word-exact names) (then-exact in_bindings-exact (closed-exact Semicolon out_bindings-exact refl) refl) refl))

  -- ---- statements, by the depth of their blocks

  enable_within : (S : Lang Statement) → Within (IsEnable names) (StatementOf names S)
  enable_within S w a m l = ((false, a), (w, ([], refl, refl), inl l), refl)

  block-limit : (S : ℕ → Lang Statement) (L : Lang Statement) → Limit S L → Limit (λ d. BlockOf (S d)) (BlockOf L)
  block-limit S L x = limit-between LeftBrace RightBrace (λ d. Many (S d)) (Many L) (limit-many S L x)

  branch-limit : (S : ℕ → Lang Statement) (L : Lang Statement) → Limit S L → Limit (λ d. BranchOf (S d)) (BranchOf L)
  branch-limit S L x = limit-mapped (λ d. BlockOf (S d)) (BlockOf L) branch_from (block-limit S L x)

  else-limit : (S : ℕ → Lang Statement) (L : Lang Statement) → Limit S L → Limit (λ d. MaybeElse (S d)) (MaybeElse L)
  else-limit S L x =
      limit-either (λ d. After Else (BranchOf (S d))) (After Else (BranchOf L)) (λ d. Empty (branch_from [])) (Empty (branch_from []))
      (limit-after Else (λ d. BranchOf (S d)) (BranchOf L) (branch-limit S L x)) (limit-const (Empty (branch_from [])))

  if-limit : (S : ℕ → Lang Statement) (L : Lang Statement) → Limit S L → Limit (λ d. IfOf names (S d)) (IfOf names L)
  if-limit S L x =
      limit-mapped (λ d. After If (Then (IsCondition names) (Then (BranchOf (S d)) (MaybeElse (S d))))) (After If (Then (IsCondition names) (Then (BranchOf L) (MaybeElse L)))) if_from
      (limit-after If (λ d. Then (IsCondition names) (Then (BranchOf (S d)) (MaybeElse (S d)))) (Then (IsCondition names) (Then (BranchOf L) (MaybeElse L)))
      (limit-then (λ d. IsCondition names) (IsCondition names) (λ d. Then (BranchOf (S d)) (MaybeElse (S d))) (Then (BranchOf L) (MaybeElse L)) (limit-const (IsCondition names))
      (limit-then (λ d. BranchOf (S d)) (BranchOf L) (λ d. MaybeElse (S d)) (MaybeElse L) (branch-limit S L x) (else-limit S L x))))

  while-limit : (S : ℕ → Lang Statement) (L : Lang Statement) → Limit S L → Limit (λ d. WhileOf names (S d)) (WhileOf names L)
  while-limit S L x =
      limit-mapped (λ d. After While (Then (IsCondition names) (BranchOf (S d)))) (After While (Then (IsCondition names) (BranchOf L))) while_from
      (limit-after While (λ d. Then (IsCondition names) (BranchOf (S d))) (Then (IsCondition names) (BranchOf L))
      (limit-then (λ d. IsCondition names) (IsCondition names) (λ d. BranchOf (S d)) (BranchOf L) (limit-const (IsCondition names)) (branch-limit S L x)))

  -- each rest of the choices
  abbrev FromWhile : Lang Statement → Lang Statement
  FromWhile S = Either (WhileOf names S) (IsInvoke names)

  abbrev FromIf : Lang Statement → Lang Statement
  FromIf S = Either (IfOf names S) (FromWhile S)

  abbrev IsSeqOf : Lang Statement → Lang Statement
  IsSeqOf S = Mapped seq_from (After Seq (BlockOf S))

  abbrev IsParOf : Lang Statement → Lang Statement
  IsParOf S = Mapped par_from (After Par (BlockOf S))

  abbrev FromPar : Lang Statement → Lang Statement
  FromPar S = Either (IsParOf S) (FromIf S)

  abbrev FromSeq : Lang Statement → Lang Statement
  FromSeq S = Either (IsSeqOf S) (FromPar S)

  abbrev PlainStatement : Lang Statement → Lang Statement
  PlainStatement S = Either (IsEnable names) (FromSeq S)

  plain-limit : (S : ℕ → Lang Statement) (L : Lang Statement) → Limit S L → Limit (λ d. PlainStatement (S d)) (PlainStatement L)
  plain-limit S L x =
      limit-either (λ d. IsEnable names) (IsEnable names) (λ d. FromSeq (S d)) (FromSeq L) (limit-const (IsEnable names))
      (limit-either (λ d. IsSeqOf (S d)) (IsSeqOf L) (λ d. FromPar (S d)) (FromPar L)
      (limit-mapped (λ d. After Seq (BlockOf (S d))) (After Seq (BlockOf L)) seq_from (limit-after Seq (λ d. BlockOf (S d)) (BlockOf L) (block-limit S L x)))
      (limit-either (λ d. IsParOf (S d)) (IsParOf L) (λ d. FromIf (S d)) (FromIf L)
      (limit-mapped (λ d. After Par (BlockOf (S d))) (After Par (BlockOf L)) par_from (limit-after Par (λ d. BlockOf (S d)) (BlockOf L) (block-limit S L x)))
      (limit-either (λ d. IfOf names (S d)) (IfOf names L) (λ d. FromWhile (S d)) (FromWhile L) (if-limit S L x)
      (limit-either (λ d. WhileOf names (S d)) (WhileOf names L) (λ d. IsInvoke names) (IsInvoke names) (while-limit S L x) (limit-const (IsInvoke names))))))

  of-limit : (S : ℕ → Lang Statement) (L : Lang Statement) → Limit S L → Limit (λ d. StatementOf names (S d)) (StatementOf names L)
  of-limit S L x =
      limit-mapped (λ d. Then AreAttributes (PlainStatement (S d))) (Then AreAttributes (PlainStatement L)) (λ (x : Bool × Statement). x.1)
      (limit-then (λ d. AreAttributes) AreAttributes (λ d. PlainStatement (S d)) (PlainStatement L) (limit-const AreAttributes) (plain-limit S L x))

  within-of : (S T : Lang Statement) → Within S T → Within (StatementOf names S) (StatementOf names T)
  within-of S T h = (of-limit (first_then S T) T (pair-limit S T h)).up 0

  statement_grows : (d : ℕ) → Within (StatementTo names d) (StatementTo names (suc d))
  statement_grows zero = enable_within (StatementTo names zero)
  statement_grows (suc d) = within-of (StatementTo names d) (StatementTo names (suc d)) (statement_grows d)

  statement-limit : Limit (StatementTo names) (IsStatement names)
  statement-limit = record { up = λ d w a m l. (d, l); down = λ w a m l. l; grows = statement_grows }

  statement_up : Within (StatementOf names (IsStatement names)) (IsStatement names)
  statement_up w a m l = let v = (of-limit (StatementTo names) (IsStatement names) statement-limit).down w a m l in (suc v.0, v.1)

  statement_down : Within (IsStatement names) (StatementOf names (IsStatement names))
  statement_down w a m (zero, l) = enable_within (IsStatement names) w a m l
  statement_down w a m (suc d, l) = (of-limit (StatementTo names) (IsStatement names) statement-limit).up d w a m l

  block-law : (S : Lang Statement) → IsLang S statement_set false → IsLang (BlockOf S) (LeftBrace ∷ []) false
  block-law S s = between-law LeftBrace RightBrace (many-law s)

  plain-law : (S : Lang Statement) → IsLang S statement_set false → IsLang (PlainStatement S) (Name ∷ Seq ∷ Par ∷ If ∷ While ∷ Invoke ∷ []) false
  plain-law S s =
      let branch : IsLang (BranchOf S) (LeftBrace ∷ []) false = mapped-law branch_from (block-law S s) in
      either-law enable-exact.law (either-law (mapped-law seq_from (after-law Seq (block-law S s))) (either-law (mapped-law par_from (after-law Par (block-law S s)))
      (either-law (mapped-law if_from (after-law If (then-law condition-exact.law (then-law branch (either-law (after-law Else branch) (empty-exact (branch_from [])).law)))))
      (either-law (mapped-law while_from (after-law While (then-law condition-exact.law branch))) invoke-exact.law))))

  statement-law-to : (d : ℕ) → IsLang (StatementTo names d) statement_set false
  statement-law-to zero = law-wider statement_set refl enable-exact.law
  statement-law-to (suc d) = mapped-law (λ (x : Bool × Statement). x.1) (then-law attributes-exact.law (plain-law (StatementTo names d) (statement-law-to d)))

  statement-law : IsLang (IsStatement names) statement_set false
  statement-law = limit-law statement-limit statement-law-to

  module _ (n : ℕ) (s : Upto n (IsStatement names) (statement_to names n) statement_set false (Else ∷ [])) where
    block-upto : Upto (suc n) (BlockOf (IsStatement names)) (block_by (statement_to names n)) (LeftBrace ∷ []) false []
    unfolding block_by
    block-upto = upto-between n LeftBrace RightBrace (upto-many n s refl) refl

    branch-upto : Upto (suc n) (BranchOf (IsStatement names)) (branch_by (statement_to names n)) (LeftBrace ∷ []) false []
    unfolding branch_by
    branch-upto = upto-mapped (suc n) branch_from block-upto

    else-upto : Upto (suc n) (MaybeElse (IsStatement names)) (maybe_else_by (statement_to names n)) (Else ∷ []) true (Else ∷ [])
    unfolding maybe_else_by
    else-upto = upto-either (suc n) (upto-less (suc n) (upto-after (suc n) Else branch-upto)) (upto (suc n) (empty-exact (branch_from []))) refl

    if-upto : Upto (suc n) (IfOf names (IsStatement names)) (if_by names (statement_to names n)) (If ∷ []) false (Else ∷ [])
    unfolding if_by branches_by
    if-upto = upto-mapped (suc n) if_from (upto-less (suc n) (upto-after (suc n) If (upto-then (suc n) (upto (suc n) condition-exact) (upto-then (suc n) branch-upto else-upto refl) refl)))

    while-upto : Upto (suc n) (WhileOf names (IsStatement names)) (while_by names (statement_to names n)) (While ∷ []) false []
    unfolding while_by
    while-upto = upto-mapped (suc n) while_from (upto-less (suc n) (upto-after (suc n) While (upto-then (suc n) (upto (suc n) condition-exact) branch-upto refl)))

    plain-upto : Upto (suc n) (PlainStatement (IsStatement names)) (plain_statement_by names (statement_to names n)) (Name ∷ Seq ∷ Par ∷ If ∷ While ∷ Invoke ∷ []) false (Else ∷ [])
    unfolding plain_statement_by
    plain-upto =
        upto-either (suc n) (upto (suc n) enable-exact) (upto-either (suc n) (upto-mapped (suc n) seq_from (upto-less (suc n) (upto-after (suc n) Seq block-upto)))
        (upto-either (suc n) (upto-mapped (suc n) par_from (upto-less (suc n) (upto-after (suc n) Par block-upto)))
        (upto-either (suc n) if-upto (upto-either (suc n) while-upto (upto (suc n) invoke-exact) refl) refl) refl) refl) refl

    statement-by-upto : Upto (suc n) (IsStatement names) (statement_by names (statement_to names n)) statement_set false (Else ∷ [])
    unfolding statement_by
    statement-by-upto =
        upto-same (suc n) statement-law statement_up statement_down
        (upto-mapped (suc n) (λ (x : Bool × Statement). x.1) (upto-then (suc n) (upto (suc n) attributes-exact) plain-upto refl))

  statement-upto : (n : ℕ) → Upto n (IsStatement names) (statement_to names n) statement_set false (Else ∷ [])
  statement-upto zero = upto-nothing (Else ∷ []) statement-law
  statement-upto (suc n) = statement-by-upto n (statement-upto n)

  control-law : IsLang (MaybeControl names) (Control ∷ []) true
  control-law = either-law (mapped-law control_from (after-law Control (block-law (IsStatement names) statement-law))) (empty-exact tree.Absent).law

  control-exact : Exact (MaybeControl names) (maybe_control_at names) (Control ∷ []) true (Control ∷ [])
  unfolding maybe_control_at
  control-exact = record {
    law = control-law;
    reads = λ ts.
        let n = length ts in
        let both : Upto n (MaybeControl names) _ (Control ∷ []) true (Control ∷ []) =
        upto-either n (upto-mapped n control_from (upto-less n (upto-after n Control (upto-less n (block-upto n (statement-upto n)))))) (upto n (empty-exact tree.Absent)) refl in
        both.reads ts (omega arith);
  }

  -- ---- components

  maybe_outputs-exact : Exact (MaybeOutputs names) (maybe_outputs_at names) (Arrow ∷ []) true (Arrow ∷ [])
  unfolding maybe_outputs_at
  maybe_outputs-exact = either-exact (after-exact Arrow (outputs-exact names)) (empty-exact {A = List _} []) refl

  cells-exact : Exact (AreCells names) (cells_at names) (Cells ∷ []) false []
  unfolding cells_at
  cells-exact = after-exact Cells (between-exact LeftBrace RightBrace (many-exact (cell-exact names) refl) refl)

  component_body-exact : Exact (IsComponentBody names) (component_body_at names) (LeftBrace ∷ []) false []
  unfolding component_body_at
  component_body-exact = between-exact LeftBrace RightBrace (then-exact cells-exact (then-exact wires-exact control-exact refl) refl) refl

  component-exact : Exact (IsComponent names) (component_at names) component_set false []
  unfolding component_at
  component-exact =
      past-exact attributes-exact (mapped-exact component_from (after-exact Component (then-exact (any_word-exact names) (past-exact maybe_angle-exact
      (then-exact (inputs-exact names) (then-exact maybe_outputs-exact component_body-exact refl) refl) refl) refl))) refl

import-exact : Exact IsImport import_at (Import ∷ []) false []
unfolding import_at
import-exact = after-exact Import (closed-exact Semicolon (mapped-exact (λ (t : Terminal). tt) (one-exact sorts.Text)) refl)

imports-exact : Exact AreImports imports_at (Import ∷ []) true (Import ∷ [])
unfolding imports_at
imports-exact = mapped-exact (λ (xs : List (Unit {0})). tt) (many-exact import-exact refl)

pub file-exact : (names : List Text) → Exact (IsFile names) (file_at names) (Import ∷ At ∷ Component ∷ []) false component_set
unfolding file_at components_at
file-exact names = past-exact imports-exact (mapped-exact design_from (then-exact (component-exact names) (many-exact (component-exact names) refl) refl)) refl

-- the one tree of the terminals, or where they are refused
pub file_judged : (names : List Text) (ts : List Terminal) → Judged (IsFile names) ts (whole (file_at names ts))
file_judged names ts = judge (IsFile names) component_set (Import ∷ At ∷ Component ∷ []) false (file-exact names).law ts (file_at names ts) ((file-exact names).reads ts)
