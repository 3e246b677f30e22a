-- A Calyx text is refused at one byte, and there for a word that is left out or for none: its grammar looks at no name.
use Rattle.std.proofs.Common.{◌≡◌, ℕ, zero, suc, ◌≤◌, Bool, true, false, List, [], ◌∷◌, length, drop, Option, inl, inr, refl, sym, ap, ◌∙◌, arith}
use Rattle.hw_names.specs.Name.{Text}
use Rattle.hw_lex.specs.declared.token.Dialect.TheVariants.{Cal}
use Rattle.hw_grammar.specs.declared.sort.Sort.{Sort}
use Rattle.hw_grammar.specs.declared.sort.Sort.TheVariants.{Name, Import, Component, Cells, Wires, Control, Group, Comb, Seq, Par, If, Else, While, With, Invoke, At, LeftBracket, RightBracket, LeftParen, RightParen, LeftAngle, RightAngle, LeftBrace, RightBrace, Comma, Colon, Semicolon, Equals, Dot, Arrow, Question, Not, And, Or, EqualsEquals, NotEquals, AtMost, AtLeast}
use Rattle.hw_grammar.specs.declared.sort.Sort.TheVariants as sorts
use Rattle.hw_grammar.specs.declared.terminal.Special.TheVariants.{Done}
use Rattle.hw_grammar.specs.declared.terminal.Terminal.{Terminal}
use Rattle.hw_grammar.specs.Grammar.{Lang}
use Rattle.hw_grammar.specs.Sort.{has_sort, has}
use Rattle.hw_grammar.proofs.Passing.{ArePairs}
use Rattle.hw_grammar.proofs.Texts.{length-AreTerminals}
use Rattle.hw_prims.specs.Table.{Pin}
use Rattle.net_core.specs.declared.net.Cmp.{Cmp}
use Rattle.net_core.specs.declared.net.Cmp.TheVariants.{Eq, Neq, Lt, Gt, Le, Ge}
use Rattle.cal_ast.specs.Tree.{Statement}
use Rattle.cal_ast.specs.Tree as tree
use Rattle.cal_parse.specs.Grammar.{Past, Compared, port_from, port_source, literal_from, read_from, negated_from, test_from, all_from, any_from, is_external, is_some_true, either_from, meant_from, pin_from, inputs_from, outputs_from, cell_from, assignment_from, done_from, AssignmentLine, LineOfDone, lines_from, group_from, GroupWire, AssignmentWire, wires_from, in_from, out_from, seq_from, par_from, branch_from, if_from, while_from, invoke_from, control_from, component_from, design_from, IsPort, IsSource, IsOperator, IsTest, TightTo, GuardTo, IsGuard, IsAttributeWord, IsAttribute, AreAttributes, IsAngleEntry, AreAngleEntries, MaybeAngle, IsPin, AreInputs, AreOutputs, AreParameters, IsCell, IsSetting, IsAssignment, IsDoneMark, IsDoneLine, IsGroupLine, MaybeComb, IsGroup, IsWire, IsInBinding, IsOutBinding, BlockOf, IsEnable, BranchOf, MaybeElse, IsCondition, IsInvoke, StatementTo, IsStatement, MaybeControl, MaybeOutputs, IsComponentBody, IsComponent, IsImport, AreImports, IsFile}
use Rattle.cal_parse.specs.Spelling.{IsRefusedAt, left_out}
use Rattle.filc_laws.proofs.FollowLemmas.{LooksSame, Follows, follows-one, follows-special, follows-empty, follows-mapped, follows-then, follows-either, follows-many, follows-optional, follows-after, follows-closed, follows-between, follows-separated, follows-listed, follows-word, follows-number, follows-literal, spells_too}
use Rattle.filc_laws.proofs.PlaceLemmas.{AreOnePlace, lexed_alike, same_place, same_refused_byte}
use Rattle.filc_laws.specs.OnePlace.{CalPlaceIsOne, RefusedCalSpellsNone}

-- ---- the grammar of Calyx, with two lists of names

follows-past : {A B : Type 0} {L M : List Terminal → A → List Terminal → Type 0} {K N : List Terminal → B → List Terminal → Type 0} → Follows L M → Follows K N → Follows (Past L K) (Past M N)
follows-past {A = A} {B = B} h g = follows-mapped (λ (x : A × B). x.1) (λ (x : A × B). x.1) (follows-then h g)

-- ---- what has no names

follows-compared : (sort : Sort) (op : Cmp) → Follows (Compared sort op) (Compared sort op)
follows-compared sort op = follows-mapped (λ (t : Terminal). op) (λ (t : Terminal). op) (follows-one sort)

follows-operator : Follows IsOperator IsOperator
follows-operator =
    follows-either (follows-compared EqualsEquals Eq)
    (follows-either (follows-compared NotEquals Neq)
    (follows-either (follows-compared LeftAngle Lt)
    (follows-either (follows-compared RightAngle Gt) (follows-either (follows-compared AtMost Le) (follows-compared AtLeast Ge)))))

follows-attribute_word : (sort : Sort) → Follows (IsAttributeWord sort) (IsAttributeWord sort)
follows-attribute_word sort = follows-mapped (λ (t : Terminal). is_external t.special) (λ (t : Terminal). is_external t.special) (follows-one sort)

follows-attribute : Follows IsAttribute IsAttribute
follows-attribute =
    follows-after At
    (follows-mapped (λ (x : Bool × Option ℕ). x.0) (λ (x : Bool × Option ℕ). x.0)
    (follows-then (follows-attribute_word Name) (follows-optional (follows-between LeftParen RightParen follows-number))))

follows-attributes : Follows AreAttributes AreAttributes
follows-attributes = follows-mapped is_some_true is_some_true (follows-many follows-attribute)

follows-angle_entry : Follows IsAngleEntry IsAngleEntry
follows-angle_entry =
    follows-mapped (λ (x : Bool × ℕ). x.0) (λ (x : Bool × ℕ). x.0) (follows-then (follows-closed Equals (follows-attribute_word sorts.Text)) follows-number)

follows-angle_entries : Follows AreAngleEntries AreAngleEntries
follows-angle_entries =
    follows-mapped either_from either_from (follows-then follows-angle_entry (follows-mapped is_some_true is_some_true (follows-many (follows-after Comma follows-angle_entry))))

follows-angle : Follows MaybeAngle MaybeAngle
follows-angle = follows-either (follows-between LeftAngle RightAngle follows-angle_entries) (follows-empty false)

follows-parameters : Follows AreParameters AreParameters
follows-parameters = follows-between LeftParen RightParen (follows-either (follows-separated Comma follows-number) (follows-empty {A = List ℕ} []))

follows-done_mark : Follows IsDoneMark IsDoneMark
follows-done_mark =
    follows-between LeftBracket RightBracket (follows-mapped (λ (t : Terminal). tt) (λ (t : Terminal). tt) (follows-special Done))

follows-comb : Follows MaybeComb MaybeComb
follows-comb = follows-either (follows-mapped (λ (t : Terminal). true) (λ (t : Terminal). true) (follows-one Comb)) (follows-empty false)

follows-import : Follows IsImport IsImport
follows-import = follows-after Import (follows-closed Semicolon (follows-mapped (λ (t : Terminal). tt) (λ (t : Terminal). tt) (follows-one sorts.Text)))

follows-imports : Follows AreImports AreImports
follows-imports = follows-mapped (λ (x : List (Unit {0})). tt) (λ (x : List (Unit {0})). tt) (follows-many follows-import)

-- ---- statements with others inside

follows-block : {S T : Lang Statement} → Follows S T → Follows (BlockOf S) (BlockOf T)
follows-block h = follows-between LeftBrace RightBrace (follows-many h)

follows-branch : {S T : Lang Statement} → Follows S T → Follows (BranchOf S) (BranchOf T)
follows-branch h = follows-mapped branch_from branch_from (follows-block h)

follows-else : {S T : Lang Statement} → Follows S T → Follows (MaybeElse S) (MaybeElse T)
follows-else h = follows-either (follows-after Else (follows-branch h)) (follows-empty (branch_from []))

module _ (old new : List Text) where
  -- ---- ports, sources and guards

  follows-port : Follows (IsPort old) (IsPort new)
  follows-port = follows-mapped port_from port_from (follows-then (follows-word old new) (follows-optional (follows-after Dot (follows-word old new))))

  follows-source : Follows (IsSource old) (IsSource new)
  follows-source = follows-either (follows-mapped port_source port_source follows-port) (follows-mapped literal_from literal_from follows-literal)

  follows-test : Follows (IsTest old) (IsTest new)
  follows-test = follows-mapped test_from test_from (follows-then follows-source (follows-optional (follows-then follows-operator follows-source)))

  mutual
    follows-tight_to : (depth : ℕ) → Follows (TightTo old depth) (TightTo new depth)
    follows-tight_to zero = follows-mapped read_from read_from follows-source
    follows-tight_to (suc depth) =
        follows-either (follows-mapped negated_from negated_from (follows-after Not (follows-tight_to depth)))
        (follows-either (follows-between LeftParen RightParen (follows-guard_to depth)) (follows-mapped read_from read_from follows-source))

    follows-guard_to : (depth : ℕ) → Follows (GuardTo old depth) (GuardTo new depth)
    follows-guard_to zero = follows-mapped read_from read_from follows-source
    follows-guard_to (suc depth) =
        follows-mapped any_from any_from
        (follows-separated Or (follows-mapped all_from all_from
        (follows-separated And
        (follows-either (follows-mapped negated_from negated_from (follows-after Not (follows-tight_to depth)))
        (follows-either (follows-between LeftParen RightParen (follows-guard_to depth)) follows-test)))))

  follows-guard : Follows (IsGuard old) (IsGuard new)
  follows-guard = record { follow = λ ts us a rest pairs is. let k = (follows-guard_to is.0).follow ts us a rest pairs is.1 in (k.0, k.1, k.2, (is.0, k.3)) }

  -- ---- signatures and cells

  follows-pin : Follows (IsPin old) (IsPin new)
  follows-pin =
      follows-past follows-attributes
      (follows-mapped pin_from pin_from (follows-then (follows-closed Colon (follows-mapped (meant_from old) (meant_from new) (follows-one Name))) follows-number))

  follows-inputs : Follows (AreInputs old) (AreInputs new)
  follows-inputs = follows-between LeftParen RightParen (follows-mapped inputs_from inputs_from (follows-listed Comma follows-pin))

  follows-outputs : Follows (AreOutputs old) (AreOutputs new)
  follows-outputs = follows-between LeftParen RightParen (follows-mapped outputs_from outputs_from (follows-listed Comma follows-pin))

  follows-maybe_outputs : Follows (MaybeOutputs old) (MaybeOutputs new)
  follows-maybe_outputs = follows-either (follows-after Arrow follows-outputs) (follows-empty {A = List Pin} [])

  follows-cell : Follows (IsCell old) (IsCell new)
  follows-cell =
      follows-mapped cell_from cell_from
      (follows-then follows-attributes
      (follows-then (follows-word old new) (follows-then follows-angle (follows-after Equals (follows-then (follows-word old new) (follows-closed Semicolon follows-parameters))))))

  -- ---- assignments and groups

  follows-setting : Follows (IsSetting old) (IsSetting new)
  follows-setting = follows-then (follows-optional (follows-closed Question follows-guard)) (follows-closed Semicolon follows-source)

  follows-assignment : Follows (IsAssignment old) (IsAssignment new)
  follows-assignment = follows-mapped assignment_from assignment_from (follows-then (follows-closed Equals follows-port) follows-setting)

  follows-done_line : Follows (IsDoneLine old) (IsDoneLine new)
  follows-done_line =
      follows-mapped done_from done_from (follows-then (follows-word old new) (follows-past follows-done_mark (follows-after Equals follows-setting)))

  follows-group_line : Follows (IsGroupLine old) (IsGroupLine new)
  follows-group_line =
      follows-past follows-attributes (follows-either (follows-mapped AssignmentLine AssignmentLine follows-assignment) (follows-mapped LineOfDone LineOfDone follows-done_line))

  follows-group : Follows (IsGroup old) (IsGroup new)
  follows-group =
      follows-mapped group_from group_from
      (follows-then follows-comb
      (follows-after Group
      (follows-then (follows-word old new) (follows-past follows-angle (follows-between LeftBrace RightBrace (follows-mapped lines_from lines_from (follows-many follows-group_line)))))))

  follows-wire : Follows (IsWire old) (IsWire new)
  follows-wire =
      follows-past follows-attributes (follows-either (follows-mapped GroupWire GroupWire follows-group) (follows-mapped AssignmentWire AssignmentWire follows-assignment))

  -- ---- control

  follows-in_binding : Follows (IsInBinding old) (IsInBinding new)
  follows-in_binding = follows-mapped in_from in_from (follows-then (follows-closed Equals (follows-word old new)) follows-source)

  follows-out_binding : Follows (IsOutBinding old) (IsOutBinding new)
  follows-out_binding = follows-mapped out_from out_from (follows-then (follows-closed Equals (follows-word old new)) follows-port)

  follows-enable : Follows (IsEnable old) (IsEnable new)
  follows-enable = follows-mapped tree.Enable tree.Enable (follows-closed Semicolon (follows-word old new))

  follows-condition : Follows (IsCondition old) (IsCondition new)
  follows-condition = follows-then follows-port (follows-optional (follows-after With (follows-word old new)))

  follows-invoke : Follows (IsInvoke old) (IsInvoke new)
  follows-invoke =
      follows-mapped invoke_from invoke_from
      (follows-after Invoke
      (follows-then (follows-word old new)
      (follows-then (follows-between LeftParen RightParen (follows-listed Comma follows-in_binding))
      (follows-closed Semicolon (follows-between LeftParen RightParen (follows-listed Comma follows-out_binding))))))

  follows-statement_to : (depth : ℕ) → Follows (StatementTo old depth) (StatementTo new depth)
  follows-statement_to zero = follows-enable
  follows-statement_to (suc depth) =
      let inner = follows-statement_to depth in
      follows-past follows-attributes
      (follows-either follows-enable
      (follows-either (follows-mapped seq_from seq_from (follows-after Seq (follows-block inner)))
      (follows-either (follows-mapped par_from par_from (follows-after Par (follows-block inner)))
      (follows-either (follows-mapped if_from if_from (follows-after If (follows-then follows-condition (follows-then (follows-branch inner) (follows-else inner)))))
      (follows-either (follows-mapped while_from while_from (follows-after While (follows-then follows-condition (follows-branch inner)))) follows-invoke)))))

  follows-statement : Follows (IsStatement old) (IsStatement new)
  follows-statement = record { follow = λ ts us a rest pairs is. let k = (follows-statement_to is.0).follow ts us a rest pairs is.1 in (k.0, k.1, k.2, (is.0, k.3)) }

  follows-control : Follows (MaybeControl old) (MaybeControl new)
  follows-control = follows-either (follows-mapped control_from control_from (follows-after Control (follows-block follows-statement))) (follows-empty tree.Absent)

  -- ---- components and files

  follows-body : Follows (IsComponentBody old) (IsComponentBody new)
  follows-body =
      follows-between LeftBrace RightBrace
      (follows-then (follows-after Cells (follows-between LeftBrace RightBrace (follows-many follows-cell)))
      (follows-then (follows-after Wires (follows-between LeftBrace RightBrace (follows-mapped wires_from wires_from (follows-many follows-wire)))) follows-control))

  follows-component : Follows (IsComponent old) (IsComponent new)
  follows-component =
      follows-past follows-attributes
      (follows-mapped component_from component_from
      (follows-after Component (follows-then (follows-word old new) (follows-past follows-angle (follows-then follows-inputs (follows-then follows-maybe_outputs follows-body))))))

  follows-file : Follows (IsFile old) (IsFile new)
  follows-file = follows-past follows-imports (follows-mapped design_from design_from (follows-then follows-component (follows-many follows-component)))

-- ---- the word at the place

-- the terminals from a place on begin with ones of the same sort
same_word : (ts us : List Terminal) (k : ℕ) → ArePairs LooksSame ts us → has left_out (drop k ts) ≡ has left_out (drop k us)
same_word [] [] k pairs = refl
same_word [] (u ∷ us) k pairs = absurd pairs
same_word (t ∷ ts) [] k pairs = absurd pairs
same_word (t ∷ ts) (u ∷ us) zero pairs = ap (λ (sort : Sort). has_sort sort left_out) (sym pairs.0.0)
same_word (t ∷ ts) (u ∷ us) (suc k) pairs = same_word ts us k pairs.1

same_length : (ts us : List Terminal) → ArePairs LooksSame ts us → length ts ≡ length us
same_length [] [] pairs = refl
same_length [] (u ∷ us) pairs = absurd pairs
same_length (t ∷ ts) [] pairs = absurd pairs
same_length (t ∷ ts) (u ∷ us) pairs = ap suc (same_length ts us pairs.1)

-- past the last of them there is no word
no_word : (ts : List Terminal) (k : ℕ) → length ts ≤ k → has left_out (drop k ts) ≡ false
no_word [] zero far = refl
no_word [] (suc k) far = refl
no_word (t ∷ ts) zero far = absurd (omega arith)
no_word (t ∷ ts) (suc k) far = no_word ts k (omega arith)

words_alike : (ts us : List Terminal) (count j k : ℕ) → ArePairs LooksSame ts us → length ts ≡ count → length us ≡ count → AreOnePlace count j k → has left_out (drop j ts) ≡ has left_out (drop k us)
words_alike ts us count j k pairs all all' (inl same) = same_word ts us j pairs ∙ ap (λ (i : ℕ). has left_out (drop i us)) same
words_alike ts us count j k pairs all all' (inr (far, far')) = no_word ts j (omega (arith, all, far)) ∙ sym (no_word us k (omega (arith, all', far')))

-- ---- the place

module _ (text : Text) (at other : ℕ) (p : IsRefusedAt text at) (q : IsRefusedAt text other) where
  pairs : ArePairs LooksSame p.terminals q.terminals
  pairs = lexed_alike Cal p.names q.names text p.tokens q.tokens p.terminals q.terminals p.lexed q.lexed

  one_byte : at ≡ other
  one_byte =
      p.byte
      ∙ same_refused_byte (follows-file p.names q.names) (follows-file q.names p.names) Cal p.names q.names text p.tokens q.tokens p.terminals q.terminals p.place q.place p.lexed q.lexed p.refused q.refused
      ∙ sym q.byte

  one_word : has left_out (drop p.place p.terminals) ≡ has left_out (drop q.place q.terminals)
  one_word =
      let all = length-AreTerminals Cal p.names text p.tokens p.terminals p.lexed.terminals_are in
      words_alike p.terminals q.terminals (length p.tokens) p.place q.place pairs all (sym (same_length p.terminals q.terminals pairs) ∙ all)
      (same_place (follows-file p.names q.names) (follows-file q.names p.names) Cal p.names q.names text p.tokens q.tokens p.terminals q.terminals p.place q.place p.lexed q.lexed p.refused q.refused)

pub cal_place_is_one : CalPlaceIsOne
cal_place_is_one = λ text at other p q. (one_byte text at other p q, one_word text at other p q)

pub refused_cal_spells_none : RefusedCalSpellsNone
refused_cal_spells_none = λ text at design p spells.
    let q = spells.1 in
    let s = spells_too (follows-file spells.0 p.names) q.1 p.terminals design (lexed_alike Cal spells.0 p.names text q.0 p.tokens q.1 p.terminals q.2 p.lexed) q.3 in
    p.refused.2 s.0 s.1
