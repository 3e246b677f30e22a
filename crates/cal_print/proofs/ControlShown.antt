-- The texts of control statements spell them.
use Rattle.std.proofs.Common.{◌≡◌, ℕ, suc, ◌+◌, ◌<◌, Bool, true, false, cond, List, [], ◌∷◌, ◌++◌, codes, Option, Some, None, refl, sym, ap, inl, inr, append_assoc, arith}
use Rattle.std.specs.List.{list_all}
use Rattle.std.proofs.lemmas.List.{append-nil}
use Rattle.hw_names.specs.Name.{Text}
use Rattle.hw_lex.specs.declared.token.Dialect.TheVariants.{Cal}
use Rattle.hw_lex.specs.declared.token.Kind.TheVariants as kinds
use Rattle.hw_lex.specs.Byte.{is_blank}
use Rattle.hw_lex.proofs.Fronts.{by_test}
use Rattle.hw_lex.proofs.Words.{name_stands}
use Rattle.hw_grammar.specs.declared.sort.Sort.TheVariants.{Seq, Par, If, Else, While, With, Invoke, Comma, Semicolon, Equals}
use Rattle.hw_grammar.specs.declared.sort.Sort.TheVariants as sorts
use Rattle.hw_grammar.specs.Grammar.{Empty, Mapped, AnyWord, Then, Either, After, Closed, Many, Listed}
use Rattle.hw_grammar.proofs.Fragments.{Fragment, Follows, retext, fragment_empty, fragment_then, fragment_after}
use Rattle.hw_grammar.proofs.Decimals.{fragment_name}
use Rattle.cal_ast.specs.Tree.{PortName, InBinding, OutBinding, Statement, Statements, NoStatements, MoreStatements, ControlSection}
use Rattle.cal_ast.specs.Tree as tree
use Rattle.cal_parse.specs.Grammar.{Past, Source, AreAttributes, IsPort, IsSource, IsInBinding, IsOutBinding, BlockOf, statements_from, seq_from, par_from, branch_from, IsEnable, MaybeWith, BranchOf, MaybeElse, IsCondition, IfOf, WhileOf, AreInBindings, AreOutBindings, IsInvoke, StatementTo, IsStatement, control_from, MaybeControl}
use Rattle.cal_ast.specs.Written.{NameIsWritten, PortIsWritten, InIsWritten, OutIsWritten, StatementIsWritten, StatementsAreWritten, ControlIsWritten}
use Rattle.cal_print.specs.Layout.{joined, line_text, deeper, block_text, port_text, source_text, in_text, out_text, with_text, invoke_text, is_empty_seq, statement_text, statements_text, control_text}
use Rattle.cal_print.proofs.Marks.{Langs, respelled, closed_mark, closed_semicolon, closed_equals, parenthesized, line_shown, braced, block_shown, listed, deeper_blank}
use Rattle.cal_print.proofs.GuardsShown.{port_shown, source_shown, by_suc}
use Rattle.cal_print.proofs.LinesShown.{without_attributes, section_shown}

-- ---- invokes

in_shown : (b : InBinding) → InIsWritten b → Fragment Cal IsInBinding b (in_text b) true
in_shown b w =
    let Both : Langs (Text × Source) = λ names. Then (Closed (AnyWord names) Equals) (IsSource names) in
    let name = closed_equals AnyWord b.pin b.pin (fragment_name Cal b.pin w.0) in
    let both = fragment_then Cal (λ names. Closed (AnyWord names) Equals) IsSource b.pin b.src (b.pin ++ codes " = ") (source_text b.src) false true (λ after f. tt) name (source_shown b.src w.1) in
    respelled Both IsInBinding (b.pin, b.src) b (in_text b) true (λ names ts rest s. ((b.pin, b.src), s, refl)) both

out_shown : (b : OutBinding) → OutIsWritten b → Fragment Cal IsOutBinding b (out_text b) true
out_shown b w =
    let Both : Langs (Text × PortName) = λ names. Then (Closed (AnyWord names) Equals) (IsPort names) in
    let name = closed_equals AnyWord b.pin b.pin (fragment_name Cal b.pin w.0) in
    let both = fragment_then Cal (λ names. Closed (AnyWord names) Equals) IsPort b.pin b.dst (b.pin ++ codes " = ") (port_text b.dst) false true (λ after f. tt) name (port_shown b.dst w.1) in
    respelled Both IsOutBinding (b.pin, b.dst) b (out_text b) true (λ names ts rest s. ((b.pin, b.dst), s, refl)) both

invoke_parts : (cell ins outs : Text) → codes "invoke " ++ (cell ++ ((40 ∷ (ins ++ (41 ∷ []))) ++ ((40 ∷ (outs ++ (41 ∷ []))) ++ codes ";"))) ≡ codes "invoke " ++ cell ++ codes "(" ++ ins ++ codes ")(" ++ outs ++ codes ");"
invoke_parts cell ins outs = simp append_assoc

invoke_shown : (cell : Text) (ins : List InBinding) (outs : List OutBinding) → StatementIsWritten (tree.Invoke cell ins outs) → Fragment Cal IsInvoke (tree.Invoke cell ins outs) (invoke_text cell ins outs) false
invoke_shown cell ins outs w =
    let i : Text = 40 ∷ (joined in_text ins ++ (41 ∷ [])) in
    let o : Text = 40 ∷ (joined out_text outs ++ (41 ∷ [])) in
    let Last : Langs (List OutBinding) = λ names. Closed (AreOutBindings names) Semicolon in
    let Lists : Langs (List InBinding × List OutBinding) = λ names. Then (AreInBindings names) (Last names) in
    let Named : Langs (Text × (List InBinding × List OutBinding)) = λ names. Then (AnyWord names) (Lists names) in
    let a = parenthesized (λ names. Listed Comma (IsInBinding names)) ins (joined in_text ins) true (listed IsInBinding InIsWritten in_text in_shown ins w.1.0) in
    let b = parenthesized (λ names. Listed Comma (IsOutBinding names)) outs (joined out_text outs) true (listed IsOutBinding OutIsWritten out_text out_shown outs w.1.1) in
    let last = closed_mark AreOutBindings outs o 59 [] Semicolon false refl (λ next. refl) refl refl refl b in
    let lists = fragment_then Cal AreInBindings Last ins outs i (o ++ codes ";") false false (λ after f. tt) a last in
    let named = fragment_then Cal AnyWord Lists cell (ins, outs) cell (i ++ (o ++ codes ";")) true false (λ after f. refl) (fragment_name Cal cell w.0) lists in
    let text : Text = cell ++ (i ++ (o ++ codes ";")) in
    let word = fragment_after Cal [] kinds.Name (codes "invoke") (32 ∷ []) Invoke Named (cell, (ins, outs)) text false refl refl refl (λ after. name_stands Cal 105 (codes "nvoke") (32 ∷ (text ++ after)) (refl, refl) refl) named in
    retext Cal IsInvoke (tree.Invoke cell ins outs) (codes "invoke " ++ text) (invoke_text cell ins outs) false (invoke_parts cell (joined in_text ins) (joined out_text outs))
    (respelled (λ names. After Invoke (Named names)) IsInvoke (cell, (ins, outs)) (tree.Invoke cell ins outs) (codes "invoke " ++ text) false (λ names ts rest s. ((cell, (ins, outs)), s, refl)) word)

-- ---- conditions

with_shown : (by : Option Text) → NameIsWritten by → Fragment Cal MaybeWith by (with_text by) true
with_shown None w = respelled {A = Option Text} {B = Option Text} (λ names. Empty None) MaybeWith None None [] true (λ names ts rest s. inr s) (fragment_empty Cal {A = Option Text} None None true refl)
with_shown (Some group) w =
    let word = fragment_after Cal (32 ∷ []) kinds.Name (codes "with") (32 ∷ []) With AnyWord group group true refl refl refl (λ after. name_stands Cal 119 (codes "ith") (32 ∷ (group ++ after)) (refl, refl) refl) (fragment_name Cal group w) in
    respelled (λ names. After With (AnyWord names)) MaybeWith group (Some group) (codes " with " ++ group) true (λ names ts rest s. inl (group, s, refl)) word

with_follows : (by : Option Text) (after : List ℕ) → Follows Cal true after → Follows Cal true (with_text by ++ after)
with_follows None after f = f
with_follows (Some group) after f = refl

abbrev condition_text : PortName → Option Text → Text
condition_text port by = port_text port ++ with_text by

condition_shown : (port : PortName) (by : Option Text) → PortIsWritten port → NameIsWritten by → Fragment Cal IsCondition (port, by) (condition_text port by) true
condition_shown port by w v = fragment_then Cal IsPort MaybeWith port by (port_text port) (with_text by) true true (with_follows by) (port_shown port w) (with_shown by v)

-- ---- statements

-- how deep blocks are in a statement, at most
abbrev mutual
  pub height : Statement → ℕ
  height (tree.Enable group) = 0
  height (tree.Seq ss) = heights ss + 1
  height (tree.Par ss) = heights ss + 1
  height (tree.If port by s t) = height s + height t + 1
  height (tree.While port by s) = height s + 1
  height (tree.Invoke cell ins outs) = 0

  pub heights : Statements → ℕ
  heights NoStatements = 0
  heights (MoreStatements s ss) = height s + heights ss

abbrev trees_of : Statements → List Statement
trees_of NoStatements = []
trees_of (MoreStatements s ss) = s ∷ trees_of ss

statements_from-trees_of : (ss : Statements) → statements_from (trees_of ss) ≡ ss
statements_from-trees_of NoStatements = refl
statements_from-trees_of (MoreStatements s ss) = ap (MoreStatements s) (statements_from-trees_of ss)

abbrev pub At : ℕ → Langs Statement
At n names = StatementTo names n

abbrev ManyAt : ℕ → Langs (List Statement)
ManyAt n names = Many (StatementTo names n)

abbrev BlockAt : ℕ → Langs (List Statement)
BlockAt n names = BlockOf (StatementTo names n)

abbrev BranchAt : ℕ → Langs Statement
BranchAt n names = BranchOf (StatementTo names n)

-- what may stand behind attributes
abbrev PlainAt : ℕ → Langs Statement
PlainAt m names =
    Either (IsEnable names)
    (Either (Mapped seq_from (After Seq (BlockAt m names)))
    (Either (Mapped par_from (After Par (BlockAt m names)))
    (Either (IfOf names (StatementTo names m))
    (Either (WhileOf names (StatementTo names m))
    (IsInvoke names)))))

plain_shown : (m : ℕ) (s : Statement) (text : Text) → Fragment Cal (PlainAt m) s text false → Fragment Cal (At (suc m)) s text false
plain_shown m s text x = respelled (λ names. Past AreAttributes (PlainAt m names)) (At (suc m)) s s text false (λ names ts rest s. s) (without_attributes (PlainAt m) s text false x)

enable_shown : (margin : Text) → list_all is_blank margin ≡ true → (m : ℕ) (group : Text) → StatementIsWritten (tree.Enable group) → Fragment Cal (At (suc m)) (tree.Enable group) (statement_text margin (tree.Enable group)) false
enable_shown margin blank m group w =
    let closed = closed_semicolon AnyWord group group (fragment_name Cal group w) in
    line_shown (At (suc m)) (tree.Enable group) (group ++ codes ";") margin blank (plain_shown m (tree.Enable group) (group ++ codes ";")
    (respelled (λ names. Closed (AnyWord names) Semicolon) (PlainAt m) group (tree.Enable group) (group ++ codes ";") false (λ names ts rest s. inl (group, s, refl)) closed))

invoke_line_shown : (margin : Text) → list_all is_blank margin ≡ true → (m : ℕ) (cell : Text) (ins : List InBinding) (outs : List OutBinding) → StatementIsWritten (tree.Invoke cell ins outs)
    → Fragment Cal (At (suc m)) (tree.Invoke cell ins outs) (statement_text margin (tree.Invoke cell ins outs)) false
invoke_line_shown margin blank m cell ins outs w =
    let s : Statement = tree.Invoke cell ins outs in
    line_shown (At (suc m)) s (invoke_text cell ins outs) margin blank (plain_shown m s (invoke_text cell ins outs)
    (respelled IsInvoke (PlainAt m) s s (invoke_text cell ins outs) false (λ names ts rest x. inr (inr (inr (inr (inr x))))) (invoke_shown cell ins outs w)))

-- a block behind what it is
abbrev braces_text : Text → Text → Text
braces_text margin inner = codes " {\n" ++ (inner ++ (margin ++ codes "}"))

seq_shown : (margin : Text) → list_all is_blank margin ≡ true → (m : ℕ) (ss : Statements) → Fragment Cal (ManyAt m) (trees_of ss) (statements_text (deeper margin) ss) false
    → Fragment Cal (At (suc m)) (tree.Seq ss) (statement_text margin (tree.Seq ss)) false
seq_shown margin blank m ss x =
    let inner : Text = statements_text (deeper margin) ss in
    let word = fragment_after Cal [] kinds.Name (codes "seq") [] Seq (BlockAt m) (trees_of ss) (braces_text margin inner) false refl refl refl (λ after. name_stands Cal 115 (codes "eq") (braces_text margin inner ++ after) (refl, refl) refl) (braced (ManyAt m) (trees_of ss) inner margin blank x) in
    let is : tree.Seq ss ≡ seq_from (trees_of ss) = ap tree.Seq (sym (statements_from-trees_of ss)) in
    block_shown (At (suc m)) (tree.Seq ss) margin (codes "seq") inner blank (plain_shown m (tree.Seq ss) (codes "seq" ++ braces_text margin inner)
    (respelled (λ names. After Seq (BlockAt m names)) (PlainAt m) (trees_of ss) (tree.Seq ss) (codes "seq" ++ braces_text margin inner) false (λ names ts rest s. inr (inl (trees_of ss, s, is))) word))

par_shown : (margin : Text) → list_all is_blank margin ≡ true → (m : ℕ) (ss : Statements) → Fragment Cal (ManyAt m) (trees_of ss) (statements_text (deeper margin) ss) false
    → Fragment Cal (At (suc m)) (tree.Par ss) (statement_text margin (tree.Par ss)) false
par_shown margin blank m ss x =
    let inner : Text = statements_text (deeper margin) ss in
    let word = fragment_after Cal [] kinds.Name (codes "par") [] Par (BlockAt m) (trees_of ss) (braces_text margin inner) false refl refl refl (λ after. name_stands Cal 112 (codes "ar") (braces_text margin inner ++ after) (refl, refl) refl) (braced (ManyAt m) (trees_of ss) inner margin blank x) in
    let is : tree.Par ss ≡ par_from (trees_of ss) = ap tree.Par (sym (statements_from-trees_of ss)) in
    block_shown (At (suc m)) (tree.Par ss) margin (codes "par") inner blank (plain_shown m (tree.Par ss) (codes "par" ++ braces_text margin inner)
    (respelled (λ names. After Par (BlockAt m names)) (PlainAt m) (trees_of ss) (tree.Par ss) (codes "par" ++ braces_text margin inner) false (λ names ts rest s. inr (inr (inl (trees_of ss, s, is)))) word))

-- the text in a block of an `if` or a `while`
abbrev branch_text : Text → Statement → Text
branch_text margin s = cond (is_empty_seq s) [] (statement_text (deeper margin) s)

empty_seq : (s : Statement) → is_empty_seq s ≡ true → s ≡ tree.Seq NoStatements
empty_seq (tree.Seq NoStatements) e = refl
empty_seq (tree.Seq (MoreStatements s ss)) e = absurd cc
empty_seq (tree.Enable group) e = absurd cc
empty_seq (tree.Par ss) e = absurd cc
empty_seq (tree.If port by s t) e = absurd cc
empty_seq (tree.While port by s) e = absurd cc
empty_seq (tree.Invoke cell ins outs) e = absurd cc

abbrev branch_list : Statement → List Statement
branch_list s = cond (is_empty_seq s) [] (s ∷ [])

branch_back : (s : Statement) → s ≡ branch_from (branch_list s)
branch_back s = by_test (λ v. s ≡ branch_from (cond v [] (s ∷ []))) (is_empty_seq s) (λ e. empty_seq s e) (λ _. refl)

module _ (margin : Text) (blank : list_all is_blank margin ≡ true) (m : ℕ) (s : Statement) (shown : Fragment Cal (At m) s (statement_text (deeper margin) s) false) where
  inner_shown : Fragment Cal (ManyAt m) (branch_list s) (branch_text margin s) false
  inner_shown =
      by_test (λ v. Fragment Cal (ManyAt m) (cond v [] (s ∷ [])) (cond v [] (statement_text (deeper margin) s)) false) (is_empty_seq s)
      (λ _. record { items = []; bytes = λ after. refl; stand = λ after f. tt; spelled = λ names ts rest x. x })
      (λ _. respelled (At m) (ManyAt m) s (s ∷ []) (statement_text (deeper margin) s) false (λ names ts rest x. (rest, x, refl)) shown)

  branch_shown : Fragment Cal (BranchAt m) s (braces_text margin (branch_text margin s)) false
  branch_shown =
      respelled (BlockAt m) (BranchAt m) (branch_list s) s (braces_text margin (branch_text margin s)) false (λ names ts rest x. (branch_list s, x, branch_back s))
      (braced (ManyAt m) (branch_list s) (branch_text margin s) margin blank inner_shown)

  abbrev ElseAt : Langs Statement
  ElseAt names = MaybeElse (StatementTo names m)

  abbrev else_braces : Text
  else_braces = codes " else" ++ braces_text margin (statement_text (deeper margin) s)

  else_shown : Fragment Cal ElseAt s (cond (is_empty_seq s) [] else_braces) false
  else_shown =
      by_test (λ v. is_empty_seq s ≡ v → Fragment Cal ElseAt s (cond v [] else_braces) false) (is_empty_seq s)
      (λ _ e. record { items = []; bytes = λ after. refl; stand = λ after f. tt; spelled = λ names ts rest x. inr (empty_seq s e, x) })
      (λ _ e.
      let text : Text = braces_text margin (statement_text (deeper margin) s) in
      let block = retext Cal (BranchAt m) s (braces_text margin (branch_text margin s)) text false (ap (λ (v : Bool). braces_text margin (cond v [] (statement_text (deeper margin) s))) e) branch_shown in
      respelled (λ names. After Else (BranchAt m names)) ElseAt s s else_braces false (λ names ts rest x. inl x)
      (fragment_after Cal (32 ∷ []) kinds.Name (codes "else") [] Else (BranchAt m) s text false refl refl refl (λ after. name_stands Cal 101 (codes "lse") (text ++ after) (refl, refl) refl) block))
      refl

if_parts : (v : Bool) (margin port by first second : Text)
    → line_text margin (codes "if " ++ ((port ++ by) ++ (braces_text margin first ++ cond v [] (codes " else" ++ braces_text margin second))))
    ≡ line_text margin (codes "if " ++ port ++ by ++ codes " {") ++ first ++ cond v [] (line_text margin (codes "} else {") ++ second) ++ line_text margin (codes "}")
if_parts true margin port by first second = simp (append_assoc, append-nil)
if_parts false margin port by first second = simp append_assoc

if_shown : (margin : Text) → list_all is_blank margin ≡ true → (m : ℕ) (port : PortName) (by : Option Text) (s t : Statement) → PortIsWritten port → NameIsWritten by
    → Fragment Cal (At m) s (statement_text (deeper margin) s) false → Fragment Cal (At m) t (statement_text (deeper margin) t) false → Fragment Cal (At (suc m)) (tree.If port by s t) (statement_text margin (tree.If port by s t)) false
if_shown margin blank m port by s t w v x y =
    let whole : Statement = tree.If port by s t in
    let Blocks : Langs (Statement × Statement) = λ names. Then (BranchAt m names) (MaybeElse (StatementTo names m)) in
    let Parts : Langs ((PortName × Option Text) × (Statement × Statement)) = λ names. Then (IsCondition names) (Blocks names) in
    let first : Text = braces_text margin (branch_text margin s) in
    let second : Text = cond (is_empty_seq t) [] (codes " else" ++ braces_text margin (statement_text (deeper margin) t)) in
    let blocks = fragment_then Cal (BranchAt m) (λ names. MaybeElse (StatementTo names m)) s t first second false false (λ after f. tt) (branch_shown margin blank m s x) (else_shown margin blank m t y) in
    let parts = fragment_then Cal IsCondition Blocks (port, by) (s, t) (condition_text port by) (first ++ second) true false (λ after f. refl) (condition_shown port by w v) blocks in
    let text : Text = condition_text port by ++ (first ++ second) in
    let word = fragment_after Cal [] kinds.Name (codes "if") (32 ∷ []) If Parts ((port, by), (s, t)) text false refl refl refl (λ after. name_stands Cal 105 (codes "f") (32 ∷ (text ++ after)) (refl, refl) refl) parts in
    retext Cal (At (suc m)) whole (line_text margin (codes "if " ++ text)) (statement_text margin whole) false
    (if_parts (is_empty_seq t) margin (port_text port) (with_text by) (branch_text margin s) (statement_text (deeper margin) t))
    (line_shown (At (suc m)) whole (codes "if " ++ text) margin blank (plain_shown m whole (codes "if " ++ text)
    (respelled (λ names. After If (Parts names)) (PlainAt m) ((port, by), (s, t)) whole (codes "if " ++ text) false (λ names ts rest z. inr (inr (inr (inl (((port, by), (s, t)), z, refl))))) word)))

while_parts : (port by braces : Text) → codes "while " ++ ((port ++ by) ++ braces) ≡ (codes "while " ++ port ++ by) ++ braces
while_parts port by braces = simp append_assoc

while_shown : (margin : Text) → list_all is_blank margin ≡ true → (m : ℕ) (port : PortName) (by : Option Text) (s : Statement) → PortIsWritten port → NameIsWritten by
    → Fragment Cal (At m) s (statement_text (deeper margin) s) false → Fragment Cal (At (suc m)) (tree.While port by s) (statement_text margin (tree.While port by s)) false
while_shown margin blank m port by s w v x =
    let whole : Statement = tree.While port by s in
    let Parts : Langs ((PortName × Option Text) × Statement) = λ names. Then (IsCondition names) (BranchAt m names) in
    let braces : Text = braces_text margin (branch_text margin s) in
    let head : Text = codes "while " ++ port_text port ++ with_text by in
    let text : Text = condition_text port by ++ braces in
    let parts = fragment_then Cal IsCondition (BranchAt m) (port, by) s (condition_text port by) braces true false (λ after f. refl) (condition_shown port by w v) (branch_shown margin blank m s x) in
    let word = fragment_after Cal [] kinds.Name (codes "while") (32 ∷ []) While Parts ((port, by), s) text false refl refl refl (λ after. name_stands Cal 119 (codes "hile") (32 ∷ (text ++ after)) (refl, refl) refl) parts in
    block_shown (At (suc m)) whole margin head (branch_text margin s) blank (plain_shown m whole (head ++ braces)
    (retext Cal (PlainAt m) whole (codes "while " ++ text) (head ++ braces) false (while_parts (port_text port) (with_text by) braces)
    (respelled (λ names. After While (Parts names)) (PlainAt m) ((port, by), s) whole (codes "while " ++ text) false (λ names ts rest z. inr (inr (inr (inr (inl (((port, by), s), z, refl)))))) word)))

mutual
  statement_shown : (s : Statement) → StatementIsWritten s → (margin : Text) → list_all is_blank margin ≡ true → (n : ℕ) → height s < n → Fragment Cal (At n) s (statement_text margin s) false
  statement_shown (tree.Enable group) w margin blank = by_suc (λ n. Fragment Cal (At n) (tree.Enable group) (statement_text margin (tree.Enable group)) false) 0 (λ m le. enable_shown margin blank m group w)
  statement_shown (tree.Seq ss) w margin blank =
      by_suc (λ n. Fragment Cal (At n) (tree.Seq ss) (statement_text margin (tree.Seq ss)) false) (heights ss + 1) (λ m le.
      seq_shown margin blank m ss (statements_shown ss w (deeper margin) (deeper_blank margin blank) m (omega arith)))
  statement_shown (tree.Par ss) w margin blank =
      by_suc (λ n. Fragment Cal (At n) (tree.Par ss) (statement_text margin (tree.Par ss)) false) (heights ss + 1) (λ m le.
      par_shown margin blank m ss (statements_shown ss w (deeper margin) (deeper_blank margin blank) m (omega arith)))
  statement_shown (tree.If port by s t) w margin blank =
      by_suc (λ n. Fragment Cal (At n) (tree.If port by s t) (statement_text margin (tree.If port by s t)) false) (height s + height t + 1) (λ m le.
      if_shown margin blank m port by s t w.0 w.1.0 (statement_shown s w.1.1.0 (deeper margin) (deeper_blank margin blank) m (omega arith)) (statement_shown t w.1.1.1 (deeper margin) (deeper_blank margin blank) m (omega arith)))
  statement_shown (tree.While port by s) w margin blank =
      by_suc (λ n. Fragment Cal (At n) (tree.While port by s) (statement_text margin (tree.While port by s)) false) (height s + 1) (λ m le.
      while_shown margin blank m port by s w.0 w.1.0 (statement_shown s w.1.1 (deeper margin) (deeper_blank margin blank) m (omega arith)))
  statement_shown (tree.Invoke cell ins outs) w margin blank =
      by_suc (λ n. Fragment Cal (At n) (tree.Invoke cell ins outs) (statement_text margin (tree.Invoke cell ins outs)) false) 0 (λ m le. invoke_line_shown margin blank m cell ins outs w)

  statements_shown : (ss : Statements) → StatementsAreWritten ss → (margin : Text) → list_all is_blank margin ≡ true → (n : ℕ) → heights ss < n → Fragment Cal (ManyAt n) (trees_of ss) (statements_text margin ss) false
  statements_shown NoStatements w margin blank n lt = record { items = []; bytes = λ after. refl; stand = λ after f. tt; spelled = λ names ts rest x. x }
  statements_shown (MoreStatements s ss) w margin blank n lt =
      respelled (λ names. Then (StatementTo names n) (ManyAt n names)) (ManyAt n) (s, trees_of ss) (s ∷ trees_of ss) (statements_text margin (MoreStatements s ss)) false (λ names ts rest x. x)
      (fragment_then Cal (At n) (ManyAt n) s (trees_of ss) (statement_text margin s) (statements_text margin ss) false false (λ after f. tt) (statement_shown s w.0 margin blank n (omega arith)) (statements_shown ss w.1 margin blank n (omega arith)))

-- ---- the control section

abbrev AnyStatements : Langs (List Statement)
AnyStatements names = Many (IsStatement names)

section_with : (c : ControlSection) (ss : List Statement) (inner : Text) → c ≡ control_from ss → Fragment Cal AnyStatements ss inner false → Fragment Cal MaybeControl c (block_text (codes "  ") (codes "control") inner) false
section_with c ss inner is x =
    respelled (λ names. After sorts.Control (BlockOf (IsStatement names))) MaybeControl ss c (block_text (codes "  ") (codes "control") inner) false (λ names ts rest s. inl (ss, s, is))
    (section_shown AnyStatements ss inner 99 (codes "ontrol") sorts.Control (λ text. name_stands Cal 99 (codes "ontrol") (32 ∷ text) (refl, refl) refl) refl (codes "  ") refl x)

pub control_shown : (c : ControlSection) → ControlIsWritten c → Fragment Cal MaybeControl c (control_text c) false
control_shown tree.Absent w = record { items = []; bytes = λ after. refl; stand = λ after f. tt; spelled = λ names ts rest s. inr (refl, s) }
control_shown tree.Empty w = section_with tree.Empty [] [] refl (record { items = []; bytes = λ after. refl; stand = λ after f. tt; spelled = λ names ts rest s. s })
control_shown (tree.Body s) w =
    let n : ℕ = height s + 1 in
    let text : Text = statement_text (codes "    ") s in
    section_with (tree.Body s) (s ∷ []) text refl
    (respelled (At n) AnyStatements s (s ∷ []) text false (λ names ts rest x. (rest, (n, x), refl)) (statement_shown s w (codes "    ") refl n (omega arith)))
