-- The canonical text of a design that can be written spells the design.
use Rattle.std.proofs.Common.{◌≡◌, ◌≢◌, ℕ, Bool, true, false, cond, List, [], ◌∷◌, ◌++◌, map, codes, decimal, Option, Some, None, refl, sym, ap, ◌∙◌, append_assoc}
use Rattle.std.specs.Prelude.{flat_map, ◌==◌}
use Rattle.std.specs.List.{list_all, AllByRecursion}
use Rattle.std.proofs.lemmas.Bool.{eqb-true}
use Rattle.std.proofs.lemmas.List.{append-nil}
use Rattle.hw_names.specs.Name.{Text}
use Rattle.hw_lex.specs.declared.token.Dialect.TheVariants.{Fil}
use Rattle.hw_lex.specs.declared.token.Kind.TheVariants as kinds
use Rattle.hw_lex.specs.Byte.{is_blank, is_single_mark, is_double_mark}
use Rattle.hw_lex.proofs.Fronts.{by_test}
use Rattle.hw_lex.proofs.Words.{name_stands, single_stands, double_stands}
use Rattle.hw_grammar.specs.declared.sort.Sort.{Sort}
use Rattle.hw_grammar.specs.declared.sort.Sort.TheVariants.{Comp, New, Interface, At, LeftBracket, RightBracket, LeftParen, RightParen, LeftAngle, RightAngle, LeftBrace, RightBrace, Comma, Colon, ColonEquals, Semicolon, Equals, Plus, Dot, Arrow}
use Rattle.hw_grammar.specs.declared.terminal.Terminal.{Terminal}
use Rattle.hw_grammar.specs.Grammar.{Lang, Empty, Mapped, AnyWord, AnyNumber, AnyLiteral, Then, Either, Optional, After, Closed, Between, Many, Separated, Listed}
use Rattle.hw_grammar.specs.Terminals.{sort_of}
use Rattle.hw_grammar.specs.Words.{IsWritten}
use Rattle.hw_grammar.proofs.Fragments.{Fragment, Follows, is_loose, fragment_spells, retext, loosened, fragment_empty, fragment_mapped, fragment_left, fragment_right, fragment_then, fragment_blank, fragment_ended, fragment_after, fragment_closed, fragment_many, fragment_separated, fragment_listed, fragment_none, mark_stands, follows_byte}
use Rattle.hw_grammar.proofs.Decimals.{fragment_name, fragment_number, fragment_literal}
use Rattle.fil_ast.specs.Tree.{TimeAt, Event, DataPort, ValueTree, InputValue, OutputValue, Giving, Statement, Call, Both, Connect, Component, Design}
use Rattle.fil_ast.specs.Tree as tree
use Rattle.fil_parse.specs.Grammar.{time_from, output_from, literal_from, giving_from, new_from, call_from, connect_from, port_from, interface_from, Input, InterfacePort, DataInput, interfaces_of, data_of, event_from, component_from, design_from, IsTime, IsValue, IsCall, AreParameters, IsStatement, IsPlacedPort, IsPort, IsNamedInterface, IsInput, IsEvent, AreEvents, AreInputs, AreOutputs, IsBody, IsComponent, AreImports, IsFile}
use Rattle.fil_parse.specs.Layout.{joined, time_text, value_text, call_text, params_text, statement_text, line_text, event_text, interface_text, port_text, input_text, inputs_of, component_text, fil_text}
use Rattle.fil_parse.specs.Spelling.{SpellsDesign}
use Rattle.fil_parse.specs.Written.{IsFilName, TimeIsWritten, EventIsWritten, InterfaceIsWritten, PortIsWritten, ValueIsWritten, GivingIsWritten, StatementIsWritten, ComponentIsWritten, DesignIsWritten}

-- ---- marks

module _ {A : Type 0} (L : List Text → List Terminal → A → List Terminal → Type 0) (a : A) (text : List ℕ) where
  after_mark : (mark : ℕ) (behind : List ℕ) (sort : Sort) (loose : Bool) → is_single_mark Fil mark ≡ true → ((next : ℕ) → is_double_mark Fil mark next ≡ false) → list_all is_blank behind ≡ true → sort_of Fil kinds.Mark (mark ∷ []) ≡ sort → Fragment Fil L a text loose
      → Fragment Fil (λ names. After sort (L names)) a (mark ∷ (behind ++ text)) loose
  after_mark mark behind sort loose single alone blank is x = fragment_after Fil [] kinds.Mark (mark ∷ []) behind sort L a text loose refl blank is (λ after. mark_stands Fil mark single alone (behind ++ (text ++ after))) x

  closed_mark : (mark : ℕ) (behind : List ℕ) (sort : Sort) (loose : Bool) → is_single_mark Fil mark ≡ true → ((next : ℕ) → is_double_mark Fil mark next ≡ false) → is_loose Fil mark ≡ false → list_all is_blank behind ≡ true → sort_of Fil kinds.Mark (mark ∷ []) ≡ sort → Fragment Fil L a text loose
      → Fragment Fil (λ names. Closed (L names) sort) a (text ++ (mark ∷ behind)) false
  closed_mark mark behind sort loose single alone tight blank is x =
      fragment_closed Fil [] kinds.Mark (mark ∷ []) behind sort L a text loose refl blank is (λ after. mark_stands Fil mark single alone (behind ++ after)) (λ after. follows_byte Fil loose mark (behind ++ after) tight) x

  -- `: ` behind it
  closed_colon : Fragment Fil L a text true → Fragment Fil (λ names. Closed (L names) Colon) a (text ++ (58 ∷ 32 ∷ [])) false
  closed_colon x = fragment_closed Fil [] kinds.Mark (58 ∷ []) (32 ∷ []) Colon L a text true refl refl refl (λ after. single_stands Fil 58 (32 ∷ after) refl refl) (λ after. refl) x

  -- ` := ` before it
  after_defines : (loose : Bool) → Fragment Fil L a text loose → Fragment Fil (λ names. After ColonEquals (L names)) a (32 ∷ 58 ∷ 61 ∷ 32 ∷ text) loose
  after_defines loose x = fragment_after Fil (32 ∷ []) kinds.Mark (58 ∷ 61 ∷ []) (32 ∷ []) ColonEquals L a text loose refl refl refl (λ after. double_stands Fil 58 61 (32 ∷ (text ++ after)) refl) x

  angled : (loose : Bool) → Fragment Fil L a text loose → Fragment Fil (λ names. Between LeftAngle (L names) RightAngle) a (60 ∷ (text ++ (62 ∷ []))) false
  angled loose x = fragment_after Fil [] kinds.Mark (60 ∷ []) [] LeftAngle (λ names. Closed (L names) RightAngle) a (text ++ (62 ∷ [])) false refl refl refl (λ after. mark_stands Fil 60 refl (λ next. refl) ((text ++ (62 ∷ [])) ++ after)) (closed_mark 62 [] RightAngle loose refl (λ next. refl) refl refl refl x)

  parenthesized : (loose : Bool) → Fragment Fil L a text loose → Fragment Fil (λ names. Between LeftParen (L names) RightParen) a (40 ∷ (text ++ (41 ∷ []))) false
  parenthesized loose x = fragment_after Fil [] kinds.Mark (40 ∷ []) [] LeftParen (λ names. Closed (L names) RightParen) a (text ++ (41 ∷ [])) false refl refl refl (λ after. mark_stands Fil 40 refl (λ next. refl) ((text ++ (41 ∷ [])) ++ after)) (closed_mark 41 [] RightParen loose refl (λ next. refl) refl refl refl x)

  bracketed : (behind : List ℕ) (loose : Bool) → list_all is_blank behind ≡ true → Fragment Fil L a text loose → Fragment Fil (λ names. Between LeftBracket (L names) RightBracket) a (91 ∷ (text ++ (93 ∷ behind))) false
  bracketed behind loose blank x =
      fragment_after Fil [] kinds.Mark (91 ∷ []) [] LeftBracket (λ names. Closed (L names) RightBracket) a (text ++ (93 ∷ behind)) false refl refl refl (λ after. mark_stands Fil 91 refl (λ next. refl) ((text ++ (93 ∷ behind)) ++ after)) (closed_mark 93 behind RightBracket loose refl (λ next. refl) refl blank refl x)

-- items joined
module _ {A : Type 0} (L : List Text → List Terminal → A → List Terminal → Type 0) (Good : A → Type 0) (text : A → List ℕ) (loose : Bool) (each : (a : A) → Good a → Fragment Fil L a (text a) loose) where
  separated : (xs : List A) → xs ≢ [] → AllByRecursion Good xs → Fragment Fil (λ names. Separated Comma (L names)) xs (joined text xs) loose
  separated [] some h = absurd (some refl)
  separated (x ∷ xs) some h = fragment_separated Fil refl refl (λ next. refl) refl L Good text loose each x xs h

  listed : (xs : List A) → AllByRecursion Good xs → Fragment Fil (λ names. Listed Comma (L names)) xs (joined text xs) loose
  listed [] h = fragment_none Fil refl refl (λ next. refl) refl L Good text loose each loose
  listed (x ∷ xs) h = fragment_listed Fil refl refl (λ next. refl) refl L Good text loose each x xs h

-- ---- times, values and invocations

abbrev plus_text : ℕ → Text
plus_text n = cond (n == 0) [] (codes "+" ++ decimal n)

abbrev IsPlus : List Text → Lang ℕ
IsPlus names = Either (After Plus AnyNumber) (Empty 0)

plus_shown : (n : ℕ) → IsWritten n → Fragment Fil IsPlus n (plus_text n) true
plus_shown n w =
    by_test (λ v. Fragment Fil IsPlus n (cond v [] (codes "+" ++ decimal n)) true) (n == 0)
    (λ e. fragment_right Fil (λ names. After Plus AnyNumber) (λ names. Empty 0) n [] true (fragment_empty Fil 0 n true (eqb-true n 0 e)))
    (λ _. fragment_left Fil (λ names. After Plus AnyNumber) (λ names. Empty 0) n (43 ∷ decimal n) true (after_mark (λ names. AnyNumber) n (decimal n) 43 [] Plus true refl (λ next. refl) refl refl (fragment_number Fil n w)))

plus_follows : (n : ℕ) (after : List ℕ) → Follows Fil true after → Follows Fil true (plus_text n ++ after)
plus_follows n after f = by_test (λ v. Follows Fil true (cond v [] (codes "+" ++ decimal n) ++ after)) (n == 0) (λ _. f) (λ _. refl)

time_shown : (t : TimeAt) → TimeIsWritten t → Fragment Fil IsTime t (time_text t) true
time_shown t w =
    fragment_mapped Fil time_from (λ names. Then (AnyWord names) (IsPlus names)) (t.event, t.plus) t (time_text t) true refl
    (fragment_then Fil AnyWord IsPlus t.event t.plus t.event (plus_text t.plus) true true (plus_follows t.plus) (fragment_name Fil t.event w.0) (plus_shown t.plus w.1))

abbrev IsOutput : List Text → Lang ValueTree
IsOutput names = Mapped output_from (Then (AnyWord names) (After Dot (AnyWord names)))

value_shown : (v : ValueTree) → ValueIsWritten v → Fragment Fil IsValue v (value_text v) true
value_shown (InputValue name) w =
    fragment_left Fil (λ names. Mapped InputValue (AnyWord names)) (λ names. Either (IsOutput names) (Mapped literal_from AnyLiteral)) (InputValue name) name true
    (fragment_mapped Fil InputValue AnyWord name (InputValue name) name true refl (fragment_name Fil name w))
value_shown (OutputValue v p) w =
    fragment_right Fil (λ names. Mapped InputValue (AnyWord names)) (λ names. Either (IsOutput names) (Mapped literal_from AnyLiteral)) (OutputValue v p) (value_text (OutputValue v p)) true
    (fragment_left Fil IsOutput (λ names. Mapped literal_from AnyLiteral) (OutputValue v p) (value_text (OutputValue v p)) true
    (fragment_mapped Fil output_from (λ names. Then (AnyWord names) (After Dot (AnyWord names))) (v, p) (OutputValue v p) (value_text (OutputValue v p)) true refl
    (retext Fil (λ names. Then (AnyWord names) (After Dot (AnyWord names))) (v, p) (v ++ (46 ∷ p)) (value_text (OutputValue v p)) true (sym (append_assoc v (codes ".") p))
    (fragment_then Fil AnyWord (λ names. After Dot (AnyWord names)) v p v (46 ∷ p) true true (λ after f. refl) (fragment_name Fil v w.0) (after_mark AnyWord p p 46 [] Dot true refl (λ next. refl) refl refl (fragment_name Fil p w.1))))))
value_shown (tree.Literal width n) w =
    fragment_right Fil (λ names. Mapped InputValue (AnyWord names)) (λ names. Either (IsOutput names) (Mapped literal_from AnyLiteral)) (tree.Literal width n) (value_text (tree.Literal width n)) true
    (fragment_right Fil IsOutput (λ names. Mapped literal_from AnyLiteral) (tree.Literal width n) (value_text (tree.Literal width n)) true
    (fragment_mapped Fil literal_from (λ names. AnyLiteral) (width, n) (tree.Literal width n) (value_text (tree.Literal width n)) true refl
    (retext Fil (λ names. AnyLiteral) (width, n) (decimal width ++ (39 ∷ 100 ∷ decimal n)) (value_text (tree.Literal width n)) true (sym (append_assoc (decimal width) (codes "'d") (decimal n))) (fragment_literal Fil width n w.0 w.1))))

abbrev AreTimes : List Text → Lang (List TimeAt)
AreTimes names = Between LeftAngle (Separated Comma (IsTime names)) RightAngle

abbrev AreValues : List Text → Lang (List ValueTree)
AreValues names = Between LeftParen (Listed Comma (IsValue names)) RightParen

call_parts : (j v : Text) → (60 ∷ (j ++ (62 ∷ []))) ++ (40 ∷ (v ++ (41 ∷ []))) ≡ codes "<" ++ j ++ codes ">(" ++ v ++ codes ")"
call_parts j v =
    ap (λ (t : Text). 60 ∷ t) (append_assoc j (62 ∷ []) (40 ∷ (v ++ (41 ∷ []))) ∙ sym (append_assoc (j ++ codes ">(") v (codes ")") ∙ append_assoc j (codes ">(") (v ++ codes ")")))

call_shown : (g : Giving) → GivingIsWritten g → Fragment Fil IsCall g (call_text g) false
call_shown g w =
    let times = angled (λ names. Separated Comma (IsTime names)) g.times (joined time_text g.times) true (separated IsTime TimeIsWritten time_text true time_shown g.times w.0.0 w.0.1) in
    let values = parenthesized (λ names. Listed Comma (IsValue names)) g.args (joined value_text g.args) true (listed IsValue ValueIsWritten value_text true value_shown g.args w.1) in
    fragment_mapped Fil giving_from (λ names. Then (AreTimes names) (AreValues names)) (g.times, g.args) g (call_text g) false refl
    (retext Fil (λ names. Then (AreTimes names) (AreValues names)) (g.times, g.args) ((60 ∷ (joined time_text g.times ++ (62 ∷ []))) ++ (40 ∷ (joined value_text g.args ++ (41 ∷ [])))) (call_text g) false (call_parts (joined time_text g.times) (joined value_text g.args))
    (fragment_then Fil AreTimes AreValues g.times g.args (60 ∷ (joined time_text g.times ++ (62 ∷ []))) (40 ∷ (joined value_text g.args ++ (41 ∷ []))) false false (λ after f. tt) times values))

abbrev Params : List Text → Lang (List ℕ)
Params names = Either AreParameters (Empty [])

params_shown : (ps : List ℕ) → AllByRecursion IsWritten ps → Fragment Fil Params ps (params_text ps) true
params_shown [] h = fragment_right Fil (λ names. AreParameters) (λ names. Empty []) [] [] true (fragment_empty Fil [] [] true refl)
params_shown (p ∷ ps) h =
    let numbers = separated (λ names. AnyNumber) IsWritten decimal true (fragment_number Fil) (p ∷ ps) (λ e. absurd cc) h in
    fragment_left Fil (λ names. AreParameters) (λ names. Empty []) (p ∷ ps) (params_text (p ∷ ps)) true
    (loosened Fil (λ names. AreParameters) (p ∷ ps) (params_text (p ∷ ps)) (bracketed (λ names. Separated Comma AnyNumber) (p ∷ ps) (joined decimal (p ∷ ps)) [] true refl numbers))

-- ---- statements

params_end : (ps : List ℕ) (after : List ℕ) → Follows Fil true (((params_text ps ++ []) ++ (59 ∷ [])) ++ after)
params_end [] after = refl
params_end (p ∷ ps) after = refl

params_called : (ps : List ℕ) (g : Giving) (after : List ℕ) → Follows Fil true (((params_text ps ++ call_text g) ++ (59 ∷ [])) ++ after)
params_called [] g after = refl
params_called (p ∷ ps) g after = refl

params_before : (ps : List ℕ) (g : Giving) (after : List ℕ) → Follows Fil false after → Follows Fil true (call_text g ++ after)
params_before ps g after f = refl

parts4 : (n d c p q e : Text) → n ++ (d ++ (c ++ ((p ++ q) ++ e))) ≡ n ++ d ++ c ++ p ++ q ++ e
parts4 n d c p q e = simp append_assoc

parts3 : (n d c q e : Text) → n ++ (d ++ (c ++ (q ++ e))) ≡ n ++ d ++ c ++ q ++ e
parts3 n d c q e = simp append_assoc

parts2 : (n d c e : Text) → n ++ (d ++ (c ++ e)) ≡ n ++ d ++ c ++ e
parts2 n d c e = simp append_assoc

abbrev Tail : List Text → Lang (List ℕ × Option Giving)
Tail names = Then (Params names) (Optional (IsCall names))

abbrev IsNew : List Text → Lang (Text × (Text × (List ℕ × Option Giving)))
IsNew names = Then (AnyWord names) (After ColonEquals (After New (Then (AnyWord names) (Closed (Tail names) Semicolon))))

abbrev IsCalled : List Text → Lang (Text × (Text × Giving))
IsCalled names = Then (AnyWord names) (After ColonEquals (Then (AnyWord names) (Closed (IsCall names) Semicolon)))

abbrev IsConnected : List Text → Lang (Text × ValueTree)
IsConnected names = Then (AnyWord names) (After Equals (Closed (IsValue names) Semicolon))

abbrev Others : List Text → Lang Statement
Others names = Either (Mapped call_from (IsCalled names)) (Mapped connect_from (IsConnected names))

-- a name, ` := new `, and what follows
new_shown : (name comp : Text) (x : List ℕ × Option Giving) (text : Text) → IsFilName name → IsFilName comp → ((after : List ℕ) → Follows Fil true ((text ++ (59 ∷ [])) ++ after)) → Fragment Fil Tail x text true
    → Fragment Fil IsNew (name, (comp, x)) (name ++ (codes " := new " ++ (comp ++ (text ++ codes ";")))) false
new_shown name comp x text w v next tail =
    let end = closed_mark Tail x text 59 [] Semicolon true refl (λ next. refl) refl refl refl tail in
    let made = fragment_then Fil AnyWord (λ names. Closed (Tail names) Semicolon) comp x comp (text ++ (59 ∷ [])) true false (λ after f. next after) (fragment_name Fil comp v) end in
    let news = fragment_after Fil [] kinds.Name (codes "new") (32 ∷ []) New (λ names. Then (AnyWord names) (Closed (Tail names) Semicolon)) (comp, x) (comp ++ (text ++ (59 ∷ []))) false refl refl refl
    (λ after. name_stands Fil 110 (101 ∷ 119 ∷ []) (32 ∷ ((comp ++ (text ++ (59 ∷ []))) ++ after)) (refl, refl) refl) made in
    let defines = after_defines (λ names. After New (Then (AnyWord names) (Closed (Tail names) Semicolon))) (comp, x) (codes "new " ++ (comp ++ (text ++ (59 ∷ [])))) false news in
    fragment_then Fil AnyWord (λ names. After ColonEquals (After New (Then (AnyWord names) (Closed (Tail names) Semicolon)))) name (comp, x) name (codes " := new " ++ (comp ++ (text ++ (59 ∷ [])))) true false (λ after f. refl) (fragment_name Fil name w) defines

as_new : (s : Statement) (x : Text × (Text × (List ℕ × Option Giving))) (text : Text) → s ≡ new_from x → Fragment Fil IsNew x text false → Fragment Fil IsStatement s text false
as_new s x text e f = fragment_left Fil (λ names. Mapped new_from (IsNew names)) Others s text false (fragment_mapped Fil new_from IsNew x s text false e f)

statement_shown : (s : Statement) → StatementIsWritten s → Fragment Fil IsStatement s (statement_text s ++ codes ";") false
statement_shown (tree.New name comp params) w =
    let none = fragment_right Fil (λ names. Mapped Some (IsCall names)) (λ names. Empty None) None [] true (fragment_empty Fil {A = Option Giving} None None true refl) in
    let tail = fragment_then Fil Params (λ names. Optional (IsCall names)) params None (params_text params) [] true true (λ after f. f) (params_shown params w.1.1) none in
    let text : Text = name ++ codes " := new " ++ comp ++ params_text params in
    as_new (tree.New name comp params) (name, (comp, (params, None))) (text ++ codes ";") refl
    (retext Fil IsNew (name, (comp, (params, None))) (name ++ (codes " := new " ++ (comp ++ ((params_text params ++ []) ++ codes ";")))) (text ++ codes ";") false
    (parts4 name (codes " := new ") comp (params_text params) [] (codes ";") ∙ ap (λ (t : Text). t ++ codes ";") (append-nil text))
    (new_shown name comp (params, None) (params_text params ++ []) w.0 w.1.0 (params_end params) tail))
statement_shown (Both name comp params gives) w =
    let call = fragment_mapped Fil Some IsCall gives (Some gives) (call_text gives) false refl (call_shown gives w.1.1.1) in
    let some = fragment_left Fil (λ names. Mapped Some (IsCall names)) (λ names. Empty None) (Some gives) (call_text gives) false call in
    let tail = fragment_then Fil Params (λ names. Optional (IsCall names)) params (Some gives) (params_text params) (call_text gives) true false (params_before params gives) (params_shown params w.1.1.0) some in
    as_new (Both name comp params gives) (name, (comp, (params, Some gives))) (statement_text (Both name comp params gives) ++ codes ";") refl
    (retext Fil IsNew (name, (comp, (params, Some gives))) (name ++ (codes " := new " ++ (comp ++ ((params_text params ++ call_text gives) ++ codes ";")))) (statement_text (Both name comp params gives) ++ codes ";") false
    (parts4 name (codes " := new ") comp (params_text params) (call_text gives) (codes ";"))
    (new_shown name comp (params, Some gives) (params_text params ++ call_text gives) w.0 w.1.0 (params_called params gives) (loosened Fil Tail (params, Some gives) (params_text params ++ call_text gives) tail)))
statement_shown (Call name inst gives) w =
    let text : Text = call_text gives ++ (59 ∷ []) in
    let end = closed_mark IsCall gives (call_text gives) 59 [] Semicolon false refl (λ next. refl) refl refl refl (call_shown gives w.1.1) in
    let called = fragment_then Fil AnyWord (λ names. Closed (IsCall names) Semicolon) inst gives inst text true false (λ after f. refl) (fragment_name Fil inst w.1.0) end in
    let defines = after_defines (λ names. Then (AnyWord names) (Closed (IsCall names) Semicolon)) (inst, gives) (inst ++ text) false called in
    let all = fragment_then Fil AnyWord (λ names. After ColonEquals (Then (AnyWord names) (Closed (IsCall names) Semicolon))) name (inst, gives) name (codes " := " ++ (inst ++ text)) true false (λ after f. refl) (fragment_name Fil name w.0) defines in
    retext Fil IsStatement (Call name inst gives) (name ++ (codes " := " ++ (inst ++ (call_text gives ++ codes ";")))) (statement_text (Call name inst gives) ++ codes ";") false (parts3 name (codes " := ") inst (call_text gives) (codes ";"))
    (fragment_right Fil (λ names. Mapped new_from (IsNew names)) Others (Call name inst gives) (name ++ (codes " := " ++ (inst ++ text))) false
    (fragment_left Fil (λ names. Mapped call_from (IsCalled names)) (λ names. Mapped connect_from (IsConnected names)) (Call name inst gives) (name ++ (codes " := " ++ (inst ++ text))) false
    (fragment_mapped Fil call_from IsCalled (name, (inst, gives)) (Call name inst gives) (name ++ (codes " := " ++ (inst ++ text))) false refl all)))
statement_shown (Connect output value) w =
    let text : Text = value_text value ++ (59 ∷ []) in
    let end = closed_mark IsValue value (value_text value) 59 [] Semicolon true refl (λ next. refl) refl refl refl (value_shown value w.1) in
    let equals = fragment_after Fil (32 ∷ []) kinds.Mark (61 ∷ []) (32 ∷ []) Equals (λ names. Closed (IsValue names) Semicolon) value text false refl refl refl (λ after. mark_stands Fil 61 refl (λ next. refl) (32 ∷ (text ++ after))) end in
    let all = fragment_then Fil AnyWord (λ names. After Equals (Closed (IsValue names) Semicolon)) output value output (codes " = " ++ text) true false (λ after f. refl) (fragment_name Fil output w.0) equals in
    retext Fil IsStatement (Connect output value) (output ++ (codes " = " ++ (value_text value ++ codes ";"))) (statement_text (Connect output value) ++ codes ";") false (parts2 output (codes " = ") (value_text value) (codes ";"))
    (fragment_right Fil (λ names. Mapped new_from (IsNew names)) Others (Connect output value) (output ++ (codes " = " ++ text)) false
    (fragment_right Fil (λ names. Mapped call_from (IsCalled names)) (λ names. Mapped connect_from (IsConnected names)) (Connect output value) (output ++ (codes " = " ++ text)) false
    (fragment_mapped Fil connect_from IsConnected (output, value) (Connect output value) (output ++ (codes " = " ++ text)) false refl all)))

line_shown : (s : Statement) → StatementIsWritten s → Fragment Fil IsStatement s (line_text s) false
line_shown s w = fragment_blank Fil (10 ∷ 32 ∷ 32 ∷ []) IsStatement s (statement_text s ++ codes ";") false refl (statement_shown s w)

-- ---- ports and events

abbrev Sized : List Text → Lang (Text × ℕ)
Sized names = Then (Closed (AnyWord names) Colon) AnyNumber

sized_shown : (name : Text) (n : ℕ) → IsFilName name → IsWritten n → Fragment Fil Sized (name, n) ((name ++ codes ": ") ++ decimal n) true
sized_shown name n w v = fragment_then Fil (λ names. Closed (AnyWord names) Colon) (λ names. AnyNumber) name n (name ++ (58 ∷ 32 ∷ [])) (decimal n) false true (λ after f. tt) (closed_colon AnyWord name name (fragment_name Fil name w)) (fragment_number Fil n v)

event_shown : (e : Event) → EventIsWritten e → Fragment Fil IsEvent e (event_text e) true
event_shown e w = fragment_mapped Fil event_from Sized (e.name, e.delay) e (event_text e) true refl (sized_shown e.name e.delay w.0 w.1)

abbrev Ending : List Text → Lang (TimeAt × (Text × ℕ))
Ending names = Then (Closed (IsTime names) RightBracket) (Sized names)

abbrev Spanned : List Text → Lang (TimeAt × (TimeAt × (Text × ℕ)))
Spanned names = Then (Closed (IsTime names) Comma) (Ending names)

placed_text : DataPort → Text
placed_text p = (time_text p.from ++ codes ", ") ++ ((time_text p.to ++ codes "] ") ++ ((p.name ++ codes ": ") ++ decimal p.width))

placed_shown : (p : DataPort) → PortIsWritten p → Fragment Fil IsPlacedPort p (91 ∷ placed_text p) true
unfolding placed_text
placed_shown p w =
    let sized = sized_shown p.name p.width w.1.1.0 w.1.1.1 in
    let from = closed_mark IsTime p.from (time_text p.from) 44 (32 ∷ []) Comma true refl (λ next. refl) refl refl refl (time_shown p.from w.0) in
    let to = closed_mark IsTime p.to (time_text p.to) 93 (32 ∷ []) RightBracket true refl (λ next. refl) refl refl refl (time_shown p.to w.1.0) in
    let ending = fragment_then Fil (λ names. Closed (IsTime names) RightBracket) Sized p.to (p.name, p.width) (time_text p.to ++ codes "] ") ((p.name ++ codes ": ") ++ decimal p.width) false true (λ after f. tt) to sized in
    let spanned = fragment_then Fil (λ names. Closed (IsTime names) Comma) Ending p.from (p.to, (p.name, p.width)) (time_text p.from ++ codes ", ") ((time_text p.to ++ codes "] ") ++ ((p.name ++ codes ": ") ++ decimal p.width)) false true (λ after f. tt) from ending in
    fragment_mapped Fil port_from (λ names. After LeftBracket (Spanned names)) (p.from, (p.to, (p.name, p.width))) p (91 ∷ placed_text p) true refl
    (after_mark Spanned (p.from, (p.to, (p.name, p.width))) (placed_text p) 91 [] LeftBracket true refl (λ next. refl) refl refl spanned)

port_parts : (o f c t b n k w : Text) → o ++ ((f ++ c) ++ ((t ++ b) ++ ((n ++ k) ++ w))) ≡ o ++ f ++ c ++ t ++ b ++ n ++ k ++ w
port_parts o f c t b n k w = simp append_assoc

port_shown : (p : DataPort) → PortIsWritten p → Fragment Fil IsPort p (port_text p) true
unfolding placed_text
port_shown p w =
    retext Fil IsPort p (64 ∷ 91 ∷ placed_text p) (port_text p) true (port_parts (codes "@[") (time_text p.from) (codes ", ") (time_text p.to) (codes "] ") p.name (codes ": ") (decimal p.width))
    (after_mark IsPlacedPort p (91 ∷ placed_text p) 64 [] At true refl (λ next. refl) refl refl (placed_shown p w))

abbrev OfEvent : List Text → Lang Text
OfEvent names = Between LeftBracket (AnyWord names) RightBracket

interface_parts : (o e b n k w : Text) → o ++ ((e ++ b) ++ ((n ++ k) ++ w)) ≡ o ++ e ++ b ++ n ++ k ++ w
interface_parts o e b n k w = simp append_assoc

interface_shown : (g : tree.Interface) → InterfaceIsWritten g → Fragment Fil (λ names. After At (After Interface (IsNamedInterface names))) g (interface_text g) true
interface_shown g w =
    let sized = sized_shown g.name g.width w.1.0 w.1.1 in
    let event = bracketed AnyWord g.event g.event (32 ∷ []) true refl (fragment_name Fil g.event w.0) in
    let rest : Text = (g.event ++ codes "] ") ++ ((g.name ++ codes ": ") ++ decimal g.width) in
    let both = fragment_then Fil OfEvent Sized g.event (g.name, g.width) (91 ∷ (g.event ++ codes "] ")) ((g.name ++ codes ": ") ++ decimal g.width) false true (λ after f. tt) event sized in
    let named = fragment_mapped Fil interface_from (λ names. Then (OfEvent names) (Sized names)) (g.event, (g.name, g.width)) g (91 ∷ rest) true refl both in
    let word = fragment_after Fil [] kinds.Name (codes "interface") [] Interface IsNamedInterface g (91 ∷ rest) true refl refl refl
    (λ after. name_stands Fil 105 (codes "nterface") (91 ∷ (rest ++ after)) (refl, refl) refl) named in
    retext Fil (λ names. After At (After Interface (IsNamedInterface names))) g (codes "@interface[" ++ rest) (interface_text g) true (interface_parts (codes "@interface[") g.event (codes "] ") g.name (codes ": ") (decimal g.width))
    (after_mark (λ names. After Interface (IsNamedInterface names)) g (codes "interface[" ++ rest) 64 [] At true refl (λ next. refl) refl refl word)

abbrev InputIsWritten : Input → Type 0
InputIsWritten (InterfacePort port) = InterfaceIsWritten port
InputIsWritten (DataInput port) = PortIsWritten port

abbrev IsInterfacePort : List Text → Lang Input
IsInterfacePort names = Mapped InterfacePort (After At (After Interface (IsNamedInterface names)))

abbrev IsDataInput : List Text → Lang Input
IsDataInput names = Mapped DataInput (IsPort names)

input_shown : (i : Input) → InputIsWritten i → Fragment Fil IsInput i (input_text i) true
input_shown (InterfacePort port) w =
    fragment_left Fil IsInterfacePort IsDataInput (InterfacePort port) (interface_text port) true
    (fragment_mapped Fil InterfacePort (λ names. After At (After Interface (IsNamedInterface names))) port (InterfacePort port) (interface_text port) true refl (interface_shown port w))
input_shown (DataInput port) w =
    fragment_right Fil IsInterfacePort IsDataInput (DataInput port) (port_text port) true (fragment_mapped Fil DataInput IsPort port (DataInput port) (port_text port) true refl (port_shown port w))

-- ---- components

data_written : (ps : List DataPort) → AllByRecursion PortIsWritten ps → AllByRecursion InputIsWritten (map DataInput ps)
data_written [] h = tt
data_written (p ∷ ps) h = (h.0, data_written ps h.1)

inputs_written : (gs : List tree.Interface) (ps : List DataPort) → AllByRecursion InterfaceIsWritten gs → AllByRecursion PortIsWritten ps → AllByRecursion InputIsWritten (map InterfacePort gs ++ map DataInput ps)
inputs_written [] ps h k = data_written ps k
inputs_written (g ∷ gs) ps h k = (h.0, inputs_written gs ps h.1 k)

no_interfaces : (ps : List DataPort) → interfaces_of (map DataInput ps) ≡ []
no_interfaces [] = refl
no_interfaces (p ∷ ps) = no_interfaces ps

all_data : (ps : List DataPort) → data_of (map DataInput ps) ≡ ps
all_data [] = refl
all_data (p ∷ ps) = ap (λ (t : List DataPort). p ∷ t) (all_data ps)

interfaces_back : (gs : List tree.Interface) (ps : List DataPort) → interfaces_of (map InterfacePort gs ++ map DataInput ps) ≡ gs
interfaces_back [] ps = no_interfaces ps
interfaces_back (g ∷ gs) ps = ap (λ (t : List tree.Interface). g ∷ t) (interfaces_back gs ps)

data_back : (gs : List tree.Interface) (ps : List DataPort) → data_of (map InterfacePort gs ++ map DataInput ps) ≡ ps
data_back [] ps = all_data ps
data_back (g ∷ gs) ps = data_back gs ps

abbrev whole_component : Component → List tree.Interface → List DataPort → Component
whole_component c interfaces ins = record { name = c.name; events = c.events; interfaces = interfaces; ins = ins; outs = c.outs; body = c.body }

component_back : (c : Component) → c ≡ component_from (c.name, (c.events, (inputs_of c, (c.outs, c.body))))
component_back c =
    sym (ap (λ (t : List tree.Interface). whole_component c t (data_of (inputs_of c))) (interfaces_back c.interfaces c.ins) ∙ ap (λ (t : List DataPort). whole_component c c.interfaces t) (data_back c.interfaces c.ins))

component_parts : (o n a j b1 b2 k c1 c2 p d1 d2 l e : Text) → o ++ (n ++ ((a ++ (j ++ b1)) ++ ((b2 ++ (k ++ c1)) ++ ((c2 ++ (p ++ d1)) ++ (d2 ++ (l ++ e))))))
    ≡ o ++ n ++ a ++ j ++ (b1 ++ b2) ++ k ++ (c1 ++ c2) ++ p ++ (d1 ++ d2) ++ l ++ e
component_parts o n a j b1 b2 k c1 c2 p d1 d2 l e = simp append_assoc

abbrev Last : List Text → Lang (List DataPort × List Statement)
Last names = Then (After Arrow (AreOutputs names)) (IsBody names)

abbrev Middle : List Text → Lang (List Input × (List DataPort × List Statement))
Middle names = Then (AreInputs names) (Last names)

abbrev Rest : List Text → Lang (List Event × (List Input × (List DataPort × List Statement)))
Rest names = Then (AreEvents names) (Middle names)

body_shown : (body : List Statement) → AllByRecursion StatementIsWritten body → Fragment Fil IsBody body (codes " {" ++ (flat_map line_text body ++ codes "\n}")) false
body_shown body w =
    let lines = fragment_many Fil IsStatement StatementIsWritten line_text false (λ a after. tt) line_shown body w in
    let closed = fragment_closed Fil (10 ∷ []) kinds.Mark (125 ∷ []) [] RightBrace (λ names. Many (IsStatement names)) body (flat_map line_text body) false refl refl refl (λ after. mark_stands Fil 125 refl (λ next. refl) after) (λ after. tt) lines in
    fragment_after Fil (32 ∷ []) kinds.Mark (123 ∷ []) [] LeftBrace (λ names. Closed (Many (IsStatement names)) RightBrace) body (flat_map line_text body ++ codes "\n}") false refl refl refl (λ after. mark_stands Fil 123 refl (λ next. refl) ((flat_map line_text body ++ codes "\n}") ++ after)) closed

outputs_shown : (outs : List DataPort) → AllByRecursion PortIsWritten outs → Fragment Fil (λ names. After Arrow (AreOutputs names)) outs (codes " -> (" ++ (joined port_text outs ++ codes ")")) false
outputs_shown outs w =
    let ports = parenthesized (λ names. Listed Comma (IsPort names)) outs (joined port_text outs) true (listed IsPort PortIsWritten port_text true port_shown outs w) in
    fragment_after Fil (32 ∷ []) kinds.Mark (45 ∷ 62 ∷ []) (32 ∷ []) Arrow AreOutputs outs (40 ∷ (joined port_text outs ++ codes ")")) false refl refl refl (λ after. double_stands Fil 45 62 (32 ∷ ((40 ∷ (joined port_text outs ++ codes ")")) ++ after)) refl) ports

component_shown : (c : Component) → ComponentIsWritten c → Fragment Fil IsComponent c (component_text c ++ codes "\n") false
component_shown c w =
    let ins : List Input = inputs_of c in
    let j : Text = joined event_text c.events in
    let k : Text = joined input_text ins in
    let p : Text = joined port_text c.outs in
    let l : Text = flat_map line_text c.body in
    let body = body_shown c.body w.body in
    let outs = outputs_shown c.outs w.outs in
    let inputs = parenthesized (λ names. Listed Comma (IsInput names)) ins k true (listed IsInput InputIsWritten input_text true input_shown ins (inputs_written c.interfaces c.ins w.interfaces w.ins)) in
    let events = angled (λ names. Separated Comma (IsEvent names)) c.events j true (separated IsEvent EventIsWritten event_text true event_shown c.events w.some_event w.events) in
    let last : Text = (codes " -> (" ++ (p ++ codes ")")) ++ (codes " {" ++ (l ++ codes "\n}")) in
    let lasts = fragment_then Fil (λ names. After Arrow (AreOutputs names)) IsBody c.outs c.body (codes " -> (" ++ (p ++ codes ")")) (codes " {" ++ (l ++ codes "\n}")) false false (λ after f. tt) outs body in
    let middle : Text = (codes "(" ++ (k ++ codes ")")) ++ last in
    let middles = fragment_then Fil AreInputs Last ins (c.outs, c.body) (codes "(" ++ (k ++ codes ")")) last false false (λ after f. tt) inputs lasts in
    let rest : Text = (codes "<" ++ (j ++ codes ">")) ++ middle in
    let rests = fragment_then Fil AreEvents Middle c.events (ins, (c.outs, c.body)) (codes "<" ++ (j ++ codes ">")) middle false false (λ after f. tt) events middles in
    let named = fragment_then Fil AnyWord Rest c.name (c.events, (ins, (c.outs, c.body))) c.name rest true false (λ after f. refl) (fragment_name Fil c.name w.name) rests in
    let whole = fragment_after Fil [] kinds.Name (codes "comp") (32 ∷ []) Comp (λ names. Then (AnyWord names) (Rest names)) (c.name, (c.events, (ins, (c.outs, c.body)))) (c.name ++ rest) false refl refl refl
    (λ after. name_stands Fil 99 (codes "omp") (32 ∷ ((c.name ++ rest) ++ after)) (refl, refl) refl) named in
    let all = fragment_mapped Fil component_from (λ names. After Comp (Then (AnyWord names) (Rest names))) (c.name, (c.events, (ins, (c.outs, c.body)))) c (codes "comp " ++ (c.name ++ rest)) false (component_back c) whole in
    fragment_ended Fil (10 ∷ []) IsComponent c (component_text c) refl
    (retext Fil IsComponent c (codes "comp " ++ (c.name ++ rest)) (component_text c) false (component_parts (codes "comp ") c.name (codes "<") j (codes ">") (codes "(") k (codes ")") (codes " -> (") p (codes ")") (codes " {") l (codes "\n}")) all)

-- ---- designs

imports_shown : Fragment Fil (λ names. AreImports) tt [] false
imports_shown = record { items = []; bytes = λ after. refl; stand = λ after h. tt; spelled = λ names ts rest s. ([], s, refl) }

abbrev Components : List Text → Lang (Component × List Component)
Components names = Then (IsComponent names) (Many (IsComponent names))

design_fragment : (d : Design) → DesignIsWritten d → Fragment Fil IsFile d (fil_text d) false
design_fragment [] w = absurd (w.0 refl)
design_fragment (c ∷ cs) w =
    let text : Component → Text = λ c. component_text c ++ codes "\n" in
    let many = fragment_many Fil IsComponent ComponentIsWritten text false (λ a after. tt) component_shown cs w.1.1 in
    let comps = fragment_then Fil IsComponent (λ names. Many (IsComponent names)) c cs (text c) (flat_map text cs) false false (λ after f. tt) (component_shown c w.1.0) many in
    fragment_mapped Fil design_from (λ names. Then AreImports (Components names)) (tt, (c, cs)) (c ∷ cs) (fil_text (c ∷ cs)) false refl
    (fragment_then Fil (λ names. AreImports) Components tt (c, cs) [] (fil_text (c ∷ cs)) false false (λ after f. tt) imports_shown comps)

-- the canonical text of a design that some text spells spells it too
pub design_shown : (d : Design) → DesignIsWritten d → SpellsDesign (fil_text d) d
design_shown d w = fragment_spells Fil IsFile d (fil_text d) (design_fragment d w)
