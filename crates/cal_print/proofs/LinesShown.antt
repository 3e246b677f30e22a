-- The texts of signatures, cells, assignments and groups spell them.
use Rattle.std.proofs.Common.{◌≡◌, ◌≢◌, ℕ, Bool, true, false, ◌||◌, cond, List, [], ◌∷◌, ◌++◌, map, codes, decimal, Option, Some, None, unwrap_or, refl, sym, ap, ◌∙◌, inl, inr, append_assoc}
use Rattle.std.specs.Prelude.{flat_map}
use Rattle.std.specs.List.{list_all, AllByRecursion}
use Rattle.std.specs.Str.{bytes_eq}
use Rattle.std.proofs.lemmas.Bool.{false≢true}
use Rattle.std.proofs.lemmas.Slice.Eq.{bytes_eq-Decides}
use Rattle.std.proofs.lemmas.List.Concat.{flat_map-append}
use Rattle.hw_names.specs.Name.{Text}
use Rattle.hw_lex.specs.declared.token.Dialect.TheVariants.{Cal}
use Rattle.hw_lex.specs.declared.token.Kind.TheVariants as kinds
use Rattle.hw_lex.specs.Byte.{is_blank}
use Rattle.hw_lex.specs.Word.{Stands}
use Rattle.hw_lex.proofs.Fronts.{by_test}
use Rattle.hw_lex.proofs.Words.{name_stands}
use Rattle.hw_grammar.specs.declared.sort.Sort.{Sort}
use Rattle.hw_grammar.specs.declared.sort.Sort.TheVariants.{Name, Cells, Wires, Group, LeftBracket, RightBracket, LeftBrace, RightBrace, Comma, Colon, Semicolon, Equals, Question}
use Rattle.hw_grammar.specs.declared.terminal.Special.{Special}
use Rattle.hw_grammar.specs.declared.terminal.Special.TheVariants.{External, Clock, Reset, Done, Plain}
use Rattle.hw_grammar.specs.declared.terminal.Terminal.{Terminal}
use Rattle.hw_grammar.specs.Grammar.{One, OneSpecial, Empty, Mapped, AnyWord, AnyNumber, Then, Either, Optional, After, Closed, Between, Many, Separated, Listed}
use Rattle.hw_grammar.specs.Terminals.{special_of, sort_of, entry_of}
use Rattle.hw_grammar.specs.Words.{IsWritten}
use Rattle.hw_grammar.proofs.Alike.{named}
use Rattle.hw_grammar.proofs.Fragments.{Fragment, Blank, Word, retext, fragment_empty, fragment_then, fragment_after, fragment_closed, fragment_many, mark_stands}
use Rattle.hw_grammar.proofs.Decimals.{fragment_name, fragment_number}
use Rattle.hw_prims.specs.Table.{Pin}
use Rattle.cal_ast.specs.Tree.{PortName, CellDef, Assignment, DoneLine, GroupDef}
use Rattle.cal_parse.specs.Grammar.{Past, Source, Guard, AreAttributes, MaybeAngle, is_external, meant_from, MeantPin, pin_from, IsPin, is_dropped, inputs_from, AreInputs, outputs_from, AreOutputs, AreParameters, cell_from, IsCell, IsPort, IsSource, IsGuard, IsSetting, IsAssignment, IsDoneMark, IsDoneLine, GroupLine, AssignmentLine, LineOfDone, IsGroupLine, assignments_in, dones_in, lines_from, AreGroupLines, MaybeComb, IsGroup, Wire, GroupWire, AssignmentWire, IsWire, groups_in, sets_in, wires_from, AreCells, AreWires}
use Rattle.cal_ast.specs.Written.{IsCalName, WhenIsWritten, SourceIsWritten, PinIsWritten, InputIsWritten, CellIsWritten, AssignmentIsWritten, DoneIsWritten, GroupIsWritten}
use Rattle.cal_print.specs.Layout.{joined, line_text, deeper, block_text, port_text, source_text, guard_text, pin_text, cell_text, when_text, assignment_text, done_text, assignments_text, dones_text, group_head, group_text, cells_text, wires_text}
use Rattle.cal_print.proofs.Marks.{Langs, respelled, closed_mark, closed_semicolon, closed_equals, after_equals, parenthesized, line_shown, braced, block_shown, separated, listed, deeper_blank}
use Rattle.cal_print.proofs.GuardsShown.{port_shown, source_shown, is_guard_shown}
use Rattle.cal_print.proofs.PrintLemmas.{flat_map-map, joined-map}

-- ---- what leaves no trace

module _ {A : Type 0} (L : Langs A) (a : A) (text : Text) (loose : Bool) where
  pub without_attributes : Fragment Cal L a text loose → Fragment Cal (λ names. Past AreAttributes (L names)) a text loose
  without_attributes x = respelled L (λ names. Past AreAttributes (L names)) a a text loose (λ names ts rest s. ((false, a), (ts, ([], refl, refl), s), refl)) x

  pub without_angle : Fragment Cal L a text loose → Fragment Cal (λ names. Past MaybeAngle (L names)) a text loose
  without_angle x = respelled L (λ names. Past MaybeAngle (L names)) a a text loose (λ names ts rest s. ((false, a), (ts, inr (refl, refl), s), refl)) x

-- ---- signatures

-- a port with what its name means
abbrev meant : Pin → MeantPin
meant p = (special_of kinds.Name p.name, p)

abbrev MeantIsWritten : MeantPin → Type 0
MeantIsWritten x = PinIsWritten x.1 × (x.0 ≡ special_of kinds.Name x.1.name)

abbrev IsMeantName : Langs (Text × Special)
IsMeantName names = Closed (Mapped (meant_from names) (One Name)) Colon

-- a name and ": "
name_shown : (name : Text) → IsCalName name → Fragment Cal IsMeantName (name, special_of kinds.Name name) (name ++ codes ": ") false
name_shown [] w = absurd w.0
name_shown (first ∷ others) w =
    let name : Text = first ∷ others in
    record {
      items = Word kinds.Name name ∷ Word kinds.Mark (58 ∷ []) ∷ Blank 32 ∷ [];
      bytes = λ after. sym (append_assoc name (codes ": ") after);
      stand = λ after f. (name_stands Cal first others (58 ∷ 32 ∷ after) w.0 refl, (mark_stands Cal 58 refl (λ next. refl) (32 ∷ after), (refl, tt)));
      spelled = λ names ts rest (t, others, e, is, (u, more, e', is', s)).
          let sort : t.sort ≡ Name = is.sort ∙ ap (λ (o : Option Sort). unwrap_or o Name) w.1 in
          let value : (name, special_of kinds.Name name) ≡ meant_from names t =
          sym (ap (λ (x : Text). (x, t.special)) (named names name t is.name sort) ∙ ap (λ (x : Special). (name, x)) is.special) in
          (((name, special_of kinds.Name name), u), (others, (t, (e, sort), value), (e' ∙ ap (λ (r : List Terminal). u ∷ r) s, is'.sort)), refl);
    }

pin_shown : (x : MeantPin) → MeantIsWritten x → Fragment Cal IsPin x (pin_text x.1) true
pin_shown x w =
    let name : Text × Special = (x.1.name, special_of kinds.Name x.1.name) in
    let both = fragment_then Cal IsMeantName (λ names. AnyNumber) name x.1.width (x.1.name ++ codes ": ") (decimal x.1.width) false true (λ after f. tt) (name_shown x.1.name w.0.0) (fragment_number Cal x.1.width w.0.1) in
    let is : x ≡ pin_from (name, x.1.width) = ap (λ (s : Special). (s, x.1)) w.1 in
    without_attributes (λ names. Mapped pin_from (Then (IsMeantName names) AnyNumber)) x (pin_text x.1) true
    (respelled (λ names. Then (IsMeantName names) AnyNumber) (λ names. Mapped pin_from (Then (IsMeantName names) AnyNumber)) (name, x.1.width) x (pin_text x.1) true (λ names ts rest s. ((name, x.1.width), s, is)) both)

meant_written : (P : Pin → Type 0) → ((p : Pin) → P p → PinIsWritten p) → (pins : List Pin) → AllByRecursion P pins → AllByRecursion MeantIsWritten (map meant pins)
meant_written P h [] w = tt
meant_written P h (p ∷ pins) w = ((h p w.0, refl), meant_written P h pins w.1)

abbrev after_reset : List (Text × Special)
after_reset = (codes "done", Done) ∷ []

abbrev after_clock : List (Text × Special)
after_clock = (codes "reset", Reset) ∷ after_reset

abbrev after_external : List (Text × Special)
after_external = (codes "clk", Clock) ∷ after_clock

not_dropped : (name : Text) → name ≢ codes "clk" → name ≢ codes "reset" → is_dropped (special_of kinds.Name name) ≡ false
not_dropped name no_clock no_reset =
    by_test (λ v. is_dropped (unwrap_or (cond v (Some External) (entry_of after_external name)) Plain) ≡ false) (bytes_eq (codes "external") name) (λ _. refl) (λ _.
    by_test (λ v. is_dropped (unwrap_or (cond v (Some Clock) (entry_of after_clock name)) Plain) ≡ false) (bytes_eq (codes "clk") name) (λ e. absurd (no_clock (sym ((bytes_eq-Decides (codes "clk") name).0 e)))) (λ _.
    by_test (λ v. is_dropped (unwrap_or (cond v (Some Reset) (entry_of after_reset name)) Plain) ≡ false) (bytes_eq (codes "reset") name) (λ e. absurd (no_reset (sym ((bytes_eq-Decides (codes "reset") name).0 e)))) (λ _.
    by_test (λ v. is_dropped (unwrap_or (cond v (Some Done) None) Plain) ≡ false) (bytes_eq (codes "done") name) (λ _. refl) (λ _. refl))))

inputs_step : (v : Bool) (p : Pin) (rest pins : List Pin) → v ≡ false → rest ≡ pins → cond v rest (p ∷ rest) ≡ p ∷ pins
inputs_step true p rest pins e h = absurd (false≢true (sym e))
inputs_step false p rest pins e h = ap (λ (ps : List Pin). p ∷ ps) h

inputs_back : (pins : List Pin) → AllByRecursion InputIsWritten pins → inputs_from (map meant pins) ≡ pins
inputs_back [] w = refl
inputs_back (p ∷ pins) w = inputs_step (is_dropped (special_of kinds.Name p.name)) p (inputs_from (map meant pins)) pins (not_dropped p.name w.0.1.0 w.0.1.1) (inputs_back pins w.1)

outputs_back : (pins : List Pin) → outputs_from (map meant pins) ≡ pins
outputs_back [] = refl
outputs_back (p ∷ pins) = ap (λ (ps : List Pin). p ∷ ps) (outputs_back pins)

abbrev ArePins : Langs (List MeantPin)
ArePins names = Listed Comma (IsPin names)

pins_shown : (pins : List Pin) → AllByRecursion MeantIsWritten (map meant pins) → Fragment Cal ArePins (map meant pins) (joined pin_text pins) true
pins_shown pins w =
    retext Cal ArePins (map meant pins) (joined (λ (x : MeantPin). pin_text x.1) (map meant pins)) (joined pin_text pins) true (joined-map (λ (x : MeantPin). pin_text x.1) meant pins)
    (listed IsPin MeantIsWritten (λ x. pin_text x.1) pin_shown (map meant pins) w)

pub inputs_shown : (pins : List Pin) → AllByRecursion InputIsWritten pins → Fragment Cal AreInputs pins (40 ∷ (joined pin_text pins ++ (41 ∷ []))) false
inputs_shown pins w =
    let L : Langs (List Pin) = λ names. Mapped inputs_from (ArePins names) in
    parenthesized L pins (joined pin_text pins) true
    (respelled ArePins L (map meant pins) pins (joined pin_text pins) true (λ names ts rest s. (map meant pins, s, sym (inputs_back pins w))) (pins_shown pins (meant_written InputIsWritten (λ p v. v.0) pins w)))

pub outputs_shown : (pins : List Pin) → AllByRecursion PinIsWritten pins → Fragment Cal AreOutputs pins (40 ∷ (joined pin_text pins ++ (41 ∷ []))) false
outputs_shown pins w =
    let L : Langs (List Pin) = λ names. Mapped outputs_from (ArePins names) in
    parenthesized L pins (joined pin_text pins) true
    (respelled ArePins L (map meant pins) pins (joined pin_text pins) true (λ names ts rest s. (map meant pins, s, sym (outputs_back pins))) (pins_shown pins (meant_written PinIsWritten (λ p v. v) pins w)))

-- ---- cells

external_shown : (b : Bool) → Fragment Cal (λ names. AreAttributes) b (cond b (codes "@external ") []) false
external_shown true = record {
  items = Word kinds.Mark (64 ∷ []) ∷ Word kinds.Name (codes "external") ∷ Blank 32 ∷ [];
  bytes = λ after. refl;
  stand = λ after f. (mark_stands Cal 64 refl (λ next. refl) (codes "external " ++ after), (name_stands Cal 101 (codes "xternal") (32 ∷ after) (refl, refl) refl, (refl, tt)));
  spelled = λ names ts rest (t, others, e, is, (u, more, e', is', s)).
      (true ∷ [], (more, ((t, true), (others, (e, is.sort), ((true, None), (more, (u, (e', is'.sort), sym (ap (λ (x : Special). is_external x) is'.special)), inr (refl, refl)), refl)), refl), s), refl);
}
external_shown false = record { items = []; bytes = λ after. refl; stand = λ after f. tt; spelled = λ names ts rest s. ([], s, refl) }

abbrev Numbers : Langs (List ℕ)
Numbers names = Either (Separated Comma AnyNumber) (Empty [])

numbers_shown : (params : List ℕ) → AllByRecursion IsWritten params → Fragment Cal Numbers params (joined decimal params) true
numbers_shown [] w = respelled {A = List ℕ} {B = List ℕ} (λ names. Empty []) Numbers [] [] [] true (λ names ts rest s. inr s) (fragment_empty Cal {A = List ℕ} [] [] true refl)
numbers_shown (p ∷ params) w =
    respelled (λ names. Separated Comma AnyNumber) Numbers (p ∷ params) (p ∷ params) (joined decimal (p ∷ params)) true (λ names ts rest s. inl s)
    (separated (λ names. AnyNumber) IsWritten decimal (fragment_number Cal) (p ∷ params) (λ e. absurd cc) w)

params_shown : (params : List ℕ) → AllByRecursion IsWritten params → Fragment Cal (λ names. AreParameters) params (40 ∷ (joined decimal params ++ (41 ∷ []))) false
params_shown params w = parenthesized Numbers params (joined decimal params) true (numbers_shown params w)

abbrev with_external : CellDef → Bool → CellDef
with_external c external = record { name = c.name; made = c.made; params = c.params; external = external }

or_false : (b : Bool) → b ≡ (b || false)
or_false true = refl
or_false false = refl

cell_parts : (ext name made params : Text) → ext ++ (name ++ (codes " = " ++ (made ++ ((40 ∷ (params ++ (41 ∷ []))) ++ codes ";")))) ≡ ext ++ name ++ codes " = " ++ made ++ codes "(" ++ params ++ codes ");"
cell_parts ext name made params = simp append_assoc

cell_shown : (c : CellDef) → CellIsWritten c → Fragment Cal IsCell c (cell_text c) false
cell_shown c w =
    let params : Text = 40 ∷ (joined decimal c.params ++ (41 ∷ [])) in
    let Closing : Langs (List ℕ) = λ names. Closed AreParameters Semicolon in
    let Made : Langs (Text × List ℕ) = λ names. Then (AnyWord names) (Closed AreParameters Semicolon) in
    let Rest : Langs (Bool × (Text × List ℕ)) = λ names. Then MaybeAngle (After Equals (Made names)) in
    let Named : Langs (Text × (Bool × (Text × List ℕ))) = λ names. Then (AnyWord names) (Rest names) in
    let Whole : Langs (Bool × (Text × (Bool × (Text × List ℕ)))) = λ names. Then AreAttributes (Named names) in
    let closing = closed_mark (λ names. AreParameters) c.params params 59 [] Semicolon false refl (λ next. refl) refl refl refl (params_shown c.params w.1.1) in
    let made = fragment_then Cal AnyWord Closing c.made c.params c.made (params ++ codes ";") true false (λ after f. refl) (fragment_name Cal c.made w.1.0) closing in
    let equals = after_equals Made (c.made, c.params) (c.made ++ (params ++ codes ";")) false made in
    let tail : Text = codes " = " ++ (c.made ++ (params ++ codes ";")) in
    let rest = respelled (λ names. After Equals (Made names)) Rest (c.made, c.params) (false, (c.made, c.params)) tail false (λ names ts rest s. (ts, inr (refl, refl), s)) equals in
    let named = fragment_then Cal AnyWord Rest c.name (false, (c.made, c.params)) c.name tail true false (λ after f. refl) (fragment_name Cal c.name w.0) rest in
    let ext : Text = cond c.external (codes "@external ") [] in
    let whole = fragment_then Cal (λ names. AreAttributes) Named c.external (c.name, (false, (c.made, c.params))) ext (c.name ++ tail) false false (λ after f. tt) (external_shown c.external) named in
    let is : c ≡ cell_from (c.external, (c.name, (false, (c.made, c.params)))) = ap (λ (b : Bool). with_external c b) (or_false c.external) in
    respelled Whole IsCell (c.external, (c.name, (false, (c.made, c.params)))) c (cell_text c) false (λ names ts rest s. ((c.external, (c.name, (false, (c.made, c.params)))), s, is))
    (retext Cal Whole (c.external, (c.name, (false, (c.made, c.params)))) (ext ++ (c.name ++ tail)) (cell_text c) false (cell_parts ext c.name c.made (joined decimal c.params)) whole)

abbrev cell_line : CellDef → Text
cell_line c = line_text (codes "    ") (cell_text c)

-- what a keyword and a block in braces say
module _ {A : Type 0} (L : Langs A) (a : A) (inner : Text) where
  pub section_shown : (first : ℕ) (others : Text) (sort : Sort) → ((text : Text) → Stands Cal kinds.Name ((first ∷ others) ++ (32 ∷ text)) (32 ∷ text)) → sort_of Cal kinds.Name (first ∷ others) ≡ sort → (margin : Text) → list_all is_blank margin ≡ true
      → Fragment Cal L a inner false → Fragment Cal (λ names. After sort (Between LeftBrace (L names) RightBrace)) a (block_text margin (first ∷ others) inner) false
  section_shown first others sort stands is margin blank x =
      let braces : Text = codes " {\n" ++ (inner ++ (margin ++ codes "}")) in
      let block = fragment_after Cal [] kinds.Name (first ∷ others) [] sort (λ names. Between LeftBrace (L names) RightBrace) a braces false refl refl is (λ after. stands (123 ∷ 10 ∷ ((inner ++ (margin ++ codes "}")) ++ after))) (braced L a inner margin blank x) in
      block_shown (λ names. After sort (Between LeftBrace (L names) RightBrace)) a margin (first ∷ others) inner blank block

pub cells_shown : (cells : List CellDef) → AllByRecursion CellIsWritten cells → Fragment Cal AreCells cells (cells_text cells) false
cells_shown cells w =
    let lines = fragment_many Cal IsCell CellIsWritten cell_line false (λ a after. tt) (λ c v. line_shown IsCell c (cell_text c) (codes "    ") refl (cell_shown c v)) cells w in
    section_shown (λ names. Many (IsCell names)) cells (flat_map cell_line cells) 99 (codes "ells") Cells (λ text. name_stands Cal 99 (codes "ells") (32 ∷ text) (refl, refl) refl) refl (codes "  ") refl lines

-- ---- assignments and done lines

abbrev When : Langs (Option Guard)
When names = Optional (Closed (IsGuard names) Question)

when_shown : (o : Option Guard) → WhenIsWritten o → Fragment Cal When o (when_text o) false
when_shown None w = respelled {A = Option Guard} {B = Option Guard} (λ names. Empty None) When None None [] false (λ names ts rest s. inr s) (fragment_empty Cal {A = Option Guard} None None false refl)
when_shown (Some g) w =
    let text : Text = when_text (Some g) in
    let closed = fragment_closed Cal (32 ∷ []) kinds.Mark (63 ∷ []) (32 ∷ []) Question IsGuard g (guard_text g) true refl refl refl (λ after. mark_stands Cal 63 refl (λ next. refl) (32 ∷ after)) (λ after. refl) (is_guard_shown g w) in
    respelled (λ names. Closed (IsGuard names) Question) When g (Some g) text false (λ names ts rest s. inl (g, s, refl)) closed

abbrev setting_text : Option Guard → Source → Text
setting_text o s = when_text o ++ (source_text s ++ codes ";")

setting_shown : (o : Option Guard) (s : Source) → WhenIsWritten o → SourceIsWritten s → Fragment Cal IsSetting (o, s) (setting_text o s) false
setting_shown o s w v =
    fragment_then Cal When (λ names. Closed (IsSource names) Semicolon) o s (when_text o) (source_text s ++ codes ";") false false (λ after f. tt) (when_shown o w) (closed_semicolon IsSource s (source_text s) (source_shown s v))

assignment_parts : (port when source : Text) → (port ++ codes " = ") ++ (when ++ (source ++ codes ";")) ≡ port ++ codes " = " ++ when ++ source ++ codes ";"
assignment_parts port when source = simp append_assoc

assignment_shown : (a : Assignment) → AssignmentIsWritten a → Fragment Cal IsAssignment a (assignment_text a) false
assignment_shown a w =
    let Both : Langs (PortName × (Option Guard × Source)) = λ names. Then (Closed (IsPort names) Equals) (IsSetting names) in
    let port = closed_equals IsPort a.dst (port_text a.dst) (port_shown a.dst w.0) in
    let both = fragment_then Cal (λ names. Closed (IsPort names) Equals) IsSetting a.dst (a.guard, a.src) (port_text a.dst ++ codes " = ") (setting_text a.guard a.src) false false (λ after f. tt) port (setting_shown a.guard a.src w.1.0 w.1.1) in
    respelled Both IsAssignment (a.dst, (a.guard, a.src)) a (assignment_text a) false (λ names ts rest s. ((a.dst, (a.guard, a.src)), s, refl))
    (retext Cal Both (a.dst, (a.guard, a.src)) ((port_text a.dst ++ codes " = ") ++ setting_text a.guard a.src) (assignment_text a) false (assignment_parts (port_text a.dst) (when_text a.guard) (source_text a.src)) both)

-- `done` and a bracket
abbrev IsDoneEnd : Langs (Unit {0})
IsDoneEnd names = Closed (Mapped (λ _. tt) (OneSpecial Done)) RightBracket

done_end_shown : Fragment Cal IsDoneEnd tt (codes "done]") false
done_end_shown = record {
  items = Word kinds.Name (codes "done") ∷ Word kinds.Mark (93 ∷ []) ∷ [];
  bytes = λ after. refl;
  stand = λ after f. (name_stands Cal 100 (codes "one") (93 ∷ after) (refl, refl) refl, (mark_stands Cal 93 refl (λ next. refl) after, tt));
  spelled = λ names ts rest (t, others, e, is, (u, more, e', is', s)).
      ((tt, u), (others, (t, ((e, is.sort), is.special), refl), (e' ∙ ap (λ (r : List Terminal). u ∷ r) s, is'.sort)), refl);
}

done_parts : (group when source : Text) → group ++ (codes "[done]" ++ (codes " = " ++ (when ++ (source ++ codes ";")))) ≡ group ++ codes "[done] = " ++ when ++ source ++ codes ";"
done_parts group when source = simp append_assoc

done_shown : (d : DoneLine) → DoneIsWritten d → Fragment Cal IsDoneLine d (done_text d) false
done_shown d w =
    let Set : Langs (Option Guard × Source) = λ names. After Equals (IsSetting names) in
    let Marked : Langs (Option Guard × Source) = λ names. Past IsDoneMark (Set names) in
    let Both : Langs (Text × (Option Guard × Source)) = λ names. Then (AnyWord names) (Marked names) in
    let set : Text = codes " = " ++ setting_text d.guard d.src in
    let equals = after_equals IsSetting (d.guard, d.src) (setting_text d.guard d.src) false (setting_shown d.guard d.src w.1.0 w.1.1) in
    let mark = fragment_after Cal [] kinds.Mark (91 ∷ []) [] LeftBracket IsDoneEnd tt (codes "done]") false refl refl refl (λ after. mark_stands Cal 91 refl (λ next. refl) (codes "done]" ++ after)) done_end_shown in
    let pair = fragment_then Cal (λ names. IsDoneMark) Set tt (d.guard, d.src) (codes "[done]") set false false (λ after f. tt) mark equals in
    let marked = respelled (λ names. Then IsDoneMark (Set names)) Marked (tt, (d.guard, d.src)) (d.guard, d.src) (codes "[done]" ++ set) false (λ names ts rest s. ((tt, (d.guard, d.src)), s, refl)) pair in
    let both = fragment_then Cal AnyWord Marked d.group (d.guard, d.src) d.group (codes "[done]" ++ set) true false (λ after f. refl) (fragment_name Cal d.group w.0) marked in
    respelled Both IsDoneLine (d.group, (d.guard, d.src)) d (done_text d) false (λ names ts rest s. ((d.group, (d.guard, d.src)), s, refl))
    (retext Cal Both (d.group, (d.guard, d.src)) (d.group ++ (codes "[done]" ++ set)) (done_text d) false (done_parts d.group (when_text d.guard) (source_text d.src)) both)

-- ---- groups

abbrev LineIsWritten : GroupLine → Type 0
LineIsWritten (AssignmentLine a) = AssignmentIsWritten a
LineIsWritten (LineOfDone d) = DoneIsWritten d

abbrev group_line : Text → GroupLine → Text
group_line margin (AssignmentLine a) = line_text margin (assignment_text a)
group_line margin (LineOfDone d) = line_text margin (done_text d)

abbrev Lines : Langs GroupLine
Lines names = Either (Mapped AssignmentLine (IsAssignment names)) (Mapped LineOfDone (IsDoneLine names))

group_line_shown : (margin : Text) → list_all is_blank margin ≡ true → (x : GroupLine) → LineIsWritten x → Fragment Cal IsGroupLine x (group_line margin x) false
group_line_shown margin blank (AssignmentLine a) w =
    line_shown IsGroupLine (AssignmentLine a) (assignment_text a) margin blank (without_attributes Lines (AssignmentLine a) (assignment_text a) false
    (respelled IsAssignment Lines a (AssignmentLine a) (assignment_text a) false (λ names ts rest s. inl (a, s, refl)) (assignment_shown a w)))
group_line_shown margin blank (LineOfDone d) w =
    line_shown IsGroupLine (LineOfDone d) (done_text d) margin blank (without_attributes Lines (LineOfDone d) (done_text d) false
    (respelled IsDoneLine Lines d (LineOfDone d) (done_text d) false (λ names ts rest s. inr (d, s, refl)) (done_shown d w)))

abbrev lines_of : List Assignment → List DoneLine → List GroupLine
lines_of sets dones = map AssignmentLine sets ++ map LineOfDone dones

done_lines_written : (dones : List DoneLine) → AllByRecursion DoneIsWritten dones → AllByRecursion LineIsWritten (map LineOfDone dones)
done_lines_written [] h = tt
done_lines_written (d ∷ dones) h = (h.0, done_lines_written dones h.1)

lines_written : (sets : List Assignment) (dones : List DoneLine) → AllByRecursion AssignmentIsWritten sets → AllByRecursion DoneIsWritten dones → AllByRecursion LineIsWritten (lines_of sets dones)
lines_written [] dones h k = done_lines_written dones k
lines_written (a ∷ sets) dones h k = (h.0, lines_written sets dones h.1 k)

no_assignments : (dones : List DoneLine) → assignments_in (map LineOfDone dones) ≡ []
no_assignments [] = refl
no_assignments (d ∷ dones) = no_assignments dones

all_dones : (dones : List DoneLine) → dones_in (map LineOfDone dones) ≡ dones
all_dones [] = refl
all_dones (d ∷ dones) = ap (λ (ds : List DoneLine). d ∷ ds) (all_dones dones)

assignments_back : (sets : List Assignment) (dones : List DoneLine) → assignments_in (lines_of sets dones) ≡ sets
assignments_back [] dones = no_assignments dones
assignments_back (a ∷ sets) dones = ap (λ (ss : List Assignment). a ∷ ss) (assignments_back sets dones)

dones_back : (sets : List Assignment) (dones : List DoneLine) → dones_in (lines_of sets dones) ≡ dones
dones_back [] dones = all_dones dones
dones_back (a ∷ sets) dones = dones_back sets dones

lines_back : (sets : List Assignment) (dones : List DoneLine) → (sets, dones) ≡ lines_from (lines_of sets dones)
lines_back sets dones = sym (ap (λ (ss : List Assignment). (ss, dones_in (lines_of sets dones))) (assignments_back sets dones) ∙ ap (λ (ds : List DoneLine). (sets, ds)) (dones_back sets dones))

lines_texts : (margin : Text) (sets : List Assignment) (dones : List DoneLine) → flat_map (group_line margin) (lines_of sets dones) ≡ assignments_text margin sets ++ dones_text margin dones
lines_texts margin sets dones =
    flat_map-append (group_line margin) (map AssignmentLine sets) (map LineOfDone dones)
    ∙ ap (λ (t : Text). t ++ flat_map (group_line margin) (map LineOfDone dones)) (flat_map-map (group_line margin) AssignmentLine sets)
    ∙ ap (λ (t : Text). assignments_text margin sets ++ t) (flat_map-map (group_line margin) LineOfDone dones)

lines_shown : (margin : Text) → list_all is_blank margin ≡ true → (sets : List Assignment) (dones : List DoneLine) → AllByRecursion AssignmentIsWritten sets → AllByRecursion DoneIsWritten dones
    → Fragment Cal AreGroupLines (sets, dones) (assignments_text margin sets ++ dones_text margin dones) false
lines_shown margin blank sets dones h k =
    let many = fragment_many Cal IsGroupLine LineIsWritten (group_line margin) false (λ a after. tt) (group_line_shown margin blank) (lines_of sets dones) (lines_written sets dones h k) in
    retext Cal AreGroupLines (sets, dones) (flat_map (group_line margin) (lines_of sets dones)) (assignments_text margin sets ++ dones_text margin dones) false (lines_texts margin sets dones)
    (respelled (λ names. Many (IsGroupLine names)) AreGroupLines (lines_of sets dones) (sets, dones) (flat_map (group_line margin) (lines_of sets dones)) false (λ names ts rest s. (lines_of sets dones, s, lines_back sets dones)) many)

comb_shown : (b : Bool) → Fragment Cal (λ names. MaybeComb) b (cond b (codes "comb ") []) false
comb_shown true = record {
  items = Word kinds.Name (codes "comb") ∷ Blank 32 ∷ [];
  bytes = λ after. refl;
  stand = λ after f. (name_stands Cal 99 (codes "omb") (32 ∷ after) (refl, refl) refl, (refl, tt));
  spelled = λ names ts rest (t, others, e, is, s). inl (t, (e ∙ ap (λ (r : List Terminal). t ∷ r) s, is.sort), refl);
}
comb_shown false = record { items = []; bytes = λ after. refl; stand = λ after f. tt; spelled = λ names ts rest s. inr (refl, s) }

group_parts : (comb name braces : Text) → comb ++ (codes "group " ++ (name ++ braces)) ≡ (comb ++ codes "group " ++ name) ++ braces
group_parts comb name braces = simp append_assoc

group_shown : (margin : Text) → list_all is_blank margin ≡ true → (g : GroupDef) → GroupIsWritten g → Fragment Cal IsGroup g (group_text margin g) false
group_shown margin blank g w =
    let inner : Text = assignments_text (deeper margin) g.sets ++ dones_text (deeper margin) g.dones in
    let braces : Text = codes " {\n" ++ (inner ++ (margin ++ codes "}")) in
    let Braced : Langs (List Assignment × List DoneLine) = λ names. Past MaybeAngle (Between LeftBrace (AreGroupLines names) RightBrace) in
    let Named : Langs (Text × (List Assignment × List DoneLine)) = λ names. Then (AnyWord names) (Braced names) in
    let Whole : Langs (Bool × (Text × (List Assignment × List DoneLine))) = λ names. Then MaybeComb (After Group (Named names)) in
    let lines = lines_shown (deeper margin) (deeper_blank margin blank) g.sets g.dones w.1.0 w.1.1 in
    let block = without_angle (λ names. Between LeftBrace (AreGroupLines names) RightBrace) (g.sets, g.dones) braces false (braced AreGroupLines (g.sets, g.dones) inner margin blank lines) in
    let named = fragment_then Cal AnyWord Braced g.name (g.sets, g.dones) g.name braces true false (λ after f. refl) (fragment_name Cal g.name w.0) block in
    let word = fragment_after Cal [] kinds.Name (codes "group") (32 ∷ []) Group Named (g.name, (g.sets, g.dones)) (g.name ++ braces) false refl refl refl
    (λ after. name_stands Cal 103 (codes "roup") (32 ∷ ((g.name ++ braces) ++ after)) (refl, refl) refl) named in
    let comb : Text = cond g.comb (codes "comb ") [] in
    let value : Bool × (Text × (List Assignment × List DoneLine)) = (g.comb, (g.name, (g.sets, g.dones))) in
    let whole = fragment_then Cal (λ names. MaybeComb) (λ names. After Group (Named names)) g.comb (g.name, (g.sets, g.dones)) comb (codes "group " ++ (g.name ++ braces)) false false (λ after f. tt) (comb_shown g.comb) word in
    block_shown IsGroup g margin (group_head g) inner blank
    (respelled Whole IsGroup value g (group_head g ++ braces) false (λ names ts rest s. (value, s, refl))
    (retext Cal Whole value (comb ++ (codes "group " ++ (g.name ++ braces))) (group_head g ++ braces) false (group_parts comb g.name braces) whole))

-- ---- wires

abbrev WireIsWritten : Wire → Type 0
WireIsWritten (GroupWire g) = GroupIsWritten g
WireIsWritten (AssignmentWire a) = AssignmentIsWritten a

abbrev wire_text : Wire → Text
wire_text (GroupWire g) = group_text (codes "    ") g
wire_text (AssignmentWire a) = line_text (codes "    ") (assignment_text a)

abbrev WireItems : Langs Wire
WireItems names = Either (Mapped GroupWire (IsGroup names)) (Mapped AssignmentWire (IsAssignment names))

wire_shown : (x : Wire) → WireIsWritten x → Fragment Cal IsWire x (wire_text x) false
wire_shown (GroupWire g) w =
    without_attributes WireItems (GroupWire g) (group_text (codes "    ") g) false
    (respelled IsGroup WireItems g (GroupWire g) (group_text (codes "    ") g) false (λ names ts rest s. inl (g, s, refl)) (group_shown (codes "    ") refl g w))
wire_shown (AssignmentWire a) w =
    line_shown IsWire (AssignmentWire a) (assignment_text a) (codes "    ") refl (without_attributes WireItems (AssignmentWire a) (assignment_text a) false
    (respelled IsAssignment WireItems a (AssignmentWire a) (assignment_text a) false (λ names ts rest s. inr (a, s, refl)) (assignment_shown a w)))

abbrev wires_of : List GroupDef → List Assignment → List Wire
wires_of groups sets = map GroupWire groups ++ map AssignmentWire sets

set_wires_written : (sets : List Assignment) → AllByRecursion AssignmentIsWritten sets → AllByRecursion WireIsWritten (map AssignmentWire sets)
set_wires_written [] h = tt
set_wires_written (a ∷ sets) h = (h.0, set_wires_written sets h.1)

wires_written : (groups : List GroupDef) (sets : List Assignment) → AllByRecursion GroupIsWritten groups → AllByRecursion AssignmentIsWritten sets → AllByRecursion WireIsWritten (wires_of groups sets)
wires_written [] sets h k = set_wires_written sets k
wires_written (g ∷ groups) sets h k = (h.0, wires_written groups sets h.1 k)

no_groups : (sets : List Assignment) → groups_in (map AssignmentWire sets) ≡ []
no_groups [] = refl
no_groups (a ∷ sets) = no_groups sets

all_sets : (sets : List Assignment) → sets_in (map AssignmentWire sets) ≡ sets
all_sets [] = refl
all_sets (a ∷ sets) = ap (λ (ss : List Assignment). a ∷ ss) (all_sets sets)

groups_back : (groups : List GroupDef) (sets : List Assignment) → groups_in (wires_of groups sets) ≡ groups
groups_back [] sets = no_groups sets
groups_back (g ∷ groups) sets = ap (λ (gs : List GroupDef). g ∷ gs) (groups_back groups sets)

sets_back : (groups : List GroupDef) (sets : List Assignment) → sets_in (wires_of groups sets) ≡ sets
sets_back [] sets = all_sets sets
sets_back (g ∷ groups) sets = sets_back groups sets

wires_back : (groups : List GroupDef) (sets : List Assignment) → (groups, sets) ≡ wires_from (wires_of groups sets)
wires_back groups sets = sym (ap (λ (gs : List GroupDef). (gs, sets_in (wires_of groups sets))) (groups_back groups sets) ∙ ap (λ (ss : List Assignment). (groups, ss)) (sets_back groups sets))

wires_texts : (groups : List GroupDef) (sets : List Assignment) → flat_map wire_text (wires_of groups sets) ≡ flat_map (group_text (codes "    ")) groups ++ assignments_text (codes "    ") sets
wires_texts groups sets =
    flat_map-append wire_text (map GroupWire groups) (map AssignmentWire sets)
    ∙ ap (λ (t : Text). t ++ flat_map wire_text (map AssignmentWire sets)) (flat_map-map wire_text GroupWire groups)
    ∙ ap (λ (t : Text). flat_map (group_text (codes "    ")) groups ++ t) (flat_map-map wire_text AssignmentWire sets)

pub wires_shown : (groups : List GroupDef) (sets : List Assignment) → AllByRecursion GroupIsWritten groups → AllByRecursion AssignmentIsWritten sets → Fragment Cal AreWires (groups, sets) (wires_text groups sets) false
wires_shown groups sets h k =
    let L : Langs (List GroupDef × List Assignment) = λ names. Mapped wires_from (Many (IsWire names)) in
    let inner : Text = flat_map (group_text (codes "    ")) groups ++ assignments_text (codes "    ") sets in
    let many = fragment_many Cal IsWire WireIsWritten wire_text false (λ a after. tt) wire_shown (wires_of groups sets) (wires_written groups sets h k) in
    let lines = retext Cal L (groups, sets) (flat_map wire_text (wires_of groups sets)) inner false (wires_texts groups sets)
    (respelled (λ names. Many (IsWire names)) L (wires_of groups sets) (groups, sets) (flat_map wire_text (wires_of groups sets)) false (λ names ts rest s. (wires_of groups sets, s, wires_back groups sets)) many) in
    section_shown L (groups, sets) inner 119 (codes "ires") Wires (λ text. name_stands Cal 119 (codes "ires") (32 ∷ text) (refl, refl) refl) refl (codes "  ") refl lines
