-- What one text spells with two lists of names: each rule passes from the one to the other, and what it spells can be written.
use Rattle.std.proofs.Common.{◌≡◌, ◌≢◌, ℕ, zero, suc, Bool, true, false, cond, List, [], ◌∷◌, Option, Some, None, refl, sym, ap, subst, ◌∙◌, arith}
use Rattle.std.specs.Prelude.{codes}
use Rattle.std.specs.List.{AllByRecursion}
use Rattle.hw_names.specs.Name.{Text, text_of}
use Rattle.hw_lex.specs.declared.token.Dialect.TheVariants.{Cal}
use Rattle.hw_lex.specs.declared.token.Kind.TheVariants as kinds
use Rattle.hw_grammar.specs.declared.sort.Sort.TheVariants.{Name, Import, Component, Cells, Wires, Control, Group, Comb, Seq, Par, If, Else, While, With, Invoke, At, LeftBracket, RightBracket, LeftParen, RightParen, LeftAngle, RightAngle, LeftBrace, RightBrace, Comma, Colon, Semicolon, Equals, Dot, Arrow, Question, Not, And, Or, EqualsEquals, NotEquals, AtMost, AtLeast}
use Rattle.hw_grammar.specs.declared.sort.Sort.TheVariants as sorts
use Rattle.hw_grammar.specs.declared.terminal.Special.{Special}
use Rattle.hw_grammar.specs.declared.terminal.Special.TheVariants.{External, Clock, Reset, Done, Plain}
use Rattle.hw_grammar.specs.declared.terminal.Terminal.{Terminal}
use Rattle.hw_grammar.specs.Grammar.{One, OneSpecial, Empty, Mapped, AnyWord, AnyNumber, AnyLiteral, Then, Either, Optional, After, Closed, Between, Many, Separated, Listed}
use Rattle.hw_grammar.specs.Terminals.{special_of}
use Rattle.hw_grammar.specs.Words.{IsWritten}
use Rattle.hw_grammar.proofs.Passing.{Passes, Both, OfEach, OfSome, passes-one, passes-empty, passes-mapped, passes-weaker, passes-then, passes-either, passes-optional, passes-mark, passes-closed, passes-between, passes-many, passes-separated, passes-listed}
use Rattle.hw_grammar.proofs.Alike.{IsAlike, same_sorts, passes-any_word, passes-any_number, passes-any_literal}
use Rattle.hw_grammar.proofs.Specials.{passes-special}
use Rattle.hw_prims.specs.Table.{Pin}
use Rattle.net_core.specs.declared.net.Cmp.{Cmp}
use Rattle.net_core.specs.declared.net.Cmp.TheVariants.{Eq, Neq, Lt, Gt, Le, Ge}
use Rattle.net_core.specs.Guard.{guards_of}
use Rattle.cal_ast.specs.Tree.{PortName, CellDef, Assignment, DoneLine, GroupDef, InBinding, OutBinding, Statement, ControlSection, Design}
use Rattle.cal_ast.specs.Tree as tree
use Rattle.cal_parse.specs.Grammar.{port_from, Source, port_source, literal_from, Guard, read_from, negated_from, test_from, all_from, any_from, is_external, is_some_true, either_from, meant_from, MeantPin, pin_from, is_dropped, inputs_from, outputs_from, cell_from, assignment_from, done_from, GroupLine, AssignmentLine, LineOfDone, assignments_in, dones_in, lines_from, group_from, Wire, GroupWire, AssignmentWire, groups_in, sets_in, wires_from, in_from, out_from, statements_from, seq_from, par_from, branch_from, if_from, while_from, invoke_from, control_from, component_from, design_from, IsPort, IsSource, IsOperator, IsTest, TightTo, GuardTo, IsGuard, IsAttribute, AreAttributes, IsAngleEntry, AreAngleEntries, IsAngle, MaybeAngle, IsPin, AreInputs, AreOutputs, AreParameters, IsCell, IsSetting, IsAssignment, IsDoneMark, IsDoneLine, IsGroupLine, AreGroupLines, IsGroup, IsWire, IsInBinding, IsOutBinding, IsEnable, IsCondition, IsInvoke, StatementTo, IsStatement, MaybeControl, MaybeOutputs, AreCells, AreWires, IsComponentBody, IsComponent, IsImport, AreImports, IsFile}
use Rattle.cal_ast.specs.Written.{IsCalName, NameIsWritten, PortIsWritten, SourceIsWritten, GuardIsWritten, GuardsAreWritten, WhenIsWritten, PinIsWritten, InputIsWritten, CellIsWritten, AssignmentIsWritten, DoneIsWritten, GroupIsWritten, InIsWritten, OutIsWritten, StatementIsWritten, StatementsAreWritten, ControlIsWritten, ComponentIsWritten, DesignIsWritten}

abbrev AnyBool : Bool → Type 0
AnyBool x = Unit {0}

abbrev AnyUnit : Unit {0} → Type 0
AnyUnit x = Unit {0}

abbrev AnyOperator : Cmp → Type 0
AnyOperator x = Unit {0}

-- what the word of a name means is told by its text
abbrev NameIsMeant : Text × Special → Type 0
NameIsMeant x = IsCalName x.0 × (x.1 ≡ special_of kinds.Name x.0)

abbrev MeantIsWritten : MeantPin → Type 0
MeantIsWritten x = PinIsWritten x.1 × (x.0 ≡ special_of kinds.Name x.1.name)

abbrev SettingIsWritten : Option Guard × Source → Type 0
SettingIsWritten x = WhenIsWritten x.0 × SourceIsWritten x.1

abbrev LineIsWritten : GroupLine → Type 0
LineIsWritten (AssignmentLine a) = AssignmentIsWritten a
LineIsWritten (LineOfDone d) = DoneIsWritten d

abbrev LinesAreWritten : List Assignment × List DoneLine → Type 0
LinesAreWritten x = AllByRecursion AssignmentIsWritten x.0 × AllByRecursion DoneIsWritten x.1

abbrev WireIsWritten : Wire → Type 0
WireIsWritten (GroupWire g) = GroupIsWritten g
WireIsWritten (AssignmentWire a) = AssignmentIsWritten a

abbrev WiresAreWritten : List GroupDef × List Assignment → Type 0
WiresAreWritten x = AllByRecursion GroupIsWritten x.0 × AllByRecursion AssignmentIsWritten x.1

abbrev ConditionIsWritten : PortName × Option Text → Type 0
ConditionIsWritten x = PortIsWritten x.0 × NameIsWritten x.1

port_written : (x : Text × Option Text) → IsCalName x.0 × OfSome IsCalName x.1 → PortIsWritten (port_from x)
port_written (pin, None) q = (tt, q.0)
port_written (cell, Some pin) q = q

test_written : (x : Source × Option (Cmp × Source)) → SourceIsWritten x.0 × OfSome (Both AnyOperator SourceIsWritten) x.1 → GuardIsWritten (test_from x)
test_written (left, None) q = q.0
test_written (left, Some (op, right)) q = (q.0, q.1.1)

guards_written : (gs : List Guard) → AllByRecursion GuardIsWritten gs → GuardsAreWritten (guards_of gs)
guards_written [] h = tt
guards_written (g ∷ gs) h = (h.0, guards_written gs h.1)

all_written : (gs : List Guard) → OfEach GuardIsWritten gs → GuardIsWritten (all_from gs)
all_written [] h = absurd (h.0 refl)
all_written (g ∷ []) h = h.1.0
all_written (g ∷ k ∷ gs) h = (tt, guards_written (g ∷ k ∷ gs) h.1)

any_written : (gs : List Guard) → OfEach GuardIsWritten gs → GuardIsWritten (any_from gs)
any_written [] h = absurd (h.0 refl)
any_written (g ∷ []) h = h.1.0
any_written (g ∷ k ∷ gs) h = (tt, guards_written (g ∷ k ∷ gs) h.1)

pin_written : (x : (Text × Special) × ℕ) → NameIsMeant x.0 × IsWritten x.1 → MeantIsWritten (pin_from x)
pin_written x q = ((q.0.0, q.1), q.0.1)

-- a name with another meaning is neither `clk` nor `reset`
kept_written : (special : Special) (pin : Pin) → is_dropped special ≡ false → MeantIsWritten (special, pin) → InputIsWritten pin
kept_written special pin kept q = (
  q.0,
  (
    (λ e. let is : special ≡ Clock = q.1 ∙ ap (special_of kinds.Name) e in let no : true ≡ false = sym (ap is_dropped is) ∙ kept in absurd cc),
    (λ e. let is : special ≡ Reset = q.1 ∙ ap (special_of kinds.Name) e in let no : true ≡ false = sym (ap is_dropped is) ∙ kept in absurd cc),
  ),
)

inputs_next : (v : Bool) (x : MeantPin) (rest : List Pin) → is_dropped x.0 ≡ v → MeantIsWritten x → AllByRecursion InputIsWritten rest → AllByRecursion InputIsWritten (cond v rest (x.1 ∷ rest))
inputs_next true x rest e q h = h
inputs_next false x rest e q h = (kept_written x.0 x.1 e q, h)

inputs_written : (pins : List MeantPin) → AllByRecursion MeantIsWritten pins → AllByRecursion InputIsWritten (inputs_from pins)
inputs_written [] h = tt
inputs_written (x ∷ pins) h = inputs_next (is_dropped x.0) x (inputs_from pins) refl h.0 (inputs_written pins h.1)

outputs_written : (pins : List MeantPin) → AllByRecursion MeantIsWritten pins → AllByRecursion PinIsWritten (outputs_from pins)
outputs_written [] h = tt
outputs_written (x ∷ pins) h = (h.0.0, outputs_written pins h.1)

setting_written : (x : Option Guard × Source) → OfSome GuardIsWritten x.0 × SourceIsWritten x.1 → SettingIsWritten x
setting_written (None, source) q = q
setting_written (Some guard, source) q = q

assignments_written : (lines : List GroupLine) → AllByRecursion LineIsWritten lines → AllByRecursion AssignmentIsWritten (assignments_in lines)
assignments_written [] h = tt
assignments_written (AssignmentLine a ∷ lines) h = (h.0, assignments_written lines h.1)
assignments_written (LineOfDone d ∷ lines) h = assignments_written lines h.1

dones_written : (lines : List GroupLine) → AllByRecursion LineIsWritten lines → AllByRecursion DoneIsWritten (dones_in lines)
dones_written [] h = tt
dones_written (AssignmentLine a ∷ lines) h = dones_written lines h.1
dones_written (LineOfDone d ∷ lines) h = (h.0, dones_written lines h.1)

lines_written : (lines : List GroupLine) → AllByRecursion LineIsWritten lines → LinesAreWritten (lines_from lines)
lines_written lines h = (assignments_written lines h, dones_written lines h)

groups_written : (wires : List Wire) → AllByRecursion WireIsWritten wires → AllByRecursion GroupIsWritten (groups_in wires)
groups_written [] h = tt
groups_written (GroupWire g ∷ wires) h = (h.0, groups_written wires h.1)
groups_written (AssignmentWire a ∷ wires) h = groups_written wires h.1

sets_written : (wires : List Wire) → AllByRecursion WireIsWritten wires → AllByRecursion AssignmentIsWritten (sets_in wires)
sets_written [] h = tt
sets_written (GroupWire g ∷ wires) h = sets_written wires h.1
sets_written (AssignmentWire a ∷ wires) h = (h.0, sets_written wires h.1)

wires_written : (wires : List Wire) → AllByRecursion WireIsWritten wires → WiresAreWritten (wires_from wires)
wires_written wires h = (groups_written wires h, sets_written wires h)

condition_written : (x : PortName × Option Text) → PortIsWritten x.0 × OfSome IsCalName x.1 → ConditionIsWritten x
condition_written (port, None) q = q
condition_written (port, Some name) q = q

seq_written : (ss : List Statement) → AllByRecursion StatementIsWritten ss → StatementsAreWritten (statements_from ss)
seq_written [] h = tt
seq_written (s ∷ ss) h = (h.0, seq_written ss h.1)

branch_written : (ss : List Statement) → AllByRecursion StatementIsWritten ss → StatementIsWritten (branch_from ss)
branch_written [] h = tt
branch_written (s ∷ []) h = h.0
branch_written (s ∷ t ∷ ss) h = seq_written (s ∷ t ∷ ss) h

control_written : (ss : List Statement) → AllByRecursion StatementIsWritten ss → ControlIsWritten (control_from ss)
control_written [] h = tt
control_written (s ∷ []) h = h.0
control_written (s ∷ t ∷ ss) h = seq_written (s ∷ t ∷ ss) h

component_written : (x : Text × (List Pin × (List Pin × (List CellDef × ((List GroupDef × List Assignment) × ControlSection)))))
    → IsCalName x.0 × (AllByRecursion InputIsWritten x.1.0 × (AllByRecursion PinIsWritten x.1.1.0 × (AllByRecursion CellIsWritten x.1.1.1.0 × (WiresAreWritten x.1.1.1.1.0 × ControlIsWritten x.1.1.1.1.1))))
    → ComponentIsWritten (component_from x)
component_written x (name, (ins, (outs, (cells, (wires, control))))) = record {
  name = name;
  ins = ins;
  outs = outs;
  cells = cells;
  groups = wires.0;
  sets = wires.1;
  control = control;
}

module _ (old new : List Text) where
  abbrev R : Terminal → Terminal → Type 0
  R = IsAlike Cal old new

  same : (t u : Terminal) → R t u → u.sort ≡ t.sort
  same = same_sorts Cal old new

  same_external : {sort : _} (t u : Terminal) → R t u → t.sort ≡ sort → AnyBool (is_external t.special) × (is_external t.special ≡ is_external u.special)
  same_external t u r e = (tt, ap is_external (sym r.special))

  same_meaning : (t u : Terminal) → R t u → t.sort ≡ Name → NameIsMeant (meant_from old t) × (meant_from old t ≡ meant_from new u)
  same_meaning t u r e =
      let word = r.word e in
      ((word.0, r.meaning e), ap (λ (x : Text). (x, t.special)) word.1 ∙ ap (λ (x : Special). (text_of new u.name, x)) (sym r.special))

  passes-port : Passes R (IsPort old) (IsPort new) PortIsWritten
  passes-port = (passes-mapped R same port_from (Then (AnyWord old) (Optional (After Dot (AnyWord old)))) (Then (AnyWord new) (Optional (After Dot (AnyWord new)))) (Both IsCalName (OfSome IsCalName)) PortIsWritten (passes-then R same (AnyWord old) (AnyWord new) IsCalName (Optional (After Dot (AnyWord old))) (Optional (After Dot (AnyWord new))) (OfSome IsCalName) (passes-any_word Cal old new) (passes-optional R same (After Dot (AnyWord old)) (After Dot (AnyWord new)) IsCalName (passes-mark R same Dot (AnyWord old) (AnyWord new) IsCalName (passes-any_word Cal old new)))) port_written)

  passes-source : Passes R (IsSource old) (IsSource new) SourceIsWritten
  passes-source = (passes-either R same (Mapped port_source (IsPort old)) (Mapped port_source (IsPort new)) (Mapped literal_from AnyLiteral) (Mapped literal_from AnyLiteral) SourceIsWritten (passes-mapped R same port_source (IsPort old) (IsPort new) PortIsWritten SourceIsWritten passes-port (λ x q. q)) (passes-mapped R same literal_from AnyLiteral AnyLiteral (Both IsWritten IsWritten) SourceIsWritten (passes-any_literal Cal old new) (λ x q. q)))

  passes-operator : Passes R IsOperator IsOperator AnyOperator
  passes-operator = (passes-either R same (Mapped (λ (t : Terminal). Eq) (One EqualsEquals)) (Mapped (λ (t : Terminal). Eq) (One EqualsEquals)) (Either (Mapped (λ (t : Terminal). Neq) (One NotEquals)) (Either (Mapped (λ (t : Terminal). Lt) (One LeftAngle)) (Either (Mapped (λ (t : Terminal). Gt) (One RightAngle)) (Either (Mapped (λ (t : Terminal). Le) (One AtMost)) (Mapped (λ (t : Terminal). Ge) (One AtLeast)))))) (Either (Mapped (λ (t : Terminal). Neq) (One NotEquals)) (Either (Mapped (λ (t : Terminal). Lt) (One LeftAngle)) (Either (Mapped (λ (t : Terminal). Gt) (One RightAngle)) (Either (Mapped (λ (t : Terminal). Le) (One AtMost)) (Mapped (λ (t : Terminal). Ge) (One AtLeast)))))) AnyOperator (passes-one R same EqualsEquals (λ (t : Terminal). Eq) (λ (t : Terminal). Eq) AnyOperator (λ t u r e. (tt, refl))) (passes-either R same (Mapped (λ (t : Terminal). Neq) (One NotEquals)) (Mapped (λ (t : Terminal). Neq) (One NotEquals)) (Either (Mapped (λ (t : Terminal). Lt) (One LeftAngle)) (Either (Mapped (λ (t : Terminal). Gt) (One RightAngle)) (Either (Mapped (λ (t : Terminal). Le) (One AtMost)) (Mapped (λ (t : Terminal). Ge) (One AtLeast))))) (Either (Mapped (λ (t : Terminal). Lt) (One LeftAngle)) (Either (Mapped (λ (t : Terminal). Gt) (One RightAngle)) (Either (Mapped (λ (t : Terminal). Le) (One AtMost)) (Mapped (λ (t : Terminal). Ge) (One AtLeast))))) AnyOperator (passes-one R same NotEquals (λ (t : Terminal). Neq) (λ (t : Terminal). Neq) AnyOperator (λ t u r e. (tt, refl))) (passes-either R same (Mapped (λ (t : Terminal). Lt) (One LeftAngle)) (Mapped (λ (t : Terminal). Lt) (One LeftAngle)) (Either (Mapped (λ (t : Terminal). Gt) (One RightAngle)) (Either (Mapped (λ (t : Terminal). Le) (One AtMost)) (Mapped (λ (t : Terminal). Ge) (One AtLeast)))) (Either (Mapped (λ (t : Terminal). Gt) (One RightAngle)) (Either (Mapped (λ (t : Terminal). Le) (One AtMost)) (Mapped (λ (t : Terminal). Ge) (One AtLeast)))) AnyOperator (passes-one R same LeftAngle (λ (t : Terminal). Lt) (λ (t : Terminal). Lt) AnyOperator (λ t u r e. (tt, refl))) (passes-either R same (Mapped (λ (t : Terminal). Gt) (One RightAngle)) (Mapped (λ (t : Terminal). Gt) (One RightAngle)) (Either (Mapped (λ (t : Terminal). Le) (One AtMost)) (Mapped (λ (t : Terminal). Ge) (One AtLeast))) (Either (Mapped (λ (t : Terminal). Le) (One AtMost)) (Mapped (λ (t : Terminal). Ge) (One AtLeast))) AnyOperator (passes-one R same RightAngle (λ (t : Terminal). Gt) (λ (t : Terminal). Gt) AnyOperator (λ t u r e. (tt, refl))) (passes-either R same (Mapped (λ (t : Terminal). Le) (One AtMost)) (Mapped (λ (t : Terminal). Le) (One AtMost)) (Mapped (λ (t : Terminal). Ge) (One AtLeast)) (Mapped (λ (t : Terminal). Ge) (One AtLeast)) AnyOperator (passes-one R same AtMost (λ (t : Terminal). Le) (λ (t : Terminal). Le) AnyOperator (λ t u r e. (tt, refl))) (passes-one R same AtLeast (λ (t : Terminal). Ge) (λ (t : Terminal). Ge) AnyOperator (λ t u r e. (tt, refl))))))))

  passes-test : Passes R (IsTest old) (IsTest new) GuardIsWritten
  passes-test = (passes-mapped R same test_from (Then (IsSource old) (Optional (Then IsOperator (IsSource old)))) (Then (IsSource new) (Optional (Then IsOperator (IsSource new)))) (Both SourceIsWritten (OfSome (Both AnyOperator SourceIsWritten))) GuardIsWritten (passes-then R same (IsSource old) (IsSource new) SourceIsWritten (Optional (Then IsOperator (IsSource old))) (Optional (Then IsOperator (IsSource new))) (OfSome (Both AnyOperator SourceIsWritten)) passes-source (passes-optional R same (Then IsOperator (IsSource old)) (Then IsOperator (IsSource new)) (Both AnyOperator SourceIsWritten) (passes-then R same IsOperator IsOperator AnyOperator (IsSource old) (IsSource new) SourceIsWritten passes-operator passes-source))) test_written)

  mutual
    passes-tight-to : (d : ℕ) → Passes R (TightTo old d) (TightTo new d) GuardIsWritten
    passes-tight-to zero = (passes-mapped R same read_from (IsSource old) (IsSource new) SourceIsWritten GuardIsWritten passes-source (λ x q. q))
    passes-tight-to (suc d) = (passes-either R same (Mapped negated_from (After Not (TightTo old d))) (Mapped negated_from (After Not (TightTo new d))) (Either (Between LeftParen (GuardTo old d) RightParen) (Mapped read_from (IsSource old))) (Either (Between LeftParen (GuardTo new d) RightParen) (Mapped read_from (IsSource new))) GuardIsWritten (passes-mapped R same negated_from (After Not (TightTo old d)) (After Not (TightTo new d)) GuardIsWritten GuardIsWritten (passes-mark R same Not (TightTo old d) (TightTo new d) GuardIsWritten (passes-tight-to d)) (λ x q. q)) (passes-either R same (Between LeftParen (GuardTo old d) RightParen) (Between LeftParen (GuardTo new d) RightParen) (Mapped read_from (IsSource old)) (Mapped read_from (IsSource new)) GuardIsWritten (passes-between R same LeftParen RightParen (GuardTo old d) (GuardTo new d) GuardIsWritten (passes-guard-to d)) (passes-mapped R same read_from (IsSource old) (IsSource new) SourceIsWritten GuardIsWritten passes-source (λ x q. q))))

    passes-guard-to : (d : ℕ) → Passes R (GuardTo old d) (GuardTo new d) GuardIsWritten
    passes-guard-to zero = (passes-mapped R same read_from (IsSource old) (IsSource new) SourceIsWritten GuardIsWritten passes-source (λ x q. q))
    passes-guard-to (suc d) = (passes-mapped R same any_from (Separated Or (Mapped all_from (Separated And (Either (Mapped negated_from (After Not (TightTo old d))) (Either (Between LeftParen (GuardTo old d) RightParen) (IsTest old)))))) (Separated Or (Mapped all_from (Separated And (Either (Mapped negated_from (After Not (TightTo new d))) (Either (Between LeftParen (GuardTo new d) RightParen) (IsTest new)))))) (OfEach GuardIsWritten) GuardIsWritten (passes-separated R same Or (Mapped all_from (Separated And (Either (Mapped negated_from (After Not (TightTo old d))) (Either (Between LeftParen (GuardTo old d) RightParen) (IsTest old))))) (Mapped all_from (Separated And (Either (Mapped negated_from (After Not (TightTo new d))) (Either (Between LeftParen (GuardTo new d) RightParen) (IsTest new))))) GuardIsWritten (passes-mapped R same all_from (Separated And (Either (Mapped negated_from (After Not (TightTo old d))) (Either (Between LeftParen (GuardTo old d) RightParen) (IsTest old)))) (Separated And (Either (Mapped negated_from (After Not (TightTo new d))) (Either (Between LeftParen (GuardTo new d) RightParen) (IsTest new)))) (OfEach GuardIsWritten) GuardIsWritten (passes-separated R same And (Either (Mapped negated_from (After Not (TightTo old d))) (Either (Between LeftParen (GuardTo old d) RightParen) (IsTest old))) (Either (Mapped negated_from (After Not (TightTo new d))) (Either (Between LeftParen (GuardTo new d) RightParen) (IsTest new))) GuardIsWritten (passes-either R same (Mapped negated_from (After Not (TightTo old d))) (Mapped negated_from (After Not (TightTo new d))) (Either (Between LeftParen (GuardTo old d) RightParen) (IsTest old)) (Either (Between LeftParen (GuardTo new d) RightParen) (IsTest new)) GuardIsWritten (passes-mapped R same negated_from (After Not (TightTo old d)) (After Not (TightTo new d)) GuardIsWritten GuardIsWritten (passes-mark R same Not (TightTo old d) (TightTo new d) GuardIsWritten (passes-tight-to d)) (λ x q. q)) (passes-either R same (Between LeftParen (GuardTo old d) RightParen) (Between LeftParen (GuardTo new d) RightParen) (IsTest old) (IsTest new) GuardIsWritten (passes-between R same LeftParen RightParen (GuardTo old d) (GuardTo new d) GuardIsWritten (passes-guard-to d)) passes-test))) all_written)) any_written)

  passes-guard : Passes R (IsGuard old) (IsGuard new) GuardIsWritten
  passes-guard ts us a rest pairs (d, l) = let k = passes-guard-to d ts us a rest pairs l in (k.0, (k.1.0, k.1.1, (d, k.1.2)))

  passes-attribute : Passes R IsAttribute IsAttribute AnyBool
  passes-attribute = (passes-mark R same At (Mapped (λ (x : Bool × Option ℕ). x.0) (Then (Mapped (λ (t : Terminal). is_external t.special) (One Name)) (Optional (Between LeftParen AnyNumber RightParen)))) (Mapped (λ (x : Bool × Option ℕ). x.0) (Then (Mapped (λ (t : Terminal). is_external t.special) (One Name)) (Optional (Between LeftParen AnyNumber RightParen)))) AnyBool (passes-mapped R same (λ (x : Bool × Option ℕ). x.0) (Then (Mapped (λ (t : Terminal). is_external t.special) (One Name)) (Optional (Between LeftParen AnyNumber RightParen))) (Then (Mapped (λ (t : Terminal). is_external t.special) (One Name)) (Optional (Between LeftParen AnyNumber RightParen))) (Both AnyBool (OfSome IsWritten)) AnyBool (passes-then R same (Mapped (λ (t : Terminal). is_external t.special) (One Name)) (Mapped (λ (t : Terminal). is_external t.special) (One Name)) AnyBool (Optional (Between LeftParen AnyNumber RightParen)) (Optional (Between LeftParen AnyNumber RightParen)) (OfSome IsWritten) (passes-one R same Name (λ (t : Terminal). is_external t.special) (λ (t : Terminal). is_external t.special) AnyBool same_external) (passes-optional R same (Between LeftParen AnyNumber RightParen) (Between LeftParen AnyNumber RightParen) IsWritten (passes-between R same LeftParen RightParen AnyNumber AnyNumber IsWritten (passes-any_number Cal old new)))) (λ x q. tt)))

  passes-attributes : Passes R AreAttributes AreAttributes AnyBool
  passes-attributes = (passes-mapped R same is_some_true (Many IsAttribute) (Many IsAttribute) (AllByRecursion AnyBool) AnyBool (passes-many R same IsAttribute IsAttribute AnyBool passes-attribute) (λ x q. tt))

  passes-angle_entry : Passes R IsAngleEntry IsAngleEntry AnyBool
  passes-angle_entry = (passes-mapped R same (λ (x : Bool × ℕ). x.0) (Then (Closed (Mapped (λ (t : Terminal). is_external t.special) (One sorts.Text)) Equals) AnyNumber) (Then (Closed (Mapped (λ (t : Terminal). is_external t.special) (One sorts.Text)) Equals) AnyNumber) (Both AnyBool IsWritten) AnyBool (passes-then R same (Closed (Mapped (λ (t : Terminal). is_external t.special) (One sorts.Text)) Equals) (Closed (Mapped (λ (t : Terminal). is_external t.special) (One sorts.Text)) Equals) AnyBool AnyNumber AnyNumber IsWritten (passes-closed R same Equals (Mapped (λ (t : Terminal). is_external t.special) (One sorts.Text)) (Mapped (λ (t : Terminal). is_external t.special) (One sorts.Text)) AnyBool (passes-one R same sorts.Text (λ (t : Terminal). is_external t.special) (λ (t : Terminal). is_external t.special) AnyBool same_external)) (passes-any_number Cal old new)) (λ x q. tt))

  passes-angle_entries : Passes R AreAngleEntries AreAngleEntries AnyBool
  passes-angle_entries = (passes-mapped R same either_from (Then IsAngleEntry (Mapped is_some_true (Many (After Comma IsAngleEntry)))) (Then IsAngleEntry (Mapped is_some_true (Many (After Comma IsAngleEntry)))) (Both AnyBool AnyBool) AnyBool (passes-then R same IsAngleEntry IsAngleEntry AnyBool (Mapped is_some_true (Many (After Comma IsAngleEntry))) (Mapped is_some_true (Many (After Comma IsAngleEntry))) AnyBool passes-angle_entry (passes-mapped R same is_some_true (Many (After Comma IsAngleEntry)) (Many (After Comma IsAngleEntry)) (AllByRecursion AnyBool) AnyBool (passes-many R same (After Comma IsAngleEntry) (After Comma IsAngleEntry) AnyBool (passes-mark R same Comma IsAngleEntry IsAngleEntry AnyBool passes-angle_entry)) (λ x q. tt))) (λ x q. tt))

  passes-angle : Passes R MaybeAngle MaybeAngle AnyBool
  passes-angle = (passes-either R same (Between LeftAngle AreAngleEntries RightAngle) (Between LeftAngle AreAngleEntries RightAngle) (Empty false) (Empty false) AnyBool (passes-between R same LeftAngle RightAngle AreAngleEntries AreAngleEntries AnyBool passes-angle_entries) (passes-empty R same false AnyBool tt))

  passes-pin : Passes R (IsPin old) (IsPin new) MeantIsWritten
  passes-pin = (passes-mapped R same (λ (x : Bool × MeantPin). x.1) (Then AreAttributes (Mapped pin_from (Then (Closed (Mapped (meant_from old) (One Name)) Colon) AnyNumber))) (Then AreAttributes (Mapped pin_from (Then (Closed (Mapped (meant_from new) (One Name)) Colon) AnyNumber))) (Both AnyBool MeantIsWritten) MeantIsWritten (passes-then R same AreAttributes AreAttributes AnyBool (Mapped pin_from (Then (Closed (Mapped (meant_from old) (One Name)) Colon) AnyNumber)) (Mapped pin_from (Then (Closed (Mapped (meant_from new) (One Name)) Colon) AnyNumber)) MeantIsWritten passes-attributes (passes-mapped R same pin_from (Then (Closed (Mapped (meant_from old) (One Name)) Colon) AnyNumber) (Then (Closed (Mapped (meant_from new) (One Name)) Colon) AnyNumber) (Both NameIsMeant IsWritten) MeantIsWritten (passes-then R same (Closed (Mapped (meant_from old) (One Name)) Colon) (Closed (Mapped (meant_from new) (One Name)) Colon) NameIsMeant AnyNumber AnyNumber IsWritten (passes-closed R same Colon (Mapped (meant_from old) (One Name)) (Mapped (meant_from new) (One Name)) NameIsMeant (passes-one R same Name (meant_from old) (meant_from new) NameIsMeant same_meaning)) (passes-any_number Cal old new)) pin_written)) (λ x q. q.1))

  passes-inputs : Passes R (AreInputs old) (AreInputs new) (AllByRecursion InputIsWritten)
  passes-inputs = (passes-between R same LeftParen RightParen (Mapped inputs_from (Listed Comma (IsPin old))) (Mapped inputs_from (Listed Comma (IsPin new))) (AllByRecursion InputIsWritten) (passes-mapped R same inputs_from (Listed Comma (IsPin old)) (Listed Comma (IsPin new)) (AllByRecursion MeantIsWritten) (AllByRecursion InputIsWritten) (passes-listed R same Comma (IsPin old) (IsPin new) MeantIsWritten passes-pin) inputs_written))

  passes-outputs : Passes R (AreOutputs old) (AreOutputs new) (AllByRecursion PinIsWritten)
  passes-outputs = (passes-between R same LeftParen RightParen (Mapped outputs_from (Listed Comma (IsPin old))) (Mapped outputs_from (Listed Comma (IsPin new))) (AllByRecursion PinIsWritten) (passes-mapped R same outputs_from (Listed Comma (IsPin old)) (Listed Comma (IsPin new)) (AllByRecursion MeantIsWritten) (AllByRecursion PinIsWritten) (passes-listed R same Comma (IsPin old) (IsPin new) MeantIsWritten passes-pin) outputs_written))

  passes-parameters : Passes R AreParameters AreParameters (AllByRecursion IsWritten)
  passes-parameters = (passes-between R same LeftParen RightParen (Either (Separated Comma AnyNumber) (Empty [])) (Either (Separated Comma AnyNumber) (Empty [])) (AllByRecursion IsWritten) (passes-either R same (Separated Comma AnyNumber) (Separated Comma AnyNumber) (Empty []) (Empty []) (AllByRecursion IsWritten) (passes-weaker R same (Separated Comma AnyNumber) (Separated Comma AnyNumber) (OfEach IsWritten) (AllByRecursion IsWritten) (passes-separated R same Comma AnyNumber AnyNumber IsWritten (passes-any_number Cal old new)) (λ xs q. q.1)) (passes-empty R same {A = List ℕ} [] (AllByRecursion IsWritten) tt)))

  passes-cell : Passes R (IsCell old) (IsCell new) CellIsWritten
  passes-cell = (passes-mapped R same cell_from (Then AreAttributes (Then (AnyWord old) (Then MaybeAngle (After Equals (Then (AnyWord old) (Closed AreParameters Semicolon)))))) (Then AreAttributes (Then (AnyWord new) (Then MaybeAngle (After Equals (Then (AnyWord new) (Closed AreParameters Semicolon)))))) (Both AnyBool (Both IsCalName (Both AnyBool (Both IsCalName (AllByRecursion IsWritten))))) CellIsWritten (passes-then R same AreAttributes AreAttributes AnyBool (Then (AnyWord old) (Then MaybeAngle (After Equals (Then (AnyWord old) (Closed AreParameters Semicolon))))) (Then (AnyWord new) (Then MaybeAngle (After Equals (Then (AnyWord new) (Closed AreParameters Semicolon))))) (Both IsCalName (Both AnyBool (Both IsCalName (AllByRecursion IsWritten)))) passes-attributes (passes-then R same (AnyWord old) (AnyWord new) IsCalName (Then MaybeAngle (After Equals (Then (AnyWord old) (Closed AreParameters Semicolon)))) (Then MaybeAngle (After Equals (Then (AnyWord new) (Closed AreParameters Semicolon)))) (Both AnyBool (Both IsCalName (AllByRecursion IsWritten))) (passes-any_word Cal old new) (passes-then R same MaybeAngle MaybeAngle AnyBool (After Equals (Then (AnyWord old) (Closed AreParameters Semicolon))) (After Equals (Then (AnyWord new) (Closed AreParameters Semicolon))) (Both IsCalName (AllByRecursion IsWritten)) passes-angle (passes-mark R same Equals (Then (AnyWord old) (Closed AreParameters Semicolon)) (Then (AnyWord new) (Closed AreParameters Semicolon)) (Both IsCalName (AllByRecursion IsWritten)) (passes-then R same (AnyWord old) (AnyWord new) IsCalName (Closed AreParameters Semicolon) (Closed AreParameters Semicolon) (AllByRecursion IsWritten) (passes-any_word Cal old new) (passes-closed R same Semicolon AreParameters AreParameters (AllByRecursion IsWritten) passes-parameters)))))) (λ x q. (q.1.0, (q.1.1.1.0, q.1.1.1.1))))

  passes-setting : Passes R (IsSetting old) (IsSetting new) SettingIsWritten
  passes-setting = (passes-weaker R same (Then (Optional (Closed (IsGuard old) Question)) (Closed (IsSource old) Semicolon)) (Then (Optional (Closed (IsGuard new) Question)) (Closed (IsSource new) Semicolon)) (Both (OfSome GuardIsWritten) SourceIsWritten) SettingIsWritten (passes-then R same (Optional (Closed (IsGuard old) Question)) (Optional (Closed (IsGuard new) Question)) (OfSome GuardIsWritten) (Closed (IsSource old) Semicolon) (Closed (IsSource new) Semicolon) SourceIsWritten (passes-optional R same (Closed (IsGuard old) Question) (Closed (IsGuard new) Question) GuardIsWritten (passes-closed R same Question (IsGuard old) (IsGuard new) GuardIsWritten passes-guard)) (passes-closed R same Semicolon (IsSource old) (IsSource new) SourceIsWritten passes-source)) setting_written)

  passes-assignment : Passes R (IsAssignment old) (IsAssignment new) AssignmentIsWritten
  passes-assignment = (passes-mapped R same assignment_from (Then (Closed (IsPort old) Equals) (IsSetting old)) (Then (Closed (IsPort new) Equals) (IsSetting new)) (Both PortIsWritten SettingIsWritten) AssignmentIsWritten (passes-then R same (Closed (IsPort old) Equals) (Closed (IsPort new) Equals) PortIsWritten (IsSetting old) (IsSetting new) SettingIsWritten (passes-closed R same Equals (IsPort old) (IsPort new) PortIsWritten passes-port) passes-setting) (λ x q. q))

  passes-done_mark : Passes R IsDoneMark IsDoneMark AnyUnit
  passes-done_mark = passes-between R same LeftBracket RightBracket (Mapped (λ (t : Terminal). tt) (OneSpecial Done)) (Mapped (λ (t : Terminal). tt) (OneSpecial Done)) AnyUnit (passes-special R same (λ t u r. r.special) Done tt AnyUnit tt)

  passes-done : Passes R (IsDoneLine old) (IsDoneLine new) DoneIsWritten
  passes-done = (passes-mapped R same done_from (Then (AnyWord old) (Mapped (λ (x : Unit {0} × (Option Guard × Source)). x.1) (Then IsDoneMark (After Equals (IsSetting old))))) (Then (AnyWord new) (Mapped (λ (x : Unit {0} × (Option Guard × Source)). x.1) (Then IsDoneMark (After Equals (IsSetting new))))) (Both IsCalName SettingIsWritten) DoneIsWritten (passes-then R same (AnyWord old) (AnyWord new) IsCalName (Mapped (λ (x : Unit {0} × (Option Guard × Source)). x.1) (Then IsDoneMark (After Equals (IsSetting old)))) (Mapped (λ (x : Unit {0} × (Option Guard × Source)). x.1) (Then IsDoneMark (After Equals (IsSetting new)))) SettingIsWritten (passes-any_word Cal old new) (passes-mapped R same (λ (x : Unit {0} × (Option Guard × Source)). x.1) (Then IsDoneMark (After Equals (IsSetting old))) (Then IsDoneMark (After Equals (IsSetting new))) (Both AnyUnit SettingIsWritten) SettingIsWritten (passes-then R same IsDoneMark IsDoneMark AnyUnit (After Equals (IsSetting old)) (After Equals (IsSetting new)) SettingIsWritten passes-done_mark (passes-mark R same Equals (IsSetting old) (IsSetting new) SettingIsWritten passes-setting)) (λ x q. q.1))) (λ x q. q))

  passes-line : Passes R (IsGroupLine old) (IsGroupLine new) LineIsWritten
  passes-line = (passes-mapped R same (λ (x : Bool × GroupLine). x.1) (Then AreAttributes (Either (Mapped AssignmentLine (IsAssignment old)) (Mapped LineOfDone (IsDoneLine old)))) (Then AreAttributes (Either (Mapped AssignmentLine (IsAssignment new)) (Mapped LineOfDone (IsDoneLine new)))) (Both AnyBool LineIsWritten) LineIsWritten (passes-then R same AreAttributes AreAttributes AnyBool (Either (Mapped AssignmentLine (IsAssignment old)) (Mapped LineOfDone (IsDoneLine old))) (Either (Mapped AssignmentLine (IsAssignment new)) (Mapped LineOfDone (IsDoneLine new))) LineIsWritten passes-attributes (passes-either R same (Mapped AssignmentLine (IsAssignment old)) (Mapped AssignmentLine (IsAssignment new)) (Mapped LineOfDone (IsDoneLine old)) (Mapped LineOfDone (IsDoneLine new)) LineIsWritten (passes-mapped R same AssignmentLine (IsAssignment old) (IsAssignment new) AssignmentIsWritten LineIsWritten passes-assignment (λ x q. q)) (passes-mapped R same LineOfDone (IsDoneLine old) (IsDoneLine new) DoneIsWritten LineIsWritten passes-done (λ x q. q)))) (λ x q. q.1))

  passes-lines : Passes R (AreGroupLines old) (AreGroupLines new) LinesAreWritten
  passes-lines = (passes-mapped R same lines_from (Many (IsGroupLine old)) (Many (IsGroupLine new)) (AllByRecursion LineIsWritten) LinesAreWritten (passes-many R same (IsGroupLine old) (IsGroupLine new) LineIsWritten passes-line) lines_written)

  passes-group : Passes R (IsGroup old) (IsGroup new) GroupIsWritten
  passes-group = (passes-mapped R same group_from (Then (Either (Mapped (λ (t : Terminal). true) (One Comb)) (Empty false)) (After Group (Then (AnyWord old) (Mapped (λ (x : Bool × (List Assignment × List DoneLine)). x.1) (Then MaybeAngle (Between LeftBrace (AreGroupLines old) RightBrace)))))) (Then (Either (Mapped (λ (t : Terminal). true) (One Comb)) (Empty false)) (After Group (Then (AnyWord new) (Mapped (λ (x : Bool × (List Assignment × List DoneLine)). x.1) (Then MaybeAngle (Between LeftBrace (AreGroupLines new) RightBrace)))))) (Both AnyBool (Both IsCalName LinesAreWritten)) GroupIsWritten (passes-then R same (Either (Mapped (λ (t : Terminal). true) (One Comb)) (Empty false)) (Either (Mapped (λ (t : Terminal). true) (One Comb)) (Empty false)) AnyBool (After Group (Then (AnyWord old) (Mapped (λ (x : Bool × (List Assignment × List DoneLine)). x.1) (Then MaybeAngle (Between LeftBrace (AreGroupLines old) RightBrace))))) (After Group (Then (AnyWord new) (Mapped (λ (x : Bool × (List Assignment × List DoneLine)). x.1) (Then MaybeAngle (Between LeftBrace (AreGroupLines new) RightBrace))))) (Both IsCalName LinesAreWritten) (passes-either R same (Mapped (λ (t : Terminal). true) (One Comb)) (Mapped (λ (t : Terminal). true) (One Comb)) (Empty false) (Empty false) AnyBool (passes-one R same Comb (λ (t : Terminal). true) (λ (t : Terminal). true) AnyBool (λ t u r e. (tt, refl))) (passes-empty R same false AnyBool tt)) (passes-mark R same Group (Then (AnyWord old) (Mapped (λ (x : Bool × (List Assignment × List DoneLine)). x.1) (Then MaybeAngle (Between LeftBrace (AreGroupLines old) RightBrace)))) (Then (AnyWord new) (Mapped (λ (x : Bool × (List Assignment × List DoneLine)). x.1) (Then MaybeAngle (Between LeftBrace (AreGroupLines new) RightBrace)))) (Both IsCalName LinesAreWritten) (passes-then R same (AnyWord old) (AnyWord new) IsCalName (Mapped (λ (x : Bool × (List Assignment × List DoneLine)). x.1) (Then MaybeAngle (Between LeftBrace (AreGroupLines old) RightBrace))) (Mapped (λ (x : Bool × (List Assignment × List DoneLine)). x.1) (Then MaybeAngle (Between LeftBrace (AreGroupLines new) RightBrace))) LinesAreWritten (passes-any_word Cal old new) (passes-mapped R same (λ (x : Bool × (List Assignment × List DoneLine)). x.1) (Then MaybeAngle (Between LeftBrace (AreGroupLines old) RightBrace)) (Then MaybeAngle (Between LeftBrace (AreGroupLines new) RightBrace)) (Both AnyBool LinesAreWritten) LinesAreWritten (passes-then R same MaybeAngle MaybeAngle AnyBool (Between LeftBrace (AreGroupLines old) RightBrace) (Between LeftBrace (AreGroupLines new) RightBrace) LinesAreWritten passes-angle (passes-between R same LeftBrace RightBrace (AreGroupLines old) (AreGroupLines new) LinesAreWritten passes-lines)) (λ x q. q.1))))) (λ x q. (q.1.0, q.1.1)))

  passes-wire : Passes R (IsWire old) (IsWire new) WireIsWritten
  passes-wire = (passes-mapped R same (λ (x : Bool × Wire). x.1) (Then AreAttributes (Either (Mapped GroupWire (IsGroup old)) (Mapped AssignmentWire (IsAssignment old)))) (Then AreAttributes (Either (Mapped GroupWire (IsGroup new)) (Mapped AssignmentWire (IsAssignment new)))) (Both AnyBool WireIsWritten) WireIsWritten (passes-then R same AreAttributes AreAttributes AnyBool (Either (Mapped GroupWire (IsGroup old)) (Mapped AssignmentWire (IsAssignment old))) (Either (Mapped GroupWire (IsGroup new)) (Mapped AssignmentWire (IsAssignment new))) WireIsWritten passes-attributes (passes-either R same (Mapped GroupWire (IsGroup old)) (Mapped GroupWire (IsGroup new)) (Mapped AssignmentWire (IsAssignment old)) (Mapped AssignmentWire (IsAssignment new)) WireIsWritten (passes-mapped R same GroupWire (IsGroup old) (IsGroup new) GroupIsWritten WireIsWritten passes-group (λ x q. q)) (passes-mapped R same AssignmentWire (IsAssignment old) (IsAssignment new) AssignmentIsWritten WireIsWritten passes-assignment (λ x q. q)))) (λ x q. q.1))

  passes-wires : Passes R (AreWires old) (AreWires new) WiresAreWritten
  passes-wires = (passes-mark R same Wires (Between LeftBrace (Mapped wires_from (Many (IsWire old))) RightBrace) (Between LeftBrace (Mapped wires_from (Many (IsWire new))) RightBrace) WiresAreWritten (passes-between R same LeftBrace RightBrace (Mapped wires_from (Many (IsWire old))) (Mapped wires_from (Many (IsWire new))) WiresAreWritten (passes-mapped R same wires_from (Many (IsWire old)) (Many (IsWire new)) (AllByRecursion WireIsWritten) WiresAreWritten (passes-many R same (IsWire old) (IsWire new) WireIsWritten passes-wire) wires_written)))

  passes-in_binding : Passes R (IsInBinding old) (IsInBinding new) InIsWritten
  passes-in_binding = (passes-mapped R same in_from (Then (Closed (AnyWord old) Equals) (IsSource old)) (Then (Closed (AnyWord new) Equals) (IsSource new)) (Both IsCalName SourceIsWritten) InIsWritten (passes-then R same (Closed (AnyWord old) Equals) (Closed (AnyWord new) Equals) IsCalName (IsSource old) (IsSource new) SourceIsWritten (passes-closed R same Equals (AnyWord old) (AnyWord new) IsCalName (passes-any_word Cal old new)) passes-source) (λ x q. q))

  passes-out_binding : Passes R (IsOutBinding old) (IsOutBinding new) OutIsWritten
  passes-out_binding = (passes-mapped R same out_from (Then (Closed (AnyWord old) Equals) (IsPort old)) (Then (Closed (AnyWord new) Equals) (IsPort new)) (Both IsCalName PortIsWritten) OutIsWritten (passes-then R same (Closed (AnyWord old) Equals) (Closed (AnyWord new) Equals) IsCalName (IsPort old) (IsPort new) PortIsWritten (passes-closed R same Equals (AnyWord old) (AnyWord new) IsCalName (passes-any_word Cal old new)) passes-port) (λ x q. q))

  passes-enable : Passes R (IsEnable old) (IsEnable new) StatementIsWritten
  passes-enable = (passes-mapped R same tree.Enable (Closed (AnyWord old) Semicolon) (Closed (AnyWord new) Semicolon) IsCalName StatementIsWritten (passes-closed R same Semicolon (AnyWord old) (AnyWord new) IsCalName (passes-any_word Cal old new)) (λ x q. q))

  passes-condition : Passes R (IsCondition old) (IsCondition new) ConditionIsWritten
  passes-condition = (passes-weaker R same (Then (IsPort old) (Optional (After With (AnyWord old)))) (Then (IsPort new) (Optional (After With (AnyWord new)))) (Both PortIsWritten (OfSome IsCalName)) ConditionIsWritten (passes-then R same (IsPort old) (IsPort new) PortIsWritten (Optional (After With (AnyWord old))) (Optional (After With (AnyWord new))) (OfSome IsCalName) passes-port (passes-optional R same (After With (AnyWord old)) (After With (AnyWord new)) IsCalName (passes-mark R same With (AnyWord old) (AnyWord new) IsCalName (passes-any_word Cal old new)))) condition_written)

  passes-invoke : Passes R (IsInvoke old) (IsInvoke new) StatementIsWritten
  passes-invoke = (passes-mapped R same invoke_from (After Invoke (Then (AnyWord old) (Then (Between LeftParen (Listed Comma (IsInBinding old)) RightParen) (Closed (Between LeftParen (Listed Comma (IsOutBinding old)) RightParen) Semicolon)))) (After Invoke (Then (AnyWord new) (Then (Between LeftParen (Listed Comma (IsInBinding new)) RightParen) (Closed (Between LeftParen (Listed Comma (IsOutBinding new)) RightParen) Semicolon)))) (Both IsCalName (Both (AllByRecursion InIsWritten) (AllByRecursion OutIsWritten))) StatementIsWritten (passes-mark R same Invoke (Then (AnyWord old) (Then (Between LeftParen (Listed Comma (IsInBinding old)) RightParen) (Closed (Between LeftParen (Listed Comma (IsOutBinding old)) RightParen) Semicolon))) (Then (AnyWord new) (Then (Between LeftParen (Listed Comma (IsInBinding new)) RightParen) (Closed (Between LeftParen (Listed Comma (IsOutBinding new)) RightParen) Semicolon))) (Both IsCalName (Both (AllByRecursion InIsWritten) (AllByRecursion OutIsWritten))) (passes-then R same (AnyWord old) (AnyWord new) IsCalName (Then (Between LeftParen (Listed Comma (IsInBinding old)) RightParen) (Closed (Between LeftParen (Listed Comma (IsOutBinding old)) RightParen) Semicolon)) (Then (Between LeftParen (Listed Comma (IsInBinding new)) RightParen) (Closed (Between LeftParen (Listed Comma (IsOutBinding new)) RightParen) Semicolon)) (Both (AllByRecursion InIsWritten) (AllByRecursion OutIsWritten)) (passes-any_word Cal old new) (passes-then R same (Between LeftParen (Listed Comma (IsInBinding old)) RightParen) (Between LeftParen (Listed Comma (IsInBinding new)) RightParen) (AllByRecursion InIsWritten) (Closed (Between LeftParen (Listed Comma (IsOutBinding old)) RightParen) Semicolon) (Closed (Between LeftParen (Listed Comma (IsOutBinding new)) RightParen) Semicolon) (AllByRecursion OutIsWritten) (passes-between R same LeftParen RightParen (Listed Comma (IsInBinding old)) (Listed Comma (IsInBinding new)) (AllByRecursion InIsWritten) (passes-listed R same Comma (IsInBinding old) (IsInBinding new) InIsWritten passes-in_binding)) (passes-closed R same Semicolon (Between LeftParen (Listed Comma (IsOutBinding old)) RightParen) (Between LeftParen (Listed Comma (IsOutBinding new)) RightParen) (AllByRecursion OutIsWritten) (passes-between R same LeftParen RightParen (Listed Comma (IsOutBinding old)) (Listed Comma (IsOutBinding new)) (AllByRecursion OutIsWritten) (passes-listed R same Comma (IsOutBinding old) (IsOutBinding new) OutIsWritten passes-out_binding)))))) (λ x q. q))

  passes-statement-to : (d : ℕ) → Passes R (StatementTo old d) (StatementTo new d) StatementIsWritten
  passes-statement-to zero = passes-enable
  passes-statement-to (suc d) = (passes-mapped R same (λ (x : Bool × Statement). x.1) (Then AreAttributes (Either (IsEnable old) (Either (Mapped seq_from (After Seq (Between LeftBrace (Many (StatementTo old d)) RightBrace))) (Either (Mapped par_from (After Par (Between LeftBrace (Many (StatementTo old d)) RightBrace))) (Either (Mapped if_from (After If (Then (IsCondition old) (Then (Mapped branch_from (Between LeftBrace (Many (StatementTo old d)) RightBrace)) (Either (After Else (Mapped branch_from (Between LeftBrace (Many (StatementTo old d)) RightBrace))) (Empty (branch_from []))))))) (Either (Mapped while_from (After While (Then (IsCondition old) (Mapped branch_from (Between LeftBrace (Many (StatementTo old d)) RightBrace))))) (IsInvoke old))))))) (Then AreAttributes (Either (IsEnable new) (Either (Mapped seq_from (After Seq (Between LeftBrace (Many (StatementTo new d)) RightBrace))) (Either (Mapped par_from (After Par (Between LeftBrace (Many (StatementTo new d)) RightBrace))) (Either (Mapped if_from (After If (Then (IsCondition new) (Then (Mapped branch_from (Between LeftBrace (Many (StatementTo new d)) RightBrace)) (Either (After Else (Mapped branch_from (Between LeftBrace (Many (StatementTo new d)) RightBrace))) (Empty (branch_from []))))))) (Either (Mapped while_from (After While (Then (IsCondition new) (Mapped branch_from (Between LeftBrace (Many (StatementTo new d)) RightBrace))))) (IsInvoke new))))))) (Both AnyBool StatementIsWritten) StatementIsWritten (passes-then R same AreAttributes AreAttributes AnyBool (Either (IsEnable old) (Either (Mapped seq_from (After Seq (Between LeftBrace (Many (StatementTo old d)) RightBrace))) (Either (Mapped par_from (After Par (Between LeftBrace (Many (StatementTo old d)) RightBrace))) (Either (Mapped if_from (After If (Then (IsCondition old) (Then (Mapped branch_from (Between LeftBrace (Many (StatementTo old d)) RightBrace)) (Either (After Else (Mapped branch_from (Between LeftBrace (Many (StatementTo old d)) RightBrace))) (Empty (branch_from []))))))) (Either (Mapped while_from (After While (Then (IsCondition old) (Mapped branch_from (Between LeftBrace (Many (StatementTo old d)) RightBrace))))) (IsInvoke old)))))) (Either (IsEnable new) (Either (Mapped seq_from (After Seq (Between LeftBrace (Many (StatementTo new d)) RightBrace))) (Either (Mapped par_from (After Par (Between LeftBrace (Many (StatementTo new d)) RightBrace))) (Either (Mapped if_from (After If (Then (IsCondition new) (Then (Mapped branch_from (Between LeftBrace (Many (StatementTo new d)) RightBrace)) (Either (After Else (Mapped branch_from (Between LeftBrace (Many (StatementTo new d)) RightBrace))) (Empty (branch_from []))))))) (Either (Mapped while_from (After While (Then (IsCondition new) (Mapped branch_from (Between LeftBrace (Many (StatementTo new d)) RightBrace))))) (IsInvoke new)))))) StatementIsWritten passes-attributes (passes-either R same (IsEnable old) (IsEnable new) (Either (Mapped seq_from (After Seq (Between LeftBrace (Many (StatementTo old d)) RightBrace))) (Either (Mapped par_from (After Par (Between LeftBrace (Many (StatementTo old d)) RightBrace))) (Either (Mapped if_from (After If (Then (IsCondition old) (Then (Mapped branch_from (Between LeftBrace (Many (StatementTo old d)) RightBrace)) (Either (After Else (Mapped branch_from (Between LeftBrace (Many (StatementTo old d)) RightBrace))) (Empty (branch_from []))))))) (Either (Mapped while_from (After While (Then (IsCondition old) (Mapped branch_from (Between LeftBrace (Many (StatementTo old d)) RightBrace))))) (IsInvoke old))))) (Either (Mapped seq_from (After Seq (Between LeftBrace (Many (StatementTo new d)) RightBrace))) (Either (Mapped par_from (After Par (Between LeftBrace (Many (StatementTo new d)) RightBrace))) (Either (Mapped if_from (After If (Then (IsCondition new) (Then (Mapped branch_from (Between LeftBrace (Many (StatementTo new d)) RightBrace)) (Either (After Else (Mapped branch_from (Between LeftBrace (Many (StatementTo new d)) RightBrace))) (Empty (branch_from []))))))) (Either (Mapped while_from (After While (Then (IsCondition new) (Mapped branch_from (Between LeftBrace (Many (StatementTo new d)) RightBrace))))) (IsInvoke new))))) StatementIsWritten passes-enable (passes-either R same (Mapped seq_from (After Seq (Between LeftBrace (Many (StatementTo old d)) RightBrace))) (Mapped seq_from (After Seq (Between LeftBrace (Many (StatementTo new d)) RightBrace))) (Either (Mapped par_from (After Par (Between LeftBrace (Many (StatementTo old d)) RightBrace))) (Either (Mapped if_from (After If (Then (IsCondition old) (Then (Mapped branch_from (Between LeftBrace (Many (StatementTo old d)) RightBrace)) (Either (After Else (Mapped branch_from (Between LeftBrace (Many (StatementTo old d)) RightBrace))) (Empty (branch_from []))))))) (Either (Mapped while_from (After While (Then (IsCondition old) (Mapped branch_from (Between LeftBrace (Many (StatementTo old d)) RightBrace))))) (IsInvoke old)))) (Either (Mapped par_from (After Par (Between LeftBrace (Many (StatementTo new d)) RightBrace))) (Either (Mapped if_from (After If (Then (IsCondition new) (Then (Mapped branch_from (Between LeftBrace (Many (StatementTo new d)) RightBrace)) (Either (After Else (Mapped branch_from (Between LeftBrace (Many (StatementTo new d)) RightBrace))) (Empty (branch_from []))))))) (Either (Mapped while_from (After While (Then (IsCondition new) (Mapped branch_from (Between LeftBrace (Many (StatementTo new d)) RightBrace))))) (IsInvoke new)))) StatementIsWritten (passes-mapped R same seq_from (After Seq (Between LeftBrace (Many (StatementTo old d)) RightBrace)) (After Seq (Between LeftBrace (Many (StatementTo new d)) RightBrace)) (AllByRecursion StatementIsWritten) StatementIsWritten (passes-mark R same Seq (Between LeftBrace (Many (StatementTo old d)) RightBrace) (Between LeftBrace (Many (StatementTo new d)) RightBrace) (AllByRecursion StatementIsWritten) (passes-between R same LeftBrace RightBrace (Many (StatementTo old d)) (Many (StatementTo new d)) (AllByRecursion StatementIsWritten) (passes-many R same (StatementTo old d) (StatementTo new d) StatementIsWritten (passes-statement-to d)))) seq_written) (passes-either R same (Mapped par_from (After Par (Between LeftBrace (Many (StatementTo old d)) RightBrace))) (Mapped par_from (After Par (Between LeftBrace (Many (StatementTo new d)) RightBrace))) (Either (Mapped if_from (After If (Then (IsCondition old) (Then (Mapped branch_from (Between LeftBrace (Many (StatementTo old d)) RightBrace)) (Either (After Else (Mapped branch_from (Between LeftBrace (Many (StatementTo old d)) RightBrace))) (Empty (branch_from []))))))) (Either (Mapped while_from (After While (Then (IsCondition old) (Mapped branch_from (Between LeftBrace (Many (StatementTo old d)) RightBrace))))) (IsInvoke old))) (Either (Mapped if_from (After If (Then (IsCondition new) (Then (Mapped branch_from (Between LeftBrace (Many (StatementTo new d)) RightBrace)) (Either (After Else (Mapped branch_from (Between LeftBrace (Many (StatementTo new d)) RightBrace))) (Empty (branch_from []))))))) (Either (Mapped while_from (After While (Then (IsCondition new) (Mapped branch_from (Between LeftBrace (Many (StatementTo new d)) RightBrace))))) (IsInvoke new))) StatementIsWritten (passes-mapped R same par_from (After Par (Between LeftBrace (Many (StatementTo old d)) RightBrace)) (After Par (Between LeftBrace (Many (StatementTo new d)) RightBrace)) (AllByRecursion StatementIsWritten) StatementIsWritten (passes-mark R same Par (Between LeftBrace (Many (StatementTo old d)) RightBrace) (Between LeftBrace (Many (StatementTo new d)) RightBrace) (AllByRecursion StatementIsWritten) (passes-between R same LeftBrace RightBrace (Many (StatementTo old d)) (Many (StatementTo new d)) (AllByRecursion StatementIsWritten) (passes-many R same (StatementTo old d) (StatementTo new d) StatementIsWritten (passes-statement-to d)))) seq_written) (passes-either R same (Mapped if_from (After If (Then (IsCondition old) (Then (Mapped branch_from (Between LeftBrace (Many (StatementTo old d)) RightBrace)) (Either (After Else (Mapped branch_from (Between LeftBrace (Many (StatementTo old d)) RightBrace))) (Empty (branch_from []))))))) (Mapped if_from (After If (Then (IsCondition new) (Then (Mapped branch_from (Between LeftBrace (Many (StatementTo new d)) RightBrace)) (Either (After Else (Mapped branch_from (Between LeftBrace (Many (StatementTo new d)) RightBrace))) (Empty (branch_from []))))))) (Either (Mapped while_from (After While (Then (IsCondition old) (Mapped branch_from (Between LeftBrace (Many (StatementTo old d)) RightBrace))))) (IsInvoke old)) (Either (Mapped while_from (After While (Then (IsCondition new) (Mapped branch_from (Between LeftBrace (Many (StatementTo new d)) RightBrace))))) (IsInvoke new)) StatementIsWritten (passes-mapped R same if_from (After If (Then (IsCondition old) (Then (Mapped branch_from (Between LeftBrace (Many (StatementTo old d)) RightBrace)) (Either (After Else (Mapped branch_from (Between LeftBrace (Many (StatementTo old d)) RightBrace))) (Empty (branch_from [])))))) (After If (Then (IsCondition new) (Then (Mapped branch_from (Between LeftBrace (Many (StatementTo new d)) RightBrace)) (Either (After Else (Mapped branch_from (Between LeftBrace (Many (StatementTo new d)) RightBrace))) (Empty (branch_from [])))))) (Both ConditionIsWritten (Both StatementIsWritten StatementIsWritten)) StatementIsWritten (passes-mark R same If (Then (IsCondition old) (Then (Mapped branch_from (Between LeftBrace (Many (StatementTo old d)) RightBrace)) (Either (After Else (Mapped branch_from (Between LeftBrace (Many (StatementTo old d)) RightBrace))) (Empty (branch_from []))))) (Then (IsCondition new) (Then (Mapped branch_from (Between LeftBrace (Many (StatementTo new d)) RightBrace)) (Either (After Else (Mapped branch_from (Between LeftBrace (Many (StatementTo new d)) RightBrace))) (Empty (branch_from []))))) (Both ConditionIsWritten (Both StatementIsWritten StatementIsWritten)) (passes-then R same (IsCondition old) (IsCondition new) ConditionIsWritten (Then (Mapped branch_from (Between LeftBrace (Many (StatementTo old d)) RightBrace)) (Either (After Else (Mapped branch_from (Between LeftBrace (Many (StatementTo old d)) RightBrace))) (Empty (branch_from [])))) (Then (Mapped branch_from (Between LeftBrace (Many (StatementTo new d)) RightBrace)) (Either (After Else (Mapped branch_from (Between LeftBrace (Many (StatementTo new d)) RightBrace))) (Empty (branch_from [])))) (Both StatementIsWritten StatementIsWritten) passes-condition (passes-then R same (Mapped branch_from (Between LeftBrace (Many (StatementTo old d)) RightBrace)) (Mapped branch_from (Between LeftBrace (Many (StatementTo new d)) RightBrace)) StatementIsWritten (Either (After Else (Mapped branch_from (Between LeftBrace (Many (StatementTo old d)) RightBrace))) (Empty (branch_from []))) (Either (After Else (Mapped branch_from (Between LeftBrace (Many (StatementTo new d)) RightBrace))) (Empty (branch_from []))) StatementIsWritten (passes-mapped R same branch_from (Between LeftBrace (Many (StatementTo old d)) RightBrace) (Between LeftBrace (Many (StatementTo new d)) RightBrace) (AllByRecursion StatementIsWritten) StatementIsWritten (passes-between R same LeftBrace RightBrace (Many (StatementTo old d)) (Many (StatementTo new d)) (AllByRecursion StatementIsWritten) (passes-many R same (StatementTo old d) (StatementTo new d) StatementIsWritten (passes-statement-to d))) branch_written) (passes-either R same (After Else (Mapped branch_from (Between LeftBrace (Many (StatementTo old d)) RightBrace))) (After Else (Mapped branch_from (Between LeftBrace (Many (StatementTo new d)) RightBrace))) (Empty (branch_from [])) (Empty (branch_from [])) StatementIsWritten (passes-mark R same Else (Mapped branch_from (Between LeftBrace (Many (StatementTo old d)) RightBrace)) (Mapped branch_from (Between LeftBrace (Many (StatementTo new d)) RightBrace)) StatementIsWritten (passes-mapped R same branch_from (Between LeftBrace (Many (StatementTo old d)) RightBrace) (Between LeftBrace (Many (StatementTo new d)) RightBrace) (AllByRecursion StatementIsWritten) StatementIsWritten (passes-between R same LeftBrace RightBrace (Many (StatementTo old d)) (Many (StatementTo new d)) (AllByRecursion StatementIsWritten) (passes-many R same (StatementTo old d) (StatementTo new d) StatementIsWritten (passes-statement-to d))) branch_written)) (passes-empty R same (branch_from []) StatementIsWritten tt))))) (λ x q. (q.0.0, (q.0.1, (q.1.0, q.1.1))))) (passes-either R same (Mapped while_from (After While (Then (IsCondition old) (Mapped branch_from (Between LeftBrace (Many (StatementTo old d)) RightBrace))))) (Mapped while_from (After While (Then (IsCondition new) (Mapped branch_from (Between LeftBrace (Many (StatementTo new d)) RightBrace))))) (IsInvoke old) (IsInvoke new) StatementIsWritten (passes-mapped R same while_from (After While (Then (IsCondition old) (Mapped branch_from (Between LeftBrace (Many (StatementTo old d)) RightBrace)))) (After While (Then (IsCondition new) (Mapped branch_from (Between LeftBrace (Many (StatementTo new d)) RightBrace)))) (Both ConditionIsWritten StatementIsWritten) StatementIsWritten (passes-mark R same While (Then (IsCondition old) (Mapped branch_from (Between LeftBrace (Many (StatementTo old d)) RightBrace))) (Then (IsCondition new) (Mapped branch_from (Between LeftBrace (Many (StatementTo new d)) RightBrace))) (Both ConditionIsWritten StatementIsWritten) (passes-then R same (IsCondition old) (IsCondition new) ConditionIsWritten (Mapped branch_from (Between LeftBrace (Many (StatementTo old d)) RightBrace)) (Mapped branch_from (Between LeftBrace (Many (StatementTo new d)) RightBrace)) StatementIsWritten passes-condition (passes-mapped R same branch_from (Between LeftBrace (Many (StatementTo old d)) RightBrace) (Between LeftBrace (Many (StatementTo new d)) RightBrace) (AllByRecursion StatementIsWritten) StatementIsWritten (passes-between R same LeftBrace RightBrace (Many (StatementTo old d)) (Many (StatementTo new d)) (AllByRecursion StatementIsWritten) (passes-many R same (StatementTo old d) (StatementTo new d) StatementIsWritten (passes-statement-to d))) branch_written))) (λ x q. (q.0.0, (q.0.1, q.1)))) passes-invoke)))))) (λ x q. q.1))

  passes-statement : Passes R (IsStatement old) (IsStatement new) StatementIsWritten
  passes-statement ts us a rest pairs (d, l) = let k = passes-statement-to d ts us a rest pairs l in (k.0, (k.1.0, k.1.1, (d, k.1.2)))

  passes-control : Passes R (MaybeControl old) (MaybeControl new) ControlIsWritten
  passes-control = (passes-either R same (Mapped control_from (After Control (Between LeftBrace (Many (IsStatement old)) RightBrace))) (Mapped control_from (After Control (Between LeftBrace (Many (IsStatement new)) RightBrace))) (Empty tree.Absent) (Empty tree.Absent) ControlIsWritten (passes-mapped R same control_from (After Control (Between LeftBrace (Many (IsStatement old)) RightBrace)) (After Control (Between LeftBrace (Many (IsStatement new)) RightBrace)) (AllByRecursion StatementIsWritten) ControlIsWritten (passes-mark R same Control (Between LeftBrace (Many (IsStatement old)) RightBrace) (Between LeftBrace (Many (IsStatement new)) RightBrace) (AllByRecursion StatementIsWritten) (passes-between R same LeftBrace RightBrace (Many (IsStatement old)) (Many (IsStatement new)) (AllByRecursion StatementIsWritten) (passes-many R same (IsStatement old) (IsStatement new) StatementIsWritten passes-statement))) control_written) (passes-empty R same tree.Absent ControlIsWritten tt))

  passes-maybe_outputs : Passes R (MaybeOutputs old) (MaybeOutputs new) (AllByRecursion PinIsWritten)
  passes-maybe_outputs = (passes-either R same (After Arrow (AreOutputs old)) (After Arrow (AreOutputs new)) (Empty []) (Empty []) (AllByRecursion PinIsWritten) (passes-mark R same Arrow (AreOutputs old) (AreOutputs new) (AllByRecursion PinIsWritten) passes-outputs) (passes-empty R same {A = List Pin} [] (AllByRecursion PinIsWritten) tt))

  passes-cells : Passes R (AreCells old) (AreCells new) (AllByRecursion CellIsWritten)
  passes-cells = (passes-mark R same Cells (Between LeftBrace (Many (IsCell old)) RightBrace) (Between LeftBrace (Many (IsCell new)) RightBrace) (AllByRecursion CellIsWritten) (passes-between R same LeftBrace RightBrace (Many (IsCell old)) (Many (IsCell new)) (AllByRecursion CellIsWritten) (passes-many R same (IsCell old) (IsCell new) CellIsWritten passes-cell)))

  passes-body : Passes R (IsComponentBody old) (IsComponentBody new) (Both (AllByRecursion CellIsWritten) (Both WiresAreWritten ControlIsWritten))
  passes-body = (passes-between R same LeftBrace RightBrace (Then (AreCells old) (Then (AreWires old) (MaybeControl old))) (Then (AreCells new) (Then (AreWires new) (MaybeControl new))) (Both (AllByRecursion CellIsWritten) (Both WiresAreWritten ControlIsWritten)) (passes-then R same (AreCells old) (AreCells new) (AllByRecursion CellIsWritten) (Then (AreWires old) (MaybeControl old)) (Then (AreWires new) (MaybeControl new)) (Both WiresAreWritten ControlIsWritten) passes-cells (passes-then R same (AreWires old) (AreWires new) WiresAreWritten (MaybeControl old) (MaybeControl new) ControlIsWritten passes-wires passes-control)))

  passes-component : Passes R (IsComponent old) (IsComponent new) ComponentIsWritten
  passes-component = (passes-mapped R same (λ (x : Bool × tree.Component). x.1) (Then AreAttributes (Mapped component_from (After Component (Then (AnyWord old) (Mapped (λ (x : Bool × (List Pin × (List Pin × (List CellDef × ((List GroupDef × List Assignment) × ControlSection))))). x.1) (Then MaybeAngle (Then (AreInputs old) (Then (MaybeOutputs old) (IsComponentBody old))))))))) (Then AreAttributes (Mapped component_from (After Component (Then (AnyWord new) (Mapped (λ (x : Bool × (List Pin × (List Pin × (List CellDef × ((List GroupDef × List Assignment) × ControlSection))))). x.1) (Then MaybeAngle (Then (AreInputs new) (Then (MaybeOutputs new) (IsComponentBody new))))))))) (Both AnyBool ComponentIsWritten) ComponentIsWritten (passes-then R same AreAttributes AreAttributes AnyBool (Mapped component_from (After Component (Then (AnyWord old) (Mapped (λ (x : Bool × (List Pin × (List Pin × (List CellDef × ((List GroupDef × List Assignment) × ControlSection))))). x.1) (Then MaybeAngle (Then (AreInputs old) (Then (MaybeOutputs old) (IsComponentBody old)))))))) (Mapped component_from (After Component (Then (AnyWord new) (Mapped (λ (x : Bool × (List Pin × (List Pin × (List CellDef × ((List GroupDef × List Assignment) × ControlSection))))). x.1) (Then MaybeAngle (Then (AreInputs new) (Then (MaybeOutputs new) (IsComponentBody new)))))))) ComponentIsWritten passes-attributes (passes-mapped R same component_from (After Component (Then (AnyWord old) (Mapped (λ (x : Bool × (List Pin × (List Pin × (List CellDef × ((List GroupDef × List Assignment) × ControlSection))))). x.1) (Then MaybeAngle (Then (AreInputs old) (Then (MaybeOutputs old) (IsComponentBody old))))))) (After Component (Then (AnyWord new) (Mapped (λ (x : Bool × (List Pin × (List Pin × (List CellDef × ((List GroupDef × List Assignment) × ControlSection))))). x.1) (Then MaybeAngle (Then (AreInputs new) (Then (MaybeOutputs new) (IsComponentBody new))))))) (Both IsCalName (Both (AllByRecursion InputIsWritten) (Both (AllByRecursion PinIsWritten) (Both (AllByRecursion CellIsWritten) (Both WiresAreWritten ControlIsWritten))))) ComponentIsWritten (passes-mark R same Component (Then (AnyWord old) (Mapped (λ (x : Bool × (List Pin × (List Pin × (List CellDef × ((List GroupDef × List Assignment) × ControlSection))))). x.1) (Then MaybeAngle (Then (AreInputs old) (Then (MaybeOutputs old) (IsComponentBody old)))))) (Then (AnyWord new) (Mapped (λ (x : Bool × (List Pin × (List Pin × (List CellDef × ((List GroupDef × List Assignment) × ControlSection))))). x.1) (Then MaybeAngle (Then (AreInputs new) (Then (MaybeOutputs new) (IsComponentBody new)))))) (Both IsCalName (Both (AllByRecursion InputIsWritten) (Both (AllByRecursion PinIsWritten) (Both (AllByRecursion CellIsWritten) (Both WiresAreWritten ControlIsWritten))))) (passes-then R same (AnyWord old) (AnyWord new) IsCalName (Mapped (λ (x : Bool × (List Pin × (List Pin × (List CellDef × ((List GroupDef × List Assignment) × ControlSection))))). x.1) (Then MaybeAngle (Then (AreInputs old) (Then (MaybeOutputs old) (IsComponentBody old))))) (Mapped (λ (x : Bool × (List Pin × (List Pin × (List CellDef × ((List GroupDef × List Assignment) × ControlSection))))). x.1) (Then MaybeAngle (Then (AreInputs new) (Then (MaybeOutputs new) (IsComponentBody new))))) (Both (AllByRecursion InputIsWritten) (Both (AllByRecursion PinIsWritten) (Both (AllByRecursion CellIsWritten) (Both WiresAreWritten ControlIsWritten)))) (passes-any_word Cal old new) (passes-mapped R same (λ (x : Bool × (List Pin × (List Pin × (List CellDef × ((List GroupDef × List Assignment) × ControlSection))))). x.1) (Then MaybeAngle (Then (AreInputs old) (Then (MaybeOutputs old) (IsComponentBody old)))) (Then MaybeAngle (Then (AreInputs new) (Then (MaybeOutputs new) (IsComponentBody new)))) (Both AnyBool (Both (AllByRecursion InputIsWritten) (Both (AllByRecursion PinIsWritten) (Both (AllByRecursion CellIsWritten) (Both WiresAreWritten ControlIsWritten))))) (Both (AllByRecursion InputIsWritten) (Both (AllByRecursion PinIsWritten) (Both (AllByRecursion CellIsWritten) (Both WiresAreWritten ControlIsWritten)))) (passes-then R same MaybeAngle MaybeAngle AnyBool (Then (AreInputs old) (Then (MaybeOutputs old) (IsComponentBody old))) (Then (AreInputs new) (Then (MaybeOutputs new) (IsComponentBody new))) (Both (AllByRecursion InputIsWritten) (Both (AllByRecursion PinIsWritten) (Both (AllByRecursion CellIsWritten) (Both WiresAreWritten ControlIsWritten)))) passes-angle (passes-then R same (AreInputs old) (AreInputs new) (AllByRecursion InputIsWritten) (Then (MaybeOutputs old) (IsComponentBody old)) (Then (MaybeOutputs new) (IsComponentBody new)) (Both (AllByRecursion PinIsWritten) (Both (AllByRecursion CellIsWritten) (Both WiresAreWritten ControlIsWritten))) passes-inputs (passes-then R same (MaybeOutputs old) (MaybeOutputs new) (AllByRecursion PinIsWritten) (IsComponentBody old) (IsComponentBody new) (Both (AllByRecursion CellIsWritten) (Both WiresAreWritten ControlIsWritten)) passes-maybe_outputs passes-body))) (λ x q. q.1)))) component_written)) (λ x q. q.1))

  passes-import : Passes R IsImport IsImport AnyUnit
  passes-import = (passes-mark R same Import (Closed (Mapped (λ (t : Terminal). tt) (One sorts.Text)) Semicolon) (Closed (Mapped (λ (t : Terminal). tt) (One sorts.Text)) Semicolon) AnyUnit (passes-closed R same Semicolon (Mapped (λ (t : Terminal). tt) (One sorts.Text)) (Mapped (λ (t : Terminal). tt) (One sorts.Text)) AnyUnit (passes-one R same sorts.Text (λ (t : Terminal). tt) (λ (t : Terminal). tt) AnyUnit (λ t u r e. (tt, refl)))))

  passes-imports : Passes R AreImports AreImports AnyUnit
  passes-imports = (passes-mapped R same (λ (x : List (Unit {0})). tt) (Many IsImport) (Many IsImport) (AllByRecursion AnyUnit) AnyUnit (passes-many R same IsImport IsImport AnyUnit passes-import) (λ x q. tt))

  pub passes-file : Passes R (IsFile old) (IsFile new) DesignIsWritten
  passes-file = (passes-mapped R same (λ (x : Unit {0} × Design). x.1) (Then AreImports (Mapped design_from (Then (IsComponent old) (Many (IsComponent old))))) (Then AreImports (Mapped design_from (Then (IsComponent new) (Many (IsComponent new))))) (Both AnyUnit DesignIsWritten) DesignIsWritten (passes-then R same AreImports AreImports AnyUnit (Mapped design_from (Then (IsComponent old) (Many (IsComponent old)))) (Mapped design_from (Then (IsComponent new) (Many (IsComponent new)))) DesignIsWritten passes-imports (passes-mapped R same design_from (Then (IsComponent old) (Many (IsComponent old))) (Then (IsComponent new) (Many (IsComponent new))) (Both ComponentIsWritten (AllByRecursion ComponentIsWritten)) DesignIsWritten (passes-then R same (IsComponent old) (IsComponent new) ComponentIsWritten (Many (IsComponent old)) (Many (IsComponent new)) (AllByRecursion ComponentIsWritten) passes-component (passes-many R same (IsComponent old) (IsComponent new) ComponentIsWritten passes-component)) (λ x q. ((λ e. absurd cc), q)))) (λ x q. q.1))
