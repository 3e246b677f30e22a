-- The rules C1 to C12 of a design, place by place, and the first that is broken. Calyx documentation; the numbers and the order are this project's.
use Rattle.std.specs.Prelude.{◌≡◌, ℕ, ◌+◌, ◌<◌, List, [], ◌∷◌, map, take, slice_get, Some, All}
use Rattle.hw_names.specs.Name.{Text}
use Rattle.cal_ast.specs.Controlling.{HasDone, IsOnlyDone, MayHaveDone, EnablesGroup, HasCondition, Invokes}
use Rattle.cal_ast.specs.Items.{Item, TheSignature, TheCell, TheGroup, TheAssignment, TheDone, TheStatement, IsItem}
use Rattle.cal_ast.specs.Naming.{GroupNaming, Unreserved, HasNewNames, IsNewCell, IsNewGroup}
use Rattle.cal_ast.specs.Naming.{IsKnownCell, NamesKnown, DoneNamesKnown, StatementNamesKnown}
use Rattle.cal_ast.specs.Sides.{DrivesDestination, ReadsSources, DoneReadsSources, StatementDrives, StatementReads}
use Rattle.cal_ast.specs.Tree.{PortName, CellDef, Assignment, DoneLine, GroupDef, Statement, Component, Design}
use Rattle.cal_ast.specs.Typing.{HasWidths, HasParameters, WidthsAgree, DoneAgrees, StatementAgrees}
use Rattle.cal_ast.specs.Wires.{HasNoLoop, IsLeastLoop, shown}

-- the rules that are judged place by place; C12 is judged after them
pub data Rule : Type 0 where
  C1 : Rule
  C2 : Rule
  C3 : Rule
  C4 : Rule
  C5 : Rule
  C6 : Rule
  C7 : Rule
  C8 : Rule
  C9 : Rule
  C10 : Rule
  C11 : Rule

-- a rule at the signature, after these components
abbrev pub AtSignature : Rule → Design → Design → Component → Type 0
AtSignature C1 design earlier c = HasNewNames earlier c
AtSignature C4 design earlier c = HasWidths design c
AtSignature rule design earlier c = Unit {0}

-- a rule at a cell, after these cells
abbrev pub AtCell : Rule → Design → Component → List CellDef → CellDef → Type 0
AtCell C1 design c before cell = IsNewCell c before cell
AtCell C2 design c before cell = IsKnownCell design c cell
AtCell C3 design c before cell = HasParameters cell
AtCell rule design c before cell = Unit {0}

-- a rule at the header of a group, after these groups, where groups may have these names
abbrev pub AtGroup : Rule → GroupNaming → Component → List GroupDef → GroupDef → Type 0
AtGroup C1 naming c before g = IsNewGroup naming c before g
AtGroup C7 naming c before g = HasDone g
AtGroup rule naming c before g = Unit {0}

abbrev pub AtAssignment : Rule → Design → Component → Assignment → Type 0
AtAssignment C2 design c a = NamesKnown design c a
AtAssignment C4 design c a = WidthsAgree design c a
AtAssignment C5 design c a = DrivesDestination design c a
AtAssignment C6 design c a = ReadsSources design c a
AtAssignment rule design c a = Unit {0}

-- a rule at a done line of a group, after these done lines
abbrev pub AtDone : Rule → Design → Component → GroupDef → List DoneLine → DoneLine → Type 0
AtDone C2 design c g before d = DoneNamesKnown design c g d
AtDone C4 design c g before d = DoneAgrees design c d
AtDone C6 design c g before d = DoneReadsSources design c d
AtDone C7 design c g before d = IsOnlyDone design c g before d
AtDone C8 design c g before d = MayHaveDone g
AtDone rule design c g before d = Unit {0}

abbrev pub AtStatement : Rule → Design → Component → Statement → Type 0
AtStatement C2 design c s = StatementNamesKnown design c s
AtStatement C4 design c s = StatementAgrees design c s
AtStatement C5 design c s = StatementDrives design c s
AtStatement C6 design c s = StatementReads design c s
AtStatement C9 design c s = EnablesGroup c s
AtStatement C10 design c s = HasCondition design c s
AtStatement C11 design c s = Invokes design c s
AtStatement rule design c s = Unit {0}

-- the component of the design, after these, keeps the rule at the place
abbrev pub Keeps : GroupNaming → Design → Design → Component → Item → Rule → Type 0
Keeps naming design earlier c TheSignature rule = AtSignature rule design earlier c
Keeps naming design earlier c (TheCell before cell) rule = AtCell rule design c before cell
Keeps naming design earlier c (TheGroup before g) rule = AtGroup rule naming c before g
Keeps naming design earlier c (TheAssignment a) rule = AtAssignment rule design c a
Keeps naming design earlier c (TheDone g before d) rule = AtDone rule design c g before d
Keeps naming design earlier c (TheStatement s) rule = AtStatement rule design c s

-- the rules in their order
abbrev pub all_rules : List Rule
all_rules = C1 ∷ C2 ∷ C3 ∷ C4 ∷ C5 ∷ C6 ∷ C7 ∷ C8 ∷ C9 ∷ C10 ∷ C11 ∷ []

-- the component keeps the rules at item k
abbrev pub KeepsItem : GroupNaming → Design → Design → Component → ℕ → Type 0
KeepsItem naming design earlier c k = (item : Item) → IsItem c k item → All (Keeps naming design earlier c item) all_rules

-- and at every item
abbrev pub KeepsComponent : GroupNaming → Design → Design → Component → Type 0
KeepsComponent naming design earlier c = (k : ℕ) → KeepsItem naming design earlier c k

-- each component keeps C1 to C11, where groups may have these names
abbrev pub KeepsRulesUnder : GroupNaming → Design → Type 0
KeepsRulesUnder naming design =
    (n : ℕ) (c : Component) → slice_get design n ≡ Some c → KeepsComponent naming design (take n design) c

-- C1 to C11
abbrev pub KeepsRules : Design → Type 0
KeepsRules design = KeepsRulesUnder Unreserved design

-- C12: no component has a loop
abbrev pub HasNoLoops : Design → Type 0
HasNoLoops design = (n : ℕ) (c : Component) → slice_get design n ≡ Some c → HasNoLoop design c

-- rule number r of the list is the first that is broken, at item k of component n
pub record IsFirstBroken (design : Design) (n k r : ℕ) : Type 0 where
  pub c : Component
  pub at : slice_get design n ≡ Some c
  pub components : (m : ℕ) (earlier : Component) → m < n → slice_get design m ≡ Some earlier →
      KeepsComponent Unreserved design (take m design) earlier
  pub items : (j : ℕ) → j < k → KeepsItem Unreserved design (take n design) c j
  pub item : Item
  pub here : IsItem c k item
  pub lesser : (q : ℕ) (rule : Rule) → q < r → slice_get all_rules q ≡ Some rule → Keeps Unreserved design (take n design) c item rule
  pub rule : Rule
  pub numbered : slice_get all_rules r ≡ Some rule
  pub broken : ¬ Keeps Unreserved design (take n design) c item rule

-- C12, after all others: the first component that has a loop
pub record HasFirstLoop (design : Design) (n : ℕ) (first : PortName) (others : List PortName) : Type 0 where
  pub others_keep : KeepsRules design
  pub c : Component
  pub at : slice_get design n ≡ Some c
  pub components : (m : ℕ) (earlier : Component) → m < n → slice_get design m ≡ Some earlier → HasNoLoop design earlier
  pub loop : IsLeastLoop design c first others

-- C1 to C12
pub record CalRules (design : Design) : Type 0 where
  pub keeps : KeepsRules design
  pub no_loop : HasNoLoops design

-- the first broken rule, by its number, is broken at this item of a component of this name, and shows these ports
pub data IsRefusal (design : Design) (name : Text) (item : ℕ) (ports : List Text) : ℕ → Type 0 where
  BreaksRule : (n place : ℕ) (first : IsFirstBroken design n item place) → first.c.name ≡ name → ports ≡ [] →
      IsRefusal design name item ports (place + 1)
  HasLoop : (n : ℕ) (port : PortName) (others : List PortName) (loop : HasFirstLoop design n port others) → loop.c.name ≡ name →
      item ≡ 0 → ports ≡ map shown (port ∷ others) → IsRefusal design name item ports 12
