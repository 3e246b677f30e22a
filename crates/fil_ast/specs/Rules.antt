-- The rules F1 to F14 of a design, place by place, and the first that is broken. Filament, PLDI 2023; the order is this project's.
use Rattle.std.specs.Prelude.{◌≡◌, ℕ, ◌<◌, List, [], ◌∷◌, take, slice_get, Some, IfSome, All}
use Rattle.hw_names.specs.Name.{Text}
use Rattle.fil_ast.specs.Connections.{ConnectsOnce, ConnectsAll}
use Rattle.fil_ast.specs.Items.{Item, TheSignature, TheStatement, TheEnd, IsItem, scope_after, scope_with}
use Rattle.fil_ast.specs.Wires.{HasNoLoop, IsLeastLoop}
use Rattle.fil_ast.specs.Naming.{HasNewNames, MakesNewNames, NamesEvents, UsesKnownNames}
use Rattle.fil_ast.specs.Scope.{Scope, invocations_at}
use Rattle.fil_ast.specs.Sharing.{KeepsUsesApart, EndsInTime, TriggersWithInterface}
use Rattle.fil_ast.specs.Signature.{Signature}
use Rattle.fil_ast.specs.Timeline.{HasShortPorts, HoldsSome, ReadsAvailable, KeepsDelays}
use Rattle.fil_ast.specs.Tree.{Giving, Statement, New, Call, Both, Connect, Component, Design}
use Rattle.fil_ast.specs.Typing.{HasWidths, KeepsWidths, KeepsNumbers, HasShape, callee}

-- the rules that are judged place by place; F14 is judged after them
pub data Rule : Type 0 where
  F1 : Rule
  F2 : Rule
  F3 : Rule
  F4 : Rule
  F5 : Rule
  F6 : Rule
  F7 : Rule
  F8 : Rule
  F9 : Rule
  F10 : Rule
  F11 : Rule
  F12 : Rule
  F13 : Rule

-- what holds of the invocation of a statement, if it has one, with its callee's signature
abbrev pub OfInvocation : (Signature → Text → Giving → Type 0) → Scope → Statement → Type 0
OfInvocation P scope (New name made params) = Unit {0}
OfInvocation P scope (Connect output value) = Unit {0}
OfInvocation P scope (Call name inst gives) = IfSome (callee scope (Call name inst gives)) (λ sig. P sig inst gives)
OfInvocation P scope (Both name made params gives) = IfSome (callee scope (Both name made params gives)) (λ sig. P sig name gives)

-- a rule at the signature
abbrev pub AtSignature : Rule → Design → Component → Type 0
AtSignature F1 earlier c = HasNewNames earlier c
AtSignature F2 earlier c = NamesEvents c
AtSignature F3 earlier c = HasWidths c
AtSignature F5 earlier c = HasShape c
AtSignature F6 earlier c = HasShortPorts c
AtSignature rule earlier c = Unit {0}

-- a rule at a statement, in the scope before it and in the scope with it
abbrev pub AtStatement : Rule → Scope → Scope → List Statement → Statement → Type 0
AtStatement F1 scope with before s = MakesNewNames scope s
AtStatement F2 scope with before s = UsesKnownNames scope s
AtStatement F3 scope with before s = KeepsWidths scope s
AtStatement F4 scope with before s = KeepsNumbers scope s
AtStatement F5 scope with before s = Unit {0}
AtStatement F6 scope with before s = Unit {0}
AtStatement F7 scope with before s = OfInvocation (λ sig inst gives. HoldsSome sig gives.times) scope s
AtStatement F8 scope with before s = OfInvocation (λ sig inst gives. ReadsAvailable scope sig gives) scope s
AtStatement F9 scope with before s = ConnectsOnce scope before s
AtStatement F10 scope with before s = OfInvocation (KeepsDelays scope) scope s
AtStatement F11 scope with before s = All (KeepsUsesApart with) (invocations_at s)
AtStatement F12 scope with before s = All (EndsInTime with) (invocations_at s)
AtStatement F13 scope with before s = All (TriggersWithInterface with) (invocations_at s)

-- a rule at the end of the body
abbrev pub AtEnd : Rule → Component → Type 0
AtEnd F9 c = ConnectsAll c
AtEnd rule c = Unit {0}

-- the component, after these, keeps the rule at the place
abbrev pub Keeps : Design → Component → Item → Rule → Type 0
Keeps earlier c TheSignature rule = AtSignature rule earlier c
Keeps earlier c (TheStatement before s) rule = AtStatement rule (scope_after earlier c before) (scope_with earlier c before s) before s
Keeps earlier c TheEnd rule = AtEnd rule c

-- the rules that are judged so far, in their order
abbrev pub first_five : List Rule
first_five = F1 ∷ F2 ∷ F3 ∷ F4 ∷ F5 ∷ []

abbrev pub all_rules : List Rule
all_rules = F1 ∷ F2 ∷ F3 ∷ F4 ∷ F5 ∷ F6 ∷ F7 ∷ F8 ∷ F9 ∷ F10 ∷ F11 ∷ F12 ∷ F13 ∷ []

-- the component keeps the rules at item k
abbrev pub KeepsItem : List Rule → Design → Component → ℕ → Type 0
KeepsItem rules earlier c k = (item : Item) → IsItem c k item → All (Keeps earlier c item) rules

-- the component keeps the rules at every item
abbrev pub KeepsComponent : List Rule → Design → Component → Type 0
KeepsComponent rules earlier c = (k : ℕ) → KeepsItem rules earlier c k

-- each component keeps the rules, after those before it
abbrev pub KeepsRules : List Rule → Design → Type 0
KeepsRules rules comps = (n : ℕ) (c : Component) → slice_get comps n ≡ Some c → KeepsComponent rules (take n comps) c

-- rule number r of the list is the first that is broken, at item k of component n
pub record IsFirstBroken (rules : List Rule) (comps : Design) (n k r : ℕ) : Type 0 where
  pub c : Component
  pub at : slice_get comps n ≡ Some c
  pub components : (m : ℕ) (earlier : Component) → m < n → slice_get comps m ≡ Some earlier → KeepsComponent rules (take m comps) earlier
  pub items : (j : ℕ) → j < k → KeepsItem rules (take n comps) c j
  pub item : Item
  pub here : IsItem c k item
  pub lesser : (q : ℕ) (rule : Rule) → q < r → slice_get rules q ≡ Some rule → Keeps (take n comps) c item rule
  pub rule : Rule
  pub numbered : slice_get rules r ≡ Some rule
  pub broken : ¬ Keeps (take n comps) c item rule

-- F14, after all others: the first component that has a loop
pub record HasFirstLoop (comps : Design) (n : ℕ) (first : Text) (others : List Text) : Type 0 where
  pub others_keep : KeepsRules all_rules comps
  pub c : Component
  pub at : slice_get comps n ≡ Some c
  pub components : (m : ℕ) (earlier : Component) → m < n → slice_get comps m ≡ Some earlier → HasNoLoop (take m comps) earlier
  pub loop : IsLeastLoop (take n comps) c first others

-- F1 to F14
pub record FilRules (comps : Design) : Type 0 where
  pub keeps : KeepsRules all_rules comps
  pub no_loop : (n : ℕ) (c : Component) → slice_get comps n ≡ Some c → HasNoLoop (take n comps) c
