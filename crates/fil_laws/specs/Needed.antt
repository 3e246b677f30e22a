-- What F10 to F12 are for, all three: under them legal transactions hold no event of an instance twice in a row. Filament, PLDI 2023; the laws are this
-- project's.
use Rattle.std.specs.Prelude.{◌≡◌, ℕ, ◌+◌, ◌<◌, List, [], ◌∷◌, take, slice_get, Some, ◌↔◌, Contains}
use Rattle.fil_ast.specs.Rules.{Rule, F1, F2, F3, F4, F5, F6, F7, F8, F9, F10, F11, F12, KeepsComponent, KeepsRules}
use Rattle.fil_ast.specs.Scope.{Invocation}
use Rattle.fil_ast.specs.Sharing.{IsUseOf}
use Rattle.fil_ast.specs.Timeline.{Use}
use Rattle.fil_ast.specs.Tree.{Event, Component, Design}
use Rattle.fil_ast.specs.Wires.{whole_scope}
use Rattle.fil_check.specs.Needed.{Collide, NothingIsHeldTwice, first_ten, gap_starts}

-- the rules that F10 to F12 stand on
abbrev pub first_nine : List Rule
first_nine = F1 ∷ F2 ∷ F3 ∷ F4 ∷ F5 ∷ F6 ∷ F7 ∷ F8 ∷ F9 ∷ []

abbrev pub holding_rules : List Rule
holding_rules = F10 ∷ F11 ∷ F12 ∷ []

-- an invocation holds an event of its instance for longer than the delay of the component's event on which it does: F10 is broken
pub record IsOverlong (earlier : Design) (c : Component) (v : Invocation) (u : Use) (e : Event) : Type 0 where
  pub invoked : Contains (whole_scope earlier c).invocations v
  pub uses : IsUseOf (whole_scope earlier c) v u
  pub is_own : Contains c.events e
  pub named : e.name ≡ u.at.event
  pub long : e.delay < u.hold

-- then two transactions, at 0 and at the delay, are legal and hold that event twice, in the row in which the second triggers it
abbrev pub OverlongIsReal : Type 0
OverlongIsReal =
    (earlier : Design) (c : Component) (v : Invocation) (u : Use) (e : Event) → KeepsComponent first_nine earlier c → IsOverlong earlier c v u e →
    Collide (whole_scope earlier c) (gap_starts e.name e.delay) v.inst u.event (e.delay + u.at.plus)

-- where F1 to F9 hold, F10 to F12 hold exactly if legal transactions hold nothing twice
abbrev pub HoldingRulesAreExact : Type 0
HoldingRulesAreExact =
    (earlier : Design) (c : Component) → KeepsRules first_ten earlier → KeepsComponent first_nine earlier c →
    KeepsComponent holding_rules earlier c ↔ NothingIsHeldTwice earlier c

-- the same of a whole design
abbrev pub DesignsHoldNothingTwice : Type 0
DesignsHoldNothingTwice =
    (comps : Design) → KeepsRules first_nine comps →
    KeepsRules holding_rules comps ↔ ((n : ℕ) (c : Component) → slice_get comps n ≡ Some c → NothingIsHeldTwice (take n comps) c)
