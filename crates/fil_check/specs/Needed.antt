-- What F11 and F12 are for: under them legal transactions hold no event of an instance twice in a row. Filament, PLDI 2023; the laws are this project's.
use Rattle.std.specs.Prelude.{◌≡◌, ℕ, ◌+◌, ◌-◌, ◌<◌, max, List, [], ◌∷◌, ◌++◌, take, slice_get, Some, ◌↔◌, AllPairs, Contains, if◌then◌else◌, bytes_eq}
use Rattle.hw_names.specs.Name.{Text, AreDistinct}
use Rattle.fil_ast.specs.Evidence.{ACycle, AGap, IsMeetingCycle, IsGap}
use Rattle.fil_ast.specs.Holds.{Start, Hold, NeverMeet, AreLegalStarts, IsHeldIn, holds_of}
use Rattle.fil_ast.specs.Items.{scope_after, scope_with}
use Rattle.fil_ast.specs.Naming.{event_names}
use Rattle.fil_ast.specs.Refusal.{IsRefusal}
use Rattle.fil_ast.specs.Rules.{Rule, F1, F2, F3, F4, F5, F6, F7, F8, F9, F10, F11, F12, KeepsComponent, KeepsRules}
use Rattle.fil_ast.specs.Scope.{Scope, Invocation, invocations_at}
use Rattle.fil_ast.specs.Sharing.{KeepsUsesApart}
use Rattle.fil_ast.specs.Tree.{TimeAt, Component, Design, Statement}
use Rattle.fil_ast.specs.Typing.{HasShape}
use Rattle.fil_ast.specs.Wires.{whole_scope}
use Rattle.fil_rules.specs.Held.{AreHeld}

-- two holds of the list are of this event of the instance, and both hold it in the row
pub record HoldsTwice (holds : List Hold) (inst : Text) (event row : ℕ) : Type 0 where
  pub i : ℕ
  pub j : ℕ
  pub differ : i < j
  pub one : Hold
  pub other : Hold
  pub at_one : slice_get holds i ≡ Some one
  pub at_other : slice_get holds j ≡ Some other
  pub of_one : (one.inst ≡ inst) × (one.event ≡ event)
  pub of_other : (other.inst ≡ inst) × (other.event ≡ event)
  pub held_one : IsHeldIn row one
  pub held_other : IsHeldIn row other

-- these starts are legal, and hold this event of the instance twice in the row
pub record Collide (scope : Scope) (starts : List Start) (inst : Text) (event row : ℕ) : Type 0 where
  pub legal : AreLegalStarts scope.comp starts
  pub twice : HoldsTwice (holds_of scope starts) inst event row

-- the scope with one more invocation
abbrev pub with_invocation : Scope → Invocation → Scope
with_invocation scope v =
    record { comps = scope.comps; comp = scope.comp; instances = scope.instances; invocations = scope.invocations ++ v ∷ [] }

-- a start of this event of the component
abbrev pub start_at : Text → ℕ → Start
start_at event row = record { event = event; row = row }

-- the later of two times
abbrev pub later_of : TimeAt → TimeAt → ℕ
later_of s t = max s.plus t.plus

-- starts for which both times are in the row of the later of them: one at 0 where they name one event, else one on each of the two events
abbrev pub meeting_starts : TimeAt → TimeAt → List Start
meeting_starts s t =
    if bytes_eq s.event t.event then start_at s.event 0 ∷ []
    else start_at s.event (later_of s t - s.plus) ∷ start_at t.event (later_of s t - t.plus) ∷ []

-- two starts of the event, so far apart
abbrev pub gap_starts : Text → ℕ → List Start
gap_starts event gap = start_at event 0 ∷ start_at event gap ∷ []

-- F11: with the first earlier invocation that breaks the rule with this one, and the first event of its instance at which it does, the
-- invocation holds that event twice in the row that is told, where both are triggered there
abbrev pub MeetingIsReal : Type 0
MeetingIsReal =
    (scope : Scope) (v : Invocation) (cycle : ℕ) → AreHeld (with_invocation scope v) → (first : IsMeetingCycle scope v cycle) →
    Collide (with_invocation scope v) (meeting_starts first.other.at first.own.at) v.inst first.own.event cycle

-- F12: for the first event of its instance at which the rule is broken, two transactions on the component's event that triggers it hold it
-- twice in the row that is told, where they start as far apart as is told
abbrev pub GapIsReal : Type 0
GapIsReal =
    (scope : Scope) (v : Invocation) (gap cycle : ℕ) → AreHeld (with_invocation scope v) → AreDistinct (event_names scope.comp) → HasShape scope.comp →
    KeepsUsesApart scope v →
    (first : IsGap scope v gap cycle) →
    Collide (with_invocation scope v) (gap_starts first.first.at.event gap) v.inst first.event cycle

-- the rules that F11 and F12 stand on
abbrev pub first_ten : List Rule
first_ten = F1 ∷ F2 ∷ F3 ∷ F4 ∷ F5 ∷ F6 ∷ F7 ∷ F8 ∷ F9 ∷ F10 ∷ []

abbrev pub sharing_rules : List Rule
sharing_rules = F11 ∷ F12 ∷ []

-- of what a legal list of transactions of the component holds, each two are apart
abbrev pub NothingIsHeldTwice : Design → Component → Type 0
NothingIsHeldTwice earlier c = (starts : List Start) → AreLegalStarts c starts → AllPairs NeverMeet (holds_of (whole_scope earlier c) starts)

-- where F1 to F10 hold, F11 and F12 hold exactly if legal transactions hold nothing twice
abbrev pub SharingRulesAreExact : Type 0
SharingRulesAreExact =
    (earlier : Design) (c : Component) → KeepsRules first_ten earlier → KeepsComponent first_ten earlier c →
    KeepsComponent sharing_rules earlier c ↔ NothingIsHeldTwice earlier c

-- an invocation by the statement at this item of the component of this name
pub record IsInvokedAt (comps : Design) (name : Text) (item : ℕ) : Type 0 where
  pub n : ℕ
  pub c : Component
  pub at : slice_get comps n ≡ Some c
  pub named : c.name ≡ name
  pub k : ℕ
  pub s : Statement
  pub stands : slice_get c.body k ≡ Some s
  pub is_item : k + 1 ≡ item
  pub v : Invocation
  pub invoked : Contains (invocations_at s) v

-- what names mean at the invocation, and after its statement
abbrev pub scope_at : {comps : Design} {name : Text} {item : ℕ} → IsInvokedAt comps name item → Scope
scope_at {comps} {name} {item} p = scope_with (take p.n comps) p.c (take p.k p.c.body) p.s

abbrev pub scope_past : {comps : Design} {name : Text} {item : ℕ} → IsInvokedAt comps name item → Scope
scope_past {comps} {name} {item} p = scope_after (take p.n comps) p.c (take item p.c.body)

-- what a refusal by F11 tells is so: its instance is held twice, with the first earlier invocation that breaks the rule with the refused one
pub record MeetsTwice (comps : Design) (name : Text) (item cycle : ℕ) : Type 0 where
  pub refused : IsInvokedAt comps name item
  pub first : IsMeetingCycle (scope_at refused) refused.v cycle
  pub collide : Collide (scope_past refused) (meeting_starts first.other.at first.own.at) refused.v.inst first.own.event cycle

abbrev pub RefusedMeetingIsReal : Type 0
RefusedMeetingIsReal =
    (comps : Design) (name : Text) (item cycle : ℕ) → IsRefusal comps name item (ACycle cycle) 11 → MeetsTwice comps name item cycle

-- and by F12: its instance is held twice by two transactions that start so far apart
pub record OverrunsTwice (comps : Design) (name : Text) (item gap cycle : ℕ) : Type 0 where
  pub refused : IsInvokedAt comps name item
  pub first : IsGap (scope_at refused) refused.v gap cycle
  pub collide : Collide (scope_past refused) (gap_starts first.first.at.event gap) refused.v.inst first.event cycle

abbrev pub RefusedGapIsReal : Type 0
RefusedGapIsReal =
    (comps : Design) (name : Text) (item gap cycle : ℕ) → IsRefusal comps name item (AGap gap cycle) 12 → OverrunsTwice comps name item gap cycle
