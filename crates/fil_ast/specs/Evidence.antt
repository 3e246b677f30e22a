-- What a refusal shows besides the rule: an offset by F8, a cycle by F11, a gap and a cycle by F12, a loop by F14. This project's.
use Rattle.std.specs.Prelude.{◌≡◌, ℕ, ◌+◌, ◌-◌, ◌<◌, ◌≤◌, List, max, slice_get, Some, Contains}
use Rattle.hw_names.specs.Name.{Text}
use Rattle.fil_ast.specs.Scope.{Scope, Invocation, instance_signature, invocations_at, signature_in}
use Rattle.fil_ast.specs.Sharing.{IsUseOf, IsEarlierUse, AreDisjoint}
use Rattle.fil_ast.specs.Signature.{SigPort, Signature}
use Rattle.fil_ast.specs.Timeline.{Interval, IsAvailable, ReadsArgument, Use, interval_at}
use Rattle.fil_ast.specs.Tree.{Event, Giving, Statement, New, Call, Both, Connect, ValueTree}

pub data Evidence : Type 0 where
  Nothing : Evidence
  AnOffset : ℕ → Evidence
  ACycle : ℕ → Evidence
  AGap : (gap cycle : ℕ) → Evidence
  -- of these ports each reads the next, and the last the first
  ALoop : (ports : List Text) → Evidence

-- F8: the least offset that is needed and not available, of the first argument that breaks the rule
pub record IsMissingOffset (scope : Scope) (sig : Signature) (gives : Giving) (offset : ℕ) : Type 0 where
  pub number : ℕ
  pub before : (k : ℕ) → k < number → ReadsArgument scope sig gives k
  pub arg : ValueTree
  pub given : slice_get gives.args number ≡ Some arg
  pub port : SigPort
  pub for : slice_get sig.ins number ≡ Some port
  pub need : Interval
  pub is_need : interval_at gives.times port ≡ Some need
  pub from : need.from ≤ offset
  pub to : offset < need.to
  pub missing : ¬ IsAvailable scope arg need.event offset
  pub least : (i : ℕ) → need.from ≤ i → i < offset → IsAvailable scope arg need.event i

-- two uses of an event of an instance are on one event of the component, and apart
abbrev pub AreKeptApart : Use → Use → Type 0
AreKeptApart u v = (u.at.event ≡ v.at.event) × AreDisjoint u v

-- each event of its instance that the invocation triggers is apart from what this earlier invocation triggers
abbrev pub IsApartFrom : Scope → Invocation → Invocation → Type 0
IsApartFrom scope v earlier =
    (u w : Use) → IsUseOf scope v u → IsUseOf scope earlier w → w.inst ≡ u.inst → w.event ≡ u.event → AreKeptApart w u

-- F11: the later of the two times, for the first earlier invocation that breaks the rule with this one, and in it the first event that does
pub record IsMeetingCycle (scope : Scope) (v : Invocation) (cycle : ℕ) : Type 0 where
  pub number : ℕ
  pub earlier : Invocation
  pub at : slice_get scope.invocations number ≡ Some earlier
  pub before : (k : ℕ) (other : Invocation) → k < number → slice_get scope.invocations k ≡ Some other → IsApartFrom scope v other
  pub own : Use
  pub triggers : IsUseOf scope v own
  pub other : Use
  pub triggered : IsUseOf scope earlier other
  pub same_instance : other.inst ≡ own.inst
  pub same_event : other.event ≡ own.event
  pub events : (u w : Use) → u.event < own.event → IsUseOf scope v u → IsUseOf scope earlier w → w.inst ≡ u.inst → w.event ≡ u.event → AreKeptApart w u
  pub meet : ¬ AreKeptApart other own
  pub later : cycle ≡ max other.at.plus own.at.plus

-- the invocation, or an earlier one of its instance, uses this event of the instance
pub data UsesEvent (scope : Scope) (v : Invocation) (event : ℕ) (u : Use) : Type 0 where
  Own : IsUseOf scope v u → u.event ≡ event → UsesEvent scope v event u
  Another : (own : Use) → IsUseOf scope v own → own.event ≡ event → IsEarlierUse scope own u → UsesEvent scope v event u

-- the first start and the last among the uses of an event of the invocation's instance, and the delay of the component's event on which they are
pub record IsSpan (scope : Scope) (v : Invocation) (event : ℕ) (first last : Use) (delay : ℕ) : Type 0 where
  pub has_first : UsesEvent scope v event first
  pub least : (u : Use) → UsesEvent scope v event u → first.at.plus ≤ u.at.plus
  pub has_last : UsesEvent scope v event last
  pub greatest : (u : Use) → UsesEvent scope v event u → u.at.plus ≤ last.at.plus
  pub on : Event
  pub is_own : Contains scope.comp.events on
  pub named : on.name ≡ first.at.event
  pub delayed : delay ≡ on.delay

-- from the first start to the last end is at most the delay
abbrev pub Fits : Use → Use → ℕ → Type 0
Fits first last delay = last.at.plus + last.hold ≤ first.at.plus + delay

-- F12: for the first event that breaks the rule, the greater of the delay and of the distance of the starts, and the row in which two
-- transactions so far apart meet
pub record IsGap (scope : Scope) (v : Invocation) (gap cycle : ℕ) : Type 0 where
  pub event : ℕ
  pub first : Use
  pub last : Use
  pub delay : ℕ
  pub span : IsSpan scope v event first last delay
  pub broken : ¬ Fits first last delay
  pub events : (other : ℕ) (p q : Use) (d : ℕ) → other < event → IsSpan scope v other p q d → Fits p q d
  pub distance : gap ≡ max delay (last.at.plus - first.at.plus)
  pub row : cycle ≡ gap + first.at.plus

-- F8 at a statement
abbrev pub MissesAt : Scope → Statement → ℕ → Type 0
MissesAt scope (New name made params) offset = ⊥
MissesAt scope (Connect output value) offset = ⊥
MissesAt scope (Call name inst gives) offset = (sig : Signature) × (instance_signature scope inst ≡ Some sig) × IsMissingOffset scope sig gives offset
MissesAt scope (Both name made params gives) offset =
    (sig : Signature) × (signature_in scope.comps made params ≡ Some sig) × IsMissingOffset scope sig gives offset

-- F11 and F12 at a statement, in the scope with the instance that it makes
abbrev pub MeetsAt : Scope → Statement → ℕ → Type 0
MeetsAt with s cycle = (v : Invocation) × Contains (invocations_at s) v × IsMeetingCycle with v cycle

abbrev pub OverrunsAt : Scope → Statement → ℕ → ℕ → Type 0
OverrunsAt with s gap cycle = (v : Invocation) × Contains (invocations_at s) v × IsGap with v gap cycle
