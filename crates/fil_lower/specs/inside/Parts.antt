-- What the code lends of a statement, seen as instances and invocations of texts. This project's.
use Rattle.std.specs.Prelude.{◌≡◌, ◌<◌, ◌≤◌, List, [], ◌∷◌, Option, Some, None, All, IfSome, Contains}
use Rattle.hw_names.specs.Name.{Text, text_of}
use Rattle.fil_ast.specs.Numbers.{IsNumberOf, TimeHasNumber, ValueHasNumbers}
use Rattle.fil_ast.specs.Scope as tree
use Rattle.fil_ast.specs.Scope.{Instance, Scope, instance_signature}
use Rattle.fil_ast.specs.Signature.{SigEvent, SigPort, Signature}
use Rattle.fil_ast.specs.Timeline as timeline
use Rattle.fil_ast.specs.Tree.{giving}
use Rattle.hw_limits.specs.declared.limits.TheConstants.{MOST_OFFSET}
use Rattle.fil_lower.specs.declared.interval.Interval.{Interval}
use Rattle.fil_lower.specs.declared.parts.Invocation.{Invocation}
use Rattle.fil_lower.specs.declared.parts.NewInstance.{NewInstance}

abbrev pub instance_shown : List Text → NewInstance → Instance
instance_shown names i = record { name = text_of names i.name; made = text_of names i.comp; params = i.params.now }

abbrev pub invocation_shown : List Text → Invocation → tree.Invocation
invocation_shown names v =
    record { name = text_of names v.name; inst = text_of names v.inst; gives = giving names v.at.now v.args.now }

abbrev pub interval_shown : List Text → Interval → timeline.Interval
interval_shown names i = record { event = text_of names i.event; from = i.from; to = i.to }

abbrev pub at_most_one : {X : Type 0} → Option X → List X
at_most_one None = []
at_most_one (Some x) = x ∷ []

pub record InstanceHasNumbers (names : List Text) (i : NewInstance) : Type 0 where
  pub name : IsNumberOf names i.name
  pub comp : IsNumberOf names i.comp

pub record InvocationHasNumbers (names : List Text) (v : Invocation) : Type 0 where
  pub name : IsNumberOf names v.name
  pub inst : IsNumberOf names v.inst
  pub at : All (TimeHasNumber names) v.at.now
  pub args : All (ValueHasNumbers names) v.args.now

-- an input is needed in some row, not too long after its event
pub record IsGoodPort (p : SigPort) : Type 0 where
  pub same_event : p.from.event ≡ p.to.event
  pub ordered : p.from.plus < p.to.plus
  pub small : p.to.plus ≤ MOST_OFFSET

abbrev pub IsNamedPort : List Text → SigPort → Type 0
IsNamedPort names p = Contains names p.name

abbrev pub IsNamedEvent : List Text → SigEvent → Type 0
IsNamedEvent names e = IfSome e.go (Contains names)

-- the names of inputs and of interface ports are among the names
pub record NamesPorts (names : List Text) (sig : Signature) : Type 0 where
  pub inputs : All (IsNamedPort names) sig.ins
  pub interfaces : All (IsNamedEvent names) sig.events

-- so it is for each instance
abbrev pub NamesAllPorts : List Text → Scope → Type 0
NamesAllPorts names scope = (inst : Text) (sig : Signature) → instance_signature scope inst ≡ Some sig → NamesPorts names sig
