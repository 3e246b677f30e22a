-- That a table shows the instances of a component, by name, with the signatures of what they are made of. This project's.
use Rattle.std.specs.Prelude.{◌≡◌, ◌≤◌, ℕ, List, [], ◌∷◌, ◌++◌, length, map, flat_map, take, slice_get, Option, Some, All, Contains}
use Rattle.hw_names.specs.Name.{Text}
use Rattle.fil_ast.specs.Naming.{instance_names}
use Rattle.fil_ast.specs.Scope.{Scope, Instance, instances_at, signature_in}
use Rattle.fil_ast.specs.Signature.{Delay, Fixed, Gap, End, SigEvent, Signature}
use Rattle.fil_ast.specs.Tree.{Design, Statement}
use Rattle.hw_limits.specs.declared.limits.TheConstants.{MOST_OFFSET}
use Rattle.fil_sig.specs.Refusals.{IsUsable}
use Rattle.fil_sig.specs.Seen.{seen}
use Rattle.fil_sig.specs.declared.time_sig.TimeSig.{TimeSig}
use Rattle.fil_share.specs.declared.instances.Instances.{Instances}

-- a new name stands last
abbrev pub AddsName : List Text → List Text → Text → Type 0
AddsName old new name = ¬ Contains old name → new ≡ old ++ name ∷ []

abbrev pub IsSmallDelay : Delay → Type 0
IsSmallDelay (Fixed rows) = rows ≤ MOST_OFFSET
IsSmallDelay Gap = Unit {0}
IsSmallDelay End = Unit {0}

abbrev pub HasSmallDelay : SigEvent → Type 0
HasSmallDelay e = IsSmallDelay e.delay

-- a callee has few events, with small delays
pub record HasSmallEvents (sig : Signature) : Type 0 where
  pub few : length sig.events ≤ 16
  pub delays : All HasSmallDelay sig.events

abbrev pub IsSmall : TimeSig → Type 0
IsSmall sig = HasSmallEvents (seen sig)

abbrev pub known_signature : TimeSig → Option Signature
known_signature sig = Some (seen sig)

-- the signature of what an instance is made of
abbrev pub signature_of : Design → Instance → Option Signature
signature_of comps i = signature_in comps i.made i.params

-- the table has these instances, which are made of these components or of primitives
pub record ShowsInstances (table : Instances) (comps : Design) (instances : List Instance) : Type 0 where
  pub names : table.names ≡ instance_names instances
  pub sigs : map known_signature table.sigs.items ≡ map (signature_of comps) instances
  pub small : All IsSmall table.sigs.items

abbrev pub ShowsScope : Instances → Scope → Type 0
ShowsScope table scope = ShowsInstances table scope.comps scope.instances

-- an instance can be made of these components or of a primitive
abbrev pub CanBeMade : Design → Instance → Type 0
CanBeMade comps i = IsUsable comps i.made i.params

-- no instance so far has the name
abbrev pub IsNew : List Instance → Instance → Type 0
IsNew instances i = ¬ Contains (instance_names instances) i.name

-- each instance of a body has a new name, and can be made
pub record MakesInstances (comps : Design) (body : List Statement) : Type 0 where
  pub new : (k : ℕ) (s : Statement) → slice_get body k ≡ Some s → All (IsNew (flat_map instances_at (take k body))) (instances_at s)
  pub made : (k : ℕ) (s : Statement) → slice_get body k ≡ Some s → All (CanBeMade comps) (instances_at s)
