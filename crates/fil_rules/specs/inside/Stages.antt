-- The rules at a statement, judged in stages: some of them in their order, and the least of these that is broken. This project's.
use Rattle.std.specs.Prelude.{◌≡◌, ℕ, ◌+◌, ◌<◌, ◌≤◌, List, slice_get, Some, Contains}
use Rattle.fil_ast.specs.Evidence as shown
use Rattle.fil_ast.specs.Refusal.{ShowsAtStatement}
use Rattle.fil_ast.specs.Rules.{Rule, AtStatement, all_rules}
use Rattle.fil_ast.specs.Scope.{Scope, Invocation, invocations_at}
use Rattle.fil_ast.specs.Signature.{Signature}
use Rattle.fil_ast.specs.Timeline.{Use, IsUse}
use Rattle.fil_ast.specs.Tree.{Statement}
use Rattle.fil_rules.specs.Least.{evidence_of}
use Rattle.fil_rules.specs.LeastRule.{number_of}
use Rattle.fil_place.specs.Place.{with_instance}
use Rattle.fil_place.specs.Tables.{signature_at}
use Rattle.fil_rules.specs.declared.rules.ItemEnd.{ItemEnd}
use Rattle.fil_rules.specs.declared.rules.ItemEnd.TheVariants.{Broken, Memory}

-- the statement keeps the rule
abbrev pub KeptAt : Scope → List Statement → Statement → Rule → Type 0
KeptAt scope before s rule = AtStatement rule scope (with_instance scope s) before s

-- what the rule shows where the statement breaks it
abbrev pub ShownAt : Scope → Statement → Rule → shown.Evidence → Type 0
ShownAt scope s rule = ShowsAtStatement rule scope (with_instance scope s) s

-- the rules at these places of the list, from the first to before the second, are kept
abbrev pub KeepsFrom : (Rule → Type 0) → ℕ → ℕ → Type 0
KeepsFrom keeps from to = (place : ℕ) (rule : Rule) → from ≤ place → place < to → slice_get all_rules place ≡ Some rule → keeps rule

-- the least broken rule from a place of the list on, with what it shows
pub record IsLeastFrom (keeps : Rule → Type 0) (shows : Rule → shown.Evidence → Type 0) (from number : ℕ) (evidence : shown.Evidence) : Type 0 where
  pub place : ℕ
  pub counted : place + 1 ≡ number
  pub after : from ≤ place
  pub lesser : KeepsFrom keeps from place
  pub rule : Rule
  pub numbered : slice_get all_rules place ≡ Some rule
  pub broken : ¬ keeps rule
  pub is_shown : shows rule evidence

-- the refusal tells it; want of memory tells nothing
abbrev pub TellsFrom : (Rule → Type 0) → (Rule → shown.Evidence → Type 0) → ℕ → ItemEnd → Type 0
TellsFrom keeps shows from (Broken broken) = IsLeastFrom keeps shows from (number_of broken.rule) (evidence_of broken.evidence)
TellsFrom keeps shows from Memory = Unit {0}

-- each use by the statement's invocation, if it has one, is held for a row or more
abbrev pub HoldsUses : Scope → Statement → Type 0
HoldsUses scope s =
    (v : Invocation) (sig : Signature) (u : Use) → Contains (invocations_at s) v → signature_at scope s ≡ Some sig → IsUse sig v.inst v.gives.times u →
    0 < u.hold
