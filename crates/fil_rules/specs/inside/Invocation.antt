-- F7, F8 and F10 of an invocation, and what a refusal by them tells. This project's.
use Rattle.std.specs.Prelude.{◌≡◌, ℕ}
use Rattle.hw_names.specs.Name.{Text}
use Rattle.fil_ast.specs.Evidence as shown
use Rattle.fil_ast.specs.Evidence.{IsMissingOffset}
use Rattle.fil_ast.specs.Scope.{Scope}
use Rattle.fil_ast.specs.Signature.{Signature}
use Rattle.fil_ast.specs.Timeline.{HoldsSome, KeepsDelays, ReadsAvailable}
use Rattle.fil_ast.specs.Tree.{Giving}
use Rattle.fil_rules.specs.Least.{evidence_of}
use Rattle.fil_rules.specs.LeastRule.{number_of}
use Rattle.fil_rules.specs.declared.rules.ItemEnd.{ItemEnd}
use Rattle.fil_rules.specs.declared.rules.ItemEnd.TheVariants.{Broken, Memory}

pub record KeepsTimes (scope : Scope) (sig : Signature) (inst : Text) (gives : Giving) : Type 0 where
  pub holds : HoldsSome sig gives.times
  pub reads : ReadsAvailable scope sig gives
  pub delays : KeepsDelays scope sig inst gives

-- the least of the three rules that the invocation breaks, with its evidence
pub data IsBroken (scope : Scope) (sig : Signature) (inst : Text) (gives : Giving) (rule : ℕ) (evidence : shown.Evidence) : Type 0 where
  HoldsNone : ¬ HoldsSome sig gives.times → rule ≡ 7 → evidence ≡ shown.Nothing → IsBroken scope sig inst gives rule evidence
  Misses : HoldsSome sig gives.times → (offset : ℕ) → IsMissingOffset scope sig gives offset → rule ≡ 8 → evidence ≡ shown.AnOffset offset →
      IsBroken scope sig inst gives rule evidence
  Outlasts : HoldsSome sig gives.times → ReadsAvailable scope sig gives → ¬ KeepsDelays scope sig inst gives → rule ≡ 10 → evidence ≡ shown.Nothing →
      IsBroken scope sig inst gives rule evidence

abbrev pub TellsTimes : Scope → Signature → Text → Giving → ItemEnd → Type 0
TellsTimes scope sig inst gives (Broken broken) = IsBroken scope sig inst gives (number_of broken.rule) (evidence_of broken.evidence)
TellsTimes scope sig inst gives Memory = Unit {0}
