-- An output of a component depends on inputs of its own event alone, and transactions that differ elsewhere are one. Filament, PLDI 2023; the law is this
-- project's.
use Rattle.std.specs.Prelude.{◌≡◌, ℕ, take, slice_get, Some, Contains}
use Rattle.hw_prims.specs.Timed.{Behaviour, TimedPort, TimedSignature, Transaction, Values}
use Rattle.fil_ast.specs.Behaviours.{component_behaviour}
use Rattle.fil_ast.specs.Rules.{FilRules}
use Rattle.fil_ast.specs.Tree.{Component, Design}

-- an output has one value on any two values of inputs that agree at the inputs of its event
abbrev pub IsSeparate : Behaviour → Type 0
IsSeparate b =
    (o : TimedPort) → Contains b.sig.outs o → (v w : Values) → ((p : TimedPort) → Contains b.sig.ins p → p.event ≡ o.event → v p.name ≡ w p.name) →
    b.flow v o.name ≡ b.flow w o.name

-- so it is with what each component of a design promises that keeps the rules
abbrev pub ComponentsStaySeparate : Type 0
ComponentsStaySeparate =
    (comps : Design) → FilRules comps → (n : ℕ) (c : Component) → slice_get comps n ≡ Some c → IsSeparate (component_behaviour (take n comps) c)

-- transactions that are one to an instance of this signature: only the values for inputs of other events may differ
pub record AreAlike (sig : TimedSignature) (a b : Transaction) : Type 0 where
  pub event : a.event ≡ b.event
  pub start : a.start ≡ b.start
  pub hold : a.hold ≡ b.hold
  pub values : (p : TimedPort) → Contains sig.ins p → p.event ≡ a.event → a.values p.name ≡ b.values p.name
