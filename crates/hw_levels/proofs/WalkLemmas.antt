-- How far a walk over the ports of cells has come.
use Rattle.std.proofs.Common.{◌≡◌, ℕ, ◌+◌, ◌<◌, ◌≤◌, ◌⊎◌, inl, inr, Bool, true, List, [], ◌∷◌, ◌++◌, Option, Some, None, length, get_or, take, sym, ap, ◌∙◌, arith, subst, eq-eqb}
use Rattle.std.specs.Prelude.{Contains, IfSome, if◌then◌else◌}
use Rattle.std.proofs.lemmas.List.{take_more}
use Rattle.std.proofs.lemmas.List.Elements.{Contains-push_cases}
use Rattle.hw_levels.specs.Levels.{IsBelow, MayReach}
use Rattle.hw_levels.specs.inside.Walk.{inputs_of, IsBefore, Allows, IsUpTo, HasGone}
use Rattle.hw_levels.specs.declared.cells.CellPort.{CellPort}
use Rattle.hw_levels.specs.declared.cells.Walk.{Walk}

-- the port comes no later than the last one
abbrev pub IsPassed : Walk → CellPort → Type 0
IsPassed walk port = (port.cell < walk.cell) ⊎ ((port.cell ≡ walk.cell) × (port.level ≤ walk.level))

-- the walk has gone over these ports, and they keep their levels among them
pub record HasWalked (ports : List CellPort) (levels : List ℕ) (walk : Walk) : Type 0 where
  pub passed : (port : CellPort) → Contains ports port → IsPassed walk port
  pub inputs : (port : CellPort) → Contains ports port → port.is_input ≡ true → port.cell ≡ walk.cell → IsUpTo walk.inputs (get_or levels port.node 0)
  pub kept : (output input : CellPort) → Contains ports output → Contains ports input → MayReach output input → IsBelow levels input.node output.node

inputs_of-same : (walk : Walk) (cell : ℕ) → walk.cell ≡ cell → inputs_of walk cell ≡ walk.inputs
inputs_of-same walk cell e = ap (λ (b : Bool). if b then walk.inputs else None) (eq-eqb cell walk.cell (sym e))

above : (most : Option ℕ) (low high : ℕ) → IsUpTo most low → IfSome most (λ m. m < high) → low < high
above (Some m) low high up below = omega (arith, up, below)
above None low high up below = absurd up

passes : (old new : Walk) (port other : CellPort) → IsBefore old port → new.cell ≡ port.cell → new.level ≡ port.level → IsPassed old other → IsPassed new other
passes old new port other (inl less) cell level (inl passed) = inl (omega arith)
passes old new port other (inl less) cell level (inr passed) = inl (omega arith)
passes old new port other (inr same) cell level (inl passed) = inl (omega arith)
passes old new port other (inr same) cell level (inr passed) = inr (omega arith, omega arith)

-- no port of a later cell was passed
same_cell : (old : Walk) (port other : CellPort) → IsBefore old port → IsPassed old other → other.cell ≡ port.cell → old.cell ≡ port.cell
same_cell old port other (inl less) (inl passed) same = absurd (omega arith)
same_cell old port other (inl less) (inr passed) same = absurd (omega arith)
same_cell old port other (inr here) passed same = here.0

-- no port of the same cell was passed that has a greater level there
no_higher : (old : Walk) (port other : CellPort) → IsBefore old port → IsPassed old other → other.cell ≡ port.cell → port.level < other.level → ⊥
no_higher old port other (inl less) (inl passed) same high = omega arith
no_higher old port other (inl less) (inr passed) same high = omega arith
no_higher old port other (inr here) (inl passed) same high = omega arith
no_higher old port other (inr here) (inr passed) same high = omega arith

-- one port more
module _ (ports : List CellPort) (levels : List ℕ) (old new : Walk) (port : CellPort) (walked : HasWalked ports levels old) (before : IsBefore old port) (allows : Allows old port (get_or levels port.node 0)) (gone : HasGone old new port (get_or levels port.node 0)) where
  passed_more : (other : CellPort) → Contains ports other ⊎ (port ≡ other) → IsPassed new other
  passed_more other (inl done) = passes old new port other before gone.cell gone.level (walked.passed other done)
  passed_more other (inr last) = subst (IsPassed new) last (inr (sym gone.cell, omega (arith, gone.level)))

  inputs_more : (other : CellPort) → Contains ports other ⊎ (port ≡ other) → other.is_input ≡ true → other.cell ≡ new.cell → IsUpTo new.inputs (get_or levels other.node 0)
  inputs_more other (inl done) is_input same =
      let here = same_cell old port other before (walked.passed other done) (same ∙ gone.cell) in
      gone.kept (get_or levels other.node 0)
      (subst (λ (most : Option ℕ). IsUpTo most (get_or levels other.node 0)) (sym (inputs_of-same old port.cell here)) (walked.inputs other done is_input (same ∙ gone.cell ∙ sym here)))
  inputs_more other (inr last) is_input same =
      subst (λ (p : CellPort). IsUpTo new.inputs (get_or levels p.node 0)) last (gone.input (ap (λ (p : CellPort). p.is_input) last ∙ is_input))

  -- an output that comes now is above the inputs of its cell that were passed
  output_above : (input : CellPort) → Contains ports input → MayReach port input → IsBelow levels input.node port.node
  output_above input done reach =
      let here = same_cell old port input before (walked.passed input done) (sym reach.cell) in
      above old.inputs (get_or levels input.node 0) (get_or levels port.node 0)
      (walked.inputs input done reach.is_input (sym reach.cell ∙ sym here))
      (subst (λ (most : Option ℕ). IfSome most (λ m. m < get_or levels port.node 0)) (inputs_of-same old port.cell here) (allows reach.is_output))

  kept_more : (output input : CellPort) → Contains ports output ⊎ (port ≡ output) → Contains ports input ⊎ (port ≡ input) → MayReach output input → IsBelow levels input.node output.node
  kept_more output input (inl has_output) (inl has_input) reach = walked.kept output input has_output has_input reach
  kept_more output input (inl has_output) (inr last) reach =
      let now = subst (MayReach output) (sym last) reach in
      absurd (no_higher old port output before (walked.passed output has_output) now.cell now.lower)
  kept_more output input (inr last) (inl has_input) reach =
      subst (λ (p : CellPort). IsBelow levels input.node p.node) last (output_above input has_input (subst (λ (p : CellPort). MayReach p input) (sym last) reach))
  kept_more output input (inr last) (inr also) reach =
      let lower = reach.lower in
      absurd (omega (arith, ap (λ (p : CellPort). p.level) last, ap (λ (p : CellPort). p.level) also))

  pub walked_push : HasWalked (ports ++ port ∷ []) levels new
  walked_push = record {
    passed = λ other has. passed_more other (Contains-push_cases ports port other has);
    inputs = λ other has. inputs_more other (Contains-push_cases ports port other has);
    kept = λ output input has_output has_input. kept_more output input (Contains-push_cases ports port output has_output) (Contains-push_cases ports port input has_input);
  }

pub walked_more : (ports : List CellPort) (levels : List ℕ) (old new : Walk) (i : ℕ) (port : CellPort) → i < length ports → get_or ports i port ≡ port → HasWalked (take i ports) levels old → IsBefore old port → Allows old port (get_or levels port.node 0) → HasGone old new port (get_or levels port.node 0) → HasWalked (take (i + 1) ports) levels new
walked_more ports levels old new i port within at walked before allows gone =
    subst (λ (done : List CellPort). HasWalked done levels new)
    (sym (take_more ports i port within ∙ ap (λ (p : CellPort). take i ports ++ p ∷ []) at))
    (walked_push (take i ports) levels old new port walked before allows gone)
