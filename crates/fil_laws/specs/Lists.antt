-- Each legal list can be given: there are inputs that carry it. Filament, PLDI 2023; the law is this project's.
use Rattle.std.specs.Prelude.{◌≡◌, ◌⊎◌, ℕ, ◌≤◌, List, take, Contains}
use Rattle.hw_names.specs.Name.{Text}
use Rattle.hw_prims.specs.Row.{Trace}
use Rattle.hw_prims.specs.Timed.{Transaction}
use Rattle.fil_ast.specs.Behaviours.{component_behaviour}
use Rattle.fil_ast.specs.Tree.{Design}
use Rattle.fil_promise.specs.Refines.{GiveInputs}
use Rattle.fil_laws.specs.Paths.{IsLegalList}

-- inputs that carry the list, however many rows are asked; each value is 0 or 1, or what a transaction has for that port
pub record Gives {comps : Design} {n : ℕ} {txs : List Transaction} (list : IsLegalList comps n txs) : Type 0 where
  pub inputs : Trace
  pub give : (asked : ℕ) → GiveInputs (component_behaviour (take n comps) list.c) asked inputs txs
  pub fit : (row : ℕ) (port : Text) → (inputs row port ≤ 1) ⊎ ((tx : Transaction) × Contains txs tx × (inputs row port ≡ tx.values port))

abbrev pub LegalListsCanBeGiven : Type 0
LegalListsCanBeGiven = (comps : Design) (n : ℕ) (txs : List Transaction) (list : IsLegalList comps n txs) → Gives list
