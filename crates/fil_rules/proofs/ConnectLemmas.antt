-- F9, connection by connection.
use Rattle.std.proofs.Common.{◌≡◌, ℕ, Bool, true, false, not, ◌↔◌, List, All, Contains, Option, Some, None, is_some, flat_map, refl, sym, subst}
use Rattle.std.specs.Bool.{IsTrue}
use Rattle.std.specs.Option.{IfSome, MatchOption}
use Rattle.hw_names.specs.Name.{Text, text_of}
use Rattle.fil_ast.specs.Connections.{ConnectsAll, connected_at}
use Rattle.fil_ast.specs.Scope.{Scope}
use Rattle.fil_ast.specs.Timeline.{Covers, Interval}
use Rattle.fil_ast.specs.Tree.{DataPort, ValueTree, component_tree, port_tree}
use Rattle.fil_ast.specs.declared.tree.FilComp.{FilComp}
use Rattle.fil_ast.specs.declared.tree.FilPort.{FilPort}
use Rattle.fil_sig.proofs.ListLemmas.{All-mapped, All-unmap}
use Rattle.fil_rules.specs.inside.Available.{IsMissingIn}

module _ (names : List Text) (comp : FilComp) (connected : List Text) (are : connected ≡ flat_map connected_at (component_tree names comp).body) where
  abbrev IsConnected : DataPort → Type 0
  IsConnected p = Contains (flat_map connected_at (component_tree names comp).body) p.name

  abbrev Each : List Text → Type 0
  Each ts = All (λ (p : FilPort). Contains ts (text_of names p.name)) comp.outs.items

  pub all_connected : Each connected → ConnectsAll (component_tree names comp)
  all_connected each = All-mapped IsConnected (port_tree names) comp.outs.items (subst Each are each)

  pub each_connected : ConnectsAll (component_tree names comp) → Each connected
  each_connected all = subst Each (sym are) (All-unmap IsConnected (port_tree names) comp.outs.items all)

-- a value that is missing somewhere is not available throughout
pub missing_refutes : (scope : Scope) (value : ValueTree) (interval : Option Interval) (offset : ℕ) → IsMissingIn scope value interval offset → IfSome interval (Covers scope value) → ⊥
missing_refutes scope value interval offset missing covers =
    let C : Option Interval → Type 0 = λ i. IfSome i (Covers scope value) in
    missing.missing (subst C missing.is_need covers offset missing.from missing.to)

-- the two parts of the rule
pub covers_told : (scope : Scope) (value : ValueTree) (interval : Option Interval) (r : Option ℕ) (b : Bool) (P : Type 0) → MatchOption r (IfSome interval (Covers scope value)) (IsMissingIn scope value interval) → is_some r ≡ not b → P
    → IsTrue b ↔ (P × IfSome interval (Covers scope value))
covers_told scope value interval None true P told is p = (λ t. (p, told), λ both. refl)
covers_told scope value interval None false P told is p = absurd (cc)
covers_told scope value interval (Some offset) true P told is p = absurd (cc)
covers_told scope value interval (Some offset) false P told is p = (
  λ t. (let bad : false ≡ true = t in absurd (cc)),
  λ both. absurd (missing_refutes scope value interval offset told both.1),
)
