-- C4 of guards: what holds of a list holds of each of its guards.
use Rattle.std.proofs.Common.{◌≡◌, ◌↔◌, ◌⊎◌, inl, inr, List, [], ◌∷◌, map, All, Vec, Global, sym, ap, subst, ◌∙◌}
use Rattle.std.proofs.lemmas.List.Elements.{All-cons, All-head, All-nil, All-tail}
use Rattle.net_core.specs.Guard.{GuardTree, guard_tree, guards_of}
use Rattle.net_core.specs.declared.net.Guard.{Guard}
use Rattle.net_core.specs.declared.net.Guard.TheVariants as guards
use Rattle.net_core.proofs.GuardLemmas.{guard_tree-All, guard_tree-Any}
use Rattle.cal_ast.specs.Tree.{PortName, Component, Design}
use Rattle.cal_ast.specs.Typing.{GuardAgrees, GuardsAgree}
use Rattle.cal_ast.specs.declared.tree.CalPort.{CalPort}

module _ (design : Design) (c : Component) (f : CalPort → PortName) where
  abbrev pub Agrees : Guard CalPort → Type 0
  Agrees g = GuardAgrees design c (guard_tree f g)

  pub guards_each : (gs : List (Guard CalPort)) → All Agrees gs ↔ GuardsAgree design c (guards_of (map (guard_tree f) gs))
  guards_each [] = (λ all. tt, λ none. All-nil Agrees)
  guards_each (g ∷ gs) =
      let rest = guards_each gs in
      (λ all. (All-head Agrees g gs all, rest.0 (All-tail Agrees g gs all)), λ both. All-cons Agrees g gs both.0 (rest.1 both.1))

  pub list_agrees : (g : Guard CalPort) (v : Vec (Guard CalPort) Global) → (g ≡ guards.All v) ⊎ (g ≡ guards.Any v) → GuardsAgree design c (guards_of (map (guard_tree f) v.items)) ↔ Agrees g
  list_agrees g v (inl is) =
      let P : GuardTree PortName → Type 0 = λ t. GuardsAgree design c (guards_of (map (guard_tree f) v.items)) ↔ GuardAgrees design c t in
      subst P (sym (ap (guard_tree f) is ∙ guard_tree-All f v)) (λ h. h, λ h. h)
  list_agrees g v (inr is) =
      let P : GuardTree PortName → Type 0 = λ t. GuardsAgree design c (guards_of (map (guard_tree f) v.items)) ↔ GuardAgrees design c t in
      subst P (sym (ap (guard_tree f) is ∙ guard_tree-Any f v)) (λ h. h, λ h. h)

-- one way and back, over a fact between
pub both_ways : {A B C : Type 0} → A ↔ B → B ↔ C → A ↔ C
both_ways first second = (λ a. second.0 (first.0 a), λ c. first.1 (second.1 c))
