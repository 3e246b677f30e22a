-- Assignments in memory under the rules of their groups, and the tables by which a group finds its rule.
use Rattle.std.proofs.Common.{◌≡◌, ℕ, ◌+◌, List, [], ◌∷◌, ◌++◌, map, take, Option, Some, None, Vec, Global, sym, ap, ap₂, ◌∙◌, subst, append_assoc}
use Rattle.std.specs.Prelude.{All, Contains, slice_get}
use Rattle.std.proofs.lemmas.List.{append-nil, map-append}
use Rattle.std.proofs.lemmas.List.Elements.{All-nil, All-cons, All-push, All-contains, All-contains_itself, All-weaker, Contains-append_left, Contains-push}
use Rattle.hw_names.specs.Name.{Text}
use Rattle.net_core.proofs.GuardLemmas.{guard_tree-All}
use Rattle.net_core.specs.Guard.{GuardTree, AllOf, guards_of, source_tree}
use Rattle.net_core.specs.declared.net.Guard.{Guard}
use Rattle.net_core.specs.declared.net.Guard.TheVariants as variants
use Rattle.cal_ast.specs.Holes.{guarded_set}
use Rattle.cal_ast.specs.Numbers.{GuardHasNumbers, WhenHasNumbers, SetHasNumbers}
use Rattle.cal_ast.specs.Tree.{PortName, Assignment, port_tree, assignment_tree}
use Rattle.cal_ast.specs.declared.tree.Assign.{Assign}
use Rattle.cal_ast.specs.declared.tree.CalPort.{CalPort}
use Rattle.cal_copy.proofs.CopyLemmas.{take_next, numbers_from}
use Rattle.cal_copy.specs.inside.Copies.{IsGuardCopy, port_guard}
use Rattle.cal_group.specs.inside.Ruling.{IsRuledSet, AddsRuled}

-- ---- both guards

pub both_numbers : (names : List Text) (v : Vec (Guard CalPort) Global) (a b : Guard CalPort) → v.items ≡ a ∷ b ∷ [] → GuardHasNumbers names a → GuardHasNumbers names b → GuardHasNumbers names (variants.All v)
both_numbers names v a b is first second =
    let N : Guard CalPort → Type 0 = GuardHasNumbers names in
    numbers_from names v (subst (λ (gs : List (Guard CalPort)). All N gs) (sym is) (All-cons N a (b ∷ []) first (All-cons N b [] second (All-nil N))))

pub both_tree : (names : List Text) (v : Vec (Guard CalPort) Global) (a b : Guard CalPort) → v.items ≡ a ∷ b ∷ [] → port_guard names (variants.All v) ≡ AllOf (guards_of (port_guard names a ∷ port_guard names b ∷ []))
both_tree names v a b is = guard_tree-All (port_tree names) v ∙ ap (λ (gs : List (Guard CalPort)). AllOf (guards_of (map (port_guard names) gs))) is

-- what was put twice
pub two_items : {X : Type 0} (none one two : List X) (a b : X) → none ≡ [] → one ≡ none ++ a ∷ [] → two ≡ one ++ b ∷ [] → two ≡ a ∷ b ∷ []
two_items none one two a b first second third = third ∙ ap (λ xs. xs ++ b ∷ []) (second ∙ ap (λ xs. xs ++ a ∷ []) first)

-- ---- an assignment under a guard

pub ruled_alone : (when rule : Guard CalPort) (set : Assign) → IsGuardCopy when rule → set.guard ≡ None → IsRuledSet when set (record { dst = set.dst; guard = Some rule; src = set.src })
ruled_alone when rule set copy none = record {
  numbers = λ names first later. (later.0, copy.numbers names first, later.2);
  tree = λ names.
      ap (λ (g : GuardTree PortName). record { dst = port_tree names set.dst; guard = Some g; src = source_tree (port_tree names) set.src }) (copy.tree names)
      ∙ ap (λ (own : Option (Guard CalPort)). guarded_set (Some (port_guard names when)) (assignment_tree names (record { dst = set.dst; guard = own; src = set.src }))) (sym none);
}

pub ruled_both : (when rule own copied guard : Guard CalPort) (set : Assign) → IsGuardCopy when rule → IsGuardCopy own copied → set.guard ≡ Some own
    → ((names : List Text) → GuardHasNumbers names rule → GuardHasNumbers names copied → GuardHasNumbers names guard)
    → ((names : List Text) → port_guard names guard ≡ AllOf (guards_of (port_guard names rule ∷ port_guard names copied ∷ [])))
    → IsRuledSet when set (record { dst = set.dst; guard = Some guard; src = set.src })
ruled_both when rule own copied guard set copy copy' some numbers tree = record {
  numbers = λ names first later. (
      let own_numbers : GuardHasNumbers names own = subst (λ (o : Option (Guard CalPort)). WhenHasNumbers names o) some later.1 in
      (later.0, numbers names (copy.numbers names first) (copy'.numbers names own_numbers), later.2));
  tree = λ names.
      ap (λ (g : GuardTree PortName). record { dst = port_tree names set.dst; guard = Some g; src = source_tree (port_tree names) set.src })
      (tree names ∙ ap₂ (λ (g h : GuardTree PortName). AllOf (guards_of (g ∷ h ∷ []))) (copy.tree names) (copy'.tree names))
      ∙ ap (λ (o : Option (Guard CalPort)). guarded_set (Some (port_guard names when)) (assignment_tree names (record { dst = set.dst; guard = o; src = set.src }))) (sym some);
}

-- ---- assignments put last

-- what holds of all holds of those before the last
front : {X : Type 0} (P : X → Type 0) (xs : List X) (x : X) → All P (xs ++ x ∷ []) → All P xs
front P xs x all =
    All-weaker (Contains xs) P (λ y has. All-contains P (xs ++ x ∷ []) y all (Contains-append_left xs (x ∷ []) y has)) xs (All-contains_itself xs)

pub adds_none : (when : Guard CalPort) (before : List Assign) → AddsRuled when [] before before
adds_none when before = record {
  numbers = λ names has none all. all;
  trees = λ names. sym (append-nil (map (assignment_tree names) before));
}

pub adds_more : (when : Guard CalPort) (sets before after after' : List Assign) (i : ℕ) (set ruled : Assign) → slice_get sets i ≡ Some set → AddsRuled when (take i sets) before after → IsRuledSet when set ruled → after' ≡ after ++ ruled ∷ []
    → AddsRuled when (take (i + 1) sets) before after'
adds_more when sets before after after' i set ruled at adds is pushed = record {
  numbers = λ names has all old. (
      let N : Assign → Type 0 = SetHasNumbers names in
      let both : All N (take i sets ++ set ∷ []) = subst (λ (xs : List Assign). All N xs) (take_next sets i set at) all in
      let own : N set = All-contains N (take i sets ++ set ∷ []) set both (Contains-push (take i sets) set) in
      subst (λ (xs : List Assign). All N xs) (sym pushed)
      (All-push N after ruled (adds.numbers names has (front N (take i sets) set both) old) (is.numbers names has own)));
  trees = λ names. (
      let t = assignment_tree names in
      let g = guarded_set (Some (port_guard names when)) in
      ap (map t) pushed ∙ map-append t after (ruled ∷ []) ∙ ap₂ (λ (xs : List Assignment) (x : Assignment). xs ++ x ∷ []) (adds.trees names) (is.tree names)
      ∙ append_assoc (map t before) (map g (map t (take i sets))) (g (t set) ∷ [])
      ∙ ap (λ (xs : List Assignment). map t before ++ xs) (sym (map-append g (map t (take i sets)) (t set ∷ [])) ∙ ap (map g) (sym (map-append t (take i sets) (set ∷ []))) ∙ ap (λ (xs : List Assign). map g (map t xs)) (sym (take_next sets i set at))));
}
