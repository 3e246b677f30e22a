-- By C1 an actor stands for one group: names of groups are distinct, and so are items.
use Rattle.std.proofs.Common.{◌≡◌, inl, inr, ℕ, ◌+◌, ◌<◌, ◌≤◌, ◌==◌, List, [], ◌∷◌, ◌++◌, map, take, Bool, true, false, Some, refl, sym, ap, ◌∙◌, subst, arith, eqb-true, eq-eqb}
use Rattle.std.specs.Prelude.{Contains, bytes_eq, find, flat_map, if◌then◌else◌, option_map, slice_get}
use Rattle.std.proofs.lemmas.Bool.{cases_lt}
use Rattle.std.proofs.lemmas.List.{length-take, get_or-take}
use Rattle.std.proofs.lemmas.List.Elements.{Contains-append_left, Contains-append_right, Contains-append_cases}
use Rattle.std.proofs.lemmas.Option.{slice_get_within, get_or_from_slice_get, same_Some}
use Rattle.std.proofs.lemmas.Slice.Eq.{bytes_eq-Decides}
use Rattle.hw_names.specs.Name.{Text}
use Rattle.cal_ast.proofs.ItemLemmas.{slice_get-each}
use Rattle.cal_ast.proofs.ListLemmas.{place_of, find-Some, Contains-at, Contains-none, Contains-here, Contains-there, Contains-cases_first, Contains-map, Contains-from_map, Contains-flat_map}
use Rattle.cal_ast.proofs.SideLemmas.{some_found}
use Rattle.cal_ast.specs.Actors.{Actor, GroupNamed, InvokeAt, ActorGroup, same_actor, own_group, invoked_group, actor_groups, group_of}
use Rattle.cal_ast.specs.Invoking.{InvokeDef, invokes_among, invokes_in}
use Rattle.cal_ast.specs.Items.{Item, TheSignature, TheCell, TheGroup, TheAssignment, TheStatement, each, group_items, control_statements, items_before_control, items_of}
use Rattle.cal_ast.specs.Naming.{GroupNaming, IsNewGroup, group_names}
use Rattle.cal_ast.specs.Rules.{C1, KeepsRulesUnder}
use Rattle.cal_ast.specs.Tree.{GroupDef, Invoke, Component, Design}
use Rattle.cal_ast.specs.Wires.{IsGroupOf}

-- ---- invokes

-- invokes that are counted from k are at k or after it
from_count : (k : ℕ) (items : List Item) (i : InvokeDef) → Contains (invokes_among k items) i → k ≤ i.item
from_count k [] i has = absurd (Contains-none i has)
from_count k (TheStatement (Invoke cell ins outs) ∷ items) i has =
    elim (Contains-cases_first (record { item = k; cell = cell; ins = ins; outs = outs }) (invokes_among (k + 1) items) i has) [
      | inl same ↦ let e : k ≡ i.item = ap (λ (x : InvokeDef). x.item) same in omega (arith, e)
      | inr there ↦ let later = from_count (k + 1) items i there in omega (arith, later)
    ]
from_count k (item ∷ items) i has = let later = from_count (k + 1) items i has in omega (arith, later)

-- one item has one invoke
one_invoke : (k : ℕ) (items : List Item) (i j : InvokeDef) → Contains (invokes_among k items) i → Contains (invokes_among k items) j → i.item ≡ j.item → i ≡ j
one_invoke k [] i j has has' same = absurd (Contains-none i has)
one_invoke k (TheStatement (Invoke cell ins outs) ∷ items) i j has has' same =
    let first : InvokeDef = record { item = k; cell = cell; ins = ins; outs = outs } in
    elim (Contains-cases_first first (invokes_among (k + 1) items) i has) [
      | inl here ↦ elim (Contains-cases_first first (invokes_among (k + 1) items) j has') [
        | inl here' ↦ sym here ∙ here'
        | inr there ↦
            let e : k ≡ i.item = ap (λ (x : InvokeDef). x.item) here in
            let later = from_count (k + 1) items j there in
            absurd (omega (arith, e, later, same))
      ]
      | inr early ↦ elim (Contains-cases_first first (invokes_among (k + 1) items) j has') [
        | inl here' ↦
            let e : k ≡ j.item = ap (λ (x : InvokeDef). x.item) here' in
            let later = from_count (k + 1) items i early in
            absurd (omega (arith, e, later, same))
        | inr there ↦ one_invoke (k + 1) items i j early there same
      ]
    ]
one_invoke k (item ∷ items) i j has has' same = one_invoke (k + 1) items i j has has' same

-- ---- groups

abbrev cell_part : Component → List Item
cell_part c = TheSignature ∷ each TheCell c.cells

abbrev group_part : Component → List Item
group_part c = flat_map (λ items. items) (each group_items c.groups)

-- the header of each group is an item, after the groups before it
group_item : (c : Component) (k : ℕ) (g : GroupDef) → slice_get c.groups k ≡ Some g → Contains (items_of c) (TheGroup (take k c.groups) g)
group_item c k g at =
    let header = TheGroup (take k c.groups) g in
    let items : List Item = group_items (take k c.groups) g in
    let there = Contains-at (each group_items c.groups) k items (slice_get-each group_items c.groups k g at) in
    Contains-append_left (items_before_control c) (map TheStatement (control_statements c.control)) header
    (Contains-append_left (cell_part c ++ group_part c) (map TheAssignment c.sets) header
    (Contains-append_right (cell_part c) (group_part c) header
    (Contains-flat_map (λ (is : List Item). is) (each group_items c.groups) items header there (Contains-at items 0 header refl))))

-- what the test finds, where it passes for one element alone
find_only : {X : Type 0} (test : X → Bool) (xs : List X) (x : X) → Contains xs x → test x ≡ true → ((y : X) → Contains xs y → test y ≡ true → y ≡ x) → find test xs ≡ Some x
find_only test [] x has passes only = absurd (Contains-none x has)
find_only test (y ∷ ys) x has passes only = by (test y) refl (λ there. find_only test ys x there passes (λ z has' yes'. only z (Contains-there y ys z has') yes'))
  where
    by : (b : Bool) → test y ≡ b → (Contains ys x → find test ys ≡ Some x) → (if b then Some y else find test ys) ≡ Some x
    by true is later = ap Some (only y (Contains-here y ys) is)
    by false is later = elim (Contains-cases_first y ys x has) [
      | inl same ↦ let no' = ap test (sym same) in absurd (cc)
      | inr there ↦ later there
    ]

module _ (naming : GroupNaming) (design : Design) (keeps : KeepsRulesUnder naming design) (n : ℕ) (c : Component) (at : slice_get design n ≡ Some c) where
  new_group : (k : ℕ) (g : GroupDef) → slice_get c.groups k ≡ Some g → IsNewGroup naming c (take k c.groups) g
  new_group k g there = let i = place_of (items_of c) (TheGroup (take k c.groups) g) (group_item c k g there) in keeps n c at i.0 (TheGroup (take k c.groups) g) i.1 0 C1 (omega arith)

  before_other : (j k : ℕ) (g h : GroupDef) → j < k → slice_get c.groups j ≡ Some g → slice_get c.groups k ≡ Some h → g.name ≡ h.name → ⊥
  before_other j k g h less at_j at_k same =
      let within = slice_get_within c.groups j g at_j in
      let early : Contains (take k c.groups) g = (j, omega (arith, less, within, length-take k c.groups), get_or-take k c.groups j g less ∙ get_or_from_slice_get c.groups j g g at_j) in
      (new_group k h at_k).0 (subst (λ (x : Text). Contains (group_names (take k c.groups)) x) same (Contains-map (λ (x : GroupDef). x.name) (take k c.groups) g early))

  -- one name has one group
  one_group : (g h : GroupDef) → Contains c.groups g → Contains c.groups h → g.name ≡ h.name → g ≡ h
  one_group g h has has' same =
      let j = place_of c.groups g has in
      let k = place_of c.groups h has' in
      elim (cases_lt j.0 k.0) [
        | inl less ↦ absurd (before_other j.0 k.0 g h less j.1 k.1 same)
        | inr least ↦ elim (cases_lt k.0 j.0) [
          | inl more ↦ absurd (before_other k.0 j.0 h g more k.1 j.1 (sym same))
          | inr most ↦
              let e : j.0 ≡ k.0 = omega (arith, least, most) in
              same_Some g h (sym j.1 ∙ ap (slice_get c.groups) e ∙ k.1)
        ]
      ]

  same_as : (x y : ActorGroup) → Contains (actor_groups design c) x → Contains (actor_groups design c) y → same_actor x.actor y.actor ≡ true → x ≡ y
  same_as x y has has' same =
      elim (Contains-append_cases (map own_group c.groups) (map (invoked_group design c) (invokes_in c)) x has) [
        | inl own ↦ elim (Contains-append_cases (map own_group c.groups) (map (invoked_group design c) (invokes_in c)) y has') [
          | inl own' ↦
              let g = Contains-from_map own_group c.groups x own in
              let h = Contains-from_map own_group c.groups y own' in
              let test : bytes_eq g.0.name h.0.name ≡ true = both_are g.0 h.0 g.2 h.2 in
              sym g.2 ∙ ap own_group (one_group g.0 h.0 g.1 h.1 ((bytes_eq-Decides g.0.name h.0.name).0 test)) ∙ h.2
          | inr invoked' ↦
              let g = Contains-from_map own_group c.groups x own in
              let j = Contains-from_map (invoked_group design c) (invokes_in c) y invoked' in
              let none : false ≡ true = tested (own_group g.0) (invoked_group design c j.0) g.2 j.2 in
              absurd (cc)
        ]
        | inr invoked ↦ elim (Contains-append_cases (map own_group c.groups) (map (invoked_group design c) (invokes_in c)) y has') [
          | inl own' ↦
              let i = Contains-from_map (invoked_group design c) (invokes_in c) x invoked in
              let h = Contains-from_map own_group c.groups y own' in
              let none : false ≡ true = tested (invoked_group design c i.0) (own_group h.0) i.2 h.2 in
              absurd (cc)
          | inr invoked' ↦
              let i = Contains-from_map (invoked_group design c) (invokes_in c) x invoked in
              let j = Contains-from_map (invoked_group design c) (invokes_in c) y invoked' in
              let test : (i.0.item == j.0.item) ≡ true = tested (invoked_group design c i.0) (invoked_group design c j.0) i.2 j.2 in
              sym i.2 ∙ ap (invoked_group design c) (one_invoke 0 (items_of c) i.0 j.0 i.1 j.1 (eqb-true i.0.item j.0.item test)) ∙ j.2
        ]
      ]
    where
      tested : (a b : ActorGroup) → a ≡ x → b ≡ y → same_actor a.actor b.actor ≡ true
      tested a b is is' = subst (λ (z : ActorGroup). same_actor z.actor b.actor ≡ true) (sym is) (subst (λ (z : ActorGroup). same_actor x.actor z.actor ≡ true) (sym is') same)

      both_are : (g h : GroupDef) → own_group g ≡ x → own_group h ≡ y → bytes_eq g.name h.name ≡ true
      both_are g h is is' = tested (own_group g) (own_group h) is is'

  same_actor-refl : (a : Actor) → same_actor a a ≡ true
  same_actor-refl (GroupNamed name) = (bytes_eq-Decides name name).1 refl
  same_actor-refl (InvokeAt k) = eq-eqb k k refl

  -- the actor of a group finds the group
  pub group_of-itself : (a : ActorGroup) → Contains (actor_groups design c) a → group_of design c a.actor ≡ Some a.group
  group_of-itself a has =
      ap (option_map (λ (x : ActorGroup). x.group))
      (find_only (λ (x : ActorGroup). same_actor x.actor a.actor) (actor_groups design c) a has (same_actor-refl a.actor) (λ y has' same. same_as y a has' has same))

-- what an actor finds is a group of the component
pub group_of-is : (design : Design) (c : Component) (actor : Actor) (g : GroupDef) → group_of design c actor ≡ Some g → IsGroupOf design c g
group_of-is design c actor g is =
    let found = some_found (λ (a : ActorGroup). a.group) (find (λ (a : ActorGroup). same_actor a.actor actor) (actor_groups design c)) g is in
    let r = find-Some (λ (a : ActorGroup). same_actor a.actor actor) (actor_groups design c) found.0 found.1 in
    subst (λ (x : GroupDef). IsGroupOf design c x) found.2 (Contains-map (λ (a : ActorGroup). a.group) (actor_groups design c) found.0 r.0)
