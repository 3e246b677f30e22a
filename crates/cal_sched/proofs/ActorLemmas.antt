-- By C1 the actors of a component differ: names of groups are distinct, and so are the items of invokes. So an actor stands for the group at its place.
use Rattle.std.proofs.Common.{◌≡◌, ◌⊎◌, inl, inr, ℕ, zero, suc, ◌+◌, ◌<◌, ◌≤◌, List, [], ◌∷◌, ◌++◌, length, map, take, Bool, Some, option_map, refl, sym, ap, ap₂, ◌∙◌, subst, arith}
use Rattle.std.specs.Prelude.{Contains, find, flat_map, slice_get}
use Rattle.std.proofs.lemmas.Bool.{cases_order, false_from_ne_true}
use Rattle.std.proofs.lemmas.List.{length-append, length-map, length-take, get_or-take, map-append, map-id}
use Rattle.std.proofs.lemmas.List.Elements.{Contains-append_left, Contains-append_right}
use Rattle.std.proofs.lemmas.Option.{get_or_from_slice_get, slice_get-get_or, slice_get-map, slice_get_within}
use Rattle.hw_names.specs.Name.{Text}
use Rattle.cal_ast.proofs.ItemLemmas.{slice_get-each}
use Rattle.cal_ast.proofs.ListLemmas.{place_of, find-at, Contains-at, Contains-cases_first, Contains-flat_map, Contains-map, Contains-none}
use Rattle.cal_ast.specs.Actors.{Actor, ActorGroup, GroupNamed, InvokeAt, actor_groups, actors_of, group_of, invoked_group, own_group, same_actor}
use Rattle.cal_ast.specs.Invoking.{InvokeDef, invoke_group, invokes_among, invokes_in}
use Rattle.cal_ast.specs.Items.{Item, TheSignature, TheCell, TheGroup, TheAssignment, TheStatement, control_statements, each, group_items, items_before_control, items_of}
use Rattle.cal_ast.specs.Naming.{IsNewGroup, Unreserved, group_names}
use Rattle.cal_ast.specs.Rules.{C1, KeepsRules}
use Rattle.cal_ast.specs.Tree.{GroupDef, Invoke, Component, Design}
use Rattle.cal_ast.specs.Wires.{all_groups}
use Rattle.cal_walk.proofs.WantLemmas.{of_same_actor, same_actor_of}
use Rattle.cal_walk.specs.Marking.{HaveOwnMarks}
use Rattle.cal_sched.proofs.PlaceLemmas.{append_places, map_both, place_from_map}
use Rattle.cal_sched.specs.Walking.{actor_at}

-- ---- invokes

-- invokes that are counted from k are at k or after it
from_count : (k : ℕ) (items : List Item) (i : InvokeDef) → Contains (invokes_among k items) i → k ≤ i.item
from_count k [] i has = absurd (Contains-none i has)
from_count k (TheStatement (Invoke cell ins outs) ∷ items) i has =
    elim (Contains-cases_first (record { item = k; cell = cell; ins = ins; outs = outs }) (invokes_among (k + 1) items) i has) [
      | inl same ↦ let e : k ≡ i.item = ap (λ (x : InvokeDef). x.item) same in omega (arith, e)
      | inr there ↦ let later = from_count (k + 1) items i there in omega (arith, later)
    ]
from_count k (item ∷ items) i has = let later = from_count (k + 1) items i has in omega (arith, later)

-- their items rise
abbrev Rises : List InvokeDef → Type 0
Rises xs = (m n : ℕ) (i j : InvokeDef) → m < n → slice_get xs m ≡ Some i → slice_get xs n ≡ Some j → i.item < j.item

rises_first : (x : InvokeDef) (xs : List InvokeDef) → ((j : InvokeDef) → Contains xs j → x.item < j.item) → Rises xs → (m n : ℕ) (i j : InvokeDef) → m < n
    → slice_get (x ∷ xs) m ≡ Some i → slice_get (x ∷ xs) n ≡ Some j → i.item < j.item
rises_first x xs later rest m zero i j less at at' = absurd (omega (arith, less))
rises_first x xs later rest zero (suc n) i j less at at' =
    let same : x ≡ i = cc in
    subst (λ (y : InvokeDef). y.item < j.item) same (later j (Contains-at xs n j at'))
rises_first x xs later rest (suc m) (suc n) i j less at at' = rest m n i j (omega (arith, less)) at at'

rises : (k : ℕ) (items : List Item) → Rises (invokes_among k items)
rises k [] = λ m n i j less at at'. absurd (cc)
rises k (TheStatement (Invoke cell ins outs) ∷ items) =
    let first : InvokeDef = record { item = k; cell = cell; ins = ins; outs = outs } in
    rises_first first (invokes_among (k + 1) items) (λ j has. let later = from_count (k + 1) items j has in omega (arith, later)) (rises (k + 1) items)
rises k (item ∷ items) = rises (k + 1) items

-- ---- groups

abbrev cell_part : Component → List Item
cell_part c = TheSignature ∷ each TheCell c.cells

abbrev group_part : Component → List Item
group_part c = flat_map (λ items. items) (each group_items c.groups)

-- the header of each group is an item, after the groups before it
group_item : (c : Component) (k : ℕ) (g : GroupDef) → slice_get c.groups k ≡ Some g → Contains (items_of c) (TheGroup (take k c.groups) g)
group_item c k g at =
    let header = TheGroup (take k c.groups) g in
    let items : List Item = group_items (take k c.groups) g in
    let there = Contains-at (each group_items c.groups) k items (slice_get-each group_items c.groups k g at) in
    Contains-append_left (items_before_control c) (map TheStatement (control_statements c.control)) header
    (Contains-append_left (cell_part c ++ group_part c) (map TheAssignment c.sets) header
    (Contains-append_right (cell_part c) (group_part c) header
    (Contains-flat_map (λ (is : List Item). is) (each group_items c.groups) items header there (Contains-at items 0 header refl))))

-- ---- each actor has one place

-- the actor at the place is a group
record IsGroupPlace (c : Component) (actor : Actor) (k : ℕ) : Type 0 where
  pub g : GroupDef
  pub at : slice_get c.groups k ≡ Some g
  pub is : GroupNamed g.name ≡ actor

-- or an invoke
record IsInvokePlace (c : Component) (actor : Actor) (k : ℕ) : Type 0 where
  pub m : ℕ
  pub i : InvokeDef
  pub place : k ≡ length c.groups + m
  pub at : slice_get (invokes_in c) m ≡ Some i
  pub is : InvokeAt i.item ≡ actor

place_cases : (c : Component) (actor : Actor) (k : ℕ) → slice_get (actors_of c) k ≡ Some actor → IsGroupPlace c actor k ⊎ IsInvokePlace c actor k
place_cases c actor k at =
    elim (append_places (map (λ (g : GroupDef). GroupNamed g.name) c.groups) (map (λ (i : InvokeDef). InvokeAt i.item) (invokes_in c)) k actor at) [
      | inl here ↦ (let g = place_from_map (λ (g : GroupDef). GroupNamed g.name) c.groups k actor here in inl (record { g = g.0; at = g.1; is = g.2 }))
      | inr (m, place, there) ↦ (let i = place_from_map (λ (i : InvokeDef). InvokeAt i.item) (invokes_in c) m actor there in
          inr (record { m = m; i = i.0; place = place ∙ ap (λ n. n + m) (length-map c.groups (λ (g : GroupDef). GroupNamed g.name)); at = i.1; is = i.2 }))
    ]

module _ (design : Design) (keeps : KeepsRules design) (n : ℕ) (c : Component) (at : slice_get design n ≡ Some c) where
  new_group : (k : ℕ) (g : GroupDef) → slice_get c.groups k ≡ Some g → IsNewGroup Unreserved c (take k c.groups) g
  new_group k g there = let i = place_of (items_of c) (TheGroup (take k c.groups) g) (group_item c k g there) in keeps n c at i.0 (TheGroup (take k c.groups) g) i.1 0 C1 (omega arith)

  before_other : (j k : ℕ) (g h : GroupDef) → j < k → slice_get c.groups j ≡ Some g → slice_get c.groups k ≡ Some h → g.name ≡ h.name → ⊥
  before_other j k g h less at_j at_k same =
      let within = slice_get_within c.groups j g at_j in
      let early : Contains (take k c.groups) g = (j, omega (arith, less, within, length-take k c.groups), get_or-take k c.groups j g less ∙ get_or_from_slice_get c.groups j g g at_j) in
      (new_group k h at_k).0 (subst (λ (x : Text). Contains (group_names (take k c.groups)) x) same (Contains-map (λ (x : GroupDef). x.name) (take k c.groups) g early))

  one_group_place : (actor : Actor) (j k : ℕ) → IsGroupPlace c actor j → IsGroupPlace c actor k → j ≡ k
  one_group_place actor j k a b =
      let both : GroupNamed a.g.name ≡ GroupNamed b.g.name = a.is ∙ sym b.is in
      let same : a.g.name ≡ b.g.name = cc in
      elim (cases_order j k) [
        | inl is ↦ is
        | inr (inl less) ↦ absurd (before_other j k a.g b.g less a.at b.at same)
        | inr (inr more) ↦ absurd (before_other k j b.g a.g more b.at a.at (sym same))
      ]

  one_invoke_place : (actor : Actor) (j k : ℕ) → IsInvokePlace c actor j → IsInvokePlace c actor k → j ≡ k
  one_invoke_place actor j k a b =
      let both : InvokeAt a.i.item ≡ InvokeAt b.i.item = a.is ∙ sym b.is in
      let same : a.i.item ≡ b.i.item = cc in
      elim (cases_order a.m b.m) [
        | inl is ↦ omega (arith, is, a.place, b.place)
        | inr (inl less) ↦ let rise = rises 0 (items_of c) a.m b.m a.i b.i less a.at b.at in absurd (omega (arith, rise, same))
        | inr (inr more) ↦ let rise = rises 0 (items_of c) b.m a.m b.i a.i more b.at a.at in absurd (omega (arith, rise, same))
      ]

  apart_kinds : (actor : Actor) (j k : ℕ) → IsGroupPlace c actor j → IsInvokePlace c actor k → ⊥
  apart_kinds actor j k a b = let both : GroupNamed a.g.name ≡ InvokeAt b.i.item = a.is ∙ sym b.is in cc

  pub one_place : (actor : Actor) (j k : ℕ) → slice_get (actors_of c) j ≡ Some actor → slice_get (actors_of c) k ≡ Some actor → j ≡ k
  one_place actor j k at_j at_k = elim (place_cases c actor j at_j) [
    | inl a ↦ elim (place_cases c actor k at_k) [ inl b ↦ one_group_place actor j k a b | inr b ↦ absurd (apart_kinds actor j k a b) ]
    | inr a ↦ elim (place_cases c actor k at_k) [ inl b ↦ absurd (apart_kinds actor k j b a) | inr b ↦ one_invoke_place actor j k a b ]
  ]

  -- so the actors that numbers mean are apart
  pub actors_apart : HaveOwnMarks (actor_at c) (length (actors_of c))
  actors_apart j k in_j in_k same =
      one_place (actor_at c k) j k (slice_get-get_or (actors_of c) j (InvokeAt 0) in_j ∙ ap Some same) (slice_get-get_or (actors_of c) k (InvokeAt 0) in_k)

-- ---- the groups that actors stand for

abbrev actor_in : ActorGroup → Actor
actor_in a = a.actor

abbrev group_in : ActorGroup → GroupDef
group_in a = a.group

module _ (design : Design) (c : Component) where
  actors_are : map actor_in (actor_groups design c) ≡ actors_of c
  actors_are =
      map-append actor_in (map own_group c.groups) (map (invoked_group design c) (invokes_in c))
      ∙ ap₂ ◌++◌ (map_both actor_in own_group c.groups) (map_both actor_in (invoked_group design c) (invokes_in c))

  -- the groups come first, and then those of invokes
  pub groups_are : all_groups design c ≡ c.groups ++ map (invoke_group design c []) (invokes_in c)
  groups_are =
      map-append group_in (map own_group c.groups) (map (invoked_group design c) (invokes_in c))
      ∙ ap₂ ◌++◌ (map_both group_in own_group c.groups ∙ map-id c.groups) (map_both group_in (invoked_group design c) (invokes_in c))

  pub groups_counted : length (all_groups design c) ≡ length (actors_of c)
  groups_counted = length-map (actor_groups design c) group_in ∙ sym (length-map (actor_groups design c) actor_in) ∙ ap length actors_are

  pub actors_counted : length (actors_of c) ≡ length c.groups + length (invokes_in c)
  actors_counted =
      let groups = map (λ (g : GroupDef). GroupNamed g.name) c.groups in
      let invokes = map (λ (i : InvokeDef). InvokeAt i.item) (invokes_in c) in
      omega (arith, length-append groups invokes, length-map c.groups (λ (g : GroupDef). GroupNamed g.name), length-map (invokes_in c) (λ (i : InvokeDef). InvokeAt i.item))

  -- the actor at a place stands for the group at the place
  pub group_at : KeepsRules design → Contains design c → (k : ℕ) (actor : Actor) → slice_get (actors_of c) k ≡ Some actor → slice_get (all_groups design c) k ≡ group_of design c actor
  group_at keeps has k actor at =
      let n = place_of design c has in
      let all = actor_groups design c in
      let a = place_from_map actor_in all k actor (ap (λ l. slice_get l k) actors_are ∙ at) in
      let test : ActorGroup → Bool = λ b. same_actor b.actor actor in
      let found : find test all ≡ Some a.0 = find-at test all k a.0 a.1 (same_actor_of a.0.actor actor a.2) (λ j b less at_j. false_from_ne_true (test b) (λ yes'.
      let there : slice_get (actors_of c) j ≡ Some actor =
      sym (ap (λ l. slice_get l j) actors_are) ∙ slice_get-map actor_in all j ∙ ap (option_map actor_in) at_j ∙ ap Some (of_same_actor b.actor actor yes') in
      let same : j ≡ k = one_place design keeps n.0 c n.1 actor j k there at in
      omega (arith, less, same))) in
      slice_get-map group_in all k ∙ ap (option_map group_in) a.1 ∙ sym (ap (option_map group_in) found)
