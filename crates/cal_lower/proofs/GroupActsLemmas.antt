-- The guard of a group's wire is true where control lets the group act, in a row that shows tokens as they are and the dones of groups.
use Rattle.std.proofs.Common.{◌≡◌, ℕ, List, [], Bool, true, false, not, ◌&&◌, ◌||◌, Option, None, Some, refl, sym, ap, subst, inl, inr, ◌∙◌}
use Rattle.std.specs.Prelude.{Contains}
use Rattle.std.specs.List.{list_any}
use Rattle.std.proofs.lemmas.Bool.{cases_Bool, false_from_ne_true, cond-true, cond-false}
use Rattle.hw_names.specs.Name.{Path}
use Rattle.hw_prims.specs.Row.{Trace}
use Rattle.net_core.specs.Guard.{GuardTree, Negates, holds}
use Rattle.cal_ast.proofs.ListLemmas.{Contains-here}
use Rattle.cal_ast.specs.Actors.{Actor, GroupNamed, same_actor}
use Rattle.cal_ast.specs.CalRun.{look}
use Rattle.cal_ast.specs.NoInvoke.{IsPlainDesign}
use Rattle.cal_ast.specs.Plain.{HasPlainTree}
use Rattle.cal_ast.specs.Plan.{Plan, plan_of}
use Rattle.cal_ast.specs.Schedule.{reads_done, is_group_done, view_at}
use Rattle.cal_ast.specs.Tree.{PortName, DoneLine, GroupDef, Component, Design}
use Rattle.cal_walk.proofs.WantLemmas.{of_same_actor}
use Rattle.cal_walk.specs.Left.{is_by}
use Rattle.cal_token.proofs.TestLemmas.{and_same}
use Rattle.cal_token.specs.inside.Tokens.{enables_by, tests_by}
use Rattle.cal_lower.specs.inside.Lowered.{acts_guard}
use Rattle.cal_lower.specs.inside.Parts.{enabling, testing}
use Rattle.cal_lower.specs.inside.Pieces.{done_name, start_name, is_set, both, any_of, is_done}
use Rattle.cal_lower.proofs.ActingLemmas.{enabling_is, testing_is, never_enabled, never_tested}
use Rattle.cal_lower.proofs.ControlLemmas.{enabled_weaker, tested_weaker, acts_in_test, acts_enabled}
use Rattle.cal_lower.proofs.GuardLemmas.{or_false, holds_both, holds_any_of}
use Rattle.cal_lower.proofs.PartLemmas.{shows_bit, tokens_in, EachEnabled}
use Rattle.cal_lower.proofs.SourceLemmas.{IsOwnGroup, IsOwnTest, plan_is_own, same_group, HasOneDone, one_done, group_of_own}

module _ (source : Design) (tree : HasPlainTree source) (plain : IsPlainDesign source) (c : Component) (in_design : Contains source c) where
  abbrev plan : Plan
  plan = plan_of c

  -- ---- the dones of groups

  -- the wire of each done line shows what the line gives
  abbrev pub ShowsDones : Path → Trace → ℕ → Type 0
  ShowsDones path trace t =
      (g : GroupDef) (d : DoneLine) → Contains c.groups g → Contains g.dones d → shows_bit (look path (trace t)) (done_name d.group) ≡ reads_done path (trace t) d

  module _ (path : Path) (height : ℕ) (trace : Trace) (t : ℕ) (shows : ShowsDones path trace t) where
    pub done_is : (g : GroupDef) → Contains c.groups g → g.comb ≡ false
        → holds (look path (trace t)) (is_done (GroupNamed g.name)) ≡ (view_at source path c height trace).done (GroupNamed g.name) t
    done_is g of comb =
        let one : HasOneDone source tree plain c in_design g = one_done source tree plain c in_design g of comb in
        let H : List DoneLine → Type 0 = λ ds. Contains ds one.line in
        let has : Contains g.dones one.line = subst H (sym one.only) (Contains-here one.line []) in
        ap (λ name. shows_bit (look path (trace t)) (done_name name)) (sym one.of) ∙ shows g one.line of has ∙ sym (or_false (reads_done path (trace t) one.line))
        ∙ sym (ap (list_any (reads_done path (trace t))) one.only)
        ∙ sym (ap (is_group_done path (trace t)) (group_of_own source tree plain c in_design g of))

    -- an actor that the plan enables
    own_done : (actor : Actor) → IsOwnGroup c false actor → holds (look path (trace t)) (is_done actor) ≡ (view_at source path c height trace).done actor t
    own_done actor (g, of, named, comb) =
        let D : Actor → Type 0 = λ a. holds (look path (trace t)) (is_done a) ≡ (view_at source path c height trace).done a t in subst D (sym named) (done_is g of comb)

    pub dones_are : EachEnabled (λ actor. holds (look path (trace t)) (is_done actor) ≡ (view_at source path c height trace).done actor t) plan
    dones_are =
        enabled_weaker (IsOwnGroup c false) (λ actor. holds (look path (trace t)) (is_done actor) ≡ (view_at source path c height trace).done actor t) own_done plan
        (plan_is_own source tree plain c in_design).0

  -- ---- where a group acts

  module _ (g : GroupDef) (of : Contains c.groups g) where
    abbrev actor : Actor
    actor = GroupNamed g.name

    -- a group of another kind is another actor
    pub other_actor : (comb : Bool) → (g.comb ≡ comb → ⊥) → (other : Actor) → IsOwnGroup c comb other → same_actor other actor ≡ false
    other_actor comb differs other (h, has, named, is) = false_from_ne_true (same_actor other actor) (λ e.
        let same : other ≡ actor = of_same_actor other actor e in
        let names : GroupNamed h.name ≡ GroupNamed g.name = sym named ∙ same in
        let name : h.name ≡ g.name = cc in
        let one : h ≡ g = same_group source tree plain c in_design h g has of name in
        differs (ap (λ (x : GroupDef). x.comb) (sym one) ∙ is))

    pub other_test : (g.comb ≡ true → ⊥) → (by : Option Actor) → IsOwnTest c by → is_by by actor ≡ false
    other_test differs None has = refl
    other_test differs (Some other) has = other_actor true differs other has

    module _ (see : PortName → ℕ) (on tested enabled done : Bool) (enabled_as : enables_by (tokens_in see) 0 plan (shows_bit see start_name) actor ≡ (on && enabled))
        (tested_as : tests_by (tokens_in see) 0 plan (shows_bit see start_name) actor ≡ (on && tested)) where
      abbrev Acts : Type 0
      Acts = holds see (acts_guard plan g) ≡ (on && (tested || (enabled && not done)))

      in_test : g.comb ≡ true → Acts
      in_test comb =
          let none : (on && enabled) ≡ false =
          sym enabled_as
          ∙ never_enabled (tokens_in see) actor 0 plan (shows_bit see start_name)
          (enabled_weaker (IsOwnGroup c false) (λ other. same_actor other actor ≡ false) (other_actor false (λ is. let bad : true ≡ false = sym comb ∙ is in cc)) plan
          (plan_is_own source tree plain c in_design).0) in
          ap (λ x. holds see x) (cond-true g.comb (any_of (testing 0 plan (is_set start_name) actor))
          (both (any_of (enabling 0 plan (is_set start_name) actor)) (Negates (is_done actor))) comb)
          ∙ holds_any_of see (testing 0 plan (is_set start_name) actor) ∙ testing_is see actor 0 plan (is_set start_name)
          ∙ tested_as ∙ acts_in_test on tested enabled done none

      while_enabled : g.comb ≡ false → holds see (is_done actor) ≡ done → Acts
      while_enabled comb done_as =
          let none : (on && tested) ≡ false =
          sym tested_as
          ∙ never_tested (tokens_in see) actor 0 plan (shows_bit see start_name)
          (tested_weaker (IsOwnTest c) (λ by. is_by by actor ≡ false) (other_test (λ is. let bad : false ≡ true = sym comb ∙ is in cc)) plan
          (plan_is_own source tree plain c in_design).1) in
          let list : List (GuardTree PortName) = enabling 0 plan (is_set start_name) actor in
          ap (λ x. holds see x) (cond-false g.comb (any_of (testing 0 plan (is_set start_name) actor)) (both (any_of list) (Negates (is_done actor))) comb)
          ∙ holds_both see (any_of list) (Negates (is_done actor))
          ∙ and_same (holds see (any_of list)) (not (holds see (is_done actor))) (on && enabled) (not done)
          (holds_any_of see list ∙ enabling_is see actor 0 plan (is_set start_name) ∙ enabled_as)
          (ap not done_as)
          ∙ acts_enabled on tested enabled done none

      pub acts_guard_is : (g.comb ≡ false → holds see (is_done actor) ≡ done) → Acts
      acts_guard_is done_as = elim (cases_Bool g.comb) [
        | inl comb ↦ in_test comb
        | inr comb ↦ while_enabled comb (done_as comb)
      ]
