-- What a walker sees of a row is what the component's control sees of it.
use Rattle.std.proofs.Common.{◌≡◌, ℕ, ◌+◌, ◌<◌, ◌==◌, Bool, false, List, [], length, map, get_or, All, Some, sym, ap, ◌∙◌, subst, arith}
use Rattle.std.specs.Option.{option_map_or}
use Rattle.std.specs.Prelude.{codes, slice_get}
use Rattle.std.proofs.lemmas.List.{length-map}
use Rattle.std.proofs.lemmas.List.Elements.{All-weaker}
use Rattle.std.proofs.lemmas.Option.{get_or_from_slice_get, slice_get-get_or, slice_get_within, same_Some}
use Rattle.hw_names.specs.Name.{Text}
use Rattle.hw_prims.specs.Row.{Row}
use Rattle.cal_ast.proofs.ListLemmas.{place_of}
use Rattle.cal_ast.specs.Actors.{Actor, GroupNamed, InvokeAt, actors_of, group_of}
use Rattle.cal_ast.specs.CalRun.{look}
use Rattle.cal_ast.specs.Invoking.{InvokeDef, invokes_in}
use Rattle.cal_ast.specs.Schedule.{is_group_done}
use Rattle.cal_ast.specs.Tree.{GroupDef, Component, Design, group_tree, own, port_tree}
use Rattle.cal_walk.proofs.PlanLemmas.{kept_push}
use Rattle.cal_walk.specs.Marking.{HaveOwnMarks}
use Rattle.cal_walk.specs.Planning.{AreNumbered, invoke_tree}
use Rattle.cal_walk.specs.Trees.{IsSeen}
use Rattle.cal_walk.specs.declared.planning.Controlled.{Controlled}
use Rattle.cal_walk.specs.declared.seen.Seen.{Seen}
use Rattle.cal_sched.proofs.ActorLemmas.{actors_apart, actors_counted}
use Rattle.cal_sched.proofs.LookLemmas.{value_named, watch_within, within_values}
use Rattle.cal_sched.proofs.PlaceLemmas.{place_from_map, place_map, place_right}
use Rattle.cal_sched.specs.Walking.{CanWalk, IsWalkerOf, SeesRow, actor_at, condition_at, goes, is_one, sight_of}
use Rattle.cal_sched.specs.Watching.{ActorIsBelow, AreWithin, WatchIsWithin, is_done, named, top_port, value_at}
use Rattle.cal_sched.specs.declared.walker.Walker.{Walker}

-- ---- what numbers mean

module _ (design : Design) (c : Component) (names ports : List Text) (control : Controlled) (can : CanWalk design c names ports control) where
  -- numbers mean actors and ports
  pub numbered : AreNumbered names c control.invokes.items control.conditions.items (actor_at c) (condition_at names control.conditions.items)
  numbered = record {
    grouped = λ k g at.
        let group = λ (x : GroupDef). GroupNamed x.name in
        get_or_from_slice_get (actors_of c) k (group g) (InvokeAt 0) (kept_push (map group c.groups) invokes k (group g) (place_map group c.groups k g at));
    invoked = λ k i at.
        let group = λ (x : GroupDef). GroupNamed x.name in
        let invoke = λ (x : InvokeDef). InvokeAt x.item in
        let there : slice_get (invokes_in c) k ≡ Some (invoke_tree names i) =
        ap (λ l. slice_get l k) (sym can.control_is.invokes_are) ∙ place_map (invoke_tree names) control.invokes.items k i at in
        let count : length c.groups + k ≡ length (map group c.groups) + k = ap (λ n. n + k) (sym (length-map c.groups group)) in
        get_or_from_slice_get (actors_of c) (length c.groups + k) (InvokeAt i.item) (InvokeAt 0)
        (place_right (map group c.groups) invokes (length c.groups + k) k (InvokeAt i.item) count (place_map invoke (invokes_in c) k (invoke_tree names i) there));
    tested = λ k p at. ap (λ o. option_map_or (port_tree names) o (own [])) at;
  }
    where
      invokes : List Actor
      invokes = map (λ (x : InvokeDef). InvokeAt x.item) (invokes_in c)

  pub apart : HaveOwnMarks (actor_at c) (length (actors_of c))
  apart = let n = place_of design c can.in_design in actors_apart design can.rules.keeps n.0 c n.1

  -- there are as many actors as groups and invokes
  pub count_actors : length control.comp.now.groups.items + length control.invokes.items ≡ length (actors_of c)
  count_actors =
      let groups : length (map (group_tree names) control.comp.now.groups.items) ≡ length c.groups = ap (λ (x : Component). length x.groups) can.comp in
      omega (
        arith,
        groups,
        length-map control.comp.now.groups.items (group_tree names),
        ap length can.control_is.invokes_are,
        length-map control.invokes.items (invoke_tree names),
        actors_counted design c,
      )

-- ---- a row

module _ (design : Design) (c : Component) (names ports : List Text) (row : Row) (w : Walker) (is : IsWalkerOf design c names ports w) (values : List ℕ)
    (same : values ≡ map row ports) where
  pub as_many_values : length values ≡ length ports
  as_many_values = ap length same ∙ length-map ports row

  pub go_within : w.go < length values
  go_within = let within = slice_get_within ports w.go (codes "go") is.go in omega (arith, within, as_many_values)

  pub go_reads : (x : ℕ) → slice_get values w.go ≡ Some x → (x == 1) ≡ goes row
  go_reads x at =
      let there : slice_get values w.go ≡ Some (row (codes "go")) = ap (λ l. slice_get l w.go) same ∙ place_map row ports w.go (codes "go") is.go in
      ap (λ v. v == 1) (same_Some x (row (codes "go")) (sym at ∙ there))

  pub watches_within : All (WatchIsWithin values) w.watches.items
  watches_within =
      let P : List ℕ → Type 0 = λ l. All (WatchIsWithin l) w.watches.items in
      subst P (sym same) (All-weaker (WatchIsWithin ports) (WatchIsWithin (map row ports)) (watch_within row ports) w.watches.items is.watches.within)

  pub actors_below : (items : List Bool) → length items ≡ length (actors_of c) → All (ActorIsBelow (length items)) w.watches.items
  actors_below items sized =
      All-weaker (ActorIsBelow (length (actors_of c))) (ActorIsBelow (length items)) (λ x below. omega (arith, below, sized)) w.watches.items is.watches.actors

  pub conditions_within : AreWithin values w.conditions.items
  conditions_within =
      let P : List ℕ → Type 0 = λ l. AreWithin l w.conditions.items in
      subst P (sym same) (within_values row ports w.conditions.items is.conditions_within)

  pub conditions_counted : length w.conditions.items ≡ length w.control.now.conditions.items
  conditions_counted = sym (length-map w.conditions.items (named ports)) ∙ ap length is.conditions ∙ length-map w.control.now.conditions.items (top_port names)

  -- the condition with a number reads what its port does
  condition_reads : (k number : ℕ) → slice_get w.conditions.items k ≡ Some number → is_one values number ≡ (look [] row (condition_at names w.control.now.conditions.items k) == 1)
  condition_reads k number at =
      let conditions = w.control.now.conditions.items in
      let there : slice_get (map (top_port names) conditions) k ≡ Some (named ports number) = ap (λ l. slice_get l k) (sym is.conditions) ∙ place_map (named ports) w.conditions.items k number at in
      let (p, place, name) = place_from_map (top_port names) conditions k (named ports number) there in
      let means : condition_at names conditions k ≡ port_tree names p = ap (λ o. option_map_or (port_tree names) o (own [])) place in
      let within : number < length ports = All-at w.conditions.items k number at is.conditions_within in
      let value : value_at values number ≡ row (named ports number) = ap (λ l. value_at l number) same ∙ value_named row ports number within in
      ap (λ v. v == 1) (value ∙ ap row (sym name) ∙ sym (ap (look [] row) means))
    where
      All-at : (xs : List ℕ) (j x : ℕ) → slice_get xs j ≡ Some x → AreWithin ports xs → x < length ports
      All-at xs j x there all = subst (λ n. n < length ports) (get_or_from_slice_get xs j x 0 there) (all j 0 (slice_get_within xs j x there))

  -- what code sees is what control sees
  pub sees : (seen : Seen) → SeesRow values w.watches.items w.conditions.items w.seen seen
      → IsSeen (actor_at c) (condition_at names w.control.now.conditions.items) (sight_of design c row) seen
  sees seen sees_row = record { done = done; reads = reads }
    where
      done : (k : ℕ) (b : Bool) → slice_get seen.done.items k ≡ Some b → is_group_done [] row (group_of design c (actor_at c k)) ≡ b
      done k b at =
          let within = slice_get_within seen.done.items k b at in
          let inside : k < length (actors_of c) = omega (arith, within, sees_row.done_sized, is.done_sized) in
          let actor = slice_get-get_or (actors_of c) k (InvokeAt 0) inside in
          sym (is.watches.done k (actor_at c k) row actor) ∙ sym (ap (λ l. is_done k l w.watches.items) same) ∙ sym (sees_row.done k within) ∙ get_or_from_slice_get seen.done.items k b false at

      reads : (k : ℕ) (b : Bool) → slice_get seen.reads.items k ≡ Some b → (look [] row (condition_at names w.control.now.conditions.items k) == 1) ≡ b
      reads k b at =
          let there : slice_get (map (is_one values) w.conditions.items) k ≡ Some b = ap (λ l. slice_get l k) (sym sees_row.reads) ∙ at in
          let (number, place, one) = place_from_map (is_one values) w.conditions.items k b there in
          sym (condition_reads k number place) ∙ one

  -- whether an actor is done
  pub done_seen : (seen : Seen) → SeesRow values w.watches.items w.conditions.items w.seen seen → (k : ℕ) (actor : Actor) → slice_get (actors_of c) k ≡ Some actor
      → get_or seen.done.items k false ≡ is_group_done [] row (group_of design c actor)
  done_seen seen sees_row k actor at =
      let inside = slice_get_within (actors_of c) k actor at in
      let within : k < length seen.done.items = omega (arith, inside, sees_row.done_sized, is.done_sized) in
      sees_row.done k within ∙ ap (λ l. is_done k l w.watches.items) same ∙ is.watches.done k actor row at

  pub reads_counted : (seen : Seen) → SeesRow values w.watches.items w.conditions.items w.seen seen → length seen.reads.items ≡ length w.control.now.conditions.items
  reads_counted seen sees_row = ap length sees_row.reads ∙ length-map w.conditions.items (is_one values) ∙ conditions_counted
