-- The done lines of a component's actors, put one after another.
use Rattle.std.proofs.Common.{◌≡◌, inl, inr, ℕ, ◌+◌, ◌<◌, ◌≤◌, ◌==◌, Bool, true, false, ◌&&◌, ◌||◌, List, [], ◌∷◌, ◌++◌, length, map, take, get_or, All, Option, Some, None, refl, sym, ap, ap₂, ◌∙◌, subst, arith}
use Rattle.std.specs.List.{list_any}
use Rattle.std.specs.Prelude.{codes, slice_get}
use Rattle.std.proofs.lemmas.Bool.{cases_order, eq-eqb, ne_eqb}
use Rattle.std.proofs.lemmas.List.{append-nil, append_assoc, length-append, length-map, length_push, length-take, map_push, take_all, take_more}
use Rattle.std.proofs.lemmas.List.Elements.{All-cons, All-nil, All-push, All-weaker}
use Rattle.std.proofs.lemmas.List.Folds.{list_any-append}
use Rattle.std.proofs.lemmas.Option.{get_or_from_slice_get, slice_get_past, slice_get_within}
use Rattle.hw_names.proofs.NameLemmas.{text_of-slice_get}
use Rattle.hw_names.specs.Name.{Text, port_at, text_of}
use Rattle.hw_prims.specs.Row.{Row}
use Rattle.net_core.specs.declared.net.Src.TheVariants.{Port}
use Rattle.cal_ast.specs.Invoking.{invoke_done, invoke_group, invokes_in}
use Rattle.cal_ast.specs.Schedule.{is_group_done, reads_done}
use Rattle.cal_ast.specs.Tree.{DoneLine, GroupDef, Component, Design, group_tree}
use Rattle.cal_ast.specs.Wires.{all_groups}
use Rattle.cal_ast.specs.declared.tree.DoneSet.{DoneSet}
use Rattle.cal_ast.specs.declared.tree.Group.{Group}
use Rattle.cal_walk.proofs.OverLemmas.{at_index, one_more}
use Rattle.cal_walk.proofs.PlanLemmas.{at_last}
use Rattle.cal_walk.specs.Planning.{invoke_tree}
use Rattle.cal_walk.specs.declared.planning.Controlled.{Controlled}
use Rattle.cal_walk.specs.declared.planning.Invoke.{Invoke}
use Rattle.cal_sched.proofs.ActorLemmas.{group_at, groups_are, groups_counted}
use Rattle.cal_sched.proofs.LookLemmas.{value_named}
use Rattle.cal_sched.proofs.PlaceLemmas.{before_last, map_both}
use Rattle.cal_sched.specs.Walking.{CanWalk}
use Rattle.cal_sched.specs.Watching.{ActorIsBelow, AreWatchesOf, AreWatchesOfGroups, PutsDones, PutsInvoke, PutsLines, WatchIsWithin, invoke_port, is_done, is_watch_of, named, reads_one}
use Rattle.cal_sched.specs.declared.watch.Watch.{Watch}

pub or_false : (b : Bool) → b ≡ (b || false)
or_false true = refl
or_false false = refl

or_none : (b t : Bool) → b ≡ (b || (t && false))
or_none true t = refl
or_none false true = refl
or_none false false = refl

one_of : (t b : Bool) → ((t && b) || false) ≡ (t && (b || false))
one_of true b = refl
one_of false b = refl

either_of : (b t x y : Bool) → ((b || (t && x)) || (t && y)) ≡ (b || (t && (x || y)))
either_of true t x y = refl
either_of false true x y = refl
either_of false false x y = refl

-- ---- lines of one actor

module _ (ports : List Text) (actor : ℕ) where
  pub puts_none : (watches : List Watch) → PutsLines ports actor [] watches watches
  puts_none watches = record {
    within = λ all. all;
    actors = λ count below all. all;
    done = λ row k. or_none (is_done k (map row ports) watches) (actor == k);
  }

  pub puts_one : (line : DoneLine) (old new : List Watch) (w : Watch) → new ≡ old ++ w ∷ [] → w.actor ≡ actor → WatchIsWithin ports w
      → ((row : Row) → reads_one (map row ports) w ≡ reads_done [] row line) → PutsLines ports actor (line ∷ []) old new
  puts_one line old new w put same within reads =
      let P : List Watch → Type 0 = λ ws. PutsLines ports actor (line ∷ []) old ws in
      subst P (sym put) (record {
        within = λ all. All-push (WatchIsWithin ports) old w all within;
        actors = λ count below all. All-push (ActorIsBelow count) old w all (omega (arith, below, same));
        done = λ row k.
            list_any-append (is_watch_of k (map row ports)) old (w ∷ [])
            ∙ ap (λ b. is_done k (map row ports) old || b)
            (ap₂ (λ (n : ℕ) (b : Bool). ((n == k) && b) || false) same (reads row) ∙ one_of (actor == k) (reads_done [] row line));
      })

  puts_both : (xs ys : List DoneLine) (old mid new : List Watch) → PutsLines ports actor xs old mid → PutsLines ports actor ys mid new → PutsLines ports actor (xs ++ ys) old new
  puts_both xs ys old mid new first second = record {
    within = λ all. second.within (first.within all);
    actors = λ count below all. second.actors count below (first.actors count below all);
    done = λ row k.
        let before = is_done k (map row ports) old in
        let here : Bool = actor == k in
        let reads : DoneLine → Bool = reads_done [] row in
        second.done row k
        ∙ ap (λ b. b || (here && list_any reads ys)) (first.done row k)
        ∙ either_of before here (list_any reads xs) (list_any reads ys)
        ∙ ap (λ b. before || (here && b)) (sym (list_any-append reads xs ys));
  }

  -- one more line
  pub puts_more : {X : Type 0} (tree : X → DoneLine) (xs more : List X) (x : X) (old mid new : List Watch) → more ≡ xs ++ x ∷ [] → PutsLines ports actor (map tree xs) old mid
      → PutsLines ports actor (tree x ∷ []) mid new → PutsLines ports actor (map tree more) old new
  puts_more tree xs more x old mid new is first second =
      let P : List DoneLine → Type 0 = λ lines. PutsLines ports actor lines old new in
      subst P (sym (ap (map tree) is ∙ map_push tree xs x)) (puts_both (map tree xs) (tree x ∷ []) old mid new first second)

-- ---- the lines of groups

module _ (ports : List Text) where
  pub no_groups : (watches : List Watch) → watches ≡ [] → AreWatchesOfGroups [] ports watches
  no_groups watches none =
      let P : List Watch → Type 0 = AreWatchesOfGroups [] ports in
      subst P (sym none) (record { within = All-nil (WatchIsWithin ports); actors = All-nil (ActorIsBelow 0); done = λ row k. refl })

  -- whether an actor is done, with the lines of one more
  done_push : (row : Row) (groups : List GroupDef) (g : GroupDef) (actor k : ℕ) → actor ≡ length groups
      → (is_group_done [] row (slice_get groups k) || ((actor == k) && list_any (reads_done [] row) g.dones)) ≡ is_group_done [] row (slice_get (groups ++ g ∷ []) k)
  done_push row groups g actor k is =
      let done : Option GroupDef → Bool = is_group_done [] row in
      let lines : Bool = list_any (reads_done [] row) g.dones in
      elim (cases_order k (length groups)) [
        | inl same ↦
            let D : ℕ → Type 0 = λ n. (done (slice_get groups n) || ((actor == n) && lines)) ≡ done (slice_get (groups ++ g ∷ []) n) in
            let none : done (slice_get groups (length groups)) ≡ false = ap done (slice_get_past groups (length groups) (omega arith)) in
            let here : (actor == length groups) ≡ true = eq-eqb actor (length groups) is in
            subst D (sym same) (ap₂ (λ (a b : Bool). a || (b && lines)) none here ∙ sym (ap done (at_last groups g)))
        | inr (inl less) ↦
            let other : (actor == k) ≡ false = ne_eqb actor k (λ e. omega (arith, e, is, less)) in
            ap (λ b. done (slice_get groups k) || (b && lines)) other ∙ sym (or_false (done (slice_get groups k))) ∙ sym (ap done (before_last groups g k less))
        | inr (inr past) ↦
            let other : (actor == k) ≡ false = ne_eqb actor k (λ e. omega (arith, e, is, past)) in
            let none : done (slice_get groups k) ≡ false = ap done (slice_get_past groups k (omega (arith, past))) in
            let still : done (slice_get (groups ++ g ∷ []) k) ≡ false = ap done (slice_get_past (groups ++ g ∷ []) k (omega (arith, past, length_push groups g))) in
            ap₂ (λ (a b : Bool). a || (b && lines)) none other ∙ sym still
      ]

  pub group_watched : (groups : List GroupDef) (g : GroupDef) (actor : ℕ) (old new : List Watch) → actor ≡ length groups → AreWatchesOfGroups groups ports old
      → PutsLines ports actor g.dones old new → AreWatchesOfGroups (groups ++ g ∷ []) ports new
  group_watched groups g actor old new is so_far puts = record {
    within = puts.within so_far.within;
    actors = puts.actors (length (groups ++ g ∷ [])) (omega (arith, is, length_push groups g))
        (All-weaker (ActorIsBelow (length groups)) (ActorIsBelow (length (groups ++ g ∷ []))) (λ w below. omega (arith, below, length_push groups g)) old so_far.actors);
    done = λ row k.
        puts.done row k ∙ ap (λ b. b || ((actor == k) && list_any (reads_done [] row) g.dones)) (so_far.done row k) ∙ done_push row groups g actor k is;
  }

  -- one more group of a list
  pub watched_more : {X : Type 0} (before : List GroupDef) (tree : X → GroupDef) (xs more : List X) (x : X) (actor : ℕ) (old new : List Watch) → more ≡ xs ++ x ∷ []
      → actor ≡ length before + length xs → AreWatchesOfGroups (before ++ map tree xs) ports old → PutsLines ports actor (tree x).dones old new
      → AreWatchesOfGroups (before ++ map tree more) ports new
  watched_more before tree xs more x actor old new next is so_far puts =
      let P : List GroupDef → Type 0 = λ gs. AreWatchesOfGroups gs ports new in
      let count : actor ≡ length (before ++ map tree xs) = omega (arith, is, length-append before (map tree xs), length-map xs tree) in
      let same : (before ++ map tree xs) ++ tree x ∷ [] ≡ before ++ map tree more = append_assoc before (map tree xs) (tree x ∷ []) ∙ ap (λ gs. before ++ gs) (sym (ap (map tree) next ∙ map_push tree xs x)) in
      subst P same (group_watched (before ++ map tree xs) (tree x) actor old new count so_far puts)

  -- of groups that are these
  pub watched_same : (groups others : List GroupDef) (watches : List Watch) → groups ≡ others → AreWatchesOfGroups groups ports watches → AreWatchesOfGroups others ports watches
  watched_same groups others watches same = let P : List GroupDef → Type 0 = λ gs. AreWatchesOfGroups gs ports watches in subst P same

-- ---- all actors

pub all_watched : (design : Design) (c : Component) (names ports : List Text) (control : Controlled) (watches : List Watch) → CanWalk design c names ports control
    → AreWatchesOfGroups (c.groups ++ map (invoke_group design c []) (invokes_in c)) ports watches → AreWatchesOf design c ports watches
all_watched design c names ports control watches can told =
    let all = watched_same ports (c.groups ++ map (invoke_group design c []) (invokes_in c)) (all_groups design c) watches (sym (groups_are design c)) told in
    let count : ℕ → Type 0 = λ n. All (ActorIsBelow n) watches in
    record {
      within = all.within;
      actors = subst count (groups_counted design c) all.actors;
      done = λ k actor row at. all.done row k ∙ ap (is_group_done [] row) (group_at design c can.rules.keeps can.in_design k actor at);
    }

-- ---- invokes

-- the done of an invoked cell, by the number of its port
pub invoke_watched : (names ports : List Text) (actor : ℕ) (i : Invoke) (old new : List Watch) (w : Watch) (number : ℕ) (name cell : Text) → new ≡ old ++ w ∷ []
    → w ≡ record { actor = actor; guard = None; src = Port number } → slice_get ports number ≡ Some name → name ≡ port_at [] (Some cell) (codes "done") → slice_get names i.cell.0 ≡ Some cell
    → PutsInvoke names ports actor i old new
invoke_watched names ports actor i old new w number name cell put made at is text =
    let within : number < length ports = slice_get_within ports number name at in
    let tree : port_at [] (Some cell) (codes "done") ≡ invoke_port names i = ap (λ t. port_at [] (Some t) (codes "done")) (sym (text_of-slice_get names i.cell cell text)) in
    let named_so : named ports number ≡ invoke_port names i = get_or_from_slice_get ports number name [] at ∙ is ∙ tree in
    let line = invoke_done [] (text_of names i.cell) in
    let P : Watch → Type 0 = λ x. new ≡ old ++ x ∷ [] in
    puts_one ports actor line old new (record { actor = actor; guard = None; src = Port number }) (subst P made put) refl
    (record { guard = All-nil (λ k. k < length ports); src = All-cons (λ k. k < length ports) number [] within (All-nil (λ k. k < length ports)) })
    (λ row. ap (λ v. true && (v == 1)) (value_named row ports number within ∙ ap row named_so))

module _ (design : Design) (c : Component) (names : List Text) where
  -- the group that an invoke stands for
  abbrev pub group_for : Invoke → GroupDef
  group_for i = invoke_group design c [] (invoke_tree names i)

  pub invoke_more : (ports : List Text) (items : List Invoke) (place groups : ℕ) (d : Invoke) (old new : List Watch) → place < length items → groups ≡ length c.groups
      → AreWatchesOfGroups (c.groups ++ map group_for (take place items)) ports old → PutsInvoke names ports (groups + place) (get_or items place d) old new
      → AreWatchesOfGroups (c.groups ++ map group_for (take (place + 1) items)) ports new
  invoke_more ports items place groups d old new within count so_far puts =
      let actor : groups + place ≡ length c.groups + length (take place items) = omega (arith, count, length-take place items, within) in
      watched_more ports c.groups group_for (take place items) (take (place + 1) items) (get_or items place d) (groups + place) old new (take_more items place d within) actor so_far puts

  pub no_invokes : (ports : List Text) (watches : List Watch) → AreWatchesOfGroups c.groups ports watches → AreWatchesOfGroups (c.groups ++ []) ports watches
  no_invokes ports watches told = watched_same ports c.groups (c.groups ++ []) watches (sym (append-nil c.groups)) told

  pub invokes_told : (ports : List Text) (control : Controlled) (items : List Invoke) (place : ℕ) (watches : List Watch) → CanWalk design c names ports control → items ≡ control.invokes.items
      → length items ≤ place → AreWatchesOfGroups (c.groups ++ map group_for (take place items)) ports watches → AreWatchesOf design c ports watches
  invokes_told ports control items place watches can same past told =
      let group = invoke_group design c [] in
      let whole : map group_for (take place items) ≡ map group (invokes_in c) =
      ap (map group_for) (take_all place items past ∙ same) ∙ sym (map_both group (invoke_tree names) control.invokes.items) ∙ ap (map group) can.control_is.invokes_are in
      all_watched design c names ports control watches can
      (watched_same ports (c.groups ++ map group_for (take place items)) (c.groups ++ map group (invokes_in c)) watches (ap (λ gs. c.groups ++ gs) whole) told)

-- ---- groups

module _ (design : Design) (c : Component) (names ports : List Text) (control : Controlled) (can : CanWalk design c names ports control) where
  pub groups_are_told : (groups : List Group) (count : ℕ) (watches : List Watch) → groups ≡ control.comp.now.groups.items → length groups ≤ count
      → AreWatchesOfGroups (map (group_tree names) (take count groups)) ports watches → AreWatchesOfGroups c.groups ports watches
  groups_are_told groups count watches same past told =
      let whole : map (group_tree names) (take count groups) ≡ c.groups = ap (map (group_tree names)) (take_all count groups past ∙ same) ∙ ap (λ (x : Component). x.groups) can.comp in
      watched_same ports (map (group_tree names) (take count groups)) c.groups watches whole told

  pub count_groups : (count : ℕ) → count ≡ control.comp.now.groups.len → count ≡ length c.groups
  count_groups count is =
      let groups = control.comp.now.groups in
      is ∙ groups.ok.0 ∙ sym (length-map groups.items (group_tree names)) ∙ ap (λ (x : Component). length x.groups) can.comp

pub group_more : (names ports : List Text) (groups : List Group) (actor : ℕ) (g : Group) (dones : List DoneSet) (old new : List Watch) → actor < length groups → g ≡ get_or groups actor g
    → dones ≡ g.dones.items → AreWatchesOfGroups (map (group_tree names) (take actor groups)) ports old → PutsDones names ports actor dones old new
    → AreWatchesOfGroups (map (group_tree names) (take (actor + 1) groups)) ports new
group_more names ports groups actor g dones old new within is same so_far puts =
    let count : actor ≡ length {A = GroupDef} [] + length (take actor groups) = omega (arith, length-take actor groups, within) in
    let P : List DoneSet → Type 0 = λ ds. PutsDones names ports actor ds old new in
    watched_more ports [] (group_tree names) (take actor groups) (take (actor + 1) groups) g actor old new (one_more groups actor g (at_index groups actor g within is)) count so_far (subst P same puts)
