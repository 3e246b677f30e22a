-- Planning, statement after statement, and the plans that it gives.
use Rattle.std.proofs.Common.{◌≡◌, ℕ, zero, suc, ◌+◌, ◌<◌, ◌≤◌, List, [], ◌∷◌, ◌++◌, length, map, All, Option, Some, None, IfSome, SomeIff, option_map, Vec, Global, Bor, refl, sym, ap, ap₂, ◌∙◌, subst, append_assoc, arith}
use Rattle.std.specs.Global.{Box}
use Rattle.std.specs.Prelude.{slice_get}
use Rattle.std.proofs.lemmas.List.{append-nil, length-append, length-map, map-append, get_or_append_left, get_or-append-add}
use Rattle.std.proofs.lemmas.List.Elements.{All-push, All-same, All-weaker}
use Rattle.std.proofs.lemmas.Option.{slice_get-get_or, slice_get_within, same_Some}
use Rattle.hw_names.specs.Name.{Text, text_of}
use Rattle.hw_names.specs.declared.names.NameId.{NameId}
use Rattle.cal_ast.specs.Actors.{Actor, GroupNamed, InvokeAt}
use Rattle.cal_ast.specs.Invoking.{InvokeDef, invokes_among}
use Rattle.cal_ast.specs.Items.{TheStatement}
use Rattle.cal_ast.specs.Numbers.{PortHasNumbers}
use Rattle.cal_ast.specs.Plan.{Plan, Plans, Enables, InTurn, AtOnce, Chooses, Repeats}
use Rattle.cal_ast.specs.Tree.{PortName, GroupDef, Statement, Invoke, Component, in_tree, out_tree, port_tree}
use Rattle.cal_ast.specs.declared.tree.CalPort.{CalPort}
use Rattle.cal_ast.specs.declared.tree.InBind.{InBind}
use Rattle.cal_ast.specs.declared.tree.OutBind.{OutBind}
use Rattle.cal_walk.specs.Planning.{ShowsNames, NamesGroup, NamesCell, NamesGroupIfAny, IsGroupAt, IsMadeOf, InvokeNumbers, IsInvoke, invoke_tree, AreNumbered, CanPlan, IsCounted, IsTestedIn, GoesOver, IsConditionAt, IsActorOf, PutsInvoke, IsPlanOf, ArePlansOf}
use Rattle.net_core.specs.Numbers.{IsNumberOf}
use Rattle.cal_walk.specs.Trees.{plan_tree, IsWithin}
use Rattle.cal_walk.specs.declared.plan.Plan as code
use Rattle.cal_walk.specs.declared.plan.Plan.TheVariants as variants
use Rattle.cal_walk.specs.declared.planning.Invoke.{Invoke as InvokeOf}
use Rattle.cal_walk.specs.declared.planning.Numbers.{Numbers}
use Rattle.cal_walk.specs.declared.planning.Planner.{Planner}
use Rattle.cal_walk.proofs.CountLemmas.{invokes_both}
use Rattle.cal_walk.proofs.TreeLemmas.{plan_tree-InTurn, plan_tree-AtOnce, within_list, within_more}

module _ {X : Type 0} where
  pub all_left : (P : X → Type 0) (xs ys : List X) → All P (xs ++ ys) → All P xs
  all_left P xs ys all k d within = subst P (get_or_append_left xs ys d k within) (all k d (omega (arith, within, length-append xs ys)))

  pub all_right : (P : X → Type 0) (xs ys : List X) → All P (xs ++ ys) → All P ys
  all_right P xs ys all k d within = subst P (get_or-append-add xs ys k d) (all (length xs + k) d (omega (arith, within, length-append xs ys)))

  -- elements that stay where they are
  pub kept_push : (xs ys : List X) (k : ℕ) (x : X) → slice_get xs k ≡ Some x → slice_get (xs ++ ys) k ≡ Some x
  kept_push [] ys k x at = absurd (cc)
  kept_push (y ∷ xs) ys zero x at = at
  kept_push (y ∷ xs) ys (suc k) x at = kept_push xs ys k x at

  pub at_last : (xs : List X) (x : X) → slice_get (xs ++ x ∷ []) (length xs) ≡ Some x
  at_last [] x = refl
  at_last (y ∷ xs) x = at_last xs x

  kept_length : (old new : List X) → ((k : ℕ) (x : X) → slice_get old k ≡ Some x → slice_get new k ≡ Some x) → length old ≤ length new
  kept_length [] new kept = omega arith
  kept_length (x ∷ old) new kept =
      let last : length old < length (x ∷ old) = omega arith in
      let there = slice_get-get_or (x ∷ old) (length old) x last in
      let within = slice_get_within new (length old) _ (kept (length old) _ there) in
      omega (arith, within)

-- a sum that has been checked
pub sum_is : (o : Option ℕ) (P : Type 0) (sum n : ℕ) → SomeIff o P sum → o ≡ Some n → n ≡ sum
sum_is None P sum n some is = absurd (cc)
sum_is (Some m) P sum n some is = let same : m ≡ n = cc in sym same ∙ some.1

module _ (names : List Text) (c : Component) where
  -- a condition of the component's control reads the port
  abbrev pub IsTested : CalPort → Type 0
  IsTested p = IsTestedIn c (port_tree names p)

  -- ---- statements

  pub goes_nowhere : (p : Planner) → CanPlan names c p → GoesOver names c [] p p
  goes_nowhere p can = record {
    can = can;
    counts = omega arith;
    adds = sym (append-nil (map (invoke_tree names) p.invokes.items));
    keeps_invokes = λ k i at. at;
    keeps_conditions = λ k q at. at;
  }

  pub goes_both : (xs ys : List Statement) (old mid new : Planner) → GoesOver names c xs old mid → GoesOver names c ys mid new → GoesOver names c (xs ++ ys) old new
  goes_both xs ys old mid new first second =
      let before = map (invoke_tree names) old.invokes.items in
      let one = invokes_among old.item (map TheStatement xs) in
      let items = map TheStatement ys in
      let count : mid.item ≡ old.item + length (map TheStatement xs) = omega (arith, first.counts, length-map xs TheStatement) in
      let both : one ++ invokes_among mid.item items ≡ invokes_among old.item (map TheStatement (xs ++ ys)) =
      ap (λ n. one ++ invokes_among n items) count ∙ sym (invokes_both old.item (map TheStatement xs) items) ∙ ap (invokes_among old.item) (sym (map-append TheStatement xs ys)) in
      record {
        can = second.can;
        counts = omega (arith, first.counts, second.counts, length-append xs ys);
        adds = second.adds ∙ ap (λ l. l ++ invokes_among mid.item items) first.adds ∙ append_assoc before one (invokes_among mid.item items) ∙ ap (λ l. before ++ l) both;
        keeps_invokes = λ k i at. second.keeps_invokes k i (first.keeps_invokes k i at);
        keeps_conditions = λ k q at. second.keeps_conditions k q (first.keeps_conditions k q at);
      }

  can_count : (old new : Planner) → CanPlan names c old → IsCounted old new → CanPlan names c new
  can_count old new can is = record {
    shows = subst (λ (n : Numbers). ShowsNames names c n) (sym (ap (λ (r : Bor Numbers). r.now) is.numbers_are)) can.shows;
    counted = is.groups_are ∙ can.counted;
    invoked = subst (λ (l : List InvokeOf). All (IsInvoke names c) l) (sym is.invokes_are) can.invoked;
    tested = subst (λ (l : List CalPort). All (PortHasNumbers names) l) (sym is.conditions_are) can.tested;
    are_tested = subst (λ (l : List CalPort). All IsTested l) (sym is.conditions_are) can.are_tested;
  }

  -- a statement that is no invoke is counted
  pub counted_one : (s : Statement) (old new : Planner) → CanPlan names c old → IsCounted old new → ((k : ℕ) → invokes_among k (TheStatement s ∷ []) ≡ []) → GoesOver names c (s ∷ []) old new
  counted_one s old new can is none = record {
    can = can_count old new can is;
    counts = omega (arith, is.item_is);
    adds = ap (map (invoke_tree names)) is.invokes_are ∙ sym (append-nil (map (invoke_tree names) old.invokes.items)) ∙ ap (λ l. map (invoke_tree names) old.invokes.items ++ l) (sym (none old.item));
    keeps_invokes = λ k i at. subst (λ (l : List InvokeOf). slice_get l k ≡ Some i) (sym is.invokes_are) at;
    keeps_conditions = λ k q at. subst (λ (l : List CalPort). slice_get l k ≡ Some q) (sym is.conditions_are) at;
  }

  pub can_after : (old new : Planner) → CanPlan names c old → IsCounted old new → CanPlan names c new
  can_after old new can is = can_count old new can is

  -- an invoke is counted, and put last
  pub counted_invoke : (cell : NameId) (ins : List InBind) (outs : List OutBind) (old mid new : Planner) (item number : ℕ) → item ≡ old.item → IsCounted old mid → PutsInvoke names c item cell ins outs mid new number
      → GoesOver names c (Invoke (text_of names cell) (map (in_tree names) ins) (map (out_tree names) outs) ∷ []) old new
  counted_invoke cell ins outs old mid new item number here is puts =
      let tree = invoke_tree names in
      let invoke : ℕ → InvokeDef = λ k. record { item = k; cell = text_of names cell; ins = map (in_tree names) ins; outs = map (out_tree names) outs } in
      let all : new.invokes.items ≡ old.invokes.items ++ puts.i ∷ [] = puts.puts ∙ ap (λ (l : List InvokeOf). l ++ puts.i ∷ []) is.invokes_are in
      let conditions : new.conditions.items ≡ old.conditions.items = puts.conditions_are ∙ is.conditions_are in
      record {
        can = puts.can;
        counts = omega (arith, is.item_is, puts.item_is);
        adds = ap (map tree) all ∙ map-append tree old.invokes.items (puts.i ∷ []) ∙ ap (λ (i : InvokeDef). map tree old.invokes.items ++ i ∷ []) (puts.is ∙ ap invoke here);
        keeps_invokes = λ k i at. subst (λ (l : List InvokeOf). slice_get l k ≡ Some i) (sym all) (kept_push old.invokes.items (puts.i ∷ []) k i at);
        keeps_conditions = λ k q at. subst (λ (l : List CalPort). slice_get l k ≡ Some q) (sym conditions) at;
      }

  -- ---- what planning puts last

  same_can : (old new : Planner) → CanPlan names c old → new.numbers ≡ old.numbers → new.groups ≡ old.groups → All (IsInvoke names c) new.invokes.items → All (PortHasNumbers names) new.conditions.items
      → All IsTested new.conditions.items → CanPlan names c new
  same_can old new can numbers groups invoked tested are_tested = record {
    shows = subst (λ (n : Numbers). ShowsNames names c n) (sym (ap (λ (r : Bor Numbers). r.now) numbers)) can.shows;
    counted = groups ∙ can.counted;
    invoked = invoked;
    tested = tested;
    are_tested = are_tested;
  }

  pub condition_put : (port : CalPort) (old new : Planner) (number : ℕ) → CanPlan names c old → PortHasNumbers names port → IsTested port → new.numbers ≡ old.numbers → new.groups ≡ old.groups → new.item ≡ old.item
      → new.invokes.items ≡ old.invokes.items → new.conditions.items ≡ old.conditions.items ++ port ∷ [] → number ≡ length old.conditions.items → IsConditionAt names c port old new number
  condition_put port old new number can has tested numbers groups item invokes conditions last = record {
    goes = record {
      can = same_can old new can numbers groups (All-same (IsInvoke names c) new.invokes.items old.invokes.items invokes can.invoked)
          (All-same (PortHasNumbers names) new.conditions.items (old.conditions.items ++ port ∷ []) conditions (All-push (PortHasNumbers names) old.conditions.items port can.tested has))
          (All-same IsTested new.conditions.items (old.conditions.items ++ port ∷ []) conditions (All-push IsTested old.conditions.items port can.are_tested tested));
      counts = omega (arith, item);
      adds = ap (map (invoke_tree names)) invokes ∙ sym (append-nil (map (invoke_tree names) old.invokes.items));
      keeps_invokes = λ k i at. subst (λ (l : List InvokeOf). slice_get l k ≡ Some i) (sym invokes) at;
      keeps_conditions = λ k q at. subst (λ (l : List CalPort). slice_get l k ≡ Some q) (sym conditions) (kept_push old.conditions.items (port ∷ []) k q at);
    };
    at = subst (λ (n : ℕ). slice_get new.conditions.items n ≡ Some port) (sym last) (subst (λ (l : List CalPort). slice_get l (length old.conditions.items) ≡ Some port) (sym conditions) (at_last old.conditions.items port));
  }

  -- what the cell of an invoke is made of
  pub made_of_cell : (planner : Planner) (cell : NameId) (made : NameId) → CanPlan names c planner → IsNumberOf names cell → NamesCell c (text_of names cell) → slice_get planner.numbers.now.made.items cell.0 ≡ Some made → IsMadeOf names c cell made
  made_of_cell planner cell made can number named at =
      let found = can.shows.made cell number named in
      subst (λ (m : NameId). IsMadeOf names c cell m) (same_Some found.0 made (sym found.1 ∙ at)) found.2

  pub made_within : (planner : Planner) (cell : NameId) → CanPlan names c planner → IsNumberOf names cell → NamesCell c (text_of names cell) → cell.0 < length planner.numbers.now.made.items
  made_within planner cell can number named = let found = can.shows.made cell number named in slice_get_within planner.numbers.now.made.items cell.0 found.0 found.1

  pub invoke_put : (i : InvokeOf) (old new : Planner) (number : ℕ) → CanPlan names c old → InvokeNumbers names c i.cell i.ins.now i.outs.now → slice_get old.numbers.now.made.items i.cell.0 ≡ Some i.made
      → new.numbers ≡ old.numbers → new.groups ≡ old.groups → new.item ≡ old.item → new.conditions.items ≡ old.conditions.items → new.invokes.items ≡ old.invokes.items ++ i ∷ []
      → number ≡ old.groups + length old.invokes.items → PutsInvoke names c i.item i.cell i.ins.now i.outs.now old new number
  invoke_put i old new number can has made numbers groups item conditions invokes last =
      let known : IsInvoke names c i = record { numbers = has; made_of = made_of_cell old i.cell i.made can has.number has.named made } in
      record {
        can = same_can old new can numbers groups (All-same (IsInvoke names c) new.invokes.items (old.invokes.items ++ i ∷ []) invokes (All-push (IsInvoke names c) old.invokes.items i can.invoked known))
            (All-same (PortHasNumbers names) new.conditions.items old.conditions.items conditions can.tested)
            (All-same IsTested new.conditions.items old.conditions.items conditions can.are_tested);
        i = i;
        is = refl;
        item_is = item;
        puts = invokes;
        conditions_are = conditions;
        number_is = last ∙ ap (λ (n : ℕ). n + length old.invokes.items) can.counted;
      }

  -- the number of a condition's group
  pub group_within : (planner : Planner) (name : NameId) → CanPlan names c planner → IsNumberOf names name → NamesGroup c (text_of names name) → name.0 < length planner.numbers.now.groups.items
  group_within planner name can number named = let found = can.shows.groups name number named in slice_get_within planner.numbers.now.groups.items name.0 found.0 found.1

  pub actor_found : (planner : Planner) (by : Option NameId) (name : NameId) (k : ℕ) → CanPlan names c planner → by ≡ Some name → NamesGroupIfAny names c by → slice_get planner.numbers.now.groups.items name.0 ≡ Some k → IsActorOf names c by (Some k)
  actor_found planner by name k can is named at =
      let there = subst (NamesGroupIfAny names c) is named in
      let found = can.shows.groups name there.0 there.1 in
      let G : ℕ → Type 0 = IsGroupAt c (text_of names name) in
      let A : Option NameId → Type 0 = λ o. IsActorOf names c o (Some k) in
      subst A (sym is) (k, refl, subst G (same_Some found.0 k (sym found.1 ∙ at)) found.2)

  pub no_actor : (by : Option NameId) → by ≡ None → IsActorOf names c by None
  no_actor by is = let A : Option NameId → Type 0 = λ o. IsActorOf names c o None in subst A (sym is) refl

  -- ---- plans

  module _ (statements : List Statement) (old new : Planner) (goes : GoesOver names c statements old new) where
    -- numbers that mean what a later planner has mean what an earlier one has
    pub numbered_before : (f : ℕ → Actor) (h : ℕ → PortName) → AreNumbered names c new.invokes.items new.conditions.items f h → AreNumbered names c old.invokes.items old.conditions.items f h
    numbered_before f h n = record {
      grouped = n.grouped;
      invoked = λ k i at. n.invoked k i (goes.keeps_invokes k i at);
      tested = λ k p at. n.tested k p (goes.keeps_conditions k p at);
    }

    more_actors : length c.groups + length old.invokes.items ≤ length c.groups + length new.invokes.items
    more_actors = let more = kept_length old.invokes.items new.invokes.items goes.keeps_invokes in omega (arith, more)

    more_conditions : length old.conditions.items ≤ length new.conditions.items
    more_conditions = kept_length old.conditions.items new.conditions.items goes.keeps_conditions

    -- so plans stay what they are
    pub within_kept : (plan : code.Plan) → IsWithin (length c.groups + length old.invokes.items) (length old.conditions.items) plan → IsWithin (length c.groups + length new.invokes.items) (length new.conditions.items) plan
    within_kept plan within =
        within_more (length c.groups + length old.invokes.items) (length old.conditions.items) (length c.groups + length new.invokes.items) (length new.conditions.items) more_actors more_conditions plan within

    pub plan_kept : (tree : Plan) (plan : code.Plan) → IsPlanOf names c old tree plan → IsPlanOf names c new tree plan
    plan_kept tree plan p = record { is = λ f h n. p.is f h (numbered_before f h n); within = within_kept plan p.within }

    pub plans_kept : (trees : Plans) (plans : List code.Plan) → ArePlansOf names c old trees plans → ArePlansOf names c new trees plans
    plans_kept trees plans p = record {
      are = λ f h n. p.are f h (numbered_before f h n);
      within = All-weaker (IsWithin (length c.groups + length old.invokes.items) (length old.conditions.items)) (IsWithin (length c.groups + length new.invokes.items) (length new.conditions.items)) within_kept plans p.within;
    }

  pub group_plan : (planner : Planner) (name : Text) (k : ℕ) → IsGroupAt c name k → IsPlanOf names c planner (Enables (GroupNamed name)) (variants.Enables k)
  group_plan planner name k (g, at, text) = record {
    is = λ f h n. ap Enables (n.grouped k g at ∙ ap GroupNamed (sym text));
    within = (let inside = slice_get_within c.groups k g at in omega (arith, inside));
  }

  pub invoke_plan : (cell : NameId) (ins : List InBind) (outs : List OutBind) (mid new : Planner) (item number : ℕ) → PutsInvoke names c item cell ins outs mid new number → IsPlanOf names c new (Enables (InvokeAt item)) (variants.Enables number)
  invoke_plan cell ins outs mid new item number puts =
      let at : slice_get new.invokes.items (length mid.invokes.items) ≡ Some puts.i = ap (λ (l : List InvokeOf). slice_get l (length mid.invokes.items)) puts.puts ∙ at_last mid.invokes.items puts.i in
      let inside = slice_get_within new.invokes.items (length mid.invokes.items) puts.i at in
      record {
        is = λ f h n. ap Enables (ap f puts.number_is ∙ n.invoked (length mid.invokes.items) puts.i at ∙ ap (λ (i : InvokeDef). InvokeAt i.item) puts.is);
        within = omega (arith, puts.number_is, inside);
      }

  pub seq_plan : (planner : Planner) (trees : Plans) (plans : Vec code.Plan Global) → ArePlansOf names c planner trees plans.items → IsPlanOf names c planner (InTurn trees) (variants.InTurn plans)
  seq_plan planner trees plans are = record {
    is = λ f h n. plan_tree-InTurn f h plans ∙ ap InTurn (are.are f h n);
    within = (within_list (length c.groups + length planner.invokes.items) (length planner.conditions.items) plans are.within).0;
  }

  pub par_plan : (planner : Planner) (trees : Plans) (plans : Vec code.Plan Global) → ArePlansOf names c planner trees plans.items → IsPlanOf names c planner (AtOnce trees) (variants.AtOnce plans)
  par_plan planner trees plans are = record {
    is = λ f h n. plan_tree-AtOnce f h plans ∙ ap AtOnce (are.are f h n);
    within = (within_list (length c.groups + length planner.invokes.items) (length planner.conditions.items) plans are.within).1;
  }

  abbrev by_tree : Option NameId → Option Actor
  by_tree by = option_map GroupNamed (option_map (text_of names) by)

  actor_is : (by : Option NameId) (actor : Option ℕ) → IsActorOf names c by actor → (f : ℕ → Actor) → ((k : ℕ) (g : GroupDef) → slice_get c.groups k ≡ Some g → f k ≡ GroupNamed g.name) → option_map f actor ≡ by_tree by
  actor_is None actor is f grouped = ap (option_map f) is
  actor_is (Some name) actor (k, is, (g, at, text)) f grouped = ap (option_map f) is ∙ ap Some (grouped k g at ∙ ap GroupNamed (sym text))

  actor_within : (by : Option NameId) (actor : Option ℕ) (more : ℕ) → IsActorOf names c by actor → IfSome actor (λ k. k < length c.groups + more)
  actor_within None actor more is = subst (λ (o : Option ℕ). IfSome o (λ k. k < length c.groups + more)) (sym is) tt
  actor_within (Some name) actor more (k, is, (g, at, text)) =
      let inside = slice_get_within c.groups k g at in
      let here : k < length c.groups + more = omega (arith, inside) in
      subst (λ (o : Option ℕ). IfSome o (λ j. j < length c.groups + more)) (sym is) here

  module _ (planner : Planner) (port : CalPort) (number : ℕ) (at : slice_get planner.conditions.items number ≡ Some port) (by : Option NameId) (actor : Option ℕ) (acts : IsActorOf names c by actor) where
    pub if_plan : (on_tree off_tree : Plan) (on off : Box code.Plan) → IsPlanOf names c planner on_tree on.value → IsPlanOf names c planner off_tree off.value
        → IsPlanOf names c planner (Chooses (port_tree names port) (by_tree by) on_tree off_tree) (variants.Chooses number actor on off)
    if_plan on_tree off_tree on off is_on is_off = record {
      is = λ f h n.
          ap₂ (λ p a. Chooses p a (plan_tree f h on.value) (plan_tree f h off.value)) (n.tested number port at) (actor_is by actor acts f n.grouped)
          ∙ ap₂ (Chooses (port_tree names port) (by_tree by)) (is_on.is f h n) (is_off.is f h n);
      within = (slice_get_within planner.conditions.items number port at, actor_within by actor (length planner.invokes.items) acts, is_on.within, is_off.within);
    }

    pub while_plan : (body_tree : Plan) (body : Box code.Plan) → IsPlanOf names c planner body_tree body.value → IsPlanOf names c planner (Repeats (port_tree names port) (by_tree by) body_tree) (variants.Repeats number actor body)
    while_plan body_tree body is_body = record {
      is = λ f h n.
          ap₂ (λ p a. Repeats p a (plan_tree f h body.value)) (n.tested number port at) (actor_is by actor acts f n.grouped)
          ∙ ap (Repeats (port_tree names port) (by_tree by)) (is_body.is f h n);
      within = (slice_get_within planner.conditions.items number port at, actor_within by actor (length planner.invokes.items) acts, is_body.within);
    }
