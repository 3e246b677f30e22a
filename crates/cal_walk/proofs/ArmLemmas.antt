-- The plan of each kind of statement.
use Rattle.std.proofs.Common.{◌≡◌, ◌⊎◌, inl, inr, ℕ, zero, suc, ◌+◌, List, [], ◌∷◌, ◌++◌, length, map, take, All, Option, Some, None, IfSome, option_map, Result, IfOk, Vec, Global, refl, sym, ap, ◌∙◌, subst, arith}
use Rattle.hw_bits.specs.declared.memory.Memory.{Memory}
use Rattle.std.specs.Global.{Box}
use Rattle.std.specs.Prelude.{slice_get}
use Rattle.std.proofs.lemmas.List.{map_push}
use Rattle.std.proofs.lemmas.List.Elements.{All-nil, All-head, All-tail, All-push, All-same, All-contains}
use Rattle.std.proofs.lemmas.Option.{same_Some, slice_get-map}
use Rattle.hw_names.specs.Name.{Text, text_of}
use Rattle.hw_names.specs.declared.names.NameId.{NameId}
use Rattle.net_core.specs.Numbers.{IsNumberOf}
use Rattle.cal_ast.proofs.ListLemmas.{Contains-at}
use Rattle.cal_ast.specs.Actors.{InvokeAt}
use Rattle.cal_ast.specs.Items.{control_statements, statements_in, statements_of, unless_empty}
use Rattle.cal_ast.specs.Numbers.{PortHasNumbers, InHasNumbers, OutHasNumbers, StatementHasNumbers}
use Rattle.cal_ast.specs.Plan.{plan_at, plans_from, section_plan, Enables, InTurn, NoPlans}
use Rattle.cal_ast.specs.Tree.{Statement, Statements, NoStatements, Component, control_tree, in_tree, out_tree, port_tree, statement_tree}
use Rattle.cal_ast.specs.Tree as tree
use Rattle.cal_ast.specs.declared.tree.CalPort.{CalPort}
use Rattle.cal_ast.specs.declared.tree.Control.{Control}
use Rattle.cal_ast.specs.declared.tree.Control.TheVariants as controls
use Rattle.cal_ast.specs.declared.tree.ControlPart.{ControlPart}
use Rattle.cal_ast.specs.declared.tree.ControlPart.TheVariants as parts
use Rattle.cal_ast.specs.declared.tree.InBind.{InBind}
use Rattle.cal_ast.specs.declared.tree.OutBind.{OutBind}
use Rattle.cal_walk.specs.Planning.{IsKnown, IsTestedIn, NamesGroup, IsGroupAt, NamesGroupIfAny, IsActorOf, InvokeNumbers, CanPlan, CanPlanThis, CanPlanBranch, CanPlanAll, CanPlanSection, IsCounted, GoesOver, IsConditionAt, PutsInvoke, IsPlanOf, ArePlansOf, statements_from}
use Rattle.cal_walk.specs.Trees.{IsWithin}
use Rattle.cal_walk.specs.declared.plan.Plan as code
use Rattle.cal_walk.specs.declared.plan.Plan.TheVariants as variants
use Rattle.cal_walk.specs.declared.planning.Planner.{Planner}
use Rattle.cal_walk.proofs.ControlLemmas.{trees, seq_numbers, par_numbers, seq_tree, par_tree, statements_push, plans_push}
use Rattle.cal_walk.proofs.PlanLemmas.{all_left, all_right, goes_nowhere, goes_both, counted_one, can_after, counted_invoke, plan_kept, plans_kept, group_plan, invoke_plan, seq_plan, par_plan, if_plan, while_plan}

module _ (names : List Text) (c : Component) where
  -- planning goes over the statement, and this is its plan
  abbrev pub Planned : Control → Planner → Planner → code.Plan → Type 0
  Planned control old new plan = GoesOver names c (statements_in (statement_tree names control)) old new × IsPlanOf names c new (plan_at old.item (statement_tree names control)) plan

  abbrev pub PlannedBranch : Control → Planner → Planner → code.Plan → Type 0
  PlannedBranch control old new plan =
      GoesOver names c (unless_empty (statement_tree names control) (statements_in (statement_tree names control))) old new × IsPlanOf names c new (plan_at old.item (statement_tree names control)) plan

  abbrev pub PlannedAll : List Control → Planner → Planner → List code.Plan → Type 0
  PlannedAll statements old new plans =
      GoesOver names c (statements_of (statements_from (trees names statements))) old new × ArePlansOf names c new (plans_from old.item (statements_from (trees names statements))) plans

  -- ---- nothing

  pub nothing_planned : (planner : Planner) (plans : Vec code.Plan Global) → CanPlan names c planner → plans.items ≡ [] → GoesOver names c [] planner planner × IsPlanOf names c planner (InTurn NoPlans) (variants.InTurn plans)
  nothing_planned planner plans can none =
      let P : List code.Plan → Type 0 = λ ps. ArePlansOf names c planner NoPlans ps in
      (goes_nowhere names c planner can, seq_plan names c planner NoPlans plans (subst P (sym none) (record { are = λ f h n. refl; within = All-nil (IsWithin (length c.groups + length planner.invokes.items) (length planner.conditions.items)) })))

  -- ---- a statement that has this form

  pub as_form : (control form : Control) (planner : Planner) → control ≡ form → CanPlanThis names c control planner → CanPlanThis names c form planner
  as_form control form planner is can = subst (λ (s : Control). CanPlanThis names c s planner) is can

  pub of_form : (control form : Control) (old new : Planner) (plan : code.Plan) → control ≡ form → Planned form old new plan → Planned control old new plan
  of_form control form old new plan is planned = subst (λ (s : Control). Planned s old new plan) (sym is) planned

  -- ---- a branch or a body

  pub read_branch : (read control : Control) (planner : Planner) → read ≡ control → CanPlanBranch names c control planner → CanPlanBranch names c read planner
  read_branch read control planner same can = subst (λ (s : Control). CanPlanBranch names c s planner) (sym same) can

  pub boxed_branch : (read control : Control) (old new : Planner) (plan : code.Plan) (box : Box code.Plan) → read ≡ control → box.value ≡ plan → PlannedBranch read old new plan → PlannedBranch control old new box.value
  boxed_branch read control old new plan box same boxed planned =
      let P : Control → Type 0 = λ s. PlannedBranch s old new box.value in
      let Q : code.Plan → Type 0 = λ p. PlannedBranch read old new p in
      subst P same (subst Q (sym boxed) planned)

  -- an empty sequence is no item
  pub empty_branch : (control : Control) (planner : Planner) (plans : Vec code.Plan Global) → CanPlan names c planner → statement_tree names control ≡ tree.Seq NoStatements → plans.items ≡ [] → PlannedBranch control planner planner (variants.InTurn plans)
  empty_branch control planner plans can is none =
      let P : Statement → Type 0 = λ s. GoesOver names c (unless_empty s (statements_in s)) planner planner × IsPlanOf names c planner (plan_at planner.item s) (variants.InTurn plans) in
      subst P (sym is) (nothing_planned planner plans can none)

  -- any other is planned as a statement
  pub branch_can : (control : Control) (planner : Planner) → unless_empty (statement_tree names control) (statements_in (statement_tree names control)) ≡ statements_in (statement_tree names control) → CanPlanBranch names c control planner → CanPlanThis names c control planner
  branch_can control planner same can = record { can = can.can; numbers = can.numbers; known = All-same (IsKnown c) (statements_in (statement_tree names control)) _ (sym same) can.known }

  pub branch_planned : (control : Control) (old new : Planner) (r : Result code.Plan Memory) → unless_empty (statement_tree names control) (statements_in (statement_tree names control)) ≡ statements_in (statement_tree names control)
      → IfOk r (Planned control old new) → IfOk r (PlannedBranch control old new)
  branch_planned control old new r same planned =
      let P : List Statement → Type 0 = λ ss. IfOk r (λ plan. GoesOver names c ss old new × IsPlanOf names c new (plan_at old.item (statement_tree names control)) plan) in
      subst P (sym same) planned

  -- ---- an enabled group

  pub enable_group : (name : NameId) (old : Planner) → CanPlanThis names c (controls.Enable name) old → IsNumberOf names name × NamesGroup c (text_of names name)
  enable_group name old can = (can.numbers, (All-head (IsKnown c) (tree.Enable (text_of names name)) [] can.known).enable)

  pub group_number : (name : NameId) (planner : Planner) → CanPlan names c planner → IsNumberOf names name × NamesGroup c (text_of names name)
      → (k : ℕ) × (slice_get planner.numbers.now.groups.items name.0 ≡ Some k) × IsGroupAt c (text_of names name) k
  group_number name planner can is = can.shows.groups name is.0 is.1

  pub enable_arm : (name : NameId) (old mid : Planner) (k : ℕ) → CanPlanThis names c (controls.Enable name) old → IsCounted old mid → slice_get mid.numbers.now.groups.items name.0 ≡ Some k
      → Planned (controls.Enable name) old mid (variants.Enables k)
  enable_arm name old mid k can is at =
      let found = group_number name mid (can_after names c old mid can.can is) (enable_group name old can) in
      let same : found.0 ≡ k = same_Some found.0 k (sym found.1 ∙ at) in
      let G : ℕ → Type 0 = IsGroupAt c (text_of names name) in (
        counted_one names c (tree.Enable (text_of names name)) old mid can.can is (λ n. refl),
        group_plan names c mid (text_of names name) k (subst G same found.2),
      )

  -- ---- blocks

  pub seq_can : (v : Vec Control Global) (items : List Control) (old mid : Planner) → items ≡ v.items → CanPlanThis names c (controls.Seq v) old → IsCounted old mid → CanPlanAll names c items mid
  seq_can v items old mid same can is =
      let ss = statements_from (trees names v.items) in
      let known = subst (λ (s : Statement). All (IsKnown c) (statements_in s)) (seq_tree names v) can.known in
      subst (λ (l : List Control). CanPlanAll names c l mid) (sym same)
      (record { can = can_after names c old mid can.can is; numbers = seq_numbers names v can.numbers; known = All-tail (IsKnown c) (tree.Seq ss) (statements_of ss) known })

  pub seq_arm : (v : Vec Control Global) (items : List Control) (old mid new : Planner) (plans : Vec code.Plan Global) → items ≡ v.items → CanPlanThis names c (controls.Seq v) old → IsCounted old mid
      → PlannedAll items mid new plans.items → Planned (controls.Seq v) old new (variants.InTurn plans)
  seq_arm v items old mid new plans same can is all =
      let ss = statements_from (trees names v.items) in
      let whole = subst (λ (l : List Control). PlannedAll l mid new plans.items) same all in
      let one = counted_one names c (tree.Seq ss) old mid can.can is (λ n. refl) in
      let P : Statement → Type 0 = λ s. GoesOver names c (statements_in s) old new × IsPlanOf names c new (plan_at old.item s) (variants.InTurn plans) in
      let A : ℕ → Type 0 = λ k. ArePlansOf names c new (plans_from k ss) plans.items in
      subst P (sym (seq_tree names v)) (
        goes_both names c (tree.Seq ss ∷ []) (statements_of ss) old mid new one whole.0,
        seq_plan names c new (plans_from (old.item + 1) ss) plans (subst A is.item_is whole.1),
      )

  pub par_can : (v : Vec Control Global) (items : List Control) (old mid : Planner) → items ≡ v.items → CanPlanThis names c (controls.Par v) old → IsCounted old mid → CanPlanAll names c items mid
  par_can v items old mid same can is =
      let ss = statements_from (trees names v.items) in
      let known = subst (λ (s : Statement). All (IsKnown c) (statements_in s)) (par_tree names v) can.known in
      subst (λ (l : List Control). CanPlanAll names c l mid) (sym same)
      (record { can = can_after names c old mid can.can is; numbers = par_numbers names v can.numbers; known = All-tail (IsKnown c) (tree.Par ss) (statements_of ss) known })

  pub par_arm : (v : Vec Control Global) (items : List Control) (old mid new : Planner) (plans : Vec code.Plan Global) → items ≡ v.items → CanPlanThis names c (controls.Par v) old → IsCounted old mid
      → PlannedAll items mid new plans.items → Planned (controls.Par v) old new (variants.AtOnce plans)
  par_arm v items old mid new plans same can is all =
      let ss = statements_from (trees names v.items) in
      let whole = subst (λ (l : List Control). PlannedAll l mid new plans.items) same all in
      let one = counted_one names c (tree.Par ss) old mid can.can is (λ n. refl) in
      let P : Statement → Type 0 = λ s. GoesOver names c (statements_in s) old new × IsPlanOf names c new (plan_at old.item s) (variants.AtOnce plans) in
      let A : ℕ → Type 0 = λ k. ArePlansOf names c new (plans_from k ss) plans.items in
      subst P (sym (par_tree names v)) (
        goes_both names c (tree.Par ss ∷ []) (statements_of ss) old mid new one whole.0,
        par_plan names c new (plans_from (old.item + 1) ss) plans (subst A is.item_is whole.1),
      )

  -- ---- choices

  module _ (port : CalPort) (by : Option NameId) (yes no : Box Control) (old : Planner) (can : CanPlanThis names c (controls.If port by yes no) old) where
    abbrev branch : Box Control → List Statement
    branch s = unless_empty (statement_tree names s.value) (statements_in (statement_tree names s.value))

    abbrev if_tree : Statement
    if_tree = tree.If (port_tree names port) (option_map (text_of names) by) (statement_tree names yes.value) (statement_tree names no.value)

    if_known : IsKnown c if_tree
    if_known = All-head (IsKnown c) if_tree (branch yes) (all_left (IsKnown c) (if_tree ∷ branch yes) (branch no) can.known)

    pub if_port : PortHasNumbers names port
    if_port = can.numbers.0

    pub if_tested : IsTestedIn c (port_tree names port)
    if_tested = All-head (IsTestedIn c) (port_tree names port) [] if_known.ports

    pub if_group : NamesGroupIfAny names c by
    if_group = names_if_any by can.numbers.1 if_known.condition
      where
        names_if_any : (o : Option NameId) → IfSome o (IsNumberOf names) → IfSome (option_map (text_of names) o) (NamesGroup c) → NamesGroupIfAny names c o
        names_if_any None number named = tt
        names_if_any (Some name) number named = (number, named)

    pub if_yes : (m2 : Planner) → CanPlan names c m2 → CanPlanBranch names c yes.value m2
    if_yes m2 can2 = record { can = can2; numbers = can.numbers.2; known = All-tail (IsKnown c) if_tree (branch yes) (all_left (IsKnown c) (if_tree ∷ branch yes) (branch no) can.known) }

    pub if_no : (m3 : Planner) → CanPlan names c m3 → CanPlanBranch names c no.value m3
    if_no m3 can3 = record { can = can3; numbers = can.numbers.3; known = all_right (IsKnown c) (if_tree ∷ branch yes) (branch no) can.known }

    pub if_arm : (m1 m2 m3 new : Planner) (number : ℕ) (actor : Option ℕ) (on off : Box code.Plan) → IsCounted old m1 → IsConditionAt names c port m1 m2 number → IsActorOf names c by actor
        → PlannedBranch yes.value m2 m3 on.value → PlannedBranch no.value m3 new off.value → Planned (controls.If port by yes no) old new (variants.Chooses number actor on off)
    if_arm m1 m2 m3 new number actor on off is condition acts first second =
        let s = statement_tree names yes.value in
        let t = statement_tree names no.value in
        let one = counted_one names c if_tree old m1 can.can is (λ n. refl) in
        let two = goes_both names c (if_tree ∷ []) [] old m1 m2 one condition.goes in
        let three = goes_both names c (if_tree ∷ []) (branch yes) old m2 m3 two first.0 in
        let four = goes_both names c (if_tree ∷ branch yes) (branch no) old m3 new three second.0 in
        let item2 : m2.item ≡ old.item + 1 = omega (arith, is.item_is, condition.goes.counts) in
        let item3 : m3.item ≡ old.item + 1 + length (branch yes) = omega (arith, item2, first.0.counts) in
        let at : slice_get new.conditions.items number ≡ Some port = second.0.keeps_conditions number port (first.0.keeps_conditions number port condition.at) in
        let is_on : IsPlanOf names c new (plan_at (old.item + 1) s) on.value = plan_kept names c (branch no) m3 new second.0 (plan_at (old.item + 1) s) on.value (subst (λ (k : ℕ). IsPlanOf names c m3 (plan_at k s) on.value) item2 first.1) in
        let is_off : IsPlanOf names c new (plan_at (old.item + 1 + length (branch yes)) t) off.value = subst (λ (k : ℕ). IsPlanOf names c new (plan_at k t) off.value) item3 second.1 in
        (four, if_plan names c new port number at by actor acts (plan_at (old.item + 1) s) (plan_at (old.item + 1 + length (branch yes)) t) on off is_on is_off)

  -- ---- loops

  module _ (port : CalPort) (by : Option NameId) (body : Box Control) (old : Planner) (can : CanPlanThis names c (controls.While port by body) old) where
    abbrev turn : List Statement
    turn = unless_empty (statement_tree names body.value) (statements_in (statement_tree names body.value))

    abbrev while_tree : Statement
    while_tree = tree.While (port_tree names port) (option_map (text_of names) by) (statement_tree names body.value)

    pub while_port : PortHasNumbers names port
    while_port = can.numbers.0

    pub while_tested : IsTestedIn c (port_tree names port)
    while_tested = All-head (IsTestedIn c) (port_tree names port) [] (All-head (IsKnown c) while_tree turn can.known).ports

    pub while_group : NamesGroupIfAny names c by
    while_group = names_if_any by can.numbers.1 (All-head (IsKnown c) while_tree turn can.known).condition
      where
        names_if_any : (o : Option NameId) → IfSome o (IsNumberOf names) → IfSome (option_map (text_of names) o) (NamesGroup c) → NamesGroupIfAny names c o
        names_if_any None number named = tt
        names_if_any (Some name) number named = (number, named)

    pub while_body : (m2 : Planner) → CanPlan names c m2 → CanPlanBranch names c body.value m2
    while_body m2 can2 = record { can = can2; numbers = can.numbers.2; known = All-tail (IsKnown c) while_tree turn can.known }

    pub while_arm : (m1 m2 new : Planner) (number : ℕ) (actor : Option ℕ) (turns : Box code.Plan) → IsCounted old m1 → IsConditionAt names c port m1 m2 number → IsActorOf names c by actor
        → PlannedBranch body.value m2 new turns.value → Planned (controls.While port by body) old new (variants.Repeats number actor turns)
    while_arm m1 m2 new number actor turns is condition acts planned =
        let s = statement_tree names body.value in
        let one = counted_one names c while_tree old m1 can.can is (λ n. refl) in
        let two = goes_both names c (while_tree ∷ []) [] old m1 m2 one condition.goes in
        let three = goes_both names c (while_tree ∷ []) turn old m2 new two planned.0 in
        let item2 : m2.item ≡ old.item + 1 = omega (arith, is.item_is, condition.goes.counts) in
        let at : slice_get new.conditions.items number ≡ Some port = planned.0.keeps_conditions number port condition.at in
        let is_body : IsPlanOf names c new (plan_at (old.item + 1) s) turns.value = subst (λ (k : ℕ). IsPlanOf names c new (plan_at k s) turns.value) item2 planned.1 in
        (three, while_plan names c new port number at by actor acts (plan_at (old.item + 1) s) turns is_body)

  -- ---- invokes

  module _ (cell : NameId) (ins : Vec InBind Global) (outs : Vec OutBind Global) (old : Planner) (can : CanPlanThis names c (controls.Invoke cell ins outs) old) where
    pub invoke_numbers : (given : List InBind) (taken : List OutBind) → given ≡ ins.items → taken ≡ outs.items → InvokeNumbers names c cell given taken
    invoke_numbers given taken same_ins same_outs =
        let known = All-head (IsKnown c) (tree.Invoke (text_of names cell) (map (in_tree names) ins.items) (map (out_tree names) outs.items)) [] can.known in
        record {
          number = can.numbers.0;
          named = known.invoke;
          inputs = subst (λ (l : List InBind). All (InHasNumbers names) l) (sym same_ins) can.numbers.1;
          outputs = subst (λ (l : List OutBind). All (OutHasNumbers names) l) (sym same_outs) can.numbers.2;
        }

    pub invoke_arm : (given : List InBind) (taken : List OutBind) (mid new : Planner) (item number : ℕ) → given ≡ ins.items → taken ≡ outs.items → item ≡ old.item → IsCounted old mid
        → PutsInvoke names c item cell given taken mid new number → Planned (controls.Invoke cell ins outs) old new (variants.Enables number)
    invoke_arm given taken mid new item number same_ins same_outs here is puts =
        let G : List InBind → Type 0 = λ l. GoesOver names c (tree.Invoke (text_of names cell) (map (in_tree names) l) (map (out_tree names) taken) ∷ []) old new in
        let H : List OutBind → Type 0 = λ l. GoesOver names c (tree.Invoke (text_of names cell) (map (in_tree names) ins.items) (map (out_tree names) l) ∷ []) old new in
        let P : ℕ → Type 0 = λ k. IsPlanOf names c new (Enables (InvokeAt k)) (variants.Enables number) in (
          subst H same_outs (subst G same_ins (counted_invoke names c cell given taken old mid new item number here is puts)),
          subst P here (invoke_plan names c cell given taken mid new item number puts),
        )

  -- ---- statements in a row

  module _ (statements : List Control) (old mid : Planner) (all : CanPlanAll names c statements old) (i : ℕ) (s : Control) (at : slice_get statements i ≡ Some s) (more : take (i + 1) statements ≡ take i statements ++ s ∷ []) where
    pub one_can : CanPlan names c mid → CanPlanThis names c s mid
    one_can can = record {
      can = can;
      numbers = All-contains (StatementHasNumbers names) statements s all.numbers (Contains-at statements i s at);
      known = known_at (trees names statements) i (statement_tree names s) (slice_get-map (statement_tree names) statements i ∙ ap (option_map (statement_tree names)) at) all.known;
    }
      where
        known_at : (ss : List Statement) (k : ℕ) (t : Statement) → slice_get ss k ≡ Some t → All (IsKnown c) (statements_of (statements_from ss)) → All (IsKnown c) (statements_in t)
        known_at [] k t there known = absurd (cc)
        known_at (x ∷ ss) zero t there known =
            let is : x ≡ t = cc in
            subst (λ (y : Statement). All (IsKnown c) (statements_in y)) is (all_left (IsKnown c) (statements_in x) (statements_of (statements_from ss)) known)
        known_at (x ∷ ss) (suc k) t there known = known_at ss k t there (all_right (IsKnown c) (statements_in x) (statements_of (statements_from ss)) known)

    pub one_planned : (new : Planner) (plans : List code.Plan) (plan : code.Plan) → PlannedAll (take i statements) old mid plans → Planned s mid new plan → PlannedAll (take (i + 1) statements) old new (plans ++ plan ∷ [])
    one_planned new plans plan so_far one =
        let ss = trees names (take i statements) in
        let t = statement_tree names s in
        let whole : trees names (take (i + 1) statements) ≡ ss ++ t ∷ [] = ap (trees names) more ∙ map_push (statement_tree names) (take i statements) s in
        let goes : GoesOver names c (statements_of (statements_from (ss ++ t ∷ []))) old new =
        subst (λ (l : List Statement). GoesOver names c l old new) (sym (statements_push ss t)) (goes_both names c (statements_of (statements_from ss)) (statements_in t) old mid new so_far.0 one.0) in
        let kept = plans_kept names c (statements_in t) mid new one.0 (plans_from old.item (statements_from ss)) plans so_far.1 in
        let are : ArePlansOf names c new (plans_from old.item (statements_from (ss ++ t ∷ []))) (plans ++ plan ∷ []) = record {
          are = λ f h n. plans_push f h plans plan ss t old.item (kept.are f h n) (one.1.is f h n ∙ ap (λ k. plan_at k t) so_far.0.counts);
          within = All-push (IsWithin (length c.groups + length new.invokes.items) (length new.conditions.items)) plans plan kept.within one.1.within;
        } in
        let P : List Statement → Type 0 = λ l. GoesOver names c (statements_of (statements_from l)) old new × ArePlansOf names c new (plans_from old.item (statements_from l)) (plans ++ plan ∷ []) in
        subst P (sym whole) (goes, are)

  pub none_planned : (planner : Planner) → CanPlan names c planner → PlannedAll [] planner planner []
  none_planned planner can = (goes_nowhere names c planner can, record { are = λ f h n. refl; within = All-nil (IsWithin (length c.groups + length planner.invokes.items) (length planner.conditions.items)) })

  -- ---- control sections

  abbrev pub PlannedSection : ControlPart → Planner → Planner → code.Plan → Type 0
  PlannedSection control old new plan =
      GoesOver names c (control_statements (control_tree names control)) old new × IsPlanOf names c new (section_plan old.item (control_tree names control)) plan

  pub body_can : (control : ControlPart) (s : Control) (planner : Planner) → control ≡ parts.Body s → CanPlanSection names c control planner → CanPlanThis names c s planner
  body_can control s planner is can =
      let whole = subst (λ (part : ControlPart). CanPlanSection names c part planner) is can in
      record { can = whole.can; numbers = whole.numbers; known = whole.known }

  pub body_planned : (control : ControlPart) (s : Control) (old new : Planner) (r : Result code.Plan Memory) → control ≡ parts.Body s → IfOk r (Planned s old new) → IfOk r (PlannedSection control old new)
  body_planned control s old new r is planned =
      let P : ControlPart → Type 0 = λ part. IfOk r (PlannedSection part old new) in
      subst P (sym is) planned

  -- where there is no statement, nothing
  pub section_without : (control : ControlPart) (planner : Planner) (plans : Vec code.Plan Global) → (control ≡ parts.Absent) ⊎ (control ≡ parts.Empty) → CanPlan names c planner → plans.items ≡ [] → PlannedSection control planner planner (variants.InTurn plans)
  section_without control planner plans (inl is) can none =
      let P : ControlPart → Type 0 = λ part. PlannedSection part planner planner (variants.InTurn plans) in
      subst P (sym is) (nothing_planned planner plans can none)
  section_without control planner plans (inr is) can none =
      let P : ControlPart → Type 0 = λ part. PlannedSection part planner planner (variants.InTurn plans) in
      subst P (sym is) (nothing_planned planner plans can none)
