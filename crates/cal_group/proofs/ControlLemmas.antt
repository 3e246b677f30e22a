-- Control with an enable in place of each invoke: it has no invoke, its plan is the old one with its actors renamed, and each of its statements is one
-- of the old.
use Rattle.std.proofs.Common.{◌≡◌, ◌⊎◌, ℕ, ◌+◌, List, [], ◌++◌, length, Option, Some, None, refl, sym, ap, ap₂, ◌∙◌, subst, inl, inr}
use Rattle.std.specs.Prelude.{All, Contains, IfSome, option_map}
use Rattle.std.proofs.lemmas.List.Elements.{All-nil, All-cons, All-append, Contains-append_left, Contains-append_right}
use Rattle.hw_names.specs.Name.{Text}
use Rattle.cal_ast.proofs.ListLemmas.{Contains-here, Contains-there}
use Rattle.cal_ast.specs.Actors.{Actor, GroupNamed}
use Rattle.cal_ast.specs.Items.{statements_in, statements_of, unless_empty, control_statements}
use Rattle.cal_ast.specs.NoInvoke.{IsNoInvoke}
use Rattle.cal_ast.specs.Plan.{Plan, Enables, InTurn, AtOnce, Chooses, Repeats, MorePlans, plan_at, plans_from, section_plan}
use Rattle.cal_ast.specs.Statement.{IfEnable, IfCondition}
use Rattle.cal_ast.specs.Tree.{Statement, Enable, Seq, Par, If, While, Invoke, Statements, NoStatements, MoreStatements, ControlSection, Absent, Empty, Body}
use Rattle.cal_group.proofs.InvokeNames.{moved, renamed}
use Rattle.cal_group.proofs.RenamedLemmas.{with_actors, all_with_actors}
use Rattle.cal_group.specs.inside.Expanded.{invoke_name, expanded_at, expanded_from, expanded_section}

-- ---- an empty branch

all_unless : (P : Statement → Type 0) (s : Statement) (statements : List Statement) → All P statements → All P (unless_empty s statements)
all_unless P (Seq NoStatements) statements all = All-nil P
all_unless P s statements all = all

empty_cases : (s : Statement) (statements : List Statement) → (s ≡ Seq NoStatements) ⊎ (unless_empty s statements ≡ statements)
empty_cases (Seq NoStatements) statements = inl refl
empty_cases s statements = inr refl

-- ---- no invoke is left

mutual
  none_at : (k : ℕ) (s : Statement) → All IsNoInvoke (statements_in (expanded_at k s))
  none_at k (Enable name) = All-cons IsNoInvoke (Enable name) [] tt (All-nil IsNoInvoke)
  none_at k (Seq ss) = All-cons IsNoInvoke (Seq (expanded_from (k + 1) ss)) (statements_of (expanded_from (k + 1) ss)) tt (none_from (k + 1) ss)
  none_at k (Par ss) = All-cons IsNoInvoke (Par (expanded_from (k + 1) ss)) (statements_of (expanded_from (k + 1) ss)) tt (none_from (k + 1) ss)
  none_at k (If port by s t) =
      let j = k + 1 + length (unless_empty s (statements_in s)) in
      let on = expanded_at (k + 1) s in
      let off = expanded_at j t in
      All-cons IsNoInvoke (If port by on off) (unless_empty on (statements_in on) ++ unless_empty off (statements_in off)) tt
      (All-append IsNoInvoke (unless_empty on (statements_in on)) (unless_empty off (statements_in off))
      (all_unless IsNoInvoke on (statements_in on) (none_at (k + 1) s))
      (all_unless IsNoInvoke off (statements_in off) (none_at (k + 1 + length (unless_empty s (statements_in s))) t)))
  none_at k (While port by s) =
      let body = expanded_at (k + 1) s in
      All-cons IsNoInvoke (While port by body) (unless_empty body (statements_in body)) tt (all_unless IsNoInvoke body (statements_in body) (none_at (k + 1) s))
  none_at k (Invoke cell ins outs) = All-cons IsNoInvoke (Enable (invoke_name k)) [] tt (All-nil IsNoInvoke)

  none_from : (k : ℕ) (ss : Statements) → All IsNoInvoke (statements_of (expanded_from k ss))
  none_from k NoStatements = All-nil IsNoInvoke
  none_from k (MoreStatements s ss) =
      All-append IsNoInvoke (statements_in (expanded_at k s)) (statements_of (expanded_from (k + length (statements_in s)) ss)) (none_at k s) (none_from (k + length (statements_in s)) ss)

pub none_in : (k : ℕ) (control : ControlSection) → All IsNoInvoke (control_statements (expanded_section k control))
none_in k Absent = All-nil IsNoInvoke
none_in k Empty = All-nil IsNoInvoke
none_in k (Body s) = none_at k s

-- ---- the plan

abbrev IsUnmoved : Text → Type 0
IsUnmoved name = moved name ≡ name

-- the groups that a statement names have names that stay
abbrev pub NamesStay : Statement → Type 0
NamesStay s = IfEnable s IsUnmoved × IfCondition s (λ port by. IfSome by IsUnmoved)

-- so have those of all statements inside
abbrev mutual
  AllStay : Statement → Type 0
  AllStay (Enable name) = IsUnmoved name
  AllStay (Seq ss) = EachStays ss
  AllStay (Par ss) = EachStays ss
  AllStay (If port by s t) = IfSome by IsUnmoved × AllStay s × AllStay t
  AllStay (While port by s) = IfSome by IsUnmoved × AllStay s
  AllStay (Invoke cell ins outs) = Unit {0}

  EachStays : Statements → Type 0
  EachStays NoStatements = Unit {0}
  EachStays (MoreStatements s ss) = AllStay s × EachStays ss

mutual
  all_stay : (s : Statement) → ((x : Statement) → Contains (statements_in s) x → NamesStay x) → AllStay s
  all_stay (Enable name) each = (each (Enable name) (Contains-here (Enable name) [])).0
  all_stay (Seq ss) each = each_stays ss (λ x has. each x (Contains-there (Seq ss) (statements_of ss) x has))
  all_stay (Par ss) each = each_stays ss (λ x has. each x (Contains-there (Par ss) (statements_of ss) x has))
  all_stay (If port by s t) each =
      let on = unless_empty s (statements_in s) in
      let off = unless_empty t (statements_in t) in (
        (each (If port by s t) (Contains-here (If port by s t) (on ++ off))).1,
        elim (empty_cases s (statements_in s)) [
          | inl e ↦ subst AllStay (sym e) tt
          | inr e ↦ all_stay s (λ x has. each x (Contains-there (If port by s t) (on ++ off) x
              (Contains-append_left on off x (subst (λ (xs : List Statement). Contains xs x) (sym e) has))))
        ],
        elim (empty_cases t (statements_in t)) [
          | inl e ↦ subst AllStay (sym e) tt
          | inr e ↦ all_stay t (λ x has. each x (Contains-there (If port by s t) (on ++ off) x
              (Contains-append_right on off x (subst (λ (xs : List Statement). Contains xs x) (sym e) has))))
        ],
      )
  all_stay (While port by s) each =
      let body = unless_empty s (statements_in s) in (
        (each (While port by s) (Contains-here (While port by s) body)).1,
        elim (empty_cases s (statements_in s)) [
          | inl e ↦ subst AllStay (sym e) tt
          | inr e ↦ all_stay s (λ x has. each x (Contains-there (While port by s) body x (subst (λ (xs : List Statement). Contains xs x) (sym e) has)))
        ],
      )
  all_stay (Invoke cell ins outs) each = tt

  each_stays : (ss : Statements) → ((x : Statement) → Contains (statements_of ss) x → NamesStay x) → EachStays ss
  each_stays NoStatements each = tt
  each_stays (MoreStatements s ss) each = (
    all_stay s (λ x has. each x (Contains-append_left (statements_in s) (statements_of ss) x has)),
    each_stays ss (λ x has. each x (Contains-append_right (statements_in s) (statements_of ss) x has)),
  )

by_stays : (by : Option Text) → IfSome by IsUnmoved → option_map GroupNamed by ≡ option_map renamed (option_map GroupNamed by)
by_stays None stays = refl
by_stays (Some name) stays = ap (λ (x : Text). Some (GroupNamed x)) (sym stays)

mutual
  plan_expanded : (k j : ℕ) (s : Statement) → AllStay s → plan_at j (expanded_at k s) ≡ with_actors renamed (plan_at k s)
  plan_expanded k j (Enable name) stays = ap (λ (x : Text). Enables (GroupNamed x)) (sym stays)
  plan_expanded k j (Seq ss) stays = ap InTurn (plans_expanded (k + 1) (j + 1) ss stays)
  plan_expanded k j (Par ss) stays = ap AtOnce (plans_expanded (k + 1) (j + 1) ss stays)
  plan_expanded k j (If port by s t) stays =
      let on = expanded_at (k + 1) s in
      let off = expanded_at (k + 1 + length (unless_empty s (statements_in s))) t in
      ap (λ (o : Option Actor). Chooses port o (plan_at (j + 1) on) (plan_at (j + 1 + length (unless_empty on (statements_in on))) off)) (by_stays by stays.0)
      ∙ ap₂ (λ (p q : Plan). Chooses port (option_map renamed (option_map GroupNamed by)) p q)
      (plan_expanded (k + 1) (j + 1) s stays.1)
      (plan_expanded (k + 1 + length (unless_empty s (statements_in s))) (j + 1 + length (unless_empty on (statements_in on))) t stays.2)
  plan_expanded k j (While port by s) stays =
      ap₂ (λ (o : Option Actor) (p : Plan). Repeats port o p) (by_stays by stays.0) (plan_expanded (k + 1) (j + 1) s stays.1)
  plan_expanded k j (Invoke cell ins outs) stays = refl

  plans_expanded : (k j : ℕ) (ss : Statements) → EachStays ss → plans_from j (expanded_from k ss) ≡ all_with_actors renamed (plans_from k ss)
  plans_expanded k j NoStatements stays = refl
  plans_expanded k j (MoreStatements s ss) stays =
      ap₂ MorePlans (plan_expanded k j s stays.0)
      (plans_expanded (k + length (statements_in s)) (j + length (statements_in (expanded_at k s))) ss stays.1)

pub section_expanded : (k j : ℕ) (control : ControlSection) → ((s : Statement) → Contains (control_statements control) s → NamesStay s)
    → section_plan j (expanded_section k control) ≡ with_actors renamed (section_plan k control)
section_expanded k j Absent each = refl
section_expanded k j Empty each = refl
section_expanded k j (Body s) each = plan_expanded k j s (all_stay s each)
