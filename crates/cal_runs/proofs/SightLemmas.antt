-- What is left of a plan is told by the actors that are done and by what the ports of its conditions read.
use Rattle.std.proofs.Common.{◌≡◌, inl, inr, ℕ, ◌+◌, List, [], ◌++◌, length, Bool, true, false, refl, ap, ap₂, subst}
use Rattle.std.specs.Prelude.{Contains, if◌then◌else◌}
use Rattle.std.proofs.lemmas.List.Elements.{Contains-append_left, Contains-append_right}
use Rattle.cal_ast.proofs.ListLemmas.{Contains-none, Contains-here, Contains-there, Contains-cases_first}
use Rattle.cal_ast.specs.Actors.{Actor}
use Rattle.cal_ast.specs.Items.{statements_in, statements_of, unless_empty, control_statements}
use Rattle.cal_ast.specs.Plan.{Plan, Enables, InTurn, AtOnce, Chooses, Repeats, Plans, NoPlans, MorePlans, plan_at, plans_from, section_plan}
use Rattle.cal_ast.specs.Statement.{IfCondition}
use Rattle.cal_ast.specs.Tree.{PortName, Statement, Enable, Seq, Par, If, While, Invoke, Statements, NoStatements, MoreStatements, ControlSection, Absent, Empty, Body}
use Rattle.cal_walk.specs.Left.{Sight, is_over, nothing, before_others, left, left_in_turn, left_at_once}
use Rattle.cal_walk.specs.Stages.{Progress, Waits, GoesOn, Ends, progress_of, next_progress}

module _ (K : PortName → Type 0) where
  -- the ports of the plan's conditions are such ports
  abbrev mutual
    pub Tests : Plan → Type 0
    Tests (Enables actor) = Unit {0}
    Tests (InTurn ps) = AllTest ps
    Tests (AtOnce ps) = AllTest ps
    Tests (Chooses port by on off) = K port × Tests on × Tests off
    Tests (Repeats port by body) = K port × Tests body

    pub AllTest : Plans → Type 0
    AllTest NoPlans = Unit {0}
    AllTest (MorePlans p ps) = Tests p × AllTest ps

  -- so are those of what is left to do
  abbrev pub ProgressTests : Progress → Type 0
  ProgressTests Waits = Unit {0}
  ProgressTests (GoesOn p) = Tests p
  ProgressTests Ends = Unit {0}

  -- ---- plans of statements

  abbrev IsSuch : Statement → Type 0
  IsSuch s = IfCondition s (λ port by. K port)

  -- a branch that is an empty sequence has no condition
  unless_all : (s : Statement) → ((x : Statement) → Contains (unless_empty s (statements_in s)) x → IsSuch x) → (x : Statement) → Contains (statements_in s) x → IsSuch x
  unless_all (Seq NoStatements) all x has = elim (Contains-cases_first (Seq NoStatements) [] x has) [
    | inl same ↦ subst IsSuch same tt
    | inr none ↦ absurd (Contains-none x none)
  ]
  unless_all s all x has = all x has

  mutual
    plan_tests : (k : ℕ) (s : Statement) → ((x : Statement) → Contains (statements_in s) x → IsSuch x) → Tests (plan_at k s)
    plan_tests k (Enable name) all = tt
    plan_tests k (Seq ss) all = plans_test (k + 1) ss (λ x has. all x (Contains-there (Seq ss) (statements_of ss) x has))
    plan_tests k (Par ss) all = plans_test (k + 1) ss (λ x has. all x (Contains-there (Par ss) (statements_of ss) x has))
    plan_tests k (If port by s t) all =
        let on : List Statement = unless_empty s (statements_in s) in
        let off : List Statement = unless_empty t (statements_in t) in (
          all (If port by s t) (Contains-here (If port by s t) (on ++ off)),
          plan_tests (k + 1) s (unless_all s (λ x has. all x (Contains-there (If port by s t) (on ++ off) x (Contains-append_left on off x has)))),
          plan_tests (k + 1 + length on) t (unless_all t (λ x has. all x (Contains-there (If port by s t) (on ++ off) x (Contains-append_right on off x has)))),
        )
    plan_tests k (While port by s) all =
        let body : List Statement = unless_empty s (statements_in s) in
        (all (While port by s) (Contains-here (While port by s) body), plan_tests (k + 1) s (unless_all s (λ x has. all x (Contains-there (While port by s) body x has))))
    plan_tests k (Invoke cell ins outs) all = tt

    plans_test : (k : ℕ) (ss : Statements) → ((x : Statement) → Contains (statements_of ss) x → IsSuch x) → AllTest (plans_from k ss)
    plans_test k NoStatements all = tt
    plans_test k (MoreStatements s ss) all = (
      plan_tests k s (λ x has. all x (Contains-append_left (statements_in s) (statements_of ss) x has)),
      plans_test (k + length (statements_in s)) ss (λ x has. all x (Contains-append_right (statements_in s) (statements_of ss) x has)),
    )

  pub section_tests : (k : ℕ) (control : ControlSection) → ((x : Statement) → Contains (control_statements control) x → IsSuch x) → Tests (section_plan k control)
  section_tests k Absent all = tt
  section_tests k Empty all = tt
  section_tests k (Body s) all = plan_tests k s all

  -- ---- what is left

  if_tests : (b : Bool) (p q : Plan) → Tests p → Tests q → Tests (if b then p else q)
  if_tests true p q h h' = h
  if_tests false p q h h' = h'

  before_tests : (p : Plan) (ps : Plans) → Tests p → AllTest ps → Tests (before_others p ps)
  before_tests p NoPlans h hs = h
  before_tests p (MorePlans q qs) h hs = (h, hs)

  module _ (s : Sight) where
    mutual
      left_tests : (p : Plan) → Tests p → Tests (left s p)
      left_tests (Enables actor) h = if_tests (s.done actor) nothing (Enables actor) tt tt
      left_tests (InTurn ps) h = in_turn_tests ps h
      left_tests (AtOnce ps) h = at_once_tests ps h
      left_tests (Chooses port by on off) h = if_tests (s.reads port) on off h.1 h.2
      left_tests (Repeats port by body) h =
          if_tests (s.reads port) (InTurn (MorePlans body (MorePlans (Repeats port by body) NoPlans))) nothing (h.1, (h, tt)) tt

      in_turn_tests : (ps : Plans) → AllTest ps → Tests (left_in_turn s ps)
      in_turn_tests NoPlans h = tt
      in_turn_tests (MorePlans p ps) h =
          if_tests (is_over p) (left_in_turn s ps) (before_others (left s p) ps) (in_turn_tests ps h.1) (before_tests (left s p) ps (left_tests p h.0) h.1)

      at_once_tests : (ps : Plans) → AllTest ps → AllTest (left_at_once s ps)
      at_once_tests NoPlans h = tt
      at_once_tests (MorePlans p ps) h = (left_tests p h.0, at_once_tests ps h.1)

    progress_of-tests : (p : Plan) → Tests p → ProgressTests (progress_of p)
    progress_of-tests p h = by (is_over p)
      where
        by : (b : Bool) → ProgressTests (if b then Ends else GoesOn p)
        by true = tt
        by false = h

    pub next_tests : (plan : Plan) (go : Bool) (x : Progress) → Tests plan → ProgressTests x → ProgressTests (next_progress plan s go x)
    next_tests plan go Waits whole h = by go
      where
        by : (b : Bool) → ProgressTests (if b then progress_of (left s plan) else Waits)
        by true = progress_of-tests (left s plan) (left_tests plan whole)
        by false = tt
    next_tests plan go (GoesOn p) whole h = progress_of-tests (left s p) (left_tests p h)
    next_tests plan go Ends whole h = tt

  -- ---- sights that agree

  pub record IsAlike (s s' : Sight) : Type 0 where
    pub done : (actor : Actor) → s.done actor ≡ s'.done actor
    pub reads : (port : PortName) → K port → s.reads port ≡ s'.reads port

  module _ (s s' : Sight) (alike : IsAlike s s') where
    mutual
      left_same : (p : Plan) → Tests p → left s p ≡ left s' p
      left_same (Enables actor) h = ap (λ (b : Bool). if b then nothing else Enables actor) (alike.done actor)
      left_same (InTurn ps) h = in_turn_same ps h
      left_same (AtOnce ps) h = ap AtOnce (at_once_same ps h)
      left_same (Chooses port by on off) h = ap (λ (b : Bool). if b then on else off) (alike.reads port h.0)
      left_same (Repeats port by body) h =
          ap (λ (b : Bool). if b then InTurn (MorePlans body (MorePlans (Repeats port by body) NoPlans)) else nothing) (alike.reads port h.0)

      in_turn_same : (ps : Plans) → AllTest ps → left_in_turn s ps ≡ left_in_turn s' ps
      in_turn_same NoPlans h = refl
      in_turn_same (MorePlans p ps) h =
          ap₂ (λ (rest : Plan) (first : Plan). if is_over p then rest else before_others first ps) (in_turn_same ps h.1) (left_same p h.0)

      at_once_same : (ps : Plans) → AllTest ps → left_at_once s ps ≡ left_at_once s' ps
      at_once_same NoPlans h = refl
      at_once_same (MorePlans p ps) h = ap₂ MorePlans (left_same p h.0) (at_once_same ps h.1)

    pub next_same : (plan : Plan) (go go' : Bool) (x : Progress) → Tests plan → ProgressTests x → go ≡ go' → next_progress plan s go x ≡ next_progress plan s' go' x
    next_same plan go go' Waits whole h same = ap₂ (λ (b : Bool) (p : Plan). if b then progress_of p else Waits) same (left_same plan whole)
    next_same plan go go' (GoesOn p) whole h same = ap progress_of (left_same p h)
    next_same plan go go' Ends whole h same = refl
