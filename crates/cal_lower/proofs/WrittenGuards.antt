-- Guards over the registers and wires of a plan can be written.
use Rattle.std.proofs.Common.{ℕ, ◌+◌, Bool, true, false, List, [], ◌∷◌, ◌++◌, length, if◌then◌else◌, lit<, refl}
use Rattle.std.specs.List.{AllByRecursion}
use Rattle.hw_names.specs.Name.{Text}
use Rattle.net_core.specs.Guard.{GuardTree, Negates, guards_of}
use Rattle.cal_ast.specs.Actors.{Actor, same_actor}
use Rattle.cal_ast.specs.Items.{statements_in, unless_empty}
use Rattle.cal_ast.specs.Plan.{AtOnce, Chooses, Enables, InTurn, MorePlans, NoPlans, Plan, Plans, Repeats, plan_at, plans_from, section_plan}
use Rattle.cal_ast.specs.Tree.{Absent, Body, ControlSection, Empty, Enable, If, Invoke, MoreStatements, NoStatements, Par, PortName, Seq, Statement, Statements, While}
use Rattle.cal_lower.specs.inside.Parts.{chooses_nothing, enabling, enabling_after, enabling_at_once, enabling_in_turn, ended_guards, ends_guard, last_part, none_if_over, part_ends, tested_guard, testing, testing_after, testing_at_once, testing_in_turn}
use Rattle.cal_lower.specs.inside.Pieces.{all_of, any_of, both, either, group_name, has_token, is_done, is_set, never, reads, token_name, done_name, ends_name}
use Rattle.cal_ast.specs.Written.{ControlIsWritten, GuardIsWritten, GuardsAreWritten, IsCalName, PortIsWritten, StatementIsWritten, StatementsAreWritten}
use Rattle.cal_token.specs.inside.Tokens.{Again, Ended, Going, Starting, Token, size}
use Rattle.cal_walk.specs.Left.{is_by, is_over}
use Rattle.cal_ast.proofs.WrittenLists.{all_append, all_chosen}
use Rattle.cal_group.proofs.WrittenNames.{HasNameBytes, name_bytes, out_named}
use Rattle.cal_lower.proofs.WrittenNames.{done_named, ends_named, token_named}

abbrev Guard : Type 0
Guard = GuardTree PortName

abbrev AreWritten : List Guard → Type 0
AreWritten guards = AllByRecursion GuardIsWritten guards

-- ---- guards of guards

guards_written : (gs : List Guard) → AreWritten gs → GuardsAreWritten (guards_of gs)
guards_written [] are = tt
guards_written (g ∷ gs) are = (are.0, guards_written gs are.1)

pub never_written : GuardIsWritten never
never_written = (lit< tt, lit< tt)

pub any_written : (gs : List Guard) → AreWritten gs → GuardIsWritten (any_of gs)
any_written [] are = never_written
any_written (g ∷ []) are = are.0
any_written (g ∷ h ∷ gs) are = (tt, guards_written (g ∷ h ∷ gs) are)

pub all_written : (gs : List Guard) → AreWritten gs → GuardIsWritten (all_of gs)
all_written [] are = (lit< tt, lit< tt)
all_written (g ∷ []) are = are.0
all_written (g ∷ h ∷ gs) are = (tt, guards_written (g ∷ h ∷ gs) are)

pub either_written : (a b : Guard) → GuardIsWritten a → GuardIsWritten b → GuardIsWritten (either a b)
either_written a b is_a is_b = (tt, (is_a, (is_b, tt)))

pub both_written : (a b : Guard) → GuardIsWritten a → GuardIsWritten b → GuardIsWritten (both a b)
both_written a b is_a is_b = (tt, (is_a, (is_b, tt)))

pub guard_chosen : (test : Bool) (a b : Guard) → GuardIsWritten a → GuardIsWritten b → GuardIsWritten (if test then a else b)
guard_chosen true a b is_a is_b = is_a
guard_chosen false a b is_a is_b = is_b

pub set_written : (name : Text) → IsCalName name → GuardIsWritten (is_set name)
set_written name is = (is, out_named)

pub token_written : (t : Token) → GuardIsWritten (has_token t)
token_written t = set_written (token_name t) (token_named t)

pub ends_written : (k : ℕ) → GuardIsWritten (part_ends k)
ends_written k = set_written (ends_name k) (ends_named k)

-- ---- plans

-- the ports and the groups of the plan have names of the grammar; an invoke's is empty
abbrev mutual
  pub PlanIsWritten : Plan → Type 0
  PlanIsWritten (Enables actor) = HasNameBytes (group_name actor)
  PlanIsWritten (InTurn ps) = PlansAreWritten ps
  PlanIsWritten (AtOnce ps) = PlansAreWritten ps
  PlanIsWritten (Chooses port by on off) = PortIsWritten port × (PlanIsWritten on × PlanIsWritten off)
  PlanIsWritten (Repeats port by body) = PortIsWritten port × PlanIsWritten body

  pub PlansAreWritten : Plans → Type 0
  PlansAreWritten NoPlans = Unit {0}
  PlansAreWritten (MorePlans p ps) = PlanIsWritten p × PlansAreWritten ps

mutual
  plan_written : (k : ℕ) (s : Statement) → StatementIsWritten s → PlanIsWritten (plan_at k s)
  plan_written k (Enable name) is = name_bytes name is
  plan_written k (Seq ss) is = plans_written (k + 1) ss is
  plan_written k (Par ss) is = plans_written (k + 1) ss is
  plan_written k (If port by s t) is = (is.0, (plan_written (k + 1) s is.1.1.0, plan_written (k + 1 + length (unless_empty s (statements_in s))) t is.1.1.1))
  plan_written k (While port by s) is = (is.0, plan_written (k + 1) s is.1.1)
  plan_written k (Invoke cell ins outs) is = refl

  plans_written : (k : ℕ) (ss : Statements) → StatementsAreWritten ss → PlansAreWritten (plans_from k ss)
  plans_written k NoStatements are = tt
  plans_written k (MoreStatements s ss) are = (plan_written k s are.0, plans_written (k + length (statements_in s)) ss are.1)

pub section_written : (k : ℕ) (control : ControlSection) → ControlIsWritten control → PlanIsWritten (section_plan k control)
section_written k Absent is = tt
section_written k Empty is = tt
section_written k (Body s) is = plan_written k s is

-- ---- where a part ends

pub none_written : {X : Type 0} (P : X → Type 0) (p : Plan) (xs : List X) → AllByRecursion P xs → AllByRecursion P (none_if_over p xs)
none_written P p xs all = all_chosen P (is_over p) [] xs tt all

pub tested_written : (k : ℕ) (start : Guard) → GuardIsWritten start → GuardIsWritten (tested_guard k start)
tested_written k start begins = either_written start (has_token (Again k)) begins (token_written (Again k))

pub going_written : (k : ℕ) (start : Guard) → GuardIsWritten start → GuardIsWritten (either start (has_token (Going k)))
going_written k start begins = either_written start (has_token (Going k)) begins (token_written (Going k))

pub ended_written : (k : ℕ) → GuardIsWritten (either (part_ends k) (has_token (Ended k)))
ended_written k = either_written (part_ends k) (has_token (Ended k)) (ends_written k) (token_written (Ended k))

pub done_written : (actor : Actor) → HasNameBytes (group_name actor) → GuardIsWritten (is_done actor)
done_written actor are = set_written (done_name (group_name actor)) (done_named (group_name actor) are)

nothing_written : (start : Guard) (port : PortName) (on off : Bool) → GuardIsWritten start → PortIsWritten port → AreWritten (chooses_nothing start port on off)
nothing_written start port true true begins is = (begins, tt)
nothing_written start port true false begins is = (both_written start (reads port) begins is, tt)
nothing_written start port false true begins is = (both_written start (Negates (reads port)) begins is, tt)
nothing_written start port false false begins is = tt

ended_guards_written : (k : ℕ) (ps : Plans) → AreWritten (ended_guards k ps)
ended_guards_written k NoPlans = tt
ended_guards_written k (MorePlans p ps) =
    let here = either (part_ends k) (has_token (Ended k)) ∷ [] in
    all_append GuardIsWritten (none_if_over p here) (ended_guards (k + size p) ps) (none_written GuardIsWritten p here (ended_written k, tt)) (ended_guards_written (k + size p) ps)

pub ends_guard_written : (k : ℕ) (p : Plan) (start : Guard) → PlanIsWritten p → GuardIsWritten start → GuardIsWritten (ends_guard k p start)
ends_guard_written k (Enables actor) start is begins =
    both_written (either start (has_token (Going k))) (is_done actor) (going_written k start begins) (done_written actor is)
ends_guard_written k (InTurn ps) start is begins = ends_written (last_part (k + 1) ps)
ends_guard_written k (AtOnce ps) start is begins = all_written (ended_guards (k + 1) ps) (ended_guards_written (k + 1) ps)
ends_guard_written k (Chooses port by on off) start is begins =
    let none = chooses_nothing start port (is_over on) (is_over off) in
    let of_on = part_ends (k + 1) ∷ [] in
    let of_off = part_ends (k + 1 + size on) ∷ [] in
    any_written (none ++ none_if_over on of_on ++ none_if_over off of_off)
    (all_append GuardIsWritten (none ++ none_if_over on of_on) (none_if_over off of_off)
    (all_append GuardIsWritten none (none_if_over on of_on) (nothing_written start port (is_over on) (is_over off) begins is.0) (none_written GuardIsWritten on of_on (ends_written (k + 1), tt)))
    (none_written GuardIsWritten off of_off (ends_written (k + 1 + size on), tt)))
ends_guard_written k (Repeats port by body) start is begins = both_written (tested_guard k start) (Negates (reads port)) (tested_written k start begins) is.0

-- ---- rows in which an actor is enabled, and those of tests in which it acts

module _ (actor : Actor) where
  mutual
    pub enabling_written : (k : ℕ) (p : Plan) (start : Guard) → GuardIsWritten start → AreWritten (enabling k p start actor)
    enabling_written k (Enables other) start begins =
        all_chosen GuardIsWritten (same_actor other actor) (either start (has_token (Going k)) ∷ []) [] (going_written k start begins, tt) tt
    enabling_written k (InTurn ps) start begins = in_turn_written (k + 1) ps start begins
    enabling_written k (AtOnce ps) start begins = at_once_written (k + 1) ps start begins
    enabling_written k (Chooses port by on off) start begins =
        let of_on = enabling (k + 1) on (has_token (Starting (k + 1))) actor in
        let of_off = enabling (k + 1 + size on) off (has_token (Starting (k + 1 + size on))) actor in
        all_append GuardIsWritten (none_if_over on of_on) (none_if_over off of_off)
        (none_written GuardIsWritten on of_on (enabling_written (k + 1) on (has_token (Starting (k + 1))) (token_written (Starting (k + 1)))))
        (none_written GuardIsWritten off of_off (enabling_written (k + 1 + size on) off (has_token (Starting (k + 1 + size on))) (token_written (Starting (k + 1 + size on)))))
    enabling_written k (Repeats port by body) start begins =
        none_written GuardIsWritten body (enabling (k + 1) body (has_token (Starting (k + 1))) actor)
        (enabling_written (k + 1) body (has_token (Starting (k + 1))) (token_written (Starting (k + 1))))

    in_turn_written : (k : ℕ) (ps : Plans) (start : Guard) → GuardIsWritten start → AreWritten (enabling_in_turn k ps start actor)
    in_turn_written k NoPlans start begins = tt
    in_turn_written k (MorePlans p ps) start begins =
        all_chosen GuardIsWritten (is_over p) (enabling_in_turn (k + size p) ps start actor) (enabling k p start actor ++ enabling_after (k + size p) ps actor)
        (in_turn_written (k + size p) ps start begins)
        (all_append GuardIsWritten (enabling k p start actor) (enabling_after (k + size p) ps actor) (enabling_written k p start begins) (after_written (k + size p) ps))

    after_written : (k : ℕ) (ps : Plans) → AreWritten (enabling_after k ps actor)
    after_written k NoPlans = tt
    after_written k (MorePlans p ps) =
        let here = enabling k p (has_token (Starting k)) actor in
        all_append GuardIsWritten (none_if_over p here) (enabling_after (k + size p) ps actor)
        (none_written GuardIsWritten p here (enabling_written k p (has_token (Starting k)) (token_written (Starting k)))) (after_written (k + size p) ps)

    at_once_written : (k : ℕ) (ps : Plans) (start : Guard) → GuardIsWritten start → AreWritten (enabling_at_once k ps start actor)
    at_once_written k NoPlans start begins = tt
    at_once_written k (MorePlans p ps) start begins =
        let here = enabling k p start actor in
        all_append GuardIsWritten (none_if_over p here) (enabling_at_once (k + size p) ps start actor)
        (none_written GuardIsWritten p here (enabling_written k p start begins)) (at_once_written (k + size p) ps start begins)

  mutual
    pub testing_written : (k : ℕ) (p : Plan) (start : Guard) → GuardIsWritten start → AreWritten (testing k p start actor)
    testing_written k (Enables other) start begins = tt
    testing_written k (InTurn ps) start begins = tests_in_turn_written (k + 1) ps start begins
    testing_written k (AtOnce ps) start begins = tests_at_once_written (k + 1) ps start begins
    testing_written k (Chooses port by on off) start begins =
        let own : List Guard = if is_by by actor then start ∷ [] else [] in
        let of_on = testing (k + 1) on (has_token (Starting (k + 1))) actor in
        let of_off = testing (k + 1 + size on) off (has_token (Starting (k + 1 + size on))) actor in
        all_append GuardIsWritten (own ++ none_if_over on of_on) (none_if_over off of_off)
        (all_append GuardIsWritten own (none_if_over on of_on) (all_chosen GuardIsWritten (is_by by actor) (start ∷ []) [] (begins, tt) tt)
        (none_written GuardIsWritten on of_on (testing_written (k + 1) on (has_token (Starting (k + 1))) (token_written (Starting (k + 1))))))
        (none_written GuardIsWritten off of_off (testing_written (k + 1 + size on) off (has_token (Starting (k + 1 + size on))) (token_written (Starting (k + 1 + size on)))))
    testing_written k (Repeats port by body) start begins =
        let own : List Guard = if is_by by actor then tested_guard k start ∷ [] else [] in
        let of_body = testing (k + 1) body (has_token (Starting (k + 1))) actor in
        all_append GuardIsWritten own (none_if_over body of_body) (all_chosen GuardIsWritten (is_by by actor) (tested_guard k start ∷ []) [] (tested_written k start begins, tt) tt)
        (none_written GuardIsWritten body of_body (testing_written (k + 1) body (has_token (Starting (k + 1))) (token_written (Starting (k + 1)))))

    tests_in_turn_written : (k : ℕ) (ps : Plans) (start : Guard) → GuardIsWritten start → AreWritten (testing_in_turn k ps start actor)
    tests_in_turn_written k NoPlans start begins = tt
    tests_in_turn_written k (MorePlans p ps) start begins =
        all_chosen GuardIsWritten (is_over p) (testing_in_turn (k + size p) ps start actor) (testing k p start actor ++ testing_after (k + size p) ps actor)
        (tests_in_turn_written (k + size p) ps start begins)
        (all_append GuardIsWritten (testing k p start actor) (testing_after (k + size p) ps actor) (testing_written k p start begins) (tests_after_written (k + size p) ps))

    tests_after_written : (k : ℕ) (ps : Plans) → AreWritten (testing_after k ps actor)
    tests_after_written k NoPlans = tt
    tests_after_written k (MorePlans p ps) =
        let here = testing k p (has_token (Starting k)) actor in
        all_append GuardIsWritten (none_if_over p here) (testing_after (k + size p) ps actor)
        (none_written GuardIsWritten p here (testing_written k p (has_token (Starting k)) (token_written (Starting k)))) (tests_after_written (k + size p) ps)

    tests_at_once_written : (k : ℕ) (ps : Plans) (start : Guard) → GuardIsWritten start → AreWritten (testing_at_once k ps start actor)
    tests_at_once_written k NoPlans start begins = tt
    tests_at_once_written k (MorePlans p ps) start begins =
        let here = testing k p start actor in
        all_append GuardIsWritten (none_if_over p here) (testing_at_once (k + size p) ps start actor)
        (none_written GuardIsWritten p here (testing_written k p start begins)) (tests_at_once_written (k + size p) ps start begins)
