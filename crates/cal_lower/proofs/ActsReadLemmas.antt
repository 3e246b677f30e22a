-- The wire of a group that acts reads what starts its plan and registers alone, besides the wire of its own done line: no wire of an end.
use Rattle.std.proofs.Common.{ℕ, ◌+◌, List, [], ◌∷◌, ◌++◌, Bool, true, false}
use Rattle.std.specs.Prelude.{if◌then◌else◌}
use Rattle.net_core.specs.Guard.{GuardTree}
use Rattle.cal_ast.specs.Actors.{Actor, same_actor}
use Rattle.cal_ast.specs.Plan.{Plan, Enables, InTurn, AtOnce, Chooses, Repeats, Plans, NoPlans, MorePlans}
use Rattle.cal_ast.specs.Tree.{PortName}
use Rattle.cal_walk.specs.Left.{is_over, is_by}
use Rattle.cal_token.specs.inside.Tokens.{Token, Going, Starting, Again, size}
use Rattle.cal_lower.specs.inside.Parts.{none_if_over, tested_guard, enabling, enabling_in_turn, enabling_after, enabling_at_once, testing, testing_in_turn, testing_after, testing_at_once}
use Rattle.cal_lower.specs.inside.Pieces.{token_name, shown, has_token, either}
use Rattle.cal_lower.proofs.BitLemmas.{IsBitGuard}
use Rattle.cal_lower.proofs.ListLemmas.{Each, each_append}

module _ (P : PortName → Type 0) (tokens : (t : Token) → P (shown (token_name t))) (actor : Actor) where
  abbrev Reading : List (GuardTree PortName) → Type 0
  Reading gs = Each (IsBitGuard P) gs

  where_it : (b : Bool) (gs hs : List (GuardTree PortName)) → Reading gs → Reading hs → Reading (if b then gs else hs)
  where_it true gs hs one other = one
  where_it false gs hs one other = other

  unless_over : (p : Plan) (gs : List (GuardTree PortName)) → Reading gs → Reading (none_if_over p gs)
  unless_over p gs all = where_it (is_over p) [] gs tt all

  append : (gs hs : List (GuardTree PortName)) → Reading gs → Reading hs → Reading (gs ++ hs)
  append gs hs one other = each_append (IsBitGuard P) gs hs one other

  mutual
    pub enabling_reads : (k : ℕ) (p : Plan) (start : GuardTree PortName) → IsBitGuard P start → Reading (enabling k p start actor)
    enabling_reads k (Enables other) start is =
        where_it (same_actor other actor) (either start (has_token (Going k)) ∷ []) [] ((is, (tokens (Going k), tt)), tt) tt
    enabling_reads k (InTurn ps) start is = in_turn_reads (k + 1) ps start is
    enabling_reads k (AtOnce ps) start is = at_once_reads (k + 1) ps start is
    enabling_reads k (Chooses port by on off) start is =
        append (none_if_over on (enabling (k + 1) on (has_token (Starting (k + 1))) actor))
        (none_if_over off (enabling (k + 1 + size on) off (has_token (Starting (k + 1 + size on))) actor))
        (unless_over on (enabling (k + 1) on (has_token (Starting (k + 1))) actor) (enabling_reads (k + 1) on (has_token (Starting (k + 1))) (tokens (Starting (k + 1)))))
        (unless_over off (enabling (k + 1 + size on) off (has_token (Starting (k + 1 + size on))) actor)
        (enabling_reads (k + 1 + size on) off (has_token (Starting (k + 1 + size on))) (tokens (Starting (k + 1 + size on)))))
    enabling_reads k (Repeats port by body) start is =
        unless_over body (enabling (k + 1) body (has_token (Starting (k + 1))) actor)
        (enabling_reads (k + 1) body (has_token (Starting (k + 1))) (tokens (Starting (k + 1))))

    in_turn_reads : (k : ℕ) (ps : Plans) (start : GuardTree PortName) → IsBitGuard P start → Reading (enabling_in_turn k ps start actor)
    in_turn_reads k NoPlans start is = tt
    in_turn_reads k (MorePlans p ps) start is =
        where_it (is_over p) (enabling_in_turn (k + size p) ps start actor) (enabling k p start actor ++ enabling_after (k + size p) ps actor)
        (in_turn_reads (k + size p) ps start is)
        (append (enabling k p start actor) (enabling_after (k + size p) ps actor) (enabling_reads k p start is) (after_reads (k + size p) ps))

    after_reads : (k : ℕ) (ps : Plans) → Reading (enabling_after k ps actor)
    after_reads k NoPlans = tt
    after_reads k (MorePlans p ps) =
        append (none_if_over p (enabling k p (has_token (Starting k)) actor)) (enabling_after (k + size p) ps actor)
        (unless_over p (enabling k p (has_token (Starting k)) actor) (enabling_reads k p (has_token (Starting k)) (tokens (Starting k)))) (after_reads (k + size p) ps)

    at_once_reads : (k : ℕ) (ps : Plans) (start : GuardTree PortName) → IsBitGuard P start → Reading (enabling_at_once k ps start actor)
    at_once_reads k NoPlans start is = tt
    at_once_reads k (MorePlans p ps) start is =
        append (none_if_over p (enabling k p start actor)) (enabling_at_once (k + size p) ps start actor)
        (unless_over p (enabling k p start actor) (enabling_reads k p start is)) (at_once_reads (k + size p) ps start is)

  mutual
    pub testing_reads : (k : ℕ) (p : Plan) (start : GuardTree PortName) → IsBitGuard P start → Reading (testing k p start actor)
    testing_reads k (Enables other) start is = tt
    testing_reads k (InTurn ps) start is = tested_in_turn (k + 1) ps start is
    testing_reads k (AtOnce ps) start is = tested_at_once (k + 1) ps start is
    testing_reads k (Chooses port by on off) start is =
        let here : List (GuardTree PortName) = if is_by by actor then start ∷ [] else [] in
        let first : List (GuardTree PortName) = none_if_over on (testing (k + 1) on (has_token (Starting (k + 1))) actor) in
        let second : List (GuardTree PortName) = none_if_over off (testing (k + 1 + size on) off (has_token (Starting (k + 1 + size on))) actor) in
        let first_reads : Reading first =
        unless_over on (testing (k + 1) on (has_token (Starting (k + 1))) actor) (testing_reads (k + 1) on (has_token (Starting (k + 1))) (tokens (Starting (k + 1)))) in
        let second_reads : Reading second =
        unless_over off (testing (k + 1 + size on) off (has_token (Starting (k + 1 + size on))) actor)
        (testing_reads (k + 1 + size on) off (has_token (Starting (k + 1 + size on))) (tokens (Starting (k + 1 + size on)))) in
        append (here ++ first) second (append here first (where_it (is_by by actor) (start ∷ []) [] (is, tt) tt) first_reads) second_reads
    testing_reads k (Repeats port by body) start is =
        append (if is_by by actor then tested_guard k start ∷ [] else []) (none_if_over body (testing (k + 1) body (has_token (Starting (k + 1))) actor))
        (where_it (is_by by actor) (tested_guard k start ∷ []) [] ((is, (tokens (Again k), tt)), tt) tt)
        (unless_over body (testing (k + 1) body (has_token (Starting (k + 1))) actor)
        (testing_reads (k + 1) body (has_token (Starting (k + 1))) (tokens (Starting (k + 1)))))

    tested_in_turn : (k : ℕ) (ps : Plans) (start : GuardTree PortName) → IsBitGuard P start → Reading (testing_in_turn k ps start actor)
    tested_in_turn k NoPlans start is = tt
    tested_in_turn k (MorePlans p ps) start is =
        where_it (is_over p) (testing_in_turn (k + size p) ps start actor) (testing k p start actor ++ testing_after (k + size p) ps actor)
        (tested_in_turn (k + size p) ps start is)
        (append (testing k p start actor) (testing_after (k + size p) ps actor) (testing_reads k p start is) (tested_after (k + size p) ps))

    tested_after : (k : ℕ) (ps : Plans) → Reading (testing_after k ps actor)
    tested_after k NoPlans = tt
    tested_after k (MorePlans p ps) =
        append (none_if_over p (testing k p (has_token (Starting k)) actor)) (testing_after (k + size p) ps actor)
        (unless_over p (testing k p (has_token (Starting k)) actor) (testing_reads k p (has_token (Starting k)) (tokens (Starting k)))) (tested_after (k + size p) ps)

    tested_at_once : (k : ℕ) (ps : Plans) (start : GuardTree PortName) → IsBitGuard P start → Reading (testing_at_once k ps start actor)
    tested_at_once k NoPlans start is = tt
    tested_at_once k (MorePlans p ps) start is =
        append (none_if_over p (testing k p start actor)) (testing_at_once (k + size p) ps start actor)
        (unless_over p (testing k p start actor) (testing_reads k p start is)) (tested_at_once (k + size p) ps start is)
