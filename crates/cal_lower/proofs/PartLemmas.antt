-- Where each piece of a part shows what drives it, the part ends and steps as its tokens do.
use Rattle.std.proofs.Common.{◌≡◌, ℕ, ◌+◌, List, [], ◌∷◌, ◌++◌, Bool, true, false, not, ◌&&◌, ◌||◌, ◌==◌, Option, refl, sym, ap, subst, inl, inr, ◌∙◌}
use Rattle.std.specs.Prelude.{if◌then◌else◌}
use Rattle.std.proofs.lemmas.Bool.{cases_Bool, both_ways, cond-true, cond-false}
use Rattle.hw_names.specs.Name.{Text}
use Rattle.net_core.specs.Guard.{GuardTree, Negates, holds, guard_holds, source_value}
use Rattle.cal_ast.specs.Actors.{Actor}
use Rattle.cal_ast.specs.Plan.{Plan, Enables, InTurn, AtOnce, Chooses, Repeats, Plans, NoPlans, MorePlans}
use Rattle.cal_ast.specs.Tree.{PortName}
use Rattle.cal_walk.specs.Left.{Sight, is_over, are_over}
use Rattle.cal_token.specs.inside.Tokens.{Token, Going, Starting, Ended, Again, size, is_tested, ends, ends_in_turn, the_last_ends, have_ended, ends_later}
use Rattle.cal_token.specs.inside.Tokens.{Steps, StepInTurn, OthersStep, StepAtOnce, StepsLater}
use Rattle.cal_token.proofs.StartLemmas.{with_none, with_start as starts_with}
use Rattle.cal_token.proofs.TestLemmas.{and_true, or_same, and_same, at_true, at_false}
use Rattle.cal_lower.specs.inside.Pieces.{Piece, Kind, Wire, Register, piece, token_name, ends_name, shown, has_token, reads, either, both, is_done}
use Rattle.cal_lower.specs.inside.Parts.{none_if_over, part_ends, tested_guard, chooses_nothing, last_part, ended_guards, ends_guard, again_guard, ended_guard}
use Rattle.cal_lower.specs.inside.Parts.{ends_wire, with_start, part_pieces, pieces_in_turn, pieces_after, pieces_at_once}
use Rattle.cal_lower.proofs.GuardLemmas.{or_false, any_true, all_true, holds_either, holds_both, holds_any_of, holds_all_of, any_true-append, any_nothing}
use Rattle.cal_lower.proofs.ListLemmas.{Each, each_left, each_right}

-- what a wire or a register of this name shows in a row
abbrev pub shows_bit : (PortName → ℕ) → Text → Bool
shows_bit see name = see (shown name) == 1

abbrev pub tokens_in : (PortName → ℕ) → Token → Bool
tokens_in see token = shows_bit see (token_name token)

-- what drives the piece in the row is 1
abbrev pub is_driven : (PortName → ℕ) → Piece → Bool
is_driven see p = guard_holds see p.guard && (source_value see p.src == 1)

-- a wire shows it in the row, a register in the next one
abbrev pub ShowsAs : Kind → (now later driven : Bool) → Type 0
ShowsAs Wire now later driven = now ≡ driven
ShowsAs Register now later driven = later ≡ driven

abbrev pub IsShown : (see next : PortName → ℕ) → Piece → Type 0
IsShown see next p = ShowsAs p.kind (shows_bit see p.name) (shows_bit next p.name) (is_driven see p)

-- each actor that the plan enables, and each group of its conditions
abbrev mutual
  pub EachEnabled : (Actor → Type 0) → Plan → Type 0
  EachEnabled P (Enables actor) = P actor
  EachEnabled P (InTurn ps) = EachEnabledIn P ps
  EachEnabled P (AtOnce ps) = EachEnabledIn P ps
  EachEnabled P (Chooses port by on off) = EachEnabled P on × EachEnabled P off
  EachEnabled P (Repeats port by body) = EachEnabled P body

  pub EachEnabledIn : (Actor → Type 0) → Plans → Type 0
  EachEnabledIn P NoPlans = Unit {0}
  EachEnabledIn P (MorePlans p ps) = EachEnabled P p × EachEnabledIn P ps

abbrev mutual
  pub EachTested : (Option Actor → Type 0) → Plan → Type 0
  EachTested P (Enables actor) = Unit {0}
  EachTested P (InTurn ps) = EachTestedIn P ps
  EachTested P (AtOnce ps) = EachTestedIn P ps
  EachTested P (Chooses port by on off) = P by × EachTested P on × EachTested P off
  EachTested P (Repeats port by body) = P by × EachTested P body

  pub EachTestedIn : (Option Actor → Type 0) → Plans → Type 0
  EachTestedIn P NoPlans = Unit {0}
  EachTestedIn P (MorePlans p ps) = EachTested P p × EachTestedIn P ps

-- of several plans of which the first takes no row, the others take one
pub others_more : (p : Plan) (ps : Plans) → is_over p ≡ true → (is_over p && are_over ps) ≡ false → are_over ps ≡ false
others_more p ps over more = sym (ap (λ b. b && are_over ps) over) ∙ more

module _ (see next : PortName → ℕ) (done : Actor → Bool) where
  abbrev v : Token → Bool
  v = tokens_in see

  abbrev w : Token → Bool
  w = tokens_in next

  abbrev s : Sight
  s = record { done = done; reads = λ port. see port == 1 }

  -- the wire of its done shows what control sees
  abbrev IsKnown : Actor → Type 0
  IsKnown actor = holds see (is_done actor) ≡ done actor

  abbrev Shows : List Piece → Type 0
  Shows pieces = Each (IsShown see next) pieces

  record PartShows (k : ℕ) (p : Plan) (start : GuardTree PortName) : Type 0 where
    last : shows_bit see (ends_name k) ≡ ends v s k p (holds see start)
    steps : Steps v s k p (holds see start) w

  record LaterShows (k : ℕ) (p : Plan) (starts : GuardTree PortName) : Type 0 where
    last : is_over p ≡ false → shows_bit see (ends_name k) ≡ ends_later v s k p
    any : any_true see (none_if_over p (part_ends k ∷ [])) ≡ ends_later v s k p
    steps : StepsLater v s k p (holds see starts) w

  record InTurnShows (k : ℕ) (ps : Plans) (start : GuardTree PortName) : Type 0 where
    last : are_over ps ≡ false → shows_bit see (ends_name (last_part k ps)) ≡ ends_in_turn v s k ps (holds see start)
    steps : StepInTurn v s k ps (holds see start) w

  record AfterShows (k : ℕ) (ps : Plans) (starts : GuardTree PortName) : Type 0 where
    last : are_over ps ≡ false → shows_bit see (ends_name (last_part k ps)) ≡ the_last_ends v s k ps
    steps : OthersStep v s k ps (holds see starts) w

  record AtOnceShows (k : ℕ) (ps : Plans) (start all : GuardTree PortName) : Type 0 where
    last : all_true see (ended_guards k ps) ≡ have_ended v s k ps (holds see start)
    steps : StepAtOnce v s k ps (holds see start) (holds see all) w

  -- ---- an enable

  enable_shows : (k : ℕ) (actor : Actor) (start : GuardTree PortName) → IsKnown actor → Shows (part_pieces k (Enables actor) start) → PartShows k (Enables actor) start
  enable_shows k actor start known shows =
      let going : holds see (either start (has_token (Going k))) ≡ (holds see start || v (Going k)) = holds_either see start (has_token (Going k)) in
      record {
        last = shows.0 ∙ and_true (holds see (ends_guard k (Enables actor) start)) ∙ holds_both see (either start (has_token (Going k))) (is_done actor)
            ∙ and_same (holds see (either start (has_token (Going k)))) (holds see (is_done actor)) (holds see start || v (Going k)) (done actor) going known;
        steps = shows.1.0 ∙ and_true (holds see (both (either start (has_token (Going k))) (Negates (is_done actor))))
            ∙ holds_both see (either start (has_token (Going k))) (Negates (is_done actor))
            ∙ and_same (holds see (either start (has_token (Going k)))) (not (holds see (is_done actor))) (holds see start || v (Going k)) (not (done actor)) going (ap not known);
      }

  -- ---- a part that starts by its own token

  later_shows : (k : ℕ) (p : Plan) (starts : GuardTree PortName)
      → (is_over p ≡ false → Shows (part_pieces k p (has_token (Starting k))) → PartShows k p (has_token (Starting k)))
      → Shows (with_start k p starts (part_pieces k p (has_token (Starting k)))) → LaterShows k p starts
  later_shows k p starts part shows = elim (cases_Bool (is_over p)) [
    | inl over ↦ record {
      last = λ more. absurd (both_ways (is_over p) more over);
      any = ap (λ b. any_true see (if b then [] else part_ends k ∷ [])) over ∙ sym (ap (λ b. if b then false else ends v s k p (v (Starting k))) over);
      steps = with_none w k p (holds see starts) (Steps v s k p (v (Starting k)) w) over;
    }
    | inr more ↦
        let S : List Piece → Type 0 = λ pieces. Shows pieces in
        let first : Piece = piece Register (token_name (Starting k)) starts in
        let here : Shows (first ∷ part_pieces k p (has_token (Starting k))) =
        subst S (cond-false (is_over p) [] (first ∷ part_pieces k p (has_token (Starting k))) more) shows in
        let is : PartShows k p (has_token (Starting k)) = part more here.1 in
        let last : shows_bit see (ends_name k) ≡ ends_later v s k p = is.last ∙ sym (cond-false (is_over p) false (ends v s k p (v (Starting k))) more) in
        record {
          last = λ other. last;
          any = ap (λ b. any_true see (if b then [] else part_ends k ∷ [])) more ∙ or_false (shows_bit see (ends_name k)) ∙ last;
          steps = starts_with w k p (holds see starts) (Steps v s k p (v (Starting k)) w) more (here.0 ∙ and_true (holds see starts)) is.steps;
        }
  ]

  -- ---- plans in turn

  module _ (k : ℕ) (p : Plan) (ps : Plans) where
    first_over : (start : GuardTree PortName) → is_over p ≡ true → InTurnShows (k + size p) ps start → InTurnShows k (MorePlans p ps) start
    first_over start over is = record {
      last = λ more.
          let m : are_over ps ≡ false = others_more p ps over more in
          ap (λ n. shows_bit see (ends_name n)) (cond-false (are_over ps) k (last_part (k + size p) ps) m) ∙ is.last m
          ∙ sym (cond-true (is_over p) (ends_in_turn v s (k + size p) ps (holds see start))
          (if are_over ps then ends v s k p (holds see start) else the_last_ends v s (k + size p) ps) over);
      steps = at_true (is_over p) (StepInTurn v s (k + size p) ps (holds see start) w)
          (Steps v s k p (holds see start) w × OthersStep v s (k + size p) ps (ends v s k p (holds see start)) w) over is.steps;
    }

    first_on : (start : GuardTree PortName) → is_over p ≡ false → PartShows k p start → AfterShows (k + size p) ps (part_ends k) → InTurnShows k (MorePlans p ps) start
    first_on start more part after = record {
      last = λ lasts.
          let E : Bool = ends v s k p (holds see start) in
          let L : Bool = the_last_ends v s (k + size p) ps in
          let whole : (if are_over ps then E else L) ≡ ends_in_turn v s k (MorePlans p ps) (holds see start) =
          sym (cond-false (is_over p) (ends_in_turn v s (k + size p) ps (holds see start)) (if are_over ps then E else L) more) in
          elim (cases_Bool (are_over ps)) [
            | inl none ↦ ap (λ n. shows_bit see (ends_name n)) (cond-true (are_over ps) k (last_part (k + size p) ps) none) ∙ part.last
                ∙ sym (cond-true (are_over ps) E L none) ∙ whole
            | inr some ↦ ap (λ n. shows_bit see (ends_name n)) (cond-false (are_over ps) k (last_part (k + size p) ps) some) ∙ after.last some
                ∙ sym (cond-false (are_over ps) E L some) ∙ whole
          ];
      steps =
          let O : Bool → Type 0 = λ b. OthersStep v s (k + size p) ps b w in
          at_false (is_over p) (StepInTurn v s (k + size p) ps (holds see start) w)
          (Steps v s k p (holds see start) w × OthersStep v s (k + size p) ps (ends v s k p (holds see start)) w) more (part.steps, subst O part.last after.steps);
    }

    after_over : (starts : GuardTree PortName) → is_over p ≡ true → AfterShows (k + size p) ps starts → AfterShows k (MorePlans p ps) starts
    after_over starts over is = record {
      last = λ more.
          let m : are_over ps ≡ false = others_more p ps over more in
          ap (λ n. shows_bit see (ends_name n)) (cond-false (are_over ps) k (last_part (k + size p) ps) m) ∙ is.last m
          ∙ sym (cond-false (are_over ps) (ends_later v s k p) (the_last_ends v s (k + size p) ps) m);
      steps = at_true (is_over p) (OthersStep v s (k + size p) ps (holds see starts) w)
          (StepsLater v s k p (holds see starts) w × OthersStep v s (k + size p) ps (ends_later v s k p) w) over is.steps;
    }

    after_on : (starts : GuardTree PortName) → is_over p ≡ false → LaterShows k p starts → AfterShows (k + size p) ps (part_ends k) → AfterShows k (MorePlans p ps) starts
    after_on starts more later after = record {
      last = λ lasts. elim (cases_Bool (are_over ps)) [
        | inl none ↦ ap (λ n. shows_bit see (ends_name n)) (cond-true (are_over ps) k (last_part (k + size p) ps) none) ∙ later.last more
            ∙ sym (cond-true (are_over ps) (ends_later v s k p) (the_last_ends v s (k + size p) ps) none)
        | inr some ↦ ap (λ n. shows_bit see (ends_name n)) (cond-false (are_over ps) k (last_part (k + size p) ps) some) ∙ after.last some
            ∙ sym (cond-false (are_over ps) (ends_later v s k p) (the_last_ends v s (k + size p) ps) some)
      ];
      steps =
          let O : Bool → Type 0 = λ b. OthersStep v s (k + size p) ps b w in
          at_false (is_over p) (OthersStep v s (k + size p) ps (holds see starts) w)
          (StepsLater v s k p (holds see starts) w × OthersStep v s (k + size p) ps (ends_later v s k p) w) more (later.steps, subst O (later.last more) after.steps);
    }

    -- ---- plans at once

    abbrev all_ended : Bool → Bool
    all_ended b = all_true see ((if b then [] else either (part_ends k) (has_token (Ended k)) ∷ []) ++ ended_guards (k + size p) ps)

    abbrev all_by : Bool → Bool → Bool
    all_by start b = ((b || ends v s k p start) || v (Ended k)) && have_ended v s (k + size p) ps start

    one_over : (start all : GuardTree PortName) → is_over p ≡ true → AtOnceShows (k + size p) ps start all → AtOnceShows k (MorePlans p ps) start all
    one_over start all over is = record {
      last = ap all_ended over ∙ is.last ∙ sym (ap (all_by (holds see start)) over);
      steps = (
        at_true (is_over p) (Unit {0})
            (Steps v s k p (holds see start) w × (w (Ended k) ≡ ((ends v s k p (holds see start) || v (Ended k)) && not (holds see all)))) over tt,
        is.steps,
      );
    }

    one_on : (start all : GuardTree PortName) → is_over p ≡ false → PartShows k p start → shows_bit next (token_name (Ended k)) ≡ holds see (ended_guard k all)
        → AtOnceShows (k + size p) ps start all → AtOnceShows k (MorePlans p ps) start all
    one_on start all more part token is =
        let has : holds see (either (part_ends k) (has_token (Ended k))) ≡ (ends v s k p (holds see start) || v (Ended k)) =
        holds_either see (part_ends k) (has_token (Ended k)) ∙ ap (λ x. x || v (Ended k)) part.last in
        record {
          last = ap all_ended more
              ∙ and_same (holds see (either (part_ends k) (has_token (Ended k)))) (all_true see (ended_guards (k + size p) ps))
              (ends v s k p (holds see start) || v (Ended k)) (have_ended v s (k + size p) ps (holds see start)) has is.last
              ∙ sym (ap (all_by (holds see start)) more);
          steps = (
            at_false (is_over p) (Unit {0})
                (Steps v s k p (holds see start) w × (w (Ended k) ≡ ((ends v s k p (holds see start) || v (Ended k)) && not (holds see all)))) more
                (part.steps, token ∙ holds_both see (either (part_ends k) (has_token (Ended k))) (Negates all) ∙ ap (λ x. x && not (holds see all)) has),
            is.steps,
          );
        }

  in_turn_part : (k : ℕ) (ps : Plans) (start : GuardTree PortName) → are_over ps ≡ false → Shows (ends_wire k (InTurn ps) start ∷ []) → InTurnShows (k + 1) ps start → PartShows k (InTurn ps) start
  in_turn_part k ps start more shows is = record {
    last = shows.0 ∙ and_true (holds see (ends_guard k (InTurn ps) start)) ∙ is.last more;
    steps = is.steps;
  }

  at_once_part : (k : ℕ) (ps : Plans) (start : GuardTree PortName) → Shows (ends_wire k (AtOnce ps) start ∷ []) → AtOnceShows (k + 1) ps start (part_ends k) → PartShows k (AtOnce ps) start
  at_once_part k ps start shows is =
      let last : shows_bit see (ends_name k) ≡ have_ended v s (k + 1) ps (holds see start) =
      shows.0 ∙ and_true (holds see (ends_guard k (AtOnce ps) start)) ∙ holds_all_of see (ended_guards (k + 1) ps) ∙ is.last in
      let S : Bool → Type 0 = λ b. StepAtOnce v s (k + 1) ps (holds see start) b w in
      record { last = last; steps = subst S last is.steps }

  -- ---- a choice and a loop

  choice_part : (k : ℕ) (port : PortName) (by : Option Actor) (on off : Plan) (start : GuardTree PortName) → Shows (ends_wire k (Chooses port by on off) start ∷ [])
      → LaterShows (k + 1) on (both start (reads port)) → LaterShows (k + 1 + size on) off (both start (Negates (reads port))) → PartShows k (Chooses port by on off) start
  choice_part k port by on off start shows is_on is_off =
      let nothing : List (GuardTree PortName) = chooses_nothing start port (is_over on) (is_over off) in
      let one : List (GuardTree PortName) = none_if_over on (part_ends (k + 1) ∷ []) in
      let two : List (GuardTree PortName) = none_if_over off (part_ends (k + 1 + size on) ∷ []) in
      let alone : Bool = holds see start && (if see port == 1 then is_over on else is_over off) in
      let S : Bool → Type 0 = λ b. StepsLater v s (k + 1) on b w in
      let T : Bool → Type 0 = λ b. StepsLater v s (k + 1 + size on) off b w in
      record {
        last = shows.0 ∙ and_true (holds see (ends_guard k (Chooses port by on off) start)) ∙ holds_any_of see ((nothing ++ one) ++ two)
            ∙ any_true-append see (nothing ++ one) two
            ∙ or_same (any_true see (nothing ++ one)) (any_true see two) (alone || ends_later v s (k + 1) on) (ends_later v s (k + 1 + size on) off)
            (any_true-append see nothing one ∙ or_same (any_true see nothing) (any_true see one) alone (ends_later v s (k + 1) on)
            (any_nothing see start port (is_over on) (is_over off)) is_on.any) is_off.any;
        steps = (subst S (holds_both see start (reads port)) is_on.steps, subst T (holds_both see start (Negates (reads port))) is_off.steps);
      }

  loop_part : (k : ℕ) (port : PortName) (by : Option Actor) (body : Plan) (start : GuardTree PortName) → Shows (ends_wire k (Repeats port by body) start ∷ [])
      → shows_bit next (token_name (Again k)) ≡ holds see (again_guard k port body start)
      → LaterShows (k + 1) body (both (tested_guard k start) (reads port)) → PartShows k (Repeats port by body) start
  loop_part k port by body start shows token is =
      let tested : holds see (tested_guard k start) ≡ is_tested v k (holds see start) = holds_either see start (has_token (Again k)) in
      let turns : holds see (both (tested_guard k start) (reads port)) ≡ (is_tested v k (holds see start) && (see port == 1)) =
      holds_both see (tested_guard k start) (reads port) ∙ ap (λ x. x && (see port == 1)) tested in
      let S : Bool → Type 0 = λ b. StepsLater v s (k + 1) body b w in
      record {
        last = shows.0 ∙ and_true (holds see (ends_guard k (Repeats port by body) start)) ∙ holds_both see (tested_guard k start) (Negates (reads port))
            ∙ ap (λ x. x && not (see port == 1)) tested;
        steps = (subst S turns is.steps, token ∙ again turns);
      }
    where
      again : holds see (both (tested_guard k start) (reads port)) ≡ (is_tested v k (holds see start) && (see port == 1))
          → holds see (again_guard k port body start) ≡ (if is_over body then is_tested v k (holds see start) && (see port == 1) else ends_later v s (k + 1) body)
      again turns =
          let two : GuardTree PortName = both (tested_guard k start) (reads port) in
          elim (cases_Bool (is_over body)) [
            | inl over ↦ ap (λ g. holds see g) (cond-true (is_over body) two (part_ends (k + 1)) over) ∙ turns
                ∙ sym (cond-true (is_over body) (is_tested v k (holds see start) && (see port == 1)) (ends_later v s (k + 1) body) over)
            | inr more ↦ ap (λ g. holds see g) (cond-false (is_over body) two (part_ends (k + 1)) more) ∙ is.last more
                ∙ sym (cond-false (is_over body) (is_tested v k (holds see start) && (see port == 1)) (ends_later v s (k + 1) body) more)
          ]

  -- ---- the parts of a plan

  mutual
    part_shows : (k : ℕ) (p : Plan) (start : GuardTree PortName) → is_over p ≡ false → EachEnabled IsKnown p → Shows (part_pieces k p start) → PartShows k p start
    part_shows k (Enables actor) start more known shows = enable_shows k actor start known shows
    part_shows k (InTurn ps) start more known shows = in_turn_part k ps start more (shows.0, tt) (in_turn_shows (k + 1) ps start known shows.1)
    part_shows k (AtOnce ps) start more known shows = at_once_part k ps start (shows.0, tt) (at_once_shows (k + 1) ps start (part_ends k) known shows.1)
    part_shows k (Chooses port by on off) start more known shows =
        let left : List Piece = with_start (k + 1) on (both start (reads port)) (part_pieces (k + 1) on (has_token (Starting (k + 1)))) in
        let right : List Piece =
        with_start (k + 1 + size on) off (both start (Negates (reads port))) (part_pieces (k + 1 + size on) off (has_token (Starting (k + 1 + size on)))) in
        choice_part k port by on off start (shows.0, tt)
        (later_shows (k + 1) on (both start (reads port)) (λ lasts here. part_shows (k + 1) on (has_token (Starting (k + 1))) lasts known.0 here)
        (each_left (IsShown see next) left right shows.1))
        (later_shows (k + 1 + size on) off (both start (Negates (reads port)))
        (λ lasts here. part_shows (k + 1 + size on) off (has_token (Starting (k + 1 + size on))) lasts known.1 here)
        (each_right (IsShown see next) left right shows.1))
    part_shows k (Repeats port by body) start more known shows =
        loop_part k port by body start (shows.0, tt) (shows.1.0 ∙ and_true (holds see (again_guard k port body start)))
        (later_shows (k + 1) body (both (tested_guard k start) (reads port)) (λ lasts here. part_shows (k + 1) body (has_token (Starting (k + 1))) lasts known here) shows.1.1)

    in_turn_shows : (k : ℕ) (ps : Plans) (start : GuardTree PortName) → EachEnabledIn IsKnown ps → Shows (pieces_in_turn k ps start) → InTurnShows k ps start
    in_turn_shows k NoPlans start known shows = record { last = λ more. absurd (cc); steps = tt }
    in_turn_shows k (MorePlans p ps) start known shows =
        let S : List Piece → Type 0 = λ pieces. Shows pieces in
        let first : List Piece = part_pieces k p start in
        let rest : List Piece = pieces_after (k + size p) ps (part_ends k) in
        elim (cases_Bool (is_over p)) [
          | inl over ↦ first_over k p ps start over
              (in_turn_shows (k + size p) ps start known.1 (subst S (cond-true (is_over p) (pieces_in_turn (k + size p) ps start) (first ++ rest) over) shows))
          | inr more ↦
              let here : Shows (first ++ rest) = subst S (cond-false (is_over p) (pieces_in_turn (k + size p) ps start) (first ++ rest) more) shows in
              first_on k p ps start more (part_shows k p start more known.0 (each_left (IsShown see next) first rest here))
              (after_shows (k + size p) ps (part_ends k) known.1 (each_right (IsShown see next) first rest here))
        ]

    after_shows : (k : ℕ) (ps : Plans) (starts : GuardTree PortName) → EachEnabledIn IsKnown ps → Shows (pieces_after k ps starts) → AfterShows k ps starts
    after_shows k NoPlans starts known shows = record { last = λ more. absurd (cc); steps = tt }
    after_shows k (MorePlans p ps) starts known shows =
        let S : List Piece → Type 0 = λ pieces. Shows pieces in
        let first : List Piece = with_start k p starts (part_pieces k p (has_token (Starting k))) in
        let rest : List Piece = pieces_after (k + size p) ps (part_ends k) in
        elim (cases_Bool (is_over p)) [
          | inl over ↦ after_over k p ps starts over
              (after_shows (k + size p) ps starts known.1 (subst S (cond-true (is_over p) (pieces_after (k + size p) ps starts) (first ++ rest) over) shows))
          | inr more ↦
              let here : Shows (first ++ rest) = subst S (cond-false (is_over p) (pieces_after (k + size p) ps starts) (first ++ rest) more) shows in
              after_on k p ps starts more
              (later_shows k p starts (λ lasts there. part_shows k p (has_token (Starting k)) lasts known.0 there) (each_left (IsShown see next) first rest here))
              (after_shows (k + size p) ps (part_ends k) known.1 (each_right (IsShown see next) first rest here))
        ]

    at_once_shows : (k : ℕ) (ps : Plans) (start all : GuardTree PortName) → EachEnabledIn IsKnown ps → Shows (pieces_at_once k ps start all) → AtOnceShows k ps start all
    at_once_shows k NoPlans start all known shows = record { last = refl; steps = tt }
    at_once_shows k (MorePlans p ps) start all known shows =
        let S : List Piece → Type 0 = λ pieces. Shows pieces in
        let token : Piece = piece Register (token_name (Ended k)) (ended_guard k all) in
        let first : List Piece = none_if_over p (token ∷ part_pieces k p start) in
        let rest : List Piece = pieces_at_once (k + size p) ps start all in
        let others_show : AtOnceShows (k + size p) ps start all = at_once_shows (k + size p) ps start all known.1 (each_right (IsShown see next) first rest shows) in
        elim (cases_Bool (is_over p)) [
          | inl over ↦ one_over k p ps start all over others_show
          | inr more ↦
              let here : Shows (token ∷ part_pieces k p start) =
              subst S (cond-false (is_over p) [] (token ∷ part_pieces k p start) more) (each_left (IsShown see next) first rest shows) in
              one_on k p ps start all more (part_shows k p start more known.0 here.1) (here.0 ∙ and_true (holds see (ended_guard k all))) others_show
        ]

  -- the whole plan, which starts where control does
  pub plan_ends : (p : Plan) (start : GuardTree PortName) → is_over p ≡ false → EachEnabled IsKnown p → Shows (part_pieces 0 p start)
      → shows_bit see (ends_name 0) ≡ ends v s 0 p (holds see start)
  plan_ends p start more known shows = (part_shows 0 p start more known shows).last

  pub plan_steps : (p : Plan) (start : GuardTree PortName) → is_over p ≡ false → EachEnabled IsKnown p → Shows (part_pieces 0 p start) → Steps v s 0 p (holds see start) w
  plan_steps p start more known shows = (part_shows 0 p start more known shows).steps
