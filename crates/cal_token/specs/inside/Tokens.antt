-- The tokens of a plan: one-bit registers that say how far it has come, what acts in a row, and what they are in the next one. Calyx, ASPLOS 2021, has
-- state registers; that each place of a plan has its own bit is this project's.
--
-- The parts of a plan are numbered: the plan itself k, and then those inside it, in their order. A part that takes no row has no tokens.
use Rattle.std.specs.Prelude.{◌≡◌, ℕ, ◌+◌, Bool, true, false, not, ◌&&◌, ◌||◌, if◌then◌else◌, MatchBool}
use Rattle.cal_ast.specs.Actors.{Actor, same_actor}
use Rattle.cal_ast.specs.Plan.{Plan, Enables, InTurn, AtOnce, Chooses, Repeats, Plans, NoPlans, MorePlans}
use Rattle.cal_walk.specs.Left.{Sight, is_over, are_over, is_by}

pub data Token : Type 0 where
  -- the actor that this part enables has acted in the row before, and goes on
  Going : ℕ → Token
  -- this part starts in the row, since the part before it, or a test, took the row before
  Starting : ℕ → Token
  -- this part, one of several at once, has ended, and others go on
  Ended : ℕ → Token
  -- this loop is tested again in the row
  Again : ℕ → Token

-- the values of tokens in a row
abbrev pub Tokens : Type 0
Tokens = Token → Bool

-- how many numbers the parts of a plan take
abbrev mutual
  pub size : Plan → ℕ
  size (Enables actor) = 1
  size (InTurn ps) = sizes ps + 1
  size (AtOnce ps) = sizes ps + 1
  size (Chooses port by on off) = size on + size off + 1
  size (Repeats port by body) = size body + 1

  pub sizes : Plans → ℕ
  sizes NoPlans = 0
  sizes (MorePlans p ps) = size p + sizes ps

-- of a part that takes no row, no
abbrev pub unless_over : Plan → Bool → Bool
unless_over p answer = if is_over p then false else answer

-- unless the part takes no row, the token with which it starts is this, and its other tokens are so
abbrev pub WithStart : Tokens → ℕ → Plan → (start : Bool) → (others : Type 0) → Type 0
WithStart v k p start others = MatchBool (is_over p) (Unit {0}) ((v (Starting k) ≡ start) × others)

-- the loop with this number is tested in the row
abbrev pub is_tested : Tokens → ℕ → (start : Bool) → Bool
is_tested v k start = start || v (Again k)

-- ---- what ends

-- the row is the last one of the plan with number k, which starts in it where `start` says so
abbrev mutual
  pub ends : Tokens → Sight → ℕ → Plan → (start : Bool) → Bool
  ends v s k (Enables actor) start = (start || v (Going k)) && s.done actor
  ends v s k (InTurn ps) start = ends_in_turn v s (k + 1) ps start
  ends v s k (AtOnce ps) start = have_ended v s (k + 1) ps start
  ends v s k (Chooses port by on off) start =
      (start && (if s.reads port then is_over on else is_over off)) || unless_over on (ends v s (k + 1) on (v (Starting (k + 1))))
      || unless_over off (ends v s (k + 1 + size on) off (v (Starting (k + 1 + size on))))
  ends v s k (Repeats port by body) start = is_tested v k start && not (s.reads port)

  -- of plans in turn, the first that takes a row starts where `start` says so, the others by their tokens
  pub ends_in_turn : Tokens → Sight → ℕ → Plans → (start : Bool) → Bool
  ends_in_turn v s k NoPlans start = false
  ends_in_turn v s k (MorePlans p ps) start =
      if is_over p then ends_in_turn v s (k + size p) ps start
      else (if are_over ps then ends v s k p start else the_last_ends v s (k + size p) ps)

  pub the_last_ends : Tokens → Sight → ℕ → Plans → Bool
  the_last_ends v s k NoPlans = false
  the_last_ends v s k (MorePlans p ps) = if are_over ps then unless_over p (ends v s k p (v (Starting k))) else the_last_ends v s (k + size p) ps

  -- each of several plans at once ends in the row, or has ended, or takes no row
  pub have_ended : Tokens → Sight → ℕ → Plans → (start : Bool) → Bool
  have_ended v s k NoPlans start = true
  have_ended v s k (MorePlans p ps) start = (is_over p || ends v s k p start || v (Ended k)) && have_ended v s (k + size p) ps start

-- the row is the last one of a part that starts by its own token
abbrev pub ends_later : Tokens → Sight → ℕ → Plan → Bool
ends_later v s k p = unless_over p (ends v s k p (v (Starting k)))

-- ---- what acts

-- the actor is enabled in the row
abbrev mutual
  pub enables_by : Tokens → ℕ → Plan → (start : Bool) → Actor → Bool
  enables_by v k (Enables other) start actor = (start || v (Going k)) && same_actor other actor
  enables_by v k (InTurn ps) start actor = enables_by_in_turn v (k + 1) ps start actor
  enables_by v k (AtOnce ps) start actor = enables_by_at_once v (k + 1) ps start actor
  enables_by v k (Chooses port by on off) start actor =
      unless_over on (enables_by v (k + 1) on (v (Starting (k + 1))) actor)
      || unless_over off (enables_by v (k + 1 + size on) off (v (Starting (k + 1 + size on))) actor)
  enables_by v k (Repeats port by body) start actor = unless_over body (enables_by v (k + 1) body (v (Starting (k + 1))) actor)

  pub enables_by_in_turn : Tokens → ℕ → Plans → (start : Bool) → Actor → Bool
  enables_by_in_turn v k NoPlans start actor = false
  enables_by_in_turn v k (MorePlans p ps) start actor =
      if is_over p then enables_by_in_turn v (k + size p) ps start actor
      else enables_by v k p start actor || others_enable v (k + size p) ps actor

  pub others_enable : Tokens → ℕ → Plans → Actor → Bool
  others_enable v k NoPlans actor = false
  others_enable v k (MorePlans p ps) actor = unless_over p (enables_by v k p (v (Starting k)) actor) || others_enable v (k + size p) ps actor

  pub enables_by_at_once : Tokens → ℕ → Plans → (start : Bool) → Actor → Bool
  enables_by_at_once v k NoPlans start actor = false
  enables_by_at_once v k (MorePlans p ps) start actor =
      unless_over p (enables_by v k p start actor) || enables_by_at_once v (k + size p) ps start actor

-- it is so by a part that starts by its own token
abbrev pub enables_later : Tokens → ℕ → Plan → Actor → Bool
enables_later v k p actor = unless_over p (enables_by v k p (v (Starting k)) actor)

-- the row is one of a test in which the actor acts
abbrev mutual
  pub tests_by : Tokens → ℕ → Plan → (start : Bool) → Actor → Bool
  tests_by v k (Enables other) start actor = false
  tests_by v k (InTurn ps) start actor = tests_by_in_turn v (k + 1) ps start actor
  tests_by v k (AtOnce ps) start actor = tests_by_at_once v (k + 1) ps start actor
  tests_by v k (Chooses port by on off) start actor =
      (start && is_by by actor) || unless_over on (tests_by v (k + 1) on (v (Starting (k + 1))) actor)
      || unless_over off (tests_by v (k + 1 + size on) off (v (Starting (k + 1 + size on))) actor)
  tests_by v k (Repeats port by body) start actor =
      (is_tested v k start && is_by by actor) || unless_over body (tests_by v (k + 1) body (v (Starting (k + 1))) actor)

  pub tests_by_in_turn : Tokens → ℕ → Plans → (start : Bool) → Actor → Bool
  tests_by_in_turn v k NoPlans start actor = false
  tests_by_in_turn v k (MorePlans p ps) start actor =
      if is_over p then tests_by_in_turn v (k + size p) ps start actor else tests_by v k p start actor || others_test v (k + size p) ps actor

  pub others_test : Tokens → ℕ → Plans → Actor → Bool
  others_test v k NoPlans actor = false
  others_test v k (MorePlans p ps) actor = unless_over p (tests_by v k p (v (Starting k)) actor) || others_test v (k + size p) ps actor

  pub tests_by_at_once : Tokens → ℕ → Plans → (start : Bool) → Actor → Bool
  tests_by_at_once v k NoPlans start actor = false
  tests_by_at_once v k (MorePlans p ps) start actor =
      unless_over p (tests_by v k p start actor) || tests_by_at_once v (k + size p) ps start actor

-- it is so by a part that starts by its own token
abbrev pub tests_later : Tokens → ℕ → Plan → Actor → Bool
tests_later v k p actor = unless_over p (tests_by v k p (v (Starting k)) actor)

-- ---- what comes next

-- w are the tokens in the row after one in which the tokens are v and this was seen
abbrev mutual
  pub Steps : Tokens → Sight → ℕ → Plan → (start : Bool) → Tokens → Type 0
  Steps v s k (Enables actor) start w = w (Going k) ≡ ((start || v (Going k)) && not (s.done actor))
  Steps v s k (InTurn ps) start w = StepInTurn v s (k + 1) ps start w
  Steps v s k (AtOnce ps) start w = StepAtOnce v s (k + 1) ps start (have_ended v s (k + 1) ps start) w
  Steps v s k (Chooses port by on off) start w =
      WithStart w (k + 1) on (start && s.reads port) (Steps v s (k + 1) on (v (Starting (k + 1))) w)
      × WithStart w (k + 1 + size on) off (start && not (s.reads port)) (Steps v s (k + 1 + size on) off (v (Starting (k + 1 + size on))) w)
  Steps v s k (Repeats port by body) start w =
      WithStart w (k + 1) body (is_tested v k start && s.reads port) (Steps v s (k + 1) body (v (Starting (k + 1))) w)
      × (w (Again k) ≡ (if is_over body then is_tested v k start && s.reads port else ends_later v s (k + 1) body))

  pub StepInTurn : Tokens → Sight → ℕ → Plans → (start : Bool) → Tokens → Type 0
  StepInTurn v s k NoPlans start w = Unit {0}
  StepInTurn v s k (MorePlans p ps) start w =
      MatchBool (is_over p)
      (StepInTurn v s (k + size p) ps start w)
      (Steps v s k p start w × OthersStep v s (k + size p) ps (ends v s k p start) w)

  -- plans of which the first that takes a row starts in the next row where `next` says so
  pub OthersStep : Tokens → Sight → ℕ → Plans → (next : Bool) → Tokens → Type 0
  OthersStep v s k NoPlans next w = Unit {0}
  OthersStep v s k (MorePlans p ps) next w =
      MatchBool (is_over p)
      (OthersStep v s (k + size p) ps next w)
      (WithStart w k p next (Steps v s k p (v (Starting k)) w) × OthersStep v s (k + size p) ps (ends_later v s k p) w)

  -- plans at once, which all end in the row where `all` says so
  pub StepAtOnce : Tokens → Sight → ℕ → Plans → (start all : Bool) → Tokens → Type 0
  StepAtOnce v s k NoPlans start all w = Unit {0}
  StepAtOnce v s k (MorePlans p ps) start all w =
      MatchBool (is_over p) (Unit {0}) (Steps v s k p start w × (w (Ended k) ≡ ((ends v s k p start || v (Ended k)) && not all)))
      × StepAtOnce v s (k + size p) ps start all w

-- a part that starts in the next row where `next` says so
abbrev pub StepsLater : Tokens → Sight → ℕ → Plan → (next : Bool) → Tokens → Type 0
StepsLater v s k p next w = WithStart w k p next (Steps v s k p (v (Starting k)) w)
