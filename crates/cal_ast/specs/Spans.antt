-- Which rows a plan takes, and which actors act in them, read over a whole run. Calyx, ASPLOS 2021; the rows that each kind of statement takes are
-- this project's.
use Rattle.std.specs.Prelude.{◌≡◌, ◌⊎◌, ℕ, ◌+◌, ◌<◌, ◌≤◌, max, Bool, true, false, Option, Some}
use Rattle.cal_ast.specs.Actors.{Actor}
use Rattle.cal_ast.specs.Plan.{Plan, Enables, InTurn, AtOnce, Chooses, Repeats, Plans, NoPlans, MorePlans}
use Rattle.cal_ast.specs.Tree.{PortName}

-- what control reads of a run
pub record View : Type 0 where
  -- the done of an actor reads 1 in a row
  pub done : Actor → ℕ → Bool
  -- the port of a condition reads 1 in a row
  pub reads : PortName → ℕ → Bool
  -- how many rows there are
  pub rows : ℕ

-- u is the first row from t on in which the signal is true
pub record IsFirst (signal : ℕ → Bool) (rows t u : ℕ) : Type 0 where
  pub from : t ≤ u
  pub within : u < rows
  pub is_true : signal u ≡ true
  pub none_before : (r : ℕ) → t ≤ r → r < u → signal r ≡ false

-- the rows in which a loop that starts in row t is tested: row t, and after each test that reads 1 the row that follows its turn of the body
pub data IsTested (v : View) (port : PortName) (body : ℕ → ℕ → Type 0) (t : ℕ) : ℕ → Type 0 where
  AtStart : IsTested v port body t t
  AfterTurn : (r next : ℕ) → IsTested v port body t r → r < v.rows → v.reads port r ≡ true → body (r + 1) next → IsTested v port body t next

-- the plan that starts in row t has `end` as the row after its last one; where it needs a row that isn't there, it has no end
abbrev mutual
  pub Spans : View → Plan → ℕ → ℕ → Type 0
  Spans v (Enables a) t end = (u : ℕ) × IsFirst (v.done a) v.rows t u × (end ≡ u + 1)
  Spans v (InTurn ps) t end = SpansInTurn v ps t end
  Spans v (AtOnce ps) t end = SpansAtOnce v ps t end
  Spans v (Chooses port by on off) t end =
      ((t < v.rows) × (v.reads port t ≡ true) × Spans v on (t + 1) end) ⊎ ((t < v.rows) × (v.reads port t ≡ false) × Spans v off (t + 1) end)
  Spans v (Repeats port by body) t end =
      (r : ℕ) × IsTested v port (Spans v body) t r × (r < v.rows) × (v.reads port r ≡ false) × (end ≡ r + 1)

  pub SpansInTurn : View → Plans → ℕ → ℕ → Type 0
  SpansInTurn v NoPlans t end = end ≡ t
  SpansInTurn v (MorePlans p ps) t end = (next : ℕ) × Spans v p t next × SpansInTurn v ps next end

  pub SpansAtOnce : View → Plans → ℕ → ℕ → Type 0
  SpansAtOnce v NoPlans t end = end ≡ t
  SpansAtOnce v (MorePlans p ps) t end = (a b : ℕ) × Spans v p t a × SpansAtOnce v ps t b × (end ≡ max a b)

-- the actor of a condition acts in the row of the test
pub record ActsInTest (v : View) (by : Option Actor) (test : ℕ) (actor : Actor) (r : ℕ) : Type 0 where
  pub is : by ≡ Some actor
  pub here : r ≡ test
  pub within : r < v.rows

-- an enabled actor acts from row t on in each row up to the one before it is done, or up to the last row
pub record ActsEnabled (v : View) (enabled : Actor) (t : ℕ) (actor : Actor) (r : ℕ) : Type 0 where
  pub is : enabled ≡ actor
  pub from : t ≤ r
  pub within : r < v.rows
  pub not_done : (s : ℕ) → t ≤ s → s ≤ r → v.done actor s ≡ false

-- in the plan that starts in row t the actor acts in row r
abbrev mutual
  pub Acts : View → Plan → ℕ → Actor → ℕ → Type 0
  Acts v (Enables a) t actor r = ActsEnabled v a t actor r
  Acts v (InTurn ps) t actor r = ActsInTurn v ps t actor r
  Acts v (AtOnce ps) t actor r = ActsAtOnce v ps t actor r
  Acts v (Chooses port by on off) t actor r =
      ActsInTest v by t actor r
      ⊎ ((t < v.rows) × (v.reads port t ≡ true) × Acts v on (t + 1) actor r)
      ⊎ ((t < v.rows) × (v.reads port t ≡ false) × Acts v off (t + 1) actor r)
  Acts v (Repeats port by body) t actor r =
      (s : ℕ) × IsTested v port (Spans v body) t s
      × (ActsInTest v by s actor r ⊎ ((s < v.rows) × (v.reads port s ≡ true) × Acts v body (s + 1) actor r))

  pub ActsInTurn : View → Plans → ℕ → Actor → ℕ → Type 0
  ActsInTurn v NoPlans t actor r = ⊥
  ActsInTurn v (MorePlans p ps) t actor r = Acts v p t actor r ⊎ ((next : ℕ) × Spans v p t next × ActsInTurn v ps next actor r)

  pub ActsAtOnce : View → Plans → ℕ → Actor → ℕ → Type 0
  ActsAtOnce v NoPlans t actor r = ⊥
  ActsAtOnce v (MorePlans p ps) t actor r = Acts v p t actor r ⊎ ActsAtOnce v ps t actor r
