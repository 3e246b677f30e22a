-- How far a plan has come, by its tokens: none of them where it isn't on, and else what is left of it. This project's.
use Rattle.std.specs.Prelude.{◌≡◌, ℕ, ◌+◌, true, false, MatchBool, Option}
use Rattle.cal_ast.specs.Actors.{Actor}
use Rattle.cal_ast.specs.Plan.{Plan, Enables, InTurn, AtOnce, Chooses, Repeats, Plans, NoPlans, MorePlans}
use Rattle.cal_ast.specs.Tree.{PortName}
use Rattle.cal_walk.specs.Left.{is_over, are_over, before_others}
use Rattle.cal_token.specs.inside.Tokens.{Tokens, Going, Starting, Ended, Again, size, WithStart}

-- no token of the plan with number k is there
abbrev mutual
  pub IsOff : Tokens → ℕ → Plan → Type 0
  IsOff v k (Enables actor) = v (Going k) ≡ false
  IsOff v k (InTurn ps) = FirstIsOff v (k + 1) ps
  IsOff v k (AtOnce ps) = AllAreOff v (k + 1) ps
  IsOff v k (Chooses port by on off) =
      WithStart v (k + 1) on false (IsOff v (k + 1) on) × WithStart v (k + 1 + size on) off false (IsOff v (k + 1 + size on) off)
  IsOff v k (Repeats port by body) = (v (Again k) ≡ false) × WithStart v (k + 1) body false (IsOff v (k + 1) body)

  -- of plans in turn the first that takes a row has no token with which it starts
  pub FirstIsOff : Tokens → ℕ → Plans → Type 0
  FirstIsOff v k NoPlans = Unit {0}
  FirstIsOff v k (MorePlans p ps) = MatchBool (is_over p) (FirstIsOff v (k + size p) ps) (IsOff v k p × OthersAreOff v (k + size p) ps)

  pub OthersAreOff : Tokens → ℕ → Plans → Type 0
  OthersAreOff v k NoPlans = Unit {0}
  OthersAreOff v k (MorePlans p ps) = WithStart v k p false (IsOff v k p) × OthersAreOff v (k + size p) ps

  -- of plans at once
  pub AllAreOff : Tokens → ℕ → Plans → Type 0
  AllAreOff v k NoPlans = Unit {0}
  AllAreOff v k (MorePlans p ps) = MatchBool (is_over p) (Unit {0}) (IsOff v k p × (v (Ended k) ≡ false)) × AllAreOff v (k + size p) ps

-- of a part that starts by its own token
abbrev pub IsLaterOff : Tokens → ℕ → Plan → Type 0
IsLaterOff v k p = WithStart v k p false (IsOff v k p)

-- before a row in which the plan with number k doesn't start, this is left of it
mutual
  pub data Leaves (v : Tokens) : ℕ → Plan → Plan → Type 0 where
    GoesOn : (k : ℕ) (actor : Actor) → v (Going k) ≡ true → Leaves v k (Enables actor) (Enables actor)
    InOrder : (k : ℕ) (ps : Plans) (rest : Plan) → LeavesInTurn v (k + 1) ps rest → Leaves v k (InTurn ps) rest
    -- they haven't all ended
    Together : (k : ℕ) (ps rests : Plans) → are_over rests ≡ false → LeaveAtOnce v (k + 1) ps rests → Leaves v k (AtOnce ps) (AtOnce rests)
    OnBranch : (k : ℕ) (port : PortName) (by : Option Actor) (on off rest : Plan) → LeavesLater v (k + 1) on rest → IsLaterOff v (k + 1 + size on) off →
        Leaves v k (Chooses port by on off) rest
    OffBranch : (k : ℕ) (port : PortName) (by : Option Actor) (on off rest : Plan) → IsLaterOff v (k + 1) on →
        LeavesLater v (k + 1 + size on) off rest → Leaves v k (Chooses port by on off) rest
    -- in a turn of the loop
    InBody : (k : ℕ) (port : PortName) (by : Option Actor) (body rest : Plan) → v (Again k) ≡ false → LeavesLater v (k + 1) body rest →
        Leaves v k (Repeats port by body) (InTurn (MorePlans rest (MorePlans (Repeats port by body) NoPlans)))
    -- a turn has ended, or takes no row
    AtTest : (k : ℕ) (port : PortName) (by : Option Actor) (body ended : Plan) → v (Again k) ≡ true → IsLaterOff v (k + 1) body →
        is_over ended ≡ true →
        Leaves v k (Repeats port by body) (InTurn (MorePlans ended (MorePlans (Repeats port by body) NoPlans)))

  -- a part that starts by its own token: it starts in the row, or is on
  pub data LeavesLater (v : Tokens) : ℕ → Plan → Plan → Type 0 where
    IsStarting : (k : ℕ) (p : Plan) → is_over p ≡ false → v (Starting k) ≡ true → IsOff v k p → LeavesLater v k p p
    IsOn : (k : ℕ) (p rest : Plan) → is_over p ≡ false → v (Starting k) ≡ false → Leaves v k p rest → LeavesLater v k p rest

  pub data LeavesInTurn (v : Tokens) : ℕ → Plans → Plan → Type 0 where
    PastOne : (k : ℕ) (p : Plan) (ps : Plans) (rest : Plan) → is_over p ≡ true → LeavesInTurn v (k + size p) ps rest →
        LeavesInTurn v k (MorePlans p ps) rest
    -- the first that takes a row is on
    InFirst : (k : ℕ) (p : Plan) (ps : Plans) (rest : Plan) → is_over p ≡ false → Leaves v k p rest → OthersAreOff v (k + size p) ps →
        LeavesInTurn v k (MorePlans p ps) (before_others rest ps)
    -- it has ended, and a later one is on
    InOthers : (k : ℕ) (p : Plan) (ps : Plans) (rest : Plan) → is_over p ≡ false → IsOff v k p → LeaveOthers v (k + size p) ps rest →
        LeavesInTurn v k (MorePlans p ps) rest

  -- plans that start by their own tokens, one of which is on
  pub data LeaveOthers (v : Tokens) : ℕ → Plans → Plan → Type 0 where
    Here : (k : ℕ) (p : Plan) (ps : Plans) (rest : Plan) → LeavesLater v k p rest → OthersAreOff v (k + size p) ps →
        LeaveOthers v k (MorePlans p ps) (before_others rest ps)
    -- it starts in the row, and what was before it has ended
    AfterEnded : (k : ℕ) (ps : Plans) (ended : Plan) → is_over ended ≡ true → FirstStarts v k ps → LeaveOthers v k ps (before_others ended ps)
    Later : (k : ℕ) (p : Plan) (ps : Plans) (rest : Plan) → IsLaterOff v k p → LeaveOthers v (k + size p) ps rest →
        LeaveOthers v k (MorePlans p ps) rest

  -- the first that takes a row starts in the row by its token
  pub data FirstStarts (v : Tokens) : ℕ → Plans → Type 0 where
    Over : (k : ℕ) (p : Plan) (ps : Plans) → is_over p ≡ true → FirstStarts v (k + size p) ps → FirstStarts v k (MorePlans p ps)
    ByToken : (k : ℕ) (p : Plan) (ps : Plans) → is_over p ≡ false → v (Starting k) ≡ true → IsOff v k p → OthersAreOff v (k + size p) ps →
        FirstStarts v k (MorePlans p ps)

  -- plans at once: each is on, or has ended
  pub data LeaveAtOnce (v : Tokens) : ℕ → Plans → Plans → Type 0 where
    NoneLeft : (k : ℕ) → LeaveAtOnce v k NoPlans NoPlans
    -- it takes no row, now or from the start on
    OneOver : (k : ℕ) (p ended : Plan) (ps rests : Plans) → is_over p ≡ true → is_over ended ≡ true → LeaveAtOnce v (k + size p) ps rests →
        LeaveAtOnce v k (MorePlans p ps) (MorePlans ended rests)
    OneEnded : (k : ℕ) (p ended : Plan) (ps rests : Plans) → is_over p ≡ false → v (Ended k) ≡ true → IsOff v k p → is_over ended ≡ true →
        LeaveAtOnce v (k + size p) ps rests → LeaveAtOnce v k (MorePlans p ps) (MorePlans ended rests)
    OneOn : (k : ℕ) (p rest : Plan) (ps rests : Plans) → is_over p ≡ false → v (Ended k) ≡ false → Leaves v k p rest →
        LeaveAtOnce v (k + size p) ps rests → LeaveAtOnce v k (MorePlans p ps) (MorePlans rest rests)
