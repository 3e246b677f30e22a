-- The tokens of a plan as registers, part by part, and a wire for each part that says where it ends. What they mean is said by `ends` and `Steps` of
-- cal_token. This project's.
use Rattle.std.specs.Prelude.{ℕ, ◌+◌, Bool, true, false, List, [], ◌∷◌, ◌++◌, if◌then◌else◌}
use Rattle.net_core.specs.Guard.{GuardTree, Negates}
use Rattle.cal_ast.specs.Actors.{Actor, same_actor}
use Rattle.cal_ast.specs.Plan.{Plan, Enables, InTurn, AtOnce, Chooses, Repeats, Plans, NoPlans, MorePlans}
use Rattle.cal_ast.specs.Tree.{PortName}
use Rattle.cal_walk.specs.Left.{is_over, are_over, is_by}
use Rattle.cal_token.specs.inside.Tokens.{Going, Starting, Ended, Again, size}
use Rattle.cal_lower.specs.inside.Pieces.{Piece, Wire, Register, piece, token_name, ends_name, is_set, has_token, reads, either, both, any_of, all_of, is_done}

-- of a part that takes no row, none
abbrev pub none_if_over : {X : Type 0} → Plan → List X → List X
none_if_over p xs = if is_over p then [] else xs

-- the part with this number ends in the row
abbrev pub part_ends : ℕ → GuardTree PortName
part_ends k = is_set (ends_name k)

-- the loop with this number is tested in the row
abbrev pub tested_guard : ℕ → (start : GuardTree PortName) → GuardTree PortName
tested_guard k start = either start (has_token (Again k))

-- ---- where a part ends

-- the choice starts in the row, and the branch that it takes has no row
abbrev pub chooses_nothing : (start : GuardTree PortName) → PortName → (on_over off_over : Bool) → List (GuardTree PortName)
chooses_nothing start port true true = start ∷ []
chooses_nothing start port true false = both start (reads port) ∷ []
chooses_nothing start port false true = both start (Negates (reads port)) ∷ []
chooses_nothing start port false false = []

-- the number of the last part of these that takes a row; one does
abbrev pub last_part : ℕ → Plans → ℕ
last_part k NoPlans = k
last_part k (MorePlans p ps) = if are_over ps then k else last_part (k + size p) ps

-- each of them ends in the row, or has ended
abbrev pub ended_guards : ℕ → Plans → List (GuardTree PortName)
ended_guards k NoPlans = []
ended_guards k (MorePlans p ps) = none_if_over p (either (part_ends k) (has_token (Ended k)) ∷ []) ++ ended_guards (k + size p) ps

-- the row is the last one of the part with number k, which starts where the guard `start` is true
abbrev pub ends_guard : ℕ → Plan → (start : GuardTree PortName) → GuardTree PortName
ends_guard k (Enables actor) start = both (either start (has_token (Going k))) (is_done actor)
ends_guard k (InTurn ps) start = part_ends (last_part (k + 1) ps)
ends_guard k (AtOnce ps) start = all_of (ended_guards (k + 1) ps)
ends_guard k (Chooses port by on off) start =
    any_of (chooses_nothing start port (is_over on) (is_over off) ++ none_if_over on (part_ends (k + 1) ∷ [])
    ++ none_if_over off (part_ends (k + 1 + size on) ∷ []))
ends_guard k (Repeats port by body) start = both (tested_guard k start) (Negates (reads port))

-- ---- the registers of a part

abbrev pub ends_wire : ℕ → Plan → (start : GuardTree PortName) → Piece
ends_wire k p start = piece Wire (ends_name k) (ends_guard k p start)

-- a part that starts by its own token, in the row after one in which `next` is true, and its other pieces
abbrev pub with_start : ℕ → Plan → (next : GuardTree PortName) → List Piece → List Piece
with_start k p next pieces = none_if_over p (piece Register (token_name (Starting k)) next ∷ pieces)

-- a loop is tested in the row after one in which this is true
abbrev pub again_guard : ℕ → PortName → (body : Plan) → (start : GuardTree PortName) → GuardTree PortName
again_guard k port body start = if is_over body then both (tested_guard k start) (reads port) else part_ends (k + 1)

-- a part of several at once has ended, and others go on, in the row after one in which this is true
abbrev pub ended_guard : ℕ → (all : GuardTree PortName) → GuardTree PortName
ended_guard k all = both (either (part_ends k) (has_token (Ended k))) (Negates all)

-- the pieces of the part with number k, which takes a row and starts where the guard `start` is true
abbrev mutual
  pub part_pieces : ℕ → Plan → (start : GuardTree PortName) → List Piece
  part_pieces k (Enables actor) start =
      ends_wire k (Enables actor) start ∷
      piece Register (token_name (Going k)) (both (either start (has_token (Going k))) (Negates (is_done actor))) ∷ []
  part_pieces k (InTurn ps) start = ends_wire k (InTurn ps) start ∷ pieces_in_turn (k + 1) ps start
  part_pieces k (AtOnce ps) start = ends_wire k (AtOnce ps) start ∷ pieces_at_once (k + 1) ps start (part_ends k)
  part_pieces k (Chooses port by on off) start =
      ends_wire k (Chooses port by on off) start ∷
      with_start (k + 1) on (both start (reads port)) (part_pieces (k + 1) on (has_token (Starting (k + 1))))
      ++ with_start (k + 1 + size on) off (both start (Negates (reads port))) (part_pieces (k + 1 + size on) off (has_token (Starting (k + 1 + size on))))
  part_pieces k (Repeats port by body) start =
      ends_wire k (Repeats port by body) start ∷ piece Register (token_name (Again k)) (again_guard k port body start) ∷
      with_start (k + 1) body (both (tested_guard k start) (reads port)) (part_pieces (k + 1) body (has_token (Starting (k + 1))))

  -- of plans in turn, the first that takes a row starts where `start` is true, each other one after the one before it
  pub pieces_in_turn : ℕ → Plans → (start : GuardTree PortName) → List Piece
  pieces_in_turn k NoPlans start = []
  pieces_in_turn k (MorePlans p ps) start =
      if is_over p then pieces_in_turn (k + size p) ps start else part_pieces k p start ++ pieces_after (k + size p) ps (part_ends k)

  pub pieces_after : ℕ → Plans → (next : GuardTree PortName) → List Piece
  pieces_after k NoPlans next = []
  pieces_after k (MorePlans p ps) next =
      if is_over p then pieces_after (k + size p) ps next
      else with_start k p next (part_pieces k p (has_token (Starting k))) ++ pieces_after (k + size p) ps (part_ends k)

  -- plans at once, which all start where `start` is true and have all ended where `all` is
  pub pieces_at_once : ℕ → Plans → (start all : GuardTree PortName) → List Piece
  pieces_at_once k NoPlans start all = []
  pieces_at_once k (MorePlans p ps) start all =
      none_if_over p (piece Register (token_name (Ended k)) (ended_guard k all) ∷ part_pieces k p start) ++ pieces_at_once (k + size p) ps start all

-- ---- the rows in which an actor is enabled, and those of tests in which it acts

abbrev mutual
  pub enabling : ℕ → Plan → (start : GuardTree PortName) → Actor → List (GuardTree PortName)
  enabling k (Enables other) start actor = if same_actor other actor then either start (has_token (Going k)) ∷ [] else []
  enabling k (InTurn ps) start actor = enabling_in_turn (k + 1) ps start actor
  enabling k (AtOnce ps) start actor = enabling_at_once (k + 1) ps start actor
  enabling k (Chooses port by on off) start actor =
      none_if_over on (enabling (k + 1) on (has_token (Starting (k + 1))) actor)
      ++ none_if_over off (enabling (k + 1 + size on) off (has_token (Starting (k + 1 + size on))) actor)
  enabling k (Repeats port by body) start actor = none_if_over body (enabling (k + 1) body (has_token (Starting (k + 1))) actor)

  pub enabling_in_turn : ℕ → Plans → (start : GuardTree PortName) → Actor → List (GuardTree PortName)
  enabling_in_turn k NoPlans start actor = []
  enabling_in_turn k (MorePlans p ps) start actor =
      if is_over p then enabling_in_turn (k + size p) ps start actor else enabling k p start actor ++ enabling_after (k + size p) ps actor

  pub enabling_after : ℕ → Plans → Actor → List (GuardTree PortName)
  enabling_after k NoPlans actor = []
  enabling_after k (MorePlans p ps) actor = none_if_over p (enabling k p (has_token (Starting k)) actor) ++ enabling_after (k + size p) ps actor

  pub enabling_at_once : ℕ → Plans → (start : GuardTree PortName) → Actor → List (GuardTree PortName)
  enabling_at_once k NoPlans start actor = []
  enabling_at_once k (MorePlans p ps) start actor = none_if_over p (enabling k p start actor) ++ enabling_at_once (k + size p) ps start actor

abbrev mutual
  pub testing : ℕ → Plan → (start : GuardTree PortName) → Actor → List (GuardTree PortName)
  testing k (Enables other) start actor = []
  testing k (InTurn ps) start actor = testing_in_turn (k + 1) ps start actor
  testing k (AtOnce ps) start actor = testing_at_once (k + 1) ps start actor
  testing k (Chooses port by on off) start actor =
      (if is_by by actor then start ∷ [] else []) ++ none_if_over on (testing (k + 1) on (has_token (Starting (k + 1))) actor)
      ++ none_if_over off (testing (k + 1 + size on) off (has_token (Starting (k + 1 + size on))) actor)
  testing k (Repeats port by body) start actor =
      (if is_by by actor then tested_guard k start ∷ [] else []) ++ none_if_over body (testing (k + 1) body (has_token (Starting (k + 1))) actor)

  pub testing_in_turn : ℕ → Plans → (start : GuardTree PortName) → Actor → List (GuardTree PortName)
  testing_in_turn k NoPlans start actor = []
  testing_in_turn k (MorePlans p ps) start actor =
      if is_over p then testing_in_turn (k + size p) ps start actor else testing k p start actor ++ testing_after (k + size p) ps actor

  pub testing_after : ℕ → Plans → Actor → List (GuardTree PortName)
  testing_after k NoPlans actor = []
  testing_after k (MorePlans p ps) actor = none_if_over p (testing k p (has_token (Starting k)) actor) ++ testing_after (k + size p) ps actor

  pub testing_at_once : ℕ → Plans → (start : GuardTree PortName) → Actor → List (GuardTree PortName)
  testing_at_once k NoPlans start actor = []
  testing_at_once k (MorePlans p ps) start actor = none_if_over p (testing k p start actor) ++ testing_at_once (k + size p) ps start actor
