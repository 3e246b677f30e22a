-- The registers and wires of a plan can be written.
use Rattle.std.proofs.Common.{ℕ, ◌+◌, List, ◌∷◌, ◌++◌}
use Rattle.std.specs.List.{AllByRecursion}
use Rattle.hw_names.specs.Name.{Text}
use Rattle.net_core.specs.Guard.{GuardTree, Negates}
use Rattle.cal_ast.specs.Plan.{AtOnce, Chooses, Enables, InTurn, MorePlans, NoPlans, Plan, Plans, Repeats}
use Rattle.cal_ast.specs.Tree.{PortName}
use Rattle.cal_lower.specs.inside.Parts.{again_guard, ended_guard, ends_guard, ends_wire, none_if_over, part_ends, part_pieces, pieces_after, pieces_at_once, pieces_in_turn, tested_guard, with_start}
use Rattle.cal_lower.specs.inside.Pieces.{Kind, Piece, Register, Wire, both, either, ends_name, has_token, is_done, piece, reads, token_name}
use Rattle.cal_ast.specs.Written.{GuardIsWritten, IsCalName, PortIsWritten, SourceIsWritten, WhenIsWritten}
use Rattle.cal_token.specs.inside.Tokens.{Again, Ended, Going, Starting, Token, size}
use Rattle.cal_walk.specs.Left.{is_over}
use Rattle.cal_lower.proofs.WrittenGuards.{PlanIsWritten, PlansAreWritten, both_written, done_written, ended_written, ends_guard_written, ends_written, going_written, guard_chosen, none_written, tested_written, token_written}
use Rattle.cal_ast.proofs.WrittenLists.{all_append, all_chosen}
use Rattle.cal_group.proofs.WrittenNames.{one_written}
use Rattle.cal_lower.proofs.WrittenNames.{ends_named, token_named}

abbrev Guard : Type 0
Guard = GuardTree PortName

abbrev pub PieceIsWritten : Piece → Type 0
PieceIsWritten p = IsCalName p.name × (WhenIsWritten p.guard × SourceIsWritten p.src)

abbrev pub ArePieces : List Piece → Type 0
ArePieces pieces = AllByRecursion PieceIsWritten pieces

pub piece_written : (kind : Kind) (name : Text) (guard : Guard) → IsCalName name → GuardIsWritten guard → PieceIsWritten (piece kind name guard)
piece_written kind name guard named is = (named, (is, one_written))

register_written : (t : Token) (next : Guard) → GuardIsWritten next → PieceIsWritten (piece Register (token_name t) next)
register_written t next is = piece_written Register (token_name t) next (token_named t) is

wire_written : (k : ℕ) (p : Plan) (start : Guard) → PlanIsWritten p → GuardIsWritten start → PieceIsWritten (ends_wire k p start)
wire_written k p start is begins = piece_written Wire (ends_name k) (ends_guard k p start) (ends_named k) (ends_guard_written k p start is begins)

start_written : (k : ℕ) (p : Plan) (next : Guard) (pieces : List Piece) → GuardIsWritten next → ArePieces pieces → ArePieces (with_start k p next pieces)
start_written k p next pieces is are =
    none_written PieceIsWritten p (piece Register (token_name (Starting k)) next ∷ pieces) (register_written (Starting k) next is, are)

again_written : (k : ℕ) (port : PortName) (body : Plan) (start : Guard) → PortIsWritten port → GuardIsWritten start → GuardIsWritten (again_guard k port body start)
again_written k port body start is begins =
    guard_chosen (is_over body) (both (tested_guard k start) (reads port)) (part_ends (k + 1))
    (both_written (tested_guard k start) (reads port) (tested_written k start begins) is) (ends_written (k + 1))

past_written : (k : ℕ) (all : Guard) → GuardIsWritten all → GuardIsWritten (ended_guard k all)
past_written k all is = both_written (either (part_ends k) (has_token (Ended k))) (Negates all) (ended_written k) is

mutual
  pub part_written : (k : ℕ) (p : Plan) (start : Guard) → PlanIsWritten p → GuardIsWritten start → ArePieces (part_pieces k p start)
  part_written k (Enables actor) start is begins = (
    wire_written k (Enables actor) start is begins,
    (
      register_written (Going k) (both (either start (has_token (Going k))) (Negates (is_done actor)))
          (both_written (either start (has_token (Going k))) (Negates (is_done actor)) (going_written k start begins) (done_written actor is)),
      tt,
    ),
  )
  part_written k (InTurn ps) start is begins = (wire_written k (InTurn ps) start is begins, in_turn_written (k + 1) ps start is begins)
  part_written k (AtOnce ps) start is begins = (wire_written k (AtOnce ps) start is begins, at_once_written (k + 1) ps start (part_ends k) is begins (ends_written k))
  part_written k (Chooses port by on off) start is begins =
      let on_start = both start (reads port) in
      let off_start = both start (Negates (reads port)) in
      let of_on = part_pieces (k + 1) on (has_token (Starting (k + 1))) in
      let of_off = part_pieces (k + 1 + size on) off (has_token (Starting (k + 1 + size on))) in
      all_append PieceIsWritten (ends_wire k (Chooses port by on off) start ∷ with_start (k + 1) on on_start of_on) (with_start (k + 1 + size on) off off_start of_off) (
        wire_written k (Chooses port by on off) start is begins,
        start_written (k + 1) on on_start of_on (both_written start (reads port) begins is.0) (part_written (k + 1) on (has_token (Starting (k + 1))) is.1.0 (token_written (Starting (k + 1)))),
      )
      (start_written (k + 1 + size on) off off_start of_off (both_written start (Negates (reads port)) begins is.0)
      (part_written (k + 1 + size on) off (has_token (Starting (k + 1 + size on))) is.1.1 (token_written (Starting (k + 1 + size on)))))
  part_written k (Repeats port by body) start is begins = (
    wire_written k (Repeats port by body) start is begins,
    (
      register_written (Again k) (again_guard k port body start) (again_written k port body start is.0 begins),
      start_written (k + 1) body (both (tested_guard k start) (reads port)) (part_pieces (k + 1) body (has_token (Starting (k + 1))))
          (both_written (tested_guard k start) (reads port) (tested_written k start begins) is.0)
          (part_written (k + 1) body (has_token (Starting (k + 1))) is.1 (token_written (Starting (k + 1)))),
    ),
  )

  in_turn_written : (k : ℕ) (ps : Plans) (start : Guard) → PlansAreWritten ps → GuardIsWritten start → ArePieces (pieces_in_turn k ps start)
  in_turn_written k NoPlans start are begins = tt
  in_turn_written k (MorePlans p ps) start are begins =
      let here = part_pieces k p start in
      let later = pieces_after (k + size p) ps (part_ends k) in
      all_chosen PieceIsWritten (is_over p) (pieces_in_turn (k + size p) ps start) (here ++ later) (in_turn_written (k + size p) ps start are.1 begins)
      (all_append PieceIsWritten here later (part_written k p start are.0 begins) (after_written (k + size p) ps (part_ends k) are.1 (ends_written k)))

  after_written : (k : ℕ) (ps : Plans) (next : Guard) → PlansAreWritten ps → GuardIsWritten next → ArePieces (pieces_after k ps next)
  after_written k NoPlans next are is = tt
  after_written k (MorePlans p ps) next are is =
      let part = part_pieces k p (has_token (Starting k)) in
      let here = with_start k p next part in
      let later = pieces_after (k + size p) ps (part_ends k) in
      all_chosen PieceIsWritten (is_over p) (pieces_after (k + size p) ps next) (here ++ later) (after_written (k + size p) ps next are.1 is)
      (all_append PieceIsWritten here later (start_written k p next part is (part_written k p (has_token (Starting k)) are.0 (token_written (Starting k))))
      (after_written (k + size p) ps (part_ends k) are.1 (ends_written k)))

  at_once_written : (k : ℕ) (ps : Plans) (start all : Guard) → PlansAreWritten ps → GuardIsWritten start → GuardIsWritten all → ArePieces (pieces_at_once k ps start all)
  at_once_written k NoPlans start all are begins ends = tt
  at_once_written k (MorePlans p ps) start all are begins ends =
      let here = piece Register (token_name (Ended k)) (ended_guard k all) ∷ part_pieces k p start in
      all_append PieceIsWritten (none_if_over p here) (pieces_at_once (k + size p) ps start all)
      (none_written PieceIsWritten p here (register_written (Ended k) (ended_guard k all) (past_written k all ends), part_written k p start are.0 begins))
      (at_once_written (k + size p) ps start all are.1 begins ends)
