-- The pieces of a plan have names that are apart: each is of another kind, or of another number, and a number's text is its own.
use Rattle.std.proofs.Common.{◌≡◌, ◌≢◌, ℕ, ◌+◌, ◌*◌, ◌<◌, ◌≤◌, List, [], ◌∷◌, ◌++◌, Bool, true, ◌||◌, ◌==◌, refl, sym, ap, subst, inl, inr, ◌∙◌, arith}
use Rattle.std.specs.Prelude.{if◌then◌else◌, decimal}
use Rattle.std.proofs.lemmas.Bool.{cases_Bool, cond-true, cond-false}
use Rattle.hw_names.specs.Name.{Text}
use Rattle.net_core.specs.Guard.{GuardTree, Negates}
use Rattle.cal_ast.specs.Naming.{IsReserved}
use Rattle.cal_ast.specs.Plan.{Plan, Enables, InTurn, AtOnce, Chooses, Repeats, Plans, NoPlans, MorePlans}
use Rattle.cal_ast.specs.Tree.{PortName}
use Rattle.cal_walk.specs.Left.{is_over}
use Rattle.cal_token.specs.inside.Tokens.{Token, Going, Starting, Ended, Again, size, sizes}
use Rattle.cal_lower.specs.inside.Pieces.{Piece, Register, piece, token_name, ends_name, has_token, reads, either, both, is_done}
use Rattle.cal_lower.specs.inside.Parts.{none_if_over, part_ends, tested_guard, ended_guard, again_guard, ends_wire, with_start, part_pieces, pieces_in_turn, pieces_after, pieces_at_once}
use Rattle.cal_lower.proofs.ListLemmas.{Each, each_append, each_weaker}

-- ---- names that are apart

-- no two pieces have one name
abbrev pub Apart : List Piece → Type 0
Apart [] = Unit {0}
Apart (p ∷ ps) = Each (λ (q : Piece). p.name ≢ q.name) ps × Apart ps

pub apart_append : (ps qs : List Piece) → Apart ps → Apart qs → Each (λ (p : Piece). Each (λ (q : Piece). p.name ≢ q.name) qs) ps → Apart (ps ++ qs)
apart_append [] qs left right across = right
apart_append (p ∷ ps) qs left right across =
    (each_append (λ (q : Piece). p.name ≢ q.name) ps qs left.0 across.0, apart_append ps qs left.1 right across.1)

-- ---- places

-- what a wire or a register of a plan is for
pub data Place : Type 0 where
  OfEnd : ℕ → Place
  OfToken : Token → Place

abbrev pub place_name : Place → Text
place_name (OfEnd k) = ends_name k
place_name (OfToken token) = token_name token

abbrev pub number : Place → ℕ
number (OfEnd k) = k
number (OfToken (Going k)) = k
number (OfToken (Starting k)) = k
number (OfToken (Ended k)) = k
number (OfToken (Again k)) = k

abbrev mark : Place → ℕ
mark (OfToken (Ended k)) = 0
mark (OfToken (Starting k)) = 1
mark (OfEnd k) = 2
mark (OfToken (Going k)) = 3
mark (OfToken (Again k)) = 4

abbrev rank : Place → ℕ
rank place = 5 * number place + mark place

-- the third letter of a name tells which kind it is
abbrev pub third : Text → ℕ
third (a ∷ b ∷ c ∷ rest) = c
third name = 0

abbrev mark_of : ℕ → ℕ
mark_of letter = if letter == 112 then 0 else (if letter == 110 then 1 else (if letter == 101 then 2 else (if letter == 103 then 3 else 4)))

abbrev digits_in : Text → Text
digits_in (a ∷ b ∷ c ∷ d ∷ e ∷ f ∷ rest) = rest
digits_in name = []

mark_told : (place : Place) → mark_of (third (place_name place)) ≡ mark place
mark_told (OfEnd k) = refl
mark_told (OfToken (Going k)) = refl
mark_told (OfToken (Starting k)) = refl
mark_told (OfToken (Ended k)) = refl
mark_told (OfToken (Again k)) = refl

number_told : (place : Place) → digits_in (place_name place) ≡ decimal (number place)
number_told (OfEnd k) = refl
number_told (OfToken (Going k)) = refl
number_told (OfToken (Starting k)) = refl
number_told (OfToken (Ended k)) = refl
number_told (OfToken (Again k)) = refl

-- the letters of the kinds of places
abbrev pub is_letter : ℕ → Bool
is_letter letter = (letter == 112) || ((letter == 110) || ((letter == 101) || ((letter == 103) || (letter == 116))))

letter_told : (place : Place) → is_letter (third (place_name place)) ≡ true
letter_told (OfEnd k) = refl
letter_told (OfToken (Going k)) = refl
letter_told (OfToken (Starting k)) = refl
letter_told (OfToken (Ended k)) = refl
letter_told (OfToken (Again k)) = refl

reserved_told : (place : Place) → IsReserved (place_name place)
reserved_told (OfEnd k) = refl
reserved_told (OfToken (Going k)) = refl
reserved_told (OfToken (Starting k)) = refl
reserved_told (OfToken (Ended k)) = refl
reserved_told (OfToken (Again k)) = refl

-- what holds of numbers below n: each has a text of its own
module _ (n : ℕ) (injective : (i j : ℕ) → i < n → j < n → decimal i ≡ decimal j → i ≡ j) where
  same_rank : (a b : Place) → number a < n → number b < n → place_name a ≡ place_name b → rank a ≡ rank b
  same_rank a b small_a small_b e =
      let marks : mark a ≡ mark b = sym (mark_told a) ∙ ap (λ name. mark_of (third name)) e ∙ mark_told b in
      let digits : decimal (number a) ≡ decimal (number b) = sym (number_told a) ∙ ap digits_in e ∙ number_told b in
      let numbers : number a ≡ number b = injective (number a) (number b) small_a small_b digits in
      ap (λ x. 5 * x + mark a) numbers ∙ ap (λ x. 5 * number b + x) marks

  -- the piece is named by a place of a rank from low up to high
  record IsAt (low high : ℕ) (p : Piece) : Type 0 where
    place : Place
    named : p.name ≡ place_name place
    from : low ≤ rank place
    below : rank place < high
    small : number place < n

  -- the pieces are, and their names are apart
  record Within (low high : ℕ) (ps : List Piece) : Type 0 where
    each : Each (IsAt low high) ps
    apart : Apart ps

  wider_at : (a b c d : ℕ) → c ≤ a → b ≤ d → (p : Piece) → IsAt a b p → IsAt c d p
  wider_at a b c d first last p is =
      let from : a ≤ rank is.place = is.from in
      let below : rank is.place < b = is.below in
      record { place = is.place; named = is.named; from = omega arith; below = omega arith; small = is.small }

  wider : (a b c d : ℕ) (ps : List Piece) → c ≤ a → b ≤ d → Within a b ps → Within c d ps
  wider a b c d ps first last is = record { each = each_weaker (IsAt a b) (IsAt c d) (wider_at a b c d first last) ps is.each; apart = is.apart }

  apart_at : (a m b : ℕ) (p q : Piece) → IsAt a m p → IsAt m b q → p.name ≢ q.name
  apart_at a m b p q one other e =
      let same : rank one.place ≡ rank other.place = same_rank one.place other.place one.small other.small (sym one.named ∙ e ∙ other.named) in
      let below : rank one.place < m = one.below in
      let from : m ≤ rank other.place = other.from in
      omega arith

  none_within : (a b : ℕ) → Within a b []
  none_within a b = record { each = tt; apart = tt }

  -- pieces of lower ranks, and those of higher ones
  join : (a m b : ℕ) (ps qs : List Piece) → a ≤ m → m ≤ b → Within a m ps → Within m b qs → Within a b (ps ++ qs)
  join a m b ps qs first last low high = record {
    each = each_append (IsAt a b) ps qs (wider a m a b ps (omega arith) last low).each (wider m b a b qs first (omega arith) high).each;
    apart = apart_append ps qs low.apart high.apart
        (each_weaker (IsAt a m) (λ (p : Piece). Each (λ (q : Piece). p.name ≢ q.name) qs)
        (λ p is. each_weaker (IsAt m b) (λ (q : Piece). p.name ≢ q.name) (λ q there. apart_at a m b p q is there) qs high.each) ps low.each);
  }

  one_within : (place : Place) (p : Piece) → p.name ≡ place_name place → number place < n → Within (rank place) (rank place + 1) (p ∷ [])
  one_within place p named small =
      let is : IsAt (rank place) (rank place + 1) p = record { place = place; named = named; from = omega arith; below = omega arith; small = small } in
      record { each = (is, tt); apart = (tt, tt) }

  -- a piece before others of higher ranks
  before : (a b : ℕ) (place : Place) (p : Piece) (ps : List Piece) → p.name ≡ place_name place → number place < n → a ≤ rank place → rank place < b
      → Within (rank place + 1) b ps → Within a b (p ∷ ps)
  before a b place p ps named small from below rest =
      wider (rank place) b a b (p ∷ ps) from (omega arith)
      (join (rank place) (rank place + 1) b (p ∷ []) ps (omega arith) (omega arith) (one_within place p named small) rest)

  next_rank : (k : ℕ) → 5 * k + 2 ≡ rank (OfToken (Starting k)) + 1
  next_rank k = omega arith

  later_within : (k : ℕ) (p : Plan) (starts : GuardTree PortName) → k + size p ≤ n → 0 < size p
      → Within (5 * k + 2) (5 * (k + size p)) (part_pieces k p (has_token (Starting k)))
      → Within (5 * k) (5 * (k + size p)) (with_start k p starts (part_pieces k p (has_token (Starting k))))
  later_within k p starts few some is =
      let first : Piece = piece Register (token_name (Starting k)) starts in
      let rest : List Piece = part_pieces k p (has_token (Starting k)) in
      let W : List Piece → Type 0 = λ pieces. Within (5 * k) (5 * (k + size p)) pieces in
      elim (cases_Bool (is_over p)) [
        | inl over ↦ subst W (sym (cond-true (is_over p) [] (first ∷ rest) over)) (none_within (5 * k) (5 * (k + size p)))
        | inr more ↦ subst W (sym (cond-false (is_over p) [] (first ∷ rest) more))
            (before (5 * k) (5 * (k + size p)) (OfToken (Starting k)) first rest refl (omega arith) (omega arith) (omega arith) (subst (λ m. Within m (5 * (k + size p)) rest) (next_rank k) is))
      ]

  -- a plan takes a number
  some_number : (p : Plan) → 0 < size p
  some_number (Enables actor) = omega arith
  some_number (InTurn ps) = omega arith
  some_number (AtOnce ps) = omega arith
  some_number (Chooses port by on off) = omega arith
  some_number (Repeats port by body) = omega arith

  mutual
    part_within : (k : ℕ) (p : Plan) (start : GuardTree PortName) → k + size p ≤ n → Within (5 * k + 2) (5 * (k + size p)) (part_pieces k p start)
    part_within k (Enables actor) start few =
        before (5 * k + 2) (5 * (k + 1)) (OfEnd k) (ends_wire k (Enables actor) start) _ refl (omega arith) (omega arith) (omega arith)
        (before (5 * k + 2 + 1) (5 * (k + 1)) (OfToken (Going k))
        (piece Register (token_name (Going k)) (both (either start (has_token (Going k))) (Negates (is_done actor)))) [] refl (omega arith) (omega arith) (omega arith)
        (none_within (5 * k + 3 + 1) (5 * (k + 1))))
    part_within k (InTurn ps) start few =
        before (5 * k + 2) (5 * (k + (sizes ps + 1))) (OfEnd k) (ends_wire k (InTurn ps) start) (pieces_in_turn (k + 1) ps start) refl (omega arith) (omega arith) (omega arith)
        (wider (5 * (k + 1)) (5 * (k + 1 + sizes ps)) (5 * k + 2 + 1) (5 * (k + (sizes ps + 1))) (pieces_in_turn (k + 1) ps start) (omega arith) (omega arith)
        (in_turn_within (k + 1) ps start (omega arith)))
    part_within k (AtOnce ps) start few =
        before (5 * k + 2) (5 * (k + (sizes ps + 1))) (OfEnd k) (ends_wire k (AtOnce ps) start) (pieces_at_once (k + 1) ps start (part_ends k)) refl (omega arith) (omega arith) (omega arith)
        (wider (5 * (k + 1)) (5 * (k + 1 + sizes ps)) (5 * k + 2 + 1) (5 * (k + (sizes ps + 1))) (pieces_at_once (k + 1) ps start (part_ends k)) (omega arith) (omega arith)
        (at_once_within (k + 1) ps start (part_ends k) (omega arith)))
    part_within k (Chooses port by on off) start few =
        let m : ℕ = k + 1 + size on in
        let end : ℕ = 5 * (k + (size on + size off + 1)) in
        let left : List Piece = with_start (k + 1) on (both start (reads port)) (part_pieces (k + 1) on (has_token (Starting (k + 1)))) in
        let right : List Piece =
        with_start (k + 1 + size on) off (both start (Negates (reads port))) (part_pieces (k + 1 + size on) off (has_token (Starting (k + 1 + size on)))) in
        before (5 * k + 2) end (OfEnd k) (ends_wire k (Chooses port by on off) start) (left ++ right) refl (omega arith) (omega arith) (omega arith)
        (join (5 * k + 2 + 1) (5 * (k + 1 + size on)) end left right (omega arith) (omega arith)
        (wider (5 * (k + 1)) (5 * (k + 1 + size on)) (5 * k + 2 + 1) (5 * (k + 1 + size on)) left (omega arith) (omega arith)
        (later_within (k + 1) on (both start (reads port)) (omega arith) (some_number on) (part_within (k + 1) on (has_token (Starting (k + 1))) (omega arith))))
        (wider (5 * (k + 1 + size on)) (5 * (k + 1 + size on + size off)) (5 * (k + 1 + size on)) end right (omega arith) (omega arith)
        (later_within (k + 1 + size on) off (both start (Negates (reads port))) (omega arith) (some_number off)
        (part_within (k + 1 + size on) off (has_token (Starting (k + 1 + size on))) (omega arith)))))
    part_within k (Repeats port by body) start few =
        let end : ℕ = 5 * (k + (size body + 1)) in
        let rest : List Piece = with_start (k + 1) body (both (tested_guard k start) (reads port)) (part_pieces (k + 1) body (has_token (Starting (k + 1)))) in
        let token : Piece = piece Register (token_name (Again k)) (again_guard k port body start) in
        before (5 * k + 2) end (OfEnd k) (ends_wire k (Repeats port by body) start) (token ∷ rest) refl (omega arith) (omega arith) (omega arith)
        (before (5 * k + 2 + 1) end (OfToken (Again k)) token rest refl (omega arith) (omega arith) (omega arith)
        (wider (5 * (k + 1)) (5 * (k + 1 + size body)) (5 * k + 4 + 1) end rest (omega arith) (omega arith)
        (later_within (k + 1) body (both (tested_guard k start) (reads port)) (omega arith) (some_number body)
        (part_within (k + 1) body (has_token (Starting (k + 1))) (omega arith)))))

    in_turn_within : (k : ℕ) (ps : Plans) (start : GuardTree PortName) → k + sizes ps ≤ n → Within (5 * k) (5 * (k + sizes ps)) (pieces_in_turn k ps start)
    in_turn_within k NoPlans start few = none_within (5 * k) (5 * (k + 0))
    in_turn_within k (MorePlans p ps) start few =
        let W : List Piece → Type 0 = λ pieces. Within (5 * k) (5 * (k + (size p + sizes ps))) pieces in
        let first : List Piece = part_pieces k p start in
        let rest : List Piece = pieces_after (k + size p) ps (part_ends k) in
        elim (cases_Bool (is_over p)) [
          | inl over ↦ subst W (sym (cond-true (is_over p) (pieces_in_turn (k + size p) ps start) (first ++ rest) over))
              (wider (5 * (k + size p)) (5 * (k + size p + sizes ps)) (5 * k) (5 * (k + (size p + sizes ps))) (pieces_in_turn (k + size p) ps start) (omega arith) (omega arith)
              (in_turn_within (k + size p) ps start (omega arith)))
          | inr more ↦ subst W (sym (cond-false (is_over p) (pieces_in_turn (k + size p) ps start) (first ++ rest) more))
              (join (5 * k) (5 * (k + size p)) (5 * (k + (size p + sizes ps))) first rest (omega arith) (omega arith)
              (wider (5 * k + 2) (5 * (k + size p)) (5 * k) (5 * (k + size p)) first (omega arith) (omega arith) (part_within k p start (omega arith)))
              (wider (5 * (k + size p)) (5 * (k + size p + sizes ps)) (5 * (k + size p)) (5 * (k + (size p + sizes ps))) rest (omega arith) (omega arith)
              (after_within (k + size p) ps (part_ends k) (omega arith))))
        ]

    after_within : (k : ℕ) (ps : Plans) (starts : GuardTree PortName) → k + sizes ps ≤ n → Within (5 * k) (5 * (k + sizes ps)) (pieces_after k ps starts)
    after_within k NoPlans starts few = none_within (5 * k) (5 * (k + 0))
    after_within k (MorePlans p ps) starts few =
        let W : List Piece → Type 0 = λ pieces. Within (5 * k) (5 * (k + (size p + sizes ps))) pieces in
        let first : List Piece = with_start k p starts (part_pieces k p (has_token (Starting k))) in
        let rest : List Piece = pieces_after (k + size p) ps (part_ends k) in
        elim (cases_Bool (is_over p)) [
          | inl over ↦ subst W (sym (cond-true (is_over p) (pieces_after (k + size p) ps starts) (first ++ rest) over))
              (wider (5 * (k + size p)) (5 * (k + size p + sizes ps)) (5 * k) (5 * (k + (size p + sizes ps))) (pieces_after (k + size p) ps starts) (omega arith) (omega arith)
              (after_within (k + size p) ps starts (omega arith)))
          | inr more ↦ subst W (sym (cond-false (is_over p) (pieces_after (k + size p) ps starts) (first ++ rest) more))
              (join (5 * k) (5 * (k + size p)) (5 * (k + (size p + sizes ps))) first rest (omega arith) (omega arith)
              (later_within k p starts (omega arith) (some_number p) (part_within k p (has_token (Starting k)) (omega arith)))
              (wider (5 * (k + size p)) (5 * (k + size p + sizes ps)) (5 * (k + size p)) (5 * (k + (size p + sizes ps))) rest (omega arith) (omega arith)
              (after_within (k + size p) ps (part_ends k) (omega arith))))
        ]

    at_once_within : (k : ℕ) (ps : Plans) (start all : GuardTree PortName) → k + sizes ps ≤ n → Within (5 * k) (5 * (k + sizes ps)) (pieces_at_once k ps start all)
    at_once_within k NoPlans start all few = none_within (5 * k) (5 * (k + 0))
    at_once_within k (MorePlans p ps) start all few =
        let W : List Piece → Type 0 = λ pieces. Within (5 * k) (5 * (k + size p)) pieces in
        let token : Piece = piece Register (token_name (Ended k)) (ended_guard k all) in
        let first : List Piece = none_if_over p (token ∷ part_pieces k p start) in
        let rest : List Piece = pieces_at_once (k + size p) ps start all in
        let some : 0 < size p = some_number p in
        let here : Within (5 * k) (5 * (k + size p)) first = elim (cases_Bool (is_over p)) [
          | inl over ↦ subst W (sym (cond-true (is_over p) [] (token ∷ part_pieces k p start) over)) (none_within (5 * k) (5 * (k + size p)))
          | inr more ↦ subst W (sym (cond-false (is_over p) [] (token ∷ part_pieces k p start) more))
              (before (5 * k) (5 * (k + size p)) (OfToken (Ended k)) token (part_pieces k p start) refl (omega arith) (omega arith) (omega arith)
              (wider (5 * k + 2) (5 * (k + size p)) (5 * k + 0 + 1) (5 * (k + size p)) (part_pieces k p start) (omega arith) (omega arith) (part_within k p start (omega arith))))
        ] in
        join (5 * k) (5 * (k + size p)) (5 * (k + (size p + sizes ps))) first rest (omega arith) (omega arith) here
        (wider (5 * (k + size p)) (5 * (k + size p + sizes ps)) (5 * (k + size p)) (5 * (k + (size p + sizes ps))) rest (omega arith) (omega arith)
        (at_once_within (k + size p) ps start all (omega arith)))

  -- a plan's pieces are apart, and each is named by a letter of its own kinds
  pub plan_apart : (p : Plan) (start : GuardTree PortName) → size p ≤ n → Apart (part_pieces 0 p start)
  plan_apart p start few = (part_within 0 p start (omega arith)).apart

  -- what holds of the names of places holds of those of the pieces
  pub plan_named : (P : Text → Type 0) → ((place : Place) → number place < n → P (place_name place)) → (p : Plan) (start : GuardTree PortName) → size p ≤ n
      → Each (λ (q : Piece). P q.name) (part_pieces 0 p start)
  plan_named P holds p start few =
      each_weaker (IsAt (5 * 0 + 2) (5 * (0 + size p))) (λ (q : Piece). P q.name)
      (λ q is. subst P (sym is.named) (holds is.place is.small)) (part_pieces 0 p start) (part_within 0 p start (omega arith)).each

  pub plan_letters : (p : Plan) (start : GuardTree PortName) → size p ≤ n → Each (λ (q : Piece). is_letter (third q.name) ≡ true) (part_pieces 0 p start)
  plan_letters p start few = plan_named (λ name. is_letter (third name) ≡ true) (λ place small. letter_told place) p start few

  pub plan_reserved : (p : Plan) (start : GuardTree PortName) → size p ≤ n → Each (λ (q : Piece). IsReserved q.name) (part_pieces 0 p start)
  plan_reserved p start few = plan_named (λ name. IsReserved name) (λ place small. reserved_told place) p start few
