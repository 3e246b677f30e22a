-- Where no register of a plan is set, as in the first row, the plan is off.
use Rattle.std.proofs.Common.{◌≡◌, ℕ, ◌+◌, List, [], ◌∷◌, ◌++◌, Bool, false, subst, inl, inr}
use Rattle.std.proofs.lemmas.Bool.{cases_Bool, cond-true, cond-false}
use Rattle.net_core.specs.Guard.{GuardTree, Negates}
use Rattle.cal_ast.specs.Plan.{Plan, Enables, InTurn, AtOnce, Chooses, Repeats, Plans, NoPlans, MorePlans}
use Rattle.cal_ast.specs.Tree.{PortName}
use Rattle.cal_walk.specs.Left.{is_over}
use Rattle.cal_token.specs.inside.Coming.{IsOff, FirstIsOff, OthersAreOff, AllAreOff, IsLaterOff}
use Rattle.cal_token.specs.inside.Tokens.{Token, Starting, Ended, size}
use Rattle.cal_token.proofs.StartLemmas.{with_none, with_start as starts_with}
use Rattle.cal_token.proofs.TestLemmas.{at_true, at_false}
use Rattle.cal_lower.specs.inside.Pieces.{Piece, Kind, Wire, Register, piece, token_name, has_token, reads, both}
use Rattle.cal_lower.specs.inside.Parts.{none_if_over, part_ends, tested_guard, ended_guard, with_start, part_pieces, pieces_in_turn, pieces_after, pieces_at_once}
use Rattle.cal_lower.proofs.ListLemmas.{Each, each_left, each_right}
use Rattle.cal_lower.proofs.PartLemmas.{shows_bit, tokens_in}

abbrev pub UnsetAs : Kind → Bool → Type 0
UnsetAs Wire now = Unit {0}
UnsetAs Register now = now ≡ false

-- a register shows 0
abbrev pub IsUnset : (PortName → ℕ) → Piece → Type 0
IsUnset see p = UnsetAs p.kind (shows_bit see p.name)

module _ (see : PortName → ℕ) where
  abbrev v : Token → Bool
  v = tokens_in see

  abbrev AreUnset : List Piece → Type 0
  AreUnset pieces = Each (IsUnset see) pieces

  later_off : (k : ℕ) (p : Plan) (starts : GuardTree PortName) → (is_over p ≡ false → AreUnset (part_pieces k p (has_token (Starting k))) → IsOff v k p)
      → AreUnset (with_start k p starts (part_pieces k p (has_token (Starting k)))) → IsLaterOff v k p
  later_off k p starts part unset = elim (cases_Bool (is_over p)) [
    | inl over ↦ with_none v k p false (IsOff v k p) over
    | inr more ↦
        let S : List Piece → Type 0 = λ pieces. AreUnset pieces in
        let first : Piece = piece Register (token_name (Starting k)) starts in
        let here : AreUnset (first ∷ part_pieces k p (has_token (Starting k))) =
        subst S (cond-false (is_over p) [] (first ∷ part_pieces k p (has_token (Starting k))) more) unset in
        starts_with v k p false (IsOff v k p) more here.0 (part more here.1)
  ]

  mutual
    pub part_off : (k : ℕ) (p : Plan) (start : GuardTree PortName) → is_over p ≡ false → AreUnset (part_pieces k p start) → IsOff v k p
    part_off k (Enables actor) start more unset = unset.1.0
    part_off k (InTurn ps) start more unset = first_off (k + 1) ps start unset.1
    part_off k (AtOnce ps) start more unset = all_off (k + 1) ps start (part_ends k) unset.1
    part_off k (Chooses port by on off) start more unset =
        let left : List Piece = with_start (k + 1) on (both start (reads port)) (part_pieces (k + 1) on (has_token (Starting (k + 1)))) in
        let right : List Piece =
        with_start (k + 1 + size on) off (both start (Negates (reads port))) (part_pieces (k + 1 + size on) off (has_token (Starting (k + 1 + size on)))) in (
          later_off (k + 1) on (both start (reads port)) (λ lasts here. part_off (k + 1) on (has_token (Starting (k + 1))) lasts here)
              (each_left (IsUnset see) left right unset.1),
          later_off (k + 1 + size on) off (both start (Negates (reads port)))
              (λ lasts here. part_off (k + 1 + size on) off (has_token (Starting (k + 1 + size on))) lasts here) (each_right (IsUnset see) left right unset.1),
        )
    part_off k (Repeats port by body) start more unset = (
      unset.1.0,
      later_off (k + 1) body (both (tested_guard k start) (reads port)) (λ lasts here. part_off (k + 1) body (has_token (Starting (k + 1))) lasts here) unset.1.1,
    )

    first_off : (k : ℕ) (ps : Plans) (start : GuardTree PortName) → AreUnset (pieces_in_turn k ps start) → FirstIsOff v k ps
    first_off k NoPlans start unset = tt
    first_off k (MorePlans p ps) start unset =
        let S : List Piece → Type 0 = λ pieces. AreUnset pieces in
        let first : List Piece = part_pieces k p start in
        let rest : List Piece = pieces_after (k + size p) ps (part_ends k) in
        elim (cases_Bool (is_over p)) [
          | inl over ↦ at_true (is_over p) (FirstIsOff v (k + size p) ps) (IsOff v k p × OthersAreOff v (k + size p) ps) over
              (first_off (k + size p) ps start (subst S (cond-true (is_over p) (pieces_in_turn (k + size p) ps start) (first ++ rest) over) unset))
          | inr more ↦
              let here : AreUnset (first ++ rest) = subst S (cond-false (is_over p) (pieces_in_turn (k + size p) ps start) (first ++ rest) more) unset in
              at_false (is_over p) (FirstIsOff v (k + size p) ps) (IsOff v k p × OthersAreOff v (k + size p) ps) more
              (part_off k p start more (each_left (IsUnset see) first rest here), others_off (k + size p) ps (part_ends k) (each_right (IsUnset see) first rest here))
        ]

    others_off : (k : ℕ) (ps : Plans) (starts : GuardTree PortName) → AreUnset (pieces_after k ps starts) → OthersAreOff v k ps
    others_off k NoPlans starts unset = tt
    others_off k (MorePlans p ps) starts unset =
        let S : List Piece → Type 0 = λ pieces. AreUnset pieces in
        let first : List Piece = with_start k p starts (part_pieces k p (has_token (Starting k))) in
        let rest : List Piece = pieces_after (k + size p) ps (part_ends k) in
        elim (cases_Bool (is_over p)) [
          | inl over ↦ (
            with_none v k p false (IsOff v k p) over,
            others_off (k + size p) ps starts (subst S (cond-true (is_over p) (pieces_after (k + size p) ps starts) (first ++ rest) over) unset),
          )
          | inr more ↦
              let here : AreUnset (first ++ rest) = subst S (cond-false (is_over p) (pieces_after (k + size p) ps starts) (first ++ rest) more) unset in (
                later_off k p starts (λ lasts there. part_off k p (has_token (Starting k)) lasts there) (each_left (IsUnset see) first rest here),
                others_off (k + size p) ps (part_ends k) (each_right (IsUnset see) first rest here),
              )
        ]

    all_off : (k : ℕ) (ps : Plans) (start all : GuardTree PortName) → AreUnset (pieces_at_once k ps start all) → AllAreOff v k ps
    all_off k NoPlans start all unset = tt
    all_off k (MorePlans p ps) start all unset =
        let S : List Piece → Type 0 = λ pieces. AreUnset pieces in
        let token : Piece = piece Register (token_name (Ended k)) (ended_guard k all) in
        let first : List Piece = none_if_over p (token ∷ part_pieces k p start) in
        let rest : List Piece = pieces_at_once (k + size p) ps start all in
        let others : AllAreOff v (k + size p) ps = all_off (k + size p) ps start all (each_right (IsUnset see) first rest unset) in
        elim (cases_Bool (is_over p)) [
          | inl over ↦ (at_true (is_over p) (Unit {0}) (IsOff v k p × (v (Ended k) ≡ false)) over tt, others)
          | inr more ↦
              let here : AreUnset (token ∷ part_pieces k p start) =
              subst S (cond-false (is_over p) [] (token ∷ part_pieces k p start) more) (each_left (IsUnset see) first rest unset) in
              (at_false (is_over p) (Unit {0}) (IsOff v k p × (v (Ended k) ≡ false)) more (part_off k p start more here.1, here.0), others)
        ]
