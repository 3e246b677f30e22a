-- The wire of a part's end reads wires of ends of parts with higher numbers alone, besides ports that are none of an end.
use Rattle.std.proofs.Common.{◌≡◌, ◌⊎◌, inl, inr, ℕ, ◌+◌, ◌<◌, ◌≤◌, List, [], ◌∷◌, ◌++◌, false, refl, sym, subst, arith}
use Rattle.std.proofs.lemmas.Bool.{cases_Bool, cond-true, cond-false}
use Rattle.net_core.specs.Guard.{GuardTree, GuardTrees, Reads, Compares, Negates, AllOf, AnyOf, NoGuards, MoreGuards}
use Rattle.net_core.specs.declared.net.Src.TheVariants.{Port, Lit}
use Rattle.cal_ast.specs.Actors.{Actor}
use Rattle.cal_ast.specs.Plan.{Plan, Enables, InTurn, AtOnce, Chooses, Repeats, Plans, NoPlans, MorePlans}
use Rattle.cal_ast.specs.Tree.{PortName}
use Rattle.cal_walk.specs.Left.{is_over, are_over}
use Rattle.cal_token.specs.inside.Tokens.{Token, Going, Starting, Ended, Again, size, sizes}
use Rattle.cal_lower.specs.inside.Pieces.{Piece, Wire, Register, piece, token_name, ends_name, done_name, group_name, shown, has_token, reads, either, both}
use Rattle.cal_lower.specs.inside.Parts.{none_if_over, part_ends, tested_guard, chooses_nothing, last_part, ended_guards, ends_guard, ended_guard}
use Rattle.cal_lower.specs.inside.Parts.{with_start, part_pieces, pieces_in_turn, pieces_after, pieces_at_once}
use Rattle.cal_lower.proofs.BitLemmas.{IsBitGuard, AreBitGuards, EachPort, EachPortIn, any_bits, all_bits, unless_bits, nothing_bits}
use Rattle.cal_lower.proofs.ListLemmas.{Each, each_append}

-- ---- guards of weaker bits

module _ (P Q : PortName → Type 0) (weaker : (q : PortName) → P q → Q q) where
  mutual
    pub bit_weaker : (g : GuardTree PortName) → IsBitGuard P g → IsBitGuard Q g
    bit_weaker (Reads (Port q)) is = weaker q is
    bit_weaker (Reads (Lit width value)) is = is
    bit_weaker (Compares op a b) is = absurd is
    bit_weaker (Negates g) is = bit_weaker g is
    bit_weaker (AllOf gs) is = bits_weaker gs is
    bit_weaker (AnyOf gs) is = bits_weaker gs is

    bits_weaker : (gs : GuardTrees PortName) → AreBitGuards P gs → AreBitGuards Q gs
    bits_weaker NoGuards is = tt
    bits_weaker (MoreGuards g gs) is = (bit_weaker g is.0, bits_weaker gs is.1)

-- ---- pieces of a plan

-- the wire of the end of a part with a higher number
pub record IsLaterEnd (n k : ℕ) (q : PortName) : Type 0 where
  pub part : ℕ
  pub later : k < part
  pub small : part < n
  pub is : q ≡ shown (ends_name part)

abbrev pub ReadsLater : ℕ → (PortName → Type 0) → ℕ → PortName → Type 0
ReadsLater n Calm k q = Calm q ⊎ IsLaterEnd n k q

-- a register, or the wire of an end
pub data IsPlanPiece (n : ℕ) (Calm : PortName → Type 0) (p : Piece) : Type 0 where
  OfToken : (token : Token) → p.kind ≡ Register → p.name ≡ token_name token → IsPlanPiece n Calm p
  OfEnd : (k : ℕ) (guard : GuardTree PortName) → k < n → p ≡ piece Wire (ends_name k) guard → IsBitGuard (ReadsLater n Calm k) guard → IsPlanPiece n Calm p

-- ---- numbers

some_number : (p : Plan) → 0 < size p
some_number (Enables actor) = omega arith
some_number (InTurn ps) = omega arith
some_number (AtOnce ps) = omega arith
some_number (Chooses port by on off) = omega arith
some_number (Repeats port by body) = omega arith

-- the last part that takes a row is one of these
last_within : (k : ℕ) (ps : Plans) → are_over ps ≡ false → (k ≤ last_part k ps) × (last_part k ps < k + sizes ps)
last_within k NoPlans more = absurd (cc)
last_within k (MorePlans p ps) more =
    let L : ℕ → Type 0 = λ m. (k ≤ m) × (m < k + (size p + sizes ps)) in
    let some = some_number p in
    elim (cases_Bool (are_over ps)) [
      | inl none ↦ subst L (sym (cond-true (are_over ps) k (last_part (k + size p) ps) none)) (omega arith, omega arith)
      | inr others ↦
          let rest = last_within (k + size p) ps others in
          subst L (sym (cond-false (are_over ps) k (last_part (k + size p) ps) others)) (omega (arith, rest.0), omega (arith, rest.1))
    ]

module _ (n : ℕ) (Calm : PortName → Type 0) (tokens : (t : Token) → Calm (shown (token_name t))) (dones : (actor : Actor) → Calm (shown (done_name (group_name actor)))) where
  abbrev Placed : List Piece → Type 0
  Placed ps = Each (IsPlanPiece n Calm) ps

  unless_placed : (p : Plan) (ps : List Piece) → (is_over p ≡ false → Placed ps) → Placed (none_if_over p ps)
  unless_placed p ps f = elim (cases_Bool (is_over p)) [
    | inl over ↦ subst Placed (sym (cond-true (is_over p) [] ps over)) tt
    | inr more ↦ subst Placed (sym (cond-false (is_over p) [] ps more)) (f more)
  ]

  later_placed : (k : ℕ) (p : Plan) (starts : GuardTree PortName) (pieces : List Piece) → (is_over p ≡ false → Placed pieces) → Placed (with_start k p starts pieces)
  later_placed k p starts pieces f = unless_placed p (piece Register (token_name (Starting k)) starts ∷ pieces) (λ more. (OfToken (Starting k) refl refl, f more))

  calm : (k : ℕ) (g : GuardTree PortName) → IsBitGuard Calm g → IsBitGuard (ReadsLater n Calm k) g
  calm k g is = bit_weaker Calm (ReadsLater n Calm k) (λ q here. inl here) g is

  end_at : (low k : ℕ) → low < k → k < n → IsBitGuard (ReadsLater n Calm low) (part_ends k)
  end_at low k later small = inr (record { part = k; later = later; small = small; is = refl })

  -- the ends of parts of a higher number
  ended_reads : (low k : ℕ) (ps : Plans) → low < k → k + sizes ps ≤ n → Each (IsBitGuard (ReadsLater n Calm low)) (ended_guards k ps)
  ended_reads low k NoPlans less few = tt
  ended_reads low k (MorePlans p ps) less few =
      let some = some_number p in
      each_append (IsBitGuard (ReadsLater n Calm low)) (none_if_over p (either (part_ends k) (has_token (Ended k)) ∷ [])) (ended_guards (k + size p) ps)
      (unless_bits (ReadsLater n Calm low) p (either (part_ends k) (has_token (Ended k)) ∷ []) (λ more.
      ((end_at low k less (omega arith), (inl (tokens (Ended k)), tt)), tt)))
      (ended_reads low (k + size p) ps (omega arith) (omega arith))

  mutual
    pub part_placed : (k : ℕ) (p : Plan) (start : GuardTree PortName) → is_over p ≡ false → k + size p ≤ n → EachPort Calm p → IsBitGuard Calm start → Placed (part_pieces k p start)
    part_placed k (Enables actor) start more few ports is = (
      OfEnd k (ends_guard k (Enables actor) start) (omega arith) refl ((calm k start is, (inl (tokens (Going k)), tt)), (inl (dones actor), tt)),
      (OfToken (Going k) refl refl, tt),
    )
    part_placed k (InTurn ps) start more few ports is =
        let last = last_within (k + 1) ps more in (
          OfEnd k (ends_guard k (InTurn ps) start) (omega arith) refl (end_at k (last_part (k + 1) ps) (omega (arith, last.0)) (omega (arith, last.1))),
          in_turn_placed (k + 1) ps start (omega arith) ports is,
        )
    part_placed k (AtOnce ps) start more few ports is = (
      OfEnd k (ends_guard k (AtOnce ps) start) (omega arith) refl
          (all_bits (ReadsLater n Calm k) (ended_guards (k + 1) ps) (ended_reads k (k + 1) ps (omega arith) (omega arith))),
      at_once_placed (k + 1) ps start (part_ends k) (omega arith) ports is,
    )
    part_placed k (Chooses port by on off) start more few ports is =
        let L : PortName → Type 0 = ReadsLater n Calm k in
        let one_size = some_number on in
        let two_size = some_number off in
        let nothing : List (GuardTree PortName) = chooses_nothing start port (is_over on) (is_over off) in
        let one : List (GuardTree PortName) = none_if_over on (part_ends (k + 1) ∷ []) in
        let two : List (GuardTree PortName) = none_if_over off (part_ends (k + 1 + size on) ∷ []) in
        let left : List Piece = with_start (k + 1) on (both start (reads port)) (part_pieces (k + 1) on (has_token (Starting (k + 1)))) in
        let right : List Piece =
        with_start (k + 1 + size on) off (both start (Negates (reads port))) (part_pieces (k + 1 + size on) off (has_token (Starting (k + 1 + size on)))) in (
          OfEnd k (ends_guard k (Chooses port by on off) start) (omega arith) refl
              (any_bits L ((nothing ++ one) ++ two)
              (each_append (IsBitGuard L) (nothing ++ one) two
              (each_append (IsBitGuard L) nothing one (nothing_bits L start port (is_over on) (is_over off) (calm k start is) (inl ports.0))
              (unless_bits L on (part_ends (k + 1) ∷ []) (λ lasts. (end_at k (k + 1) (omega arith) (omega arith), tt))))
              (unless_bits L off (part_ends (k + 1 + size on) ∷ []) (λ lasts. (end_at k (k + 1 + size on) (omega arith) (omega arith), tt))))),
          each_append (IsPlanPiece n Calm) left right
              (later_placed (k + 1) on (both start (reads port)) (part_pieces (k + 1) on (has_token (Starting (k + 1))))
              (λ lasts. part_placed (k + 1) on (has_token (Starting (k + 1))) lasts (omega arith) ports.1 (tokens (Starting (k + 1)))))
              (later_placed (k + 1 + size on) off (both start (Negates (reads port))) (part_pieces (k + 1 + size on) off (has_token (Starting (k + 1 + size on))))
              (λ lasts. part_placed (k + 1 + size on) off (has_token (Starting (k + 1 + size on))) lasts (omega arith) ports.2 (tokens (Starting (k + 1 + size on))))),
        )
    part_placed k (Repeats port by body) start more few ports is = (
      OfEnd k (ends_guard k (Repeats port by body) start) (omega arith) refl ((calm k start is, (inl (tokens (Again k)), tt)), (inl ports.0, tt)),
      (
        OfToken (Again k) refl refl,
        later_placed (k + 1) body (both (tested_guard k start) (reads port)) (part_pieces (k + 1) body (has_token (Starting (k + 1))))
            (λ lasts. part_placed (k + 1) body (has_token (Starting (k + 1))) lasts (omega arith) ports.1 (tokens (Starting (k + 1)))),
      ),
    )

    in_turn_placed : (k : ℕ) (ps : Plans) (start : GuardTree PortName) → k + sizes ps ≤ n → EachPortIn Calm ps → IsBitGuard Calm start → Placed (pieces_in_turn k ps start)
    in_turn_placed k NoPlans start few ports is = tt
    in_turn_placed k (MorePlans p ps) start few ports is =
        let first : List Piece = part_pieces k p start in
        let rest : List Piece = pieces_after (k + size p) ps (part_ends k) in
        elim (cases_Bool (is_over p)) [
          | inl over ↦ subst Placed (sym (cond-true (is_over p) (pieces_in_turn (k + size p) ps start) (first ++ rest) over))
              (in_turn_placed (k + size p) ps start (omega arith) ports.1 is)
          | inr lasts ↦ subst Placed (sym (cond-false (is_over p) (pieces_in_turn (k + size p) ps start) (first ++ rest) lasts))
              (each_append (IsPlanPiece n Calm) first rest (part_placed k p start lasts (omega arith) ports.0 is)
              (after_placed (k + size p) ps (part_ends k) (omega arith) ports.1))
        ]

    after_placed : (k : ℕ) (ps : Plans) (starts : GuardTree PortName) → k + sizes ps ≤ n → EachPortIn Calm ps → Placed (pieces_after k ps starts)
    after_placed k NoPlans starts few ports = tt
    after_placed k (MorePlans p ps) starts few ports =
        let first : List Piece = with_start k p starts (part_pieces k p (has_token (Starting k))) in
        let rest : List Piece = pieces_after (k + size p) ps (part_ends k) in
        elim (cases_Bool (is_over p)) [
          | inl over ↦ subst Placed (sym (cond-true (is_over p) (pieces_after (k + size p) ps starts) (first ++ rest) over))
              (after_placed (k + size p) ps starts (omega arith) ports.1)
          | inr lasts ↦ subst Placed (sym (cond-false (is_over p) (pieces_after (k + size p) ps starts) (first ++ rest) lasts))
              (each_append (IsPlanPiece n Calm) first rest
              (later_placed k p starts (part_pieces k p (has_token (Starting k)))
              (λ more. part_placed k p (has_token (Starting k)) more (omega arith) ports.0 (tokens (Starting k))))
              (after_placed (k + size p) ps (part_ends k) (omega arith) ports.1))
        ]

    at_once_placed : (k : ℕ) (ps : Plans) (start all : GuardTree PortName) → k + sizes ps ≤ n → EachPortIn Calm ps → IsBitGuard Calm start → Placed (pieces_at_once k ps start all)
    at_once_placed k NoPlans start all few ports is = tt
    at_once_placed k (MorePlans p ps) start all few ports is =
        let token : Piece = piece Register (token_name (Ended k)) (ended_guard k all) in
        let first : List Piece = none_if_over p (token ∷ part_pieces k p start) in
        let rest : List Piece = pieces_at_once (k + size p) ps start all in
        each_append (IsPlanPiece n Calm) first rest
        (unless_placed p (token ∷ part_pieces k p start) (λ lasts. (OfToken (Ended k) refl refl, part_placed k p start lasts (omega arith) ports.0 is)))
        (at_once_placed (k + size p) ps start all (omega arith) ports.1 is)
