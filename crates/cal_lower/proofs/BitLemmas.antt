-- The guards of a part read one-bit ports alone: the wires and registers of the plan, the dones of its groups and the ports of its conditions.
use Rattle.std.proofs.Common.{◌≡◌, ℕ, ◌+◌, ◌<◌, List, [], ◌∷◌, ◌++◌, Bool, true, false, Option, Some, None, refl, sym, subst, inl, inr, arith}
use Rattle.std.specs.Prelude.{All, if◌then◌else◌}
use Rattle.std.proofs.lemmas.Bool.{cases_Bool, cond-true, cond-false}
use Rattle.std.proofs.lemmas.List.Elements.{All-nil, All-cons, All-append}
use Rattle.net_core.specs.Graph.{guard_ports, guards_ports}
use Rattle.net_core.specs.Guard.{GuardTree, GuardTrees, Reads, Compares, Negates, AllOf, AnyOf, NoGuards, MoreGuards, guards_of}
use Rattle.net_core.specs.declared.net.Src.{Src}
use Rattle.net_core.specs.declared.net.Src.TheVariants.{Port, Lit}
use Rattle.cal_ast.specs.Actors.{Actor, same_actor}
use Rattle.cal_ast.specs.Plan.{Plan, Enables, InTurn, AtOnce, Chooses, Repeats, Plans, NoPlans, MorePlans}
use Rattle.cal_ast.specs.Tree.{PortName}
use Rattle.cal_walk.specs.Left.{is_over, are_over, is_by}
use Rattle.cal_token.specs.inside.Tokens.{Going, Starting, Ended, size}
use Rattle.cal_lower.specs.inside.Pieces.{Piece, Register, piece, token_name, ends_name, done_name, group_name, shown, has_token, reads, either, both, any_of, all_of}
use Rattle.cal_lower.specs.inside.Parts.{none_if_over, part_ends, tested_guard, chooses_nothing, last_part, ended_guards, again_guard, ended_guard}
use Rattle.cal_lower.specs.inside.Parts.{with_start, part_pieces, pieces_in_turn, pieces_after, pieces_at_once}
use Rattle.cal_lower.specs.inside.Parts.{enabling, enabling_in_turn, enabling_after, enabling_at_once, testing, testing_in_turn, testing_after, testing_at_once}
use Rattle.cal_lower.proofs.ListLemmas.{Each, each_append, each_left, each_right}
use Rattle.cal_lower.proofs.PartLemmas.{EachEnabled, EachEnabledIn, others_more}

-- a literal of one bit, or a port of which this holds
abbrev pub IsBitSource : (PortName → Type 0) → Src PortName → Type 0
IsBitSource P (Port p) = P p
IsBitSource P (Lit width value) = (width ≡ 1) × (value < 2)

abbrev mutual
  pub IsBitGuard : (PortName → Type 0) → GuardTree PortName → Type 0
  IsBitGuard P (Reads s) = IsBitSource P s
  IsBitGuard P (Compares op a b) = ⊥
  IsBitGuard P (Negates g) = IsBitGuard P g
  IsBitGuard P (AllOf gs) = AreBitGuards P gs
  IsBitGuard P (AnyOf gs) = AreBitGuards P gs

  pub AreBitGuards : (PortName → Type 0) → GuardTrees PortName → Type 0
  AreBitGuards P NoGuards = Unit {0}
  AreBitGuards P (MoreGuards g gs) = IsBitGuard P g × AreBitGuards P gs

abbrev pub IsBitOption : (PortName → Type 0) → Option (GuardTree PortName) → Type 0
IsBitOption P None = Unit {0}
IsBitOption P (Some g) = IsBitGuard P g

abbrev mutual
  pub EachPort : (PortName → Type 0) → Plan → Type 0
  EachPort P (Enables actor) = Unit {0}
  EachPort P (InTurn ps) = EachPortIn P ps
  EachPort P (AtOnce ps) = EachPortIn P ps
  EachPort P (Chooses port by on off) = P port × EachPort P on × EachPort P off
  EachPort P (Repeats port by body) = P port × EachPort P body

  pub EachPortIn : (PortName → Type 0) → Plans → Type 0
  EachPortIn P NoPlans = Unit {0}
  EachPortIn P (MorePlans p ps) = EachPort P p × EachPortIn P ps

module _ (P : PortName → Type 0) where
  -- ---- guards of bits

  mutual
    pub bit_ports : (g : GuardTree PortName) → IsBitGuard P g → All P (guard_ports g)
    bit_ports (Reads (Port p)) is = All-cons P p [] is (All-nil P)
    bit_ports (Reads (Lit width value)) is = All-nil P
    bit_ports (Compares op a b) is = absurd is
    bit_ports (Negates g) is = bit_ports g is
    bit_ports (AllOf gs) is = bits_ports gs is
    bit_ports (AnyOf gs) is = bits_ports gs is

    bits_ports : (gs : GuardTrees PortName) → AreBitGuards P gs → All P (guards_ports gs)
    bits_ports NoGuards is = All-nil P
    bits_ports (MoreGuards g gs) is = All-append P (guard_ports g) (guards_ports gs) (bit_ports g is.0) (bits_ports gs is.1)

  are_bits : (gs : List (GuardTree PortName)) → Each (IsBitGuard P) gs → AreBitGuards P (guards_of gs)
  are_bits [] all = tt
  are_bits (g ∷ gs) all = (all.0, are_bits gs all.1)

  pub any_bits : (gs : List (GuardTree PortName)) → Each (IsBitGuard P) gs → IsBitGuard P (any_of gs)
  any_bits [] all = (refl, omega arith)
  any_bits (g ∷ []) all = all.0
  any_bits (g ∷ h ∷ gs) all = are_bits (g ∷ h ∷ gs) all

  pub all_bits : (gs : List (GuardTree PortName)) → Each (IsBitGuard P) gs → IsBitGuard P (all_of gs)
  all_bits [] all = (refl, omega arith)
  all_bits (g ∷ []) all = all.0
  all_bits (g ∷ h ∷ gs) all = are_bits (g ∷ h ∷ gs) all

  -- ---- pieces

  abbrev pub IsNamed : Piece → Type 0
  IsNamed p = P (shown p.name)

  abbrev pub IsBitPiece : Piece → Type 0
  IsBitPiece p = IsBitOption P p.guard × IsBitSource P p.src

  -- the 1 that most pieces are driven by
  pub one_bit : IsBitSource P (Lit 1 1)
  one_bit = (refl, omega arith)

  abbrev pub IsDoneSeen : Actor → Type 0
  IsDoneSeen actor = P (shown (done_name (group_name actor)))

  -- a list that stands where a plan takes a row
  pub unless_bits : (p : Plan) (gs : List (GuardTree PortName)) → (is_over p ≡ false → Each (IsBitGuard P) gs) → Each (IsBitGuard P) (none_if_over p gs)
  unless_bits p gs f =
      let E : List (GuardTree PortName) → Type 0 = λ xs. Each (IsBitGuard P) xs in
      elim (cases_Bool (is_over p)) [
        | inl over ↦ subst E (sym (cond-true (is_over p) [] gs over)) tt
        | inr more ↦ subst E (sym (cond-false (is_over p) [] gs more)) (f more)
      ]

  pub nothing_bits : (start : GuardTree PortName) (port : PortName) (on_over off_over : Bool) → IsBitGuard P start → P port → Each (IsBitGuard P) (chooses_nothing start port on_over off_over)
  nothing_bits start port true true is bit = (is, tt)
  nothing_bits start port true false is bit = ((is, (bit, tt)), tt)
  nothing_bits start port false true is bit = ((is, (bit, tt)), tt)
  nothing_bits start port false false is bit = tt

  -- what a part that starts by its own token is named by
  later_named : (k : ℕ) (p : Plan) (starts : GuardTree PortName) (pieces : List Piece) → is_over p ≡ false → Each IsNamed (with_start k p starts pieces)
      → P (shown (token_name (Starting k))) × Each IsNamed pieces
  later_named k p starts pieces more named =
      let E : List Piece → Type 0 = λ ps. Each IsNamed ps in
      let here : Each IsNamed (piece Register (token_name (Starting k)) starts ∷ pieces) =
      subst E (cond-false (is_over p) [] (piece Register (token_name (Starting k)) starts ∷ pieces) more) named in
      (here.0, here.1)

  -- a part's first piece is the wire of its end
  pub first_named : (k : ℕ) (p : Plan) (start : GuardTree PortName) → Each IsNamed (part_pieces k p start) → P (shown (ends_name k))
  first_named k (Enables actor) start named = named.0
  first_named k (InTurn ps) start named = named.0
  first_named k (AtOnce ps) start named = named.0
  first_named k (Chooses port by on off) start named = named.0
  first_named k (Repeats port by body) start named = named.0

  later_end : (k : ℕ) (p : Plan) (starts : GuardTree PortName) → Each IsNamed (with_start k p starts (part_pieces k p (has_token (Starting k)))) → is_over p ≡ false → P (shown (ends_name k))
  later_end k p starts named more =
      first_named k p (has_token (Starting k)) (later_named k p starts (part_pieces k p (has_token (Starting k))) more named).1

  later_bits : (k : ℕ) (p : Plan) (starts : GuardTree PortName) → IsBitGuard P starts
      → (is_over p ≡ false → P (shown (token_name (Starting k))) → Each IsNamed (part_pieces k p (has_token (Starting k))) → Each IsBitPiece (part_pieces k p (has_token (Starting k))))
      → Each IsNamed (with_start k p starts (part_pieces k p (has_token (Starting k)))) → Each IsBitPiece (with_start k p starts (part_pieces k p (has_token (Starting k))))
  later_bits k p starts is part named =
      let pieces : List Piece = part_pieces k p (has_token (Starting k)) in
      let first : Piece = piece Register (token_name (Starting k)) starts in
      let B : List Piece → Type 0 = λ ps. Each IsBitPiece ps in
      elim (cases_Bool (is_over p)) [
        | inl over ↦ subst B (sym (cond-true (is_over p) [] (first ∷ pieces) over)) tt
        | inr more ↦
            let parts = later_named k p starts pieces more named in
            subst B (sym (cond-false (is_over p) [] (first ∷ pieces) more)) ((is, one_bit), part more parts.0 parts.1)
      ]

  -- ---- where plans in turn end

  after_end : (k : ℕ) (ps : Plans) (starts : GuardTree PortName) → Each IsNamed (pieces_after k ps starts) → are_over ps ≡ false → P (shown (ends_name (last_part k ps)))
  after_end k NoPlans starts named more = absurd (cc)
  after_end k (MorePlans p ps) starts named more =
      let N : ℕ → Type 0 = λ n. P (shown (ends_name n)) in
      let E : List Piece → Type 0 = λ xs. Each IsNamed xs in
      let first : List Piece = with_start k p starts (part_pieces k p (has_token (Starting k))) in
      let rest : List Piece = pieces_after (k + size p) ps (part_ends k) in
      elim (cases_Bool (is_over p)) [
        | inl over ↦
            let m : are_over ps ≡ false = others_more p ps over more in
            subst N (sym (cond-false (are_over ps) k (last_part (k + size p) ps) m))
            (after_end (k + size p) ps starts (subst E (cond-true (is_over p) (pieces_after (k + size p) ps starts) (first ++ rest) over) named) m)
        | inr lasts ↦
            let here : Each IsNamed (first ++ rest) = subst E (cond-false (is_over p) (pieces_after (k + size p) ps starts) (first ++ rest) lasts) named in
            elim (cases_Bool (are_over ps)) [
              | inl none ↦ subst N (sym (cond-true (are_over ps) k (last_part (k + size p) ps) none)) (later_end k p starts (each_left IsNamed first rest here) lasts)
              | inr some ↦ subst N (sym (cond-false (are_over ps) k (last_part (k + size p) ps) some))
                  (after_end (k + size p) ps (part_ends k) (each_right IsNamed first rest here) some)
            ]
      ]

  in_turn_end : (k : ℕ) (ps : Plans) (start : GuardTree PortName) → Each IsNamed (pieces_in_turn k ps start) → are_over ps ≡ false → P (shown (ends_name (last_part k ps)))
  in_turn_end k NoPlans start named more = absurd (cc)
  in_turn_end k (MorePlans p ps) start named more =
      let N : ℕ → Type 0 = λ n. P (shown (ends_name n)) in
      let E : List Piece → Type 0 = λ xs. Each IsNamed xs in
      let first : List Piece = part_pieces k p start in
      let rest : List Piece = pieces_after (k + size p) ps (part_ends k) in
      elim (cases_Bool (is_over p)) [
        | inl over ↦
            let m : are_over ps ≡ false = others_more p ps over more in
            subst N (sym (cond-false (are_over ps) k (last_part (k + size p) ps) m))
            (in_turn_end (k + size p) ps start (subst E (cond-true (is_over p) (pieces_in_turn (k + size p) ps start) (first ++ rest) over) named) m)
        | inr lasts ↦
            let here : Each IsNamed (first ++ rest) = subst E (cond-false (is_over p) (pieces_in_turn (k + size p) ps start) (first ++ rest) lasts) named in
            elim (cases_Bool (are_over ps)) [
              | inl none ↦ subst N (sym (cond-true (are_over ps) k (last_part (k + size p) ps) none)) (first_named k p start (each_left IsNamed first rest here))
              | inr some ↦ subst N (sym (cond-false (are_over ps) k (last_part (k + size p) ps) some))
                  (after_end (k + size p) ps (part_ends k) (each_right IsNamed first rest here) some)
            ]
      ]

  -- plans at once
  ended_bits : (k : ℕ) (ps : Plans) (start all : GuardTree PortName) → Each IsNamed (pieces_at_once k ps start all) → Each (IsBitGuard P) (ended_guards k ps)
  ended_bits k NoPlans start all named = tt
  ended_bits k (MorePlans p ps) start all named =
      let E : List Piece → Type 0 = λ xs. Each IsNamed xs in
      let token : Piece = piece Register (token_name (Ended k)) (ended_guard k all) in
      let first : List Piece = none_if_over p (token ∷ part_pieces k p start) in
      let rest : List Piece = pieces_at_once (k + size p) ps start all in
      each_append (IsBitGuard P) (none_if_over p (either (part_ends k) (has_token (Ended k)) ∷ [])) (ended_guards (k + size p) ps)
      (unless_bits p (either (part_ends k) (has_token (Ended k)) ∷ []) (λ more.
      let here : Each IsNamed (token ∷ part_pieces k p start) =
      subst E (cond-false (is_over p) [] (token ∷ part_pieces k p start) more) (each_left IsNamed first rest named) in
      ((first_named k p start here.1, (here.0, tt)), tt)))
      (ended_bits (k + size p) ps start all (each_right IsNamed first rest named))

  -- ---- the parts of a plan

  mutual
    pub part_bits : (k : ℕ) (p : Plan) (start : GuardTree PortName) → is_over p ≡ false → EachEnabled IsDoneSeen p → EachPort P p → IsBitGuard P start
        → Each IsNamed (part_pieces k p start) → Each IsBitPiece (part_pieces k p start)
    part_bits k (Enables actor) start more done ports is named =
        ((((is, (named.1.0, tt)), (done, tt)), one_bit), ((((is, (named.1.0, tt)), (done, tt)), one_bit), tt))
    part_bits k (InTurn ps) start more done ports is named =
        ((in_turn_end (k + 1) ps start named.1 more, one_bit), in_turn_bits (k + 1) ps start done ports is named.1)
    part_bits k (AtOnce ps) start more done ports is named =
        ((all_bits (ended_guards (k + 1) ps) (ended_bits (k + 1) ps start (part_ends k) named.1), one_bit), at_once_bits (k + 1) ps start (part_ends k) done ports is named.0 named.1)
    part_bits k (Chooses port by on off) start more done ports is named =
        let left : List Piece = with_start (k + 1) on (both start (reads port)) (part_pieces (k + 1) on (has_token (Starting (k + 1)))) in
        let right : List Piece =
        with_start (k + 1 + size on) off (both start (Negates (reads port))) (part_pieces (k + 1 + size on) off (has_token (Starting (k + 1 + size on)))) in
        let named_left : Each IsNamed left = each_left IsNamed left right named.1 in
        let named_right : Each IsNamed right = each_right IsNamed left right named.1 in
        let nothing : List (GuardTree PortName) = chooses_nothing start port (is_over on) (is_over off) in
        let one : List (GuardTree PortName) = none_if_over on (part_ends (k + 1) ∷ []) in
        let two : List (GuardTree PortName) = none_if_over off (part_ends (k + 1 + size on) ∷ []) in (
          (
            any_bits ((nothing ++ one) ++ two)
                (each_append (IsBitGuard P) (nothing ++ one) two
                (each_append (IsBitGuard P) nothing one (nothing_bits start port (is_over on) (is_over off) is ports.0)
                (unless_bits on (part_ends (k + 1) ∷ []) (λ lasts. (later_end (k + 1) on (both start (reads port)) named_left lasts, tt))))
                (unless_bits off (part_ends (k + 1 + size on) ∷ []) (λ lasts. (later_end (k + 1 + size on) off (both start (Negates (reads port))) named_right lasts, tt)))),
            one_bit,
          ),
          each_append IsBitPiece left right
              (later_bits (k + 1) on (both start (reads port)) (is, (ports.0, tt))
              (λ lasts token here. part_bits (k + 1) on (has_token (Starting (k + 1))) lasts done.0 ports.1 token here) named_left)
              (later_bits (k + 1 + size on) off (both start (Negates (reads port))) (is, (ports.0, tt))
              (λ lasts token here. part_bits (k + 1 + size on) off (has_token (Starting (k + 1 + size on))) lasts done.1 ports.2 token here) named_right),
        )
    part_bits k (Repeats port by body) start more done ports is named =
        let rest : List Piece = with_start (k + 1) body (both (tested_guard k start) (reads port)) (part_pieces (k + 1) body (has_token (Starting (k + 1)))) in
        let tested : IsBitGuard P (tested_guard k start) = (is, (named.1.0, tt)) in
        let two : GuardTree PortName = both (tested_guard k start) (reads port) in
        let G : GuardTree PortName → Type 0 = λ g. IsBitGuard P g in
        let again : IsBitGuard P (again_guard k port body start) = elim (cases_Bool (is_over body)) [
          | inl over ↦ subst G (sym (cond-true (is_over body) two (part_ends (k + 1)) over)) (tested, (ports.0, tt))
          | inr lasts ↦ subst G (sym (cond-false (is_over body) two (part_ends (k + 1)) lasts)) (later_end (k + 1) body two named.1.1 lasts)
        ] in (
          ((tested, (ports.0, tt)), one_bit),
          (
            (again, one_bit),
            later_bits (k + 1) body two (tested, (ports.0, tt))
                (λ lasts token here. part_bits (k + 1) body (has_token (Starting (k + 1))) lasts done ports.1 token here) named.1.1,
          ),
        )

    in_turn_bits : (k : ℕ) (ps : Plans) (start : GuardTree PortName) → EachEnabledIn IsDoneSeen ps → EachPortIn P ps → IsBitGuard P start
        → Each IsNamed (pieces_in_turn k ps start) → Each IsBitPiece (pieces_in_turn k ps start)
    in_turn_bits k NoPlans start done ports is named = tt
    in_turn_bits k (MorePlans p ps) start done ports is named =
        let E : List Piece → Type 0 = λ xs. Each IsNamed xs in
        let B : List Piece → Type 0 = λ xs. Each IsBitPiece xs in
        let first : List Piece = part_pieces k p start in
        let rest : List Piece = pieces_after (k + size p) ps (part_ends k) in
        elim (cases_Bool (is_over p)) [
          | inl over ↦ subst B (sym (cond-true (is_over p) (pieces_in_turn (k + size p) ps start) (first ++ rest) over))
              (in_turn_bits (k + size p) ps start done.1 ports.1 is (subst E (cond-true (is_over p) (pieces_in_turn (k + size p) ps start) (first ++ rest) over) named))
          | inr lasts ↦
              let here : Each IsNamed (first ++ rest) = subst E (cond-false (is_over p) (pieces_in_turn (k + size p) ps start) (first ++ rest) lasts) named in
              let named_first : Each IsNamed first = each_left IsNamed first rest here in
              subst B (sym (cond-false (is_over p) (pieces_in_turn (k + size p) ps start) (first ++ rest) lasts))
              (each_append IsBitPiece first rest (part_bits k p start lasts done.0 ports.0 is named_first)
              (after_bits (k + size p) ps (part_ends k) done.1 ports.1 (first_named k p start named_first) (each_right IsNamed first rest here)))
        ]

    after_bits : (k : ℕ) (ps : Plans) (starts : GuardTree PortName) → EachEnabledIn IsDoneSeen ps → EachPortIn P ps → IsBitGuard P starts
        → Each IsNamed (pieces_after k ps starts) → Each IsBitPiece (pieces_after k ps starts)
    after_bits k NoPlans starts done ports is named = tt
    after_bits k (MorePlans p ps) starts done ports is named =
        let E : List Piece → Type 0 = λ xs. Each IsNamed xs in
        let B : List Piece → Type 0 = λ xs. Each IsBitPiece xs in
        let first : List Piece = with_start k p starts (part_pieces k p (has_token (Starting k))) in
        let rest : List Piece = pieces_after (k + size p) ps (part_ends k) in
        elim (cases_Bool (is_over p)) [
          | inl over ↦ subst B (sym (cond-true (is_over p) (pieces_after (k + size p) ps starts) (first ++ rest) over))
              (after_bits (k + size p) ps starts done.1 ports.1 is (subst E (cond-true (is_over p) (pieces_after (k + size p) ps starts) (first ++ rest) over) named))
          | inr lasts ↦
              let here : Each IsNamed (first ++ rest) = subst E (cond-false (is_over p) (pieces_after (k + size p) ps starts) (first ++ rest) lasts) named in
              let named_first : Each IsNamed first = each_left IsNamed first rest here in
              subst B (sym (cond-false (is_over p) (pieces_after (k + size p) ps starts) (first ++ rest) lasts))
              (each_append IsBitPiece first rest
              (later_bits k p starts is (λ more token there. part_bits k p (has_token (Starting k)) more done.0 ports.0 token there) named_first)
              (after_bits (k + size p) ps (part_ends k) done.1 ports.1 (later_end k p starts named_first lasts) (each_right IsNamed first rest here)))
        ]

    at_once_bits : (k : ℕ) (ps : Plans) (start all : GuardTree PortName) → EachEnabledIn IsDoneSeen ps → EachPortIn P ps → IsBitGuard P start → IsBitGuard P all
        → Each IsNamed (pieces_at_once k ps start all) → Each IsBitPiece (pieces_at_once k ps start all)
    at_once_bits k NoPlans start all done ports is both_all named = tt
    at_once_bits k (MorePlans p ps) start all done ports is both_all named =
        let E : List Piece → Type 0 = λ xs. Each IsNamed xs in
        let B : List Piece → Type 0 = λ xs. Each IsBitPiece xs in
        let token : Piece = piece Register (token_name (Ended k)) (ended_guard k all) in
        let first : List Piece = none_if_over p (token ∷ part_pieces k p start) in
        let rest : List Piece = pieces_at_once (k + size p) ps start all in
        let bits : Each IsBitPiece first = elim (cases_Bool (is_over p)) [
          | inl over ↦ subst B (sym (cond-true (is_over p) [] (token ∷ part_pieces k p start) over)) tt
          | inr lasts ↦
              let here : Each IsNamed (token ∷ part_pieces k p start) =
              subst E (cond-false (is_over p) [] (token ∷ part_pieces k p start) lasts) (each_left IsNamed first rest named) in
              subst B (sym (cond-false (is_over p) [] (token ∷ part_pieces k p start) lasts))
              ((((first_named k p start here.1, (here.0, tt)), (both_all, tt)), one_bit), part_bits k p start lasts done.0 ports.0 is here.1)
        ] in
        each_append IsBitPiece first rest bits (at_once_bits (k + size p) ps start all done.1 ports.1 is both_all (each_right IsNamed first rest named))

  -- ---- the guards by which an actor is enabled, and acts in tests

  if_bits : (b : Bool) (g : GuardTree PortName) → IsBitGuard P g → Each (IsBitGuard P) (if b then g ∷ [] else [])
  if_bits true g is = (is, tt)
  if_bits false g is = tt

  mutual
    pub enabling_bits : (k : ℕ) (p : Plan) (start : GuardTree PortName) (actor : Actor) → is_over p ≡ false → IsBitGuard P start → Each IsNamed (part_pieces k p start)
        → Each (IsBitGuard P) (enabling k p start actor)
    enabling_bits k (Enables other) start actor more is named =
        if_bits (same_actor other actor) (either start (has_token (Going k))) (is, (named.1.0, tt))
    enabling_bits k (InTurn ps) start actor more is named = enabling_bits_in_turn (k + 1) ps start actor is named.1
    enabling_bits k (AtOnce ps) start actor more is named = enabling_bits_at_once (k + 1) ps start (part_ends k) actor is named.1
    enabling_bits k (Chooses port by on off) start actor more is named =
        let left : List Piece = with_start (k + 1) on (both start (reads port)) (part_pieces (k + 1) on (has_token (Starting (k + 1)))) in
        let right : List Piece =
        with_start (k + 1 + size on) off (both start (Negates (reads port))) (part_pieces (k + 1 + size on) off (has_token (Starting (k + 1 + size on)))) in
        each_append (IsBitGuard P) (none_if_over on (enabling (k + 1) on (has_token (Starting (k + 1))) actor))
        (none_if_over off (enabling (k + 1 + size on) off (has_token (Starting (k + 1 + size on))) actor))
        (unless_bits on (enabling (k + 1) on (has_token (Starting (k + 1))) actor) (λ lasts.
        let parts = later_named (k + 1) on (both start (reads port)) (part_pieces (k + 1) on (has_token (Starting (k + 1)))) lasts (each_left IsNamed left right named.1) in
        enabling_bits (k + 1) on (has_token (Starting (k + 1))) actor lasts parts.0 parts.1))
        (unless_bits off (enabling (k + 1 + size on) off (has_token (Starting (k + 1 + size on))) actor) (λ lasts.
        let parts =
        later_named (k + 1 + size on) off (both start (Negates (reads port))) (part_pieces (k + 1 + size on) off (has_token (Starting (k + 1 + size on)))) lasts
        (each_right IsNamed left right named.1) in
        enabling_bits (k + 1 + size on) off (has_token (Starting (k + 1 + size on))) actor lasts parts.0 parts.1))
    enabling_bits k (Repeats port by body) start actor more is named =
        unless_bits body (enabling (k + 1) body (has_token (Starting (k + 1))) actor) (λ lasts.
        let parts =
        later_named (k + 1) body (both (tested_guard k start) (reads port)) (part_pieces (k + 1) body (has_token (Starting (k + 1)))) lasts named.1.1 in
        enabling_bits (k + 1) body (has_token (Starting (k + 1))) actor lasts parts.0 parts.1)

    enabling_bits_in_turn : (k : ℕ) (ps : Plans) (start : GuardTree PortName) (actor : Actor) → IsBitGuard P start → Each IsNamed (pieces_in_turn k ps start)
        → Each (IsBitGuard P) (enabling_in_turn k ps start actor)
    enabling_bits_in_turn k NoPlans start actor is named = tt
    enabling_bits_in_turn k (MorePlans p ps) start actor is named =
        let E : List Piece → Type 0 = λ xs. Each IsNamed xs in
        let G : List (GuardTree PortName) → Type 0 = λ xs. Each (IsBitGuard P) xs in
        let first : List Piece = part_pieces k p start in
        let rest : List Piece = pieces_after (k + size p) ps (part_ends k) in
        let one : List (GuardTree PortName) = enabling k p start actor in
        let two : List (GuardTree PortName) = enabling_after (k + size p) ps actor in
        elim (cases_Bool (is_over p)) [
          | inl over ↦ subst G (sym (cond-true (is_over p) (enabling_in_turn (k + size p) ps start actor) (one ++ two) over))
              (enabling_bits_in_turn (k + size p) ps start actor is (subst E (cond-true (is_over p) (pieces_in_turn (k + size p) ps start) (first ++ rest) over) named))
          | inr lasts ↦
              let here : Each IsNamed (first ++ rest) = subst E (cond-false (is_over p) (pieces_in_turn (k + size p) ps start) (first ++ rest) lasts) named in
              subst G (sym (cond-false (is_over p) (enabling_in_turn (k + size p) ps start actor) (one ++ two) lasts))
              (each_append (IsBitGuard P) one two (enabling_bits k p start actor lasts is (each_left IsNamed first rest here))
              (enabling_bits_after (k + size p) ps (part_ends k) actor (each_right IsNamed first rest here)))
        ]

    enabling_bits_after : (k : ℕ) (ps : Plans) (starts : GuardTree PortName) (actor : Actor) → Each IsNamed (pieces_after k ps starts)
        → Each (IsBitGuard P) (enabling_after k ps actor)
    enabling_bits_after k NoPlans starts actor named = tt
    enabling_bits_after k (MorePlans p ps) starts actor named =
        let E : List Piece → Type 0 = λ xs. Each IsNamed xs in
        let G : List (GuardTree PortName) → Type 0 = λ xs. Each (IsBitGuard P) xs in
        let first : List Piece = with_start k p starts (part_pieces k p (has_token (Starting k))) in
        let rest : List Piece = pieces_after (k + size p) ps (part_ends k) in
        let one : List (GuardTree PortName) = none_if_over p (enabling k p (has_token (Starting k)) actor) in
        let two : List (GuardTree PortName) = enabling_after (k + size p) ps actor in
        elim (cases_Bool (is_over p)) [
          | inl over ↦ each_append (IsBitGuard P) one two (subst G (sym (cond-true (is_over p) [] (enabling k p (has_token (Starting k)) actor) over)) tt)
              (enabling_bits_after (k + size p) ps starts actor (subst E (cond-true (is_over p) (pieces_after (k + size p) ps starts) (first ++ rest) over) named))
          | inr lasts ↦
              let here : Each IsNamed (first ++ rest) = subst E (cond-false (is_over p) (pieces_after (k + size p) ps starts) (first ++ rest) lasts) named in
              let parts = later_named k p starts (part_pieces k p (has_token (Starting k))) lasts (each_left IsNamed first rest here) in
              each_append (IsBitGuard P) one two
              (subst G (sym (cond-false (is_over p) [] (enabling k p (has_token (Starting k)) actor) lasts)) (enabling_bits k p (has_token (Starting k)) actor lasts parts.0 parts.1))
              (enabling_bits_after (k + size p) ps (part_ends k) actor (each_right IsNamed first rest here))
        ]

    enabling_bits_at_once : (k : ℕ) (ps : Plans) (start all : GuardTree PortName) (actor : Actor) → IsBitGuard P start → Each IsNamed (pieces_at_once k ps start all)
        → Each (IsBitGuard P) (enabling_at_once k ps start actor)
    enabling_bits_at_once k NoPlans start all actor is named = tt
    enabling_bits_at_once k (MorePlans p ps) start all actor is named =
        let E : List Piece → Type 0 = λ xs. Each IsNamed xs in
        let token : Piece = piece Register (token_name (Ended k)) (ended_guard k all) in
        let first : List Piece = none_if_over p (token ∷ part_pieces k p start) in
        let rest : List Piece = pieces_at_once (k + size p) ps start all in
        each_append (IsBitGuard P) (none_if_over p (enabling k p start actor)) (enabling_at_once (k + size p) ps start actor)
        (unless_bits p (enabling k p start actor) (λ lasts.
        let here : Each IsNamed (token ∷ part_pieces k p start) =
        subst E (cond-false (is_over p) [] (token ∷ part_pieces k p start) lasts) (each_left IsNamed first rest named) in
        enabling_bits k p start actor lasts is here.1))
        (enabling_bits_at_once (k + size p) ps start all actor is (each_right IsNamed first rest named))

  mutual
    pub testing_bits : (k : ℕ) (p : Plan) (start : GuardTree PortName) (actor : Actor) → is_over p ≡ false → IsBitGuard P start → Each IsNamed (part_pieces k p start)
        → Each (IsBitGuard P) (testing k p start actor)
    testing_bits k (Enables other) start actor more is named = tt
    testing_bits k (InTurn ps) start actor more is named = testing_bits_in_turn (k + 1) ps start actor is named.1
    testing_bits k (AtOnce ps) start actor more is named = testing_bits_at_once (k + 1) ps start (part_ends k) actor is named.1
    testing_bits k (Chooses port by on off) start actor more is named =
        let left : List Piece = with_start (k + 1) on (both start (reads port)) (part_pieces (k + 1) on (has_token (Starting (k + 1)))) in
        let right : List Piece =
        with_start (k + 1 + size on) off (both start (Negates (reads port))) (part_pieces (k + 1 + size on) off (has_token (Starting (k + 1 + size on)))) in
        let one : List (GuardTree PortName) = none_if_over on (testing (k + 1) on (has_token (Starting (k + 1))) actor) in
        let two : List (GuardTree PortName) = none_if_over off (testing (k + 1 + size on) off (has_token (Starting (k + 1 + size on))) actor) in
        each_append (IsBitGuard P) ((if is_by by actor then start ∷ [] else []) ++ one) two
        (each_append (IsBitGuard P) (if is_by by actor then start ∷ [] else []) one (if_bits (is_by by actor) start is)
        (unless_bits on (testing (k + 1) on (has_token (Starting (k + 1))) actor) (λ lasts.
        let parts = later_named (k + 1) on (both start (reads port)) (part_pieces (k + 1) on (has_token (Starting (k + 1)))) lasts (each_left IsNamed left right named.1) in
        testing_bits (k + 1) on (has_token (Starting (k + 1))) actor lasts parts.0 parts.1)))
        (unless_bits off (testing (k + 1 + size on) off (has_token (Starting (k + 1 + size on))) actor) (λ lasts.
        let parts =
        later_named (k + 1 + size on) off (both start (Negates (reads port))) (part_pieces (k + 1 + size on) off (has_token (Starting (k + 1 + size on)))) lasts
        (each_right IsNamed left right named.1) in
        testing_bits (k + 1 + size on) off (has_token (Starting (k + 1 + size on))) actor lasts parts.0 parts.1))
    testing_bits k (Repeats port by body) start actor more is named =
        each_append (IsBitGuard P) (if is_by by actor then tested_guard k start ∷ [] else []) (none_if_over body (testing (k + 1) body (has_token (Starting (k + 1))) actor))
        (if_bits (is_by by actor) (tested_guard k start) (is, (named.1.0, tt)))
        (unless_bits body (testing (k + 1) body (has_token (Starting (k + 1))) actor) (λ lasts.
        let parts =
        later_named (k + 1) body (both (tested_guard k start) (reads port)) (part_pieces (k + 1) body (has_token (Starting (k + 1)))) lasts named.1.1 in
        testing_bits (k + 1) body (has_token (Starting (k + 1))) actor lasts parts.0 parts.1))

    testing_bits_in_turn : (k : ℕ) (ps : Plans) (start : GuardTree PortName) (actor : Actor) → IsBitGuard P start → Each IsNamed (pieces_in_turn k ps start)
        → Each (IsBitGuard P) (testing_in_turn k ps start actor)
    testing_bits_in_turn k NoPlans start actor is named = tt
    testing_bits_in_turn k (MorePlans p ps) start actor is named =
        let E : List Piece → Type 0 = λ xs. Each IsNamed xs in
        let G : List (GuardTree PortName) → Type 0 = λ xs. Each (IsBitGuard P) xs in
        let first : List Piece = part_pieces k p start in
        let rest : List Piece = pieces_after (k + size p) ps (part_ends k) in
        let one : List (GuardTree PortName) = testing k p start actor in
        let two : List (GuardTree PortName) = testing_after (k + size p) ps actor in
        elim (cases_Bool (is_over p)) [
          | inl over ↦ subst G (sym (cond-true (is_over p) (testing_in_turn (k + size p) ps start actor) (one ++ two) over))
              (testing_bits_in_turn (k + size p) ps start actor is (subst E (cond-true (is_over p) (pieces_in_turn (k + size p) ps start) (first ++ rest) over) named))
          | inr lasts ↦
              let here : Each IsNamed (first ++ rest) = subst E (cond-false (is_over p) (pieces_in_turn (k + size p) ps start) (first ++ rest) lasts) named in
              subst G (sym (cond-false (is_over p) (testing_in_turn (k + size p) ps start actor) (one ++ two) lasts))
              (each_append (IsBitGuard P) one two (testing_bits k p start actor lasts is (each_left IsNamed first rest here))
              (testing_bits_after (k + size p) ps (part_ends k) actor (each_right IsNamed first rest here)))
        ]

    testing_bits_after : (k : ℕ) (ps : Plans) (starts : GuardTree PortName) (actor : Actor) → Each IsNamed (pieces_after k ps starts)
        → Each (IsBitGuard P) (testing_after k ps actor)
    testing_bits_after k NoPlans starts actor named = tt
    testing_bits_after k (MorePlans p ps) starts actor named =
        let E : List Piece → Type 0 = λ xs. Each IsNamed xs in
        let G : List (GuardTree PortName) → Type 0 = λ xs. Each (IsBitGuard P) xs in
        let first : List Piece = with_start k p starts (part_pieces k p (has_token (Starting k))) in
        let rest : List Piece = pieces_after (k + size p) ps (part_ends k) in
        let one : List (GuardTree PortName) = none_if_over p (testing k p (has_token (Starting k)) actor) in
        let two : List (GuardTree PortName) = testing_after (k + size p) ps actor in
        elim (cases_Bool (is_over p)) [
          | inl over ↦ each_append (IsBitGuard P) one two (subst G (sym (cond-true (is_over p) [] (testing k p (has_token (Starting k)) actor) over)) tt)
              (testing_bits_after (k + size p) ps starts actor (subst E (cond-true (is_over p) (pieces_after (k + size p) ps starts) (first ++ rest) over) named))
          | inr lasts ↦
              let here : Each IsNamed (first ++ rest) = subst E (cond-false (is_over p) (pieces_after (k + size p) ps starts) (first ++ rest) lasts) named in
              let parts = later_named k p starts (part_pieces k p (has_token (Starting k))) lasts (each_left IsNamed first rest here) in
              each_append (IsBitGuard P) one two
              (subst G (sym (cond-false (is_over p) [] (testing k p (has_token (Starting k)) actor) lasts)) (testing_bits k p (has_token (Starting k)) actor lasts parts.0 parts.1))
              (testing_bits_after (k + size p) ps (part_ends k) actor (each_right IsNamed first rest here))
        ]

    testing_bits_at_once : (k : ℕ) (ps : Plans) (start all : GuardTree PortName) (actor : Actor) → IsBitGuard P start → Each IsNamed (pieces_at_once k ps start all)
        → Each (IsBitGuard P) (testing_at_once k ps start actor)
    testing_bits_at_once k NoPlans start all actor is named = tt
    testing_bits_at_once k (MorePlans p ps) start all actor is named =
        let E : List Piece → Type 0 = λ xs. Each IsNamed xs in
        let token : Piece = piece Register (token_name (Ended k)) (ended_guard k all) in
        let first : List Piece = none_if_over p (token ∷ part_pieces k p start) in
        let rest : List Piece = pieces_at_once (k + size p) ps start all in
        each_append (IsBitGuard P) (none_if_over p (testing k p start actor)) (testing_at_once (k + size p) ps start actor)
        (unless_bits p (testing k p start actor) (λ lasts.
        let here : Each IsNamed (token ∷ part_pieces k p start) =
        subst E (cond-false (is_over p) [] (token ∷ part_pieces k p start) lasts) (each_left IsNamed first rest named) in
        testing_bits k p start actor lasts is here.1))
        (testing_bits_at_once (k + size p) ps start all actor is (each_right IsNamed first rest named))
