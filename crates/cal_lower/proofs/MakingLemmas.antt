-- What parts of a plan make, put together: the arms of a plan, and plans one after another.
use Rattle.std.proofs.Common.{◌≡◌, ℕ, ◌+◌, Bool, true, false, List, [], ◌∷◌, ◌++◌, Option, Some, None, refl, sym, ap, subst, ◌∙◌, append_assoc}
use Rattle.std.specs.Prelude.{if◌then◌else◌, bytes_eq}
use Rattle.std.proofs.lemmas.List.{append-nil}
use Rattle.hw_names.specs.Name.{Text}
use Rattle.net_core.specs.Guard.{GuardTree, Negates}
use Rattle.cal_ast.specs.Actors.{Actor, GroupNamed}
use Rattle.cal_ast.specs.Plan.{Plan, Enables, InTurn, AtOnce, Chooses, Repeats, Plans, NoPlans, MorePlans}
use Rattle.cal_ast.specs.Tree.{PortName}
use Rattle.cal_token.specs.inside.Tokens.{Going, Starting, Ended, size}
use Rattle.cal_walk.specs.Left.{is_over}
use Rattle.cal_lower.specs.inside.Making.{Made, ShowsParts, with_made, part_made, later_made, in_turn_made, after_made, at_once_made, turn_made, choice_made, loop_made}
use Rattle.cal_lower.specs.inside.Parts.{part_ends, part_pieces, ends_wire, with_start, ended_guard, pieces_in_turn, pieces_after, pieces_at_once}
use Rattle.cal_lower.specs.inside.Parts.{enabling, enabling_in_turn, enabling_after, enabling_at_once}
use Rattle.cal_lower.specs.inside.Parts.{testing, testing_in_turn, testing_after, testing_at_once}
use Rattle.cal_lower.specs.inside.Pieces.{Piece, Register, piece, token_name, both, either, has_token, reads}
use Rattle.cal_lower.specs.inside.Shown.{ShowsPieces, ShowsWanted, more_of, nothing}
use Rattle.cal_lower.specs.declared.made.Parts.{Parts}

-- ---- the same in other brackets

-- the same pieces, and the same guards for each group
pub record Alike (a b : Made) : Type 0 where
  pub pieces : a.pieces ≡ b.pieces
  pub enabled : (group : Text) → a.enabled group ≡ b.enabled group
  pub tested : (group : Text) → a.tested group ≡ b.tested group

pub alike_refl : (a : Made) → Alike a a
alike_refl a = record { pieces = refl; enabled = λ group. refl; tested = λ group. refl }

pub alike_sym : (a b : Made) → Alike a b → Alike b a
alike_sym a b h = record { pieces = sym h.pieces; enabled = λ group. sym (h.enabled group); tested = λ group. sym (h.tested group) }

pub alike_trans : (a b c : Made) → Alike a b → Alike b c → Alike a c
alike_trans a b c h i = record {
  pieces = h.pieces ∙ i.pieces;
  enabled = λ group. h.enabled group ∙ i.enabled group;
  tested = λ group. h.tested group ∙ i.tested group;
}

-- nothing at all
abbrev pub none_made : Made
none_made = record { pieces = []; enabled = nothing; tested = nothing }

pub with_none : (a : Made) → Alike (with_made a none_made) a
with_none a = record {
  pieces = append-nil a.pieces;
  enabled = λ group. append-nil (a.enabled group);
  tested = λ group. append-nil (a.tested group);
}

pub with_assoc : (a b c : Made) → Alike (with_made (with_made a b) c) (with_made a (with_made b c))
with_assoc a b c = record {
  pieces = append_assoc a.pieces b.pieces c.pieces;
  enabled = λ group. append_assoc (a.enabled group) (b.enabled group) (c.enabled group);
  tested = λ group. append_assoc (a.tested group) (b.tested group) (c.tested group);
}

pub with_second : (a b c : Made) → Alike b c → Alike (with_made a b) (with_made a c)
with_second a b c h = record {
  pieces = ap (λ l. a.pieces ++ l) h.pieces;
  enabled = λ group. ap (λ l. a.enabled group ++ l) (h.enabled group);
  tested = λ group. ap (λ l. a.tested group ++ l) (h.tested group);
}

pub with_first : (a b c : Made) → Alike a b → Alike (with_made a c) (with_made b c)
with_first a b c h = record {
  pieces = ap (λ l. l ++ c.pieces) h.pieces;
  enabled = λ group. ap (λ l. l ++ c.enabled group) (h.enabled group);
  tested = λ group. ap (λ l. l ++ c.tested group) (h.tested group);
}

-- what shows one shows the other
pub shows_alike : (names : List Text) (a b : Made) (parts : Parts) → Alike a b → ShowsParts names a parts → ShowsParts names b parts
shows_alike names a b parts h shows = record {
  pieces = let P : List Piece → Type 0 = λ l. ShowsPieces names l parts.pieces in subst P h.pieces shows.pieces;
  acts = record {
    at = λ n group there.
        let (w, is, shown) = shows.acts.at n group there in
        let E : List (GuardTree PortName) → Type 0 = λ l. ShowsWanted names l (a.tested group) w in
        let T : List (GuardTree PortName) → Type 0 = λ l. ShowsWanted names (b.enabled group) l w in
        (w, is, subst T (h.tested group) (subst E (h.enabled group) shown));
  };
}

-- pieces alone
abbrev pub with_pieces : Made → List Piece → Made
with_pieces a list = record { pieces = a.pieces ++ list; enabled = a.enabled; tested = a.tested }

pub with_pieces_then : (a : Made) (list : List Piece) (b : Made) (whole : Made) → list ++ b.pieces ≡ whole.pieces → ((group : Text) → b.enabled group ≡ whole.enabled group)
    → ((group : Text) → b.tested group ≡ whole.tested group) → Alike (with_made (with_pieces a list) b) (with_made a whole)
with_pieces_then a list b whole pieces enabled tested = record {
  pieces = append_assoc a.pieces list b.pieces ∙ ap (λ l. a.pieces ++ l) pieces;
  enabled = λ group. ap (λ l. a.enabled group ++ l) (enabled group);
  tested = λ group. ap (λ l. a.tested group ++ l) (tested group);
}

-- one more guard for one group
pub more_is : (b : Bool) {X : Type 0} (xs : List X) (x : X) → (if b then xs ++ x ∷ [] else xs) ≡ xs ++ (if b then x ∷ [] else [])
more_is true xs x = refl
more_is false xs x = sym (append-nil xs)

-- ---- the arms of a plan

module _ (a : Made) (k : ℕ) (start : GuardTree PortName) where
  -- an enabled group: its two pieces, and that it is enabled
  pub enable_alike : (name : Text) (ends going : Piece) → ends ∷ going ∷ [] ≡ part_pieces k (Enables (GroupNamed name)) start →
      Alike (record {
        pieces = (a.pieces ++ ends ∷ []) ++ going ∷ [];
        enabled = more_of a.enabled name (either start (has_token (Going k)));
        tested = a.tested;
      }) (with_made a (part_made k (Enables (GroupNamed name)) start))
  enable_alike name ends going is = record {
    pieces = append_assoc a.pieces (ends ∷ []) (going ∷ []) ∙ ap (λ l. a.pieces ++ l) is;
    enabled = λ group. more_is (bytes_eq name group) (a.enabled group) (either start (has_token (Going k)));
    tested = λ group. sym (append-nil (a.tested group));
  }

  pub in_turn_alike : (ps : Plans) →
      Alike (with_made (with_pieces a (ends_wire k (InTurn ps) start ∷ [])) (in_turn_made (k + 1) ps start)) (with_made a (part_made k (InTurn ps) start))
  in_turn_alike ps =
      with_pieces_then a (ends_wire k (InTurn ps) start ∷ []) (in_turn_made (k + 1) ps start) (part_made k (InTurn ps) start) refl (λ group. refl) (λ group. refl)

  pub at_once_alike : (ps : Plans) →
      Alike (with_made (with_pieces a (ends_wire k (AtOnce ps) start ∷ [])) (at_once_made (k + 1) ps start (part_ends k))) (with_made a (part_made k (AtOnce ps) start))
  at_once_alike ps =
      with_pieces_then a (ends_wire k (AtOnce ps) start ∷ []) (at_once_made (k + 1) ps start (part_ends k)) (part_made k (AtOnce ps) start) refl (λ group. refl) (λ group. refl)

  -- a choice, and then its branches
  pub chooses_alike : (port : PortName) (by : Option Actor) (on off : Plan) →
      let first = with_made a (choice_made k (Chooses port by on off) by start) in
      let second = with_made first (later_made (k + 1) on (both start (reads port))) in
      Alike (with_made second (later_made (k + 1 + size on) off (both start (Negates (reads port))))) (with_made a (part_made k (Chooses port by on off) start))
  chooses_alike port by on off =
      let one = choice_made k (Chooses port by on off) by start in
      let two = later_made (k + 1) on (both start (reads port)) in
      let three = later_made (k + 1 + size on) off (both start (Negates (reads port))) in
      alike_trans (with_made (with_made (with_made a one) two) three) (with_made (with_made a (with_made one two)) three) (with_made a (part_made k (Chooses port by on off) start))
      (with_first (with_made (with_made a one) two) (with_made a (with_made one two)) three (with_assoc a one two))
      (with_assoc a (with_made one two) three)

  -- a loop, and then its body
  pub repeats_alike : (port : PortName) (by : Option Actor) (body : Plan) (next : GuardTree PortName) →
      with_made (loop_made k port by body start) (later_made (k + 1) body next) ≡ part_made k (Repeats port by body) start →
      Alike (with_made (with_made a (loop_made k port by body start)) (later_made (k + 1) body next)) (with_made a (part_made k (Repeats port by body) start))
  repeats_alike port by body next is =
      let R : Made → Type 0 = λ m. Alike (with_made (with_made a (loop_made k port by body start)) (later_made (k + 1) body next)) (with_made a m) in
      subst R is (with_assoc a (loop_made k port by body start) (later_made (k + 1) body next))

-- ---- a part that starts by its own token

pub later_over : (a : Made) (k : ℕ) (p : Plan) (next : GuardTree PortName) → is_over p ≡ true → Alike a (with_made a (later_made k p next))
later_over a k p next over = alike_sym (with_made a (later_made k p next)) a (record {
  pieces = ap (λ (b : Bool). a.pieces ++ (if b then [] else piece Register (token_name (Starting k)) next ∷ part_pieces k p (has_token (Starting k)))) over ∙ append-nil a.pieces;
  enabled = λ group. ap (λ (b : Bool). a.enabled group ++ (if b then [] else enabling k p (has_token (Starting k)) (GroupNamed group))) over ∙ append-nil (a.enabled group);
  tested = λ group. ap (λ (b : Bool). a.tested group ++ (if b then [] else testing k p (has_token (Starting k)) (GroupNamed group))) over ∙ append-nil (a.tested group);
})

pub later_lasts : (a : Made) (k : ℕ) (p : Plan) (next : GuardTree PortName) → is_over p ≡ false →
    Alike (with_made (with_pieces a (piece Register (token_name (Starting k)) next ∷ [])) (part_made k p (has_token (Starting k)))) (with_made a (later_made k p next))
later_lasts a k p next lasts =
    with_pieces_then a (piece Register (token_name (Starting k)) next ∷ []) (part_made k p (has_token (Starting k))) (later_made k p next)
    (sym (ap (λ (b : Bool). if b then [] else piece Register (token_name (Starting k)) next ∷ part_pieces k p (has_token (Starting k))) lasts))
    (λ group. sym (ap (λ (b : Bool). if b then [] else enabling k p (has_token (Starting k)) (GroupNamed group)) lasts))
    (λ group. sym (ap (λ (b : Bool). if b then [] else testing k p (has_token (Starting k)) (GroupNamed group)) lasts))

-- ---- plans in turn: the first that takes a row is still to come, or starts after a part

abbrev pub rest_made : Option ℕ → ℕ → Plans → GuardTree PortName → Made
rest_made None k ps start = in_turn_made k ps start
rest_made (Some before) k ps start = after_made k ps (part_ends before)

pub rest_none : (before : Option ℕ) (k : ℕ) (start : GuardTree PortName) → Alike (rest_made before k NoPlans start) none_made
rest_none None k start = alike_refl none_made
rest_none (Some before) k start = alike_refl none_made

pub rest_over : (before : Option ℕ) (k : ℕ) (p : Plan) (ps : Plans) (start : GuardTree PortName) → is_over p ≡ true
    → Alike (rest_made before k (MorePlans p ps) start) (rest_made before (k + size p) ps start)
rest_over None k p ps start over = record {
  pieces = ap (λ (b : Bool). if b then pieces_in_turn (k + size p) ps start else part_pieces k p start ++ pieces_after (k + size p) ps (part_ends k)) over;
  enabled = λ group.
      ap (λ (b : Bool). if b then enabling_in_turn (k + size p) ps start (GroupNamed group) else enabling k p start (GroupNamed group) ++ enabling_after (k + size p) ps (GroupNamed group)) over;
  tested = λ group.
      ap (λ (b : Bool). if b then testing_in_turn (k + size p) ps start (GroupNamed group) else testing k p start (GroupNamed group) ++ testing_after (k + size p) ps (GroupNamed group)) over;
}
rest_over (Some before) k p ps start over = record {
  pieces = ap (λ (b : Bool). if b then pieces_after (k + size p) ps (part_ends before) else with_start k p (part_ends before) (part_pieces k p (has_token (Starting k))) ++ pieces_after (k + size p) ps (part_ends k)) over;
  enabled = λ group.
      ap (λ (b : Bool). (if b then [] else enabling k p (has_token (Starting k)) (GroupNamed group)) ++ enabling_after (k + size p) ps (GroupNamed group)) over;
  tested = λ group.
      ap (λ (b : Bool). (if b then [] else testing k p (has_token (Starting k)) (GroupNamed group)) ++ testing_after (k + size p) ps (GroupNamed group)) over;
}

pub rest_lasts : (before : Option ℕ) (k : ℕ) (p : Plan) (ps : Plans) (start : GuardTree PortName) → is_over p ≡ false
    → Alike (rest_made before k (MorePlans p ps) start) (with_made (turn_made before k p start) (rest_made (Some k) (k + size p) ps start))
rest_lasts None k p ps start lasts = record {
  pieces = ap (λ (b : Bool). if b then pieces_in_turn (k + size p) ps start else part_pieces k p start ++ pieces_after (k + size p) ps (part_ends k)) lasts;
  enabled = λ group.
      ap (λ (b : Bool). if b then enabling_in_turn (k + size p) ps start (GroupNamed group) else enabling k p start (GroupNamed group) ++ enabling_after (k + size p) ps (GroupNamed group)) lasts;
  tested = λ group.
      ap (λ (b : Bool). if b then testing_in_turn (k + size p) ps start (GroupNamed group) else testing k p start (GroupNamed group) ++ testing_after (k + size p) ps (GroupNamed group)) lasts;
}
rest_lasts (Some before) k p ps start lasts = record {
  pieces = ap (λ (b : Bool). if b then pieces_after (k + size p) ps (part_ends before) else with_start k p (part_ends before) (part_pieces k p (has_token (Starting k))) ++ pieces_after (k + size p) ps (part_ends k)) lasts;
  enabled = λ group. refl;
  tested = λ group. refl;
}

-- ---- plans at once

abbrev pub ended_piece : ℕ → GuardTree PortName → Piece
ended_piece k all = piece Register (token_name (Ended k)) (ended_guard k all)

pub at_once_over : (k : ℕ) (p : Plan) (ps : Plans) (start all : GuardTree PortName) → is_over p ≡ true
    → Alike (at_once_made k (MorePlans p ps) start all) (at_once_made (k + size p) ps start all)
at_once_over k p ps start all over = record {
  pieces = ap (λ (b : Bool). (if b then [] else ended_piece k all ∷ part_pieces k p start) ++ pieces_at_once (k + size p) ps start all) over;
  enabled = λ group. ap (λ (b : Bool). (if b then [] else enabling k p start (GroupNamed group)) ++ enabling_at_once (k + size p) ps start (GroupNamed group)) over;
  tested = λ group. ap (λ (b : Bool). (if b then [] else testing k p start (GroupNamed group)) ++ testing_at_once (k + size p) ps start (GroupNamed group)) over;
}

-- the piece that keeps that a part has ended, and the part
abbrev pub one_at_once : ℕ → Plan → (start all : GuardTree PortName) → Made
one_at_once k p start all = record {
  pieces = ended_piece k all ∷ part_pieces k p start;
  enabled = (part_made k p start).enabled;
  tested = (part_made k p start).tested;
}

pub at_once_lasts : (k : ℕ) (p : Plan) (ps : Plans) (start all : GuardTree PortName) → is_over p ≡ false
    → Alike (at_once_made k (MorePlans p ps) start all) (with_made (one_at_once k p start all) (at_once_made (k + size p) ps start all))
at_once_lasts k p ps start all lasts = record {
  pieces = ap (λ (b : Bool). (if b then [] else ended_piece k all ∷ part_pieces k p start) ++ pieces_at_once (k + size p) ps start all) lasts;
  enabled = λ group. ap (λ (b : Bool). (if b then [] else enabling k p start (GroupNamed group)) ++ enabling_at_once (k + size p) ps start (GroupNamed group)) lasts;
  tested = λ group. ap (λ (b : Bool). (if b then [] else testing k p start (GroupNamed group)) ++ testing_at_once (k + size p) ps start (GroupNamed group)) lasts;
}

-- one more of them
pub one_alike : (a : Made) (k : ℕ) (p : Plan) (start all : GuardTree PortName)
    → Alike (with_made (with_pieces a (ended_piece k all ∷ [])) (part_made k p start)) (with_made a (one_at_once k p start all))
one_alike a k p start all =
    with_pieces_then a (ended_piece k all ∷ []) (part_made k p start) (one_at_once k p start all) refl (λ group. refl) (λ group. refl)
