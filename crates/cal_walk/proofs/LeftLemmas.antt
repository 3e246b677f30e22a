-- What is left of a plan after a row takes the rows that the plan takes, and lets the same actors act.
use Rattle.std.proofs.Common.{◌≡◌, ◌⊎◌, ℕ, ◌+◌, ◌<◌, ◌≤◌, max, Bool, true, false, ◌&&◌, refl, sym, ◌∙◌, subst, inl, inr, arith}
use Rattle.std.specs.Prelude.{if◌then◌else◌}
use Rattle.std.proofs.lemmas.Bool.{cases_Bool, cases_order}
use Rattle.cal_ast.specs.Actors.{Actor}
use Rattle.cal_ast.specs.Plan.{Plan, Enables, InTurn, AtOnce, Chooses, Repeats, Plans, NoPlans, MorePlans}
use Rattle.cal_ast.specs.Spans.{View, IsFirst, IsTested, AtStart, AfterTurn, Spans, SpansInTurn, SpansAtOnce, ActsInTest, ActsEnabled, Acts, ActsInTurn, ActsAtOnce}
use Rattle.cal_ast.specs.Tree.{PortName}
use Rattle.cal_walk.specs.Left.{Sight, sight_at, is_over, are_over, nothing, before_others, left, left_in_turn, left_at_once}

both_true : (a b : Bool) → (a && b) ≡ true → (a ≡ true) × (b ≡ true)
both_true true b e = (refl, e)
both_true false b e = absurd (cc)

either_false : (a b : Bool) → (a && b) ≡ false → (a ≡ false) ⊎ ((a ≡ true) × (b ≡ false))
either_false true b e = inr (refl, e)
either_false false b e = inl refl

pub not_both : (b : Bool) → b ≡ true → b ≡ false → ⊥
not_both b yes' no' = cc

-- a row that isn't before t is t, or is after it
pub row_cases : (t r : ℕ) → t ≤ r → (r ≡ t) ⊎ (t < r)
row_cases t r from = elim (cases_order r t) [ inl same ↦ inl same | inr (inl less) ↦ absurd (omega arith) | inr (inr more) ↦ inr more ]

-- ---- where plans end

module _ (v : View) where
  pub tested_from : (port : PortName) (body : ℕ → ℕ → Type 0) (t r : ℕ) → ((a b : ℕ) → body a b → a ≤ b) → IsTested v port body t r → t ≤ r
  tested_from port body t r turns (AtStart) = omega arith
  tested_from port body t r turns (AfterTurn test next before here on turn) =
      let one : t ≤ test = tested_from port body t test turns before in
      let two : test + 1 ≤ r = turns (test + 1) r turn in
      omega arith

  mutual
    pub spans_from : (p : Plan) (t end : ℕ) → Spans v p t end → t ≤ end
    spans_from (Enables a) t end (u, first, e) = let from : t ≤ u = first.from in omega arith
    spans_from (InTurn ps) t end spans = in_turn_from ps t end spans
    spans_from (AtOnce ps) t end spans = at_once_from ps t end spans
    spans_from (Chooses port by on off) t end (inl (here, reads, spans)) = let later : t + 1 ≤ end = spans_from on (t + 1) end spans in omega arith
    spans_from (Chooses port by on off) t end (inr (here, reads, spans)) = let later : t + 1 ≤ end = spans_from off (t + 1) end spans in omega arith
    spans_from (Repeats port by body) t end (r, tested, here, reads, e) =
        let from : t ≤ r = tested_from port (Spans v body) t r (spans_from body) tested in omega arith

    in_turn_from : (ps : Plans) (t end : ℕ) → SpansInTurn v ps t end → t ≤ end
    in_turn_from NoPlans t end e = omega arith
    in_turn_from (MorePlans p ps) t end (next, spans, others) =
        let one : t ≤ next = spans_from p t next spans in
        let two : next ≤ end = in_turn_from ps next end others in
        omega arith

    at_once_from : (ps : Plans) (t end : ℕ) → SpansAtOnce v ps t end → t ≤ end
    at_once_from NoPlans t end e = omega arith
    at_once_from (MorePlans p ps) t end (a, b, spans, others, e) =
        let one : t ≤ a = spans_from p t a spans in omega arith

  -- a plan that takes no row ends where it starts
  mutual
    pub over_end : (p : Plan) (t end : ℕ) → is_over p ≡ true → Spans v p t end → end ≡ t
    over_end (Enables a) t end over spans = absurd (cc)
    over_end (InTurn ps) t end over spans = in_turn_over ps t end over spans
    over_end (AtOnce ps) t end over spans = at_once_over ps t end over spans
    over_end (Chooses port by on off) t end over spans = absurd (cc)
    over_end (Repeats port by body) t end over spans = absurd (cc)

    in_turn_over : (ps : Plans) (t end : ℕ) → are_over ps ≡ true → SpansInTurn v ps t end → end ≡ t
    in_turn_over NoPlans t end over e = e
    in_turn_over (MorePlans p ps) t end over (next, spans, others) =
        let each = both_true (is_over p) (are_over ps) over in
        in_turn_over ps next end each.1 others ∙ over_end p t next each.0 spans

    at_once_over : (ps : Plans) (t end : ℕ) → are_over ps ≡ true → SpansAtOnce v ps t end → end ≡ t
    at_once_over NoPlans t end over e = e
    at_once_over (MorePlans p ps) t end over (a, b, spans, others, e) =
        let each = both_true (is_over p) (are_over ps) over in
        let one : a ≡ t = over_end p t a each.0 spans in
        let two : b ≡ t = at_once_over ps t b each.1 others in
        omega arith

  mutual
    pub over_spans : (p : Plan) (t : ℕ) → is_over p ≡ true → Spans v p t t
    over_spans (Enables a) t over = absurd (cc)
    over_spans (InTurn ps) t over = over_in_turn ps t over
    over_spans (AtOnce ps) t over = over_at_once ps t over
    over_spans (Chooses port by on off) t over = absurd (cc)
    over_spans (Repeats port by body) t over = absurd (cc)

    over_in_turn : (ps : Plans) (t : ℕ) → are_over ps ≡ true → SpansInTurn v ps t t
    over_in_turn NoPlans t over = refl
    over_in_turn (MorePlans p ps) t over = let each = both_true (is_over p) (are_over ps) over in (t, over_spans p t each.0, over_in_turn ps t each.1)

    over_at_once : (ps : Plans) (t : ℕ) → are_over ps ≡ true → SpansAtOnce v ps t t
    over_at_once NoPlans t over = refl
    over_at_once (MorePlans p ps) t over =
        let each = both_true (is_over p) (are_over ps) over in (t, t, over_spans p t each.0, over_at_once ps t each.1, omega arith)

  -- and lets nothing act
  mutual
    pub over_acts : (p : Plan) (t : ℕ) (actor : Actor) (r : ℕ) → is_over p ≡ true → Acts v p t actor r → ⊥
    over_acts (Enables a) t actor r over acts = cc
    over_acts (InTurn ps) t actor r over acts = over_acts_in_turn ps t actor r over acts
    over_acts (AtOnce ps) t actor r over acts = over_acts_at_once ps t actor r over acts
    over_acts (Chooses port by on off) t actor r over acts = cc
    over_acts (Repeats port by body) t actor r over acts = cc

    over_acts_in_turn : (ps : Plans) (t : ℕ) (actor : Actor) (r : ℕ) → are_over ps ≡ true → ActsInTurn v ps t actor r → ⊥
    over_acts_in_turn NoPlans t actor r over acts = acts
    over_acts_in_turn (MorePlans p ps) t actor r over (inl acts) = over_acts p t actor r (both_true (is_over p) (are_over ps) over).0 acts
    over_acts_in_turn (MorePlans p ps) t actor r over (inr (next, spans, acts)) =
        over_acts_in_turn ps next actor r (both_true (is_over p) (are_over ps) over).1 acts

    over_acts_at_once : (ps : Plans) (t : ℕ) (actor : Actor) (r : ℕ) → are_over ps ≡ true → ActsAtOnce v ps t actor r → ⊥
    over_acts_at_once NoPlans t actor r over acts = acts
    over_acts_at_once (MorePlans p ps) t actor r over (inl acts) = over_acts p t actor r (both_true (is_over p) (are_over ps) over).0 acts
    over_acts_at_once (MorePlans p ps) t actor r over (inr acts) = over_acts_at_once ps t actor r (both_true (is_over p) (are_over ps) over).1 acts

  -- a plan that takes a row needs the row in which it starts
  mutual
    pub lasts : (p : Plan) (t end : ℕ) → is_over p ≡ false → Spans v p t end → (t < end) × (t < v.rows)
    lasts (Enables a) t end over (u, first, e) = let from : t ≤ u = first.from in let within : u < v.rows = first.within in (omega arith, omega arith)
    lasts (InTurn ps) t end over spans = in_turn_lasts ps t end over spans
    lasts (AtOnce ps) t end over spans = at_once_lasts ps t end over spans
    lasts (Chooses port by on off) t end over (inl (here, reads, spans)) = let later : t + 1 ≤ end = spans_from on (t + 1) end spans in (omega arith, here)
    lasts (Chooses port by on off) t end over (inr (here, reads, spans)) = let later : t + 1 ≤ end = spans_from off (t + 1) end spans in (omega arith, here)
    lasts (Repeats port by body) t end over (r, tested, here, reads, e) =
        let from : t ≤ r = tested_from port (Spans v body) t r (spans_from body) tested in (omega arith, omega arith)

    in_turn_lasts : (ps : Plans) (t end : ℕ) → are_over ps ≡ false → SpansInTurn v ps t end → (t < end) × (t < v.rows)
    in_turn_lasts NoPlans t end over spans = absurd (cc)
    in_turn_lasts (MorePlans p ps) t end over (next, spans, others) = elim (either_false (is_over p) (are_over ps) over) [
      | inl first ↦
          let here : (t < next) × (t < v.rows) = lasts p t next first spans in
          let from : next ≤ end = in_turn_from ps next end others in
          (omega (arith, here.0), here.1)
      | inr (first, rest) ↦
          let same : next ≡ t = over_end p t next first spans in
          let later : (next < end) × (next < v.rows) = in_turn_lasts ps next end rest others in
          (omega (arith, later.0), omega (arith, later.1))
    ]

    at_once_lasts : (ps : Plans) (t end : ℕ) → are_over ps ≡ false → SpansAtOnce v ps t end → (t < end) × (t < v.rows)
    at_once_lasts NoPlans t end over spans = absurd (cc)
    at_once_lasts (MorePlans p ps) t end over (a, b, spans, others, e) = elim (either_false (is_over p) (are_over ps) over) [
      | inl first ↦ let here : (t < a) × (t < v.rows) = lasts p t a first spans in (omega (arith, here.0), here.1)
      | inr (first, rest) ↦ let later : (t < b) × (t < v.rows) = at_once_lasts ps t b rest others in (omega (arith, later.0), later.1)
    ]

  -- actors act from the start on, in rows that are there
  mutual
    pub acts_within : (p : Plan) (t : ℕ) (actor : Actor) (r : ℕ) → Acts v p t actor r → (t ≤ r) × (r < v.rows)
    acts_within (Enables a) t actor r acts = (acts.from, acts.within)
    acts_within (InTurn ps) t actor r acts = in_turn_within ps t actor r acts
    acts_within (AtOnce ps) t actor r acts = at_once_within ps t actor r acts
    acts_within (Chooses port by on off) t actor r (inl test) = let same : r ≡ t = test.here in (omega arith, test.within)
    acts_within (Chooses port by on off) t actor r (inr (inl (here, reads, acts))) =
        let later : (t + 1 ≤ r) × (r < v.rows) = acts_within on (t + 1) actor r acts in (omega (arith, later.0), later.1)
    acts_within (Chooses port by on off) t actor r (inr (inr (here, reads, acts))) =
        let later : (t + 1 ≤ r) × (r < v.rows) = acts_within off (t + 1) actor r acts in (omega (arith, later.0), later.1)
    acts_within (Repeats port by body) t actor r (s, tested, inl test) =
        let same : r ≡ s = test.here in
        let from : t ≤ s = tested_from port (Spans v body) t s (spans_from body) tested in
        (omega arith, test.within)
    acts_within (Repeats port by body) t actor r (s, tested, inr (here, reads, acts)) =
        let later : (s + 1 ≤ r) × (r < v.rows) = acts_within body (s + 1) actor r acts in
        let from : t ≤ s = tested_from port (Spans v body) t s (spans_from body) tested in
        (omega (arith, later.0), later.1)

    in_turn_within : (ps : Plans) (t : ℕ) (actor : Actor) (r : ℕ) → ActsInTurn v ps t actor r → (t ≤ r) × (r < v.rows)
    in_turn_within NoPlans t actor r acts = absurd acts
    in_turn_within (MorePlans p ps) t actor r (inl acts) = acts_within p t actor r acts
    in_turn_within (MorePlans p ps) t actor r (inr (next, spans, acts)) =
        let from : t ≤ next = spans_from p t next spans in
        let later : (next ≤ r) × (r < v.rows) = in_turn_within ps next actor r acts in
        (omega (arith, later.0), later.1)

    at_once_within : (ps : Plans) (t : ℕ) (actor : Actor) (r : ℕ) → ActsAtOnce v ps t actor r → (t ≤ r) × (r < v.rows)
    at_once_within NoPlans t actor r acts = absurd acts
    at_once_within (MorePlans p ps) t actor r (inl acts) = acts_within p t actor r acts
    at_once_within (MorePlans p ps) t actor r (inr acts) = at_once_within ps t actor r acts

-- ---- loops from their first test

module _ (v : View) (port : PortName) (body : ℕ → ℕ → Type 0) where
  -- a test is the first, or comes after a first turn
  pub tested_first : (t r : ℕ) → IsTested v port body t r → (r ≡ t) ⊎ ((t < v.rows) × (v.reads port t ≡ true) × ((next : ℕ) × body (t + 1) next × IsTested v port body next r))
  tested_first t r (AtStart) = inl refl
  tested_first t r (AfterTurn test _ before here on turn) = elim (tested_first t test before) [
    | inl same ↦
        let H : ℕ → Type 0 = λ x. x < v.rows in
        let R : ℕ → Type 0 = λ x. v.reads port x ≡ true in
        let B : ℕ → Type 0 = λ x. body (x + 1) r in
        inr (subst H same here, subst R same on, (r, subst B same turn, AtStart))
    | inr (starts, reads, (next, first, later)) ↦ inr (starts, reads, (next, first, AfterTurn test r later here on turn))
  ]

  -- a first turn before tests
  pub tested_before : (t next r : ℕ) → t < v.rows → v.reads port t ≡ true → body (t + 1) next → IsTested v port body next r → IsTested v port body t r
  tested_before t next r here on turn (AtStart) = AfterTurn t r AtStart here on turn
  tested_before t next r here on turn (AfterTurn test _ before there again turns) =
      AfterTurn test r (tested_before t next test here on turn before) there again turns

-- ---- one row

module _ (v : View) (t : ℕ) (here : t < v.rows) where
  abbrev s : Sight
  s = sight_at v t

  -- a plan before plans
  before_spans : (p : Plan) (ps : Plans) (from next end : ℕ) → Spans v p from next → SpansInTurn v ps next end → Spans v (before_others p ps) from end
  before_spans p NoPlans from next end spans e = let S : ℕ → Type 0 = Spans v p from in subst S (sym e) spans
  before_spans p (MorePlans q qs) from next end spans others = (next, spans, others)

  spans_before : (p : Plan) (ps : Plans) (from end : ℕ) → Spans v (before_others p ps) from end → (next : ℕ) × Spans v p from next × SpansInTurn v ps next end
  spans_before p NoPlans from end spans = (end, spans, refl)
  spans_before p (MorePlans q qs) from end spans = spans

  before_acts : (p : Plan) (ps : Plans) (from : ℕ) (actor : Actor) (r : ℕ) → Acts v p from actor r ⊎ ((next : ℕ) × Spans v p from next × ActsInTurn v ps next actor r)
      → Acts v (before_others p ps) from actor r
  before_acts p NoPlans from actor r (inl acts) = acts
  before_acts p NoPlans from actor r (inr (next, spans, acts)) = absurd acts
  before_acts p (MorePlans q qs) from actor r acts = acts

  acts_before : (p : Plan) (ps : Plans) (from : ℕ) (actor : Actor) (r : ℕ) → Acts v (before_others p ps) from actor r
      → Acts v p from actor r ⊎ ((next : ℕ) × Spans v p from next × ActsInTurn v ps next actor r)
  acts_before p NoPlans from actor r acts = inl acts
  acts_before p (MorePlans q qs) from actor r acts = acts

  first_not_done : (actor : Actor) (u : ℕ) → v.done actor t ≡ false → t ≤ u → IsFirst (v.done actor) v.rows t u → t + 1 ≤ u
  first_not_done actor u off from first = elim (row_cases t u from) [
    | inl same ↦ let D : ℕ → Type 0 = λ x. v.done actor x ≡ true in absurd (not_both (v.done actor t) (subst D same first.is_true) off)
    | inr later ↦ omega arith
  ]

  -- the end of a plan is that of what is left, but that a plan that takes no row ends with the row
  mutual
    pub spans_left : (p : Plan) (end : ℕ) → Spans v p t end → Spans v (left s p) (t + 1) (max end (t + 1))
    spans_left (Enables a) end (u, first, e) = elim (cases_Bool (v.done a t)) [
      | inl on ↦
          let S : Bool → Type 0 = λ b. Spans v (if b then nothing else Enables a) (t + 1) (max end (t + 1)) in
          let at : u ≡ t = elim (row_cases t u first.from) [ inl same ↦ same | inr later ↦ absurd (not_both (v.done a t) on (first.none_before t (omega arith) later)) ] in
          let done : max end (t + 1) ≡ t + 1 = omega arith in
          subst S (sym on) done
      | inr off ↦
          let S : Bool → Type 0 = λ b. Spans v (if b then nothing else Enables a) (t + 1) (max end (t + 1)) in
          let later : t + 1 ≤ u = first_not_done a u off first.from first in
          let rest : IsFirst (v.done a) v.rows (t + 1) u = record { from = later; within = first.within; is_true = first.is_true; none_before = λ r from before. first.none_before r (omega arith) before } in
          let last : max end (t + 1) ≡ u + 1 = omega arith in
          subst S (sym off) (u, rest, last)
    ]
    spans_left (InTurn ps) end spans = in_turn_left ps end spans
    spans_left (AtOnce ps) end spans = at_once_left ps end spans
    spans_left (Chooses port by on off) end (inl (_, reads, spans)) =
        let S : Bool → Type 0 = λ b. Spans v (if b then on else off) (t + 1) (max end (t + 1)) in
        let E : ℕ → Type 0 = Spans v on (t + 1) in
        let later : t + 1 ≤ end = spans_from v on (t + 1) end spans in
        let same : end ≡ max end (t + 1) = omega arith in
        subst S (sym reads) (subst E same spans)
    spans_left (Chooses port by on off) end (inr (_, reads, spans)) =
        let S : Bool → Type 0 = λ b. Spans v (if b then on else off) (t + 1) (max end (t + 1)) in
        let E : ℕ → Type 0 = Spans v off (t + 1) in
        let later : t + 1 ≤ end = spans_from v off (t + 1) end spans in
        let same : end ≡ max end (t + 1) = omega arith in
        subst S (sym reads) (subst E same spans)
    spans_left (Repeats port by body) end (r, tested, there, stops, e) = elim (tested_first v port (Spans v body) t r tested) [
      | inl same ↦
          let R : ℕ → Type 0 = λ x. v.reads port x ≡ false in
          let S : Bool → Type 0 = λ b. Spans v (if b then InTurn (MorePlans body (MorePlans (Repeats port by body) NoPlans)) else nothing) (t + 1) (max end (t + 1)) in
          let done : max end (t + 1) ≡ t + 1 = omega arith in
          subst S (sym (subst R same stops)) done
      | inr (_, reads, (next, turn, more)) ↦
          let S : Bool → Type 0 = λ b. Spans v (if b then InTurn (MorePlans body (MorePlans (Repeats port by body) NoPlans)) else nothing) (t + 1) (max end (t + 1)) in
          let one : t + 1 ≤ next = spans_from v body (t + 1) next turn in
          let two : next ≤ r = tested_from v port (Spans v body) next r (spans_from v body) more in
          let same : max end (t + 1) ≡ end = omega arith in
          subst S (sym reads) (next, turn, (end, (r, more, there, stops, e), same))
    ]

    in_turn_left : (ps : Plans) (end : ℕ) → SpansInTurn v ps t end → Spans v (left_in_turn s ps) (t + 1) (max end (t + 1))
    in_turn_left NoPlans end e = let done : max end (t + 1) ≡ t + 1 = omega arith in done
    in_turn_left (MorePlans p ps) end (next, spans, others) = elim (cases_Bool (is_over p)) [
      | inl over ↦
          let S : Bool → Type 0 = λ b. Spans v (if b then left_in_turn s ps else before_others (left s p) ps) (t + 1) (max end (t + 1)) in
          let O : ℕ → Type 0 = λ x. SpansInTurn v ps x end in
          subst S (sym over) (in_turn_left ps end (subst O (over_end v p t next over spans) others))
      | inr more ↦
          let S : Bool → Type 0 = λ b. Spans v (if b then left_in_turn s ps else before_others (left s p) ps) (t + 1) (max end (t + 1)) in
          let E : ℕ → Type 0 = Spans v (left s p) (t + 1) in
          let O : ℕ → Type 0 = SpansInTurn v ps next in
          let later : t < next = (lasts v p t next more spans).0 in
          let then_end : next ≤ end = in_turn_from v ps next end others in
          let same : max next (t + 1) ≡ next = omega arith in
          let last : end ≡ max end (t + 1) = omega arith in
          subst S (sym more) (before_spans (left s p) ps (t + 1) next (max end (t + 1)) (subst E same (spans_left p next spans)) (subst O last others))
    ]

    at_once_left : (ps : Plans) (end : ℕ) → SpansAtOnce v ps t end → SpansAtOnce v (left_at_once s ps) (t + 1) (max end (t + 1))
    at_once_left NoPlans end e = omega arith
    at_once_left (MorePlans p ps) end (a, b, spans, others, e) =
        (max a (t + 1), max b (t + 1), spans_left p a spans, at_once_left ps b others, omega arith)

  mutual
    pub left_spans : (p : Plan) (end : ℕ) → Spans v (left s p) (t + 1) end → (first : ℕ) × Spans v p t first × (end ≡ max first (t + 1))
    left_spans (Enables a) end spans = elim (cases_Bool (v.done a t)) [
      | inl on ↦
          let S : Bool → Type 0 = λ b. Spans v (if b then nothing else Enables a) (t + 1) end in
          let done : end ≡ t + 1 = subst S on spans in
          let first : IsFirst (v.done a) v.rows t t = record { from = omega arith; within = here; is_true = on; none_before = λ r from before. absurd (omega arith) } in
          (t + 1, (t, first, refl), omega arith)
      | inr off ↦
          let S : Bool → Type 0 = λ b. Spans v (if b then nothing else Enables a) (t + 1) end in
          let rest : Spans v (Enables a) (t + 1) end = subst S off spans in
          let from : t + 1 ≤ rest.0 = rest.1.from in
          let last : end ≡ rest.0 + 1 = rest.2 in
          let D : ℕ → Type 0 = λ x. v.done a x ≡ false in
          let first : IsFirst (v.done a) v.rows t rest.0 = record {
            from = omega arith;
            within = rest.1.within;
            is_true = rest.1.is_true;
            none_before = λ r after before. elim (row_cases t r after) [ inl same ↦ subst D (sym same) off | inr later ↦ rest.1.none_before r (omega arith) before ];
          } in
          (end, (rest.0, first, last), omega arith)
    ]
    left_spans (InTurn ps) end spans = left_in_turn_spans ps end spans
    left_spans (AtOnce ps) end spans = left_at_once_spans ps end spans
    left_spans (Chooses port by on off) end spans = elim (cases_Bool (v.reads port t)) [
      | inl reads ↦
          let S : Bool → Type 0 = λ b. Spans v (if b then on else off) (t + 1) end in
          let chosen : Spans v on (t + 1) end = subst S reads spans in
          let later : t + 1 ≤ end = spans_from v on (t + 1) end chosen in
          (end, inl (here, reads, chosen), omega arith)
      | inr reads ↦
          let S : Bool → Type 0 = λ b. Spans v (if b then on else off) (t + 1) end in
          let chosen : Spans v off (t + 1) end = subst S reads spans in
          let later : t + 1 ≤ end = spans_from v off (t + 1) end chosen in
          (end, inr (here, reads, chosen), omega arith)
    ]
    left_spans (Repeats port by body) end spans = elim (cases_Bool (v.reads port t)) [
      | inl reads ↦
          let S : Bool → Type 0 = λ b. Spans v (if b then InTurn (MorePlans body (MorePlans (Repeats port by body) NoPlans)) else nothing) (t + 1) end in
          let rest : (next : ℕ) × Spans v body (t + 1) next × SpansInTurn v (MorePlans (Repeats port by body) NoPlans) next end = subst S reads spans in
          let next : ℕ = rest.0 in
          let last : ℕ = rest.2.0 in
          let loop : Spans v (Repeats port by body) next last = rest.2.1 in
          let same : end ≡ last = rest.2.2 in
          let L : ℕ → Type 0 = Spans v (Repeats port by body) t in
          let one : t + 1 ≤ next = spans_from v body (t + 1) next rest.1 in
          let two : next ≤ last = spans_from v (Repeats port by body) next last loop in
          (end, subst L (sym same) (loop.0, tested_before v port (Spans v body) t next loop.0 here reads rest.1 loop.1, loop.2, loop.3, loop.4), omega arith)
      | inr reads ↦
          let S : Bool → Type 0 = λ b. Spans v (if b then InTurn (MorePlans body (MorePlans (Repeats port by body) NoPlans)) else nothing) (t + 1) end in
          let done : end ≡ t + 1 = subst S reads spans in
          (t + 1, (t, AtStart, here, reads, refl), omega arith)
    ]

    left_in_turn_spans : (ps : Plans) (end : ℕ) → Spans v (left_in_turn s ps) (t + 1) end → (first : ℕ) × SpansInTurn v ps t first × (end ≡ max first (t + 1))
    left_in_turn_spans NoPlans end e = (t, refl, omega arith)
    left_in_turn_spans (MorePlans p ps) end spans = elim (cases_Bool (is_over p)) [
      | inl over ↦
          let S : Bool → Type 0 = λ b. Spans v (if b then left_in_turn s ps else before_others (left s p) ps) (t + 1) end in
          let rest : (first : ℕ) × SpansInTurn v ps t first × (end ≡ max first (t + 1)) = left_in_turn_spans ps end (subst S over spans) in
          (rest.0, (t, over_spans v p t over, rest.1), rest.2)
      | inr more ↦
          let S : Bool → Type 0 = λ b. Spans v (if b then left_in_turn s ps else before_others (left s p) ps) (t + 1) end in
          let parts : (next : ℕ) × Spans v (left s p) (t + 1) next × SpansInTurn v ps next end = spans_before (left s p) ps (t + 1) end (subst S more spans) in
          let next : ℕ = parts.0 in
          let first : (first : ℕ) × Spans v p t first × (next ≡ max first (t + 1)) = left_spans p next parts.1 in
          let later : t < first.0 = (lasts v p t first.0 more first.1).0 in
          let is : next ≡ max first.0 (t + 1) = first.2 in
          let same : next ≡ first.0 = omega arith in
          let then_end : next ≤ end = in_turn_from v ps next end parts.2 in
          let O : ℕ → Type 0 = λ x. SpansInTurn v ps x end in
          (end, (first.0, first.1, subst O same parts.2), omega arith)
    ]

    left_at_once_spans : (ps : Plans) (end : ℕ) → SpansAtOnce v (left_at_once s ps) (t + 1) end → (first : ℕ) × SpansAtOnce v ps t first × (end ≡ max first (t + 1))
    left_at_once_spans NoPlans end e = (t, refl, omega arith)
    left_at_once_spans (MorePlans p ps) end (a, b, spans, others, e) =
        let one : (first : ℕ) × Spans v p t first × (a ≡ max first (t + 1)) = left_spans p a spans in
        let two : (first : ℕ) × SpansAtOnce v ps t first × (b ≡ max first (t + 1)) = left_at_once_spans ps b others in
        let is_a : a ≡ max one.0 (t + 1) = one.2 in
        let is_b : b ≡ max two.0 (t + 1) = two.2 in
        (max one.0 two.0, (one.0, two.0, one.1, two.1, refl), omega arith)

  -- after the row the same actors act
  mutual
    pub acts_left : (p : Plan) (actor : Actor) (r : ℕ) → t < r → Acts v p t actor r → Acts v (left s p) (t + 1) actor r
    acts_left (Enables a) actor r later acts =
        let S : Bool → Type 0 = λ b. Acts v (if b then nothing else Enables a) (t + 1) actor r in
        let D : Actor → Type 0 = λ x. v.done x t ≡ false in
        let rest : ActsEnabled v a (t + 1) actor r = record { is = acts.is; from = omega arith; within = acts.within; not_done = λ row from before. acts.not_done row (omega arith) before } in
        subst S (sym (subst D (sym acts.is) (acts.not_done t (omega arith) (omega arith)))) rest
    acts_left (InTurn ps) actor r later acts = in_turn_acts_left ps actor r later acts
    acts_left (AtOnce ps) actor r later acts = at_once_acts_left ps actor r later acts
    acts_left (Chooses port by on off) actor r later (inl test) = let same : r ≡ t = test.here in absurd (omega arith)
    acts_left (Chooses port by on off) actor r later (inr (inl (_, reads, acts))) =
        let S : Bool → Type 0 = λ b. Acts v (if b then on else off) (t + 1) actor r in subst S (sym reads) acts
    acts_left (Chooses port by on off) actor r later (inr (inr (_, reads, acts))) =
        let S : Bool → Type 0 = λ b. Acts v (if b then on else off) (t + 1) actor r in subst S (sym reads) acts
    acts_left (Repeats port by body) actor r later (test, tested, acts) =
        let T : ℕ → Type 0 = λ x. ActsInTest v by x actor r ⊎ ((x < v.rows) × (v.reads port x ≡ true) × Acts v body (x + 1) actor r) in
        let S : Bool → Type 0 = λ b. Acts v (if b then InTurn (MorePlans body (MorePlans (Repeats port by body) NoPlans)) else nothing) (t + 1) actor r in
        elim (tested_first v port (Spans v body) t test tested) [
          | inl same ↦
              let first : T t = subst T same acts in
              elim first [
                | inl on_test ↦ let at : r ≡ t = on_test.here in absurd (omega arith)
                | inr (_, reads, turn) ↦ subst S (sym reads) (inl turn)
              ]
          | inr (_, reads, (next, turn, more)) ↦ subst S (sym reads) (inr (next, turn, inl (test, more, acts)))
        ]

    in_turn_acts_left : (ps : Plans) (actor : Actor) (r : ℕ) → t < r → ActsInTurn v ps t actor r → Acts v (left_in_turn s ps) (t + 1) actor r
    in_turn_acts_left NoPlans actor r later acts = absurd acts
    in_turn_acts_left (MorePlans p ps) actor r later acts =
        let S : Bool → Type 0 = λ b. Acts v (if b then left_in_turn s ps else before_others (left s p) ps) (t + 1) actor r in
        elim (cases_Bool (is_over p)) [
          | inl over ↦
              let rest : Acts v (left_in_turn s ps) (t + 1) actor r = elim acts [
                | inl first ↦ absurd (over_acts v p t actor r over first)
                | inr (next, spans, others) ↦
                    let A : ℕ → Type 0 = λ x. ActsInTurn v ps x actor r in
                    in_turn_acts_left ps actor r later (subst A (over_end v p t next over spans) others)
              ] in
              subst S (sym over) rest
          | inr more ↦
              let rest : Acts v (left s p) (t + 1) actor r ⊎ ((next : ℕ) × Spans v (left s p) (t + 1) next × ActsInTurn v ps next actor r) = elim acts [
                | inl first ↦ inl (acts_left p actor r later first)
                | inr (next, spans, others) ↦
                    let after : t < next = (lasts v p t next more spans).0 in
                    let same : max next (t + 1) ≡ next = omega arith in
                    let E : ℕ → Type 0 = Spans v (left s p) (t + 1) in
                    inr (next, subst E same (spans_left p next spans), others)
              ] in
              subst S (sym more) (before_acts (left s p) ps (t + 1) actor r rest)
        ]

    at_once_acts_left : (ps : Plans) (actor : Actor) (r : ℕ) → t < r → ActsAtOnce v ps t actor r → ActsAtOnce v (left_at_once s ps) (t + 1) actor r
    at_once_acts_left NoPlans actor r later acts = acts
    at_once_acts_left (MorePlans p ps) actor r later (inl acts) = inl (acts_left p actor r later acts)
    at_once_acts_left (MorePlans p ps) actor r later (inr acts) = inr (at_once_acts_left ps actor r later acts)

  mutual
    pub left_acts : (p : Plan) (actor : Actor) (r : ℕ) → Acts v (left s p) (t + 1) actor r → Acts v p t actor r
    left_acts (Enables a) actor r acts =
        let S : Bool → Type 0 = λ b. Acts v (if b then nothing else Enables a) (t + 1) actor r in
        elim (cases_Bool (v.done a t)) [
          | inl on ↦ let none : ⊥ = subst S on acts in absurd none
          | inr off ↦
              let rest : ActsEnabled v a (t + 1) actor r = subst S off acts in
              let from : t + 1 ≤ r = rest.from in
              let D : Actor → Type 0 = λ x. v.done x t ≡ false in
              let R : ℕ → Type 0 = λ x. v.done actor x ≡ false in
              record {
                is = rest.is;
                from = omega arith;
                within = rest.within;
                not_done = λ row after before. elim (row_cases t row after) [ inl same ↦ subst R (sym same) (subst D rest.is off) | inr later ↦ rest.not_done row (omega arith) before ];
              }
        ]
    left_acts (InTurn ps) actor r acts = left_acts_in_turn ps actor r acts
    left_acts (AtOnce ps) actor r acts = left_acts_at_once ps actor r acts
    left_acts (Chooses port by on off) actor r acts =
        let S : Bool → Type 0 = λ b. Acts v (if b then on else off) (t + 1) actor r in
        elim (cases_Bool (v.reads port t)) [
          | inl reads ↦ inr (inl (here, reads, subst S reads acts))
          | inr reads ↦ inr (inr (here, reads, subst S reads acts))
        ]
    left_acts (Repeats port by body) actor r acts =
        let S : Bool → Type 0 = λ b. Acts v (if b then InTurn (MorePlans body (MorePlans (Repeats port by body) NoPlans)) else nothing) (t + 1) actor r in
        elim (cases_Bool (v.reads port t)) [
          | inl reads ↦ looped reads (subst S reads acts)
          | inr reads ↦ let none : ⊥ = subst S reads acts in absurd none
        ]
      where
        looped : v.reads port t ≡ true → ActsInTurn v (MorePlans body (MorePlans (Repeats port by body) NoPlans)) (t + 1) actor r → Acts v (Repeats port by body) t actor r
        looped reads (inl turn) = (t, AtStart, inr (here, reads, turn))
        looped reads (inr (next, turn, inl (test, tested, loop))) = (test, tested_before v port (Spans v body) t next test here reads turn tested, loop)
        looped reads (inr (next, turn, inr (end, spans, none))) = absurd none

    left_acts_in_turn : (ps : Plans) (actor : Actor) (r : ℕ) → Acts v (left_in_turn s ps) (t + 1) actor r → ActsInTurn v ps t actor r
    left_acts_in_turn NoPlans actor r acts = acts
    left_acts_in_turn (MorePlans p ps) actor r acts =
        let S : Bool → Type 0 = λ b. Acts v (if b then left_in_turn s ps else before_others (left s p) ps) (t + 1) actor r in
        elim (cases_Bool (is_over p)) [
          | inl over ↦ inr (t, over_spans v p t over, left_acts_in_turn ps actor r (subst S over acts))
          | inr more ↦
              elim (acts_before (left s p) ps (t + 1) actor r (subst S more acts)) [
                | inl first ↦ inl (left_acts p actor r first)
                | inr (next, spans, others) ↦
                    let start : (first : ℕ) × Spans v p t first × (next ≡ max first (t + 1)) = left_spans p next spans in
                    let after : t < start.0 = (lasts v p t start.0 more start.1).0 in
                    let is : next ≡ max start.0 (t + 1) = start.2 in
                    let same : next ≡ start.0 = omega arith in
                    let A : ℕ → Type 0 = λ x. ActsInTurn v ps x actor r in
                    inr (start.0, start.1, subst A same others)
              ]
        ]

    left_acts_at_once : (ps : Plans) (actor : Actor) (r : ℕ) → ActsAtOnce v (left_at_once s ps) (t + 1) actor r → ActsAtOnce v ps t actor r
    left_acts_at_once NoPlans actor r acts = acts
    left_acts_at_once (MorePlans p ps) actor r (inl acts) = inl (left_acts p actor r acts)
    left_acts_at_once (MorePlans p ps) actor r (inr acts) = inr (left_acts_at_once ps actor r acts)
