-- Where tokens stand: each register of the token lowering has a state, and the states of a part are its own.
use Rattle.std.proofs.Common.{◌≡◌, ◌⊎◌, inl, inr, ℕ, ◌+◌, ◌<◌, ◌≤◌, List, [], ◌∷◌, ◌++◌, Bool, true, false, refl, subst, arith}
use Rattle.std.specs.Prelude.{if◌then◌else◌}
use Rattle.std.proofs.lemmas.Bool.{cases_Bool, cond-true, cond-false}
use Rattle.net_core.specs.Guard.{GuardTree, Negates}
use Rattle.cal_ast.specs.Plan.{Plan, Enables, InTurn, AtOnce, Chooses, Repeats, Plans, NoPlans, MorePlans}
use Rattle.cal_ast.specs.Tree.{PortName}
use Rattle.cal_walk.specs.Left.{is_over}
use Rattle.cal_token.specs.inside.Tokens.{Token, Starting, Ended, size, sizes}
use Rattle.cal_lower.specs.inside.Parts.{none_if_over, part_ends, ended_guard, tested_guard, with_start, part_pieces, pieces_in_turn, pieces_after, pieces_at_once}
use Rattle.cal_lower.specs.inside.Pieces.{Piece, Wire, Register, piece, token_name, has_token, reads, both}
use Rattle.cal_state.specs.inside.Threads.{Thread, State, Place, NoState, IsIn, place_in, with_start_in, places, places_in_turn, places_after, places_at_once}
use Rattle.cal_state.specs.inside.Threads.{thread_of, ended_state, first_state, lasting_states, states, states_in, zero_if_over}

-- ---- pieces and their places

-- a wire has no state, and the register of a token has one
abbrev pub Fits : Piece → Place → Type 0
Fits p NoState = p.kind ≡ Wire
Fits p (IsIn token state) = (p.kind ≡ Register) × (p.name ≡ token_name token)

abbrev pub Aligned : List Piece → List Place → Type 0
Aligned [] [] = Unit {0}
Aligned [] (place ∷ rest) = ⊥
Aligned (p ∷ ps) [] = ⊥
Aligned (p ∷ ps) (place ∷ rest) = Fits p place × Aligned ps rest

pub aligned_append : (ps qs : List Piece) (xs ys : List Place) → Aligned ps xs → Aligned qs ys → Aligned (ps ++ qs) (xs ++ ys)
aligned_append [] qs [] ys one other = other
aligned_append [] qs (x ∷ xs) ys one other = absurd one
aligned_append (p ∷ ps) qs [] ys one other = absurd one
aligned_append (p ∷ ps) qs (x ∷ xs) ys one other = (one.0, aligned_append ps qs xs ys one.1 other)

aligned_unless : (p : Plan) (ps : List Piece) (xs : List Place) → (is_over p ≡ false → Aligned ps xs) → Aligned (none_if_over p ps) (none_if_over p xs)
aligned_unless p ps xs f = by (is_over p) f
  where
    by : (b : Bool) → (b ≡ false → Aligned ps xs) → Aligned (if b then [] else ps) (if b then [] else xs)
    by true g = tt
    by false g = g refl

aligned_by : (b : Bool) (ps qs : List Piece) (xs ys : List Place) → (b ≡ true → Aligned ps xs) → (b ≡ false → Aligned qs ys) → Aligned (if b then ps else qs) (if b then xs else ys)
aligned_by true ps qs xs ys f g = f refl
aligned_by false ps qs xs ys f g = g refl

mutual
  pub aligned : (thread : Thread) (n k : ℕ) (p : Plan) (start : GuardTree PortName) → Aligned (part_pieces k p start) (places thread n k p)
  aligned thread n k (Enables actor) start = (refl, ((refl, refl), tt))
  aligned thread n k (InTurn ps) start = (refl, aligned_in_turn thread (n + 1) (k + 1) ps start)
  aligned thread n k (AtOnce ps) start = (refl, aligned_at_once (k + 1) ps start (part_ends k))
  aligned thread n k (Chooses port by on off) start = (
    refl,
    aligned_append (with_start (k + 1) on (both start (reads port)) (part_pieces (k + 1) on (has_token (Starting (k + 1)))))
        (with_start (k + 1 + size on) off (both start (Negates (reads port))) (part_pieces (k + 1 + size on) off (has_token (Starting (k + 1 + size on)))))
        (with_start_in thread (n + 1) (k + 1) on (places thread (n + 1) (k + 1) on))
        (with_start_in thread (n + 1 + lasting_states on) (k + 1 + size on) off (places thread (n + 1 + lasting_states on) (k + 1 + size on) off))
        (aligned_unless on _ _ (λ more. ((refl, refl), aligned thread (n + 1) (k + 1) on (has_token (Starting (k + 1))))))
        (aligned_unless off _ _ (λ more. ((refl, refl), aligned thread (n + 1 + lasting_states on) (k + 1 + size on) off (has_token (Starting (k + 1 + size on)))))),
  )
  aligned thread n k (Repeats port by body) start =
      (refl, ((refl, refl), aligned_unless body _ _ (λ more. ((refl, refl), aligned thread (n + 1) (k + 1) body (has_token (Starting (k + 1)))))))

  aligned_in_turn : (thread : Thread) (n k : ℕ) (ps : Plans) (start : GuardTree PortName) → Aligned (pieces_in_turn k ps start) (places_in_turn thread n k ps)
  aligned_in_turn thread n k NoPlans start = tt
  aligned_in_turn thread n k (MorePlans p ps) start =
      aligned_by (is_over p) _ _ _ _ (λ over. aligned_in_turn thread n (k + size p) ps start)
      (λ more. aligned_append (part_pieces k p start) (pieces_after (k + size p) ps (part_ends k)) (places thread n k p) (places_after thread (n + states p) (k + size p) ps)
      (aligned thread n k p start) (aligned_after thread (n + states p) (k + size p) ps (part_ends k)))

  aligned_after : (thread : Thread) (n k : ℕ) (ps : Plans) (next : GuardTree PortName) → Aligned (pieces_after k ps next) (places_after thread n k ps)
  aligned_after thread n k NoPlans next = tt
  aligned_after thread n k (MorePlans p ps) next =
      aligned_by (is_over p) _ _ _ _ (λ over. aligned_after thread n (k + size p) ps next)
      (λ more. aligned_append (with_start k p next (part_pieces k p (has_token (Starting k)))) (pieces_after (k + size p) ps (part_ends k))
      (with_start_in thread n k p (places thread n k p)) (places_after thread (n + states p) (k + size p) ps)
      (aligned_unless p _ _ (λ lasts. ((refl, refl), aligned thread n k p (has_token (Starting k)))))
      (aligned_after thread (n + states p) (k + size p) ps (part_ends k)))

  aligned_at_once : (k : ℕ) (ps : Plans) (start all : GuardTree PortName) → Aligned (pieces_at_once k ps start all) (places_at_once k ps)
  aligned_at_once k NoPlans start all = tt
  aligned_at_once k (MorePlans p ps) start all =
      aligned_append (none_if_over p (piece Register (token_name (Ended k)) (ended_guard k all) ∷ part_pieces k p start)) (pieces_at_once (k + size p) ps start all)
      (none_if_over p (place_in (Ended k) (thread_of k p) ended_state ∷ places (thread_of k p) first_state k p)) (places_at_once (k + size p) ps)
      (aligned_unless p _ _ (λ more. ((refl, refl), aligned (thread_of k p) first_state k p start)))
      (aligned_at_once (k + size p) ps start all)

-- ---- the states of a part

-- a state of this thread from `low` to below `high`, or one of a thread whose part is from `first` to below `last`
abbrev pub Lies : (thread low high first last : ℕ) → Place → Type 0
Lies thread low high first last NoState = Unit {0}
Lies thread low high first last (IsIn token state) =
    ((state.thread.part ≡ thread) × (low ≤ state.number) × (state.number < high)) ⊎ ((first ≤ state.thread.part) × (state.thread.part < last))

abbrev pub EachLies : (thread low high first last : ℕ) → List Place → Type 0
EachLies thread low high first last [] = Unit {0}
EachLies thread low high first last (x ∷ xs) = Lies thread low high first last x × EachLies thread low high first last xs

pub lies_append : (thread low high first last : ℕ) (xs ys : List Place) → EachLies thread low high first last xs → EachLies thread low high first last ys
    → EachLies thread low high first last (xs ++ ys)
lies_append thread low high first last [] ys one other = other
lies_append thread low high first last (x ∷ xs) ys one other = (one.0, lies_append thread low high first last xs ys one.1 other)

-- in wider ranges
lies_wider : (thread low high first last low' high' first' last' : ℕ) → low' ≤ low → high ≤ high' → first' ≤ first → last ≤ last'
    → (x : Place) → Lies thread low high first last x → Lies thread low' high' first' last' x
lies_wider thread low high first last low' high' first' last' a b c d NoState lies = tt
lies_wider thread low high first last low' high' first' last' a b c d (IsIn token state) (inl (own, from, below)) =
    inl (own, omega (arith, a, from), omega (arith, b, below))
lies_wider thread low high first last low' high' first' last' a b c d (IsIn token state) (inr (from, below)) = inr (omega (arith, c, from), omega (arith, d, below))

pub each_wider : (thread low high first last low' high' first' last' : ℕ) → low' ≤ low → high ≤ high' → first' ≤ first → last ≤ last'
    → (xs : List Place) → EachLies thread low high first last xs → EachLies thread low' high' first' last' xs
each_wider thread low high first last low' high' first' last' a b c d [] lies = tt
each_wider thread low high first last low' high' first' last' a b c d (x ∷ xs) lies =
    (lies_wider thread low high first last low' high' first' last' a b c d x lies.0, each_wider thread low high first last low' high' first' last' a b c d xs lies.1)

-- all of another thread, whose states are among these
lies_other : (thread low high first last other low' high' first' last' : ℕ) → first' ≤ thread → thread < last' → first' ≤ first → last ≤ last'
    → (x : Place) → Lies thread low high first last x → Lies other low' high' first' last' x
lies_other thread low high first last other low' high' first' last' a b c d NoState lies = tt
lies_other thread low high first last other low' high' first' last' a b c d (IsIn token state) (inl (own, from, below)) = inr (omega (arith, a, own), omega (arith, b, own))
lies_other thread low high first last other low' high' first' last' a b c d (IsIn token state) (inr (from, below)) = inr (omega (arith, c, from), omega (arith, d, below))

pub each_other : (thread low high first last other low' high' first' last' : ℕ) → first' ≤ thread → thread < last' → first' ≤ first → last ≤ last'
    → (xs : List Place) → EachLies thread low high first last xs → EachLies other low' high' first' last' xs
each_other thread low high first last other low' high' first' last' a b c d [] lies = tt
each_other thread low high first last other low' high' first' last' a b c d (x ∷ xs) lies = (
  lies_other thread low high first last other low' high' first' last' a b c d x lies.0,
  each_other thread low high first last other low' high' first' last' a b c d xs lies.1,
)

pub lies_unless : (thread low high first last : ℕ) (p : Plan) (xs : List Place) → (is_over p ≡ false → EachLies thread low high first last xs)
    → EachLies thread low high first last (none_if_over p xs)
lies_unless thread low high first last p xs f = by (is_over p) f
  where
    by : (b : Bool) → (b ≡ false → EachLies thread low high first last xs) → EachLies thread low high first last (if b then [] else xs)
    by true g = tt
    by false g = g refl

lies_by : (b : Bool) (thread low high first last : ℕ) (xs ys : List Place) → (b ≡ true → EachLies thread low high first last xs)
    → (b ≡ false → EachLies thread low high first last ys) → EachLies thread low high first last (if b then xs else ys)
lies_by true thread low high first last xs ys f g = f refl
lies_by false thread low high first last xs ys f g = g refl

pub lasting_is : (p : Plan) → is_over p ≡ false → lasting_states p ≡ states p
lasting_is p more = cond-false (is_over p) 0 (states p) more

pub over_none : (p : Plan) → is_over p ≡ true → lasting_states p ≡ 0
over_none p over = cond-true (is_over p) 0 (states p) over

pub some_states : (p : Plan) → 1 ≤ states p
some_states (Enables actor) = omega arith
some_states (InTurn ps) = omega arith
some_states (AtOnce ps) = omega arith
some_states (Chooses port by on off) = omega arith
some_states (Repeats port by body) = omega arith

pub some_parts : (p : Plan) → 1 ≤ size p
some_parts (Enables actor) = omega arith
some_parts (InTurn ps) = omega arith
some_parts (AtOnce ps) = omega arith
some_parts (Chooses port by on off) = omega arith
some_parts (Repeats port by body) = omega arith

-- the places of one of several plans at once
abbrev pub branch : ℕ → Plan → List Place
branch k p = place_in (Ended k) (thread_of k p) ended_state ∷ places (thread_of k p) first_state k p

pub later_lies : (thread : Thread) (n k : ℕ) (p : Plan) → EachLies thread.part n (n + states p) (k + 1) (k + size p) (places thread n k p)
    → EachLies thread.part n (n + lasting_states p) (k + 1) (k + size p) (with_start_in thread n k p (places thread n k p))
later_lies thread n k p inner =
    let some = some_states p in
    lies_unless thread.part n (n + lasting_states p) (k + 1) (k + size p) p (place_in (Starting k) thread n ∷ places thread n k p)
    (λ more.
    let is = lasting_is p more in (
      inl (refl, omega arith, omega (arith, some, is)),
      each_wider thread.part n (n + states p) (k + 1) (k + size p) n (n + lasting_states p) (k + 1) (k + size p) (omega arith) (omega (arith, is)) (omega arith) (omega arith)
          (places thread n k p) inner,
    ))

mutual
  -- those of a part are in its own ranges
  pub lies : (thread : Thread) (n k : ℕ) (p : Plan) → EachLies thread.part n (n + states p) (k + 1) (k + size p) (places thread n k p)
  lies thread n k (Enables actor) = (tt, (inl (refl, omega arith, omega arith), tt))
  lies thread n k (InTurn ps) = (
    tt,
    each_wider thread.part (n + 1) (n + 1 + states_in ps) (k + 1) (k + 1 + sizes ps) n (n + states (InTurn ps)) (k + 1) (k + size (InTurn ps)) (omega arith) (omega arith) (omega arith) (omega arith)
        (places_in_turn thread (n + 1) (k + 1) ps) (lies_in_turn thread (n + 1) (k + 1) ps),
  )
  lies thread n k (AtOnce ps) = (
    tt,
    each_wider thread.part n (n + states (AtOnce ps)) (k + 1) (k + 1 + sizes ps) n (n + states (AtOnce ps)) (k + 1) (k + size (AtOnce ps)) (omega arith) (omega arith) (omega arith) (omega arith)
        (places_at_once (k + 1) ps) (lies_at_once thread.part n (n + states (AtOnce ps)) (k + 1) ps),
  )
  lies thread n k (Chooses port by on off) =
      let all : ℕ = states (Chooses port by on off) in
      let whole : ℕ = size (Chooses port by on off) in
      let m : ℕ = n + 1 + lasting_states on in
      let j : ℕ = k + 1 + size on in (
        tt,
        lies_append thread.part n (n + all) (k + 1) (k + whole) (with_start_in thread (n + 1) (k + 1) on (places thread (n + 1) (k + 1) on))
            (with_start_in thread m j off (places thread m j off))
            (each_wider thread.part (n + 1) m (k + 1 + 1) j n (n + all) (k + 1) (k + whole) (omega arith) (omega arith) (omega arith) (omega arith)
            (with_start_in thread (n + 1) (k + 1) on (places thread (n + 1) (k + 1) on)) (later_lies thread (n + 1) (k + 1) on (lies thread (n + 1) (k + 1) on)))
            (each_wider thread.part m (m + lasting_states off) (j + 1) (j + size off) n (n + all) (k + 1) (k + whole) (omega arith) (omega arith) (omega arith) (omega arith)
            (with_start_in thread m j off (places thread m j off)) (later_lies thread m j off (lies thread m j off))),
      )
  lies thread n k (Repeats port by body) =
      let all : ℕ = states (Repeats port by body) in
      let whole : ℕ = size (Repeats port by body) in (
        tt,
        (
          inl (refl, omega arith, omega arith),
          each_wider thread.part (n + 1) (n + 1 + lasting_states body) (k + 1 + 1) (k + 1 + size body) n (n + all) (k + 1) (k + whole) (omega arith) (omega arith) (omega arith) (omega arith)
              (with_start_in thread (n + 1) (k + 1) body (places thread (n + 1) (k + 1) body)) (later_lies thread (n + 1) (k + 1) body (lies thread (n + 1) (k + 1) body)),
        ),
      )

  pub lies_in_turn : (thread : Thread) (n k : ℕ) (ps : Plans) → EachLies thread.part n (n + states_in ps) k (k + sizes ps) (places_in_turn thread n k ps)
  lies_in_turn thread n k NoPlans = tt
  lies_in_turn thread n k (MorePlans p ps) =
      let all : ℕ = n + states_in (MorePlans p ps) in
      let whole : ℕ = k + sizes (MorePlans p ps) in
      lies_by (is_over p) thread.part n all k whole (places_in_turn thread n (k + size p) ps) (places thread n k p ++ places_after thread (n + states p) (k + size p) ps)
      (λ over.
      let none = over_none p over in
      each_wider thread.part n (n + states_in ps) (k + size p) (k + size p + sizes ps) n all k whole (omega arith) (omega (arith, none)) (omega arith) (omega arith)
      (places_in_turn thread n (k + size p) ps) (lies_in_turn thread n (k + size p) ps))
      (λ more.
      let is = lasting_is p more in
      lies_append thread.part n all k whole (places thread n k p) (places_after thread (n + states p) (k + size p) ps)
      (each_wider thread.part n (n + states p) (k + 1) (k + size p) n all k whole (omega arith) (omega (arith, is)) (omega arith) (omega arith) (places thread n k p) (lies thread n k p))
      (each_wider thread.part (n + states p) (n + states p + states_in ps) (k + size p) (k + size p + sizes ps) n all k whole (omega arith) (omega (arith, is)) (omega arith) (omega arith)
      (places_after thread (n + states p) (k + size p) ps) (lies_after thread (n + states p) (k + size p) ps)))

  pub lies_after : (thread : Thread) (n k : ℕ) (ps : Plans) → EachLies thread.part n (n + states_in ps) k (k + sizes ps) (places_after thread n k ps)
  lies_after thread n k NoPlans = tt
  lies_after thread n k (MorePlans p ps) =
      let all : ℕ = n + states_in (MorePlans p ps) in
      let whole : ℕ = k + sizes (MorePlans p ps) in
      lies_by (is_over p) thread.part n all k whole (places_after thread n (k + size p) ps)
      (with_start_in thread n k p (places thread n k p) ++ places_after thread (n + states p) (k + size p) ps)
      (λ over.
      let none = over_none p over in
      each_wider thread.part n (n + states_in ps) (k + size p) (k + size p + sizes ps) n all k whole (omega arith) (omega (arith, none)) (omega arith) (omega arith)
      (places_after thread n (k + size p) ps) (lies_after thread n (k + size p) ps))
      (λ more.
      let is = lasting_is p more in
      lies_append thread.part n all k whole (with_start_in thread n k p (places thread n k p)) (places_after thread (n + states p) (k + size p) ps)
      (each_wider thread.part n (n + lasting_states p) (k + 1) (k + size p) n all k whole (omega arith) (omega (arith, is)) (omega arith) (omega arith)
      (with_start_in thread n k p (places thread n k p)) (later_lies thread n k p (lies thread n k p)))
      (each_wider thread.part (n + states p) (n + states p + states_in ps) (k + size p) (k + size p + sizes ps) n all k whole (omega arith) (omega (arith, is)) (omega arith) (omega arith)
      (places_after thread (n + states p) (k + size p) ps) (lies_after thread (n + states p) (k + size p) ps)))

  -- plans at once have none in the thread round them
  pub lies_at_once : (other low high k : ℕ) (ps : Plans) → EachLies other low high k (k + sizes ps) (places_at_once k ps)
  lies_at_once other low high k NoPlans = tt
  lies_at_once other low high k (MorePlans p ps) =
      let whole : ℕ = k + sizes (MorePlans p ps) in
      let some = some_parts p in
      lies_append other low high k whole (none_if_over p (branch k p)) (places_at_once (k + size p) ps)
      (lies_unless other low high k whole p (branch k p) (λ more. (
        inr (omega arith, omega (arith, some)),
        each_other k first_state (first_state + states p) (k + 1) (k + size p) other low high k whole (omega arith) (omega (arith, some)) (omega arith) (omega arith)
            (places (thread_of k p) first_state k p) (lies (thread_of k p) first_state k p),
      )))
      (each_wider other low high (k + size p) (k + size p + sizes ps) low high k whole (omega arith) (omega arith) (omega arith) (omega arith) (places_at_once (k + size p) ps)
      (lies_at_once other low high (k + size p) ps))

-- one of several plans at once
pub branch_lies : (other low high k : ℕ) (p : Plan) → EachLies other low high k (k + size p) (branch k p)
branch_lies other low high k p =
    let some = some_parts p in (
      inr (omega arith, omega (arith, some)),
      each_other k first_state (first_state + states p) (k + 1) (k + size p) other low high k (k + size p) (omega arith) (omega (arith, some)) (omega arith) (omega arith)
          (places (thread_of k p) first_state k p) (lies (thread_of k p) first_state k p),
    )
