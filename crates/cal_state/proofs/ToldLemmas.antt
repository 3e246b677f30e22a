-- Tokens that are told by the states of threads: they are joint with those that brought the threads to these states.
use Rattle.std.proofs.Common.{◌≡◌, ◌⊎◌, inl, inr, ℕ, ◌+◌, ◌<◌, ◌≤◌, ◌==◌, List, [], ◌∷◌, ◌++◌, length, Bool, true, false, ◌&&◌, ◌||◌, MatchBool, refl, sym, ap, ap₂, subst, ◌∙◌, arith}
use Rattle.std.specs.Prelude.{if◌then◌else◌}
use Rattle.std.proofs.lemmas.Bool.{cases_Bool, cond-true, cond-false, eq-eqb, eqb-true, ne_eqb, or_from, and_parts}
use Rattle.net_core.specs.Circuit.{settled}
use Rattle.cal_ast.specs.Plan.{Plan, Enables, InTurn, AtOnce, Chooses, Repeats, Plans, NoPlans, MorePlans}
use Rattle.cal_walk.specs.Left.{is_over}
use Rattle.cal_token.specs.inside.Tokens.{Token, Tokens, Going, Starting, Ended, Again, size, sizes}
use Rattle.cal_token.proofs.TestLemmas.{or_same, at_true, at_false}
use Rattle.cal_lower.specs.inside.Parts.{none_if_over}
use Rattle.cal_state.specs.inside.Threads.{Thread, State, Place, NoState, IsIn, place_in, with_start_in, places, places_in_turn, places_after, places_at_once}
use Rattle.cal_state.specs.inside.Threads.{thread_of, ended_state, first_state, lasting_states, states, states_in}
use Rattle.cal_state.proofs.JointLemmas.{Lasting, Joint, JointInTurn, JointAfter, JointAtOnce, JointLater}
use Rattle.cal_state.proofs.OnLemmas.{on, on-append, none_outside}
use Rattle.cal_state.proofs.PlaceLemmas.{Lies, EachLies, branch, branch_lies, each_wider, lies_unless, later_lies, lies, lies_append, lies_in_turn, lies_after, lies_at_once, lasting_is, some_parts}

-- the number is among these
abbrev pub among : ℕ → List ℕ → Bool
among n [] = false
among n (m ∷ ms) = (m == n) || among n ms

among-append : (n : ℕ) (xs ys : List ℕ) → among n (xs ++ ys) ≡ (among n xs || among n ys)
among-append n [] ys = refl
among-append n (x ∷ xs) ys = ap (λ b. (x == n) || b) (among-append n xs ys) ∙ joined (x == n) (among n xs) (among n ys)
  where
    joined : (a b c : Bool) → (a || (b || c)) ≡ ((a || b) || c)
    joined true b c = refl
    joined false b c = refl

-- of at most one number, which settles, this is the one where it is among them
pub settles_among : (n : ℕ) (ns : List ℕ) → 1 ≤ n → length ns ≤ 1 → (settled ns == n) ≡ among n ns
settles_among n [] some few = ne_eqb 0 n (λ e. absurd (omega (arith, some, e)))
settles_among n (m ∷ []) some few = sym (or_none (m == n))
  where
    or_none : (b : Bool) → (b || false) ≡ b
    or_none true = refl
    or_none false = refl
settles_among n (m ∷ k ∷ ms) some few = absurd (omega (arith, few))

module _ (v w : Tokens) where
  -- the token is there by w where its state is one whose token is there by v, of the places in this list
  abbrev pub Told : (all : List Place) → Place → Type 0
  Told all NoState = Unit {0}
  Told all (IsIn token state) = w token ≡ among state.number (on v state.thread.part all)

  abbrev pub AllTold : (all xs : List Place) → Type 0
  AllTold all [] = Unit {0}
  AllTold all (x ∷ xs) = Told all x × AllTold all xs

  told_left : (all xs ys : List Place) → AllTold all (xs ++ ys) → AllTold all xs
  told_left all [] ys told = tt
  told_left all (x ∷ xs) ys told = (told.0, told_left all xs ys told.1)

  told_right : (all xs ys : List Place) → AllTold all (xs ++ ys) → AllTold all ys
  told_right all [] ys told = told
  told_right all (x ∷ xs) ys told = told_right all xs ys told.1

  or_false : (b : Bool) → (b || false) ≡ b
  or_false true = refl
  or_false false = refl

  -- ---- lists that are apart

  -- no number out of the range is among those of the thread
  none_among : (t low high first last n : ℕ) (xs : List Place) → EachLies t low high first last xs → (low ≤ n → n < high → ⊥) → (first ≤ t → t < last → ⊥)
      → among n (on v t xs) ≡ false
  none_among t low high first last n [] each apart outside = refl
  none_among t low high first last n (NoState ∷ xs) each apart outside = none_among t low high first last n xs each.1 apart outside
  none_among t low high first last n (IsIn token state ∷ xs) each apart outside =
      let rest : among n (on v t xs) ≡ false = none_among t low high first last n xs each.1 apart outside in
      let A : List ℕ → Type 0 = λ ns. among n ns ≡ false in
      elim (cases_Bool ((state.thread.part == t) && v token)) [
        | inl is ↦
            let same : state.thread.part ≡ t = eqb-true state.thread.part t (and_parts (state.thread.part == t) (v token) is).0 in
            subst A (sym (cond-true ((state.thread.part == t) && v token) (state.number ∷ on v t xs) (on v t xs) is))
            (or_from (state.number == n) (among n (on v t xs)) (ne_eqb state.number n (differs same each.0)) rest)
        | inr not ↦ subst A (sym (cond-false ((state.thread.part == t) && v token) (state.number ∷ on v t xs) (on v t xs) not)) rest
      ]
    where
      differs : state.thread.part ≡ t → Lies t low high first last (IsIn token state) → state.number ≡ n → ⊥
      differs same (inl (own, from, below)) e = apart (omega (arith, from, e)) (omega (arith, below, e))
      differs same (inr (from, below)) e = outside (omega (arith, from, same)) (omega (arith, below, same))

  -- what is told by both lists is told by the first, where the second is apart from it, and the other way round
  module _ (t lowA highA firstA lastA lowB highB firstB lastB : ℕ) (xs ys : List Place) (here : EachLies t lowA highA firstA lastA xs) (there : EachLies t lowB highB firstB lastB ys)
      (numbers : highA ≤ lowB) (parts : lastA ≤ firstB) (before : t < firstA) (above : t < firstB) where
    both_among : (state : State) → among state.number (on v state.thread.part (xs ++ ys))
        ≡ (among state.number (on v state.thread.part xs) || among state.number (on v state.thread.part ys))
    both_among state =
        ap (among state.number) (on-append v state.thread.part xs ys) ∙ among-append state.number (on v state.thread.part xs) (on v state.thread.part ys)

    only_left : (token : Token) (state : State) → Lies t lowA highA firstA lastA (IsIn token state)
        → among state.number (on v state.thread.part (xs ++ ys)) ≡ among state.number (on v state.thread.part xs)
    only_left token state lies' =
        both_among state ∙ ap (λ b. among state.number (on v state.thread.part xs) || b) (none lies') ∙ or_false (among state.number (on v state.thread.part xs))
      where
        none : Lies t lowA highA firstA lastA (IsIn token state) → among state.number (on v state.thread.part ys) ≡ false
        none (inl (own, from, below)) =
            subst (λ p. among state.number (on v p ys) ≡ false) (sym own)
            (none_among t lowB highB firstB lastB state.number ys there (λ a b. absurd (omega (arith, below, a, numbers))) (λ a b. absurd (omega (arith, a, above))))
        none (inr (from, below)) =
            ap (among state.number)
            (none_outside v state.thread.part t lowB highB firstB lastB ys there (λ e. absurd (omega (arith, from, e, before))) (λ a b. absurd (omega (arith, below, a, parts))))

    only_right : (token : Token) (state : State) → Lies t lowB highB firstB lastB (IsIn token state)
        → among state.number (on v state.thread.part (xs ++ ys)) ≡ among state.number (on v state.thread.part ys)
    only_right token state lies' = both_among state ∙ ap (λ b. b || among state.number (on v state.thread.part ys)) (none lies')
      where
        none : Lies t lowB highB firstB lastB (IsIn token state) → among state.number (on v state.thread.part xs) ≡ false
        none (inl (own, from, below)) =
            subst (λ p. among state.number (on v p xs) ≡ false) (sym own)
            (none_among t lowA highA firstA lastA state.number xs here (λ a b. absurd (omega (arith, from, b, numbers))) (λ a b. absurd (omega (arith, a, before))))
        none (inr (from, below)) =
            ap (among state.number)
            (none_outside v state.thread.part t lowA highA firstA lastA xs here (λ e. absurd (omega (arith, from, e, above))) (λ a b. absurd (omega (arith, from, b, parts))))

    lefts : (zs : List Place) → EachLies t lowA highA firstA lastA zs → AllTold (xs ++ ys) zs → AllTold xs zs
    lefts [] each told = tt
    lefts (NoState ∷ zs) each told = (tt, lefts zs each.1 told.1)
    lefts (IsIn token state ∷ zs) each told = (told.0 ∙ only_left token state each.0, lefts zs each.1 told.1)

    rights : (zs : List Place) → EachLies t lowB highB firstB lastB zs → AllTold (xs ++ ys) zs → AllTold ys zs
    rights [] each told = tt
    rights (NoState ∷ zs) each told = (tt, rights zs each.1 told.1)
    rights (IsIn token state ∷ zs) each told = (told.0 ∙ only_right token state each.0, rights zs each.1 told.1)

    left_told : AllTold (xs ++ ys) (xs ++ ys) → AllTold xs xs
    left_told told = lefts xs here (told_left (xs ++ ys) xs ys told)

    right_told : AllTold (xs ++ ys) (xs ++ ys) → AllTold ys ys
    right_told told = rights ys there (told_right (xs ++ ys) xs ys told)

  -- ---- one state

  -- the first token's state is on where its token is there, or it is among the others
  first_among : (token : Token) (thread : Thread) (n : ℕ) (xs : List Place)
      → among n (on v thread.part (place_in token thread n ∷ xs)) ≡ (v token || among n (on v thread.part xs))
  first_among token thread n xs =
      ap (λ b. among n (if b && v token then n ∷ on v thread.part xs else on v thread.part xs)) (eq-eqb thread.part thread.part refl) ∙ by (v token)
    where
      by : (b : Bool) → among n (if b then n ∷ on v thread.part xs else on v thread.part xs) ≡ (b || among n (on v thread.part xs))
      by true = ap (λ b. b || among n (on v thread.part xs)) (eq-eqb n n refl)
      by false = refl

  one_among : (token : Token) (thread : Thread) (n : ℕ) → among n (on v thread.part (place_in token thread n ∷ [])) ≡ v token
  one_among token thread n = first_among token thread n [] ∙ or_false (v token)

  two_among : (token other : Token) (thread : Thread) (n : ℕ)
      → among n (on v thread.part (place_in token thread n ∷ place_in other thread n ∷ [])) ≡ (v token || v other)
  two_among token other thread n = first_among token thread n (place_in other thread n ∷ []) ∙ ap (λ b. v token || b) (one_among other thread n)

  -- two tokens that each say that one of them is there
  both_same : (a b x y : Bool) → x ≡ (a || b) → y ≡ (a || b) → (a || b) ≡ (x || y)
  both_same a b x y one other = sym (ap₂ (λ p q. p || q) one other ∙ twice (a || b))
    where
      twice : (c : Bool) → (c || c) ≡ c
      twice true = refl
      twice false = refl

  lasting : (p : Plan) (fact : Type 0) → (is_over p ≡ false → fact) → Lasting p fact
  lasting p fact f = by (is_over p) f
    where
      by : (b : Bool) → (b ≡ false → fact) → MatchBool b (Unit {0}) fact
      by true g = tt
      by false g = g refl

  unless_told : (p : Plan) (xs : List Place) → is_over p ≡ false → AllTold (none_if_over p xs) (none_if_over p xs) → AllTold xs xs
  unless_told p xs more told = let T : List Place → Type 0 = λ ys. AllTold ys ys in subst T (cond-false (is_over p) [] xs more) told

  -- ---- a part that is told is joint

  module _ (thread : Thread) (n k : ℕ) (below : thread.part < k + 1) where
    -- the tokens of the part itself, and those of the parts inside it
    abbrev Own : List Place → Type 0
    Own xs = EachLies thread.part n (n + 1) (k + 1) (k + 1) xs

    abbrev Inner : ℕ → ℕ → List Place → Type 0
    Inner high last xs = EachLies thread.part (n + 1) high (k + 1) last xs

    own_told : (high last : ℕ) (xs ys : List Place) → Own xs → Inner high last ys → AllTold (xs ++ ys) (xs ++ ys) → AllTold xs xs
    own_told high last xs ys own inner told =
        left_told thread.part n (n + 1) (k + 1) (k + 1) (n + 1) high (k + 1) last xs ys own inner (omega arith) (omega arith) below below told

    inner_told : (high last : ℕ) (xs ys : List Place) → Own xs → Inner high last ys → AllTold (xs ++ ys) (xs ++ ys) → AllTold ys ys
    inner_told high last xs ys own inner told =
        right_told thread.part n (n + 1) (k + 1) (k + 1) (n + 1) high (k + 1) last xs ys own inner (omega arith) (omega arith) below below told

    own_place : (token : Token) → Lies thread.part n (n + 1) (k + 1) (k + 1) (place_in token thread n)
    own_place token = inl (refl, omega arith, omega arith)

  -- the places of the two branches of a choice
  abbrev branches : (thread : Thread) (n k : ℕ) (on' off : Plan) → List Place
  branches thread n k on' off =
      with_start_in thread (n + 1) (k + 1) on' (places thread (n + 1) (k + 1) on')
      ++ with_start_in thread (n + 1 + lasting_states on') (k + 1 + size on') off (places thread (n + 1 + lasting_states on') (k + 1 + size on') off)

  branches_lie : (thread : Thread) (n k : ℕ) (on' off : Plan)
      → EachLies thread.part (n + 1) (n + 1 + lasting_states on' + lasting_states off) (k + 1) (k + 1 + size on' + size off) (branches thread n k on' off)
  branches_lie thread n k on' off =
      let m : ℕ = n + 1 + lasting_states on' in
      let j : ℕ = k + 1 + size on' in
      lies_append thread.part (n + 1) (m + lasting_states off) (k + 1) (j + size off) (with_start_in thread (n + 1) (k + 1) on' (places thread (n + 1) (k + 1) on'))
      (with_start_in thread m j off (places thread m j off))
      (each_wider thread.part (n + 1) m (k + 1 + 1) j (n + 1) (m + lasting_states off) (k + 1) (j + size off) (omega arith) (omega arith) (omega arith) (omega arith)
      (with_start_in thread (n + 1) (k + 1) on' (places thread (n + 1) (k + 1) on')) (later_lies thread (n + 1) (k + 1) on' (lies thread (n + 1) (k + 1) on')))
      (each_wider thread.part m (m + lasting_states off) (j + 1) (j + size off) (n + 1) (m + lasting_states off) (k + 1) (j + size off) (omega arith) (omega arith) (omega arith) (omega arith)
      (with_start_in thread m j off (places thread m j off)) (later_lies thread m j off (lies thread m j off)))

  body_lies : (thread : Thread) (n k : ℕ) (body : Plan)
      → EachLies thread.part (n + 1) (n + 1 + lasting_states body) (k + 1) (k + 1 + size body) (with_start_in thread (n + 1) (k + 1) body (places thread (n + 1) (k + 1) body))
  body_lies thread n k body =
      each_wider thread.part (n + 1) (n + 1 + lasting_states body) (k + 1 + 1) (k + 1 + size body) (n + 1) (n + 1 + lasting_states body) (k + 1) (k + 1 + size body) (omega arith) (omega arith)
      (omega arith) (omega arith) (with_start_in thread (n + 1) (k + 1) body (places thread (n + 1) (k + 1) body)) (later_lies thread (n + 1) (k + 1) body (lies thread (n + 1) (k + 1) body))

  -- what is told of both branches of a choice is told of each
  told_branches : (thread : Thread) (n k : ℕ) (on' off : Plan) → thread.part < k + 1 → AllTold (branches thread n k on' off) (branches thread n k on' off)
      → AllTold (with_start_in thread (n + 1) (k + 1) on' (places thread (n + 1) (k + 1) on')) (with_start_in thread (n + 1) (k + 1) on' (places thread (n + 1) (k + 1) on'))
      × AllTold (with_start_in thread (n + 1 + lasting_states on') (k + 1 + size on') off (places thread (n + 1 + lasting_states on') (k + 1 + size on') off))
      (with_start_in thread (n + 1 + lasting_states on') (k + 1 + size on') off (places thread (n + 1 + lasting_states on') (k + 1 + size on') off))
  told_branches thread n k on' off below told =
      let m : ℕ = n + 1 + lasting_states on' in
      let j : ℕ = k + 1 + size on' in
      let one : List Place = with_start_in thread (n + 1) (k + 1) on' (places thread (n + 1) (k + 1) on') in
      let two : List Place = with_start_in thread m j off (places thread m j off) in
      let lie_one = later_lies thread (n + 1) (k + 1) on' (lies thread (n + 1) (k + 1) on') in
      let lie_two = later_lies thread m j off (lies thread m j off) in (
        left_told thread.part (n + 1) m (k + 1 + 1) j m (m + lasting_states off) (j + 1) (j + size off) one two lie_one lie_two (omega arith) (omega arith) (omega (arith, below))
            (omega (arith, below)) told,
        right_told thread.part (n + 1) m (k + 1 + 1) j m (m + lasting_states off) (j + 1) (j + size off) one two lie_one lie_two (omega arith) (omega arith) (omega (arith, below))
            (omega (arith, below)) told,
      )

  mutual
    -- a part that starts where another one does
    pub told_joint : (thread : Thread) (n k : ℕ) (p : Plan) (start other : Bool) → thread.part < k + 1 → start ≡ other → AllTold (places thread n k p) (places thread n k p)
        → Joint v w k p start other
    told_joint thread n k (Enables actor) start other below same told =
        let goes : w (Going k) ≡ v (Going k) = told.1.0 ∙ one_among (Going k) thread n in
        or_same start (v (Going k)) other (w (Going k)) same (sym goes)
    told_joint thread n k (InTurn ps) start other below same told = told_in_turn thread (n + 1) (k + 1) ps start other below same told.1
    told_joint thread n k (AtOnce ps) start other below same told = told_at_once thread.part (k + 1) ps start other below same told.1
    told_joint thread n k (Chooses port by on' off) start other below same told =
        let two = told_branches thread n k on' off below told.1 in (
          same,
          told_later thread (n + 1) (k + 1) on' (omega (arith, below)) two.0,
          told_later thread (n + 1 + lasting_states on') (k + 1 + size on') off (omega (arith, below)) two.1,
        )
    told_joint thread n k (Repeats port by body) start other below same told =
        let own : List Place = place_in (Again k) thread n ∷ [] in
        let inner : List Place = with_start_in thread (n + 1) (k + 1) body (places thread (n + 1) (k + 1) body) in
        let lie = body_lies thread n k body in
        let again : w (Again k) ≡ v (Again k) =
        (own_told thread n k below (n + 1 + lasting_states body) (k + 1 + size body) own inner (own_place thread n k below (Again k), tt) lie told.1).0 ∙ one_among (Again k) thread n in (
          or_same start (v (Again k)) other (w (Again k)) same (sym again),
          told_later thread (n + 1) (k + 1) body (omega (arith, below))
              (inner_told thread n k below (n + 1 + lasting_states body) (k + 1 + size body) own inner (own_place thread n k below (Again k), tt) lie told.1),
        )

    -- a part that starts by its own token, unless it takes no row
    pub told_later : (thread : Thread) (n k : ℕ) (p : Plan) → thread.part < k + 1
        → AllTold (with_start_in thread n k p (places thread n k p)) (with_start_in thread n k p (places thread n k p)) → JointLater v w k p
    told_later thread n k (Enables actor) below told =
        let two : AllTold (place_in (Starting k) thread n ∷ NoState ∷ place_in (Going k) thread n ∷ []) (place_in (Starting k) thread n ∷ NoState ∷ place_in (Going k) thread n ∷ []) = told in
        both_same (v (Starting k)) (v (Going k)) (w (Starting k)) (w (Going k)) (two.0 ∙ two_among (Starting k) (Going k) thread n) (two.1.1.0 ∙ two_among (Starting k) (Going k) thread n)
    told_later thread n k (InTurn ps) below told =
        lasting (InTurn ps) (Joint v w k (InTurn ps) (v (Starting k)) (w (Starting k))) (λ more.
        let own : List Place = place_in (Starting k) thread n ∷ NoState ∷ [] in
        let inner : List Place = places_in_turn thread (n + 1) (k + 1) ps in
        let whole : AllTold (own ++ inner) (own ++ inner) = unless_told (InTurn ps) (own ++ inner) more told in
        let lie = lies_in_turn thread (n + 1) (k + 1) ps in
        let starts : w (Starting k) ≡ v (Starting k) =
        (own_told thread n k below (n + 1 + states_in ps) (k + 1 + sizes ps) own inner (own_place thread n k below (Starting k), (tt, tt)) lie whole).0 ∙ one_among (Starting k) thread n in
        told_in_turn thread (n + 1) (k + 1) ps (v (Starting k)) (w (Starting k)) below (sym starts)
        (inner_told thread n k below (n + 1 + states_in ps) (k + 1 + sizes ps) own inner (own_place thread n k below (Starting k), (tt, tt)) lie whole))
    told_later thread n k (AtOnce ps) below told =
        lasting (AtOnce ps) (Joint v w k (AtOnce ps) (v (Starting k)) (w (Starting k))) (λ more.
        let own : List Place = place_in (Starting k) thread n ∷ NoState ∷ [] in
        let inner : List Place = places_at_once (k + 1) ps in
        let whole : AllTold (own ++ inner) (own ++ inner) = unless_told (AtOnce ps) (own ++ inner) more told in
        let lie = lies_at_once thread.part (n + 1) (n + 1) (k + 1) ps in
        let starts : w (Starting k) ≡ v (Starting k) =
        (own_told thread n k below (n + 1) (k + 1 + sizes ps) own inner (own_place thread n k below (Starting k), (tt, tt)) lie whole).0 ∙ one_among (Starting k) thread n in
        told_at_once thread.part (k + 1) ps (v (Starting k)) (w (Starting k)) below (sym starts)
        (inner_told thread n k below (n + 1) (k + 1 + sizes ps) own inner (own_place thread n k below (Starting k), (tt, tt)) lie whole))
    told_later thread n k (Chooses port by on' off) below told =
        let own : List Place = place_in (Starting k) thread n ∷ NoState ∷ [] in
        let high : ℕ = n + 1 + lasting_states on' + lasting_states off in
        let last : ℕ = k + 1 + size on' + size off in
        let inner : List Place = branches thread n k on' off in
        let lie = branches_lie thread n k on' off in
        let starts : w (Starting k) ≡ v (Starting k) =
        (own_told thread n k below high last own inner (own_place thread n k below (Starting k), (tt, tt)) lie told).0 ∙ one_among (Starting k) thread n in
        let two = told_branches thread n k on' off below (inner_told thread n k below high last own inner (own_place thread n k below (Starting k), (tt, tt)) lie told) in (
          sym starts,
          told_later thread (n + 1) (k + 1) on' (omega (arith, below)) two.0,
          told_later thread (n + 1 + lasting_states on') (k + 1 + size on') off (omega (arith, below)) two.1,
        )
    told_later thread n k (Repeats port by body) below told =
        let own : List Place = place_in (Starting k) thread n ∷ NoState ∷ place_in (Again k) thread n ∷ [] in
        let inner : List Place = with_start_in thread (n + 1) (k + 1) body (places thread (n + 1) (k + 1) body) in
        let lie = body_lies thread n k body in
        let mine : Own thread n k below own = (own_place thread n k below (Starting k), (tt, (own_place thread n k below (Again k), tt))) in
        let two = own_told thread n k below (n + 1 + lasting_states body) (k + 1 + size body) own inner mine lie told in (
          both_same (v (Starting k)) (v (Again k)) (w (Starting k)) (w (Again k)) (two.0 ∙ two_among (Starting k) (Again k) thread n)
              (two.1.1.0 ∙ two_among (Starting k) (Again k) thread n),
          told_later thread (n + 1) (k + 1) body (omega (arith, below))
              (inner_told thread n k below (n + 1 + lasting_states body) (k + 1 + size body) own inner mine lie told),
        )

    told_in_turn : (thread : Thread) (n k : ℕ) (ps : Plans) (start other : Bool) → thread.part < k → start ≡ other → AllTold (places_in_turn thread n k ps) (places_in_turn thread n k ps)
        → JointInTurn v w k ps start other
    told_in_turn thread n k NoPlans start other below same told = tt
    told_in_turn thread n k (MorePlans p ps) start other below same told =
        let P = JointInTurn v w (k + size p) ps start other in
        let Q = Joint v w k p start other × JointAfter v w (k + size p) ps in
        let T : List Place → Type 0 = λ xs. AllTold xs xs in
        let rest : List Place = places_after thread (n + states p) (k + size p) ps in
        elim (cases_Bool (is_over p)) [
          | inl over ↦ at_true (is_over p) P Q over
              (told_in_turn thread n (k + size p) ps start other (omega (arith, below)) same
              (subst T (cond-true (is_over p) (places_in_turn thread n (k + size p) ps) (places thread n k p ++ rest) over) told))
          | inr more ↦
              let whole : AllTold (places thread n k p ++ rest) (places thread n k p ++ rest) =
              subst T (cond-false (is_over p) (places_in_turn thread n (k + size p) ps) (places thread n k p ++ rest) more) told in
              let lie_one = lies thread n k p in
              let lie_two = lies_after thread (n + states p) (k + size p) ps in
              let some = some_parts p in
              at_false (is_over p) P Q more (
                told_joint thread n k p start other (omega (arith, below)) same
                    (left_told thread.part n (n + states p) (k + 1) (k + size p) (n + states p) (n + states p + states_in ps) (k + size p) (k + size p + sizes ps) (places thread n k p) rest lie_one lie_two
                    (omega arith) (omega arith) (omega (arith, below)) (omega (arith, below)) whole),
                told_after thread (n + states p) (k + size p) ps (omega (arith, below))
                    (right_told thread.part n (n + states p) (k + 1) (k + size p) (n + states p) (n + states p + states_in ps) (k + size p) (k + size p + sizes ps) (places thread n k p) rest lie_one lie_two
                    (omega arith) (omega arith) (omega (arith, below)) (omega (arith, below)) whole),
              )
        ]

    told_after : (thread : Thread) (n k : ℕ) (ps : Plans) → thread.part < k → AllTold (places_after thread n k ps) (places_after thread n k ps) → JointAfter v w k ps
    told_after thread n k NoPlans below told = tt
    told_after thread n k (MorePlans p ps) below told =
        let T : List Place → Type 0 = λ xs. AllTold xs xs in
        let first : List Place = with_start_in thread n k p (places thread n k p) in
        let rest : List Place = places_after thread (n + states p) (k + size p) ps in
        elim (cases_Bool (is_over p)) [
          | inl over ↦ (
            at_true (is_over p) (Unit {0}) (Joint v w k p (v (Starting k)) (w (Starting k))) over tt,
            told_after thread n (k + size p) ps (omega (arith, below)) (subst T (cond-true (is_over p) (places_after thread n (k + size p) ps) (first ++ rest) over) told),
          )
          | inr more ↦
              let whole : AllTold (first ++ rest) (first ++ rest) = subst T (cond-false (is_over p) (places_after thread n (k + size p) ps) (first ++ rest) more) told in
              let is = lasting_is p more in
              let lie_one = later_lies thread n k p (lies thread n k p) in
              let lie_two = lies_after thread (n + states p) (k + size p) ps in (
                told_later thread n k p (omega (arith, below))
                    (left_told thread.part n (n + lasting_states p) (k + 1) (k + size p) (n + states p) (n + states p + states_in ps) (k + size p) (k + size p + sizes ps) first rest lie_one lie_two
                    (omega (arith, is)) (omega arith) (omega (arith, below)) (omega (arith, below)) whole),
                told_after thread (n + states p) (k + size p) ps (omega (arith, below))
                    (right_told thread.part n (n + lasting_states p) (k + 1) (k + size p) (n + states p) (n + states p + states_in ps) (k + size p) (k + size p + sizes ps) first rest lie_one lie_two
                    (omega (arith, is)) (omega arith) (omega (arith, below)) (omega (arith, below)) whole),
              )
        ]

    told_at_once : (outer k : ℕ) (ps : Plans) (start other : Bool) → outer < k → start ≡ other → AllTold (places_at_once k ps) (places_at_once k ps)
        → JointAtOnce v w k ps start other
    told_at_once outer k NoPlans start other below same told = tt
    told_at_once outer k (MorePlans p ps) start other below same told =
        let own : List Place = place_in (Ended k) (thread_of k p) ended_state ∷ [] in
        let inner : List Place = places (thread_of k p) first_state k p in
        let first : List Place = none_if_over p (own ++ inner) in
        let rest : List Place = places_at_once (k + size p) ps in
        let lie_one = lies_unless outer 0 0 k (k + size p) p (branch k p) (λ more. branch_lies outer 0 0 k p) in
        let lie_two = lies_at_once outer 0 0 (k + size p) ps in
        let fact = Joint v w k p start other × (v (Ended k) ≡ w (Ended k)) in (
          lasting p fact (λ more.
              let whole : AllTold (own ++ inner) (own ++ inner) =
              unless_told p (own ++ inner) more
              (left_told outer 0 0 k (k + size p) 0 0 (k + size p) (k + size p + sizes ps) first rest lie_one lie_two (omega arith) (omega arith) below (omega (arith, below)) told) in
              let mine : Own (thread_of k p) ended_state k (omega arith) own = (inl (refl, omega arith, omega arith), tt) in
              let lie = lies (thread_of k p) first_state k p in
              let ended : w (Ended k) ≡ v (Ended k) =
              (own_told (thread_of k p) ended_state k (omega arith) (first_state + states p) (k + size p) own inner mine lie whole).0 ∙ one_among (Ended k) (thread_of k p) ended_state in (
                told_joint (thread_of k p) first_state k p start other (omega arith) same
                    (inner_told (thread_of k p) ended_state k (omega arith) (first_state + states p) (k + size p) own inner mine lie whole),
                sym ended,
              )),
          told_at_once outer (k + size p) ps start other (omega (arith, below)) same
              (right_told outer 0 0 k (k + size p) 0 0 (k + size p) (k + size p + sizes ps) first rest lie_one lie_two (omega arith) (omega arith) below (omega (arith, below)) told),
        )
