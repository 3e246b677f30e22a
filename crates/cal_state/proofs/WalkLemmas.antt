-- What the parts of a plan make, one after another: their threads, and the places of their pieces.
use Rattle.std.proofs.Common.{◌≡◌, ℕ, ◌+◌, Bool, true, false, ◌&&◌, ◌||◌, not, List, [], ◌∷◌, ◌++◌, map, length, Option, inl, inr, refl, sym, ap, ap₂, subst, ◌∙◌, append_assoc, append-nil, arith, Vec, Global}
use Rattle.std.specs.Prelude.{if◌then◌else◌}
use Rattle.std.specs.Global.{Box}
use Rattle.std.proofs.lemmas.Bool.{cases_Bool, cond-true, cond-false}
use Rattle.hw_names.specs.Name.{Text}
use Rattle.hw_names.specs.declared.names.NameId.{NameId}
use Rattle.cal_ast.specs.Actors.{Actor}
use Rattle.cal_ast.specs.Plan.{Plan, Enables, InTurn, AtOnce, Chooses, Repeats, Plans, NoPlans, MorePlans, plan_at, section_plan}
use Rattle.cal_ast.specs.Tree.{PortName}
use Rattle.cal_ast.specs.declared.tree.CalPort.{CalPort}
use Rattle.cal_ast.specs.declared.tree.Control.{Control}
use Rattle.cal_token.specs.inside.Tokens.{Again, Going, Starting, Ended, size}
use Rattle.cal_walk.specs.Left.{is_over, are_over}
use Rattle.cal_lower.specs.inside.Parts.{none_if_over}
use Rattle.cal_lower.proofs.SizeLemmas.{item_after, plan, plans, plans_end, plans_next}
use Rattle.cal_state.specs.inside.Making.{ShowsPlaces, ShowsThread, Walk, at_once_walk, branch_walk, one_place, part_walk, start_places, start_walk, turn_walk, turns_walk, with_walk}
use Rattle.cal_state.specs.inside.Threads.{Thread, Place, NoState, place_in, ended_state, first_state, inner_threads, lasting_states, places, places_after, places_in_turn, states}
use Rattle.cal_state.specs.inside.Threads.{thread_of, threads_at_once, threads_in_turn, with_start_in}
use Rattle.cal_state.specs.declared.places.Entry.{Entry}
use Rattle.cal_state.specs.declared.places.Places.{Places}
use Rattle.cal_state.specs.declared.threads.Thread as code

abbrev pub no_walk : Walk
no_walk = record { threads = []; places = [] }

abbrev pub one_thread : Thread → Walk
one_thread t = record { threads = t ∷ []; places = [] }

pub walk_assoc : (a b c : Walk) → with_walk (with_walk a b) c ≡ with_walk a (with_walk b c)
walk_assoc a b c =
    ap₂ (λ (t : List Thread) (p : List Place). record { threads = t; places = p }) (append_assoc a.threads b.threads c.threads) (append_assoc a.places b.places c.places)

pub walk_none : (a : Walk) → with_walk a no_walk ≡ a
walk_none a = ap₂ (λ (t : List Thread) (p : List Place). record { threads = t; places = p }) (append-nil a.threads) (append-nil a.places)

pub not_so : (b : Bool) → not b ≡ true → b ≡ false
not_so true h = absurd (cc)
not_so false h = refl

pub so : (b : Bool) → not b ≡ false → b ≡ true
so true h = refl
so false h = absurd (cc)

-- ---- parts that take no row

left_over : (a b : Bool) → (a && b) ≡ true → a ≡ true
left_over true b h = refl
left_over false b h = h

right_over : (a b : Bool) → (a && b) ≡ true → b ≡ true
right_over true b h = h
right_over false b h = absurd (cc)

mutual
  pub over_threads : (k : ℕ) (p : Plan) → is_over p ≡ true → inner_threads k p ≡ []
  over_threads k (Enables actor) over = refl
  over_threads k (InTurn ps) over = over_in_turn (k + 1) ps over
  over_threads k (AtOnce ps) over = over_at_once (k + 1) ps over
  over_threads k (Chooses port by on off) over = absurd (cc)
  over_threads k (Repeats port by body) over = absurd (cc)

  over_in_turn : (k : ℕ) (ps : Plans) → are_over ps ≡ true → threads_in_turn k ps ≡ []
  over_in_turn k NoPlans over = refl
  over_in_turn k (MorePlans p ps) over =
      ap₂ ◌++◌ (over_threads k p (left_over (is_over p) (are_over ps) over)) (over_in_turn (k + size p) ps (right_over (is_over p) (are_over ps) over))

  over_at_once : (k : ℕ) (ps : Plans) → are_over ps ≡ true → threads_at_once k ps ≡ []
  over_at_once k NoPlans over = refl
  over_at_once k (MorePlans p ps) over =
      ap₂ ◌++◌ (cond-true (is_over p) [] (thread_of k p ∷ inner_threads k p) (left_over (is_over p) (are_over ps) over))
      (over_at_once (k + size p) ps (right_over (is_over p) (are_over ps) over))

pub turn_over : (later : Bool) (thread : Thread) (n k : ℕ) (p : Plan) → is_over p ≡ true → turn_walk later thread n k p ≡ no_walk
turn_over later thread n k p over =
    ap₂ (λ (t : List Thread) (x : List Place). record { threads = t; places = x }) (over_threads k p over)
    (cond-true (is_over p) [] (start_places later thread n k ++ places thread n k p) over)

pub turn_lasts : (later : Bool) (thread : Thread) (n k : ℕ) (p : Plan) → is_over p ≡ false
    → turn_walk later thread n k p ≡ with_walk (start_walk later thread n k) (part_walk thread n k p)
turn_lasts later thread n k p lasts =
    ap (λ (x : List Place). record { threads = inner_threads k p; places = x }) (cond-false (is_over p) [] (start_places later thread n k ++ places thread n k p) lasts)

pub branch_over : (k : ℕ) (p : Plan) → is_over p ≡ true → branch_walk k p ≡ no_walk
branch_over k p over =
    ap₂ (λ (t : List Thread) (x : List Place). record { threads = t; places = x })
    (cond-true (is_over p) [] (thread_of k p ∷ inner_threads k p) over)
    (cond-true (is_over p) [] (place_in (Ended k) (thread_of k p) ended_state ∷ places (thread_of k p) first_state k p) over)

pub branch_lasts : (k : ℕ) (p : Plan) → is_over p ≡ false
    → branch_walk k p ≡ with_walk (with_walk (one_thread (thread_of k p)) (one_place (place_in (Ended k) (thread_of k p) ended_state))) (part_walk (thread_of k p) first_state k p)
branch_lasts k p lasts =
    ap₂ (λ (t : List Thread) (x : List Place). record { threads = t; places = x })
    (cond-false (is_over p) [] (thread_of k p ∷ inner_threads k p) lasts)
    (cond-false (is_over p) [] (place_in (Ended k) (thread_of k p) ended_state ∷ places (thread_of k p) first_state k p) lasts)

-- ---- the forms of parts, after what was made so far

module _ (walk : Walk) (thread : Thread) (n k : ℕ) (p : Plan) where
  abbrev with_part : Walk
  with_part = with_walk walk (part_walk thread n k p)

  abbrev with_ends : Walk
  with_ends = with_walk walk (one_place NoState)

  same_part : (q : Plan) → p ≡ q → with_walk walk (part_walk thread n k q) ≡ with_part
  same_part q is = ap (λ (r : Plan). with_walk walk (part_walk thread n k r)) (sym is)

  pub enables_arm : (actor : Actor) → p ≡ Enables actor → with_walk with_ends (one_place (place_in (Going k) thread n)) ≡ with_part
  enables_arm actor is = walk_assoc walk (one_place NoState) (one_place (place_in (Going k) thread n)) ∙ same_part (Enables actor) is

  pub in_turn_arm : (ps : Plans) (later : Bool) (m j : ℕ) → later ≡ false → m ≡ n + 1 → j ≡ k + 1 → p ≡ InTurn ps → with_walk with_ends (turns_walk later thread m j ps) ≡ with_part
  in_turn_arm ps later m j later_is m_is j_is is =
      ap (λ (b : Bool). with_walk with_ends (turns_walk b thread m j ps)) later_is
      ∙ ap₂ (λ (a b : ℕ). with_walk with_ends (turns_walk false thread a b ps)) m_is j_is
      ∙ walk_assoc walk (one_place NoState) (turns_walk false thread (n + 1) (k + 1) ps) ∙ same_part (InTurn ps) is

  pub at_once_arm : (ps : Plans) (j : ℕ) → j ≡ k + 1 → p ≡ AtOnce ps → with_walk with_ends (at_once_walk j ps) ≡ with_part
  at_once_arm ps j j_is is =
      ap (λ (a : ℕ). with_walk with_ends (at_once_walk a ps)) j_is
      ∙ walk_assoc walk (one_place NoState) (at_once_walk (k + 1) ps) ∙ same_part (AtOnce ps) is

  pub chooses_arm : (port : PortName) (by : Option Actor) (on off : Plan) → p ≡ Chooses port by on off
      → with_walk (with_walk with_ends (turn_walk true thread (n + 1) (k + 1) on)) (turn_walk true thread (n + 1 + lasting_states on) (k + 1 + size on) off) ≡ with_part
  chooses_arm port by on off is =
      let one = turn_walk true thread (n + 1) (k + 1) on in
      let two = turn_walk true thread (n + 1 + lasting_states on) (k + 1 + size on) off in
      walk_assoc with_ends one two ∙ walk_assoc walk (one_place NoState) (with_walk one two) ∙ same_part (Chooses port by on off) is

  pub repeats_arm : (port : PortName) (by : Option Actor) (body : Plan) → p ≡ Repeats port by body
      → with_walk (with_walk with_ends (one_place (place_in (Again k) thread n))) (turn_walk true thread (n + 1) (k + 1) body) ≡ with_part
  repeats_arm port by body is =
      let one = one_place (place_in (Again k) thread n) in
      let two = turn_walk true thread (n + 1) (k + 1) body in
      walk_assoc with_ends one two ∙ walk_assoc walk (one_place NoState) (with_walk one two) ∙ same_part (Repeats port by body) is

  -- a part in turn, and one of several at once
  pub over_turn : (later : Bool) → is_over p ≡ true → walk ≡ with_walk walk (turn_walk later thread n k p)
  over_turn later over = sym (ap (with_walk walk) (turn_over later thread n k p over) ∙ walk_none walk)

  pub lasting_turn : (later : Bool) → is_over p ≡ false → with_walk (with_walk walk (start_walk later thread n k)) (part_walk thread n k p) ≡ with_walk walk (turn_walk later thread n k p)
  lasting_turn later lasts = walk_assoc walk (start_walk later thread n k) (part_walk thread n k p) ∙ ap (with_walk walk) (sym (turn_lasts later thread n k p lasts))

module _ (walk : Walk) (k : ℕ) (p : Plan) where
  pub over_branch : is_over p ≡ true → walk ≡ with_walk walk (branch_walk k p)
  over_branch over = sym (ap (with_walk walk) (branch_over k p over) ∙ walk_none walk)

  pub lasting_branch : is_over p ≡ false
      → with_walk (with_walk (with_walk walk (one_thread (thread_of k p))) (one_place (place_in (Ended k) (thread_of k p) ended_state))) (part_walk (thread_of k p) first_state k p)
      ≡ with_walk walk (branch_walk k p)
  lasting_branch lasts =
      let one = one_thread (thread_of k p) in
      let two = one_place (place_in (Ended k) (thread_of k p) ended_state) in
      let three = part_walk (thread_of k p) first_state k p in
      walk_assoc (with_walk walk one) two three ∙ walk_assoc walk one (with_walk two three) ∙ ap (with_walk walk) (sym (walk_assoc one two three) ∙ sym (branch_lasts k p lasts))

pub at_once_more : (k : ℕ) (p : Plan) (ps : Plans) → at_once_walk k (MorePlans p ps) ≡ with_walk (branch_walk k p) (at_once_walk (k + size p) ps)
at_once_more k p ps = refl

-- plans in turn, by whether the first of them starts later than the first of the thread
module _ (thread : Thread) (n k : ℕ) (p : Plan) (ps : Plans) where
  none : is_over p ≡ true → n + lasting_states p ≡ n
  none over = let zero : lasting_states p ≡ 0 = cond-true (is_over p) 0 (states p) over in omega (arith, zero)

  some : is_over p ≡ false → n + lasting_states p ≡ n + states p
  some lasts = ap (λ (s : ℕ). n + s) (cond-false (is_over p) 0 (states p) lasts)

  abbrev whole : Bool → List Place
  whole later = if later then places_after thread n k (MorePlans p ps) else places_in_turn thread n k (MorePlans p ps)

  abbrev first : Bool → List Place
  first later = none_if_over p (start_places later thread n k ++ places thread n k p)

  abbrev rest : Bool → ℕ → List Place
  rest later m = if later then places_after thread m (k + size p) ps else places_in_turn thread m (k + size p) ps

  when_over : (later : Bool) → is_over p ≡ true → whole later ≡ first later ++ rest (later || not (is_over p)) (n + lasting_states p)
  when_over true over =
      cond-true (is_over p) _ _ over ∙ ap (rest true) (sym (none over))
      ∙ sym (ap (λ (x : List Place). x ++ rest true (n + lasting_states p)) (cond-true (is_over p) [] (start_places true thread n k ++ places thread n k p) over))
  when_over false over =
      cond-true (is_over p) _ _ over ∙ ap (rest false) (sym (none over))
      ∙ ap (λ (b : Bool). rest (not b) (n + lasting_states p)) (sym over)
      ∙ sym (ap (λ (x : List Place). x ++ rest (not (is_over p)) (n + lasting_states p)) (cond-true (is_over p) [] (start_places false thread n k ++ places thread n k p) over))

  when_lasts : (later : Bool) → is_over p ≡ false → whole later ≡ first later ++ rest (later || not (is_over p)) (n + lasting_states p)
  when_lasts true lasts =
      cond-false (is_over p) _ _ lasts
      ∙ ap (λ (m : ℕ). with_start_in thread n k p (places thread n k p) ++ rest true m) (sym (some lasts))
  when_lasts false lasts =
      cond-false (is_over p) _ _ lasts
      ∙ ap (λ (m : ℕ). places thread n k p ++ rest true m) (sym (some lasts))
      ∙ ap (λ (b : Bool). places thread n k p ++ rest (not b) (n + lasting_states p)) (sym lasts)
      ∙ sym (ap (λ (x : List Place). x ++ rest (not (is_over p)) (n + lasting_states p)) (cond-false (is_over p) [] (start_places false thread n k ++ places thread n k p) lasts))

  pub turns_more : (later : Bool) → turns_walk later thread n k (MorePlans p ps)
      ≡ with_walk (turn_walk later thread n k p) (turns_walk (later || not (is_over p)) thread (n + lasting_states p) (k + size p) ps)
  turns_more later =
      ap (λ (x : List Place). record { threads = inner_threads k p ++ threads_in_turn (k + size p) ps; places = x })
      (elim (cases_Bool (is_over p)) [
        | inl over ↦ when_over later over
        | inr lasts ↦ when_lasts later lasts
      ])
