-- Control that is walked forward stands, before each row, where the schedule says.
use Rattle.std.proofs.Common.{◌≡◌, ◌⊎◌, ◌↔◌, ℕ, zero, suc, ◌+◌, ◌<◌, ◌≤◌, max, Bool, true, false, ◌&&◌, refl, sym, ap, ◌∙◌, subst, inl, inr, arith}
use Rattle.std.specs.Prelude.{if◌then◌else◌}
use Rattle.std.proofs.lemmas.Bool.{cases_Bool, and_parts, and_from}
use Rattle.cal_ast.specs.Actors.{Actor}
use Rattle.cal_ast.specs.Plan.{Plan}
use Rattle.cal_ast.specs.Spans.{View, IsFirst, Spans, Acts}
use Rattle.cal_ast.specs.Starts.{done_row, Starts, AtFirst, Again, IsDoneRow, IsActing}
use Rattle.cal_walk.specs.Left.{sight_at, is_over, left, wants}
use Rattle.cal_walk.specs.Stages.{Progress, Waits, GoesOn, Ends, progress_of, next_progress, progress_at, acts_now, is_done_now, WalkingIsTheSchedule}
use Rattle.cal_walk.proofs.LeftLemmas.{not_both, row_cases, spans_from, over_end, over_spans, over_acts, lasts, acts_within, spans_left, left_spans, acts_left, left_acts}
use Rattle.cal_walk.proofs.WantLemmas.{acts_wants, wants_acts}

module _ (v : View) where
  -- a plan has one end
  same_end : (n : ℕ) (p : Plan) (t a b : ℕ) → a ≤ t + n → Spans v p t a → Spans v p t b → a ≡ b
  same_end zero p t a b fuel one other = elim (cases_Bool (is_over p)) [
    | inl over ↦ over_end v p t a over one ∙ sym (over_end v p t b over other)
    | inr more ↦ let later : t < a = (lasts v p t a more one).0 in absurd (omega arith)
  ]
  same_end (suc n) p t a b fuel one other = elim (cases_Bool (is_over p)) [
    | inl over ↦ over_end v p t a over one ∙ sym (over_end v p t b over other)
    | inr more ↦
        let here : t < v.rows = (lasts v p t a more one).1 in
        let after_a : t < a = (lasts v p t a more one).0 in
        let after_b : t < b = (lasts v p t b more other).0 in
        let is_a : max a (t + 1) ≡ a = omega arith in
        let is_b : max b (t + 1) ≡ b = omega arith in
        let E : ℕ → Type 0 = Spans v (left (sight_at v t) p) (t + 1) in
        same_end n (left (sight_at v t) p) (t + 1) a b (omega arith) (subst E is_a (spans_left v t here p a one)) (subst E is_b (spans_left v t here p b other))
  ]

  pub one_end : (p : Plan) (t a b : ℕ) → Spans v p t a → Spans v p t b → a ≡ b
  one_end p t a b one other = same_end a p t a b (omega arith) one other

  -- actors act before the end
  acts_by : (n : ℕ) (p : Plan) (t end : ℕ) (actor : Actor) (r : ℕ) → end ≤ t + n → is_over p ≡ false → Spans v p t end → Acts v p t actor r → r < end
  acts_by zero p t end actor r fuel more spans acts = let later : t < end = (lasts v p t end more spans).0 in absurd (omega arith)
  acts_by (suc n) p t end actor r fuel more spans acts =
      let here : t < v.rows = (lasts v p t end more spans).1 in
      let later : t < end = (lasts v p t end more spans).0 in
      let is : max end (t + 1) ≡ end = omega arith in
      let E : ℕ → Type 0 = Spans v (left (sight_at v t) p) (t + 1) in
      elim (row_cases t r (acts_within v p t actor r acts).0) [
        | inl same ↦ omega arith
        | inr after ↦ elim (cases_Bool (is_over (left (sight_at v t) p))) [
          | inl over ↦ absurd (over_acts v (left (sight_at v t) p) (t + 1) actor r over (acts_left v t here p actor r after acts))
          | inr lasting ↦
              acts_by n (left (sight_at v t) p) (t + 1) end actor r (omega arith) lasting (subst E is (spans_left v t here p end spans)) (acts_left v t here p actor r after acts)
        ]
      ]

  pub acts_before_end : (p : Plan) (t end : ℕ) (actor : Actor) (r : ℕ) → Spans v p t end → Acts v p t actor r → r < end
  acts_before_end p t end actor r spans acts = elim (cases_Bool (is_over p)) [
    | inl over ↦ absurd (over_acts v p t actor r over acts)
    | inr more ↦ acts_by end p t end actor r (omega arith) more spans acts
  ]

module _ (v : View) (go : ℕ → Bool) (plan : Plan) where
  -- a start whose done row is before this row
  record HasEnded (start bound : ℕ) : Type 0 where
    end : ℕ
    spans : Spans v plan start end
    before : done_row start end < bound

  -- before row t: the next start is looked for from row 0 on, or from the one after a done row, and there was no go since
  record IsWaiting (t : ℕ) : Type 0 where
    from : ℕ
    within : from ≤ t
    looks : (from ≡ 0) ⊎ ((start end : ℕ) × Starts v go plan start × Spans v plan start end × (from ≡ done_row start end + 1))
    quiet : (r : ℕ) → from ≤ r → r < t → go r ≡ false
    past : (other : ℕ) → Starts v go plan other → other < t → HasEnded other from

  -- from this start on the plan goes on as p does from row t
  record IsGoing (t : ℕ) (p : Plan) : Type 0 where
    start : ℕ
    starts : Starts v go plan start
    within : start ≤ t
    spans : (end : ℕ) → Spans v plan start end → Spans v p t (max end t)
    back : (end : ℕ) → Spans v p t end → (first : ℕ) × Spans v plan start first × (end ≡ max first t)
    acts : (actor : Actor) (r : ℕ) → t ≤ r → Acts v plan start actor r → Acts v p t actor r
    acts_back : (actor : Actor) (r : ℕ) → Acts v p t actor r → Acts v plan start actor r
    past : (other : ℕ) → Starts v go plan other → other < t → (other ≡ start) ⊎ HasEnded other start

  record IsRunning (t : ℕ) (p : Plan) : Type 0 where
    goes_on : IsGoing t p
    before : goes_on.start < t
    more : is_over p ≡ false

  record IsEnding (t : ℕ) : Type 0 where
    start : ℕ
    end : ℕ
    starts : Starts v go plan start
    spans : Spans v plan start end
    here : t ≡ done_row start end
    past : (other : ℕ) → Starts v go plan other → other < t → (other ≡ start) ⊎ HasEnded other start

  abbrev IsAt : ℕ → Progress → Type 0
  IsAt t Waits = IsWaiting t
  IsAt t (GoesOn p) = IsRunning t p
  IsAt t Ends = IsEnding t

  go_at_start : (t : ℕ) → Starts v go plan t → go t ≡ true
  go_at_start t (AtFirst _ first) = first.is_true
  go_at_start t (Again start end _ starts spans first) = first.is_true

  -- where a start hasn't ended before row t, nothing starts there
  no_start : (start t : ℕ) → Starts v go plan start → start < t → ((end : ℕ) → Spans v plan start end → t ≤ done_row start end)
      → ((other : ℕ) → Starts v go plan other → other < t → (other ≡ start) ⊎ HasEnded other start) → Starts v go plan t → ⊥
  no_start start t starts before unfinished past (AtFirst _ first) =
      not_both (go start) (go_at_start start starts) (first.none_before start (omega arith) before)
  no_start start t starts before unfinished past (Again other end _ others spans first) =
      let from : done_row other end + 1 ≤ t = first.from in
      let S : ℕ → Type 0 = λ x. Spans v plan x end in
      elim (past other others (omega arith)) [
        | inl same ↦
            let late : t ≤ done_row start end = unfinished end (subst S same spans) in
            absurd (omega arith)
        | inr ended ↦
            let is : ended.end ≡ end = one_end v plan other ended.end end ended.spans spans in
            let early : done_row other ended.end < start = ended.before in
            not_both (go start) (go_at_start start starts) (first.none_before start (omega arith) before)
      ]

  none_while_running : (t : ℕ) (p : Plan) → IsRunning t p → Starts v go plan t → ⊥
  none_while_running t p r = no_start r.goes_on.start t r.goes_on.starts r.before unfinished r.goes_on.past
    where
      unfinished : (end : ℕ) → Spans v plan r.goes_on.start end → t ≤ done_row r.goes_on.start end
      unfinished end spans =
          let later : t < max end t = (lasts v p t (max end t) r.more (r.goes_on.spans end spans)).0 in
          let b : r.goes_on.start < t = r.before in
          omega arith

  none_while_ending : (t : ℕ) → IsEnding t → Starts v go plan t → ⊥
  none_while_ending t e = no_start e.start t e.starts before unfinished e.past
    where
      before : e.start < t
      before = let at : t ≡ done_row e.start e.end = e.here in omega arith

      unfinished : (end : ℕ) → Spans v plan e.start end → t ≤ done_row e.start end
      unfinished end spans =
          let is : e.end ≡ end = one_end v plan e.start e.end end e.spans spans in
          let at : t ≡ done_row e.start e.end = e.here in
          omega arith

  start_now : (t : ℕ) → IsWaiting t → t < v.rows → go t ≡ true → Starts v go plan t
  start_now t w here on =
      let F : ℕ → Type 0 = λ from. IsFirst go v.rows from t in
      let first : IsFirst go v.rows w.from t = record { from = w.within; within = here; is_true = on; none_before = w.quiet } in
      elim w.looks [
        | inl same ↦ AtFirst t (subst F same first)
        | inr (start, end, starts, spans, same) ↦ Again start end t starts spans (subst F same first)
      ]

  -- what is left after one more row goes on from the same start
  abbrev next_goes : (t : ℕ) (p : Plan) (g : IsGoing t p) → t < v.rows
      → ((other : ℕ) → Starts v go plan other → other < t + 1 → (other ≡ g.start) ⊎ HasEnded other g.start) → IsGoing (t + 1) (left (sight_at v t) p)
  next_goes t p g here past = record {
    start = g.start;
    starts = g.starts;
    within = (let within : g.start ≤ t = g.within in omega arith);
    spans = λ end spans.
        let E : ℕ → Type 0 = Spans v (left (sight_at v t) p) (t + 1) in
        let same : max (max end t) (t + 1) ≡ max end (t + 1) = omega arith in
        subst E same (spans_left v t here p (max end t) (g.spans end spans));
    back = λ end spans.
        let one : (x : ℕ) × Spans v p t x × (end ≡ max x (t + 1)) = left_spans v t here p end spans in
        let two : (x : ℕ) × Spans v plan g.start x × (one.0 ≡ max x t) = g.back one.0 one.1 in
        let e : end ≡ max one.0 (t + 1) = one.2 in
        let f : one.0 ≡ max two.0 t = two.2 in
        (two.0, two.1, omega arith);
    acts = λ actor r later acts. acts_left v t here p actor r (omega arith) (g.acts actor r (omega arith) acts);
    acts_back = λ actor r acts. g.acts_back actor r (left_acts v t here p actor r acts);
    past = past;
  }

  -- from a start, or where something is left, one more row goes on
  after : (t : ℕ) (p : Plan) (g : IsGoing t p) → t < v.rows → (g.start ≡ t) ⊎ ((g.start < t) × (is_over p ≡ false))
      → ((other : ℕ) → Starts v go plan other → other < t + 1 → (other ≡ g.start) ⊎ HasEnded other g.start) → IsAt (t + 1) (progress_of (left (sight_at v t) p))
  after t p g here first past =
      let P : Bool → Type 0 = λ b. IsAt (t + 1) (if b then Ends else GoesOn (left (sight_at v t) p)) in
      elim (cases_Bool (is_over (left (sight_at v t) p))) [
        | inl over ↦ subst P (sym over) (ends over)
        | inr more ↦ let within : g.start ≤ t = g.within in subst P (sym more) (record { goes_on = next_goes t p g here past; before = omega arith; more = more })
      ]
    where
      ends : is_over (left (sight_at v t) p) ≡ true → IsEnding (t + 1)
      ends over =
          let one : (x : ℕ) × Spans v p t x × (t + 1 ≡ max x (t + 1)) = left_spans v t here p (t + 1) (over_spans v (left (sight_at v t) p) (t + 1) over) in
          let two : (x : ℕ) × Spans v plan g.start x × (one.0 ≡ max x t) = g.back one.0 one.1 in
          let e : t + 1 ≡ max one.0 (t + 1) = one.2 in
          let f : one.0 ≡ max two.0 t = two.2 in
          record {
            start = g.start;
            end = two.0;
            starts = g.starts;
            spans = two.1;
            here = elim first [
              | inl same ↦ omega (arith, same, e, f)
              | inr (before, more) ↦ let later : t < one.0 = (lasts v p t one.0 more one.1).0 in omega (arith, before, later, e, f)
            ];
            past = past;
          }

  sooner : (t : ℕ) (w : IsWaiting t) (other : ℕ) → HasEnded other w.from → HasEnded other t
  sooner t w other ended =
      let b : done_row other ended.end < w.from = ended.before in
      let within : w.from ≤ t = w.within in
      record { end = ended.end; spans = ended.spans; before = omega arith }

  abbrev from_start : (t : ℕ) → IsWaiting t → Starts v go plan t → IsGoing t plan
  from_start t w starts = record {
    start = t;
    starts = starts;
    within = omega arith;
    spans = λ end spans.
        let E : ℕ → Type 0 = Spans v plan t in
        let from : t ≤ end = spans_from v plan t end spans in
        let same : end ≡ max end t = omega arith in
        subst E same spans;
    back = λ end spans. let from : t ≤ end = spans_from v plan t end spans in (end, spans, omega arith);
    acts = λ actor r later acts. acts;
    acts_back = λ actor r acts. acts;
    past = λ other others before. inr (sooner t w other (w.past other others before));
  }

  -- a row before the one after t
  row_down : (t r : ℕ) → r < t + 1 → (r ≡ t) ⊎ (r < t)
  row_down t r before = elim (row_cases r t (omega arith)) [ inl same ↦ inl (sym same) | inr less ↦ inr less ]

  next_at : (t : ℕ) → t < v.rows → (x : Progress) → IsAt t x → IsAt (t + 1) (next_progress plan (sight_at v t) (go t) x)
  next_at t here Waits w =
      let P : Bool → Type 0 = λ b. IsAt (t + 1) (if b then progress_of (left (sight_at v t) plan) else Waits) in
      elim (cases_Bool (go t)) [
        | inl on ↦
            let starts : Starts v go plan t = start_now t w here on in
            let past : (other : ℕ) → Starts v go plan other → other < t + 1 → (other ≡ t) ⊎ HasEnded other t =
            λ other others before. elim (row_down t other before) [ inl same ↦ inl same | inr less ↦ (from_start t w starts).past other others less ] in
            subst P (sym on) (after t plan (from_start t w starts) here (inl refl) past)
        | inr off ↦ subst P (sym off) (still off)
      ]
    where
      still : go t ≡ false → IsWaiting (t + 1)
      still off = record {
        from = w.from;
        within = (let within : w.from ≤ t = w.within in omega arith);
        looks = w.looks;
        quiet = λ r from before. let G : ℕ → Type 0 = λ x. go x ≡ false in elim (row_down t r before) [ inl same ↦ subst G (sym same) off | inr less ↦ w.quiet r from less ];
        past = λ other others before. let G : ℕ → Type 0 = λ x. go x ≡ true in elim (row_down t other before) [
          | inl same ↦ absurd (not_both (go t) (subst G same (go_at_start other others)) off)
          | inr less ↦ w.past other others less
        ];
      }
  next_at t here (GoesOn p) r = after t p r.goes_on here (inr (r.before, r.more)) past
    where
      past : (other : ℕ) → Starts v go plan other → other < t + 1 → (other ≡ r.goes_on.start) ⊎ HasEnded other r.goes_on.start
      past other others before = let S : ℕ → Type 0 = Starts v go plan in elim (row_down t other before) [
        | inl same ↦ absurd (none_while_running t p r (subst S same others))
        | inr less ↦ r.goes_on.past other others less
      ]
  next_at t here Ends e = record {
    from = t + 1;
    within = omega arith;
    looks = inr (e.start, e.end, e.starts, e.spans, ap (λ x. x + 1) e.here);
    quiet = λ r from before. absurd (omega arith);
    past = λ other others before. let S : ℕ → Type 0 = Starts v go plan in elim (row_down t other before) [
      | inl same ↦ absurd (none_while_ending t e (subst S same others))
      | inr less ↦ ended other (e.past other others less)
    ];
  }
    where
      at : t ≡ done_row e.start e.end
      at = e.here

      ended : (other : ℕ) → (other ≡ e.start) ⊎ HasEnded other e.start → HasEnded other (t + 1)
      ended other (inl same) =
          let S : ℕ → Type 0 = λ x. Spans v plan x e.end in
          record { end = e.end; spans = subst S (sym same) e.spans; before = omega (arith, at, same) }
      ended other (inr sooner) =
          let b : done_row other sooner.end < e.start = sooner.before in record { end = sooner.end; spans = sooner.spans; before = omega (arith, at, b) }

  is_at : (t : ℕ) → t ≤ v.rows → IsAt t (progress_at v go plan t)
  is_at zero within = record {
    from = 0;
    within = omega arith;
    looks = inl refl;
    quiet = λ r from before. absurd (omega arith);
    past = λ other others before. absurd (omega arith);
  }
  is_at (suc t) within =
      let N : ℕ → Type 0 = λ x. IsAt x (next_progress plan (sight_at v t) (go t) (progress_at v go plan t)) in
      let same : t + 1 ≡ suc t = omega arith in
      subst N same (next_at t (omega arith) (progress_at v go plan t) (is_at t (omega arith)))

  -- ---- the law, at a row

  module _ (t : ℕ) (here : t < v.rows) where
    abbrev Acting : Progress → Actor → Type 0
    Acting x actor = (acts_now plan x actor (go t) (v.done actor t) ≡ true) ↔ IsActing v go plan actor t

    not_yet : (actor : Actor) (start bound : ℕ) → HasEnded start bound → bound ≤ t → Acts v plan start actor t → ⊥
    not_yet actor start bound ended within acts =
        let early : t < ended.end = acts_before_end v plan start ended.end actor t ended.spans acts in
        let b : done_row start ended.end < bound = ended.before in
        omega arith

    acting_at : (x : Progress) → IsAt t x → (actor : Actor) → Acting x actor
    acting_at Waits w actor = (there, back)
      where
        there : (go t && wants plan actor (v.done actor t)) ≡ true → IsActing v go plan actor t
        there e =
            let parts = and_parts (go t) (wants plan actor (v.done actor t)) e in
            record { start = t; starts = start_now t w here parts.0; acts = wants_acts v t actor here plan parts.1 }

        back : IsActing v go plan actor t → (go t && wants plan actor (v.done actor t)) ≡ true
        back a = elim (row_cases a.start t (acts_within v plan a.start actor t a.acts).0) [
          | inl same ↦
              let S : ℕ → Type 0 = Starts v go plan in
              let A : ℕ → Type 0 = λ x. Acts v plan x actor t in
              and_from (go t) (wants plan actor (v.done actor t)) (go_at_start t (subst S (sym same) a.starts)) (acts_wants v t actor plan (subst A (sym same) a.acts))
          | inr before ↦ absurd (not_yet actor a.start w.from (w.past a.start a.starts before) w.within a.acts)
        ]
    acting_at (GoesOn p) r actor = (there, back)
      where
        there : wants p actor (v.done actor t) ≡ true → IsActing v go plan actor t
        there e = record { start = r.goes_on.start; starts = r.goes_on.starts; acts = r.goes_on.acts_back actor t (wants_acts v t actor here p e) }

        back : IsActing v go plan actor t → wants p actor (v.done actor t) ≡ true
        back a = elim (row_cases a.start t (acts_within v plan a.start actor t a.acts).0) [
          | inl same ↦ (let S : ℕ → Type 0 = Starts v go plan in absurd (none_while_running t p r (subst S (sym same) a.starts)))
          | inr before ↦ elim (r.goes_on.past a.start a.starts before) [
            | inl is ↦ (let A : ℕ → Type 0 = λ x. Acts v plan x actor t in acts_wants v t actor p (r.goes_on.acts actor t (omega arith) (subst A is a.acts)))
            | inr ended ↦ absurd (not_yet actor a.start r.goes_on.start ended (omega (arith, r.before)) a.acts)
          ]
        ]
    acting_at Ends e actor = ((λ no'. absurd (cc)), back)
      where
        back : IsActing v go plan actor t → false ≡ true
        back a = elim (row_cases a.start t (acts_within v plan a.start actor t a.acts).0) [
          | inl same ↦ (let S : ℕ → Type 0 = Starts v go plan in absurd (none_while_ending t e (subst S (sym same) a.starts)))
          | inr before ↦ elim (e.past a.start a.starts before) [
            | inl is ↦
                let A : ℕ → Type 0 = λ x. Acts v plan x actor t in
                let early : t < e.end = acts_before_end v plan e.start e.end actor t e.spans (subst A is a.acts) in
                let at : t ≡ done_row e.start e.end = e.here in
                absurd (omega arith)
            | inr ended ↦ let at : t ≡ done_row e.start e.end = e.here in absurd (not_yet actor a.start e.start ended (omega arith) a.acts)
          ]
        ]

    -- a done row is that of the last start
    done_at : (x : Progress) → IsAt t x → (is_done_now x ≡ true) ↔ IsDoneRow v go plan t
    done_at Waits w = ((λ no'. absurd (cc)), back)
      where
        back : IsDoneRow v go plan t → false ≡ true
        back d =
            let at : t ≡ done_row d.start d.end = d.here in
            let ended = w.past d.start d.starts (omega arith) in
            let same : ended.end ≡ d.end = one_end v plan d.start ended.end d.end ended.spans d.spans in
            let b : done_row d.start ended.end < w.from = ended.before in
            let within : w.from ≤ t = w.within in
            absurd (omega arith)
    done_at (GoesOn p) r = ((λ no'. absurd (cc)), back)
      where
        back : IsDoneRow v go plan t → false ≡ true
        back d =
            let at : t ≡ done_row d.start d.end = d.here in
            elim (r.goes_on.past d.start d.starts (omega arith)) [
              | inl is ↦
                  let S : ℕ → Type 0 = λ x. Spans v plan x d.end in
                  let later : t < max d.end t = (lasts v p t (max d.end t) r.more (r.goes_on.spans d.end (subst S is d.spans))).0 in
                  absurd (omega arith)
              | inr ended ↦
                  let same : ended.end ≡ d.end = one_end v plan d.start ended.end d.end ended.spans d.spans in
                  let b : done_row d.start ended.end < r.goes_on.start = ended.before in
                  let c : r.goes_on.start < t = r.before in
                  absurd (omega arith)
            ]
    done_at Ends e = ((λ is. record { start = e.start; end = e.end; starts = e.starts; spans = e.spans; here = e.here }), (λ d. refl))

pub walking_is_the_schedule : WalkingIsTheSchedule
walking_is_the_schedule v go plan t here =
    (acting_at v go plan t here (progress_at v go plan t) at, done_at v go plan t here (progress_at v go plan t) at)
  where
    at : IsAt v go plan t (progress_at v go plan t)
    at = is_at v go plan t (omega arith)
