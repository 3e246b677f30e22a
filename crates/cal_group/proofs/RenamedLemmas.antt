-- A plan with its actors renamed takes the same rows, and lets the renamed actors act, where each actor and its new name are done alike.
use Rattle.std.proofs.Common.{◌≡◌, ℕ, ◌+◌, Bool, Option, Some, None, refl, sym, ap, ap₂, ◌∙◌, inl, inr}
use Rattle.std.specs.Prelude.{option_map}
use Rattle.std.proofs.lemmas.Option.{none-some, same_Some}
use Rattle.cal_ast.specs.Actors.{Actor}
use Rattle.cal_ast.specs.Plan.{Plan, Enables, InTurn, AtOnce, Chooses, Repeats, Plans, NoPlans, MorePlans}
use Rattle.cal_ast.specs.Spans.{View, IsFirst, IsTested, AtStart, AfterTurn, Spans, SpansInTurn, SpansAtOnce, ActsInTest, ActsEnabled, Acts, ActsInTurn, ActsAtOnce}
use Rattle.cal_ast.specs.Starts.{Starts, AtFirst, Again, IsDoneRow, IsActing}
use Rattle.cal_ast.specs.Tree.{PortName}

-- the plan with another actor in place of each
abbrev mutual
  pub with_actors : (Actor → Actor) → Plan → Plan
  with_actors f (Enables a) = Enables (f a)
  with_actors f (InTurn ps) = InTurn (all_with_actors f ps)
  with_actors f (AtOnce ps) = AtOnce (all_with_actors f ps)
  with_actors f (Chooses port by on off) = Chooses port (option_map f by) (with_actors f on) (with_actors f off)
  with_actors f (Repeats port by body) = Repeats port (option_map f by) (with_actors f body)

  pub all_with_actors : (Actor → Actor) → Plans → Plans
  all_with_actors f NoPlans = NoPlans
  all_with_actors f (MorePlans p ps) = MorePlans (with_actors f p) (all_with_actors f ps)

abbrev pub unnamed : Actor → Actor
unnamed a = a

map_itself : (o : Option Actor) → option_map unnamed o ≡ o
map_itself None = refl
map_itself (Some a) = refl

mutual
  pub plan_itself : (p : Plan) → with_actors unnamed p ≡ p
  plan_itself (Enables a) = refl
  plan_itself (InTurn ps) = ap InTurn (plans_itself ps)
  plan_itself (AtOnce ps) = ap AtOnce (plans_itself ps)
  plan_itself (Chooses port by on off) =
      ap (λ (o : Option Actor). Chooses port o (with_actors unnamed on) (with_actors unnamed off)) (map_itself by)
      ∙ ap₂ (λ (p q : Plan). Chooses port by p q) (plan_itself on) (plan_itself off)
  plan_itself (Repeats port by body) =
      ap₂ (λ (o : Option Actor) (p : Plan). Repeats port o p) (map_itself by) (plan_itself body)

  plans_itself : (ps : Plans) → all_with_actors unnamed ps ≡ ps
  plans_itself NoPlans = refl
  plans_itself (MorePlans p ps) = ap₂ MorePlans (plan_itself p) (plans_itself ps)

-- two renamings of one plan, in views in which both names of an actor are done alike
module _ (f g : Actor → Actor) (done done' : Actor → ℕ → Bool) (reads : PortName → ℕ → Bool) (rows : ℕ) (same : (a : Actor) (t : ℕ) → done (f a) t ≡ done' (g a) t) where
  abbrev v : View
  v = record { done = done; reads = reads; rows = rows }

  abbrev w : View
  w = record { done = done'; reads = reads; rows = rows }

  first_done : (a : Actor) (t u : ℕ) → IsFirst (done (f a)) rows t u → IsFirst (done' (g a)) rows t u
  first_done a t u first = record {
    from = first.from;
    within = first.within;
    is_true = sym (same a u) ∙ first.is_true;
    none_before = λ r from before. sym (same a r) ∙ first.none_before r from before;
  }

  tested : (port : PortName) (body body' : ℕ → ℕ → Type 0) → ((t end : ℕ) → body t end → body' t end) → (t r : ℕ) → IsTested v port body t r → IsTested w port body' t r
  tested port body body' turns t r (AtStart) = AtStart
  tested port body body' turns t r (AfterTurn test next before here on turn) =
      AfterTurn test next (tested port body body' turns t test before) here on (turns (test + 1) next turn)

  mutual
    pub spans : (p : Plan) (t end : ℕ) → Spans v (with_actors f p) t end → Spans w (with_actors g p) t end
    spans (Enables a) t end (u, first, e) = (u, first_done a t u first, e)
    spans (InTurn ps) t end h = spans_in_turn ps t end h
    spans (AtOnce ps) t end h = spans_at_once ps t end h
    spans (Chooses port by on off) t end (inl (here, is, h)) = inl (here, is, spans on (t + 1) end h)
    spans (Chooses port by on off) t end (inr (here, is, h)) = inr (here, is, spans off (t + 1) end h)
    spans (Repeats port by body) t end (r, tests, here, is, e) =
        (r, tested port (Spans v (with_actors f body)) (Spans w (with_actors g body)) (spans body) t r tests, here, is, e)

    spans_in_turn : (ps : Plans) (t end : ℕ) → SpansInTurn v (all_with_actors f ps) t end → SpansInTurn w (all_with_actors g ps) t end
    spans_in_turn NoPlans t end e = e
    spans_in_turn (MorePlans p ps) t end (next, h, others) = (next, spans p t next h, spans_in_turn ps next end others)

    spans_at_once : (ps : Plans) (t end : ℕ) → SpansAtOnce v (all_with_actors f ps) t end → SpansAtOnce w (all_with_actors g ps) t end
    spans_at_once NoPlans t end e = e
    spans_at_once (MorePlans p ps) t end (a, b, h, others, e) = (a, b, spans p t a h, spans_at_once ps t b others, e)

  starts : (go : ℕ → Bool) (p : Plan) (t : ℕ) → Starts v go (with_actors f p) t → Starts w go (with_actors g p) t
  starts go p t (AtFirst s first) = AtFirst s first
  starts go p t (Again s end u before h first) = Again s end u (starts go p s before) (spans p s end h) first

  pub done_row_renamed : (go : ℕ → Bool) (p : Plan) (r : ℕ) → IsDoneRow v go (with_actors f p) r → IsDoneRow w go (with_actors g p) r
  done_row_renamed go p r d = record {
    start = d.start;
    end = d.end;
    starts = starts go p d.start d.starts;
    spans = spans p d.start d.end d.spans;
    here = d.here;
  }

  -- what acts, for an actor with its names
  module _ (x y : Actor) (agree : (a : Actor) → f a ≡ x → g a ≡ y) where
    in_test : (by : Option Actor) (test r : ℕ) → ActsInTest v (option_map f by) test x r → ActsInTest w (option_map g by) test y r
    in_test None test r h = absurd (none-some x h.is)
    in_test (Some a) test r h = record { is = ap Some (agree a (same_Some (f a) x h.is)); here = h.here; within = h.within }

    enabled : (a : Actor) (t r : ℕ) → ActsEnabled v (f a) t x r → ActsEnabled w (g a) t y r
    enabled a t r h = record {
      is = agree a h.is;
      from = h.from;
      within = h.within;
      not_done = λ s from upto.
          ap (λ (b : Actor). done' b s) (sym (agree a h.is)) ∙ sym (same a s) ∙ ap (λ (b : Actor). done b s) h.is ∙ h.not_done s from upto;
    }

    mutual
      acts : (p : Plan) (t r : ℕ) → Acts v (with_actors f p) t x r → Acts w (with_actors g p) t y r
      acts (Enables a) t r h = enabled a t r h
      acts (InTurn ps) t r h = acts_in_turn ps t r h
      acts (AtOnce ps) t r h = acts_at_once ps t r h
      acts (Chooses port by on off) t r (inl test) = inl (in_test by t r test)
      acts (Chooses port by on off) t r (inr (inl (here, is, h))) = inr (inl (here, is, acts on (t + 1) r h))
      acts (Chooses port by on off) t r (inr (inr (here, is, h))) = inr (inr (here, is, acts off (t + 1) r h))
      acts (Repeats port by body) t r (s, tests, inl test) =
          (s, tested port (Spans v (with_actors f body)) (Spans w (with_actors g body)) (spans body) t s tests, inl (in_test by s r test))
      acts (Repeats port by body) t r (s, tests, inr (here, is, h)) =
          (s, tested port (Spans v (with_actors f body)) (Spans w (with_actors g body)) (spans body) t s tests, inr (here, is, acts body (s + 1) r h))

      acts_in_turn : (ps : Plans) (t r : ℕ) → ActsInTurn v (all_with_actors f ps) t x r → ActsInTurn w (all_with_actors g ps) t y r
      acts_in_turn NoPlans t r h = h
      acts_in_turn (MorePlans p ps) t r (inl h) = inl (acts p t r h)
      acts_in_turn (MorePlans p ps) t r (inr (next, h, others)) = inr (next, spans p t next h, acts_in_turn ps next r others)

      acts_at_once : (ps : Plans) (t r : ℕ) → ActsAtOnce v (all_with_actors f ps) t x r → ActsAtOnce w (all_with_actors g ps) t y r
      acts_at_once NoPlans t r h = h
      acts_at_once (MorePlans p ps) t r (inl h) = inl (acts p t r h)
      acts_at_once (MorePlans p ps) t r (inr others) = inr (acts_at_once ps t r others)

    pub acting_renamed : (go : ℕ → Bool) (p : Plan) (r : ℕ) → IsActing v go (with_actors f p) x r → IsActing w go (with_actors g p) y r
    acting_renamed go p r h = record { start = h.start; starts = starts go p h.start h.starts; acts = acts p h.start r h.acts }
