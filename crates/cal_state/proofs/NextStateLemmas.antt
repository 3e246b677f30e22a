-- What brings a thread to its states: in a row these are the states whose tokens are there in the next one.
use Rattle.std.proofs.Common.{◌≡◌, ◌≢◌, inl, inr, ℕ, ◌+◌, ◌<◌, ◌≤◌, ◌^◌, List, [], ◌∷◌, ◌++◌, map, Bool, true, false, ◌&&◌, ◌==◌, refl, sym, ap, ap₂, subst, ◌∙◌, arith}
use Rattle.std.specs.Prelude.{Contains, bytes_eq, codes, decimal, if◌then◌else◌}
use Rattle.std.proofs.lemmas.Bool.{and_left, and_right, cases_eq, cond-true, cond-false, eq-eqb, ne_eqb}
use Rattle.std.proofs.lemmas.Fmt.{decimal_injective}
use Rattle.std.proofs.lemmas.List.{append-nil}
use Rattle.std.proofs.lemmas.Slice.Eq.{bytes_eq-Decides}
use Rattle.hw_names.specs.Name.{Text}
use Rattle.net_core.specs.Guard.{GuardTree, guard_holds, holds, source_value}
use Rattle.net_core.specs.declared.net.Src.{Src}
use Rattle.net_core.specs.declared.net.Src.TheVariants.{Lit}
use Rattle.cal_ast.proofs.ListLemmas.{Contains-none, Contains-cases_first}
use Rattle.cal_ast.proofs.LocalLemmas.{is_port, is_port-refl}
use Rattle.cal_ast.specs.Laws.{local_values}
use Rattle.cal_ast.specs.Plan.{Plan, Enables, InTurn, AtOnce, Chooses, Repeats, Plans, NoPlans, MorePlans}
use Rattle.cal_ast.specs.Tree.{PortName, port_of, Assignment}
use Rattle.cal_walk.specs.Left.{is_over}
use Rattle.cal_token.proofs.TestLemmas.{and_same, and_true}
use Rattle.cal_token.specs.inside.Tokens.{Starting, size}
use Rattle.cal_lower.specs.inside.Lowered.{control_ends, plan_pieces}
use Rattle.cal_lower.specs.inside.Parts.{none_if_over, part_ends, with_start, part_pieces, pieces_in_turn, pieces_after, pieces_at_once}
use Rattle.cal_lower.specs.inside.Pieces.{Piece, has_token, is_set, reads, both, shown, start_name}
use Rattle.net_core.specs.Guard.{Negates}
use Rattle.cal_lower.proofs.ListLemmas.{Each, each_append, each_at, each_from}
use Rattle.cal_lower.proofs.LocalLemmas.{IsOfOther, local_values-append, local_values-none}
use Rattle.cal_lower.proofs.PartLemmas.{shows_bit, tokens_in, is_driven}
use Rattle.cal_lower.proofs.PieceLemmas.{other_name}
use Rattle.cal_lower.proofs.PlaceLemmas.{Apart}
use Rattle.cal_state.specs.inside.Encoded.{thread_sets}
use Rattle.cal_state.specs.inside.States.{all_next_sets, thread_enable, thread_name}
use Rattle.cal_state.specs.inside.Threads.{Thread, Place, NoState, IsIn, ended_state, plan_places, thread_of, threads}
use Rattle.cal_state.proofs.OnLemmas.{on}
use Rattle.cal_state.proofs.PlaceLemmas.{Aligned}
use Rattle.cal_state.proofs.RegisterLemmas.{plan_aligned}
use Rattle.cal_state.proofs.ThreadLemmas.{IsOfPlan, of_plan}

-- ---- names of threads

-- what stands after the letters of a thread's name
abbrev after_five : Text → Text
after_five (a ∷ b ∷ c ∷ d ∷ e ∷ rest) = rest
after_five name = []

-- two threads have one name where they have one part
pub same_thread : (a b : Thread) → a.part < 2 ^ 64 → b.part < 2 ^ 64 → thread_name a ≡ thread_name b → a.part ≡ b.part
same_thread a b one other e = let digits : decimal a.part ≡ decimal b.part = ap after_five e in decimal_injective a.part b.part one other digits

pub threads_named : (a b : Thread) → a.part < 2 ^ 64 → b.part < 2 ^ 64 → bytes_eq (thread_name a) (thread_name b) ≡ (a.part == b.part)
threads_named a b one other = elim (cases_eq a.part b.part) [
  | inl same ↦ (bytes_eq-Decides (thread_name a) (thread_name b)).1 (ap (λ k. codes "c$fsm" ++ decimal k) same) ∙ sym (eq-eqb a.part b.part same)
  | inr apart ↦ other_name (thread_name a) (thread_name b) (λ e. apart (same_thread a b one other e)) ∙ sym (ne_eqb a.part b.part apart)
]

-- ---- the tokens of the next row

bit_back : (b : Bool) → ((if b then 1 else 0) == 1) ≡ b
bit_back true = refl
bit_back false = refl

-- in the next row each of these registers would show what drives it in this one
abbrev pub next_row : (PortName → ℕ) → List Piece → PortName → ℕ
next_row see [] p = 0
next_row see (q ∷ qs) p = if is_port (shown q.name) p then (if is_driven see q then 1 else 0) else next_row see qs p

module _ (see : PortName → ℕ) where
  next_is : (ps : List Piece) → Apart ps → (q : Piece) → Contains ps q → next_row see ps (shown q.name) ≡ (if is_driven see q then 1 else 0)
  next_is [] apart q has = absurd (Contains-none q has)
  next_is (p ∷ ps) apart q has = elim (Contains-cases_first p ps q has) [
    | inl same ↦
        let I : Piece → Type 0 = λ x. is_port (shown p.name) (shown x.name) ≡ true in
        cond-true (is_port (shown p.name) (shown q.name)) (if is_driven see p then 1 else 0) (next_row see ps (shown q.name)) (subst I same (is_port-refl (shown p.name)))
        ∙ ap (λ (x : Piece). if is_driven see x then 1 else 0) same
    | inr there ↦
        cond-false (is_port (shown p.name) (shown q.name)) (if is_driven see p then 1 else 0) (next_row see ps (shown q.name))
        (and_left (bytes_eq p.name q.name) (bytes_eq (codes "out") (codes "out")) (other_name p.name q.name (each_at (λ (x : Piece). p.name ≢ x.name) ps q apart.0 there)))
        ∙ next_is ps apart.1 q there
  ]

  pub next_shows : (ps : List Piece) → Apart ps → Each (λ (q : Piece). shows_bit (next_row see ps) q.name ≡ is_driven see q) ps
  next_shows ps apart =
      each_from (λ (q : Piece). shows_bit (next_row see ps) q.name ≡ is_driven see q) ps
      (λ q has. ap (λ x. x == 1) (next_is ps apart q has) ∙ bit_back (is_driven see q))

-- ---- the pieces of a plan are driven by 1

abbrev pub IsOne : Piece → Type 0
IsOne p = p.src ≡ Lit 1 1

ones_unless : (p : Plan) (ps : List Piece) → Each IsOne ps → Each IsOne (none_if_over p ps)
ones_unless p ps all = by (is_over p)
  where
    by : (b : Bool) → Each IsOne (if b then [] else ps)
    by true = tt
    by false = all

ones_if : (b : Bool) (ps qs : List Piece) → Each IsOne ps → Each IsOne qs → Each IsOne (if b then ps else qs)
ones_if true ps qs one other = one
ones_if false ps qs one other = other

mutual
  ones : (k : ℕ) (p : Plan) (start : GuardTree PortName) → Each IsOne (part_pieces k p start)
  ones k (Enables actor) start = (refl, (refl, tt))
  ones k (InTurn ps) start = (refl, ones_in_turn (k + 1) ps start)
  ones k (AtOnce ps) start = (refl, ones_at_once (k + 1) ps start (part_ends k))
  ones k (Chooses port by on off) start =
      let j : ℕ = k + 1 + size on in (
        refl,
        each_append IsOne (with_start (k + 1) on (both start (reads port)) (part_pieces (k + 1) on (has_token (Starting (k + 1)))))
            (with_start j off (both start (Negates (reads port))) (part_pieces j off (has_token (Starting j))))
            (ones_unless on _ (refl, ones (k + 1) on (has_token (Starting (k + 1))))) (ones_unless off _ (refl, ones j off (has_token (Starting j)))),
      )
  ones k (Repeats port by body) start = (refl, (refl, ones_unless body _ (refl, ones (k + 1) body (has_token (Starting (k + 1))))))

  ones_in_turn : (k : ℕ) (ps : Plans) (start : GuardTree PortName) → Each IsOne (pieces_in_turn k ps start)
  ones_in_turn k NoPlans start = tt
  ones_in_turn k (MorePlans p ps) start =
      ones_if (is_over p) _ _ (ones_in_turn (k + size p) ps start)
      (each_append IsOne (part_pieces k p start) (pieces_after (k + size p) ps (part_ends k)) (ones k p start) (ones_after (k + size p) ps (part_ends k)))

  ones_after : (k : ℕ) (ps : Plans) (next : GuardTree PortName) → Each IsOne (pieces_after k ps next)
  ones_after k NoPlans next = tt
  ones_after k (MorePlans p ps) next =
      ones_if (is_over p) _ _ (ones_after (k + size p) ps next)
      (each_append IsOne (with_start k p next (part_pieces k p (has_token (Starting k)))) (pieces_after (k + size p) ps (part_ends k))
      (ones_unless p _ (refl, ones k p (has_token (Starting k)))) (ones_after (k + size p) ps (part_ends k)))

  ones_at_once : (k : ℕ) (ps : Plans) (start all : GuardTree PortName) → Each IsOne (pieces_at_once k ps start all)
  ones_at_once k NoPlans start all = tt
  ones_at_once k (MorePlans p ps) start all =
      each_append IsOne _ (pieces_at_once (k + size p) ps start all) (ones_unless p _ (refl, ones k p start)) (ones_at_once (k + size p) ps start all)

pub plan_ones : (plan : Plan) → Each IsOne (plan_pieces plan)
plan_ones plan = ones_unless plan (part_pieces 0 plan (is_set start_name)) (ones 0 plan (is_set start_name))

-- ---- what drives the input of a thread's register

-- a state that is brought before others
state_first : (b : Bool) (n : ℕ) (ns : List ℕ) → (if b then n ∷ ns else ns) ≡ (if b then n ∷ [] else []) ++ ns
state_first true n ns = refl
state_first false n ns = refl

module _ (see : PortName → ℕ) (plan : Plan) (few : size plan ≤ 2 ^ 64) (thread : Thread) (small : thread.part < 2 ^ 64) (next : PortName → ℕ) where
  abbrev input : PortName
  input = port_of (thread_name thread) (codes "in")

  -- the input of this thread's register, where that of another one is driven
  is_input : (other : Thread) → other.part < 2 ^ 64 → is_port (port_of (thread_name other) (codes "in")) input ≡ (other.part == thread.part)
  is_input other there = and_true (bytes_eq (thread_name other) (thread_name thread)) ∙ threads_named other thread there small

  brought : (ps : List Piece) (xs : List Place) → Aligned ps xs → Each IsOne ps → Each (λ (p : Piece). shows_bit next p.name ≡ is_driven see p) ps → Each (IsOfPlan plan) xs
      → local_values see input (all_next_sets ps xs) ≡ on (tokens_in next) thread.part xs
  brought [] [] fit one told of = refl
  brought [] (x ∷ xs) fit one told of = absurd fit
  brought (p ∷ ps) [] fit one told of = absurd fit
  brought (p ∷ ps) (NoState ∷ xs) fit one told of = brought ps xs fit.1 one.1 told.1 of.1
  brought (p ∷ ps) (IsIn token state ∷ xs) fit one told of =
      let there = of.0.small in
      let token_is : tokens_in next token ≡ guard_holds see p.guard =
      ap (shows_bit next) (sym fit.0.1) ∙ told.0 ∙ ap (λ (s : Src PortName). guard_holds see p.guard && (source_value see s == 1)) one.0 ∙ and_true (guard_holds see p.guard) in
      ap₂ (λ (b : Bool) (ns : List ℕ). if b then state.number ∷ ns else ns)
      (and_same (is_port (port_of (thread_name state.thread) (codes "in")) input) (guard_holds see p.guard) (state.thread.part == thread.part) (tokens_in next token)
      (is_input state.thread (below there)) (sym token_is))
      (brought ps xs fit.1 one.1 told.1 of.1)
    where
      below : state.thread.part < size plan → state.thread.part < 2 ^ 64
      below is = omega (arith, few, is)

  enables_none : (ts : List Thread) → local_values see input (map thread_enable ts) ≡ []
  enables_none ts = local_values-none see input (map thread_enable ts) (each ts)
    where
      each : (us : List Thread) → Each (IsOfOther see input) (map thread_enable us)
      each [] = tt
      each (u ∷ us) = (and_right (bytes_eq (thread_name u) (thread_name thread)) false refl, each us)

  -- the end, where it is the main thread and control ends in the row, and the states of tokens that come next
  pub thread_values : Each (λ (p : Piece). shows_bit next p.name ≡ is_driven see p) (plan_pieces plan)
      → local_values see input (thread_sets plan)
      ≡ (if (0 == thread.part) && holds see (control_ends plan) then ended_state ∷ [] else []) ++ on (tokens_in next) thread.part (plan_places plan)
  thread_values told =
      let rest : List Assignment = all_next_sets (plan_pieces plan) (plan_places plan) in
      let values : local_values see input (rest ++ map thread_enable (threads plan)) ≡ on (tokens_in next) thread.part (plan_places plan) =
      local_values-append see input rest (map thread_enable (threads plan))
      ∙ ap₂ (λ (a b : List ℕ). a ++ b) (brought (plan_pieces plan) (plan_places plan) (plan_aligned plan) (plan_ones plan) told (of_plan plan)) (enables_none (threads plan))
      ∙ append-nil (on (tokens_in next) thread.part (plan_places plan)) in
      ap₂ (λ (b : Bool) (ns : List ℕ). if b && holds see (control_ends plan) then ended_state ∷ ns else ns) (is_input (thread_of 0 plan) (omega arith)) values
      ∙ state_first ((0 == thread.part) && holds see (control_ends plan)) ended_state (on (tokens_in next) thread.part (plan_places plan))
