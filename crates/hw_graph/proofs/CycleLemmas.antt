-- The search for a cycle from one port, and which ports lie on none.
use Rattle.std.proofs.Common.{eqb, ◌≡◌, ℕ, zero, suc, ◌+◌, ◌-◌, ◌<◌, ◌≤◌, inl, inr, Bool, true, false, List, [], ◌∷◌, ◌++◌, length, get_or, set, take, Option, Some, None, refl, sym, ap, ◌∙◌, arith, subst, length-set, get_or-set_other}
use Rattle.std.specs.Option.{option_eq}
use Rattle.std.proofs.lemmas.Bool.Decides.{Decides-eqb}
use Rattle.std.specs.Prelude.{Contains, MatchBool, if◌then◌else◌, sum_by}
use Rattle.std.proofs.lemmas.List.Sums.{sum_by-set}
use Rattle.std.proofs.lemmas.Bool.{cases_eq, cases_lt}
use Rattle.std.proofs.lemmas.List.{get_or-take, length-take, get_or_past}
use Rattle.hw_names.specs.Name.{Text}
use Rattle.hw_graph.proofs.SearchLemmas.{taken_read, contained_at, pushed, pushed_last}
use Rattle.hw_graph.proofs.WalkLemmas.{last_on, cases_looked, reached_more, seen_stays, seen_set, seen_within, all_looked, reads_seen}
use Rattle.hw_graph.specs.ByName.{IsAtMost, IsLeastMarked}
use Rattle.hw_graph.specs.inside.Components.{NeverRises, LeavesNoCycle}
use Rattle.hw_graph.specs.Graph.{HasRead, AreInRange, IsCycle, IsCycleFrom, IsLeastCycle, IsLeastCycleAmong, Reaches, Directly, Through, IsOffCycles}
use Rattle.hw_graph.specs.inside.Unread.{AreUnread, TakesRead}
use Rattle.hw_graph.specs.Walk.{is_seen, IsWalk, IsStep}
use Rattle.hw_graph.specs.declared.walk.Walk.{Walk}

-- ---- which ports lie on no cycle

-- a port past the last reads nothing
pub off_past : (reads : List (List ℕ)) (port other : ℕ) → length reads ≤ port → Reaches reads port other → ⊥
off_past reads port other past (Directly p q has) = let none : get_or reads p [] ≡ [] = get_or_past reads p [] past in omega (arith, has.1, ap length none)
off_past reads port other past (Through p next q has rest) = let none : get_or reads p [] ≡ [] = get_or_past reads p [] past in omega (arith, has.1, ap length none)

module _ (reads : List (List ℕ)) (numbers : List ℕ) (falling : NeverRises reads numbers) where
  falls : (port other : ℕ) → Reaches reads port other → get_or numbers other 0 ≤ get_or numbers port 0
  falls port other (Directly p q has) = falling p q has
  falls port other (Through p next q has rest) = omega (arith, falling p next has, falls next q rest)

  -- what a port reads first on the way to another
  first_read : (port other : ℕ) → Reaches reads port other → (next : ℕ) × HasRead reads port next × (get_or numbers other 0 ≤ get_or numbers next 0)
  first_read port other (Directly p q has) = (q, has, omega arith)
  first_read port other (Through p next q has rest) = (next, has, falls next q rest)

  -- a port that reads none of its own number
  pub off_cycles : (port : ℕ) → ((next : ℕ) → HasRead reads port next → get_or numbers next 0 ≡ get_or numbers port 0 → ⊥) → IsOffCycles reads port
  off_cycles port none loop =
      let r = first_read port port loop in
      let e : get_or numbers r.0 0 ≡ get_or numbers port 0 = omega (arith, falling port r.0 r.1, r.2) in
      none r.0 r.1 e

-- ---- a cycle is a way from its first port back

pub cycle_reaches : (reads : List (List ℕ)) (ports : List ℕ) → IsCycle reads ports → Reaches reads (get_or ports 0 0) (get_or ports 0 0)
cycle_reaches reads ports c = from (length ports - 1) 0 (omega (arith, c.some))
  where
    from : (n i : ℕ) → i + n + 1 ≡ length ports → Reaches reads (get_or ports i 0) (get_or ports 0 0)
    from zero i e =
        let last : length ports - 1 ≡ i = omega (arith, e) in
        Directly (get_or ports i 0) (get_or ports 0 0) (subst (λ k. HasRead reads (get_or ports k 0) (get_or ports 0 0)) last c.back)
    from (suc n) i e = Through (get_or ports i 0) (get_or ports (i + 1) 0) (get_or ports 0 0) (c.trail.along i (omega (arith, e))) (from n (i + 1) (omega (arith, e)))

-- ---- a search for a cycle from a port

-- the test whether the port itself was read
pub read_is : (read : Option ℕ) (start : ℕ) → option_eq eqb read (Some start) ≡ true → read ≡ Some start
read_is None start e = absurd (cc)
read_is (Some q) start e = ap Some ((Decides-eqb q start).0 e)

pub read_is_not : (read : Option ℕ) (start : ℕ) → option_eq eqb read (Some start) ≡ false → read ≡ Some start → ⊥
read_is_not None start e same = absurd (cc)
read_is_not (Some q) start e same =
    let here : q ≡ start = cc in
    let equal : eqb q start ≡ true = (Decides-eqb q start).1 here in
    cc

-- the search began at this port, and has not come to a read of it
pub record IsSeeking (reads : List (List ℕ)) (start : ℕ) (w : Walk) : Type 0 where
  pub walk : IsWalk reads w
  pub first : 0 < length w.path.items → get_or w.path.items 0 0 ≡ start
  pub reached : is_seen w.seen.items start ≡ true
  pub never : (port j : ℕ) → port < length reads → get_or w.left.items port 0 ≤ j → j < length (get_or reads port []) → get_or (get_or reads port []) j 0 ≡ start → ⊥

pub seeking_start : (reads : List (List ℕ)) (start : ℕ) (old new : Walk) → start < length reads → IsWalk reads old → old.path.items ≡ [] → AreUnread reads old.left.items → is_seen old.seen.items start ≡ false → new.seen.items ≡ set old.seen.items start true → new.path.items ≡ old.path.items ++ start ∷ [] → new.left.items ≡ old.left.items → IsSeeking reads start new
seeking_start reads start old new within w empty fresh unseen seen path left = record {
  walk = rw (seen, left, path) (reached_more reads old.seen.items old.left.items old.path.items w start within unseen (λ some. absurd (omega (arith, some, ap length empty))));
  first = λ some. ap (λ l. get_or l 0 0) path ∙ pushed_last old.path.items start 0 (sym (ap length empty));
  reached = ap (λ l. is_seen l start) seen ∙ seen_set old.seen.items start (omega (arith, within, w.all_seen));
  never = λ port j lt le below is. omega (arith, fresh.each port lt, le, below, ap (λ l. get_or l port 0) left);
}

module _ (reads : List (List ℕ)) (start : ℕ) (old new : Walk) (s : IsSeeking reads start old) (top : ℕ) (some : 0 < length old.path.items) (at_top : top ≡ get_or old.path.items (length old.path.items - 1) 0) (walk : IsWalk reads new) (range : AreInRange reads) where
  on : Contains old.path.items top
  on = last_on reads old.seen.items old.left.items old.path.items s.walk top some at_top

  -- no read is left
  seeking_back : IsStep reads old new top None → IsSeeking reads start new
  seeking_back step = record {
    walk = walk;
    first = λ more.
        let size : length (take (length old.path.items - 1) old.path.items) ≡ length old.path.items - 1 = simp length-take (omega arith) in
        ap (λ l. get_or l 0 0) step.3 ∙ get_or-take (length old.path.items - 1) old.path.items 0 0 (omega (arith, more, ap length step.3, size)) ∙ s.first some;
    reached = ap (λ l. is_seen l start) step.2 ∙ s.reached;
    never = λ port j lt le below is. s.never port j lt (omega (arith, le, ap (λ l. get_or l port 0) step.1)) below is;
  }

  module _ (read : ℕ) (t : TakesRead (get_or reads top []) old.left.items top read new.left.items) where
    never_more : (read ≡ start → ⊥) → (port j : ℕ) → port < length reads → get_or new.left.items port 0 ≤ j → j < length (get_or reads port []) → get_or (get_or reads port []) j 0 ≡ start → ⊥
    never_more ne port j lt le below is =
        elim (cases_looked reads old.seen.items old.left.items old.path.items s.walk top t.place on t.was port j (omega (arith, le, ap (λ l. get_or l port 0) t.now))) [
          | inl before ↦ s.never port j lt before below is
          | inr (same, place) ↦ ne (t.is ∙ sym (ap (λ p. get_or (get_or reads p []) t.place 0) same) ∙ sym (ap (λ k. get_or (get_or reads port []) k 0) place) ∙ is)
        ]

    -- another port is read
    seeking_on : (b : Bool) → is_seen old.seen.items read ≡ b → MatchBool b ((new.seen.items ≡ old.seen.items) × (new.path.items ≡ old.path.items)) ((new.seen.items ≡ set old.seen.items read true) × (new.path.items ≡ old.path.items ++ read ∷ [])) → (read ≡ start → ⊥) → IsSeeking reads start new
    seeking_on true here goes ne = record {
      walk = walk;
      first = λ more. ap (λ l. get_or l 0 0) goes.1 ∙ s.first some;
      reached = ap (λ l. is_seen l start) goes.0 ∙ s.reached;
      never = never_more ne;
    }
    seeking_on false here goes ne =
        let within : read < length old.seen.items = omega (arith, s.walk.all_seen, range top read (taken_read reads old.left.items new.left.items top read t)) in
        record {
          walk = walk;
          first = λ more. ap (λ l. get_or l 0 0) goes.1 ∙ pushed old.path.items read 0 some ∙ s.first some;
          reached = ap (λ l. is_seen l start) goes.0 ∙ seen_stays old.seen.items read start within s.reached;
          never = never_more ne;
        }

    -- the port itself is read: the path is a cycle from it
    found_on : (b : Bool) → is_seen old.seen.items read ≡ b → MatchBool b ((new.seen.items ≡ old.seen.items) × (new.path.items ≡ old.path.items)) ((new.seen.items ≡ set old.seen.items read true) × (new.path.items ≡ old.path.items ++ read ∷ [])) → read ≡ start → IsCycleFrom reads start new.path.items
    found_on false unseen goes is = let e : is_seen old.seen.items read ≡ true = ap (is_seen old.seen.items) is ∙ s.reached in absurd (cc)
    found_on true here goes is = rw goes.1 (record { is_cycle = cycle; first = s.first some })
      where
        cycle : IsCycle reads old.path.items
        cycle = record {
          some = some;
          trail = s.walk.trail;
          back = rw (← at_top, s.first some, ← is) (taken_read reads old.left.items new.left.items top read t);
        }

  pub seeking_more : (read : Option ℕ) → IsStep reads old new top read → (read ≡ Some start → ⊥) → IsSeeking reads start new
  seeking_more None step ne = seeking_back step
  seeking_more (Some read) step ne = seeking_on read step.0 (is_seen old.seen.items read) refl step.1 (λ e. ne (ap Some e))

  pub seeking_found : (read : Option ℕ) → IsStep reads old new top read → read ≡ Some start → IsCycleFrom reads start new.path.items
  seeking_found None step e = absurd (cc)
  seeking_found (Some read) step e = found_on read step.0 (is_seen old.seen.items read) refl step.1 (let same : read ≡ start = cc in same)

-- the search is over: the port does not reach itself
pub seeking_over : (reads : List (List ℕ)) (start : ℕ) (w : Walk) → IsSeeking reads start w → w.path.items ≡ [] → IsOffCycles reads start
seeking_over reads start w s over loop = by start start s.reached loop refl
  where
    never_read : (port other : ℕ) → is_seen w.seen.items port ≡ true → HasRead reads port other → other ≡ start → ⊥
    never_read port other here has is =
        let none = all_looked reads w.seen.items w.left.items w.path.items s.walk over port here in
        s.never port has.0 (seen_within reads w.seen.items w.left.items w.path.items s.walk port here) (omega (arith, none)) has.1 (contained_at (get_or reads port []) other has ∙ is)

    by : (port other : ℕ) → is_seen w.seen.items port ≡ true → Reaches reads port other → other ≡ start → ⊥
    by port other here (Directly p q has) is = never_read p q here has is
    by port other here (Through p next q has rest) is = by next q (reads_seen reads w.seen.items w.left.items w.path.items s.walk over p next here has) rest is

-- ---- the least port that may lie on a cycle

pub all_off : (reads : List (List ℕ)) (count : ℕ) (marks : List Bool) → LeavesNoCycle reads count marks → ((port : ℕ) → port < length marks → get_or marks port false ≡ false) → (port : ℕ) → port < count → IsOffCycles reads port
all_off reads count marks leaves none port lt = leaves.others port lt (none port (omega (arith, lt, leaves.all)))

abbrev pub one_if : Bool → ℕ
one_if marked = if marked then 1 else 0

-- how many ports have a mark
abbrev pub mark_count : List Bool → ℕ
mark_count marks = sum_by one_if marks

pub mark_count_falls : (marks : List Bool) (port : ℕ) → port < length marks → get_or marks port false ≡ true → mark_count (set marks port false) < mark_count marks
mark_count_falls marks port within marked =
    omega (arith, sum_by-set one_if marks port false false within, ap one_if marked)

-- a mark is taken from a port that lies on no cycle
pub mark_taken : (reads : List (List ℕ)) (count : ℕ) (marks : List Bool) (port : ℕ) → LeavesNoCycle reads count marks → IsOffCycles reads port → LeavesNoCycle reads count (set marks port false)
mark_taken reads count marks port leaves off = record {
  all = length-set marks port false ∙ leaves.all;
  others = λ q lt unmarked. elim (cases_eq q port) [
    | inl same ↦ subst (IsOffCycles reads) (sym same) off
    | inr ne ↦ leaves.others q lt (sym (get_or-set_other marks port q false false ne) ∙ unmarked)
  ];
}

pub least_is : (reads : List (List ℕ)) (names : List Text) (marks : List Bool) (start : ℕ) (ports : List ℕ) → LeavesNoCycle reads (length names) marks → IsLeastMarked names marks start → IsCycleFrom reads start ports → IsLeastCycleAmong reads names ports
least_is reads names marks start ports leaves least cycle = record {
  is_cycle = cycle.is_cycle;
  named = omega (arith, cycle.first, least.within, leaves.all);
  least = λ port lt loop. rw cycle.first (least.first port (omega (arith, lt, leaves.all)) (marked port lt loop (get_or marks port false) refl));
}
  where
    marked : (port : ℕ) → port < length names → Reaches reads port port → (b : Bool) → get_or marks port false ≡ b → get_or marks port false ≡ true
    marked port lt loop true e = e
    marked port lt loop false e = absurd (leaves.others port lt e loop)

-- where each node is a port
pub least_of_all : (reads : List (List ℕ)) (names : List Text) (ports : List ℕ) → length reads ≡ length names → IsLeastCycleAmong reads names ports → IsLeastCycle reads names ports
least_of_all reads names ports all cycle = record { is_cycle = cycle.is_cycle; least = first }
  where
    first : (port : ℕ) → Reaches reads port port → IsAtMost names (get_or ports 0 0) port
    first port loop = elim (cases_lt port (length reads)) [
      | inl lt ↦ cycle.least port (omega (arith, lt, all)) loop
      | inr past ↦ absurd (off_past reads port port past loop)
    ]
