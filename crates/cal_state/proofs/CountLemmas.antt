-- States and threads of control are no more than its statements.
use Rattle.std.proofs.Common.{◌≡◌, ℕ, zero, suc, ◌+◌, ◌≤◌, List, [], ◌∷◌, ◌++◌, length, Bool, true, false, refl, sym, ap, ap₂, subst, ◌∙◌, arith, length-append}
use Rattle.std.specs.Prelude.{if◌then◌else◌, option_map}
use Rattle.cal_ast.specs.Actors.{GroupNamed}
use Rattle.cal_ast.specs.Items.{control_statements, statements_in, statements_of, unless_empty}
use Rattle.cal_ast.specs.Plan.{Plan, Enables, InTurn, AtOnce, Chooses, Repeats, Plans, NoPlans, MorePlans, plan_at, plans_from, section_plan}
use Rattle.cal_ast.specs.Tree.{Statement, Enable, Seq, Par, If, While, Invoke, Statements, NoStatements, MoreStatements, ControlSection, Absent, Empty, Body}
use Rattle.cal_walk.specs.Left.{is_over}
use Rattle.cal_token.specs.inside.Tokens.{size}
use Rattle.cal_group.proofs.ManyLemmas.{parallel-append}
use Rattle.cal_lower.specs.inside.Parts.{none_if_over}
use Rattle.cal_ast.specs.Registers.{count, in_par, parallel}
use Rattle.cal_state.specs.inside.Threads.{Thread, inner_threads, lasting_states, states, states_in, thread_of, threads, threads_at_once, threads_in_turn, zero_if_over}

zero_or_less : (p : Plan) (n : ℕ) → zero_if_over p n ≤ n
zero_or_less p n = by (is_over p)
  where
    by : (b : Bool) → (if b then 0 else n) ≤ n
    by true = omega arith
    by false = omega arith

none_or_fewer : {X : Type 0} (p : Plan) (xs : List X) → length (none_if_over p xs) ≤ length xs
none_or_fewer {X} p xs = by (is_over p)
  where
    by : (b : Bool) → length (if b then [] else xs) ≤ length xs
    by true = omega arith
    by false = omega arith

-- a branch that is an empty sequence is no statement
fewer_unless : (s : Statement) (xs : List Statement) → length (unless_empty s xs) ≤ length xs
fewer_unless (Enable g) xs = omega arith
fewer_unless (Seq NoStatements) xs = omega arith
fewer_unless (Seq (MoreStatements s ss)) xs = omega arith
fewer_unless (Par ss) xs = omega arith
fewer_unless (If port by s t) xs = omega arith
fewer_unless (While port by s) xs = omega arith
fewer_unless (Invoke cell ins outs) xs = omega arith

-- ---- states

mutual
  pub few_states : (k : ℕ) (s : Statement) → lasting_states (plan_at k s) ≤ length (unless_empty s (statements_in s))
  few_states k (Enable g) = omega arith
  few_states k (Seq NoStatements) = omega arith
  few_states k (Seq (MoreStatements s ss)) =
      let first = few_states (k + 1) s in
      let others = few_states_in (k + 1 + length (statements_in s)) ss in
      let fewer = fewer_unless s (statements_in s) in
      let sum = length-append (statements_in s) (statements_of ss) in
      let less = zero_or_less (plan_at k (Seq (MoreStatements s ss))) (states (plan_at k (Seq (MoreStatements s ss)))) in
      omega (arith, first, others, fewer, sum, less)
  few_states k (Par ss) = let less = zero_or_less (plan_at k (Par ss)) 1 in omega (arith, less)
  few_states k (If port by s t) =
      let on = few_states (k + 1) s in
      let off = few_states (k + 1 + length (unless_empty s (statements_in s))) t in
      let sum = length-append (unless_empty s (statements_in s)) (unless_empty t (statements_in t)) in
      omega (arith, on, off, sum)
  few_states k (While port by s) = let body = few_states (k + 1) s in omega (arith, body)
  few_states k (Invoke cell ins outs) = omega arith

  few_states_in : (k : ℕ) (ss : Statements) → states_in (plans_from k ss) ≤ length (statements_of ss)
  few_states_in k NoStatements = omega arith
  few_states_in k (MoreStatements s ss) =
      let first = few_states k s in
      let others = few_states_in (k + length (statements_in s)) ss in
      let fewer = fewer_unless s (statements_in s) in
      let sum = length-append (statements_in s) (statements_of ss) in
      omega (arith, first, others, fewer, sum)

pub few_section_states : (k : ℕ) (section : ControlSection) → lasting_states (section_plan k section) ≤ length (control_statements section)
few_section_states k Absent = omega arith
few_section_states k Empty = omega arith
few_section_states k (Body s) =
    let few = few_states k s in
    let fewer = fewer_unless s (statements_in s) in
    omega (arith, few, fewer)

-- ---- threads

parallel_unless : (s : Statement) (xs : List Statement) → parallel (unless_empty s xs) ≤ parallel xs
parallel_unless (Enable g) xs = omega arith
parallel_unless (Seq NoStatements) xs = omega arith
parallel_unless (Seq (MoreStatements s ss)) xs = omega arith
parallel_unless (Par ss) xs = omega arith
parallel_unless (If port by s t) xs = omega arith
parallel_unless (While port by s) xs = omega arith
parallel_unless (Invoke cell ins outs) xs = omega arith

mutual
  pub few_threads : (j k : ℕ) (s : Statement) → length (inner_threads j (plan_at k s)) ≤ parallel (unless_empty s (statements_in s))
  few_threads j k (Enable g) = omega arith
  few_threads j k (Seq NoStatements) = omega arith
  few_threads j k (Seq (MoreStatements s ss)) = let inner = few_in_turn (j + 1) (k + 1) (MoreStatements s ss) in omega (arith, inner)
  few_threads j k (Par ss) = few_at_once (j + 1) (k + 1) ss
  few_threads j k (If port by s t) =
      let on = few_threads (j + 1) (k + 1) s in
      let off = few_threads (j + 1 + size (plan_at (k + 1) s)) (k + 1 + length (unless_empty s (statements_in s))) t in
      let sum = length-append (inner_threads (j + 1) (plan_at (k + 1) s))
      (inner_threads (j + 1 + size (plan_at (k + 1) s)) (plan_at (k + 1 + length (unless_empty s (statements_in s))) t)) in
      let both = parallel-append (unless_empty s (statements_in s)) (unless_empty t (statements_in t)) in
      omega (arith, on, off, sum, both)
  few_threads j k (While port by s) = let body = few_threads (j + 1) (k + 1) s in omega (arith, body)
  few_threads j k (Invoke cell ins outs) = omega arith

  few_in_turn : (j k : ℕ) (ss : Statements) → length (threads_in_turn j (plans_from k ss)) ≤ parallel (statements_of ss)
  few_in_turn j k NoStatements = omega arith
  few_in_turn j k (MoreStatements s ss) =
      let first = few_threads j k s in
      let others = few_in_turn (j + size (plan_at k s)) (k + length (statements_in s)) ss in
      let unless = parallel_unless s (statements_in s) in
      let sum = length-append (inner_threads j (plan_at k s)) (threads_in_turn (j + size (plan_at k s)) (plans_from (k + length (statements_in s)) ss)) in
      let both = parallel-append (statements_in s) (statements_of ss) in
      omega (arith, first, others, unless, sum, both)

  few_at_once : (j k : ℕ) (ss : Statements) → length (threads_at_once j (plans_from k ss)) ≤ count ss + parallel (statements_of ss)
  few_at_once j k NoStatements = omega arith
  few_at_once j k (MoreStatements s ss) =
      let one : List Thread = thread_of j (plan_at k s) ∷ inner_threads j (plan_at k s) in
      let first = few_threads j k s in
      let others = few_at_once (j + size (plan_at k s)) (k + length (statements_in s)) ss in
      let unless = parallel_unless s (statements_in s) in
      let fewer = none_or_fewer (plan_at k s) one in
      let sum = length-append (none_if_over (plan_at k s) one) (threads_at_once (j + size (plan_at k s)) (plans_from (k + length (statements_in s)) ss)) in
      let both = parallel-append (statements_in s) (statements_of ss) in
      omega (arith, first, others, unless, fewer, sum, both)

pub few_section_threads : (k : ℕ) (section : ControlSection) → length (threads (section_plan k section)) ≤ 1 + parallel (control_statements section)
few_section_threads k Absent = omega arith
few_section_threads k Empty = omega arith
few_section_threads k (Body s) =
    let few = few_threads 0 k s in
    let unless = parallel_unless s (statements_in s) in
    omega (arith, few, unless)

-- ---- the greatest state of each thread

-- the number of states is at most this, and the thread's greatest state one more
abbrev pub HasFewStates : ℕ → Thread → Type 0
HasFewStates bound thread = thread.last ≤ bound + 1

abbrev pub EachFew : ℕ → List Thread → Type 0
EachFew bound [] = Unit {0}
EachFew bound (t ∷ ts) = HasFewStates bound t × EachFew bound ts

each_few_append : (bound : ℕ) (xs ys : List Thread) → EachFew bound xs → EachFew bound ys → EachFew bound (xs ++ ys)
each_few_append bound [] ys one other = other
each_few_append bound (x ∷ xs) ys one other = (one.0, each_few_append bound xs ys one.1 other)

each_few_unless : (bound : ℕ) (p : Plan) (xs : List Thread) → EachFew bound xs → EachFew bound (none_if_over p xs)
each_few_unless bound p xs few = by (is_over p)
  where
    by : (b : Bool) → EachFew bound (if b then [] else xs)
    by true = tt
    by false = few

-- of a branch that is an empty sequence there are none
each_few_unless_empty : (bound j k : ℕ) (s : Statement) → (length (statements_in s) ≤ bound → EachFew bound (inner_threads j (plan_at k s)))
    → length (unless_empty s (statements_in s)) ≤ bound → EachFew bound (inner_threads j (plan_at k s))
each_few_unless_empty bound j k (Enable g) f less = f less
each_few_unless_empty bound j k (Seq NoStatements) f less = tt
each_few_unless_empty bound j k (Seq (MoreStatements s ss)) f less = f less
each_few_unless_empty bound j k (Par ss) f less = f less
each_few_unless_empty bound j k (If port by s t) f less = f less
each_few_unless_empty bound j k (While port by s) f less = f less
each_few_unless_empty bound j k (Invoke cell ins outs) f less = f less

mutual
  pub each_few : (bound j k : ℕ) (s : Statement) → length (statements_in s) ≤ bound → EachFew bound (inner_threads j (plan_at k s))
  each_few bound j k (Enable g) less = tt
  each_few bound j k (Seq ss) less = few_each_in_turn bound (j + 1) (k + 1) ss (omega (arith, less))
  each_few bound j k (Par ss) less = few_each_at_once bound (j + 1) (k + 1) ss (omega (arith, less))
  each_few bound j k (If port by s t) less =
      let sum = length-append (unless_empty s (statements_in s)) (unless_empty t (statements_in t)) in
      each_few_append bound (inner_threads (j + 1) (plan_at (k + 1) s))
      (inner_threads (j + 1 + size (plan_at (k + 1) s)) (plan_at (k + 1 + length (unless_empty s (statements_in s))) t))
      (each_few_unless_empty bound (j + 1) (k + 1) s (λ one. each_few bound (j + 1) (k + 1) s one) (omega (arith, less, sum)))
      (each_few_unless_empty bound (j + 1 + size (plan_at (k + 1) s)) (k + 1 + length (unless_empty s (statements_in s))) t
      (λ one. each_few bound (j + 1 + size (plan_at (k + 1) s)) (k + 1 + length (unless_empty s (statements_in s))) t one) (omega (arith, less, sum)))
  each_few bound j k (While port by s) less = each_few_unless_empty bound (j + 1) (k + 1) s (λ one. each_few bound (j + 1) (k + 1) s one) (omega (arith, less))
  each_few bound j k (Invoke cell ins outs) less = tt

  few_each_in_turn : (bound j k : ℕ) (ss : Statements) → length (statements_of ss) ≤ bound → EachFew bound (threads_in_turn j (plans_from k ss))
  few_each_in_turn bound j k NoStatements less = tt
  few_each_in_turn bound j k (MoreStatements s ss) less =
      let sum = length-append (statements_in s) (statements_of ss) in
      each_few_append bound (inner_threads j (plan_at k s)) (threads_in_turn (j + size (plan_at k s)) (plans_from (k + length (statements_in s)) ss))
      (each_few bound j k s (omega (arith, less, sum)))
      (few_each_in_turn bound (j + size (plan_at k s)) (k + length (statements_in s)) ss (omega (arith, less, sum)))

  few_each_at_once : (bound j k : ℕ) (ss : Statements) → length (statements_of ss) ≤ bound → EachFew bound (threads_at_once j (plans_from k ss))
  few_each_at_once bound j k NoStatements less = tt
  few_each_at_once bound j k (MoreStatements s ss) less =
      let sum = length-append (statements_in s) (statements_of ss) in
      let one : List Thread = thread_of j (plan_at k s) ∷ inner_threads j (plan_at k s) in
      let own = few_states k s in
      let fewer = fewer_unless s (statements_in s) in
      each_few_append bound (none_if_over (plan_at k s) one) (threads_at_once (j + size (plan_at k s)) (plans_from (k + length (statements_in s)) ss))
      (each_few_unless bound (plan_at k s) one (omega (arith, less, sum, own, fewer), each_few bound j k s (omega (arith, less, sum))))
      (few_each_at_once bound (j + size (plan_at k s)) (k + length (statements_in s)) ss (omega (arith, less, sum)))

pub each_thread_few : (k : ℕ) (section : ControlSection) → EachFew (length (control_statements section)) (threads (section_plan k section))
each_thread_few k Absent = (omega arith, tt)
each_thread_few k Empty = (omega arith, tt)
each_thread_few k (Body s) = let few = few_section_states k (Body s) in (omega (arith, few), each_few (length (statements_in s)) 0 k s (omega arith))
