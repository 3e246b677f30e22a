-- Control has as many statements, and as many that stand directly in a `par`, where an enable stands in place of each invoke.
use Rattle.std.proofs.Common.{◌≡◌, ◌∙◌, ℕ, suc, ◌+◌, List, [], ◌∷◌, ◌++◌, length, refl, sym, ap, ap₂, length-append, arith}
use Rattle.cal_ast.specs.Items.{control_statements, statements_in, statements_of, unless_empty}
use Rattle.cal_ast.specs.Registers.{count, in_par, parallel}
use Rattle.cal_ast.specs.Tree.{ControlSection, Absent, Empty, Body}
use Rattle.cal_ast.specs.Tree.{Statement, Enable, Seq, Par, If, While, Invoke, Statements, NoStatements, MoreStatements}
use Rattle.cal_group.specs.inside.Expanded.{expanded_at, expanded_from, expanded_section}

pub parallel-append : (xs ys : List Statement) → parallel (xs ++ ys) ≡ parallel xs + parallel ys
parallel-append [] ys = omega arith
parallel-append (x ∷ xs) ys = let rest = parallel-append xs ys in omega (arith, rest)

count_same : (k : ℕ) (ss : Statements) → count (expanded_from k ss) ≡ count ss
count_same k NoStatements = refl
count_same k (MoreStatements s ss) = ap (λ (n : ℕ). n + 1) (count_same (k + length (statements_in s)) ss)

-- two lists have as many statements, and as many that stand directly in a `par`
pub record AreAsMany (xs ys : List Statement) : Type 0 where
  pub all : length xs ≡ length ys
  pub parallel_ones : parallel xs ≡ parallel ys

none_as_many : AreAsMany [] []
none_as_many = record { all = refl; parallel_ones = refl }

one_more : (s t : Statement) (xs ys : List Statement) → in_par s ≡ in_par t → AreAsMany xs ys → AreAsMany (s ∷ xs) (t ∷ ys)
one_more s t xs ys same are = record { all = ap suc are.all; parallel_ones = ap₂ (λ (m n : ℕ). m + n) same are.parallel_ones }

both_as_many : (xs ys vs ws : List Statement) → AreAsMany xs ys → AreAsMany vs ws → AreAsMany (xs ++ vs) (ys ++ ws)
both_as_many xs ys vs ws one other = record {
  all = length-append xs vs ∙ ap₂ (λ (m n : ℕ). m + n) one.all other.all ∙ sym (length-append ys ws);
  parallel_ones = parallel-append xs vs ∙ ap₂ (λ (m n : ℕ). m + n) one.parallel_ones other.parallel_ones ∙ sym (parallel-append ys ws);
}

-- a branch or a body is empty where it was
unless_as_many : (k : ℕ) (s : Statement) (xs ys : List Statement) → AreAsMany xs ys → AreAsMany (unless_empty (expanded_at k s) xs) (unless_empty s ys)
unless_as_many k (Enable g) xs ys are = are
unless_as_many k (Seq NoStatements) xs ys are = none_as_many
unless_as_many k (Seq (MoreStatements s ss)) xs ys are = are
unless_as_many k (Par ss) xs ys are = are
unless_as_many k (If port by s t) xs ys are = are
unless_as_many k (While port by s) xs ys are = are
unless_as_many k (Invoke cell ins outs) xs ys are = are

mutual
  as_many_at : (k : ℕ) (s : Statement) → AreAsMany (statements_in (expanded_at k s)) (statements_in s)
  as_many_at k (Enable g) = one_more (Enable g) (Enable g) [] [] refl none_as_many
  as_many_at k (Seq ss) = one_more (Seq (expanded_from (k + 1) ss)) (Seq ss) (statements_of (expanded_from (k + 1) ss)) (statements_of ss) refl (as_many_from (k + 1) ss)
  as_many_at k (Par ss) = one_more (Par (expanded_from (k + 1) ss)) (Par ss) (statements_of (expanded_from (k + 1) ss)) (statements_of ss) (count_same (k + 1) ss) (as_many_from (k + 1) ss)
  as_many_at k (If port by s t) =
      let j = k + 1 + length (unless_empty s (statements_in s)) in
      one_more (If port by (expanded_at (k + 1) s) (expanded_at j t)) (If port by s t) (unless_empty (expanded_at (k + 1) s) (statements_in (expanded_at (k + 1) s)) ++ unless_empty (expanded_at j t) (statements_in (expanded_at j t))) (unless_empty s (statements_in s) ++ unless_empty t (statements_in t)) refl
      (both_as_many (unless_empty (expanded_at (k + 1) s) (statements_in (expanded_at (k + 1) s))) (unless_empty s (statements_in s)) (unless_empty (expanded_at j t) (statements_in (expanded_at j t))) (unless_empty t (statements_in t))
      (unless_as_many (k + 1) s (statements_in (expanded_at (k + 1) s)) (statements_in s) (as_many_at (k + 1) s))
      (unless_as_many j t (statements_in (expanded_at j t)) (statements_in t) (as_many_at j t)))
  as_many_at k (While port by s) =
      one_more (While port by (expanded_at (k + 1) s)) (While port by s) (unless_empty (expanded_at (k + 1) s) (statements_in (expanded_at (k + 1) s))) (unless_empty s (statements_in s)) refl
      (unless_as_many (k + 1) s (statements_in (expanded_at (k + 1) s)) (statements_in s) (as_many_at (k + 1) s))
  as_many_at k (Invoke cell ins outs) = record { all = refl; parallel_ones = refl }

  as_many_from : (k : ℕ) (ss : Statements) → AreAsMany (statements_of (expanded_from k ss)) (statements_of ss)
  as_many_from k NoStatements = none_as_many
  as_many_from k (MoreStatements s ss) =
      both_as_many (statements_in (expanded_at k s)) (statements_in s) (statements_of (expanded_from (k + length (statements_in s)) ss)) (statements_of ss)
      (as_many_at k s) (as_many_from (k + length (statements_in s)) ss)

pub as_many_in_section : (k : ℕ) (control : ControlSection) → AreAsMany (control_statements (expanded_section k control)) (control_statements control)
as_many_in_section k Absent = none_as_many
as_many_in_section k Empty = none_as_many
as_many_in_section k (Body s) = as_many_at k s
