-- Lists of statements in statements, one statement after another.
use Rattle.std.proofs.Common.{◌≡◌, ℕ, ◌+◌, ◌==◌, Bool, true, false, List, [], ◌∷◌, ◌++◌, length, map, All, refl, sym, ap, ap₂, subst, ◌∙◌, append_assoc, arith, Vec, Global}
use Rattle.std.specs.List.{AllByRecursion}
use Rattle.std.proofs.lemmas.Bool.{ne_eqb}
use Rattle.std.proofs.lemmas.List.{append-nil, length-append, length-map}
use Rattle.std.proofs.lemmas.List.Elements.{All-from_recursion}
use mathlib.Core.Former.{Count}
use Rattle.hw_names.specs.Name.{Text}
use Rattle.cal_ast.specs.Actors.{Actor}
use Rattle.cal_ast.specs.Items.{statements_in, statements_of, unless_empty}
use Rattle.cal_ast.specs.Numbers.{StatementHasNumbers, StatementsHaveNumbers}
use Rattle.cal_ast.specs.Plan.{NoPlans, MorePlans, plan_at, plans_from}
use Rattle.cal_ast.specs.Tree.{PortName, Statement, Statements, NoStatements, MoreStatements, statement_tree, statement_trees}
use Rattle.cal_ast.specs.Tree as tree
use Rattle.cal_ast.specs.declared.tree.Control.{Control, Row_of-Control, end_of-Control, more_of-Control, items-the_row-Control, items_hidden-the_row-Control-0}
use Rattle.cal_ast.specs.declared.tree.Control as code
use Rattle.cal_walk.specs.Planning.{statements_from}
use Rattle.cal_walk.specs.Trees.{plan_tree, slice_trees}
use Rattle.cal_walk.specs.declared.plan.Plan as plans

abbrev row_of : Control → (n : Count) × Row_of-Control n
row_of (code.Seq' shape r) = (_, r)
row_of _ = (_, end_of-Control)

abbrev pub trees : List Text → List Control → List Statement
trees names statements = map (statement_tree names) statements

module _ (names : List Text) where
  row_numbers : (n : Count) (r : Row_of-Control n) → StatementsHaveNumbers names r → AllByRecursion (StatementHasNumbers names) (items-the_row-Control n r)
  row_numbers n end_of-Control h = tt
  row_numbers n (more_of-Control s rest) h = (h.0, row_numbers _ rest h.1)

  row_is : (n : Count) (r : Row_of-Control n) → statement_trees names r ≡ statements_from (trees names (items-the_row-Control n r))
  row_is n end_of-Control = refl
  row_is n (more_of-Control s rest) = ap (MoreStatements (statement_tree names s)) (row_is _ rest)

  module _ (v : Vec Control Global) where
    pub seq_numbers : StatementHasNumbers names (code.Seq v) → All (StatementHasNumbers names) v.items
    seq_numbers h =
        let r = row_of (code.Seq v) in
        All-from_recursion (StatementHasNumbers names) v.items (subst (λ (ss : List Control). AllByRecursion (StatementHasNumbers names) ss) (items_hidden-the_row-Control-0 v) (row_numbers r.0 r.1 h))

    pub par_numbers : StatementHasNumbers names (code.Par v) → All (StatementHasNumbers names) v.items
    par_numbers h = seq_numbers h

    pub seq_tree : statement_tree names (code.Seq v) ≡ tree.Seq (statements_from (trees names v.items))
    seq_tree =
        let r = row_of (code.Seq v) in
        ap tree.Seq (row_is r.0 r.1) ∙ ap (λ (ss : List Control). tree.Seq (statements_from (trees names ss))) (items_hidden-the_row-Control-0 v)

    pub par_tree : statement_tree names (code.Par v) ≡ tree.Par (statements_from (trees names v.items))
    par_tree =
        let r = row_of (code.Seq v) in
        ap tree.Par (row_is r.0 r.1) ∙ ap (λ (ss : List Control). tree.Par (statements_from (trees names ss))) (items_hidden-the_row-Control-0 v)

-- an empty sequence, and one that isn't
pub none_in : (ss : List Statement) → (length ss == 0) ≡ true → tree.Seq (statements_from ss) ≡ tree.Seq NoStatements
none_in [] e = refl
none_in (s ∷ ss) e = let some : (length (s ∷ ss) == 0) ≡ false = ne_eqb (length (s ∷ ss)) 0 (λ zero'. omega (arith, zero')) in absurd (cc)

pub some_in : (ss rest : List Statement) → (length ss == 0) ≡ false → unless_empty (tree.Seq (statements_from ss)) rest ≡ rest
some_in [] rest e = absurd (cc)
some_in (s ∷ ss) rest e = refl

module _ (names : List Text) (control : Control) (v : Vec Control Global) (is : control ≡ code.Seq v) (empty : Bool) (test : empty ≡ (v.len == 0)) where
  as_many : v.len ≡ length (trees names v.items)
  as_many = v.ok.0 ∙ sym (length-map v.items (statement_tree names))

  counted : empty ≡ (length (trees names v.items) == 0)
  counted = test ∙ ap (λ (n : ℕ). n == 0) as_many

  pub seq_nothing : empty ≡ true → statement_tree names control ≡ tree.Seq NoStatements
  seq_nothing yes' = ap (statement_tree names) is ∙ seq_tree names v ∙ none_in (trees names v.items) (sym counted ∙ yes')

  pub seq_something : (rest : List Statement) → empty ≡ false → unless_empty (statement_tree names control) rest ≡ rest
  seq_something rest no' =
      ap (λ (s : Statement). unless_empty s rest) (ap (statement_tree names) is ∙ seq_tree names v) ∙ some_in (trees names v.items) rest (sym counted ∙ no')

-- ---- one more

pub statements_push : (ss : List Statement) (s : Statement) → statements_of (statements_from (ss ++ s ∷ [])) ≡ statements_of (statements_from ss) ++ statements_in s
statements_push [] s = append-nil (statements_in s)
statements_push (x ∷ ss) s =
    ap (λ l. statements_in x ++ l) (statements_push ss s) ∙ sym (append_assoc (statements_in x) (statements_of (statements_from ss)) (statements_in s))

module _ (f : ℕ → Actor) (h : ℕ → PortName) where
  pub plans_push : (ps : List plans.Plan) (p : plans.Plan) (ss : List Statement) (s : Statement) (k : ℕ) → slice_trees f h ps ≡ plans_from k (statements_from ss)
      → plan_tree f h p ≡ plan_at (k + length (statements_of (statements_from ss))) s → slice_trees f h (ps ++ p ∷ []) ≡ plans_from k (statements_from (ss ++ s ∷ []))
  plans_push [] p [] s k so_far is =
      let same : k + 0 ≡ k = omega arith in
      ap (λ q. MorePlans q NoPlans) (is ∙ ap (λ n. plan_at n s) same)
  plans_push [] p (x ∷ ss) s k so_far is = absurd (cc)
  plans_push (q ∷ ps) p [] s k so_far is = absurd (cc)
  plans_push (q ∷ ps) p (x ∷ ss) s k so_far is =
      let head : plan_tree f h q ≡ plan_at k x = cc in
      let rest : slice_trees f h ps ≡ plans_from (k + length (statements_in x)) (statements_from ss) = cc in
      let count : k + length (statements_of (statements_from (x ∷ ss))) ≡ (k + length (statements_in x)) + length (statements_of (statements_from ss)) =
      omega (arith, length-append (statements_in x) (statements_of (statements_from ss))) in
      ap₂ MorePlans head (plans_push ps p ss s (k + length (statements_in x)) rest (is ∙ ap (λ n. plan_at n s) count))
