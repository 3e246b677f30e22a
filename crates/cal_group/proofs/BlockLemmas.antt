-- Blocks of statements: their trees, their numbers, and the statements in them.
use Rattle.std.proofs.Common.{◌≡◌, ◌==◌, ◌<◌, Bool, true, false, List, [], ◌∷◌, ◌++◌, ℕ, length, map, get_or, All, Some, refl, sym, ap, subst, ◌∙◌, arith, Vec, Global}
use Rattle.std.specs.List.{AllByRecursion}
use Rattle.std.specs.Prelude.{slice_get}
use Rattle.std.proofs.lemmas.Bool.{ne_eqb}
use Rattle.std.proofs.lemmas.List.{length-map}
use Rattle.std.proofs.lemmas.List.Elements.{All-from_recursion, recursion_from_All}
use Rattle.std.proofs.lemmas.Option.{slice_get-get_or}
use mathlib.Core.Former.{Count}
use Rattle.hw_names.specs.Name.{Text}
use Rattle.cal_ast.specs.Items.{statements_in, statements_of, unless_empty}
use Rattle.cal_ast.specs.Numbers.{StatementHasNumbers, StatementsHaveNumbers}
use Rattle.cal_ast.specs.Tree.{Statement, Statements, NoStatements, MoreStatements, statement_tree, statement_trees}
use Rattle.cal_ast.specs.Tree as tree
use Rattle.cal_ast.specs.declared.tree.Control.{Control, Row_of-Control, end_of-Control, more_of-Control, items-the_row-Control, items_hidden-the_row-Control-0}
use Rattle.cal_ast.specs.declared.tree.Control as code
use Rattle.cal_group.specs.inside.Expansion.{statements_listed}

abbrev row_of : Control → (n : Count) × Row_of-Control n
row_of (code.Seq' shape r) = (_, r)
row_of _ = (_, end_of-Control)

-- the element that a loop has
pub at_index : {X : Type 0} (xs : List X) (k : ℕ) (x : X) → k < length xs → x ≡ get_or xs k x → slice_get xs k ≡ Some x
at_index xs k x within is = slice_get-get_or xs k x within ∙ ap Some (sym is)

-- the statements of a block, from a list of them
abbrev pub statements_from : List Statement → Statements
statements_from [] = NoStatements
statements_from (s ∷ ss) = MoreStatements s (statements_from ss)

abbrev pub trees : List Text → List Control → List Statement
trees names statements = map (statement_tree names) statements

module _ (names : List Text) where
  row_numbers : (n : Count) (r : Row_of-Control n) → StatementsHaveNumbers names r → AllByRecursion (StatementHasNumbers names) (items-the_row-Control n r)
  row_numbers n end_of-Control h = tt
  row_numbers n (more_of-Control s rest) h = (h.0, row_numbers _ rest h.1)

  row_from : (n : Count) (r : Row_of-Control n) → AllByRecursion (StatementHasNumbers names) (items-the_row-Control n r) → StatementsHaveNumbers names r
  row_from n end_of-Control h = tt
  row_from n (more_of-Control s rest) h = (h.0, row_from _ rest h.1)

  row_is : (n : Count) (r : Row_of-Control n) → statement_trees names r ≡ statements_from (trees names (items-the_row-Control n r))
  row_is n end_of-Control = refl
  row_is n (more_of-Control s rest) = ap (MoreStatements (statement_tree names s)) (row_is _ rest)

  pub listed_from : (ss : List Control) → statements_of (statements_from (trees names ss)) ≡ statements_listed names ss
  listed_from [] = refl
  listed_from (s ∷ ss) = ap (λ (l : List Statement). statements_in (statement_tree names s) ++ l) (listed_from ss)

  module _ (v : Vec Control Global) where
    pub seq_numbers : StatementHasNumbers names (code.Seq v) → All (StatementHasNumbers names) v.items
    seq_numbers h =
        let r = row_of (code.Seq v) in
        All-from_recursion (StatementHasNumbers names) v.items (subst (λ (ss : List Control). AllByRecursion (StatementHasNumbers names) ss) (items_hidden-the_row-Control-0 v) (row_numbers r.0 r.1 h))

    pub par_numbers : StatementHasNumbers names (code.Par v) → All (StatementHasNumbers names) v.items
    par_numbers h = seq_numbers h

    pub seq_from : All (StatementHasNumbers names) v.items → StatementHasNumbers names (code.Seq v)
    seq_from h =
        let r = row_of (code.Seq v) in
        row_from r.0 r.1 (subst (λ (ss : List Control). AllByRecursion (StatementHasNumbers names) ss) (sym (items_hidden-the_row-Control-0 v)) (recursion_from_All (StatementHasNumbers names) v.items h))

    pub par_from : All (StatementHasNumbers names) v.items → StatementHasNumbers names (code.Par v)
    par_from h = seq_from h

    pub seq_tree : statement_tree names (code.Seq v) ≡ tree.Seq (statements_from (trees names v.items))
    seq_tree =
        let r = row_of (code.Seq v) in
        ap tree.Seq (row_is r.0 r.1) ∙ ap (λ (ss : List Control). tree.Seq (statements_from (trees names ss))) (items_hidden-the_row-Control-0 v)

    pub par_tree : statement_tree names (code.Par v) ≡ tree.Par (statements_from (trees names v.items))
    par_tree =
        let r = row_of (code.Seq v) in
        ap tree.Par (row_is r.0 r.1) ∙ ap (λ (ss : List Control). tree.Par (statements_from (trees names ss))) (items_hidden-the_row-Control-0 v)

-- ---- an empty sequence, and one that isn't

none_in : (ss : List Statement) → (length ss == 0) ≡ true → tree.Seq (statements_from ss) ≡ tree.Seq NoStatements
none_in [] e = refl
none_in (s ∷ ss) e = let some : (length (s ∷ ss) == 0) ≡ false = ne_eqb (length (s ∷ ss)) 0 (λ zero'. omega (arith, zero')) in absurd (cc)

some_in : (ss rest : List Statement) → (length ss == 0) ≡ false → unless_empty (tree.Seq (statements_from ss)) rest ≡ rest
some_in [] rest e = absurd (cc)
some_in (s ∷ ss) rest e = refl

module _ (names : List Text) (control : Control) (v : Vec Control Global) (is : control ≡ code.Seq v) (empty : Bool) (test : empty ≡ (v.len == 0)) where
  as_many : v.len ≡ length (trees names v.items)
  as_many = v.ok.0 ∙ sym (length-map v.items (statement_tree names))

  counts : empty ≡ (length (trees names v.items) == 0)
  counts = test ∙ ap (λ (n : ℕ). n == 0) as_many

  pub seq_nothing : empty ≡ true → statement_tree names control ≡ tree.Seq NoStatements
  seq_nothing yes' = ap (statement_tree names) is ∙ seq_tree names v ∙ none_in (trees names v.items) (sym counts ∙ yes')

  pub seq_something : (rest : List Statement) → empty ≡ false → unless_empty (statement_tree names control) rest ≡ rest
  seq_something rest no' =
      ap (λ (s : Statement). unless_empty s rest) (ap (statement_tree names) is ∙ seq_tree names v) ∙ some_in (trees names v.items) rest (sym counts ∙ no')
