-- Lists of statements, and what the readers of statements give.
use Rattle.std.proofs.Common.{◌≡◌, ℕ, suc, Bool, true, false, List, [], ◌∷◌, map, refl, ap, ◌∙◌, Vec, Global}
use mathlib.Core.Former.{Count}
use Rattle.hw_names.specs.Name.{Text, text_of}
use Rattle.hw_names.specs.declared.names.NameId.{NameId}
use Rattle.hw_grammar.specs.declared.sort.Sort.TheVariants.{Name, For}
use Rattle.hw_grammar.specs.declared.terminal.Terminal.{Terminal}
use Rattle.hw_grammar.specs.Sort.{has}
use Rattle.par_parse.specs.declared.tree.Expression.{Expression}
use Rattle.par_parse.specs.declared.tree.ParamStatement.{ParamStatement, Row_of-ParamStatement, end_of-ParamStatement, more_of-ParamStatement, items-the_row-ParamStatement, items_hidden-the_row-ParamStatement-0}
use Rattle.par_parse.specs.declared.tree.ParamStatement as code
use Rattle.par_parse.specs.Tree.{StatementTree, StatementTrees, MoreStatements, statements_of, expression_tree, statement_tree, statement_trees}
use Rattle.par_parse.specs.Tree as tree
use Rattle.par_parse.specs.inside.Reading.{plain_statement_at, for_by, if_by, statement_by, statement_to}

abbrev trees : List Text → List ParamStatement → List StatementTree
trees names statements = map (statement_tree names) statements

row_is : (names : List Text) (n : Count) (r : Row_of-ParamStatement n) → statement_trees names r ≡ statements_of (trees names (items-the_row-ParamStatement n r))
row_is names n end_of-ParamStatement = refl
row_is names n (more_of-ParamStatement s rest) = ap (MoreStatements (statement_tree names s)) (row_is names _ rest)

abbrev row_of : ParamStatement → (n : Count) × Row_of-ParamStatement n
row_of (code.For' name from to shape r) = (_, r)
row_of _ = (_, end_of-ParamStatement)

pub for_tree : (names : List Text) (name : NameId) (from to : Expression) (v : Vec ParamStatement Global)
    → statement_tree names (code.For name from to v) ≡ tree.For (text_of names name) (expression_tree names from) (expression_tree names to) (statements_of (trees names v.items))
for_tree names name from to v =
    let r = row_of (code.For name from to v) in
    ap (tree.For (text_of names name) (expression_tree names from) (expression_tree names to))
    (row_is names r.0 r.1 ∙ ap (λ (ss : List ParamStatement). statements_of (trees names ss)) (items_hidden-the_row-ParamStatement-0 v))

body_is : (names : List Text) (name : NameId) (from to : Expression) (v : Vec ParamStatement Global) → statement_trees names (row_of (code.For name from to v)).1 ≡ statements_of (trees names v.items)
body_is names name from to v =
    let r = row_of (code.For name from to v) in
    row_is names r.0 r.1 ∙ ap (λ (ss : List ParamStatement). statements_of (trees names ss)) (items_hidden-the_row-ParamStatement-0 v)

pub if_tree : (names : List Text) (less : Bool) (left right : Expression) (then_this else_this : Vec ParamStatement Global)
    → statement_tree names (code.If less left right then_this else_this)
    ≡ tree.If less (expression_tree names left) (expression_tree names right) (statements_of (trees names then_this.items)) (statements_of (trees names else_this.items))
if_tree names less left right then_this else_this =
    let l = expression_tree names left in
    let r = expression_tree names right in
    let none : NameId = record { 0 = 0 } in
    ap (λ (ss : StatementTrees). tree.If less l r ss (statement_trees names (row_of (code.For none left right else_this)).1)) (body_is names none left right then_this)
    ∙ ap (λ (ss : StatementTrees). tree.If less l r (statements_of (trees names then_this.items)) ss) (body_is names none left right else_this)

-- ---- what the readers of statements give

module _ (names : List Text) (depth less : ℕ) (is : depth ≡ suc less) (ts : List Terminal) where
  pub statement_plain : has (Name ∷ []) ts ≡ true → statement_to names depth ts ≡ plain_statement_at names ts
  unfolding statement_by
  statement_plain h = rw (is, h) refl

  module _ (name : has (Name ∷ []) ts ≡ false) where
    pub statement_for : has (For ∷ []) ts ≡ true → statement_to names depth ts ≡ for_by names (statement_to names less) ts
    unfolding statement_by
    statement_for h = rw (is, name, h) refl

    pub statement_if : has (For ∷ []) ts ≡ false → statement_to names depth ts ≡ if_by names (statement_to names less) ts
    unfolding statement_by
    statement_if h = rw (is, name, h) refl
