-- Branches and bodies of control statements: an empty sequence is no statement.
use Rattle.std.proofs.Common.{◌≡◌, ◌==◌, Bool, true, false, List, [], ◌∷◌, ◌++◌, length, map, Vec, Global, vec_len, refl, sym, ap, ◌∙◌, arith}
use Rattle.std.specs.Prelude.{if◌then◌else◌}
use Rattle.std.proofs.lemmas.Bool.{ne_eqb}
use mathlib.Core.Former.{Count}
use Rattle.hw_names.specs.Name.{Text}
use Rattle.cal_ast.specs.declared.tree.Control.{Control, Row_of-Control, end_of-Control, more_of-Control, items-the_row-Control, items_hidden-the_row-Control-0}
use Rattle.cal_ast.specs.declared.tree.Control as code
use Rattle.cal_ast.specs.Items.{Item, TheStatement, statements_in, statements_of, unless_empty}
use Rattle.cal_ast.specs.Tree.{Statement, statement_tree, statement_trees}
use Rattle.cal_ast.specs.Tree as tree
use Rattle.cal_place.proofs.RowLemmas.{items_in}

abbrev row_of : Control → (n : Count) × Row_of-Control n
row_of (code.Seq' shape r) = (_, r)
row_of _ = (_, end_of-Control)

row_told : (names : List Text) (rest : List Statement) (n : Count) (r : Row_of-Control n) (b : Bool) → b ≡ (length (items-the_row-Control n r) == 0) → (if b then [] else rest) ≡ unless_empty (tree.Seq (statement_trees names r)) rest
row_told names rest n end_of-Control b told = ap (λ (t : Bool). if t then [] else rest) told
row_told names rest n (more_of-Control s r) b told =
    let some : (length (items-the_row-Control _ (more_of-Control s r)) == 0) ≡ false = ne_eqb (length (items-the_row-Control _ (more_of-Control s r))) 0 (λ e. omega (arith, e)) in
    ap (λ (t : Bool). if t then [] else rest) (told ∙ some)

-- statements of the code as statements of the tree
abbrev pub trees : List Text → List Control → List Statement
trees names statements = map (statement_tree names) statements

-- the statements of a branch or a body
abbrev pub branch_statements : List Text → Control → List Statement
branch_statements names s = unless_empty (statement_tree names s) (statements_in (statement_tree names s))

-- whether a list of statements is empty tells whether its sequence is no statement
pub seq_told : (names : List Text) (rest : List Statement) (s : Control) (v : Vec Control Global) (b : Bool) → s ≡ code.Seq v → b ≡ (vec_len v == 0) → (if b then [] else rest) ≡ unless_empty (statement_tree names s) rest
seq_told names rest s v b is told =
    let r = row_of (code.Seq v) in
    let count : vec_len v ≡ length (items-the_row-Control r.0 r.1) = omega (arith, v.ok.0, ap length (items_hidden-the_row-Control-0 v)) in
    row_told names rest r.0 r.1 b (told ∙ ap (λ n. n == 0) count) ∙ ap (λ (x : Control). unless_empty (statement_tree names x) rest) (sym is)

-- what the test says of the statements of a branch
pub branch_none : (s : Statement) (rest : List Statement) (b : Bool) → (if b then [] else rest) ≡ unless_empty s rest → b ≡ true → unless_empty s rest ≡ []
branch_none s rest b told is = sym told ∙ ap (λ (t : Bool). if t then [] else rest) is

pub branch_some : (s : Statement) (rest : List Statement) (b : Bool) → (if b then [] else rest) ≡ unless_empty s rest → b ≡ false → unless_empty s rest ≡ rest
branch_some s rest b told is = sym told ∙ ap (λ (t : Bool). if t then [] else rest) is

-- the items of a statement begin with it
pub begins : (s : Statement) → (rest : List Item) × (items_in s ≡ TheStatement s ∷ rest)
begins (tree.Enable group) = ([], refl)
begins (tree.Seq ss) = (map TheStatement (statements_of ss), refl)
begins (tree.Par ss) = (map TheStatement (statements_of ss), refl)
begins (tree.If port by s t) = (map TheStatement (unless_empty s (statements_in s) ++ unless_empty t (statements_in t)), refl)
begins (tree.While port by s) = (map TheStatement (unless_empty s (statements_in s)), refl)
begins (tree.Invoke cell ins outs) = ([], refl)
