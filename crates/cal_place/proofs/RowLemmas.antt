-- Lists of guards in guards, and of statements in statements.
use Rattle.std.proofs.Common.{◌≡◌, ◌⊎◌, inl, inr, List, [], ◌∷◌, ◌++◌, map, All, refl, sym, ap, subst, ◌∙◌, Option, Vec, Global}
use Rattle.std.specs.List.{flat_map, AllByRecursion}
use Rattle.std.proofs.lemmas.List.{map-append}
use Rattle.std.proofs.lemmas.List.Elements.{All-from_recursion}
use mathlib.Core.Former.{Count}
use Rattle.hw_names.specs.Name.{Text}
use Rattle.net_core.specs.declared.net.Guard.{Guard, Row_of-Guard, end_of-Guard, more_of-Guard, items-the_row-Guard, items_hidden-the_row-Guard-0}
use Rattle.net_core.specs.declared.net.Guard as guards
use Rattle.cal_ast.specs.declared.tree.CalPort.{CalPort}
use Rattle.cal_ast.specs.declared.tree.Control.{Control, Row_of-Control, end_of-Control, more_of-Control, items-the_row-Control, items_hidden-the_row-Control-0}
use Rattle.cal_ast.specs.declared.tree.Control as code
use Rattle.cal_ast.specs.Items.{Item, TheStatement, statements_in, statements_of, unless_empty}
use Rattle.cal_ast.specs.Numbers.{GuardHasNumbers, GuardsHaveNumbers, StatementHasNumbers, StatementsHaveNumbers}
use Rattle.cal_ast.specs.Tree.{InBinding, OutBinding, PortName, Statement, MoreStatements, statement_tree, statement_trees}
use Rattle.cal_ast.specs.Tree as tree
use Rattle.cal_place.specs.Statements.{statements_from}

-- ---- guards

abbrev guard_row : Guard CalPort → (n : Count) × Row_of-Guard CalPort n
guard_row (guards.All' shape r) = (_, r)
guard_row _ = (_, end_of-Guard)

guard_row_numbers : (names : List Text) (n : Count) (r : Row_of-Guard CalPort n) → GuardsHaveNumbers names r → AllByRecursion (GuardHasNumbers names) (items-the_row-Guard CalPort n r)
guard_row_numbers names n end_of-Guard h = tt
guard_row_numbers names n (more_of-Guard g rest) h = (h.0, guard_row_numbers names _ rest h.1)

all_numbers : (names : List Text) (v : Vec (Guard CalPort) Global) → GuardHasNumbers names (guards.All v) → All (GuardHasNumbers names) v.items
all_numbers names v h =
    let r = guard_row (guards.All v) in
    All-from_recursion (GuardHasNumbers names) v.items (subst (λ (gs : List (Guard CalPort)). AllByRecursion (GuardHasNumbers names) gs) (items_hidden-the_row-Guard-0 CalPort v) (guard_row_numbers names r.0 r.1 h))

-- the guards of a list in a guard have numbers where it has
pub list_numbers : (names : List Text) (g : Guard CalPort) (v : Vec (Guard CalPort) Global) → (g ≡ guards.All v) ⊎ (g ≡ guards.Any v) → GuardHasNumbers names g → All (GuardHasNumbers names) v.items
list_numbers names g v (inl e) h = let P : Guard CalPort → Type 0 = GuardHasNumbers names in all_numbers names v (subst P e h)
list_numbers names g v (inr e) h = let P : Guard CalPort → Type 0 = GuardHasNumbers names in all_numbers names v (subst P e h)

-- ---- statements

abbrev row_of : Control → (n : Count) × Row_of-Control n
row_of (code.Seq' shape r) = (_, r)
row_of _ = (_, end_of-Control)

row_numbers : (names : List Text) (n : Count) (r : Row_of-Control n) → StatementsHaveNumbers names r → AllByRecursion (StatementHasNumbers names) (items-the_row-Control n r)
row_numbers names n end_of-Control h = tt
row_numbers names n (more_of-Control s rest) h = (h.0, row_numbers names _ rest h.1)

pub seq_numbers : (names : List Text) (v : Vec Control Global) → StatementHasNumbers names (code.Seq v) → All (StatementHasNumbers names) v.items
seq_numbers names v h =
    let r = row_of (code.Seq v) in
    All-from_recursion (StatementHasNumbers names) v.items (subst (λ (ss : List Control). AllByRecursion (StatementHasNumbers names) ss) (items_hidden-the_row-Control-0 v) (row_numbers names r.0 r.1 h))

pub par_numbers : (names : List Text) (v : Vec Control Global) → StatementHasNumbers names (code.Par v) → All (StatementHasNumbers names) v.items
par_numbers names v h = seq_numbers names v h

abbrev trees : List Text → List Control → List Statement
trees names statements = map (statement_tree names) statements

row_is : (names : List Text) (n : Count) (r : Row_of-Control n) → statement_trees names r ≡ statements_from (trees names (items-the_row-Control n r))
row_is names n end_of-Control = refl
row_is names n (more_of-Control s rest) = ap (MoreStatements (statement_tree names s)) (row_is names _ rest)

pub seq_tree : (names : List Text) (v : Vec Control Global) → statement_tree names (code.Seq v) ≡ tree.Seq (statements_from (trees names v.items))
seq_tree names v =
    let r = row_of (code.Seq v) in
    ap tree.Seq (row_is names r.0 r.1) ∙ ap (λ (ss : List Control). tree.Seq (statements_from (trees names ss))) (items_hidden-the_row-Control-0 v)

pub par_tree : (names : List Text) (v : Vec Control Global) → statement_tree names (code.Par v) ≡ tree.Par (statements_from (trees names v.items))
par_tree names v =
    let r = row_of (code.Seq v) in
    ap tree.Par (row_is names r.0 r.1) ∙ ap (λ (ss : List Control). tree.Par (statements_from (trees names ss))) (items_hidden-the_row-Control-0 v)

-- the items of statements in a list, statement by statement
abbrev pub items_in : Statement → List Item
items_in s = map TheStatement (statements_in s)

pub items_of_list : (ss : List Statement) → flat_map (λ items. items) (map items_in ss) ≡ map TheStatement (statements_of (statements_from ss))
items_of_list [] = refl
items_of_list (s ∷ ss) =
    ap (λ items. items_in s ++ items) (items_of_list ss) ∙ sym (map-append TheStatement (statements_in s) (statements_of (statements_from ss)))

-- ---- the items of a statement: the statement, and those inside it

-- those of a branch or a body
abbrev pub branch_items : List Text → Control → List Item
branch_items names s = map TheStatement (unless_empty (statement_tree names s) (statements_in (statement_tree names s)))

module _ (names : List Text) (s : Control) where
  abbrev node : Statement
  node = statement_tree names s

  pub items_enable : (group : Text) → node ≡ tree.Enable group → items_in node ≡ TheStatement node ∷ []
  items_enable group is =
      let P : Statement → Type 0 = λ t. items_in t ≡ TheStatement t ∷ [] in
      subst P (sym is) refl

  pub items_invoke : (cell : Text) (ins : List InBinding) (outs : List OutBinding) → node ≡ tree.Invoke cell ins outs → items_in node ≡ TheStatement node ∷ []
  items_invoke cell ins outs is =
      let P : Statement → Type 0 = λ t. items_in t ≡ TheStatement t ∷ [] in
      subst P (sym is) refl

  pub items_seq : (v : Vec Control Global) → s ≡ code.Seq v → items_in node ≡ TheStatement node ∷ map TheStatement (statements_of (statements_from (trees names v.items)))
  items_seq v is =
      let P : Statement → Type 0 = λ t. items_in t ≡ TheStatement t ∷ map TheStatement (statements_of (statements_from (trees names v.items))) in
      subst P (sym (ap (statement_tree names) is ∙ seq_tree names v)) refl

  pub items_par : (v : Vec Control Global) → s ≡ code.Par v → items_in node ≡ TheStatement node ∷ map TheStatement (statements_of (statements_from (trees names v.items)))
  items_par v is =
      let P : Statement → Type 0 = λ t. items_in t ≡ TheStatement t ∷ map TheStatement (statements_of (statements_from (trees names v.items))) in
      subst P (sym (ap (statement_tree names) is ∙ par_tree names v)) refl

  pub items_if : (port : PortName) (by : Option Text) (yes' no' : Control) → node ≡ tree.If port by (statement_tree names yes') (statement_tree names no')
      → items_in node ≡ (TheStatement node ∷ branch_items names yes') ++ branch_items names no'
  items_if port by yes' no' is =
      let P : Statement → Type 0 = λ t. items_in t ≡ (TheStatement t ∷ branch_items names yes') ++ branch_items names no' in
      let first = unless_empty (statement_tree names yes') (statements_in (statement_tree names yes')) in
      let second = unless_empty (statement_tree names no') (statements_in (statement_tree names no')) in
      subst P (sym is) (ap (λ items. TheStatement (tree.If port by (statement_tree names yes') (statement_tree names no')) ∷ items) (map-append TheStatement first second))

  pub items_while : (port : PortName) (by : Option Text) (body : Control) → node ≡ tree.While port by (statement_tree names body) → items_in node ≡ TheStatement node ∷ branch_items names body
  items_while port by body is =
      let P : Statement → Type 0 = λ t. items_in t ≡ TheStatement t ∷ branch_items names body in
      subst P (sym is) refl
