-- Lists of statements in statements, and what is known of them.
use Rattle.std.proofs.Common.{◌≡◌, ℕ, List, [], ◌∷◌, map, All, refl, sym, ap, subst, ◌∙◌, Vec, Global, Option, Some}
use Rattle.std.specs.Prelude.{slice_get}
use Rattle.std.specs.List.{AllByRecursion}
use Rattle.std.proofs.lemmas.List.Elements.{All-from_recursion}
use Rattle.std.specs.Global.{Box}
use mathlib.Core.Former.{Count}
use Rattle.hw_names.specs.Name.{KeepsTexts, Text}
use Rattle.hw_names.specs.declared.names.NameId.{NameId}
use Rattle.cal_ast.specs.Numbers.{StatementHasNumbers, StatementsHaveNumbers}
use Rattle.cal_ast.specs.Tree.{Statement, MoreStatements, statement_tree, statement_trees}
use Rattle.cal_ast.specs.Tree as tree
use Rattle.cal_ast.specs.declared.tree.CalPort.{CalPort}
use Rattle.cal_ast.specs.declared.tree.Control.{Control, Row_of-Control, end_of-Control, more_of-Control, items-the_row-Control, items_hidden-the_row-Control-0}
use Rattle.cal_ast.specs.declared.tree.Control as code
use Rattle.cal_ast.specs.declared.tree.Control.TheVariants as controls
use Rattle.cal_lower.specs.inside.Statements.{CanLower, CanLowerAll, HasNoInvoke, HaveNoInvoke, statements_from}
use Rattle.cal_lower.proofs.StableLemmas.{KeepsTexts-trans}
use Rattle.cal_lower.proofs.NextLemmas.{All-at}

abbrev row_of : Control → (n : Count) × Row_of-Control n
row_of (code.Seq' shape r) = (_, r)
row_of _ = (_, end_of-Control)

abbrev pub trees : List Text → List Control → List Statement
trees names statements = map (statement_tree names) statements

-- none of the statements in a list has an invoke
from_none : (names : List Text) (ss : List Control) → HaveNoInvoke (statements_from (trees names ss)) → AllByRecursion (λ s. HasNoInvoke (statement_tree names s)) ss
from_none names [] h = tt
from_none names (s ∷ ss) h = (h.0, from_none names ss h.1)

pub all_no_invoke : (names : List Text) (ss : List Control) → HaveNoInvoke (statements_from (trees names ss)) → All (λ s. HasNoInvoke (statement_tree names s)) ss
all_no_invoke names ss h = All-from_recursion (λ s. HasNoInvoke (statement_tree names s)) ss (from_none names ss h)

module _ (names : List Text) where
  row_numbers : (n : Count) (r : Row_of-Control n) → StatementsHaveNumbers names r → AllByRecursion (StatementHasNumbers names) (items-the_row-Control n r)
  row_numbers n end_of-Control h = tt
  row_numbers n (more_of-Control s rest) h = (h.0, row_numbers _ rest h.1)

  row_is : (n : Count) (r : Row_of-Control n) → statement_trees names r ≡ statements_from (trees names (items-the_row-Control n r))
  row_is n end_of-Control = refl
  row_is n (more_of-Control s rest) = ap (MoreStatements (statement_tree names s)) (row_is _ rest)

  module _ (v : Vec Control Global) where
    pub seq_numbers : StatementHasNumbers names (code.Seq v) → All (StatementHasNumbers names) v.items
    seq_numbers h =
        let r = row_of (code.Seq v) in
        All-from_recursion (StatementHasNumbers names) v.items (subst (λ (ss : List Control). AllByRecursion (StatementHasNumbers names) ss) (items_hidden-the_row-Control-0 v) (row_numbers r.0 r.1 h))

    pub par_numbers : StatementHasNumbers names (code.Par v) → All (StatementHasNumbers names) v.items
    par_numbers h = seq_numbers h

    pub seq_tree : statement_tree names (code.Seq v) ≡ tree.Seq (statements_from (trees names v.items))
    seq_tree =
        let r = row_of (code.Seq v) in
        ap tree.Seq (row_is r.0 r.1) ∙ ap (λ (ss : List Control). tree.Seq (statements_from (trees names ss))) (items_hidden-the_row-Control-0 v)

    pub par_tree : statement_tree names (code.Par v) ≡ tree.Par (statements_from (trees names v.items))
    par_tree =
        let r = row_of (code.Seq v) in
        ap tree.Par (row_is r.0 r.1) ∙ ap (λ (ss : List Control). tree.Par (statements_from (trees names ss))) (items_hidden-the_row-Control-0 v)

-- ---- what can be lowered

module _ (source names : List Text) where
  -- the statement that a match reads
  pub can_form : (control form : Control) → control ≡ form → CanLower source names control → CanLower source names form
  can_form control form is can = let P : Control → Type 0 = CanLower source names in subst P is can

  pub can_seq : (v : Vec Control Global) (items : List Control) → items ≡ v.items → CanLower source names (controls.Seq v) → CanLowerAll source names items
  can_seq v items same can =
      let P : List Control → Type 0 = CanLowerAll source names in
      let N : Statement → Type 0 = HasNoInvoke in
      subst P (sym same) (record {
        kept = can.kept;
        numbers = seq_numbers source v can.numbers;
        no_invoke = all_no_invoke source v.items (subst N (seq_tree source v) can.no_invoke);
      })

  pub can_par : (v : Vec Control Global) (items : List Control) → items ≡ v.items → CanLower source names (controls.Par v) → CanLowerAll source names items
  can_par v items same can =
      let P : List Control → Type 0 = CanLowerAll source names in
      let N : Statement → Type 0 = HasNoInvoke in
      subst P (sym same) (record {
        kept = can.kept;
        numbers = par_numbers source v can.numbers;
        no_invoke = all_no_invoke source v.items (subst N (par_tree source v) can.no_invoke);
      })

  pub can_yes : (port : CalPort) (by : Option NameId) (on off : Box Control) → CanLower source names (controls.If port by on off) → CanLower source names on.value
  can_yes port by on off can = record { kept = can.kept; numbers = can.numbers.2; no_invoke = can.no_invoke.0 }

  pub can_no : (port : CalPort) (by : Option NameId) (on off : Box Control) → CanLower source names (controls.If port by on off) → CanLower source names off.value
  can_no port by on off can = record { kept = can.kept; numbers = can.numbers.3; no_invoke = can.no_invoke.1 }

  pub can_body : (port : CalPort) (by : Option NameId) (body : Box Control) → CanLower source names (controls.While port by body) → CanLower source names body.value
  can_body port by body can = record { kept = can.kept; numbers = can.numbers.2; no_invoke = can.no_invoke }

  -- one of the statements
  pub can_one : (ss : List Control) (k : ℕ) (s : Control) → slice_get ss k ≡ Some s → CanLowerAll source names ss → CanLower source names s
  can_one ss k s at can = record {
    kept = can.kept;
    numbers = All-at (StatementHasNumbers source) ss k s at can.numbers;
    no_invoke = All-at (λ x. HasNoInvoke (statement_tree source x)) ss k s at can.no_invoke;
  }

-- where names are added
pub can_later : (source old new : List Text) (s : Control) → KeepsTexts old new → CanLower source old s → CanLower source new s
can_later source old new s kept can = record { kept = KeepsTexts-trans source old new can.kept kept; numbers = can.numbers; no_invoke = can.no_invoke }

pub can_all_later : (source old new : List Text) (ss : List Control) → KeepsTexts old new → CanLowerAll source old ss → CanLowerAll source new ss
can_all_later source old new ss kept can = record { kept = KeepsTexts-trans source old new can.kept kept; numbers = can.numbers; no_invoke = can.no_invoke }
