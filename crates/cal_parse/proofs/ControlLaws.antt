-- Lists of statements, and what the readers of statements give.
use Rattle.std.proofs.Common.{◌≡◌, ◌≢◌, ℕ, suc, Bool, true, false, List, [], ◌∷◌, length, map, Ok, refl, sym, ap, ◌∙◌, arith, Vec, Global}
use Rattle.std.proofs.lemmas.List.{length-map}
use mathlib.Core.Former.{Count}
use Rattle.hw_names.specs.Name.{Text}
use Rattle.hw_grammar.specs.declared.sort.Sort.TheVariants.{Name, Seq, Par, If, Else, While}
use Rattle.hw_grammar.specs.declared.terminal.Terminal.{Terminal}
use Rattle.hw_grammar.specs.declared.end.ReadEnd.{ReadEnd}
use Rattle.hw_grammar.specs.Sort.{has}
use Rattle.hw_grammar.specs.Reading.{Reader, Fails, one, then, mapped, after}
use Rattle.cal_ast.specs.declared.tree.Control.{Control, Row_of-Control, end_of-Control, more_of-Control, items-the_row-Control, items_hidden-the_row-Control-0}
use Rattle.cal_ast.specs.declared.tree.Control as code
use Rattle.cal_ast.specs.Tree.{PortName, Statement, MoreStatements, ControlSection, Body, statement_tree, statement_trees}
use Rattle.cal_ast.specs.Tree as tree
use Rattle.cal_parse.specs.Grammar.{statements_from, seq_from, par_from, branch_from, if_from, while_from, control_from}
use Rattle.cal_parse.specs.inside.Reading.{attributes_at, enable_at, block_by, branch_by, maybe_else_by, condition_at, branches_by, if_by, while_by, invoke_at, plain_statement_by, statement_by, statement_to}
use Rattle.hw_grammar.proofs.Steps.{then_ok, then_fails, then_missing, mapped_ok, mapped_fails, after_ok, after_fails, after_missing}

abbrev trees : List Text → List Control → List Statement
trees names statements = map (statement_tree names) statements

row_is : (names : List Text) (n : Count) (r : Row_of-Control n) → statement_trees names r ≡ statements_from (trees names (items-the_row-Control n r))
row_is names n end_of-Control = refl
row_is names n (more_of-Control s rest) = ap (MoreStatements (statement_tree names s)) (row_is names _ rest)

abbrev row_of : Control → (n : Count) × Row_of-Control n
row_of (code.Seq' shape r) = (_, r)
row_of _ = (_, end_of-Control)

pub seq_tree : (names : List Text) (v : Vec Control Global) → statement_tree names (code.Seq v) ≡ seq_from (trees names v.items)
seq_tree names v =
    let r = row_of (code.Seq v) in
    ap tree.Seq (row_is names r.0 r.1) ∙ ap (λ (ss : List Control). seq_from (trees names ss)) (items_hidden-the_row-Control-0 v)

pub par_tree : (names : List Text) (v : Vec Control Global) → statement_tree names (code.Par v) ≡ par_from (trees names v.items)
par_tree names v =
    let r = row_of (code.Seq v) in
    ap tree.Par (row_is names r.0 r.1) ∙ ap (λ (ss : List Control). par_from (trees names ss)) (items_hidden-the_row-Control-0 v)

branch_many : (xs : List Statement) → length xs ≢ 1 → seq_from xs ≡ branch_from xs
branch_many [] h = refl
branch_many (x ∷ []) h = absurd (h refl)
branch_many (x ∷ y ∷ xs) h = refl

pub branch_tree : (names : List Text) (v : Vec Control Global) → length v.items ≢ 1 → statement_tree names (code.Seq v) ≡ branch_from (trees names v.items)
branch_tree names v h = seq_tree names v ∙ branch_many (trees names v.items) (rw length-map h)

control_some : (xs : List Statement) → length xs ≢ 0 → Body (branch_from xs) ≡ control_from xs
control_some [] h = absurd (h refl)
control_some (x ∷ []) h = refl
control_some (x ∷ y ∷ xs) h = refl

pub control_body : (names : List Text) (v : List Control) (s : Statement) → length v ≢ 0 → s ≡ branch_from (trees names v) → Body s ≡ control_from (trees names v)
control_body names v s h e = ap Body e ∙ control_some (trees names v) (rw length-map h)

pub control_none : (names : List Text) (v : List Control) → length v ≡ 0 → tree.Empty ≡ control_from (trees names v)
control_none names [] h = refl
control_none names (s ∷ v) h = absurd (omega arith)

-- ---- what the readers of statements give

module _ (names : List Text) (statements : Reader Statement) (ts : List Terminal) where
  pub plain_enable : has (Name ∷ []) ts ≡ true → plain_statement_by names statements ts ≡ enable_at names ts
  unfolding plain_statement_by
  plain_enable h = rw h refl

  module _ (name : has (Name ∷ []) ts ≡ false) where
    pub plain_seq : has (Seq ∷ []) ts ≡ true → plain_statement_by names statements ts ≡ mapped seq_from (after Seq (block_by statements)) ts
    unfolding plain_statement_by
    plain_seq h = rw (name, h) refl

    module _ (seq : has (Seq ∷ []) ts ≡ false) where
      pub plain_par : has (Par ∷ []) ts ≡ true → plain_statement_by names statements ts ≡ mapped par_from (after Par (block_by statements)) ts
      unfolding plain_statement_by
      plain_par h = rw (name, seq, h) refl

      module _ (par : has (Par ∷ []) ts ≡ false) where
        pub plain_if : has (If ∷ []) ts ≡ true → plain_statement_by names statements ts ≡ if_by names statements ts
        unfolding plain_statement_by
        plain_if h = rw (name, seq, par, h) refl

        module _ (no_if : has (If ∷ []) ts ≡ false) where
          pub plain_while : has (While ∷ []) ts ≡ true → plain_statement_by names statements ts ≡ while_by names statements ts
          unfolding plain_statement_by
          plain_while h = rw (name, seq, par, no_if, h) refl

          pub plain_invoke : has (While ∷ []) ts ≡ false → plain_statement_by names statements ts ≡ invoke_at names ts
          unfolding plain_statement_by
          plain_invoke h = rw (name, seq, par, no_if, h) refl

  pub else_none : (v : Vec Control Global) → has (Else ∷ []) ts ≡ false → v.items ≡ [] → maybe_else_by statements ts ≡ Ok (statement_tree names (code.Seq v), ts)
  unfolding maybe_else_by
  else_none v h e = rw h (ap (λ (s : Statement). Ok (s, ts)) (sym (seq_tree names v ∙ ap (λ (ss : List Control). seq_from (trees names ss)) e)))

module _ (names : List Text) (depth less : ℕ) (is : depth ≡ suc less) (ts : List Terminal) where
  abbrev plain : Reader Statement
  plain = plain_statement_by names (statement_to names less)

  statement_is : statement_to names depth ts ≡ mapped (λ (x : Bool × Statement). x.1) (then attributes_at plain) ts
  unfolding statement_by
  statement_is = rw is refl

  pub statement_missing : (e : ReadEnd) → Fails e (attributes_at ts) → Fails e (statement_to names depth ts)
  statement_missing e f = rw statement_is (mapped_fails (λ (x : Bool × Statement). x.1) (then attributes_at plain) ts e (then_missing attributes_at plain ts e f))

  module _ (mid : List Terminal) (b : Bool) (first : attributes_at ts ≡ Ok (b, mid)) where
    pub statement_ok : (s : Statement) (rest : List Terminal) → plain mid ≡ Ok (s, rest) → statement_to names depth ts ≡ Ok (s, rest)
    statement_ok s rest h = statement_is ∙ mapped_ok (λ (x : Bool × Statement). x.1) (then attributes_at plain) ts (b, s) rest (then_ok attributes_at plain ts mid b first s rest h)

    pub statement_fails : (e : ReadEnd) → Fails e (plain mid) → Fails e (statement_to names depth ts)
    statement_fails e f = rw statement_is (mapped_fails (λ (x : Bool × Statement). x.1) (then attributes_at plain) ts e (then_fails attributes_at plain ts mid b first e f))
