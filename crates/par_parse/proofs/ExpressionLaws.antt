-- Lists of expressions, and what the readers of expressions give.
use Rattle.std.proofs.Common.{◌≡◌, ◌≢◌, ℕ, suc, true, false, List, [], ◌∷◌, length, map, Ok, refl, sym, ap, subst, ◌∙◌, Vec, Global}
use Rattle.std.proofs.lemmas.List.{length-map}
use mathlib.Core.Former.{Count}
use Rattle.hw_names.specs.Name.{Text, text_of}
use Rattle.hw_names.specs.declared.names.NameId.{NameId}
use Rattle.hw_grammar.specs.declared.sort.Sort.TheVariants.{Name, Number, LeftParen, RightParen, Plus, Minus, Star}
use Rattle.hw_grammar.specs.declared.terminal.Terminal.{Terminal}
use Rattle.hw_grammar.specs.declared.end.ReadEnd.{ReadEnd}
use Rattle.hw_grammar.specs.Sort.{has}
use Rattle.hw_grammar.specs.Reading.{Reader, Answer, Fails, any_name, any_word, any_number, then, mapped, after, between, many, separated, with_front}
use Rattle.hw_grammar.proofs.Steps.{mapped_ok, mapped_fails, separated_missing, separated_is, first_missing, first_is}
use Rattle.par_parse.specs.declared.tree.Expression.{Expression, Row_of-Expression, end_of-Expression, more_of-Expression, items-the_row-Expression, items_hidden-the_row-Expression-0}
use Rattle.par_parse.specs.declared.tree.Expression as code
use Rattle.par_parse.specs.Tree.{ExpressionTree, Num, Sum, Product, MoreExpressions, expressions_of, expression_tree, expression_trees}
use Rattle.par_parse.specs.Tree as tree
use Rattle.par_parse.specs.Grammar.{product_from, minus_from, sum_from, list_from}
use Rattle.par_parse.specs.inside.Reading.{atom_by, term_by, next_term_by, signs, expression_by, expression_to}

abbrev trees : List Text → List Expression → List ExpressionTree
trees names es = map (expression_tree names) es

row_is : (names : List Text) (n : Count) (r : Row_of-Expression n) → expression_trees names r ≡ expressions_of (trees names (items-the_row-Expression n r))
row_is names n end_of-Expression = refl
row_is names n (more_of-Expression e rest) = ap (MoreExpressions (expression_tree names e)) (row_is names _ rest)

abbrev row_of : Expression → (n : Count) × Row_of-Expression n
row_of (code.Sum' shape r) = (_, r)
row_of _ = (_, end_of-Expression)

product_many : (xs : List ExpressionTree) → length xs ≢ 1 → Product (expressions_of xs) ≡ product_from xs
product_many [] h = refl
product_many (x ∷ []) h = absurd (h refl)
product_many (x ∷ y ∷ xs) h = refl

sum_many : (xs : List ExpressionTree) → length xs ≢ 1 → Sum (expressions_of xs) ≡ sum_from xs
sum_many [] h = refl
sum_many (x ∷ []) h = absurd (h refl)
sum_many (x ∷ y ∷ xs) h = refl

pub product_tree : (names : List Text) (v : Vec Expression Global) → length v.items ≢ 1 → expression_tree names (code.Product v) ≡ product_from (trees names v.items)
product_tree names v h =
    let r = row_of (code.Sum v) in
    ap Product (row_is names r.0 r.1) ∙ ap (λ (es : List Expression). Product (expressions_of (trees names es))) (items_hidden-the_row-Expression-0 v)
    ∙ product_many (trees names v.items) (rw length-map h)

pub sum_tree : (names : List Text) (v : Vec Expression Global) → length v.items ≢ 1 → expression_tree names (code.Sum v) ≡ sum_from (trees names v.items)
sum_tree names v h =
    let r = row_of (code.Sum v) in
    ap Sum (row_is names r.0 r.1) ∙ ap (λ (es : List Expression). Sum (expressions_of (trees names es))) (items_hidden-the_row-Expression-0 v)
    ∙ sum_many (trees names v.items) (rw length-map h)

-- ---- what the readers of expressions give

module _ (names : List Text) (expressions : Reader ExpressionTree) (ts : List Terminal) where
  pub atom_number : (n : ℕ) (rest : List Terminal) → has (Number ∷ []) ts ≡ true → any_number ts ≡ Ok (n, rest) → atom_by names expressions ts ≡ Ok (Num n, rest)
  unfolding atom_by
  atom_number n rest h e = rw h (mapped_ok Num any_number ts n rest e)

  pub atom_no_number : (e : ReadEnd) → has (Number ∷ []) ts ≡ true → Fails e (any_number ts) → Fails e (atom_by names expressions ts)
  unfolding atom_by
  atom_no_number e h f = rw h (mapped_fails Num any_number ts e f)

  module _ (number : has (Number ∷ []) ts ≡ false) where
    pub atom_name : (id : NameId) (rest : List Terminal) → has (Name ∷ []) ts ≡ true → any_name ts ≡ Ok (id, rest) → atom_by names expressions ts ≡ Ok (tree.Name (text_of names id), rest)
    unfolding atom_by
    atom_name id rest h e = rw (number, h) (mapped_ok tree.Name (any_word names) ts (text_of names id) rest (mapped_ok (text_of names) any_name ts id rest e))

    pub atom_no_name : (e : ReadEnd) → has (Name ∷ []) ts ≡ true → Fails e (any_name ts) → Fails e (atom_by names expressions ts)
    unfolding atom_by
    atom_no_name e h f = rw (number, h) (mapped_fails tree.Name (any_word names) ts e (mapped_fails (text_of names) any_name ts e f))

    pub atom_parentheses : has (Name ∷ []) ts ≡ false → atom_by names expressions ts ≡ between LeftParen expressions RightParen ts
    unfolding atom_by
    atom_parentheses h = rw (number, h) refl

  abbrev atoms : Reader ExpressionTree
  atoms = atom_by names expressions

  pub term_missing : (e : ReadEnd) → Fails e (atoms ts) → Fails e (term_by names expressions ts)
  unfolding term_by
  term_missing e f = mapped_fails product_from (separated Star atoms) ts e (separated_missing Star atoms ts e f)

  module _ (x : ExpressionTree) (mid : List Terminal) (first : atom_by names expressions ts ≡ Ok (x, mid)) (front : List ExpressionTree) (one : front ≡ x ∷ []) where
    factors_are : separated Star atoms ts ≡ with_front front (many (Star ∷ []) (after Star atoms) mid)
    factors_are = separated_is Star atoms ts x mid first ∙ ap (λ (f : List ExpressionTree). with_front f (many (Star ∷ []) (after Star atoms) mid)) (sym one)

    pub term_ok : (all : List Expression) (rest : List Terminal) → with_front front (many (Star ∷ []) (after Star atoms) mid) ≡ Ok (trees names all, rest)
        → (e : ExpressionTree) → e ≡ product_from (trees names all) → term_by names expressions ts ≡ Ok (e, rest)
    unfolding term_by
    term_ok all rest h e same =
        mapped_ok product_from (separated Star atoms) ts (trees names all) rest (factors_are ∙ h) ∙ ap (λ (v : ExpressionTree). Ok (v, rest)) (sym same)

    pub term_fails : (e : ReadEnd) → Fails e (with_front front (many (Star ∷ []) (after Star atoms) mid)) → Fails e (term_by names expressions ts)
    unfolding term_by
    term_fails e f = mapped_fails product_from (separated Star atoms) ts e (subst (λ (r : Answer (List ExpressionTree)). Fails e r) (sym factors_are) f)

  pub next_plus : has (Plus ∷ []) ts ≡ true → next_term_by names expressions ts ≡ after Plus (term_by names expressions) ts
  unfolding next_term_by
  next_plus h = rw h refl

  pub next_minus : has (Plus ∷ []) ts ≡ false → next_term_by names expressions ts ≡ mapped minus_from (after Minus (term_by names expressions)) ts
  unfolding next_term_by
  next_minus h = rw h refl

module _ (names : List Text) (depth less : ℕ) (is : depth ≡ suc less) (ts : List Terminal) where
  abbrev terms : Reader ExpressionTree
  terms = term_by names (expression_to names less)

  abbrev more_terms : Reader ExpressionTree
  more_terms = next_term_by names (expression_to names less)

  abbrev all_terms : Reader (List ExpressionTree)
  all_terms = mapped list_from (then terms (many signs more_terms))

  expression_is : expression_to names depth ts ≡ mapped sum_from all_terms ts
  unfolding expression_by
  expression_is = rw is refl

  pub expression_missing : (e : ReadEnd) → Fails e (terms ts) → Fails e (expression_to names depth ts)
  expression_missing e f =
      subst (λ (r : Answer ExpressionTree). Fails e r) (sym expression_is) (mapped_fails sum_from all_terms ts e (first_missing signs terms more_terms ts e f))

  module _ (x : ExpressionTree) (mid : List Terminal) (first : term_by names (expression_to names less) ts ≡ Ok (x, mid)) (front : List ExpressionTree) (one : front ≡ x ∷ []) where
    terms_are : all_terms ts ≡ with_front front (many signs more_terms mid)
    terms_are = first_is signs terms more_terms ts x mid first ∙ ap (λ (f : List ExpressionTree). with_front f (many signs more_terms mid)) (sym one)

    pub expression_ok : (all : List Expression) (rest : List Terminal) → with_front front (many signs more_terms mid) ≡ Ok (trees names all, rest)
        → (e : ExpressionTree) → e ≡ sum_from (trees names all) → expression_to names depth ts ≡ Ok (e, rest)
    expression_ok all rest h e same =
        expression_is ∙ mapped_ok sum_from all_terms ts (trees names all) rest (terms_are ∙ h) ∙ ap (λ (v : ExpressionTree). Ok (v, rest)) (sym same)

    pub expression_fails : (e : ReadEnd) → Fails e (with_front front (many signs more_terms mid)) → Fails e (expression_to names depth ts)
    expression_fails e f =
        subst (λ (r : Answer ExpressionTree). Fails e r) (sym expression_is)
        (mapped_fails sum_from all_terms ts e (subst (λ (r : Answer (List ExpressionTree)). Fails e r) (sym terms_are) f))
