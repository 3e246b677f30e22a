-- The readers of expressions are exact. In each proof `refl` says that the sets of sorts by which the reader chooses are apart.
use Rattle.std.proofs.Common.{ℕ, zero, suc, false, List, [], ◌∷◌, length, inl, inr, refl, arith}
use Rattle.hw_names.specs.Name.{Text}
use Rattle.hw_grammar.specs.declared.sort.Sort.{Sort}
use Rattle.hw_grammar.specs.declared.sort.Sort.TheVariants.{Name, Number, LeftParen, RightParen, Plus, Minus, Star}
use Rattle.hw_grammar.specs.Grammar.{Lang, Mapped, AnyWord, AnyNumber, Then, Either, After, Between, Many, Separated}
use Rattle.hw_grammar.proofs.Exact.{IsLang, Exact, mapped-exact, mapped-law, then-law, either-law, many-law}
use Rattle.hw_grammar.proofs.Carried.{any_number-exact}
use Rattle.hw_grammar.proofs.Closed.{any_word-exact}
use Rattle.hw_grammar.proofs.Upto.{Upto, upto, upto-then, upto-mapped, upto-either, upto-after, upto-many, upto-less, upto-separated}
use Rattle.hw_grammar.proofs.Limit.{Within, Limit, limit-const, limit-mapped, limit-then, limit-either, limit-after, limit-many, limit-separated, upto-wider, upto-same, upto-nothing, law-wider, separated-law, after-law, limit-law}
use Rattle.hw_grammar.proofs.Parts.{upto-between, between-law, limit-between, first_then, pair-limit}
use Rattle.par_parse.specs.Tree.{ExpressionTree, Num}
use Rattle.par_parse.specs.Tree as tree
use Rattle.par_parse.specs.Grammar.{AtomOf, product_from, TermOf, minus_from, NextTermOf, sum_from, list_from, ExpressionOf, IsPlainAtom, ExpressionTo, IsExpression, IsAtom}
use Rattle.par_parse.specs.inside.Reading.{atom_by, term_by, next_term_by, expression_by, expression_to, expression_at, atom_at}

-- what an expression begins with, and what may go on behind one
abbrev pub First : List Sort
First = Number ∷ Name ∷ LeftParen ∷ []

abbrev pub Follow : List Sort
Follow = Plus ∷ Minus ∷ Star ∷ []

module _ (names : List Text) where
  -- ---- an expression is what the rule says of expressions

  abbrev IsNum : Lang ExpressionTree
  IsNum = Mapped Num AnyNumber

  abbrev IsWord : Lang ExpressionTree
  IsWord = Mapped tree.Name (AnyWord names)

  abbrev InParens : Lang ExpressionTree → Lang ExpressionTree
  InParens E = Between LeftParen E RightParen

  abbrev Terms : Lang ExpressionTree → Lang (ExpressionTree × List ExpressionTree)
  Terms E = Then (TermOf names E) (Many (NextTermOf names E))

  module _ (S : ℕ → Lang ExpressionTree) (L : Lang ExpressionTree) (x : Limit S L) where
    atom-limit : Limit (λ d. AtomOf names (S d)) (AtomOf names L)
    atom-limit =
        limit-either (λ d. IsNum) IsNum (λ d. Either IsWord (InParens (S d))) (Either IsWord (InParens L)) (limit-const IsNum)
        (limit-either (λ d. IsWord) IsWord (λ d. InParens (S d)) (InParens L) (limit-const IsWord) (limit-between LeftParen RightParen S L x))

    term-limit : Limit (λ d. TermOf names (S d)) (TermOf names L)
    term-limit =
        limit-mapped (λ d. Separated Star (AtomOf names (S d))) (Separated Star (AtomOf names L)) product_from
        (limit-separated Star (λ d. AtomOf names (S d)) (AtomOf names L) atom-limit)

    next_term-limit : Limit (λ d. NextTermOf names (S d)) (NextTermOf names L)
    next_term-limit =
        limit-either (λ d. After Plus (TermOf names (S d))) (After Plus (TermOf names L)) (λ d. Mapped minus_from (After Minus (TermOf names (S d)))) (Mapped minus_from (After Minus (TermOf names L)))
        (limit-after Plus (λ d. TermOf names (S d)) (TermOf names L) term-limit)
        (limit-mapped (λ d. After Minus (TermOf names (S d))) (After Minus (TermOf names L)) minus_from (limit-after Minus (λ d. TermOf names (S d)) (TermOf names L) term-limit))

    of-limit : Limit (λ d. ExpressionOf names (S d)) (ExpressionOf names L)
    of-limit =
        limit-mapped (λ d. Mapped list_from (Terms (S d))) (Mapped list_from (Terms L)) sum_from
        (limit-mapped (λ d. Terms (S d)) (Terms L) list_from
        (limit-then (λ d. TermOf names (S d)) (TermOf names L) (λ d. Many (NextTermOf names (S d))) (Many (NextTermOf names L)) term-limit
        (limit-many (λ d. NextTermOf names (S d)) (NextTermOf names L) next_term-limit)))

  plain_atom : (E : Lang ExpressionTree) → Within (IsPlainAtom names) (AtomOf names E)
  plain_atom E w a m (inl l) = inl l
  plain_atom E w a m (inr l) = inr (inl l)

  plain_expression : (E : Lang ExpressionTree) → Within (IsPlainAtom names) (ExpressionOf names E)
  plain_expression E w a m l =
      let term : TermOf names E w a m = (a ∷ [], ((a, []), (m, plain_atom E w a m l, refl), refl), refl) in
      (a ∷ [], ((a, []), (m, term, refl), refl), refl)

  within-of : (S T : Lang ExpressionTree) → Within S T → Within (ExpressionOf names S) (ExpressionOf names T)
  within-of S T h = (of-limit (first_then S T) T (pair-limit S T h)).up 0

  expression_grows : (d : ℕ) → Within (ExpressionTo names d) (ExpressionTo names (suc d))
  expression_grows zero = plain_expression (ExpressionTo names zero)
  expression_grows (suc d) = within-of (ExpressionTo names d) (ExpressionTo names (suc d)) (expression_grows d)

  pub expression-limit : Limit (ExpressionTo names) (IsExpression names)
  expression-limit = record { up = λ d w a m l. (d, l); down = λ w a m l. l; grows = expression_grows }

  expression_up : Within (ExpressionOf names (IsExpression names)) (IsExpression names)
  expression_up w a m l = let v = (of-limit (ExpressionTo names) (IsExpression names) expression-limit).down w a m l in (suc v.0, v.1)

  expression_down : Within (IsExpression names) (ExpressionOf names (IsExpression names))
  expression_down w a m (zero, l) = plain_expression (IsExpression names) w a m l
  expression_down w a m (suc d, l) = (of-limit (ExpressionTo names) (IsExpression names) expression-limit).up d w a m l

  -- ---- laws

  plain-law : IsLang (IsPlainAtom names) (Number ∷ Name ∷ []) false
  plain-law = either-law (mapped-law Num any_number-exact.law) (mapped-law tree.Name (any_word-exact names).law)

  term-law : (E : Lang ExpressionTree) → IsLang E First false → IsLang (TermOf names E) First false
  term-law E e =
      mapped-law product_from (separated-law Star
      (either-law (mapped-law Num any_number-exact.law) (either-law (mapped-law tree.Name (any_word-exact names).law) (between-law LeftParen RightParen e))))

  expression-law-to : (d : ℕ) → IsLang (ExpressionTo names d) First false
  expression-law-to zero = law-wider First refl plain-law
  expression-law-to (suc d) =
      let term : IsLang (TermOf names (ExpressionTo names d)) First false = term-law (ExpressionTo names d) (expression-law-to d) in
      mapped-law sum_from (mapped-law list_from (then-law term (many-law (either-law (after-law Plus term) (mapped-law minus_from (after-law Minus term))))))

  expression-law : IsLang (IsExpression names) First false
  expression-law = limit-law expression-limit expression-law-to

  -- ---- the readers

  module _ (n : ℕ) (e : Upto n (IsExpression names) (expression_to names n) First false Follow) where
    atom-upto : Upto (suc n) (IsAtom names) (atom_by names (expression_to names n)) First false []
    unfolding atom_by
    atom-upto =
        upto-either (suc n) (upto (suc n) (mapped-exact Num any_number-exact))
        (upto-either (suc n) (upto (suc n) (mapped-exact tree.Name (any_word-exact names))) (upto-between n LeftParen RightParen e refl) refl) refl

    term-upto : Upto (suc n) (TermOf names (IsExpression names)) (term_by names (expression_to names n)) First false (Star ∷ [])
    unfolding term_by
    term-upto = upto-mapped (suc n) product_from (upto-separated (suc n) Star atom-upto refl)

    next_term-upto : Upto (suc n) (NextTermOf names (IsExpression names)) (next_term_by names (expression_to names n)) (Plus ∷ Minus ∷ []) false (Star ∷ Star ∷ [])
    unfolding next_term_by
    next_term-upto =
        upto-either (suc n) (upto-less (suc n) (upto-after (suc n) Plus term-upto))
        (upto-mapped (suc n) minus_from (upto-less (suc n) (upto-after (suc n) Minus term-upto))) refl

    expression-by-upto : Upto (suc n) (IsExpression names) (expression_by names (expression_to names n)) First false Follow
    unfolding expression_by
    expression-by-upto =
        upto-same (suc n) expression-law expression_up expression_down (upto-wider (suc n) Follow refl
        (upto-mapped (suc n) sum_from (upto-mapped (suc n) list_from (upto-then (suc n) term-upto (upto-many (suc n) next_term-upto refl) refl))))

  expression-upto : (n : ℕ) → Upto n (IsExpression names) (expression_to names n) First false Follow
  expression-upto zero = upto-nothing Follow expression-law
  expression-upto (suc n) = expression-by-upto n (expression-upto n)

  pub expression-exact : Exact (IsExpression names) (expression_at names) First false Follow
  unfolding expression_at
  expression-exact = record { law = expression-law; reads = λ ts. (expression-upto (length ts)).reads ts (omega arith) }

  pub atom-exact : Exact (IsAtom names) (atom_at names) First false []
  unfolding atom_at
  atom-exact = record {
    law = (atom-upto 0 (expression-upto 0)).law;
    reads = λ ts. (atom-upto (length ts) (expression-upto (length ts))).reads ts (omega arith);
  }
