-- The readers of guards are exact.
use Rattle.std.proofs.Common.{◌≡◌, ℕ, zero, suc, Bool, true, false, List, [], ◌∷◌, length, Option, Some, None, inl, inr, refl, sym, ap, subst, ◌∙◌, arith, ◌≤◌}
use Rattle.hw_names.specs.Name.{Text}
use Rattle.hw_grammar.specs.declared.sort.Sort.{Sort}
use Rattle.hw_grammar.specs.declared.sort.Sort.TheVariants.{Name, Literal, LeftParen, RightParen, LeftAngle, RightAngle, Dot, Not, And, Or, EqualsEquals, NotEquals, AtMost, AtLeast}
use Rattle.hw_grammar.specs.declared.terminal.Terminal.{Terminal}
use Rattle.hw_grammar.specs.Grammar.{Lang, One, Mapped, Then, Either, After, Between, Many, Separated}
use Rattle.hw_grammar.proofs.Exact.{IsLang, Exact, one-exact, then-exact, mapped-exact, either-exact, optional-exact, many-exact, after-exact, mapped-law, either-law}
use Rattle.hw_grammar.proofs.Carried.{any_literal-exact}
use Rattle.hw_grammar.proofs.Closed.{any_word-exact}
use Rattle.hw_grammar.proofs.Upto.{Upto, upto, upto-then, upto-mapped, upto-either, upto-after, upto-separated, upto-less}
use Rattle.hw_grammar.proofs.Limit.{Within, within-mapped, within-either, within-after, within-separated, within-self, Limit, limit-const, limit-mapped, limit-either, limit-after, limit-separated, upto-wider, upto-same, upto-nothing, law-wider, separated-law, after-law, limit-law}
use Rattle.hw_grammar.proofs.Parts.{upto-between, between-law, within-between, limit-between}
use Rattle.net_core.specs.declared.net.Cmp.TheVariants.{Eq, Neq, Lt, Gt, Le, Ge}
use Rattle.net_core.specs.Guard.{Reads, Negates}
use Rattle.cal_parse.specs.Grammar.{port_from, port_source, literal_from, Guard, read_from, negated_from, test_from, all_from, any_from, IsPort, IsSource, IsOperator, IsTest, TightOf, UnitOf, ConjunctionOf, GuardOf, TightTo, GuardTo, IsTight, IsGuard}
use Rattle.cal_parse.specs.inside.Reading.{port_at, source_at, operators, operator_at, test_at, negated, negations_from, operand_by, negated_by, unit_by, conjunction_by, guard_by, guard_to, guard_at}

pub operator-exact : Exact IsOperator operator_at operators false []
unfolding operator_at
operator-exact =
    either-exact (mapped-exact (λ (t : Terminal). Eq) (one-exact EqualsEquals)) (either-exact (mapped-exact (λ (t : Terminal). Neq) (one-exact NotEquals))
    (either-exact (mapped-exact (λ (t : Terminal). Lt) (one-exact LeftAngle)) (either-exact (mapped-exact (λ (t : Terminal). Gt) (one-exact RightAngle))
    (either-exact (mapped-exact (λ (t : Terminal). Le) (one-exact AtMost)) (mapped-exact (λ (t : Terminal). Ge) (one-exact AtLeast)) refl) refl) refl) refl) refl

-- what a guard begins with, and what may go on behind one
abbrev pub First : List Sort
First = Not ∷ LeftParen ∷ Name ∷ Literal ∷ []

abbrev pub Follow : List Sort
Follow = Or ∷ And ∷ Dot ∷ EqualsEquals ∷ NotEquals ∷ LeftAngle ∷ RightAngle ∷ AtMost ∷ AtLeast ∷ []

module _ (names : List Text) where
  pub port-exact : Exact (IsPort names) (port_at names) (Name ∷ []) false (Dot ∷ [])
  unfolding port_at
  port-exact = mapped-exact port_from (then-exact (any_word-exact names) (optional-exact (after-exact Dot (any_word-exact names)) refl) refl)

  pub source-exact : Exact (IsSource names) (source_at names) (Name ∷ Literal ∷ []) false (Dot ∷ [])
  unfolding source_at
  source-exact = either-exact (mapped-exact port_source port-exact) (mapped-exact literal_from any_literal-exact) refl

  pub test-exact : Exact (IsTest names) (test_at names) (Name ∷ Literal ∷ []) false (EqualsEquals ∷ NotEquals ∷ LeftAngle ∷ RightAngle ∷ AtMost ∷ AtLeast ∷ Dot ∷ Dot ∷ [])
  unfolding test_at
  test-exact = mapped-exact test_from (then-exact source-exact (optional-exact (then-exact operator-exact source-exact refl) refl) refl)

  -- ---- depth

  abbrev IsRead : Lang Guard
  IsRead = Mapped read_from (IsSource names)

  source_tight : (T G : Lang Guard) → Within IsRead (TightOf names T G)
  source_tight T G w a m l = inr (inr l)

  pub source_guard : (T G : Lang Guard) → Within IsRead (GuardOf names T G)
  source_guard T G w a m (s, l, e) =
      let unit : UnitOf names T G w (Reads s) m = inr (inr ((s, None), (m, l, inr (refl, refl)), refl)) in
      let conj : ConjunctionOf names T G w (Reads s) m = (Reads s ∷ [], ((Reads s, []), (m, unit, refl), refl), refl) in
      (Reads s ∷ [], ((Reads s, []), (m, conj, refl), refl), e)

  abbrev InParens : Lang Guard → Lang Guard
  InParens G = Between LeftParen G RightParen

  abbrev IsNegated : Lang Guard → Lang Guard
  IsNegated T = Mapped negated_from (After Not T)

  within-negated : (T U : Lang Guard) → Within T U → Within (IsNegated T) (IsNegated U)
  within-negated T U t = within-mapped (After Not T) (After Not U) negated_from (within-after Not T U t)

  within-tight : (T U G H : Lang Guard) → Within T U → Within G H → Within (TightOf names T G) (TightOf names U H)
  within-tight T U G H t g =
      within-either (IsNegated T) (IsNegated U) (Either (InParens G) IsRead) (Either (InParens H) IsRead) (within-negated T U t)
      (within-either (InParens G) (InParens H) IsRead IsRead (within-between LeftParen RightParen G H g) (within-self IsRead))

  within-unit : (T U G H : Lang Guard) → Within T U → Within G H → Within (UnitOf names T G) (UnitOf names U H)
  within-unit T U G H t g =
      within-either (IsNegated T) (IsNegated U) (Either (InParens G) (IsTest names)) (Either (InParens H) (IsTest names)) (within-negated T U t)
      (within-either (InParens G) (InParens H) (IsTest names) (IsTest names) (within-between LeftParen RightParen G H g) (within-self (IsTest names)))

  within-conjunction : (T U G H : Lang Guard) → Within T U → Within G H → Within (ConjunctionOf names T G) (ConjunctionOf names U H)
  within-conjunction T U G H t g =
      within-mapped (Separated And (UnitOf names T G)) (Separated And (UnitOf names U H)) all_from (within-separated And (UnitOf names T G) (UnitOf names U H) (within-unit T U G H t g))

  within-guard : (T U G H : Lang Guard) → Within T U → Within G H → Within (GuardOf names T G) (GuardOf names U H)
  within-guard T U G H t g =
      within-mapped (Separated Or (ConjunctionOf names T G)) (Separated Or (ConjunctionOf names U H)) any_from
      (within-separated Or (ConjunctionOf names T G) (ConjunctionOf names U H) (within-conjunction T U G H t g))

  mutual
    tight_grows : (d : ℕ) → Within (TightTo names d) (TightTo names (suc d))
    tight_grows zero = source_tight (TightTo names zero) (GuardTo names zero)
    tight_grows (suc d) = within-tight (TightTo names d) (TightTo names (suc d)) (GuardTo names d) (GuardTo names (suc d)) (tight_grows d) (guard_grows d)

    guard_grows : (d : ℕ) → Within (GuardTo names d) (GuardTo names (suc d))
    guard_grows zero = source_guard (TightTo names zero) (GuardTo names zero)
    guard_grows (suc d) = within-guard (TightTo names d) (TightTo names (suc d)) (GuardTo names d) (GuardTo names (suc d)) (tight_grows d) (guard_grows d)

  tight-limit : Limit (TightTo names) (IsTight names)
  tight-limit = record { up = λ d w a m l. (d, l); down = λ w a m l. l; grows = tight_grows }

  guard-limit : Limit (GuardTo names) (IsGuard names)
  guard-limit = record { up = λ d w a m l. (d, l); down = λ w a m l. l; grows = guard_grows }

  -- ---- a guard is what the rule says of tights and guards

  negated-limit : Limit (λ d. IsNegated (TightTo names d)) (IsNegated (IsTight names))
  negated-limit = limit-mapped (λ d. After Not (TightTo names d)) (After Not (IsTight names)) negated_from (limit-after Not (TightTo names) (IsTight names) tight-limit)

  parens-limit : Limit (λ d. InParens (GuardTo names d)) (InParens (IsGuard names))
  parens-limit = limit-between LeftParen RightParen (GuardTo names) (IsGuard names) guard-limit

  tight-of-limit : Limit (λ d. TightOf names (TightTo names d) (GuardTo names d)) (TightOf names (IsTight names) (IsGuard names))
  tight-of-limit =
      limit-either (λ d. IsNegated (TightTo names d)) (IsNegated (IsTight names)) (λ d. Either (InParens (GuardTo names d)) IsRead) (Either (InParens (IsGuard names)) IsRead) negated-limit
      (limit-either (λ d. InParens (GuardTo names d)) (InParens (IsGuard names)) (λ d. IsRead) IsRead parens-limit (limit-const IsRead))

  unit-of-limit : Limit (λ d. UnitOf names (TightTo names d) (GuardTo names d)) (UnitOf names (IsTight names) (IsGuard names))
  unit-of-limit =
      limit-either (λ d. IsNegated (TightTo names d)) (IsNegated (IsTight names)) (λ d. Either (InParens (GuardTo names d)) (IsTest names)) (Either (InParens (IsGuard names)) (IsTest names)) negated-limit
      (limit-either (λ d. InParens (GuardTo names d)) (InParens (IsGuard names)) (λ d. IsTest names) (IsTest names) parens-limit (limit-const (IsTest names)))

  conjunction-limit : Limit (λ d. ConjunctionOf names (TightTo names d) (GuardTo names d)) (ConjunctionOf names (IsTight names) (IsGuard names))
  conjunction-limit =
      limit-mapped (λ d. Separated And (UnitOf names (TightTo names d) (GuardTo names d))) (Separated And (UnitOf names (IsTight names) (IsGuard names))) all_from
      (limit-separated And (λ d. UnitOf names (TightTo names d) (GuardTo names d)) (UnitOf names (IsTight names) (IsGuard names)) unit-of-limit)

  guard-of-limit : Limit (λ d. GuardOf names (TightTo names d) (GuardTo names d)) (GuardOf names (IsTight names) (IsGuard names))
  guard-of-limit =
      limit-mapped (λ d. Separated Or (ConjunctionOf names (TightTo names d) (GuardTo names d))) (Separated Or (ConjunctionOf names (IsTight names) (IsGuard names))) any_from
      (limit-separated Or (λ d. ConjunctionOf names (TightTo names d) (GuardTo names d)) (ConjunctionOf names (IsTight names) (IsGuard names)) conjunction-limit)

  pub tight_up : Within (TightOf names (IsTight names) (IsGuard names)) (IsTight names)
  tight_up w a m l = let v = tight-of-limit.down w a m l in (suc v.0, v.1)

  pub guard_up : Within (GuardOf names (IsTight names) (IsGuard names)) (IsGuard names)
  guard_up w a m l = let v = guard-of-limit.down w a m l in (suc v.0, v.1)

  pub guard_down : Within (IsGuard names) (GuardOf names (IsTight names) (IsGuard names))
  guard_down w a m (zero, l) = source_guard (IsTight names) (IsGuard names) w a m l
  guard_down w a m (suc d, l) = guard-of-limit.up d w a m l

  -- ---- runs of `!`

  abbrev IsOperand : Lang Guard
  IsOperand = Either (InParens (IsGuard names)) IsRead

  abbrev IsRun : Lang Guard
  IsRun = Mapped negations_from (Then (Many (One Not)) IsOperand)

  behind_run : (run : List Terminal) (w : List Terminal) (a : Guard) (m mid : List Terminal) → Many (One Not) w run mid → IsOperand mid a m → IsTight names w (negated (length run) a) m
  behind_run [] w a m mid e l = tight_up w a m (inr (subst (λ (v : List Terminal). IsOperand v a m) (sym e) l))
  behind_run (t ∷ run) w a m mid (mid1, bang, more) l =
      let g : Guard = negated (length run) a in
      tight_up w (Negates g) m (inl (g, ((t, g), (mid1, bang, behind_run run mid1 a m mid more l), refl), refl))

  run_up : Within IsRun (IsTight names)
  run_up w a m ((run, g), (mid, many, l), e) = subst (λ (v : Guard). IsTight names w v m) (sym e) (behind_run run w g m mid many l)

  run_at : (d : ℕ) → Within (TightTo names d) IsRun
  run_at zero w a m l = (([], a), (w, refl, inr l), refl)
  run_at (suc d) w a m (inr (inl l)) = (([], a), (w, refl, inl (within-between LeftParen RightParen (GuardTo names d) (IsGuard names) (guard-limit.up d) w a m l)), refl)
  run_at (suc d) w a m (inr (inr l)) = (([], a), (w, refl, inr l), refl)
  run_at (suc d) w a m (inl (g, ((t, g2), (mid, bang, tight), e1), e2)) =
      let r : IsRun mid g2 m = run_at d mid g2 m tight in
      ((t ∷ r.0.0, r.0.1), (r.1.0, (mid, bang, r.1.1), r.1.2), e2 ∙ ap negated_from (e1 ∙ r.2))

  run_down : Within (IsTight names) IsRun
  run_down w a m (d, l) = run_at d w a m l

  -- ---- laws

  mutual
    tight-law-to : (d : ℕ) → IsLang (TightTo names d) First false
    tight-law-to zero = law-wider First refl (mapped-law read_from source-exact.law)
    tight-law-to (suc d) = either-law (mapped-law negated_from (after-law Not (tight-law-to d))) (either-law (between-law LeftParen RightParen (guard-law-to d)) (mapped-law read_from source-exact.law))

    guard-law-to : (d : ℕ) → IsLang (GuardTo names d) First false
    guard-law-to zero = law-wider First refl (mapped-law read_from source-exact.law)
    guard-law-to (suc d) =
        mapped-law any_from (separated-law Or (mapped-law all_from (separated-law And
        (either-law (mapped-law negated_from (after-law Not (tight-law-to d))) (either-law (between-law LeftParen RightParen (guard-law-to d)) test-exact.law)))))

  pub tight-law : IsLang (IsTight names) First false
  tight-law = limit-law tight-limit tight-law-to

  pub guard-law : IsLang (IsGuard names) First false
  guard-law = limit-law guard-limit guard-law-to

  -- ---- the readers

  operand-upto : (n : ℕ) → Upto n (IsGuard names) (guard_to names n) First false Follow → Upto (suc n) IsOperand (operand_by names (guard_to names n)) (LeftParen ∷ Name ∷ Literal ∷ []) false (Dot ∷ [])
  unfolding operand_by
  operand-upto n g = upto-either (suc n) (upto-between n LeftParen RightParen g refl) (upto (suc n) (mapped-exact read_from source-exact)) refl

  negated-upto : (n : ℕ) → Upto n (IsGuard names) (guard_to names n) First false Follow → Upto (suc n) (IsNegated (IsTight names)) (negated_by names (guard_to names n)) (Not ∷ []) false (Dot ∷ [])
  unfolding negated_by
  negated-upto n g =
      upto-less (suc n) (upto-mapped (suc (suc n)) negated_from (upto-after (suc n) Not
      (upto-same (suc n) tight-law run_up run_down (upto-mapped (suc n) negations_from (upto-then (suc n) (upto (suc n) (many-exact (one-exact Not) refl)) (operand-upto n g) refl)))))

  unit-upto : (n : ℕ) → Upto n (IsGuard names) (guard_to names n) First false Follow → Upto (suc n) (UnitOf names (IsTight names) (IsGuard names)) (unit_by names (guard_to names n)) First false (Dot ∷ EqualsEquals ∷ NotEquals ∷ LeftAngle ∷ RightAngle ∷ AtMost ∷ AtLeast ∷ Dot ∷ Dot ∷ [])
  unfolding unit_by
  unit-upto n g = upto-either (suc n) (negated-upto n g) (upto-either (suc n) (upto-between n LeftParen RightParen g refl) (upto (suc n) test-exact) refl) refl

  guard-by-upto : (n : ℕ) → Upto n (IsGuard names) (guard_to names n) First false Follow → Upto (suc n) (IsGuard names) (guard_by names (guard_to names n)) First false Follow
  unfolding guard_by conjunction_by
  guard-by-upto n g =
      upto-same (suc n) guard-law guard_up guard_down (upto-wider (suc n) Follow refl
      (upto-mapped (suc n) any_from (upto-separated (suc n) Or (upto-mapped (suc n) all_from (upto-separated (suc n) And (unit-upto n g) refl)) refl)))

  pub guard-upto : (n : ℕ) → Upto n (IsGuard names) (guard_to names n) First false Follow
  guard-upto zero = upto-nothing Follow guard-law
  guard-upto (suc n) = guard-by-upto n (guard-upto n)

  pub guard-exact : Exact (IsGuard names) (guard_at names) First false Follow
  unfolding guard_at
  guard-exact = record { law = guard-law; reads = λ ts. (guard-upto (length ts)).reads ts (omega arith) }
