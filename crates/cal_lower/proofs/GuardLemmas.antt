-- The truth of the guards that lowering writes.
use Rattle.std.proofs.Common.{◌≡◌, ℕ, List, [], ◌∷◌, ◌++◌, Bool, true, false, not, ◌&&◌, ◌||◌, ◌==◌, refl, sym, ap, ◌∙◌}
use Rattle.std.specs.Prelude.{if◌then◌else◌}
use Rattle.std.proofs.lemmas.Bool.{and_right}
use Rattle.net_core.specs.Guard.{GuardTree, Negates, holds, any_holds, all_hold, guards_of}
use Rattle.cal_ast.specs.Tree.{PortName}
use Rattle.cal_token.proofs.TestLemmas.{and_true}
use Rattle.cal_lower.specs.inside.Pieces.{reads, either, both, any_of, all_of}
use Rattle.cal_lower.specs.inside.Parts.{chooses_nothing}

pub or_false : (b : Bool) → (b || false) ≡ b
or_false true = refl
or_false false = refl

or_assoc : (a b c : Bool) → (a || (b || c)) ≡ ((a || b) || c)
or_assoc true b c = refl
or_assoc false b c = refl

-- one of the guards is true, and all of them are
abbrev pub any_true : (PortName → ℕ) → List (GuardTree PortName) → Bool
any_true see [] = false
any_true see (g ∷ gs) = holds see g || any_true see gs

abbrev pub all_true : (PortName → ℕ) → List (GuardTree PortName) → Bool
all_true see [] = true
all_true see (g ∷ gs) = holds see g && all_true see gs

module _ (see : PortName → ℕ) where
  pub holds_either : (a b : GuardTree PortName) → holds see (either a b) ≡ (holds see a || holds see b)
  holds_either a b = ap (λ x. holds see a || x) (or_false (holds see b))

  pub holds_both : (a b : GuardTree PortName) → holds see (both a b) ≡ (holds see a && holds see b)
  holds_both a b = ap (λ x. holds see a && x) (and_true (holds see b))

  any_holds_of : (gs : List (GuardTree PortName)) → any_holds see (guards_of gs) ≡ any_true see gs
  any_holds_of [] = refl
  any_holds_of (g ∷ gs) = ap (λ x. holds see g || x) (any_holds_of gs)

  all_hold_of : (gs : List (GuardTree PortName)) → all_hold see (guards_of gs) ≡ all_true see gs
  all_hold_of [] = refl
  all_hold_of (g ∷ gs) = ap (λ x. holds see g && x) (all_hold_of gs)

  pub holds_any_of : (gs : List (GuardTree PortName)) → holds see (any_of gs) ≡ any_true see gs
  holds_any_of [] = refl
  holds_any_of (g ∷ []) = sym (or_false (holds see g))
  holds_any_of (g ∷ h ∷ gs) = any_holds_of (g ∷ h ∷ gs)

  pub holds_all_of : (gs : List (GuardTree PortName)) → holds see (all_of gs) ≡ all_true see gs
  holds_all_of [] = refl
  holds_all_of (g ∷ []) = sym (and_true (holds see g))
  holds_all_of (g ∷ h ∷ gs) = all_hold_of (g ∷ h ∷ gs)

  pub any_true-append : (gs hs : List (GuardTree PortName)) → any_true see (gs ++ hs) ≡ (any_true see gs || any_true see hs)
  any_true-append [] hs = refl
  any_true-append (g ∷ gs) hs = ap (λ x. holds see g || x) (any_true-append gs hs) ∙ or_assoc (holds see g) (any_true see gs) (any_true see hs)

  -- a guard that stands in a list where a test passes
  pub any_if : (b : Bool) (g : GuardTree PortName) → any_true see (if b then g ∷ [] else []) ≡ (holds see g && b)
  any_if true g = or_false (holds see g) ∙ sym (and_true (holds see g))
  any_if false g = sym (and_right (holds see g) false refl)

  -- a list that stands where a test fails
  pub any_unless : (b answer : Bool) (gs : List (GuardTree PortName)) → any_true see gs ≡ answer
      → any_true see (if b then [] else gs) ≡ (if b then false else answer)
  any_unless true answer gs same = refl
  any_unless false answer gs same = same

  neither_row : (a r : Bool) → a ≡ (a && (if r then true else true))
  neither_row a true = sym (and_true a)
  neither_row a false = sym (and_true a)

  first_row : (a r : Bool) → (a && r) ≡ (a && (if r then true else false))
  first_row a true = refl
  first_row a false = refl

  second_row : (a r : Bool) → (a && not r) ≡ (a && (if r then false else true))
  second_row a true = refl
  second_row a false = refl

  no_row : (a r : Bool) → false ≡ (a && (if r then false else false))
  no_row a true = sym (and_right a false refl)
  no_row a false = sym (and_right a false refl)

  -- where a choice takes a branch of no row
  pub any_nothing : (start : GuardTree PortName) (port : PortName) (on_over off_over : Bool)
      → any_true see (chooses_nothing start port on_over off_over) ≡ (holds see start && (if see port == 1 then on_over else off_over))
  any_nothing start port true true = or_false (holds see start) ∙ neither_row (holds see start) (see port == 1)
  any_nothing start port true false =
      or_false (holds see (both start (reads port))) ∙ holds_both start (reads port) ∙ first_row (holds see start) (see port == 1)
  any_nothing start port false true =
      or_false (holds see (both start (Negates (reads port)))) ∙ holds_both start (Negates (reads port)) ∙ second_row (holds see start) (see port == 1)
  any_nothing start port false false = no_row (holds see start) (see port == 1)
