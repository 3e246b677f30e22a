-- The order of texts that are joined by dots.
use Rattle.std.proofs.Common.{◌≡◌, ◌≢◌, ℕ, Bool, true, false, cond, nat_lt, ◌==◌, [], ◌∷◌, ◌++◌, length, refl, sym, ap, subst, ◌∙◌, arith}
use Rattle.std.specs.Cmp.Lexicographic.{slice_cmp}
use Rattle.std.specs.Ordering.{nat_cmp, ordering_then}
use Rattle.std.specs.declared.cmp.Ordering.{Ordering}
use Rattle.std.specs.declared.cmp.Ordering.TheVariants.{Less, Equal, Greater}
use Rattle.std.proofs.lemmas.Bool.{eqb-true}
use Rattle.std.proofs.lemmas.List.Elements.{All-head, All-tail}
use Rattle.hw_names.specs.Name.{HasNoDot, Text, dot}

abbrev order : Text → Text → Ordering
order = slice_cmp nat_cmp

-- where two bytes differ, what follows them does not matter
apart : (x y : ℕ) (o p : Ordering) → x ≢ y → ordering_then (nat_cmp x y) o ≡ ordering_then (nat_cmp x y) p
apart x y o p ne = by (nat_lt x y) (x == y) refl
  where
    by : (l e : Bool) → (x == y) ≡ e → ordering_then (cond l Less (cond e Equal Greater)) o ≡ ordering_then (cond l Less (cond e Equal Greater)) p
    by true e is = refl
    by false true is = absurd (ne (eqb-true x y is))
    by false false is = refl

then_both : (o p q : Ordering) → ordering_then (ordering_then o p) q ≡ ordering_then o (ordering_then p q)
then_both Less p q = refl
then_both Equal p q = refl
then_both Greater p q = refl

first_byte : (x : ℕ) (text : Text) → HasNoDot (x ∷ text) → x ≢ dot
first_byte x text plain = All-head (λ byte. byte ≢ dot) x text plain

other_bytes : (x : ℕ) (text : Text) → HasNoDot (x ∷ text) → HasNoDot text
other_bytes x text plain = All-tail (λ byte. byte ≢ dot) x text plain

-- names of two owners stand in the order of the owners, and those of one owner in their own
pub owners_order : (a b p q : Text) → HasNoDot a → HasNoDot b → order (a ++ dot ∷ p) (b ++ dot ∷ q) ≡ ordering_then (order (a ++ dot ∷ []) (b ++ dot ∷ [])) (order p q)
owners_order [] [] p q plain plain' = refl
owners_order [] (y ∷ b) p q plain plain' =
    apart dot y (order p (b ++ dot ∷ q)) (ordering_then (order [] (b ++ dot ∷ [])) (order p q)) (λ e. first_byte y b plain' (sym e))
    ∙ sym (then_both (nat_cmp dot y) (order [] (b ++ dot ∷ [])) (order p q))
owners_order (x ∷ a) [] p q plain plain' =
    apart x dot (order (a ++ dot ∷ p) q) (ordering_then (order (a ++ dot ∷ []) []) (order p q)) (first_byte x a plain)
    ∙ sym (then_both (nat_cmp x dot) (order (a ++ dot ∷ []) []) (order p q))
owners_order (x ∷ a) (y ∷ b) p q plain plain' =
    ap (ordering_then (nat_cmp x y)) (owners_order a b p q (other_bytes x a plain) (other_bytes y b plain'))
    ∙ sym (then_both (nat_cmp x y) (order (a ++ dot ∷ []) (b ++ dot ∷ [])) (order p q))

-- a text with no dot stands by an owner alone
pub before_owner : (p b q : Text) → HasNoDot p → order p (b ++ dot ∷ q) ≡ order p (b ++ dot ∷ [])
before_owner [] [] q plain = refl
before_owner [] (y ∷ b) q plain = refl
before_owner (x ∷ p) [] q plain = apart x dot (order p q) (order p []) (first_byte x p plain)
before_owner (x ∷ p) (y ∷ b) q plain = ap (ordering_then (nat_cmp x y)) (before_owner p b q (other_bytes x p plain))

pub after_owner : (a p q : Text) → HasNoDot q → order (a ++ dot ∷ p) q ≡ order (a ++ dot ∷ []) q
after_owner [] p [] plain = refl
after_owner (x ∷ a) p [] plain = refl
after_owner [] p (y ∷ q) plain = apart dot y (order p q) (order [] q) (λ e. first_byte y q plain (sym e))
after_owner (x ∷ a) p (y ∷ q) plain = ap (ordering_then (nat_cmp x y)) (after_owner a p q (other_bytes y q plain))

-- ---- three numbers as a text

-- texts of one length decide first
pub joined : (xs ys us vs : Text) → length xs ≡ length ys → order (xs ++ us) (ys ++ vs) ≡ ordering_then (order xs ys) (order us vs)
joined [] [] us vs e = refl
joined [] (y ∷ ys) us vs e = absurd (omega (arith, e))
joined (x ∷ xs) [] us vs e = absurd (omega (arith, e))
joined (x ∷ xs) (y ∷ ys) us vs e = ap (ordering_then (nat_cmp x y)) (joined xs ys us vs (omega (arith, e))) ∙ sym (then_both (nat_cmp x y) (order xs ys) (order us vs))

pub front : (o p : Ordering) → ordering_then o p ≢ Greater → o ≢ Greater
front Less p h = λ bad. cc
front Equal p h = λ bad. cc
front Greater p h = h

pub behind : (o p : Ordering) → o ≡ Equal → ordering_then o p ≢ Greater → p ≢ Greater
behind o p e h = subst (λ (q : Ordering). ordering_then q p ≢ Greater) e h
