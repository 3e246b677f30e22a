-- The ports of wires and registers have an order: within a row each reads later ones alone.
use Rattle.std.proofs.Common.{◌≡◌, ℕ, ◌+◌, ◌*◌, ◌^◌, ◌<◌, ◌==◌, drop, Bool, true, false, Option, Some, None, refl, sym, ap, ◌∙◌, arith}
use Rattle.std.specs.Prelude.{bytes_eq, codes, if◌then◌else◌}
use Rattle.std.proofs.lemmas.Fmt.{decimal_injective}
use Rattle.std.proofs.lemmas.Option.{same_Some}
use Rattle.hw_names.specs.Name.{Text}
use Rattle.cal_ast.specs.Naming.{IsReserved}
use Rattle.cal_ast.specs.Tree.{PortName, port_of}
use Rattle.cal_token.specs.inside.Tokens.{Token, Going, Starting, Ended, Again}
use Rattle.cal_lower.specs.inside.Pieces.{token_name, ends_name, busy_name, over_name, shown}
use Rattle.cal_lower.proofs.PlaceLemmas.{third}

-- ---- ranks by letters

-- the third letter of a name tells which kind it is: wires of ends, of groups that act, of dones and of the start, and registers
abbrev out_rank : ℕ → ℕ
out_rank letter = if letter == 101 then 5 else (if letter == 97 then 4 else (if letter == 100 then 2 else (if letter == 115 then 2 else 0)))

abbrev in_rank : ℕ → ℕ
in_rank letter = if letter == 101 then 5 else (if letter == 97 then 3 else (if letter == 100 then 1 else (if letter == 115 then 1 else 6)))

abbrev rank_at : Option Text → Text → ℕ
rank_at None pin = 0
rank_at (Some name) pin = if bytes_eq pin (codes "out") then out_rank (third name) else in_rank (third name)

abbrev pub rank : PortName → ℕ
rank p = rank_at p.cell p.pin

-- a name of a register
pub record IsRegisterName (name : Text) : Type 0 where
  pub shows : rank (shown name) ≡ 0
  pub takes : rank (port_of name (codes "in")) ≡ 6
  pub reserved : IsReserved name

pub token_register : (t : Token) → IsRegisterName (token_name t)
token_register (Going k) = record { shows = refl; takes = refl; reserved = refl }
token_register (Starting k) = record { shows = refl; takes = refl; reserved = refl }
token_register (Ended k) = record { shows = refl; takes = refl; reserved = refl }
token_register (Again k) = record { shows = refl; takes = refl; reserved = refl }

pub busy_register : IsRegisterName busy_name
busy_register = record { shows = refl; takes = refl; reserved = refl }

pub over_register : IsRegisterName over_name
over_register = record { shows = refl; takes = refl; reserved = refl }

-- no register is read but by its output
pub shown_small : (name : Text) → rank (shown name) < 6
shown_small name = by (third name == 101) (third name == 97) (third name == 100) (third name == 115)
  where
    by : (a b c d : Bool) → (if a then 5 else (if b then 4 else (if c then 2 else (if d then 2 else 0)))) < 6
    by true b c d = omega arith
    by false true c d = omega arith
    by false false true d = omega arith
    by false false false true = omega arith
    by false false false false = omega arith

-- ---- wires of ends

-- the port is one of the wire of an end, after this many others
pub data IsEndAt (p : PortName) (m : ℕ) : Type 0 where
  Shows : (k : ℕ) → k < 2 ^ 64 → p ≡ shown (ends_name k) → m ≡ 2 * k → IsEndAt p m
  Takes : (k : ℕ) → k < 2 ^ 64 → p ≡ port_of (ends_name k) (codes "in") → m ≡ 2 * k + 1 → IsEndAt p m

same_number : (j k : ℕ) (x y : Text) → j < 2 ^ 64 → k < 2 ^ 64 → port_of (ends_name j) x ≡ port_of (ends_name k) y → j ≡ k
same_number j k x y small_j small_k e =
    let names : ends_name j ≡ ends_name k = same_Some (ends_name j) (ends_name k) (ap (λ (q : PortName). q.cell) e) in
    decimal_injective j k small_j small_k (ap (λ (text : Text). drop 6 text) names)

pins_differ : codes "out" ≡ codes "in" → ⊥
pins_differ e = cc

same_end : (p : PortName) (m n : ℕ) → IsEndAt p m → IsEndAt p n → m ≡ n
same_end p m n (Shows j a is e) (Shows k b at f) = let same = same_number j k (codes "out") (codes "out") a b (sym is ∙ at) in omega (arith, same, e, f)
same_end p m n (Shows j a is e) (Takes k b at f) = absurd (pins_differ (ap (λ (q : PortName). q.pin) (sym is ∙ at)))
same_end p m n (Takes j a is e) (Shows k b at f) = absurd (pins_differ (ap (λ (q : PortName). q.pin) (sym at ∙ is)))
same_end p m n (Takes j a is e) (Takes k b at f) = let same = same_number j k (codes "in") (codes "in") a b (sym is ∙ at) in omega (arith, same, e, f)

end_rank : (p : PortName) (m : ℕ) → IsEndAt p m → rank p ≡ 5
end_rank p m (Shows k a is e) = ap rank is
end_rank p m (Takes k a is e) = ap rank is

-- ---- the order

-- the other port is later
pub data Falls (p q : PortName) : Type 0 where
  ByRank : rank q < rank p → Falls p q
  ByEnd : (m n : ℕ) → IsEndAt p m → IsEndAt q n → m < n → Falls p q

pub falls_on : (p q r : PortName) → Falls p q → Falls q r → Falls p r
falls_on p q r (ByRank a) (ByRank b) = ByRank (omega (arith, a, b))
falls_on p q r (ByRank a) (ByEnd m n x y less) =
    let at_q = end_rank q m x in
    let at_r = end_rank r n y in
    ByRank (omega (arith, a, at_q, at_r))
falls_on p q r (ByEnd m n x y less) (ByRank b) =
    let at_p = end_rank p m x in
    let at_q = end_rank q n y in
    ByRank (omega (arith, b, at_p, at_q))
falls_on p q r (ByEnd j k x y less) (ByEnd m n z w more) =
    let same = same_end q k m y z in
    ByEnd j n x w (omega (arith, same, less, more))

pub falls_not : (p : PortName) → Falls p p → ⊥
falls_not p (ByRank a) = omega (arith, a)
falls_not p (ByEnd m n x y less) = let same = same_end p m n x y in omega (arith, same, less)
