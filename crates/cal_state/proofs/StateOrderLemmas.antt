-- The ports of an encoded component have an order: within a row what a wire of a token reads is later, and so is what brings threads to states.
use Rattle.std.proofs.Common.{◌≡◌, ℕ, ◌≤◌, ◌==◌, ◌||◌, take, Bool, true, false, Option, Some, None, refl, arith}
use Rattle.std.specs.Prelude.{bytes_eq, codes, if◌then◌else◌}
use Rattle.std.proofs.lemmas.Bool.{cond-true, cond-false}
use Rattle.std.proofs.lemmas.Slice.Eq.{bytes_eq-Decides}
use Rattle.hw_names.specs.Name.{Text}
use Rattle.cal_ast.specs.Naming.{IsReserved}
use Rattle.cal_ast.specs.Ports.{is_bare}
use Rattle.cal_ast.specs.Tree.{PortName, Component}
use Rattle.cal_token.specs.inside.Tokens.{Token, Going, Starting, Ended, Again}
use Rattle.cal_lower.specs.inside.Pieces.{token_name}
use Rattle.cal_lower.proofs.PlaceLemmas.{third}

-- ---- by letters

-- the third letters of names of tokens, and of the wire that says that control is over
abbrev is_told : ℕ → Bool
is_told letter = (letter == 103) || ((letter == 110) || ((letter == 112) || ((letter == 116) || (letter == 111))))

-- what a thread's register takes comes first, then other ports, then those of `c$busy`, of tokens, and what registers show
abbrev letter_order : ℕ → Bool → ℕ
letter_order letter output =
    if letter == 102 then (if output then 0 else 6)
    else (if is_told letter then (if output then 2 else 1) else (if letter == 98 then (if output then 4 else 3) else 5))

abbrev name_order : Text → Text → ℕ
name_order name pin = if bytes_eq (take 2 name) (codes "c$") then letter_order (third name) (bytes_eq pin (codes "out")) else 5

abbrev pub order_at : Option Text → Text → ℕ
order_at None pin = 5
order_at (Some name) pin = name_order name pin

-- in a component that control doesn't start no port is lowering's
abbrev pub order : Component → PortName → ℕ
order c p = if is_bare c then 5 else order_at p.cell p.pin

pub order_bare : (c : Component) (p : PortName) → is_bare c ≡ true → order c p ≡ 5
order_bare c p bare = cond-true (is_bare c) 5 (order_at p.cell p.pin) bare

pub order_full : (c : Component) (p : PortName) → is_bare c ≡ false → order c p ≡ order_at p.cell p.pin
order_full c p full = cond-false (is_bare c) 5 (order_at p.cell p.pin) full

-- ---- names

no_thread : (letter : ℕ) (output : Bool) → (letter == 102) ≡ false → letter_order letter output ≤ 5
no_thread letter output is = by (letter == 102) (is_told letter) (letter == 98) output is
  where
    by : (a b c output : Bool) → a ≡ false → (if a then (if output then 0 else 6) else (if b then (if output then 2 else 1) else (if c then (if output then 4 else 3) else 5))) ≤ 5
    by true b c output is = absurd (cc)
    by false true c true is = omega arith
    by false true c false is = omega arith
    by false false true true is = omega arith
    by false false true false is = omega arith
    by false false false output is = omega arith

-- a name that is no thread's
pub small_name : (name pin : Text) → (third name == 102) ≡ false → name_order name pin ≤ 5
small_name name pin is = by (bytes_eq (take 2 name) (codes "c$")) (no_thread (third name) (bytes_eq pin (codes "out")) is)
  where
    by : (b : Bool) → letter_order (third name) (bytes_eq pin (codes "out")) ≤ 5 → (if b then letter_order (third name) (bytes_eq pin (codes "out")) else 5) ≤ 5
    by true small = small
    by false small = omega arith

-- a register is read by what it shows alone
pub shown_small : (name : Text) → name_order name (codes "out") ≤ 5
shown_small name = by (bytes_eq (take 2 name) (codes "c$")) (third name == 102) (is_told (third name)) (third name == 98)
  where
    by : (r a b c : Bool) → (if r then (if a then (if true then 0 else 6) else (if b then (if true then 2 else 1) else (if c then (if true then 4 else 3) else 5))) else 5) ≤ 5
    by true true b c = omega arith
    by true false true c = omega arith
    by true false false true = omega arith
    by true false false false = omega arith
    by false a b c = omega arith

-- a name that isn't reserved
pub other_order : (name pin : Text) → (IsReserved name → ⊥) → name_order name pin ≡ 5
other_order name pin not = by (bytes_eq (take 2 name) (codes "c$")) refl
  where
    by : (b : Bool) → bytes_eq (take 2 name) (codes "c$") ≡ b → name_order name pin ≡ 5
    by true e = absurd (not ((bytes_eq-Decides (take 2 name) (codes "c$")).0 e))
    by false e = cond-false (bytes_eq (take 2 name) (codes "c$")) (letter_order (third name) (bytes_eq pin (codes "out"))) 5 e

-- ---- tokens

pub token_takes : (t : Token) → name_order (token_name t) (codes "in") ≡ 1
token_takes (Going k) = refl
token_takes (Starting k) = refl
token_takes (Ended k) = refl
token_takes (Again k) = refl

pub token_shows : (t : Token) → name_order (token_name t) (codes "out") ≡ 2
token_shows (Going k) = refl
token_shows (Starting k) = refl
token_shows (Ended k) = refl
token_shows (Again k) = refl
