-- Names of numbers are generated and plain, and lists that keep their texts go on to.
use Rattle.std.proofs.Common.{◌≢◌, ℕ, ◌+◌, ◌%◌, ◌^◌, ◌<◌, ◌≤◌, List, [], ◌∷◌, ◌++◌, All, Contains, codes, refl, arith}
use Rattle.std.specs.Fmt.{decimal}
use Rattle.std.proofs.lemmas.Fmt.{decimal_by_steps}
use Rattle.std.proofs.lemmas.List.Elements.{All-nil, All-cons, All-append, All-push}
use Rattle.std.proofs.lemmas.Option.{slice_get-get_or}
use Rattle.hw_names.proofs.NameLemmas.{Contains-slice_get, HasNoDot-from_test}
use Rattle.hw_names.specs.Name.{Text, dot, HasNoDot, IsPlain, KeepsTexts}
use Rattle.fil_promise.specs.Refines.{IsDigit, IsGenerated}
use Rattle.fil_fsm.specs.Registers.{generated_name, AreRegisterTexts}
use Rattle.fil_fsm.specs.declared.register.RegisterTexts.{RegisterTexts}

abbrev IsNoDot : ℕ → Type 0
IsNoDot byte = byte ≢ dot

-- a digit is no dot
HasNoDot-decimal : (n : ℕ) → n < 2 ^ 64 → HasNoDot (decimal n)
HasNoDot-decimal n small = decimal_by_steps (λ k digits. HasNoDot digits) one more n small
  where
    one : (k : ℕ) → k < 10 → HasNoDot ((48 + k) ∷ [])
    one k below = All-cons IsNoDot (48 + k) [] (λ same. omega (arith, same)) (All-nil IsNoDot)

    more : (k : ℕ) (digits : List ℕ) → 10 ≤ k → HasNoDot digits → HasNoDot (digits ++ ((48 + k % 10) ∷ []))
    more k digits above front = All-push IsNoDot digits (48 + k % 10) front (λ same. omega (arith, same))

pub IsPlain-generated_name : (n : ℕ) → n < 2 ^ 64 → IsPlain (generated_name n)
IsPlain-generated_name n small = (λ same. cc, All-append IsNoDot (codes "f$") (decimal n) (HasNoDot-from_test (codes "f$") refl) (HasNoDot-decimal n small))

digits_of : (n : ℕ) → n < 2 ^ 64 → All IsDigit (decimal n)
digits_of n small = decimal_by_steps (λ k digits. All IsDigit digits) one more n small
  where
    one : (k : ℕ) → k < 10 → All IsDigit ((48 + k) ∷ [])
    one k below = All-cons IsDigit (48 + k) [] (omega arith, omega arith) (All-nil IsDigit)

    more : (k : ℕ) (digits : List ℕ) → 10 ≤ k → All IsDigit digits → All IsDigit (digits ++ ((48 + k % 10) ∷ []))
    more k digits above front = All-push IsDigit digits (48 + k % 10) front (omega arith, omega arith)

pub IsGenerated-generated_name : (n : ℕ) → n < 2 ^ 64 → IsGenerated (generated_name n)
IsGenerated-generated_name n small = (decimal n, refl, digits_of n small)

pub KeepsTexts-refl : (names : List Text) → KeepsTexts names names
KeepsTexts-refl names i text found = found

pub KeepsTexts-trans : (a b c : List Text) → KeepsTexts a b → KeepsTexts b c → KeepsTexts a c
KeepsTexts-trans a b c first second i text found = second i text (first i text found)

-- what is among the names stays among them
pub Contains-KeepsTexts : (old new : List Text) (text : Text) → KeepsTexts old new → Contains old text → Contains new text
Contains-KeepsTexts old new text kept (k, within, is) =
    Contains-slice_get new k text (kept k text (rw is at (slice_get-get_or old k text within)))

pub AreRegisterTexts-KeepsTexts : (old new : List Text) (texts : RegisterTexts) → KeepsTexts old new → AreRegisterTexts old texts → AreRegisterTexts new texts
AreRegisterTexts-KeepsTexts old new texts kept are = record {
  made = kept _ _ are.made;
  input = kept _ _ are.input;
  enable = kept _ _ are.enable;
  output = kept _ _ are.output;
}
