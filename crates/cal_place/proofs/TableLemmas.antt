-- Tables of a design, component by component.
use Rattle.std.proofs.Common.{◌≡◌, inl, inr, ℕ, ◌+◌, ◌≤◌, List, [], ◌∷◌, ◌++◌, length, take, slice_get, Vec, Option, Some, sym, ap, subst, ◌∙◌, arith}
use Rattle.std.specs.declared.alloc.Global.{Global}
use Rattle.std.proofs.lemmas.List.{length-take-le, length_push, take_all}
use Rattle.std.proofs.lemmas.Option.{slice_get_within}
use Rattle.cal_ast.specs.Tree.{CellDef, Component, Design}
use Rattle.cal_place.specs.Prototypes.{AreMadeOf, IsMadeOf}
use Rattle.cal_place.specs.Signatures.{ShowsSignature}
use Rattle.cal_place.specs.Tables.{AreMade, AreSignatures}
use Rattle.cal_place.specs.declared.prototype.Prototype.{Prototype}
use Rattle.cal_place.specs.declared.signature.Signature.{Signature}
use Rattle.cal_place.proofs.FirstLemmas.{slice_get-cases}
use Rattle.cal_place.proofs.ListLemmas.{one_more}

-- a fact that ties the elements of two lists, place by place
pub record AreEach {X Y : Type 0} (R : X → Y → Type 0) (xs : List X) (ys : List Y) : Type 0 where
  pub sized : length ys ≡ length xs
  pub each : (k : ℕ) (x : X) (y : Y) → slice_get xs k ≡ Some x → slice_get ys k ≡ Some y → R x y

pub each_none : {X Y : Type 0} (R : X → Y → Type 0) (ys : List Y) → ys ≡ [] → AreEach R [] ys
each_none R ys none = record {
  sized = ap length none;
  each = λ k x y at at_y. absurd (cc);
}

pub each_push : {X Y : Type 0} (R : X → Y → Type 0) (xs : List X) (ys new : List Y) (k : ℕ) (x : X) (y : Y) → slice_get xs k ≡ Some x → new ≡ ys ++ y ∷ [] → R x y → AreEach R (take k xs) ys → AreEach R (take (k + 1) xs) new
each_push R xs ys new k x y at longer here are =
    let within = slice_get_within xs k x at in
    let taken : length (take k xs) ≡ k = length-take-le k xs (omega arith) in
    let more : take (k + 1) xs ≡ take k xs ++ x ∷ [] = one_more xs k x at in
    let counted : length (ys ++ y ∷ []) ≡ length (take k xs ++ x ∷ []) = omega (arith, length_push ys y, length_push (take k xs) x, are.sized) in
    record {
      sized = ap length longer ∙ counted ∙ sym (ap length more);
      each = λ j a b at_a at_b.
          let from_a = slice_get-cases (take k xs) x j a (ap (λ l. slice_get l j) (sym more) ∙ at_a) in
          let from_b = slice_get-cases ys y j b (ap (λ l. slice_get l j) (sym longer) ∙ at_b) in
          elim from_a [
            | inl in_a ↦ elim from_b [
              | inl in_b ↦ are.each j a b in_a in_b
              | inr last ↦ (let less = slice_get_within (take k xs) j a in_a in absurd (omega (arith, less, last.0, are.sized)))
            ]
            | inr last_a ↦ elim from_b [
              | inl in_b ↦ (let less = slice_get_within ys j b in_b in absurd (omega (arith, less, last_a.0, are.sized)))
              | inr last_b ↦ subst (λ z. R z b) last_a.1 (subst (R x) last_b.1 here)
            ]
          ];
    }

-- ---- signatures

pub signatures_none : (signatures : List Signature) → signatures ≡ [] → AreSignatures [] signatures
signatures_none signatures none = record {
  sized = ap length none;
  each = λ n c s at at_s. absurd (cc);
}

pub signatures_more : (design : Design) (old new : List Signature) (n : ℕ) (c : Component) (s : Signature) → slice_get design n ≡ Some c → new ≡ old ++ s ∷ [] → ShowsSignature s c → AreSignatures (take n design) old → AreSignatures (take (n + 1) design) new
signatures_more design old new n c s at longer shows are =
    let R : Component → Signature → Type 0 = λ c s. ShowsSignature s c in
    let more = each_push R design old new n c s at longer shows (record { sized = are.sized; each = are.each }) in
    record { sized = more.sized; each = more.each }

pub signatures_all : (design : Design) (n : ℕ) (signatures : List Signature) → length design ≤ n → AreSignatures (take n design) signatures → AreSignatures design signatures
signatures_all design n signatures end are = subst (λ (d : Design). AreSignatures d signatures) (take_all n design end) are

-- ---- what cells are made of

module _ (design : Design) where
  pub made_none : (mades : List (Option Prototype)) → mades ≡ [] → AreMadeOf design [] mades
  made_none mades none = record {
    sized = ap length none;
    each = λ k cell made at at_made. absurd (cc);
  }

  pub made_more : (cells : List CellDef) (old new : List (Option Prototype)) (k : ℕ) (cell : CellDef) (made : Option Prototype) → slice_get cells k ≡ Some cell → new ≡ old ++ made ∷ [] → IsMadeOf design cell made → AreMadeOf design (take k cells) old → AreMadeOf design (take (k + 1) cells) new
  made_more cells old new k cell made at longer is are =
      let more = each_push (IsMadeOf design) cells old new k cell made at longer is (record { sized = are.sized; each = are.each }) in
      record { sized = more.sized; each = more.each }

  pub made_all : (cells : List CellDef) (k : ℕ) (mades : List (Option Prototype)) → length cells ≤ k → AreMadeOf design (take k cells) mades → AreMadeOf design cells mades
  made_all cells k mades end are = subst (λ (l : List CellDef). AreMadeOf design l mades) (take_all k cells end) are

  -- what the cells of each component so far are made of; names mean components of the whole design
  abbrev pub IsMadeIn : Component → Vec (Option Prototype) Global → Type 0
  IsMadeIn c cells = AreMadeOf design c.cells cells.items

  abbrev pub AreMadeSoFar : ℕ → List (Vec (Option Prototype) Global) → Type 0
  AreMadeSoFar n made = AreEach IsMadeIn (take n design) made

  pub all_made : (n : ℕ) (made : List (Vec (Option Prototype) Global)) → length design ≤ n → AreMadeSoFar n made → AreMade design made
  all_made n made end are =
      let whole : AreEach IsMadeIn design made = subst (λ (d : Design). AreEach IsMadeIn d made) (take_all n design end) are in
      record { sized = whole.sized; each = whole.each }
