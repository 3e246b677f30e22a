-- Lists of transactions that are one to an instance are legal together, and carried together.
use Rattle.std.proofs.Common.{◌≡◌, ℕ, zero, suc, ◌+◌, ◌<◌, ◌≤◌, List, [], ◌∷◌, Some, refl, sym, ap, subst, ◌∙◌, inl, inr, arith}
use Rattle.std.specs.List.{AllZip}
use Rattle.std.specs.Prelude.{Contains, slice_get}
use Rattle.hw_prims.specs.Row.{Row, Text}
use Rattle.hw_prims.specs.Timed.{NeverOverlap, Behaviour, CarriesInputs, CarriesOutputs, Covers, HasDelay, AreLegalTransactions, TimedPort, Transaction, end_of}
use Rattle.fil_lower.specs.Separate.{AreAlike, IsSeparate}
use Rattle.fil_lower.proofs.ListLemmas.{contains_none, first_or_later}
use Rattle.fil_lower.proofs.SlotLemmas.{zip_pairs}

module _ {X Y : Type 0} (R : X → Y → Type 0) where
  -- what stands beside an element of the one list, and of the other
  zip_left : (xs : List X) (ys : List Y) (y : Y) → AllZip R xs ys → Contains ys y → (x : X) × Contains xs x × R x y
  zip_left [] [] y zip has = absurd (contains_none y has)
  zip_left [] (v ∷ ys) y zip has = absurd zip
  zip_left (u ∷ xs) [] y zip has = absurd zip
  zip_left (u ∷ xs) (v ∷ ys) y zip has =
      elim (first_or_later v ys y has) [
        | inl same ↦ (u, (zero, omega arith, refl), (let Q : Y → Type 0 = R u in subst Q same zip.0))
        | inr later ↦ let m = zip_left xs ys y zip.1 later in (m.0, (suc m.1.0, omega (arith, m.1.1), m.1.2), m.2)
      ]

  zip_right : (xs : List X) (ys : List Y) (x : X) → AllZip R xs ys → Contains xs x → (y : Y) × Contains ys y × R x y
  zip_right [] [] x zip has = absurd (contains_none x has)
  zip_right [] (v ∷ ys) x zip has = absurd zip
  zip_right (u ∷ xs) [] x zip has = absurd zip
  zip_right (u ∷ xs) (v ∷ ys) x zip has =
      elim (first_or_later u xs x has) [
        | inl same ↦ (v, (zero, omega arith, refl), (let Q : X → Type 0 = λ a. R a v in subst Q same zip.0))
        | inr later ↦ let m = zip_right xs ys x zip.1 later in (m.0, (suc m.1.0, omega (arith, m.1.1), m.1.2), m.2)
      ]

module _ (b : Behaviour) (xs ys : List Transaction) (zip : AllZip (AreAlike b.sig) xs ys) where
  abbrev Alike : Transaction → Transaction → Type 0
  Alike x y = AreAlike b.sig x y

  apart_alike : (x u y v : Transaction) → Alike x y → Alike u v → NeverOverlap x u → NeverOverlap y v
  apart_alike x u y v first second apart same =
      let x_start : x.start ≡ y.start = first.start in
      let u_start : u.start ≡ v.start = second.start in
      let x_hold : x.hold ≡ y.hold = first.hold in
      let u_hold : u.hold ≡ v.hold = second.hold in
      elim (apart (first.event ∙ same ∙ sym second.event)) [ inl l ↦ inl (omega arith) | inr r ↦ inr (omega arith) ]

  pub alike_legal : AreLegalTransactions b.sig xs → AreLegalTransactions b.sig ys
  alike_legal legal = record {
    held = λ y has.
        let m = zip_left Alike xs ys y zip has in
        let h = legal.held m.0 m.1 in
        (h.0, subst (λ (k : ℕ). slice_get b.sig.events k ≡ Some h.0) m.2.event h.1, subst (λ (k : ℕ). HasDelay h.0.delay k) m.2.hold h.2);
    apart = zip_pairs Alike NeverOverlap NeverOverlap xs ys zip legal.apart apart_alike;
  }

  -- what covers the one covers the other
  covers_alike : (p : TimedPort) (x y : Transaction) (r : ℕ) → Alike x y → Covers p y r → Covers p x r
  covers_alike p x y r alike covers =
      let start : x.start ≡ y.start = alike.start in
      let hold : end_of p x.hold ≡ end_of p y.hold = ap (end_of p) alike.hold in
      let from : y.start + p.from ≤ r = covers.1 in
      let to : r < y.start + end_of p y.hold = covers.2 in
      (covers.0 ∙ sym alike.event, omega (arith, start, from), omega (arith, start, hold, to))

  pub alike_inputs : (at : Text → Text) (row : Row) (r : ℕ) → CarriesInputs b.sig at row xs r → CarriesInputs b.sig at row ys r
  alike_inputs at row r carried = record {
    values = λ y has p of_p covers.
        let m = zip_left Alike xs ys y zip has in
        let c = covers_alike p m.0 y r m.2 covers in
        carried.values m.0 m.1 p of_p c ∙ m.2.values p of_p c.0;
    starts = λ n e go is has_go. (
      (λ one.
          let s = (carried.starts n e go is has_go).0 one in
          let m = zip_right Alike xs ys s.0 zip s.1 in
          (m.0, m.1, sym m.2.event ∙ s.2, sym m.2.start ∙ s.3)),
      (λ (y, has, event, start).
          let m = zip_left Alike xs ys y zip has in
          (carried.starts n e go is has_go).1 (m.0, m.1, m.2.event ∙ event, m.2.start ∙ start)),
    );
  }

  pub alike_outputs : IsSeparate b → (at : Text → Text) (row : Row) (r : ℕ) → CarriesOutputs b at row xs r → CarriesOutputs b at row ys r
  alike_outputs separate at row r carried y has o of_o covers =
      let m = zip_left Alike xs ys y zip has in
      let c = covers_alike o m.0 y r m.2 covers in
      carried m.0 m.1 o of_o c ∙ separate o of_o m.0.values y.values (λ p of_p same. m.2.values p of_p (same ∙ c.0))
