-- Cells that move on one after another.
use Rattle.std.proofs.Common.{◌≡◌, ℕ, zero, suc, ◌+◌, ◌<◌, ◌≤◌, List, [], ◌∷◌, Some, length, set, refl, sym, ap, ap₂, ◌∙◌, arith, inl, inr}
use Rattle.std.specs.Prelude.{slice_get, slice_range, option_map}
use Rattle.std.proofs.lemmas.Bool.{cases_lt}
use Rattle.std.proofs.lemmas.List.{length-map, length-set}
use Rattle.std.proofs.lemmas.Option.{slice_get-map, slice_get_within, same_Some}
use Rattle.hw_bits.specs.Values.{values_of, widths_of}
use Rattle.hw_bits.specs.declared.bits.Bits.{Bits}
use Rattle.hw_prims.specs.Cell.{CellValue, AreInputs}
use Rattle.hw_prims.specs.Meaning.{next_state}
use Rattle.hw_prims.specs.State.{State}
use Rattle.hw_prims.specs.Table.{inputs_of, pin_widths}
use Rattle.hw_prims.specs.declared.prim.Primitive.{Primitive}
use Rattle.net_sim.proofs.CellInputLemmas.{cut_of_map}
use Rattle.net_sim.specs.Evaluated.{AreMoved, AreCellInputs, moved}
use Rattle.net_sim.specs.Plan.{ArePrims}
use Rattle.net_sim.specs.declared.cells.CellPorts.{CellPorts}

set_there : {X : Type 0} (xs : List X) (i : ℕ) (v : X) → i < length xs → slice_get (set xs i v) i ≡ Some v
set_there {X = X} [] i v lt = let none : length {A = X} [] ≡ 0 = refl in absurd (omega (arith, lt, none))
set_there (x ∷ xs) zero v lt = refl
set_there (x ∷ xs) (suc i) v lt = set_there xs i v (omega (arith, lt))

set_elsewhere : {X : Type 0} (xs : List X) (i k : ℕ) (v : X) → (k ≡ i → ⊥) → slice_get (set xs i v) k ≡ slice_get xs k
set_elsewhere [] i k v ne = refl
set_elsewhere (x ∷ xs) zero zero v ne = absurd (ne refl)
set_elsewhere (x ∷ xs) zero (suc k) v ne = refl
set_elsewhere (x ∷ xs) (suc i) zero v ne = refl
set_elsewhere (x ∷ xs) (suc i) (suc k) v ne = set_elsewhere xs i k v (λ e. ne (ap suc e))

abbrev prim_in : CellValue → Primitive
prim_in s = s.prim

abbrev prim_at : CellPorts → Primitive
prim_at c = c.prim

pub same_count : (cells : List CellPorts) (states : List CellValue) → ArePrims cells states → length states ≡ length cells
same_count cells states prims = omega (arith, ap length prims, length-map states prim_in, length-map cells prim_at)

pub same_prim : (cells : List CellPorts) (states : List CellValue) → ArePrims cells states → (k : ℕ) (c : CellPorts) (s : CellValue) → slice_get cells k ≡ Some c → slice_get states k ≡ Some s → s.prim ≡ c.prim
same_prim cells states prims k c s at at' = same_Some s.prim c.prim (
    sym (slice_get-map prim_in states k ∙ ap (option_map prim_in) at') ∙ ap (λ l. slice_get l k) prims ∙ slice_get-map prim_at cells k ∙ ap (option_map prim_at) at)

pub moved_none : (cells : List CellPorts) (values : List ℕ) (states : List CellValue) → AreMoved cells values 0 states states
moved_none cells values states = record { all = refl; first = λ k c s lt. absurd (omega (arith, lt)); others = λ k le. refl }

module _ (cells : List CellPorts) (values : List Bits) (old new : List CellValue) (i : ℕ) (prims : ArePrims cells old) (so_far : AreMoved cells (values_of values) i old new) (c : CellPorts) (s : CellValue) (at_c : slice_get cells i ≡ Some c) (at_s : slice_get new i ≡ Some s) (len : ℕ) (len_is : len ≡ length (inputs_of c.prim)) where
  was : slice_get old i ≡ Some s
  was = sym (so_far.others i (omega arith)) ∙ at_s

  prim_is : s.prim ≡ c.prim
  prim_is = same_prim cells old prims i c s at_c was

  pub step_inputs : AreCellInputs (widths_of values) cells → AreInputs s.prim (slice_range values c.first (c.first + len))
  step_inputs fit = cut_of_map (λ (x : Bits). x.width) values c.first (c.first + len) ∙ ap (λ m. slice_range (widths_of values) c.first (c.first + m)) len_is ∙ (fit i c at_c).1 ∙ ap (λ p. pin_widths (inputs_of p)) (sym prim_is)

  pub moved_more : (v : CellValue) → v.prim ≡ s.prim → v.state ≡ next_state s.prim s.state (values_of (slice_range values c.first (c.first + len))) → AreMoved cells (values_of values) (i + 1) old (set new i v)
  moved_more v same_prim' state = record { all = length-set new i v ∙ so_far.all; first = first; others = others }
    where
      v_is : v ≡ moved (values_of values) c s
      v_is = ap₂ (λ (p : Primitive) (st : State). let r : CellValue = record { prim = p; state = st } in r) same_prim' (state ∙ ap (next_state s.prim s.state) (cut_of_map (λ (x : Bits). x.value) values c.first (c.first + len) ∙ ap (λ m. slice_range (values_of values) c.first (c.first + m)) len_is))

      first : (k : ℕ) (d : CellPorts) (r : CellValue) → k < i + 1 → slice_get cells k ≡ Some d → slice_get old k ≡ Some r → slice_get (set new i v) k ≡ Some (moved (values_of values) d r)
      first k d r lt at at' = elim (cases_lt k i) [
        | inl before ↦ set_elsewhere new i k v (λ e. omega (arith, e, before)) ∙ so_far.first k d r before at at'
        | inr last ↦
            let e : k ≡ i = omega (arith, lt, last) in
            let same_c : c ≡ d = same_Some c d (sym at_c ∙ ap (slice_get cells) (sym e) ∙ at) in
            let same_s : s ≡ r = same_Some s r (sym was ∙ ap (slice_get old) (sym e) ∙ at') in
            ap (slice_get (set new i v)) e ∙ set_there new i v (slice_get_within new i s at_s) ∙ ap Some (v_is ∙ ap₂ (moved (values_of values)) same_c same_s)
      ]

      others : (k : ℕ) → i + 1 ≤ k → slice_get (set new i v) k ≡ slice_get old k
      others k le = set_elsewhere new i k v (λ e. omega (arith, e, le)) ∙ so_far.others k (omega (arith, le))
