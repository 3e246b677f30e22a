-- The ports of a primitive by their names, and the port that starts it.
use Rattle.std.proofs.Common.{◌≡◌, ◌↔◌, inl, inr, ℕ, ◌+◌, ◌<◌, ◌≤◌, false, List, [], ◌∷◌, ◌++◌, length, map, slice_get, Option, Some, None, option_map, codes, refl, sym, ap, ◌∙◌, lit≤, arith}
use Rattle.std.specs.Prelude.{bytes_eq, find}
use Rattle.std.specs.Option.{IsSome}
use Rattle.std.proofs.lemmas.Bool.{cases_lt}
use Rattle.std.proofs.lemmas.Option.{slice_get_within}
use Rattle.std.proofs.lemmas.Slice.Eq.{bytes_eq-Decides}
use Rattle.hw_names.specs.Name.{Text}
use Rattle.hw_prims.specs.Table.{Pin, inputs_of, outputs_of, pins_of}
use Rattle.hw_prims.specs.declared.prim.Dir.{Dir}
use Rattle.hw_prims.specs.declared.prim.Dir.TheVariants as dir
use Rattle.hw_prims.specs.declared.prim.Primitive.{Primitive}
use Rattle.hw_prims.specs.declared.prim.Primitive.TheVariants.{StdConst}
use Rattle.cal_ast.proofs.ListLemmas.{find-at, place_of}
use Rattle.cal_ast.specs.Invoking.{made_go}
use Rattle.cal_ast.specs.Ports.{SidedPin, Input, Output, both_sides, port_named}
use Rattle.cal_ast.specs.Tree.{Component}
use Rattle.cal_place.specs.Prototypes.{side_of_dir}
use Rattle.cal_place.specs.Signatures.{found}
use Rattle.cal_place.proofs.FoundLemmas.{false_from, find-none, input_at, output_at, to_map}

-- a primitive has few ports
pub pins_few : (prim : Primitive) → length (pins_of prim) ≤ 8
unfolding inputs_of outputs_of
pins_few (StdConst w v) = lit≤ tt
pins_few prim = lit≤ tt

-- the ports without their sides
pins_both : (ins outs : List Pin) → map (λ (q : SidedPin). q.pin) (both_sides ins outs) ≡ ins ++ outs
pins_both [] outs = of_outputs outs
  where
    of_outputs : (pins : List Pin) → map (λ (q : SidedPin). q.pin) (both_sides [] pins) ≡ pins
    of_outputs [] = refl
    of_outputs (p ∷ pins) = ap (λ ps. p ∷ ps) (of_outputs pins)
pins_both (p ∷ ins) outs = ap (λ ps. p ∷ ps) (pins_both ins outs)

pin_at : (ins outs : List Pin) (k : ℕ) (q : SidedPin) → slice_get (both_sides ins outs) k ≡ Some q → slice_get (ins ++ outs) k ≡ Some q.pin
pin_at ins outs k q at = ap (λ ps. slice_get ps k) (sym (pins_both ins outs)) ∙ to_map (λ (r : SidedPin). r.pin) (both_sides ins outs) k q at

module _ (ins outs : List Pin) (name : Text) where
  -- none of the first ports has the name
  abbrev pub NoneBefore : ℕ → Type 0
  NoneBefore n = (k : ℕ) (p : Pin) → k < n → slice_get (ins ++ outs) k ≡ Some p → p.name ≡ name → ⊥

  pub none_more : (n : ℕ) (p : Pin) → slice_get (ins ++ outs) n ≡ Some p → (p.name ≡ name → ⊥) → NoneBefore n → NoneBefore (n + 1)
  none_more n p at apart before k q less at_q named =
      elim (cases_lt k n) [
        | inl earlier ↦ before k q earlier at_q named
        | inr here ↦
            let same : n ≡ k = omega arith in
            let one : p ≡ q = (let e = ap (slice_get (ins ++ outs)) same in cc) in
            apart (ap (λ (r : Pin). r.name) one ∙ named)
      ]

  fails_before : (n : ℕ) → NoneBefore n → (j : ℕ) (q : SidedPin) → j < n → slice_get (both_sides ins outs) j ≡ Some q → bytes_eq q.pin.name name ≡ false
  fails_before n before j q less at = false_from q.pin.name name (λ named. before j q.pin less (pin_at ins outs j q at) named)

  -- the first port of the name
  pub pin_told : (k : ℕ) (p : Pin) (d : Dir) → slice_get (ins ++ outs) k ≡ Some p → p.name ≡ name → NoneBefore k → ((d ≡ dir.Input) ↔ (k < length ins))
      → Some (record { side = side_of_dir d; width = p.width }) ≡ option_map found (port_named (both_sides ins outs) name)
  pin_told k p dir.Input at named before side =
      let is : find (λ (q : SidedPin). bytes_eq q.pin.name name) (both_sides ins outs) ≡ Some (record { side = Input; pin = p }) =
      find-at (λ (q : SidedPin). bytes_eq q.pin.name name) (both_sides ins outs) k (record { side = Input; pin = p }) (input_at ins outs k p (side.0 refl) at)
      ((bytes_eq-Decides p.name name).1 named) (fails_before k before) in
      sym (ap (option_map found) is)
  pin_told k p dir.Output at named before side =
      let past : length ins ≤ k = elim (cases_lt k (length ins)) [ inl less ↦ (let e = side.1 less in absurd (cc)) | inr more ↦ more ] in
      let is : find (λ (q : SidedPin). bytes_eq q.pin.name name) (both_sides ins outs) ≡ Some (record { side = Output; pin = p }) =
      find-at (λ (q : SidedPin). bytes_eq q.pin.name name) (both_sides ins outs) k (record { side = Output; pin = p }) (output_at ins outs k p past at)
      ((bytes_eq-Decides p.name name).1 named) (fails_before k before) in
      sym (ap (option_map found) is)

  -- no port of the name
  pub no_pin : (n : ℕ) → length (ins ++ outs) ≤ n → NoneBefore n → None ≡ option_map found (port_named (both_sides ins outs) name)
  no_pin n end before =
      let is : find (λ (q : SidedPin). bytes_eq q.pin.name name) (both_sides ins outs) ≡ None =
      find-none (λ (q : SidedPin). bytes_eq q.pin.name name) (both_sides ins outs) (λ q has.
      let at = place_of (both_sides ins outs) q has in
      let within = slice_get_within (ins ++ outs) at.0 q.pin (pin_at ins outs at.0 q at.1) in
      fails_before n before at.0 q (omega arith) at.1) in
      sym (ap (option_map found) is)

-- a cell of a component is started by its go
pub part_go : (part : Option Component) → IsSome part → Some (codes "go") ≡ made_go None part
part_go None some = absurd (cc)
part_go (Some c) some = refl
