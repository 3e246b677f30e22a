-- Where each giver stands among those of a netlist's ports.
use Rattle.std.proofs.Common.{◌≡◌, ℕ, zero, suc, ◌+◌, ◌<◌, List, [], ◌∷◌, ◌++◌, Some, length, take, replicate, refl, sym, ap, ap₂, ◌∙◌, arith, length-append, append_assoc, inl, inr, ◌⊎◌}
use Rattle.std.specs.Prelude.{slice_get, map, option_map}
use Rattle.std.specs.List.{flat_map, range_with_len}
use Rattle.std.proofs.lemmas.List.{length-map, length-replicate}
use Rattle.std.proofs.lemmas.List.FromFn.{length-range_with_len, map-range_with_len_more}
use Rattle.std.proofs.lemmas.Option.{slice_get-map, slice_get_within}
use Rattle.hw_prims.specs.Table.{inputs_of, outputs_of}
use Rattle.hw_prims.specs.declared.prim.Primitive.{Primitive}
use Rattle.net_core.specs.Netlist.{Netlist, CellLine}
use Rattle.net_core.specs.Rules.{ports_of}
use Rattle.net_sim.proofs.LayoutLemmas.{length-ports_of_cell, length-ports_of}
use Rattle.net_sim.proofs.ValidLemmas.{slice_get-append_left, slice_get-append_right, slice_get-append_before}
use Rattle.net_sim.specs.Compiled.{givers_of_cell, givers_from, givers_of}
use Rattle.net_sim.specs.Layout.{ports_of_cell, own_count, first_port, AreCellPorts}
use Rattle.net_sim.specs.declared.cells.CellPorts.{CellPorts}
use Rattle.net_sim.specs.declared.plan.Giver.{Giver}
use Rattle.net_sim.specs.declared.plan.Giver.TheVariants.{Input, Output, Driven}

pub at_some : {X : Type 0} (xs : List X) (k : ℕ) → k < length xs → (x : X) × (slice_get xs k ≡ Some x)
at_some {X = X} [] k lt = let none : length {A = X} [] ≡ 0 = refl in absurd (omega (arith, lt, none))
at_some (x ∷ xs) zero lt = (x, refl)
at_some (x ∷ xs) (suc k) lt = at_some xs k (omega (arith, lt))

append_cases : (xs ys : List Giver) (p : ℕ) (x : Giver) → slice_get (xs ++ ys) p ≡ Some x → (slice_get xs p ≡ Some x) ⊎ ((q : ℕ) × (p ≡ length xs + q) × (slice_get ys q ≡ Some x))
append_cases [] ys p x at = let none : length {A = Giver} [] ≡ 0 = refl in inr (p, omega (arith, none), at)
append_cases (y ∷ xs) ys zero x at = inl at
append_cases (y ∷ xs) ys (suc p) x at = elim (append_cases xs ys p x at) [
  | inl left ↦ inl left
  | inr right ↦ inr (right.0, (let e = right.1 in omega (arith, e)), right.2)
]

all_one : (n : ℕ) (x y : Giver) (p : ℕ) → slice_get (replicate n x) p ≡ Some y → y ≡ x
all_one zero x y p at = cc
all_one (suc n) x y zero at = cc
all_one (suc n) x y (suc p) at = all_one n x y p at

replicate_at : (n : ℕ) (x : Giver) (p : ℕ) → p < n → slice_get (replicate n x) p ≡ Some x
replicate_at zero x p lt = absurd (omega (arith, lt))
replicate_at (suc n) x zero lt = refl
replicate_at (suc n) x (suc p) lt = replicate_at n x p (omega (arith, lt))

range_at : (a n j : ℕ) → j < n → slice_get (range_with_len a n) j ≡ Some (a + j)
range_at a zero j lt = absurd (omega (arith, lt))
range_at a (suc n) zero lt = ap Some (let e : a ≡ a + 0 = omega arith in e)
range_at a (suc n) (suc j) lt = range_at (a + 1) n j (omega (arith, lt)) ∙ ap Some (let e : a + 1 + j ≡ a + suc j = omega arith in e)

-- ---- those of one cell

pub length-givers_of_cell : (k : ℕ) (prim : Primitive) → length (givers_of_cell k prim) ≡ length (inputs_of prim) + length (outputs_of prim)
length-givers_of_cell k prim =
    length-append (replicate (length (inputs_of prim)) Driven) (map (Output k) (range_with_len 0 (length (outputs_of prim))))
    ∙ ap₂ ◌+◌ (length-replicate (length (inputs_of prim)) Driven) (length-map (range_with_len 0 (length (outputs_of prim))) (Output k) ∙ length-range_with_len 0 (length (outputs_of prim)))

pub input_giver : (k : ℕ) (prim : Primitive) (j : ℕ) → j < length (inputs_of prim) → slice_get (givers_of_cell k prim) j ≡ Some Driven
input_giver k prim j lt = slice_get-append_left (replicate (length (inputs_of prim)) Driven) (map (Output k) (range_with_len 0 (length (outputs_of prim)))) j Driven (replicate_at (length (inputs_of prim)) Driven j lt)

outputs_at : (k n j : ℕ) → j < n → slice_get (map (Output k) (range_with_len 0 n)) j ≡ Some (Output k j)
outputs_at k n j lt = slice_get-map (Output k) (range_with_len 0 n) j ∙ ap (option_map (Output k)) (range_at 0 n j lt ∙ ap Some (let e : 0 + j ≡ j = omega arith in e))

pub output_giver : (k : ℕ) (prim : Primitive) (j : ℕ) → j < length (outputs_of prim) → slice_get (givers_of_cell k prim) (length (inputs_of prim) + j) ≡ Some (Output k j)
output_giver k prim j lt =
    ap (λ m. slice_get (givers_of_cell k prim) (m + j)) (sym (length-replicate (length (inputs_of prim)) Driven))
    ∙ slice_get-append_right (replicate (length (inputs_of prim)) Driven) (map (Output k) (range_with_len 0 (length (outputs_of prim)))) j
    ∙ outputs_at k (length (outputs_of prim)) j lt

same_output : (k q m j : ℕ) → Some (Output k q) ≡ Some (Output m j) → (k ≡ m) × (q ≡ j)
same_output k q m j e = (cc, cc)

output_from : (k : ℕ) (prim : Primitive) (p m j : ℕ) → slice_get (givers_of_cell k prim) p ≡ Some (Output m j) → (m ≡ k) × (j < length (outputs_of prim)) × (p ≡ length (inputs_of prim) + j)
output_from k prim p m j at = elim (append_cases (replicate (length (inputs_of prim)) Driven) (map (Output k) (range_with_len 0 (length (outputs_of prim)))) p (Output m j) at) [
  | inl left ↦ let bad : Output m j ≡ Driven = all_one (length (inputs_of prim)) Driven (Output m j) p left in cc
  | inr right ↦
      let q = right.0 in
      let e : p ≡ length (replicate (length (inputs_of prim)) Driven) + q = right.1 in
      let within = slice_get_within (map (Output k) (range_with_len 0 (length (outputs_of prim)))) q (Output m j) right.2 in
      let size = length-map (range_with_len 0 (length (outputs_of prim))) (Output k) ∙ length-range_with_len 0 (length (outputs_of prim)) in
      let lt : q < length (outputs_of prim) = omega (arith, within, size) in
      let same = same_output k q m j (sym (outputs_at k (length (outputs_of prim)) q lt) ∙ right.2) in
      (sym same.0, omega (arith, lt, same.1), omega (arith, e, length-replicate (length (inputs_of prim)) Driven, same.1))
]

-- ---- those of all cells

abbrev AreSized : List CellPorts → List CellLine → Type 0
AreSized cells lines =
    (k : ℕ) (c : CellPorts) (l : CellLine) → slice_get cells k ≡ Some c → slice_get lines k ≡ Some l → length (ports_of_cell l) ≡ length (inputs_of c.prim) + length (outputs_of c.prim)

abbrev ports_before : ℕ → List CellLine → ℕ
ports_before k lines = length (flat_map ports_of_cell (take k lines))

before_none : (lines : List CellLine) → ports_before 0 lines ≡ 0
before_none [] = refl
before_none (l ∷ ls) = refl

before_more : (k : ℕ) (l : CellLine) (ls : List CellLine) → ports_before (suc k) (l ∷ ls) ≡ length (ports_of_cell l) + ports_before k ls
before_more k l ls = length-append (ports_of_cell l) (flat_map ports_of_cell (take k ls))

length-givers_from : (k : ℕ) (cells : List CellPorts) (lines : List CellLine) → length cells ≡ length lines → AreSized cells lines → length (givers_from k cells) ≡ length (flat_map ports_of_cell lines)
length-givers_from k [] [] e sized = refl
length-givers_from k [] (l ∷ ls) e sized = absurd (omega (arith, e))
length-givers_from k (c ∷ cs) [] e sized = absurd (omega (arith, e))
length-givers_from k (c ∷ cs) (l ∷ ls) e sized =
    length-append (givers_of_cell k c.prim) (givers_from (suc k) cs)
    ∙ ap₂ ◌+◌ (length-givers_of_cell k c.prim ∙ sym (sized 0 c l refl refl)) (length-givers_from (suc k) cs ls (omega (arith, e)) (λ i. sized (suc i)))
    ∙ sym (length-append (ports_of_cell l) (flat_map ports_of_cell ls))

from_at : (k : ℕ) (cells : List CellPorts) (lines : List CellLine) → length cells ≡ length lines → AreSized cells lines → (m : ℕ) (c : CellPorts) → slice_get cells m ≡ Some c → (j : ℕ) → j < length (inputs_of c.prim) + length (outputs_of c.prim) → slice_get (givers_from k cells) (ports_before m lines + j) ≡ slice_get (givers_of_cell (k + m) c.prim) j
from_at k [] lines e sized m c at j lt = cc
from_at k (d ∷ cs) [] e sized m c at j lt = absurd (omega (arith, e))
from_at k (d ∷ cs) (l ∷ ls) e sized zero c at j lt =
    let same : d ≡ c = cc in
    ap (slice_get (givers_from k (d ∷ cs))) (let z : ports_before 0 (l ∷ ls) + j ≡ j = omega (arith, before_none (l ∷ ls)) in z)
    ∙ slice_get-append_before (givers_of_cell k d.prim) (givers_from (suc k) cs) j (rw same (omega (arith, lt, length-givers_of_cell k c.prim)))
    ∙ ap₂ (λ i (x : CellPorts). slice_get (givers_of_cell i x.prim) j) (let z : k ≡ k + 0 = omega arith in z) same
from_at k (d ∷ cs) (l ∷ ls) e sized (suc m) c at j lt =
    let place : ports_before (suc m) (l ∷ ls) + j ≡ length (givers_of_cell k d.prim) + (ports_before m ls + j) =
    omega (arith, before_more m l ls, sized 0 d l refl refl, length-givers_of_cell k d.prim) in
    ap (slice_get (givers_from k (d ∷ cs))) place
    ∙ slice_get-append_right (givers_of_cell k d.prim) (givers_from (suc k) cs) (ports_before m ls + j)
    ∙ from_at (suc k) cs ls (omega (arith, e)) (λ i. sized (suc i)) m c at j lt
    ∙ ap (λ i. slice_get (givers_of_cell i c.prim) j) (let z : suc k + m ≡ k + suc m = omega arith in z)

-- the cell of an output's giver, counted from k, and where the giver stands
pub record IsOutputAt (k : ℕ) (cells : List CellPorts) (lines : List CellLine) (p m j : ℕ) : Type 0 where
  pub index : ℕ
  pub cell : CellPorts
  pub counted : m ≡ k + index
  pub at : slice_get cells index ≡ Some cell
  pub within : j < length (outputs_of cell.prim)
  pub place : p ≡ ports_before index lines + (length (inputs_of cell.prim) + j)

from_output : (k : ℕ) (cells : List CellPorts) (lines : List CellLine) → length cells ≡ length lines → AreSized cells lines → (p m j : ℕ) → slice_get (givers_from k cells) p ≡ Some (Output m j) → IsOutputAt k cells lines p m j
from_output k [] lines e sized p m j at = cc
from_output k (c ∷ cs) [] e sized p m j at = absurd (omega (arith, e))
from_output k (c ∷ cs) (l ∷ ls) e sized p m j at = by (append_cases (givers_of_cell k c.prim) (givers_from (suc k) cs) p (Output m j) at) (λ q. from_output (suc k) cs ls (omega (arith, e)) (λ i. sized (suc i)) q m j)
  where
    by : ((slice_get (givers_of_cell k c.prim) p ≡ Some (Output m j)) ⊎ ((q : ℕ) × (p ≡ length (givers_of_cell k c.prim) + q) × (slice_get (givers_from (suc k) cs) q ≡ Some (Output m j)))) → ((q : ℕ) → slice_get (givers_from (suc k) cs) q ≡ Some (Output m j) → IsOutputAt (suc k) cs ls q m j) → IsOutputAt k (c ∷ cs) (l ∷ ls) p m j
    by (inl here) later =
        let r = output_from k c.prim p m j here in
        record { index = 0; cell = c; counted = omega (arith, r.0); at = refl; within = r.1; place = omega (arith, r.2, before_none (l ∷ ls)) }
    by (inr there) later =
        let r = later there.0 there.2 in
        let e' : p ≡ length (givers_of_cell k c.prim) + there.0 = there.1 in
        record { index = suc r.index; cell = r.cell; counted = omega (arith, r.counted); at = r.at; within = r.within; place = omega (arith, e', r.place, before_more r.index l ls, sized 0 c l refl refl, length-givers_of_cell k c.prim) }

-- ---- those of all ports

module _ (n : Netlist) (cells : List CellPorts) (listed : AreCellPorts n cells) where
  sized : AreSized cells n.cells
  sized k c l at at' = length-ports_of_cell l c.prim (listed.each k l c at' at).prim

  abbrev own_givers : List Giver
  own_givers = replicate (length n.ins) Input ++ replicate (length n.outs) Driven ++ replicate (length n.wires) Driven

  length-own_givers : length own_givers ≡ own_count n
  length-own_givers =
      length-append (replicate (length n.ins) Input ++ replicate (length n.outs) Driven) (replicate (length n.wires) Driven)
      ∙ ap₂ ◌+◌ (length-append (replicate (length n.ins) Input) (replicate (length n.outs) Driven) ∙ ap₂ ◌+◌ (length-replicate (length n.ins) Input) (length-replicate (length n.outs) Driven)) (length-replicate (length n.wires) Driven)

  pub length-givers_of : length (givers_of n cells) ≡ length (ports_of n)
  length-givers_of =
      length-append own_givers (givers_from 0 cells)
      ∙ ap₂ ◌+◌ length-own_givers (length-givers_from 0 cells n.cells listed.all sized)
      ∙ sym (length-ports_of n)

  pub in_giver : (j : ℕ) → j < length n.ins → slice_get (givers_of n cells) j ≡ Some Input
  in_giver j lt =
      slice_get-append_left own_givers (givers_from 0 cells) j Input
      (slice_get-append_left (replicate (length n.ins) Input ++ replicate (length n.outs) Driven) (replicate (length n.wires) Driven) j Input
      (slice_get-append_left (replicate (length n.ins) Input) (replicate (length n.outs) Driven) j Input (replicate_at (length n.ins) Input j lt)))

  pub out_giver : (j : ℕ) → j < length n.outs → slice_get (givers_of n cells) (length n.ins + j) ≡ Some Driven
  out_giver j lt =
      slice_get-append_left own_givers (givers_from 0 cells) (length n.ins + j) Driven
      (slice_get-append_left (replicate (length n.ins) Input ++ replicate (length n.outs) Driven) (replicate (length n.wires) Driven) (length n.ins + j) Driven
      (ap (λ i. slice_get (replicate (length n.ins) Input ++ replicate (length n.outs) Driven) (i + j)) (sym (length-replicate (length n.ins) Input))
      ∙ slice_get-append_right (replicate (length n.ins) Input) (replicate (length n.outs) Driven) j ∙ replicate_at (length n.outs) Driven j lt))

  pub wire_giver : (j : ℕ) → j < length n.wires → slice_get (givers_of n cells) (length n.ins + length n.outs + j) ≡ Some Driven
  wire_giver j lt =
      let size : length n.ins + length n.outs ≡ length (replicate (length n.ins) Input ++ replicate (length n.outs) Driven) =
      sym (length-append (replicate (length n.ins) Input) (replicate (length n.outs) Driven) ∙ ap₂ ◌+◌ (length-replicate (length n.ins) Input) (length-replicate (length n.outs) Driven)) in
      slice_get-append_left own_givers (givers_from 0 cells) (length n.ins + length n.outs + j) Driven
      (ap (λ i. slice_get own_givers (i + j)) size
      ∙ slice_get-append_right (replicate (length n.ins) Input ++ replicate (length n.outs) Driven) (replicate (length n.wires) Driven) j ∙ replicate_at (length n.wires) Driven j lt)

  cell_giver : (m : ℕ) (c : CellPorts) → slice_get cells m ≡ Some c → (j : ℕ) → j < length (inputs_of c.prim) + length (outputs_of c.prim) → slice_get (givers_of n cells) (first_port n m + j) ≡ slice_get (givers_of_cell m c.prim) j
  cell_giver m c at j lt =
      ap (slice_get (givers_of n cells)) (let e : first_port n m + j ≡ length own_givers + (ports_before m n.cells + j) = omega (arith, length-own_givers) in e)
      ∙ slice_get-append_right own_givers (givers_from 0 cells) (ports_before m n.cells + j)
      ∙ from_at 0 cells n.cells listed.all sized m c at j lt
      ∙ ap (λ i. slice_get (givers_of_cell i c.prim) j) (let z : 0 + m ≡ m = omega arith in z)

  pub cell_input_giver : (m : ℕ) (c : CellPorts) → slice_get cells m ≡ Some c → (j : ℕ) → j < length (inputs_of c.prim) → slice_get (givers_of n cells) (first_port n m + j) ≡ Some Driven
  cell_input_giver m c at j lt = cell_giver m c at j (omega (arith, lt)) ∙ input_giver m c.prim j lt

  pub cell_output_giver : (m : ℕ) (c : CellPorts) → slice_get cells m ≡ Some c → (j : ℕ) → j < length (outputs_of c.prim) → slice_get (givers_of n cells) (first_port n m + (length (inputs_of c.prim) + j)) ≡ Some (Output m j)
  cell_output_giver m c at j lt = cell_giver m c at (length (inputs_of c.prim) + j) (omega (arith, lt)) ∙ output_giver m c.prim j lt

  -- the cell of an output's giver
  pub record IsOutputOf (p m j : ℕ) : Type 0 where
    pub cell : CellPorts
    pub at : slice_get cells m ≡ Some cell
    pub within : j < length (outputs_of cell.prim)
    pub place : p ≡ first_port n m + (length (inputs_of cell.prim) + j)

  own_has_none : (p m j : ℕ) → slice_get own_givers p ≡ Some (Output m j) → ⊥
  own_has_none p m j at = elim (append_cases (replicate (length n.ins) Input ++ replicate (length n.outs) Driven) (replicate (length n.wires) Driven) p (Output m j) at) [
    | inr wires ↦ let bad = all_one (length n.wires) Driven (Output m j) wires.0 wires.2 in cc
    | inl others ↦ elim (append_cases (replicate (length n.ins) Input) (replicate (length n.outs) Driven) p (Output m j) others) [
      | inl ins ↦ let bad = all_one (length n.ins) Input (Output m j) p ins in cc
      | inr outs ↦ let bad = all_one (length n.outs) Driven (Output m j) outs.0 outs.2 in cc
    ]
  ]

  pub output_of : (p m j : ℕ) → slice_get (givers_of n cells) p ≡ Some (Output m j) → IsOutputOf p m j
  output_of p m j at = elim (append_cases own_givers (givers_from 0 cells) p (Output m j) at) [
    | inl own ↦ absurd (own_has_none p m j own)
    | inr there ↦
        let e : p ≡ length own_givers + there.0 = there.1 in
        let r = from_output 0 cells n.cells listed.all sized there.0 m j there.2 in
        let same : r.index ≡ m = omega (arith, r.counted) in
        record { cell = r.cell; at = ap (slice_get cells) (sym same) ∙ r.at; within = r.within; place = omega (arith, e, r.place, length-own_givers, ap (λ i. ports_before i n.cells) same) }
  ]

cell_has_no_input : (k : ℕ) (prim : Primitive) (p : ℕ) → slice_get (givers_of_cell k prim) p ≡ Some Input → ⊥
cell_has_no_input k prim p at = elim (append_cases (replicate (length (inputs_of prim)) Driven) (map (Output k) (range_with_len 0 (length (outputs_of prim)))) p Input at) [
  | inl left ↦ let bad = all_one (length (inputs_of prim)) Driven Input p left in cc
  | inr right ↦
      let within = slice_get_within (map (Output k) (range_with_len 0 (length (outputs_of prim)))) right.0 Input right.2 in
      let size = length-map (range_with_len 0 (length (outputs_of prim))) (Output k) ∙ length-range_with_len 0 (length (outputs_of prim)) in
      let bad : Some (Output k right.0) ≡ Some Input = sym (outputs_at k (length (outputs_of prim)) right.0 (omega (arith, within, size))) ∙ right.2 in cc
]

cells_have_no_input : (k : ℕ) (cells : List CellPorts) (p : ℕ) → slice_get (givers_from k cells) p ≡ Some Input → ⊥
cells_have_no_input k [] p at = cc
cells_have_no_input k (c ∷ cs) p at = elim (append_cases (givers_of_cell k c.prim) (givers_from (suc k) cs) p Input at) [
  | inl here ↦ cell_has_no_input k c.prim p here
  | inr there ↦ cells_have_no_input (suc k) cs there.0 there.2
]

-- only the netlist's inputs are given
pub input_within : (n : Netlist) (cells : List CellPorts) (p : ℕ) → slice_get (givers_of n cells) p ≡ Some Input → p < length n.ins
input_within n cells p at = elim (append_cases (replicate (length n.ins) Input ++ replicate (length n.outs) Driven ++ replicate (length n.wires) Driven) (givers_from 0 cells) p Input at) [
  | inr there ↦ absurd (cells_have_no_input 0 cells there.0 there.2)
  | inl own ↦ elim (append_cases (replicate (length n.ins) Input ++ replicate (length n.outs) Driven) (replicate (length n.wires) Driven) p Input own) [
    | inr wires ↦ let bad = all_one (length n.wires) Driven Input wires.0 wires.2 in cc
    | inl others ↦ elim (append_cases (replicate (length n.ins) Input) (replicate (length n.outs) Driven) p Input others) [
      | inr outs ↦ let bad = all_one (length n.outs) Driven Input outs.0 outs.2 in cc
      | inl ins ↦ let within = slice_get_within (replicate (length n.ins) Input) p Input ins in omega (arith, within, length-replicate (length n.ins) Input)
    ]
  ]
]

-- one more output of a cell
pub outputs_more : (cell i : ℕ) (start xs ys : List Giver) → xs ≡ start ++ map (Output cell) (range_with_len 0 i) → ys ≡ xs ++ Output cell i ∷ [] → ys ≡ start ++ map (Output cell) (range_with_len 0 (i + 1))
outputs_more cell i start xs ys e f =
    f ∙ ap (λ l. l ++ Output cell i ∷ []) e ∙ append_assoc start (map (Output cell) (range_with_len 0 i)) (Output cell i ∷ []) ∙ ap (λ l. start ++ l) (sym (map-range_with_len_more (Output cell) 0 i i (omega arith)))
