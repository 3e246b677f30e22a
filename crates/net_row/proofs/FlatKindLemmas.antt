-- The numbers of the cells that keep their states by themselves, and what kept values tell of a state.
use Rattle.std.proofs.Common.{◌≡◌, ℕ, zero, suc, ◌+◌, ◌<◌, ◌≤◌, List, [], ◌∷◌, true, Some, length, refl, sym, ap, ap₂, ◌∙◌, arith, map, inl, inr, ◌⊎◌}
use Rattle.std.specs.Prelude.{slice_get, slice_index}
use Rattle.std.proofs.lemmas.Bool.{cases_lt}
use Rattle.std.proofs.lemmas.Option.{same_Some}
use Rattle.hw_prims.specs.Memory.{keeps_words}
use Rattle.hw_prims.specs.State.{Register as RegisterState, Delay as DelayState, FastMult as FastMultState}
use Rattle.hw_prims.specs.Table.{inputs_of}
use Rattle.hw_prims.specs.declared.prim.Primitive.{Primitive}
use Rattle.hw_prims.specs.declared.prim.Primitive.TheVariants.{StdReg, StdMemD1, StdMemD2, StdMultPipe, FilDelay, FilFastMult, FilSeqMult}
use Rattle.net_sim.specs.declared.cells.CellPorts.{CellPorts}
use Rattle.net_steps.specs.declared.other.Other.{Other as OtherCell}
use Rattle.net_row.specs.Kinds.{kept_for, others_for, kind_after, kinds_after, kinds_of, kept_in, others_in, state_of}
use Rattle.net_row.specs.declared.kinds.Kind.{Kind}
use Rattle.net_row.specs.declared.kinds.Kind.TheVariants.{Other}

-- ---- numbers

-- a cell that keeps its state by itself has the next number
pub other_number : (kept others number : ℕ) (prim : Primitive) → kind_after kept others prim ≡ Other number → (number ≡ others) × (others_for prim ≡ 1)
other_number kept others number (StdMemD1 w size idx) e = let n : others ≡ number = cc in (sym n, refl)
other_number kept others number (StdMemD2 w size0 size1 idx0 idx1) e = let n : others ≡ number = cc in (sym n, refl)
other_number kept others number (StdMultPipe w) e = let n : others ≡ number = cc in (sym n, refl)
other_number kept others number (FilSeqMult w) e = let n : others ≡ number = cc in (sym n, refl)
other_number kept others number prim e = absurd (cc)

-- each primitive is one that keeps its state by itself, or it isn't counted
pub by_itself : (prim : Primitive) → ((others_for prim ≡ 1) × ((kept others : ℕ) → kind_after kept others prim ≡ Other others)) ⊎ (others_for prim ≡ 0)
by_itself (StdMemD1 w size idx) = inl (refl, λ kept others. refl)
by_itself (StdMemD2 w size0 size1 idx0 idx1) = inl (refl, λ kept others. refl)
by_itself (StdMultPipe w) = inl (refl, λ kept others. refl)
by_itself (FilSeqMult w) = inl (refl, λ kept others. refl)
by_itself prim = inr refl

-- the numbers begin with this one
number_from : (kept others : ℕ) (cells : List CellPorts) (k number : ℕ) → slice_get (kinds_after kept others cells) k ≡ Some (Other number) → others ≤ number
number_from kept others [] k number at = absurd (cc)
number_from kept others (c ∷ cells) zero number at = let e = other_number kept others number c.prim (same_Some _ _ at) in omega (arith, e.0)
number_from kept others (c ∷ cells) (suc k) number at = let le = number_from (kept + kept_for c.prim) (others + others_for c.prim) cells k number at in omega (arith, le)

-- and each is of one cell
numbered_once : (kept others : ℕ) (cells : List CellPorts) (j k number : ℕ) → slice_get (kinds_after kept others cells) j ≡ Some (Other number) → slice_get (kinds_after kept others cells) k ≡ Some (Other number) → j ≡ k
numbered_once kept others [] j k number at at' = absurd (cc)
numbered_once kept others (c ∷ cells) zero zero number at at' = refl
numbered_once kept others (c ∷ cells) zero (suc k) number at at' =
    let e = other_number kept others number c.prim (same_Some _ _ at) in
    let le = number_from (kept + kept_for c.prim) (others + others_for c.prim) cells k number at' in
    absurd (omega (arith, e.0, e.1, le))
numbered_once kept others (c ∷ cells) (suc j) zero number at at' =
    let e = other_number kept others number c.prim (same_Some _ _ at') in
    let le = number_from (kept + kept_for c.prim) (others + others_for c.prim) cells j number at in
    absurd (omega (arith, e.0, e.1, le))
numbered_once kept others (c ∷ cells) (suc j) (suc k) number at at' = ap suc (numbered_once (kept + kept_for c.prim) (others + others_for c.prim) cells j k number at at')

pub one_cell : (cells : List CellPorts) (j k number : ℕ) → slice_get (kinds_of cells) j ≡ Some (Other number) → slice_get (kinds_of cells) k ≡ Some (Other number) → j ≡ k
one_cell cells = numbered_once 0 0 cells

-- a cell with its number
pub record IsNumberOf (kinds : List Kind) (cells : List CellPorts) (number : ℕ) : Type 0 where
  pub index : ℕ
  pub cell : CellPorts
  pub at : slice_get cells index ≡ Some cell
  pub kind : slice_get kinds index ≡ Some (Other number)

-- each number is that of a cell
cell_with : (kept others : ℕ) (cells : List CellPorts) (number : ℕ) → others ≤ number → number < others + others_in cells → IsNumberOf (kinds_after kept others cells) cells number
cell_with kept others [] number le lt = absurd (omega (arith, le, lt))
cell_with kept others (c ∷ cells) number le lt = elim (by_itself c.prim) [
  | inl is ↦ elim (cases_lt others number) [
    | inl later ↦ next (cell_with (kept + kept_for c.prim) (others + others_for c.prim) cells number (omega (arith, later, is.0)) (omega (arith, lt)))
    | inr here ↦ let e : number ≡ others = omega (arith, le, here) in record { index = 0; cell = c; at = refl; kind = ap Some (is.1 kept others ∙ ap Other (sym e)) }
  ]
  | inr not ↦ next (cell_with (kept + kept_for c.prim) (others + others_for c.prim) cells number (omega (arith, le, not)) (omega (arith, lt)))
]
  where
    next : IsNumberOf (kinds_after (kept + kept_for c.prim) (others + others_for c.prim) cells) cells number → IsNumberOf (kinds_after kept others (c ∷ cells)) (c ∷ cells) number
    next is = record { index = suc is.index; cell = is.cell; at = is.at; kind = is.kind }

pub cell_of_number : (cells : List CellPorts) (number : ℕ) → number < others_in cells → IsNumberOf (kinds_of cells) cells number
cell_of_number cells number lt = cell_with 0 0 cells number (omega arith) (omega (arith, lt))

-- a number is below that of all
number_below : (kept others : ℕ) (cells : List CellPorts) (k number : ℕ) → slice_get (kinds_after kept others cells) k ≡ Some (Other number) → number < others + others_in cells
number_below kept others [] k number at = absurd (cc)
number_below kept others (c ∷ cells) zero number at = let e = other_number kept others number c.prim (same_Some _ _ at) in omega (arith, e.0, e.1)
number_below kept others (c ∷ cells) (suc k) number at = let lt = number_below (kept + kept_for c.prim) (others + others_for c.prim) cells k number at in omega (arith, lt)

pub number_within : (cells : List CellPorts) (k number : ℕ) → slice_get (kinds_of cells) k ≡ Some (Other number) → number < others_in cells
number_within cells k number at = let lt = number_below 0 0 cells k number at in omega (arith, lt)

-- a memory keeps its state by itself
pub memory_by_itself : (prim : Primitive) → keeps_words prim ≡ true → (kept others : ℕ) → kind_after kept others prim ≡ Other others
unfolding keeps_words
memory_by_itself (StdMemD1 w size idx) e kept others = refl
memory_by_itself (StdMemD2 w size0 size1 idx0 idx1) e kept others = refl
memory_by_itself prim e kept others = absurd (cc)

-- ---- states by kept values

same_state : (a b : List ℕ) (cells : List OtherCell) (kept others : ℕ) (prim : Primitive) → ((k : ℕ) → k < kept + kept_for prim → slice_index a k ≡ slice_index b k) → state_of a cells (kind_after kept others prim) ≡ state_of b cells (kind_after kept others prim)
same_state a b cells kept others (StdReg w) same = ap₂ RegisterState (same kept (omega arith)) (same (kept + 1) (omega arith))
same_state a b cells kept others (FilDelay w) same = ap DelayState (same kept (omega arith))
same_state a b cells kept others (FilFastMult w) same = ap₂ FastMultState (same kept (omega arith)) (same (kept + 1) (omega arith))
same_state a b cells kept others prim same = refl

same_states_after : (a b : List ℕ) (others : List OtherCell) (kept number : ℕ) (cells : List CellPorts) → ((k : ℕ) → k < kept + kept_in cells → slice_index a k ≡ slice_index b k) → map (state_of a others) (kinds_after kept number cells) ≡ map (state_of b others) (kinds_after kept number cells)
same_states_after a b others kept number [] same = refl
same_states_after a b others kept number (c ∷ cells) same =
    ap₂ ◌∷◌ (same_state a b others kept number c.prim (λ k lt. same k (omega (arith, lt))))
    (same_states_after a b others (kept + kept_for c.prim) (number + others_for c.prim) cells (λ k lt. same k (omega (arith, lt))))

-- kept values that are the same, as far as there are any, hold the same states
pub same_states : (a b : List ℕ) (others : List OtherCell) (cells : List CellPorts) → ((k : ℕ) → k < kept_in cells → slice_index a k ≡ slice_index b k) → map (state_of a others) (kinds_of cells) ≡ map (state_of b others) (kinds_of cells)
same_states a b others cells same = same_states_after a b others 0 0 cells (λ k lt. same k (omega (arith, lt)))

-- no primitive has more inputs than a cell that keeps its state by itself
pub few_inputs : (prim : Primitive) → length (inputs_of prim) ≤ 4
unfolding inputs_of
few_inputs (StdReg w) = omega arith
few_inputs prim = omega arith
