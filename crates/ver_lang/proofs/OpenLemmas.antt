-- Cells begin with their opening states.
use Rattle.std.proofs.Common.{◌≡◌, ℕ, ◌*◌, ◌^◌, ◌≤◌, [], refl, sym, ap, ◌∙◌, lit<, arith}
use Rattle.std.proofs.Math.Nat.{zero-mod}
use Rattle.std.proofs.lemmas.List.{take-replicate}
use Rattle.std.specs.Prelude.{codes, replicate}
use Rattle.hw_bits.specs.Width.{low_bits}
use Rattle.hw_names.specs.Name.{Text, dotted}
use Rattle.hw_prims.specs.Meaning.{opening_state}
use Rattle.hw_prims.specs.Memory.{padded_words}
use Rattle.hw_prims.specs.declared.prim.Primitive.TheVariants.{StdReg, StdMemD1, StdMemD2, StdMultPipe, FilDelay, FilFastMult, FilSeqMult}
use Rattle.ver_lang.specs.CellItems.{cell_items, zero_of, counter_of}
use Rattle.ver_lang.specs.CellLaws.{CellsOpen}
use Rattle.ver_lang.specs.Run.{constant_in}
use Rattle.ver_lang.specs.Tree.{Filling, Signal}

zero_is : (w : ℕ) → constant_in w (zero_of w) ≡ 0
zero_is w = ap (low_bits w) (zero-mod (2 ^ w)) ∙ zero-mod (2 ^ w)

words_are : (count w : ℕ) → replicate count (constant_in w (zero_of w)) ≡ padded_words count []
words_are count w =
    let all : count ≤ count = omega arith in
    ap (replicate count) (zero_is w) ∙ sym (take-replicate {X = ℕ} count count 0 all)

abbrev own : Text → Text → ℕ → Signal
own cell name w = record { name = dotted cell name; width = w }

abbrev filling : Text → (count w : ℕ) → Filling
filling cell count w = record { counter = counter_of cell; count = count; memory = dotted cell (codes "$0"); word = zero_of w }

pub opens : CellsOpen
unfolding cell_items opening_state
opens cell (StdReg w) now o =
    (o.registers (own cell (codes "$0") w) (zero_of w) (0, lit< tt, refl) ∙ zero_is w, o.registers (own cell (codes "$1") 1) (zero_of 1) (1, lit< tt, refl) ∙ zero_is 1)
opens cell (StdMemD1 w count idx) now o = (
  o.memories (own cell (codes "$0") w) (filling cell count w) (0, lit< tt, refl) (3, lit< tt, refl) refl ∙ words_are count w,
  o.registers (own cell (codes "$1") 1) (zero_of 1) (1, lit< tt, refl) ∙ zero_is 1,
)
opens cell (StdMemD2 w size0 size1 idx0 idx1) now o = (
  o.memories (own cell (codes "$0") w) (filling cell (size0 * size1) w) (0, lit< tt, refl) (3, lit< tt, refl) refl ∙ words_are (size0 * size1) w,
  o.registers (own cell (codes "$1") 1) (zero_of 1) (1, lit< tt, refl) ∙ zero_is 1,
)
opens cell (StdMultPipe w) now o = (
  o.registers (own cell (codes "$0") 2) (zero_of 2) (0, lit< tt, refl) ∙ zero_is 2,
  o.registers (own cell (codes "$1") w) (zero_of w) (1, lit< tt, refl) ∙ zero_is w,
  o.registers (own cell (codes "$2") w) (zero_of w) (2, lit< tt, refl) ∙ zero_is w,
)
opens cell (FilDelay w) now o = o.registers (own cell (codes "$0") w) (zero_of w) (0, lit< tt, refl) ∙ zero_is w
opens cell (FilFastMult w) now o =
    (o.registers (own cell (codes "$0") w) (zero_of w) (0, lit< tt, refl) ∙ zero_is w, o.registers (own cell (codes "$1") w) (zero_of w) (1, lit< tt, refl) ∙ zero_is w)
opens cell (FilSeqMult w) now o =
    (o.registers (own cell (codes "$0") 2) (zero_of 2) (0, lit< tt, refl) ∙ zero_is 2, o.registers (own cell (codes "$1") w) (zero_of w) (1, lit< tt, refl) ∙ zero_is w)
opens cell prim now o = tt
