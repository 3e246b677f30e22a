-- The functions of primitives, and the widths of their data inputs and outputs.
use Rattle.std.proofs.Common.{◌≡◌, ℕ, ◌<◌, List, [], ◌∷◌, length, true, refl, sym, ap, ◌∙◌, inl, inr}
use Rattle.std.specs.Prelude.{◌⊎◌, slice_index}
use Rattle.std.specs.List.{filter, slice_index_or}
use Rattle.std.proofs.lemmas.Bool.{false≢true}
use Rattle.std.proofs.lemmas.List.{length-map, get_or-map}
use Rattle.hw_bits.specs.Width.{product_bits}
use Rattle.hw_bits.specs.Values.{values_of, widths_of}
use Rattle.hw_bits.specs.declared.bits.Bits.{Bits}
use Rattle.hw_prims.specs.Filament.{is_data_pin, primitive_flow}
use Rattle.hw_prims.specs.Meaning.{is_stateless, output_values}
use Rattle.hw_prims.specs.Memory.{keeps_words}
use Rattle.hw_prims.specs.State.{Stateless}
use Rattle.hw_prims.specs.Table.{inputs_of, outputs_of}
use Rattle.hw_prims.specs.declared.prim.Primitive.{Primitive}
use Rattle.hw_prims.specs.declared.prim.Primitive.TheVariants.{StdReg, StdMemD1, StdMemD2, StdMultPipe, FilDelay, FilFastMult, FilSeqMult}
use Rattle.fil_flow.specs.Plans.{Shape, has_flow, primitive_shape}

-- it gives what it is given
abbrev pub Copies : Primitive → Type 0
Copies prim = ((w : ℕ) × prim ≡ StdReg w) ⊎ ((w : ℕ) × prim ≡ FilDelay w)

-- it gives a product
abbrev pub Multiplies : Primitive → Type 0
Multiplies prim = ((w : ℕ) × prim ≡ FilFastMult w) ⊎ ((w : ℕ) × prim ≡ FilSeqMult w)

pub kind : (prim : Primitive) → has_flow prim ≡ true → (is_stateless prim ≡ true) ⊎ (Copies prim ⊎ Multiplies prim)
kind (StdReg w) known = inr (inl (inl (w, refl)))
kind (FilDelay w) known = inr (inl (inr (w, refl)))
kind (FilFastMult w) known = inr (inr (inl (w, refl)))
kind (FilSeqMult w) known = inr (inr (inr (w, refl)))
kind prim known = inl known

pub copy_shape : (prim : Primitive) → Copies prim → (w : ℕ) × (primitive_shape prim ≡ record { ins = w ∷ []; outs = w ∷ [] })
unfolding inputs_of outputs_of
copy_shape prim (inl (w, is)) = (w, ap primitive_shape is)
copy_shape prim (inr (w, is)) = (w, ap primitive_shape is)

-- how wide its values are
abbrev pub product_width_of : Primitive → ℕ
product_width_of (FilFastMult w) = w
product_width_of (FilSeqMult w) = w
product_width_of prim = 0

abbrev pub product_widths : Primitive → Shape
product_widths prim = record { ins = product_width_of prim ∷ product_width_of prim ∷ []; outs = product_width_of prim ∷ [] }

pub product_shape : (prim : Primitive) → Multiplies prim → primitive_shape prim ≡ product_widths prim
unfolding inputs_of outputs_of
product_shape prim (inl (w, is)) = ap primitive_shape is ∙ ap product_widths (sym is)
product_shape prim (inr (w, is)) = ap primitive_shape is ∙ ap product_widths (sym is)

pub product_flow : (prim : Primitive) (args : List ℕ) → Multiplies prim → primitive_flow prim args ≡ product_bits (product_width_of prim) (slice_index args 0) (slice_index args 1)
product_flow prim args (inl (w, is)) = ap (λ p. primitive_flow p args) is ∙ ap (λ p. product_bits (product_width_of p) (slice_index args 0) (slice_index args 1)) (sym is)
product_flow prim args (inr (w, is)) = ap (λ p. primitive_flow p args) is ∙ ap (λ p. product_bits (product_width_of p) (slice_index args 0) (slice_index args 1)) (sym is)

pub copy_flow : (prim : Primitive) (args : List ℕ) → Copies prim → primitive_flow prim args ≡ slice_index args 0
copy_flow prim args (inl (w, is)) = ap (λ p. primitive_flow p args) is
copy_flow prim args (inr (w, is)) = ap (λ p. primitive_flow p args) is

-- how many values there are
pub count : (args : List Bits) (widths : List ℕ) → widths_of args ≡ widths → length args ≡ length widths
count args widths is = sym (length-map args (λ (b : Bits). b.width)) ∙ ap length is

pub value_of : (args : List Bits) (k : ℕ) (b : Bits) → k < length args → b ≡ slice_index_or args k b → slice_index (values_of args) k ≡ b.value
value_of args k b within is = get_or-map (λ (x : Bits). x.value) args k b 0 within ∙ ap (λ (x : Bits). x.value) (sym is)

pub width_of : (args : List Bits) (k : ℕ) (b : Bits) → k < length args → b ≡ slice_index_or args k b → slice_index (widths_of args) k ≡ b.width
width_of args k b within is = get_or-map (λ (x : Bits). x.width) args k b 0 within ∙ ap (λ (x : Bits). x.width) (sym is)

-- each pin of a primitive that keeps nothing is a data pin
pub all_inputs : (prim : Primitive) → is_stateless prim ≡ true → filter is_data_pin (inputs_of prim) ≡ inputs_of prim
unfolding inputs_of is_stateless keeps_words
all_inputs (StdReg w) known = absurd (false≢true known)
all_inputs (StdMemD1 w size idx) known = absurd (false≢true known)
all_inputs (StdMemD2 w size0 size1 idx0 idx1) known = absurd (false≢true known)
all_inputs (StdMultPipe w) known = absurd (false≢true known)
all_inputs (FilSeqMult w) known = absurd (false≢true known)
all_inputs prim known = refl

pub all_outputs : (prim : Primitive) → is_stateless prim ≡ true → filter is_data_pin (outputs_of prim) ≡ outputs_of prim
unfolding outputs_of is_stateless keeps_words
all_outputs (StdReg w) known = absurd (false≢true known)
all_outputs (StdMemD1 w size idx) known = absurd (false≢true known)
all_outputs (StdMemD2 w size0 size1 idx0 idx1) known = absurd (false≢true known)
all_outputs (StdMultPipe w) known = absurd (false≢true known)
all_outputs prim known = refl

pub combined_flow : (prim : Primitive) (args : List ℕ) → is_stateless prim ≡ true → primitive_flow prim args ≡ slice_index (output_values prim Stateless args) 0
unfolding is_stateless
combined_flow (StdReg w) args known = absurd (false≢true known)
combined_flow (FilDelay w) args known = absurd (false≢true known)
combined_flow (FilFastMult w) args known = absurd (false≢true known)
combined_flow (FilSeqMult w) args known = absurd (false≢true known)
combined_flow prim args known = refl

pub combines : (prim : Primitive) → has_flow prim ≡ true → (Copies prim → ⊥) → (Multiplies prim → ⊥) → is_stateless prim ≡ true
combines prim known no_copy no_product = by (kind prim known) where
  by : (is_stateless prim ≡ true) ⊎ (Copies prim ⊎ Multiplies prim) → is_stateless prim ≡ true
  by (inl is) = is
  by (inr (inl copy)) = absurd (no_copy copy)
  by (inr (inr product)) = absurd (no_product product)

pub is_neither : (prim : Primitive) (one other : ℕ → Primitive) → ((w : ℕ) → prim ≡ one w → ⊥) → ((w : ℕ) → prim ≡ other w → ⊥) →
    ((w : ℕ) × prim ≡ one w) ⊎ ((w : ℕ) × prim ≡ other w) → ⊥
is_neither prim one other no_one no_other (inl (w, is)) = no_one w is
is_neither prim one other no_one no_other (inr (w, is)) = no_other w is
