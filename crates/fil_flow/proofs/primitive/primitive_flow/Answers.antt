use Rattle.std.proofs.Common.{ℕ, [], ◌∷◌, List, sym, ap, ap₂, ◌∙◌, arith}
use Rattle.std.specs.Prelude.{slice_index}
use Rattle.hw_bits.specs.Values.{values_of}
use Rattle.hw_bits.specs.Width.{product_bits}
use Rattle.hw_prims.specs.Table.{pin_widths}
use Rattle.hw_prims.specs.declared.prim.Primitive.TheVariants.{StdReg, FilDelay, FilFastMult, FilSeqMult}
use Rattle.fil_flow.specs.Plans.{Shape}
use Rattle.fil_flow.proofs.PrimitiveLemmas.{all_inputs, all_outputs, combined_flow, combines, copy_flow, copy_shape, count, is_neither, product_flow, product_shape, value_of, width_of}
use Rattle.fil_flow.proofs.primitive.primitive_flow.Goals as goal

pub bounds-args-0 : goal.bounds-args-0
bounds-args-0 c =
    let (w, shape) = copy_shape c.args.prim c.in-StdReg.is in
    let n = count c.args.args.now _ (c.requires.args ∙ ap (λ (s : Shape). s.ins) shape) in
    omega (arith, n)

pub bounds-args-0-in-FilFastMult : goal.bounds-args-0-in-FilFastMult
bounds-args-0-in-FilFastMult c =
    let shape = product_shape c.args.prim c.in-FilFastMult.is in
    let n = count c.args.args.now _ (c.requires.args ∙ ap (λ (s : Shape). s.ins) shape) in
    omega (arith, n)

pub bounds-args-1 : goal.bounds-args-1
bounds-args-1 c =
    let shape = product_shape c.args.prim c.in-FilFastMult.is in
    let n = count c.args.args.now _ (c.requires.args ∙ ap (λ (s : Shape). s.ins) shape) in
    omega (arith, n)

pub mul-requires : goal.mul-requires
mul-requires c =
    let shape = product_shape c.args.prim c.in-FilFastMult.is in
    let widths = c.requires.args ∙ ap (λ (s : Shape). s.ins) shape in
    let n = count c.args.args.now _ widths in
    sym (width_of c.args.args.now 0 _ (omega (arith, n)) c.index-args-0-in-FilFastMult.is) ∙ ap (λ (xs : List ℕ). slice_index xs 0) widths
    ∙ sym (ap (λ (xs : List ℕ). slice_index xs 1) widths) ∙ width_of c.args.args.now 1 _ (omega (arith, n)) c.index-args-1.is

pub combine-requires : goal.combine-requires
combine-requires c =
    let stateless = combines c.args.prim c.requires.known (is_neither c.args.prim StdReg FilDelay c.in_default.not-StdReg c.in_default.not-FilDelay)
    (is_neither c.args.prim FilFastMult FilSeqMult c.in_default.not-FilFastMult c.in_default.not-FilSeqMult) in
    record {
      stateless = stateless;
      made = c.requires.made;
      inputs = c.requires.args ∙ ap pin_widths (all_inputs c.args.prim stateless);
    }

pub returns-in-StdReg-clause-value : goal.returns-in-StdReg-clause-value
returns-in-StdReg-clause-value c =
    let (w, shape) = copy_shape c.args.prim c.in-StdReg.is in
    let n = count c.args.args.now _ (c.requires.args ∙ ap (λ (s : Shape). s.ins) shape) in
    sym (copy_flow c.args.prim _ c.in-StdReg.is ∙ value_of c.args.args.now 0 _ (omega (arith, n)) c.index-args-0.is)

pub returns-in-StdReg-clause-width : goal.returns-in-StdReg-clause-width
returns-in-StdReg-clause-width c =
    let (w, shape) = copy_shape c.args.prim c.in-StdReg.is in
    let widths = c.requires.args ∙ ap (λ (s : Shape). s.ins) shape in
    let n = count c.args.args.now _ widths in
    ap (λ (x : ℕ). x ∷ []) (sym (width_of c.args.args.now 0 _ (omega (arith, n)) c.index-args-0.is) ∙ ap (λ (xs : List ℕ). slice_index xs 0) widths)
    ∙ sym (ap (λ (s : Shape). s.outs) shape)

pub returns-in-FilFastMult-clause-value : goal.returns-in-FilFastMult-clause-value
returns-in-FilFastMult-clause-value c =
    let shape = product_shape c.args.prim c.in-FilFastMult.is in
    let widths = c.requires.args ∙ ap (λ (s : Shape). s.ins) shape in
    let n = count c.args.args.now _ widths in
    let first = value_of c.args.args.now 0 _ (omega (arith, n)) c.index-args-0-in-FilFastMult.is in
    let second = value_of c.args.args.now 1 _ (omega (arith, n)) c.index-args-1.is in
    let width = sym (width_of c.args.args.now 0 _ (omega (arith, n)) c.index-args-0-in-FilFastMult.is) ∙ ap (λ (xs : List ℕ). slice_index xs 0) widths in
    c.mul.ensures.value ∙ ap₂ (λ (a b : ℕ). product_bits c.index-args-0-in-FilFastMult.result.width a b) (sym first) (sym second)
    ∙ ap (λ (w : ℕ). product_bits w (slice_index (values_of c.args.args.now) 0) (slice_index (values_of c.args.args.now) 1)) width
    ∙ sym (product_flow c.args.prim (values_of c.args.args.now) c.in-FilFastMult.is)

pub returns-in-FilFastMult-clause-width : goal.returns-in-FilFastMult-clause-width
returns-in-FilFastMult-clause-width c =
    let shape = product_shape c.args.prim c.in-FilFastMult.is in
    let widths = c.requires.args ∙ ap (λ (s : Shape). s.ins) shape in
    let n = count c.args.args.now _ widths in
    ap (λ (x : ℕ). x ∷ []) (c.mul.ensures.width ∙ sym (width_of c.args.args.now 0 _ (omega (arith, n)) c.index-args-0-in-FilFastMult.is) ∙ ap (λ (xs : List ℕ). slice_index xs 0) widths)
    ∙ sym (ap (λ (s : Shape). s.outs) shape)

pub returns-in_default : goal.returns-in_default
returns-in_default c =
    let stateless = combines c.args.prim c.requires.known (is_neither c.args.prim StdReg FilDelay c.in_default.not-StdReg c.in_default.not-FilDelay)
    (is_neither c.args.prim FilFastMult FilSeqMult c.in_default.not-FilFastMult c.in_default.not-FilSeqMult) in
    record {
      value = sym (combined_flow c.args.prim (values_of c.args.args.now) stateless ∙ ap (λ (xs : List ℕ). slice_index xs 0) c.combine.ensures.value);
      width = sym (ap pin_widths (all_outputs c.args.prim stateless) ∙ c.combine.ensures.width);
    }
