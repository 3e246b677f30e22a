use Rattle.std.proofs.Common.{rules, ◌≡◌, get_or, set, slice_get, Some, ap, ap₂, ◌∙◌, arith}
use Rattle.std.proofs.lemmas.Option.{get_or_from_slice_get}
use Rattle.hw_bits.specs.Values.{values_of, widths_of}
use Rattle.net_core.specs.declared.stimulus.InputSet.{InputSet}
use Rattle.filc_report.proofs.InputLemmas.{set_more, set_keeps_widths, read_same}
use Rattle.filc_report.proofs.inputs.set_due.Goals as goal

pub loop-next-preserved : goal.loop-next-preserved
loop-next-preserved c =
    let sets = c.args.sets.now in let n = c.loop-next.next in let inputs = c.loop-next.inputs in
    let s = get_or sets n c.index-sets-next.result in
    let same = λ (d e : InputSet). read_same sets n d e c.loop-next-test.true in
    let as_set : set inputs (get_or sets n c.index-sets-next-in-loop-next.result).input (get_or sets n c.index-sets-next-in-loop-next-2.result).value ≡ set inputs s.input s.value =
    ap₂ (λ (a b : InputSet). set inputs a.input b.value) (same _ _) (same _ _) in
    let fits : slice_get (widths_of inputs) s.input ≡ Some s.value.width = ap (λ ws. slice_get ws s.input) c.loop-next.invariant.widths ∙ c.requires.fit n c.index-sets-next.result c.loop-next-test.true in
    record {
      in_order = search rules;
      within = search rules;
      due = search rules;
      values = ap values_of as_set ∙ set_more sets c.args.taken n s inputs (values_of c.args.inputs.now) (omega arith) c.loop-next-test.true (same _ _) c.loop-next.invariant.values;
      widths = ap widths_of as_set ∙ set_keeps_widths inputs s.input s.value fits ∙ c.loop-next.invariant.widths;
    }

pub returns-then-from-row-clause-later : goal.returns-then-from-row-clause-later
returns-then-from-row-clause-later c = λ s within at.
    omega (arith, c.if-from-row.true, ap (λ (a : InputSet). a.from) (get_or_from_slice_get c.args.sets.now c.loop-next.next s c.index-sets-next.result at))
