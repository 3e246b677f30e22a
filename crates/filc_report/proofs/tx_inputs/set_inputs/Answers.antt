use Rattle.std.proofs.Common.{◌≡◌, ◌∙◌, ℕ, sym, ap, subst, get_or, List, arith}
use Rattle.std.proofs.lemmas.List.{get_or-map}
use Rattle.std.proofs.lemmas.Option.{slice_get-get_or, slice_get_within}
use Rattle.std.proofs.Math.Seq.{map-set_same}
use Rattle.hw_bits.specs.Values.{widths_of}
use Rattle.hw_bits.specs.declared.bits.Bits.{Bits}
use Rattle.fil_ast.specs.declared.tx.Tx.{Tx}
use Rattle.filc_report.specs.Driving.{value_in, GiveValues}
use Rattle.filc_report.specs.Intervals.{ArePassed}
use Rattle.filc_report.specs.declared.tx_inputs.Gives.TheVariants.{Start}
use Rattle.filc_report.specs.declared.tx_inputs.TxInput.{TxInput}
use Rattle.filc_report.proofs.TxInputLemmas.{passed_set, value_more}
use Rattle.filc_report.proofs.tx_inputs.set_inputs.Goals as goal

abbrev none : TxInput
none = record { interval = record { event = 0; from = 0; to = 0 }; gives = Start }

pub first_left-first-requires : goal.first_left-first-requires
first_left-first-requires c =
    subst (λ (txs : List Tx). ArePassed (get_or c.args.ports.now c.loop-at.at none).interval txs (get_or c.loop-at.nexts c.loop-at.at 0) c.args.row) (sym c.deref.ensures.value)
    (c.loop-at.invariant.passed c.loop-at.at (get_or c.args.ports.now c.loop-at.at none) (slice_get-get_or c.args.ports.now c.loop-at.at none c.loop-at-test.true))

-- the width of the input
width_here : (c : goal.After-width) → get_or (widths_of c.args.inputs.now) c.loop-at.at 0 ≡ c.width.result
width_here c =
    ap (λ (ws : List ℕ). get_or ws c.loop-at.at 0) (sym c.loop-at.invariant.widths)
    ∙ get_or-map (λ (b : Bits). b.width) c.loop-at.inputs c.loop-at.at c.index-inputs-at.result 0 (omega (arith, c.requires.as_many, c.loop-at-test.true, c.loop-at.auto.inputs))
    ∙ ap (λ (b : Bits). b.width) (sym c.index-inputs-at.is) ∙ sym c.width.ensures

pub value-requires-clause-given : goal.value-requires-clause-given
value-requires-clause-given c =
    subst (λ (w : ℕ). GiveValues (get_or c.args.ports.now c.loop-at.at none) w c.args.list.now.txs.items) (width_here c)
    (c.requires.given c.loop-at.at (get_or c.args.ports.now c.loop-at.at none) (slice_get-get_or c.args.ports.now c.loop-at.at none c.loop-at-test.true))

pub loop-at-preserved : goal.loop-at-preserved
loop-at-preserved c =
    let at = c.loop-at.at in
    let inside = c.requires.as_many in
    let item = c.index-inputs-at.result in
    let width_is : c.width.result ≡ get_or (widths_of c.args.inputs.now) at 0 =
    c.width.ensures ∙ ap (λ (b : Bits). b.width) c.index-inputs-at.is
    ∙ sym (get_or-map (λ (b : Bits). b.width) c.loop-at.inputs at item 0 (omega (arith, inside, c.loop-at-test.true, c.loop-at.auto.inputs)))
    ∙ ap (λ (ws : List ℕ). get_or ws at 0) c.loop-at.invariant.widths in
    record {
      passed = passed_set (λ (i : TxInput). i.interval) c.args.ports.now c.args.list.now.txs.items c.loop-at.nexts at c.first_left-first.result c.args.row none
          (omega (arith, c.requires.each, c.loop-at.auto.nexts))
          (subst (λ (txs : List Tx). ArePassed (get_or c.args.ports.now at none).interval txs c.first_left-first.result c.args.row) c.deref.ensures.value c.first_left-first.ensures.passed)
          c.loop-at.invariant.passed;
      widths = map-set_same (λ (b : Bits). b.width) c.loop-at.inputs at c.value.result item (c.value.ensures.width ∙ c.width.ensures ∙ ap (λ (b : Bits). b.width) c.index-inputs-at.is) ∙ c.loop-at.invariant.widths;
      values = λ k i early is. value_more c.args.ports.now c.args.list.now c.args.row c.loop-at.inputs (widths_of c.args.inputs.now) at c.value.result none
          (omega (arith, inside, c.loop-at-test.true, c.loop-at.auto.inputs))
          (c.value.ensures.value ∙ ap (λ (w : ℕ). value_in (get_or c.args.ports.now at none) c.args.list.now c.args.row w) width_is)
          c.loop-at.invariant.values k i early is;
    }

pub returns-clause-values : goal.returns-clause-values
returns-clause-values c = λ k i is.
    c.loop-at.invariant.values k i (omega (arith, slice_get_within c.args.ports.now k i is, c.loop-at-test.false, c.loop-at.auto.at-end)) is
