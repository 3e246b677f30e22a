use Rattle.std.proofs.Common.{◌≡◌, ◌<◌, ◌∙◌, Some, sym, ap, ap₂, subst, Option, List, length, slice_get, arith}
use Rattle.std.specs.Prelude.{Contains}
use Rattle.std.proofs.lemmas.List.{get_or-map, length-map}
use Rattle.std.proofs.lemmas.List.Elements.{All-contains}
use Rattle.std.proofs.lemmas.Option.{get_or_from_slice_get, slice_get_within}
use Rattle.hw_bits.specs.Values.{widths_of}
use Rattle.hw_bits.specs.declared.bits.Bits.{Bits}
use Rattle.fil_ast.specs.declared.tx.Tx.{Tx}
use Rattle.stim_read.specs.TxRun.{Transaction}
use Rattle.filc_report.specs.Driving.{value_given, GivesValue}
use Rattle.filc_report.specs.Intervals.{holding}
use Rattle.filc_report.specs.declared.tx_inputs.Gives.{Gives}
use Rattle.filc_report.proofs.TxInputLemmas.{one_bit}
use Rattle.filc_report.proofs.tx_inputs.TxInput.value.Goals as goal

pub returns-in-Start-clause-value : goal.returns-in-Start-clause-value
returns-in-Start-clause-value c =
    c.wrap.ensures.value ∙ one_bit c.args.width c.requires.wide
    ∙ ap₂ (λ (g : Gives) (t : Option Transaction). value_given g t c.args.list.now.idle c.args.width) (sym c.in-Start.is)
    (c.in-Some.ensures.holds ∙ ap (holding c.args.self.interval c.args.row) c.deref.ensures.value)

-- the transaction has the value
has_it : (c : goal.After-result-1) → slice_get (widths_of c.in-Some.tx.now.values.items) c.in-Value.place ≡ Some c.args.width
has_it c =
    let tx = c.in-Some.tx.now in
    let among : Contains c.args.list.now.txs.items tx = subst (λ (txs : List Tx). Contains txs tx) c.deref.ensures.value c.in-Some.ensures.among.0 in
    subst (λ (g : Gives). GivesValue g c.args.width tx) c.in-Value.is
    (All-contains (λ (t : Tx). c.args.self.interval.event ≡ t.event → GivesValue c.args.self.gives c.args.width t) c.args.list.now.txs.items tx c.requires.given among c.in-Some.ensures.among.1)

within : (c : goal.After-result-1) → c.in-Value.place < length c.in-Some.tx.now.values.items
within c = omega (arith, slice_get_within (widths_of c.in-Some.tx.now.values.items) c.in-Value.place c.args.width (has_it c), length-map c.in-Some.tx.now.values.items (λ (b : Bits). b.width))

pub returns-in-Value-clause-value : goal.returns-in-Value-clause-value
returns-in-Value-clause-value c =
    ap (λ (b : Bits). b.value) c.index.ensures
    ∙ sym (get_or-map (λ (b : Bits). b.value) c.in-Some.tx.now.values.items c.in-Value.place c.index.result.now 0 (within c))
    ∙ ap₂ (λ (g : Gives) (t : Option Transaction). value_given g t c.args.list.now.idle c.args.width) (sym c.in-Value.is)
    (c.in-Some.ensures.holds ∙ ap (holding c.args.self.interval c.args.row) c.deref.ensures.value)

pub returns-in-Value-clause-width : goal.returns-in-Value-clause-width
returns-in-Value-clause-width c =
    ap (λ (b : Bits). b.width) c.index.ensures
    ∙ sym (get_or-map (λ (b : Bits). b.width) c.in-Some.tx.now.values.items c.in-Value.place c.index.result.now c.args.width (within c))
    ∙ get_or_from_slice_get (widths_of c.in-Some.tx.now.values.items) c.in-Value.place c.args.width c.args.width (has_it c)
