use Rattle.std.proofs.Common.{◌+◌, ◌<◌, ◌≤◌, length, drop, map, sym, ap, ◌∙◌, arith}
use Rattle.serde_json.specs.View.{view}
use Rattle.stim_read.specs.Parts.{each}
use Rattle.stim_read.specs.Amounts.{amount_in}
use Rattle.stim_read.proofs.EachLemmas.{behind, behind_none, more_at, stops_at, done_at}
use Rattle.stim_read.proofs.cycle_text.read_words.Goals as goal

pub loop-value-init : goal.loop-value-init
loop-value-init c = rw c.new-words.ensures.items (behind_none _)

pub returns-in_default : goal.returns-in_default
returns-in_default c =
    let values = c.args.values.now in
    let i = c.loop-value.value-index in
    let within : i < length values = omega arith in
    sym (stops_at view (amount_in c.args.version) c.loop-value.words.items values i c.value-item.result within c.value-item.is (sym c.amount.ensures ∙ c.in_default.is)) ∙ c.loop-value.invariant

pub loop-value-preserved : goal.loop-value-preserved
loop-value-preserved c =
    let values = c.args.values.now in
    let i = c.loop-value.value-index in
    let within : i < length values = omega arith in
    ap (λ ys. behind ys (each (amount_in c.args.version) (map view (drop (i + 1) values)))) c.in_ok-push.ensures.items
    ∙ sym (more_at view (amount_in c.args.version) c.loop-value.words.items values i c.value-item.result c.in-Some.word within c.value-item.is (sym c.amount.ensures ∙ c.in-Some.is))
    ∙ c.loop-value.invariant

pub returns : goal.returns
returns c =
    let values = c.args.values.now in
    let i = c.loop-value.value-index in
    let past : length values ≤ i = omega arith in
    sym (done_at view (amount_in c.args.version) c.loop-value.words.items values i past) ∙ c.loop-value.invariant
