use Rattle.std.proofs.Common.{◌≡◌, true, false, map, get_or, slice_get, Some, bytes_eq, sym, ap, ◌∙◌, arith}
use Rattle.hw_names.proofs.NameLemmas.{text_of-slice_get}
use Rattle.hw_names.specs.Name.{Text}
use Rattle.fil_share.specs.Uses.{shown_use}
use Rattle.fil_share.specs.declared.uses.Use.{Use}
use Rattle.fil_lower.proofs.StepLemmas.{greatest_use, map_read, ord_max-max}
use Rattle.fil_lower.proofs.body.last_of_uses.Goals.{then-eq, else-eq}
use Rattle.fil_lower.proofs.body.last_of_uses.Goals as goal

no_use : Use
no_use = record { on = record { 0 = 0 }; inst = record { 0 = 0 }; event = 0; from = 0; to = 0; call = record { 0 = 0 } }

pub loop-used-preserved : goal.loop-used-preserved
unfolding no_use
loop-used-preserved c =
    let names = c.args.names.now in
    let uses = c.args.uses.now in
    let event = c.args.event.now in
    let i = c.loop-used.used-index in
    let x = get_or uses i no_use in
    let at : slice_get (map (shown_use names) uses) i ≡ Some (shown_use names x) = map_read (shown_use names) uses i no_use c.loop-used-test.true in
    let named = text_of-slice_get names x.on c.text.result.now c.text.ensures in
    let same = ap (λ (t : Text). bytes_eq t event) named ∙ sym c.eq.ensures in
    let good = c.requires i no_use c.loop-used-test.true in
    let last = c.loop-used.last in
    elim c.if-eq.branch [
      | then-eq w ↦
          let greater = w.max-last.ensures ∙ ord_max-max last x.from in
          rw w.last-is (record {
            value = greater ∙ greatest_use event (map (shown_use names) uses) i (shown_use names x) last true at (same ∙ w.if-eq.true) c.loop-used.invariant.value;
            small = omega (arith, greater, c.loop-used.invariant.small, good.early);
          })
      | else-eq w ↦
          rw w.last-is (record {
            value = greatest_use event (map (shown_use names) uses) i (shown_use names x) last false at (same ∙ w.if-eq.false) c.loop-used.invariant.value;
            small = c.loop-used.invariant.small;
          })
    ]
