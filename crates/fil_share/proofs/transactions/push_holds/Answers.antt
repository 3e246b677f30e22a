use Rattle.std.proofs.Common.{◌+◌, ◌<◌, length, map, get_or, bytes_eq, refl, sym, ap, ◌∙◌}
use Rattle.std.proofs.lemmas.List.Elements.{All-push}
use Rattle.hw_names.specs.Name.{Text}
use Rattle.hw_names.proofs.NameLemmas.{text_of-slice_get}
use Rattle.fil_share.specs.Uses.{HoldHasNumbers, shown_hold}
use Rattle.fil_share.specs.declared.hold.Hold.{Hold}
use Rattle.fil_share.specs.declared.uses.Use.{Use}
use Rattle.fil_share.proofs.TransactionLemmas.{pushed, skipped}
use Rattle.fil_share.proofs.transactions.push_holds.Goals.{then-eq+in_ok-push, else-eq}
use Rattle.fil_share.proofs.transactions.push_holds.Goals as goal

no_use : Use
no_use = record { on = record { 0 = 0 }; inst = record { 0 = 0 }; event = 0; from = 0; to = 0; call = record { 0 = 0 } }

pub loop-used-preserved : goal.loop-used-preserved
unfolding no_use
loop-used-preserved c =
    let names = c.args.names.now in
    let uses = c.args.uses.now in
    let event = c.args.event.now in
    let i = c.loop-used.used-index in
    let x = get_or uses i no_use in
    let within : i < length uses = c.loop-used-test.true in
    let named = text_of-slice_get names x.on c.text.result.now c.text.ensures in
    let same = ap (λ (t : Text). bytes_eq t event) named ∙ sym c.eq.ensures in
    let old = map (shown_hold names) c.args.holds.now.items in
    let h : Hold = record { inst = x.inst; event = x.event; from = c.args.row + x.from; to = c.args.row + x.to; call = x.call; tx = c.args.tx } in
    let numbers = (c.requires.uses i no_use within).numbered in
    let so_far = c.loop-used.invariant in
    elim c.if-eq.branch [
      | then-eq+in_ok-push w ↦
          rw (w.holds-is, w.in_ok-push.ensures.items) (record {
            shown = pushed names c.args.tx c.args.row event uses i no_use within old c.loop-used.holds.items h (same ∙ w.if-eq.true) refl so_far.shown;
            numbered = λ numbered. All-push (HoldHasNumbers names) c.loop-used.holds.items h (so_far.numbered numbered) (numbers.1, numbers.2);
          })
      | else-eq w ↦
          rw w.holds-is (record {
            shown = skipped names c.args.tx c.args.row event uses i no_use within old c.loop-used.holds.items (same ∙ w.if-eq.false) so_far.shown;
            numbered = so_far.numbered;
          })
    ]
