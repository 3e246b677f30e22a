use Rattle.std.proofs.Common.{◌≡◌, ◌<◌, ◌++◌, length, map, filter, slice_get, Some, refl, sym, ap, subst, ◌∙◌}
use Rattle.std.proofs.lemmas.Option.{slice_get_read}
use Rattle.hw_names.specs.Name.{Text}
use Rattle.hw_names.proofs.NameLemmas.{text_of-slice_get}
use Rattle.fil_ast.specs.Holds.{holds_of}
use Rattle.fil_ast.specs.Tree.{component_tree, event_tree}
use Rattle.fil_ast.specs.declared.tx.Tx.{Tx}
use Rattle.fil_share.specs.Uses.{is_on, moved, shown_hold, shown_use, starts_of}
use Rattle.fil_share.proofs.Lookup.{at_mapped}
use Rattle.fil_share.proofs.TransactionLemmas.{next_tx}
use Rattle.fil_share.proofs.transactions.all_holds.Goals as goal

pub loop-number-preserved : goal.loop-number-preserved
loop-number-preserved c =
    let names = c.args.names.now in
    let comp = c.args.comp.now in
    let txs = c.args.txs.now in
    let events = comp.events.items in
    let i = c.loop-number.number in
    let tx = c.index-txs-number.result in
    let d = c.index.result.now in
    let within : i < length txs = c.loop-number-test.true in
    let at : slice_get txs i ≡ Some tx = slice_get_read txs (length txs) i tx refl within c.index-txs-number.is in
    let inside : tx.event < length events = subst (λ (t : Tx). t.event < length events) (sym c.index-txs-number.is) (c.requires.events i tx within) in
    let at_event = at_mapped (event_tree names) events events tx.event d refl inside c.index.ensures in
    let named = text_of-slice_get names d.name c.text-event.result.now c.text-event.ensures in
    let old = map (shown_hold names) c.loop-number.holds.items in
    record {
      shown = λ scope is_uses.
          next_tx scope (component_tree names comp) names c.args.uses.now txs i tx (event_tree names d) old (map (shown_hold names) c.push_holds.new.holds.items) (holds_of scope (starts_of (component_tree names comp) txs))
          is_uses at at_event
          (c.in_ok-push_holds.ensures.shown ∙ ap (λ (t : Text). old ++ map (moved i tx.start) (filter (is_on t) (map (shown_use names) c.args.uses.now))) (sym named))
          (c.loop-number.invariant.shown scope is_uses);
      numbered = c.push_holds.ensures.numbered c.loop-number.invariant.numbered;
    }
