use Rattle.std.proofs.Common.{◌≡◌, List, map, sym, ap, subst, ◌∙◌}
use Rattle.fil_sig.specs.Seen.{seen}
use Rattle.fil_sig.specs.declared.time_sig.SigEvent.{SigEvent}
use Rattle.hw_names.specs.Name.{Text, AreDistinct}
use Rattle.stim_read.specs.TxEvents.{event_names}
use Rattle.stim_read.proofs.TxEventLemmas.{names_seen}
use Rattle.stim_read.proofs.events.Events.of.Goals as goal

pub names_of-requires : goal.names_of-requires
names_of-requires c =
    let D : List Text → Type 0 = AreDistinct in
    let same : map (λ (e : SigEvent). e.name) c.deref.result.now ≡ event_names (seen c.args.sig.now) =
    ap (map (λ (e : SigEvent). e.name)) c.deref.ensures.value ∙ names_seen c.args.sig.now.events.items in
    subst D (sym same) c.requires.events

pub returns : goal.returns
returns c =
    let names : c.in_ok-names.names ≡ event_names (seen c.args.sig.now) =
    c.in_ok-names.ensures ∙ ap (map (λ (e : SigEvent). e.name)) c.deref.ensures.value ∙ names_seen c.args.sig.now.events.items in
    (λ i. record { names = names i; events = c.in_ok-inputs.ensures i })
