use Rattle.std.proofs.Common.{◌≡◌, ◌++◌, List, All, Option, Some, None, map, sym, ap, subst, ◌∙◌}
use Rattle.std.specs.Prelude.{OnOk}
use Rattle.std.proofs.lemmas.List.{append-nil}
use Rattle.hw_names.specs.Name.{text_of}
use Rattle.hw_names.proofs.NameLemmas.{text_of-slice_get}
use Rattle.fil_ast.specs.Holds.{uses_by, uses_from}
use Rattle.fil_ast.specs.Scope.{Invocation, instance_signature}
use Rattle.fil_ast.specs.Signature.{Signature}
use Rattle.fil_ast.specs.Tree.{time_tree}
use Rattle.fil_sig.proofs.ListLemmas.{All-unmap}
use Rattle.fil_sig.specs.Seen.{seen, seen_event}
use Rattle.fil_sig.specs.declared.time_sig.SigEvent.{SigEvent}
use Rattle.fil_share.specs.Instances.{HasSmallDelay}
use Rattle.fil_share.specs.Uses.{Held, held, held_by, shown_use}
use Rattle.fil_share.proofs.uses.push_uses.Goals as goal

pub push_events-requires-clause-delays : goal.push_events-requires-clause-delays
push_events-requires-clause-delays c =
    let small = c.in-Some.ensures.small c.requires.shown.0 c.requires.shown.1 in
    let P : List SigEvent → Type 0 = λ es. All (λ (e : SigEvent). HasSmallDelay (seen_event e)) es in
    subst P (sym c.deref.ensures.value) (All-unmap HasSmallDelay seen_event c.in-Some.sig.now.events.items small.delays)

pub returns-in-Some-clause-meaning : goal.returns-in-Some-clause-meaning
returns-in-Some-clause-meaning c scope args shown =
    let names = c.args.names.now in
    let call = text_of names c.args.call in
    let inst = text_of names c.args.inst in
    let times = map (time_tree names) c.args.at.now in
    let v : Invocation = record { name = call; inst = inst; gives = record { times = times; args = args } } in
    let named = text_of-slice_get names c.args.inst c.text.result.now c.text.ensures in
    let signed : Some (seen c.in-Some.sig.now) ≡ instance_signature scope inst = c.in-Some.ensures.meaning scope shown ∙ ap (instance_signature scope) (sym named) in
    let same : map (held call) (uses_from 0 (map seen_event c.deref.result.now) inst times) ≡ held_by scope v =
    ap (λ es. map (held call) (uses_from 0 (map seen_event es) inst times)) c.deref.ensures.value ∙ ap (λ (o : Option Signature). map (held call) (uses_by v o)) signed in
    let P : List Held → Type 0 = λ hs. OnOk c.push_events.result (map (shown_use names) c.push_events.new.uses.items ≡ map (shown_use names) c.args.uses.now.items ++ hs) in
    subst P same (c.push_events.ensures.meaning names)

pub returns-in-None-clause-meaning : goal.returns-in-None-clause-meaning
returns-in-None-clause-meaning c scope args shown =
    let names = c.args.names.now in
    let call = text_of names c.args.call in
    let inst = text_of names c.args.inst in
    let times = map (time_tree names) c.args.at.now in
    let v : Invocation = record { name = call; inst = inst; gives = record { times = times; args = args } } in
    let named = text_of-slice_get names c.args.inst c.text.result.now c.text.ensures in
    let signed : ◌≡◌ {A = Option Signature} None (instance_signature scope inst) = c.in-None.ensures.meaning scope shown ∙ ap (instance_signature scope) (sym named) in
    sym (append-nil (map (shown_use names) c.args.uses.now.items)) ∙ ap (λ (o : Option Signature). map (shown_use names) c.args.uses.now.items ++ map (held call) (uses_by v o)) signed
