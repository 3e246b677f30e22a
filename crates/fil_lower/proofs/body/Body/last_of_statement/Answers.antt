use Rattle.std.proofs.Common.{◌≡◌, [], List, All, map, flat_map, Some, None, sym, ap, subst, ◌∙◌}
use Rattle.std.specs.Option.{option_map_or}
use Rattle.hw_names.proofs.NameLemmas.{text_of-slice_get}
use Rattle.fil_ast.specs.Scope.{instance_signature, invocations_at}
use Rattle.fil_ast.specs.Timeline.{interval_at}
use Rattle.fil_ast.specs.Tree.{statement_tree, time_tree}
use Rattle.fil_sig.specs.Seen.{seen, seen_port}
use Rattle.fil_sig.specs.declared.time_sig.SigPort.{SigPort}
use Rattle.fil_lower.specs.inside.Lowering.{wants_in}
use Rattle.fil_lower.specs.inside.Parts.{IsGoodPort, invocation_shown}
use Rattle.fil_lower.specs.inside.Place.{greatest}
use Rattle.fil_lower.proofs.BodyLemmas.{wanted_alone, wanted_of}
use Rattle.fil_lower.proofs.body.Body.last_of_statement.Goals as goal

pub last_of_call-requires-clause-ports : goal.last_of_call-requires-clause-ports
last_of_call-requires-clause-ports c =
    let (l, shows) = c.requires.body in
    let A : List SigPort → Type 0 = λ ps. All IsGoodPort (map seen_port ps) in
    subst A (sym c.deref.ensures.value) (shows.ports c.text.result.now (seen c.in-Some-sig.sig.now) (sym (c.in-Some-sig.ensures.meaning l.scope shows.instances)))

pub returns-in-Some-sig-clause-value : goal.returns-in-Some-sig-clause-value
returns-in-Some-sig-clause-value c = λ l shows.
    let own = c.args.self.now.names.now in
    let event = c.args.event.now in
    let v = invocation_shown own c.in-Some.call in
    let named = text_of-slice_get own c.in-Some.call.inst c.text.result.now c.text.ensures in
    let signed : instance_signature l.scope v.inst ≡ Some (seen c.in-Some-sig.sig.now) = ap (instance_signature l.scope) named ∙ sym (c.in-Some-sig.ensures.meaning l.scope shows.instances) in
    let wanted = λ (ps : List SigPort). flat_map (λ port. option_map_or (wants_in l event) (interval_at (map (time_tree own) c.in-Some.call.at.now) port) []) (map seen_port ps) in
    c.last_of_call.ensures.value l ∙ ap (λ ps. greatest (wanted ps)) c.deref.ensures.value
    ∙ sym (ap greatest (wanted_of l event v (Some (seen c.in-Some-sig.sig.now)) signed))
    ∙ wanted_alone l event (invocations_at (statement_tree own c.args.stmt.now)) v (c.in-Some.ensures.shown own)

pub returns-in-None-clause-value : goal.returns-in-None-clause-value
returns-in-None-clause-value c = λ l shows.
    let own = c.args.self.now.names.now in
    let event = c.args.event.now in
    let v = invocation_shown own c.in-Some.call in
    let named = text_of-slice_get own c.in-Some.call.inst c.text.result.now c.text.ensures in
    let signed : instance_signature l.scope v.inst ≡ None = ap (instance_signature l.scope) named ∙ sym (c.in-None.ensures.meaning l.scope shows.instances) in
    sym (ap greatest (wanted_of l event v None signed)) ∙ wanted_alone l event (invocations_at (statement_tree own c.args.stmt.now)) v (c.in-Some.ensures.shown own)
