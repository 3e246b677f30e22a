use Rattle.std.proofs.Common.{◌≡◌, max, map, flat_map, sym, ap, ◌∙◌}
use Rattle.fil_share.specs.Uses.{held_by, shown_use}
use Rattle.fil_lower.specs.inside.Place.{greatest, wanted_by_ports, wanted_by_uses}
use Rattle.fil_lower.proofs.WantLemmas.{greatest_wanted}
use Rattle.fil_lower.proofs.body.Body.last_bit.Goals as goal

pub returns-clause-value : goal.returns-clause-value
returns-clause-value c = λ l shows.
    let own = c.args.self.now.names.now in
    let event = c.args.event.now in
    let uses : c.last_of_uses.result ≡ greatest (wanted_by_uses event (flat_map (held_by l.scope) l.scope.invocations)) =
    c.last_of_uses.ensures.value ∙ ap (λ us. greatest (wanted_by_uses event us)) (ap (map (shown_use own)) c.deref.ensures.value ∙ shows.uses) in
    c.max.ensures
    ∙ ap (λ n. max n c.last_of_uses.result) (c.last_of_arguments.ensures.value l shows)
    ∙ ap (max (greatest (flat_map (wanted_by_ports l event) l.scope.invocations))) uses
    ∙ sym (greatest_wanted l event l.scope.invocations)
