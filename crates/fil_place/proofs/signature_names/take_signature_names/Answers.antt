use Rattle.std.proofs.Common.{List, All, Ok, ap, sym, subst, ◌∙◌}
use Rattle.hw_names.specs.Name.{Text, AreDistinct}
use Rattle.hw_names.specs.declared.names.NameId.{NameId}
use Rattle.fil_ast.specs.Numbers.{IsNumberOf}
use Rattle.fil_place.proofs.NameLemmas.{event_numbers, port_numbers}
use Rattle.fil_place.proofs.SignatureLemmas.{events_put, ports_put}
use Rattle.fil_place.proofs.signature_names.take_signature_names.Goals as goal

pub take_names-requires-clause-numbered : goal.take_names-requires-clause-numbered
take_names-requires-clause-numbered c =
    let A : List NameId → Type 0 = All (IsNumberOf c.args.names.now) in
    subst A (sym (c.deref.ensures.value ∙ c.in_ok-event_names.ensures)) (event_numbers c.args.names.now c.args.comp.now c.requires.numbered)

pub returns-then-not-branch-clause-there : goal.returns-then-not-branch-clause-there
returns-then-not-branch-clause-there c is distinct =
    let D : List Text → Type 0 = AreDistinct in
    let put = events_put c.args.names.now c.args.comp.now c.args.events.now c.deref.result.now c.requires.no_events (c.deref.ensures.value ∙ c.in_ok-event_names.ensures) in
    c.in_ok-take_names.ensures.there (ap Ok c.if-not-branch.true) (subst D (sym put) distinct.0)

pub take_names-requires-2-clause-numbered : goal.take_names-requires-2-clause-numbered
take_names-requires-2-clause-numbered c =
    let A : List NameId → Type 0 = All (IsNumberOf c.args.names.now) in
    subst A (sym (c.deref-2.ensures.value ∙ c.in_ok-port_names.ensures)) (port_numbers c.args.names.now c.args.comp.now c.requires.numbered)

pub returns-clause-events : goal.returns-clause-events
returns-clause-events c is =
    (c.in_ok-take_names.ensures.new (ap Ok c.if-not-branch.false)).0
    ∙ events_put c.args.names.now c.args.comp.now c.args.events.now c.deref.result.now c.requires.no_events (c.deref.ensures.value ∙ c.in_ok-event_names.ensures)

pub returns-clause-ports : goal.returns-clause-ports
returns-clause-ports c is =
    (c.take_names-2.ensures.new is).0
    ∙ ports_put c.args.names.now c.args.comp.now c.args.ports.now c.deref-2.result.now c.requires.no_ports (c.deref-2.ensures.value ∙ c.in_ok-port_names.ensures)

pub returns-clause-new : goal.returns-clause-new
returns-clause-new c is =
    let D : List Text → Type 0 = AreDistinct in
    (subst D (returns-clause-events c is) (c.in_ok-take_names.ensures.new (ap Ok c.if-not-branch.false)).1, subst D (returns-clause-ports c is) (c.take_names-2.ensures.new is).1)

pub returns-clause-there : goal.returns-clause-there
returns-clause-there c is distinct =
    let D : List Text → Type 0 = AreDistinct in
    let put = ports_put c.args.names.now c.args.comp.now c.args.ports.now c.deref-2.result.now c.requires.no_ports (c.deref-2.ensures.value ∙ c.in_ok-port_names.ensures) in
    c.take_names-2.ensures.there is (subst D (sym put) distinct.1)
