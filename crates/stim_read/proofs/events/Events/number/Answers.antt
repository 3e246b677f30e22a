use Rattle.std.proofs.Common.{length}
use Rattle.std.proofs.lemmas.List.{length-map}
use Rattle.stim_read.specs.TxEvents.{event_seen, events_seen}
use Rattle.stim_read.proofs.TxEventLemmas.{number_by_place}
use Rattle.stim_read.proofs.events.Events.number.Goals as goal

pub returns-in-Named : goal.returns-in-Named
returns-in-Named c =
    number_by_place (events_seen c.args.self.now) (length c.args.self.now.inputs.items) c.args.name.now _ c.bytes.result.now c.place.result c.in-Named.is c.bytes.ensures c.requires
    (length-map c.args.self.now.inputs.items event_seen) c.place.ensures.place
