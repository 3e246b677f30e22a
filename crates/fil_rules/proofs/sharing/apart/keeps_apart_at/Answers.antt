use Rattle.fil_rules.proofs.ListedLemmas.{none_apart, room_apart}
use Rattle.fil_sig.specs.Seen.{seen_delay}
use Rattle.fil_rules.proofs.sharing.apart.keeps_apart_at.Goals as goal

pub returns-in-Some : goal.returns-in-Some
returns-in-Some c names comp sig with v is lists has room =
    room_apart names comp c.args.tables.now c.args.instance sig c.args.at.now with v is lists c.args.number (seen_delay c.args.delay) has c.in-Some.own
    (c.in-Some.ensures.shown c.args.tables.now.events v.gives.times is.own_times) (c.has_room.ensures room)

pub returns-in-None : goal.returns-in-None
returns-in-None c names comp sig with v is lists has room =
    none_apart names comp c.args.tables.now c.args.instance sig c.args.at.now with v is lists c.args.number (seen_delay c.args.delay) has
    (c.in-None.ensures.shown c.args.tables.now.events v.gives.times is.own_times)
