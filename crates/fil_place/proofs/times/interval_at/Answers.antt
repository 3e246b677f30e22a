use Rattle.fil_sig.specs.Seen.{seen_port}
use Rattle.fil_place.proofs.TimeLemmas.{got_some, interval_shown}
use Rattle.fil_place.proofs.times.interval_at.Goals as goal

pub returns-clause-shown : goal.returns-clause-shown
returns-clause-shown c events times are =
    let at = c.args.at.now in
    let port = c.args.port.now in
    interval_shown events at times are (seen_port port) c.in_ok-start.start.now c.in_ok-end.end.now
    (got_some at port.from.event c.get.result c.in_ok-start.start c.get.ensures.lookup c.in_ok-start.was)
    (got_some at port.to.event c.get-2.result c.in_ok-end.end c.get-2.ensures.lookup c.in_ok-end.was)
