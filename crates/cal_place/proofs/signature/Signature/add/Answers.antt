use Rattle.std.proofs.Common.{◌≡◌, length}
use Rattle.cal_place.specs.Signatures.{sided_names}
use Rattle.cal_place.proofs.SignatureLemmas.{port_added, ports_counted}
use Rattle.cal_place.proofs.signature.Signature.add.Goals as goal

pub returns-clause-ports : goal.returns-clause-ports
returns-clause-ports c ports shows =
    let s = c.args.self.now in
    let counted : length (sided_names ports) ≡ c.len.result = (let one = ports_counted s ports shows in let two = c.len.ensures in cc) in
    port_added s _ ports c.args.name.now c.args.pin (c.in_ok-add.ensures (sided_names ports) counted shows.names) c.in_ok-push.ensures.items shows
