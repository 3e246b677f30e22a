use Rattle.fil_sig.specs.Seen.{seen_delay}
use Rattle.fil_place.proofs.GeneralLemmas.{clash}
use Rattle.fil_rules.proofs.SharingLemmas.{meet_at}
use Rattle.fil_rules.proofs.sharing.apart.meeting_at.Goals as goal

pub returns : goal.returns
returns c events inst times others sig distinct are_own are_other has =
    meet_at events distinct sig inst times others c.args.number (seen_delay c.args.delay) has c.in_ok-own.own c.in_ok-other.other
    (c.in_ok-own.ensures.shown events times are_own) (c.in_ok-other.ensures.shown events others are_other)
    (λ apart. clash c.are_apart.result (c.are_apart.ensures.1 apart) c.if-are_apart.false) c.max.result c.max.ensures
