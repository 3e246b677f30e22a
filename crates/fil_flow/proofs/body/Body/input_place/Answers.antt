use Rattle.std.proofs.lemmas.Bool.{false≢true}
use Rattle.fil_flow.proofs.BodyLemmas.{input_unknown}
use Rattle.fil_flow.proofs.body.Body.input_place.Goals as goal

pub unreachable-requires : goal.unreachable-requires
unreachable-requires c =
    let (earlier, scope, held, known, is) = c.requires in
    input_unknown earlier scope held c.args.self.now known c.args.name.now (λ there. false≢true (c.in-None.ensures.present.1 there)) is
