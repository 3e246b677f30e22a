use Rattle.std.proofs.Common.{length, refl, arith}
use Rattle.std.proofs.lemmas.Bool.{false≢true}
use Rattle.std.proofs.lemmas.Option.{slice_get_read}
use Rattle.fil_flow.proofs.BodyLemmas.{instance_made, instance_unknown, instance_within}
use Rattle.fil_flow.proofs.body.Body.callee.Goals as goal

pub index-requires : goal.index-requires
index-requires c =
    let (earlier, scope, held, known, is) = c.requires in
    let body = c.args.self.now in
    let within = instance_within earlier scope held body known c.in-Some.number.0 c.args.name.now c.in-Some.ensures.text in
    omega (arith, within, body.made.ok.0)

pub unreachable-requires : goal.unreachable-requires
unreachable-requires c =
    let (earlier, scope, held, known, is) = c.requires in
    instance_unknown earlier scope held c.args.self.now known c.args.name.now (λ there. false≢true (c.in-None.ensures.present.1 there)) is

pub returns : goal.returns
returns c earlier scope held i known found =
    let body = c.args.self.now in
    let n = c.in-Some.number.0 in
    let within = instance_within earlier scope held body known n c.args.name.now c.in-Some.ensures.text in
    let at = slice_get_read body.made.items (length body.made.items) n c.index.result.now refl within c.index.ensures in
    instance_made earlier scope held body known n c.args.name.now i c.index.result.now c.in-Some.ensures.distinct c.in-Some.ensures.text at found
