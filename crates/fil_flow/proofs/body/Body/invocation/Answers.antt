use Rattle.std.proofs.Common.{length, refl, arith}
use Rattle.std.proofs.lemmas.Bool.{false≢true}
use Rattle.std.proofs.lemmas.Option.{slice_get_read}
use Rattle.fil_flow.proofs.BodyLemmas.{invocation_calls, invocation_unknown, invocation_within}
use Rattle.fil_flow.proofs.body.Body.invocation.Goals as goal

pub index-requires : goal.index-requires
index-requires c =
    let (earlier, scope, held, known, is) = c.requires in
    let body = c.args.self.now in
    let within = invocation_within earlier scope held body known c.in-Some.number.0 c.args.name.now c.in-Some.ensures.text in
    omega (arith, within, body.invoked.ok.0)

pub unreachable-requires : goal.unreachable-requires
unreachable-requires c =
    let (earlier, scope, held, known, is) = c.requires in
    invocation_unknown earlier scope held c.args.self.now known c.args.name.now (λ there. false≢true (c.in-None.ensures.present.1 there)) is

pub returns-clause-calls : goal.returns-clause-calls
returns-clause-calls c earlier scope held v known found =
    let body = c.args.self.now in
    let n = c.in-Some.number.0 in
    let within = invocation_within earlier scope held body known n c.args.name.now c.in-Some.ensures.text in
    let at = slice_get_read body.invoked.items (length body.invoked.items) n c.index.result.now refl within c.index.ensures in
    invocation_calls earlier scope held body known n c.args.name.now v c.index.result.now c.in-Some.ensures.distinct c.in-Some.ensures.text at found

pub returns-clause-stands : goal.returns-clause-stands
returns-clause-stands c =
    let (earlier, scope, held, known, is) = c.requires in
    let body = c.args.self.now in
    let n = c.in-Some.number.0 in
    let within = invocation_within earlier scope held body known n c.args.name.now c.in-Some.ensures.text in
    (n, c.in-Some.ensures.text, slice_get_read body.invoked.items (length body.invoked.items) n c.index.result.now refl within c.index.ensures)
