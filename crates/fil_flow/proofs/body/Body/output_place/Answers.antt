use Rattle.std.proofs.Common.{rules, ◌+◌, ◌<◌, ◌^◌, arith}
use Rattle.std.proofs.lemmas.Bool.{false≢true}
use Rattle.std.proofs.lemmas.Option.{slice_get_within}
use Rattle.fil_ast.specs.Tree.{OutputValue}
use Rattle.fil_flow.proofs.BodyLemmas.{invocation_known, output_there}
use Rattle.fil_flow.proofs.body.Body.output_place.Goals as goal

pub invocation-invoked-requires : goal.invocation-invoked-requires
invocation-invoked-requires c =
    let (scope, held, known, is) = c.requires in
    let earlier = c.args.earlier.now in
    (earlier, scope, held, known, invocation_known earlier scope held c.args.self.now known c.args.invocation.now c.args.port.now is)

pub overflow_add-result : goal.overflow_add-result
overflow_add-result c =
    let (scope, held, known, is) = c.requires in
    let (n, at, at_invoked) = c.invocation-invoked.ensures.stands in
    let w = c.invocation-invoked.result in
    let k = c.in-Some.number in
    let there = known.output_places n k c.args.invocation.now c.args.port.now w at at_invoked c.in-Some.ensures.named in
    let within = slice_get_within held (w.first + k) (OutputValue c.args.invocation.now c.args.port.now) there in
    let fits : w.first + k < 2 ^ 64 = omega (arith, within, known.places, known.fits) in
    search (rules, fits)

pub unreachable-requires : goal.unreachable-requires
unreachable-requires c =
    let (scope, held, known, is) = c.requires in
    let earlier = c.args.earlier.now in
    false≢true (c.in-None.ensures.there
    (output_there earlier scope held c.args.self.now known c.args.invocation.now c.args.port.now c.invocation-invoked.result is
    (λ v found. c.invocation-invoked.ensures.calls earlier scope held v known found)))

pub returns : goal.returns
returns c scope held known =
    let (n, at, at_invoked) = c.invocation-invoked.ensures.stands in
    known.output_places n c.in-Some.number c.args.invocation.now c.args.port.now c.invocation-invoked.result at at_invoked c.in-Some.ensures.named
