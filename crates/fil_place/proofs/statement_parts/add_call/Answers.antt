use Rattle.std.proofs.Common.{◌<◌, length, arith}
use Rattle.fil_place.proofs.AddLemmas.{call_put}
use Rattle.fil_place.proofs.statement_parts.add_call.Goals as goal

pub returns-in_ok-push : goal.returns-in_ok-push
returns-in_ok-push c =
    let within : c.args.instance < length c.args.calls.now.items = omega arith in
    call_put c.args.calls.now.items c.args.instance c.args.number c.index_mut.result.now c.push.new.self within c.index_mut.ensures.value c.in_ok-push.ensures.items
