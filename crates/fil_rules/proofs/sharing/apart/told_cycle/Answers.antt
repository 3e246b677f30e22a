use Rattle.std.proofs.Common.{◌≡◌, ◌≤◌, get_or, length, slice_get, Some, sym, ap, ◌∙◌, arith}
use Rattle.std.proofs.lemmas.Option.{same_Some, slice_get-get_or}
use Rattle.fil_ast.specs.Scope.{Invocation}
use Rattle.fil_sig.specs.Seen.{seen}
use Rattle.fil_rules.proofs.SharingLemmas.{apart_all, apart_from, apart_more, call_at, given_times, meets_first}
use Rattle.fil_rules.proofs.sharing.apart.told_cycle.Goals as goal

pub returns-in-Some : goal.returns-in-Some
returns-in-Some c names comp with v is =
    let tables = c.args.tables.now in
    let calls = c.args.calls.now in
    let sig = seen c.args.sig.now in
    let at = c.args.at.now in
    let n = c.loop-call.call-index in
    let call = get_or calls n 0 in
    let here : slice_get calls n ≡ Some call = slice_get-get_or calls n 0 c.loop-call-test.true in
    let w = call_at names comp tables calls sig at with v is n call here in
    let others = given_times names comp tables calls sig at with v is call c.times_given.result.now w.0 c.times_given.ensures w.1 in
    meets_first names comp tables calls sig at with v is n call c.in-Some.cycle w.0 here w.1 w.2 (c.loop-call.invariant names comp with v is)
    (c.in-Some.ensures tables.events v.inst v.gives.times w.0.gives.times is.distinct is.own_times others)

pub loop-call-preserved : goal.loop-call-preserved
loop-call-preserved c names comp with v is =
    let tables = c.args.tables.now in
    let calls = c.args.calls.now in
    let sig = seen c.args.sig.now in
    let at = c.args.at.now in
    let n = c.loop-call.call-index in
    let call = get_or calls n 0 in
    let here : slice_get calls n ≡ Some call = slice_get-get_or calls n 0 c.loop-call-test.true in
    apart_more names comp tables calls sig at with v is n call here (c.loop-call.invariant names comp with v is)
    (λ w there.
    let found = call_at names comp tables calls sig at with v is n call here in
    let same = same_Some found.0 w (sym found.1 ∙ there) in
    let named = ap (λ (x : Invocation). x.inst) (sym same) ∙ found.2 in
    let others = given_times names comp tables calls sig at with v is call c.times_given.result.now w c.times_given.ensures there in
    apart_from names comp tables calls sig at with v is w named (c.in_default.ensures tables.events v.inst v.gives.times w.gives.times is.distinct is.own_times others))

pub returns : goal.returns
returns c names comp with v is =
    let calls = c.args.calls.now in
    let end : length calls ≤ c.loop-call.call-index = omega arith in
    apart_all names comp c.args.tables.now calls (seen c.args.sig.now) c.args.at.now with v is c.loop-call.call-index end (c.loop-call.invariant names comp with v is)
