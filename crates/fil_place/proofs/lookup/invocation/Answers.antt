use Rattle.std.proofs.Common.{◌≡◌, ◌+◌, ◌<◌, length, Contains, slice_get, sym, ap, ◌∙◌, arith}
use Rattle.std.specs.Option.{option_and_then}
use Rattle.fil_place.proofs.LookupLemmas.{invocation_place, no_invocation, no_invocation_before, not_found}
use Rattle.fil_place.proofs.lookup.invocation.Goals as goal

pub returns-in_err-number : goal.returns-in_err-number
returns-in_err-number c names earlier scope place =
    let tables = c.args.tables.now in
    let name = c.args.name.now in
    ap (option_and_then (slice_get scope.invocations)) c.from_residual.ensures
    ∙ sym (no_invocation names earlier c.args.comp.now tables scope place name (not_found (Contains tables.ports name) c.in_err-number.ensures.present))

pub returns-in_err-data : goal.returns-in_err-data
returns-in_err-data c names earlier scope place =
    let tables = c.args.tables.now in
    let comp = c.args.comp.now in
    let early : c.in_ok-number.field-0.0 < (length comp.gos.items + length comp.ins.items) + length comp.outs.items =
    omega (arith, c.in_err-data.ensures, c.len.ensures, comp.gos.ok.0) in
    ap (option_and_then (slice_get scope.invocations)) c.from_residual-in_err-data.ensures
    ∙ sym (no_invocation_before names earlier comp tables scope place c.args.name.now c.find.ensures.distinct c.in_ok-number.field-0.0 c.in_ok-number.ensures.text early)

pub returns-in_err-outs : goal.returns-in_err-outs
returns-in_err-outs c names earlier scope place =
    let tables = c.args.tables.now in
    let comp = c.args.comp.now in
    let early : c.in_ok-number.field-0.0 < (length comp.gos.items + length comp.ins.items) + length comp.outs.items =
    omega (arith, c.in_ok-data.ensures, c.in_err-outs.ensures, c.len.ensures, c.len-2.ensures, comp.gos.ok.0, comp.ins.ok.0) in
    ap (option_and_then (slice_get scope.invocations)) c.from_residual-in_err-outs.ensures
    ∙ sym (no_invocation_before names earlier comp tables scope place c.args.name.now c.find.ensures.distinct c.in_ok-number.field-0.0 c.in_ok-number.ensures.text early)

pub returns : goal.returns
returns c names earlier scope place =
    let comp = c.args.comp.now in
    let here : c.in_ok-number.field-0.0 ≡ (length comp.gos.items + length comp.ins.items) + c.in_ok-outs.outs =
    omega (arith, c.in_ok-data.ensures, c.in_ok-outs.ensures, c.len.ensures, c.len-2.ensures, comp.gos.ok.0, comp.ins.ok.0) in
    let count : c.len-3.result ≡ length comp.outs.items = omega (arith, c.len-3.ensures, comp.outs.ok.0) in
    invocation_place names earlier comp c.args.tables.now scope place c.args.name.now c.find.ensures.distinct c.in_ok-number.field-0.0 c.in_ok-number.ensures.text
    c.in_ok-outs.outs c.len-3.result c.checked_sub-3.result here count c.checked_sub-3.ensures
