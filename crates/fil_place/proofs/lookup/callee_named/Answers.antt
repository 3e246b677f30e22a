use Rattle.std.proofs.Common.{Bor, Contains, option_map, sym, ap, ◌∙◌}
use Rattle.fil_place.specs.declared.callee.Callee.{Callee}
use Rattle.fil_place.proofs.LookupLemmas.{not_found, no_instance}
use Rattle.fil_place.proofs.lookup.callee_named.Goals as goal

pub returns-in_err-instance : goal.returns-in_err-instance
returns-in_err-instance c names comp scope place =
    let tables = c.args.tables.now in
    ap (option_map (λ (callee : Bor Callee). callee.now)) c.from_residual.ensures
    ∙ sym (no_instance names c.args.earlier.now comp tables scope place c.args.name.now (not_found (Contains tables.instances c.args.name.now) c.in_err-instance.ensures.present))
