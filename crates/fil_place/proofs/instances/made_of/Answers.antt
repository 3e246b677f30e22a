use Rattle.std.proofs.Common.{Contains, sym, ◌∙◌}
use Rattle.fil_place.proofs.MadeLemmas.{is_primitive, made_component, made_primitive, no_component, none_there}
use Rattle.fil_place.proofs.LookupLemmas.{not_found}
use Rattle.fil_place.proofs.instances.made_of.Goals as goal

pub returns-then-is_some : goal.returns-then-is_some
returns-then-is_some c comps shown =
    let name = c.args.name.now in
    let is = is_primitive name c.table_name.result c.is_some.result c.table_name.ensures c.is_some.ensures ∙ c.if-is_some.true in
    made_primitive name c.args.params.now is comps c.args.earlier.now c.primitive_made.result (c.primitive_made.ensures c.args.earlier.now)

pub returns-in-Some : goal.returns-in-Some
returns-in-Some c comps shown =
    let name = c.args.name.now in
    let is = is_primitive name c.table_name.result c.is_some.result c.table_name.ensures c.is_some.ensures ∙ c.if-is_some.false in
    made_component comps c.args.earlier.now shown name c.args.params.now is c.in-Some.number.0 (none_there c.args.params.now (sym c.is_empty.ensures ∙ c.if-not-is_empty.false)) c.find.ensures.distinct c.in-Some.ensures.text

pub returns-in-None : goal.returns-in-None
returns-in-None c comps shown =
    let name = c.args.name.now in
    let is = is_primitive name c.table_name.result c.is_some.result c.table_name.ensures c.is_some.ensures ∙ c.if-is_some.false in
    sym (no_component comps c.args.earlier.now shown name c.args.params.now is (not_found (Contains c.args.earlier.now.names name) c.in-None.ensures.present))
