use Rattle.std.proofs.Common.{[], Some, refl, sym, ap, ◌∙◌}
use Rattle.fil_sig.specs.Seen.{seen}
use Rattle.fil_place.proofs.MadeLemmas.{as_primitive, primitive_outputs, primitive_times, refused_primitive}
use Rattle.fil_place.proofs.instances.primitive_made.Goals as goal

pub make-requires-clause-times : goal.make-requires-clause-times
make-requires-clause-times c =
    let name = c.args.name.now in
    let params = c.args.params.now in
    let sig = seen c.in-Ok.sig in
    primitive_times name params sig (as_primitive name params c.requires sig (c.in-Ok.ensures.made [] refl))

pub make-requires-clause-outputs : goal.make-requires-clause-outputs
make-requires-clause-outputs c =
    let name = c.args.name.now in
    let params = c.args.params.now in
    let sig = seen c.in-Ok.sig in
    primitive_outputs name params sig (as_primitive name params c.requires sig (c.in-Ok.ensures.made [] refl))

pub returns-in_ok-make-in-Ok : goal.returns-in_ok-make-in-Ok
returns-in_ok-make-in-Ok c earlier =
    let name = c.args.name.now in
    let params = c.args.params.now in
    let sig = seen c.in-Ok.sig in
    ap Some c.in_ok-make-in-Ok.ensures ∙ sym (as_primitive name params c.requires sig (c.in-Ok.ensures.made [] refl))

pub returns-in-Err-Refused : goal.returns-in-Err-Refused
returns-in-Err-Refused c earlier = sym (refused_primitive c.args.name.now c.args.params.now c.requires c.in-Err-Refused.field-0 _ c.in-Err-Refused.field-0-is (c.in-Err-Refused.ensures.refused [] refl))
