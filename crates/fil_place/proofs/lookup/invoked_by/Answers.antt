use Rattle.std.proofs.Common.{ℕ, List, slice_get, option_map, ap, subst, ◌∙◌}
use Rattle.std.specs.Slice.{IsItemAt}
use Rattle.fil_place.specs.Tables.{instance_of}
use Rattle.fil_place.proofs.LookupLemmas.{invoked_at}
use Rattle.fil_place.proofs.lookup.invoked_by.Goals as goal

pub returns-in_err-place : goal.returns-in_err-place
returns-in_err-place c names earlier scope place =
    ap (option_map (slice_get c.args.tables.now.instances)) c.from_residual.ensures ∙ ap (option_map instance_of) (c.in_err-place.ensures names earlier scope place)

pub returns : goal.returns
returns c names earlier scope place =
    let tables = c.args.tables.now in
    let I : List ℕ → Type 0 = λ ns. IsItemAt ns c.in_ok-place.place c.get.result in
    ap (option_map (slice_get tables.instances)) c.copied.ensures
    ∙ invoked_at names earlier c.args.comp.now tables scope place c.in_ok-place.place c.get.result (subst I c.deref.ensures.value c.get.ensures.lookup)
    ∙ ap (option_map instance_of) (c.in_ok-place.ensures names earlier scope place)
