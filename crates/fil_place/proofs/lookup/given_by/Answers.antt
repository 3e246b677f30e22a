use Rattle.std.proofs.Common.{Bor, List, Vec, Global, option_map, ap, subst, ◌∙◌}
use Rattle.std.specs.Slice.{IsItemAt}
use Rattle.fil_place.specs.Tables.{times_of, times_shown}
use Rattle.fil_place.specs.declared.times.Offset.{Offset}
use Rattle.fil_place.proofs.LookupLemmas.{given_at}
use Rattle.fil_place.proofs.lookup.given_by.Goals as goal

pub returns-in_err-place : goal.returns-in_err-place
returns-in_err-place c names earlier scope place =
    ap (option_map (λ (at : Bor (Vec Offset Global)). times_shown c.args.tables.now.events at.now)) c.from_residual.ensures
    ∙ ap (option_map times_of) (c.in_err-place.ensures names earlier scope place)

pub returns : goal.returns
returns c names earlier scope place =
    let tables = c.args.tables.now in
    let I : List (Vec Offset Global) → Type 0 = λ ats. IsItemAt ats c.in_ok-place.place c.get.result in
    given_at names earlier c.args.comp.now tables scope place c.in_ok-place.place c.get.result (subst I c.deref.ensures.value c.get.ensures.lookup)
    ∙ ap (option_map times_of) (c.in_ok-place.ensures names earlier scope place)
