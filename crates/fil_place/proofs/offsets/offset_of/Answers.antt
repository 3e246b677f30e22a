use Rattle.std.proofs.Common.{Contains, Some, option_map, subst, sym, ap, ◌∙◌}
use Rattle.hw_names.specs.Name.{Text}
use Rattle.hw_names.proofs.NameLemmas.{text_of-slice_get}
use Rattle.fil_ast.specs.Tree.{TimeAt}
use Rattle.fil_place.proofs.LookupLemmas.{not_found}
use Rattle.fil_place.proofs.offsets.offset_of.Goals as goal

pub returns-in-Some : goal.returns-in-Some
returns-in-Some c there =
    let named = text_of-slice_get c.args.names.now c.args.time.event c.text.result.now c.text.ensures in
    let at_name : Text → TimeAt = λ name. record { event = name; plus = c.args.time.plus } in
    ap (option_map at_name) c.in-Some.ensures.text ∙ ap (λ (t : Text). Some (at_name t)) (sym named)

pub returns-in-None : goal.returns-in-None
returns-in-None c there =
    let named = text_of-slice_get c.args.names.now c.args.time.event c.text.result.now c.text.ensures in
    let C : Text → Type 0 = Contains c.args.events.now in
    absurd (not_found (Contains c.args.events.now c.text.result.now) c.in-None.ensures.present (subst C named there))
