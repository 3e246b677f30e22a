use Rattle.std.proofs.Common.{◌++◌, ◌∷◌, [], ap₂, sym, ◌∙◌}
use Rattle.hw_names.proofs.NameLemmas.{text_of-slice_get}
use Rattle.hw_names.specs.Name.{Text, dot}
use Rattle.net_flat.specs.declared.instances.Instance.{Instance}
use Rattle.net_flat.proofs.FoundLemmas.{child_some}
use Rattle.net_flat.proofs.instances.put_child.Goals as goal

pub returns-in_ok-push-in-Some : goal.returns-in_ok-push-in-Some
returns-in_ok-push-in-Some c = λ trees path at h.
    let d = c.args.design.now in
    let cell = c.args.cell.now in
    let i : Instance = record { prefix = c.in_ok-prefix-in-Some.prefix; comp = c.in-Some.comp } in
    let named = text_of-slice_get d.names cell.name c.text.result.now c.text.ensures in
    let longer = c.in_ok-prefix-in-Some.ensures ∙ ap₂ (λ (before name : Text). before ++ name ++ dot ∷ []) at (sym named) in
    rw c.in_ok-push-in-Some.ensures.items (child_some d path cell trees c.args.found.now.items h i c.in-Some.ensures.numbers longer (sym c.in-Some.ensures.part))
