use Rattle.std.proofs.Common.{◌≡◌, ◌∙◌, ◌++◌, List, Vec, ℕ, Global, map, ap₂}
use Rattle.std.specs.Prelude.{codes, decimal}
use Rattle.hw_names.specs.Name.{Text, text_of}
use Rattle.cal_ast.specs.declared.tree.Group.{Group}
use Rattle.cal_walk.specs.declared.planning.Invoke.{Invoke}
use Rattle.filc_calyx.specs.inside.Scheduling.{label_texts}
use Rattle.filc_calyx.proofs.LabelLemmas.{labels_are}
use Rattle.filc_calyx.proofs.labels.labels_of.Goals as goal

pub returns : goal.returns
returns c = λ comp is control_is.
    let names = c.args.names.now in
    let control = c.args.control.now in
    let of_groups = map (λ (group : Group). codes " " ++ text_of names group.name) in
    let of_invokes = map (λ (invoke : Invoke). codes " #" ++ decimal invoke.item) in
    let groups : label_texts c.push_groups.new.labels.items ≡ of_groups control.comp.now.groups.items =
    c.in_ok-push_groups.ensures
    ∙ ap₂ (λ (labels : List (Vec ℕ Global)) (items : List Group). label_texts labels ++ of_groups items) c.new-labels.ensures.items c.deref.ensures.value in
    labels_are names control comp (label_texts c.push_invokes.new.labels.items) is control_is
    (c.in_ok-push_invokes.ensures ∙ ap₂ (λ (front : List Text) (items : List Invoke). front ++ of_invokes items) groups c.deref-2.ensures.value)
