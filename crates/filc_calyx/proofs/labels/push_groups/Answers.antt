use Rattle.std.proofs.Common.{◌≡◌, ◌∙◌, ◌++◌, List, Vec, ℕ, Global, sym, ap}
use Rattle.std.specs.Prelude.{codes}
use Rattle.hw_names.proofs.NameLemmas.{text_of-slice_get}
use Rattle.hw_names.specs.Name.{Text, text_of}
use Rattle.cal_ast.specs.declared.tree.Group.{Group}
use Rattle.filc_calyx.specs.inside.Scheduling.{label_texts}
use Rattle.filc_calyx.proofs.LabelLemmas.{label_more}
use Rattle.filc_calyx.proofs.labels.push_groups.Goals as goal

pub loop-group-preserved : goal.loop-group-preserved
loop-group-preserved c =
    let names = c.args.names.now in
    let group = c.group-item.result in
    let label_of = λ (g : Group). codes " " ++ text_of names g.name in
    let named = text_of-slice_get names group.name c.text.result.now c.text.ensures in
    let label_is : c.in_ok-label.label.items ≡ label_of group = c.in_ok-label.ensures ∙ ap (λ (text : Text). codes " " ++ text) (sym named) in
    ap (λ (labels : List (Vec ℕ Global)). label_texts labels) c.in_ok-push.ensures.items
    ∙ label_more label_of c.args.groups.now c.loop-group.group-index group (label_texts c.args.labels.now.items) c.loop-group.labels.items c.in_ok-label.label c.loop-group-test.true
    (label_is ∙ ap label_of c.group-item.is) c.loop-group.invariant
