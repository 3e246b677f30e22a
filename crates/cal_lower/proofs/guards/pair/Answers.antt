use Rattle.std.proofs.Common.{List, [], ◌∷◌, ◌++◌, sym, ap, subst, ◌∙◌}
use Rattle.net_core.specs.declared.net.Guard.{Guard}
use Rattle.cal_ast.specs.Numbers.{GuardHasNumbers}
use Rattle.cal_ast.specs.declared.tree.CalPort.{CalPort}
use Rattle.cal_lower.specs.inside.Shown.{ShowsGuards, seen_guard}
use Rattle.cal_lower.proofs.GrownLemmas.{show_append, show_one}
use Rattle.cal_lower.proofs.guards.pair.Goals as goal

pub returns : goal.returns
returns c = λ names one other left right.
    let P : List (Guard CalPort) → Type 0 = ShowsGuards names (one ∷ other ∷ []) in
    let first = show_one GuardHasNumbers seen_guard names one c.args.left left in
    let second = show_one GuardHasNumbers seen_guard names other c.args.right right in
    let items = c.in_ok-push-2.ensures.items ∙ ap (λ (l : List (Guard CalPort)). l ++ c.args.right ∷ []) (c.in_ok-push.ensures.items ∙ ap (λ (l : List (Guard CalPort)). l ++ c.args.left ∷ []) c.in_ok-guards.ensures.items) in
    subst P (sym items) (show_append GuardHasNumbers seen_guard names (one ∷ []) (other ∷ []) (c.args.left ∷ []) (c.args.right ∷ []) first second)
