use Rattle.std.proofs.Common.{◌≡◌, ◌++◌, ◌∷◌, [], List, sym, ap, ◌∙◌, append_assoc, append-nil}
use Rattle.hw_names.specs.declared.names.NameId.{NameId}
use Rattle.net_core.specs.declared.net.Guard.{Guard}
use Rattle.net_guard.proofs.tops.into_vec.Goals as goal

pub loop-guard-init : goal.loop-guard-init
loop-guard-init c = ap (λ (gs : List (Guard NameId)). gs ++ c.args.list) c.in_ok-guards.ensures.items

pub loop-guard-preserved : goal.loop-guard-preserved
loop-guard-preserved c =
    let guards = c.loop-guard.guards.items in
    let guard = c.in-Some.guard in
    let rest = c.pop_front.new.self in
    let popped : c.loop-guard.list ≡ guard ∷ rest = c.in-Some.ensures.items in
    ap (λ (gs : List (Guard NameId)). gs ++ rest) c.in_ok-push.ensures.items ∙ append_assoc guards (guard ∷ []) rest
    ∙ ap (λ (gs : List (Guard NameId)). guards ++ gs) (sym popped) ∙ c.loop-guard.invariant

pub returns : goal.returns
returns c =
    let guards = c.loop-guard.guards.items in
    let popped : c.loop-guard.list ≡ [] = c.in_default.ensures.cases.0 in
    sym (append-nil guards) ∙ ap (λ (gs : List (Guard NameId)). guards ++ gs) (sym popped) ∙ c.loop-guard.invariant
