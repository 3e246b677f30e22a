use Rattle.std.proofs.Common.{◌++◌, ◌∷◌, [], List, ap, refl, sym, subst, ◌∙◌}
use Rattle.hw_names.specs.declared.names.NameId.{NameId}
use Rattle.net_core.specs.declared.net.Guard.{Guard}
use Rattle.net_guard.proofs.GatherLemmas.{no_guards, one_guard}
use Rattle.net_guard.specs.inside.Folding.{AreGuardsOf, GatheredHasNumbers, gathered_trees, open_tree}
use Rattle.net_guard.specs.declared.list.Gathered.{Gathered}
use Rattle.net_guard.proofs.list.Gathered.guards.Goals as goal

pub returns-in-Empty : goal.returns-in-Empty
returns-in-Empty c = λ names has.
    let G : Gathered → Type 0 = λ kept. AreGuardsOf names (gathered_trees names kept) c.new.result in
    subst G (sym c.in-Empty.is) (no_guards names c.new.result c.new.ensures)

pub returns-in_ok-push_back-in-One : goal.returns-in_ok-push_back-in-One
returns-in_ok-push_back-in-One c = λ names has.
    let N : Gathered → Type 0 = GatheredHasNumbers names in
    let G : Gathered → Type 0 = λ kept. AreGuardsOf names (gathered_trees names kept) c.push_back.new.self in
    let numbers = subst N c.in-One.is has in
    let guard = c.in_ok-guard-in-One.field-0 in
    let one = c.in_ok-push_back-in-One.ensures.items ∙ ap (λ (gs : List (Guard NameId)). gs ++ guard ∷ []) c.new-guards.ensures in
    subst G (sym c.in-One.is) (one_guard names (open_tree names c.in-One.first) c.push_back.new.self guard one (c.in_ok-guard-in-One.ensures names numbers))

pub returns-in-Many : goal.returns-in-Many
returns-in-Many c = λ names has.
    let N : Gathered → Type 0 = GatheredHasNumbers names in
    let G : Gathered → Type 0 = λ kept. AreGuardsOf names (gathered_trees names kept) c.in-Many.guards in
    subst G (sym c.in-Many.is) (record { numbers = subst N c.in-Many.is has; trees = refl })
