use Rattle.std.proofs.Common.{Option, Some, sym, subst, refl}
use Rattle.std.specs.Prelude.{IfOk}
use Rattle.hw_names.specs.Name.{text_of}
use Rattle.hw_names.specs.declared.names.NameId.{NameId}
use Rattle.net_core.specs.Guard.{guard_option, guard_tree, holds}
use Rattle.net_core.specs.declared.net.Guard.{Guard}
use Rattle.net_sim.proofs.FlattenLemmas.{if_ok, adds_some, adds_none}
use Rattle.net_sim.specs.inside.Flattening.{AddsGuard, AddsTests}
use Rattle.net_sim.proofs.flatten.add_option.Goals as goal

pub returns-in-Some : goal.returns-in-Some
returns-in-Some c =
    let texts = text_of c.args.names.now in
    let old = c.args.tests.now.items in
    let new = c.add_guard.new.tests.items in
    let tree = guard_tree texts c.in-Some.guard in
    let is : Option (Guard NameId) → Type 0 = λ (g : Option (Guard NameId)). IfOk c.add_guard.result (AddsGuard c.args.ports.now old new (guard_option texts g)) in
    subst is (sym c.in-Some.is)
    (if_ok c.add_guard.result
    (AddsTests c.args.ports.now old new (record { yes = 1; no = 0 }) (λ row. holds row tree))
    (AddsGuard c.args.ports.now old new (Some tree))
    (λ start added. adds_some c.args.ports.now old new (record { yes = 1; no = 0 }) tree start refl refl added)
    c.add_guard.ensures)

pub returns-in-None : goal.returns-in-None
returns-in-None c =
    let texts = text_of c.args.names.now in
    let old = c.args.tests.now.items in
    let is : Option (Guard NameId) → Type 0 = λ (g : Option (Guard NameId)). AddsGuard c.args.ports.now old old (guard_option texts g) 1 in
    subst is (sym c.in-None.is) (adds_none c.args.ports.now old)
