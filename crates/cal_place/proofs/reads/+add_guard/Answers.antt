use Rattle.std.proofs.Common.{◌≡◌, ◌∙◌, List, ◌++◌, Some, map, slice_get, All, sym, ap, ap₂, subst, subst₂}
use Rattle.std.specs.Prelude.{OnOk}
use Rattle.std.proofs.lemmas.List.{take_all}
use Rattle.std.proofs.lemmas.Option.{slice_get-get_or}
use Rattle.std.proofs.lemmas.Result.{on_ok_weaker}
use Rattle.net_core.specs.Graph.{guard_ports, guards_ports, source_ports}
use Rattle.net_core.specs.Guard.{guards_of, guard_tree, source_tree}
use Rattle.net_core.specs.declared.net.Guard.{Guard}
use Rattle.net_core.specs.declared.net.Src.{Src}
use Rattle.cal_ast.specs.Numbers.{GuardHasNumbers, SourceHasNumbers}
use Rattle.cal_ast.specs.Tree.{PortName, port_tree}
use Rattle.cal_ast.specs.declared.tree.CalPort.{CalPort}
use Rattle.cal_place.specs.ReadPorts.{AddsPorts}
use Rattle.cal_place.proofs.ReadLemmas.{adds_both, adds_none, guard_list, guards_next}
use Rattle.cal_place.proofs.RowLemmas.{list_numbers}
use Rattle.cal_place.proofs.reads.+add_guard.Goals as goal

pub add_guard-returns-in-Read : goal.add_guard-returns-in-Read
add_guard-returns-in-Read t c names numbers =
    let own = subst (λ (g : Guard CalPort). GuardHasNumbers names g) c.in-Read.is (c.loop-inner.invariant.numbers names numbers) in
    let read = subst (λ (s : Src CalPort). SourceHasNumbers names s) (sym c.deref.ensures) own in
    let same =
    ap (λ (s : Src CalPort). source_ports (source_tree (port_tree names) s)) c.deref.ensures
    ∙ ap (λ (g : Guard CalPort). guard_ports (guard_tree (port_tree names) g)) (sym c.in-Read.is) ∙ c.loop-inner.invariant.reads names in
    subst₂ (λ (l : List PortName) (x : List CalPort). OnOk c.add_source.result (AddsPorts names x c.add_source.new.ports.items l)) same c.loop-inner.invariant.ports (c.add_source.ensures names read)

pub add_guard-returns-in-Test : goal.add_guard-returns-in-Test
add_guard-returns-in-Test t c names numbers =
    let tree = port_tree names in
    let own = subst (λ (g : Guard CalPort). GuardHasNumbers names g) c.in-Test.is (c.loop-inner.invariant.numbers names numbers) in
    let one = subst (λ (s : Src CalPort). SourceHasNumbers names s) (sym c.deref-in-Test.ensures) own.0 in
    let other = subst (λ (s : Src CalPort). SourceHasNumbers names s) (sym c.deref-in-Test-2.ensures) own.1 in
    let ports = λ (s : Src CalPort). source_ports (source_tree tree s) in
    let left = ports c.deref-in-Test.result.now in
    let right = ports c.deref-in-Test-2.result.now in
    let mid = c.add_source-in-Test.new.ports.items in
    let new = c.add_source-in-Test-2.new.ports.items in
    let same =
    ap₂ (λ (l : List PortName) (r : List PortName). l ++ r) (ap ports c.deref-in-Test.ensures) (ap ports c.deref-in-Test-2.ensures)
    ∙ ap (λ (g : Guard CalPort). guard_ports (guard_tree tree g)) (sym c.in-Test.is) ∙ c.loop-inner.invariant.reads names in
    let both = on_ok_weaker c.add_source-in-Test-2.result (λ second. adds_both names c.loop-inner.ports.items mid new left right (c.in_ok-add_source-in-Test.ensures names one) second) (c.add_source-in-Test-2.ensures names other) in
    subst₂ (λ (l : List PortName) (x : List CalPort). OnOk c.add_source-in-Test-2.result (AddsPorts names x new l)) same c.loop-inner.invariant.ports both

pub add_guard-returns-in-All : goal.add_guard-returns-in-All
add_guard-returns-in-All t c names numbers =
    let tree = port_tree names in
    let own = list_numbers names c.loop-inner.inner.now c.in-All.guards c.in-All.is (c.loop-inner.invariant.numbers names numbers) in
    let listed = subst (All (GuardHasNumbers names)) (sym c.deref-in-All.ensures.value) own in
    let same = ap (λ (gs : List (Guard CalPort)). guards_ports (guards_of (map (guard_tree tree) gs))) c.deref-in-All.ensures.value ∙ sym (guard_list tree c.loop-inner.inner.now c.in-All.guards c.in-All.is) ∙ c.loop-inner.invariant.reads names in
    subst₂ (λ (l : List PortName) (x : List CalPort). OnOk c.add_guards.result (AddsPorts names x c.add_guards.new.ports.items l)) same c.loop-inner.invariant.ports (c.add_guards.ensures names listed)

pub add_guards-loop-guard-init : goal.add_guards-loop-guard-init
add_guards-loop-guard-init t c names all = adds_none names c.args.ports.now.items

pub add_guards-loop-guard-preserved : goal.add_guards-loop-guard-preserved
add_guards-loop-guard-preserved t c names all =
    let guards = c.args.guards.now in
    let i = c.loop-guard.guard-index in
    let g = c.guard-item.result in
    let at : slice_get guards i ≡ Some g = slice_get-get_or guards i g c.loop-guard-test.true ∙ ap Some (sym c.guard-item.is) in
    let N : Guard CalPort → Type 0 = GuardHasNumbers names in
    let own = subst N (sym c.guard-item.is) (all i g c.loop-guard-test.true) in
    subst (λ (l : List PortName). AddsPorts names c.args.ports.now.items c.add_guard.new.ports.items l) (sym (guards_next (port_tree names) guards i g at))
    (adds_both names c.args.ports.now.items c.loop-guard.ports.items c.add_guard.new.ports.items _ _ (c.loop-guard.invariant names all) (c.in_ok-add_guard.ensures names own))

pub add_guards-returns : goal.add_guards-returns
add_guards-returns t c names all =
    subst (λ (gs : List (Guard CalPort)). AddsPorts names c.args.ports.now.items c.loop-guard.ports.items (guards_ports (guards_of (map (guard_tree (port_tree names)) gs))))
    (take_all c.loop-guard.guard-index c.args.guards.now c.loop-guard-test.false) (c.loop-guard.invariant names all)
