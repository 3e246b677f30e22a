use Rattle.std.proofs.Common.{◌≡◌, ◌<◌, ◌∙◌, ◌++◌, List, [], Some, map, length, get_or, sym, ap, ap₂, subst, subst₂, rules, arith}
use Rattle.std.specs.Prelude.{All, Contains, IfOk, slice_get}
use Rattle.std.proofs.lemmas.List.{map-append}
use Rattle.std.proofs.lemmas.Option.{slice_get-get_or}
use Rattle.hw_names.specs.Name.{Text, text_of}
use Rattle.hw_names.specs.declared.names.NameId.{NameId}
use Rattle.net_core.proofs.GuardLemmas.{list_numbers}
use Rattle.net_core.specs.Graph.{guard_ports, guards_ports, source_ports}
use Rattle.net_core.specs.Guard.{guards_of, guard_tree, source_tree}
use Rattle.net_core.specs.Numbers.{GuardHasNumbers}
use Rattle.net_core.specs.declared.net.Guard.{Guard, the_lemmas}
use Rattle.net_core.specs.declared.net.Src.{Src}
use Rattle.net_sim.proofs.GuardReadLemmas.{guard_readings, guard_ports-list, readings-list, all_of_one, all_right, if_ok}
use Rattle.net_sim.proofs.WireLemmas.{add_more, add_next, add_all}
use Rattle.net_sim.specs.inside.Wires.{reading, AddReadings}
use Rattle.hw_graph.specs.declared.groups.Entry.{Entry}
use Rattle.net_sim.proofs.wires.+add_guard_reads.Goals as goal

pub add_guard_reads-returns-in-Read : goal.add_guard_reads-returns-in-Read
add_guard_reads-returns-in-Read t c =
    let ports = c.args.ports.now in
    let tree = guard_tree (text_of c.args.names.now) in
    let port = reading (get_or ports c.args.port []) in
    let same =
    ap (λ (s : Src NameId). source_ports (source_tree (text_of c.args.names.now) s)) c.deref.ensures ∙ ap (λ g. guard_ports (tree g)) (sym c.in-Read.is)
    ∙ c.loop-inner.invariant.reads in
    subst₂ (λ (l : List Text) (x : List Entry). IfOk c.add_source_read.result (λ _. AddReadings ports (map port l) x c.add_source_read.new.entries.items)) same c.loop-inner.invariant.entries c.add_source_read.ensures

pub add_guard_reads-add_source_read-requires-in-Test-2-clause-there : goal.add_guard_reads-add_source_read-requires-in-Test-2-clause-there
add_guard_reads-add_source_read-requires-in-Test-2-clause-there t c =
    let texts = text_of c.args.names.now in
    let same = sym c.loop-inner.invariant.reads ∙ ap (λ g. guard_ports (guard_tree texts g)) c.in-Test.is in
    subst (λ (s : Src NameId). All (Contains c.args.ports.now) (source_ports (source_tree texts s))) (sym c.deref-in-Test-2.ensures)
    (all_right (Contains c.args.ports.now) (source_ports (source_tree texts c.in-Test.left.value)) (source_ports (source_tree texts c.in-Test.right.value)) (subst (All (Contains c.args.ports.now)) same c.requires.there))

pub add_guard_reads-returns-in-Test : goal.add_guard_reads-returns-in-Test
add_guard_reads-returns-in-Test t c =
    let ports = c.args.ports.now in
    let texts = text_of c.args.names.now in
    let port = reading (get_or ports c.args.port []) in
    let left = source_ports (source_tree texts c.deref-in-Test.result.now) in
    let right = source_ports (source_tree texts c.deref-in-Test-2.result.now) in
    let here = ap₂ (λ (a b : Src NameId). source_ports (source_tree texts a) ++ source_ports (source_tree texts b)) c.deref-in-Test.ensures c.deref-in-Test-2.ensures in
    let new = c.add_source_read-in-Test-2.new.entries.items in
    let same = sym (map-append port left right) ∙ ap (map port) (here ∙ ap (λ g. guard_ports (guard_tree texts g)) (sym c.in-Test.is) ∙ c.loop-inner.invariant.reads) in
    let both = if_ok c.add_source_read-in-Test-2.result (AddReadings ports (map port right) c.add_source_read-in-Test.new.entries.items new) (AddReadings ports (map port left ++ map port right) c.loop-inner.entries.items new)
    (add_more ports (map port left) (map port right) c.loop-inner.entries.items c.add_source_read-in-Test.new.entries.items new c.in_ok-add_source_read-in-Test.ensures) c.add_source_read-in-Test-2.ensures in
    subst₂ (λ l (x : List Entry). IfOk c.add_source_read-in-Test-2.result (λ _. AddReadings ports l x new)) same c.loop-inner.invariant.entries both

pub add_guard_reads-add_guards_reads-requires : goal.add_guard_reads-add_guards_reads-requires
add_guard_reads-add_guards_reads-requires t c =
    let ports = c.args.ports.now in
    let names = c.args.names.now in
    let tree = guard_tree (text_of names) in
    let listed = sym c.loop-inner.invariant.reads ∙ guard_ports-list (text_of names) c.loop-inner.inner.now c.in-All.guards c.in-All.is in (
      search (rules, the_lemmas),
      (
        c.requires.port,
        (
          subst (All (GuardHasNumbers names)) (sym c.deref-in-All.ensures.value) (list_numbers names c.loop-inner.inner.now c.in-All.guards c.in-All.is c.loop-inner.invariant.numbers),
          subst (λ (gs : List (Guard NameId)). All (Contains ports) (guards_ports (guards_of (map tree gs)))) (sym c.deref-in-All.ensures.value) (subst (All (Contains ports)) listed c.requires.there),
        ),
      ),
    )

pub add_guard_reads-returns-in-All : goal.add_guard_reads-returns-in-All
add_guard_reads-returns-in-All t c =
    let ports = c.args.ports.now in
    let texts = text_of c.args.names.now in
    let port = reading (get_or ports c.args.port []) in
    let same = ap (λ (gs : List (Guard NameId)). guards_ports (guards_of (map (guard_tree texts) gs))) c.deref-in-All.ensures.value ∙ sym (guard_ports-list texts c.loop-inner.inner.now c.in-All.guards c.in-All.is) ∙ c.loop-inner.invariant.reads in
    subst₂ (λ (l : List Text) (x : List Entry). IfOk c.add_guards_reads.result (λ _. AddReadings ports (map port l) x c.add_guards_reads.new.entries.items)) same c.loop-inner.invariant.entries c.add_guards_reads.ensures

pub add_guards_reads-add_guard_reads-requires : goal.add_guards_reads-add_guard_reads-requires
add_guards_reads-add_guard_reads-requires t c =
    let names = c.args.names.now in
    let guards = c.args.guards.now in
    let i = c.loop-guard.guard-index in
    let within : i < length guards = omega arith in
    let N : Guard NameId → Type 0 = GuardHasNumbers names in
    let at : slice_get guards i ≡ Some c.guard-item.result = slice_get-get_or guards i c.guard-item.result within ∙ ap Some (sym c.guard-item.is) in (
      search (rules, the_lemmas),
      (
        c.requires.port,
        (
          subst N (sym c.guard-item.is) (c.requires.numbers i c.guard-item.result within),
          all_of_one (text_of names) (Contains c.args.ports.now) guards i c.guard-item.result at c.requires.there,
        ),
      ),
    )

pub add_guards_reads-loop-guard-preserved : goal.add_guards_reads-loop-guard-preserved
add_guards_reads-loop-guard-preserved t c =
    let ports = c.args.ports.now in
    let readings = guard_readings (get_or ports c.args.port []) (text_of c.args.names.now) in
    let within : c.loop-guard.guard-index < length c.args.guards.now = omega arith in
    add_next ports readings c.args.guards.now c.loop-guard.guard-index c.guard-item.result c.args.entries.now.items c.loop-guard.entries.items c.add_guard_reads.new.entries.items
    within (sym c.guard-item.is) c.loop-guard.invariant c.in_ok-add_guard_reads.ensures

pub add_guards_reads-returns : goal.add_guards_reads-returns
add_guards_reads-returns t c =
    let ports = c.args.ports.now in
    let texts = text_of c.args.names.now in
    let port = get_or ports c.args.port [] in
    let all = add_all ports (guard_readings port texts) c.args.guards.now c.loop-guard.guard-index c.args.entries.now.items c.loop-guard.entries.items (omega arith) c.loop-guard.invariant in
    subst (λ l. AddReadings ports l c.args.entries.now.items c.loop-guard.entries.items) (readings-list texts port c.args.guards.now) all
