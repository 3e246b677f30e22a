use Rattle.std.proofs.Common.{◌<◌, ◌≤◌, ℕ, List, Option, Vec, Global, length, sym, subst, arith}
use Rattle.std.specs.Prelude.{All, IfSome}
use Rattle.hw_graph.specs.declared.groups.Entry.{Entry}
use Rattle.hw_levels.specs.Levels.{AreLevels}
use Rattle.hw_levels.specs.declared.cells.CellPort.{CellPort}
use Rattle.cal_place.specs.Around.{comp_at, design_at}
use Rattle.cal_loops.specs.inside.Levels.{KeepsOwn}
use Rattle.cal_loops.proofs.LevelLemmas.{levels_no_loop, levels_shown}
use Rattle.cal_loops.proofs.levels.levels_in.Goals as goal

pub cell_ports-requires-clause-all : goal.cell_ports-requires-clause-all
cell_ports-requires-clause-all c = c.requires.parts.all

pub levels_of-requires-clause-entries : goal.levels_of-requires-clause-entries
levels_of-requires-clause-entries c =
    let g = c.in_ok-graph.graph in
    subst (λ (n : ℕ). All (λ (e : Entry). (e.key < n) × (e.value < n)) g.entries.items) (sym c.len.ensures.len) g.in_range

pub levels_of-requires-clause-ports : goal.levels_of-requires-clause-ports
levels_of-requires-clause-ports c =
    subst (λ (n : ℕ). All (λ (port : CellPort). port.node < n) c.in_ok-cells.cells.items) (sym c.len.ensures.len) c.in_ok-cells.ensures.in_range

pub own_levels-requires-clause-levels : goal.own_levels-requires-clause-levels
own_levels-requires-clause-levels c =
    let enough = subst (λ (o : Option (Vec ℕ Global)). IfSome o (λ levels. c.len.result ≤ length levels.items)) c.in-Some.is c.in_ok-found.ensures.all in
    subst (λ (l : List ℕ). length c.in_ok-graph.graph.ports.keys ≤ length l) (sym c.deref.ensures.value) (omega (arith, enough, c.len.ensures.len))

pub own_levels-requires-clause-distinct : goal.own_levels-requires-clause-distinct
own_levels-requires-clause-distinct c = c.len.ensures.distinct

pub returns-in-Some-clause-levels : goal.returns-in-Some-clause-levels
returns-in-Some-clause-levels c =
    let p = c.args.place.now in
    let d = design_at p in
    let g = c.in_ok-graph.graph in
    let levels = c.in-Some.found.items in
    let are = subst (λ (o : Option (Vec ℕ Global)). IfSome o (λ found. AreLevels g.entries.items c.in_ok-cells.cells.items found.items)) c.in-Some.is c.in_ok-found.ensures.levels in
    let kept = subst (λ (l : List ℕ). KeepsOwn (comp_at p) g.ports.keys l c.in_ok-own_levels-in-Some.field-0) c.deref.ensures.value c.in_ok-own_levels-in-Some.ensures in
    levels_shown d c.requires.kept (comp_at p) g c.in_ok-graph.ensures.reads c.len.ensures.distinct p.number c.comp-comp.ensures.at c.args.levels.now c.requires.parts c.in_ok-cells.cells.items c.in_ok-cells.ensures.found levels are c.in_ok-own_levels-in-Some.field-0 kept

pub returns-in-Some-clause-no_loop : goal.returns-in-Some-clause-no_loop
returns-in-Some-clause-no_loop c =
    let p = c.args.place.now in
    let g = c.in_ok-graph.graph in
    let levels = c.in-Some.found.items in
    let are = subst (λ (o : Option (Vec ℕ Global)). IfSome o (λ found. AreLevels g.entries.items c.in_ok-cells.cells.items found.items)) c.in-Some.is c.in_ok-found.ensures.levels in
    levels_no_loop (design_at p) c.requires.kept (comp_at p) g c.in_ok-graph.ensures.reads c.len.ensures.distinct p.number c.comp-comp.ensures.at c.args.levels.now c.requires.parts c.in_ok-cells.cells.items c.in_ok-cells.ensures.found levels are
