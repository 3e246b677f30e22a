use Rattle.std.proofs.Common.{[], ◌++◌, ◌∙◌, Some, map}
use Rattle.std.proofs.lemmas.Result.{on_ok_weaker}
use Rattle.hw_names.specs.Name.{text_of}
use Rattle.cal_ast.specs.Invoking.{gives_input, go_of, invoke_group, starts_cell, takes_output}
use Rattle.cal_ast.specs.Tree.{GroupDef, in_tree, out_tree}
use Rattle.cal_place.specs.Around.{comp_at, design_at, names_at}
use Rattle.cal_wires.specs.Nodes.{Node, AHole}
use Rattle.cal_wires.specs.Readings.{ReadsSet}
use Rattle.cal_wires.specs.WireGraphs.{Grows, HasHole}
use Rattle.cal_wires.specs.declared.graph.Hole.{Hole}
use Rattle.cal_wires.specs.declared.graph.WireGraph.{WireGraph}
use Rattle.cal_wires.proofs.GainLemmas.{group_added, grows_parts, number_kept}
use Rattle.cal_wires.proofs.readings.add_invoke.Goals as goal

-- the hole keeps its number
still_there : (P : Node → Node → Type 0) (old new : WireGraph) (h : Hole) → Grows P old new → HasHole old h → HasHole new h
still_there P old new h grows is = number_kept old new (AHole h.group) h.node grows.adds.texts is

pub add_ins-requires : goal.add_ins-requires
add_ins-requires c = record { names = c.in_ok-hole.ensures.adds.names ∙ c.requires.names; hole = c.in_ok-hole.ensures.hole; cell = c.requires.cell; ins = c.requires.ins }

pub add_start-requires : goal.add_start-requires
add_start-requires c = record {
  names = c.in_ok-add_ins.ensures.adds.names ∙ c.in_ok-hole.ensures.adds.names ∙ c.requires.names;
  hole = still_there _ c.add_hole.new.graph c.add_ins.new.graph c.in_ok-hole.hole c.in_ok-add_ins.ensures c.in_ok-hole.ensures.hole;
  cell = c.requires.cell;
}

pub add_outs-requires : goal.add_outs-requires
add_outs-requires c =
    let h = c.in_ok-hole.hole in
    let first = still_there _ c.add_hole.new.graph c.add_ins.new.graph h c.in_ok-add_ins.ensures c.in_ok-hole.ensures.hole in
    record { names = c.in_ok-add_start.ensures.adds.names ∙ c.in_ok-add_ins.ensures.adds.names ∙ c.in_ok-hole.ensures.adds.names ∙ c.requires.names; hole = still_there _ c.add_ins.new.graph c.add_start.new.graph h c.in_ok-add_start.ensures first; cell = c.requires.cell; outs = c.requires.outs }

pub add_done-requires : goal.add_done-requires
add_done-requires c =
    let h = c.in_ok-hole.hole in
    let first = still_there _ c.add_hole.new.graph c.add_ins.new.graph h c.in_ok-add_ins.ensures c.in_ok-hole.ensures.hole in
    let second = still_there _ c.add_ins.new.graph c.add_start.new.graph h c.in_ok-add_start.ensures first in
    record { names = c.in_ok-add_outs.ensures.adds.names ∙ c.in_ok-add_start.ensures.adds.names ∙ c.in_ok-add_ins.ensures.adds.names ∙ c.in_ok-hole.ensures.adds.names ∙ c.requires.names; hole = still_there _ c.add_start.new.graph c.add_outs.new.graph h c.in_ok-add_outs.ensures second; cell = c.requires.cell }

pub returns : goal.returns
returns c =
    let p = c.args.place.now in
    let names = names_at p in
    let cell = text_of names c.args.cell in
    let k = c.in_ok-hole.hole.group in
    let ins = map (in_tree names) c.args.ins.now in
    let outs = map (out_tree names) c.args.outs.now in
    let group : GroupDef = invoke_group (design_at p) (comp_at p) [] (record { item = 0; cell = cell; ins = ins; outs = outs }) in
    let start = c.add_hole.new.graph in
    let a = c.add_ins.new.graph in
    let b = c.add_start.new.graph in
    let d = c.add_outs.new.graph in
    let given = map (gives_input cell) ins in
    let go = starts_cell cell (go_of (design_at p) (comp_at p) cell) in
    let taken = map (takes_output cell) outs in
    let two = grows_parts (ReadsSet (Some k)) given go start a b c.in_ok-add_ins.ensures c.in_ok-add_start.ensures in
    let sets = grows_parts (ReadsSet (Some k)) (given ++ go) taken start b d two c.in_ok-add_outs.ensures in
    on_ok_weaker c.add_done.result
    (λ done. group_added (design_at p) (comp_at p) group k c.args.graph.now start d c.add_done.new.graph c.in_ok-hole.ensures.group c.in_ok-hole.ensures.adds c.in_ok-hole.ensures.holes sets done)
    c.add_done.ensures
