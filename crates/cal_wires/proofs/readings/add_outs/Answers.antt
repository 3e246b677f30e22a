use Rattle.std.proofs.Common.{Some, map, subst, ◌∙◌, arith}
use Rattle.std.proofs.lemmas.List.{length-map}
use Rattle.hw_names.specs.Name.{text_of}
use Rattle.cal_ast.specs.Invoking.{takes_output}
use Rattle.cal_ast.specs.Tree.{Assignment, out_tree}
use Rattle.cal_place.specs.Around.{names_at}
use Rattle.cal_wires.specs.Readings.{ReadsSet}
use Rattle.cal_wires.specs.WireGraphs.{Grows}
use Rattle.cal_wires.proofs.GainLemmas.{bind_next_out, grows_all, grows_start, number_kept}
use Rattle.cal_wires.proofs.readings.add_outs.Goals as goal

pub add_set-requires : goal.add_set-requires
add_set-requires c = record {
  names = c.loop-bind.invariant.adds.names ∙ c.requires.names;
  set = c.taken.ensures.numbers (names_at c.args.place.now) c.requires.cell (c.requires.outs c.loop-bind.bind-index _ c.loop-bind-test.true);
  hole = number_kept c.args.graph.now c.loop-bind.graph _ c.args.hole.node c.loop-bind.invariant.adds.texts c.requires.hole;
}

pub loop-bind-init : goal.loop-bind-init
loop-bind-init c =
    let names = names_at c.args.place.now in
    grows_start (λ j. ReadsSet (Some c.args.hole.group)) (map (takes_output (text_of names c.args.cell)) (map (out_tree names) c.args.outs.now)) c.args.graph.now

pub loop-bind-preserved : goal.loop-bind-preserved
loop-bind-preserved c =
    let names = names_at c.args.place.now in
    let added = subst (λ (a : Assignment). Grows (ReadsSet (Some c.args.hole.group) a) c.loop-bind.graph c.add_set.new.graph) (c.taken.ensures.tree names) c.in_ok-add_set.ensures in
    bind_next_out names c.args.hole.group c.args.cell c.args.outs.now c.loop-bind.bind-index _ c.args.graph.now c.loop-bind.graph c.add_set.new.graph c.loop-bind-test.true c.loop-bind.invariant added

pub returns : goal.returns
returns c =
    let names = names_at c.args.place.now in
    let f = takes_output (text_of names c.args.cell) in
    let binds = map (out_tree names) c.args.outs.now in
    grows_all (λ j. ReadsSet (Some c.args.hole.group)) (map f binds) c.loop-bind.bind-index c.args.graph.now c.loop-bind.graph (omega (arith, c.loop-bind-test.false, length-map binds f, length-map c.args.outs.now (out_tree names))) c.loop-bind.invariant
