use Rattle.std.proofs.Common.{map, option_map, ◌∙◌, refl, subst, sym, arith}
use Rattle.std.proofs.lemmas.List.{length-map}
use Rattle.cal_ast.specs.Numbers.{SetHasNumbers}
use Rattle.cal_ast.specs.Tree.{assignment_tree}
use Rattle.cal_ast.specs.declared.tree.Assign.{Assign}
use Rattle.cal_place.specs.Around.{names_at}
use Rattle.cal_wires.specs.Readings.{ReadsSet}
use Rattle.cal_wires.specs.declared.graph.Hole.{Hole}
use Rattle.cal_place.proofs.FoundLemmas.{to_map}
use Rattle.cal_wires.proofs.GainLemmas.{grows_all, grows_next, grows_start, hole_kept, item_at}
use Rattle.cal_wires.proofs.readings.add_sets.Goals as goal

pub add_set-requires : goal.add_set-requires
add_set-requires c =
    let S : Assign → Type 0 = SetHasNumbers (names_at c.args.place.now) in
    record {
      names = c.loop-set.invariant.adds.names ∙ c.requires.names;
      set = subst S (sym c.set-item.is) (c.requires.sets c.loop-set.set-index c.set-item.result c.loop-set-test.true);
      hole = hole_kept c.args.graph.now c.loop-set.graph c.args.hole c.loop-set.invariant.adds.texts c.requires.hole;
    }

pub loop-set-init : goal.loop-set-init
loop-set-init c = grows_start (λ j. ReadsSet (option_map (λ (h : Hole). h.group) c.args.hole)) (map (assignment_tree (names_at c.args.place.now)) c.args.sets.now) c.args.graph.now

pub loop-set-preserved : goal.loop-set-preserved
loop-set-preserved c =
    let f = assignment_tree (names_at c.args.place.now) in
    let sets = c.args.sets.now in
    let a = c.set-item.result in
    let at = to_map f sets c.loop-set.set-index a (item_at sets sets c.loop-set.set-index a refl c.loop-set-test.true c.set-item.is) in
    grows_next (λ j. ReadsSet (option_map (λ (h : Hole). h.group) c.args.hole)) (map f sets) c.loop-set.set-index (f a) c.args.graph.now c.loop-set.graph c.add_set.new.graph at c.loop-set.invariant c.in_ok-add_set.ensures

pub returns : goal.returns
returns c =
    let f = assignment_tree (names_at c.args.place.now) in
    grows_all (λ j. ReadsSet (option_map (λ (h : Hole). h.group) c.args.hole)) (map f c.args.sets.now) c.loop-set.set-index c.args.graph.now c.loop-set.graph (omega (arith, c.loop-set-test.false, length-map c.args.sets.now f)) c.loop-set.invariant
