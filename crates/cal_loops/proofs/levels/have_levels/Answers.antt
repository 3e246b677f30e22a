use Rattle.std.proofs.Common.{◌≡◌, ◌<◌, ℕ, List, Option, Some, None, length, take, get_or, slice_get, subst, ap, ◌∙◌, arith}
use Rattle.std.specs.Prelude.{IfSome}
use Rattle.std.proofs.lemmas.List.{length-map, length-set, take_all}
use Rattle.cal_ast.specs.Tree.{Component, component_tree, design_of}
use Rattle.cal_ast.specs.Wires.{HasNoLoop}
use Rattle.cal_loops.specs.inside.LoopedSoFar.{TellsFirstLooped}
use Rattle.cal_loops.specs.inside.Levels.{ShowsLevels}
use Rattle.cal_loops.specs.declared.levels.Levels.{Levels}
use Rattle.cal_loops.proofs.LoopedLemmas.{first_loop_told, in_order, looped_none}
use Rattle.cal_place.proofs.PartOrderLemmas.{no_other_order, parts_first}
use Rattle.cal_loops.proofs.OrderLemmas.{clear_next, levels_next, levels_none, parts_levelled}
use Rattle.cal_loops.proofs.levels.have_levels.Goals as goal

pub unreachable-requires : goal.unreachable-requires
unreachable-requires c = no_other_order (design_of c.args.overview.now.design.now) c.requires.kept c.args.overview.now.nesting.now.order c.requires.nesting.order c.in_default.not-Parts

pub loop-number-init : goal.loop-number-init
loop-number-init c =
    let design = c.args.overview.now.design.now in
    let d = design_of design in
    record {
      sized = omega (arith, c.in_ok-levels.ensures, c.len.ensures, design.comps.ok.0, length-map design.comps.items (component_tree design.names));
      knows = levels_none d c.in_ok-levels.levels.items;
      clear = looped_none d;
    }

pub levels_at-requires-clause-number : goal.levels_at-requires-clause-number
levels_at-requires-clause-number c =
    let design = c.args.overview.now.design.now in
    let d = design_of design in
    let items = c.deref-number-items.result.now in
    let k = c.loop-number.number-index in
    let first = parts_first d c.args.overview.now.nesting.now.order c.in-Parts.order c.in-Parts.is c.requires.nesting.order in
    let lt : k < length items = omega arith in
    omega (arith, in_order d c.in-Parts.order.items items k c.deref-number-items.ensures.value first lt, length-map design.comps.items (component_tree design.names))

pub levels_at-requires-clause-parts : goal.levels_at-requires-clause-parts
levels_at-requires-clause-parts c =
    let d = design_of c.args.overview.now.design.now in
    let items = c.deref-number-items.result.now in
    let k = c.loop-number.number-index in
    let first = parts_first d c.args.overview.now.nesting.now.order c.in-Parts.order c.in-Parts.is c.requires.nesting.order in
    let lt : k < length items = omega arith in
    parts_levelled d c.in-Parts.order.items items k c.deref-number-items.ensures.value first lt c.loop-number.levels.items c.deref.result.now c.loop-number.invariant.sized c.loop-number.invariant.knows c.deref.ensures.value

pub keep_levels-requires : goal.keep_levels-requires
keep_levels-requires c =
    let d = design_of c.args.overview.now.design.now in
    let items = c.deref-number-items.result.now in
    let k = c.loop-number.number-index in
    let first = parts_first d c.args.overview.now.nesting.now.order c.in-Parts.order c.in-Parts.is c.requires.nesting.order in
    let lt : k < length items = omega arith in
    omega (arith, in_order d c.in-Parts.order.items items k c.deref-number-items.ensures.value first lt, c.loop-number.invariant.sized)

pub loop-number-preserved : goal.loop-number-preserved
loop-number-preserved c =
    let d = design_of c.args.overview.now.design.now in
    let items = c.deref-number-items.result.now in
    let k = c.loop-number.number-index in
    let same = c.deref-number-items.ensures.value in
    let first = parts_first d c.args.overview.now.nesting.now.order c.in-Parts.order c.in-Parts.is c.requires.nesting.order in
    let lt : k < length items = omega arith in
    let levels = c.loop-number.levels.items in
    let own = c.in-Some.own in
    let shows : (x : Component) → slice_get d (get_or items k 0) ≡ Some x → ShowsLevels d x own =
    λ x at. subst (λ (o : Option Levels). IfSome o (ShowsLevels d x)) c.in-Some.is (c.in_ok-own.ensures.levels x at) in
    let clear : (x : Component) → slice_get d (get_or items k 0) ≡ Some x → HasNoLoop d x =
    λ x at. subst (λ (o : Option Levels). IfSome o (λ _. HasNoLoop d x)) c.in-Some.is (c.in_ok-own.ensures.no_loop x at) in
    record {
      sized = ap length c.keep_levels.ensures ∙ length-set levels (get_or items k 0) own ∙ c.loop-number.invariant.sized;
      knows = levels_next d c.in-Parts.order.items items k same first lt levels c.keep_levels.new.levels.items own c.loop-number.invariant.sized c.loop-number.invariant.knows shows c.keep_levels.ensures;
      clear = clear_next d c.in-Parts.order.items items k same first lt clear c.loop-number.invariant.clear;
    }

pub returns : goal.returns
returns c =
    let d = design_of c.args.overview.now.design.now in
    let items = c.deref-number-items.result.now in
    let order = c.in-Parts.order.items in
    let first = parts_first d c.args.overview.now.nesting.now.order c.in-Parts.order c.in-Parts.is c.requires.nesting.order in
    let all : take c.loop-number.number-index items ≡ order = take_all c.loop-number.number-index items (omega arith) ∙ c.deref-number-items.ensures.value in
    λ told. first_loop_told d c.requires.kept order first.each None (subst (λ (l : List ℕ). TellsFirstLooped d l None) all c.loop-number.invariant.clear)
