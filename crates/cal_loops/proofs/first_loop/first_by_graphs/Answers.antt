use Rattle.std.proofs.Common.{◌≡◌, ◌<◌, ℕ, List, Option, None, length, take, get_or, subst, ap, ◌∙◌, arith}
use Rattle.std.proofs.lemmas.List.{length-map, length-replicate, length-set, take_all}
use Rattle.cal_ast.specs.Tree.{component_tree, design_of}
use Rattle.cal_loops.specs.inside.LoopedSoFar.{TellsFirstLooped}
use Rattle.cal_loops.specs.declared.cells.inside.Inside.{Inside}
use Rattle.cal_place.proofs.GraphLemmas.{exists_at}
use Rattle.cal_loops.proofs.LoopedLemmas.{first_loop_told, in_order, knows_next, knows_none, looped_none, numbers_next, parts_shown}
use Rattle.cal_place.proofs.PartOrderLemmas.{no_other_order, parts_first}
use Rattle.cal_loops.proofs.first_loop.first_by_graphs.Goals as goal

pub unreachable-requires : goal.unreachable-requires
unreachable-requires c = no_other_order (design_of c.args.overview.now.design.now) c.requires.kept c.args.overview.now.nesting.now.order c.requires.nesting.order c.in_default.not-Parts

pub loop-number-init : goal.loop-number-init
loop-number-init c =
    let design = c.args.overview.now.design.now in
    let d = design_of design in
    let nothing : Option Inside = None in
    record {
      sized = omega (arith, ap length c.in_ok-insides.ensures, length-replicate c.len.result nothing, c.len.ensures, design.comps.ok.0, length-map design.comps.items (component_tree design.names));
      knows = knows_none d c.len.result c.in_ok-insides.insides.items c.in_ok-insides.ensures;
      looped = looped_none d;
    }

pub judge_number-requires-clause-number : goal.judge_number-requires-clause-number
judge_number-requires-clause-number c =
    let design = c.args.overview.now.design.now in
    let d = design_of design in
    let items = c.deref-number-items.result.now in
    let k = c.loop-number.number-index in
    let first = parts_first d c.args.overview.now.nesting.now.order c.in-Parts.order c.in-Parts.is c.requires.nesting.order in
    let lt : k < length items = omega arith in
    omega (arith, in_order d c.in-Parts.order.items items k c.deref-number-items.ensures.value first lt, length-map design.comps.items (component_tree design.names))

pub judge_number-requires-clause-parts : goal.judge_number-requires-clause-parts
judge_number-requires-clause-parts c =
    let d = design_of c.args.overview.now.design.now in
    let items = c.deref-number-items.result.now in
    let k = c.loop-number.number-index in
    let first = parts_first d c.args.overview.now.nesting.now.order c.in-Parts.order c.in-Parts.is c.requires.nesting.order in
    let lt : k < length items = omega arith in
    parts_shown d c.in-Parts.order.items items k c.loop-number.insides.items c.deref.result.now c.deref-number-items.ensures.value first lt c.loop-number.invariant.sized c.loop-number.invariant.knows c.deref.ensures.value

pub index-requires : goal.index-requires
index-requires c =
    let d = design_of c.args.overview.now.design.now in
    let items = c.deref-number-items.result.now in
    let k = c.loop-number.number-index in
    let first = parts_first d c.args.overview.now.nesting.now.order c.in-Parts.order c.in-Parts.is c.requires.nesting.order in
    let lt : k < length items = omega arith in
    omega (arith, in_order d c.in-Parts.order.items items k c.deref-number-items.ensures.value first lt, c.in_ok-asked.ensures, c.in_ok-asked.asked.ok.0)

pub keep_inside-requires : goal.keep_inside-requires
keep_inside-requires c =
    let d = design_of c.args.overview.now.design.now in
    let items = c.deref-number-items.result.now in
    let k = c.loop-number.number-index in
    let first = parts_first d c.args.overview.now.nesting.now.order c.in-Parts.order c.in-Parts.is c.requires.nesting.order in
    let lt : k < length items = omega arith in
    omega (arith, in_order d c.in-Parts.order.items items k c.deref-number-items.ensures.value first lt, c.loop-number.invariant.sized)

pub loop-number-preserved : goal.loop-number-preserved
loop-number-preserved c =
    let d = design_of c.args.overview.now.design.now in
    let items = c.deref-number-items.result.now in
    let k = c.loop-number.number-index in
    let number = get_or items k 0 in
    let same = c.deref-number-items.ensures.value in
    let first = parts_first d c.args.overview.now.nesting.now.order c.in-Parts.order c.in-Parts.is c.requires.nesting.order in
    let lt : k < length items = omega arith in
    let comp = exists_at d number (in_order d c.in-Parts.order.items items k same first lt) in
    let insides = c.loop-number.insides.items in
    let own = c.in_ok-judged.judged.inside in
    record {
      sized = ap length c.keep_inside.ensures ∙ length-set insides number own ∙ c.loop-number.invariant.sized;
      knows = knows_next d c.in-Parts.order.items items k insides c.keep_inside.new.insides.items own same first lt c.loop-number.invariant.sized c.loop-number.invariant.knows c.in_ok-judged.ensures.inside c.in_ok-judged.ensures.shows c.keep_inside.ensures;
      looped = subst (λ (l : List ℕ). TellsFirstLooped d l c.earlier-looped.result) (numbers_next items k lt)
          (c.earlier-looped.ensures d (take k items) comp.0 c.loop-number.invariant.looped comp.1 (c.in_ok-judged.ensures.cycle comp.0 comp.1));
    }

pub returns : goal.returns
returns c =
    let d = design_of c.args.overview.now.design.now in
    let items = c.deref-number-items.result.now in
    let order = c.in-Parts.order.items in
    let first = parts_first d c.args.overview.now.nesting.now.order c.in-Parts.order c.in-Parts.is c.requires.nesting.order in
    let all : take c.loop-number.number-index items ≡ order = take_all c.loop-number.number-index items (omega arith) ∙ c.deref-number-items.ensures.value in
    first_loop_told d c.requires.kept order first.each c.loop-number.looped (subst (λ (l : List ℕ). TellsFirstLooped d l c.loop-number.looped) all c.loop-number.invariant.looped)
