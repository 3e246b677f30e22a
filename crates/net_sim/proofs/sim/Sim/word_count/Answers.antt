use Rattle.std.proofs.Common.{◌<◌, length, map, refl, ap, sym, ◌∙◌, subst, arith}
use Rattle.std.proofs.lemmas.Option.{slice_get_read}
use Rattle.hw_bits.specs.Values.{values_of}
use Rattle.hw_prims.specs.Cell.{CellValue}
use Rattle.hw_prims.specs.Memory.{word_count}
use Rattle.hw_prims.specs.State.{memory_words}
use Rattle.net_core.specs.Netlist.{netlist_of}
use Rattle.net_sim.proofs.ShownLemmas.{shown_number, shown_within, shown_prim, shown_state, shown_once}
use Rattle.net_sim.specs.Shown.{shown_cells}
use Rattle.net_sim.specs.Sim.{SimValue, IsWordCountOfSim}
use Rattle.net_sim.proofs.sim.Sim.word_count.Goals as goal

pub index-requires : goal.index-requires
index-requires c =
    let plan = c.self.inside.plan in
    let n = netlist_of plan.net.now in
    let states = c.self.inside.states in
    let has = subst (λ (o : SimValue). c.args.mem < length (shown_cells (netlist_of o.net))) (sym c.self.view_is) c.requires in
    let at = shown_number n plan.shown.items c.self.invariant.plan_is.shown c.args.mem c.index-number.result.now has c.index-number.ensures in
    let within = shown_within n plan.cells.items c.self.invariant.plan_is.compiled.valid c.self.invariant.plan_is.compiled.listed plan.shown.items c.self.invariant.plan_is.shown states.items c.self.invariant.prims c.args.mem c.index-number.result.now has at in
    omega (arith, within, states.ok.0)

pub returns : goal.returns
returns c =
    let plan = c.self.inside.plan in
    let n = netlist_of plan.net.now in
    let states = c.self.inside.states in
    let compiled = c.self.invariant.plan_is.compiled in
    let are = c.self.invariant.plan_is.shown in
    let has = subst (λ (o : SimValue). c.args.mem < length (shown_cells (netlist_of o.net))) (sym c.self.view_is) c.requires in
    let at = shown_number n plan.shown.items are c.args.mem c.index-number.result.now has c.index-number.ensures in
    let within = shown_within n plan.cells.items compiled.valid compiled.listed plan.shown.items are states.items c.self.invariant.prims c.args.mem c.index-number.result.now has at in
    let here = slice_get_read states.items (length states.items) c.index-number.result.now c.index.result.now refl within c.index.ensures in
    let mine = shown_prim n plan.cells.items compiled.valid compiled.listed plan.shown.items are states.items c.self.invariant.prims c.args.mem c.index-number.result.now has at c.index.result.now here in
    let now : SimValue = record { net = plan.net.now; states = map (λ (s : CellValue). s.state) states.items; values = values_of c.self.inside.values.items; phase = c.self.inside.phase } in
    let count : IsWordCountOfSim now c.args.mem c.word_count.result = λ cell prim is. (
      c.word_count.ensures.prim ∙ ap word_count (shown_once n c.args.mem mine.0 cell c.index.result.now.prim prim mine.1 is),
      c.word_count.ensures.state ∙ ap (λ s. length (memory_words s)) (sym (shown_state n plan.cells.items compiled.valid compiled.listed plan.shown.items are states.items c.self.invariant.prims c.args.mem c.index-number.result.now cell prim at is c.index.result.now here)),
    ) in
    subst (λ (o : SimValue). IsWordCountOfSim o c.args.mem c.word_count.result) c.self.view_is count
