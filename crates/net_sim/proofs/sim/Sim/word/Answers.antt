use Rattle.std.proofs.Common.{length, map, refl, ap, sym, ◌∙◌, subst, arith}
use Rattle.std.specs.Prelude.{slice_index}
use Rattle.std.proofs.lemmas.Option.{slice_get_read}
use Rattle.hw_bits.specs.Values.{values_of}
use Rattle.hw_prims.specs.Cell.{CellValue}
use Rattle.hw_prims.specs.Memory.{word_width}
use Rattle.hw_prims.specs.State.{memory_words}
use Rattle.net_core.specs.Netlist.{netlist_of}
use Rattle.net_sim.proofs.ShownLemmas.{shown_number, shown_within, shown_prim, shown_state, shown_once}
use Rattle.net_sim.specs.Shown.{HasWord, HasWordWidth}
use Rattle.net_sim.specs.Sim.{SimValue, IsWordOfSim}
use Rattle.net_sim.proofs.sim.Sim.word.Goals as goal

pub index-requires : goal.index-requires
index-requires c =
    let plan = c.self.inside.plan in
    let n = netlist_of plan.net.now in
    let states = c.self.inside.states in
    let are = c.self.invariant.plan_is.shown in
    let has = subst (λ (o : SimValue). HasWord (netlist_of o.net) c.args.mem c.args.at) (sym c.self.view_is) c.requires in
    let at = shown_number n plan.shown.items are c.args.mem c.index-number.result.now has.memory c.index-number.ensures in
    let within = shown_within n plan.cells.items c.self.invariant.plan_is.compiled.valid c.self.invariant.plan_is.compiled.listed plan.shown.items are states.items c.self.invariant.prims c.args.mem c.index-number.result.now has.memory at in
    omega (arith, within, states.ok.0)

pub word-requires : goal.word-requires
word-requires c =
    let plan = c.self.inside.plan in
    let n = netlist_of plan.net.now in
    let states = c.self.inside.states in
    let compiled = c.self.invariant.plan_is.compiled in
    let are = c.self.invariant.plan_is.shown in
    let has = subst (λ (o : SimValue). HasWord (netlist_of o.net) c.args.mem c.args.at) (sym c.self.view_is) c.requires in
    let at = shown_number n plan.shown.items are c.args.mem c.index-number.result.now has.memory c.index-number.ensures in
    let within = shown_within n plan.cells.items compiled.valid compiled.listed plan.shown.items are states.items c.self.invariant.prims c.args.mem c.index-number.result.now has.memory at in
    let here = slice_get_read states.items (length states.items) c.index-number.result.now c.index.result.now refl within c.index.ensures in
    let is = shown_prim n plan.cells.items compiled.valid compiled.listed plan.shown.items are states.items c.self.invariant.prims c.args.mem c.index-number.result.now has.memory at c.index.result.now here in
    has.within is.0 c.index.result.now.prim is.1

pub returns-clause-value : goal.returns-clause-value
returns-clause-value c =
    let plan = c.self.inside.plan in
    let n = netlist_of plan.net.now in
    let states = c.self.inside.states in
    let compiled = c.self.invariant.plan_is.compiled in
    let are = c.self.invariant.plan_is.shown in
    let has = subst (λ (o : SimValue). HasWord (netlist_of o.net) c.args.mem c.args.at) (sym c.self.view_is) c.requires in
    let at = shown_number n plan.shown.items are c.args.mem c.index-number.result.now has.memory c.index-number.ensures in
    let within = shown_within n plan.cells.items compiled.valid compiled.listed plan.shown.items are states.items c.self.invariant.prims c.args.mem c.index-number.result.now has.memory at in
    let here = slice_get_read states.items (length states.items) c.index-number.result.now c.index.result.now refl within c.index.ensures in
    let now : SimValue = record { net = plan.net.now; states = map (λ (s : CellValue). s.state) states.items; values = values_of c.self.inside.values.items; phase = c.self.inside.phase } in
    let word : IsWordOfSim now c.args.mem c.args.at c.word.result.value = λ cell prim is.
    c.word.ensures.value ∙ ap (λ s. slice_index (memory_words s) c.args.at) (sym (shown_state n plan.cells.items compiled.valid compiled.listed plan.shown.items are states.items c.self.invariant.prims c.args.mem c.index-number.result.now cell prim at is c.index.result.now here)) in
    subst (λ (o : SimValue). IsWordOfSim o c.args.mem c.args.at c.word.result.value) c.self.view_is word

pub returns-clause-width : goal.returns-clause-width
returns-clause-width c =
    let plan = c.self.inside.plan in
    let n = netlist_of plan.net.now in
    let states = c.self.inside.states in
    let compiled = c.self.invariant.plan_is.compiled in
    let are = c.self.invariant.plan_is.shown in
    let has = subst (λ (o : SimValue). HasWord (netlist_of o.net) c.args.mem c.args.at) (sym c.self.view_is) c.requires in
    let at = shown_number n plan.shown.items are c.args.mem c.index-number.result.now has.memory c.index-number.ensures in
    let within = shown_within n plan.cells.items compiled.valid compiled.listed plan.shown.items are states.items c.self.invariant.prims c.args.mem c.index-number.result.now has.memory at in
    let here = slice_get_read states.items (length states.items) c.index-number.result.now c.index.result.now refl within c.index.ensures in
    let mine = shown_prim n plan.cells.items compiled.valid compiled.listed plan.shown.items are states.items c.self.invariant.prims c.args.mem c.index-number.result.now has.memory at c.index.result.now here in
    let width : HasWordWidth n c.args.mem c.word.result.width = λ cell prim is. c.word.ensures.width ∙ ap word_width (shown_once n c.args.mem mine.0 cell c.index.result.now.prim prim mine.1 is) in
    subst (λ (o : SimValue). HasWordWidth (netlist_of o.net) c.args.mem c.word.result.width) c.self.view_is width
