use Rattle.std.proofs.Common.{◌≡◌, List, length, map, refl, ap, sym, ◌∙◌, subst, arith}
use Rattle.std.specs.Prelude.{slice_get}
use Rattle.std.specs.Vec.{with_items}
use Rattle.std.proofs.lemmas.List.{with_items_is}
use Rattle.hw_bits.specs.Values.{values_of}
use Rattle.hw_prims.specs.Cell.{CellValue}
use Rattle.net_core.specs.Netlist.{netlist_of}
use Rattle.net_sim.proofs.ShownLemmas.{shown_number, shown_within, shown_prim, prims_loaded, loaded_by_name, others_by_name}
use Rattle.net_sim.specs.Plan.{ArePrims}
use Rattle.net_sim.specs.Shown.{HasWord, HasWordWidth, HasOneWordMore}
use Rattle.net_sim.specs.Sim.{SimValue, IsLoadOfSim}
use Rattle.net_sim.proofs.sim.Sim.load.Goals.{After-self-1}
use Rattle.net_sim.proofs.sim.Sim.load.Goals as goal

pub load_word-requires-clause-number : goal.load_word-requires-clause-number
load_word-requires-clause-number c =
    let plan = c.self.inside.plan in
    let compiled = c.self.invariant.plan_is.compiled in
    let has = subst (λ (o : SimValue). HasWord (netlist_of o.net) c.args.mem c.args.at) (sym c.self.view_is) c.requires.place in
    let number = shown_number (netlist_of plan.net.now) plan.shown.items c.self.invariant.plan_is.shown c.args.mem c.index-number.result.now has.memory c.index-number.ensures in
    let within = shown_within (netlist_of plan.net.now) plan.cells.items compiled.valid compiled.listed plan.shown.items c.self.invariant.plan_is.shown c.self.inside.states.items c.self.invariant.prims c.args.mem c.index-number.result.now has.memory number in
    omega (arith, within, ap length c.as_mut_slice.ensures.value)

pub load_word-requires-clause-at : goal.load_word-requires-clause-at
load_word-requires-clause-at c = λ s here.
    let plan = c.self.inside.plan in
    let compiled = c.self.invariant.plan_is.compiled in
    let has = subst (λ (o : SimValue). HasWord (netlist_of o.net) c.args.mem c.args.at) (sym c.self.view_is) c.requires.place in
    let number = shown_number (netlist_of plan.net.now) plan.shown.items c.self.invariant.plan_is.shown c.args.mem c.index-number.result.now has.memory c.index-number.ensures in
    let is = shown_prim (netlist_of plan.net.now) plan.cells.items compiled.valid compiled.listed plan.shown.items c.self.invariant.plan_is.shown c.self.inside.states.items c.self.invariant.prims c.args.mem c.index-number.result.now has.memory number s (ap (λ (l : List CellValue). slice_get l c.index-number.result.now) (sym c.as_mut_slice.ensures.value) ∙ here) in
    has.within is.0 s.prim is.1

pub load_word-requires-clause-width : goal.load_word-requires-clause-width
load_word-requires-clause-width c = λ s here.
    let plan = c.self.inside.plan in
    let compiled = c.self.invariant.plan_is.compiled in
    let has = subst (λ (o : SimValue). HasWord (netlist_of o.net) c.args.mem c.args.at) (sym c.self.view_is) c.requires.place in
    let width = subst (λ (o : SimValue). HasWordWidth (netlist_of o.net) c.args.mem c.args.word.width) (sym c.self.view_is) c.requires.width in
    let number = shown_number (netlist_of plan.net.now) plan.shown.items c.self.invariant.plan_is.shown c.args.mem c.index-number.result.now has.memory c.index-number.ensures in
    let is = shown_prim (netlist_of plan.net.now) plan.cells.items compiled.valid compiled.listed plan.shown.items c.self.invariant.plan_is.shown c.self.inside.states.items c.self.invariant.prims c.args.mem c.index-number.result.now has.memory number s (ap (λ (l : List CellValue). slice_get l c.index-number.result.now) (sym c.as_mut_slice.ensures.value) ∙ here) in
    width is.0 s.prim is.1

more : (c : After-self-1) → HasOneWordMore c.index-number.result.now c.args.at c.args.word.value c.self.inside.states.items c.load_word.new.states
more c = subst (λ (l : List CellValue). HasOneWordMore c.index-number.result.now c.args.at c.args.word.value l c.load_word.new.states) c.as_mut_slice.ensures.value c.load_word.ensures

kept : (c : After-self-1) → (with_items c.self.inside.states c.load_word.new.states).items ≡ c.load_word.new.states
kept c = let all = (more c).all in let len = c.self.inside.states.ok.0 in with_items_is c.self.inside.states c.load_word.new.states (omega (arith, all, len))

pub invariant_of-self : goal.invariant_of-self
invariant_of-self c =
    let plan = c.self.inside.plan in
    let n = netlist_of plan.net.now in
    let compiled = c.self.invariant.plan_is.compiled in
    let are = c.self.invariant.plan_is.shown in
    let has = subst (λ (o : SimValue). HasWord (netlist_of o.net) c.args.mem c.args.at) (sym c.self.view_is) c.requires.place in
    let number = shown_number n plan.shown.items are c.args.mem c.index-number.result.now has.memory c.index-number.ensures in
    let within = shown_within n plan.cells.items compiled.valid compiled.listed plan.shown.items are c.self.inside.states.items c.self.invariant.prims c.args.mem c.index-number.result.now has.memory number in
    let prims = prims_loaded n plan.cells.items compiled.valid compiled.listed plan.shown.items are c.self.inside.states.items c.load_word.new.states c.args.mem c.index-number.result.now c.args.at c.args.word.value c.self.invariant.prims number (more c) within in
    record {
      plan_is = c.self.invariant.plan_is;
      prims = subst (ArePrims plan.cells.items) (sym (kept c)) prims;
      widths = c.self.invariant.widths;
    }

pub returns : goal.returns
returns c =
    let inside = c.self.inside in
    let plan = inside.plan in
    let n = netlist_of plan.net.now in
    let compiled = c.self.invariant.plan_is.compiled in
    let are = c.self.invariant.plan_is.shown in
    let has = subst (λ (o : SimValue). HasWord (netlist_of o.net) c.args.mem c.args.at) (sym c.self.view_is) c.requires.place in
    let number = shown_number n plan.shown.items are c.args.mem c.index-number.result.now has.memory c.index-number.ensures in
    let within = shown_within n plan.cells.items compiled.valid compiled.listed plan.shown.items are inside.states.items c.self.invariant.prims c.args.mem c.index-number.result.now has.memory number in
    let states = λ (cells : List CellValue). map (λ (s : CellValue). s.state) cells in
    let old : SimValue = record { net = plan.net.now; states = states inside.states.items; values = values_of inside.values.items; phase = inside.phase } in
    let new : SimValue = record { net = plan.net.now; states = states (with_items inside.states c.load_word.new.states).items; values = values_of inside.values.items; phase = inside.phase } in
    let plain : SimValue = record { net = plan.net.now; states = states c.load_word.new.states; values = values_of inside.values.items; phase = inside.phase } in
    let load : IsLoadOfSim old c.args.mem c.args.at c.args.word.value plain = record {
      net = refl;
      values = refl;
      phase = refl;
      loaded = loaded_by_name n plan.cells.items compiled.valid compiled.listed plan.shown.items are inside.states.items c.load_word.new.states c.args.mem c.index-number.result.now c.args.at c.args.word.value c.self.invariant.prims number (more c) within;
      others = others_by_name n plan.cells.items compiled.valid compiled.listed plan.shown.items are inside.states.items c.load_word.new.states c.args.mem c.index-number.result.now c.args.at c.args.word.value c.self.invariant.prims number (more c) within has.memory;
    } in
    let with_new : IsLoadOfSim old c.args.mem c.args.at c.args.word.value new = subst (λ (l : List CellValue). IsLoadOfSim old c.args.mem c.args.at c.args.word.value (record { net = plan.net.now; states = states l; values = values_of inside.values.items; phase = inside.phase })) (sym (kept c)) load in
    subst (λ (o : SimValue). IsLoadOfSim o c.args.mem c.args.at c.args.word.value new) c.self.view_is with_new
