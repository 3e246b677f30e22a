use Rattle.std.proofs.Common.{◌≡◌, ℕ, ◌+◌, ◌<◌, ◌^◌, ◌++◌, List, Some, length, get_or, refl, sym, ◌∙◌, subst, arith}
use Rattle.std.specs.Prelude.{slice_get}
use Rattle.std.proofs.lemmas.Option.{slice_get_read}
use Rattle.hw_bits.specs.Values.{values_of, widths_of}
use Rattle.hw_bits.specs.declared.bits.Bits.{Bits}
use Rattle.net_core.specs.Netlist.{netlist_of, SetLine}
use Rattle.net_sim.proofs.BranchLemmas.{slot_within, slot_bits}
use Rattle.net_sim.proofs.GiverLemmas.{at_some}
use Rattle.net_sim.proofs.TestLemmas.{source_within, number_in}
use Rattle.net_sim.proofs.PlanLemmas.{count_values, count_numbers, source_has_width}
use Rattle.net_sim.proofs.PortValueLemmas.{values_in}
use Rattle.net_sim.proofs.SettleLemmas.{set_acts, bits_value, bits_width}
use Rattle.net_sim.specs.Branches.{IsSlotOf}
use Rattle.net_sim.specs.Compiled.{IsSource}
use Rattle.net_sim.specs.Evaluated.{HasWidth, IsWithin, IsBitsOf}
use Rattle.net_sim.specs.Layout.{port_names, port_widths}
use Rattle.net_sim.specs.Plan.{IsPlan}
use Rattle.net_sim.specs.Sim.{port_row}
use Rattle.net_sim.specs.declared.plan.Plan.{Plan}
use Rattle.net_sim.specs.declared.plan.Source.{Source}
use Rattle.net_sim.proofs.settle.with_set.Goals as goal

-- the source of an assignment, whose slot was read
record IsSourceAt (plan : Plan) (values : List Bits) (number slot : ℕ) : Type 0 where
  a : SetLine
  at : slice_get (netlist_of plan.net.now).sets number ≡ Some a
  source : Source
  is : IsSource (port_names (netlist_of plan.net.now)) a.src source
  within : IsWithin (length values) source
  slot_is : IsSlotOf (length values) plan.lowered.literals.items source slot

source_at : (plan : Plan) → IsPlan plan → (values : List Bits) → widths_of values ≡ port_widths (netlist_of plan.net.now) → (number : ℕ) → number < length (netlist_of plan.net.now).sets → (slot : ℕ) → slot ≡ get_or plan.lowered.sources.items number slot → IsSourceAt plan values number slot
source_at plan is values widths number lt slot read =
    let n = netlist_of plan.net.now in
    let low = is.lowered in
    let a = at_some n.sets number lt in
    let s = at_some low.sources number (omega (arith, lt, low.sourced.all)) in
    let from = low.sourced.each number a.0 s.0 a.1 s.1 in
    let at = slice_get_read plan.lowered.sources.items (length plan.lowered.sources.items) number slot refl (omega (arith, lt, low.sourced.all, low.slots.all)) read in
    let count = count_values n values widths in
    record {
      a = a.0;
      at = a.1;
      source = s.0;
      is = from;
      within = subst (λ ports. IsWithin ports s.0) (sym count) (source_within (port_names n) a.0.src s.0 from);
      slot_is = subst (λ ports. IsSlotOf ports plan.lowered.literals.items s.0 slot) (sym count) (low.slots.each number s.0 slot s.1 at);
    }

pub slot_value-value-requires : goal.slot_value-value-requires
slot_value-value-requires c =
    let values = c.args.values.now in
    let slot = c.index-slot.result.now in
    let s = source_at c.args.plan.now c.requires.plan values c.requires.values c.args.number c.requires.number slot c.index-slot.ensures in
    subst (λ (l : List Bits). slot < length values + length l) (sym c.as_slice.ensures.value) (slot_within (length values) c.args.plan.now.lowered.literals.items s.source slot s.within s.slot_is)

pub returns-then-acts : goal.returns-then-acts
returns-then-acts c = λ width others fits so_far.
    let plan = c.args.plan.now in
    let n = netlist_of plan.net.now in
    let values = c.args.values.now in
    let row = port_row n (values_of values) in
    let slot = c.index-slot.result.now in
    let read = c.slot_value-value.result in
    let s = source_at plan c.requires.plan values c.requires.values c.args.number c.requires.number slot c.index-slot.ensures in
    let bits : IsBitsOf values s.source read = slot_bits values plan.lowered.literals.items s.source slot read s.within s.slot_is (subst (λ (l : List Bits). slice_get (values ++ l) slot ≡ Some read) c.as_slice.ensures.value c.slot_value-value.ensures) in
    let has = values_in n plan.order.now plan.cells.items c.requires.plan.lowered.sources plan.givers.items c.requires.plan.compiled (values_of values) (count_numbers n values c.requires.values) in
    let value = bits_value values s.source read bits ∙ number_in row (port_names n) (values_of values) s.a.src s.source has s.is in
    let fits' = subst (λ w. HasWidth (port_widths n) w s.source) (fits s.a s.at) (source_has_width n plan.order.now plan.cells.items c.requires.plan.lowered.sources plan.givers.items c.requires.plan.compiled s.a.src s.source s.is) in
    let same = bits_width values s.source read width (subst (λ ws. HasWidth ws width s.source) (sym c.requires.values) fits') bits in
    let fits_it : c.value.result < 2 ^ width = subst (λ v. v < 2 ^ width) (sym c.value.ensures) (subst (λ w. read.value < 2 ^ w) same read.fits) in
    set_acts row n.sets c.args.number width c.value.result others c.and.result s.a s.at (sym (c.acts.ensures s.a s.at) ∙ c.if-acts.true) (c.value.ensures ∙ value) (c.and.ensures width others fits_it so_far)
