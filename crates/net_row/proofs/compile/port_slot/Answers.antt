use Rattle.std.proofs.Common.{◌≡◌, ℕ, ◌<◌, Some, length, get_or, refl, subst, arith, rules}
use Rattle.std.specs.Prelude.{slice_get}
use Rattle.net_sim.proofs.PlanLemmas.{count_givers, giver_at}
use Rattle.net_sim.specs.Layout.{port_names}
use Rattle.net_sim.specs.declared.plan.Giver.{Giver}
use Rattle.net_sim.specs.declared.plan.Giver.TheVariants.{Input, Output, Driven}
use Rattle.net_steps.specs.Drivers.{AddsPort}
use Rattle.net_row.proofs.PortSlotLemmas.{cell_within, driven_added, if_input_added, if_output_added, kind_within}
use Rattle.net_row.specs.inside.Compiling.{net_of}
use Rattle.net_row.specs.inside.Ports.{IsNumbered}
use Rattle.net_row.specs.declared.compile.Numbered.{Numbered}
use Rattle.net_row.proofs.compile.port_slot.Goals as goal

-- what gives the port its value, as it is read
given_by : (numbered : Numbered) → IsNumbered (net_of numbered) numbered → (port : ℕ) (read giver : Giver) → port < length (port_names (net_of numbered)) → read ≡ get_or numbered.givers.items port read → read ≡ giver → slice_get numbered.givers.items port ≡ Some giver
given_by numbered is port read giver lt at same = giver_at (net_of numbered) numbered.order.now numbered.cells.now numbered.sources.items numbered.givers.items is.compiled port read giver lt at same

pub index-requires : goal.index-requires
index-requires c =
    let numbered = c.args.numbered.now in
    omega (arith, count_givers (net_of numbered) numbered.order.now numbered.cells.now numbered.sources.items numbered.givers.items c.requires.numbered.compiled, c.requires.port, numbered.givers.ok.0)

pub offset_bounds-numbered-cell : goal.offset_bounds-numbered-cell
offset_bounds-numbered-cell c =
    let numbered = c.args.numbered.now in
    let given = given_by numbered c.requires.numbered c.args.port c.index.result.now (Output c.in-Output.cell c.in-Output.output) c.requires.port c.index.ensures c.in-Output.is in
    let lt = cell_within numbered c.requires.numbered c.args.made.now c.requires.made c.args.port c.requires.port c.args.made.now c.in-Output.cell c.in-Output.output given in
    search (rules, lt)

pub bounds-numbered-cell : goal.bounds-numbered-cell
bounds-numbered-cell c =
    let numbered = c.args.numbered.now in
    let given = given_by numbered c.requires.numbered c.args.port c.index.result.now (Output c.in-Output.cell c.in-Output.output) c.requires.port c.index.ensures c.in-Output.is in
    cell_within numbered c.requires.numbered c.args.made.now c.requires.made c.args.port c.requires.port c.args.made.now c.in-Output.cell c.in-Output.output given

pub index-requires-in-Output : goal.index-requires-in-Output
index-requires-in-Output c =
    let numbered = c.args.numbered.now in
    let given = given_by numbered c.requires.numbered c.args.port c.index.result.now (Output c.in-Output.cell c.in-Output.output) c.requires.port c.index.ensures c.in-Output.is in
    omega (arith, kind_within numbered c.requires.numbered c.args.made.now c.requires.made c.args.port c.requires.port c.args.made.now c.in-Output.cell c.in-Output.output given, numbered.kinds.of_cells.ok.0)

pub returns-in-Input : goal.returns-in-Input
returns-in-Input c =
    let numbered = c.args.numbered.now in
    let given = given_by numbered c.requires.numbered c.args.port c.index.result.now Input c.requires.port c.index.ensures c.in-Input.is in
    if_input_added numbered c.requires.numbered c.args.made.now c.requires.made c.args.port c.requires.port c.slot_after.result given c.slot_after.ensures

pub returns-in-Output : goal.returns-in-Output
returns-in-Output c =
    let numbered = c.args.numbered.now in
    let given = given_by numbered c.requires.numbered c.args.port c.index.result.now (Output c.in-Output.cell c.in-Output.output) c.requires.port c.index.ensures c.in-Output.is in
    if_output_added numbered c.requires.numbered c.args.made.now c.requires.made c.args.port c.requires.port _ c.in-Output.cell c.in-Output.output given c.output_slot.result _ c.index-in-Output.result.now c.index-in-Output.ensures refl refl refl c.output_slot.ensures

pub returns-in_ok-drive-in-Driven : goal.returns-in_ok-drive-in-Driven
returns-in_ok-drive-in-Driven c =
    let numbered = c.args.numbered.now in
    let mid = c.drivers.new.made in
    let slot = c.in_ok-drive-in-Driven.field-0 in
    let given = given_by numbered c.requires.numbered c.args.port c.index.result.now Driven c.requires.port c.index.ensures c.in-Driven.is in
    driven_added numbered c.requires.numbered c.args.made.now c.requires.made c.args.port c.requires.port mid _ slot given c.in_ok-drivers-in-Driven.drivers.items c.in_ok-drivers-in-Driven.ensures
    (subst (λ drivers. AddsPort mid.steps c.drive.new.steps mid.clashes.items c.drive.new.clashes.items c.args.port drivers slot) c.as_slice.ensures.value c.in_ok-drive-in-Driven.ensures) refl refl
