use Rattle.std.proofs.Common.{◌≡◌, ◌∙◌, ◌++◌, ℕ, ◌+◌, List, [], Option, length, refl, sym, ap, subst, arith, add-one}
use Rattle.std.specs.Prelude.{slice_get}
use Rattle.std.proofs.lemmas.Option.{get_or_from_slice_get}
use Rattle.hw_names.specs.Name.{Text}
use Rattle.net_core.specs.Netlist.{Netlist, netlist_of}
use Rattle.net_sim.specs.Layout.{port_names}
use Rattle.net_sim.specs.Sim.{states_of}
use Rattle.filc_report.proofs.RunLemmas.{table_numbers}
use Rattle.filc_report.specs.Rows.{memories_text}
use Rattle.filc_calyx.proofs.SchedulerLemmas.{after_none, inputs_in, text_to, whole_text}
use Rattle.filc_calyx.specs.inside.Scheduling.{IsAfterRow, IsBefore}
use Rattle.filc_calyx.proofs.scheduler.Scheduler.go_through.Goals as goal

pub row-requires : goal.row-requires
row-requires c =
    let x = c.requires.stands.0 in
    let start = c.requires.stands.1 in
    let are = c.requires.stands.2 in
    let n = netlist_of c.args.self.now.built.now.net in
    let t = c.loop-cycle.cycle in
    let at = c.loop-cycle.invariant.inputs in (
      x,
      c.loop-cycle.invariant.rows x start are,
      inputs_in x n start.is.net c.args.list t (t + 1) c.set_row.new.self c.values.result.now are (c.set_row.ensures.at n c.requires.fits.sets at) (c.set_row.ensures.given n c.requires.fits.sets at) c.values.ensures,
    )

pub name_of-requires-clause-named : goal.name_of-requires-clause-named
name_of-requires-clause-named c =
    let x = c.requires.stands.0 in
    let start = c.requires.stands.1 in
    let are = c.requires.stands.2 in
    let n = netlist_of c.args.self.now.built.now.net in
    let t = c.loop-cycle.cycle in
    let at = c.loop-cycle.invariant.inputs in
    let given = inputs_in x n start.is.net c.args.list t (t + 1) c.set_row.new.self c.values.result.now are (c.set_row.ensures.at n c.requires.fits.sets at) (c.set_row.ensures.given n c.requires.fits.sets at) c.values.ensures in
    let stopped = subst (λ (o : Option ℕ). IsAfterRow x t o c.row.new.self) c.in-Some.is (c.in_ok-port.ensures x (c.loop-cycle.invariant.rows x start are) given) in
    omega (arith, stopped.within, ap length start.is.ready.table.names, ap (λ (m : Netlist). length (port_names m)) start.is.net)

pub name_of-requires-clause-numbers : goal.name_of-requires-clause-numbers
name_of-requires-clause-numbers c = table_numbers (netlist_of c.args.self.now.built.now.net) c.args.self.now.built.now.table c.requires.stands.1.is.ready.table

pub returns-in-Some : goal.returns-in-Some
returns-in-Some c = λ x start are.
    let n = netlist_of c.args.self.now.built.now.net in
    let t = c.loop-cycle.cycle in
    let port = c.in-Some.port in
    let at = c.loop-cycle.invariant.inputs in
    let given = inputs_in x n start.is.net c.args.list t (t + 1) c.set_row.new.self c.values.result.now are (c.set_row.ensures.at n c.requires.fits.sets at) (c.set_row.ensures.given n c.requires.fits.sets at) c.values.ensures in
    let stopped = subst (λ (o : Option ℕ). IsAfterRow x t o c.row.new.self) c.in-Some.is (c.in_ok-port.ensures x (c.loop-cycle.invariant.rows x start are) given) in
    let names = start.is.ready.table.names ∙ ap port_names start.is.net in
    let name = c.name_of.result.now in
    let named = get_or_from_slice_get (port_names x.net) port name [] (ap (λ (ns : List Text). slice_get ns port) (sym names) ∙ c.name_of.ensures) in
    text_to x c.args.list.now.cycles t port c.row.new.self (record { cycle = t; port = c.in_ok-port-2.port }) c.loop-cycle-test.true stopped refl (c.in_ok-port-2.ensures ∙ sym named)

pub loop-cycle-preserved : goal.loop-cycle-preserved
loop-cycle-preserved c =
    let n = netlist_of c.args.self.now.built.now.net in
    let t = c.loop-cycle.cycle in
    let at = c.loop-cycle.invariant.inputs in
    let next = c.set_row.ensures.at n c.requires.fits.sets at in
    record {
      inputs = next;
      rows = λ x start are.
          let given = inputs_in x n start.is.net c.args.list t (t + 1) c.set_row.new.self c.values.result.now are next (c.set_row.ensures.given n c.requires.fits.sets at) c.values.ensures in
          let after = c.in_ok-port.ensures x (c.loop-cycle.invariant.rows x start are) given in
          subst (λ (u : ℕ). IsBefore x u c.row.new.self) (sym (add-one t)) (after_none x t c.in_ok-port.field-0 c.row.new.self c.in_default.not-Some after);
    }

pub push_memories-requires-clause-net : goal.push_memories-requires-clause-net
push_memories-requires-clause-net c =
    let start = c.requires.stands.1 in
    let before = c.loop-cycle.invariant.rows c.requires.stands.0 start c.requires.stands.2 in
    before.stands.net ∙ sym start.is.net

pub returns : goal.returns
returns c = λ x start are.
    let self = c.loop-cycle.self in
    let rows = c.args.list.now.cycles in
    let all : c.loop-cycle.cycle ≡ rows = omega (arith, c.loop-cycle-test.false, c.loop-cycle.auto.cycle-end) in
    let before = subst (λ (t : ℕ). IsBefore x t self) all (c.loop-cycle.invariant.rows x start are) in
    whole_text x rows self c.push_memories.new.text.items before
    (c.in_ok-push_memories.ensures ∙ ap (λ (m : Netlist). self.text.items ++ memories_text m (states_of m self.sim.states)) start.is.net)
