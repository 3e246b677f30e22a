use Rattle.std.proofs.Common.{ap, sym, ◌∙◌, subst, refl, rules}
use Rattle.std.specs.Prelude.{All}
use Rattle.hw_prims.specs.Table.{IsMade}
use Rattle.net_core.specs.Netlist.{netlist_of}
use Rattle.net_sim.proofs.PlanLemmas.{count_numbers}
use Rattle.net_sim.proofs.SimLemmas.{all_made, all_wide, opening_by_name}
use Rattle.hw_names.specs.Name.{AreDistinct}
use Rattle.net_sim.specs.Compiled.{AreOpening, givers_of}
use Rattle.net_sim.specs.declared.cells.CellPorts.{CellPorts}
use Rattle.net_sim.proofs.sim.Sim.new.Goals as goal

pub opening_states-requires : goal.opening_states-requires
opening_states-requires c =
    subst (λ cells. All (λ (p : CellPorts). IsMade p.prim) cells) (sym c.as_slice-2.ensures.value) (all_made (netlist_of c.args.net.now) c.in_ok-cells.cells.items c.in_ok-cells.ensures)

pub no_values-requires : goal.no_values-requires
no_values-requires c = all_wide (netlist_of c.args.net.now) c.requires.valid c.in_ok-cells.cells.items c.in_ok-cells.ensures c.args.table.now.ports.items c.requires.table.widths

pub returns : goal.returns
returns c =
    let n = netlist_of c.args.net.now in
    let opening = subst (λ cells. AreOpening cells c.in_ok-states.states.items) c.as_slice-2.ensures.value c.in_ok-states.ensures in
    record {
      net_is = refl;
      phase = refl;
      values = count_numbers n c.in_ok-values.values.items (c.in_ok-values.ensures ∙ c.requires.table.widths);
      states = opening_by_name n c.requires.valid c.in_ok-cells.cells.items c.in_ok-cells.ensures c.in_ok-states.states.items opening;
      hidden = λ cell none. refl;
    }

pub invariant_of-result : goal.invariant_of-result
invariant_of-result c =
    let n = netlist_of c.args.net.now in
    let opening = subst (λ cells. AreOpening cells c.in_ok-states.states.items) c.as_slice-2.ensures.value c.in_ok-states.ensures in
    record {
      plan_is = record {
        table = c.requires.table;
        lowered = c.in_ok-lowered.ensures;
        compiled = record {
          valid = c.requires.valid;
          distinct = subst AreDistinct c.requires.table.names c.len-count.ensures.distinct;
          ordered = c.requires.order;
          listed = c.in_ok-cells.ensures;
          sourced = c.in_ok-lowered.ensures.sourced;
          given = c.in_ok-givers.ensures ∙ ap (givers_of n) c.as_slice.ensures.value;
        };
        shown = search rules;
      };
      prims = opening.prims_are;
      widths = c.in_ok-values.ensures ∙ c.requires.table.widths;
    }
