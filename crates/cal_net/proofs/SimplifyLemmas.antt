-- A netlist with its guards folded shows the same of a design.
use Rattle.std.proofs.Common.{List, Contains, filter, sym, ap, subst, ◌∙◌}
use Rattle.net_core.specs.Netlist.{CellLine, Netlist}
use Rattle.net_core.specs.Rules.{PortLine}
use Rattle.cal_ast.specs.Keeping.{KeepsRuns, NetRuns, Refines}
use Rattle.cal_ast.specs.Tree.{Component, Design}
use Rattle.net_guard.proofs.LoopLemmas.{has_no_loop}
use Rattle.net_guard.proofs.RuleLemmas.{is_valid, same_ports}
use Rattle.net_guard.proofs.RunLemmas.{keeps_runs}
use Rattle.net_guard.specs.Simplified.{IsSimplified}
use Rattle.net_sim.specs.Shown.{is_shown}
use Rattle.cal_net.specs.Laws.{SimplifiedNetsRefine}
use Rattle.cal_net.specs.Refining.{RefinesTop}

module _ (old new : Netlist) (s : IsSimplified old new) where
  -- each run of the new netlist is one of the old, and stops alike
  runs_kept : KeepsRuns (NetRuns new) (NetRuns old)
  runs_kept asked inputs loads height trace stop given =
      let same = keeps_runs old new s in
      record { run = (same.runs asked inputs loads height trace).0 given.run; stops = (same.stops height trace stop).0 given.stops }

  refines_kept : (design : Design) (top : Component) → Refines design top old → Refines design top new
  refines_kept design top r = record {
    valid = is_valid old new s r.valid;
    no_loop = has_no_loop old new s r.no_loop;
    name = s.name ∙ r.name;
    ins = s.ins ∙ r.ins;
    outs = s.outs ∙ r.outs;
    cells = record {
      all = λ line is. subst (λ (cells : List CellLine). Contains cells line) (sym s.cells) (r.cells.all line is);
      only = λ line has. r.cells.only line (subst (λ (cells : List CellLine). Contains cells line) s.cells has);
    };
    runs = λ asked inputs loads height trace stop given. r.runs asked inputs loads height trace stop (runs_kept asked inputs loads height trace stop given);
    agree = λ asked inputs loads a b one other. r.agree asked inputs loads a b (runs_kept asked inputs loads a.height a.trace a.stop one) other;
  }

  simplified_refine : (design : Design) → RefinesTop design old → RefinesTop design new
  simplified_refine design r = record {
    number = r.number;
    is_top = r.is_top;
    top = r.top;
    at = r.at;
    refines = record {
      refines = refines_kept design r.top r.refines.refines;
      ports = λ name port.
          let has = r.refines.ports name port in
          record { line = has.line; among = subst (λ (ports : List PortLine). Contains ports has.line) (sym (same_ports old new s)) has.among; named = has.named; wide = has.wide };
      memories = ap (filter is_shown) s.cells ∙ r.refines.memories;
      registers = record {
        added = r.refines.registers.added;
        few = r.refines.registers.few;
        cells = λ line has. r.refines.registers.cells line (subst (λ (cells : List CellLine). Contains cells line) s.cells has);
      };
    };
  }

pub simplified_nets_refine : SimplifiedNetsRefine
simplified_nets_refine design old new s r = simplified_refine old new s design r
