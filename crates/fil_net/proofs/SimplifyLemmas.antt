-- A netlist with its guards folded keeps what the design promises.
use Rattle.std.proofs.Common.{List, Contains, sym, subst, ◌∙◌}
use Rattle.net_core.specs.Netlist.{CellLine, Netlist}
use Rattle.net_guard.proofs.LoopLemmas.{has_no_loop}
use Rattle.net_guard.proofs.RuleLemmas.{is_valid}
use Rattle.net_guard.proofs.RunLemmas.{keeps_runs}
use Rattle.net_guard.specs.Simplified.{IsSimplified}
use Rattle.fil_ast.specs.Tree.{Design}
use Rattle.fil_promise.specs.Refines.{Refines, instance_cell}
use Rattle.fil_net.specs.Laws.{SimplifiedNetsRefine}

simplified_keeps : (comps : Design) (old new : Netlist) → IsSimplified old new → Refines comps old → Refines comps new
simplified_keeps comps old new s r =
    let same = keeps_runs old new s in
    record {
      number = r.number;
      is_top = r.is_top;
      c = r.c;
      at = r.at;
      valid = is_valid old new s r.valid;
      no_loop = has_no_loop old new s r.no_loop;
      name = s.name ∙ r.name;
      ins = s.ins ∙ r.ins;
      outs = s.outs ∙ r.outs;
      cells = record {
        all = λ path i table at is. subst (λ (cells : List CellLine). Contains cells (instance_cell path table i)) (sym s.cells) (r.cells.all path i table at is);
        only = λ line has. r.cells.only line (subst (λ (cells : List CellLine). Contains cells line) s.cells has);
      };
      carries = λ txs legal own asked inputs loads height trace run given.
          let carried = r.carries txs legal own asked inputs loads height trace ((same.runs asked inputs loads height trace).0 run) given in
          record {
            whole = carried.whole;
            clean = λ t port less clash. carried.clean t port less ((same.conflicts t (trace t) port).0 clash);
            legal = carried.legal;
            carries = carried.carries;
          };
    }

pub simplified_refine : SimplifiedNetsRefine
simplified_refine = simplified_keeps
