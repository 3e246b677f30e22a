use Rattle.std.proofs.Common.{ℕ, ◌+◌, None, ap, subst, ◌∙◌}
use Rattle.hw_bits.specs.Values.{values_of}
use Rattle.net_sim.specs.Sim.{IfEvaluated, IsRowOfSim, IsEdgeOfSim}
use Rattle.net_sim.specs.declared.sim.Phase.{Phase}
use Rattle.std.specs.List.{sum}
use Rattle.filc_report.specs.Sums.{sum_at, wrapped}
use Rattle.filc_report.proofs.StreamLemmas.{running}
use Rattle.filc_report.proofs.SumLemmas.{wrapped_right}
use Rattle.filc_report.proofs.sums.Sums.add_row.Goals as goal

pub returns-clause-added : goal.returns-clause-added
returns-clause-added c =
    let mid = c.row.new.self in
    let row = running c.args.sim.now.phase (IsRowOfSim c.args.sim.now (values_of c.args.inputs.now) mid None) c.requires.goes_on c.in_ok-row.ensures.running in
    record {
      between = mid;
      row = row;
      edge = subst (λ (p : Phase). IfEvaluated p (IsEdgeOfSim mid c.edge.new.self)) row.phase c.edge.ensures.evaluated;
      outputs = ap (λ (s : ℕ). wrapped (c.args.self.now.outputs + s)) c.sum_marked-due.ensures ∙ wrapped_right c.args.self.now.outputs (sum_at mid.values c.args.view.now);
      ports = ap (λ (s : ℕ). wrapped (c.args.self.now.ports + s)) c.sum_ports-all.ensures ∙ wrapped_right c.args.self.now.ports (sum mid.values);
    }
