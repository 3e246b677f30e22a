-- One soak comes of a netlist that is made.
use Rattle.std.proofs.Common.{◌≡◌, ℕ, [], ◌∷◌, ◌++◌, sym, ap, subst, ◌∙◌}
use Rattle.hw_graph.proofs.MemberLemmas.{in_of}
use Rattle.hw_names.specs.Name.{Text}
use Rattle.hw_prims.specs.Row.{Trace}
use Rattle.net_core.specs.Graph.{HasNoLoop}
use Rattle.net_core.specs.NetRun.{NetRun}
use Rattle.net_core.specs.Netlist.{Netlist}
use Rattle.net_core.specs.Rules.{IsValid}
use Rattle.net_sim.specs.Layout.{port_names}
use Rattle.net_text.proofs.OneNetlist.{one_netlist}
use Rattle.fil_ast.specs.Signature.{component_signature}
use Rattle.fil_driven.specs.TxDrive.{driven_by}
use Rattle.filc_report.proofs.SumLemmas.{ports_alike}
use Rattle.filc_report.specs.Runs.{no_loads}
use Rattle.filc_report.specs.Sums.{summary_text, wrapped}
use Rattle.filc_run.specs.Soaked.{Soaks, soak, soak_ports, soak_rows, soak_run, soak_sum}
use Rattle.filc_stop.specs.Outcome.{Outcome, done_with}
use Rattle.filc_laws.proofs.RowLemmas.{agree_in}

module _ (count : ℕ) where
  abbrev IsSoakRun : Netlist → Trace → Type 0
  IsSoakRun n trace = NetRun n (soak_rows count) (driven_by (component_signature soak) (soak_run count)) no_loads (soak_rows count) trace

  same_sums : (n : Netlist) → IsValid n → HasNoLoop n → (trace other : Trace) → IsSoakRun n trace → IsSoakRun n other → soak_ports n trace (soak_rows count) ≡ soak_ports n other (soak_rows count)
  same_sums n valid no_loop trace other is is' =
      ap wrapped (ports_alike n trace other (soak_rows count) (λ t before port has.
      agree_in n valid no_loop (driven_by (component_signature soak) (soak_run count)) no_loads (soak_rows count) (soak_rows count) trace other is.rows is'.rows t before before port (in_of (port_names n) port has)))

  -- what was made spells one netlist, and that has one run
  pub soaks_once : (made : Text) (o o' : Outcome) → Soaks count made o → Soaks count made o' → o ≡ o'
  soaks_once made o o' p q =
      let net : q.net ≡ p.net = one_netlist made q.net p.net q.made_net.spells p.made_net.spells in
      let other : IsSoakRun p.net q.trace = subst (λ (n : Netlist). IsSoakRun n q.trace) net q.is_run in
      let keeps = p.made_net.refines in
      let ports : soak_ports p.net p.trace (soak_rows count) ≡ soak_ports q.net q.trace (soak_rows count) =
      same_sums p.net keeps.valid keeps.no_loop p.trace q.trace p.is_run other ∙ ap (λ (n : Netlist). soak_ports n q.trace (soak_rows count)) (sym net) in
      p.outcome ∙ ap (λ (sum : ℕ). done_with (made ++ 10 ∷ [] ++ summary_text count (soak_rows count) (soak_sum count) sum)) ports ∙ sym q.outcome

  -- its report alone tells the soak
  pub soaks_report : (made : Text) (o : Outcome) → Soaks count made o → Soaks count made (done_with o.report)
  soaks_report made o s = record {
    net = s.net;
    made_net = s.made_net;
    trace = s.trace;
    is_run = s.is_run;
    outcome = ap (λ (x : Outcome). done_with x.report) s.outcome;
  }
