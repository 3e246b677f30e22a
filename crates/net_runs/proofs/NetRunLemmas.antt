-- A netlist is an orderly circuit, and so it has a run.
use Rattle.std.proofs.Common.{◌≡◌, ℕ, refl, sym, ap, ◌∙◌, subst}
use Rattle.hw_graph.proofs.MemberLemmas.{In, in_at, contains_of}
use Rattle.hw_names.specs.Name.{Text}
use Rattle.hw_prims.specs.Row.{Row}
use Rattle.net_core.specs.Circuit.{Drive}
use Rattle.net_core.specs.Graph.{ReadsPort, ByAssignment, ByCell, HasNoLoop, set_ports}
use Rattle.net_core.specs.NetRun.{net_circuit, net_drive}
use Rattle.net_core.specs.Netlist.{Netlist}
use Rattle.net_core.specs.Rules.{IsValid}
use Rattle.net_sim.proofs.AgreeLemmas.{drivers_agree}
use Rattle.net_sim.proofs.NoLoopLemmas.{read_number}
use Rattle.net_sim.proofs.PlaceLemmas.{named_at}
use Rattle.net_sim.specs.Layout.{port_names}
use Rattle.net_runs.proofs.LoopLemmas.{never_reaches_itself}
use Rattle.net_runs.proofs.NetRoleLemmas.{one_role, role_listed, decide_role}
use Rattle.net_runs.proofs.OrderlyLemmas.{IsOrderly, Driven}
use Rattle.net_runs.proofs.TraceLemmas.{orderly_has_run}
use Rattle.net_runs.specs.Laws.{NetlistsHaveRuns}

module _ (n : Netlist) (valid : IsValid n) (no_loop : HasNoLoop n) where
  drive_follows : (name : Text) (drive : Drive) → drive ≡ net_drive n name → (t : ℕ) (row other : Row) → ((y : Text) → ReadsPort n name y → row y ≡ other y) → drive t row ≡ drive t other
  drive_follows name drive is t row other agree =
      ap (λ (d : Drive). d t row) is
      ∙ drivers_agree row other name n.sets (λ k a at dst p has. agree p (ByAssignment k a at dst (contains_of (set_ports a) p has)))
      ∙ ap (λ (d : Drive). d t other) (sym is)

  read_listed : (x y : Text) → ReadsPort n x y → In (port_names n) y
  read_listed x y reads =
      let m = read_number n valid x y reads in
      subst (λ (name : Text). In (port_names n) name) m.1.2 (in_at (port_names n) m.0 m.1.0.name (named_at n m.0 m.1.0 m.1.1))

  orderly : IsOrderly (net_circuit n) (port_names n) (ReadsPort n)
  orderly = record {
    decide = decide_role n valid;
    one = one_role n valid;
    sinks = λ name drive sink. role_listed n valid name (Driven drive sink);
    drives = λ name drive sink t row other agree. drive_follows name drive sink.1 t row other agree;
    cells = λ cell prim output input is gives takes through. ByCell cell prim input output is takes gives through refl refl;
    known = read_listed;
    no_loop = never_reaches_itself n no_loop;
  }

pub netlists_have_runs : NetlistsHaveRuns
netlists_have_runs n valid no_loop asked inputs loads = orderly_has_run (net_circuit n) (port_names n) (ReadsPort n) (orderly n valid no_loop) asked inputs loads
