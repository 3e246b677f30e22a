-- What netlists give: one run, and the same Conflicts in rows that agree.
use Rattle.std.proofs.Common.{◌≡◌, ℕ, ◌<◌, List, length, refl, ap, arith}
use Rattle.std.specs.Prelude.{Contains}
use Rattle.hw_names.specs.Name.{Text}
use Rattle.hw_prims.specs.Row.{Row, Trace}
use Rattle.net_core.specs.Circuit.{HasConflict}
use Rattle.net_core.specs.NetRun.{NetRun, net_circuit}
use Rattle.net_core.specs.Netlist.{Netlist}
use Rattle.net_core.specs.Rules.{IsValid, ports_of}
use Rattle.net_sim.specs.Order.{IsOrderOf}
use Rattle.net_sim.proofs.AgreeLemmas.{drivers_agree, set_reads}
use Rattle.net_sim.proofs.OneRunLemmas.{one_run}
use Rattle.filc_report.proofs.PortLemmas.{port_names}

abbrev pub IsPort : Netlist → Text → Type 0
IsPort n port = Contains (port_names (ports_of n)) port

-- two runs have the same rows
pub same_rows : (n : Netlist) → IsValid n → (order : List ℕ) → IsOrderOf n order → (asked height height' : ℕ) (inputs : Trace) (loads : Text → List ℕ) (trace trace' : Trace) → NetRun n asked inputs loads height trace → NetRun n asked inputs loads height' trace' → (t : ℕ) → t < height → t < height' → (port : Text) → IsPort n port → trace t port ≡ trace' t port
same_rows n valid order ordered asked height height' inputs loads trace trace' run run' t within within' port is =
    one_run n valid order ordered inputs inputs loads (λ u p has. refl) height height' trace trace' run.rows run'.rows t within within' port is

-- rows that agree at the ports have the same Conflicts
pub same_conflicts : (n : Netlist) → IsValid n → (t : ℕ) (row row' : Row) → ((p : Text) → IsPort n p → row p ≡ row' p) → (port : Text) → HasConflict (net_circuit n) t row port → HasConflict (net_circuit n) t row' port
same_conflicts n valid t row row' agree port has =
    let many = ap (λ drive. length (drive t row)) has.sink.1 in
    let many' = ap (λ drive. length (drive t row')) has.sink.1 in
    let same = ap length (drivers_agree row row' port n.sets (λ k a at is p read. agree p (set_reads n valid k a at p read))) in
    record { drive = has.drive; sink = has.sink; clash = omega (arith, has.clash, many, many', same) }
