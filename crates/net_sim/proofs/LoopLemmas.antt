-- One more port evaluated, and the row once all are.
use Rattle.std.proofs.Common.{◌≡◌, ℕ, zero, suc, ◌+◌, ◌<◌, ◌≤◌, List, [], ◌∷◌, Option, Some, length, get_or, set, refl, sym, ap, ◌∙◌, arith, subst}
use Rattle.std.specs.Prelude.{slice_get, ◌↔◌}
use Rattle.std.proofs.lemmas.Option.{slice_get-get_or, same_Some}
use Rattle.hw_bits.specs.Values.{values_of, widths_of}
use Rattle.hw_bits.specs.declared.bits.Bits.{Bits}
use Rattle.hw_names.specs.Name.{Text}
use Rattle.hw_prims.specs.Row.{Row}
use Rattle.hw_prims.specs.State.{State}
use Rattle.hw_prims.specs.declared.prim.Primitive.{Primitive}
use Rattle.net_core.specs.NetRun.{values_for}
use Rattle.net_core.specs.Netlist.{Netlist}
use Rattle.net_sim.proofs.EvaluateLemmas.{AreEvaluated, IsAmong, done_more, same_drivers, least_kept, least_more, in_range, row_is_made, conflicts_are}
use Rattle.net_sim.proofs.PlanLemmas.{count_numbers}
use Rattle.net_sim.specs.Evaluated.{IsValueOf, Clashes, IsLeastConflict}
use Rattle.net_sim.specs.Layout.{port_names, port_widths, name_of}
use Rattle.net_sim.specs.OrderValue.{OrderValue}
use Rattle.net_sim.specs.Plan.{IsCompiled}
use Rattle.net_sim.specs.inside.Settled.{IsClash, settled_value}
use Rattle.net_sim.specs.Sim.{IsEvaluated, input_row, states_of, port_row}
use Rattle.net_sim.specs.declared.cells.CellPorts.{CellPorts}
use Rattle.net_sim.specs.declared.plan.Giver.{Giver}
use Rattle.net_sim.specs.declared.plan.Source.{Source}
use Rattle.net_sim.specs.declared.settle.Settled.{Settled}

values_set : (xs : List Bits) (k : ℕ) (v : Bits) → values_of (set xs k v) ≡ set (values_of xs) k v.value
values_set [] k v = refl
values_set (x ∷ xs) zero v = refl
values_set (x ∷ xs) (suc k) v = ap (λ l. x.value ∷ l) (values_set xs k v)

widths_set : (xs : List Bits) (k : ℕ) (v : Bits) → slice_get (widths_of xs) k ≡ Some v.width → widths_of (set xs k v) ≡ widths_of xs
widths_set [] k v e = refl
widths_set (x ∷ xs) zero v e = ap (λ w. w ∷ widths_of xs) (same_Some v.width x.width (sym e))
widths_set (x ∷ xs) (suc k) v e = ap (λ l. x.width ∷ l) (widths_set xs k v e)

module _ (n : Netlist) (order : OrderValue) (cells : List CellPorts) (sources : List Source) (givers : List Giver) (compiled : IsCompiled n order cells sources givers) (inputs : Row) (states : Text → Primitive → State) (values : List Bits) (widths : widths_of values ≡ port_widths n) (items : List ℕ) (items_are : items ≡ order.ports) (i : ℕ) where
  here : i < length items → slice_get order.ports i ≡ Some (get_or items i 0)
  here lt = ap (λ l. slice_get l i) (sym items_are) ∙ slice_get-get_or items i 0 lt

  pub port_within : i < length items → get_or items i 0 < length (port_names n)
  port_within lt = in_range n order cells sources givers compiled inputs states i (get_or items i 0) (here lt)

  pub widths_more : (v : Bits) → slice_get (port_widths n) (get_or items i 0) ≡ Some v.width → widths_of (set values (get_or items i 0) v) ≡ port_widths n
  widths_more v at = widths_set values (get_or items i 0) v (ap (λ l. slice_get l (get_or items i 0)) widths ∙ at) ∙ widths

  pub evaluated_more : (v : Bits) (s : Settled) (found result : Option ℕ) → i < length items → v.value ≡ settled_value s
      → IsValueOf n inputs states (port_row n (values_of values)) (name_of n (get_or items i 0)) (settled_value s)
      → (IsClash s ↔ Clashes n (port_row n (values_of values)) (get_or items i 0))
      → IsLeastConflict (port_names n) s found (get_or items i 0) result
      → AreEvaluated n inputs states order.ports i (values_of values) found → AreEvaluated n inputs states order.ports (i + 1) (values_of (set values (get_or items i 0) v)) result
  evaluated_more v s found result lt value is clash least so_far = subst (λ vs. AreEvaluated n inputs states order.ports (i + 1) vs result) (sym (values_set values (get_or items i 0) v)) (record {
    done = done_more n order cells sources givers compiled inputs states (values_of values) i port v.value (count_numbers n values widths) (here lt) (subst (IsValueOf n inputs states (port_row n (values_of values)) (name_of n port)) (sym value) is) so_far.done;
    least = least_more n (port_row n after) order.ports i port (here lt) s found result (λ is_clash. omega (arith, clash.0 is_clash, same_count)) (λ clashes. clash.1 (omega (arith, clashes, same_count))) least
        (least_kept n (port_row n (values_of values)) (port_row n after) order.ports i found (λ q among. same q (among.0, omega (arith, among.1), among.2)) so_far.least);
  })
    where
      port : ℕ
      port = get_or items i 0

      after : List ℕ
      after = set (values_of values) port v.value

      same : (q : ℕ) → IsAmong order.ports (i + 1) q → values_for (name_of n q) (port_row n (values_of values)) n.sets ≡ values_for (name_of n q) (port_row n after) n.sets
      same = same_drivers n order cells sources givers compiled inputs states (values_of values) i port v.value (here lt)

      same_count : length (values_for (name_of n port) (port_row n (values_of values)) n.sets) ≡ length (values_for (name_of n port) (port_row n after) n.sets)
      same_count = ap length (same port (i, omega arith, here lt))

pub evaluated_all : (n : Netlist) (order : OrderValue) (cells : List CellPorts) (sources : List Source) (givers : List Giver) (compiled : IsCompiled n order cells sources givers) (inputs : List ℕ) (states : List State) (values : List Bits) (found : Option ℕ) (i : ℕ) → widths_of values ≡ port_widths n → length order.ports ≤ i → i ≤ length order.ports → AreEvaluated n (input_row n inputs) (states_of n states) order.ports i (values_of values) found → IsEvaluated n inputs states (values_of values) found
evaluated_all n order cells sources givers compiled inputs states values found i widths over upto so_far =
    let e : i ≡ length order.ports = omega (arith, over, upto) in
    let all = subst (λ j. AreEvaluated n (input_row n inputs) (states_of n states) order.ports j (values_of values) found) e so_far in
    let size = count_numbers n values widths in
    record {
      row = row_is_made n order cells sources givers compiled (input_row n inputs) (states_of n states) (values_of values) size all.done;
      conflicts = λ t. conflicts_are n order cells sources givers compiled (input_row n inputs) (states_of n states) (values_of values) size all.done t found all.least;
    }
