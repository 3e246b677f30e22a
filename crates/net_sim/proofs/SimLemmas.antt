-- What a simulator keeps from one call to the next.
use Rattle.std.proofs.Common.{◌≡◌, ℕ, suc, ◌<◌, ◌≤◌, List, [], ◌∷◌, Option, Some, None, length, get_or, refl, sym, ap, ap₂, ◌∙◌, arith, map, subst, true, inl, inr}
use Rattle.std.specs.Prelude.{slice_get, option_map, All}
use Rattle.std.proofs.lemmas.Bool.{cases_lt}
use Rattle.std.proofs.lemmas.Bool.Decides.{nat_tests}
use Rattle.std.proofs.lemmas.List.{length-map}
use Rattle.std.proofs.lemmas.Option.{slice_get-map, slice_get_within, slice_get-get_or, slice_get_past, same_Some}
use Rattle.hw_bits.specs.Values.{values_of}
use Rattle.hw_bits.specs.declared.bits.Bits.{Bits}
use Rattle.hw_names.specs.Name.{Text}
use Rattle.hw_prims.specs.Cell.{CellValue}
use Rattle.hw_prims.specs.Meaning.{next_state, opening_state}
use Rattle.hw_prims.specs.Table.{IsMade, is_width}
use Rattle.hw_prims.specs.declared.prim.Primitive.{Primitive}
use Rattle.net_core.specs.NetRun.{IsNetCell}
use Rattle.net_core.specs.Netlist.{Netlist}
use Rattle.net_core.specs.Rules.{PortLine, ports_of, IsValid}
use Rattle.net_core.specs.declared.table.PortInfo.{PortInfo}
use Rattle.net_sim.proofs.GiverLemmas.{at_some}
use Rattle.hw_graph.proofs.MemberLemmas.{in_at}
use Rattle.net_sim.proofs.PlaceLemmas.{listed_cell}
use Rattle.net_sim.proofs.PortLemmas.{input_widths}
use Rattle.net_sim.proofs.PortValueLemmas.{inputs_of_cell, state_of_cell}
use Rattle.net_sim.proofs.StepLemmas.{same_count, same_prim}
use Rattle.net_sim.proofs.WideLemmas.{port_wide}
use Rattle.net_sim.specs.Compiled.{AreOpening}
use Rattle.net_sim.specs.Evaluated.{AreMoved, AreCellInputs, moved, cell_inputs}
use Rattle.net_sim.specs.Layout.{port_names, port_widths, AreCellPorts}
use Rattle.net_sim.specs.OrderValue.{OrderValue}
use Rattle.net_sim.specs.Plan.{IsCompiled, ArePrims}
use Rattle.net_sim.specs.Sim.{AreStepped, IsEvaluated, states_of, IfRunning, IfStopped, IfEvaluated}
use Rattle.net_sim.specs.declared.sim.Phase.{Phase}
use Rattle.net_sim.specs.declared.sim.Phase.TheVariants.{Fresh, Evaluated, Stepped, Stopped}
use Rattle.net_sim.specs.declared.cells.CellPorts.{CellPorts}
use Rattle.net_sim.specs.declared.plan.Giver.{Giver}
use Rattle.net_sim.specs.declared.plan.Source.{Source}

same_lists : {X : Type 0} (xs ys : List X) → ((k : ℕ) → slice_get xs k ≡ slice_get ys k) → xs ≡ ys
same_lists [] [] same = refl
same_lists [] (y ∷ ys) same = let bad : None ≡ Some y = same 0 in absurd (cc)
same_lists (x ∷ xs) [] same = let bad : Some x ≡ None = same 0 in absurd (cc)
same_lists (x ∷ xs) (y ∷ ys) same = ap₂ ◌∷◌ (same_Some x y (same 0)) (same_lists xs ys (λ k. same (suc k)))

abbrev prim_in : CellValue → Primitive
prim_in s = s.prim

-- the inputs of the cells have their widths
pub inputs_fit : (n : Netlist) (order : OrderValue) (cells : List CellPorts) (sources : List Source) (givers : List Giver) → IsCompiled n order cells sources givers → (widths : List ℕ) → widths ≡ port_widths n → AreCellInputs widths cells
inputs_fit n order cells sources givers compiled widths e = subst (λ w. AreCellInputs w cells) (sym e) (λ k c at. input_widths n compiled.valid cells compiled.listed k c at)

module _ (cells : List CellPorts) (old new : List CellValue) (values : List ℕ) (prims : ArePrims cells old) (moves : AreMoved cells values (length cells) old new) where
  moved_at : (k : ℕ) (s : CellValue) → slice_get old k ≡ Some s → (c : CellPorts) × (slice_get cells k ≡ Some c) × (slice_get new k ≡ Some (moved values c s))
  moved_at k s at =
      let lt : k < length cells = omega (arith, slice_get_within old k s at, same_count cells old prims) in
      let c = at_some cells k lt in
      (c.0, c.1, moves.first k c.0 s lt c.1 at)

  prims_at : (k : ℕ) → slice_get (map prim_in new) k ≡ slice_get (map prim_in old) k
  prims_at k = elim (cases_lt k (length old)) [
    | inl lt ↦
        let s = at_some old k lt in
        let m = moved_at k s.0 s.1 in
        slice_get-map prim_in new k ∙ ap (option_map prim_in) m.2 ∙ sym (slice_get-map prim_in old k ∙ ap (option_map prim_in) s.1)
    | inr past ↦ slice_get_past (map prim_in new) k (omega (arith, past, moves.all, length-map new prim_in)) ∙ sym (slice_get_past (map prim_in old) k (omega (arith, past, length-map old prim_in)))
  ]

  -- cells that move on stay of their primitives
  pub prims_kept : ArePrims cells new
  prims_kept = same_lists (map prim_in new) (map prim_in old) prims_at ∙ prims

  -- each cell has moved on by its name
  pub stepped_by_name : (n : Netlist) (order : OrderValue) (sources : List Source) (givers : List Giver) → IsCompiled n order cells sources givers → length values ≡ length (port_names n) → AreStepped n (map (λ (s : CellValue). s.state) old) values (map (λ (s : CellValue). s.state) new)
  stepped_by_name n order sources givers compiled size cell prim has =
      let l = listed_cell n cells compiled.listed cell prim has in
      let s = at_some old l.index (omega (arith, slice_get_within cells l.index l.ports l.at, same_count cells old prims)) in
      let m = moves.first l.index l.ports s.0 (slice_get_within cells l.index l.ports l.at) l.at s.1 in
      let before = state_of_cell n cells compiled.valid compiled.listed old prims cell prim l s.0 s.1 in
      let after = state_of_cell n cells compiled.valid compiled.listed new prims_kept cell prim l (moved values l.ports s.0) m in
      let prim_is : s.0.prim ≡ prim = same_prim cells old prims l.index l.ports s.0 l.at s.1 ∙ l.prim_is in
      after ∙ ap (λ p. next_state p s.0.state (cell_inputs values l.ports)) prim_is ∙ ap₂ (next_state prim) (sym before) (inputs_of_cell n order cells sources givers compiled values size cell prim l)

-- ---- a new simulator

pub all_made : (n : Netlist) (cells : List CellPorts) → AreCellPorts n cells → All (λ (c : CellPorts). IsMade c.prim) cells
all_made n cells listed k d lt =
    let c : slice_get cells k ≡ Some (get_or cells k d) = slice_get-get_or cells k d lt in
    let line = at_some n.cells k (omega (arith, lt, listed.all)) in
    (listed.each k line.0 (get_or cells k d) line.1 c).made

wide_parts : (w : ℕ) → is_width w ≡ true → (1 ≤ w) × (w ≤ 128)
wide_parts w e = grind (arith, nat_tests)

pub all_wide : (n : Netlist) → IsValid n → (cells : List CellPorts) → AreCellPorts n cells → (infos : List PortInfo) → map (λ (p : PortInfo). p.width) infos ≡ map (λ (p : PortLine). p.width) (ports_of n) → All (λ (p : PortInfo). (1 ≤ p.width) × (p.width ≤ 128)) infos
all_wide n valid cells listed infos e k d lt =
    let size : length infos ≡ length (ports_of n) = sym (length-map infos (λ (p : PortInfo). p.width)) ∙ ap length e ∙ length-map (ports_of n) (λ (p : PortLine). p.width) in
    let p = at_some (ports_of n) k (omega (arith, lt, size)) in
    let same : (get_or infos k d).width ≡ p.0.width = same_Some (get_or infos k d).width p.0.width (
    sym (slice_get-map (λ (q : PortInfo). q.width) infos k ∙ ap (option_map (λ (q : PortInfo). q.width)) (slice_get-get_or infos k d lt))
    ∙ ap (λ l. slice_get l k) e ∙ slice_get-map (λ (q : PortLine). q.width) (ports_of n) k ∙ ap (option_map (λ (q : PortLine). q.width)) p.1) in
    wide_parts (get_or infos k d).width (ap is_width same ∙ port_wide n valid cells listed p.0 (in_at (ports_of n) k p.0 p.1))

-- each cell's state, by its name, is its opening one
pub opening_by_name : (n : Netlist) → IsValid n → (cells : List CellPorts) → AreCellPorts n cells → (states : List CellValue) → AreOpening cells states → (cell : Text) (prim : Primitive) → IsNetCell n cell prim → states_of n (map (λ (s : CellValue). s.state) states) cell prim ≡ opening_state prim []
opening_by_name n valid cells listed states opening cell prim has =
    let l = listed_cell n cells listed cell prim has in
    let s = at_some states l.index (omega (arith, slice_get_within cells l.index l.ports l.at, same_count cells states opening.prims_are)) in
    let state : s.0.state ≡ opening_state l.ports.prim [] = same_Some s.0.state (opening_state l.ports.prim []) (
    sym (slice_get-map (λ (x : CellValue). x.state) states l.index ∙ ap (option_map (λ (x : CellValue). x.state)) s.1)
    ∙ ap (λ m. slice_get m l.index) opening.states_are
    ∙ slice_get-map (λ (c : CellPorts). opening_state c.prim []) cells l.index ∙ ap (option_map (λ (c : CellPorts). opening_state c.prim [])) l.at) in
    state_of_cell n cells valid listed states opening.prims_are cell prim l s.0 s.1 ∙ state ∙ ap (λ p. opening_state p []) l.prim_is

-- ---- claims by phases

pub if_running : (phase : Phase) (claim : Type 0) → claim → IfRunning phase claim
if_running Fresh claim is = is
if_running Evaluated claim is = is
if_running Stepped claim is = is
if_running (Stopped port) claim is = tt

pub if_not_stopped : (phase : Phase) (claim : ℕ → Type 0) → ((port : ℕ) → phase ≡ Stopped port → ⊥) → IfStopped phase claim
if_not_stopped Fresh claim none = tt
if_not_stopped Evaluated claim none = tt
if_not_stopped Stepped claim none = tt
if_not_stopped (Stopped port) claim none = absurd (none port refl)

pub if_evaluated : (phase : Phase) (claim : Type 0) → claim → IfEvaluated phase claim
if_evaluated Fresh claim is = tt
if_evaluated Evaluated claim is = is
if_evaluated Stepped claim is = tt
if_evaluated (Stopped port) claim is = tt

-- ---- the same lists by other names

pub moves_along : (cells cells' : List CellPorts) (values values' : List Bits) (old old' new : List CellValue) → cells ≡ cells' → values ≡ values' → old ≡ old' → AreMoved cells (values_of values) (length cells) old new → AreMoved cells' (values_of values') (length cells') old' new
moves_along cells cells' values values' old old' new e f g moves =
    subst (λ c. AreMoved c (values_of values') (length c) old' new) e (subst (λ v. AreMoved cells (values_of v) (length cells) old' new) f (subst (λ o. AreMoved cells (values_of values) (length cells) o new) g moves))

pub evaluated_along : (n : Netlist) (inputs : List ℕ) (states states' : List CellValue) (values values' : List Bits) (found found' : Option ℕ) → states ≡ states' → values ≡ values' → found ≡ found' → IsEvaluated n inputs (map (λ (s : CellValue). s.state) states) (values_of values) found → IsEvaluated n inputs (map (λ (s : CellValue). s.state) states') (values_of values') found'
evaluated_along n inputs states states' values values' found found' e f g is =
    subst (λ s. IsEvaluated n inputs (map (λ (x : CellValue). x.state) s) (values_of values') found') e (subst (λ v. IsEvaluated n inputs (map (λ (x : CellValue). x.state) states) (values_of v) found') f (subst (λ o. IsEvaluated n inputs (map (λ (x : CellValue). x.state) states) (values_of values) o) g is))
