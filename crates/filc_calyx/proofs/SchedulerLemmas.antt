-- A row more of a schedule.
use Rattle.std.proofs.Common.{◌≡◌, ℕ, suc, ◌<◌, List, [], ◌∷◌, ◌++◌, Bool, length, map, flat_map, Option, Some, None, refl, sym, ap, subst, ◌∙◌, arith, append_assoc}
use Rattle.std.specs.Borrow.{Bor}
use Rattle.std.specs.Prelude.{codes, decimal}
use Rattle.hw_bits.specs.Values.{values_of, widths_of}
use Rattle.hw_bits.specs.declared.bits.Bits.{Bits}
use Rattle.hw_names.specs.Name.{Text}
use Rattle.hw_prims.specs.Row.{Row, Trace}
use Rattle.hw_prims.specs.Table.{pin_widths}
use Rattle.net_core.proofs.ValidLemmas.{port_names_are_distinct}
use Rattle.net_core.specs.Circuit.{states_before}
use Rattle.net_core.specs.NetRun.{HasPin}
use Rattle.net_core.specs.Netlist.{Netlist}
use Rattle.net_core.specs.Rules.{IsValid}
use Rattle.net_core.specs.declared.stimulus.CycleList.{CycleList}
use Rattle.net_sim.proofs.StandsLemmas.{ends_after_all}
use Rattle.net_sim.specs.Layout.{name_of, port_names}
use Rattle.net_sim.specs.Sim.{IsEdgeOfSim, IsRowOfSim, SimValue, input_row, port_row, states_of}
use Rattle.cal_ast.specs.Actors.{Actor, actors_of}
use Rattle.cal_net.specs.Face.{face}
use Rattle.filc_load.specs.Given.{driven}
use Rattle.filc_report.proofs.MemoryLemmas.{memories_same}
use Rattle.filc_report.proofs.StandLemmas.{before, longer, map_row_of, reported_at, runs_into, steps_on, this_row}
use Rattle.filc_report.specs.Driving.{AreInputsAt}
use Rattle.filc_report.specs.Rows.{lines_text, memories_text, outputs_of_net, port_text}
use Rattle.filc_report.specs.Streams.{IsStopped}
use Rattle.filc_report.specs.declared.drive.Drive.TheVariants.{Cycles}
use Rattle.filc_report.specs.declared.inputs.Inputs.{Inputs}
use Rattle.filc_calyx.proofs.ActingLemmas.{acting_same}
use Rattle.filc_calyx.proofs.LineLemmas.{lines_alike}
use Rattle.filc_calyx.proofs.WalkLemmas.{walks_same}
use Rattle.filc_calyx.specs.Scheduled.{schedule_line}
use Rattle.filc_calyx.specs.inside.Scheduling.{AreInputsIn, IsAfterRow, HasTextTo, IsBefore, IsScheduleOf, IsSchedulerOf, IsStoppedAt, Subject, Walks, acting, label_if, line_in}
use Rattle.filc_calyx.specs.declared.schedule.Clash.{Clash}
use Rattle.filc_calyx.specs.declared.scheduler.Scheduler.{Scheduler}

module _ (x : Subject) (t : ℕ) (old : Scheduler) (stands : IsBefore x t old) (ins : List Bits) (given : AreInputsIn x t ins) (mid : SimValue) (conflict : Option ℕ) (makes : IsRowOfSim old.sim (values_of ins) mid conflict) where
  -- the rows with the one that was evaluated
  abbrev pub grown : Trace
  grown = longer x.net old.sim mid t x.inputs x.loads stands.trace (values_of ins) conflict stands.stands given.values makes

  earlier : (u : ℕ) → u < t → stands.trace u ≡ grown u
  earlier u less = sym (before x.net old.sim mid t x.inputs x.loads stands.trace (values_of ins) conflict stands.stands given.values makes u less)

  this : grown t ≡ port_row x.net mid.values
  this = this_row x.net old.sim mid t x.inputs x.loads stands.trace (values_of ins) conflict stands.stands given.values makes

  -- the simulation has the values of that row
  pub values_are : mid.values ≡ map (grown t) (port_names x.net)
  values_are =
      let valid = subst IsValid stands.is.net stands.is.ready.valid in
      let sized : length mid.values ≡ length (port_names x.net) = makes.values ∙ ap (λ (m : Netlist). length (port_names m)) stands.stands.net in
      sym (map_row_of (port_names x.net) mid.values (port_names_are_distinct x.net valid) sized) ∙ ap (λ (row : Row). map row (port_names x.net)) (sym this)

  -- the lines so far are those of the same rows
  text_same : lines_text (line_in x stands.trace) stands.trace t ≡ lines_text (line_in x grown) grown t
  text_same =
      lines_alike x.top (acting x.design x.top stands.trace) (acting x.design x.top grown) stands.trace grown t
      (λ u less actor. acting_same x.design x.top stands.trace grown u (λ v few. earlier v (omega (arith, few, less))) actor)
      (λ u less port has. ap (λ (row : Row). row port) (earlier u less))

  pub walks_there : Walks x.design x.top x.names (port_names x.net) grown t old.walker
  walks_there = walks_same x.design x.top x.names (port_names x.net) stands.trace grown t earlier old.walker stands.walks

  -- the row has a Conflict
  pub stopped_at : (port : ℕ) → conflict ≡ Some port → IsStoppedAt x t port (record old { sim = mid })
  stopped_at port is = record {
    is = record { ready = stands.is.ready; net = stands.is.net; outs = stands.is.outs; labels = stands.is.labels };
    within = (reported_at x.net old.sim mid t x.inputs x.loads stands.trace (values_of ins) conflict stands.stands given.values makes port is).0;
    trace = grown;
    runs = λ asked within. runs_into x.net old.sim mid t x.inputs x.loads stands.trace (values_of ins) conflict stands.stands given.values makes asked port within is;
    text = stands.text ∙ text_same;
  }

  -- the row has none, and its line and the edge follow
  pub goes_on : conflict ≡ None → (new : Scheduler) → IsSchedulerOf x new → IsEdgeOfSim mid new.sim → Walks x.design x.top x.names (port_names x.net) grown (suc t) new.walker
      → new.text.items ≡ old.text.items ++ schedule_line x.top (acting x.design x.top grown) t (grown t) → IsBefore x (suc t) new
  goes_on none new is edge walks text = record {
    is = is;
    goes_on = λ stopped. subst IsStopped edge.phase stopped;
    trace = grown;
    stands = steps_on x.net old.sim mid t x.inputs x.loads stands.trace (values_of ins) conflict stands.stands given.values makes none new.sim edge;
    walks = walks;
    text = text ∙ ap (λ (lines : Text). lines ++ schedule_line x.top (acting x.design x.top grown) t (grown t)) (stands.text ∙ text_same);
  }

-- ---- the inputs and the line of a row

-- what the list gives in a row
pub inputs_in : (x : Subject) (n : Netlist) (same : n ≡ x.net) (list : Bor CycleList) (t row : ℕ) (inputs : Inputs) (given : List Bits) → driven x.net list.now.sets.items ≡ x.inputs → AreInputsAt n (Cycles list) inputs row
    → ((port : Text) → HasPin n.ins port → input_row n (values_of inputs.values.items) port ≡ driven n list.now.sets.items t port) → given ≡ inputs.values.items → AreInputsIn x t given
inputs_in x n same list t row inputs given are at made is =
    let HasValues : Netlist → Type 0 = λ m. (port : Text) → HasPin m.ins port → input_row m (values_of inputs.values.items) port ≡ driven m list.now.sets.items t port in
    record {
      widths = ap (λ (m : Netlist). pin_widths m.ins) (sym same) ∙ at.widths ∙ ap widths_of (sym is);
      values = λ port has.
          ap (λ (bits : List Bits). input_row x.net (values_of bits) port) is
          ∙ subst HasValues same made port has ∙ ap (λ (trace : Trace). trace t port) are;
    }

joined : (text a b c d e : Text) → ((((text ++ a) ++ b) ++ c) ++ d) ++ e ≡ text ++ ((((a ++ b) ++ c) ++ d) ++ e)
joined text a b c d e = simp append_assoc

-- its line, piece by piece
pub line_made : (x : Subject) (outs : List Text) (acts : Actor → ℕ → Bool) (t : ℕ) (row : Row) (text first second third fourth whole : Text) → outs ≡ outputs_of_net (face x.top)
    → first ≡ text ++ decimal t → second ≡ first ++ flat_map (λ port. port_text port (row port)) outs → third ≡ second ++ codes " |" → fourth ≡ third ++ flat_map (label_if (λ actor. acts actor t)) (actors_of x.top)
    → whole ≡ fourth ++ 10 ∷ [] → whole ≡ text ++ schedule_line x.top acts t row
line_made x outs acts t row text first second third fourth whole are a b c d e =
    let outputs = λ (ports : List Text). flat_map (λ port. port_text port (row port)) ports in
    let labels : Text = flat_map (label_if (λ actor. acts actor t)) (actors_of x.top) in
    e ∙ ap (λ (front : Text). front ++ 10 ∷ []) (d
    ∙ ap (λ (front : Text). front ++ labels) (c
    ∙ ap (λ (front : Text). front ++ codes " |") (b
    ∙ ap (λ (front : Text). front ++ outputs outs) a
    ∙ ap (λ (ports : List Text). (text ++ decimal t) ++ outputs ports) are)))
    ∙ joined text (decimal t) (outputs (outputs_of_net (face x.top))) (codes " |") labels (10 ∷ [])

-- ---- the end

-- after all rows the lines of the shown memories follow
pub whole_text : (x : Subject) (rows : ℕ) (s : Scheduler) (text : Text) → IsBefore x rows s → text ≡ s.text.items ++ memories_text x.net (states_of x.net s.sim.states) → IsScheduleOf x rows None text
whole_text x rows s text stands is = record {
  trace = stands.trace;
  runs = record { run = ends_after_all x.net s.sim rows x.inputs x.loads stands.trace stands.stands; stops = λ u port within has. stands.stands.clean u within port has };
  text_is =
      is ∙ ap (λ (lines : Text). lines ++ memories_text x.net (states_of x.net s.sim.states)) stands.text
      ∙ ap (λ (memories : Text). lines_text (line_in x stands.trace) stands.trace rows ++ memories)
      (memories_same x.net (states_of x.net s.sim.states) (states_before rows stands.trace x.loads) stands.stands.states);
}

-- a Conflict ends the run
pub text_to : (x : Subject) (rows t port : ℕ) (s : Scheduler) (clash : Clash) → t < rows → IsStoppedAt x t port s → clash.cycle ≡ t → clash.port ≡ name_of x.net port → IsScheduleOf x rows (Some clash) s.text.items
text_to x rows t port s clash within stopped at named =
    let runs = stopped.runs rows within in
    let here : HasTextTo x rows (record { cycle = t; port = name_of x.net port }) s.text.items = record {
      trace = stopped.trace;
      runs = record { run = runs.run; stops = (t, omega arith, runs.reported) };
      text_is = stopped.text;
    } in
    subst (λ (c : Clash). HasTextTo x rows c s.text.items) (λ i. record { cycle = sym at i; port = sym named i }) here

-- a row without a Conflict goes on
pub after_none : (x : Subject) (t : ℕ) (port : Option ℕ) (s : Scheduler) → ((p : ℕ) → port ≡ Some p → ⊥) → IsAfterRow x t port s → IsBefore x (suc t) s
after_none x t None s none after = after
after_none x t (Some p) s none after = absurd (none p refl)
