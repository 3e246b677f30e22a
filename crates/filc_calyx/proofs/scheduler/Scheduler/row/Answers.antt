use Rattle.std.proofs.Common.{◌≡◌, ◌∙◌, suc, None, Some, Option, refl, sym, ap, subst}
use Rattle.hw_bits.specs.Values.{values_of}
use Rattle.hw_prims.specs.Table.{pin_widths}
use Rattle.net_core.specs.Netlist.{Netlist}
use Rattle.net_sim.specs.Layout.{port_names}
use Rattle.net_sim.specs.Sim.{IfEvaluated, IsEdgeOfSim, IsRowOfSim, SimValue}
use Rattle.net_sim.specs.declared.sim.Phase.{Phase}
use Rattle.cal_sched.specs.declared.walker.Walker.{Walker}
use Rattle.filc_report.proofs.StreamLemmas.{running}
use Rattle.filc_calyx.proofs.SchedulerLemmas.{goes_on, grown, stopped_at, values_are, walks_there}
use Rattle.filc_calyx.specs.inside.Scheduling.{IsSchedulerOf, Walks, acting}
use Rattle.filc_calyx.specs.declared.scheduler.Scheduler.{Scheduler}
use Rattle.filc_calyx.proofs.scheduler.Scheduler.row.Goals as goal

pub row-requires : goal.row-requires
row-requires c = sym c.requires.2.widths ∙ ap (λ (m : Netlist). pin_widths m.ins) (sym c.requires.1.stands.net)

pub returns-in-Err : goal.returns-in-Err
returns-in-Err c = λ x before given.
    let self = c.args.self.now in
    let ins = c.args.inputs.now in
    let port = c.in-Err.conflict.port in
    let makes = running self.sim.phase (IsRowOfSim self.sim (values_of ins) c.row.new.self (Some port)) before.goes_on c.in-Err.ensures.running in
    stopped_at x c.args.cycle self before ins given c.row.new.self (Some port) makes port refl

pub walk-requires : goal.walk-requires
walk-requires c =
    let self = c.args.self.now in
    let ins = c.args.inputs.now in
    let x = c.requires.0 in
    let before = c.requires.1 in
    let given = c.requires.2 in
    let mid = c.row.new.self in
    let makes = running self.sim.phase (IsRowOfSim self.sim (values_of ins) mid None) before.goes_on c.in_default.ensures.running in (
      x.design,
      x.top,
      x.names,
      port_names x.net,
      grown x c.args.cycle self before ins given mid None makes,
      c.args.cycle,
      walks_there x c.args.cycle self before ins given mid None makes,
      values_are x c.args.cycle self before ins given mid None makes,
    )

pub push_line-requires : goal.push_line-requires
push_line-requires c =
    let self = c.args.self.now in
    let ins = c.args.inputs.now in
    let x = c.requires.0 in
    let before = c.requires.1 in
    let given = c.requires.2 in
    let t = c.args.cycle in
    let mid = c.row.new.self in
    let makes = running self.sim.phase (IsRowOfSim self.sim (values_of ins) mid None) before.goes_on c.in_default.ensures.running in
    let trace = grown x t self before ins given mid None makes in
    let values = values_are x t self before ins given mid None makes in
    let over = c.in_ok-walk.ensures x.design x.top x.names (port_names x.net) trace t (walks_there x t self before ins given mid None makes) values in (
      x,
      trace t,
      λ actor. acting x.design x.top trace actor t,
      record { ready = before.is.ready; net = before.is.net; outs = before.is.outs; labels = before.is.labels },
      values,
      over.told,
    )

pub returns : goal.returns
returns c = λ x before given.
    let self = c.args.self.now in
    let ins = c.args.inputs.now in
    let t = c.args.cycle in
    let mid = c.row.new.self in
    let makes = running self.sim.phase (IsRowOfSim self.sim (values_of ins) mid None) before.goes_on c.in_default.ensures.running in
    let trace = grown x t self before ins given mid None makes in
    let values = values_are x t self before ins given mid None makes in
    let over = c.in_ok-walk.ensures x.design x.top x.names (port_names x.net) trace t (walks_there x t self before ins given mid None makes) values in
    let walked : Scheduler = record self { sim = mid; walker = c.walk.new.walker } in
    let is : IsSchedulerOf x walked = record { ready = before.is.ready; net = before.is.net; outs = before.is.outs; labels = before.is.labels } in
    let lined = c.push_line.new.self in
    let kept : lined ≡ record walked { text = lined.text } = c.in_ok-push_line.ensures.kept in
    let after : Scheduler = record lined { sim = c.edge.new.self } in
    let is_after : IsSchedulerOf x after =
    subst (λ (s : Scheduler). IsSchedulerOf x (record s { sim = c.edge.new.self })) (sym kept) (record { ready = is.ready; net = is.net; outs = is.outs; labels = is.labels }) in
    let edge = subst (λ (m : SimValue). IfEvaluated m.phase (IsEdgeOfSim m c.edge.new.self)) (ap (λ (s : Scheduler). s.sim) kept) c.edge.ensures.evaluated in
    let moved = subst (λ (p : Phase). IfEvaluated p (IsEdgeOfSim mid c.edge.new.self)) makes.phase edge in
    let walks = subst (λ (w : Option Walker). Walks x.design x.top x.names (port_names x.net) trace (suc t) w) (sym (ap (λ (s : Scheduler). s.walker) kept)) over.next in
    goes_on x t self before ins given mid None makes refl after is_after moved walks (c.in_ok-push_line.ensures.line x (trace t) (acting x.design x.top trace) is values over.told)
