use Rattle.std.proofs.Common.{◌≡◌, ◌∙◌, ◌++◌, ℕ, List, Vec, Global, map, sym, ap, subst}
use Rattle.std.specs.Prelude.{decimal}
use Rattle.std.proofs.lemmas.Result.{on_ok_weaker}
use Rattle.net_core.specs.Netlist.{Netlist, netlist_of}
use Rattle.net_sim.specs.Layout.{port_names}
use Rattle.cal_ast.specs.Actors.{actors_of}
use Rattle.filc_report.specs.Rows.{outputs_of_net}
use Rattle.filc_calyx.proofs.SchedulerLemmas.{line_made}
use Rattle.filc_calyx.specs.inside.Scheduling.{AreLabelsOf}
use Rattle.filc_calyx.proofs.scheduler.Scheduler.push_line.Goals as goal

pub returns-clause-line : goal.returns-clause-line
returns-clause-line c = λ x row acts is values tells.
    let self = c.args.self.now in
    let text = self.text.items in
    let cycle = c.args.cycle in
    let valued = subst (λ (m : Netlist). self.sim.values ≡ map row (port_names m)) (sym is.net) values in
    let labels = subst (λ (all : List (Vec ℕ Global)). AreLabelsOf (actors_of x.top) all) (sym c.deref.ensures.value) is.labels in
    let counted = c.in_ok-put_number.ensures ∙ ap (λ (n : ℕ). text ++ decimal n) c.from.ensures in
    on_ok_weaker c.put-2.result
    (line_made x (outputs_of_net (netlist_of self.built.now.net)) acts cycle row text c.put_number.new.out.items c.push_outputs.new.text.items c.put.new.out.items c.push_acting.new.text.items c.put-2.new.out.items
    (ap outputs_of_net is.net ∙ is.outs) counted (c.in_ok-push_outputs.ensures row valued) c.in_ok-put.ensures (c.in_ok-push_acting.ensures (actors_of x.top) (λ actor. acts actor cycle) labels tells))
    c.put-2.ensures
