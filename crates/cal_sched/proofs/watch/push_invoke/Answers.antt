use Rattle.std.proofs.Common.{None, refl, ◌∙◌}
use Rattle.net_core.specs.declared.net.Src.TheVariants.{Port}
use Rattle.cal_sched.proofs.WatchLemmas.{invoke_watched}
use Rattle.cal_sched.specs.declared.watch.Watch.{Watch}
use Rattle.cal_sched.proofs.watch.push_invoke.Goals as goal

pub returns : goal.returns
returns c =
    let number = c.in_ok-number_of.field-0 in
    let w : Watch = record { actor = c.args.actor; guard = None; src = Port number } in
    invoke_watched c.args.names.now c.args.ports.now c.args.actor c.args.invoke.now c.args.watches.now.items c.push.new.self.items w number c.deref.result.now c.text.result.now c.in_ok-push.ensures.items refl
    c.in_ok-number_of.ensures (c.deref.ensures.value ∙ c.in_ok-name.ensures) c.text.ensures
