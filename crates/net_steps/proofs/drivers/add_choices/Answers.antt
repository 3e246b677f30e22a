use Rattle.std.proofs.Common.{false, get_or, take, subst, sym}
use Rattle.std.proofs.lemmas.List.{take_all, take_more}
use Rattle.net_steps.specs.Drivers.{AddsChoices}
use Rattle.net_steps.specs.declared.drivers.Driver.{Driver}
use Rattle.net_steps.specs.declared.truth.Truth.TheVariants.{Fixed}
use Rattle.net_steps.proofs.DriverLemmas.{choices_none, choices_more}
use Rattle.net_steps.proofs.drivers.add_choices.Goals as goal

pub loop-driver-init : goal.loop-driver-init
loop-driver-init c = choices_none c.args.steps.now

pub loop-driver-preserved : goal.loop-driver-preserved
loop-driver-preserved c =
    let l = c.loop-driver in
    let drivers = c.args.drivers.now in
    let d : Driver = record { truth = Fixed false; source = 0 } in
    subst (AddsChoices c.args.steps.now c.add_choice.new.self) (sym (take_more drivers l.driver-index d c.loop-driver-test.true))
    (choices_more c.args.steps.now l.steps c.plain.new.steps c.add_choice.new.self (take l.driver-index drivers) (get_or drivers l.driver-index d) c.in_ok-on.on l.invariant c.in_ok-on.ensures.truth c.in_ok-on.ensures.choices c.in_ok-add_choice.ensures)

pub returns : goal.returns
returns c =
    let l = c.loop-driver in
    subst (AddsChoices c.args.steps.now l.steps) (take_all l.driver-index c.args.drivers.now c.loop-driver-test.false) l.invariant
