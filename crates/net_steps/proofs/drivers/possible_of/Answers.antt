use Rattle.std.proofs.Common.{List, [], ◌∷◌, ◌++◌, false, get_or, take, subst, sym, ap}
use Rattle.std.proofs.lemmas.List.{take_all, take_more}
use Rattle.net_steps.specs.Drivers.{ActAlike, acting}
use Rattle.net_steps.specs.declared.drivers.Driver.{Driver}
use Rattle.net_steps.specs.declared.truth.Truth.TheVariants.{Fixed}
use Rattle.net_steps.proofs.DriverLemmas.{kept_alike, dropped_alike}
use Rattle.net_steps.proofs.drivers.possible_of.Goals as goal

pub loop-driver-init : goal.loop-driver-init
loop-driver-init c = λ slots. ap (acting slots) c.new-possible.ensures.items

pub loop-driver-preserved : goal.loop-driver-preserved
loop-driver-preserved c =
    let l = c.loop-driver in
    let drivers = c.args.drivers.now in
    let d : Driver = record { truth = Fixed false; source = 0 } in
    subst (ActAlike c.push.new.self.items) (sym (take_more drivers l.driver-index d c.loop-driver-test.true))
    (subst (λ (some : List Driver). ActAlike some (take l.driver-index drivers ++ get_or drivers l.driver-index d ∷ [])) (sym c.in_ok-push.ensures.items) (kept_alike l.possible.items (take l.driver-index drivers) (get_or drivers l.driver-index d) l.invariant))

pub loop-driver-preserved-then-is_never : goal.loop-driver-preserved-then-is_never
loop-driver-preserved-then-is_never c =
    let l = c.loop-driver in
    let drivers = c.args.drivers.now in
    let d : Driver = record { truth = Fixed false; source = 0 } in
    subst (ActAlike l.possible.items) (sym (take_more drivers l.driver-index d c.loop-driver-test.true))
    (dropped_alike l.possible.items (take l.driver-index drivers) (get_or drivers l.driver-index d) l.invariant (c.is_never.ensures c.if-is_never.true))

pub returns : goal.returns
returns c =
    let l = c.loop-driver in
    subst (ActAlike l.possible.items) (take_all l.driver-index c.args.drivers.now c.loop-driver-test.false) l.invariant
