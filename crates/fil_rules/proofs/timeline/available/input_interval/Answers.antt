use Rattle.std.proofs.Common.{None, Option, sym, subst}
use Rattle.fil_ast.specs.Numbers.{PortHasNumbers}
use Rattle.fil_ast.specs.Signature.{SigPort}
use Rattle.fil_ast.specs.Timeline as tree
use Rattle.fil_place.specs.Times.{ShowsInterval}
use Rattle.fil_place.specs.declared.times.Interval.{Interval}
use Rattle.fil_rules.proofs.AvailableLemmas.{among}
use Rattle.fil_rules.proofs.timeline.available.input_interval.Goals as goal

pub own_interval-requires : goal.own_interval-requires
own_interval-requires c = among (PortHasNumbers c.args.place.now.names.now) c.args.place.now.comp.now.ins.items c.in_ok-port.port.now c.requires.ins c.in_ok-port.ensures.among

pub returns-in_err-port : goal.returns-in_err-port
returns-in_err-port c scope place =
    let events = c.args.place.now.tables.now.events in
    let r = c.from_residual.result in
    let O : Option SigPort → Type 0 = λ o. ShowsInterval events r (tree.own_interval scope o) in
    let N : Option Interval → Type 0 = λ r. ShowsInterval events r (tree.own_interval scope None) in
    subst O (c.in_err-port.ensures.meaning c.args.place.now.names.now c.args.place.now.earlier.now scope place) (subst N (sym c.from_residual.ensures) tt)

pub returns : goal.returns
returns c scope place =
    let events = c.args.place.now.tables.now.events in
    let O : Option SigPort → Type 0 = λ o. ShowsInterval events c.own_interval.result (tree.own_interval scope o) in
    subst O (c.in_ok-port.ensures.meaning c.args.place.now.names.now c.args.place.now.earlier.now scope place) (c.own_interval.ensures scope.comp place.shows.events)
