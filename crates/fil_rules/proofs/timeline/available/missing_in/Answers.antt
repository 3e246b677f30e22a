use Rattle.std.proofs.Common.{ℕ, Option, sym, subst}
use Rattle.std.specs.Option.{IfSome, MatchOption}
use Rattle.fil_ast.specs.Timeline as tree
use Rattle.fil_ast.specs.Tree.{value_tree}
use Rattle.fil_rules.specs.inside.Available.{IsMissingIn}
use Rattle.fil_place.specs.Times.{ShowsInterval}
use Rattle.fil_place.specs.declared.times.Interval.{Interval}
use Rattle.fil_rules.proofs.AvailableLemmas.{no_need, told_missing}
use Rattle.fil_rules.proofs.timeline.available.missing_in.Goals as goal

pub returns-in_err-need-clause-cases : goal.returns-in_err-need-clause-cases
returns-in_err-need-clause-cases c scope interval place distinct shown =
    let value = value_tree c.args.place.now.names.now c.args.value in
    let events = c.args.place.now.tables.now.events in
    let S : Option Interval → Type 0 = λ need. ShowsInterval events need interval in
    let M : Option ℕ → Type 0 = λ r. MatchOption r (IfSome interval (tree.Covers scope value)) (IsMissingIn scope value interval) in
    subst M (sym c.from_residual.ensures) (no_need events interval (tree.Covers scope value) (subst S c.in_err-need.was shown))

pub returns-clause-cases : goal.returns-clause-cases
returns-clause-cases c scope interval place distinct shown =
    let value = value_tree c.args.place.now.names.now c.args.value in
    let events = c.args.place.now.tables.now.events in
    let S : Option Interval → Type 0 = λ need. ShowsInterval events need interval in
    told_missing events scope value c.availability-available.result (c.availability-available.ensures scope place distinct) c.in_ok-need.need interval (subst S c.in_ok-need.was shown)
    c.missing.result c.missing.ensures.cases c.missing.ensures.inside
