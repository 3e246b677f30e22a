use Rattle.std.proofs.Common.{sym, ◌∙◌}
use Rattle.fil_place.proofs.FirstLemmas.{alone_at, later, own_until, small_until}
use Rattle.fil_place.proofs.starts.Starts.last_until.Goals as goal

pub returns-then-first-clause-found : goal.returns-then-first-clause-found
returns-then-first-clause-found c =
    let starts = c.args.self.now in
    let is = sym c.first_of.ensures ∙ c.in_ok-first.was in
    own_until starts c.args.instance c.args.event c.args.start c.in_ok-first.first is c.held_until-own.result c.held_until-own.ensures
    (λ s le. alone_at starts c.args.instance c.args.event c.args.start c.in_ok-first.first is c.if-first.true s)

pub returns-then-first-clause-small : goal.returns-then-first-clause-small
returns-then-first-clause-small c =
    let starts = c.args.self.now in
    let is = sym c.first_of.ensures ∙ c.in_ok-first.was in
    small_until starts c.args.instance c.args.event c.args.start c.held_until-own.result
    (own_until starts c.args.instance c.args.event c.args.start c.in_ok-first.first is c.held_until-own.result c.held_until-own.ensures
    (λ s le. alone_at starts c.args.instance c.args.event c.args.start c.in_ok-first.first is c.if-first.true s))

pub returns-clause-found : goal.returns-clause-found
returns-clause-found c =
    let is = sym c.first_of.ensures ∙ c.in_ok-first.was in
    later c.args.self.now c.args.instance c.args.event c.args.start c.in_ok-first.first is c.other_until.result c.held_until-own.result c.later_of.result c.other_until.ensures c.held_until-own.ensures
    c.later_of.ensures.only c.later_of.ensures.only_other c.later_of.ensures.one c.later_of.ensures.other

pub returns-clause-small : goal.returns-clause-small
returns-clause-small c =
    let is = sym c.first_of.ensures ∙ c.in_ok-first.was in
    small_until c.args.self.now c.args.instance c.args.event c.args.start c.later_of.result
    (later c.args.self.now c.args.instance c.args.event c.args.start c.in_ok-first.first is c.other_until.result c.held_until-own.result c.later_of.result c.other_until.ensures c.held_until-own.ensures
    c.later_of.ensures.only c.later_of.ensures.only_other c.later_of.ensures.one c.later_of.ensures.other)
