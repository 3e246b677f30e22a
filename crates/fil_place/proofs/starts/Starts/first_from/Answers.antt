use Rattle.std.proofs.Common.{sym, ◌∙◌}
use Rattle.fil_place.proofs.FirstLemmas.{alone_at, earlier, own_from, small_from}
use Rattle.fil_place.proofs.starts.Starts.first_from.Goals as goal

pub returns-then-first-clause-found : goal.returns-then-first-clause-found
returns-then-first-clause-found c =
    let starts = c.args.self.now in
    let is = sym c.first_of.ensures ∙ c.in_ok-first.was in
    own_from starts c.args.instance c.args.event c.args.start c.in_ok-first.first is c.held_from-own.result c.held_from-own.ensures
    (λ s le. alone_at starts c.args.instance c.args.event c.args.start c.in_ok-first.first is c.if-first.true s)

pub returns-then-first-clause-small : goal.returns-then-first-clause-small
returns-then-first-clause-small c =
    let starts = c.args.self.now in
    let is = sym c.first_of.ensures ∙ c.in_ok-first.was in
    small_from starts c.args.instance c.args.event c.args.start c.held_from-own.result
    (own_from starts c.args.instance c.args.event c.args.start c.in_ok-first.first is c.held_from-own.result c.held_from-own.ensures
    (λ s le. alone_at starts c.args.instance c.args.event c.args.start c.in_ok-first.first is c.if-first.true s))

pub returns-clause-found : goal.returns-clause-found
returns-clause-found c =
    let is = sym c.first_of.ensures ∙ c.in_ok-first.was in
    earlier c.args.self.now c.args.instance c.args.event c.args.start c.in_ok-first.first is c.other_from.result c.held_from-own.result c.earlier_of.result c.other_from.ensures c.held_from-own.ensures
    c.earlier_of.ensures.only c.earlier_of.ensures.only_other c.earlier_of.ensures.one c.earlier_of.ensures.other

pub returns-clause-small : goal.returns-clause-small
returns-clause-small c =
    let is = sym c.first_of.ensures ∙ c.in_ok-first.was in
    small_from c.args.self.now c.args.instance c.args.event c.args.start c.earlier_of.result
    (earlier c.args.self.now c.args.instance c.args.event c.args.start c.in_ok-first.first is c.other_from.result c.held_from-own.result c.earlier_of.result c.other_from.ensures c.held_from-own.ensures
    c.earlier_of.ensures.only c.earlier_of.ensures.only_other c.earlier_of.ensures.one c.earlier_of.ensures.other)
