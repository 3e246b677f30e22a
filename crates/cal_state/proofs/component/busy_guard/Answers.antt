use Rattle.std.proofs.Common.{map, codes}
use Rattle.net_core.specs.Guard.{Negates}
use Rattle.net_core.specs.declared.net.Guard.TheVariants as variants
use Rattle.cal_lower.specs.inside.Pieces.{any_of, is_set, over_name, shown}
use Rattle.cal_lower.proofs.MadeGuardLemmas.{both_shown, negates_shown, reads_shown}
use Rattle.cal_state.specs.inside.States.{is_on}
use Rattle.cal_state.specs.inside.Threads.{threads}
use Rattle.cal_state.proofs.MadeLemmas.{two_guards}
use Rattle.cal_state.proofs.component.busy_guard.Goals as goal

pub returns : goal.returns
returns c = λ names plan are shows.
    let port = c.port_of.ensures names (codes "c$over") (codes "out") are.over are.output in
    let over = reads_shown names (shown over_name) c.port_of.result c.in_ok-over.over c.in_ok-over.ensures.ok port in
    let not_over = negates_shown names (is_set over_name) (variants.Read c.in_ok-over.over) c.in_ok-new.field-0 c.in_ok-new.ensures.ok over in
    let on = map is_on (threads plan) in
    both_shown names (any_of on) (Negates (is_set over_name)) c.push-2.new.self
    (two_guards names (any_of on) (Negates (is_set over_name)) c.in_ok-any_of.field-0 (variants.Not c.in_ok-new.field-0) c.new-both.result.items c.push.new.self.items c.push-2.new.self.items
    c.new-both.ensures.items c.in_ok-push.ensures.items c.in_ok-push-2.ensures.items (c.in_ok-any_of.ensures names on shows) not_over)
