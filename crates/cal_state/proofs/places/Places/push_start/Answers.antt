use Rattle.std.proofs.Common.{Bool, true, false, sym, ap, ◌∙◌}
use Rattle.std.proofs.lemmas.Result.{on_ok_weaker}
use Rattle.cal_token.specs.inside.Tokens.{Starting}
use Rattle.cal_state.specs.inside.Making.{one_place, start_walk, with_walk}
use Rattle.cal_state.specs.inside.Threads.{place_in}
use Rattle.cal_state.proofs.MadeLemmas.{state_shown}
use Rattle.cal_state.proofs.WalkLemmas.{not_so, so, walk_none}
use Rattle.cal_state.proofs.WalkLoopLemmas.{shows_same}
use Rattle.cal_state.proofs.places.Places.push_start.Goals as goal

pub returns-then-not-at : goal.returns-then-not-at
returns-then-not-at c = λ names thread walk entry shows.
    let at = c.args.at in
    shows_same names walk (with_walk walk (start_walk at.later thread at.state at.number)) c.args.self.now
    (sym (ap (λ (b : Bool). with_walk walk (start_walk b thread at.state at.number)) (not_so at.later c.if-not-at.true) ∙ walk_none walk)) shows

pub returns : goal.returns
returns c = λ names thread walk entry shows.
    let at = c.args.at in
    let place = place_in (Starting at.number) thread at.state in
    let state = state_shown names thread at.state at.thread c.first.result c.first.ensures entry in
    on_ok_weaker c.push.result
    (λ h. shows_same names (with_walk walk (one_place place)) (with_walk walk (start_walk at.later thread at.state at.number)) c.push.new.self
    (sym (ap (λ (b : Bool). with_walk walk (start_walk b thread at.state at.number)) (so at.later c.if-not-at.false))) h)
    (c.push.ensures names walk place shows state)
