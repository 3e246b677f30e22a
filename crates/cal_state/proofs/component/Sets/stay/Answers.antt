use Rattle.std.proofs.Common.{refl, sym, ◌∙◌}
use Rattle.cal_state.proofs.EncodingLemmas.{some_left, stays}
use Rattle.cal_state.proofs.component.Sets.stay.Goals as goal

pub returns-in_default : goal.returns-in_default
returns-in_default c = λ names set left wires states shows.
    some_left names set left wires states c.args.self.now shows (sym c.args.self.now.left.ok.0 ∙ c.in_default.ensures.cases.0)

pub returns : goal.returns
returns c = λ names set left wires states shows.
    stays names set left wires states c.args.self.now (record { left = c.pop_front.new.self; wires = c.push.new.self; states = c.args.self.now.states }) c.in-Some.set shows
    c.in-Some.ensures.items c.in_ok-push.ensures.items refl
