use Rattle.std.proofs.Common.{[], sym, ◌∙◌}
use Rattle.cal_state.proofs.EncodingLemmas.{finished, some_left}
use Rattle.cal_state.proofs.component.Sets.finish.Goals as goal

pub returns-in_default : goal.returns-in_default
returns-in_default c = λ names set wires states more shows others.
    some_left names set [] wires states c.args.self shows (sym c.args.self.left.ok.0 ∙ c.in_default.ensures.cases.0)

pub returns : goal.returns
returns c = λ names set wires states more shows others.
    finished names set wires states more c.args.self c.args.enables.items c.append.new.self.items c.append-2.new.self.items c.push.new.self.items c.pop_front.new.self.items c.in-Some.set
    shows others c.in_ok-append.ensures.items c.in_ok-append-2.ensures.items c.in-Some.ensures.items c.in_ok-push.ensures.items
