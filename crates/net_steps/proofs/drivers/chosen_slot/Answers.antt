use Rattle.std.proofs.Common.{arith}
use Rattle.net_steps.proofs.DriverLemmas.{chosen_same, chosen_always, chosen_never, chosen_bit, chosen_made}
use Rattle.net_steps.proofs.drivers.chosen_slot.Goals as goal

pub returns-then-number-eq1 : goal.returns-then-number-eq1
returns-then-number-eq1 c =
    let yes = c.same_where_on-yes in
    chosen_always c.args.steps.now c.args.on c.args.yes c.args.no yes.result c.in-Some.number yes.ensures c.in-Some.ensures c.if-number-eq1.true

pub returns-else-number-eq1 : goal.returns-else-number-eq1
returns-else-number-eq1 c =
    let no = c.same_where_off-no in
    chosen_never c.args.steps.now c.args.on c.args.yes c.args.no no.result c.in-Some.number no.ensures c.in-Some.ensures (λ one. absurd (omega (arith, one, c.if-number-eq1.false)))

pub returns-then-yes-no : goal.returns-then-yes-no
returns-then-yes-no c =
    let yes = c.same_where_on-yes in
    let no = c.same_where_off-no in
    chosen_same c.args.steps.now c.args.on c.args.yes c.args.no yes.result no.result yes.ensures no.ensures c.if-yes-no.true

pub returns-then-is_constant-2 : goal.returns-then-is_constant-2
returns-then-is_constant-2 c =
    let yes = c.same_where_on-yes in
    let no = c.same_where_off-no in
    chosen_bit c.args.steps.now c.args.on c.args.yes c.args.no yes.result no.result yes.ensures no.ensures (c.is_bit.ensures c.if-is_bit.true) (c.is_constant.ensures c.if-is_constant.true) (c.is_constant-then-is_constant.ensures c.if-is_constant-2.true)

pub returns : goal.returns
returns c =
    let yes = c.same_where_on-yes in
    let no = c.same_where_off-no in
    chosen_made c.define.result c.args.steps.now c.define.new.self c.args.on c.args.yes c.args.no yes.result no.result yes.ensures no.ensures c.define.ensures
