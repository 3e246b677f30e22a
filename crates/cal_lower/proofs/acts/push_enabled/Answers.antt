use Rattle.std.proofs.Common.{◌<◌, ◌≤◌, length, refl, arith}
use Rattle.cal_lower.specs.inside.Shown.{enabled_in, tested_in}
use Rattle.cal_lower.specs.declared.acts.Wanted.{Wanted}
use Rattle.cal_lower.proofs.NextLemmas.{at_index}
use Rattle.cal_lower.proofs.WantedLemmas.{puts_none, puts_set}
use Rattle.cal_lower.proofs.acts.push_enabled.Goals as goal

pub returns-in_ok-push : goal.returns-in_ok-push
returns-in_ok-push c =
    let ws = c.args.wanted.now.items in
    let old = c.index_mut.result.now in
    let new : Wanted = record { enabled = c.push.new.self; tested = c.index_mut.result.now.tested } in
    let within : c.args.number < length ws = omega (arith, c.if-number-len.true, c.len.ensures, c.args.wanted.now.ok.0) in
    puts_set enabled_in tested_in ws c.args.number old new c.args.guard (at_index ws c.args.number old within c.index_mut.ensures.value) refl c.in_ok-push.ensures.items

pub returns-else-number-len : goal.returns-else-number-len
returns-else-number-len c =
    let ws = c.args.wanted.now.items in
    let past : length ws ≤ c.args.number = omega (arith, c.if-number-len.false, c.len.ensures, c.args.wanted.now.ok.0) in
    puts_none enabled_in tested_in ws c.args.number c.args.guard past
