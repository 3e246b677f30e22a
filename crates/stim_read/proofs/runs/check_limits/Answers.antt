use Rattle.std.proofs.Common.{◌<◌, ◌≤◌, true, false, sym, subst, arith}
use Rattle.hw_limits.specs.declared.limits.TheConstants.{MOST_TRANSACTIONS, MOST_CYCLES}
use Rattle.stim_read.specs.RunsRules.{entry_count, GoOver, Entries, Rows}
use Rattle.stim_read.specs.RunsText.{runs_seen}
use Rattle.stim_read.specs.declared.runs_end.RunsEnd.TheVariants as runs_end
use Rattle.stim_read.proofs.runs.check_limits.Goals as goal

pub returns-then-entries-gt-MOST_TRANSACTIONS-clause-cause : goal.returns-then-entries-gt-MOST_TRANSACTIONS-clause-cause
returns-then-entries-gt-MOST_TRANSACTIONS-clause-cause c =
    let runs = runs_seen c.args.texts.now in
    let over : MOST_TRANSACTIONS < c.entry_count-entries.result = omega arith in
    subst (λ n. MOST_TRANSACTIONS < n → GoOver runs (runs_end.Limit n MOST_TRANSACTIONS false)) (sym c.entry_count-entries.ensures) Entries over

pub returns-then-rows-gt-MOST_CYCLES-clause-cause : goal.returns-then-rows-gt-MOST_CYCLES-clause-cause
returns-then-rows-gt-MOST_CYCLES-clause-cause c =
    let runs = runs_seen c.args.texts.now in
    let few : entry_count runs ≤ MOST_TRANSACTIONS = omega (arith, c.entry_count-entries.ensures) in
    let over : MOST_CYCLES < c.row_count-rows.result = omega arith in
    subst (λ n. MOST_CYCLES < n → GoOver runs (runs_end.Limit n MOST_CYCLES true)) (sym c.row_count-rows.ensures) (Rows few) over
