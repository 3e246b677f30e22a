use Rattle.std.proofs.Common.{◌+◌, ◌<◌, ◌≤◌, Some, sym, ap, ◌∙◌, subst, arith}
use Rattle.fil_ast.specs.declared.tx.Tx.{Tx}
use Rattle.stim_read.specs.TxRun.{transaction_seen}
use Rattle.filc_report.proofs.IntervalLemmas.{begun_so, unbegun_so, holding_first, holding_none, left_at}
use Rattle.filc_report.proofs.intervals.Interval.holding.Goals as goal
use Rattle.filc_report.proofs.intervals.Interval.holding.Goals.{in_default-via-in-Some+else-have_gone, in_default-via-in_default}

pub returns-in-Some-clause-holds : goal.returns-in-Some-clause-holds
returns-in-Some-clause-holds c =
    let tx = c.in-Some.tx.now in
    let look = c.in-Some.ensures.lookup in
    let begun : tx.start + c.args.self.from ≤ c.args.row = begun_so (tx.start + c.args.self.from) c.args.row (sym c.have_gone.ensures ∙ c.if-have_gone.true) in
    ap (λ (t : Tx). Some (transaction_seen t)) look.1
    ∙ sym (holding_first c.args.self c.args.txs.now c.args.first c.args.row c.requires.first tx look.3.0 (subst (λ (t : Tx). t.start + c.args.self.from ≤ c.args.row) look.1 begun))

pub returns-in-Some-clause-among : goal.returns-in-Some-clause-among
returns-in-Some-clause-among c =
    let tx = c.in-Some.tx.now in
    let look = c.in-Some.ensures.lookup in
    ((c.args.first, look.3.0, sym look.1), (left_at c.args.self c.args.txs.now c.args.first c.args.row c.requires.first tx look.3.0).0 ∙ ap (λ (t : Tx). t.event) (sym look.1))

pub returns-in_default-clause-holds : goal.returns-in_default-clause-holds
returns-in_default-clause-holds c =
    elim c.in_default.branch [
      | in_default-via-in-Some+else-have_gone w ↦
          let tx = w.in-Some.tx.now in
          let look = w.in-Some.ensures.lookup in
          let late : c.args.row < tx.start + c.args.self.from = unbegun_so (tx.start + c.args.self.from) c.args.row (sym w.have_gone.ensures ∙ w.if-have_gone.false) in
          sym (holding_none c.args.self c.args.txs.now c.args.first c.args.row c.requires.first c.requires.rise (λ d within. subst (λ (t : Tx). c.args.row < t.start + c.args.self.from) (look.3.1 d) late))
      | in_default-via-in_default w ↦ sym (holding_none c.args.self c.args.txs.now c.args.first c.args.row c.requires.first c.requires.rise (λ d within. absurd (omega (arith, within, w.in_default.ensures.lookup.3))))
    ]
