use Rattle.std.proofs.Common.{◌≡◌, None, option_map, sym, ap, subst, ◌∙◌}
use Rattle.serde_json.specs.View.{view}
use Rattle.stim_read.specs.TxText.{transactions_in, transactions_seen}
use Rattle.stim_read.specs.CycleRun.{NoMemory}
use Rattle.stim_read.specs.TxRun.{IsNoTransactions, NoJson, NotTransactions}
use Rattle.stim_read.specs.declared.stim_end.StimEnd.TheVariants.{Memory}
use Rattle.stim_read.proofs.FaultLemmas.{passes_cause}
use Rattle.stim_read.proofs.txs.read_text.Goals as goal

pub returns-in_err-value-clause-cause : goal.returns-in_err-value-clause-cause
returns-in_err-value-clause-cause c =
    let e = c.in_err-value.field-0.0 in
    passes_cause c.from_residual.result e (IsNoTransactions c.args.bytes.now) c.from_residual.ensures.1 (NoJson e c.in_err-value.ensures.cause)

pub returns-in_err-text-clause-cause : goal.returns-in_err-text-clause-cause
returns-in_err-text-clause-cause c = passes_cause c.from_residual-in_err-text.result Memory (IsNoTransactions c.args.bytes.now) c.from_residual-in_err-text.ensures.1 (NoJson Memory NoMemory)

pub returns-in_default-clause-cause : goal.returns-in_default-clause-cause
returns-in_default-clause-cause c =
    let none : transactions_in (view c.in_ok-value.value) ≡ None = sym c.in_ok-text.ensures ∙ ap (option_map transactions_seen) c.in_default.is in
    subst (IsNoTransactions c.args.bytes.now) (sym c.refused.ensures) (NotTransactions (view c.in_ok-value.value) c.in_ok-value.ensures.value none)

pub returns-clause-text : goal.returns-clause-text
returns-clause-text c = record { value = view c.in_ok-value.value; json = c.in_ok-value.ensures.value; says = sym c.in_ok-text.ensures ∙ ap (option_map transactions_seen) c.in-Some.is }
