use Rattle.std.proofs.Common.{◌≡◌, Some, Result, Err, slice_get, subst, ℕ, Vec, Global}
use Rattle.std.specs.Prelude.{IfOk, IfErr}
use Rattle.hw_names.specs.Name.{Text}
use Rattle.fil_ast.specs.Tree.{Component, design_of}
use Rattle.fil_ast.specs.declared.tx.TxList.{TxList}
use Rattle.stim_read.specs.TxRun.{tx_run_seen}
use Rattle.filc_load.specs.Built.{GivesNothing, IsFilReady, IsNotGiven}
use Rattle.filc_load.specs.StimulusFile.{GivesTransactions, transaction_causes}
use Rattle.filc_load.specs.declared.fil_file.FilBuilt.{FilBuilt}
use Rattle.filc_stop.specs.declared.stop.Stop.{Stop}
use Rattle.filc_stop.specs.declared.stop.Stop.TheVariants as stop
use Rattle.filc_load.proofs.CauseLemmas.{not_given_for}
use Rattle.filc_load.proofs.LoadLemmas.{given_transactions, not_given, passed_on, err_of, knows_file, knows_passed}
use Rattle.filc_load.proofs.TopLemmas.{has_top}
use Rattle.filc_load.proofs.stimulus.load_transactions.Goals as goal

pub returns-in_err-text-clause-refused : goal.returns-in_err-text-clause-refused
returns-in_err-text-clause-refused g c top at told =
    let contents = g.F.Files.content c.args.files.now in
    let causes = λ (text : Text). transaction_causes text top in
    passed_on (IsNotGiven contents c.args.file.now causes) c.from_residual.result c.in_err-text.field-0.0 c.from_residual.ensures.1
    (not_given_for contents c.args.file.now causes c.in_err-text.field-0.0 (c.in_err-text.ensures.refused told))

pub returns-in_err-text-clause-known : goal.returns-in_err-text-clause-known
returns-in_err-text-clause-known g c =
    knows_passed (Vec ℕ Global) (g.F.Files.names c.args.files.now) c.args.file.now c.from_residual.result c.in_err-text.field-0.0 c.from_residual.ensures.1 c.in_err-text.ensures.known

pub returns-clause-given : goal.returns-clause-given
returns-clause-given g c top at told =
    given_transactions (g.F.Files.content c.args.files.now) c.args.file.now told c.in_ok-text.text.items top c.judge_transactions.result
    c.in_ok-text.ensures.read
    (subst (λ (text : Text). IfOk c.judge_transactions.result (λ (list : TxList). GivesTransactions text top (tx_run_seen list))) c.deref.ensures.value (c.judge_transactions.ensures.given top at))

pub returns-clause-refused : goal.returns-clause-refused
returns-clause-refused g c top at told =
    not_given (g.F.Files.content c.args.files.now) c.args.file.now told c.in_ok-text.text.items (λ text. transaction_causes text top) c.judge_transactions.result
    c.in_ok-text.ensures.read
    (subst (λ (text : Text). IfErr c.judge_transactions.result (GivesNothing (transaction_causes text top) text)) c.deref.ensures.value (c.judge_transactions.ensures.refused top at))

-- what a text gives no transactions for is no fault
no_fault : (b : FilBuilt) (ready : IsFilReady b) (text : Text) (answer : Result TxList Stop) → ((c : Component) → slice_get (design_of b.design) b.top ≡ Some c → IfErr answer (GivesNothing (transaction_causes text c) text)) → (why : Stop) → answer ≡ Err why
    → GivesNothing (transaction_causes text (has_top (design_of b.design) b.top ready.top).0) text why
no_fault b ready text answer refused why is =
    let top = has_top (design_of b.design) b.top ready.top in
    err_of (GivesNothing (transaction_causes text top.0) text) answer why (refused top.0 top.1.at) is

pub returns-clause-read_fault : goal.returns-clause-read_fault
returns-clause-read_fault g c is = absurd (no_fault c.args.built.now c.requires c.deref.result.now c.judge_transactions.result c.judge_transactions.ensures.refused stop.StimulusReadFault is)

pub returns-clause-known : goal.returns-clause-known
returns-clause-known g c = knows_file (g.F.Files.names c.args.files.now) c.args.file.now c.judge_transactions.result c.in_ok-text.ensures.known
