use Rattle.std.proofs.Common.{subst, ℕ, Vec, Global}
use Rattle.std.specs.Prelude.{IfOk, IfErr}
use Rattle.hw_names.specs.Name.{Text}
use Rattle.net_core.specs.Netlist.{netlist_of}
use Rattle.net_core.specs.declared.stimulus.CycleList.{CycleList}
use Rattle.stim_read.specs.CycleRun.{run_seen}
use Rattle.filc_load.specs.Built.{GivesNothing, IsNotGiven}
use Rattle.filc_load.specs.StimulusFile.{GivesRun, run_causes}
use Rattle.filc_load.proofs.CauseLemmas.{not_given_for}
use Rattle.filc_load.proofs.LoadLemmas.{given_run, not_given, passed_on, knows_file, knows_passed}
use Rattle.filc_load.proofs.stimulus.load_cycles.Goals as goal

pub returns-in_err-text-clause-refused : goal.returns-in_err-text-clause-refused
returns-in_err-text-clause-refused g c told =
    let contents = g.F.Files.content c.args.files.now in
    let causes = λ (text : Text). run_causes text (netlist_of c.args.built.now.net) in
    passed_on (IsNotGiven contents c.args.file.now causes) c.from_residual.result c.in_err-text.field-0.0 c.from_residual.ensures.1
    (not_given_for contents c.args.file.now causes c.in_err-text.field-0.0 (c.in_err-text.ensures.refused told))

pub returns-in_err-text-clause-known : goal.returns-in_err-text-clause-known
returns-in_err-text-clause-known g c =
    knows_passed (Vec ℕ Global) (g.F.Files.names c.args.files.now) c.args.file.now c.from_residual.result c.in_err-text.field-0.0 c.from_residual.ensures.1 c.in_err-text.ensures.known

pub returns-clause-given : goal.returns-clause-given
returns-clause-given g c told =
    let n = netlist_of c.args.built.now.net in
    given_run (g.F.Files.content c.args.files.now) c.args.file.now told c.in_ok-text.text.items n c.judge_cycles.result
    c.in_ok-text.ensures.read
    (subst (λ (text : Text). IfOk c.judge_cycles.result (λ (list : CycleList). GivesRun text n (run_seen list))) c.deref.ensures.value c.judge_cycles.ensures.given)

pub returns-clause-refused : goal.returns-clause-refused
returns-clause-refused g c told =
    let n = netlist_of c.args.built.now.net in
    not_given (g.F.Files.content c.args.files.now) c.args.file.now told c.in_ok-text.text.items (λ text. run_causes text n) c.judge_cycles.result
    c.in_ok-text.ensures.read
    (subst (λ (text : Text). IfErr c.judge_cycles.result (GivesNothing (run_causes text n) text)) c.deref.ensures.value c.judge_cycles.ensures.refused)

pub returns-clause-known : goal.returns-clause-known
returns-clause-known g c = knows_file (g.F.Files.names c.args.files.now) c.args.file.now c.judge_cycles.result c.in_ok-text.ensures.known
