-- Verdicts of the same words and contents are one.
use Rattle.std.proofs.Common.{◌≡◌, List, [], sym, ap, subst, ◌∙◌, inl, inr}
use Rattle.std.specs.Prelude.{true, false, ◌∷◌, ◌++◌}
use Rattle.hw_names.specs.Name.{Text}
use Rattle.net_text.specs.Layout.{net_text}
use Rattle.filc_stop.specs.Outcome.{Contents, Outcome, done_with}
use Rattle.filc_core.proofs.AskLemmas.{asks_once}
use Rattle.filc_core.specs.Arguments.{Arguments}
use Rattle.filc_core.specs.Request.{Request, command_of, entry_of, Asks}
use Rattle.filc_core.specs.Verdict.{Verdict, NotAsked, Asked}
use Rattle.filc_core.specs.commands.Flow.{flow_of_top}
use Rattle.filc_core.specs.commands.SimFil.{rows_of_top}
use Rattle.filc_core.specs.commands.Timeline.{holds_in_top}
use Rattle.filc_core.proofs.CalRunLemmas.{driven_of}
use Rattle.filc_core.specs.declared.commands.making.Product.TheVariants.{Net, Lower, Verilog}
use Rattle.filc_core.specs.declared.name.CommandName.{CommandName}
use Rattle.filc_core.specs.declared.name.CommandName.TheVariants as name
use Rattle.filc_laws.proofs.CalRunLemmas.{cal_traces_once}
use Rattle.filc_laws.proofs.ComesLemmas.{same_outcome, check_once, rows_once, net_run_once, transactions_once, trace_fil_once, sim_cal_once, trace_cal_once, sched_cal_once, soak_once, made_once}
use Rattle.filc_laws.proofs.SoakLemmas.{soaks_once}
use Rattle.filc_laws.proofs.TraceLemmas.{traces_once}
use Rattle.filc_laws.specs.OneVerdict.{IsSameReport, AreOne, OneVerdict, OneReport}

-- what comes of a command is one
comes_one : (words : List Text) (contents : Contents) (made made' : Text) (o o' : Outcome) (command : CommandName) (c : Arguments) → Asks words (record { command = command; arguments = c })
    → ((entry_of command).command c).comes contents made o → ((entry_of command).command c).comes contents made' o' → AreOne words contents made made' o o'
comes_one words contents made made' o o' name.Check c asks p q = check_once words contents made made' o o' c p q
comes_one words contents made made' o o' name.Rows c asks p q = rows_once words contents made made' o o' c p q
comes_one words contents made made' o o' name.SimNet c asks p q = net_run_once words contents made made' o o' c (λ net. []) false p q
comes_one words contents made made' o o' name.TraceNet c asks p q = net_run_once words contents made made' o o' c (λ net. net_text net ++ 10 ∷ []) true p q
comes_one words contents made made' o o' name.Flow c asks p q = transactions_once words contents made made' o o' c flow_of_top p q
comes_one words contents made made' o o' name.Timeline c asks p q = transactions_once words contents made made' o o' c holds_in_top p q
comes_one words contents made made' o o' name.SimFil c asks p q = transactions_once words contents made made' o o' c rows_of_top p q
comes_one words contents made made' o o' name.TraceFil c asks p q = trace_fil_once words contents made made' o o' c asks p q
comes_one words contents made made' o o' name.SimCal c asks p q = sim_cal_once words contents made made' o o' c p q
comes_one words contents made made' o o' name.TraceCal c asks p q = trace_cal_once words contents made made' o o' c asks p q
comes_one words contents made made' o o' name.SchedCal c asks p q = sched_cal_once words contents made made' o o' c p q
comes_one words contents made made' o o' name.Soak c asks p q = soak_once words contents made made' o o' c asks p q
comes_one words contents made made' o o' name.Net c asks p q = made_once words contents made made' o o' Net c (record { command = name.Net; arguments = c }) asks (λ text is. is) p q
comes_one words contents made made' o o' name.Lower c asks p q = made_once words contents made made' o o' Lower c (record { command = name.Lower; arguments = c }) asks (λ text is. is) p q
comes_one words contents made made' o o' name.Verilog c asks p q = made_once words contents made made' o o' Verilog c (record { command = name.Verilog; arguments = c }) asks (λ text is. is) p q

verdicts_one : (words : List Text) (contents : Contents) (made made' : Text) (o o' : Outcome) → Verdict words contents made o → Verdict words contents made' o' → AreOne words contents made made' o o'
verdicts_one words contents made made' o o' (NotAsked none e) (NotAsked none' e') = same_outcome words contents made made' o o' (e ∙ sym e')
verdicts_one words contents made made' o o' (NotAsked none e) (Asked r asks comes) = absurd (none r asks)
verdicts_one words contents made made' o o' (Asked r asks comes) (NotAsked none e) = absurd (none r asks)
verdicts_one words contents made made' o o' (Asked r asks comes) (Asked r' asks' comes') =
    comes_one words contents made made' o o' r.command r.arguments asks comes (subst (λ (x : Request). (command_of x).comes contents made' o') (asks_once words r' r asks' asks) comes')

pub one_verdict : OneVerdict
one_verdict = verdicts_one

same_report : (words : List Text) (contents : Contents) (made report other : Text) → IsSameReport words contents made made report other → report ≡ other
same_report words contents made report other (inl same) = same
same_report words contents made report other (inr (inl texts)) = texts.printed ∙ sym texts.printed'
same_report words contents made report other (inr (inr (inl two))) =
    ap (λ (x : Outcome). x.report) (traces_once two.top.comp two.run two.top.design made (done_with report) (done_with other) two.traces two.traces')
same_report words contents made report other (inr (inr (inr (inl two)))) =
    ap (λ (x : Outcome). x.report) (cal_traces_once (driven_of two.top two.run) made (record { ended = two.ended; report = report; line = two.line }) (record { ended = two.ended; report = other; line = two.line }) two.traces two.traces')
same_report words contents made report other (inr (inr (inr (inr two)))) =
    ap (λ (x : Outcome). x.report) (soaks_once two.asked.count made (done_with report) (done_with other) two.soaks two.soaks')

pub one_report : OneReport
one_report = λ words contents made o other p q. same_report words contents made o.report other.report (verdicts_one words contents made made o other p q).report
