-- What is left of the schedule of a Calyx design in the sink.
use Rattle.std.proofs.Common.{◌≡◌, [], Option, Some, None, Result, Ok, Err, refl, sym, ap, subst, ◌∙◌, inr}
use Rattle.std.specs.Prelude.{Contains}
use Rattle.std.specs.Io.KnownBytes.{Appends}
use Rattle.std.specs.Result.{IsErrAnd}
use Rattle.hw_io.specs.Writing.{AppendsPrefix}
use Rattle.hw_names.specs.Name.{Text}
use Rattle.net_core.specs.declared.stimulus.CycleList.{CycleList}
use Rattle.cal_ast.proofs.ListLemmas.{Contains-at}
use Rattle.cal_ast.specs.Plain.{HasPlainTree}
use Rattle.cal_ast.specs.Rules.{CalRules}
use Rattle.cal_ast.specs.Written.{DesignIsWritten}
use Rattle.filc_load.specs.Built.{IsCalReady}
use Rattle.filc_load.specs.declared.cal_file.CalBuilt.{CalBuilt}
use Rattle.filc_stop.specs.Leaving.{HasReport, IsCutShort, Leaves, LeavesAt, MakesNone}
use Rattle.filc_stop.specs.Outcome.{Outcome}
use Rattle.filc_stop.specs.declared.ended.Ended.TheVariants.{Done}
use Rattle.filc_stop.specs.declared.refusal.Refusal.TheVariants as refusal
use Rattle.filc_stop.specs.declared.stop.Stop.{Stop}
use Rattle.filc_stop.specs.declared.stop.Stop.TheVariants as stop
use Rattle.filc_calyx.proofs.OneScheduleLemmas.{one_schedule}
use Rattle.filc_calyx.proofs.PlainLemmas.{written_plain}
use Rattle.filc_calyx.specs.Means.{Driven}
use Rattle.filc_calyx.specs.Scheduled.{IsDriven, Schedules, outcome_at}
use Rattle.filc_calyx.specs.declared.schedule.Clash.{Clash}

-- an error that is passed on leaves what it left
pub passed_on : (d : Driven) (result : Result (Unit {0}) Stop) (why : Stop) (out out' : Option Text) → IsErrAnd result (λ e. e ≡ why) → LeavesAt MakesNone (λ made. Schedules d) why out out' → Leaves MakesNone (λ made. Schedules d) result out out'
passed_on d (Ok done) why out out' is leaves = absurd is
passed_on d (Err e) why out out' is leaves = subst (λ (w : Stop). LeavesAt MakesNone (λ made. Schedules d) w out out') (sym is) leaves

-- the report of what a text and a Conflict say
report_is : (clash : Option Clash) (text : Text) → (outcome_at clash text).report ≡ text
report_is None text = refl
report_is (Some clash) text = refl

module _ (b : CalBuilt) (ready : IsCalReady b) (list : CycleList) (d : Driven) (driven : IsDriven b.design list d) (clash : Option Clash) (text : Text) (schedules : Schedules d (outcome_at clash text)) (out out' : Option Text) where
  one_report : (o : Outcome) → Schedules d o → text ≡ o.report
  one_report o comes =
      let plain : HasPlainTree d.design = written_plain d.design (subst DesignIsWritten (sym driven.design_is) ready.written) in
      let rules : CalRules d.design = subst CalRules (sym driven.design_is) ready.rules in
      let in_design : Contains d.design d.top = Contains-at d.design driven.number d.top driven.at in
      sym (report_is clash text) ∙ ap (λ (x : Outcome). x.report) (one_schedule d.design d.top plain rules in_design d.run (outcome_at clash text) o schedules comes)

  -- a part of the text is there
  pub part_left : AppendsPrefix out out' text → IsCutShort MakesNone (λ made. Schedules d) out out'
  part_left prefix = inr (record { made = []; makes_it = refl; part = λ o comes. subst (λ (report : Text). AppendsPrefix out out' report) (one_report o comes) prefix })

-- the whole text is there
pub whole_left : (d : Driven) (clash : Option Clash) (text : Text) (out out' : Option Text) → Schedules d (outcome_at clash text) → clash ≡ None → Appends out out' text → HasReport (λ made. Schedules d) Done [] out out'
whole_left d clash text out out' schedules none whole = record {
  made = [];
  report = text;
  outcome = subst (λ (c : Option Clash). Schedules d (outcome_at c text)) none schedules;
  reported = whole;
}

-- and a Conflict ended the run
pub conflict_left : (d : Driven) (clash : Option Clash) (text : Text) (at : Clash) (out out' : Option Text) → Schedules d (outcome_at clash text) → clash ≡ Some at → Appends out out' text
    → LeavesAt MakesNone (λ made. Schedules d) (stop.Refused (refusal.Conflict at.cycle at.port)) out out'
conflict_left d clash text at out out' schedules is whole = record {
  made = [];
  report = text;
  outcome = subst (λ (c : Option Clash). Schedules d (outcome_at c text)) is schedules;
  reported = whole;
}
