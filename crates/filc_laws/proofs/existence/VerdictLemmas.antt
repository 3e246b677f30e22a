-- Told files have a verdict, and what is granted has a report.
use Rattle.std.proofs.Common.{inl, inr, true, false, [], ◌∷◌, ◌++◌, refl}
use Rattle.hw_names.specs.Name.{Text}
use Rattle.net_text.specs.Layout.{net_text}
use Rattle.filc_calyx.specs.Made.{IsMadeOf}
use Rattle.filc_calyx.specs.Means.{Means, Traces}
use Rattle.filc_calyx.specs.Scheduled.{Schedules}
use Rattle.filc_load.specs.Source.{FileGivesCal}
use Rattle.filc_stop.specs.Leaving.{MakesNone}
use Rattle.filc_stop.specs.Outcome.{Contents, Outcome, usage_told}
use Rattle.filc_core.specs.Arguments.{Arguments}
use Rattle.filc_core.specs.Command.{Command}
use Rattle.filc_core.specs.Files.{AreTold}
use Rattle.filc_core.specs.Request.{Request, command_of, entry_of, files_of, Asks}
use Rattle.filc_core.specs.Verdict.{NotAsked, Asked}
use Rattle.filc_core.specs.commands.Flow.{flow_of_top}
use Rattle.filc_core.specs.commands.Making.{IsMadeFrom}
use Rattle.filc_core.specs.commands.SimFil.{rows_of_top}
use Rattle.filc_core.specs.commands.Timeline.{holds_in_top}
use Rattle.filc_core.specs.declared.commands.making.Product.TheVariants.{Net, Lower, Verilog}
use Rattle.filc_core.specs.declared.name.CommandName.{CommandName}
use Rattle.filc_core.specs.declared.name.CommandName.TheVariants as name
use Rattle.filc_laws.proofs.existence.Classical.{sure, next, so, by_cases}
use Rattle.filc_laws.proofs.existence.CommandLemmas.{HasOutcome, IsGrantedOrNot, cal_judged, cal_outcome, check_comes, check_judged, making_comes, making_judged, means_granted, net_comes, net_judged, rows_comes, rows_judged, schedules_granted, soak_judged, trace_judged, traces_granted, tx_comes, tx_judged}
use Rattle.filc_laws.specs.Classically.{Classically}
use Rattle.filc_laws.specs.Existence.{Comes, MayMake, PlainVerdictsExist, ReportsExist, SpeaksOf, VerdictsExist}

abbrev command_at : CommandName → Arguments → Command
command_at command a = (entry_of command).command a

-- ---- by commands

judged : (contents : Contents) (command : CommandName) (a : Arguments) → AreTold contents (command_at command a).files → Classically (IsGrantedOrNot contents (command_at command a))
judged contents name.Check a told = check_judged contents a told
judged contents name.Rows a told = rows_judged contents a told
judged contents name.SimNet a told = net_judged contents a (λ net. []) false told
judged contents name.TraceNet a told = net_judged contents a (λ net. net_text net ++ 10 ∷ []) true told
judged contents name.Flow a told = tx_judged contents a flow_of_top told
judged contents name.Timeline a told = tx_judged contents a holds_in_top told
judged contents name.SimFil a told = tx_judged contents a rows_of_top told
judged contents name.TraceFil a told = trace_judged contents a told
judged contents name.SimCal a told = cal_judged contents a (λ d made o. Means d o) (λ files file. MakesNone) told
judged contents name.TraceCal a told = cal_judged contents a Traces (λ files file. IsMadeFrom (FileGivesCal files file) IsMadeOf) told
judged contents name.SchedCal a told = cal_judged contents a (λ d made o. Schedules d o) (λ files file. MakesNone) told
judged contents name.Soak a told = sure (soak_judged contents a)
judged contents name.Net a told = making_judged contents a Net told
judged contents name.Lower a told = making_judged contents a Lower told
judged contents name.Verilog a told = making_judged contents a Verilog told

granted_comes : (contents : Contents) (command : CommandName) (a : Arguments) → SpeaksOf command → (command_at command a).granted contents → (made : Text) → (command_at command a).makes contents made → HasOutcome contents (command_at command a) made
granted_comes contents name.Check a speaks g made makes = check_comes contents a g made
granted_comes contents name.Rows a speaks g made makes = rows_comes contents a g made
granted_comes contents name.SimNet a speaks g made makes = net_comes contents a (λ net. []) false g made
granted_comes contents name.TraceNet a speaks g made makes = net_comes contents a (λ net. net_text net ++ 10 ∷ []) true g made
granted_comes contents name.Flow a speaks g made makes = tx_comes contents a flow_of_top g made
granted_comes contents name.Timeline a speaks g made makes = tx_comes contents a holds_in_top g made
granted_comes contents name.SimFil a speaks g made makes = tx_comes contents a rows_of_top g made
granted_comes contents name.TraceFil a speaks g made makes = absurd speaks
granted_comes contents name.SimCal a speaks g made makes =
    cal_outcome contents a (λ d text o. Means d o) (λ files file. MakesNone) g made (means_granted contents a g)
granted_comes contents name.TraceCal a speaks g made makes =
    cal_outcome contents a Traces (λ files file. IsMadeFrom (FileGivesCal files file) IsMadeOf) g made (traces_granted contents a g made makes)
granted_comes contents name.SchedCal a speaks g made makes =
    cal_outcome contents a (λ d text o. Schedules d o) (λ files file. MakesNone) g made (schedules_granted contents a g)
granted_comes contents name.Soak a speaks g made makes = absurd speaks
granted_comes contents name.Net a speaks g made makes = making_comes contents a Net made makes
granted_comes contents name.Lower a speaks g made makes = making_comes contents a Lower made makes
granted_comes contents name.Verilog a speaks g made makes = making_comes contents a Verilog made makes

-- ---- reports

module _ (r : Request) (contents : Contents) (speaks : (command_of r).granted contents → SpeaksOf r.command) where
  report_of : (made : Text) → MayMake r contents made → IsGrantedOrNot contents (command_of r) → (o : Outcome) × Comes r contents made o
  report_of made makes (inl g) = granted_comes contents r.command r.arguments (speaks g) g made makes
  report_of made makes (inr (o, comes)) = (o, comes made)

  report_exists : AreTold contents (files_of r) → (made : Text) → MayMake r contents made → Classically ((o : Outcome) × Comes r contents made o)
  report_exists told made makes = so (judged contents r.command r.arguments told) (report_of made makes)

  -- with some text
  outcome_of : ((command_of r).granted contents → Classically ((made : Text) × MayMake r contents made)) → IsGrantedOrNot contents (command_of r) → Classically ((made : Text) × ((o : Outcome) × Comes r contents made o))
  outcome_of makes (inl g) = so (makes g) (λ (made, is). (made, granted_comes contents r.command r.arguments (speaks g) g made is))
  outcome_of makes (inr (o, comes)) = sure ([], (o, comes []))

  outcome_exists : AreTold contents (files_of r) → ((command_of r).granted contents → Classically ((made : Text) × MayMake r contents made)) → Classically ((made : Text) × ((o : Outcome) × Comes r contents made o))
  outcome_exists told makes = next (judged contents r.command r.arguments told) (outcome_of makes)

pub reports_exist : ReportsExist
reports_exist = λ r contents speaks told made makes. report_exists r contents speaks told made makes

-- ---- verdicts

pub verdicts_exist : VerdictsExist
verdicts_exist = λ words contents told speak can.
    by_cases ((r : Request) × Asks words r)
    (λ (r, asks). so (outcome_exists r contents (speak r asks) (told r asks) (can r asks)) (λ (made, (o, comes)). (made, (o, Asked r asks comes))))
    (λ none. sure ([], (usage_told, NotAsked (λ r asks. none (r, asks)) refl)))

pub plain_verdicts_exist : PlainVerdictsExist
plain_verdicts_exist = λ words contents told speak plain.
    by_cases ((r : Request) × Asks words r)
    (λ (r, asks). so (report_exists r contents (speak r asks) (told r asks) [] (plain r asks contents)) (λ (o, comes). (o, Asked r asks comes)))
    (λ none. sure (usage_told, NotAsked (λ r asks. none (r, asks)) refl))
