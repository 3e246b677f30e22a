-- The law of one verdict: for the same words and the same told contents of files there is one answer, one report and one line, but for what
-- is left to a program: which loop it tells (N6, F14 and C12 show one of those from the least port), and which netlist `net`, `trace`, `soak` and
-- `verilog`, and which Calyx design `lower`, make of a Filament or a Calyx design. This project's.
use Rattle.std.specs.Prelude.{◌≡◌, ◌⊎◌, List}
use Rattle.hw_names.specs.Name.{Text}
use Rattle.filc_calyx.specs.Means as calyx
use Rattle.stim_read.specs.CycleRun.{Run}
use Rattle.stim_read.specs.TxRun.{TxRun}
use Rattle.filc_stop.specs.Outcome.{Contents, Outcome, done_with}
use Rattle.filc_stop.specs.declared.ended.Ended.{Ended}
use Rattle.filc_run.specs.Soaked.{Soaks}
use Rattle.filc_run.specs.Traced.{Traces}
use Rattle.filc_core.specs.Arguments.{Arguments}
use Rattle.filc_core.specs.Request.{Request, command_of, Asks}
use Rattle.filc_core.specs.Verdict.{Verdict}
use Rattle.filc_core.specs.commands.CalRun.{CalTop, GivesRunOf}
use Rattle.filc_core.specs.commands.Transactions.{Top, GivesTransactionsOf}
use Rattle.filc_core.specs.declared.name.CommandName.TheVariants.{Soak, TraceCal, TraceFil}
use Rattle.filc_laws.specs.OneLine.{IsSameLine}

-- each report is the text that was made, and both were made of the design that the words ask for
pub record AreMadeOfOne (words : List Text) (contents : Contents) (made made' report other : Text) : Type 0 where
  pub asked : Request
  pub asks : Asks words asked
  pub from : (command_of asked).makes contents made
  pub from' : (command_of asked).makes contents made'
  pub printed : report ≡ made
  pub printed' : other ≡ made'

-- each report is the trace of the netlist whose text was made, both were made of the Filament design that the words ask for, and the same transactions
-- of its top component drive them, those that the stimulus gives
pub record AreFilTracesOfOne (words : List Text) (contents : Contents) (made made' report other : Text) : Type 0 where
  pub asked : Arguments
  pub asks : Asks words (record { command = TraceFil; arguments = asked })
  pub top : Top
  pub run : TxRun
  pub gives : GivesTransactionsOf asked contents top run
  pub traces : Traces top.design top.comp run made (done_with report)
  pub traces' : Traces top.design top.comp run made' (done_with other)

-- the same of the Calyx design that the words ask for, of which both netlists have the run that the stimulus gives its top component: the runs end alike
pub record AreCalTracesOfOne (words : List Text) (contents : Contents) (made made' report other : Text) : Type 0 where
  pub asked : Arguments
  pub asks : Asks words (record { command = TraceCal; arguments = asked })
  pub top : CalTop
  pub run : Run
  pub gives : GivesRunOf asked contents top run
  pub ended : Ended
  pub line : Text
  pub traces : calyx.Traces (record { design = top.design; top = top.comp; run = run }) made (record { ended = ended; report = report; line = line })
  pub traces' : calyx.Traces (record { design = top.design; top = top.comp; run = run }) made' (record { ended = ended; report = other; line = line })

-- each report is the text that was made and what the run of its netlist adds up to, and the same transactions drive both
pub record AreSoaksOfOne (words : List Text) (made made' report other : Text) : Type 0 where
  pub asked : Arguments
  pub asks : Asks words (record { command = Soak; arguments = asked })
  pub soaks : Soaks asked.count made (done_with report)
  pub soaks' : Soaks asked.count made' (done_with other)

abbrev pub AreTracesOfOne : List Text → Contents → Text → Text → Text → Text → Type 0
AreTracesOfOne words contents made made' report other =
    AreFilTracesOfOne words contents made made' report other ⊎ AreCalTracesOfOne words contents made made' report other ⊎
    AreSoaksOfOne words made made' report other

-- the same report, but for which netlist or which Calyx design is made
abbrev pub IsSameReport : List Text → Contents → Text → Text → Text → Text → Type 0
IsSameReport words contents made made' report other =
    (report ≡ other) ⊎ AreMadeOfOne words contents made made' report other ⊎ AreTracesOfOne words contents made made' report other

-- two outcomes are one: the same answer, the same report and the same line
pub record AreOne (words : List Text) (contents : Contents) (made made' : Text) (o other : Outcome) : Type 0 where
  pub ended : o.ended ≡ other.ended
  pub report : IsSameReport words contents made made' o.report other.report
  pub line : IsSameLine o.line other.line

-- the law: two verdicts of the same words and contents are one
abbrev pub OneVerdict : Type 0
OneVerdict =
    (words : List Text) (contents : Contents) (made made' : Text) (o other : Outcome) →
    Verdict words contents made o → Verdict words contents made' other → AreOne words contents made made' o other

-- so where what was made is the same text, the reports are the same to the byte
abbrev pub OneReport : Type 0
OneReport =
    (words : List Text) (contents : Contents) (made : Text) (o other : Outcome) →
    Verdict words contents made o → Verdict words contents made other → o.report ≡ other.report
