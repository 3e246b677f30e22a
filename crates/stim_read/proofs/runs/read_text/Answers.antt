use Rattle.std.proofs.Common.{◌≡◌, Global, Vec, None, option_map, sym, ap, subst, ◌∙◌}
use Rattle.serde_json.specs.View.{view}
use Rattle.stim_read.specs.RunsText.{runs_in, runs_seen}
use Rattle.stim_read.specs.CycleRun.{NoMemory}
use Rattle.stim_read.specs.Runs.{AreUnsaid, NoValue, ByS2}
use Rattle.stim_read.specs.declared.cycle_text.CycleText.{CycleText}
use Rattle.stim_read.specs.declared.stim_end.StimEnd.TheVariants.{Memory}
use Rattle.stim_read.proofs.FaultLemmas.{passes_cause}
use Rattle.stim_read.proofs.runs.read_text.Goals as goal

pub returns-in_err-value-clause-cause : goal.returns-in_err-value-clause-cause
returns-in_err-value-clause-cause c =
    let e = c.in_err-value.field-0.0 in
    passes_cause c.from_residual.result e (AreUnsaid c.args.bytes.now) c.from_residual.ensures.1 (NoValue e c.in_err-value.ensures.cause)

pub returns-in_err-texts-clause-cause : goal.returns-in_err-texts-clause-cause
returns-in_err-texts-clause-cause c = passes_cause c.from_residual-in_err-texts.result Memory (AreUnsaid c.args.bytes.now) c.from_residual-in_err-texts.ensures.1 (NoValue Memory NoMemory)

pub returns-in_default-clause-cause : goal.returns-in_default-clause-cause
returns-in_default-clause-cause c =
    let none : runs_in (view c.in_ok-value.value) ≡ None = sym c.in_ok-texts.ensures ∙ ap (option_map (λ (v : Vec CycleText Global). runs_seen v.items)) c.in_default.is in
    subst (AreUnsaid c.args.bytes.now) (sym c.refused.ensures) (ByS2 (view c.in_ok-value.value) c.in_ok-value.ensures.value none)

pub returns-clause-texts : goal.returns-clause-texts
returns-clause-texts c = record { value = view c.in_ok-value.value; json = c.in_ok-value.ensures.value; says = sym c.in_ok-texts.ensures ∙ ap (option_map (λ (v : Vec CycleText Global). runs_seen v.items)) c.in-Some.is }
