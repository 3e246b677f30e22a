use Rattle.std.proofs.Common.{subst, ℕ, Vec, Global}
use Rattle.std.specs.Prelude.{IfOk, IfErr}
use Rattle.hw_names.specs.Name.{Text}
use Rattle.filc_load.specs.Built.{IsCalBuiltFrom, IsUnbuilt}
use Rattle.filc_stop.specs.declared.language.Language.TheVariants.{Calyx}
use Rattle.filc_load.proofs.LoadLemmas.{read_cal, unread_text, stops_of_source, knows_file, knows_passed}
use Rattle.filc_load.proofs.cal_file.load.Goals as goal

pub returns-in_err-text-clause-known : goal.returns-in_err-text-clause-known
returns-in_err-text-clause-known g c =
    knows_passed (Vec ℕ Global) (g.F.Files.names c.args.files.now) c.args.file.now c.from_residual.result c.in_err-text.field-0.0 c.from_residual.ensures.1 c.in_err-text.ensures.known

pub returns-clause-read : goal.returns-clause-read
returns-clause-read g c told =
    read_cal (g.F.Files.content c.args.files.now) c.args.file.now c.in_ok-text.text.items c.build.result (c.in_ok-text.ensures.read told)
    (subst (λ (text : Text). IfOk c.build.result (IsCalBuiltFrom text)) c.deref.ensures.value c.build.ensures.built)

pub returns-clause-unread : goal.returns-clause-unread
returns-clause-unread g c told =
    unread_text (g.F.Files.content c.args.files.now) Calyx c.args.file.now c.in_ok-text.text.items c.build.result (c.in_ok-text.ensures.read told)
    (subst (λ (text : Text). IfErr c.build.result (IsUnbuilt Calyx text)) c.deref.ensures.value c.build.ensures.refused)

pub returns-clause-known : goal.returns-clause-known
returns-clause-known g c = knows_file (g.F.Files.names c.args.files.now) c.args.file.now c.build.result c.in_ok-text.ensures.known

pub returns-clause-stops : goal.returns-clause-stops
returns-clause-stops g c = stops_of_source Calyx c.deref.result.now c.build.result c.build.ensures.refused
