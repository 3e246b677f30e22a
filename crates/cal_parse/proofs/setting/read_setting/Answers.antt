use Rattle.std.proofs.Common.{length, refl, sym}
use Rattle.std.proofs.lemmas.Result.{err_from_is_err_and}
use Rattle.cal_parse.proofs.SettingLaws.{setting_missing, setting_marked, setting_plain}
use Rattle.cal_parse.proofs.setting.read_setting.Goals as goal

pub returns-in_err-guard : goal.returns-in_err-guard
returns-in_err-guard c = λ names.
    let p = err_from_is_err_and c.from_residual.result c.from_residual.ensures.1 in
    rw (p.1, p.2) (setting_missing names c.args.ts.now (length c.args.ts.now) refl c.in_err-guard.field-0.0 (c.in_err-guard.ensures names))

pub returns-then-starts_any : goal.returns-then-starts_any
returns-then-starts_any c = λ names. rw (setting_marked names c.args.ts.now (length c.args.ts.now) refl _ _ (sym c.if-starts_any.ensures) (c.in_ok-guard.ensures names)) (c.read_asked.ensures names)

pub returns-else-starts_any : goal.returns-else-starts_any
returns-else-starts_any c = λ names. rw (setting_plain names c.args.ts.now (length c.args.ts.now) refl _ _ (sym c.if-starts_any.ensures) (c.in_ok-guard.ensures names)) (c.read_behind.ensures names)
