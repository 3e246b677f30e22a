use Rattle.std.proofs.Common.{ℕ, List, length, refl, sym, subst}
use Rattle.fil_sig.specs.Seen.{seen}
use Rattle.fil_rules.specs.inside.Shared.{IsInvoked}
use Rattle.fil_place.specs.Tables.{calls_at}
use Rattle.fil_rules.proofs.PlaceLemmas.{calls_within}
use Rattle.fil_rules.proofs.sharing.apart.meeting_cycle.Goals as goal

pub returns-then-keeps_apart : goal.returns-then-keeps_apart
returns-then-keeps_apart c names comp with v is lists = c.keeps_apart.ensures names comp with v is lists c.if-keeps_apart.true

pub returns : goal.returns
returns c names comp with v is lists =
    let tables = c.args.tables.now in
    let calls = calls_at tables c.args.instance in
    let I : List ℕ → Type 0 = λ cs. IsInvoked names comp tables cs (seen c.args.sig.now) c.args.at.now with v in
    let within = calls_within tables with is.times v.inst calls (length tables.times.items) refl is.earlier in
    c.told_cycle.ensures names comp with v (subst I (sym (c.tested_calls.ensures.calls within)) is)
