use Rattle.std.proofs.Common.{◌+◌, Option, slice_get, sym, subst}
use Rattle.fil_sig.specs.Seen.{seen_delay}
use Rattle.fil_place.specs.Uses.{ShowsUse}
use Rattle.fil_place.specs.declared.uses.Use.{Use}
use Rattle.fil_place.proofs.TimeLemmas.{got_some}
use Rattle.fil_place.proofs.UseLemmas.{found, found_plus, no_hold, plus_at, with_hold}
use Rattle.fil_place.proofs.uses.use_of.Goals as goal

pub returns-in_err-hold-clause-shown : goal.returns-in_err-hold-clause-shown
returns-in_err-hold-clause-shown c events times are =
    let at = c.args.at.now in
    let k = c.args.number in
    let delay = seen_delay c.args.delay in
    let o = c.in_ok-start.field-0.now in
    let here = got_some at k c.get.result c.in_ok-start.field-0 c.get.ensures.lookup c.in_ok-start.was in
    let none = c.in_err-hold.ensures.shown (found events at times are delay k o here).0 (slice_get times (k + 1)) (found_plus events at times are delay k o here)
    (plus_at events at times are (k + 1) c.get-2.result c.get-2.ensures.lookup) in
    let S : Option Use → Type 0 = ShowsUse events delay times k in
    subst S (sym c.from_residual-in_err-hold.ensures) (no_hold events at times are delay k o here none)

pub returns-clause-shown : goal.returns-clause-shown
returns-clause-shown c events times are =
    let at = c.args.at.now in
    let k = c.args.number in
    let delay = seen_delay c.args.delay in
    let o = c.in_ok-start.field-0.now in
    let here = got_some at k c.get.result c.in_ok-start.field-0 c.get.ensures.lookup c.in_ok-start.was in
    with_hold events at times are delay k o here c.in_ok-hold.hold
    (c.in_ok-hold.ensures.shown (found events at times are delay k o here).0 (slice_get times (k + 1)) (found_plus events at times are delay k o here)
    (plus_at events at times are (k + 1) c.get-2.result c.get-2.ensures.lookup))
