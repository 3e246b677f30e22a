use Rattle.net_core.specs.Numbers.{WhenHasNumbers}
use Rattle.net_core.specs.Guard.{guard_option}
use Rattle.net_flat.specs.inside.Placed.{port_text}
use Rattle.net_flat.specs.inside.StandFor.{net_when}
use Rattle.net_flat.proofs.LineLemmas.{set_stands}
use Rattle.net_flat.proofs.StandLemmas.{one_kept, stable_when}
use Rattle.net_flat.proofs.lines.set_at.Goals as goal

pub returns-clause-set : goal.returns-clause-set
returns-clause-set c = λ path at.
    let source = c.args.source.now in
    let prefix = c.args.prefix.now in
    let set = c.args.set.now in
    let with_guard = c.when_at.new.names in
    let names = c.source_at.new.names in
    let dst = c.in_ok-dst.dst in
    let full = port_text source prefix set.dst in
    set_stands names source prefix path set (record { dst = dst; guard = c.in_ok-guard.guard; src = c.in_ok-src.src }) at
    (c.source_at.ensures.kept dst.0 full (c.when_at.ensures.kept dst.0 full c.in_ok-dst.ensures.text))
    (one_kept WhenHasNumbers net_when stable_when with_guard names (guard_option (port_text source prefix) set.guard) c.in_ok-guard.guard c.source_at.ensures.kept c.in_ok-guard.ensures.guard)
    c.in_ok-src.ensures.source
