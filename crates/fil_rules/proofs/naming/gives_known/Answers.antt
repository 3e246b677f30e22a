use Rattle.std.proofs.Common.{sym, ◌∙◌}
use Rattle.fil_ast.specs.Naming.{GivesKnown}
use Rattle.fil_ast.specs.Tree.{giving}
use Rattle.fil_place.proofs.StatementLemmas.{known_given, times_known}
use Rattle.fil_place.proofs.GeneralLemmas.{told_no}
use Rattle.fil_rules.proofs.naming.gives_known.Goals as goal

pub returns-then-name_events : goal.returns-then-name_events
returns-then-name_events c scope place =
    known_given c.args.place.now.names.now scope c.args.place.now.tables.now.events place.shows.events c.args.at.now c.args.args.now (c.name_events.ensures.0 c.if-name_events.true) c.are_known.result (c.are_known.ensures scope place)

pub returns-else-name_events : goal.returns-else-name_events
returns-else-name_events c scope place =
    told_no (GivesKnown scope (giving c.args.place.now.names.now c.args.at.now c.args.args.now)) c.name_events.result c.if-name_events.false (λ known.
    let yes = c.name_events.ensures.1 (times_known c.args.place.now.names.now scope c.args.place.now.tables.now.events place.shows.events c.args.at.now c.args.args.now known) in
    let bad = sym c.if-name_events.false ∙ yes in
    absurd (cc))
