use Rattle.std.proofs.Common.{codes, refl}
use Rattle.std.proofs.lemmas.Result.{err_from_is_err_and}
use Rattle.net_text.specs.inside.ReadWords.{after}
use Rattle.net_text.specs.inside.ReadGuards.{test_at}
use Rattle.net_text.proofs.ExitLemmas.{fails}
use Rattle.net_text.proofs.NameLemmas.{Extends-itself}
use Rattle.net_text.proofs.guards.test.Goals as goal

pub returns-in_err-rest-clause-read : goal.returns-in_err-rest-clause-read
unfolding test_at
returns-in_err-rest-clause-read c = λ tree left.
    let p = err_from_is_err_and c.from_residual-in_err-rest.result c.from_residual-in_err-rest.ensures.1 in
    let names = c.source.new.names in
    rw (p.1, p.2)
    (fails c.in_err-rest.field-0.0 (after (codes ")") c.in_ok-right.rest.now) (test_at tree c.args.text.now) c.in_err-rest.ensures.read
    (λ none. rw (c.in_ok-op.ensures.read, c.in_ok-right.ensures.read names (Extends-itself names), none) refl))
