use Rattle.std.proofs.Common.{sym}
use Rattle.hw_lex.proofs.Fronts.{clash}
use Rattle.hw_lex.proofs.Words.{front_none, front_some, front_large}
use Rattle.hw_lex.proofs.word.front_token.Goals as goal

pub returns-in_err-kind-clause-token : goal.returns-in_err-kind-clause-token
returns-in_err-kind-clause-token c = rw c.from_residual.ensures (front_none c.args.dialect c.args.text.now (sym c.in_err-kind.ensures.is))

pub returns-then-fits-clause-token : goal.returns-then-fits-clause-token
returns-then-fits-clause-token c = (front_some c.args.dialect c.args.text.now c.in_ok-kind.kind c.in_ok-kind.len (sym c.in_ok-kind.ensures.is) (c.fits.ensures.0 c.if-fits.true)).0

pub returns-then-fits-clause-bounds : goal.returns-then-fits-clause-bounds
returns-then-fits-clause-bounds c = ((front_some c.args.dialect c.args.text.now c.in_ok-kind.kind c.in_ok-kind.len (sym c.in_ok-kind.ensures.is) (c.fits.ensures.0 c.if-fits.true)).1, c.in_ok-kind.ensures.fits)

pub returns-else-fits-clause-token : goal.returns-else-fits-clause-token
returns-else-fits-clause-token c = front_large c.args.dialect c.args.text.now c.in_ok-kind.kind c.in_ok-kind.len (sym c.in_ok-kind.ensures.is) (λ f. clash (c.fits.ensures.1 f) c.if-fits.false)
