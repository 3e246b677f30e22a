use Rattle.std.proofs.Common.{◌≡◌, ◌-◌, length, None, refl, arith}
use Rattle.std.specs.Prelude.{slice_get}
use Rattle.std.proofs.lemmas.Option.{slice_get_past}
use Rattle.hw_grammar.proofs.place.refused_byte.Goals as goal

pub returns-then-k-len : goal.returns-then-k-len
returns-then-k-len c = rw (← c.len.ensures, c.token.ensures) refl

pub returns-else-k-len : goal.returns-else-k-len
returns-else-k-len c =
    let past : slice_get c.args.tokens.now.tokens (length c.args.tokens.now.tokens - length c.args.refused.now) ≡ None = slice_get_past c.args.tokens.now.tokens (length c.args.tokens.now.tokens - length c.args.refused.now) (omega (arith, c.len.ensures, c.len-2.ensures, c.if-k-len.false)) in
    rw (past, c.source.ensures) refl
