use Rattle.std.proofs.Common.{Err, ap}
use Rattle.hw_lex.specs.declared.token.Dialect.TheVariants.{Cal}
use Rattle.hw_lex.proofs.Cuts.{tokens-no_fault}
use Rattle.cal_parse.proofs.Parsed.{refused_again, refused_at}
use Rattle.cal_parse.proofs.parse.refusal.Goals as goal

pub refused_byte-at-requires : goal.refused_byte-at-requires
refused_byte-at-requires c = (refused_again c.args.source.now c.in-Ok.tokens.source c.in-Ok.tokens.tokens c.args.bad.now c.in-Ok.ensures.text.1 c.in-Ok.ensures.tokens c.requires).0

pub returns-then-starts_left_out : goal.returns-then-starts_left_out
returns-then-starts_left_out c = refused_at _ _ _ _ _ c.refused_byte-at.ensures c.if-starts_left_out.ensures (refused_again c.args.source.now c.in-Ok.tokens.source c.in-Ok.tokens.tokens c.args.bad.now c.in-Ok.ensures.text.1 c.in-Ok.ensures.tokens c.requires).1

pub returns-in-Ok : goal.returns-in-Ok
returns-in-Ok c = refused_at _ _ _ _ _ c.refused_byte-at.ensures c.if-starts_left_out.ensures (refused_again c.args.source.now c.in-Ok.tokens.source c.in-Ok.tokens.tokens c.args.bad.now c.in-Ok.ensures.text.1 c.in-Ok.ensures.tokens c.requires).1

-- a text that has tokens has no fault
pub returns-in-Err-Fault : goal.returns-in-Err-Fault
returns-in-Err-Fault c = absurd (tokens-no_fault Cal c.args.source.now c.requires.0 c.in-Err-Fault.at c.requires.1 (c.in-Err-Fault.ensures.fault c.in-Err-Fault.at (ap Err c.in-Err-Fault.field-0-is)))
