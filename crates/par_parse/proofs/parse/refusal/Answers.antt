use Rattle.std.proofs.Common.{Err, ap}
use Rattle.hw_lex.specs.declared.token.Dialect.TheVariants.{Filp}
use Rattle.hw_lex.proofs.Cuts.{tokens-no_fault}
use Rattle.par_parse.proofs.Parsed.{refused_again}
use Rattle.par_parse.proofs.parse.refusal.Goals as goal

pub refused_byte-requires : goal.refused_byte-requires
refused_byte-requires c = (refused_again c.args.source.now c.in-Ok.tokens.source c.in-Ok.tokens.tokens c.args.bad.now c.in-Ok.ensures.text.1 c.in-Ok.ensures.tokens c.requires).0

pub returns-in-Ok : goal.returns-in-Ok
returns-in-Ok c = rw c.refused_byte.ensures (refused_again c.args.source.now c.in-Ok.tokens.source c.in-Ok.tokens.tokens c.args.bad.now c.in-Ok.ensures.text.1 c.in-Ok.ensures.tokens c.requires).1

-- a text that has tokens has no fault
pub returns-in-Err-Fault : goal.returns-in-Err-Fault
returns-in-Err-Fault c = absurd (tokens-no_fault Filp c.args.source.now c.requires.0 c.in-Err-Fault.at c.requires.1 (c.in-Err-Fault.ensures.fault c.in-Err-Fault.at (ap Err c.in-Err-Fault.field-0-is)))
