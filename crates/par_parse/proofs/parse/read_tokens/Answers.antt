use Rattle.std.proofs.Common.{ℕ, List, sym, subst}
use Rattle.par_parse.specs.inside.Refusal.{IsRefusedFrom}
use Rattle.par_parse.proofs.Parsed.{read_spelled, read_refused}
use Rattle.par_parse.proofs.parse.read_tokens.Goals as goal

pub returns-in-Ok-clause-spelled : goal.returns-in-Ok-clause-spelled
returns-in-Ok-clause-spelled c =
    read_spelled c.args.tokens.dialect c.terminals.new.names c.args.tokens.source c.args.tokens.tokens c.in_ok-ts.ts.items c.deref.result.now c.requires.dialect c.requires.tokens c.in_ok-ts.ensures.terminals c.deref.ensures.value
    _ c.in-Ok.ensures

pub refusal-requires : goal.refusal-requires
refusal-requires c =
    subst (λ (s : List ℕ). IsRefusedFrom s c.in-Err-Refused.bad.now) (sym c.source-source.ensures)
    (read_refused c.args.tokens.dialect c.terminals.new.names c.args.tokens.source c.args.tokens.tokens c.in_ok-ts.ts.items c.deref.result.now c.requires.dialect c.requires.tokens c.in_ok-ts.ensures.terminals c.deref.ensures.value
    c.in-Err-Refused.bad.now (rw c.in-Err-Refused.field-0-is at c.in-Err-Refused.ensures))
