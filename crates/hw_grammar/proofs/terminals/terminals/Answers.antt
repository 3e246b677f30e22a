use Rattle.std.proofs.Common.{arith}
use Rattle.hw_grammar.proofs.TerminalLemmas.{AreTerminals-next, KeepsTexts-then}
use Rattle.hw_grammar.proofs.terminals.terminals.Goals as goal

pub returns-in_err-push-clause-plain : goal.returns-in_err-push-clause-plain
returns-in_err-push-clause-plain c = λ old. c.terminal_at.ensures.plain (c.loop-i.invariant.2 old)

pub loop-i-preserved : goal.loop-i-preserved
loop-i-preserved c = (
  rw c.in_ok-push.ensures.items (AreTerminals-next c.args.tokens.now.dialect c.loop-i.names c.terminal_at.new.names c.args.tokens.now.source c.args.tokens.now.tokens c.loop-i.i c.loop-i.ts.items c.in_ok-t.t (omega arith) c.terminal_at.ensures.kept c.loop-i.invariant.0 c.in_ok-t.ensures.terminal),
  KeepsTexts-then c.args.names.now c.loop-i.names c.terminal_at.new.names c.loop-i.invariant.1 c.terminal_at.ensures.kept,
  λ old. c.terminal_at.ensures.plain (c.loop-i.invariant.2 old),
)
