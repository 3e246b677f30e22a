use Rattle.std.proofs.Common.{take}
use Rattle.hw_names.specs.Name.{KeepsTexts, HasPlainNames}
use Rattle.hw_grammar.specs.Terminals.{AreTerminals}
use Rattle.hw_grammar.proofs.terminals.terminals.Given as goal

abbrev pub invariant-loop-i : goal.invariant-loop-i
invariant-loop-i l =
    AreTerminals l.tokens.dialect l.names l.tokens.source (take l.i l.tokens.tokens) l.ts.items
    × KeepsTexts l.fn.names l.names
    × (HasPlainNames l.fn.names → HasPlainNames l.names)
