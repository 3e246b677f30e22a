use Rattle.std.proofs.Common.{◌≡◌, length, map}
use Rattle.hw_grammar.specs.Terminals.{entry_of}
use Rattle.hw_grammar.proofs.terminals.entry_of.Given as goal

abbrev pub invariant-loop-rest : goal.invariant-loop-rest
invariant-loop-rest g l = entry_of (map (λ row. (row.0.now, row.1)) l.rest) l.word ≡ entry_of (map (λ row. (row.0.now, row.1)) l.table) l.word

abbrev pub decreases-loop-rest : goal.decreases-loop-rest
decreases-loop-rest g l = length l.rest
