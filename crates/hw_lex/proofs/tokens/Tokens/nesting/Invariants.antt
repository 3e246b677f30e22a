use Rattle.std.proofs.Common.{◌≡◌, ◌+◌, ◌≤◌, take}
use Rattle.hw_lex.specs.Cut.{token_texts}
use Rattle.hw_lex.specs.Nesting.{open_count, run_of_nots, deepest}
use Rattle.hw_lex.proofs.tokens.Tokens.nesting.Given as goal

abbrev pub invariant-loop-i : goal.invariant-loop-i
invariant-loop-i l =
    (l.brackets ≡ open_count (take l.i (token_texts l.self.source l.self.tokens)))
    × (l.nots ≡ run_of_nots (take l.i (token_texts l.self.source l.self.tokens)))
    × (l.deepest ≡ deepest (token_texts l.self.source l.self.tokens) l.i)
    × (l.brackets + l.nots ≤ l.i)
