use Rattle.std.proofs.Common.{◌≡◌, ◌+◌, ◌≤◌, take}
use Rattle.hw_lex.specs.Nesting.{byte_tokens, open_count, run_of_nots, deepest}
use Rattle.hw_lex.proofs.nesting.nesting_of_bytes.Given as goal

abbrev pub invariant-loop-i : goal.invariant-loop-i
invariant-loop-i l =
    (l.brackets ≡ open_count (take l.i (byte_tokens l.text)))
    × (l.nots ≡ run_of_nots (take l.i (byte_tokens l.text)))
    × (l.deepest ≡ deepest (byte_tokens l.text) l.i)
    × (l.brackets + l.nots ≤ l.i)
