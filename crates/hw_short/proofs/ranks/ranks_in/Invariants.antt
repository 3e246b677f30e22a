use Rattle.std.proofs.Common.{◌≡◌, ℕ, ◌<◌, Vec, Global, length, get_or}
use Rattle.hw_short.specs.inside.Ranks.{IsRank}
use Rattle.hw_short.proofs.ranks.ranks_in.Given as goal

-- the ranks of the texts so far
abbrev pub invariant-loop-text : goal.invariant-loop-text
invariant-loop-text l = record {
  sized : length l.ranks.items ≡ l.text-index;
  each : (i : ℕ) (d : Vec ℕ Global) → i < l.text-index → IsRank l.sorted (get_or l.texts i d).items (get_or l.ranks.items i 0);
}
