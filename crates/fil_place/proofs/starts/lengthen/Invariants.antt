use Rattle.std.proofs.Common.{◌≡◌, ◌≤◌, ℕ, None, length, slice_index_or}
use Rattle.fil_place.proofs.starts.lengthen.Given as goal

-- so many places are there, and the first uses are those of before
abbrev pub invariant-loop : goal.invariant-loop
invariant-loop l = record {
  long : l.counter ≤ length l.firsts.items;
  same : (instance : ℕ) → slice_index_or l.firsts.items instance None ≡ slice_index_or l.fn.firsts.items instance None;
}
