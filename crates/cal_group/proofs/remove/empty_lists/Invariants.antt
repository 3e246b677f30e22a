use Rattle.std.proofs.Common.{◌≡◌, ℕ, [], length, Vec, Global}
use Rattle.std.specs.Prelude.{All}
use Rattle.cal_group.proofs.remove.empty_lists.Given as goal

abbrev pub invariant-loop : goal.invariant-loop
invariant-loop l = record {
  len : length l.lists.items ≡ l.counter;
  empty : All (λ (list : Vec ℕ Global). list.items ≡ []) l.lists.items;
}
