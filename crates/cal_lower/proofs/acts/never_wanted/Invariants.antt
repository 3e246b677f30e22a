use Rattle.std.proofs.Common.{◌≡◌, [], List, length, All}
use Rattle.hw_names.specs.Name.{Text}
use Rattle.cal_lower.specs.inside.Shown.{ShowsWanted}
use Rattle.cal_lower.proofs.acts.never_wanted.Given as goal

-- so many groups so far, and none of them is wanted
abbrev pub invariant-loop : goal.invariant-loop
invariant-loop l = record {
  count : length l.all.items ≡ l.counter;
  nothing : (names : List Text) → All (ShowsWanted names [] []) l.all.items;
}
