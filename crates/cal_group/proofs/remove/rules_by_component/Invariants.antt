use Rattle.std.proofs.Common.{◌≡◌, length, take}
use Rattle.cal_group.specs.inside.Ruling.{HasPlaces}
use Rattle.cal_group.proofs.remove.rules_by_component.Given as goal

abbrev pub invariant-loop-place : goal.invariant-loop-place
invariant-loop-place l = record {
  len : length l.lists.items ≡ l.count;
  places : HasPlaces (take l.place l.acts) l.lists.items;
}
