use Rattle.std.proofs.Common.{take}
use Rattle.cal_group.specs.inside.Ruling.{IsNoted}
use Rattle.cal_group.proofs.remove.note_rules.Given as goal

abbrev pub invariant-loop-place : goal.invariant-loop-place
invariant-loop-place l = IsNoted l.acts (take l.place-index l.places) l.table
