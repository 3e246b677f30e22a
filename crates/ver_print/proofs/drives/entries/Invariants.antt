use Rattle.std.proofs.Common.{◌≡◌, take}
use Rattle.ver_print.specs.inside.Drivers.{entries_of}
use Rattle.ver_print.proofs.drives.entries.Given as goal

abbrev pub invariant-loop-number : goal.invariant-loop-number
invariant-loop-number l = l.entries.items ≡ entries_of 0 (take l.number l.sets)
