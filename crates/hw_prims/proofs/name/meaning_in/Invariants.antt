use Rattle.std.proofs.Common.{◌≡◌, drop}
use Rattle.hw_prims.specs.inside.Port.{names_listed}
use Rattle.hw_prims.specs.Table.{meaning_in}
use Rattle.hw_prims.proofs.name.meaning_in.Given as goal

-- no name before this one is the text
abbrev pub invariant-loop-known : goal.invariant-loop-known
invariant-loop-known l =
    meaning_in (names_listed (drop l.known-index l.table)) l.text ≡ meaning_in (names_listed l.table) l.text
