use Rattle.std.proofs.Common.{◌≡◌, map}
use Rattle.stim_read.specs.Parts.{each, member_seen}
use Rattle.stim_read.specs.CycleText.{given_by}
use Rattle.stim_read.proofs.EachLemmas.{behind}
use Rattle.stim_read.proofs.given.givens_of.Given as goal

abbrev pub invariant-loop-key : goal.invariant-loop-key
invariant-loop-key l =
    behind l.given.items (each (given_by l.version) (map member_seen l.key-iterator)) ≡ each (given_by l.version) (map member_seen l.members.entries)
