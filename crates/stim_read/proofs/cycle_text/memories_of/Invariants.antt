use Rattle.std.proofs.Common.{◌≡◌, map}
use Rattle.stim_read.specs.Parts.{each, member_seen}
use Rattle.stim_read.specs.CycleText.{words_by, words_seen}
use Rattle.stim_read.proofs.EachLemmas.{behind}
use Rattle.stim_read.proofs.cycle_text.memories_of.Given as goal

abbrev pub invariant-loop-key : goal.invariant-loop-key
invariant-loop-key l =
    behind (map words_seen l.memories.items) (each (words_by l.version) (map member_seen l.key-iterator)) ≡ each (words_by l.version) (map member_seen l.members.entries)
