use Rattle.std.proofs.Common.{take}
use Rattle.fil_ast.specs.Tree.{design_of}
use Rattle.fil_place.specs.Tables.{ShowsEarlier}
use Rattle.fil_loops.specs.Wired.{IsWired}
use Rattle.fil_check.proofs.DesignLemmas.{KeepBefore}
use Rattle.fil_check.proofs.check.judge_by_reach.Given as goal

-- the components so far keep F1 to F13, stand in the tables, and what is known of F14 is known of them
abbrev pub invariant-loop-comp : goal.invariant-loop-comp
invariant-loop-comp l = record {
  shown : ShowsEarlier l.earlier (take l.comp-index (design_of l.design));
  kept : KeepBefore (design_of l.design) l.comp-index;
  wired : IsWired l.design.names (take l.comp-index (design_of l.design)) l.wired;
}
