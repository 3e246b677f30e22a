use Rattle.std.proofs.Common.{ℕ, List, drop}
use Rattle.hw_names.specs.Name.{Text}
use Rattle.cal_lower.specs.inside.Labels.{AreTexts, KeepsLabels}
use Rattle.cal_lower.specs.inside.Parts.{ended_guards}
use Rattle.cal_lower.proofs.EndLemmas.{EndedSoFar}
use Rattle.cal_lower.proofs.SizeLemmas.{plans}
use Rattle.cal_lower.proofs.ends.all_ended.Given as goal

abbrev pub invariant-loop-control : goal.invariant-loop-control
invariant-loop-control l = record {
  kept : KeepsLabels l.fn.labels l.labels;
  texts : AreTexts l.labels.names l.labels.texts;
  guards : (source : List Text) (item : ℕ) → EndedSoFar source (ended_guards l.fn.number (plans source item l.statements)) l.labels.names l.guards.items l.number (drop l.control-index l.statements);
}
