use Rattle.std.proofs.Common.{◌≡◌, ◌+◌, ℕ, List, drop}
use Rattle.hw_names.specs.Name.{Text}
use Rattle.cal_ast.specs.Tree.{PortName}
use Rattle.cal_lower.specs.inside.Labels.{KeepsLabels}
use Rattle.cal_lower.specs.inside.Making.{Made, ShowsParts, with_made, in_turn_made, at_once_made}
use Rattle.cal_lower.specs.inside.Parts.{part_ends}
use Rattle.cal_lower.specs.inside.Pieces.{reads}
use Rattle.cal_lower.specs.inside.Shown.{ShowsPort}
use Rattle.cal_lower.specs.inside.Statements.{CanLowerAll}
use Rattle.cal_lower.proofs.SizeLemmas.{plans}
use Rattle.cal_lower.proofs.TurnLemmas.{OnceSoFar, TurnSoFar}
use Rattle.cal_lower.proofs.parts.+push_part.Given as goal

abbrev pub invariant-push_in_turn-loop-statement : goal.invariant-push_in_turn-loop-statement
invariant-push_in_turn-loop-statement l = record {
  kept : KeepsLabels l.initial.labels l.labels;
  groups : l.parts.acts.groups ≡ l.initial.parts.acts.groups;
  made : (source : List Text) (item : ℕ) (start : PortName) (made : Made) → CanLowerAll source l.initial.labels.names l.statements → ShowsPort l.initial.labels.names start l.fn.at.start
      → ShowsParts l.initial.labels.names made l.initial.parts
      → TurnSoFar source (reads start) (with_made made (in_turn_made (l.fn.at.number + 1) (plans source item l.statements) (reads start))) l.labels.names l.parts l.before l.number (drop l.statement-index l.statements);
}

abbrev pub invariant-push_at_once-loop-statement : goal.invariant-push_at_once-loop-statement
invariant-push_at_once-loop-statement l = record {
  kept : KeepsLabels l.initial.labels l.labels;
  groups : l.parts.acts.groups ≡ l.initial.parts.acts.groups;
  made : (source : List Text) (item : ℕ) (start : PortName) (made : Made) → CanLowerAll source l.initial.labels.names l.statements → ShowsPort l.initial.labels.names start l.fn.at.start
      → ShowsParts l.initial.labels.names made l.initial.parts
      → OnceSoFar source (reads start) (part_ends l.fn.at.number) (with_made made (at_once_made (l.fn.at.number + 1) (plans source item l.statements) (reads start) (part_ends l.fn.at.number))) l.labels.names l.parts l.number
      (drop l.statement-index l.statements);
}
