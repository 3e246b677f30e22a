use Rattle.std.proofs.Common.{ℕ, List, drop}
use Rattle.hw_names.specs.Name.{KeepsTexts, Text}
use Rattle.cal_lower.proofs.SizeLemmas.{plans}
use Rattle.cal_state.specs.inside.Making.{ShowsPlaces, ShowsThread, Walk, at_once_walk, turns_walk, with_walk}
use Rattle.cal_state.specs.inside.Threads.{Thread}
use Rattle.cal_state.proofs.WalkLoopLemmas.{OnceSoFar, TurnsSoFar}
use Rattle.cal_state.proofs.places.+push_part.Given as goal

abbrev pub invariant-push_in_turn-loop-statement : goal.invariant-push_in_turn-loop-statement
invariant-push_in_turn-loop-statement l = record {
  kept : KeepsTexts l.initial.names l.names;
  so_far : (source : List Text) (item : ℕ) (thread : Thread) (walk : Walk) → ShowsThread l.initial.names thread l.fn.first.thread → ShowsPlaces l.initial.names walk l.initial.places
      → TurnsSoFar source thread (with_walk walk (turns_walk l.fn.first.later thread l.fn.first.state l.fn.first.number (plans source item l.statements)))
      l.names l.places l.at (drop l.statement-index l.statements);
}

abbrev pub invariant-push_at_once-loop-statement : goal.invariant-push_at_once-loop-statement
invariant-push_at_once-loop-statement l = record {
  kept : KeepsTexts l.initial.names l.names;
  so_far : (source : List Text) (item : ℕ) (walk : Walk) → ShowsPlaces l.initial.names walk l.initial.places
      → OnceSoFar source (with_walk walk (at_once_walk l.fn.first (plans source item l.statements))) l.names l.places l.number (drop l.statement-index l.statements);
}
