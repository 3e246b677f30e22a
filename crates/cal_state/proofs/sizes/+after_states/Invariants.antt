use Rattle.std.proofs.Common.{List, drop}
use Rattle.hw_names.specs.Name.{Text}
use Rattle.cal_state.proofs.StateSizeLemmas.{StatesTo}
use Rattle.cal_state.proofs.sizes.+after_states.Given as goal

abbrev pub invariant-after_states_in-loop-statement : goal.invariant-after_states_in-loop-statement
invariant-after_states_in-loop-statement l = (names : List Text) → StatesTo names l.state l.statements l.next (drop l.statement-index l.statements)
