use Rattle.std.proofs.Common.{◌≡◌, List}
use Rattle.hw_names.specs.Name.{Text, text_of}
use Rattle.net_core.specs.Guard.{guard_tree}
use Rattle.net_text.specs.inside.ReadGuards.{negated}
use Rattle.net_text.proofs.guards.negate.Given as goal

abbrev pub invariant-loop : goal.invariant-loop
invariant-loop l = (names : List Text) → guard_tree (text_of names) l.negated ≡ negated l.counter (guard_tree (text_of names) l.fn.guard)
