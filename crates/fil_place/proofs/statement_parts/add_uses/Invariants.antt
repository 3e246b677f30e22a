use Rattle.std.proofs.Common.{List}
use Rattle.hw_names.specs.Name.{Text}
use Rattle.fil_ast.specs.Tree.{TimeAt}
use Rattle.fil_sig.specs.Seen.{seen}
use Rattle.fil_place.specs.Times.{AreTimes}
use Rattle.fil_place.proofs.AddedLemmas.{AddsBelow}
use Rattle.fil_place.proofs.statement_parts.add_uses.Given as goal

-- the uses of the events so far are added
abbrev pub invariant-loop-number : goal.invariant-loop-number
invariant-loop-number l =
    (events : List Text) (inst : Text) (times : List TimeAt) → AreTimes events l.at times → AddsBelow events (seen l.sig) inst times l.instance l.number l.fn.starts l.starts
