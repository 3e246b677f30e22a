use Rattle.std.proofs.Common.{take}
use Rattle.cal_group.proofs.ExpandingLemmas.{AreExpanded}
use Rattle.cal_group.proofs.expand.+expand.Given as goal

-- the statements so far are expanded
abbrev pub invariant-expand_statements-loop-statement : goal.invariant-expand_statements-loop-statement
invariant-expand_statements-loop-statement l =
    AreExpanded l.cells.source.now l.cells.table.now l.cells.ports (take l.statement-index l.statements) l.initial.made l.made l.all.items
