use Rattle.std.proofs.Common.{◌≡◌, ◌++◌, take}
use Rattle.cal_print.specs.Layout.{deeper}
use Rattle.cal_print.proofs.Rows.{inner_text}
use Rattle.cal_print.proofs.control.+statements.Given as goal

abbrev pub invariant-put_statements-loop-statement : goal.invariant-put_statements-loop-statement
invariant-put_statements-loop-statement l = l.out.items ≡ l.initial.out.items ++ inner_text l.names (deeper l.margin) (take l.statement-index l.statements)
