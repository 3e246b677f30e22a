use Rattle.std.proofs.Common.{map, arith}
use Rattle.std.proofs.lemmas.List.{length-map}
use Rattle.cal_ast.specs.Tree.{port_tree}
use Rattle.fil_lower.proofs.AnyGuardLemmas.{any_numbers, any_shown}
use Rattle.fil_lower.proofs.guards.any_of.Goals as goal

pub returns-in_ok-reads-in_default-clause-shown : goal.returns-in_ok-reads-in_default-clause-shown
returns-in_ok-reads-in_default-clause-shown c = λ names.
    any_shown names (map (port_tree names) c.args.bits.now) c.in_ok-reads-in_default.field-0 (omega (arith, length-map c.args.bits.now (port_tree names), c.in_default.len_at_least)) (c.in_ok-reads-in_default.ensures.shown names)

pub returns-in_ok-reads-in_default-clause-numbers : goal.returns-in_ok-reads-in_default-clause-numbers
returns-in_ok-reads-in_default-clause-numbers c = λ names known.
    any_numbers names c.in_ok-reads-in_default.field-0 (c.in_ok-reads-in_default.ensures.numbers names known)
