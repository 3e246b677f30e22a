use Rattle.std.proofs.Common.{◌≡◌, take, None}
use Rattle.std.specs.Prelude.{find, flat_map}
use Rattle.fil_parse.specs.inside.Offsets.{of_statement}
use Rattle.fil_parse.specs.Spelling.{is_large}
use Rattle.fil_parse.proofs.offsets.large_statement.Given as goal

abbrev pub invariant-loop-stmt : goal.invariant-loop-stmt
invariant-loop-stmt l = find is_large (flat_map of_statement (take l.stmt-index l.body)) ≡ None
