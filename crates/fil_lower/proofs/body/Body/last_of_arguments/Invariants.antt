use Rattle.std.proofs.Common.{◌≡◌, ◌<◌, flat_map, take}
use Rattle.fil_ast.specs.Scope.{invocations_at}
use Rattle.hw_limits.specs.declared.limits.TheConstants.{MOST_ROWS}
use Rattle.fil_lower.specs.inside.Lowering.{Lowering}
use Rattle.fil_lower.specs.inside.Place.{ShowsBody, greatest, wanted_by_ports}
use Rattle.fil_lower.proofs.body.Body.last_of_arguments.Given as goal

abbrev pub invariant-loop-stmt : goal.invariant-loop-stmt
invariant-loop-stmt l = record {
  value : (low : Lowering) → ShowsBody l.self low.scope → l.last ≡ greatest (flat_map (wanted_by_ports low l.event) (flat_map invocations_at (take l.stmt-index low.scope.comp.body)));
  small : l.last < MOST_ROWS;
}
