use Rattle.std.proofs.Common.{◌≡◌, ◌<◌, [], map, flat_map, take}
use Rattle.std.specs.Option.{option_map_or}
use Rattle.fil_ast.specs.Timeline.{interval_at}
use Rattle.fil_ast.specs.Tree.{time_tree}
use Rattle.fil_sig.specs.Seen.{seen_port}
use Rattle.hw_limits.specs.declared.limits.TheConstants.{MOST_ROWS}
use Rattle.fil_lower.specs.inside.Lowering.{Lowering, wants_in}
use Rattle.fil_lower.specs.inside.Place.{greatest}
use Rattle.fil_lower.proofs.body.last_of_call.Given as goal

abbrev pub invariant-loop-port : goal.invariant-loop-port
invariant-loop-port l = record {
  value : (low : Lowering) → l.last ≡ greatest (flat_map (λ port. option_map_or (wants_in low l.event) (interval_at (map (time_tree l.names) l.at) port) []) (take l.port-index (map seen_port l.ports)));
  small : l.last < MOST_ROWS;
}
