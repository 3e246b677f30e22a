use Rattle.std.proofs.Common.{◌≡◌, ℕ, [], List, map, flat_map, slice_get, Some, refl, ap, ◌∙◌, arith}
use Rattle.std.specs.Option.{option_map_or}
use Rattle.fil_ast.specs.Signature.{SigPort}
use Rattle.fil_ast.specs.Timeline.{interval_at}
use Rattle.fil_ast.specs.Tree.{time_tree}
use Rattle.fil_sig.specs.Seen.{seen_port}
use Rattle.fil_share.proofs.Lookup.{at_mapped}
use Rattle.fil_lower.specs.inside.Lowering.{wants_in}
use Rattle.fil_lower.specs.inside.Parts.{IsGoodPort}
use Rattle.fil_lower.specs.inside.Place.{greatest}
use Rattle.fil_lower.proofs.StepLemmas.{All-at, greatest_next, ord_max-max, whole_taken}
use Rattle.fil_lower.proofs.body.last_of_call.Goals as goal

pub last_of_argument-requires-clause-port : goal.last_of_argument-requires-clause-port
last_of_argument-requires-clause-port c =
    let ports = c.args.ports.now in
    let i = c.loop-port.port-index in
    let p = seen_port c.port-item.result in
    All-at IsGoodPort (map seen_port ports) i p (at_mapped seen_port ports ports i c.port-item.result refl c.loop-port-test.true c.port-item.is) c.requires.ports

pub loop-port-preserved : goal.loop-port-preserved
loop-port-preserved c =
    let ports = c.args.ports.now in
    let i = c.loop-port.port-index in
    let p = seen_port c.port-item.result in
    let at : slice_get (map seen_port ports) i ≡ Some p = at_mapped seen_port ports ports i c.port-item.result refl c.loop-port-test.true c.port-item.is in
    record {
      value = λ low.
          let wants : SigPort → List ℕ = λ port. option_map_or (wants_in low c.args.event.now) (interval_at (map (time_tree c.args.names.now) c.args.at.now) port) [] in
          c.max-last.ensures ∙ ord_max-max c.loop-port.last c.last_of_argument.result ∙ greatest_next wants (map seen_port ports) i p c.loop-port.last c.last_of_argument.result at (c.loop-port.invariant.value low) (c.last_of_argument.ensures.value low);
      small = omega (arith, c.max-last.ensures ∙ ord_max-max c.loop-port.last c.last_of_argument.result, c.loop-port.invariant.small, c.last_of_argument.ensures.small);
    }

pub returns-clause-value : goal.returns-clause-value
returns-clause-value c = λ low.
    let ports = c.args.ports.now in
    let wants : SigPort → List ℕ = λ port. option_map_or (wants_in low c.args.event.now) (interval_at (map (time_tree c.args.names.now) c.args.at.now) port) [] in
    c.loop-port.invariant.value low ∙ ap (λ ps. greatest (flat_map wants ps)) (whole_taken seen_port ports ports c.loop-port.port-index refl c.loop-port-test.false)
