use Rattle.std.proofs.Common.{◌≡◌, [], Some, get_or, length, map, ap, refl, ◌∙◌, arith}
use Rattle.std.proofs.lemmas.Option.{slice_get-get_or, slice_get_within}
use Rattle.hw_names.specs.Name.{Text, dotted}
use Rattle.fil_sig.specs.Seen.{seen_port}
use Rattle.fil_loops.specs.inside.PortGraph.{IsPair}
use Rattle.fil_loops.specs.inside.Readings.{ReadsEach}
use Rattle.fil_place.proofs.EachLemmas.{item_at}
use Rattle.fil_loops.proofs.PortGraphLemmas.{adds_after, below_all, below_start, instance_stays, instance_within, port_within}
use Rattle.fil_loops.proofs.ReadingLemmas.{each_gained}
use Rattle.fil_loops.proofs.edges.add_each.Goals as goal

pub loop-input-init : goal.loop-input-init
loop-input-init c inst at = (c.in_ok-port.ensures.number inst at, below_start _ c.args.graph.now c.port.new.self c.port.ensures.same)

pub port-requires-in-loop-input : goal.port-requires-in-loop-input
port-requires-in-loop-input c =
    let instances = c.args.graph.now.ports.instances in
    let so_far = c.loop-input.invariant (get_or instances c.args.instance []) (slice_get-get_or instances c.args.instance [] c.requires) in
    instance_within _ c.args.instance c.args.graph.now c.loop-input.graph so_far.1 c.requires

pub add-requires : goal.add-requires
add-requires c =
    let instances = c.args.graph.now.ports.instances in
    let inst = get_or instances c.args.instance [] in
    let so_far = c.loop-input.invariant inst (slice_get-get_or instances c.args.instance [] c.requires) in
    record { key = port_within _ _ c.loop-input.graph c.port-in-loop-input.new.self c.port-in-loop-input.ensures.same (slice_get_within c.loop-input.graph.ports.names _ (dotted inst c.args.output.now) so_far.0); value = c.in_ok-other.ensures.within }

pub loop-input-preserved : goal.loop-input-preserved
loop-input-preserved c inst at =
    let ins = c.args.ins.now in
    let k = c.loop-input.input-index in
    let old = c.args.graph.now in
    let mid = c.loop-input.graph in
    let named = c.port-in-loop-input.new.self in
    let new = c.add.new.self in
    let so_far = c.loop-input.invariant inst at in
    let input = c.input-item.result in
    let here = item_at ins ins k input refl c.loop-input-test.true c.input-item.is in
    let at_other = c.in_ok-other.ensures.number inst (instance_stays _ c.args.instance inst old mid so_far.1 at) ∙ ap (λ (t : Text). Some (dotted inst t)) c.bytes.ensures in
    let at_port = c.port-in-loop-input.ensures.same.texts _ _ so_far.0 in
    let pair = c.in_ok-add.ensures.pair (dotted inst c.args.output.now) (dotted inst input.name) at_port at_other in (
      pair.texts _ _ at_port,
      each_gained inst c.args.output.now ins k old mid new input (dotted inst c.args.output.now) (dotted inst input.name) here refl refl so_far.1
          (adds_after (IsPair (dotted inst c.args.output.now) (dotted inst input.name)) mid named new c.port-in-loop-input.ensures.same pair),
    )

pub returns : goal.returns
returns c inst at =
    let ins = c.args.ins.now in
    let end : c.loop-input.input-index ≡ length ins = omega arith in
    below_all (ReadsEach inst c.args.output.now (map seen_port ins)) c.loop-input.input-index (length ins) c.args.graph.now c.loop-input.graph end (c.loop-input.invariant inst at).1
