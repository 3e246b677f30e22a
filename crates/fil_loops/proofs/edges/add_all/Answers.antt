use Rattle.std.proofs.Common.{[], List, get_or, length, map, subst₂}
use Rattle.std.proofs.lemmas.Option.{slice_get-get_or}
use Rattle.hw_names.specs.Name.{Text}
use Rattle.fil_sig.specs.Seen.{seen_port}
use Rattle.fil_sig.specs.declared.time_sig.SigPort.{SigPort}
use Rattle.fil_loops.specs.inside.PortGraph.{Adds, Below}
use Rattle.fil_loops.specs.inside.Readings.{ReadsEach}
use Rattle.fil_place.proofs.EachLemmas.{item_at}
use Rattle.fil_loops.proofs.PortGraphLemmas.{instance_stays, instance_within}
use Rattle.fil_loops.proofs.ReadingLemmas.{all_gained}
use Rattle.fil_loops.proofs.edges.add_all.Goals as goal

pub add_each-requires : goal.add_each-requires
add_each-requires c =
    let instances = c.args.graph.now.ports.instances in
    let so_far = c.loop-output.invariant (get_or instances c.args.instance []) (slice_get-get_or instances c.args.instance [] c.requires) in
    instance_within _ c.args.instance c.args.graph.now c.loop-output.graph so_far c.requires

pub loop-output-preserved : goal.loop-output-preserved
loop-output-preserved c inst at =
    let sig = c.args.sig.now in
    let k = c.loop-output.output-index in
    let old = c.args.graph.now in
    let mid = c.loop-output.graph in
    let so_far = c.loop-output.invariant inst at in
    let here = item_at sig.outs.items c.deref-output-items.result.now k c.output-item.result c.deref-output-items.ensures.value c.loop-output-test.true c.output-item.is in
    let second = subst₂ (λ (output : Text) (ins : List SigPort). Adds (Below (ReadsEach inst output (map seen_port ins)) (length ins)) mid c.add_each.new.graph) c.bytes.ensures c.deref.ensures.value
    (c.in_ok-add_each.ensures inst (instance_stays _ c.args.instance inst old mid so_far at)) in
    all_gained inst sig k c.output-item.result here old mid c.add_each.new.graph so_far second
