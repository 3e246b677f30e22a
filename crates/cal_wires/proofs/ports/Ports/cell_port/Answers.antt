use Rattle.std.proofs.Common.{◌<◌, length, slice_get, ap, sym, ◌∙◌, arith, List}
use Rattle.std.proofs.lemmas.List.{length-map}
use Rattle.std.proofs.lemmas.Option.{slice_get-get_or}
use Rattle.cal_wires.specs.Nodes.{PortList, key_of, node_in}
use Rattle.cal_wires.specs.declared.ports.NodeKey.{NodeKey}
use Rattle.cal_wires.proofs.PortLemmas.{cell_key_at}
use Rattle.cal_wires.proofs.ports.Ports.cell_port.Goals as goal

pub returns-in_default : goal.returns-in_default
returns-in_default c =
    let all = c.self.inside.texts.all in
    let keys = c.self.inside.set.keys in
    let place = c.args.place in
    let view = ap (λ (v : PortList). v.keys) c.self.view_is in
    let within : place < length c.as_slice.result.now =
    omega (arith, c.requires, ap length c.as_slice.ensures.keys, length-map keys (λ (k : NodeKey). key_of (node_in all k)), ap length view) in
    let here = ap (λ (l : List NodeKey). slice_get l place) (sym c.as_slice.ensures.keys) ∙ slice_get-get_or c.as_slice.result.now place _ within in
    record { some = tt; none = λ cell pin at. absurd (cell_key_at all keys c.args.self.now.keys place _ view here cell pin at c.in_default.not-OfCell) }
