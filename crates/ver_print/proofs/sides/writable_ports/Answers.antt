use Rattle.std.proofs.Common.{◌∙◌}
use Rattle.ver_print.proofs.SideLemmas.{sides_put}
use Rattle.ver_print.proofs.sides.writable_ports.Goals as goal

pub returns : goal.returns
returns c =
    let net = c.args.net.now in
    sides_put net c.new-sides.result.items c.put_sides.new.sides.items c.put_sides-2.new.sides.items c.put_sides-3.new.sides.items c.put_cells_sides.new.sides.items c.len.result c.len-2.result c.len-3.result c.deref.result.now
    c.new-sides.ensures.items (c.len.ensures ∙ net.ins.ok.0) (c.len-2.ensures ∙ net.outs.ok.0) (c.len-3.ensures ∙ net.wires.ok.0) c.deref.ensures.value
    c.in_ok-put_sides.ensures c.in_ok-put_sides-2.ensures c.in_ok-put_sides-3.ensures c.in_ok-put_cells_sides.ensures
