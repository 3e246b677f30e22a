use Rattle.std.proofs.Common.{◌∙◌, refl, sym, arith}
use Rattle.net_row.proofs.MadeLemmas.{none_read, port_added}
use Rattle.net_row.proofs.compile.add_port.Goals as goal

pub returns : goal.returns
returns c =
    let old = c.args.made.now in
    let free = none_read old.ports.slots.items c.args.port c.index.result.now (omega (arith, c.requires.port, c.requires.made.count)) c.index.ensures (sym c.is_some.ensures ∙ c.if-is_some.false) in
    port_added c.args.numbered.now old c.port_slot.new.made _ c.args.port c.in_ok-slot.slot c.in_ok-slot.ensures free refl refl refl refl
