use Rattle.std.proofs.Common.{map}
use Rattle.net_core.specs.Netlist.{netlist_of, set_of}
use Rattle.ver_print.specs.inside.Drivers.{picked}
use Rattle.ver_print.proofs.DriveLemmas.{drive_put}
use Rattle.ver_print.proofs.PutLemmas.{OnOk-is}
use Rattle.ver_print.proofs.drives.put_drive.Goals as goal

pub returns : goal.returns
returns c = λ p named wide.
    let net = c.args.net.now in
    OnOk-is c.put-3.result c.put-3.new.out.items _ _ c.put-3.ensures
    (drive_put (netlist_of net).sets p c.args.port.now c.args.width (map (set_of net.names) (picked net.sets.items c.drivers_of.result.now))
    c.args.out.now.items c.put.new.out.items c.put_escaped.new.out.items c.put-2.new.out.items c.put_value.new.out.items
    named wide c.drivers_of.ensures.all c.in_ok-put.ensures c.in_ok-put_escaped.ensures c.in_ok-put-2.ensures c.in_ok-put_value.ensures)
