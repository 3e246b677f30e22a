use Rattle.cal_print.proofs.PrintLemmas.{OnOk-is}
use Rattle.cal_print.proofs.Sections.{invoke_put}
use Rattle.cal_print.proofs.control.put_invoke.Goals as goal

pub returns : goal.returns
returns c =
    OnOk-is c.put-4.result c.put-4.new.out.items _ _ c.put-4.ensures
    (invoke_put c.args.names.now c.args.cell c.args.ins.now c.args.outs.now c.args.out.now.items c.put.new.out.items c.put_name.new.out.items c.put-2.new.out.items c.put_ins.new.out.items c.put-3.new.out.items c.put_outs.new.out.items
    c.in_ok-put.ensures c.in_ok-put_name.ensures c.in_ok-put-2.ensures c.in_ok-put_ins.ensures c.in_ok-put-3.ensures c.in_ok-put_outs.ensures)
