use Rattle.fil_parse.proofs.PrintLemmas.{OnOk-is, call_put}
use Rattle.fil_parse.proofs.print.put_call.Goals as goal

pub returns : goal.returns
returns c =
    OnOk-is c.put-3.result c.put-3.new.out.items _ _ c.put-3.ensures
    (call_put c.args.names.now c.args.at.now c.args.args.now c.args.out.now.items c.put.new.out.items c.put_times.new.out.items c.put-2.new.out.items c.put_values.new.out.items
    c.in_ok-put.ensures c.in_ok-put_times.ensures c.in_ok-put-2.ensures c.in_ok-put_values.ensures)
