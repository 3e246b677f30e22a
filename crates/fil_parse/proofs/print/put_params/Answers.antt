use Rattle.fil_parse.proofs.PrintLemmas.{OnOk-is, params_put}
use Rattle.std.proofs.Common.{arith}
use Rattle.fil_parse.proofs.print.put_params.Goals as goal

pub returns : goal.returns
returns c =
    OnOk-is c.put-2.result c.put-2.new.out.items _ _ c.put-2.ensures
    (params_put c.args.params.now c.args.out.now.items c.put.new.out.items c.put_numbers.new.out.items (omega (arith, c.if-params-eq0.false)) c.in_ok-put.ensures c.in_ok-put_numbers.ensures)
