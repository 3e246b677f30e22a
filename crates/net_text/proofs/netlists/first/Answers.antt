use Rattle.net_core.specs.declared.net.Net.{Net}
use Rattle.net_text.proofs.NetLemmas.{first_settled}
use Rattle.net_text.proofs.netlists.first.Goals as goal

pub returns-clause-settled : goal.returns-clause-settled
returns-clause-settled c =
    let net : Net = record { names = c.numbered.new.names; name = c.in_ok-name-2.name; ins = c.new.result; outs = c.new-2.result; wires = c.new-3.result; cells = c.new-4.result; sets = c.new-5.result } in
    first_settled net c.in_ok-name.name.now (record { ins = c.new.ensures.items; outs = c.new-2.ensures.items; wires = c.new-3.ensures.items; cells = c.new-4.ensures.items; sets = c.new-5.ensures.items }) c.in_ok-name-2.ensures.read
