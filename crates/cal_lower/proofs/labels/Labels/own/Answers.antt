use Rattle.cal_lower.proofs.GrownLemmas.{own_port}
use Rattle.cal_lower.proofs.labels.Labels.own.Goals as goal

pub returns-clause-port : goal.returns-clause-port
returns-clause-port c = own_port c.add_name.new.names c.args.port.now c.in_ok-port.port c.in_ok-port.ensures.text
