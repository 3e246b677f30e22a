use Rattle.cal_ast.proofs.PlainLemmas.{known_ports_are_plain}
use Rattle.cal_ast.proofs.laws.known_ports_are_plain.Goals as goal

pub returns : goal.returns
returns c = known_ports_are_plain
