use Rattle.cal_ast.proofs.ItemLemmas.{new_ports}
use Rattle.cal_ast.specs.Naming.{Unreserved}
use Rattle.cal_place.specs.Around.{comp_at, design_at}
use Rattle.cal_wires.proofs.DependLemmas.{ports_listed}
use Rattle.cal_wires.proofs.readings.port_names.Goals as goal

pub returns-clause-names : goal.returns-clause-names
returns-clause-names c =
    let p = c.args.place.now in
    ports_listed (design_at p) c.requires p.number (comp_at p) c.comp-comp.ensures.at c.signature.result.now c.signature.ensures c.names.result.now c.names.ensures.listed

pub returns-clause-distinct : goal.returns-clause-distinct
returns-clause-distinct c =
    let p = c.args.place.now in
    new_ports Unreserved (design_at p) c.requires p.number (comp_at p) c.comp-comp.ensures.at
