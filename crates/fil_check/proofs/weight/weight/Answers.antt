use Rattle.std.proofs.Common.{ap, arith}
use Rattle.std.specs.List.{sum}
use Rattle.std.proofs.lemmas.List.{length-map}
use Rattle.fil_ast.specs.Tree.{component_tree, interface_tree, port_tree, statement_tree}
use Rattle.fil_check.proofs.WeightLemmas.{weighed}
use Rattle.fil_check.proofs.weight.weight.Goals as goal

pub returns : goal.returns
returns c comps place distinct are =
    let names = c.args.place.now.names.now in
    let comp = c.args.place.now.comp.now in
    let tree = component_tree names comp in
    let sums = weighed comps tree c.args.place.now.tables.now.events c.in_ok-asked.asked place.shows.events (c.in_ok-asked.ensures names comp _ place distinct) in
    omega (
      arith,
      sums.0,
      sums.1,
      c.saturating_add.ensures,
      c.saturating_add-2.ensures,
      c.saturating_add-3.ensures,
      c.total.ensures,
      ap sum c.deref.ensures.value,
      c.len.ensures,
      c.len-2.ensures,
      c.len-3.ensures,
      c.len-4.ensures,
      c.weight_of_instances.ensures comps place.shows.components are,
      length-map comp.gos.items (interface_tree names),
      length-map comp.ins.items (port_tree names),
      length-map comp.outs.items (port_tree names),
      length-map comp.body.items (statement_tree names),
    )
