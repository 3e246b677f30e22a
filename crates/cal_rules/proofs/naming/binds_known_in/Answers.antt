use Rattle.std.proofs.Common.{All}
use Rattle.hw_names.specs.Name.{text_of}
use Rattle.net_core.specs.Graph.{source_ports}
use Rattle.cal_ast.specs.Naming.{IsKnownPort}
use Rattle.cal_ast.specs.Tree.{in_tree, port_of}
use Rattle.cal_place.specs.Around.{comp_at, design_at, names_at}
use Rattle.cal_rules.proofs.TestLemmas.{both_parts, first_fails}
use Rattle.cal_rules.proofs.naming.binds_known_in.Goals as goal

pub is_known-requires : goal.is_known-requires
is_known-requires c = (c.requires.cell, c.requires.bind.0)

pub is_known_source-requires : goal.is_known_source-requires
is_known_source-requires c = c.requires.bind.1

pub returns-then-is_known : goal.returns-then-is_known
returns-then-is_known c =
    let p = c.args.place.now in
    let b = in_tree (names_at p) c.args.bind in
    both_parts (IsKnownPort (design_at p) (comp_at p) (port_of (text_of (names_at p) c.args.cell) b.pin)) (All (IsKnownPort (design_at p) (comp_at p)) (source_ports b.src))
    c.is_known.result c.is_known_source.result c.is_known.ensures c.if-is_known.true c.is_known_source.ensures

pub returns-else-is_known : goal.returns-else-is_known
returns-else-is_known c =
    let p = c.args.place.now in
    let b = in_tree (names_at p) c.args.bind in
    first_fails (IsKnownPort (design_at p) (comp_at p) (port_of (text_of (names_at p) c.args.cell) b.pin)) (All (IsKnownPort (design_at p) (comp_at p)) (source_ports b.src))
    c.is_known.result c.is_known.ensures c.if-is_known.false
