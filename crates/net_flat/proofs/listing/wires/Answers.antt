use Rattle.std.proofs.Common.{◌++◌, List, sym, subst}
use Rattle.std.specs.List.{flat_map}
use Rattle.hw_prims.specs.Table.{Pin}
use Rattle.net_core.specs.Netlist.{pin_of}
use Rattle.net_core.specs.Numbers.{PortHasNumbers}
use Rattle.cal_ast.specs.Tree.{component_tree}
use Rattle.net_flat.specs.Listing as listing
use Rattle.net_flat.specs.Listing.{wires_at}
use Rattle.net_flat.specs.inside.StandFor.{ArePins}
use Rattle.net_flat.proofs.FoundLemmas.{all_listed, next_instance}
use Rattle.net_flat.proofs.StandLemmas.{Keeps-then, stand_append, stable_pin}
use Rattle.net_flat.proofs.TakeLemmas.{flat_map_push}
use Rattle.net_flat.proofs.listing.wires.Goals as goal

pub loop-instance-preserved : goal.loop-instance-preserved
loop-instance-preserved c =
    let source = c.args.source.now in
    let names = c.wires_of.new.names in
    let i = c.instance-item.result in
    record {
      kept = Keeps-then c.args.names.now c.loop-instance.names names c.loop-instance.invariant.kept c.wires_of.ensures.kept;
      listed = λ listed h.
          let next = next_instance source listed c.args.instances.now c.loop-instance.instance-index i h c.loop-instance-test.true c.instance-item.is in
          let more = flat_map_push wires_at _ _ (next.path, component_tree source i.comp.now) next.more in
          rw c.in_ok-append.ensures.items
          (subst (λ (ls : List Pin). ArePins names ls (c.loop-instance.found.items ++ c.in_ok-more.more.items)) (sym more)
          (stand_append PortHasNumbers pin_of stable_pin c.loop-instance.names names _ _ c.loop-instance.found.items c.in_ok-more.more.items c.wires_of.ensures.kept (c.loop-instance.invariant.listed listed h) (c.in_ok-more.ensures.wires next.path next.prefix)));
    }

pub returns-clause-wires : goal.returns-clause-wires
returns-clause-wires c = λ listed h.
    let all = all_listed c.args.source.now listed c.args.instances.now c.loop-instance.instance-index h c.loop-instance-test.false in
    subst (λ (js : List listing.Instance). ArePins c.loop-instance.names (flat_map wires_at js) c.loop-instance.found.items) all (c.loop-instance.invariant.listed listed h)
