use Rattle.std.proofs.Common.{List, Some, length, map, slice_get, refl, ap, sym, ◌∙◌, arith}
use Rattle.std.specs.Option.{option_copied}
use Rattle.std.proofs.lemmas.Option.{slice_get-get_or}
use Rattle.hw_names.specs.Name.{Text, dotted}
use Rattle.fil_ast.specs.Tree.{value_tree}
use Rattle.fil_sig.specs.Seen.{seen}
use Rattle.fil_sig.specs.declared.time_sig.SigPort.{SigPort}
use Rattle.fil_loops.specs.inside.Readings.{ReadsArgument}
use Rattle.fil_place.proofs.LookupLemmas.{got}
use Rattle.fil_loops.proofs.PortGraphLemmas.{adds_after, below_all, below_none, instance_stays}
use Rattle.fil_loops.proofs.ReadingLemmas.{argument_gained, argument_surplus}
use Rattle.fil_loops.proofs.edges.add_given.Goals.{in-Some+in_ok-port+in_ok-add_value, in_default}
use Rattle.fil_loops.proofs.edges.add_given.Goals as goal

pub loop-number-init : goal.loop-number-init
loop-number-init c = record { instances = refl; adds = λ scope inst place has at. below_none (ReadsArgument scope inst (seen c.args.sig.now) (map (value_tree c.args.place.now.names.now) c.args.given.args.now)) c.args.graph.now }

pub port-requires : goal.port-requires
port-requires c = omega (arith, c.requires.instance, ap length c.loop-number.invariant.instances)

pub loop-number-preserved : goal.loop-number-preserved
loop-number-preserved c =
    let names = c.args.place.now.names.now in
    let sig = c.args.sig.now in
    let k = c.loop-number.number in
    let old = c.args.graph.now in
    let mid = c.loop-number.graph in
    let at = ap (λ (xs : List SigPort). slice_get xs k) (sym c.deref.ensures.value) ∙ sym (got c.deref.result.now k c.get.result c.get.ensures.lookup) in
    elim c.match-get.branch [
      | in-Some+in_ok-port+in_ok-add_value w ↦
          rw w.graph-is (record {
            instances = w.in_ok-add_value.ensures.instances ∙ w.port.ensures.same.instances ∙ c.loop-number.invariant.instances;
            adds = λ scope inst place has at_inst.
                (let there = at ∙ ap option_copied w.in-Some.is in
                let first = c.loop-number.invariant.adds scope inst place has at_inst in
                let named = w.port.new.self in
                let new = w.add_value.new.graph in
                let port = dotted inst w.in-Some.input.now.name in
                let at_port = w.in_ok-port.ensures.number inst (instance_stays _ c.args.given.instance inst old mid first at_inst) ∙ ap (λ (t : Text). Some (dotted inst t)) w.bytes.ensures in
                let second = w.in_ok-add_value.ensures.adds scope port place (w.port.ensures.same.instances ∙ first.instances ∙ has) at_port in
                argument_gained names scope inst sig c.args.given.args.now k old mid new _ w.in-Some.input.now port (slice_get-get_or c.args.given.args.now k _ c.loop-number-test.true) there refl first
                (adds_after _ mid named new w.port.ensures.same second));
          })
      | in_default w ↦
          rw w.graph-is (record {
            instances = c.loop-number.invariant.instances;
            adds = λ scope inst place has at_inst.
                argument_surplus names scope inst sig c.args.given.args.now k old mid mid (at ∙ ap option_copied w.in_default.is) (c.loop-number.invariant.adds scope inst place has at_inst);
          })
    ]

pub returns : goal.returns
returns c scope inst place has at =
    below_all (ReadsArgument scope inst (seen c.args.sig.now) (map (value_tree c.args.place.now.names.now) c.args.given.args.now)) c.loop-number.number (length c.args.given.args.now) c.args.graph.now c.loop-number.graph (omega (arith, c.loop-number.auto.number-end, c.loop-number-test.false)) (c.loop-number.invariant.adds scope inst place has at)
