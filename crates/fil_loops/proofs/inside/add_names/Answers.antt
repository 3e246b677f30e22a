use Rattle.std.proofs.Common.{◌≤◌, ◌++◌, List, Contains, length, sym, ap, subst, ◌∙◌, arith}
use Rattle.std.proofs.lemmas.List.{length-map, take_all}
use Rattle.std.proofs.lemmas.Option.{slice_get-get_or}
use Rattle.hw_names.specs.Name.{Text, text_of}
use Rattle.fil_ast.specs.declared.tree.FilPort.{FilPort}
use Rattle.fil_loops.specs.inside.Reached.{port_names}
use Rattle.fil_loops.proofs.DependLemmas.{name_at}
use Rattle.fil_place.proofs.GeneralLemmas.{name_added}
use Rattle.fil_loops.proofs.PartLemmas.{names_more}
use Rattle.fil_loops.proofs.WiringLemmas.{next_new}
use Rattle.fil_loops.proofs.inside.add_names.Goals as goal

pub loop-port-preserved : goal.loop-port-preserved
loop-port-preserved c distinct =
    let names = c.args.names.now in
    let ports = c.args.ports.now in
    let all = port_names names ports in
    let k = c.loop-port.port-index in
    let text = c.text.result.now in
    let old = c.loop-port.own in
    let new = c.add_name.new.names in
    let at = name_at names ports k _ text (slice_get-get_or ports k _ c.loop-port-test.true) c.text.ensures in
    let before = c.loop-port.invariant distinct in
    let absent : ¬ Contains old text = subst (λ (l : List Text). ¬ Contains l text) (sym before) (next_new c.args.own.now all k text distinct at) in
    names_more c.args.own.now old new all k text at before (name_added old new text c.in_ok-_new._new c.add_name.result c.in_ok-_new.was absent c.add_name.ensures.new c.add_name.ensures.there)

pub returns : goal.returns
returns c distinct =
    let names = c.args.names.now in
    let ports = c.args.ports.now in
    let k = c.loop-port.port-index in
    let end : length (port_names names ports) ≤ k = omega (arith, c.loop-port-test.false, length-map ports (λ (p : FilPort). text_of names p.name)) in
    c.loop-port.invariant distinct ∙ ap (λ (l : List Text). c.args.own.now ++ l) (take_all k (port_names names ports) end)
