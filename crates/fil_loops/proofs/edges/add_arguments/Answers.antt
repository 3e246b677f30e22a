use Rattle.std.proofs.Common.{Some, sym, ap, ◌∙◌}
use Rattle.std.proofs.lemmas.Option.{slice_get_within}
use Rattle.std.proofs.lemmas.Result.{on_ok_weaker}
use Rattle.fil_loops.proofs.InstanceNumberLemmas.{no_instance_in, of_tables}
use Rattle.fil_loops.proofs.ReadingLemmas.{arguments_gained, no_arguments}
use Rattle.fil_loops.proofs.edges.add_arguments.Goals as goal

pub returns-in_default : goal.returns-in_default
returns-in_default c scope place has =
    no_arguments c.args.place.now.names.now scope c.args.inst.now c.args.args.now c.args.graph.now
    (no_instance_in c.args.place.now scope c.args.graph.now place has c.args.inst.now c.in_default.ensures.none)

pub add_given-requires-clause-instance : goal.add_given-requires-clause-instance
add_given-requires-clause-instance c = slice_get_within _ _ _ c.in-Some.ensures.some

pub returns-in-Some-callee_at : goal.returns-in-Some-callee_at
returns-in-Some-callee_at c scope place has =
    let names = c.args.place.now.names.now in
    let inst = c.args.inst.now in
    let at = of_tables c.args.place.now scope c.args.graph.now place has c.in-Some.instance inst c.in-Some.ensures.some in
    let signed = sym (c.in-Some-callee_at.ensures names c.args.place.now.comp.now scope inst place at) ∙ ap Some (sym c.sig.ensures.same) in
    on_ok_weaker c.add_given.result
    (λ d. arguments_gained names scope inst c.args.args.now c.sig.result.now c.args.graph.now c.add_given.new.graph signed d)
    (c.add_given.ensures scope inst place has c.in-Some.ensures.some)

pub returns-in-None : goal.returns-in-None
returns-in-None c scope place has =
    let names = c.args.place.now.names.now in
    let inst = c.args.inst.now in
    let at = of_tables c.args.place.now scope c.args.graph.now place has c.in-Some.instance inst c.in-Some.ensures.some in
    no_arguments names scope inst c.args.args.now c.args.graph.now (sym (c.in-None.ensures names c.args.place.now.comp.now scope inst place at))
