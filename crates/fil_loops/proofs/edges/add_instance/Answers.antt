use Rattle.std.proofs.Common.{[], Some, length, sym, ap, subst, ◌∙◌}
use Rattle.std.proofs.lemmas.List.{length-map}
use Rattle.std.proofs.lemmas.Option.{slice_get_within}
use Rattle.std.proofs.lemmas.Result.{on_ok_weaker}
use Rattle.fil_ast.specs.Scope.{Instance}
use Rattle.fil_ast.specs.Wires.{through_before}
use Rattle.fil_sig.specs.Seen.{seen, seen_port}
use Rattle.fil_loops.specs.inside.Readings.{ReadsAll, ReadsMade}
use Rattle.fil_loops.proofs.InstanceNumberLemmas.{no_instance_in, no_made, of_tables}
use Rattle.fil_loops.proofs.InstanceLemmas.{IsThrough, reads_all, reads_none, reads_nothing}
use Rattle.fil_loops.proofs.PortGraphLemmas.{adds_none, adds_same, below_all}
use Rattle.fil_loops.proofs.edges.add_instance.Goals as goal

pub returns-in_default : goal.returns-in_default
returns-in_default c scope place named has =
    let i : Instance = record { name = c.args.made.name.now; made = c.args.made.made.now; params = c.args.made.params.now } in
    adds_none (ReadsMade (through_before []) scope i) c.args.graph.now (reads_nothing scope i (sym c.in_default.ensures))

pub returns-then-not-is_through : goal.returns-then-not-is_through
returns-then-not-is_through c scope place named has =
    let i : Instance = record { name = c.args.made.name.now; made = c.args.made.made.now; params = c.args.made.params.now } in
    let of_table = sym c.in-Some.ensures in
    let flag : IsThrough i.made i.params c.is_through.result = λ prim input output is ins outs. c.is_through.ensures i.made prim input output of_table is ins outs in
    adds_none (ReadsMade (through_before []) scope i) c.args.graph.now
    (reads_none c.args.place.now.names.now c.args.place.now.earlier.now c.args.place.now.comp.now c.args.place.now.tables.now scope place i has c.in-Some.table.now of_table (subst (IsThrough i.made i.params) c.if-not-is_through.true flag))

pub returns-in_default-instance : goal.returns-in_default-instance
returns-in_default-instance c scope place named has =
    let i : Instance = record { name = c.args.made.name.now; made = c.args.made.made.now; params = c.args.made.params.now } in
    no_made (through_before []) scope i c.args.graph.now (no_instance_in c.args.place.now scope c.args.graph.now place named i.name c.in_default-instance.ensures.none)

pub returns-in-None : goal.returns-in-None
returns-in-None c scope place named has =
    let i : Instance = record { name = c.args.made.name.now; made = c.args.made.made.now; params = c.args.made.params.now } in
    let at = of_tables c.args.place.now scope c.args.graph.now place named c.in-Some-instance.instance i.name c.in-Some-instance.ensures.some in
    no_made (through_before []) scope i c.args.graph.now (sym (c.in-None.ensures c.args.place.now.names.now c.args.place.now.comp.now scope i.name place at))

pub add_all-requires : goal.add_all-requires
add_all-requires c = slice_get_within _ _ _ c.in-Some-instance.ensures.some

pub returns-in-Some-callee_at : goal.returns-in-Some-callee_at
returns-in-Some-callee_at c scope place named has =
    let i : Instance = record { name = c.args.made.name.now; made = c.args.made.made.now; params = c.args.made.params.now } in
    let items = c.sig.result.now.outs.items in
    let sig = seen c.sig.result.now in
    let at = of_tables c.args.place.now scope c.args.graph.now place named c.in-Some-instance.instance i.name c.in-Some-instance.ensures.some in
    let told = sym (c.in-Some-callee_at.ensures c.args.place.now.names.now c.args.place.now.comp.now scope i.name place at) ∙ ap Some (sym c.sig.ensures.same) in
    let of_table = sym c.in-Some.ensures in
    let flag : IsThrough i.made i.params c.is_through.result = λ prim input output is ins outs. c.is_through.ensures i.made prim input output of_table is ins outs in
    let old = c.args.graph.now in
    let new = c.add_all.new.graph in
    on_ok_weaker c.add_all.result
    (λ d. adds_same _ (ReadsMade (through_before []) scope i) old new
    (reads_all c.args.place.now.names.now c.args.place.now.earlier.now c.args.place.now.comp.now c.args.place.now.tables.now scope place i has sig told c.in-Some.table.now of_table c.is_through.result flag c.if-not-is_through.false)
    (below_all (ReadsAll i.name sig) (length items) (length sig.outs) old new (sym (length-map items seen_port)) d))
    (c.add_all.ensures i.name c.in-Some-instance.ensures.some)
