use Rattle.std.proofs.Common.{length, refl, sym, ap, subst, ◌∙◌, arith}
use Rattle.std.proofs.lemmas.Option.{none-some, same_Some}
use Rattle.hw_names.specs.Name.{HasNoDot}
use Rattle.fil_loops.proofs.CellLemmas.{numbers_all, numbers_more, numbers_same}
use Rattle.fil_loops.proofs.PortGraphLemmas.{adds_no_more}
use Rattle.fil_loops.proofs.PortNumberLemmas.{no_dot_told}
use Rattle.fil_loops.proofs.cells.number_dotted.Goals.{then-contains+in-Some+in_ok-number_all, then-contains+in_default, else-contains}
use Rattle.fil_loops.proofs.cells.number_dotted.Goals as goal

pub loop-instance-preserved : goal.loop-instance-preserved
loop-instance-preserved c =
    let parts = c.args.parts.now in
    let insides = c.args.insides.now in
    let end = c.loop-instance.instance in
    let old = c.loop-instance.graph in
    let so_far = c.loop-instance.invariant in
    let own = c.instance_name.result.now in
    let at_own = c.instance_name.ensures in
    elim c.if-contains.branch [
      | then-contains+in-Some+in_ok-number_all w ↦
          let inside = w.in-Some.inside.now in
          let adds = w.in_ok-number_all.ensures.adds in
          rw w.graph-is (record {
            adds = adds_no_more c.args.graph.now old _ so_far.adds adds;
            numbered = numbers_more parts insides end old _ adds own inside at_own ((w.in-Some.ensures inside).0 refl) (w.in_ok-number_all.ensures.numbered own at_own) so_far.numbered;
          })
      | then-contains+in_default w ↦
          rw w.graph-is (record {
            adds = so_far.adds;
            numbered = numbers_same parts insides end old.ports (λ inst inside at dots known. none-some inside ((w.in_default.ensures inside).1 known)) so_far.numbered;
          })
      | else-contains w ↦
          rw w.graph-is (record {
            adds = so_far.adds;
            numbered = numbers_same parts insides end old.ports
                (λ inst inside at dots known. dots (subst HasNoDot (same_Some own inst (sym at_own ∙ at)) (no_dot_told own c.contains.result c.contains.ensures.value w.if-contains.false))) so_far.numbered;
          })
    ]

pub returns-clause-numbered : goal.returns-clause-numbered
returns-clause-numbered c =
    let graph = c.loop-instance.graph in
    numbers_all c.args.parts.now c.args.insides.now c.loop-instance.instance graph.ports
    (omega (arith, c.loop-instance-test.false, c.instances-instance-end.ensures.count, ap length c.loop-instance.invariant.adds.instances)) c.loop-instance.invariant.numbered
