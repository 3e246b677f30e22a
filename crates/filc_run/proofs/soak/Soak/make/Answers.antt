use Rattle.std.proofs.Common.{subst}
use Rattle.net_core.specs.Netlist.{netlist_of}
use Rattle.fil_ast.specs.Tree.{Design}
use Rattle.fil_promise.specs.Refines.{Refines}
use Rattle.filc_run.proofs.SoakLemmas.{rows_are, soak_at}
use Rattle.filc_run.specs.Soaked.{soak}
use Rattle.filc_run.proofs.soak.Soak.make.Goals as goal

pub returns-clause-made : goal.returns-clause-made
returns-clause-made c =
    let built = c.in_ok-design.ensures in
    let made = c.in_ok-lowered.ensures in
    let lowered = c.in_ok-lowered.lowered in
    let at = soak_at c.in_ok-design.design built.ready built.design in
    record {
      few = c.requires;
      ready = made.ready;
      refines = subst (λ (d : Design). Refines d (netlist_of lowered.built.net)) built.design made.refines;
      folded = made.folded;
      text = made.text;
      sig = made.sig soak at;
      rows = rows_are c.args.count lowered.rows c.in_ok-list.list c.deref.result.now c.in_ok-list.ensures c.deref.ensures.value (made.rows soak at);
      list = c.in_ok-list.ensures;
    }
