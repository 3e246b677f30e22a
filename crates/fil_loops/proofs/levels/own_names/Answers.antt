use Rattle.std.proofs.Common.{◌++◌, List, ap, ap₂, ◌∙◌}
use Rattle.hw_names.specs.Name.{Text}
use Rattle.fil_loops.specs.inside.Reached.{port_names}
use Rattle.fil_loops.proofs.DependLemmas.{tree_names}
use Rattle.fil_loops.proofs.levels.own_names.Goals as goal

pub returns-clause-names : goal.returns-clause-names
returns-clause-names c =
    let names = c.args.place.now.names.now in
    let comp = c.args.place.now.comp.now in
    let ins = c.in_ok-add_names.ensures.added c.if-not-branch.false ∙ ap (λ (l : List Text). l ++ port_names names c.deref.result.now) c.beside-own.ensures ∙ ap (port_names names) c.deref.ensures.value ∙ tree_names names comp.ins.items in
    c.in_ok-add_names-2.ensures.added c.if-not-branch-2.false ∙ ap₂ (λ (a b : List Text). a ++ b) ins (ap (port_names names) c.deref-2.ensures.value ∙ tree_names names comp.outs.items)
