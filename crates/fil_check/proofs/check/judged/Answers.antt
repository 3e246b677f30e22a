use Rattle.fil_ast.specs.Tree.{component_tree}
use Rattle.fil_check.proofs.DesignLemmas.{told_of}
use Rattle.fil_check.proofs.check.judged.Goals as goal

pub returns-in-Err-clause-broken : goal.returns-in-Err-clause-broken
returns-in-Err-clause-broken c comps shows =
    let tree = component_tree c.args.names.now c.args.comp.now in
    told_of comps tree c.args.comp.now.name c.in-Err.end c.in_component.result (c.in-Err.ensures.broken comps shows) c.in_component.ensures
