use Rattle.std.proofs.Common.{Bor, Contains, option_map, map, sym, ap, ◌∙◌}
use Rattle.std.proofs.lemmas.Option.{slice_get-map}
use Rattle.fil_ast.specs.Tree.{Component, component_tree}
use Rattle.fil_ast.specs.declared.tree.FilComp.{FilComp}
use Rattle.fil_share.proofs.Lookup.{find_at_place, find_nowhere, got, not_found, seen_copied}
use Rattle.fil_share.proofs.callees.component_of.Goals as goal

pub returns-in_err-number-clause-found : goal.returns-in_err-number-clause-found
returns-in_err-number-clause-found c names known =
    let trees = map (component_tree names) c.args.comps.now in
    ap (option_map (λ (k : Bor FilComp). component_tree names k.now)) c.from_residual.ensures
    ∙ sym (find_nowhere (λ (d : Component). d.name) trees c.args.known.now c.args.name.now known (not_found (Contains c.args.known.now c.args.name.now) c.in_err-number.ensures.present))

pub returns-clause-found : goal.returns-clause-found
returns-clause-found c names known =
    let comps = c.args.comps.now in
    let trees = map (component_tree names) comps in
    let n = c.in_ok-number.number.0 in
    seen_copied (component_tree names) c.get.result ∙ ap (option_map (component_tree names)) (got comps n c.get.result c.get.ensures.lookup)
    ∙ sym (slice_get-map (component_tree names) comps n)
    ∙ sym (find_at_place (λ (d : Component). d.name) trees c.args.known.now c.args.name.now n known c.find.ensures.distinct c.in_ok-number.ensures.text)
