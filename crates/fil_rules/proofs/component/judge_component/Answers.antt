use Rattle.std.proofs.Common.{arith}
use Rattle.fil_ast.specs.Rules.{F1}
use Rattle.fil_ast.specs.Tree.{component_tree}
use Rattle.fil_rules.specs.FirstItem.{TellsItem}
use Rattle.fil_rules.proofs.ItemLemmas.{passed_up, signature_ends, signature_kept}
use Rattle.fil_rules.proofs.StartLemmas.{start}
use Rattle.fil_rules.proofs.component.judge_component.Goals as goal

pub returns-in-Err-clause-broken : goal.returns-in-Err-clause-broken
returns-in-Err-clause-broken c comps shows =
    let tree = component_tree c.args.names.now c.args.comp.now in
    signature_ends comps tree c.in-Err.end c.at_item.result (c.in-Err.ensures.broken comps shows.names) c.at_item.ensures

pub returns-clause-kept : goal.returns-clause-kept
returns-clause-kept c comps shows =
    let tree = component_tree c.args.names.now c.args.comp.now in
    let signature = c.in-Ok.ensures.kept comps shows.names in
    let new_names = signature 0 F1 (omega arith) in
    let shown = c.new-tables.ensures.shows c.args.earlier.now comps tree shows c.in-Ok.ensures.events c.in-Ok.ensures.ports in
    let stands = start c.args.names.now c.args.earlier.now comps c.args.comp.now _ shown new_names c.new-tables.ensures.unused c.new-tables.ensures.connected in
    c.in_ok-judge_body.ensures.kept comps stands (signature_kept comps tree signature)

pub returns-clause-tables : goal.returns-clause-tables
returns-clause-tables c comps shows =
    let tree = component_tree c.args.names.now c.args.comp.now in
    let signature = c.in-Ok.ensures.kept comps shows.names in
    let new_names = signature 0 F1 (omega arith) in
    let shown = c.new-tables.ensures.shows c.args.earlier.now comps tree shows c.in-Ok.ensures.events c.in-Ok.ensures.ports in
    let stands = start c.args.names.now c.args.earlier.now comps c.args.comp.now _ shown new_names c.new-tables.ensures.unused c.new-tables.ensures.connected in
    c.in_ok-judge_body.ensures.tables comps stands

pub returns-in_err-judge_body-clause-broken : goal.returns-in_err-judge_body-clause-broken
returns-in_err-judge_body-clause-broken c comps shows =
    let tree = component_tree c.args.names.now c.args.comp.now in
    let signature = c.in-Ok.ensures.kept comps shows.names in
    let new_names = signature 0 F1 (omega arith) in
    let shown = c.new-tables.ensures.shows c.args.earlier.now comps tree shows c.in-Ok.ensures.events c.in-Ok.ensures.ports in
    let stands = start c.args.names.now c.args.earlier.now comps c.args.comp.now _ shown new_names c.new-tables.ensures.unused c.new-tables.ensures.connected in
    let told = c.in_err-judge_body.ensures.broken comps stands (signature_kept comps tree signature) in
    passed_up c.from_residual.result c.in_err-judge_body.field-0.0 (TellsItem comps tree) c.from_residual.ensures.1 told
