use Rattle.std.proofs.Common.{ℕ, List, Bor, is_some, option_map, sym, ap, ◌∙◌}
use Rattle.fil_ast.specs.Tree.{component_tree}
use Rattle.fil_ast.specs.declared.tree.FilComp.{FilComp}
use Rattle.fil_sig.proofs.UseLemmas.{primitive_told, component_told, component_ok, unknown_refused}
use Rattle.fil_sig.proofs.named.used_signature.Goals as goal

pub returns-in-Some-clause-refused : goal.returns-in-Some-clause-refused
returns-in-Some-clause-refused c comps named =
    primitive_told comps c.args.name.now c.args.params.now c.of_primitive.result (ap is_some (sym c.in-Some.ensures)) c.of_primitive.ensures.refused

pub returns-in-Some-comp-clause-usable : goal.returns-in-Some-comp-clause-usable
returns-in-Some-comp-clause-usable c comps named =
    let no = ap is_some (sym c.table_name.ensures ∙ ap (option_map (λ (text : Bor (List ℕ)). text.now)) c.in_default.is) in
    let found = named ∙ ap (option_map (λ (k : Bor FilComp). component_tree c.args.names.now k.now)) c.in-Some-comp.is in
    component_ok comps c.args.name.now c.args.params.now no (component_tree c.args.names.now c.in-Some-comp.comp.now) found c.of_component.result c.of_component.ensures.made c.of_component.ensures.usable

pub returns-in-Some-comp-clause-refused : goal.returns-in-Some-comp-clause-refused
returns-in-Some-comp-clause-refused c comps named =
    let no = ap is_some (sym c.table_name.ensures ∙ ap (option_map (λ (text : Bor (List ℕ)). text.now)) c.in_default.is) in
    let found = named ∙ ap (option_map (λ (k : Bor FilComp). component_tree c.args.names.now k.now)) c.in-Some-comp.is in
    component_told comps c.args.name.now c.args.params.now no (component_tree c.args.names.now c.in-Some-comp.comp.now) found c.of_component.result c.of_component.ensures.refused

pub returns-in-None-clause-refused : goal.returns-in-None-clause-refused
returns-in-None-clause-refused c comps named =
    let no = ap is_some (sym c.table_name.ensures ∙ ap (option_map (λ (text : Bor (List ℕ)). text.now)) c.in_default.is) in
    unknown_refused comps c.args.name.now c.args.params.now no (named ∙ ap (option_map (λ (k : Bor FilComp). component_tree c.args.names.now k.now)) c.in-None.is)
