use Rattle.std.proofs.Common.{◌≡◌, ℕ, List, ◌++◌, codes, ◌∙◌, ap, sym, subst}
use Rattle.std.specs.List.{flat_map}
use Rattle.hw_names.specs.Name.{Text}
use Rattle.fil_ast.specs.declared.tree.FilComp.{FilComp}
use Rattle.fil_ast.specs.Tree.{component_tree, design_of}
use Rattle.fil_parse.specs.Layout.{component_text, fil_text}
use Rattle.fil_parse.specs.Spelling.{SpellsDesign}
use Rattle.fil_parse.proofs.Designs.{tree_written}
use Rattle.fil_parse.proofs.PrintLemmas.{design_put}
use Rattle.fil_parse.proofs.Shown.{design_shown}
use Rattle.fil_parse.proofs.print.print_fil.Goals as goal

pub returns-clause-text : goal.returns-clause-text
returns-clause-text c =
    c.in_ok-put_components.ensures
    ∙ ap (λ (t : Text). t ++ flat_map (λ comp. component_text (component_tree c.args.design.now.names comp) ++ codes "\n") c.deref.result.now) c.new-out.ensures.items
    ∙ ap (λ (comps : List FilComp). flat_map (λ comp. component_text (component_tree c.args.design.now.names comp) ++ codes "\n") comps) c.deref.ensures.value
    ∙ design_put c.args.design.now

pub returns-clause-spelled : goal.returns-clause-spelled
returns-clause-spelled c = λ other s.
    let text : c.put_components.new.out.items ≡ fil_text (design_of c.args.design.now) =
    c.in_ok-put_components.ensures
    ∙ ap (λ (t : Text). t ++ flat_map (λ comp. component_text (component_tree c.args.design.now.names comp) ++ codes "\n") c.deref.result.now) c.new-out.ensures.items
    ∙ ap (λ (comps : List FilComp). flat_map (λ comp. component_text (component_tree c.args.design.now.names comp) ++ codes "\n") comps) c.deref.ensures.value
    ∙ design_put c.args.design.now in
    subst (λ (t : List ℕ). SpellsDesign t (design_of c.args.design.now)) (sym text) (design_shown (design_of c.args.design.now) (tree_written other (design_of c.args.design.now) s))
