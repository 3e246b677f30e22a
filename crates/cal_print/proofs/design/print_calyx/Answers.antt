use Rattle.std.proofs.Common.{ℕ, List, ◌++◌, ◌∙◌, ap, sym, subst}
use Rattle.std.specs.List.{flat_map}
use Rattle.hw_names.specs.Name.{Text}
use Rattle.cal_ast.specs.declared.tree.CalComp.{CalComp}
use Rattle.cal_ast.specs.Tree.{component_tree, design_of}
use Rattle.cal_parse.specs.Spelling.{SpellsDesign}
use Rattle.cal_parse.proofs.Designs.{tree_written}
use Rattle.cal_print.specs.Layout.{component_text}
use Rattle.cal_print.proofs.Sections.{design_put}
use Rattle.cal_print.proofs.Shown.{design_shown}
use Rattle.cal_print.proofs.design.print_calyx.Goals as goal

pub returns-clause-text : goal.returns-clause-text
returns-clause-text c =
    let names : List Text = c.args.design.now.names in
    c.in_ok-put_components.ensures
    ∙ ap (λ (t : Text). t ++ flat_map (λ comp. component_text (component_tree names comp)) c.deref.result.now) c.new-out.ensures.items
    ∙ ap (λ (comps : List CalComp). flat_map (λ comp. component_text (component_tree names comp)) comps) c.deref.ensures.value
    ∙ design_put c.args.design.now

pub returns-clause-spelled : goal.returns-clause-spelled
returns-clause-spelled c = λ other s.
    let design = design_of c.args.design.now in
    subst (λ (t : List ℕ). SpellsDesign t design) (sym (returns-clause-text c)) (design_shown design (tree_written other design s))
