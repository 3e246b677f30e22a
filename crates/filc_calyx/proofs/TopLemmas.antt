-- The top component of a Calyx design: there is one, the first that is named main, or else the last.
use Rattle.std.proofs.Common.{◌≡◌, ℕ, ◌<◌, List, length, get_or, Some, codes, refl, sym, ap, ◌∙◌}
use Rattle.std.specs.Prelude.{Contains, slice_get, option_map}
use Rattle.std.proofs.lemmas.Option.{slice_get-get_or, slice_get-map, slice_get_read}
use Rattle.cal_ast.proofs.ListLemmas.{Contains-from_map}
use Rattle.cal_ast.specs.Naming.{component_names}
use Rattle.cal_ast.specs.Tree.{Component, Design, component_tree, design_of}
use Rattle.cal_ast.specs.declared.tree.CalComp.{CalComp}
use Rattle.cal_ast.specs.declared.tree.CalDesign.{CalDesign}

-- a component of the code as one of the design
pub comp_at : (d : CalDesign) (items : List CalComp) (n : ℕ) (comp : CalComp) → items ≡ d.comps.items → n < length items → comp ≡ get_or items n comp → slice_get (design_of d) n ≡ Some (component_tree d.names comp)
comp_at d items n comp same within is =
    slice_get-map (component_tree d.names) d.comps.items n
    ∙ ap (option_map (component_tree d.names)) (ap (λ (cs : List CalComp). slice_get cs n) (sym same) ∙ slice_get_read items (length items) n comp refl within is)

-- where no component is named main, no name is main
pub no_main : (design : Design) → ((m : ℕ) (d : Component) → m < length design → slice_get design m ≡ Some d → ¬ (d.name ≡ codes "main")) → ¬ Contains (component_names design) (codes "main")
no_main design none there =
    let found = Contains-from_map (λ (c : Component). c.name) design (codes "main") there in
    none found.1.0 found.0 found.1.1 (slice_get-get_or design found.1.0 found.0 found.1.1 ∙ ap Some found.1.2) found.2
