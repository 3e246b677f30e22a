-- The top component of a design is one.
use Rattle.std.proofs.Common.{◌≡◌, ◌≢◌, ℕ, ◌+◌, ◌-◌, ◌<◌, ◌≤◌, List, [], ◌∷◌, codes, length, map, get_or, Some, refl, sym, ap, subst, ◌∙◌, arith, inl, inr, ⊎_elim}
use Rattle.std.specs.Prelude.{Contains, slice_get, option_map}
use Rattle.std.proofs.lemmas.Bool.{cases_lt}
use Rattle.std.proofs.lemmas.List.{length-map, get_or-map}
use Rattle.std.proofs.lemmas.Option.{slice_get-map, slice_get-get_or, slice_get_within}
use Rattle.hw_names.proofs.NameLemmas.{Contains-slice_get}
use Rattle.hw_names.specs.Name.{Text, text_of}
use Rattle.fil_ast.specs.Naming.{component_names}
use Rattle.fil_ast.specs.Top.{IsTop}
use Rattle.fil_ast.specs.Tree.{Component, Design, component_tree, design_of}
use Rattle.fil_ast.specs.declared.tree.FilComp.{FilComp}
use Rattle.fil_ast.specs.declared.tree.FilDesign.{FilDesign}
use Rattle.filc_load.specs.FilFile.{HasTop}

-- no component before number n is named main
abbrev pub HasNoMainBefore : Design → ℕ → Type 0
HasNoMainBefore design n = (m : ℕ) (c : Component) → m < n → slice_get design m ≡ Some c → ¬ (c.name ≡ codes "main")

some_component : Component
some_component = record { name = []; events = []; interfaces = []; ins = []; outs = []; body = [] }

-- a component's name is among those of the design
named_in : (design : Design) (n : ℕ) (c : Component) → slice_get design n ≡ Some c → Contains (component_names design) c.name
named_in design n c at =
    Contains-slice_get (component_names design) n c.name (slice_get-map (λ (d : Component). d.name) design n ∙ ap (option_map (λ (d : Component). d.name)) at)

-- two numbers of the top component are one
pub one_number : (design : Design) (m n : ℕ) → IsTop design m → IsTop design n → m ≡ n
one_number design m n first second =
    ⊎_elim
    (λ main. ⊎_elim
    (λ main'. ⊎_elim
    (λ early. absurd (main'.3 m main.0 early main.1 main.2))
    (λ late. ⊎_elim (λ before. absurd (main.3 n main'.0 before main'.1 main'.2)) (λ same. omega (arith, late, same)) (cases_lt n m))
    (cases_lt m n))
    (λ last. absurd (last.0 (subst (Contains (component_names design)) main.2 (named_in design m main.0 main.1)))) second)
    (λ last. ⊎_elim
    (λ main. absurd (last.0 (subst (Contains (component_names design)) main.2 (named_in design n main.0 main.1))))
    (λ last'. omega (arith, last.1, last'.1)) second) first

-- two top components are one
pub one_top : (design : Design) (m n : ℕ) (c d : Component) → HasTop design m c → HasTop design n d → c ≡ d
one_top design m n c d first second =
    let same : Some c ≡ Some d = sym first.at ∙ ap (slice_get design) (one_number design m n first.is_top second.is_top) ∙ second.at in cc same

-- the top component is one of the design
pub has_top : (design : Design) (n : ℕ) → IsTop design n → (top : Component) × HasTop design n top
has_top design n is =
    ⊎_elim (λ main. (main.0, record { is_top = is; at = main.1 }))
    (λ last. (get_or design n some_component, record { is_top = is; at = slice_get-get_or design n some_component (omega (arith, last.1)) })) is

pub top_within : (design : Design) (n : ℕ) → IsTop design n → n < length design
top_within design n is = slice_get_within design n (has_top design n is).0 (has_top design n is).1.at

-- a component by its number
tree_at : (d : FilDesign) (n : ℕ) (c : FilComp) → n < length d.comps.items → slice_get (design_of d) n ≡ Some (component_tree d.names (get_or d.comps.items n c))
tree_at d n c within =
    slice_get-map (component_tree d.names) d.comps.items n ∙ ap (option_map (component_tree d.names)) (slice_get-get_or d.comps.items n c within)

-- the first component that is named main
pub top_main : (d : FilDesign) (n : ℕ) (c : FilComp) → n < length d.comps.items → HasNoMainBefore (design_of d) n → text_of d.names (get_or d.comps.items n c).name ≡ codes "main" → IsTop (design_of d) n
top_main d n c within none named = inl (component_tree d.names (get_or d.comps.items n c), tree_at d n c within, named, none)

pub no_main_more : (d : FilDesign) (n : ℕ) (c : FilComp) → n < length d.comps.items → HasNoMainBefore (design_of d) n → ¬ (text_of d.names (get_or d.comps.items n c).name ≡ codes "main") → HasNoMainBefore (design_of d) (n + 1)
no_main_more d n c within none other = λ m e before at.
    ⊎_elim (λ early. none m e early at)
    (λ late.
    let same : m ≡ n = omega (arith, before, late) in
    let tree : Some e ≡ Some (component_tree d.names (get_or d.comps.items n c)) = sym at ∙ ap (slice_get (design_of d)) same ∙ tree_at d n c within in
    let name : e.name ≡ text_of d.names (get_or d.comps.items n c).name = cc tree in
    λ named. other (sym name ∙ named)) (cases_lt m n)

some_trees : (names : List Text) (comps : List FilComp) → map (component_tree names) comps ≢ [] → 1 ≤ length comps
some_trees names [] some = absurd (some refl)
some_trees names (c ∷ comps) some = omega arith

pub some_comps : (d : FilDesign) → design_of d ≢ [] → 1 ≤ length d.comps.items
some_comps d some = some_trees d.names d.comps.items some

-- the last component, where none is named main
pub top_last : (d : FilDesign) (n : ℕ) → design_of d ≢ [] → HasNoMainBefore (design_of d) n → length d.comps.items ≤ n → IsTop (design_of d) (length d.comps.items - 1)
top_last d n some none all =
    let design = design_of d in
    let long : length design ≡ length d.comps.items = length-map d.comps.items (component_tree d.names) in
    inr (
      λ has.
          let within : has.0 < length design = omega (arith, has.1, length-map design (λ (c : Component). c.name)) in
          none has.0 (get_or design has.0 some_component) (omega (arith, within, long, all)) (slice_get-get_or design has.0 some_component within)
          (sym (get_or-map (λ (c : Component). c.name) design has.0 some_component (codes "main") within) ∙ has.2),
      omega (arith, long, some_comps d some),
    )
