-- Instances and their paths: each is of a component of the design, and each but the top has a parent.
use Rattle.std.proofs.Common.{◌≡◌, ◌≢◌, [], ◌∷◌, ◌++◌, Option, Some, None, refl, ap, ◌∙◌, subst}
use Rattle.std.specs.Prelude.{Contains, option_and_then}
use Rattle.std.proofs.lemmas.List.Elements.{All-nil, All-cons, All-contains}
use Rattle.hw_names.specs.Name.{Text, Path, IsPlain, IsPlainPath}
use Rattle.cal_ast.proofs.LookupLemmas.{cell_named-Some, part_in-Some, part_in-design, and_then-Some}
use Rattle.cal_ast.specs.Instances.{component_at}
use Rattle.cal_ast.specs.Plain.{IsPlainCell, IsPlainComponent, HasPlainTree}
use Rattle.cal_ast.specs.Ports.{cell_named, part_in}
use Rattle.cal_ast.specs.Tree.{CellDef, Component, Design}

-- the cell by which a path goes on, and the rest
pub component_at-step : (design : Design) (c : Component) (cell : Text) (path : Path) (d : Component) → component_at design c (cell ∷ path) ≡ Some d → (part : Component) × (part_in design c cell ≡ Some part) × (component_at design part path ≡ Some d)
component_at-step design c cell path d at = and_then-Some (λ (part : Component). component_at design part path) (part_in design c cell) d at

-- an instance's component is one of the design
pub component_at-design : (design : Design) (c : Component) (path : Path) (d : Component) → Contains design c → component_at design c path ≡ Some d → Contains design d
component_at-design design c [] d has at = let is : c ≡ d = cc in subst (λ x. Contains design x) is has
component_at-design design c (cell ∷ path) d has at =
    let part = component_at-step design c cell path d at in
    component_at-design design part.0 path d (part_in-design design c cell part.0 part.1) part.2

and_then-itself : {X : Type 0} (o : Option X) → option_and_then (λ x. Some x) o ≡ o
and_then-itself None = refl
and_then-itself (Some x) = refl

-- the instance below an instance
pub component_at-below : (design : Design) (c : Component) (path : Path) (d : Component) (cell : Text) → component_at design c path ≡ Some d → component_at design c (path ++ cell ∷ []) ≡ part_in design d cell
component_at-below design c [] d cell at =
    let is : c ≡ d = cc in
    and_then-itself (part_in design c cell) ∙ ap (λ x. part_in design x cell) is
component_at-below design c (s ∷ path) d cell at =
    let part = component_at-step design c s path d at in
    ap (option_and_then (λ x. component_at design x (path ++ cell ∷ []))) part.1 ∙ component_at-below design part.0 path d cell part.2

-- the instance and the cell of it that an instance is
pub record HasParent (design : Design) (top : Component) (path : Path) (c : Component) : Type 0 where
  pub above : Path
  pub cell : Text
  pub ends : path ≡ above ++ cell ∷ []
  pub parent : Component
  pub at : component_at design top above ≡ Some parent
  pub part : part_in design parent cell ≡ Some c

-- each instance but the top has a parent
pub parent_of : (design : Design) (top : Component) (path : Path) (c : Component) → path ≢ [] → component_at design top path ≡ Some c → HasParent design top path c
parent_of design top [] c below at = absurd (below refl)
parent_of design top (s ∷ []) c below at =
    let part = component_at-step design top s [] c at in
    record { above = []; cell = s; ends = refl; parent = top; at = refl; part = part.1 ∙ part.2 }
parent_of design top (s ∷ r ∷ path) c below at =
    let part = component_at-step design top s (r ∷ path) c at in
    let up = parent_of design part.0 (r ∷ path) c (λ e. cc) part.2 in
    record {
      above = s ∷ up.above;
      cell = up.cell;
      ends = ap (λ p. s ∷ p) up.ends;
      parent = up.parent;
      at = ap (option_and_then (λ x. component_at design x up.above)) part.1 ∙ up.at;
      part = up.part;
    }

-- a cell that is found has a plain name
pub plain_cell : (c : Component) (name : Text) (cell : CellDef) → IsPlainComponent c → cell_named c.cells name ≡ Some cell → IsPlain name
plain_cell c name cell plain found =
    let r = cell_named-Some c.cells name cell found in
    subst IsPlain r.1 (All-contains IsPlainCell c.cells cell plain.cells r.0)

-- the path of an instance is plain
pub plain_path : (design : Design) (c : Component) (path : Path) (d : Component) → HasPlainTree design → Contains design c → component_at design c path ≡ Some d → IsPlainPath path
plain_path design c [] d plain has at = All-nil IsPlain
plain_path design c (cell ∷ path) d plain has at =
    let part = component_at-step design c cell path d at in
    let found = part_in-Some design c cell part.0 part.1 in
    All-cons IsPlain cell path (plain_cell c cell found.0 (All-contains IsPlainComponent design c plain has) found.1)
    (plain_path design part.0 path d plain (part_in-design design c cell part.0 part.1) part.2)
