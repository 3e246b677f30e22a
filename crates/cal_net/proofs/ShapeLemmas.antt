-- Where one design keeps the shape of another, its top and its instances are those of the other, but for instances in cells that are added.
use Rattle.std.proofs.Common.{◌≡◌, ◌⊎◌, ℕ, zero, suc, Bool, true, false, List, [], ◌∷◌, ◌++◌, codes, length, slice_get, Contains, Option, Some, None, refl, sym, ap, ap₂, subst, inl, inr, ◌∙◌}
use Rattle.std.specs.List.{AllZip}
use Rattle.std.specs.Prelude.{bytes_eq, if◌then◌else◌, option_and_then}
use Rattle.std.proofs.lemmas.List.Elements.{All-contains}
use Rattle.std.proofs.lemmas.Option.{none-some, same_Some}
use Rattle.hw_names.specs.Name.{Path, Text}
use Rattle.hw_prims.specs.Table.{is_primitive}
use Rattle.cal_ast.proofs.InstanceLemmas.{component_at-step}
use Rattle.cal_ast.proofs.ListLemmas.{Contains-here, Contains-there}
use Rattle.cal_ast.proofs.LookupLemmas.{cell_named-Some, part_in-Some}
use Rattle.cal_ast.specs.Instances.{component_at}
use Rattle.cal_ast.specs.Keeping.{IsAddedCell, KeepsComponentShape, KeepsShape}
use Rattle.cal_ast.specs.Naming.{IsReserved, component_names}
use Rattle.cal_ast.specs.Ports.{cell_named, component_named, part_in, part_of}
use Rattle.cal_ast.specs.Top.{IsTop}
use Rattle.cal_ast.specs.Tree.{CellDef, Component, Design}

-- ---- lists that agree place by place

module _ {X Y : Type 0} (R : X → Y → Type 0) where
  -- the element at the same place of the second list
  pub zip_right : (xs : List X) (ys : List Y) (n : ℕ) (x : X) → AllZip R xs ys → slice_get xs n ≡ Some x → (y : Y) × (slice_get ys n ≡ Some y) × R x y
  zip_right [] ys n x all at = absurd (none-some x at)
  zip_right (v ∷ xs) [] n x all at = absurd all
  zip_right (v ∷ xs) (w ∷ ys) zero x all at = (w, refl, (let Q : X → Type 0 = λ u. R u w in subst Q (same_Some v x at) all.0))
  zip_right (v ∷ xs) (w ∷ ys) (suc n) x all at = zip_right xs ys n x all.1 at

  -- and of the first
  pub zip_left : (xs : List X) (ys : List Y) (n : ℕ) (y : Y) → AllZip R xs ys → slice_get ys n ≡ Some y → (x : X) × (slice_get xs n ≡ Some x) × R x y
  zip_left [] [] n y all at = absurd (none-some y at)
  zip_left [] (w ∷ ys) n y all at = absurd all
  zip_left (v ∷ xs) [] n y all at = absurd all
  zip_left (v ∷ xs) (w ∷ ys) zero y all at = (v, refl, (let Q : Y → Type 0 = R v in subst Q (same_Some w y at) all.0))
  zip_left (v ∷ xs) (w ∷ ys) (suc n) y all at = zip_left xs ys n y all.1 at

  pub zip_length : (xs : List X) (ys : List Y) → AllZip R xs ys → length ys ≡ length xs
  zip_length [] [] all = refl
  zip_length [] (w ∷ ys) all = absurd all
  zip_length (v ∷ xs) [] all = absurd all
  zip_length (v ∷ xs) (w ∷ ys) all = ap suc (zip_length xs ys all.1)

-- a further relation of what stands at the same place
pub zip_also : {X Y : Type 0} (R Q : X → Y → Type 0) (xs : List X) (ys : List Y) → AllZip R xs ys → ((n : ℕ) (x : X) (y : Y) → slice_get xs n ≡ Some x → slice_get ys n ≡ Some y → Q x y) → AllZip (λ (x : X) (y : Y). R x y × Q x y) xs ys
zip_also R Q [] [] all each = tt
zip_also R Q [] (y ∷ ys) all each = absurd all
zip_also R Q (x ∷ xs) [] all each = absurd all
zip_also R Q (x ∷ xs) (y ∷ ys) all each = ((all.0, each 0 x y refl refl), zip_also R Q xs ys all.1 (λ n v w at at'. each (suc n) v w at at'))

-- ---- the top

names_kept : (source wires : Design) → KeepsShape source wires → component_names wires ≡ component_names source
names_kept [] [] shape = refl
names_kept [] (d ∷ ds) shape = absurd shape
names_kept (c ∷ cs) [] shape = absurd shape
names_kept (c ∷ cs) (d ∷ ds) shape = ap₂ ◌∷◌ shape.0.name (names_kept cs ds shape.1)

pub top_kept : (source wires : Design) → KeepsShape source wires → (n : ℕ) → IsTop wires n → IsTop source n
top_kept source wires shape n (inl (d, at, named, first)) =
    let c = zip_left KeepsComponentShape source wires n d shape at in
    inl (
      c.0,
      c.1,
      sym c.2.name ∙ named,
      λ m other less at_other is_main.
          let kept = zip_right KeepsComponentShape source wires m other shape at_other in
          first m kept.0 less kept.1 (kept.2.name ∙ is_main),
    )
top_kept source wires shape n (inr (none, last)) =
    inr ((λ has. none (subst (λ (names : List Text). Contains names (codes "main")) (sym (names_kept source wires shape)) has)), last ∙ zip_length KeepsComponentShape source wires shape)

-- ---- cells by their names

pub cell_named-front : (cells added : List CellDef) (name : Text) (cell : CellDef) → cell_named cells name ≡ Some cell → cell_named (cells ++ added) name ≡ Some cell
cell_named-front [] added name cell found = absurd (none-some cell found)
cell_named-front (x ∷ cells) added name cell found = by (bytes_eq x.name name) (cell_named-front cells added name cell) found
  where
    by : (b : Bool) → (cell_named cells name ≡ Some cell → cell_named (cells ++ added) name ≡ Some cell) → (if b then Some x else cell_named cells name) ≡ Some cell → (if b then Some x else cell_named (cells ++ added) name) ≡ Some cell
    by true later e = e
    by false later e = later e

pub cell_named-cases : (cells added : List CellDef) (name : Text) (cell : CellDef) → cell_named (cells ++ added) name ≡ Some cell → (cell_named cells name ≡ Some cell) ⊎ Contains added cell
cell_named-cases [] added name cell found = inr (cell_named-Some added name cell found).0
cell_named-cases (x ∷ cells) added name cell found = by (bytes_eq x.name name) (cell_named-cases cells added name cell) found
  where
    by : (b : Bool) → (cell_named (cells ++ added) name ≡ Some cell → (cell_named cells name ≡ Some cell) ⊎ Contains added cell) → (if b then Some x else cell_named (cells ++ added) name) ≡ Some cell → ((if b then Some x else cell_named cells name) ≡ Some cell) ⊎ Contains added cell
    by true later e = inl e
    by false later e = later e

-- ---- components by their names

-- designs of components that pair off, each of which keeps the shape of the other
module _ (R : Component → Component → Type 0) (keeps : (c d : Component) → R c d → KeepsComponentShape c d) where
  -- none is found in both designs, or a component in each, and these are a pair
  abbrev pub ArePaired : Option Component → Option Component → Type 0
  ArePaired None None = Unit {0}
  ArePaired None (Some d) = ⊥
  ArePaired (Some c) None = ⊥
  ArePaired (Some c) (Some d) = R c d

  pub paired_right : (o p : Option Component) (c : Component) → ArePaired o p → o ≡ Some c → (d : Component) × (p ≡ Some d) × R c d
  paired_right None p c are found = absurd (none-some c found)
  paired_right (Some x) None c are found = absurd are
  paired_right (Some x) (Some d) c are found = (d, refl, subst (λ (z : Component). R z d) (same_Some x c found) are)

  pub paired_left : (o p : Option Component) (d : Component) → ArePaired o p → p ≡ Some d → (c : Component) × (o ≡ Some c) × R c d
  paired_left None None d are found = absurd (none-some d found)
  paired_left None (Some y) d are found = absurd are
  paired_left (Some c) None d are found = absurd are
  paired_left (Some c) (Some y) d are found = (c, refl, subst (R c) (same_Some y d found) are)

  components_paired : (source wires : Design) → AllZip R source wires → (name : Text) → ArePaired (component_named source name) (component_named wires name)
  components_paired [] [] pairs name = tt
  components_paired [] (d ∷ ds) pairs name = absurd pairs
  components_paired (c ∷ cs) [] pairs name = absurd pairs
  components_paired (c ∷ cs) (d ∷ ds) pairs name =
      subst (λ (x : Text). ArePaired (component_named (c ∷ cs) name) (if bytes_eq x name then Some d else component_named ds name)) (sym (keeps c d pairs.0).name)
      (by (bytes_eq c.name name) (components_paired cs ds pairs.1 name))
    where
      by : (b : Bool) → ArePaired (component_named cs name) (component_named ds name) → ArePaired (if b then Some c else component_named cs name) (if b then Some d else component_named ds name)
      by true later = pairs.0
      by false later = later

  module _ (source wires : Design) (pairs : AllZip R source wires) where
    pub parts_paired : (cell : CellDef) → ArePaired (part_of source cell) (part_of wires cell)
    parts_paired cell = by (is_primitive cell.made)
      where
        by : (b : Bool) → ArePaired (if b then None else component_named source cell.made) (if b then None else component_named wires cell.made)
        by true = tt
        by false = components_paired source wires pairs cell.made

    -- what stands at a path of the source stands there, and is its pair
    pub instance_paired : (path : Path) (c d e : Component) → R c d → component_at source c path ≡ Some e → (f : Component) × (component_at wires d path ≡ Some f) × R e f
    instance_paired [] c d e is at = (d, refl, subst (λ (x : Component). R x d) (same_Some c e at) is)
    instance_paired (cell ∷ path) c d e is at =
        let shape = keeps c d is in
        let part = component_at-step source c cell path e at in
        let found = part_in-Some source c cell part.0 part.1 in
        let other = paired_right (part_of source found.0) (part_of wires found.0) part.0 (parts_paired found.0) found.2 in
        let at_other : part_in wires d cell ≡ Some other.0
        = ap (λ (cells : List CellDef). option_and_then (part_of wires) (cell_named cells cell)) shape.cells
        ∙ ap (option_and_then (part_of wires)) (cell_named-front c.cells shape.added cell found.0 found.1) ∙ other.1 in
        let rest = instance_paired path part.0 other.0 e other.2 part.2 in
        (rest.0, ap (option_and_then (λ (x : Component). component_at wires x path)) at_other ∙ rest.1, rest.2)

-- none is found in both designs, or a component in each, of which the second keeps the shape of the first
abbrev pub AreFound : Option Component → Option Component → Type 0
AreFound = ArePaired KeepsComponentShape (λ c d is. is)

-- ---- instances by their paths

module _ (source wires : Design) (shape : KeepsShape source wires) where
  pub parts_found : (cell : CellDef) → AreFound (part_of source cell) (part_of wires cell)
  parts_found = parts_paired KeepsComponentShape (λ c d is. is) source wires shape

  -- what stands at a path of the source stands there
  pub instance_kept : (path : Path) (c d e : Component) → KeepsComponentShape c d → component_at source c path ≡ Some e → (f : Component) × (component_at wires d path ≡ Some f) × KeepsComponentShape e f
  instance_kept = instance_paired KeepsComponentShape (λ c d is. is) source wires shape

  -- a component of the source stands at the path below this one, and the found one keeps its shape
  pub record IsFromSource (c : Component) (path : Path) (found : Component) : Type 0 where
    pub e : Component
    pub at : component_at source c path ≡ Some e
    pub keeps : KeepsComponentShape e found

  -- one of the names of the path is one that lowering makes
  pub record HasReserved (path : Path) : Type 0 where
    pub segment : Text
    pub among : Contains path segment
    pub reserved : IsReserved segment

  -- what stands at a path is one of the source, or in a cell that is added
  pub instance_back : (path : Path) (c d f : Component) → KeepsComponentShape c d → component_at wires d path ≡ Some f → IsFromSource c path f ⊎ HasReserved path
  instance_back [] c d f is at = inl (record { e = c; at = refl; keeps = subst (KeepsComponentShape c) (same_Some d f at) is })
  instance_back (cell ∷ path) c d f is at =
      let part = component_at-step wires d cell path f at in
      let found = part_in-Some wires d cell part.0 part.1 in
      elim (cell_named-cases c.cells is.added cell found.0 (subst (λ (cells : List CellDef). cell_named cells cell ≡ Some found.0) is.cells found.1)) [
        | inl own ↦
            let other = paired_left KeepsComponentShape (λ c d is. is) (part_of source found.0) (part_of wires found.0) part.0 (parts_found found.0) found.2 in
            elim (instance_back path other.0 part.0 f other.2 part.2) [
              | inl from ↦ inl (record {
                e = from.e;
                at = ap (option_and_then (λ (x : Component). component_at source x path)) (ap (option_and_then (part_of source)) own ∙ other.1) ∙ from.at;
                keeps = from.keeps;
              })
              | inr has ↦ inr (record { segment = has.segment; among = Contains-there cell path has.segment has.among; reserved = has.reserved })
            ]
        | inr added ↦ inr (record {
          segment = cell;
          among = Contains-here cell path;
          reserved = subst IsReserved (cell_named-Some d.cells cell found.0 found.1).1 (All-contains IsAddedCell is.added found.0 is.are_added added).named;
        })
      ]
