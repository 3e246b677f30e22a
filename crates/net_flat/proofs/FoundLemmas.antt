-- Instances as code finds them.
use Rattle.std.proofs.Common.{◌≡◌, ℕ, zero, suc, ◌+◌, ◌<◌, ◌≤◌, List, [], ◌∷◌, ◌++◌, length, map, get_or, take, drop, Option, Some, None, option_map, add-one, refl, sym, ap, ap₂, ◌∙◌, arith}
use Rattle.std.specs.List.{cons_option}
use Rattle.std.proofs.lemmas.List.{append-nil, length-map, map-append, take_all}
use Rattle.std.proofs.lemmas.List.Elements.{All-append, All-nil, All-push}
use Rattle.hw_names.specs.Name.{Text, Path, dot, text_of}
use Rattle.cal_ast.specs.Numbers.{ComponentHasNumbers}
use Rattle.cal_ast.specs.Ports.{part_of}
use Rattle.cal_ast.specs.Tree.{Component, cell_tree, component_tree, design_of}
use Rattle.cal_ast.specs.declared.tree.CalCell.{CalCell}
use Rattle.cal_ast.specs.declared.tree.CalDesign.{CalDesign}
use Rattle.net_flat.specs.inside.Levels.{Part, below, parts_in}
use Rattle.net_flat.specs.Listing as listing
use Rattle.net_flat.specs.inside.Placed.{AreInstances, InstanceHasNumbers, Scope, prefix_of, scope_in, scope_of}
use Rattle.net_flat.specs.declared.instances.Instance.{Instance}
use Rattle.net_flat.proofs.TextLemmas.{prefix_of-last}

module _ (d : CalDesign) (path : Path) (cell : CalCell) (trees : List listing.Instance) (so_far : List Instance) (h : AreInstances d.names trees so_far) where
  abbrev after : Option Component → List listing.Instance
  after found = trees ++ map (below path) (cons_option (option_map (λ (part : Component). let p : Part = (text_of d.names cell.name, part) in p) found) [])

  -- a cell of a primitive makes no instance
  pub child_none : part_of (design_of d) (cell_tree d.names cell) ≡ None → AreInstances d.names (trees ++ map (below path) (parts_in (design_of d) (cell_tree d.names cell ∷ []))) so_far
  child_none none = record { numbers = h.numbers; scopes = h.scopes ∙ ap (map scope_of) (sym (ap after none ∙ append-nil trees)) }

  -- a cell of a component makes one
  pub child_some : (i : Instance) → ComponentHasNumbers d.names i.comp.now → i.prefix.items ≡ prefix_of path ++ text_of d.names cell.name ++ dot ∷ []
      → part_of (design_of d) (cell_tree d.names cell) ≡ Some (component_tree d.names i.comp.now)
      → AreInstances d.names (trees ++ map (below path) (parts_in (design_of d) (cell_tree d.names cell ∷ []))) (so_far ++ i ∷ [])
  child_some i numbers longer some =
      let name = text_of d.names cell.name in
      let tree = component_tree d.names i.comp.now in
      let child = below path (name, tree) in
      let is : scope_in d.names i ≡ scope_of child = ap (λ (p : Text). let s : Scope = (p, tree) in s) (longer ∙ sym (prefix_of-last path name)) in
      record {
        numbers = All-push (InstanceHasNumbers d.names) so_far i h.numbers numbers;
        scopes =
            map-append (scope_in d.names) so_far (i ∷ []) ∙ ap₂ (λ (js : List Scope) (j : Scope). js ++ j ∷ []) h.scopes is
            ∙ sym (map-append scope_of trees (child ∷ [])) ∙ ap (map scope_of) (sym (ap after some));
      }

-- more instances
pub instances_append : (names : List Text) (js ks : List listing.Instance) (is more : List Instance) → AreInstances names js is → AreInstances names ks more → AreInstances names (js ++ ks) (is ++ more)
instances_append names js ks is more h k =
    record {
      numbers = All-append (InstanceHasNumbers names) is more h.numbers k.numbers;
      scopes = map-append (scope_in names) is more ∙ ap₂ ◌++◌ h.scopes k.scopes ∙ sym (map-append scope_of js ks);
    }

pub instances_none : (names : List Text) → AreInstances names [] []
instances_none names = record { numbers = All-nil (InstanceHasNumbers names); scopes = refl }

-- the top alone
pub top_alone : (names : List Text) (i : Instance) → i.prefix.items ≡ [] → ComponentHasNumbers names i.comp.now → AreInstances names (([], component_tree names i.comp.now) ∷ []) (i ∷ [])
top_alone names i none numbers =
    record {
      numbers = All-push (InstanceHasNumbers names) [] i (All-nil (InstanceHasNumbers names)) numbers;
      scopes = ap (λ (p : Text). let s : Scope = (p, component_tree names i.comp.now) in s ∷ []) none;
    }

-- all but the first
pub instances_rest : (names : List Text) (j : listing.Instance) (js : List listing.Instance) (is : List Instance) → AreInstances names (j ∷ js) is → AreInstances names js (drop 1 is)
instances_rest names j js [] h = let bad = ap length h.scopes in absurd (omega (arith, bad))
instances_rest names j js (i ∷ is) h =
    let scopes : map (scope_in names) is ≡ map scope_of js = let both = h.scopes in cc in
    record { numbers = λ k d within. h.numbers (suc k) d (omega (arith, within)); scopes = scopes }

pub same_length : (names : List Text) (js : List listing.Instance) (is : List Instance) → AreInstances names js is → length is ≡ length js
same_length names js is h = sym (length-map is (scope_in names)) ∙ ap length h.scopes ∙ length-map js scope_of

-- elements at one place of lists that have the same images
module _ {X Y S : Type 0} (f : X → S) (g : Y → S) where
  same_at : (xs : List X) (ys : List Y) (k : ℕ) (x : X) → map f xs ≡ map g ys → k < length xs → x ≡ get_or xs k x → (y : Y) × (f x ≡ g y) × (take (suc k) ys ≡ take k ys ++ y ∷ [])
  same_at [] ys k x same within is = absurd (omega (arith, within))
  same_at (a ∷ xs) [] k x same within is = absurd (cc)
  same_at (a ∷ xs) (b ∷ ys) zero x same within is =
      let heads : f a ≡ g b = cc in
      (b, ap f is ∙ heads, refl)
  same_at (a ∷ xs) (b ∷ ys) (suc k) x same within is =
      let tails : map f xs ≡ map g ys = cc in
      let rest = same_at xs ys k x tails (omega (arith, within)) is in
      (rest.0, rest.1, ap (λ zs. b ∷ zs) rest.2)

-- the instance that one of the code stands for, after those before it
pub record IsNext (names : List Text) (listed : List listing.Instance) (k : ℕ) (i : Instance) : Type 0 where
  pub path : Path
  pub prefix : i.prefix.items ≡ prefix_of path
  pub more : take (k + 1) listed ≡ take k listed ++ (path, component_tree names i.comp.now) ∷ []

pub next_instance : (names : List Text) (listed : List listing.Instance) (is : List Instance) (k : ℕ) (i : Instance) → AreInstances names listed is → k < length is → i ≡ get_or is k i → IsNext names listed k i
next_instance names listed is k i h within at =
    let same = same_at (scope_in names) scope_of is listed k i h.scopes within at in
    let comp : component_tree names i.comp.now ≡ same.0.1 = ap (λ (s : Scope). s.1) same.1 in
    record {
      path = same.0.0;
      prefix = ap (λ (s : Scope). s.0) same.1;
      more = rw add-one (same.2 ∙ ap (λ (c : Component). let j : listing.Instance = (same.0.0, c) in take k listed ++ j ∷ []) (sym comp));
    }

-- at the end all have been gone over
pub all_listed : (names : List Text) (listed : List listing.Instance) (is : List Instance) (k : ℕ) → AreInstances names listed is → length is ≤ k → take k listed ≡ listed
all_listed names listed is k h end = take_all k listed (omega (arith, end, same_length names listed is h))
