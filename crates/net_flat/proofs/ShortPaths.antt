-- No component reaches itself, so a path has fewer names than the design has components.
use Rattle.std.proofs.Common.{◌≡◌, ◌≢◌, suc, ◌<◌, List, [], ◌∷◌, length, AllPairs, Contains, Option, Some, None, option_and_then, true, cond, refl, sym, ap, subst, ◌∙◌, inl, inr, ◌⊎◌, arith}
use Rattle.std.proofs.lemmas.List.{length-map}
use Rattle.std.proofs.lemmas.List.Elements.{All-nil}
use Rattle.std.proofs.lemmas.List.Kept.{AllPairs-cons}
use Rattle.hw_names.specs.Name.{Text, Path}
use Rattle.hw_prims.specs.Table.{is_primitive}
use Rattle.net_flat.proofs.KeptLemmas.{known_cell}
use Rattle.cal_ast.proofs.ListLemmas.{Contains-map, Contains-none, Contains-cases_first}
use Rattle.cal_ast.proofs.LookupLemmas.{part_in-design}
use Rattle.cal_ast.specs.Instances.{component_at}
use Rattle.cal_ast.specs.Naming.{IsKnownCell, Involves, Itself, Over, component_names}
use Rattle.cal_ast.specs.Ports.{component_named, part_in, part_of}
use Rattle.cal_ast.specs.Rules.{KeepsRules}
use Rattle.cal_ast.specs.Tree.{CellDef, Component, Design}
use Rattle.net_flat.proofs.LevelLemmas.{part_cell}
use Rattle.net_flat.proofs.ListFacts.{All-from_Contains, AllPairs-none, no_more_than}

-- the names of the components along a path
pub record Along (design : Design) (c : Component) (path : Path) : Type 0 where
  pub names : List Text
  pub count : length names ≡ suc (length path)
  pub distinct : AllPairs (λ a b. a ≢ b) names
  pub within : (name : Text) → Contains names name → Contains (component_names design) name
  pub reached : (name : Text) → Contains names name → Involves design name c

module _ (design : Design) (keeps : KeepsRules design) where
  -- a part is a component that doesn't reach the one that it is in
  no_way_back : (c part : Component) (cell : CellDef) → Contains design c → Contains c.cells cell → part_of design cell ≡ Some part → ¬ Involves design c.name part
  no_way_back c part cell there at made = by (known_cell design keeps c there cell at)
    where
      no_part : is_primitive cell.made ≡ true → ⊥
      no_part is =
          let f : cond (is_primitive cell.made) None (component_named design cell.made) ≡ Some part = made in
          let g : None ≡ Some part = rw is at f in
          cc

      by : IsKnownCell design c cell → ¬ Involves design c.name part
      by (inl is) = absurd (no_part is)
      by (inr (other, same, none)) =
          let e : other ≡ part = let f : Some other ≡ Some part = sym same ∙ made in cc in
          subst (λ (d : Component). ¬ Involves design c.name d) e none

  own_name : (c : Component) → Contains design c → Contains (component_names design) c.name
  own_name c there = Contains-map (λ (d : Component). d.name) design c there

  along : (path : Path) (c d : Component) → Contains design c → component_at design c path ≡ Some d → Along design c path
  along [] c d there e =
      record {
        names = c.name ∷ [];
        count = refl;
        distinct = AllPairs-cons (λ a b. a ≢ b) c.name [] (All-nil (λ b. c.name ≢ b)) (AllPairs-none (λ a b. a ≢ b));
        within = λ name h. by (λ n. Contains (component_names design) n) (own_name c there) name (Contains-cases_first c.name [] name h);
        reached = λ name h. by (λ n. Involves design n c) (Itself c refl) name (Contains-cases_first c.name [] name h);
      }
    where
      by : (P : Text → Type 0) → P c.name → (name : Text) → (c.name ≡ name) ⊎ Contains [] name → P name
      by P p name (inl same) = subst P same p
      by P p name (inr h) = absurd (Contains-none name h)
  along (cell ∷ path) c d there e = by (λ part. along path part d) (part_in design c cell) refl e
    where
      one : (P : Text → Type 0) (names : List Text) → P c.name → ((name : Text) → Contains names name → P name) → (name : Text) → (c.name ≡ name) ⊎ Contains names name → P name
      one P names here later name (inl same) = subst P same here
      one P names here later name (inr h) = later name h

      more : (part : Component) → part_in design c cell ≡ Some part → (Contains design part → Along design part path) → Along design c (cell ∷ path)
      more part is under =
          let found = part_cell design c cell part is in
          let rest = under (part_in-design design c cell part is) in
          let back = no_way_back c part found.0 there found.1 found.3 in
          record {
            names = c.name ∷ rest.names;
            count = ap suc rest.count;
            distinct =
                AllPairs-cons (λ a b. a ≢ b) c.name rest.names
                (All-from_Contains (λ b. c.name ≢ b) rest.names (λ name h. λ same. back (subst (λ (n : Text). Involves design n part) (sym same) (rest.reached name h))))
                rest.distinct;
            within = λ name h. one (λ n. Contains (component_names design) n) rest.names (own_name c there) rest.within name (Contains-cases_first c.name rest.names name h);
            reached =
                λ name h. one (λ n. Involves design n c) rest.names (Itself c refl) (λ n there_too. Over c part found.0 found.1 found.3 (rest.reached n there_too)) name
                (Contains-cases_first c.name rest.names name h);
          }

      by : ((part : Component) → Contains design part → component_at design part path ≡ Some d → Along design part path)
          → (found : Option Component) → part_in design c cell ≡ found → option_and_then (λ part. component_at design part path) found ≡ Some d → Along design c (cell ∷ path)
      by rest None is under = cc
      by rest (Some part) is under = more part is (λ in_design. rest part in_design under)

  -- a path has fewer names than there are components
  pub short_path : (path : Path) (c d : Component) → Contains design c → component_at design c path ≡ Some d → length path < length design
  short_path path c d there e =
      let names = along path c d there e in
      let few = no_more_than names.names (component_names design) names.distinct names.within in
      omega (arith, few, names.count, length-map design (λ (x : Component). x.name))
