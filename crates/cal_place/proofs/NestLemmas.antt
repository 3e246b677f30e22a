-- Which components have cells of which, from what their cells are made of.
use Rattle.std.proofs.Common.{◌≡◌, ◌⊎◌, inl, inr, ℕ, suc, ◌<◌, Bool, true, false, List, [], ◌∷◌, map, take, slice_get, Contains, Option, Some, None, IfSome, option_and_then, refl, sym, ap, subst, ◌∙◌, arith}
use Rattle.std.specs.Prelude.{bytes_eq, find, if◌then◌else◌}
use Rattle.std.proofs.lemmas.Slice.Eq.{bytes_eq-Decides}
use Rattle.hw_names.specs.Name.{Text}
use Rattle.cal_ast.proofs.ListLemmas.{Contains-cases_first, Contains-none}
use Rattle.cal_ast.proofs.LookupLemmas.{component_named-Some, part_of-Some}
use Rattle.cal_ast.specs.Naming.{Involves, Itself, Over, component_names}
use Rattle.cal_ast.specs.Ports.{part_of}
use Rattle.cal_ast.specs.Tree.{CellDef, Component, Design}
use Rattle.cal_place.specs.FirstPlaces.{IsFirst}
use Rattle.cal_place.specs.Prototypes.{IsMadeOf, made_component}
use Rattle.cal_place.specs.Nesting.{HasPart, IsInside, ByCell}
use Rattle.cal_place.specs.Nesting as nests
use Rattle.cal_place.specs.declared.prototype.Prototype.{Prototype}
use Rattle.cal_place.specs.declared.prototype.Prototype.TheVariants as made
use Rattle.cal_place.proofs.FoundLemmas.{Contains-take, from_map, to_map}

-- a name has one first place
pub one_first : (list : List Text) (name : Text) (j k : ℕ) → IsFirst list name j → IsFirst list name k → j ≡ k
one_first list name j k at_j at_k =
    let below : j < k → ⊥ = λ less. at_k.new (Contains-take list j k name less at_j.here) in
    let above : k < j → ⊥ = λ less. at_j.new (Contains-take list k j name less at_k.here) in
    omega arith

-- a component that stands at the first place of a name has the name
pub first_named : (design : Design) (name : Text) (m : ℕ) (part : Component) → IsFirst (component_names design) name m → slice_get design m ≡ Some part → part.name ≡ name
first_named design name m part first at =
    let is = to_map (λ (c : Component). c.name) design m part at in
    let here = first.here in
    cc

module _ (design : Design) (n m : ℕ) (c : Component) (at : slice_get design n ≡ Some c) where
  -- a cell that is made of a component makes that a part
  pub part_from_cell : (cell : CellDef) → Contains c.cells cell → IsMadeOf design cell (Some (made.Component m)) → HasPart design n m
  part_from_cell cell has is =
      let there = from_map (λ (d : Component). d.name) design m cell.made is.first.here in
      record {
        c = c;
        at = at;
        cell = cell;
        has = has;
        part = there.0;
        made = is.part ∙ there.1;
        there = there.1;
        first = subst (λ t. IsFirst (component_names design) t m) (sym there.2) is.first;
      }

  -- a part comes from a cell that is made of it
  pub cell_from_part : (part : HasPart design n m) → (made : Option Prototype) → IsMadeOf design part.cell made → option_and_then made_component made ≡ Some m
  cell_from_part part made is = by (option_and_then made_component made) refl
    where
      named : part.part.name ≡ part.cell.made
      named = (component_named-Some design part.cell.made part.part (part_of-Some design part.cell part.part part.made).1).1

      by : (o : Option ℕ) → option_and_then made_component made ≡ o → option_and_then made_component made ≡ Some m
      by None e = let none = is.part ∙ ap (option_and_then (slice_get design)) e in let some = part.made in absurd (cc)
      by (Some k) e =
          let first : IsFirst (component_names design) part.cell.made k = subst (λ (o : Option ℕ). IfSome o (λ number. IsFirst (component_names design) part.cell.made number)) e is.first in
          let own = subst (λ t. IsFirst (component_names design) t m) named part.first in
          e ∙ ap Some (one_first (component_names design) part.cell.made k m first own)

-- what is found by a name stands at the first place of the name
find_place : {X : Type 0} (n : X → Text) (xs : List X) (name : Text) (x : X) → find (λ (y : X). bytes_eq (n y) name) xs ≡ Some x → (k : ℕ) × (slice_get xs k ≡ Some x) × IsFirst (map n xs) name k
find_place n [] name x e = absurd (cc)
find_place n (y ∷ ys) name x e = by (bytes_eq (n y) name) refl e (λ found. find_place n ys name x found)
  where
    by : (b : Bool) → bytes_eq (n y) name ≡ b → (if b then Some y else find (λ z. bytes_eq (n z) name) ys) ≡ Some x
        → (find (λ z. bytes_eq (n z) name) ys ≡ Some x → (k : ℕ) × (slice_get ys k ≡ Some x) × IsFirst (map n ys) name k) → (k : ℕ) × (slice_get (y ∷ ys) k ≡ Some x) × IsFirst (map n (y ∷ ys)) name k
    by true is found later =
        let named = (bytes_eq-Decides (n y) name).0 is in
        (0, found, record { here = ap Some named; new = λ has. Contains-none name has })
    by false is found later =
        let r = later found in (
          suc r.0,
          r.1,
          record {
            here = r.2.here;
            new = λ has. elim (Contains-cases_first (n y) (take r.0 (map n ys)) name has) [
              | inl same ↦ (let yes' = (bytes_eq-Decides (n y) name).1 same in absurd (cc))
              | inr there ↦ r.2.new there
            ];
          },
        )

-- a cell of a component that is made of a component makes it a part
part_of_cell : (design : Design) (m : ℕ) (c : Component) (cell : CellDef) (part : Component) → slice_get design m ≡ Some c → Contains c.cells cell → part_of design cell ≡ Some part
    → (k : ℕ) × (slice_get design k ≡ Some part) × IsFirst (component_names design) part.name k × HasPart design m k
part_of_cell design m c cell part at has made =
    let named = (part_of-Some design cell part made).1 in
    let r = find_place (λ (d : Component). d.name) design cell.made part named in
    let name = (component_named-Some design cell.made part named).1 in
    let first = subst (λ t. IsFirst (component_names design) t r.0) (sym name) r.2 in
    (r.0, r.1, first, record { c = c; at = at; cell = cell; has = has; part = part; made = made; there = r.1; first = first })

-- what a component reaches by name it is, or has inside, where the name is that of the first component of the name
module _ (design : Design) (name : Text) (n : ℕ) (first : IsFirst (component_names design) name n) where
  pub reaches_inside : (m : ℕ) (part : Component) → slice_get design m ≡ Some part → IsFirst (component_names design) part.name m → Involves design name part → (m ≡ n) ⊎ IsInside design m n
  reaches_inside m part at own (Itself c named) =
      inl (one_first (component_names design) name m n (subst (λ t. IsFirst (component_names design) t m) named own) first)
  reaches_inside m part at own (Over c inner cell has made rest) =
      let p = part_of_cell design m part cell inner at has made in
      elim (reaches_inside p.0 inner p.1 p.2 rest) [
        | inl same ↦ inr (ByCell m n (subst (λ k. HasPart design m k) same p.3))
        | inr inside ↦ inr (nests.Over m p.0 n p.3 inside)
      ]

  pub inside_reaches : (m : ℕ) (part : Component) → slice_get design m ≡ Some part → IsInside design m n → Involves design name part
  inside_reaches m part at (ByCell j k p) =
      let same : p.c ≡ part = (let e = p.at in cc) in
      let named : p.part.name ≡ name = (let e = p.first.here in let f = first.here in cc) in
      subst (λ c. Involves design name c) same (Over p.c p.part p.cell p.has p.made (Itself p.part named))
  inside_reaches m part at (nests.Over j between k p rest) =
      let same : p.c ≡ part = (let e = p.at in cc) in
      subst (λ c. Involves design name c) same (Over p.c p.part p.cell p.has p.made (inside_reaches between p.part p.there rest))
