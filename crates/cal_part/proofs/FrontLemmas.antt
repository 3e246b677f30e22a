-- Components with others after them: a name that means one of them still does, so their rules and hierarchies stay.
use Rattle.std.proofs.Common.{◌≡◌, ◌⊎◌, inl, inr, ℕ, zero, suc, ◌+◌, [], ◌∷◌, ◌++◌, length, take, Bool, true, false, if◌then◌else◌, Option, Some, None, refl, sym, ap, ◌∙◌, subst, arith}
use Rattle.std.specs.Prelude.{Contains, bytes_eq, option_and_then, slice_get}
use Rattle.std.proofs.Math.Seq.{take-append-add}
use Rattle.std.proofs.lemmas.List.{take-append-le}
use Rattle.std.proofs.lemmas.List.Elements.{Contains-append_cases}
use Rattle.std.proofs.lemmas.Option.{slice_get_within}
use Rattle.hw_names.specs.Name.{Text, Path}
use Rattle.cal_ast.proofs.ItemLemmas.{known_cell}
use Rattle.cal_ast.proofs.ListLemmas.{place_of, Contains-at}
use Rattle.cal_ast.proofs.LookupLemmas.{cell_named-Some, component_named-Some, part_in-design, part_of-Some}
use Rattle.cal_ast.specs.Instances.{component_at}
use Rattle.cal_ast.specs.Naming.{GroupNaming, Unreserved, IsKnownCell, Involves, Itself, Over}
use Rattle.cal_ast.specs.Ports.{cell_named, component_named, part_in, part_of}
use Rattle.cal_ast.specs.Rules.{KeepsComponent, KeepsRules, KeepsRulesUnder, HasNoLoops}
use Rattle.cal_ast.specs.Tree.{CellDef, Component, Design}
use Rattle.cal_ast.specs.Wired.{IsWired}
use Rattle.cal_part.specs.FrontOfDesign.{KeepsFront, IsWiredAfter}
use Rattle.cal_part.specs.Laws.{FrontIsWired, FrontKeepsRules}
use Rattle.cal_part.specs.SameLooks.{LooksTheSame}
use Rattle.cal_part.specs.SameHierarchy.{AreSamePlaces, IsSameBelow}
use Rattle.cal_part.proofs.SameLooksLemmas.{looks_keep_rules}
use Rattle.cal_part.proofs.LoopLemmas.{no_loop_same}
use Rattle.cal_part.proofs.PlaceLemmas.{looks_alike, same_places-refl}

component_named-front : (front more : Design) (name : Text) (c : Component) → component_named front name ≡ Some c → component_named (front ++ more) name ≡ Some c
component_named-front [] more name c found = absurd (cc)
component_named-front (x ∷ front) more name c found = by (bytes_eq x.name name) (component_named-front front more name c) found
  where
    by : (b : Bool) → (component_named front name ≡ Some c → component_named (front ++ more) name ≡ Some c) → (if b then Some x else component_named front name) ≡ Some c → (if b then Some x else component_named (front ++ more) name) ≡ Some c
    by true later found = found
    by false later found = later found

-- the place of a component in two lists
place_in : (front more : Design) (n : ℕ) (c : Component) → slice_get (front ++ more) n ≡ Some c → (slice_get front n ≡ Some c) ⊎ ((m : ℕ) × (n ≡ length front + m) × (slice_get more m ≡ Some c))
place_in [] more n c at = inr (n, omega arith, at)
place_in (x ∷ front) more zero c at = inl at
place_in (x ∷ front) more (suc n) c at = elim (place_in front more n c at) [
  | inl early ↦ inl early
  | inr (m, same, late) ↦ inr (m, omega (arith, same), late)
]

-- hierarchies with the same instances are the same
pub same_below-equal : (design other : Design) (c d : Component) → ((path : Path) → component_at design c path ≡ component_at other d path) → IsSameBelow design c other d
same_below-equal design other c d same path = subst (AreSamePlaces (component_at design c path)) (same path) (same_places-refl (component_at design c path))

module _ (front more : Design) where
  part_of-front : (cell : CellDef) (part : Component) → part_of front cell ≡ Some part → part_of (front ++ more) cell ≡ Some part
  part_of-front cell part is =
      let found = part_of-Some front cell part is in
      ap (λ (b : Bool). if b then None else component_named (front ++ more) cell.made) found.0 ∙ component_named-front front more cell.made part found.1

  module _ (naming : GroupNaming) (keeps : KeepsRulesUnder naming front) where
    -- a cell means in the whole what it means in the front
    part_same : (c : Component) → Contains front c → (cell : CellDef) → Contains c.cells cell → part_of (front ++ more) cell ≡ part_of front cell
    part_same c in_front cell has =
        let n = place_of front c in_front in
        let k = place_of c.cells cell has in
        by (known_cell naming front keeps n.0 c n.1 k.0 cell k.1)
      where
        by : IsKnownCell front c cell → part_of (front ++ more) cell ≡ part_of front cell
        by (inl primitive) =
            ap (λ (b : Bool). if b then None else component_named (front ++ more) cell.made) primitive ∙ sym (ap (λ (b : Bool). if b then None else component_named front cell.made) primitive)
        by (inr (part, made, none)) = part_of-front cell part made ∙ sym made

    part_in_same : (c : Component) → Contains front c → (cell : Text) → part_in (front ++ more) c cell ≡ part_in front c cell
    part_in_same c in_front cell = by (cell_named c.cells cell) refl
      where
        by : (o : Option CellDef) → cell_named c.cells cell ≡ o → option_and_then (part_of (front ++ more)) o ≡ option_and_then (part_of front) o
        by None found = refl
        by (Some x) found = part_same c in_front x (cell_named-Some c.cells cell x found).0

    instance_same : (path : Path) (c : Component) → Contains front c → component_at (front ++ more) c path ≡ component_at front c path
    instance_same [] c in_front = refl
    instance_same (cell ∷ path) c in_front =
        ap (option_and_then (λ (x : Component). component_at (front ++ more) x path)) (part_in_same c in_front cell)
        ∙ by (λ part has. instance_same path part has) (part_in front c cell) refl
      where
        by : ((part : Component) → Contains front part → component_at (front ++ more) part path ≡ component_at front part path) → (o : Option Component) → part_in front c cell ≡ o
            → option_and_then (λ (x : Component). component_at (front ++ more) x path) o ≡ option_and_then (λ (x : Component). component_at front x path) o
        by below None is = refl
        by below (Some part) is = below part (part_in-design front c cell part is)

    front_same : (c : Component) → Contains front c → IsSameBelow front c (front ++ more) c
    front_same c in_front = same_below-equal front (front ++ more) c c (λ path. sym (instance_same path c in_front))

    -- what reaches a name in the whole reaches it in the front
    reaches_before : (name : Text) (c : Component) → Involves (front ++ more) name c → Contains front c → Involves front name c
    reaches_before name c (Itself x is) in_front = Itself x is
    reaches_before name c (Over x part cell has made rest) in_front =
        let is : part_of front cell ≡ Some part = sym (part_same x in_front cell has) ∙ made in
        Over x part cell has is (reaches_before name part rest (component_named-Some front cell.made part (part_of-Some front cell part is).1).0)

    known_cell_kept : (c : Component) (cell : CellDef) → IsKnownCell front c cell → IsKnownCell (front ++ more) c cell
    known_cell_kept c cell (inl primitive) = inl primitive
    known_cell_kept c cell (inr (part, made, none)) = inr (
      part,
      part_of-front cell part made,
      λ reaches. none (reaches_before c.name part reaches (component_named-Some front cell.made part (part_of-Some front cell part made).1).0),
    )

    looks_same : (c : Component) → Contains front c → LooksTheSame front (front ++ more) c
    looks_same c in_front = let like = looks_alike front (front ++ more) c c (front_same c in_front) in record { ports = like.ports; starts = like.starts }

pub front_keeps_rules : FrontKeepsRules
front_keeps_rules front more rules = record {
  keeps = λ n c at.
      let within = slice_get_within front n c at in
      subst (λ (earlier : Design). KeepsComponent Unreserved (front ++ more) earlier c) (sym (take-append-le n front more (omega (arith, within))))
      (looks_keep_rules front (front ++ more) (take n front) (take n front) c (looks_same front more Unreserved rules.keeps c (Contains-at front n c at)) (λ new. new) (known_cell_kept front more Unreserved rules.keeps c) Unreserved (rules.keeps n c at));
  no_loop = λ c in_front.
      let n = place_of front c in_front in
      no_loop_same front (front ++ more) c c (front_same front more Unreserved rules.keeps c in_front) (rules.no_loop n.0 c n.1);
  hierarchy = λ c in_front path. instance_same front more Unreserved rules.keeps path c in_front;
}

module _ (front more : Design) (wired : IsWired front) (after : IsWiredAfter front more) where
  kept : KeepsFront front more
  kept = front_keeps_rules front more wired.rules

  all_keep : KeepsRules (front ++ more)
  all_keep n c at = elim (place_in front more n c at) [
    | inl early ↦ kept.keeps n c early
    | inr (m, same, late) ↦
        subst (λ (earlier : Design). KeepsComponent Unreserved (front ++ more) earlier c) (sym (ap (λ (x : ℕ). take x (front ++ more)) same ∙ take-append-add front more m)) (after.keeps m c late)
  ]

  no_loops : HasNoLoops (front ++ more)
  no_loops n c at = elim (Contains-append_cases front more c (Contains-at (front ++ more) n c at)) [
    | inl early ↦ kept.no_loop c early
    | inr late ↦ after.no_loop c late
  ]

pub front_is_wired : FrontIsWired
front_is_wired front more wired after = record {
  bare = λ c has. elim (Contains-append_cases front more c has) [ inl early ↦ wired.bare c early | inr late ↦ after.bare c late ];
  no_groups = λ c has. elim (Contains-append_cases front more c has) [ inl early ↦ wired.no_groups c early | inr late ↦ after.no_groups c late ];
  rules = record { keeps = all_keep front more wired after; no_loop = no_loops front more wired after };
}
