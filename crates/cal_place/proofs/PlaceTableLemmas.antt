-- What is known of a place: what its tables show.
use Rattle.std.proofs.Common.{◌≡◌, ◌↔◌, ℕ, ◌<◌, Bool, true, false, List, length, map, get_or, slice_get, Contains, Option, Some, None, refl, sym, ap, subst, ◌∙◌, arith}
use Rattle.std.specs.Option.{option_flatten}
use Rattle.std.proofs.lemmas.Option.{get_or_from_slice_get, slice_get_within}
use Rattle.hw_names.specs.Name.{Text, text_of}
use Rattle.cal_ast.specs.Naming.{HasNewNames, Involves, cell_names, component_names, group_names}
use Rattle.cal_ast.specs.Numbers.{ComponentHasNumbers}
use Rattle.cal_ast.specs.Tree.{CellDef, Component, Design, component_tree, group_tree}
use Rattle.cal_place.specs.Around.{Around, comp_at, design_at, earlier_at, names_at}
use Rattle.cal_place.specs.FirstPlaces.{IsFirst, ShowsFirsts, TellsFirst}
use Rattle.cal_place.specs.Holders.{AreHolders}
use Rattle.cal_place.specs.Prototypes.{AreMadeOf, IsMadeOf}
use Rattle.cal_place.specs.Nesting.{HasPart}
use Rattle.cal_place.specs.Signatures.{ShowsSignature}
use Rattle.cal_place.specs.PlaceTables.{StandsIn}
use Rattle.cal_place.specs.Tables.{ShowsTables}
use Rattle.cal_place.specs.declared.first_places.FirstPlaces.{FirstPlaces}
use Rattle.cal_place.specs.declared.prototype.Prototype.{Prototype}
use Rattle.cal_place.specs.declared.prototype.Prototype.TheVariants as variant
use Rattle.cal_place.specs.declared.place.Place.TheInside.{Inside}
use Rattle.cal_place.specs.declared.signature.Signature.{Signature}
use Rattle.cal_place.specs.declared.tables.Tables.{Tables}
use Rattle.cal_place.proofs.FoundLemmas.{first_at, to_map}
use Rattle.cal_place.proofs.GraphLemmas.{exists_at}
use Rattle.cal_place.proofs.NestLemmas.{one_first, part_from_cell}
use Rattle.cal_place.proofs.PlaceLemmas.{IsMadeIn, made_at_first, made_of_none}

pub record StandsAt (p : Around) (shown : Tables) (cell_places group_places : FirstPlaces) (marks : List Bool) : Type 0 where
  pub numbers : ComponentHasNumbers (names_at p) p.comp
  pub here : slice_get (design_at p) p.number ≡ Some (comp_at p)
  pub tables : ShowsTables (design_at p) shown
  pub cells : ShowsFirsts cell_places (cell_names (comp_at p).cells)
  pub groups : ShowsFirsts group_places (group_names (comp_at p).groups)
  pub holders : AreHolders (design_at p) p.number marks

abbrev pub seen : Inside → Around
seen i = record { design = i.design.now; number = i.number; comp = i.comp.now }

pub stands : (i : Inside) (p : Around) → seen i ≡ p → StandsIn i.design.now i.tables.now i.number i.comp.now i.cells i.groups i.holders.items
    → StandsAt p i.tables.now i.cells i.groups i.holders.items
unfolding design_at comp_at
stands i p is known =
    let comps = i.design.now.comps.items in
    let within = slice_get_within comps i.number i.comp.now known.at in
    let own : ComponentHasNumbers i.design.now.names i.comp.now =
    subst (ComponentHasNumbers i.design.now.names) (get_or_from_slice_get comps i.number i.comp.now i.comp.now known.at) (known.numbers i.number i.comp.now within) in
    subst (λ (q : Around). StandsAt q i.tables.now i.cells i.groups i.holders.items) is (record {
      numbers = own;
      here = to_map (component_tree i.design.now.names) comps i.number i.comp.now known.at;
      tables = known.tables;
      cells = known.cells;
      groups = known.groups;
      holders = known.holders;
    })

-- the component's name
pub named_at : (i : Inside) (p : Around) → seen i ≡ p → text_of (names_at p) i.comp.now.name ≡ (comp_at p).name
unfolding comp_at
named_at i p is = subst (λ (q : Around). text_of (names_at q) i.comp.now.name ≡ (comp_at q).name) is refl

-- its groups
pub groups_at : (i : Inside) (p : Around) → seen i ≡ p → map (group_tree (names_at p)) i.comp.now.groups.items ≡ (comp_at p).groups
unfolding comp_at
groups_at i p is = subst (λ (q : Around). map (group_tree (names_at q)) i.comp.now.groups.items ≡ (comp_at q).groups) is refl

-- the component is the first of its name exactly where none before it has the name
pub new_name : (p : Around) → slice_get (design_at p) p.number ≡ Some (comp_at p)
    → IsFirst (component_names (design_at p)) (comp_at p).name p.number ↔ ¬ Contains (component_names (earlier_at p)) (comp_at p).name
new_name p here = first_at (λ (c : Component). c.name) (design_at p) p.number (comp_at p) here

-- the first place of a name is told
pub told_first : (names : List Text) (name : Text) (found : Option ℕ) (place : ℕ) → TellsFirst names name found → (found ≡ Some place) ↔ IsFirst names name place
told_first names name None place absent =
    (λ e. absurd (cc), λ first. absurd (absent (place, slice_get_within names place name first.here, get_or_from_slice_get names place name name first.here)))
told_first names name (Some k) place told =
    (λ e. let same : k ≡ place = cc in subst (IsFirst names name) same told, λ first. ap Some (one_first names name k place told first))

module _ (p : Around) (shown : Tables) (cell_places group_places : FirstPlaces) (marks : List Bool) (known : StandsAt p shown cell_places group_places marks) where
  -- its signature
  pub own_signature : (s : Signature) → slice_get shown.signatures.items p.number ≡ Some s → ShowsSignature s (comp_at p)
  own_signature s at = known.tables.signatures.each p.number (comp_at p) s known.here at

  pub in_tables : p.number < length shown.signatures.items
  in_tables = omega (arith, known.tables.signatures.sized, slice_get_within (design_at p) p.number (comp_at p) known.here)

  pub in_made : p.number < length shown.made.items
  in_made = omega (arith, known.tables.made.sized, slice_get_within (design_at p) p.number (comp_at p) known.here)

  -- a component that a cell of this one is made of
  pub held_part : (part : ℕ) → (cell : CellDef) × Contains (comp_at p).cells cell × IsMadeOf (design_at p) cell (Some (variant.Component part)) → HasPart (design_at p) p.number part
  held_part part cell = part_from_cell (design_at p) p.number part (comp_at p) known.here cell.0 cell.1 cell.2

  -- its mark
  pub mark_told : (part : ℕ) (c : Component) → HasNewNames (earlier_at p) (comp_at p) → HasPart (design_at p) p.number part → slice_get (design_at p) part ≡ Some c
      → (get_or marks part false ≡ true) ↔ Involves (design_at p) (comp_at p).name c
  mark_told part c new has at =
      known.holders.marked (comp_at p) c part known.here ((new_name p known.here).1 new.new) has at

-- what the cell at a place is made of
pub made_flat : (design : Design) (cells : List CellDef) (mades : List (Option Prototype)) → AreMadeOf design cells mades → (k : ℕ) (cell : CellDef) → slice_get cells k ≡ Some cell → (o : Option (Option Prototype)) → o ≡ slice_get mades k
    → IsMadeOf design cell (option_flatten o)
made_flat design cells mades are k cell at None none =
    let within : k < length mades = omega (arith, are.sized, slice_get_within cells k cell at) in
    let some = exists_at mades k within in
    let e = none ∙ some.1 in
    absurd (cc)
made_flat design cells mades are k cell at (Some made) is = are.each k cell made at (sym is)

-- ---- cells by their names

-- nothing has the name
pub none_made : (p : Around) (shown : Tables) (cell_places group_places : FirstPlaces) (marks : List Bool) → StandsAt p shown cell_places group_places marks → (text name : Text) → text ≡ name → (r : Option ℕ) → r ≡ None
    → TellsFirst (cell_names (comp_at p).cells) text r → (o : Option Prototype) → o ≡ None → IsMadeIn (design_at p) (comp_at p) name o
none_made p shown cell_places group_places marks known text name named r none told o is =
    let N : Option ℕ → Text → Type 0 = λ q t. TellsFirst (cell_names (comp_at p).cells) t q in
    let absent : N None name = subst (N None) named (subst (λ q. N q text) none told) in
    subst (IsMadeIn (design_at p) (comp_at p) name) (sym is) (made_of_none (design_at p) (comp_at p) name absent)

-- the cell of the name is made so
pub some_made : (p : Around) (text name : Text) → text ≡ name → (r : Option ℕ) (place : ℕ) → r ≡ Some place → TellsFirst (cell_names (comp_at p).cells) text r → (o : Option Prototype)
    → ((cell : CellDef) → slice_get (comp_at p).cells place ≡ Some cell → IsMadeOf (design_at p) cell o) → IsMadeIn (design_at p) (comp_at p) name o
some_made p text name named r place some told o of =
    let N : Option ℕ → Text → Type 0 = λ q t. TellsFirst (cell_names (comp_at p).cells) t q in
    made_at_first (design_at p) (comp_at p) name place o (subst (N (Some place)) named (subst (λ q. N q text) some told)) of
