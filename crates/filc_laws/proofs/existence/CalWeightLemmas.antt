-- A Calyx design that keeps C1 to C12 weighs something, and its memories have some number of words: no component is among the cells of its own cells.
use Rattle.std.proofs.Common.{◌≡◌, ◌≢◌, ℕ, ◌+◌, ◌-◌, ◌<◌, inl, inr, List, [], ◌∷◌, codes, length, Option, None, Some, refl, sym, subst, ◌∙◌, arith}
use Rattle.std.specs.Prelude.{slice_get, Contains}
use Rattle.std.proofs.lemmas.Option.{same_Some}
use Rattle.hw_graph.proofs.MemberLemmas.{in_of, at_of, from_map}
use Rattle.hw_names.specs.Name.{Text}
use Rattle.net_core.specs.Weight.{saturated}
use Rattle.cal_ast.proofs.ItemLemmas.{known_cell}
use Rattle.cal_ast.proofs.ListLemmas.{Contains-at, Contains-here, Contains-map, Contains-there, place_of}
use Rattle.cal_ast.proofs.LookupLemmas.{component_named-Some, part_of-Some}
use Rattle.cal_ast.specs.Naming.{Involves, IsKnownCell, Itself, Over, Unreserved, component_names}
use Rattle.cal_ast.specs.Ports.{part_of}
use Rattle.cal_ast.specs.Rules.{KeepsRules}
use Rattle.cal_ast.specs.Top.{IsTop}
use Rattle.cal_ast.specs.Tree.{CellDef, Component, Design}
use Rattle.cal_check.specs.Weight.{APart, CellsComeTo, ComesTo, IsTold, NoCells, NoPart, WithCells}
use Rattle.cal_runs.proofs.InductionLemmas.{by_reach}
use Rattle.filc_laws.proofs.existence.Classical.{sure, next, so, by_cases, Least, least}
use Rattle.filc_laws.proofs.existence.ListLemmas as lists
use Rattle.filc_laws.specs.Classically.{Classically}

-- ---- the top component

module _ (d : Design) where
  abbrev IsMain : ℕ → Type 0
  IsMain n = (c : Component) × (slice_get d n ≡ Some c) × (c.name ≡ codes "main")

  first_main : Least IsMain → (n : ℕ) × IsTop d n
  first_main l = (l.at, inl (l.has.0, l.has.1, l.has.2, λ m c less at is. l.lesser m less (c, at, is)))

  main_of : Contains (component_names d) (codes "main") → (n : ℕ) × IsMain n
  main_of has =
      let c = from_map (λ (x : Component). x.name) d (codes "main") (in_of (component_names d) (codes "main") has) in
      let place = at_of d c.0 c.1 in
      (place.0, (c.0, place.1, c.2))

  pub some_top : 0 < length d → Classically ((n : ℕ) × IsTop d n)
  some_top some =
      by_cases ((n : ℕ) × IsMain n)
      (λ (n, main). so (least IsMain n main) first_main)
      (λ none. sure (length d - 1, inr (λ has. none (main_of has), omega (arith, some))))

  pub top_at : (n : ℕ) → 0 < length d → IsTop d n → (c : Component) × (slice_get d n ≡ Some c)
  top_at n some (inl (c, at, main, before)) = (c, at)
  top_at n some (inr (none, last)) = lists.place_of d n (omega (arith, last))

-- ---- components below a component

-- a component is what a cell of this one is made of, or below it
data Below (design : Design) : Component → Component → Type 0 where
  AtOnce : (c d : Component) (cell : CellDef) → Contains design c → Contains c.cells cell → part_of design cell ≡ Some d → Below design c d
  Deeper : (c part d : Component) (cell : CellDef) → Contains design c → Contains c.cells cell → part_of design cell ≡ Some part → Below design part d → Below design c d

below_on : (design : Design) (c d e : Component) → Below design c d → Below design d e → Below design c e
below_on design c d e (AtOnce c' d' cell has of_c made) more = Deeper c' d' e cell has of_c made more
below_on design c d e (Deeper c' part d' cell has of_c made rest) more = Deeper c' part e cell has of_c made (below_on design part d' e rest more)

below_reaches : (design : Design) (c d : Component) → Below design c d → Involves design d.name c
below_reaches design c d (AtOnce c' d' cell has of_c made) = Over c' d' cell of_c made (Itself d' refl)
below_reaches design c d (Deeper c' part d' cell has of_c made rest) = Over c' part cell of_c made (below_reaches design part d' rest)

part_there : (design : Design) (cell : CellDef) (part : Component) → part_of design cell ≡ Some part → Contains design part
part_there design cell part made = (component_named-Some design cell.made part (part_of-Some design cell part made).1).0

module _ (design : Design) (keeps : KeepsRules design) where
  no_way_back : (c part : Component) (cell : CellDef) → Contains design c → Contains c.cells cell → part_of design cell ≡ Some part → Involves design c.name part → ⊥
  no_way_back c part cell has of_c made reaches =
      let n = place_of design c has in
      let k = place_of c.cells cell of_c in
      by (known_cell Unreserved design keeps n.0 c n.1 k.0 cell k.1)
    where
      by : IsKnownCell design c cell → ⊥
      by (inl is) = let other = (part_of-Some design cell part made).0 in cc
      by (inr (other, same, none)) =
          let e : other ≡ part = same_Some other part (sym same ∙ made) in
          none (subst (λ (d : Component). Involves design c.name d) (sym e) reaches)

  below_apart : (c d : Component) → Below design c d → c.name ≢ d.name
  below_apart c d (AtOnce c' d' cell has of_c made) = λ same. no_way_back c' d' cell has of_c made (Itself d' (sym same))
  below_apart c d (Deeper c' part d' cell has of_c made rest) = λ same. no_way_back c' part cell has of_c made (subst (λ (name : Text). Involves design name part) (sym same) (below_reaches design part d' rest))

  below_named : (c d : Component) → Below design c d → Contains (component_names design) d.name
  below_named c d (AtOnce c' d' cell has of_c made) = Contains-map (λ (x : Component). x.name) design d' (part_there design cell d' made)
  below_named c d (Deeper c' part d' cell has of_c made rest) = below_named part d' rest

  -- ---- what a component comes to

  module _ (own : Component → ℕ) where
    abbrev Weighs : Component → Type 0
    Weighs c = (whole : ℕ) × ComesTo design own c whole

    abbrev CellsWeigh : List CellDef → Type 0
    CellsWeigh cells = (parts : ℕ) × CellsComeTo design own cells parts

    one_cell : (cell : CellDef) (cells : List CellDef) → CellsWeigh cells → ((part : Component) → part_of design cell ≡ Some part → Classically (Weighs part)) → Classically (CellsWeigh (cell ∷ cells))
    one_cell cell cells (parts, come) each = by (part_of design cell) refl
      where
        by : (o : Option Component) → part_of design cell ≡ o → Classically (CellsWeigh (cell ∷ cells))
        by None made = sure (parts, NoPart cell cells parts made come)
        by (Some part) made = so (each part made) (λ (whole, comes). (whole + parts, APart cell cells part whole parts made comes come))

    cells_weigh : (cells : List CellDef) → ((cell : CellDef) → Contains cells cell → (part : Component) → part_of design cell ≡ Some part → Classically (Weighs part)) → Classically (CellsWeigh cells)
    cells_weigh [] each = sure (0, NoCells)
    cells_weigh (cell ∷ cells) each =
        next (cells_weigh cells (λ other has. each other (Contains-there cell cells other has))) (λ come. one_cell cell cells come (each cell (Contains-here cell cells)))

    step : (c : Component) → ((d : Component) → Below design c d → Contains design d → Classically (Weighs d)) → Contains design c → Classically (Weighs c)
    step c below has =
        so (cells_weigh c.cells (λ cell of_c part made. below part (AtOnce c part cell has of_c made) (part_there design cell part made)))
        (λ (parts, come). (own c + parts, WithCells c parts come))

    weighs : (c : Component) → Contains design c → Classically (Weighs c)
    weighs c has =
        by_reach (λ (x : Component). x.name) (Below design) (below_on design) below_apart (λ x. Contains design x → Classically (Weighs x)) step (component_names design) c (λ d below. below_named c d below) has

    pub is_told : (n : ℕ) (c : Component) → IsTop design n → slice_get design n ≡ Some c → Classically ((told : ℕ) × IsTold design own told)
    is_told n c is at =
        so (weighs c (Contains-at design n c at)) (λ (whole, comes). (saturated whole, record { n = n; top = is; c = c; at = at; whole = whole; comes = comes; is = refl }))
