-- A lowered component keeps C1 to C11, item by item.
use Rattle.std.proofs.Common.{◌≡◌, ℕ, zero, suc, ◌<◌, ◌≤◌, Bool, true, List, [], ◌∷◌, ◌++◌, map, take, get_or, slice_get, Some, None, is_some, option_map, codes, refl, sym, ap, subst, ◌∙◌, inl, inr, append_assoc, arith}
use Rattle.std.specs.Prelude.{Contains, if◌then◌else◌}
use Rattle.std.proofs.lemmas.Bool.{false≢true}
use Rattle.std.proofs.lemmas.List.{append-nil}
use Rattle.std.proofs.lemmas.List.Elements.{All-append, All-map, Contains-append_cases}
use Rattle.std.proofs.lemmas.Option.{none-some, same_Some, slice_get-map, slice_get_within}
use Rattle.hw_names.specs.Name.{Text, AreDistinct}
use Rattle.hw_names.proofs.NameLemmas.{same_number}
use Rattle.hw_prims.specs.Table.{is_primitive, pin}
use Rattle.hw_prims.specs.declared.prim.Primitive.TheVariants.{StdReg}
use Rattle.cal_ast.specs.Items.{Item, TheSignature, TheCell, TheAssignment, TheStatement, each_after, items_of}
use Rattle.cal_ast.specs.Naming as calyx_names
use Rattle.cal_ast.specs.Naming.{HasNewNames, Unreserved, IsKnownCell, IsNewCell, Involves, Itself, Over, cell_names}
use Rattle.cal_ast.specs.Ports as ports
use Rattle.cal_ast.specs.Ports.{part_of, primitive_of}
use Rattle.cal_ast.specs.Rules.{KeepsComponent, KeepsRules, Keeps, Rule, C1, C2, C3, C4, C5, C6, all_rules}
use Rattle.cal_ast.specs.Tree as calyx
use Rattle.cal_ast.specs.Tree.{Assignment, CellDef, Statement}
use Rattle.cal_ast.specs.Typing as calyx_types
use Rattle.cal_ast.specs.Typing.{HasParameters, HasWidth}
use Rattle.fil_ast.specs.Items as items
use Rattle.fil_ast.specs.Naming.{component_names}
use Rattle.fil_ast.specs.Rules as rules_of
use Rattle.fil_ast.specs.Rules.{FilRules}
use Rattle.fil_ast.specs.Tree.{Component, DataPort, Design, Interface}
use Rattle.fil_ast.specs.Typing as types
use Rattle.fil_fsm.specs.Chain.{register}
use Rattle.fil_share.proofs.ListLemmas.{Contains-at}
use Rattle.fil_share.proofs.MakesLemmas.{map_take}
use Rattle.fil_lower.specs.inside.Lowering.{IsLoweringOf, Lowering, lowered_cell, lowered_component}
use Rattle.fil_lower.proofs.AssignmentLemmas.{sets_good}
use Rattle.fil_lower.proofs.CallLemmas.{sound_at}
use Rattle.fil_lower.proofs.DesignLemmas.{names_distinct}
use Rattle.fil_lower.proofs.ListLemmas.{contains_none, first_or_later}
use Rattle.fil_lower.proofs.LoweredLemmas.{IsLowered, IsCellOf, OfInstance, OfRegister, cell_is, cells_distinct, component_cell, design_names, is_made_of, lowered_at, lowering_at, names_component, names_primitive, new_names, no_primitive, primitive_cell, register_made}
use Rattle.fil_lower.proofs.MadeLemmas.{is_instance}
use Rattle.fil_lower.proofs.NameLemmas.{first_differs, from_map, later_distinct}
use Rattle.fil_lower.proofs.FoundPortLemmas.{own_pins_distinct}
use Rattle.fil_lower.proofs.UseLemmas.{some_at}

-- what has a place in distinct names is not among those before it
not_earlier : (names : List Text) (k : ℕ) (name : Text) → AreDistinct names → slice_get names k ≡ Some name → Contains (take k names) name → ⊥
not_earlier [] k name distinct at has = none-some name at
not_earlier (x ∷ names) zero name distinct at has = contains_none name has
not_earlier (x ∷ names) (suc k) name distinct at has =
    elim (first_or_later x (take k names) name has) [
      | inl same ↦ first_differs x names name distinct (Contains-at names k name at) same
      | inr later ↦ not_earlier names k name (later_distinct x names distinct) at later
    ]

-- where an item of a list of cells comes from
record IsEach (cells : List CellDef) (before : List CellDef) (item : Item) : Type 0 where
  k : ℕ
  cell : CellDef
  at : slice_get cells k ≡ Some cell
  is : TheCell (before ++ take k cells) cell ≡ item

from_each : (before cells : List CellDef) (item : Item) → Contains (each_after TheCell before cells) item → IsEach cells before item
from_each before [] item has = absurd (contains_none item has)
from_each before (d ∷ cells) item has =
    elim (first_or_later (TheCell before d) (each_after TheCell (before ++ d ∷ []) cells) item has) [
      | inl same ↦ record { k = 0; cell = d; at = refl; is = ap (λ (ds : List CellDef). TheCell ds d) (append-nil before) ∙ same }
      | inr later ↦
          let m = from_each (before ++ d ∷ []) cells item later in
          record { k = suc m.k; cell = m.cell; at = m.at; is = ap (λ (ds : List CellDef). TheCell ds m.cell) (sym (append_assoc before (d ∷ []) (take m.k cells))) ∙ m.is }
    ]

-- the items of a bare component without groups
pub data IsPlace (c : calyx.Component) : Item → Type 0 where
  Signs : IsPlace c TheSignature
  HasCell : (k : ℕ) (cell : CellDef) → slice_get c.cells k ≡ Some cell → IsPlace c (TheCell (take k c.cells) cell)
  Assigns : (a : Assignment) → Contains c.sets a → IsPlace c (TheAssignment a)

pub no_statement : (c : calyx.Component) (s : Statement) → IsPlace c (TheStatement s) → ⊥
no_statement c s place = elim place [ ]

module _ (comps : Design) (rules : FilRules comps) (design : calyx.Design) (lowered : IsLoweringOf comps design) where
  -- ---- what can be reached

  -- a component of a cell stands before the cell's component
  part_below : (m : ℕ) (part sub : calyx.Component) (cell : CellDef) → slice_get design m ≡ Some part → Contains part.cells cell → part_of design cell ≡ Some sub → (k : ℕ) × (k < m) × (slice_get design k ≡ Some sub)
  part_below m part sub cell at has is =
      let within = slice_get_within design m part at in
      let d = some_at comps m (omega (arith, within, lowered.count)) in
      let lw = lowered_at comps design lowered m d.0 d.1 in
      let same : part ≡ lowered_component (lowering_at comps design m d.0 lw) = same_Some part _ (sym at ∙ lw.there) in
      by m d.0 d.1 lw cell (cell_is comps rules design lowered m d.0 d.1 lw.registers lw.new cell (subst (λ (c : calyx.Component). Contains c.cells cell) same has)) is
    where
      none : (m : ℕ) (x : CellDef) → is_primitive x.made ≡ true → part_of design x ≡ Some sub → (k : ℕ) × (k < m) × (slice_get design k ≡ Some sub)
      none m x known found = absurd (none-some sub (sym (ap (λ (b : Bool). if b then None else ports.component_named design x.made) known) ∙ found))

      by : (m : ℕ) (d : Component) (here : slice_get comps m ≡ Some d) (lw : IsLowered comps design m d) (x : CellDef) → IsCellOf comps rules design lowered m d here lw.registers lw.new x → part_of design x ≡ Some sub → (k : ℕ) × (k < m) × (slice_get design k ≡ Some sub)
      by m d here lw x (OfRegister name of) found = none m (register name) (is_made_of (codes "std_reg") (1 ∷ []) (StdReg 1) (register_made name)) found
      by m d here lw x (OfInstance i of) found =
          let f = is_instance comps rules m d here i of in
          elim f.kind [
            | inl p ↦ none m (lowered_cell i) (names_primitive comps rules design lowered m i f.sig p) found
            | inr k ↦
                let sub_lw = lowered_at comps design lowered k.m k.d k.at in
                let same : lowered_component (lowering_at comps design k.m k.d sub_lw) ≡ sub = same_Some _ sub (sym (component_cell comps rules design lowered m i f.sig k) ∙ found) in
                (k.m, k.below, sub_lw.there ∙ ap Some same)
          ]

  reach_above : (n : ℕ) (c : Component) → slice_get comps n ≡ Some c → (part : calyx.Component) → Involves design c.name part → (m : ℕ) → slice_get design m ≡ Some part → n ≤ m
  reach_above n c here part (Itself part' same) m at =
      let D : List Text → Type 0 = AreDistinct in
      let name_of : calyx.Component → Text = λ d. d.name in
      let low = lowered_at comps design lowered n c here in
      let number : n ≡ m =
      same_number (calyx_names.component_names design) n m c.name (subst D (sym (design_names comps rules design lowered)) (names_distinct comps rules))
      (slice_get-map name_of design n ∙ ap (option_map name_of) low.there) (slice_get-map name_of design m ∙ ap (option_map name_of) at ∙ ap Some same) in
      omega (arith, number)
  reach_above n c here part (Over part' sub cell has is rest) m at =
      let b = part_below m part sub cell at has is in
      let more = reach_above n c here sub rest b.0 b.2 in
      omega (arith, more, b.1)

  module _ (n : ℕ) (c : Component) (here : slice_get comps n ≡ Some c) where
    abbrev lw : IsLowered comps design n c
    lw = lowered_at comps design lowered n c here

    abbrev l : Lowering
    l = lowering_at comps design n c lw

    abbrev low : calyx.Component
    low = lowered_component l

    -- ---- C1 and C4 at the signature

    new_here : HasNewNames (take n design) low
    new_here =
        let names = new_names comps rules design lowered n c here in
        let same : calyx_names.component_names (take n design) ≡ component_names (take n comps) =
        map_take (λ (d : calyx.Component). d.name) n design ∙ ap (take n) (design_names comps rules design lowered) ∙ sym (map_take (λ (d : Component). d.name) n comps) in
        record {
          no_primitive = no_primitive comps rules design lowered n c here;
          new = λ has. names.new (subst (λ (ns : List Text). Contains ns c.name) same has);
          ports = own_pins_distinct comps rules design lowered n c here;
        }

    wide_here : calyx_types.HasWidths design low
    wide_here =
        let widths : types.HasWidths c = rules.keeps n c here 0 items.TheSignature refl 2 rules_of.F1 (omega arith) in
        record {
          ins = All-append HasWidth (map (λ (g : Interface). pin g.name g.width) c.interfaces) (map (λ (p : DataPort). pin p.name p.width) c.ins)
              (All-map HasWidth (λ (g : Interface). pin g.name g.width) c.interfaces
              (λ k d within. let one : (get_or c.interfaces k d).width ≡ 1 = (sound_at comps rules n c here).shape.one_bit k d within in (omega (arith, one), omega (arith, one))))
              (All-map HasWidth (λ (p : DataPort). pin p.name p.width) c.ins widths.ins);
          outs = All-map HasWidth (λ (p : DataPort). pin p.name p.width) c.outs widths.outs;
          go = λ not_bare. absurd (false≢true (sym not_bare));
          done = λ not_bare. absurd (false≢true (sym not_bare));
        }

    -- ---- C1 to C3 at a cell

    new_cell : (k : ℕ) (cell : CellDef) → slice_get low.cells k ≡ Some cell → IsNewCell low (take k low.cells) cell
    new_cell k cell at = (
      λ has. not_earlier (cell_names low.cells) k cell.name (cells_distinct comps rules design lowered n c here lw.registers lw.new)
          (slice_get-map (λ (x : CellDef). x.name) low.cells k ∙ ap (option_map (λ (x : CellDef). x.name)) at)
          (subst (λ (ns : List Text). Contains ns cell.name) (map_take (λ (x : CellDef). x.name) k low.cells) has),
      λ not_bare. absurd (false≢true (sym not_bare)),
    )

    known_cell : (cell : CellDef) → IsCellOf comps rules design lowered n c here lw.registers lw.new cell → IsKnownCell design low cell × HasParameters cell
    known_cell cell (OfRegister name of) =
        let known = is_made_of (codes "std_reg") (1 ∷ []) (StdReg 1) (register_made name) in
        (inl known, (λ is. ap is_some (register_made name), λ is. absurd (false≢true (sym is ∙ known))))
    known_cell cell (OfInstance i of) =
        let f = is_instance comps rules n c here i of in
        elim f.kind [
          | inl p ↦
              let known = names_primitive comps rules design lowered n i f.sig p in
              (inl known, (λ is. ap is_some (primitive_cell comps rules design lowered n i f.sig p), λ is. absurd (false≢true (sym is ∙ known))))
          | inr k ↦
              let unknown = names_component comps rules design lowered n i f.sig k in
              let part = lowered_at comps design lowered k.m k.d k.at in (
                inr (
                  lowered_component (lowering_at comps design k.m k.d part),
                  component_cell comps rules design lowered n i f.sig k,
                  λ reaches. let above = reach_above n c here _ reaches k.m part.there in let below = k.below in omega (arith, above, below),
                ),
                (λ is. absurd (false≢true (sym unknown ∙ is)), λ is. k.no_params),
              )
        ]

    -- ---- each item

    first_place : (item : Item) → Contains (TheSignature ∷ each_after TheCell [] low.cells) item → IsPlace low item
    first_place item has =
        elim (first_or_later TheSignature (each_after TheCell [] low.cells) item has) [
          | inl same ↦ subst (IsPlace low) same Signs
          | inr later ↦ let m = from_each [] low.cells item later in subst (IsPlace low) m.is (HasCell m.k m.cell m.at)
        ]

    pub place_of_item : (item : Item) → Contains (items_of low) item → IsPlace low item
    place_of_item item has =
        elim (Contains-append_cases (((TheSignature ∷ each_after TheCell [] low.cells) ++ []) ++ map TheAssignment low.sets) [] item has) [
          | inl front ↦
              elim (Contains-append_cases ((TheSignature ∷ each_after TheCell [] low.cells) ++ []) (map TheAssignment low.sets) item front) [
                | inl start ↦ elim (Contains-append_cases (TheSignature ∷ each_after TheCell [] low.cells) [] item start) [ inl h ↦ first_place item h | inr none ↦ absurd (contains_none item none) ]
                | inr set ↦ let m = from_map TheAssignment low.sets item set in subst (IsPlace low) m.2 (Assigns m.0 m.1)
              ]
          | inr none ↦ absurd (contains_none item none)
        ]

    keeps_place : (item : Item) → IsPlace low item → (rule : Rule) → Keeps Unreserved design (take n design) low item rule
    keeps_place item Signs C1 = new_here
    keeps_place item Signs C4 = wide_here
    keeps_place item Signs rule = tt
    keeps_place item (HasCell k cell at) C1 = new_cell k cell at
    keeps_place item (HasCell k cell at) C2 = (known_cell cell (cell_is comps rules design lowered n c here lw.registers lw.new cell (Contains-at low.cells k cell at))).0
    keeps_place item (HasCell k cell at) C3 = (known_cell cell (cell_is comps rules design lowered n c here lw.registers lw.new cell (Contains-at low.cells k cell at))).1
    keeps_place item (HasCell k cell at) rule = tt
    keeps_place item (Assigns a has) C2 = (sets_good comps rules n c here design lowered lw.registers lw.new lw.enough a has).names
    keeps_place item (Assigns a has) C4 = (sets_good comps rules n c here design lowered lw.registers lw.new lw.enough a has).widths
    keeps_place item (Assigns a has) C5 = (sets_good comps rules n c here design lowered lw.registers lw.new lw.enough a has).drives
    keeps_place item (Assigns a has) C6 = (sets_good comps rules n c here design lowered lw.registers lw.new lw.enough a has).reads
    keeps_place item (Assigns a has) rule = tt

    keeps_here : KeepsComponent Unreserved design (take n design) low
    keeps_here k item at j d within = keeps_place item (place_of_item item (Contains-at (items_of low) k item at)) (get_or all_rules j d)

  pub keeps_all : KeepsRules design
  keeps_all n x at =
      let within = slice_get_within design n x at in
      let c = some_at comps n (omega (arith, within, lowered.count)) in
      let lw = lowered_at comps design lowered n c.0 c.1 in
      subst (KeepsComponent Unreserved design (take n design)) (same_Some _ x (sym lw.there ∙ at)) (keeps_here n c.0 c.1)
