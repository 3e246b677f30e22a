use Rattle.std.proofs.Common.{◌≡◌, ◌<◌, ℕ, List, Vec, Global, Option, length, get_or, set, slice_get, Some, refl, sym, ap, subst, ◌∙◌, arith}
use Rattle.std.proofs.lemmas.List.{get_or_read, length-map, length-set}
use Rattle.std.proofs.lemmas.Option.{slice_get-get_or}
use Rattle.cal_ast.specs.Tree.{Component, Design, component_tree, design_of}
use Rattle.cal_place.specs.Prototypes.{AreMadeOf}
use Rattle.cal_place.specs.Nesting.{ArePartsFirst, ShowsOrder}
use Rattle.cal_place.specs.Tables.{AreMade}
use Rattle.cal_check.specs.inside.Totals.{ArePartsWhole}
use Rattle.cal_place.specs.declared.prototype.Prototype.{Prototype}
use Rattle.cal_place.specs.declared.nesting.PartOrder.{PartOrder}
use Rattle.cal_place.specs.declared.nesting.PartOrder.TheVariants.{Parts}
use Rattle.cal_place.proofs.PartOrderLemmas.{no_other_order, parts_first}
use Rattle.cal_check.proofs.WeightLemmas.{CellsWeigh, made_at, parts_whole, parts_within, told_top, weigh_more, weigh_none}
use Rattle.cal_check.proofs.weight.come_to.Goals as goal

pub of-requires : goal.of-requires
of-requires c =
    let d = design_of c.args.design.now in
    let M : List (Vec (Option Prototype) Global) → Type 0 = λ l. AreMade d l in
    (d, subst M (sym c.deref.ensures.value) c.requires.tables.made)

pub unreachable-requires : goal.unreachable-requires
unreachable-requires c =
    let d = design_of c.args.design.now in
    let M : List (Vec (Option Prototype) Global) → Type 0 = λ l. AreMade d l in
    let shows = c.in_ok-nesting.ensures d (subst M (sym c.deref.ensures.value) c.requires.tables.made) in
    no_other_order d c.requires.rules.keeps c.in_ok-nesting.nesting.order shows.order c.in_default.not-Parts

pub loop-number-init : goal.loop-number-init
loop-number-init c =
    let d = c.args.design.now in
    let whole = c.in_ok-whole.whole in
    let sized : length whole.items ≡ length (design_of d) = omega (arith, c.in_ok-whole.ensures.len, whole.ok.0, c.requires.sized, length-map d.comps.items (component_tree d.names)) in
    record { sized = sized; weigh = λ own_of own. weigh_none (design_of d) own_of c.deref-number-items.result.now whole.items sized }

-- the order in which the components are weighed has each after its parts
first_in : (design : Design) (order : PartOrder) (parts : Vec ℕ Global) (items : List ℕ) → order ≡ Parts parts → ShowsOrder design order → items ≡ parts.items → ArePartsFirst design items
first_in design order parts items is shows same = subst (ArePartsFirst design) (sym same) (parts_first design order parts is shows)

-- what the cells of the component at hand are made of
hand : (design : Design) (mades : List (Vec (Option Prototype) Global)) (number : ℕ) (cells : Vec (Option Prototype) Global) → AreMade design mades → number < length design → cells ≡ get_or mades number cells
    → (c : Component) × (slice_get design number ≡ Some c) × AreMadeOf design c.cells cells.items
hand design mades number cells are within is = made_at design mades number cells cells.items are (omega (arith, within, are.sized)) is refl

pub cells_come_to-parts-requires : goal.cells_come_to-parts-requires
cells_come_to-parts-requires c =
    let d = design_of c.args.design.now in
    let M : List (Vec (Option Prototype) Global) → Type 0 = λ l. AreMade d l in
    let shows = c.in_ok-nesting.ensures d (subst M (sym c.deref.ensures.value) c.requires.tables.made) in
    let items = c.deref-number-items.result.now in
    let k = c.loop-number.number-index in
    let first = first_in d c.in_ok-nesting.nesting.order c.in-Parts.order items c.in-Parts.is shows.order c.deref-number-items.ensures.value in
    let lt : k < length items = omega arith in
    let comp = hand d c.args.tables.now.made.items (get_or items k 0) c.index.result.now c.requires.tables.made (first.in_range k lt) c.index.ensures in
    parts_within d comp.0.cells c.index.result.now.items c.deref-in-loop-number-2.result.now (length c.deref-in-loop-number.result.now) comp.2 c.deref-in-loop-number-2.ensures.value
    (ap length c.deref-in-loop-number.ensures.value ∙ c.loop-number.invariant.sized)

pub loop-number-preserved : goal.loop-number-preserved
loop-number-preserved c =
    let d = design_of c.args.design.now in
    let M : List (Vec (Option Prototype) Global) → Type 0 = λ l. AreMade d l in
    let shows = c.in_ok-nesting.ensures d (subst M (sym c.deref.ensures.value) c.requires.tables.made) in
    let items = c.deref-number-items.result.now in
    let k = c.loop-number.number-index in
    let number = get_or items k 0 in
    let first = first_in d c.in_ok-nesting.nesting.order c.in-Parts.order items c.in-Parts.is shows.order c.deref-number-items.ensures.value in
    let lt : k < length items = omega arith in
    let comp = hand d c.args.tables.now.made.items number c.index.result.now c.requires.tables.made (first.in_range k lt) c.index.ensures in
    let whole = c.loop-number.whole.items in
    let new = set whole number c.saturating_add.result in
    record {
      sized = length-set whole number c.saturating_add.result ∙ c.loop-number.invariant.sized;
      weigh = λ own_of own.
          let so_far = c.loop-number.invariant.weigh own_of own in
          let parts = subst (ArePartsWhole d own_of number) (sym c.deref-in-loop-number.ensures.value) (parts_whole d own_of items first k lt whole so_far) in
          let are = subst (AreMadeOf d comp.0.cells) (sym c.deref-in-loop-number-2.ensures.value) comp.2 in
          let told = c.cells_come_to-parts.ensures d own_of number comp.0 comp.1 are parts in
          let weighs : CellsWeigh d own_of comp.0.cells c.cells_come_to-parts.result = record { parts = told.0; comes = told.1; is = told.2 } in
          let has : number < length c.args.own.now = omega (arith, first.in_range k lt, own.sized) in
          let is_own = own.each number comp.0 (get_or c.args.own.now number 0) comp.1 (slice_get-get_or c.args.own.now number 0 has) in
          weigh_more d own_of items first k lt whole so_far comp.0 new (get_or c.args.own.now number 0) c.cells_come_to-parts.result c.saturating_add.result comp.1 is_own weighs c.saturating_add.ensures refl;
    }

pub returns : goal.returns
returns c = λ own_of own.
    let d = design_of c.args.design.now in
    let M : List (Vec (Option Prototype) Global) → Type 0 = λ l. AreMade d l in
    let shows = c.in_ok-nesting.ensures d (subst M (sym c.deref.ensures.value) c.requires.tables.made) in
    let items = c.deref-number-items.result.now in
    let first = first_in d c.in_ok-nesting.nesting.order c.in-Parts.order items c.in-Parts.is shows.order c.deref-number-items.ensures.value in
    let whole = c.loop-number.whole.items in
    let top = c.top_of.result in
    let within : top < length d = omega (arith, c.top_of.ensures.within, length-map c.args.design.now.comps.items (component_tree c.args.design.now.names)) in
    let inside : top < length whole = omega (arith, within, c.loop-number.invariant.sized) in
    let read : c.index-2.result.now ≡ get_or whole top 0 = get_or_read whole top c.index-2.result.now inside c.index-2.ensures 0 in
    told_top d own_of items first c.loop-number.number-index whole top c.index-2.result.now (omega arith) (c.loop-number.invariant.weigh own_of own) c.top_of.ensures.top within read
