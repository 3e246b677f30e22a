-- Which components have cells of which, by their numbers. This project's.
use Rattle.std.specs.Prelude.{◌≡◌, ◌↔◌, ℕ, ◌<◌, List, length, take, slice_get, slice_index, Some, Contains}
use Rattle.hw_graph.specs.Graph.{AreInRange, HasRead}
use Rattle.cal_ast.specs.Naming.{component_names}
use Rattle.cal_ast.specs.Ports.{part_of}
use Rattle.cal_ast.specs.Tree.{CellDef, Component, Design}
use Rattle.cal_place.specs.FirstPlaces.{IsFirst}
use Rattle.cal_place.specs.declared.nesting.Nesting.{Nesting}
use Rattle.cal_place.specs.declared.nesting.PartOrder.{PartOrder}
use Rattle.cal_place.specs.declared.nesting.PartOrder.TheVariants.{Parts, Loop}

-- component n has a cell of component m, the first of its name
pub record HasPart (design : Design) (n m : ℕ) : Type 0 where
  pub c : Component
  pub at : slice_get design n ≡ Some c
  pub cell : CellDef
  pub has : Contains c.cells cell
  pub part : Component
  pub made : part_of design cell ≡ Some part
  pub there : slice_get design m ≡ Some part
  pub first : IsFirst (component_names design) part.name m

-- component m is a part of component n, over any number of cells
pub data IsInside (design : Design) : ℕ → ℕ → Type 0 where
  ByCell : (n m : ℕ) → HasPart design n m → IsInside design n m
  Over : (n between m : ℕ) → HasPart design n between → IsInside design between m → IsInside design n m

-- each component after those that it has cells of
pub record ArePartsFirst (design : Design) (order : List ℕ) : Type 0 where
  pub in_range : (i : ℕ) → i < length order → slice_index order i < length design
  pub each : (n : ℕ) → n < length design → Contains order n
  pub once : (i j : ℕ) → i < length order → j < length order → slice_index order i ≡ slice_index order j → i ≡ j
  pub after : (i m : ℕ) → i < length order → HasPart design (slice_index order i) m → Contains (take i order) m

-- the component is the first that is a part of itself
pub record IsFirstInside (design : Design) (first : ℕ) : Type 0 where
  pub within : first < length design
  pub inside : IsInside design first first
  pub before : (n : ℕ) → n < first → IsInside design n n → ⊥

abbrev pub ShowsOrder : Design → PartOrder → Type 0
ShowsOrder design (Parts order) = ArePartsFirst design order.items
ShowsOrder design (Loop first) = IsFirstInside design first

-- which components have cells of which, and an order or a loop of them
pub record ShowsNesting (design : Design) (nesting : Nesting) : Type 0 where
  pub sized : length nesting.holders ≡ length design
  pub in_range : AreInRange nesting.holders
  pub holders : (n m : ℕ) → HasRead nesting.holders m n ↔ HasPart design n m
  pub order : ShowsOrder design nesting.order
