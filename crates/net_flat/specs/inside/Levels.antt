-- The instances of a design level by level, a level for each length of paths. This project's.
use Rattle.std.specs.Prelude.{ℕ, zero, suc, List, [], ◌∷◌, ◌++◌, map, filter_map, flat_map, Option, option_map}
use Rattle.hw_names.specs.Name.{Text, Path}
use Rattle.cal_ast.specs.Ports.{part_of}
use Rattle.cal_ast.specs.Tree.{CellDef, Component, Design}
use Rattle.net_flat.specs.Listing.{Instance}

-- a cell of a component by its name, with the component
abbrev pub Part : Type 0
Part = Text × Component

-- the part that a cell is, if it is a component's
abbrev pub part_at : Design → CellDef → Option Part
part_at design cell = option_map (λ (part : Component). (cell.name, part)) (part_of design cell)

-- the cells of components, in text order
abbrev pub parts_in : Design → List CellDef → List Part
parts_in design cells = filter_map (part_at design) cells

-- an instance at the end of a path
abbrev pub below : Path → Part → Instance
below path part = (path ++ part.0 ∷ [], part.1)

-- the instances that an instance has directly below it
abbrev pub children : Design → Instance → List Instance
children design i = map (below i.0) (parts_in design i.1.cells)

-- the instances whose paths have this length
abbrev pub level : Design → Component → ℕ → List Instance
level design top zero = ([], top) ∷ []
level design top (suc n) = flat_map (children design) (level design top n)

-- those whose paths are shorter, the shortest first
abbrev pub levels : Design → Component → ℕ → List Instance
levels design top zero = []
levels design top (suc n) = levels design top n ++ level design top n
