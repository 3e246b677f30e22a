-- The first broken rule as a function of the lines, part by part, and answers that agree with it. This project's.
use Rattle.std.specs.Prelude.{◌≡◌, ℕ, ◌+◌, Bool, not, ◌||◌, List, [], ◌∷◌, ◌++◌, map, Option, Some, None, Result, Ok, Err, if◌then◌else◌}
use Rattle.hw_names.specs.Name.{Text}
use Rattle.hw_prims.specs.Table.{Pin}
use Rattle.hw_prims.specs.declared.prim.Primitive.{Primitive}
use Rattle.hw_prims.specs.declared.prim.PrimEnd.{PrimEnd}
use Rattle.hw_prims.specs.declared.prim.PrimEnd.TheVariants.{UnknownPrim, BadParams}
use Rattle.net_core.specs.Netlist.{Netlist, Line, InLine, OutLine, WireLine, CellOf, SetOf, pin_of, cell_of, set_of}
use Rattle.net_core.specs.Rules.{PortLine, ports_at, cell_names_at, rules_after, FirstBroken}
use Rattle.net_core.specs.declared.net.Net.{Net}
use Rattle.net_core.specs.declared.net.NetAssign.{NetAssign}
use Rattle.net_core.specs.declared.net.NetCell.{NetCell}
use Rattle.net_core.specs.declared.net.NetPort.{NetPort}
use Rattle.net_core.specs.declared.ports.Side.{Side}
use Rattle.net_core.specs.declared.ports.Side.TheVariants.{In, Out, Wire}
use Rattle.net_core.specs.declared.rules.NetEnd.{NetEnd}
use Rattle.net_core.specs.declared.rules.NetEnd.TheVariants.{Refused, Memory}

-- the line of one of the netlist's own ports
abbrev pub own_line : Side → Pin → Line
own_line In p = InLine p
own_line Out p = OutLine p
own_line Wire p = WireLine p

abbrev pub own_lines : Side → List Text → List NetPort → List Line
own_lines side names pins = map (own_line side) (map (pin_of names) pins)

-- the lines of all ports of the netlist's own
abbrev pub own_part : Net → List Line
own_part net = own_lines In net.names net.ins.items ++ own_lines Out net.names net.outs.items ++ own_lines Wire net.names net.wires.items

abbrev pub cell_lines : List Text → List NetCell → List Line
cell_lines names cells = map CellOf (map (cell_of names) cells)

abbrev pub set_lines : List Text → List NetAssign → List Line
set_lines names sets = map SetOf (map (set_of names) sets)

-- the number of the first rule that is not kept, counted on from this number
abbrev pub first_not_kept : ℕ → List Bool → Option ℕ
first_not_kept number [] = None
first_not_kept number (kept ∷ rules) = if kept then first_not_kept (number + 1) rules else Some number

-- the broken rule with its item, or else what comes later
abbrev pub or_later : Option ℕ → ℕ → Option (ℕ × ℕ) → Option (ℕ × ℕ)
or_later None item later = later
or_later (Some rule) item later = Some (rule, item)

-- the first broken rule and its item in these lines, of which the first has this item and follows these ports and cells
unfoldable pub first_broken : List PortLine → List PortLine → List Text → ℕ → List Line → Option (ℕ × ℕ)
first_broken all ports cells item [] = None
first_broken all ports cells item (line ∷ lines) =
    or_later (first_not_kept 1 (rules_after all ports cells line)) item
    (first_broken all (ports ++ ports_at line) (cells ++ cell_names_at line) (item + 1) lines)

-- the rule that a cell with new names breaks, by what its name and parameters make, whether it is shown, and whether it is a memory
abbrev pub made_fault : Result Primitive PrimEnd → Bool → Bool → Option ℕ
made_fault (Err UnknownPrim) shown memory = Some 2
made_fault (Err BadParams) shown memory = Some 5
made_fault (Ok prim) shown memory = if not shown || memory then None else Some 5

-- the answer tells this fault; want of memory tells nothing
abbrev pub Tells : {T : Type 0} → Result T NetEnd → Option (ℕ × ℕ) → Type 0
Tells (Ok x) fault = fault ≡ None
Tells (Err (Refused rule item)) fault = fault ≡ Some (rule, item)
Tells (Err Memory) fault = Unit {0}

-- the refusal tells the first broken rule and its item; want of memory tells nothing
abbrev pub IsCauseIn : Netlist → NetEnd → Type 0
IsCauseIn n (Refused rule item) = FirstBroken n rule item
IsCauseIn n Memory = Unit {0}
