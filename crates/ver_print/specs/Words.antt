-- Names, ranges, literals and lines of the Verilog text. This project's.
use Rattle.std.specs.Prelude.{ℕ, ◌-◌, ◌==◌, Bool, List, [], ◌++◌, map, codes, decimal, if◌then◌else◌}
use Rattle.std.specs.List.{flat_map}
use Rattle.hw_names.specs.Name.{Text, dotted}

-- texts one after another
abbrev pub joined : List Text → Text
joined texts = flat_map (λ text. text) texts

-- an escaped name: a backslash, the name, and the space that ends it
abbrev pub escaped : Text → Text
escaped name = codes "\\" ++ name ++ codes " "

-- the clock, whose name no port has
abbrev pub clock : Text
clock = codes "\\$clk "

-- a name with a slash for each dot
abbrev pub slashed : Text → Text
slashed name = map (λ byte. if byte == 46 then 47 else byte) name

-- the escaped name of a port of a cell, or of a register of its own
abbrev pub part : Text → Text → Text
part cell name = escaped (dotted cell name)

-- the escaped name of what counts the words of a cell's memory at the start. A slash (47) stands for each dot (46): a tool is known that drops what a loop
-- fills whose variable has a dot in its name; and no other name has a slash
abbrev pub counter : Text → Text
counter cell = escaped (slashed cell ++ codes "/$2")

-- the bits of a width, [w-1:0]
abbrev pub range : ℕ → Text
range w = codes "[" ++ decimal (w - 1) ++ codes ":0]"

-- w'dv
abbrev pub literal : ℕ → ℕ → Text
literal w v = decimal w ++ codes "'d" ++ decimal v

-- w'd0
abbrev pub zeros : ℕ → Text
zeros w = decimal w ++ codes "'d0"

-- n zeros above the value, {n'd0, E}; the value alone where n is 0
abbrev pub padded : ℕ → Text → Text
padded n value = if n == 0 then value else codes "{" ++ zeros n ++ codes ", " ++ value ++ codes "}"

-- what stands between an operand and the mark after it: a name has a space of its own
abbrev pub gap : (is_name : Bool) → Text
gap is_name = if is_name then [] else codes " "

-- a line inside the module
abbrev pub inner_line : Text → Text
inner_line text = codes "  " ++ text ++ codes "\n"

-- the name has this value in every row
abbrev pub assignment : Text → Text → Text
assignment target value = codes "assign " ++ target ++ codes "= " ++ value ++ codes ";"
