-- The rules N1 to N5 of a netlist, line by line, and the first that is broken. This project's.
use Rattle.std.specs.Prelude.{◌≡◌, ℕ, ◌+◌, ◌^◌, ◌<◌, Bool, true, false, not, ◌&&◌, ◌||◌, ◌==◌, nat_lt, List, [], ◌∷◌, ◌++◌, map, flat_map, take, bytes_eq}
use Rattle.std.specs.Prelude.{slice_get, Option, Some, None, is_some, find}
use Rattle.std.specs.List.{list_any, list_all}
use Rattle.hw_names.specs.Name.{Text, dotted}
use Rattle.hw_prims.specs.Table.{Pin, prim_of, is_primitive, is_memory, is_width, inputs_of, outputs_of, input_names, output_names}
use Rattle.hw_prims.specs.declared.prim.Primitive.{Primitive}
use Rattle.net_core.specs.Guard.{GuardTree, GuardTrees, Reads, Compares, Negates, AllOf, AnyOf, NoGuards, MoreGuards}
use Rattle.net_core.specs.Netlist.{Netlist, Line, InLine, OutLine, WireLine, CellOf, SetOf, SetLine, lines_of}
use Rattle.net_core.specs.declared.net.Src.{Src}
use Rattle.net_core.specs.declared.net.Src.TheVariants.{Port, Lit}

-- a port: its full name, its width, and whether assignments may read it or drive it
pub record PortLine : Type 0 where
  pub name : Text
  pub width : ℕ
  pub readable : Bool
  pub writable : Bool

abbrev pub own_port : Bool → Bool → Pin → PortLine
own_port readable writable p = record { name = p.name; width = p.width; readable = readable; writable = writable }

-- a port of a cell: an input is driven, an output is read
abbrev pub cell_input : Text → Pin → PortLine
cell_input cell p = record { name = dotted cell p.name; width = p.width; readable = false; writable = true }

abbrev pub cell_output : Text → Pin → PortLine
cell_output cell p = record { name = dotted cell p.name; width = p.width; readable = true; writable = false }

abbrev pub unsized : Text → Pin
unsized name = record { name = name; width = 0 }

-- a cell has its primitive's port names also where its parameters are wrong
abbrev pub ports_from : Option Primitive → Text → Text → List PortLine
ports_from (Some prim) cell name = map (cell_input cell) (inputs_of prim) ++ map (cell_output cell) (outputs_of prim)
ports_from None cell name =
    map (λ p. cell_input cell (unsized p)) (input_names name) ++ map (λ p. cell_output cell (unsized p)) (output_names name)

-- the ports that a line makes
abbrev pub ports_at : Line → List PortLine
ports_at (InLine p) = own_port true false p ∷ []
ports_at (OutLine p) = own_port false true p ∷ []
ports_at (WireLine p) = own_port true true p ∷ []
ports_at (CellOf c) = ports_from (prim_of c.prim c.params) c.name c.prim
ports_at (SetOf a) = []

-- all ports, in their order: inputs, outputs, wires, then each cell's
abbrev pub ports_of : Netlist → List PortLine
ports_of n = flat_map ports_at (lines_of n)

abbrev pub port_names : List PortLine → List Text
port_names ports = map (λ (p : PortLine). p.name) ports

abbrev pub cell_names_at : Line → List Text
cell_names_at (CellOf c) = c.name ∷ []
cell_names_at line = []

abbrev pub is_among : List Text → Text → Bool
is_among names name = list_any (bytes_eq name) names

abbrev pub are_new : List Text → List Text → Bool
are_new names more = list_all (λ name. not (is_among names name)) more

-- N1: full port names are distinct, and so are cell names; it is broken at the second place.
-- `ports` are those of the earlier lines, and `cells` are the names of the earlier cells
abbrev pub has_new_names : List PortLine → List Text → Line → Bool
has_new_names ports cells line =
    are_new (port_names ports) (port_names (ports_at line)) && are_new cells (cell_names_at line)

-- what holds of each source of an assignment: the one it takes its value from, and those of its guard
abbrev mutual
  pub each_read : {P : Type 0} → (Src P → Bool) → GuardTree P → Bool
  each_read test (Reads s) = test s
  each_read test (Compares op a b) = test a && test b
  each_read test (Negates g) = each_read test g
  each_read test (AllOf gs) = each_reads test gs
  each_read test (AnyOf gs) = each_reads test gs

  pub each_reads : {P : Type 0} → (Src P → Bool) → GuardTrees P → Bool
  each_reads test NoGuards = true
  each_reads test (MoreGuards g gs) = each_read test g && each_reads test gs

abbrev pub each_in_guard : {P : Type 0} → (Src P → Bool) → Option (GuardTree P) → Bool
each_in_guard test None = true
each_in_guard test (Some g) = each_read test g

abbrev pub each_source : (Src Text → Bool) → SetLine → Bool
each_source test a = each_in_guard test a.guard && test a.src

abbrev pub has_name : Text → PortLine → Bool
has_name name p = bytes_eq p.name name

abbrev pub port_named : List PortLine → Text → Option PortLine
port_named ports name = find (has_name name) ports

abbrev pub source_exists : List PortLine → Src Text → Bool
source_exists ports (Port p) = is_some (port_named ports p)
source_exists ports (Lit width value) = true

-- N2: the primitive, and every port, that a line names exists
abbrev pub has_known_names : List PortLine → Line → Bool
has_known_names ports (CellOf c) = is_primitive c.prim
has_known_names ports (SetOf a) = is_some (port_named ports a.dst) && each_source (source_exists ports) a
has_known_names ports line = true

abbrev pub width_or_none : Option PortLine → ℕ
width_or_none None = 0
width_or_none (Some p) = p.width

abbrev pub port_width : List PortLine → Text → ℕ
port_width ports name = width_or_none (port_named ports name)

abbrev pub source_width : List PortLine → Src Text → ℕ
source_width ports (Port p) = port_width ports p
source_width ports (Lit width value) = width

-- a literal has a width, and its value fits
abbrev pub literal_fits : Src Text → Bool
literal_fits (Port p) = true
literal_fits (Lit width value) = is_width width && nat_lt value (2 ^ width)

-- both sides of a comparison have one width; what stands alone has width 1
abbrev mutual
  pub guard_widths_agree : List PortLine → GuardTree Text → Bool
  guard_widths_agree ports (Reads s) = source_width ports s == 1
  guard_widths_agree ports (Compares op a b) = source_width ports a == source_width ports b
  guard_widths_agree ports (Negates g) = guard_widths_agree ports g
  guard_widths_agree ports (AllOf gs) = guards_widths_agree ports gs
  guard_widths_agree ports (AnyOf gs) = guards_widths_agree ports gs

  pub guards_widths_agree : List PortLine → GuardTrees Text → Bool
  guards_widths_agree ports NoGuards = true
  guards_widths_agree ports (MoreGuards g gs) = guard_widths_agree ports g && guards_widths_agree ports gs

abbrev pub option_widths_agree : List PortLine → Option (GuardTree Text) → Bool
option_widths_agree ports None = true
option_widths_agree ports (Some g) = guard_widths_agree ports g

-- N3: the widths of the netlist's own ports are 1 to 128, literals have such widths and fit, and both sides agree
abbrev pub has_good_widths : List PortLine → Line → Bool
has_good_widths ports (InLine p) = is_width p.width
has_good_widths ports (OutLine p) = is_width p.width
has_good_widths ports (WireLine p) = is_width p.width
has_good_widths ports (CellOf c) = true
has_good_widths ports (SetOf a) =
    each_source literal_fits a && (port_width ports a.dst == source_width ports a.src) && option_widths_agree ports a.guard

abbrev pub is_readable : Option PortLine → Bool
is_readable None = false
is_readable (Some p) = p.readable

abbrev pub is_writable : Option PortLine → Bool
is_writable None = false
is_writable (Some p) = p.writable

abbrev pub source_is_readable : List PortLine → Src Text → Bool
source_is_readable ports (Port p) = is_readable (port_named ports p)
source_is_readable ports (Lit width value) = true

-- N4: a destination is writable, and each source is readable
abbrev pub has_good_sides : List PortLine → Line → Bool
has_good_sides ports (SetOf a) = is_writable (port_named ports a.dst) && each_source (source_is_readable ports) a
has_good_sides ports line = true

-- N5: parameters have the right number and range, and only a memory is shown
abbrev pub has_good_parameters : Line → Bool
has_good_parameters (CellOf c) = is_some (prim_of c.prim c.params) && (not c.shown || is_memory c.prim)
has_good_parameters line = true

-- the rules N1 to N5 at a line: which are kept. `all` are all ports, `ports` those of the earlier lines, and `cells` the names of the earlier cells
abbrev pub rules_after : List PortLine → List PortLine → List Text → Line → List Bool
rules_after all ports cells line =
    has_new_names ports cells line ∷ has_known_names all line ∷ has_good_widths all line ∷ has_good_sides all line ∷ has_good_parameters line ∷ []

-- the same after these lines
abbrev pub rules_at : List PortLine → List Line → Line → List Bool
rules_at all before line = rules_after all (flat_map ports_at before) (flat_map cell_names_at before) line

-- the line with this number, counted from 0, keeps the rules
abbrev pub LineKeepsRules : Netlist → ℕ → Line → Type 0
LineKeepsRules n k line = list_all (λ kept. kept) (rules_at (ports_of n) (take k (lines_of n)) line) ≡ true

-- N1 to N5 hold
abbrev pub IsValid : Netlist → Type 0
IsValid n = (k : ℕ) (line : Line) → slice_get (lines_of n) k ≡ Some line → LineKeepsRules n k line

-- the first broken rule: the first line that breaks one, and at that line the least
pub record FirstBroken (n : Netlist) (rule item : ℕ) : Type 0 where
  pub line : Line
  pub place : ℕ
  pub counted : place + 1 ≡ item
  pub at : slice_get (lines_of n) place ≡ Some line
  pub earlier : (k : ℕ) (other : Line) → k < place → slice_get (lines_of n) k ≡ Some other → LineKeepsRules n k other
  pub number : ℕ
  pub numbered : number + 1 ≡ rule
  pub lesser : (r : ℕ) → r < number → slice_get (rules_at (ports_of n) (take place (lines_of n)) line) r ≡ Some true
  pub broken : slice_get (rules_at (ports_of n) (take place (lines_of n)) line) number ≡ Some false
