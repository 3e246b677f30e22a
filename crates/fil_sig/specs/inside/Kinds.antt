-- How the code groups Filament's primitives: rows of names, and kinds of timings. This project's.
use Rattle.std.specs.Prelude.{List, [], ◌∷◌, map, codes, if◌then◌else◌, bytes_eq, Option, Some, None}
use Rattle.std.specs.Borrow.{Bor}
use Rattle.std.specs.Prelude.{ℕ}
use Rattle.hw_names.specs.Name.{Text}
use Rattle.hw_prims.specs.Table.{Pin}
use Rattle.fil_ast.specs.Primitives.{Timing, register_timing, same_row, timing}
use Rattle.fil_ast.specs.Signature.{Offset, SigPort}
use Rattle.fil_sig.specs.declared.primitive.Kind.{Kind}
use Rattle.fil_sig.specs.declared.primitive.Kind.TheVariants.{Register, SeqMult, FastMult, NextRow, SameRow}

-- the table's name in the first row of a Filament name
abbrev pub table_name_in : List (Text × Text) → Text → Option Text
table_name_in [] name = None
table_name_in ((filament, table) ∷ rows) name = if bytes_eq name filament then Some table else table_name_in rows name

-- the texts of a list of rows
abbrev pub names_listed : List (Bor (List ℕ) × Bor (List ℕ)) → List (Text × Text)
names_listed rows = map (λ (row : Bor (List ℕ) × Bor (List ℕ)). (row.0.now, row.1.now)) rows

-- the timing of a kind
abbrev pub timing_by : Kind → Timing
timing_by Register = register_timing
timing_by SeqMult = timing 3 (Some (codes "go")) 2
timing_by FastMult = timing 1 None 2
timing_by NextRow = timing 1 None 1
timing_by SameRow = same_row

-- the port of a pin, in this interval
abbrev pub port_in : Offset → Offset → Pin → SigPort
port_in from to p = record { name = p.name; from = from; to = to; width = p.width }
