use Rattle.std.proofs.Common.{◌≡◌, drop}
use Rattle.fil_sig.specs.inside.Kinds.{names_listed, table_name_in}
use Rattle.fil_sig.proofs.primitive.table_name_in.Given as goal

-- no row before this one has the name
abbrev pub invariant-loop-filament : goal.invariant-loop-filament
invariant-loop-filament l = table_name_in (names_listed (drop l.filament-index l.rows)) l.name ≡ table_name_in (names_listed l.rows) l.name
