-- The languages of files: how the names of their files end, the limits of their texts, and the letter of their rules. This project's.
use Rattle.std.specs.Prelude.{ℕ, codes}
use Rattle.hw_names.specs.Name.{Text}
use Rattle.filc_stop.specs.declared.language.Language.{Language}
use Rattle.filc_stop.specs.declared.language.Language.TheVariants.{Netlists, Filament, Calyx}
use Rattle.hw_limits.specs.declared.limits.TheConstants.{MOST_NESTING, MOST_NET_NESTING, MOST_NET_BYTES, MOST_FIL_BYTES, MOST_CAL_BYTES}

abbrev pub ending_of : Language → Text
ending_of Netlists = codes ".net"
ending_of Filament = codes ".fil"
ending_of Calyx = codes ".futil"

-- the most bytes of a text
abbrev pub most_bytes : Language → ℕ
most_bytes Netlists = MOST_NET_BYTES
most_bytes Filament = MOST_FIL_BYTES
most_bytes Calyx = MOST_CAL_BYTES

-- how deep brackets may stand in one another
abbrev pub most_nesting : Language → ℕ
most_nesting Netlists = MOST_NET_NESTING
most_nesting Filament = MOST_NESTING
most_nesting Calyx = MOST_NESTING

-- what stands before the number of a rule
abbrev pub letter_of : Language → Text
letter_of Netlists = codes "N"
letter_of Filament = codes "F"
letter_of Calyx = codes "C"
