-- The versions of a stimulus, and the values that it gives to ports and words. This project's.
use Rattle.std.specs.Prelude.{ℕ, ◌^◌, ◌==◌, ◌&&◌, ◌||◌, nat_lt, not, length, slice_index, codes, Bool, if◌then◌else◌, Option, Some, None}
use Rattle.std.specs.Str.{all_ascii_digits}
use Rattle.std.specs.Str.Parse.{digits_value}
use Rattle.serde_json.specs.Data.{Data}
use Rattle.serde_json.specs.Find.{as_str}
use Rattle.hw_names.specs.Name.{Text}
use Rattle.stim_read.specs.Parts.{number_in, number_at, ◌>>=◌}
use Rattle.stim_read.specs.declared.amounts.Version.{Version}
use Rattle.stim_read.specs.declared.amounts.Version.TheVariants.{One, Two}

-- a sign, or a 0 before another byte
abbrev pub has_sign_or_zero : Text → Bool
has_sign_or_zero text = (slice_index text 0 == 43) || ((slice_index text 0 == 48) && nat_lt 1 (length text))

-- decimal digits, at least one, without a leading 0 (but 0 itself)
abbrev pub is_decimal : Text → Bool
is_decimal text = all_ascii_digits text && nat_lt 0 (length text) && not (has_sign_or_zero text)

-- the number below 2 ^ 128 that a text of decimal digits spells
abbrev pub decimal_in : Text → Option ℕ
decimal_in text = if is_decimal text && nat_lt (digits_value 10 text) (2 ^ 128) then Some (digits_value 10 text) else None

-- the first of two
abbrev pub first_given : Option ℕ → Option ℕ → Option ℕ
first_given (Some n) other = Some n
first_given None other = other

-- in version 2 a text may stand for a value
abbrev pub spelled_amount : Version → Data → Option ℕ
spelled_amount One value = None
spelled_amount Two value = as_str value >>= decimal_in

-- the value that a number, or in version 2 also a text, gives to a port or a word
abbrev pub amount_in : Version → Data → Option ℕ
amount_in version value = first_given (number_in value) (spelled_amount version value)

abbrev pub version_numbered : ℕ → Option Version
version_numbered n = if n == 1 then Some One else (if n == 2 then Some Two else None)

abbrev pub version_in : Data → Option Version
version_in value = number_at (codes "version") value >>= version_numbered
