-- What the results of reading functions say, while names get numbers.
use Rattle.std.specs.Prelude.{◌≡◌, ◌+◌, ◌-◌, ◌^◌, ◌<◌, ◌≤◌, List, ◌++◌, length, Option, None, Some, Result, Ok, Err}
use Rattle.hw_names.specs.Name.{Text}
use Rattle.net_text.specs.declared.line_end.LineEnd.{LineEnd}
use Rattle.net_text.specs.declared.line_end.LineEnd.TheVariants as ends

-- names were added at the end, if any were
pub record Extends (old new : List Text) : Type 0 where
  pub more : List Text
  pub parts : new ≡ old ++ more

-- reading up to the rest of a text added no more names than it took bytes
pub record Grows (old new : List Text) (text rest : Text) : Type 0 where
  pub extends : Extends old new
  pub bound : length new + length rest ≤ length old + length text

-- there are numbers for as many new names as the text has bytes
abbrev pub HasRoom : List Text → Text → Type 0
HasRoom names text = length names + length text < 2 ^ 32 - 1

-- Why a function failed: nothing was read, or memory ran out, which says nothing.
abbrev pub Fails : {Y : Type 0} → LineEnd → Option Y → Type 0
Fails ends.Grammar read = read ≡ None
Fails ends.Memory read = Unit {0}

-- What a function returned, seen by view, is what was read, unless memory ran out.
abbrev pub Gives : {X Y : Type 0} → (X → Y) → Result X LineEnd → Option Y → Type 0
Gives view (Ok x) read = read ≡ Some (view x)
Gives view (Err e) read = Fails e read

-- The same, where names have numbers, also once more names are added.
abbrev pub GivesNamed : {X Y : Type 0} → List Text → (List Text → X → Y) → Result X LineEnd → Option Y → Type 0
GivesNamed names view (Ok x) read = (later : List Text) → Extends names later → read ≡ Some (view later x)
GivesNamed names view (Err e) read = Fails e read
