-- What a function gives where a step of it failed.
use Rattle.std.proofs.Common.{◌≡◌, List, Option, None, Result, Ok, Err}
use Rattle.hw_names.specs.Name.{Text}
use Rattle.net_text.specs.inside.ReadResults.{Extends, Fails, Gives, GivesNamed}
use Rattle.net_text.specs.declared.line_end.LineEnd.{LineEnd}
use Rattle.net_text.specs.declared.line_end.LineEnd.TheVariants as ends
use Rattle.net_text.proofs.NameLemmas.{Extends-itself}

-- the end of a step that failed is that of the whole
pub fails : {Y Z : Type 0} (e : LineEnd) (step : Option Z) (read : Option Y) → Fails e step → (step ≡ None → read ≡ None) → Fails e read
fails ends.Grammar step read h none = none h
fails ends.Memory step read h none = tt

-- what is given under each list of names that is longer
pub named_from : {X Y : Type 0} (names : List Text) (view : List Text → X → Y) (r : Result X LineEnd) (read : Option Y) → ((later : List Text) → Extends names later → Gives (view later) r read) → GivesNamed names view r read
named_from names view (Ok x) read h = h
named_from names view (Err e) read h = h names (Extends-itself names)
