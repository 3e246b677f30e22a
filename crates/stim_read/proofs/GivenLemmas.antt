-- Names with values.
use Rattle.std.proofs.Common.{◌≡◌, ℕ, Some, None, option_map, sym, ap, ◌∙◌}
use Rattle.hw_names.specs.Name.{Text}
use Rattle.stim_read.specs.Parts.{Member}
use Rattle.stim_read.specs.Amounts.{amount_in}
use Rattle.stim_read.specs.CycleText.{given_by}
use Rattle.stim_read.specs.declared.amounts.Version.{Version}
use Rattle.stim_read.specs.declared.given.Given.{Given}

abbrev pub given_of : Text → ℕ → Given
given_of name value = record { name = name; value = value }

pub given_is : (version : Version) (m : Member) (name : Text) (value : ℕ) → name ≡ m.0 → amount_in version m.1 ≡ Some value → given_by version m ≡ Some (given_of name value)
given_is version m name value same e = ap (option_map (given_of m.0)) e ∙ ap (λ (n : Text). Some (given_of n value)) (sym same)

pub no_given : (version : Version) (m : Member) → amount_in version m.1 ≡ None → given_by version m ≡ None
no_given version m e = ap (option_map (given_of m.0)) e
