-- A text is refused at one byte, whatever numbers its names have. This project's.
use Rattle.std.specs.Prelude.{◌≡◌, ℕ}
use Rattle.hw_names.specs.Name.{Text}
use Rattle.cal_ast.specs.Tree as calyx
use Rattle.cal_parse.specs.Spelling as cal
use Rattle.fil_ast.specs.Tree.{Design}
use Rattle.fil_parse.specs.Spelling as fil
use Rattle.net_text.specs.Reading as net

-- a Filament text
abbrev pub FilPlaceIsOne : Type 0
FilPlaceIsOne = (text : Text) (at other : ℕ) → fil.IsRefusedAt text at → fil.IsRefusedAt text other → at ≡ other

-- one that is refused spells no design
abbrev pub RefusedFilSpellsNone : Type 0
RefusedFilSpellsNone = (text : Text) (at : ℕ) (design : Design) → fil.IsRefusedAt text at → fil.SpellsDesign text design → ⊥

-- a Calyx text; and a word that is left out stands there, or none does
abbrev pub CalPlaceIsOne : Type 0
CalPlaceIsOne =
    (text : Text) (at other : ℕ) (p : cal.IsRefusedAt text at) (q : cal.IsRefusedAt text other) → (at ≡ other) × (cal.is_left_out p ≡ cal.is_left_out q)

-- one that is refused spells no design
abbrev pub RefusedCalSpellsNone : Type 0
RefusedCalSpellsNone = (text : Text) (at : ℕ) (design : calyx.Design) → cal.IsRefusedAt text at → cal.SpellsDesign text design → ⊥

-- the text of a netlist
abbrev pub NetPlaceIsOne : Type 0
NetPlaceIsOne = (text : Text) (at other : ℕ) → net.IsRefusedAt text at → net.IsRefusedAt text other → at ≡ other
