-- What a text spells, and where it is refused. This project's.
use Rattle.std.specs.Prelude.{◌≡◌, ℕ, ◌+◌, ◌<◌, ◌≤◌, List, [], ◌∷◌, length, take, ◌==◌, if◌then◌else◌, flat_map}
use Rattle.hw_names.specs.Name.{Text}
use Rattle.net_core.specs.Netlist.{Netlist}
use Rattle.net_text.specs.Layout.{net_text}
use Rattle.net_text.specs.Names.{HasText}
use Rattle.net_text.specs.declared.net_text_end.NetTextEnd.{NetTextEnd}
use Rattle.net_text.specs.declared.net_text_end.NetTextEnd.TheVariants as ends

-- the text is the netlist's
abbrev pub Spells : Text → Netlist → Type 0
Spells text n = HasText n × (text ≡ net_text n)

-- a byte goes to the front of the first line
abbrev pub onto_first : ℕ → List Text → List Text
onto_first c [] = (c ∷ []) ∷ []
onto_first c (line ∷ lines) = (c ∷ line) ∷ lines

-- the lines of a text, each with the line feed (10) that ends it; what follows the last is a line too
abbrev pub whole_lines : Text → List Text
whole_lines [] = []
whole_lines (c ∷ cs) = if c == 10 then (10 ∷ []) ∷ whole_lines cs else onto_first c (whole_lines cs)

abbrev pub joined : List Text → Text
joined lines = flat_map (λ line. line) lines

-- some netlist's text begins with the first k lines
abbrev pub IsViable : List Text → ℕ → Type 0
IsViable lines k = (w : Text) × (n : Netlist) × Spells w n × (take k (whole_lines w) ≡ take k lines)

-- the byte at which a text is refused: the first of the least line such that no netlist's text begins with the lines up to it,
-- or the text's length where its lines are the first lines of a netlist's text
pub record IsRefusedAt (text : Text) (at : ℕ) : Type 0 where
  pub spells_none : (n : Netlist) → Spells text n → ⊥
  pub line : ℕ
  pub within : line ≤ length (whole_lines text)
  pub first_byte : at ≡ length (joined (take line (whole_lines text)))
  pub viable : IsViable (whole_lines text) line
  pub hopeless : line < length (whole_lines text) → IsViable (whole_lines text) (line + 1) → ⊥

-- what a refusal says of a text; want of memory says nothing
abbrev pub Refuses : Text → NetTextEnd → Type 0
Refuses text (ends.Grammar at) = IsRefusedAt text at
Refuses text ends.Memory = Unit {0}
