-- When two lines of refusals are one, but for which loop they tell. This project's.
use Rattle.std.specs.Prelude.{◌≡◌, ◌⊎◌, ℕ, List, ◌∷◌}
use Rattle.hw_names.specs.Name.{Text}
use Rattle.filc_stop.specs.Lines.{loop_text, rule_name, rule_line}
use Rattle.filc_stop.specs.declared.language.Language.{Language}
use Rattle.filc_stop.specs.declared.language.Language.TheVariants.{Netlists, Filament, Calyx}

-- the number of the rule that there is no loop. Which of the loops from the least port on is told is left to a program, in each language
abbrev pub loop_rule : Language → ℕ
loop_rule Netlists = 6
loop_rule Filament = 14
loop_rule Calyx = 12

-- the line that tells a loop of these ports, in the netlist or component of this name
abbrev pub loop_line : Language → Text → List Text → Text
loop_line language name ports = rule_line (rule_name language (loop_rule language)) name 0 (loop_text ports)

-- both tell a loop of one netlist or component, from the same port on
pub record TellOneLoop (line other : Text) : Type 0 where
  pub language : Language
  pub name : Text
  pub first : Text
  pub ports : List Text
  pub ports' : List Text
  pub told : line ≡ loop_line language name (first ∷ ports)
  pub told' : other ≡ loop_line language name (first ∷ ports')

-- the same line, but for which loop is told
abbrev pub IsSameLine : Text → Text → Type 0
IsSameLine line other = (line ≡ other) ⊎ TellOneLoop line other
