-- The line of each refusal, without its line feed. This project's.
use Rattle.std.specs.Prelude.{ℕ, Bool, ◌==◌, nat_lt, if◌then◌else◌, List, [], ◌∷◌, ◌++◌, codes, decimal, flat_map}
use Rattle.hw_names.specs.Name.{Text}
use Rattle.fil_ast.specs.Evidence.{Evidence, Nothing, AnOffset, ACycle, AGap, ALoop}
use Rattle.filc_stop.specs.Language.{letter_of}
use Rattle.filc_stop.specs.declared.language.Language.{Language}

abbrev pub usage_line : Text
usage_line = codes "usage: filc COMMAND FILE [STIMULUS or NUMBER]"

abbrev pub read_fault_line : Text → Text
read_fault_line name = codes "read fault: " ++ name

abbrev pub memory_line : Text
memory_line = codes "out of memory"

-- a count that is over its limit
abbrev pub limit_line : Text → ℕ → ℕ → Text
limit_line name count limit = codes "limit " ++ name ++ codes " " ++ decimal count ++ codes " over " ++ decimal limit

-- a text without tokens, and the byte at which none starts
abbrev pub token_line : ℕ → Text
token_line place = codes "refused token at byte " ++ decimal place

-- a text without the grammar, and the byte at which it is refused
abbrev pub grammar_line : ℕ → Text
grammar_line place = codes "refused grammar at byte " ++ decimal place

-- a text with a word that its language has and this profile leaves out, and the byte at which it stands
abbrev pub left_out_line : Text → ℕ → Text
left_out_line word place = codes "refused left out " ++ word ++ codes " at byte " ++ decimal place

-- a rule of a language: its letter and its number
abbrev pub rule_name : Language → ℕ → Text
rule_name language number = letter_of language ++ decimal number

-- a space before each port
abbrev pub spaced : List Text → Text
spaced ports = flat_map (λ port. codes " " ++ port) ports

-- a space, what is counted, a space and the count
abbrev pub count_text : Text → ℕ → Text
count_text name count = codes " " ++ name ++ codes " " ++ decimal count

-- a loop of ports, if there is one
abbrev pub loop_text : List Text → Text
loop_text [] = []
loop_text (port ∷ ports) = codes " loop" ++ spaced (port ∷ ports)

-- what a broken rule of Filament shows besides itself
abbrev pub evidence_text : Evidence → Text
evidence_text Nothing = []
evidence_text (AnOffset offset) = count_text (codes "offset") offset
evidence_text (ACycle cycle) = count_text (codes "cycle") cycle
evidence_text (AGap gap cycle) = count_text (codes "gap") gap ++ count_text (codes "cycle") cycle
evidence_text (ALoop ports) = loop_text ports

-- a rule that is broken in the netlist or component of this name, at this item
abbrev pub place_text : Text → Text → ℕ → Text
place_text rule name item = codes "refused " ++ rule ++ codes " " ++ name ++ codes " item " ++ decimal item

-- the first broken rule, with what it shows
abbrev pub rule_line : Text → Text → ℕ → Text → Text
rule_line rule name item shows = place_text rule name item ++ shows

-- what a stimulus has too much of
abbrev pub counted_name : Bool → Text
counted_name cycles = if cycles then codes "cycles" else codes "transactions"

-- the entry that breaks a rule of a stimulus; S1 and S2 are of no entry
abbrev pub entry_text : ℕ → ℕ → Text
entry_text rule entry = if nat_lt 2 rule then count_text (codes "entry") entry else []

-- the rule of a stimulus, and its entry
abbrev pub stimulus_text : ℕ → ℕ → Text
stimulus_text rule entry = codes "stimulus S" ++ decimal rule ++ entry_text rule entry

-- two starts that are too near, and the delay that is between them
abbrev pub starts_text : ℕ → ℕ → ℕ → Text
starts_text first second delay = codes " starts " ++ decimal first ++ codes " " ++ decimal second ++ codes " delay " ++ decimal delay

-- the same for a rule of a stimulus: S5 shows it
abbrev pub shown_starts : ℕ → ℕ → ℕ → ℕ → Text
shown_starts rule first second delay = if rule == 5 then starts_text first second delay else []

-- the first broken rule of a stimulus, with what it shows
abbrev pub stimulus_line : ℕ → ℕ → ℕ → ℕ → ℕ → Text
stimulus_line rule entry first second delay = stimulus_text rule entry ++ shown_starts rule first second delay

abbrev pub conflict_line : ℕ → Text → Text
conflict_line cycle port = codes "conflict cycle " ++ decimal cycle ++ codes " port " ++ port

-- a line with its line feed (10); no line is nothing
abbrev pub as_line : Text → Text
as_line [] = []
as_line (c ∷ line) = (c ∷ line) ++ 10 ∷ []
