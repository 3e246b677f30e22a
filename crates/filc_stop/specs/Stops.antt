-- Why a command stops: its answer and its line.
use Rattle.std.specs.Prelude.{◌≡◌, ◌+◌, ◌⊎◌, List, [], codes, flat_map, Option}
use Rattle.std.specs.Borrow.{Bor}
use Rattle.std.specs.Io.KnownBytes.{Appends}
use Rattle.hw_io.specs.Writing.{AppendsPrefix}
use Rattle.hw_names.specs.Name.{Text}
use Rattle.hw_limits.specs.declared.limits.TheConstants.{MOST_CYCLES, MOST_WEIGHT, MOST_WORDS, MOST_OFFSET, MOST_STIMULUS_BYTES}
use Rattle.fil_check.specs.Least.{evidence_of}
use Rattle.filc_stop.specs.Language.{most_bytes, most_nesting}
use Rattle.filc_stop.specs.Lines.{as_line, read_fault_line, limit_line, token_line, grammar_line, left_out_line, loop_text, evidence_text, rule_name, rule_line}
use Rattle.filc_stop.specs.Lines.{counted_name, stimulus_line, conflict_line, memory_line}
use Rattle.filc_stop.specs.declared.ended.Ended.{Ended}
use Rattle.filc_stop.specs.declared.ended.Ended.TheVariants.{Refused, ReadFault, WriteFault, Memory, Stimulus, Conflict, Limit}
use Rattle.filc_stop.specs.declared.language.Language.TheVariants.{Filament}
use Rattle.filc_stop.specs.declared.refusal.Refusal.{Refusal}
use Rattle.filc_stop.specs.declared.refusal.Refusal.TheVariants as refusal
use Rattle.filc_stop.specs.declared.stop.Stop.{Stop}
use Rattle.filc_stop.specs.declared.stop.Stop.TheVariants as stop

-- texts one after another
abbrev pub joined : List (Bor Text) → Text
joined texts = flat_map (λ (text : Bor Text). text.now) texts

abbrev pub answer_of : Refusal → Ended
answer_of (refusal.SourceTooLong language) = Limit
answer_of (refusal.HasNoTokens at) = Refused
answer_of (refusal.NestsTooDeep language depth) = Limit
answer_of (refusal.HasNoGrammar at) = Refused
answer_of (refusal.LeavesOut word at) = Refused
answer_of (refusal.HasLargeOffset offset) = Limit
answer_of (refusal.BreaksRule language rule name item ports) = Refused
answer_of (refusal.BreaksFilamentRule rule name item evidence) = Refused
answer_of (refusal.IsTooHeavy weight) = Limit
answer_of (refusal.HasTooManyWords words) = Limit
answer_of (refusal.TooManyCycles cycles) = Limit
answer_of refusal.StimulusTooLong = Limit
answer_of (refusal.BreaksStimulusRule rule entry first second delay) = Stimulus
answer_of (refusal.StimulusTooLarge count limit cycles) = Limit
answer_of (refusal.Conflict cycle port) = Conflict

abbrev pub refusal_line : Refusal → Text
refusal_line (refusal.SourceTooLong language) = limit_line (codes "source") (most_bytes language + 1) (most_bytes language)
refusal_line (refusal.HasNoTokens at) = token_line at
refusal_line (refusal.NestsTooDeep language depth) = limit_line (codes "nesting") depth (most_nesting language)
refusal_line (refusal.HasNoGrammar at) = grammar_line at
refusal_line (refusal.LeavesOut word at) = left_out_line word at
refusal_line (refusal.HasLargeOffset offset) = limit_line (codes "offset") offset MOST_OFFSET
refusal_line (refusal.BreaksRule language rule name item ports) = rule_line (rule_name language rule) name item (loop_text ports.items)
refusal_line (refusal.BreaksFilamentRule rule name item evidence) = rule_line (rule_name Filament rule) name item (evidence_text (evidence_of evidence))
refusal_line (refusal.IsTooHeavy weight) = limit_line (codes "weight") weight MOST_WEIGHT
refusal_line (refusal.HasTooManyWords words) = limit_line (codes "words") words MOST_WORDS
refusal_line (refusal.TooManyCycles cycles) = limit_line (codes "cycles") cycles MOST_CYCLES
refusal_line refusal.StimulusTooLong = limit_line (codes "stimulus") (MOST_STIMULUS_BYTES + 1) MOST_STIMULUS_BYTES
refusal_line (refusal.BreaksStimulusRule rule entry first second delay) = stimulus_line rule entry first second delay
refusal_line (refusal.StimulusTooLarge count limit cycles) = limit_line (counted_name cycles) count limit
refusal_line (refusal.Conflict cycle port) = conflict_line cycle port

abbrev pub ended_of : Stop → Ended
ended_of stop.ReadFault = ReadFault
ended_of stop.StimulusReadFault = ReadFault
ended_of (stop.Refused why) = answer_of why
ended_of stop.WriteFault = WriteFault
ended_of stop.Memory = Memory

-- the file of a design gives none: it couldn't be read, or it is refused, or there was no memory
abbrev pub IsOfSource : Stop → Type 0
IsOfSource stop.ReadFault = Unit {0}
IsOfSource (stop.Refused (refusal.SourceTooLong language)) = Unit {0}
IsOfSource (stop.Refused (refusal.HasNoTokens at)) = Unit {0}
IsOfSource (stop.Refused (refusal.NestsTooDeep language depth)) = Unit {0}
IsOfSource (stop.Refused (refusal.HasNoGrammar at)) = Unit {0}
IsOfSource (stop.Refused (refusal.LeavesOut word at)) = Unit {0}
IsOfSource (stop.Refused (refusal.HasLargeOffset offset)) = Unit {0}
IsOfSource (stop.Refused (refusal.BreaksRule language rule name item ports)) = Unit {0}
IsOfSource (stop.Refused (refusal.BreaksFilamentRule rule name item evidence)) = Unit {0}
IsOfSource (stop.Refused (refusal.IsTooHeavy weight)) = Unit {0}
IsOfSource (stop.Refused (refusal.HasTooManyWords words)) = Unit {0}
IsOfSource stop.Memory = Unit {0}
IsOfSource why = ⊥

-- the file of a stimulus gives nothing: it couldn't be read, or it is refused, or there was no memory
abbrev pub IsOfStimulus : Stop → Type 0
IsOfStimulus stop.StimulusReadFault = Unit {0}
IsOfStimulus (stop.Refused refusal.StimulusTooLong) = Unit {0}
IsOfStimulus (stop.Refused (refusal.BreaksStimulusRule rule entry first second delay)) = Unit {0}
IsOfStimulus (stop.Refused (refusal.StimulusTooLarge count limit cycles)) = Unit {0}
IsOfStimulus stop.Memory = Unit {0}
IsOfStimulus why = ⊥

-- more cycles are asked for than the limit
abbrev pub IsOfCycles : Stop → Type 0
IsOfCycles (stop.Refused (refusal.TooManyCycles cycles)) = Unit {0}
IsOfCycles why = ⊥

-- a run ends in a Conflict, or its report stops in the middle
abbrev pub IsOfRun : Stop → Type 0
IsOfRun (stop.Refused (refusal.Conflict cycle port)) = Unit {0}
IsOfRun stop.WriteFault = Unit {0}
IsOfRun stop.Memory = Unit {0}
IsOfRun why = ⊥

-- a report stops in the middle for a sink, or for memory
abbrev pub IsWritingStop : Stop → Type 0
IsWritingStop stop.WriteFault = Unit {0}
IsWritingStop stop.Memory = Unit {0}
IsWritingStop why = ⊥

-- the line that tells it, of a command that reads a design's file and a stimulus of these names; a report that couldn't be written has none
abbrev pub line_of : Text → Text → Stop → Text
line_of design stimulus stop.ReadFault = read_fault_line design
line_of design stimulus stop.StimulusReadFault = read_fault_line stimulus
line_of design stimulus (stop.Refused why) = refusal_line why
line_of design stimulus stop.WriteFault = []
line_of design stimulus stop.Memory = memory_line

-- the answer where the line can't be written: want of memory stays
abbrev pub untold_of : Stop → Ended
untold_of stop.Memory = Memory
untold_of why = WriteFault

-- The whole line was written, and the answer is the first of the two; or the sink's count of faults rose and a part of the line is there.
abbrev pub IsLineTold : Text → Ended → Ended → Ended → Option Text → Option Text → Type 0 → Type 0
IsLineTold line told untold ended err err' err_rose =
    ((ended ≡ told) × Appends err err' (as_line line)) ⊎ ((ended ≡ untold) × err_rose × AppendsPrefix err err' (as_line line))

abbrev pub IsTold : Text → Text → Stop → Ended → Option Text → Option Text → Type 0 → Type 0
IsTold design stimulus why ended err err' err_rose = IsLineTold (line_of design stimulus why) (ended_of why) (untold_of why) ended err err' err_rose
