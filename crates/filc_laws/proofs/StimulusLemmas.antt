-- A stimulus that gives nothing is refused with one answer and one line.
use Rattle.std.proofs.Common.{◌≡◌, ◌+◌, ◌<◌, ◌≤◌, [], length, sym, ap, ◌∙◌, arith, codes}
use Rattle.hw_names.specs.Name.{Text}
use Rattle.stim_read.specs.declared.stim_end.StimEnd.{StimEnd}
use Rattle.stim_read.specs.declared.stim_end.StimEnd.TheVariants as stim
use Rattle.filc_load.specs.Settable.{settable_inputs, settable_memories}
use Rattle.filc_load.specs.StimulusFile.{IsRefusedBy, TooLong, BreaksRule, IsTooLarge, component_events}
use Rattle.filc_stop.specs.Lines.{limit_line, counted_name, stimulus_line}
use Rattle.filc_stop.specs.declared.ended.Ended.{Ended}
use Rattle.filc_stop.specs.declared.ended.Ended.TheVariants.{Stimulus, Limit}
use Rattle.hw_limits.specs.declared.limits.TheConstants.{MOST_STIMULUS_BYTES}
use Rattle.filc_laws.proofs.CauseLemmas.{run_cause_is_one, transaction_cause_is_one}
use Rattle.filc_laws.specs.OneStimulus.{CauseIsOne, HasNoCause, RunIsRefusedOnce, TransactionsAreRefusedOnce}

-- the answer and the line of a cause; want of memory has none
abbrev answer_to : StimEnd → Ended
answer_to (stim.Refused rule entry first second delay) = Stimulus
answer_to (stim.Limit count limit cycles) = Limit
answer_to stim.Memory = Limit

abbrev line_to : StimEnd → Text
line_to (stim.Refused rule entry first second delay) = stimulus_line rule entry first second delay
line_to (stim.Limit count limit cycles) = limit_line (counted_name cycles) count limit
line_to stim.Memory = []

abbrev long_line : Text
long_line = limit_line (codes "stimulus") (MOST_STIMULUS_BYTES + 1) MOST_STIMULUS_BYTES

-- the text is too long, or has a cause against it
data Told (causes : StimEnd → Type 0) (text : Text) (ended : Ended) (line : Text) : Type 0 where
  Long : MOST_STIMULUS_BYTES < length text → ended ≡ Limit → line ≡ long_line → Told causes text ended line
  Caused : (end : StimEnd) → length text ≤ MOST_STIMULUS_BYTES → causes end → (end ≡ stim.Memory → ⊥) → ended ≡ answer_to end → line ≡ line_to end → Told causes text ended line

told : (causes : StimEnd → Type 0) (text : Text) (ended : Ended) (line : Text) → IsRefusedBy causes text ended line → Told causes text ended line
told causes text ended line (TooLong over e l) = Long over e l
told causes text ended line (BreaksRule rule entry first second delay within cause e l) = Caused (stim.Refused rule entry first second delay) within cause (λ same. cc) e l
told causes text ended line (IsTooLarge count limit cycles within cause e l) = Caused (stim.Limit count limit cycles) within cause (λ same. cc) e l

told_once : (causes : StimEnd → Type 0) (text : Text) (ended ended' : Ended) (line line' : Text) → CauseIsOne causes → Told causes text ended line → Told causes text ended' line' → (ended ≡ ended') × (line ≡ line')
told_once causes text ended ended' line line' one (Long over e l) (Long over' e' l') = (e ∙ sym e', l ∙ sym l')
told_once causes text ended ended' line line' one (Long over e l) (Caused end within cause not e' l') = absurd (omega (arith, over, within))
told_once causes text ended ended' line line' one (Caused end within cause not e l) (Long over e' l') = absurd (omega (arith, over, within))
told_once causes text ended ended' line line' one (Caused end within cause not e l) (Caused end' within' cause' not' e' l') =
    let same = one end end' cause cause' not not' in
    (e ∙ ap answer_to same ∙ sym e', l ∙ ap line_to same ∙ sym l')

pub refused_by_once : (causes : StimEnd → Type 0) (text : Text) (ended ended' : Ended) (line line' : Text) → CauseIsOne causes → IsRefusedBy causes text ended line → IsRefusedBy causes text ended' line' → (ended ≡ ended') × (line ≡ line')
refused_by_once causes text ended ended' line line' one p q = told_once causes text ended ended' line line' one (told causes text ended line p) (told causes text ended' line' q)

-- a text that gives something is not refused
pub not_refused : (causes : StimEnd → Type 0) (text : Text) (ended : Ended) (line : Text) → length text ≤ MOST_STIMULUS_BYTES → HasNoCause causes → IsRefusedBy causes text ended line → ⊥
not_refused causes text ended line within none (TooLong over e l) = omega (arith, over, within)
not_refused causes text ended line within none (BreaksRule rule entry first second delay within' cause e l) = let same = none (stim.Refused rule entry first second delay) cause in cc
not_refused causes text ended line within none (IsTooLarge count limit cycles within' cause e l) = let same = none (stim.Limit count limit cycles) cause in cc

pub run_is_refused_once : RunIsRefusedOnce
run_is_refused_once = λ text n ended ended' line line' p q.
    refused_by_once _ text ended ended' line line' (run_cause_is_one text (settable_inputs n) (settable_memories n)) p q

pub transactions_are_refused_once : TransactionsAreRefusedOnce
transactions_are_refused_once = λ text c ended ended' line line' p q.
    refused_by_once _ text ended ended' line line' (transaction_cause_is_one text (component_events c)) p q
