-- Causes for which a stimulus is refused: of fewer, and of one.
use Rattle.std.proofs.Common.{◌≡◌, Option, sym, subst}
use Rattle.hw_names.specs.Name.{Text}
use Rattle.stim_read.specs.declared.stim_end.StimEnd.{StimEnd}
use Rattle.filc_load.specs.Built.{GivesNothing, IsNotGiven}
use Rattle.filc_load.specs.StimulusFile.{IsRefusedBy, TooLong, BreaksRule, IsTooLarge}
use Rattle.filc_stop.specs.Stops.{answer_of, refusal_line}
use Rattle.filc_stop.specs.declared.ended.Ended.{Ended}
use Rattle.filc_stop.specs.declared.stop.Stop.{Stop}
use Rattle.filc_stop.specs.declared.stop.Stop.TheVariants as stop

refused_more : (fewer causes : StimEnd → Type 0) → ((end : StimEnd) → fewer end → causes end) → (text : Text) (ended : Ended) (line : Text) → IsRefusedBy fewer text ended line → IsRefusedBy causes text ended line
refused_more fewer causes more text ended line (TooLong long is tells) = TooLong long is tells
refused_more fewer causes more text ended line (BreaksRule rule entry first second delay within cause is tells) = BreaksRule rule entry first second delay within (more _ cause) is tells
refused_more fewer causes more text ended line (IsTooLarge count limit cycles within cause is tells) = IsTooLarge count limit cycles within (more _ cause) is tells

-- what gives nothing for this cause gives nothing for causes among which it is
pub gives_nothing_for : (causes : StimEnd → Type 0) (end : StimEnd) (text : Text) (why : Stop) → causes end → GivesNothing (λ cause. cause ≡ end) text why → GivesNothing causes text why
gives_nothing_for causes end text stop.ReadFault is none = none
gives_nothing_for causes end text stop.StimulusReadFault is none = none
gives_nothing_for causes end text (stop.Refused why) is none = refused_more (λ cause. cause ≡ end) causes (λ cause same. subst causes (sym same) is) text (answer_of why) (refusal_line why) none
gives_nothing_for causes end text stop.WriteFault is none = none
gives_nothing_for causes end text stop.Memory is none = none

-- a stimulus that wasn't read is refused whatever its causes would be
pub not_given_for : (contents : Text → Option Text) (stimulus : Text) (causes : Text → StimEnd → Type 0) (why : Stop) → IsNotGiven contents stimulus (λ text end. ⊥) why → IsNotGiven contents stimulus causes why
not_given_for contents stimulus causes stop.ReadFault none = none
not_given_for contents stimulus causes stop.StimulusReadFault none = none
not_given_for contents stimulus causes (stop.Refused why) none =
    record { bytes = none.bytes; told = none.told; refused = refused_more (λ end. ⊥) (causes none.bytes) (λ end no. absurd no) none.bytes (answer_of why) (refusal_line why) none.refused }
not_given_for contents stimulus causes stop.WriteFault none = none
not_given_for contents stimulus causes stop.Memory none = none
