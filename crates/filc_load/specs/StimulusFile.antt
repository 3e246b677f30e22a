-- What the text of a stimulus gives to a netlist or to a component, or the first cause that stands against it. This project's.
use Rattle.std.specs.Prelude.{◌≡◌, ℕ, ◌+◌, ◌<◌, ◌≤◌, Bool, [], length, slice_get, codes, Some}
use Rattle.std.specs.Option.{option_map_or}
use Rattle.hw_names.specs.Name.{Text}
use Rattle.fil_ast.specs.Signature.{component_signature}
use Rattle.fil_ast.specs.Tree.{Event, Component}
use Rattle.net_core.specs.Netlist.{Netlist}
use Rattle.stim_read.specs.CycleRun.{Run, GiveRun, IsCause}
use Rattle.stim_read.specs.TxEvents.{EventList, events_of}
use Rattle.stim_read.specs.TxRun.{TxRun, GiveTransactions, IsTxCause}
use Rattle.stim_read.specs.declared.stim_end.StimEnd.{StimEnd}
use Rattle.stim_read.specs.declared.stim_end.StimEnd.TheVariants as stim
use Rattle.filc_stop.specs.Lines.{limit_line, counted_name, stimulus_line}
use Rattle.filc_stop.specs.Outcome.{Contents, Outcome, refused_with}
use Rattle.filc_load.specs.Settable.{settable_inputs, settable_memories}
use Rattle.filc_stop.specs.declared.ended.Ended.{Ended}
use Rattle.filc_stop.specs.declared.ended.Ended.TheVariants.{Stimulus, Limit}
use Rattle.hw_limits.specs.declared.limits.TheConstants.{MOST_STIMULUS_BYTES}

-- the text is within the limit, keeps the rules S1 to S7 for the netlist, and gives it this run
pub record GivesRun (text : Text) (n : Netlist) (run : Run) : Type 0 where
  pub within : length text ≤ MOST_STIMULUS_BYTES
  pub gives : GiveRun text (settable_inputs n) (settable_memories n) run

-- the name of a component's event, by its number
abbrev pub event_name : Component → ℕ → Text
event_name c number = option_map_or (λ (e : Event). e.name) (slice_get c.events number) []

-- the events that a stimulus may start in a component
abbrev pub component_events : Component → EventList
component_events c = events_of (component_signature c)

-- the text is within the limit, keeps the rules S1 to S6 for the component, and gives it these transactions
pub record GivesTransactions (text : Text) (c : Component) (run : TxRun) : Type 0 where
  pub within : length text ≤ MOST_STIMULUS_BYTES
  pub gives : GiveTransactions text (component_events c) run

-- why a text gives nothing: the first of these causes, with its answer and its line; the last two are of those that stand
-- against what a text says
pub data IsRefusedBy (causes : StimEnd → Type 0) (text : Text) (ended : Ended) (line : Text) : Type 0 where
  TooLong : MOST_STIMULUS_BYTES < length text → ended ≡ Limit → line ≡ limit_line (codes "stimulus") (MOST_STIMULUS_BYTES + 1) MOST_STIMULUS_BYTES →
      IsRefusedBy causes text ended line
  BreaksRule : (rule entry first second delay : ℕ) → length text ≤ MOST_STIMULUS_BYTES → causes (stim.Refused rule entry first second delay) →
      ended ≡ Stimulus → line ≡ stimulus_line rule entry first second delay → IsRefusedBy causes text ended line
  IsTooLarge : (count limit : ℕ) (cycles : Bool) → length text ≤ MOST_STIMULUS_BYTES → causes (stim.Limit count limit cycles) → ended ≡ Limit →
      line ≡ limit_line (counted_name cycles) count limit → IsRefusedBy causes text ended line

-- what stands against a text that is to drive a netlist
abbrev pub run_causes : Text → Netlist → StimEnd → Type 0
run_causes text n = IsCause text (settable_inputs n) (settable_memories n)

-- what stands against a text that is to give transactions of a component
abbrev pub transaction_causes : Text → Component → StimEnd → Type 0
transaction_causes text c = IsTxCause text (component_events c)

-- ---- files

-- the file's text gives the netlist this run
pub record FileGivesRun (contents : Contents) (stimulus : Text) (n : Netlist) (run : Run) : Type 0 where
  pub bytes : Text
  pub told : contents stimulus ≡ Some bytes
  pub gives : GivesRun bytes n run

-- the file's text gives the component these transactions
pub record FileGivesTransactions (contents : Contents) (stimulus : Text) (c : Component) (run : TxRun) : Type 0 where
  pub bytes : Text
  pub told : contents stimulus ≡ Some bytes
  pub gives : GivesTransactions bytes c run

-- the file's text is refused so, by what stands against a text
pub record IsStimulusRefused (contents : Contents) (stimulus : Text) (causes : Text → StimEnd → Type 0) (ended : Ended) (line : Text) : Type 0 where
  pub bytes : Text
  pub told : contents stimulus ≡ Some bytes
  pub refused : IsRefusedBy (causes bytes) bytes ended line

-- the command is refused, as its stimulus gives nothing
pub record IsRefusedForStimulus (contents : Contents) (stimulus : Text) (causes : Text → StimEnd → Type 0) (o : Outcome) : Type 0 where
  pub ended : Ended
  pub line : Text
  pub refused : IsStimulusRefused contents stimulus causes ended line
  pub outcome : o ≡ refused_with ended line
