-- The rules at the starts of a stimulus of transactions. This project's.
use Rattle.std.specs.Prelude.{ℕ, ◌+◌, ◌*◌, ◌&&◌, ◌==◌, nat_le, Bool, true, false, if◌then◌else◌, is_some, Option, Some, None}
use Rattle.std.specs.Prelude.{List, [], ◌∷◌, map, flat_map, slice_get}
use Rattle.std.specs.List.{list_all, range_with_len, filter, last_or}
use Rattle.std.specs.Option.{unwrap_or}
use Rattle.std.specs.Str.{bytes_eq}
use Rattle.hw_names.specs.Name.{Text}
use Rattle.stim_read.specs.Rules.{Rule, rule, rule_of_starts}
use Rattle.stim_read.specs.CycleRules.{Targets, has_known_name, fits_width, place_in}
use Rattle.stim_read.specs.TxText.{Starts}
use Rattle.stim_read.specs.TxEvents.{Event, EventList}
use Rattle.stim_read.specs.declared.given.Given.{Given}
use Rattle.stim_read.specs.declared.tx_text.EventName.{EventName}
use Rattle.stim_read.specs.declared.tx_text.EventName.TheVariants.{First, Named}

-- one start of an event, with values for names
pub record Start : Type 0 where
  pub event : EventName
  pub start : ℕ
  pub given : List Given

-- the start with this number, counted from 0, among those that an entry stands for
abbrev pub start_of : Starts → ℕ → Start
start_of e k = record { event = e.event; start = e.start + k * e.repeat.every; given = e.given }

abbrev pub starts_of : Starts → List Start
starts_of e = map (start_of e) (range_with_len 0 e.repeat.times)

abbrev pub starts_in : List Starts → List Start
starts_in entries = flat_map starts_of entries

-- the number of an event, counted from 0; the number of events where there is none of that name
abbrev pub event_number : List Text → EventName → ℕ
event_number names First = 0
event_number names (Named name) = place_in names name

abbrev pub event_by : EventList → EventName → Option Event
event_by events name = slice_get events.events (event_number events.names name)

-- the value of a name after more is given
abbrev pub given_after : Option ℕ → List Given → Text → Option ℕ
given_after value [] name = value
given_after value (g ∷ others) name = given_after (if bytes_eq g.name name then Some g.value else value) others name

-- the value that a name is given; no name is given two, since the keys of an object differ
abbrev pub value_given : List Given → Text → Option ℕ
value_given given name = given_after None given name

abbrev pub or_0 : Option ℕ → ℕ
or_0 value = unwrap_or value 0

abbrev pub value_or_0 : List Given → Text → ℕ
value_or_0 given name = or_0 (value_given given name)

abbrev pub is_given : List Given → Text → Bool
is_given given name = is_some (value_given given name)

-- each value fits the width at its place
abbrev pub all_fit : List ℕ → List ℕ → Bool
all_fit [] values = true
all_fit (width ∷ widths) [] = true
all_fit (width ∷ widths) (value ∷ values) = fits_width width value && all_fit widths values

-- what may get values at a start
abbrev pub inputs_of : Option Event → Targets
inputs_of None = record { names = []; widths = [] }
inputs_of (Some event) = event.inputs

abbrev pub delay_of : Option Event → ℕ
delay_of None = 0
delay_of (Some event) = event.delay

-- S3: there is such an event, and each name is one of its inputs
abbrev pub has_known_names : Option Event → Start → Bool
has_known_names None s = false
has_known_names (Some event) s = list_all (has_known_name event.inputs.names) s.given

-- S6: each of these inputs has a value
abbrev pub has_all_values : Targets → Start → Bool
has_all_values inputs s = list_all (is_given s.given) inputs.names

-- S4: the values fit the inputs' widths
abbrev pub values_fit : Targets → Start → Bool
values_fit inputs s = all_fit inputs.widths (map (value_or_0 s.given) inputs.names)

-- S5: a start is at least the delay after the one before, if there is one
abbrev pub starts_after : Option Start → ℕ → Start → Rule
starts_after None delay s = rule 5 true
starts_after (Some before) delay s = rule_of_starts before.start s.start delay (nat_le (before.start + delay) s.start)

-- it starts the event with this number
abbrev pub is_of : List Text → ℕ → Start → Bool
is_of names event s = event_number names s.event == event

-- the last start of the event with this number
abbrev pub last_of : List Text → ℕ → List Start → Option Start
last_of names event starts = last_or None (filter (is_of names event) starts)

-- the rules at a start of this event, if there is one, after the event's last start before it
abbrev pub rules_of : Option Event → Option Start → Start → List Rule
rules_of event before s =
    rule 3 (has_known_names event s) ∷ rule 6 (has_all_values (inputs_of event) s) ∷ rule 4 (values_fit (inputs_of event) s)
    ∷ starts_after before (delay_of event) s ∷ []

-- the rules at a start after the earlier starts
abbrev pub start_rules : EventList → List Start → Start → List Rule
start_rules events earlier s = rules_of (event_by events s.event) (last_of events.names (event_number events.names s.event) earlier) s
