-- What the objects of a stimulus of transactions mean, by what their members mean.
use Rattle.std.proofs.Common.{◌≡◌, ℕ, true, false, List, codes, Some, None, refl}
use Rattle.serde_json.specs.Data.{Data}
use Rattle.serde_json.specs.Find.{get}
use Rattle.stim_read.specs.Parts.{is_object_of, number_at}
use Rattle.stim_read.specs.CycleText.{givens_at}
use Rattle.stim_read.specs.TxText.{tx_keys, repeat_at, event_at, starts_fit, tx_entry_in}
use Rattle.stim_read.specs.declared.amounts.Version.{Version}
use Rattle.stim_read.specs.declared.given.Given.{Given}
use Rattle.stim_read.specs.declared.tx_text.EventName.{EventName}
use Rattle.stim_read.specs.declared.tx_text.Repeat.{Repeat}

-- the members of an entry of `transactions`
pub record HasMembers (version : Version) (value : Data) (start : ℕ) (given : List Given) (repeat : Repeat) (event : EventName) : Type 0 where
  pub shape : is_object_of (tx_keys version) value ≡ true
  pub start_is : number_at (codes "start") value ≡ Some start
  pub given_is : givens_at version (codes "inputs") value ≡ Some given
  pub repeat_is : repeat_at (get (codes "repeat") value) ≡ Some repeat
  pub event_is : event_at (get (codes "event") value) ≡ Some event

pub tx_shapeless : (version : Version) (value : Data) → is_object_of (tx_keys version) value ≡ false → tx_entry_in version value ≡ None
tx_shapeless version value shape = rw shape refl

pub tx_no_start : (version : Version) (value : Data) → is_object_of (tx_keys version) value ≡ true → number_at (codes "start") value ≡ None → tx_entry_in version value ≡ None
tx_no_start version value shape start = rw (shape, start) refl

pub tx_no_given : (version : Version) (value : Data) (n : ℕ) → is_object_of (tx_keys version) value ≡ true → number_at (codes "start") value ≡ Some n → givens_at version (codes "inputs") value ≡ None → tx_entry_in version value ≡ None
tx_no_given version value n shape start given = rw (shape, start, given) refl

pub tx_no_repeat : (version : Version) (value : Data) (n : ℕ) (gs : List Given) → is_object_of (tx_keys version) value ≡ true → number_at (codes "start") value ≡ Some n → givens_at version (codes "inputs") value ≡ Some gs
    → repeat_at (get (codes "repeat") value) ≡ None → tx_entry_in version value ≡ None
tx_no_repeat version value n gs shape start given repeat = rw (shape, start, given, repeat) refl

pub tx_no_event : (version : Version) (value : Data) (n : ℕ) (gs : List Given) (r : Repeat) → is_object_of (tx_keys version) value ≡ true → number_at (codes "start") value ≡ Some n → givens_at version (codes "inputs") value ≡ Some gs
    → repeat_at (get (codes "repeat") value) ≡ Some r → event_at (get (codes "event") value) ≡ None → tx_entry_in version value ≡ None
tx_no_event version value n gs r shape start given repeat event = rw (shape, start, given, repeat, event) refl

pub tx_too_late : (version : Version) (value : Data) (n : ℕ) (gs : List Given) (r : Repeat) (e : EventName) → HasMembers version value n gs r e → starts_fit n r ≡ false → tx_entry_in version value ≡ None
tx_too_late version value n gs r e m late = rw (m.shape, m.start_is, m.given_is, m.repeat_is, m.event_is, late) refl

pub tx_is : (version : Version) (value : Data) (n : ℕ) (gs : List Given) (r : Repeat) (e : EventName) → HasMembers version value n gs r e → starts_fit n r ≡ true
    → tx_entry_in version value ≡ Some (record { event = e; start = n; given = gs; repeat = r })
tx_is version value n gs r e m fits = rw (m.shape, m.start_is, m.given_is, m.repeat_is, m.event_is, fits) refl
