-- What is read fits what it is for: the inputs and memories of a netlist, or the signature of a component. This project's.
use Rattle.std.specs.Prelude.{◌≡◌, ℕ, ◌+◌, ◌≤◌, ◌<◌, List, length, slice_get, Some, All, AllPairs}
use Rattle.std.specs.List.Sorted.{IsNonDecreasingBy}
use Rattle.hw_bits.specs.Values.{widths_of}
use Rattle.fil_ast.specs.Signature.{Fixed, SigEvent, Signature}
use Rattle.fil_ast.specs.declared.tx.Tx.{Tx}
use Rattle.net_core.specs.declared.stimulus.InputShape.{InputShape}
use Rattle.net_core.specs.declared.stimulus.CycleList.{CycleList}
use Rattle.net_core.specs.declared.stimulus.InputSet.{InputSet}
use Rattle.net_core.specs.declared.stimulus.MemLoad.{MemLoad}
use Rattle.net_core.specs.declared.stimulus.MemShape.{MemShape}
use Rattle.stim_read.specs.CycleRules.{input_targets}
use Rattle.stim_read.specs.TxEvents.{ports_after, port_targets}
use Rattle.stim_read.specs.TxRun.{Transaction}
use Rattle.hw_limits.specs.declared.limits.TheConstants.{MOST_CYCLES}

-- one of these inputs, by its place, is set to a value of that input's width
abbrev pub SetsInput : List InputShape → InputSet → Type 0
SetsInput ins s = slice_get (input_targets ins).widths s.input ≡ Some s.value.width

-- one of these memories, by its place, is loaded with no more words than it has, each of its width
pub record LoadsMemory (mems : List MemShape) (load : MemLoad) : Type 0 where
  pub memory : MemShape
  pub at : slice_get mems load.mem ≡ Some memory
  pub few : length load.words.items ≤ memory.size
  pub widths : All (λ w. w ≡ memory.width) (widths_of load.words.items)

-- what is set fits the inputs and stands in the order of its rows, and what is loaded fits the memories
pub record FitsRun (ins : List InputShape) (mems : List MemShape) (list : CycleList) : Type 0 where
  pub sets : All (SetsInput ins) list.sets.items
  pub in_order : IsNonDecreasingBy (λ (s : InputSet). s.from) list.sets.items
  pub loads : All (LoadsMemory mems) list.loads.items

-- a transaction starts one of the signature's events, within the limit on rows; its values have the widths of the event's data inputs, in their order
pub record FitsSignature (sig : Signature) (tx : Tx) : Type 0 where
  pub event : tx.event < length sig.events
  pub start : tx.start ≤ MOST_CYCLES
  pub widths : widths_of tx.values.items ≡ (port_targets (ports_after tx.event sig.ins)).widths

-- of one event, the second starts after the first, at least the event's delay after it
abbrev pub Follows : Signature → Transaction → Transaction → Type 0
Follows sig first second =
    first.event ≡ second.event → (e : SigEvent) (rows : ℕ) → slice_get sig.events first.event ≡ Some e → e.delay ≡ Fixed rows →
    first.start + rows ≤ second.start

-- a legal list: the starts of each event are at least its delay apart, in their order
abbrev pub AreLegal : Signature → List Transaction → Type 0
AreLegal sig txs = AllPairs (Follows sig) txs
