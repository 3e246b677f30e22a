-- A stimulus gives one thing, or is refused for one cause. This project's.
use Rattle.std.specs.Prelude.{◌≡◌, List}
use Rattle.hw_names.specs.Name.{Text}
use Rattle.fil_ast.specs.Tree.{Component}
use Rattle.net_core.specs.declared.stimulus.InputShape.{InputShape}
use Rattle.net_core.specs.Netlist.{Netlist}
use Rattle.net_core.specs.declared.stimulus.MemShape.{MemShape}
use Rattle.stim_read.specs.CycleRun.{Run, GiveRun, IsCause}
use Rattle.stim_read.specs.TxEvents.{EventList}
use Rattle.stim_read.specs.TxRun.{TxRun, GiveTransactions, IsTxCause}
use Rattle.stim_read.specs.declared.stim_end.StimEnd.{StimEnd}
use Rattle.stim_read.specs.declared.stim_end.StimEnd.TheVariants.{Memory}
use Rattle.filc_stop.specs.declared.ended.Ended.{Ended}
use Rattle.filc_load.specs.StimulusFile.{IsRefusedBy, run_causes, transaction_causes}

-- one cause, but for want of memory, which may be at any time
abbrev pub CauseIsOne : (StimEnd → Type 0) → Type 0
CauseIsOne causes = (end other : StimEnd) → causes end → causes other → (end ≡ Memory → ⊥) → (other ≡ Memory → ⊥) → end ≡ other

-- no cause but want of memory
abbrev pub HasNoCause : (StimEnd → Type 0) → Type 0
HasNoCause causes = (end : StimEnd) → causes end → end ≡ Memory

-- what a text gives to a run
abbrev pub RunIsGivenOnce : Type 0
RunIsGivenOnce =
    (text : Text) (ins : List InputShape) (mems : List MemShape) (run other : Run) → GiveRun text ins mems run → GiveRun text ins mems other → run ≡ other

abbrev pub RunCauseIsOne : Type 0
RunCauseIsOne = (text : Text) (ins : List InputShape) (mems : List MemShape) → CauseIsOne (IsCause text ins mems)

abbrev pub GivenRunHasNoCause : Type 0
GivenRunHasNoCause = (text : Text) (ins : List InputShape) (mems : List MemShape) (run : Run) → GiveRun text ins mems run → HasNoCause (IsCause text ins mems)

-- what a text gives to a component
abbrev pub TransactionsAreGivenOnce : Type 0
TransactionsAreGivenOnce =
    (text : Text) (events : EventList) (run other : TxRun) → GiveTransactions text events run → GiveTransactions text events other → run ≡ other

abbrev pub TransactionCauseIsOne : Type 0
TransactionCauseIsOne = (text : Text) (events : EventList) → CauseIsOne (IsTxCause text events)

abbrev pub GivenTransactionsHaveNoCause : Type 0
GivenTransactionsHaveNoCause = (text : Text) (events : EventList) (run : TxRun) → GiveTransactions text events run → HasNoCause (IsTxCause text events)

-- a text that gives nothing is refused with one answer and one line
abbrev pub RunIsRefusedOnce : Type 0
RunIsRefusedOnce =
    (text : Text) (n : Netlist) (ended ended' : Ended) (line line' : Text) →
    IsRefusedBy (run_causes text n) text ended line → IsRefusedBy (run_causes text n) text ended' line' → (ended ≡ ended') × (line ≡ line')

abbrev pub TransactionsAreRefusedOnce : Type 0
TransactionsAreRefusedOnce =
    (text : Text) (c : Component) (ended ended' : Ended) (line line' : Text) →
    IsRefusedBy (transaction_causes text c) text ended line → IsRefusedBy (transaction_causes text c) text ended' line' → (ended ≡ ended') × (line ≡ line')
