-- A stimulus gives a netlist one run, or a component one list of transactions, or it is refused, not both.
use Rattle.std.proofs.Common.{◌≡◌, ℕ, ◌≤◌, List, Option, Some, None, length, refl, sym, ap, subst, ◌∙◌, arith}
use Rattle.std.proofs.lemmas.Option.{same_Some}
use Rattle.hw_names.specs.Name.{Text}
use Rattle.net_core.specs.declared.stimulus.InputShape.{InputShape}
use Rattle.net_core.specs.declared.stimulus.MemShape.{MemShape}
use Rattle.stim_read.specs.CycleText.{Cycles, cycles_in}
use Rattle.stim_read.specs.CycleRules.{KeepsRules}
use Rattle.stim_read.specs.CycleRun.{Run, run_of, SayCycles, GiveRun, NoMemory, ByS1, IsUnsaid, NoValue, ByS2, IsCause, NoStimulus, ByRule}
use Rattle.stim_read.specs.TxEvents.{EventList}
use Rattle.stim_read.specs.TxText.{Transactions, transactions_in}
use Rattle.stim_read.specs.TxRun.{TxRun, tx_run_of, KeepsTxRules, SayTransactions, GiveTransactions, IsNoTransactions, NoJson, NotTransactions, IsTxCause, NoTransactions, BrokenRule}
use Rattle.stim_read.specs.declared.stim_end.StimEnd.{StimEnd}
use Rattle.stim_read.specs.declared.stim_end.StimEnd.TheVariants as stim
use Rattle.stim_read.proofs.CycleRuleLemmas.{kept_unbroken}
use Rattle.stim_read.proofs.TxRuleLemmas.{kept_tx_unbroken}
use Rattle.filc_load.specs.StimulusFile.{IsRefusedBy, TooLong, BreaksRule, IsTooLarge}
use Rattle.filc_stop.specs.declared.ended.Ended.{Ended}
use Rattle.hw_limits.specs.declared.limits.TheConstants.{MOST_STIMULUS_BYTES}

-- what is read of one text is one value, and says one thing
said_once : {V A : Type 0} {read : Option V} (says : V → Option A) (v v' : V) (o o' : Option A) → read ≡ Some v → read ≡ Some v' → says v ≡ o → says v' ≡ o' → o ≡ o'
said_once says v v' o o' is is' said said' = sym said ∙ ap says (same_Some v v' (sym is ∙ is')) ∙ said'

one_text : (bytes : List ℕ) (c c' : Cycles) → SayCycles bytes c → SayCycles bytes c' → c ≡ c'
one_text bytes c c' said said' = same_Some c c' (said_once cycles_in said.value said'.value (Some c) (Some c') said.json.reads said'.json.reads said.says said'.says)

one_list : (bytes : List ℕ) (t t' : Transactions) → SayTransactions bytes t → SayTransactions bytes t' → t ≡ t'
one_list bytes t t' said said' = same_Some t t' (said_once transactions_in said.value said'.value (Some t) (Some t') said.json.reads said'.json.reads said.says said'.says)

-- a text gives one run
pub one_stimulus_run : (bytes : List ℕ) (ins : List InputShape) (mems : List MemShape) (run run' : Run) → GiveRun bytes ins mems run → GiveRun bytes ins mems run' → run ≡ run'
one_stimulus_run bytes ins mems run run' gives gives' =
    gives.gives ∙ ap (run_of ins mems) (one_text bytes gives.stimulus gives'.stimulus gives.said gives'.said) ∙ sym gives'.gives

-- and one list of transactions
pub one_stimulus_list : (bytes : List ℕ) (events : EventList) (run run' : TxRun) → GiveTransactions bytes events run → GiveTransactions bytes events run' → run ≡ run'
one_stimulus_list bytes events run run' gives gives' =
    gives.gives ∙ ap (tx_run_of events) (one_list bytes gives.stimulus gives'.stimulus gives.said gives'.said) ∙ sym gives'.gives

-- ---- what a text says has no cause against it but want of memory

said_end : (bytes : List ℕ) (c : Cycles) (end : StimEnd) → SayCycles bytes c → IsUnsaid bytes end → end ≡ stim.Memory
said_end bytes c _ said (NoValue _ NoMemory) = refl
said_end bytes c _ said (NoValue _ (ByS1 none)) = absurd (none said.value said.json)
said_end bytes c _ said (ByS2 value json none) = absurd (let e = said_once cycles_in value said.value None (Some c) json.reads said.json.reads none said.says in cc e)

said_tx_end : (bytes : List ℕ) (t : Transactions) (end : StimEnd) → SayTransactions bytes t → IsNoTransactions bytes end → end ≡ stim.Memory
said_tx_end bytes t _ said (NoJson _ NoMemory) = refl
said_tx_end bytes t _ said (NoJson _ (ByS1 none)) = absurd (none said.value said.json)
said_tx_end bytes t _ said (NotTransactions value json none) =
    absurd (let e = said_once transactions_in value said.value None (Some t) json.reads said.json.reads none said.says in cc e)

pub given_end : (bytes : List ℕ) (ins : List InputShape) (mems : List MemShape) (run : Run) (end : StimEnd) → GiveRun bytes ins mems run → IsCause bytes ins mems end → end ≡ stim.Memory
given_end bytes ins mems run _ gives (NoStimulus end unsaid) = said_end bytes gives.stimulus end gives.said unsaid
given_end bytes ins mems run _ gives (ByRule c end said breaks) =
    absurd (kept_unbroken ins mems c end (subst (KeepsRules ins mems) (one_text bytes gives.stimulus c gives.said said) gives.kept) breaks)

pub given_tx_end : (bytes : List ℕ) (events : EventList) (run : TxRun) (end : StimEnd) → GiveTransactions bytes events run → IsTxCause bytes events end → end ≡ stim.Memory
given_tx_end bytes events run _ gives (NoTransactions end unsaid) = said_tx_end bytes gives.stimulus end gives.said unsaid
given_tx_end bytes events run _ gives (BrokenRule t end said breaks) =
    absurd (kept_tx_unbroken events t end (subst (KeepsTxRules events) (one_list bytes gives.stimulus t gives.said said) gives.kept) breaks)

-- a text against which nothing but want of memory stands isn't refused
pub not_refused_by : (causes : StimEnd → Type 0) (text : Text) (ended : Ended) (line : Text) → ((end : StimEnd) → causes end → end ≡ stim.Memory) → length text ≤ MOST_STIMULUS_BYTES → IsRefusedBy causes text ended line → ⊥
not_refused_by causes text ended line only within (TooLong long is tells) = omega (arith, long, within)
not_refused_by causes text ended line only within (BreaksRule rule entry first second delay short cause is tells) =
    let e = only (stim.Refused rule entry first second delay) cause in cc e
not_refused_by causes text ended line only within (IsTooLarge count limit cycles short cause is tells) =
    let e = only (stim.Limit count limit cycles) cause in cc e
