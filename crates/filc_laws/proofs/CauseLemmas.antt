-- A stimulus gives one thing, or has one cause against it: what its bytes say is a function of them.
use Rattle.std.proofs.Common.{◌≡◌, ℕ, List, ◌⊎◌, inl, inr, Option, Some, None, refl, sym, ap, subst, ◌∙◌}
use Rattle.std.proofs.lemmas.Option.{same_Some}
use Rattle.serde_json.specs.Data.{Data}
use Rattle.net_core.specs.declared.stimulus.InputShape.{InputShape}
use Rattle.net_core.specs.declared.stimulus.MemShape.{MemShape}
use Rattle.stim_read.specs.Rules.{refused}
use Rattle.stim_read.specs.CycleRules.{KeepsRules, BreaksFirst}
use Rattle.stim_read.specs.CycleRun.{IsJson, IsNoJson, NoMemory, ByS1, IsUnsaid, NoValue, ByS2, IsCause, NoStimulus, ByRule, run_of}
use Rattle.stim_read.specs.CycleText.{cycles_in}
use Rattle.stim_read.specs.TxEvents.{EventList}
use Rattle.stim_read.specs.TxRun.{IsNoTransactions, NoJson, NotTransactions, IsTxCause, NoTransactions, BrokenRule, KeepsTxRules, BreaksFirstTx, tx_run_of}
use Rattle.stim_read.specs.TxText.{transactions_in}
use Rattle.stim_read.specs.declared.stim_end.StimEnd.{StimEnd}
use Rattle.stim_read.specs.declared.stim_end.StimEnd.TheVariants.{Refused, Limit, Memory}
use Rattle.stim_read.proofs.CycleRuleLemmas.{one_break, kept_unbroken}
use Rattle.stim_read.proofs.TxRuleLemmas.{one_tx_break, kept_tx_unbroken}
use Rattle.filc_laws.specs.OneStimulus.{RunIsGivenOnce, RunCauseIsOne, GivenRunHasNoCause, TransactionsAreGivenOnce, TransactionCauseIsOne, GivenTransactionsHaveNoCause}

json_once : (bytes : List ℕ) (v w : Data) → IsJson bytes v → IsJson bytes w → v ≡ w
json_once bytes v w p q = same_Some v w (sym p.reads ∙ q.reads)

-- ---- causes, whatever the stimulus is for

-- the bytes are no JSON value, or the value says nothing of this sort, or what it says breaks a limit or a rule
data Cause {T : Type 0} (bytes : List ℕ) (means : Data → Option T) (breaks : T → StimEnd → Type 0) (end : StimEnd) : Type 0 where
  NoneIsRead : ((value : Data) → IsJson bytes value → ⊥) → end ≡ refused 1 0 → Cause bytes means breaks end
  NothingIsSaid : (value : Data) → IsJson bytes value → means value ≡ None → end ≡ refused 2 0 → Cause bytes means breaks end
  IsBroken : (value : Data) (t : T) → IsJson bytes value → means value ≡ Some t → breaks t end → Cause bytes means breaks end

module _ {T : Type 0} (bytes : List ℕ) (means : Data → Option T) where
  same_meaning : (v w : Data) (t u : T) → IsJson bytes v → IsJson bytes w → means v ≡ Some t → means w ≡ Some u → t ≡ u
  same_meaning v w t u p q e f = same_Some t u (sym e ∙ ap means (json_once bytes v w p q) ∙ f)

  no_meaning : (v w : Data) (t : T) → IsJson bytes v → IsJson bytes w → means v ≡ None → means w ≡ Some t → ⊥
  no_meaning v w t p q e f = let clash : None ≡ Some t = sym e ∙ ap means (json_once bytes v w p q) ∙ f in cc

  module _ (breaks : T → StimEnd → Type 0) (once : (t : T) (a b : StimEnd) → breaks t a → breaks t b → a ≡ b) where
    cause_once : (a b : StimEnd) → Cause bytes means breaks a → Cause bytes means breaks b → a ≡ b
    cause_once a b (NoneIsRead none e) (NoneIsRead none' e') = e ∙ sym e'
    cause_once a b (NoneIsRead none e) (NothingIsSaid w q m e') = absurd (none w q)
    cause_once a b (NoneIsRead none e) (IsBroken w u q m e') = absurd (none w q)
    cause_once a b (NothingIsSaid v p m e) (NoneIsRead none e') = absurd (none v p)
    cause_once a b (NothingIsSaid v p m e) (NothingIsSaid w q m' e') = e ∙ sym e'
    cause_once a b (NothingIsSaid v p m e) (IsBroken w u q m' e') = absurd (no_meaning v w u p q m m')
    cause_once a b (IsBroken v t p m e) (NoneIsRead none e') = absurd (none v p)
    cause_once a b (IsBroken v t p m e) (NothingIsSaid w q m' e') = absurd (no_meaning w v t q p m' m)
    cause_once a b (IsBroken v t p m e) (IsBroken w u q m' e') = once t a b e (subst (λ x. breaks x b) (sym (same_meaning v w t u p q m m')) e')

  -- what keeps all has no cause
  no_cause : (breaks : T → StimEnd → Type 0) (keeps : T → Type 0) → ((t : T) (end : StimEnd) → keeps t → breaks t end → ⊥)
      → (end : StimEnd) (w : Data) (u : T) → Cause bytes means breaks end → IsJson bytes w → means w ≡ Some u → keeps u → ⊥
  no_cause breaks keeps unbroken end w u (NoneIsRead none e) q m' kept = none w q
  no_cause breaks keeps unbroken end w u (NothingIsSaid v p m e) q m' kept = no_meaning v w u p q m m'
  no_cause breaks keeps unbroken end w u (IsBroken v t p m e) q m' kept = unbroken t end (subst keeps (sym (same_meaning v w t u p q m m')) kept) e

json_cause : (bytes : List ℕ) (end : StimEnd) → (end ≡ Memory → ⊥) → IsNoJson bytes end → ((value : Data) → IsJson bytes value → ⊥) × (end ≡ refused 1 0)
json_cause bytes end not NoMemory = absurd (not refl)
json_cause bytes end not (ByS1 none) = (none, refl)

-- ---- stimuli of cycles

unsaid_cause : (bytes : List ℕ) (ins : List InputShape) (mems : List MemShape) (end : StimEnd) → (end ≡ Memory → ⊥) → IsUnsaid bytes end → Cause bytes cycles_in (BreaksFirst ins mems) end
unsaid_cause bytes ins mems end not (NoValue e none) = let r = json_cause bytes e not none in NoneIsRead r.0 r.1
unsaid_cause bytes ins mems end not (ByS2 value json none) = NothingIsSaid value json none refl

run_cause : (bytes : List ℕ) (ins : List InputShape) (mems : List MemShape) (end : StimEnd) → (end ≡ Memory → ⊥) → IsCause bytes ins mems end → Cause bytes cycles_in (BreaksFirst ins mems) end
run_cause bytes ins mems end not (NoStimulus e unsaid) = unsaid_cause bytes ins mems e not unsaid
run_cause bytes ins mems end not (ByRule c e said breaks) = IsBroken said.value c said.json said.says breaks

pub run_is_given_once : RunIsGivenOnce
run_is_given_once = λ text ins mems run other p q.
    let same = same_meaning text cycles_in p.said.value q.said.value p.stimulus q.stimulus p.said.json q.said.json p.said.says q.said.says in
    p.gives ∙ ap (run_of ins mems) same ∙ sym q.gives

pub run_cause_is_one : RunCauseIsOne
run_cause_is_one = λ text ins mems end other p q not not'.
    cause_once text cycles_in (BreaksFirst ins mems) (one_break ins mems) end other (run_cause text ins mems end not p) (run_cause text ins mems other not' q)

-- an end is want of memory or not
is_memory : (end : StimEnd) → (end ≡ Memory) ⊎ (end ≡ Memory → ⊥)
is_memory (Refused rule entry first second delay) = inr (λ e. cc)
is_memory (Limit count limit cycles) = inr (λ e. cc)
is_memory Memory = inl refl

pub given_run_has_no_cause : GivenRunHasNoCause
given_run_has_no_cause = λ text ins mems run g end cause. elim (is_memory end) [
  | inl is ↦ is
  | inr not ↦ absurd (no_cause text cycles_in (BreaksFirst ins mems) (KeepsRules ins mems) (λ c e. kept_unbroken ins mems c e) end g.said.value g.stimulus (run_cause text ins mems end not cause) g.said.json g.said.says g.kept)
]

-- ---- stimuli of transactions

no_tx_cause : (bytes : List ℕ) (events : EventList) (end : StimEnd) → (end ≡ Memory → ⊥) → IsNoTransactions bytes end → Cause bytes transactions_in (BreaksFirstTx events) end
no_tx_cause bytes events end not (NoJson e none) = let r = json_cause bytes e not none in NoneIsRead r.0 r.1
no_tx_cause bytes events end not (NotTransactions value json none) = NothingIsSaid value json none refl

tx_cause : (bytes : List ℕ) (events : EventList) (end : StimEnd) → (end ≡ Memory → ⊥) → IsTxCause bytes events end → Cause bytes transactions_in (BreaksFirstTx events) end
tx_cause bytes events end not (NoTransactions e none) = no_tx_cause bytes events e not none
tx_cause bytes events end not (BrokenRule t e said breaks) = IsBroken said.value t said.json said.says breaks

pub transactions_are_given_once : TransactionsAreGivenOnce
transactions_are_given_once = λ text events run other p q.
    let same = same_meaning text transactions_in p.said.value q.said.value p.stimulus q.stimulus p.said.json q.said.json p.said.says q.said.says in
    p.gives ∙ ap (tx_run_of events) same ∙ sym q.gives

pub transaction_cause_is_one : TransactionCauseIsOne
transaction_cause_is_one = λ text events end other p q not not'.
    cause_once text transactions_in (BreaksFirstTx events) (one_tx_break events) end other (tx_cause text events end not p) (tx_cause text events other not' q)

pub given_transactions_have_no_cause : GivenTransactionsHaveNoCause
given_transactions_have_no_cause = λ text events run g end cause. elim (is_memory end) [
  | inl is ↦ is
  | inr not ↦ absurd (no_cause text transactions_in (BreaksFirstTx events) (KeepsTxRules events) (λ t e. kept_tx_unbroken events t e) end g.said.value g.stimulus (tx_cause text events end not cause) g.said.json g.said.says g.kept)
]
