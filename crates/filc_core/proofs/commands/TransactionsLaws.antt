-- What comes of the transactions of a design's top component.
use Rattle.std.proofs.Common.{◌≡◌, ◌⊎◌, ℕ, ◌≤◌, List, [], ◌∷◌, map, Option, IsSome, Result, Err, refl, sym, ap, ap₂, subst, ◌∙◌, inl, inr, ⊎_elim}
use Rattle.std.proofs.lemmas.List.Elements.{All-weaker}
use Rattle.std.proofs.lemmas.Option.{same_Some}
use Rattle.std.specs.Prelude.{slice_get, All, Contains, IfErr, IsErrOf, OnOk, OnErr}
use Rattle.std.specs.Result.{IsErrAnd}
use Rattle.hw_io.specs.Faults.{Rose}
use Rattle.hw_io.specs.Reading.{KeepsFiles, IsReadFault}
use Rattle.std.specs.Io.KnownBytes.{Appends}
use Rattle.hw_io.specs.Writing.{AppendsPrefix}
use Rattle.hw_names.specs.Name.{Text}
use Rattle.fil_ast.specs.Holds as holds
use Rattle.fil_ast.specs.Top.{IsTop}
use Rattle.fil_ast.specs.declared.tx.TxList.{TxList}
use Rattle.fil_ast.specs.Tree.{Component, Design}
use Rattle.fil_driven.specs.Laws.{IsTransactionOf, AreTransactionsOf}
use Rattle.fil_share.specs.Uses.{starts_of}
use Rattle.stim_read.specs.TxRun.{Transaction, TxRun, transaction_seen, tx_run_seen}
use Rattle.filc_load.proofs.TopLemmas.{one_number}
use Rattle.filc_load.specs.Built.{KnowsFile, AreGivenBy, FitsComponent, IsNotGiven}
use Rattle.filc_load.specs.FilFile.{HasTop}
use Rattle.filc_load.specs.Source.{FileGivesFil, IsRefusedForSource}
use Rattle.filc_load.specs.StimulusFile.{FileGivesTransactions, IsRefusedForStimulus, transaction_causes}
use Rattle.filc_stop.specs.Leaving.{MakesNone, Leaves}
use Rattle.filc_stop.specs.Outcome.{Contents, Outcome, done_with}
use Rattle.filc_stop.specs.Stops.{IsOfStimulus, IsWritingStop}
use Rattle.filc_stop.specs.declared.language.Language.TheVariants.{Filament}
use Rattle.filc_stop.specs.declared.stop.Stop.{Stop}
use Rattle.filc_stop.specs.declared.stop.Stop.TheVariants as stop
use Rattle.filc_core.proofs.TellLemmas.{fil_too, source_too, stimulus_too, transactions_too}
use Rattle.filc_core.proofs.CommandLaws.{CommandLaws}
use Rattle.filc_core.proofs.PerformLemmas.{ReadsDesign, DesignRead, IsNoReadFault, idle, passed_by, text_leaves, both_told, by_earlier, design_told, stimulus_told, stimulus_stops, read_both, reports, if_stops, no_fault_at_writing}
use Rattle.filc_core.proofs.SourceLemmas.{accepted_not_refused, is_told, one_fil, one_given_list, list_not_refused}
use Rattle.filc_core.specs.Arguments.{Arguments}
use Rattle.filc_core.specs.Call.{disk_of}
use Rattle.filc_core.specs.Command.{Command, stimulus_file}
use Rattle.filc_core.specs.Files.{AreTold}
use Rattle.filc_core.specs.inside.Performing.{Performs}
use Rattle.filc_core.specs.commands.Flow.{flow, flow_of_top}
use Rattle.filc_core.specs.commands.SimFil.{rows_of_top, sim_fil}
use Rattle.filc_core.specs.commands.Timeline.{holds_in_top, timeline}
use Rattle.filc_core.specs.commands.Transactions.{Top, GivesTop, GivesTransactionsOf, IsRefusedWithTop, Prints, transactions}

-- a file gives one top component
same_top : (contents : Contents) (file : Text) (top other : Top) → GivesTop contents file top → GivesTop contents file other → top ≡ other
same_top contents file top other gives gives' =
    let design = one_fil contents file top.design other.design gives.gives gives'.gives in
    let number = one_number other.design top.number other.number (subst (λ (d : Design). IsTop d top.number) design gives.top) gives'.top in
    let comp = same_Some top.comp other.comp (sym gives.at ∙ ap₂ slice_get design number ∙ gives'.at) in
    λ k. record { design = design k; number = number k; comp = comp k }

-- the transactions that were loaded for a component are its own, a legal list
pub loaded_transactions : (c : Component) (list : TxList) → All (FitsComponent c) list.txs.items → holds.AreLegalStarts c (starts_of c list.txs.items) → AreTransactionsOf c list
loaded_transactions c list fit legal = record {
  each = All-weaker (FitsComponent c) (IsTransactionOf c) (λ tx is. record { event = is.event; start = is.start; widths = is.widths }) list.txs.items fit;
  legal = legal;
}

module _ (c : Arguments) (contents : Contents) (top : Top) (run : TxRun) (gives : GivesTransactionsOf c contents top run) where
  -- what gives transactions is not refused
  pub top_not_refused : (o : Outcome) → IsRefusedWithTop c contents o → ⊥
  top_not_refused o refused =
      list_not_refused contents c.stimulus top.comp run o gives.gives_transactions
      (subst (λ (t : Top). IsRefusedForStimulus contents c.stimulus (λ bytes. transaction_causes bytes t.comp) o) (same_top contents c.design refused.top top refused.gives gives.gives_top) refused.refused)

  -- and gives one list, to one component
  pub given_top : (other : Top) (run' : TxRun) → GivesTransactionsOf c contents other run' → other ≡ top
  given_top other run' gives' = same_top contents c.design other top gives'.gives_top gives.gives_top

  pub given_run : (other : Top) (run' : TxRun) → GivesTransactionsOf c contents other run' → run' ≡ run
  given_run other run' gives' =
      one_given_list contents c.stimulus top.comp run' run
      (subst (λ (t : Top). FileGivesTransactions contents c.stimulus t.comp run') (given_top other run' gives') gives'.gives_transactions) gives.gives_transactions

module _ (told : Top → List Transaction → Text) (c : Arguments) where
  pub started_reads : ReadsDesign (transactions told) c Filament (stimulus_file c.stimulus ∷ [])
  started_reads = record { files = refl; refused = λ contents o refused. inl refused; stops = λ why of. inl of }

  module _ (contents : Contents) (top : Top) where
    -- a stimulus that gives the top component nothing
    pub started_refused : GivesTop contents c.design top → (o : Outcome) → IsRefusedForStimulus contents c.stimulus (λ bytes. transaction_causes bytes top.comp) o → (made : Text) → (transactions told c).comes contents made o
    started_refused gives o refused made = inr (inl (record { top = top; gives = gives; refused = refused }))

    -- of transactions comes what is told of them alone
    pub started_comes : (run : TxRun) → GivesTransactionsOf c contents top run → (made : Text) (o : Outcome) → (transactions told c).comes contents made o → o ≡ done_with (told top run.transactions)
    started_comes run gives made o (inl refused) = absurd (accepted_not_refused contents c.design Filament o (top.design, gives.gives_top.gives) refused)
    started_comes run gives made o (inr (inl refused)) = absurd (top_not_refused c contents top run gives o refused)
    started_comes run gives made o (inr (inr prints)) =
        prints.outcome ∙ ap₂ (λ (t : Top) (a : TxRun). done_with (told t a.transactions)) (given_top c contents top run gives prints.top prints.run prints.gives) (given_run c contents top run gives prints.top prints.run prints.gives)

    -- what was written of them is what the command leaves
    pub started_leaves : (run : TxRun) → GivesTransactionsOf c contents top run → (result : Result (Unit {0}) Stop) (out out' : Option Text)
        → OnOk result (Appends out out' (told top run.transactions)) → OnErr result (AppendsPrefix out out' (told top run.transactions)) → IfErr result IsWritingStop
        → Leaves MakesNone ((transactions told c).comes contents) result out out'
    started_leaves run gives result out out' written part stops =
        text_leaves ((transactions told c).comes contents) (told top run.transactions) result out out'
        (inr (inr (record { top = top; run = run; gives = gives; outcome = refl }))) (λ o comes. started_comes run gives [] o comes) written part stops

-- what a design's file and a stimulus's file give, where both are told: the second by the contents after the first was read
pub transactions_given : (command : Arguments → Command) (c : Arguments) → ReadsDesign command c Filament (stimulus_file c.stimulus ∷ []) → (contents now : Contents) → ((name : Text) → now name ≡ contents name) → AreTold contents (command c).files
    → (top : Top) → HasTop top.design top.number top.comp → (IsSome (contents c.design) → FileGivesFil contents c.design top.design) → (list : TxList) → (IsSome (now c.stimulus) → AreGivenBy now c.stimulus top.comp list) → GivesTransactionsOf c contents top (tx_run_seen list)
transactions_given command c reads contents now kept told top has gives list given =
    let gives_fil = gives (design_told command c Filament (stimulus_file c.stimulus ∷ []) reads contents told) in
    record {
      gives_top = record { gives = gives_fil; top = has.is_top; at = has.at };
      gives_transactions = by_earlier contents now c.stimulus (λ (k : Contents). AreGivenBy k c.stimulus top.comp list) kept (stimulus_told command c Filament reads contents told (top.design, gives_fil)) given;
    }

-- ---- what a command performs

-- a command that reads the transactions of a design's top component
pub record ReadsTransactions (command : Arguments → Command) (c : Arguments) : Type 0 where
  pub reads : ReadsDesign command c Filament (stimulus_file c.stimulus ∷ [])
  pub refused : (contents : Contents) (top : Top) → GivesTop contents c.design top → (o : Outcome) → IsRefusedForStimulus contents c.stimulus (λ bytes. transaction_causes bytes top.comp) o → (command c).comes contents [] o
  pub stops : (why : Stop) → IsOfStimulus why ⊎ IsWritingStop why → (command c).stops why

module _ {F : Type 0} {c : Arguments} {names : F → List Text} {contents : F → Contents} {faults : F → Text → ℕ} {old mid new : F} (command : Arguments → Command) (is : ReadsTransactions command c) (top : Top) (has : HasTop top.design top.number top.comp) (first : DesignRead names contents faults Filament c.design old mid) (gives : IsSome (contents old c.design) → FileGivesFil (contents old) c.design top.design) (late : KeepsFiles names contents faults c.stimulus mid new) where
  -- the stimulus gives nothing
  pub started_stops : {T : Type 0} {result : Result (Unit {0}) Stop} {out : Option Text} {count : ℕ} (why : Stop) → IsErrAnd result (λ e. e ≡ why)
      → (IsSome (contents mid c.stimulus) → IsNotGiven (contents mid) c.stimulus (λ text. transaction_causes text top.comp) why) → KnowsFile {T = T} (names mid) c.stimulus (Err why)
      → (◌≡◌ {A = Result T Stop} (Err why) (Err stop.StimulusReadFault) → IsReadFault (names mid) c.stimulus (faults mid c.stimulus) (faults new c.stimulus)) → IsOfStimulus why
      → Performs command c (disk_of names contents faults old new) result (idle out count)
  started_stops why passed not_given known fault of =
      stimulus_stops command c is.reads first late (λ text. transaction_causes text top.comp) why passed
      (λ told o refused. is.refused (contents old) top (record { gives = gives (design_told command c Filament (stimulus_file c.stimulus ∷ []) is.reads (contents old) told); top = has.is_top; at = has.at }) o refused) not_given known fault of (is.stops why (inl of))

  -- a report of the transactions was written, or a part of it
  pub started_writes : {result : Result (Unit {0}) Stop} {out out' : Option Text} {before after : ℕ} (list : TxList) → Contains (names mid) c.stimulus → (IsSome (contents mid c.stimulus) → AreGivenBy (contents mid) c.stimulus top.comp list)
      → (GivesTransactionsOf c (contents old) top (tx_run_seen list) → Leaves ((command c).makes (contents old)) ((command c).comes (contents old)) result out out')
      → IfErr result IsWritingStop → (IsErrOf result stop.WriteFault → Rose before after) → before ≤ after
      → Performs command c (disk_of names contents faults old new) result (passed_by out out' before after)
  started_writes {result = result} list known given leaves stops rose more =
      reports command c (read_both command c is.reads first late known)
      (λ told. leaves (transactions_given command c is.reads (contents old) (contents mid) first.files.contents_kept told top has gives list given))
      (if_stops IsWritingStop (command c).stops result (λ why of. is.stops why (inr of)) stops) (if_stops IsWritingStop IsNoReadFault result no_fault_at_writing stops) rose more

-- ---- what a command with this report performs

-- a command that prints this of the transactions of a design's top component
pub record IsStarted (command : Arguments → Command) (told : Top → List Transaction → Text) (c : Arguments) : Type 0 where
  pub reading : ReadsTransactions command c
  pub leaves : (contents : Contents) (top : Top) (run : TxRun) → GivesTransactionsOf c contents top run → (result : Result (Unit {0}) Stop) (out out' : Option Text)
      → OnOk result (Appends out out' (told top run.transactions)) → OnErr result (AppendsPrefix out out' (told top run.transactions)) → IfErr result IsWritingStop
      → Leaves ((command c).makes contents) ((command c).comes contents) result out out'

pub is_started : (told : Top → List Transaction → Text) (c : Arguments) → IsStarted (transactions told) told c
is_started told c = record {
  reading = record {
    reads = started_reads told c;
    refused = λ contents top gives o refused. started_refused told c contents top gives o refused [];
    stops = λ why of. ⊎_elim (λ s. inr (inl s)) (λ s. inr (inr s)) of;
  };
  leaves = λ contents top run gives result out out' written part stops. started_leaves told c contents top run gives result out out' written part stops;
}

-- what the transactions are is printed
pub started_reports : {F : Type 0} {told : Top → List Transaction → Text} {c : Arguments} {names : F → List Text} {contents : F → Contents} {faults : F → Text → ℕ} {old mid new : F} {result : Result (Unit {0}) Stop} {out out' : Option Text} {before after : ℕ}
    → (command : Arguments → Command) → IsStarted command told c → (top : Top) → HasTop top.design top.number top.comp → DesignRead names contents faults Filament c.design old mid → (IsSome (contents old c.design) → FileGivesFil (contents old) c.design top.design) → KeepsFiles names contents faults c.stimulus mid new
    → (list : TxList) → Contains (names mid) c.stimulus → (IsSome (contents mid c.stimulus) → AreGivenBy (contents mid) c.stimulus top.comp list)
    → OnOk result (Appends out out' (told top (map transaction_seen list.txs.items))) → OnErr result (AppendsPrefix out out' (told top (map transaction_seen list.txs.items))) → IfErr result IsWritingStop → (IsErrOf result stop.WriteFault → Rose before after) → before ≤ after
    → Performs command c (disk_of names contents faults old new) result (passed_by out out' before after)
started_reports {contents = contents} {old = old} {result = result} {out = out} {out' = out'} command is top has first gives late list known given written part stops rose more =
    started_writes command is.reading top has first gives late list known given
    (λ gives_them. is.leaves (contents old) top (tx_run_seen list) gives_them result out out' written part stops) stops rose more

-- ---- what comes is of the files

module _ (contents other : Contents) where
  pub top_too : (file : Text) → contents file ≡ other file → (t : Top) → GivesTop contents file t → GivesTop other file t
  top_too file same t g = record { gives = fil_too contents other file same t.design g.gives; top = g.top; at = g.at }

  pub refused_top_too : (c : Arguments) (o : Outcome) → contents c.design ≡ other c.design → contents c.stimulus ≡ other c.stimulus → IsRefusedWithTop c contents o → IsRefusedWithTop c other o
  refused_top_too c o same same' a =
      record { top = a.top; gives = top_too c.design same a.top a.gives; refused = stimulus_too contents other c.stimulus same' (λ bytes. transaction_causes bytes a.top.comp) o a.refused }

  pub given_too : (c : Arguments) (top : Top) (run : TxRun) → contents c.design ≡ other c.design → contents c.stimulus ≡ other c.stimulus → GivesTransactionsOf c contents top run → GivesTransactionsOf c other top run
  given_too c top run same same' g =
      record { gives_top = top_too c.design same top g.gives_top; gives_transactions = transactions_too contents other c.stimulus same' top.comp run g.gives_transactions }

  started_too : (c : Arguments) (told : Top → List Transaction → Text) (o : Outcome) → contents c.design ≡ other c.design → contents c.stimulus ≡ other c.stimulus
      → IsRefusedForSource contents Filament c.design o ⊎ IsRefusedWithTop c contents o ⊎ Prints c told contents o → IsRefusedForSource other Filament c.design o ⊎ IsRefusedWithTop c other o ⊎ Prints c told other o
  started_too c told o same same' (inl p) = inl (source_too contents other c.design same Filament o p)
  started_too c told o same same' (inr (inl a)) = inr (inl (refused_top_too c o same same' a))
  started_too c told o same same' (inr (inr a)) = inr (inr (record { top = a.top; run = a.run; gives = given_too c a.top a.run same same' a.gives; outcome = a.outcome }))

-- ---- laws

module _ (told : Top → List Transaction → Text) (c : Arguments) where
  started_laws : CommandLaws (transactions told c)
  started_laws = record {
    granted_ends = λ contents made o granted comes.
        inl (ap (λ (x : Outcome). x.ended) (started_comes told c contents granted.top granted.run granted.gives made o comes));
    granted_told = λ contents granted.
        both_told (transactions told) c Filament (started_reads told c) contents (granted.top.design, granted.gives.gives_top.gives)
        (is_told (contents c.stimulus) granted.gives.gives_transactions.bytes granted.gives.gives_transactions.told);
    by_files = λ contents other same made o comes. started_too contents other c told o same.0 same.1.0 comes;
  }

pub flow_laws : (c : Arguments) → CommandLaws (flow c)
flow_laws = started_laws flow_of_top

pub timeline_laws : (c : Arguments) → CommandLaws (timeline c)
timeline_laws = started_laws holds_in_top

pub sim_fil_laws : (c : Arguments) → CommandLaws (sim_fil c)
sim_fil_laws = started_laws rows_of_top
