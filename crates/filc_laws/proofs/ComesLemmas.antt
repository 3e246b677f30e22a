-- One outcome comes of each command, but for which loop is told and which netlist or which Calyx design is made.
use Rattle.std.proofs.Common.{◌≡◌, ℕ, ◌⊎◌, inl, inr, List, Bool, sym, ap, ap₂, subst, subst₂, ◌∙◌, arith}
use Rattle.std.specs.Prelude.{slice_get}
use Rattle.std.proofs.lemmas.Option.{same_Some}
use Rattle.hw_names.specs.Name.{Text}
use Rattle.fil_ast.specs.Top.{IsTop}
use Rattle.fil_ast.specs.Tree.{Component, Design}
use Rattle.cal_net.specs.Face.{face}
use Rattle.filc_calyx.specs.Means as calyx
use Rattle.filc_calyx.specs.Scheduled.{Schedules}
use Rattle.net_core.specs.Netlist.{Netlist}
use Rattle.stim_read.specs.CycleRun.{Run}
use Rattle.stim_read.specs.TxRun.{Transaction, TxRun}
use Rattle.stim_read.specs.declared.stim_end.StimEnd.{StimEnd}
use Rattle.filc_load.specs.Settable.{settable_inputs, settable_memories}
use Rattle.filc_load.specs.Source.{IsAccepted, IsRefusedForSource}
use Rattle.filc_load.specs.StimulusFile.{GivesRun, GivesTransactions, FileGivesRun, FileGivesTransactions, IsRefusedBy, IsRefusedForStimulus, run_causes, transaction_causes, component_events}
use Rattle.filc_report.specs.Runs.{RunComes, plain_run, stimulus_run}
use Rattle.filc_run.specs.Soaked.{Soaks}
use Rattle.filc_run.specs.Traced.{Traces}
use Rattle.filc_stop.specs.Outcome.{Contents, Outcome, done_with, refused_with}
use Rattle.filc_stop.specs.declared.ended.Ended.{Ended}
use Rattle.filc_stop.specs.declared.language.Language.{Language}
use Rattle.filc_stop.specs.declared.language.Language.TheVariants.{Netlists, Filament, Calyx}
use Rattle.filc_core.proofs.CalRunLemmas as cal_runs
use Rattle.filc_core.proofs.MakingLemmas.{made_of_accepted}
use Rattle.filc_core.specs.Arguments.{Arguments}
use Rattle.filc_core.specs.Request.{Request, Asks, command_of}
use Rattle.filc_core.specs.commands.Check.{Accepts}
use Rattle.filc_core.specs.commands.CalRun as cal_run
use Rattle.filc_core.specs.commands.Making.{IsMadeIn, PrintsMade}
use Rattle.filc_core.specs.commands.NetRun.{IsRefusedWithNet}
use Rattle.filc_core.specs.commands.NetRun as net_run
use Rattle.filc_core.specs.commands.Rows.{AsksTooMany}
use Rattle.filc_core.specs.commands.Rows as rows
use Rattle.filc_core.specs.commands.Soak.{IsSoaked}
use Rattle.filc_core.specs.commands.Soak as soak
use Rattle.filc_core.specs.commands.TraceFil.{PrintsTrace}
use Rattle.filc_core.specs.commands.Transactions.{Top, GivesTop, IsGranted, IsRefusedWithTop, Prints}
use Rattle.filc_core.specs.declared.commands.making.Product.{Product}
use Rattle.filc_core.specs.declared.name.CommandName.TheVariants as name
use Rattle.filc_laws.proofs.CauseLemmas.{run_is_given_once, run_cause_is_one, given_run_has_no_cause, transactions_are_given_once, transaction_cause_is_one, given_transactions_have_no_cause}
use Rattle.filc_laws.proofs.CalRunLemmas.{end_alike, means_once}
use Rattle.filc_load.proofs.TopLemmas.{one_number}
use Rattle.filc_laws.proofs.LineLemmas.{along_lines}
use Rattle.filc_laws.proofs.ReportLemmas.{comes_once}
use Rattle.filc_laws.proofs.ScheduleLemmas.{schedules_once}
use Rattle.filc_laws.proofs.SoakLemmas.{soaks_report}
use Rattle.filc_laws.proofs.SourceLemmas.{net_is_given_once, fil_is_given_once, source_is_refused_once, refused_source_is_not_accepted}
use Rattle.filc_laws.proofs.StimulusLemmas.{refused_by_once, not_refused}
use Rattle.filc_laws.proofs.TraceLemmas.{plain_shows, stimulus_shows, traces_report}
use Rattle.filc_laws.specs.OneStimulus.{CauseIsOne}
use Rattle.filc_laws.specs.OneVerdict.{AreOne}

module _ (words : List Text) (contents : Contents) (made made' : Text) (o o' : Outcome) where
  abbrev One : Type 0
  One = AreOne words contents made made' o o'

  -- outcomes that are the same are one
  pub same_outcome : o ≡ o' → One
  same_outcome same = record {
    ended = ap (λ (x : Outcome). x.ended) same;
    report = inl (ap (λ (x : Outcome). x.report) same);
    line = inl (ap (λ (x : Outcome). x.line) same);
  }

  -- ---- the design's file

  from_source : (language : Language) (file : Text) → IsRefusedForSource contents language file o → IsRefusedForSource contents language file o' → One
  from_source language file p q =
      let one = source_is_refused_once contents language file p.ended q.ended p.line q.line p.source q.source in
      record {
        ended = ap (λ (x : Outcome). x.ended) p.outcome ∙ one.0 ∙ sym (ap (λ (x : Outcome). x.ended) q.outcome);
        report = inl (ap (λ (x : Outcome). x.report) p.outcome ∙ sym (ap (λ (x : Outcome). x.report) q.outcome));
        line = along_lines o.line o'.line p.line q.line (ap (λ (x : Outcome). x.line) p.outcome) (ap (λ (x : Outcome). x.line) q.outcome) one.1;
      }

  refused_here : (language : Language) (file : Text) (x : Outcome) → IsRefusedForSource contents language file x → IsAccepted contents language file → ⊥
  refused_here language file x p accepted = refused_source_is_not_accepted contents language file p.ended p.line p.source accepted

  -- ---- the stimulus's file

  from_stimulus : (stimulus : Text) (causes : Text → StimEnd → Type 0) → ((bytes : Text) → CauseIsOne (causes bytes)) → IsRefusedForStimulus contents stimulus causes o → IsRefusedForStimulus contents stimulus causes o' → One
  from_stimulus stimulus causes one p q =
      let text : q.refused.bytes ≡ p.refused.bytes = same_Some q.refused.bytes p.refused.bytes (sym q.refused.told ∙ p.refused.told) in
      let other : IsRefusedBy (causes p.refused.bytes) p.refused.bytes q.ended q.line = subst (λ (b : Text). IsRefusedBy (causes b) b q.ended q.line) text q.refused.refused in
      let same = refused_by_once (causes p.refused.bytes) p.refused.bytes p.ended q.ended p.line q.line (one p.refused.bytes) p.refused.refused other in
      same_outcome (p.outcome ∙ ap₂ refused_with same.0 same.1 ∙ sym q.outcome)

  -- ---- each command

  pub check_once : (c : Arguments) → IsRefusedForSource contents c.language c.design o ⊎ Accepts c contents o → IsRefusedForSource contents c.language c.design o' ⊎ Accepts c contents o' → One
  check_once c (inl p) (inl q) = from_source c.language c.design p q
  check_once c (inl p) (inr a) = absurd (refused_here c.language c.design o p a.accepted)
  check_once c (inr a) (inl p) = absurd (refused_here c.language c.design o' p a.accepted)
  check_once c (inr a) (inr b) = same_outcome (a.outcome ∙ sym b.outcome)

  rows_run : (c : Arguments) → rows.Runs c contents o → rows.Runs c contents o' → One
  rows_run c a b =
      let net = net_is_given_once contents c.design b.net a.net b.gives a.gives in
      let other : RunComes (plain_run a.net c.count) o' = subst (λ (n : Netlist). RunComes (plain_run n c.count) o') net b.run in
      let accepted = a.gives.gives.accepted in
      same_outcome (comes_once (plain_run a.net c.count) accepted.valid accepted.no_loop (plain_shows a.net c.count) o o' a.run other)

  pub rows_once : (c : Arguments) → IsRefusedForSource contents Netlists c.design o ⊎ AsksTooMany c contents o ⊎ rows.Runs c contents o → IsRefusedForSource contents Netlists c.design o' ⊎ AsksTooMany c contents o' ⊎ rows.Runs c contents o' → One
  rows_once c (inl p) (inl q) = from_source Netlists c.design p q
  rows_once c (inl p) (inr (inl b)) = absurd (refused_here Netlists c.design o p (b.net, b.gives))
  rows_once c (inl p) (inr (inr b)) = absurd (refused_here Netlists c.design o p (b.net, b.gives))
  rows_once c (inr (inl a)) (inl q) = absurd (refused_here Netlists c.design o' q (a.net, a.gives))
  rows_once c (inr (inl a)) (inr (inl b)) = same_outcome (a.outcome ∙ sym b.outcome)
  rows_once c (inr (inl a)) (inr (inr b)) = let over = a.over in let within = b.within in absurd (omega (arith, over, within))
  rows_once c (inr (inr a)) (inl q) = absurd (refused_here Netlists c.design o' q (a.net, a.gives))
  rows_once c (inr (inr a)) (inr (inl b)) = let over = b.over in let within = a.within in absurd (omega (arith, over, within))
  rows_once c (inr (inr a)) (inr (inr b)) = rows_run c a b

  -- ---- runs under a stimulus

  module _ (c : Arguments) (head : Netlist → Text) (all : Bool) where
    refused_nets : IsRefusedWithNet c contents o → IsRefusedWithNet c contents o' → One
    refused_nets a b =
        let net = net_is_given_once contents c.design b.net a.net b.gives a.gives in
        let other : IsRefusedForStimulus contents c.stimulus (λ bytes. run_causes bytes a.net) o' = subst (λ (n : Netlist). IsRefusedForStimulus contents c.stimulus (λ bytes. run_causes bytes n) o') net b.refused in
        from_stimulus c.stimulus (λ bytes. run_causes bytes a.net) (λ bytes. run_cause_is_one bytes (settable_inputs a.net) (settable_memories a.net)) a.refused other

    run_or_not : (x y : Outcome) → IsRefusedWithNet c contents x → net_run.Runs c head all contents y → ⊥
    run_or_not x y a b =
        let given = b.gives.gives_run in
        let net : a.net ≡ b.net = net_is_given_once contents c.design a.net b.net a.gives b.gives.gives_net in
        let text : a.refused.refused.bytes ≡ given.bytes = same_Some a.refused.refused.bytes given.bytes (sym a.refused.refused.told ∙ given.told) in
        let here : IsRefusedBy (run_causes given.bytes b.net) given.bytes a.refused.ended a.refused.line =
        subst₂ (λ (t : Text) (n : Netlist). IsRefusedBy (run_causes t n) t a.refused.ended a.refused.line) text net a.refused.refused.refused in
        not_refused (run_causes given.bytes b.net) given.bytes a.refused.ended a.refused.line given.gives.within
        (given_run_has_no_cause given.bytes (settable_inputs b.net) (settable_memories b.net) b.run given.gives.gives) here

    one_given : (n : Netlist) (run run' : Run) → FileGivesRun contents c.stimulus n run → FileGivesRun contents c.stimulus n run' → run ≡ run'
    one_given n run run' p q =
        let text : q.bytes ≡ p.bytes = same_Some q.bytes p.bytes (sym q.told ∙ p.told) in
        let other : GivesRun p.bytes n run' = subst (λ (b : Text). GivesRun b n run') text q.gives in
        run_is_given_once p.bytes (settable_inputs n) (settable_memories n) run run' p.gives.gives other.gives

    two_runs : net_run.Runs c head all contents o → net_run.Runs c head all contents o' → One
    two_runs a b =
        let net : b.net ≡ a.net = net_is_given_once contents c.design b.net a.net b.gives.gives_net a.gives.gives_net in
        let given : FileGivesRun contents c.stimulus a.net b.run = subst (λ (n : Netlist). FileGivesRun contents c.stimulus n b.run) net b.gives.gives_run in
        let run : b.run ≡ a.run = one_given a.net b.run a.run given a.gives.gives_run in
        let other : RunComes (stimulus_run a.net a.run (head a.net) all) o' = subst₂ (λ (n : Netlist) (r : Run). RunComes (stimulus_run n r (head n) all) o') net run b.comes in
        let accepted = a.gives.gives_net.gives.accepted in
        same_outcome (comes_once (stimulus_run a.net a.run (head a.net) all) accepted.valid accepted.no_loop (stimulus_shows a.net a.run (head a.net) all) o o' a.comes other)

    pub net_run_once : IsRefusedForSource contents Netlists c.design o ⊎ IsRefusedWithNet c contents o ⊎ net_run.Runs c head all contents o → IsRefusedForSource contents Netlists c.design o' ⊎ IsRefusedWithNet c contents o' ⊎ net_run.Runs c head all contents o' → One
    net_run_once (inl p) (inl q) = from_source Netlists c.design p q
    net_run_once (inl p) (inr (inl b)) = absurd (refused_here Netlists c.design o p (b.net, b.gives))
    net_run_once (inl p) (inr (inr b)) = absurd (refused_here Netlists c.design o p (b.net, b.gives.gives_net))
    net_run_once (inr (inl a)) (inl q) = absurd (refused_here Netlists c.design o' q (a.net, a.gives))
    net_run_once (inr (inl a)) (inr (inl b)) = refused_nets a b
    net_run_once (inr (inl a)) (inr (inr b)) = absurd (run_or_not o o' a b)
    net_run_once (inr (inr a)) (inl q) = absurd (refused_here Netlists c.design o' q (a.net, a.gives.gives_net))
    net_run_once (inr (inr a)) (inr (inl b)) = absurd (run_or_not o' o b a)
    net_run_once (inr (inr a)) (inr (inr b)) = two_runs a b

  -- ---- transactions

  same_top : (file : Text) (t u : Top) → GivesTop contents file t → GivesTop contents file u → t ≡ u
  same_top file t u p q =
      let design = fil_is_given_once contents file t.design u.design p.gives q.gives in
      let number = one_number u.design t.number u.number (subst (λ (d : Design). IsTop d t.number) design p.top) q.top in
      let comp = same_Some t.comp u.comp (sym p.at ∙ ap₂ (λ (d : Design) (n : ℕ). slice_get d n) design number ∙ q.at) in
      λ k. record { design = design k; number = number k; comp = comp k }

  module _ (c : Arguments) where
    refused_tops : IsRefusedWithTop c contents o → IsRefusedWithTop c contents o' → One
    refused_tops a b =
        let top = same_top c.design b.top a.top b.gives a.gives in
        let other : IsRefusedForStimulus contents c.stimulus (λ bytes. transaction_causes bytes a.top.comp) o' = subst (λ (t : Top). IsRefusedForStimulus contents c.stimulus (λ bytes. transaction_causes bytes t.comp) o') top b.refused in
        from_stimulus c.stimulus (λ bytes. transaction_causes bytes a.top.comp) (λ bytes. transaction_cause_is_one bytes (component_events a.top.comp)) a.refused other

    granted_or_not : (x : Outcome) → IsRefusedWithTop c contents x → IsGranted c contents → ⊥
    granted_or_not x a b =
        let given = b.gives.gives_transactions in
        let top : a.top ≡ b.top = same_top c.design a.top b.top a.gives b.gives.gives_top in
        let text : a.refused.refused.bytes ≡ given.bytes = same_Some a.refused.refused.bytes given.bytes (sym a.refused.refused.told ∙ given.told) in
        let here : IsRefusedBy (transaction_causes given.bytes b.top.comp) given.bytes a.refused.ended a.refused.line =
        subst₂ (λ (t : Text) (u : Top). IsRefusedBy (transaction_causes t u.comp) t a.refused.ended a.refused.line) text top a.refused.refused.refused in
        not_refused (transaction_causes given.bytes b.top.comp) given.bytes a.refused.ended a.refused.line given.gives.within
        (given_transactions_have_no_cause given.bytes (component_events b.top.comp) b.run given.gives.gives) here

    refused_file : (x : Outcome) → IsRefusedForSource contents Filament c.design x → IsGranted c contents → ⊥
    refused_file x p b = refused_here Filament c.design x p (b.top.design, b.gives.gives_top.gives)

    one_told : (comp : Component) (run run' : TxRun) → FileGivesTransactions contents c.stimulus comp run → FileGivesTransactions contents c.stimulus comp run' → run ≡ run'
    one_told comp run run' p q =
        let text : q.bytes ≡ p.bytes = same_Some q.bytes p.bytes (sym q.told ∙ p.told) in
        let other : GivesTransactions p.bytes comp run' = subst (λ (b : Text). GivesTransactions b comp run') text q.gives in
        transactions_are_given_once p.bytes (component_events comp) run run' p.gives.gives other.gives

    -- the files give one top component and one list of transactions
    one_granted : (a b : IsGranted c contents) → (b.top ≡ a.top) × (b.run ≡ a.run)
    one_granted a b =
        let top : b.top ≡ a.top = same_top c.design b.top a.top b.gives.gives_top a.gives.gives_top in
        let given : FileGivesTransactions contents c.stimulus a.top.comp b.run = subst (λ (t : Top). FileGivesTransactions contents c.stimulus t.comp b.run) top b.gives.gives_transactions in
        (top, one_told a.top.comp b.run a.run given a.gives.gives_transactions)

    -- whatever comes where the files give transactions, one thing comes of the command where one does there
    module _ (Made Made' : Type 0) (grants : Made → IsGranted c contents) (grants' : Made' → IsGranted c contents) (both : Made → Made' → One) where
      started_once : IsRefusedForSource contents Filament c.design o ⊎ IsRefusedWithTop c contents o ⊎ Made → IsRefusedForSource contents Filament c.design o' ⊎ IsRefusedWithTop c contents o' ⊎ Made' → One
      started_once (inl p) (inl q) = from_source Filament c.design p q
      started_once (inl p) (inr (inl b)) = absurd (refused_here Filament c.design o p (b.top.design, b.gives.gives))
      started_once (inl p) (inr (inr b)) = absurd (refused_file o p (grants' b))
      started_once (inr (inl a)) (inl q) = absurd (refused_here Filament c.design o' q (a.top.design, a.gives.gives))
      started_once (inr (inl a)) (inr (inl b)) = refused_tops a b
      started_once (inr (inl a)) (inr (inr b)) = absurd (granted_or_not o a (grants' b))
      started_once (inr (inr a)) (inl q) = absurd (refused_file o' q (grants a))
      started_once (inr (inr a)) (inr (inl b)) = absurd (granted_or_not o' b (grants a))
      started_once (inr (inr a)) (inr (inr b)) = both a b

  -- ---- what transactions are

  module _ (c : Arguments) (told : Top → List Transaction → Text) where
    abbrev prints_grants : (x : Outcome) → Prints c told contents x → IsGranted c contents
    prints_grants x a = record { top = a.top; run = a.run; gives = a.gives }

    two_lists : Prints c told contents o → Prints c told contents o' → One
    two_lists a b =
        let same = one_granted c (prints_grants o a) (prints_grants o' b) in
        same_outcome (a.outcome ∙ ap₂ (λ (t : Top) (r : TxRun). done_with (told t r.transactions)) (sym same.0) (sym same.1) ∙ sym b.outcome)

    pub transactions_once : IsRefusedForSource contents Filament c.design o ⊎ IsRefusedWithTop c contents o ⊎ Prints c told contents o → IsRefusedForSource contents Filament c.design o' ⊎ IsRefusedWithTop c contents o' ⊎ Prints c told contents o' → One
    transactions_once p q = started_once c (Prints c told contents o) (Prints c told contents o') (prints_grants o) (prints_grants o') two_lists p q

  -- ---- the trace of a design's netlist

  module _ (c : Arguments) (asks : Asks words (record { command = name.TraceFil; arguments = c })) where
    abbrev trace_grants : (text : Text) (x : Outcome) → PrintsTrace c contents text x → IsGranted c contents
    trace_grants text x a = record { top = a.top; run = a.run; gives = a.gives }

    two_traces : PrintsTrace c contents made o → PrintsTrace c contents made' o' → One
    two_traces a b =
        let same = one_granted c (trace_grants made o a) (trace_grants made' o' b) in
        let other : Traces a.top.design a.top.comp a.run made' o' = subst₂ (λ (t : Top) (r : TxRun). Traces t.design t.comp r made' o') same.0 same.1 b.traces in
        record {
          ended = ap (λ (x : Outcome). x.ended) a.traces.outcome ∙ sym (ap (λ (x : Outcome). x.ended) b.traces.outcome);
          report = inr (inr (inl (record {
            asked = c;
            asks = asks;
            top = a.top;
            run = a.run;
            gives = a.gives;
            traces = traces_report a.top.comp a.run a.top.design made o a.traces;
            traces' = traces_report a.top.comp a.run a.top.design made' o' other;
          })));
          line = inl (ap (λ (x : Outcome). x.line) a.traces.outcome ∙ sym (ap (λ (x : Outcome). x.line) b.traces.outcome));
        }

    pub trace_fil_once : IsRefusedForSource contents Filament c.design o ⊎ IsRefusedWithTop c contents o ⊎ PrintsTrace c contents made o → IsRefusedForSource contents Filament c.design o' ⊎ IsRefusedWithTop c contents o' ⊎ PrintsTrace c contents made' o' → One
    trace_fil_once p q = started_once c (PrintsTrace c contents made o) (PrintsTrace c contents made' o') (trace_grants made o) (trace_grants made' o') two_traces p q

  -- ---- runs of Calyx designs

  module _ (c : Arguments) where
    refused_cal_tops : cal_run.IsRefusedWithTop c contents o → cal_run.IsRefusedWithTop c contents o' → One
    refused_cal_tops a b =
        let top = cal_runs.same_top contents c.design b.top a.top b.gives a.gives in
        let other : IsRefusedForStimulus contents c.stimulus (λ bytes. run_causes bytes (face a.top.comp)) o' = subst (λ (t : cal_run.CalTop). IsRefusedForStimulus contents c.stimulus (λ bytes. run_causes bytes (face t.comp)) o') top b.refused in
        from_stimulus c.stimulus (λ bytes. run_causes bytes (face a.top.comp)) (λ bytes. run_cause_is_one bytes (settable_inputs (face a.top.comp)) (settable_memories (face a.top.comp))) a.refused other

    cal_run_or_not : (x : Outcome) → cal_run.IsRefusedWithTop c contents x → cal_run.IsGranted c contents → ⊥
    cal_run_or_not x a b = cal_runs.top_not_refused c contents b.top b.run b.gives x a

    refused_cal : (x : Outcome) → IsRefusedForSource contents Calyx c.design x → cal_run.IsGranted c contents → ⊥
    refused_cal x p b = refused_here Calyx c.design x p (b.top.design, b.gives.gives_top.gives)

    -- whatever comes where the files give a run, one thing comes of the command where one does there
    module _ (Made Made' : Type 0) (grants : Made → cal_run.IsGranted c contents) (grants' : Made' → cal_run.IsGranted c contents) (both : Made → Made' → One) where
      cal_run_once : IsRefusedForSource contents Calyx c.design o ⊎ cal_run.IsRefusedWithTop c contents o ⊎ Made → IsRefusedForSource contents Calyx c.design o' ⊎ cal_run.IsRefusedWithTop c contents o' ⊎ Made' → One
      cal_run_once (inl p) (inl q) = from_source Calyx c.design p q
      cal_run_once (inl p) (inr (inl b)) = absurd (refused_here Calyx c.design o p (b.top.design, b.gives.gives))
      cal_run_once (inl p) (inr (inr b)) = absurd (refused_cal o p (grants' b))
      cal_run_once (inr (inl a)) (inl q) = absurd (refused_here Calyx c.design o' q (a.top.design, a.gives.gives))
      cal_run_once (inr (inl a)) (inr (inl b)) = refused_cal_tops a b
      cal_run_once (inr (inl a)) (inr (inr b)) = absurd (cal_run_or_not o a (grants' b))
      cal_run_once (inr (inr a)) (inl q) = absurd (refused_cal o' q (grants a))
      cal_run_once (inr (inr a)) (inr (inl b)) = absurd (cal_run_or_not o' b (grants a))
      cal_run_once (inr (inr a)) (inr (inr b)) = both a b

    module _ (Comes : calyx.Driven → Text → Outcome → Type 0) (text : Text) (x : Outcome) where
      abbrev cal_grants : cal_run.Runs c Comes contents text x → cal_run.IsGranted c contents
      cal_grants a = record { top = a.top; run = a.run; gives = a.gives }

    -- two that come where the files give a run come of one run
    along : (Comes : calyx.Driven → Text → Outcome → Type 0) (a : cal_run.Runs c Comes contents made o) (b : cal_run.Runs c Comes contents made' o') → Comes (cal_runs.driven_of a.top a.run) made' o'
    along Comes a b =
        subst₂ (λ (t : cal_run.CalTop) (r : Run). Comes (cal_runs.driven_of t r) made' o') (cal_runs.given_top c contents a.top a.run a.gives b.top b.run b.gives)
        (cal_runs.given_run c contents a.top a.run a.gives b.top b.run b.gives) b.comes

    abbrev Meant : calyx.Driven → Text → Outcome → Type 0
    Meant d text x = calyx.Means d x

    two_meant : cal_run.Runs c Meant contents made o → cal_run.Runs c Meant contents made' o' → One
    two_meant a b = same_outcome (means_once a.top contents c.design a.gives.gives_top a.run o o' a.comes (along Meant a b))

    pub sim_cal_once : IsRefusedForSource contents Calyx c.design o ⊎ cal_run.IsRefusedWithTop c contents o ⊎ cal_run.Runs c Meant contents made o
        → IsRefusedForSource contents Calyx c.design o' ⊎ cal_run.IsRefusedWithTop c contents o' ⊎ cal_run.Runs c Meant contents made' o' → One
    sim_cal_once p q = cal_run_once (cal_run.Runs c Meant contents made o) (cal_run.Runs c Meant contents made' o') (cal_grants Meant made o) (cal_grants Meant made' o') two_meant p q

    abbrev Scheduled : calyx.Driven → Text → Outcome → Type 0
    Scheduled d text x = Schedules d x

    two_schedules : cal_run.Runs c Scheduled contents made o → cal_run.Runs c Scheduled contents made' o' → One
    two_schedules a b = same_outcome (schedules_once a.top contents c.design a.gives.gives_top a.run o o' a.comes (along Scheduled a b))

    pub sched_cal_once : IsRefusedForSource contents Calyx c.design o ⊎ cal_run.IsRefusedWithTop c contents o ⊎ cal_run.Runs c Scheduled contents made o
        → IsRefusedForSource contents Calyx c.design o' ⊎ cal_run.IsRefusedWithTop c contents o' ⊎ cal_run.Runs c Scheduled contents made' o' → One
    sched_cal_once p q =
        cal_run_once (cal_run.Runs c Scheduled contents made o) (cal_run.Runs c Scheduled contents made' o') (cal_grants Scheduled made o) (cal_grants Scheduled made' o') two_schedules p q

    module _ (asks : Asks words (record { command = name.TraceCal; arguments = c })) where
      two_cal_traces : cal_run.Runs c calyx.Traces contents made o → cal_run.Runs c calyx.Traces contents made' o' → One
      two_cal_traces a b =
          let other = along calyx.Traces a b in
          let same = end_alike a.top contents c.design a.gives.gives_top a.run made made' o o' a.comes other in
          record {
            ended = same.0;
            report = inr (inr (inr (inl (record {
              asked = c;
              asks = asks;
              top = a.top;
              run = a.run;
              gives = a.gives;
              ended = o.ended;
              line = o.line;
              traces = a.comes;
              traces' =
                  subst₂ (λ (e : Ended) (l : Text). calyx.Traces (cal_runs.driven_of a.top a.run) made' (record { ended = e; report = o'.report; line = l })) (sym same.0) (sym same.1) other;
            }))));
            line = inl same.1;
          }

      pub trace_cal_once : IsRefusedForSource contents Calyx c.design o ⊎ cal_run.IsRefusedWithTop c contents o ⊎ cal_run.Runs c calyx.Traces contents made o
          → IsRefusedForSource contents Calyx c.design o' ⊎ cal_run.IsRefusedWithTop c contents o' ⊎ cal_run.Runs c calyx.Traces contents made' o' → One
      trace_cal_once p q =
          cal_run_once (cal_run.Runs c calyx.Traces contents made o) (cal_run.Runs c calyx.Traces contents made' o') (cal_grants calyx.Traces made o) (cal_grants calyx.Traces made' o') two_cal_traces p q

  -- ---- a soak

  module _ (c : Arguments) (asks : Asks words (record { command = name.Soak; arguments = c })) where
    two_soaks : Soaks c.count made o → Soaks c.count made' o' → One
    two_soaks a b = record {
      ended = ap (λ (x : Outcome). x.ended) a.outcome ∙ sym (ap (λ (x : Outcome). x.ended) b.outcome);
      report = inr (inr (inr (inr (record {
        asked = c;
        asks = asks;
        soaks = soaks_report c.count made o a;
        soaks' = soaks_report c.count made' o' b;
      }))));
      line = inl (ap (λ (x : Outcome). x.line) a.outcome ∙ sym (ap (λ (x : Outcome). x.line) b.outcome));
    }

    pub soak_once : soak.AsksTooMany c o ⊎ IsSoaked c made o → soak.AsksTooMany c o' ⊎ IsSoaked c made' o' → One
    soak_once (inl a) (inl b) = same_outcome (a.outcome ∙ sym b.outcome)
    soak_once (inl a) (inr b) = let over = a.over in let within = b.within in absurd (omega (arith, over, within))
    soak_once (inr a) (inl b) = let over = b.over in let within = a.within in absurd (omega (arith, over, within))
    soak_once (inr a) (inr b) = two_soaks a.soaks b.soaks

  -- ---- a text that was made of a design

  module _ (product : Product) (c : Arguments) (r : Request) (asks : Asks words r) (makes : (text : Text) → IsMadeIn c.language product contents c.design text → (command_of r).makes contents text) where
    abbrev PrintsOne : Text → Outcome → Type 0
    PrintsOne text x = PrintsMade (IsMadeIn c.language product contents c.design) text x

    of_accepted : (text : Text) (x : Outcome) → PrintsOne text x → IsAccepted contents c.language c.design
    of_accepted text x a = made_of_accepted c.language product contents c.design text a.is_made

    pub made_once : IsRefusedForSource contents c.language c.design o ⊎ PrintsOne made o → IsRefusedForSource contents c.language c.design o' ⊎ PrintsOne made' o' → One
    made_once (inl p) (inl q) = from_source c.language c.design p q
    made_once (inl p) (inr b) = absurd (refused_here c.language c.design o p (of_accepted made' o' b))
    made_once (inr a) (inl q) = absurd (refused_here c.language c.design o' q (of_accepted made o a))
    made_once (inr a) (inr b) = record {
      ended = ap (λ (x : Outcome). x.ended) a.outcome ∙ sym (ap (λ (x : Outcome). x.ended) b.outcome);
      report = inr (inl (record {
        asked = r;
        asks = asks;
        from = makes made a.is_made;
        from' = makes made' b.is_made;
        printed = ap (λ (x : Outcome). x.report) a.outcome;
        printed' = ap (λ (x : Outcome). x.report) b.outcome;
      }));
      line = inl (ap (λ (x : Outcome). x.line) a.outcome ∙ sym (ap (λ (x : Outcome). x.line) b.outcome));
    }
