-- What comes of each command: where its files are told, they grant what it asks for or are refused; and what is granted has an outcome.
use Rattle.std.proofs.Common.{◌≡◌, ◌⊎◌, inl, inr, Bool, true, List, [], ◌∷◌, ◌++◌, codes, Some, IsSome, refl, subst}
use Rattle.std.proofs.lemmas.Bool.{cases_lt}
use Rattle.hw_limits.specs.declared.limits.TheConstants.{MOST_CYCLES, MOST_TRANSACTIONS}
use Rattle.hw_names.specs.Name.{Text}
use Rattle.cal_ast.proofs.ListLemmas.{Contains-at}
use Rattle.cal_ast.specs.Plain.{HasPlainTree}
use Rattle.cal_ast.specs.Tree as calyx_tree
use Rattle.cal_net.specs.Face.{face}
use Rattle.cal_parse.proofs.Designs.{tree_written}
use Rattle.fil_ast.specs.Tree.{Design}
use Rattle.net_core.specs.Netlist.{Netlist}
use Rattle.stim_read.specs.TxRun.{Transaction}
use Rattle.filc_calyx.proofs.PlainLemmas.{written_plain}
use Rattle.filc_calyx.specs.Made as calyx_made
use Rattle.filc_calyx.specs.Means.{Driven, Means, Traces}
use Rattle.filc_calyx.specs.Scheduled.{Schedules}
use Rattle.filc_load.specs.Source.{FileGivesCal, FileGivesFil, FileGivesNet, IsAccepted, IsRefusedForSource}
use Rattle.filc_report.specs.Rows.{accepted_text}
use Rattle.filc_report.specs.Runs.{plain_run, stimulus_run}
use Rattle.filc_stop.specs.Lines.{limit_line}
use Rattle.filc_stop.specs.Outcome.{Contents, Outcome, done_with, refused_with}
use Rattle.filc_stop.specs.declared.ended.Ended.TheVariants.{Limit}
use Rattle.filc_stop.specs.declared.language.Language.{Language}
use Rattle.filc_stop.specs.declared.language.Language.TheVariants.{Netlists, Filament, Calyx}
use Rattle.filc_core.specs.Arguments.{Arguments}
use Rattle.filc_core.specs.Command.{Command, of_design, of_design_and_stimulus}
use Rattle.filc_core.specs.Files.{AreTold}
use Rattle.filc_core.specs.commands.CalRun as cal_runs
use Rattle.filc_core.specs.commands.CalRun.{CalTop, GivesTop, cal_run}
use Rattle.filc_core.specs.commands.Check.{check}
use Rattle.filc_core.specs.commands.Making.{IsMadeFrom, IsMadeIn, making}
use Rattle.filc_core.specs.commands.NetRun.{net_run}
use Rattle.filc_core.specs.commands.Rows.{rows}
use Rattle.filc_core.specs.commands.Soak.{soak}
use Rattle.filc_core.specs.commands.TraceFil.{trace_fil}
use Rattle.filc_core.specs.commands.Transactions as started
use Rattle.filc_core.specs.commands.Transactions.{Top, transactions}
use Rattle.filc_core.specs.declared.commands.making.Product.{Product}
use Rattle.filc_laws.proofs.SourceLemmas.{cal_is_given_once}
use Rattle.filc_laws.proofs.existence.CalRunLemmas.{means_some, schedules_some}
use Rattle.filc_laws.proofs.existence.Classical.{sure, next, so}
use Rattle.filc_laws.proofs.existence.ListLemmas.{is_some_of}
use Rattle.filc_laws.proofs.existence.RunLemmas.{run_comes}
use Rattle.filc_laws.proofs.existence.SourceLemmas.{IsSourceJudged, source_is_judged}
use Rattle.filc_laws.proofs.existence.StimulusLemmas.{AreTransactionsJudged, IsRunJudged, run_is_judged, transactions_are_judged}
use Rattle.filc_laws.specs.Classically.{Classically}

module _ (contents : Contents) where
  -- this comes of the command, whatever it would make
  abbrev pub IsRefused : Command → Type 0
  IsRefused command = (o : Outcome) × ((made : Text) → command.comes contents made o)

  -- the files grant what the command asks for, or it is refused
  abbrev pub IsGrantedOrNot : Command → Type 0
  IsGrantedOrNot command = command.granted contents ⊎ IsRefused command

  -- something comes of the command, where the design that it makes has this text
  abbrev pub HasOutcome : Command → Text → Type 0
  HasOutcome command made = (o : Outcome) × command.comes contents made o

  -- the design's file is accepted or refused
  source : (language : Language) (file : Text) → IsSome (contents file) → Classically (IsSourceJudged contents file language)
  source language file told = let bytes = is_some_of (contents file) told in source_is_judged contents file bytes.0 language bytes.1

  module _ (a : Arguments) where
    -- ---- check

    check_by : IsSourceJudged contents a.design a.language → IsGrantedOrNot (check a)
    check_by (inl accepted) = inl accepted
    check_by (inr (o, refused)) = inr (o, λ made. inl refused)

    pub check_judged : AreTold contents (of_design a.language a) → Classically (IsGrantedOrNot (check a))
    check_judged told = so (source a.language a.design told.0) check_by

    pub check_comes : (check a).granted contents → (made : Text) → HasOutcome (check a) made
    check_comes accepted made = (done_with accepted_text, inr (record { accepted = accepted; outcome = refl }))

    -- ---- a design that is made

    module _ (product : Product) where
      making_by : IsSourceJudged contents a.design a.language → IsGrantedOrNot (making product a)
      making_by (inl accepted) = inl accepted
      making_by (inr (o, refused)) = inr (o, λ made. inl refused)

      pub making_judged : AreTold contents (of_design a.language a) → Classically (IsGrantedOrNot (making product a))
      making_judged told = so (source a.language a.design told.0) making_by

      pub making_comes : (made : Text) → IsMadeIn a.language product contents a.design made → HasOutcome (making product a) made
      making_comes made is = (done_with made, inr (record { is_made = is; outcome = refl }))

    -- ---- rows of a netlist

    rows_by : IsSourceJudged contents a.design Netlists → IsGrantedOrNot (rows a)
    rows_by (inr (o, refused)) = inr (o, λ made. inl refused)
    rows_by (inl (n, gives)) = elim (cases_lt MOST_CYCLES a.count) [
      | inl over ↦ inr (
        refused_with Limit (limit_line (codes "cycles") a.count MOST_CYCLES),
        λ made. inr (inl (record { net = n; gives = gives; over = over; outcome = refl })),
      )
      | inr within ↦ inl (record { net = n; gives = gives; within = within })
    ]

    pub rows_judged : AreTold contents (of_design Netlists a) → Classically (IsGrantedOrNot (rows a))
    rows_judged told = so (source Netlists a.design told.0) rows_by

    pub rows_comes : (rows a).granted contents → (made : Text) → HasOutcome (rows a) made
    rows_comes g made =
        let accepted = g.gives.gives.accepted in
        let run = run_comes (plain_run g.net a.count) accepted.valid accepted.no_loop in
        (run.0, inr (inr (record { net = g.net; gives = g.gives; within = g.within; run = run.1 })))

    -- ---- a netlist's run under a stimulus

    module _ (head : Netlist → Text) (all : Bool) where
      net_by_stimulus : (n : Netlist) (bytes : Text) (told : contents a.stimulus ≡ Some bytes) → FileGivesNet contents a.design n → IsRunJudged contents a.stimulus bytes told n → IsGrantedOrNot (net_run head all a)
      net_by_stimulus n bytes told gives (inl (run, gives_run)) = inl (record { net = n; run = run; gives = record { gives_net = gives; gives_run = gives_run } })
      net_by_stimulus n bytes told gives (inr (o, refused)) = inr (o, λ made. inr (inl (record { net = n; gives = gives; refused = refused })))

      net_by : (IsAccepted contents Netlists a.design → IsSome (contents a.stimulus)) → IsSourceJudged contents a.design Netlists → Classically (IsGrantedOrNot (net_run head all a))
      net_by told (inr (o, refused)) = sure (inr (o, λ made. inl refused))
      net_by told (inl (n, gives)) =
          let bytes = is_some_of (contents a.stimulus) (told (n, gives)) in
          so (run_is_judged contents a.stimulus bytes.0 bytes.1 n) (net_by_stimulus n bytes.0 bytes.1 gives)

      pub net_judged : AreTold contents (of_design_and_stimulus Netlists a) → Classically (IsGrantedOrNot (net_run head all a))
      net_judged told = next (source Netlists a.design told.0) (net_by (λ accepted. (told.1 accepted).0))

      pub net_comes : (net_run head all a).granted contents → (made : Text) → HasOutcome (net_run head all a) made
      net_comes g made =
          let accepted = g.gives.gives_net.gives.accepted in
          let run = run_comes (stimulus_run g.net g.run (head g.net) all) accepted.valid accepted.no_loop in
          (run.0, inr (inr (record { net = g.net; run = g.run; gives = g.gives; comes = run.1 })))

    -- ---- transactions

    top_of : (d : Design) → FileGivesFil contents a.design d → Top
    top_of d gives = record { design = d; number = gives.gives.light.number; comp = gives.gives.light.top }

    gives_top : (d : Design) (gives : FileGivesFil contents a.design d) → started.GivesTop contents a.design (top_of d gives)
    unfolding top_of
    gives_top d gives = record { gives = gives; top = gives.gives.light.has_top.is_top; at = gives.gives.light.has_top.at }

    -- why a command whose stimulus gives transactions is refused
    abbrev IsUnstarted : Outcome → Type 0
    IsUnstarted o = IsRefusedForSource contents Filament a.design o ⊎ started.IsRefusedWithTop a contents o

    abbrev IsStartedOrNot : Type 0
    IsStartedOrNot = started.IsGranted a contents ⊎ ((o : Outcome) × IsUnstarted o)

    tx_by_stimulus : (top : Top) (bytes : Text) (told : contents a.stimulus ≡ Some bytes) → started.GivesTop contents a.design top → AreTransactionsJudged contents a.stimulus bytes told top.comp → IsStartedOrNot
    tx_by_stimulus top bytes told gives (inl (run, gives_run)) = inl (record { top = top; run = run; gives = record { gives_top = gives; gives_transactions = gives_run } })
    tx_by_stimulus top bytes told gives (inr (o, refused)) = inr (o, inr (record { top = top; gives = gives; refused = refused }))

    tx_by : (IsAccepted contents Filament a.design → IsSome (contents a.stimulus)) → IsSourceJudged contents a.design Filament → Classically IsStartedOrNot
    tx_by told (inr (o, refused)) = sure (inr (o, inl refused))
    tx_by told (inl (d, gives)) =
        let bytes = is_some_of (contents a.stimulus) (told (d, gives)) in
        let top = top_of d gives in
        so (transactions_are_judged contents a.stimulus bytes.0 bytes.1 top.comp) (tx_by_stimulus top bytes.0 bytes.1 (gives_top d gives))

    started_or_not : AreTold contents (of_design_and_stimulus Filament a) → Classically IsStartedOrNot
    started_or_not told = next (source Filament a.design told.0) (tx_by (λ accepted. (told.1 accepted).0))

    module _ (said : Top → List Transaction → Text) where
      tx_of : IsStartedOrNot → IsGrantedOrNot (transactions said a)
      tx_of (inl g) = inl g
      tx_of (inr (o, inl refused)) = inr (o, λ made. inl refused)
      tx_of (inr (o, inr refused)) = inr (o, λ made. inr (inl refused))

      pub tx_judged : AreTold contents (of_design_and_stimulus Filament a) → Classically (IsGrantedOrNot (transactions said a))
      tx_judged told = so (started_or_not told) tx_of

      pub tx_comes : (transactions said a).granted contents → (made : Text) → HasOutcome (transactions said a) made
      tx_comes g made = (done_with (said g.top g.run.transactions), inr (inr (record { top = g.top; run = g.run; gives = g.gives; outcome = refl })))

    trace_of : IsStartedOrNot → IsGrantedOrNot (trace_fil a)
    trace_of (inl g) = inl g
    trace_of (inr (o, inl refused)) = inr (o, λ made. inl refused)
    trace_of (inr (o, inr refused)) = inr (o, λ made. inr (inl refused))

    pub trace_judged : AreTold contents (of_design_and_stimulus Filament a) → Classically (IsGrantedOrNot (trace_fil a))
    trace_judged told = so (started_or_not told) trace_of

    -- ---- a soak

    pub soak_judged : IsGrantedOrNot (soak a)
    soak_judged = elim (cases_lt MOST_TRANSACTIONS a.count) [
      | inl over ↦ inr (refused_with Limit (limit_line (codes "transactions") a.count MOST_TRANSACTIONS), λ made. inl (record { over = over; outcome = refl }))
      | inr within ↦ inl within
    ]

    -- ---- a Calyx design's run under a stimulus

    cal_top_of : (d : calyx_tree.Design) → FileGivesCal contents a.design d → CalTop
    cal_top_of d gives = record { design = d; number = gives.gives.light.weighs.n; comp = gives.gives.light.weighs.c }

    gives_cal_top : (d : calyx_tree.Design) (gives : FileGivesCal contents a.design d) → GivesTop contents a.design (cal_top_of d gives)
    unfolding cal_top_of
    gives_cal_top d gives = record { gives = gives; is_top = gives.gives.light.weighs.top; at = gives.gives.light.weighs.at }

    module _ (Comes : Driven → Text → Outcome → Type 0) (Makes : Contents → Text → Text → Type 0) where
      cal_by_stimulus : (top : CalTop) (bytes : Text) (told : contents a.stimulus ≡ Some bytes) → GivesTop contents a.design top → IsRunJudged contents a.stimulus bytes told (face top.comp) → IsGrantedOrNot (cal_run Comes Makes a)
      cal_by_stimulus top bytes told gives (inl (run, gives_run)) = inl (record { top = top; run = run; gives = record { gives_top = gives; gives_run = gives_run } })
      cal_by_stimulus top bytes told gives (inr (o, refused)) = inr (o, λ made. inr (inl (record { top = top; gives = gives; refused = refused })))

      cal_by : (IsAccepted contents Calyx a.design → IsSome (contents a.stimulus)) → IsSourceJudged contents a.design Calyx → Classically (IsGrantedOrNot (cal_run Comes Makes a))
      cal_by told (inr (o, refused)) = sure (inr (o, λ made. inl refused))
      cal_by told (inl (d, gives)) =
          let bytes = is_some_of (contents a.stimulus) (told (d, gives)) in
          let top = cal_top_of d gives in
          so (run_is_judged contents a.stimulus bytes.0 bytes.1 (face top.comp)) (cal_by_stimulus top bytes.0 bytes.1 (gives_cal_top d gives))

      pub cal_judged : AreTold contents (of_design_and_stimulus Calyx a) → Classically (IsGrantedOrNot (cal_run Comes Makes a))
      cal_judged told = next (source Calyx a.design told.0) (cal_by (λ accepted. (told.1 accepted).0))

      pub cal_outcome : (g : cal_runs.IsGranted a contents) (made : Text) → (o : Outcome) × Comes (record { design = g.top.design; top = g.top.comp; run = g.run }) made o → HasOutcome (cal_run Comes Makes a) made
      cal_outcome g made (o, comes) = (o, inr (inr (record { top = g.top; run = g.run; gives = g.gives; comes = comes })))

    module _ (g : cal_runs.IsGranted a contents) where
      abbrev driven : Driven
      driven = record { design = g.top.design; top = g.top.comp; run = g.run }

      abbrev gives_design : FileGivesCal contents a.design g.top.design
      gives_design = g.gives.gives_top.gives

      plain : HasPlainTree g.top.design
      plain = written_plain g.top.design (tree_written gives_design.bytes g.top.design gives_design.gives.accepted.text_of.spells)

      pub means_granted : (o : Outcome) × Means driven o
      means_granted = means_some driven plain gives_design.gives.accepted.rules (Contains-at g.top.design g.top.number g.top.comp g.gives.gives_top.at)

      pub schedules_granted : (o : Outcome) × Schedules driven o
      schedules_granted = schedules_some driven plain gives_design.gives.accepted.rules (Contains-at g.top.design g.top.number g.top.comp g.gives.gives_top.at)

      pub traces_granted : (made : Text) → IsMadeFrom (FileGivesCal contents a.design) calyx_made.IsMadeOf made → (o : Outcome) × Traces driven made o
      traces_granted made from =
          let net = from.is_made.0 in
          let same = cal_is_given_once contents a.design from.design g.top.design from.gives gives_design in
          let is : calyx_made.IsNetOf g.top.design net made = subst (λ (d : calyx_tree.Design). calyx_made.IsNetOf d net made) same from.is_made.1 in
          let refines = is.is_for.refines.refines.refines in
          let run = run_comes (stimulus_run net g.run (made ++ 10 ∷ []) true) refines.valid refines.no_loop in
          (run.0, record { net = net; made_net = is; comes = run.1 })
