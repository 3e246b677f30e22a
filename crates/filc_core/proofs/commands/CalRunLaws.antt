-- What comes of a Calyx design's run under a stimulus.
use Rattle.std.proofs.Common.{◌≡◌, ◌⊎◌, ℕ, ◌≤◌, List, [], ◌∷◌, ◌++◌, true, Option, Some, IsSome, Result, Err, refl, ap, ap₂, sym, subst, subst₂, ◌∙◌, inl, inr, ⊎_elim}
use Rattle.std.proofs.lemmas.Option.{same_Some}
use Rattle.std.specs.Prelude.{slice_get, Contains, IfErr, IsErrOf}
use Rattle.std.specs.Result.{IsErrAnd}
use Rattle.hw_io.specs.Faults.{Rose}
use Rattle.hw_io.specs.Reading.{KeepsFiles, IsReadFault}
use Rattle.hw_names.specs.Name.{Text}
use Rattle.net_core.specs.Netlist.{Netlist}
use Rattle.net_core.specs.declared.stimulus.CycleList.{CycleList}
use Rattle.cal_ast.specs.Top.{IsTop}
use Rattle.cal_ast.specs.Tree.{Design}
use Rattle.cal_net.specs.Face.{face}
use Rattle.stim_read.specs.CycleRun.{Run, run_seen}
use Rattle.filc_calyx.proofs.FaceLemmas.{LookAlike, file_gives_alike, not_given_alike}
use Rattle.filc_load.proofs.CostLemmas.{one_number}
use Rattle.filc_calyx.specs.Made.{IsMadeOf}
use Rattle.filc_calyx.specs.Means as calyx
use Rattle.filc_calyx.specs.Scheduled.{Schedules}
use Rattle.filc_load.specs.Built.{KnowsFile, IsGivenBy, IsNotGiven}
use Rattle.filc_load.specs.Source.{FileGivesCal, IsRefusedForSource}
use Rattle.filc_load.specs.StimulusFile.{FileGivesRun, IsRefusedForStimulus, run_causes}
use Rattle.filc_report.specs.Runs.{stimulus_run}
use Rattle.filc_stop.specs.Leaving.{MakesNone, Leaves}
use Rattle.filc_stop.specs.Outcome.{Contents, Outcome}
use Rattle.filc_stop.specs.Stops.{IsOfStimulus, IsOfRun}
use Rattle.filc_stop.specs.declared.language.Language.TheVariants.{Calyx}
use Rattle.filc_stop.specs.declared.stop.Stop.{Stop}
use Rattle.filc_stop.specs.declared.stop.Stop.TheVariants as stop
use Rattle.filc_core.proofs.TellLemmas.{cal_too, run_too, source_too, stimulus_too}
use Rattle.filc_core.proofs.CommandLaws.{CommandLaws, IsGrantedEnd, run_ends}
use Rattle.filc_core.proofs.PerformLemmas.{ReadsDesign, DesignRead, IsNoReadFault, idle, passed_by, leaves_of, both_told, by_earlier, design_told, stimulus_told, stimulus_stops, read_both, reports, if_stops, no_fault_at_run}
use Rattle.filc_core.proofs.SourceLemmas.{accepted_not_refused, is_told, one_cal, one_given_run, run_not_refused}
use Rattle.filc_core.specs.Arguments.{Arguments}
use Rattle.filc_core.specs.Call.{disk_of}
use Rattle.filc_core.specs.Command.{Command, stimulus_file}
use Rattle.filc_core.specs.Files.{AreTold}
use Rattle.filc_core.specs.inside.Performing.{Performs}
use Rattle.filc_core.specs.commands.CalRun.{CalTop, GivesTop, GivesRunOf, IsRefusedWithTop, Runs, cal_run}
use Rattle.filc_core.specs.commands.Making.{IsMadeFrom}
use Rattle.filc_core.specs.commands.SchedCal.{sched_cal}
use Rattle.filc_core.specs.commands.SimCal.{sim_cal}
use Rattle.filc_core.specs.commands.TraceCal.{trace_cal}

-- the run of a top component
abbrev pub driven_of : CalTop → Run → calyx.Driven
driven_of top run = record { design = top.design; top = top.comp; run = run }

-- a file gives one top component
pub same_top : (contents : Contents) (file : Text) (top other : CalTop) → GivesTop contents file top → GivesTop contents file other → top ≡ other
same_top contents file top other gives gives' =
    let design = one_cal contents file top.design other.design gives.gives gives'.gives in
    let number = one_number other.design top.number other.number (subst (λ (d : Design). IsTop d top.number) design gives.is_top) gives'.is_top in
    let comp = same_Some top.comp other.comp (sym gives.at ∙ ap₂ slice_get design number ∙ gives'.at) in
    λ k. record { design = design k; number = number k; comp = comp k }

module _ (c : Arguments) (contents : Contents) (top : CalTop) (run : Run) (gives : GivesRunOf c contents top run) where
  -- what gives a run is not refused
  pub top_not_refused : (o : Outcome) → IsRefusedWithTop c contents o → ⊥
  top_not_refused o refused =
      run_not_refused contents c.stimulus (face top.comp) run o gives.gives_run
      (subst (λ (t : CalTop). IsRefusedForStimulus contents c.stimulus (λ bytes. run_causes bytes (face t.comp)) o) (same_top contents c.design refused.top top refused.gives gives.gives_top) refused.refused)

  -- and gives one run, to one component
  pub given_top : (other : CalTop) (run' : Run) → GivesRunOf c contents other run' → other ≡ top
  given_top other run' gives' = same_top contents c.design other top gives'.gives_top gives.gives_top

  pub given_run : (other : CalTop) (run' : Run) → GivesRunOf c contents other run' → run' ≡ run
  given_run other run' gives' =
      one_given_run contents c.stimulus (face top.comp) run' run
      (subst (λ (t : CalTop). FileGivesRun contents c.stimulus (face t.comp) run') (given_top other run' gives') gives'.gives_run) gives.gives_run

-- a command that reads a Calyx design and a stimulus for its top component
pub record ReadsCalRun (command : Arguments → Command) (c : Arguments) : Type 0 where
  pub reads : ReadsDesign command c Calyx (stimulus_file c.stimulus ∷ [])
  pub refused : (contents : Contents) (top : CalTop) → GivesTop contents c.design top → (o : Outcome) → IsRefusedForStimulus contents c.stimulus (λ bytes. run_causes bytes (face top.comp)) o → (command c).comes contents [] o
  pub stops : (why : Stop) → IsOfStimulus why ⊎ IsOfRun why → (command c).stops why

module _ (Comes : calyx.Driven → Text → Outcome → Type 0) (Makes : Contents → Text → Text → Type 0) (c : Arguments) where
  pub cal_run_reading : ReadsCalRun (cal_run Comes Makes) c
  cal_run_reading = record {
    reads = record { files = refl; refused = λ contents o refused. inl refused; stops = λ why of. inl of };
    refused = λ contents top gives o refused. inr (inl (record { top = top; gives = gives; refused = refused }));
    stops = λ why of. ⊎_elim (λ s. inr (inl s)) (λ s. inr (inr s)) of;
  }

  module _ (contents : Contents) (top : CalTop) (run : Run) (gives : GivesRunOf c contents top run) where
    -- of a design and the run that a stimulus gives its top comes that run
    pub cal_run_comes : (made : Text) (o : Outcome) → (cal_run Comes Makes c).comes contents made o → Comes (driven_of top run) made o
    cal_run_comes made o (inl refused) = absurd (accepted_not_refused contents c.design Calyx o (top.design, gives.gives_top.gives) refused)
    cal_run_comes made o (inr (inl refused)) = absurd (top_not_refused c contents top run gives o refused)
    cal_run_comes made o (inr (inr runs)) =
        subst₂ (λ (t : CalTop) (a : Run). Comes (driven_of t a) made o) (given_top c contents top run gives runs.top runs.run runs.gives) (given_run c contents top run gives runs.top runs.run runs.gives) runs.comes

    -- what the run leaves is what the command leaves
    pub cal_run_leaves : (Made : Text → Type 0) → ((made : Text) → Made made → Makes contents c.design made) → (result : Result (Unit {0}) Stop) (out out' : Option Text) → Leaves Made (Comes (driven_of top run)) result out out'
        → Leaves ((cal_run Comes Makes c).makes contents) ((cal_run Comes Makes c).comes contents) result out out'
    cal_run_leaves Made made_too =
        leaves_of Made (Makes contents c.design) (Comes (driven_of top run)) ((cal_run Comes Makes c).comes contents) made_too
        (λ made o comes. inr (inr (record { top = top; run = run; gives = gives; comes = comes }))) cal_run_comes

-- ---- the three commands

module _ (c : Arguments) where
  pub sim_cal_reading : ReadsCalRun sim_cal c
  sim_cal_reading = cal_run_reading (λ d made o. calyx.Means d o) (λ contents file. MakesNone) c

  pub trace_cal_reading : ReadsCalRun trace_cal c
  trace_cal_reading = cal_run_reading calyx.Traces (λ contents file. IsMadeFrom (FileGivesCal contents file) IsMadeOf) c

  pub sched_cal_reading : ReadsCalRun sched_cal c
  sched_cal_reading = cal_run_reading (λ d made o. Schedules d o) (λ contents file. MakesNone) c

  module _ (contents : Contents) (top : CalTop) (run : Run) (gives : GivesRunOf c contents top run) where
    pub sim_cal_comes : (made : Text) (o : Outcome) → (sim_cal c).comes contents made o → calyx.Means (driven_of top run) o
    sim_cal_comes = cal_run_comes (λ d made o. calyx.Means d o) (λ contents file. MakesNone) c contents top run gives

    pub trace_cal_comes : (made : Text) (o : Outcome) → (trace_cal c).comes contents made o → calyx.Traces (driven_of top run) made o
    trace_cal_comes = cal_run_comes calyx.Traces (λ contents file. IsMadeFrom (FileGivesCal contents file) IsMadeOf) c contents top run gives

    pub sched_cal_comes : (made : Text) (o : Outcome) → (sched_cal c).comes contents made o → Schedules (driven_of top run) o
    sched_cal_comes = cal_run_comes (λ d made o. Schedules d o) (λ contents file. MakesNone) c contents top run gives

    pub sim_cal_leaves : (result : Result (Unit {0}) Stop) (out out' : Option Text) → Leaves MakesNone (λ made. calyx.Means (driven_of top run)) result out out' → Leaves ((sim_cal c).makes contents) ((sim_cal c).comes contents) result out out'
    sim_cal_leaves = cal_run_leaves (λ d made o. calyx.Means d o) (λ contents file. MakesNone) c contents top run gives MakesNone (λ made is. is)

    pub trace_cal_leaves : (result : Result (Unit {0}) Stop) (out out' : Option Text) → Leaves (IsMadeOf top.design) (calyx.Traces (driven_of top run)) result out out' → Leaves ((trace_cal c).makes contents) ((trace_cal c).comes contents) result out out'
    trace_cal_leaves =
        cal_run_leaves calyx.Traces (λ contents file. IsMadeFrom (FileGivesCal contents file) IsMadeOf) c contents top run gives (IsMadeOf top.design)
        (λ made is. record { design = top.design; gives = gives.gives_top.gives; is_made = is })

    pub sched_cal_leaves : (result : Result (Unit {0}) Stop) (out out' : Option Text) → Leaves MakesNone (λ made. Schedules (driven_of top run)) result out out' → Leaves ((sched_cal c).makes contents) ((sched_cal c).comes contents) result out out'
    sched_cal_leaves = cal_run_leaves (λ d made o. Schedules d o) (λ contents file. MakesNone) c contents top run gives MakesNone (λ made is. is)

-- ---- what a command performs

-- a netlist that was made of the design, with the facts of its top
pub record IsNetFor (top : CalTop) (n : Netlist) : Type 0 where
  pub is_top : IsTop top.design top.number
  pub at : slice_get top.design top.number ≡ Some top.comp
  pub alike : LookAlike n (face top.comp)

module _ {F : Type 0} {c : Arguments} {names : F → List Text} {contents : F → Contents} {faults : F → Text → ℕ} {old mid new : F} (command : Arguments → Command) (is : ReadsCalRun command c) (top : CalTop) (n : Netlist) (made : IsNetFor top n) (first : DesignRead names contents faults Calyx c.design old mid) (gives : IsSome (contents old c.design) → FileGivesCal (contents old) c.design top.design) (late : KeepsFiles names contents faults c.stimulus mid new) where
  top_given : AreTold (contents old) (command c).files → GivesTop (contents old) c.design top
  top_given told = record { gives = gives (design_told command c Calyx (stimulus_file c.stimulus ∷ []) is.reads (contents old) told); is_top = made.is_top; at = made.at }

  -- the stimulus gives nothing
  pub cal_run_stops : {T : Type 0} {result : Result (Unit {0}) Stop} {out : Option Text} {count : ℕ} (why : Stop) → IsErrAnd result (λ e. e ≡ why)
      → (IsSome (contents mid c.stimulus) → IsNotGiven (contents mid) c.stimulus (λ text. run_causes text n) why) → KnowsFile {T = T} (names mid) c.stimulus (Err why)
      → (◌≡◌ {A = Result T Stop} (Err why) (Err stop.StimulusReadFault) → IsReadFault (names mid) c.stimulus (faults mid c.stimulus) (faults new c.stimulus)) → IsOfStimulus why
      → Performs command c (disk_of names contents faults old new) result (idle out count)
  cal_run_stops why passed not_given known fault of =
      stimulus_stops command c is.reads first late (λ text. run_causes text (face top.comp)) why passed
      (λ told o refused. is.refused (contents old) top (top_given told) o refused)
      (λ told. not_given_alike n (face top.comp) made.alike (contents mid) c.stimulus why (not_given told)) known fault of (is.stops why (inl of))

  -- what the stimulus's file gives, by the contents before the reads
  run_given : (list : CycleList) → (IsSome (contents mid c.stimulus) → IsGivenBy (contents mid) c.stimulus n list) → AreTold (contents old) (command c).files → GivesRunOf c (contents old) top (run_seen list)
  run_given list given told =
      let gives_top = top_given told in
      record {
        gives_top = gives_top;
        gives_run =
            by_earlier (contents old) (contents mid) c.stimulus (λ (k : Contents). FileGivesRun k c.stimulus (face top.comp) (run_seen list)) first.files.contents_kept
            (stimulus_told command c Calyx is.reads (contents old) told (top.design, gives_top.gives))
            (λ has. file_gives_alike n (face top.comp) made.alike (contents mid) c.stimulus (run_seen list) (given has));
      }

  -- the run is printed
  pub cal_run_reports : {result : Result (Unit {0}) Stop} {out out' : Option Text} {before after : ℕ} (list : CycleList) → Contains (names mid) c.stimulus → (IsSome (contents mid c.stimulus) → IsGivenBy (contents mid) c.stimulus n list)
      → (GivesRunOf c (contents old) top (run_seen list) → Leaves ((command c).makes (contents old)) ((command c).comes (contents old)) result out out')
      → IfErr result IsOfRun → (IsErrOf result stop.WriteFault → Rose before after) → before ≤ after
      → Performs command c (disk_of names contents faults old new) result (passed_by out out' before after)
  cal_run_reports {result = result} list known given leaves stops rose more =
      reports command c (read_both command c is.reads first late known) (λ told. leaves (run_given list given told))
      (if_stops IsOfRun (command c).stops result (λ why of. is.stops why (inr of)) stops) (if_stops IsOfRun IsNoReadFault result no_fault_at_run stops) rose more

-- ---- what comes is of the files

module _ (contents other : Contents) where
  cal_top_too : (file : Text) → contents file ≡ other file → (t : CalTop) → GivesTop contents file t → GivesTop other file t
  cal_top_too file same t g = record { gives = cal_too contents other file same t.design g.gives; is_top = g.is_top; at = g.at }

  cal_run_too : (c : Arguments) (Comes : calyx.Driven → Text → Outcome → Type 0) (made : Text) (o : Outcome) → contents c.design ≡ other c.design → contents c.stimulus ≡ other c.stimulus
      → IsRefusedForSource contents Calyx c.design o ⊎ IsRefusedWithTop c contents o ⊎ Runs c Comes contents made o → IsRefusedForSource other Calyx c.design o ⊎ IsRefusedWithTop c other o ⊎ Runs c Comes other made o
  cal_run_too c Comes made o same same' (inl p) = inl (source_too contents other c.design same Calyx o p)
  cal_run_too c Comes made o same same' (inr (inl a)) =
      inr (inl (record { top = a.top; gives = cal_top_too c.design same a.top a.gives; refused = stimulus_too contents other c.stimulus same' (λ bytes. run_causes bytes (face a.top.comp)) o a.refused }))
  cal_run_too c Comes made o same same' (inr (inr a)) = inr (inr (record {
    top = a.top;
    run = a.run;
    gives = record { gives_top = cal_top_too c.design same a.top a.gives.gives_top; gives_run = run_too contents other c.stimulus same' (face a.top.comp) a.run a.gives.gives_run };
    comes = a.comes;
  }))

-- ---- laws

means_ends : (d : calyx.Driven) (o : Outcome) → calyx.Means d o → IsGrantedEnd o.ended
means_ends d o (inl clash) = inr (ap (λ (x : Outcome). x.ended) clash.outcome)
means_ends d o (inr whole) = inl (ap (λ (x : Outcome). x.ended) whole.outcome)

schedules_end : (d : calyx.Driven) (o : Outcome) → Schedules d o → IsGrantedEnd o.ended
schedules_end d o (inl clash) = inr (ap (λ (x : Outcome). x.ended) clash.outcome)
schedules_end d o (inr whole) = inl (ap (λ (x : Outcome). x.ended) whole.outcome)

traces_end : (d : calyx.Driven) (made : Text) (o : Outcome) → calyx.Traces d made o → IsGrantedEnd o.ended
traces_end d made o traces = run_ends (stimulus_run traces.net d.run (made ++ 10 ∷ []) true) o traces.comes

module _ (Comes : calyx.Driven → Text → Outcome → Type 0) (Makes : Contents → Text → Text → Type 0) (ends : (d : calyx.Driven) (made : Text) (o : Outcome) → Comes d made o → IsGrantedEnd o.ended) (c : Arguments) where
  cal_run_laws : CommandLaws (cal_run Comes Makes c)
  cal_run_laws = record {
    granted_ends = λ contents made o granted comes.
        ends (driven_of granted.top granted.run) made o (cal_run_comes Comes Makes c contents granted.top granted.run granted.gives made o comes);
    granted_told = λ contents granted.
        both_told (cal_run Comes Makes) c Calyx (cal_run_reading Comes Makes c).reads contents (granted.top.design, granted.gives.gives_top.gives)
        (is_told (contents c.stimulus) granted.gives.gives_run.bytes granted.gives.gives_run.told);
    by_files = λ contents other same made o comes. cal_run_too contents other c Comes made o same.0 same.1.0 comes;
  }

pub sim_cal_laws : (c : Arguments) → CommandLaws (sim_cal c)
sim_cal_laws = cal_run_laws (λ d made o. calyx.Means d o) (λ contents file. MakesNone) (λ d made o. means_ends d o)

pub trace_cal_laws : (c : Arguments) → CommandLaws (trace_cal c)
trace_cal_laws = cal_run_laws calyx.Traces (λ contents file. IsMadeFrom (FileGivesCal contents file) IsMadeOf) traces_end

pub sched_cal_laws : (c : Arguments) → CommandLaws (sched_cal c)
sched_cal_laws = cal_run_laws (λ d made o. Schedules d o) (λ contents file. MakesNone) (λ d made o. schedules_end d o)
