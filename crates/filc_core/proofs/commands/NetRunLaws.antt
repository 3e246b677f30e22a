-- What comes of a netlist's run under a stimulus.
use Rattle.std.proofs.Common.{◌≡◌, ◌⊎◌, ℕ, ◌≤◌, Bool, true, false, List, [], ◌∷◌, ◌++◌, Option, IsSome, Result, Err, refl, subst, inl, inr, ⊎_elim}
use Rattle.std.specs.Prelude.{Contains, IfErr, IsErrOf}
use Rattle.std.specs.Result.{IsErrAnd}
use Rattle.hw_io.specs.Faults.{Rose}
use Rattle.hw_io.specs.Reading.{KeepsFiles, IsReadFault}
use Rattle.hw_names.specs.Name.{Text}
use Rattle.net_core.specs.Netlist.{Netlist}
use Rattle.net_core.specs.declared.stimulus.CycleList.{CycleList}
use Rattle.net_text.specs.Layout.{net_text}
use Rattle.stim_read.specs.CycleRun.{Run, run_seen}
use Rattle.filc_load.specs.Built.{KnowsFile, IsGivenBy, IsNotGiven}
use Rattle.filc_load.specs.Source.{FileGivesNet, IsRefusedForSource}
use Rattle.filc_load.specs.StimulusFile.{FileGivesRun, IsRefusedForStimulus, run_causes}
use Rattle.filc_report.proofs.GivenLemmas.{stimulus_run_is}
use Rattle.filc_report.specs.Runs.{PrintedRun, RunComes, LeavesOfRun, run_from, stimulus_run}
use Rattle.filc_stop.specs.Leaving.{MakesNone, Leaves}
use Rattle.filc_stop.specs.Outcome.{Contents, Outcome}
use Rattle.filc_stop.specs.Stops.{IsOfStimulus, IsOfRun}
use Rattle.filc_stop.specs.declared.language.Language.TheVariants.{Netlists}
use Rattle.filc_stop.specs.declared.stop.Stop.{Stop}
use Rattle.filc_stop.specs.declared.stop.Stop.TheVariants as stop
use Rattle.filc_core.proofs.TellLemmas.{net_too, run_too, source_too, stimulus_too}
use Rattle.filc_core.proofs.CommandLaws.{CommandLaws, run_ends}
use Rattle.filc_core.proofs.PerformLemmas.{ReadsDesign, DesignRead, IsNoReadFault, idle, passed_by, leaves_as, both_told, by_earlier, design_told, stimulus_told, stimulus_stops, read_both, reports, if_stops, no_fault_at_run}
use Rattle.filc_core.proofs.SourceLemmas.{accepted_not_refused, is_told, one_net, one_given_run, run_not_refused}
use Rattle.filc_core.specs.Arguments.{Arguments}
use Rattle.filc_core.specs.Call.{disk_of}
use Rattle.filc_core.specs.Command.{Command, stimulus_file}
use Rattle.filc_core.specs.Files.{AreTold}
use Rattle.filc_core.specs.inside.Performing.{Performs}
use Rattle.filc_core.specs.commands.NetRun.{GivesRunOf, IsRefusedWithNet, Runs, net_run}
use Rattle.filc_core.specs.commands.SimNet.{sim_net}
use Rattle.filc_core.specs.commands.TraceNet.{trace_net}

module _ (head : Netlist → Text) (all : Bool) (c : Arguments) where
  pub net_run_reads : ReadsDesign (net_run head all) c Netlists (stimulus_file c.stimulus ∷ [])
  net_run_reads = record { files = refl; refused = λ contents o refused. inl refused; stops = λ why of. inl of }

  module _ (contents : Contents) (n : Netlist) where
    -- a stimulus that gives the netlist nothing
    pub net_run_refused : FileGivesNet contents c.design n → (o : Outcome) → IsRefusedForStimulus contents c.stimulus (λ bytes. run_causes bytes n) o → (made : Text) → (net_run head all c).comes contents made o
    net_run_refused gives o refused made = inr (inl (record { net = n; gives = gives; refused = refused }))

    -- of a netlist and the run that a stimulus gives it comes that run
    pub net_run_comes : (run : Run) → GivesRunOf c contents n run → (made : Text) (o : Outcome) → (net_run head all c).comes contents made o → RunComes (stimulus_run n run (head n) all) o
    net_run_comes run gives made o (inl refused) = absurd (accepted_not_refused contents c.design Netlists o (n, gives.gives_net) refused)
    net_run_comes run gives made o (inr (inl refused)) =
        absurd (run_not_refused contents c.stimulus n run o gives.gives_run
        (subst (λ (k : Netlist). IsRefusedForStimulus contents c.stimulus (λ bytes. run_causes bytes k) o) (one_net contents c.design refused.net n refused.gives gives.gives_net) refused.refused))
    net_run_comes run gives made o (inr (inr runs)) =
        let same = one_net contents c.design runs.net n runs.gives.gives_net gives.gives_net in
        let same_run = one_given_run contents c.stimulus n runs.run run (subst (λ (k : Netlist). FileGivesRun contents c.stimulus k runs.run) same runs.gives.gives_run) gives.gives_run in
        subst (λ (a : Run). RunComes (stimulus_run n a (head n) all) o) same_run
        (subst (λ (k : Netlist). RunComes (stimulus_run k runs.run (head k) all) o) same runs.comes)

    -- what the run leaves is what the command leaves
    pub net_run_leaves : (list : CycleList) → GivesRunOf c contents n (run_seen list) → (result : Result (Unit {0}) Stop) (out out' : Option Text) → LeavesOfRun (run_from n list (head n) all) result out out'
        → Leaves MakesNone ((net_run head all c).comes contents) result out out'
    net_run_leaves list gives result out out' leaves =
        leaves_as MakesNone (λ made. RunComes (stimulus_run n (run_seen list) (head n) all)) ((net_run head all c).comes contents)
        (λ made o comes. inr (inr (record { net = n; run = run_seen list; gives = gives; comes = comes })))
        (λ made o comes. net_run_comes (run_seen list) gives made o comes) result out out'
        (subst (λ (p : PrintedRun). LeavesOfRun p result out out') (stimulus_run_is n list (head n) all) leaves)

-- what a netlist's file and a stimulus's file give, where both are told: the second by the contents after the first was read
pub run_given : (command : Arguments → Command) (c : Arguments) → ReadsDesign command c Netlists (stimulus_file c.stimulus ∷ []) → (contents now : Contents) → ((name : Text) → now name ≡ contents name) → AreTold contents (command c).files
    → (n : Netlist) → (IsSome (contents c.design) → FileGivesNet contents c.design n) → (list : CycleList) → (IsSome (now c.stimulus) → IsGivenBy now c.stimulus n list) → GivesRunOf c contents n (run_seen list)
run_given command c reads contents now kept told n gives list given =
    let gives_net = gives (design_told command c Netlists (stimulus_file c.stimulus ∷ []) reads contents told) in
    record {
      gives_net = gives_net;
      gives_run = by_earlier contents now c.stimulus (λ (k : Contents). IsGivenBy k c.stimulus n list) kept (stimulus_told command c Netlists reads contents told (n, gives_net)) given;
    }

-- ---- what a command with this run performs

-- a command that runs a netlist under a stimulus, and prints this before its rows
pub record IsNetRun (command : Arguments → Command) (head : Netlist → Text) (all : Bool) (c : Arguments) : Type 0 where
  pub reads : ReadsDesign command c Netlists (stimulus_file c.stimulus ∷ [])
  pub refused : (contents : Contents) (n : Netlist) → FileGivesNet contents c.design n → (o : Outcome) → IsRefusedForStimulus contents c.stimulus (λ bytes. run_causes bytes n) o → (command c).comes contents [] o
  pub leaves : (contents : Contents) (n : Netlist) (list : CycleList) → GivesRunOf c contents n (run_seen list) → (result : Result (Unit {0}) Stop) (out out' : Option Text) → LeavesOfRun (run_from n list (head n) all) result out out'
      → Leaves ((command c).makes contents) ((command c).comes contents) result out out'
  pub stops : (why : Stop) → IsOfStimulus why ⊎ IsOfRun why → (command c).stops why

pub is_net_run : (head : Netlist → Text) (all : Bool) (c : Arguments) → IsNetRun (net_run head all) head all c
is_net_run head all c = record {
  reads = net_run_reads head all c;
  refused = λ contents n gives o refused. net_run_refused head all c contents n gives o refused [];
  leaves = λ contents n list gives result out out' leaves. net_run_leaves head all c contents n list gives result out out' leaves;
  stops = λ why of. ⊎_elim (λ s. inr (inl s)) (λ s. inr (inr s)) of;
}

module _ {F : Type 0} {head : Netlist → Text} {all : Bool} {c : Arguments} {names : F → List Text} {contents : F → Contents} {faults : F → Text → ℕ} {old mid new : F} (command : Arguments → Command) (is : IsNetRun command head all c) (n : Netlist) (first : DesignRead names contents faults Netlists c.design old mid) (gives : IsSome (contents old c.design) → FileGivesNet (contents old) c.design n) (late : KeepsFiles names contents faults c.stimulus mid new) where
  -- the stimulus gives nothing
  pub net_run_stops : {T : Type 0} {result : Result (Unit {0}) Stop} {out : Option Text} {count : ℕ} (why : Stop) → IsErrAnd result (λ e. e ≡ why)
      → (IsSome (contents mid c.stimulus) → IsNotGiven (contents mid) c.stimulus (λ text. run_causes text n) why) → KnowsFile {T = T} (names mid) c.stimulus (Err why)
      → (◌≡◌ {A = Result T Stop} (Err why) (Err stop.StimulusReadFault) → IsReadFault (names mid) c.stimulus (faults mid c.stimulus) (faults new c.stimulus)) → IsOfStimulus why
      → Performs command c (disk_of names contents faults old new) result (idle out count)
  net_run_stops why passed not_given known fault of =
      stimulus_stops command c is.reads first late (λ text. run_causes text n) why passed
      (λ told o refused. is.refused (contents old) n (gives (design_told command c Netlists (stimulus_file c.stimulus ∷ []) is.reads (contents old) told)) o refused) not_given known fault of (is.stops why (inl of))

  -- the run is printed
  pub net_run_reports : {result : Result (Unit {0}) Stop} {out out' : Option Text} {before after : ℕ} (list : CycleList) → Contains (names mid) c.stimulus → (IsSome (contents mid c.stimulus) → IsGivenBy (contents mid) c.stimulus n list)
      → LeavesOfRun (run_from n list (head n) all) result out out' → IfErr result IsOfRun → (IsErrOf result stop.WriteFault → Rose before after) → before ≤ after
      → Performs command c (disk_of names contents faults old new) result (passed_by out out' before after)
  net_run_reports {result = result} {out = out} {out' = out'} list known given leaves stops rose more =
      reports command c (read_both command c is.reads first late known)
      (λ told. is.leaves (contents old) n list (run_given command c is.reads (contents old) (contents mid) first.files.contents_kept told n gives list given) result out out' leaves)
      (if_stops IsOfRun (command c).stops result (λ why of. is.stops why (inr of)) stops) (if_stops IsOfRun IsNoReadFault result no_fault_at_run stops) rose more

-- ---- laws

module _ (head : Netlist → Text) (all : Bool) (c : Arguments) where
  -- it is of its files
  net_run_too : (contents other : Contents) (o : Outcome) → contents c.design ≡ other c.design → contents c.stimulus ≡ other c.stimulus
      → IsRefusedForSource contents Netlists c.design o ⊎ IsRefusedWithNet c contents o ⊎ Runs c head all contents o → IsRefusedForSource other Netlists c.design o ⊎ IsRefusedWithNet c other o ⊎ Runs c head all other o
  net_run_too contents other o same same' (inl p) = inl (source_too contents other c.design same Netlists o p)
  net_run_too contents other o same same' (inr (inl a)) =
      inr (inl (record { net = a.net; gives = net_too contents other c.design same a.net a.gives; refused = stimulus_too contents other c.stimulus same' (λ bytes. run_causes bytes a.net) o a.refused }))
  net_run_too contents other o same same' (inr (inr a)) = inr (inr (record {
    net = a.net;
    run = a.run;
    gives = record { gives_net = net_too contents other c.design same a.net a.gives.gives_net; gives_run = run_too contents other c.stimulus same' a.net a.run a.gives.gives_run };
    comes = a.comes;
  }))

  net_run_laws : CommandLaws (net_run head all c)
  net_run_laws = record {
    granted_ends = λ contents made o granted comes.
        run_ends (stimulus_run granted.net granted.run (head granted.net) all) o (net_run_comes head all c contents granted.net granted.run granted.gives made o comes);
    granted_told = λ contents granted.
        both_told (net_run head all) c Netlists (net_run_reads head all c) contents (granted.net, granted.gives.gives_net)
        (is_told (contents c.stimulus) granted.gives.gives_run.bytes granted.gives.gives_run.told);
    by_files = λ contents other same made o comes. net_run_too contents other o same.0 same.1.0 comes;
  }

pub sim_net_laws : (c : Arguments) → CommandLaws (sim_net c)
sim_net_laws = net_run_laws (λ net. []) false

pub trace_net_laws : (c : Arguments) → CommandLaws (trace_net c)
trace_net_laws = net_run_laws (λ net. net_text net ++ 10 ∷ []) true
