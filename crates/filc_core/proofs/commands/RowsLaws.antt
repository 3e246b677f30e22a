-- What comes of `rows`.
use Rattle.std.proofs.Common.{◌≡◌, ◌⊎◌, [], false, Option, Result, refl, ap, ◌∙◌, subst, arith, inl, inr}
use Rattle.hw_names.specs.Name.{Text}
use Rattle.net_core.specs.Netlist.{Netlist}
use Rattle.net_core.specs.declared.stimulus.CycleList.{CycleList}
use Rattle.filc_report.proofs.GivenLemmas.{plain_run_is}
use Rattle.filc_report.specs.Runs.{PrintedRun, RunComes, LeavesOfRun, plain_run, run_from}
use Rattle.filc_load.specs.Source.{IsRefusedForSource}
use Rattle.filc_stop.specs.Leaving.{MakesNone, Leaves}
use Rattle.filc_stop.specs.Outcome.{Contents, Outcome}
use Rattle.filc_stop.specs.declared.language.Language.TheVariants.{Netlists}
use Rattle.filc_stop.specs.declared.stop.Stop.{Stop}
use Rattle.filc_core.proofs.TellLemmas.{net_too, source_too}
use Rattle.filc_core.proofs.CommandLaws.{CommandLaws, run_ends}
use Rattle.filc_core.proofs.PerformLemmas.{ReadsDesign, leaves_as, one_told}
use Rattle.filc_core.proofs.SourceLemmas.{accepted_not_refused, one_net}
use Rattle.filc_core.specs.Arguments.{Arguments}
use Rattle.filc_core.specs.commands.Rows.{AsksTooMany, IsGranted, Runs, rows}

module _ (c : Arguments) where
  pub rows_reads : ReadsDesign rows c Netlists []
  rows_reads = record { files = refl; refused = λ contents o refused. inl refused; stops = λ why of. inl of }

  -- of an accepted netlist and cycles within the limit comes the run
  pub rows_comes : (contents : Contents) (made : Text) (o : Outcome) (granted : IsGranted c contents) → (rows c).comes contents made o → RunComes (plain_run granted.net c.count) o
  rows_comes contents made o granted (inl refused) = absurd (accepted_not_refused contents c.design Netlists o (granted.net, granted.gives) refused)
  rows_comes contents made o granted (inr (inl many)) = absurd (omega (arith, many.over, granted.within))
  rows_comes contents made o granted (inr (inr runs)) =
      subst (λ (n : Netlist). RunComes (plain_run n c.count) o) (one_net contents c.design runs.net granted.net runs.gives granted.gives) runs.run

  -- what the run leaves is what the command leaves
  pub rows_leaves : (contents : Contents) (granted : IsGranted c contents) (list : CycleList) → list.cycles ≡ c.count → list.sets.items ≡ [] → list.loads.items ≡ [] → (result : Result (Unit {0}) Stop) (out out' : Option Text) → LeavesOfRun (run_from granted.net list [] false) result out out'
      → Leaves MakesNone ((rows c).comes contents) result out out'
  rows_leaves contents granted list counts no_set no_load result out out' leaves =
      leaves_as MakesNone (λ made. RunComes (plain_run granted.net c.count)) ((rows c).comes contents)
      (λ made o comes. inr (inr (record { net = granted.net; gives = granted.gives; within = granted.within; run = comes })))
      (λ made o comes. rows_comes contents made o granted comes) result out out'
      (subst (λ (p : PrintedRun). LeavesOfRun p result out out') (plain_run_is granted.net list no_set no_load ∙ ap (plain_run granted.net) counts) leaves)

  -- it is of its file
  rows_too : (contents other : Contents) (o : Outcome) → contents c.design ≡ other c.design → IsRefusedForSource contents Netlists c.design o ⊎ AsksTooMany c contents o ⊎ Runs c contents o → IsRefusedForSource other Netlists c.design o ⊎ AsksTooMany c other o ⊎ Runs c other o
  rows_too contents other o same (inl p) = inl (source_too contents other c.design same Netlists o p)
  rows_too contents other o same (inr (inl a)) = inr (inl (record { net = a.net; gives = net_too contents other c.design same a.net a.gives; over = a.over; outcome = a.outcome }))
  rows_too contents other o same (inr (inr a)) = inr (inr (record { net = a.net; gives = net_too contents other c.design same a.net a.gives; within = a.within; run = a.run }))

  pub rows_laws : CommandLaws (rows c)
  rows_laws = record {
    granted_ends = λ contents made o granted comes. run_ends (plain_run granted.net c.count) o (rows_comes contents made o granted comes);
    granted_told = λ contents granted. one_told rows c Netlists rows_reads contents (granted.net, granted.gives);
    by_files = λ contents other same made o comes. rows_too contents other o same.0 comes;
  }
