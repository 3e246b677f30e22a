-- What is left of the text and the rows of a netlist that is made of a Calyx design.
use Rattle.std.proofs.Common.{[], ◌∷◌, ◌++◌, true, Option, Result, Ok, Err, refl, subst, inl, inr}
use Rattle.hw_names.specs.Name.{Text}
use Rattle.net_core.specs.Netlist.{Netlist}
use Rattle.net_text.proofs.OneNetlist.{one_netlist}
use Rattle.net_text.specs.Layout.{net_text}
use Rattle.net_text.specs.Names.{HasText}
use Rattle.filc_report.specs.Runs.{LeavesOfRun, PrintedRun, RunComes, stimulus_run}
use Rattle.filc_stop.specs.Leaving.{IsCutShort, Leaves, MakesNone}
use Rattle.filc_stop.specs.Outcome.{Outcome}
use Rattle.filc_stop.specs.declared.stop.Stop.{Stop}
use Rattle.filc_stop.specs.declared.stop.Stop.TheVariants as stop
use Rattle.filc_calyx.specs.Made.{IsMadeOf, IsNetOf, IsNetlistFor}
use Rattle.filc_calyx.specs.Means.{Driven, Traces}

module _ (d : Driven) (n : Netlist) (is_for : IsNetlistFor d.design n) (has_text : HasText n) where
  abbrev text : Text
  text = net_text n

  abbrev printed : PrintedRun
  printed = stimulus_run n d.run (text ++ 10 ∷ []) true

  made_net : IsNetOf d.design n text
  made_net = record { is_for = is_for; spells = (has_text, refl) }

  traces_from : (o : Outcome) → RunComes printed o → Traces d text o
  traces_from o comes = record { net = n; made_net = made_net; comes = comes }

  -- a text spells one netlist
  comes_from : (o : Outcome) → Traces d text o → RunComes printed o
  comes_from o traces =
      subst (λ (m : Netlist). RunComes (stimulus_run m d.run (text ++ 10 ∷ []) true) o) (one_netlist text traces.net n traces.made_net.spells made_net.spells) traces.comes

  cut_traced : (out out' : Option Text) → IsCutShort MakesNone (λ made. RunComes printed) out out' → IsCutShort (IsMadeOf d.design) (Traces d) out out'
  cut_traced out out' (inl kept) = inl kept
  cut_traced out out' (inr part) = inr (record { made = text; makes_it = (n, made_net); part = λ o traces. part.part o (comes_from o traces) })

  -- what the netlist's run leaves after the text is what the trace leaves
  pub traces_leave : (result : Result (Unit {0}) Stop) (out out' : Option Text) → LeavesOfRun printed result out out' → Leaves (IsMadeOf d.design) (Traces d) result out out'
  traces_leave (Ok done) out out' has = record { made = text; report = has.report; outcome = traces_from _ has.outcome; reported = has.reported }
  traces_leave (Err stop.ReadFault) out out' kept = kept
  traces_leave (Err stop.StimulusReadFault) out out' kept = kept
  traces_leave (Err (stop.Refused why)) out out' has = record { made = text; report = has.report; outcome = traces_from _ has.outcome; reported = has.reported }
  traces_leave (Err stop.WriteFault) out out' cut = cut_traced out out' cut
  traces_leave (Err stop.Memory) out out' cut = cut_traced out out' cut
