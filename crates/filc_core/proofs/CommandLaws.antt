-- The laws of a command, which are proved beside each.
use Rattle.std.proofs.Common.{◌≡◌, ◌⊎◌, ap, inl, inr}
use Rattle.hw_names.specs.Name.{Text}
use Rattle.filc_report.specs.Runs.{PrintedRun, RunComes}
use Rattle.filc_stop.specs.Outcome.{Contents, Outcome}
use Rattle.filc_stop.specs.declared.ended.Ended.{Ended}
use Rattle.filc_stop.specs.declared.ended.Ended.TheVariants.{Done, Conflict}
use Rattle.filc_core.specs.Command.{Command}
use Rattle.filc_core.specs.Files.{AreTold, TellTheSame}

-- done, or a run that ends in a Conflict
abbrev pub IsGrantedEnd : Ended → Type 0
IsGrantedEnd ended = (ended ≡ Done) ⊎ (ended ≡ Conflict)

pub record CommandLaws (command : Command) : Type 0 where
  -- what is granted is done, or ends in a Conflict
  pub granted_ends : (contents : Contents) (made : Text) (o : Outcome) → command.granted contents → command.comes contents made o → IsGrantedEnd o.ended
  -- and its files are told
  pub granted_told : (contents : Contents) → command.granted contents → AreTold contents command.files
  -- what comes is of its files: where other contents tell the same of these, it comes too
  pub by_files : (contents other : Contents) → TellTheSame contents other command.files → (made : Text) (o : Outcome) → command.comes contents made o → command.comes other made o

-- a run ends so
pub run_ends : (p : PrintedRun) (o : Outcome) → RunComes p o → IsGrantedEnd o.ended
run_ends p o (inl clash) = inr (ap (λ (x : Outcome). x.ended) clash.outcome)
run_ends p o (inr whole) = inl (ap (λ (x : Outcome). x.ended) whole.outcome)
