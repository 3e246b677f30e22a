-- What comes of `soak`.
use Rattle.std.proofs.Common.{◌≡◌, ℕ, ◌≤◌, List, Option, Result, refl, ap, arith, inl, inr}
use Rattle.hw_names.specs.Name.{Text}
use Rattle.hw_limits.specs.declared.limits.TheConstants.{MOST_TRANSACTIONS}
use Rattle.filc_run.specs.Soaked.{Soaks, soak_design}
use Rattle.filc_run.specs.Traced.{IsMadeOf}
use Rattle.filc_stop.specs.Leaving.{Leaves}
use Rattle.filc_stop.specs.Outcome.{Contents, Outcome}
use Rattle.filc_stop.specs.declared.ended.Ended.TheVariants.{Done}
use Rattle.filc_stop.specs.declared.stop.Stop.{Stop}
use Rattle.filc_core.proofs.CommandLaws.{CommandLaws}
use Rattle.filc_core.proofs.PerformLemmas.{HasRead, leaves_of}
use Rattle.filc_core.specs.Arguments.{Arguments}
use Rattle.filc_core.specs.Call.{disk_of}
use Rattle.filc_core.specs.commands.Soak.{soak}

module _ (c : Arguments) where
  -- no file is read
  pub soak_reads : {F : Type 0} (names : F → List Text) (contents : F → Contents) (faults : F → Text → ℕ) (files : F) → HasRead (disk_of names contents faults files files) (soak c).files
  soak_reads names contents faults files = record {
    kept = record { names_kept = refl; contents_kept = λ file. refl; others_kept = λ file unread. refl; never_fall = λ file. omega arith };
    known = tt;
  }

  -- within the limit the soak comes
  soak_comes : (contents : Contents) (made : Text) (o : Outcome) → c.count ≤ MOST_TRANSACTIONS → (soak c).comes contents made o → Soaks c.count made o
  soak_comes contents made o within (inl many) = absurd (omega (arith, many.over, within))
  soak_comes contents made o within (inr soaked) = soaked.soaks

  -- and that is a whole report
  pub soak_done : (contents : Contents) (made : Text) (o : Outcome) → c.count ≤ MOST_TRANSACTIONS → (soak c).comes contents made o → o.ended ≡ Done
  soak_done contents made o within comes = ap (λ (x : Outcome). x.ended) (soak_comes contents made o within comes).outcome

  -- what is left of it is what the command leaves
  pub soak_leaves : (contents : Contents) → c.count ≤ MOST_TRANSACTIONS → (result : Result (Unit {0}) Stop) (out out' : Option Text)
      → Leaves (IsMadeOf soak_design) (Soaks c.count) result out out' → Leaves ((soak c).makes contents) ((soak c).comes contents) result out out'
  soak_leaves contents within =
      leaves_of (IsMadeOf soak_design) ((soak c).makes contents) (Soaks c.count) ((soak c).comes contents) (λ made is. is)
      (λ made o soaks. inr (record { within = within; soaks = soaks })) (λ made o comes. soak_comes contents made o within comes)

  pub soak_laws : CommandLaws (soak c)
  soak_laws = record {
    granted_ends = λ contents made o granted comes. inl (soak_done contents made o granted comes);
    granted_told = λ contents granted. tt;
    by_files = λ contents other same made o comes. comes;
  }
