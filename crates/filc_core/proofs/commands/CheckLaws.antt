-- What comes of `check`.
use Rattle.std.proofs.Common.{◌≡◌, ◌⊎◌, [], Option, Result, refl, ap, inl, inr}
use Rattle.std.specs.Prelude.{IfErr, OnOk, OnErr}
use Rattle.std.specs.Io.KnownBytes.{Appends}
use Rattle.hw_io.specs.Writing.{AppendsPrefix}
use Rattle.hw_names.specs.Name.{Text}
use Rattle.filc_load.specs.Source.{IsAccepted, IsRefusedForSource}
use Rattle.filc_report.specs.Rows.{accepted_text}
use Rattle.filc_stop.specs.Leaving.{MakesNone, Leaves}
use Rattle.filc_stop.specs.Outcome.{Contents, Outcome, done_with}
use Rattle.filc_stop.specs.Stops.{IsWritingStop}
use Rattle.filc_stop.specs.declared.stop.Stop.{Stop}
use Rattle.filc_core.proofs.TellLemmas.{accepted_too, source_too}
use Rattle.filc_core.proofs.CommandLaws.{CommandLaws}
use Rattle.filc_core.proofs.PerformLemmas.{ReadsDesign, one_told, text_leaves}
use Rattle.filc_core.proofs.SourceLemmas.{accepted_not_refused}
use Rattle.filc_core.specs.Arguments.{Arguments}
use Rattle.filc_core.specs.commands.Check.{Accepts, check}

module _ (c : Arguments) where
  pub check_reads : ReadsDesign check c c.language []
  check_reads = record { files = refl; refused = λ contents o refused. inl refused; stops = λ why of. inl of }

  -- of an accepted design comes this alone
  pub check_comes : (contents : Contents) (made : Text) (o : Outcome) → IsAccepted contents c.language c.design → (check c).comes contents made o → o ≡ done_with accepted_text
  check_comes contents made o accepted (inl refused) = absurd (accepted_not_refused contents c.design c.language o accepted refused)
  check_comes contents made o accepted (inr has) = has.outcome

  -- what was written is what the command leaves
  pub check_leaves : (contents : Contents) → IsAccepted contents c.language c.design → (result : Result (Unit {0}) Stop) (out out' : Option Text)
      → OnOk result (Appends out out' accepted_text) → OnErr result (AppendsPrefix out out' accepted_text) → IfErr result IsWritingStop → Leaves MakesNone ((check c).comes contents) result out out'
  check_leaves contents accepted result out out' written part stops =
      text_leaves ((check c).comes contents) accepted_text result out out' (inr (record { accepted = accepted; outcome = refl })) (λ o comes. check_comes contents [] o accepted comes) written part stops

  -- it is of its file
  check_too : (contents other : Contents) (o : Outcome) → contents c.design ≡ other c.design → IsRefusedForSource contents c.language c.design o ⊎ Accepts c contents o → IsRefusedForSource other c.language c.design o ⊎ Accepts c other o
  check_too contents other o same (inl p) = inl (source_too contents other c.design same c.language o p)
  check_too contents other o same (inr a) = inr (record { accepted = accepted_too contents other c.design same c.language a.accepted; outcome = a.outcome })

  pub check_laws : CommandLaws (check c)
  check_laws = record {
    granted_ends = λ contents made o granted comes. inl (ap (λ (x : Outcome). x.ended) (check_comes contents made o granted comes));
    granted_told = one_told check c c.language check_reads;
    by_files = λ contents other same made o comes. check_too contents other o same.0 comes;
  }
