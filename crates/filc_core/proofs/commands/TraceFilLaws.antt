-- What comes of `trace` of a Filament design.
use Rattle.std.proofs.Common.{◌≡◌, ◌⊎◌, Option, Result, refl, ap, subst, inl, inr, ⊎_elim}
use Rattle.hw_names.specs.Name.{Text}
use Rattle.stim_read.specs.TxRun.{TxRun}
use Rattle.filc_run.specs.Traced.{IsMadeOf, Traces}
use Rattle.filc_load.specs.Source.{IsRefusedForSource}
use Rattle.filc_stop.specs.Leaving.{Leaves}
use Rattle.filc_stop.specs.Outcome.{Contents, Outcome}
use Rattle.filc_stop.specs.declared.ended.Ended.TheVariants.{Done}
use Rattle.filc_stop.specs.declared.language.Language.TheVariants.{Filament}
use Rattle.filc_stop.specs.declared.stop.Stop.{Stop}
use Rattle.filc_core.proofs.TellLemmas.{source_too}
use Rattle.filc_core.proofs.CommandLaws.{CommandLaws}
use Rattle.filc_core.proofs.PerformLemmas.{both_told, leaves_of}
use Rattle.filc_core.proofs.SourceLemmas.{accepted_not_refused, is_told}
use Rattle.filc_core.proofs.commands.TransactionsLaws.{ReadsTransactions, top_not_refused, given_too, given_top, given_run, refused_top_too}
use Rattle.filc_core.specs.Arguments.{Arguments}
use Rattle.filc_core.specs.commands.TraceFil.{PrintsTrace, trace_fil}
use Rattle.filc_core.specs.commands.Transactions.{Top, GivesTransactionsOf, IsRefusedWithTop}

pub trace_fil_reading : (c : Arguments) → ReadsTransactions trace_fil c
trace_fil_reading c = record {
  reads = record { files = refl; refused = λ contents o refused. inl refused; stops = λ why of. inl of };
  refused = λ contents top gives o refused. inr (inl (record { top = top; gives = gives; refused = refused }));
  stops = λ why of. ⊎_elim (λ s. inr (inl s)) (λ s. inr (inr s)) of;
}

module _ (c : Arguments) (contents : Contents) (top : Top) (run : TxRun) (gives : GivesTransactionsOf c contents top run) where
  -- of transactions comes a trace of them, alone
  pub trace_fil_comes : (made : Text) (o : Outcome) → (trace_fil c).comes contents made o → Traces top.design top.comp run made o
  trace_fil_comes made o (inl refused) = absurd (accepted_not_refused contents c.design Filament o (top.design, gives.gives_top.gives) refused)
  trace_fil_comes made o (inr (inl refused)) = absurd (top_not_refused c contents top run gives o refused)
  trace_fil_comes made o (inr (inr prints)) =
      subst (λ (a : TxRun). Traces top.design top.comp a made o) (given_run c contents top run gives prints.top prints.run prints.gives)
      (subst (λ (t : Top). Traces t.design t.comp prints.run made o) (given_top c contents top run gives prints.top prints.run prints.gives) prints.traces)

  -- which is the whole report
  pub trace_fil_done : (made : Text) (o : Outcome) → (trace_fil c).comes contents made o → o.ended ≡ Done
  trace_fil_done made o comes = ap (λ (x : Outcome). x.ended) (trace_fil_comes made o comes).outcome

  -- what is left of a trace is what the command leaves
  pub trace_fil_leaves : (result : Result (Unit {0}) Stop) (out out' : Option Text) → Leaves (IsMadeOf top.design) (Traces top.design top.comp run) result out out' → Leaves ((trace_fil c).makes contents) ((trace_fil c).comes contents) result out out'
  trace_fil_leaves =
      leaves_of (IsMadeOf top.design) ((trace_fil c).makes contents) (Traces top.design top.comp run) ((trace_fil c).comes contents)
      (λ made is. record { design = top.design; gives = gives.gives_top.gives; is_made = is })
      (λ made o traces. inr (inr (record { top = top; run = run; gives = gives; traces = traces }))) trace_fil_comes

-- it is of its files
module _ (contents other : Contents) where
  trace_fil_too : (c : Arguments) (made : Text) (o : Outcome) → contents c.design ≡ other c.design → contents c.stimulus ≡ other c.stimulus
      → IsRefusedForSource contents Filament c.design o ⊎ IsRefusedWithTop c contents o ⊎ PrintsTrace c contents made o → IsRefusedForSource other Filament c.design o ⊎ IsRefusedWithTop c other o ⊎ PrintsTrace c other made o
  trace_fil_too c made o same same' (inl p) = inl (source_too contents other c.design same Filament o p)
  trace_fil_too c made o same same' (inr (inl a)) = inr (inl (refused_top_too contents other c o same same' a))
  trace_fil_too c made o same same' (inr (inr a)) = inr (inr (record { top = a.top; run = a.run; gives = given_too contents other c a.top a.run same same' a.gives; traces = a.traces }))

pub trace_fil_laws : (c : Arguments) → CommandLaws (trace_fil c)
trace_fil_laws c = record {
  granted_ends = λ contents made o granted comes. inl (trace_fil_done c contents granted.top granted.run granted.gives made o comes);
  granted_told = λ contents granted.
      both_told trace_fil c Filament (trace_fil_reading c).reads contents (granted.top.design, granted.gives.gives_top.gives)
      (is_told (contents c.stimulus) granted.gives.gives_transactions.bytes granted.gives.gives_transactions.told);
  by_files = λ contents other same made o comes. trace_fil_too contents other c made o same.0 same.1.0 comes;
}
