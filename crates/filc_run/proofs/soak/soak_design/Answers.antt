use Rattle.std.proofs.Common.{List, ℕ, ◌≡◌, subst}
use Rattle.std.specs.Fmt.{digits}
use Rattle.std.specs.Prelude.{IfErr, IfOk}
use Rattle.filc_load.specs.Built.{IsFilBuiltFrom, IsUnbuilt}
use Rattle.filc_run.proofs.SoakNestLemmas.{soak_text}
use Rattle.filc_run.proofs.SoakTextLemmas.{built_design, built_memory, built_ready}
use Rattle.filc_stop.specs.declared.language.Language.TheVariants.{Filament}
use Rattle.filc_run.proofs.soak.soak_design.Goals as goal

pub returns : goal.returns
unfolding digits
returns c =
    let text : c.as_bytes.result.now ≡ soak_text = c.as_bytes.ensures.value in
    let built = subst (λ (t : List ℕ). IfOk c.build.result (IsFilBuiltFrom t)) text c.build.ensures.built in
    record {
      design = built_design c.build.result built;
      ready = built_ready c.build.result built;
      stops = built_memory c.build.result (subst (λ (t : List ℕ). IfErr c.build.result (IsUnbuilt Filament t)) text c.build.ensures.refused);
    }
