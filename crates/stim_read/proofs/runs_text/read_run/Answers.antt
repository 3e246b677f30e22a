use Rattle.std.proofs.Common.{◌≡◌, Option, IfOk, option_map, sym, subst, ◌∙◌}
use Rattle.serde_json.specs.View.{view}
use Rattle.stim_read.specs.CycleText.{Cycles, cycles_seen}
use Rattle.stim_read.proofs.MeaningLemmas.{run_shapeless, run_is}
use Rattle.stim_read.proofs.runs_text.read_run.Goals as goal

pub returns-then-not-is_object_of : goal.returns-then-not-is_object_of
returns-then-not-is_object_of c = sym (run_shapeless c.args.version (view c.args.value.now) (sym c.is_object_of.ensures ∙ c.if-not-is_object_of.true))

pub returns : goal.returns
returns c =
    let e = sym (run_is c.args.version (view c.args.value.now) (sym c.is_object_of.ensures ∙ c.if-not-is_object_of.false)) in
    subst (λ (o : Option Cycles). IfOk c.read_cycles_by.result (λ text. option_map cycles_seen text ≡ o)) e c.read_cycles_by.ensures
