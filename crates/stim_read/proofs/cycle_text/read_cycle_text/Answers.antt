use Rattle.std.proofs.Common.{◌≡◌, Option, IfOk, option_map, sym, subst, ◌∙◌}
use Rattle.serde_json.specs.View.{view}
use Rattle.stim_read.specs.CycleText.{Cycles, cycles_seen}
use Rattle.stim_read.proofs.MeaningLemmas.{cycles_shapeless, cycles_no_version, cycles_are}
use Rattle.stim_read.proofs.cycle_text.read_cycle_text.Goals as goal

pub returns-then-not-is_object_of : goal.returns-then-not-is_object_of
returns-then-not-is_object_of c = sym (cycles_shapeless (view c.args.value.now) (sym c.is_object_of.ensures ∙ c.if-not-is_object_of.true))

pub returns-in_default : goal.returns-in_default
returns-in_default c = sym (cycles_no_version (view c.args.value.now) (sym c.is_object_of.ensures ∙ c.if-not-is_object_of.false) (sym c.read_version.ensures ∙ c.in_default.is))

pub returns : goal.returns
returns c =
    let e = sym (cycles_are (view c.args.value.now) c.in-Some.version (sym c.is_object_of.ensures ∙ c.if-not-is_object_of.false) (sym c.read_version.ensures ∙ c.in-Some.is)) in
    subst (λ (o : Option Cycles). IfOk c.read_cycles_by.result (λ text. option_map cycles_seen text ≡ o)) e c.read_cycles_by.ensures
