use Rattle.std.proofs.Common.{◌≡◌, codes, Global, Vec, List, Option, Some, IfOk, map, option_map, sym, ap, subst, ◌∙◌}
use Rattle.serde_json.specs.Data.{Data}
use Rattle.serde_json.specs.Find.{get}
use Rattle.serde_json.specs.View.{view}
use Rattle.stim_read.specs.CycleText.{Cycles}
use Rattle.stim_read.specs.Parts.{◌>>=◌, items_in, items_of}
use Rattle.stim_read.specs.RunsText.{run_list_in, runs_in, runs_seen}
use Rattle.stim_read.specs.declared.cycle_text.CycleText.{CycleText}
use Rattle.stim_read.proofs.MeaningLemmas.{runs_are}
use Rattle.stim_read.proofs.SeenLemmas.{items_seen}
use Rattle.stim_read.proofs.runs_text.read_runs_text.Goals as goal

pub returns-in-Some-as_array : goal.returns-in-Some-as_array
returns-in-Some-as_array c =
    let value = view c.args.value.now in
    let version = c.in-Some.version in
    let values = c.in-Some-as_array.values.now.items in
    let list : (get (codes "runs") value >>= items_in) ≡ Some (map view values) =
    sym (ap (λ o. o >>= items_in) c.in-Some-get.ensures) ∙ sym (ap (option_map items_of) c.in-Some-as_array.ensures) ∙ ap (λ (ds : List Data). Some ds) (items_seen values) in
    let says : run_list_in version (map view c.deref.result.now) ≡ runs_in value =
    ap (λ xs. run_list_in version (map view xs)) c.deref.ensures.value
    ∙ sym (runs_are value version (map view values) (sym c.is_object_of.ensures ∙ c.if-not-is_object_of.false) (sym c.read_version.ensures ∙ c.in-Some.is) list) in
    subst (λ (m : Option (List Cycles)). IfOk c.read_run_list.result (λ o. option_map (λ (v : Vec CycleText Global). runs_seen v.items) o ≡ m)) says c.read_run_list.ensures
