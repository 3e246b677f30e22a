use Rattle.std.proofs.Common.{◌≡◌, ℕ, Global, Vec, List, Some, None, map, option_map, sym, ap, ◌∙◌}
use Rattle.hw_names.specs.Name.{Text}
use Rattle.serde_json.specs.View.{view}
use Rattle.stim_read.specs.Parts.{◌>>=◌, each, items_in, items_of}
use Rattle.stim_read.specs.Amounts.{amount_in}
use Rattle.stim_read.specs.CycleText.{Words}
use Rattle.stim_read.proofs.SeenLemmas.{items_seen}
use Rattle.stim_read.proofs.cycle_text.read_memory.Goals as goal

abbrev named : Text → List ℕ → Words
named name words = record { name = name; words = words }

pub returns-in_default : goal.returns-in_default
returns-in_default c = ap (λ o. option_map (named c.args.name.now) (option_map items_of o >>= each (amount_in c.args.version))) c.in_default.ensures

pub returns-in_default-2 : goal.returns-in_default-2
returns-in_default-2 c =
    let f = amount_in c.args.version in
    let words : (items_in (view c.args.value.now) >>= each f) ≡ None = sym (ap (λ o. option_map items_of o >>= each f) c.in-Some.ensures) ∙ ap (each f) (items_seen c.in-Some.values.now.items)
    ∙ ap (λ xs. each f (map view xs)) (sym c.deref.ensures.value) ∙ sym c.in_ok-words.ensures ∙ ap (option_map (λ (v : Vec ℕ Global). v.items)) c.in_default-2.is in
    sym (ap (option_map (named c.args.name.now)) words)

pub returns : goal.returns
returns c =
    let f = amount_in c.args.version in
    let words : (items_in (view c.args.value.now) >>= each f) ≡ Some c.in-Some-2.words.items = sym (ap (λ o. option_map items_of o >>= each f) c.in-Some.ensures) ∙ ap (each f) (items_seen c.in-Some.values.now.items)
    ∙ ap (λ xs. each f (map view xs)) (sym c.deref.ensures.value) ∙ sym c.in_ok-words.ensures ∙ ap (option_map (λ (v : Vec ℕ Global). v.items)) c.in-Some-2.is in
    ap (λ (n : Text). Some (named n c.in-Some-2.words.items)) (c.in_ok-name.ensures ∙ c.as_bytes.ensures.value) ∙ sym (ap (option_map (named c.args.name.now)) words)
