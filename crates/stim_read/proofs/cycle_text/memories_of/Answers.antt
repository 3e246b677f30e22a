use Rattle.std.proofs.Common.{◌≡◌, [], ◌∷◌, map, option_map, sym, ap, ◌∙◌}
use Rattle.std.specs.Map.Iter.{deref_pair}
use Rattle.std.proofs.lemmas.Map.Iter.{rest_more, rest_all}
use Rattle.hw_names.specs.Name.{Text}
use Rattle.serde_json.specs.View.{view}
use Rattle.stim_read.specs.Parts.{each, member_seen}
use Rattle.stim_read.specs.CycleText.{words_by, words_seen}
use Rattle.stim_read.proofs.EachLemmas.{behind, behind_none, cut_turn, cut_stops, cut_done}
use Rattle.stim_read.proofs.cycle_text.memories_of.Goals as goal

pub loop-key-init : goal.loop-key-init
loop-key-init c = rw (c.new-memories.ensures.items, c.into_iter-key-iterator.ensures.into_iter_gives.0) (behind_none _)

pub returns-in_default : goal.returns-in_default
returns-in_default c =
    let s = c.loop-key.key-iterator in
    let t = c.next.new.self in
    let x = deref_pair (c.in-Some.key, c.in-Some.value) in
    let cut : s ≡ x ∷ t = rest_more deref_pair s t c.next.result (c.in-Some.key, c.in-Some.value) c.in-Some.is c.next.ensures.steps in
    let means = ap (λ (name : Text). words_by c.args.version (name, view c.in-Some.value.now)) (sym c.as_str.ensures.value) ∙ sym c.in_ok-memory.ensures ∙ ap (option_map words_seen) c.in_default.is in
    sym (cut_stops member_seen (words_by c.args.version) (map words_seen c.loop-key.memories.items) s t x cut means) ∙ c.loop-key.invariant

pub loop-key-preserved : goal.loop-key-preserved
loop-key-preserved c =
    let s = c.loop-key.key-iterator in
    let t = c.next.new.self in
    let x = deref_pair (c.in-Some.key, c.in-Some.value) in
    let cut : s ≡ x ∷ t = rest_more deref_pair s t c.next.result (c.in-Some.key, c.in-Some.value) c.in-Some.is c.next.ensures.steps in
    let means = ap (λ (name : Text). words_by c.args.version (name, view c.in-Some.value.now)) (sym c.as_str.ensures.value) ∙ sym c.in_ok-memory.ensures ∙ ap (option_map words_seen) c.in-Some-2.is in
    ap (λ ys. behind (map words_seen ys) (each (words_by c.args.version) (map member_seen t))) c.in_ok-push.ensures.items
    ∙ sym (cut_turn member_seen (words_by c.args.version) words_seen c.loop-key.memories.items s t x c.in-Some-2.memory cut means) ∙ c.loop-key.invariant

pub returns : goal.returns
returns c =
    let s = c.loop-key.key-iterator in
    let cut : s ≡ [] = rest_all deref_pair s c.next.new.self c.next.result c.in-None.is c.next.ensures.steps in
    sym (cut_done member_seen (words_by c.args.version) (map words_seen c.loop-key.memories.items) s cut) ∙ c.loop-key.invariant
