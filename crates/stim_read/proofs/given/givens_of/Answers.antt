use Rattle.std.proofs.Common.{◌≡◌, [], ◌∷◌, map, sym, ap, ◌∙◌}
use Rattle.std.specs.Map.Iter.{deref_pair}
use Rattle.std.proofs.lemmas.Map.Iter.{rest_more, rest_all}
use Rattle.stim_read.specs.Parts.{each, member_seen}
use Rattle.stim_read.specs.CycleText.{given_by}
use Rattle.stim_read.proofs.EachLemmas.{behind, behind_none, cut_more, cut_stops, cut_done}
use Rattle.stim_read.proofs.GivenLemmas.{given_of, given_is, no_given}
use Rattle.stim_read.proofs.given.givens_of.Goals as goal

pub loop-key-init : goal.loop-key-init
loop-key-init c = rw (c.new-given.ensures.items, c.into_iter-key-iterator.ensures.into_iter_gives.0) (behind_none _)

pub returns-in_default : goal.returns-in_default
returns-in_default c =
    let s = c.loop-key.key-iterator in
    let t = c.next.new.self in
    let x = deref_pair (c.in-Some.key, c.in-Some.spelled) in
    let cut : s ≡ x ∷ t = rest_more deref_pair s t c.next.result (c.in-Some.key, c.in-Some.spelled) c.in-Some.is c.next.ensures.steps in
    sym (cut_stops member_seen (given_by c.args.version) c.loop-key.given.items s t x cut (no_given c.args.version (member_seen x) (sym c.amount.ensures ∙ c.in_default.is))) ∙ c.loop-key.invariant

pub loop-key-preserved : goal.loop-key-preserved
loop-key-preserved c =
    let s = c.loop-key.key-iterator in
    let t = c.next.new.self in
    let x = deref_pair (c.in-Some.key, c.in-Some.spelled) in
    let cut : s ≡ x ∷ t = rest_more deref_pair s t c.next.result (c.in-Some.key, c.in-Some.spelled) c.in-Some.is c.next.ensures.steps in
    let y = given_of c.in_ok-name.name c.in-Some-amount.value in
    let is = given_is c.args.version (member_seen x) c.in_ok-name.name c.in-Some-amount.value (c.in_ok-name.ensures ∙ c.as_bytes.ensures.value) (sym c.amount.ensures ∙ c.in-Some-amount.is) in
    ap (λ ys. behind ys (each (given_by c.args.version) (map member_seen t))) c.in_ok-push.ensures.items
    ∙ sym (cut_more member_seen (given_by c.args.version) c.loop-key.given.items s t x y cut is) ∙ c.loop-key.invariant

pub returns : goal.returns
returns c =
    let s = c.loop-key.key-iterator in
    let cut : s ≡ [] = rest_all deref_pair s c.next.new.self c.next.result c.in-None.is c.next.ensures.steps in
    sym (cut_done member_seen (given_by c.args.version) c.loop-key.given.items s cut) ∙ c.loop-key.invariant
