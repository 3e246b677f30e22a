use Rattle.std.proofs.Common.{◌≡◌, [], ◌∷◌, ◌&&◌, List, ℕ, true, false, map, refl, sym, ap, ◌∙◌}
use Rattle.std.specs.Borrow.{Bor}
use Rattle.std.specs.Map.Iter.{deref_pair}
use Rattle.std.proofs.lemmas.Map.Iter.{rest_more, rest_all}
use Rattle.stim_read.specs.Parts.{has_only, is_one_of, member_seen}
use Rattle.stim_read.proofs.given.has_only.Goals as goal

pub loop-key-init : goal.loop-key-init
loop-key-init c = rw c.into_iter-key-iterator.ensures.into_iter_gives.0 refl

pub returns-then-not-is_one_of : goal.returns-then-not-is_one_of
returns-then-not-is_one_of c =
    let keys = map (λ (k : Bor (List ℕ)). k.now) c.args.keys.now in
    let s = c.loop-key.key-iterator in
    let t = c.next.new.self in
    let x = deref_pair (c.in-Some.key, c.in-Some._value) in
    let cut : s ≡ x ∷ t = rest_more deref_pair s t c.next.result (c.in-Some.key, c.in-Some._value) c.in-Some.is c.next.ensures.steps in
    let other : is_one_of keys (member_seen x).0 ≡ false = ap (is_one_of keys) (sym c.as_str.ensures.value) ∙ sym c.is_one_of.ensures ∙ c.if-not-is_one_of.true in
    sym (ap (λ es. has_only keys (map member_seen es)) cut ∙ ap (λ b. b && has_only keys (map member_seen t)) other) ∙ c.loop-key.invariant

pub loop-key-preserved : goal.loop-key-preserved
loop-key-preserved c =
    let keys = map (λ (k : Bor (List ℕ)). k.now) c.args.keys.now in
    let s = c.loop-key.key-iterator in
    let t = c.next.new.self in
    let x = deref_pair (c.in-Some.key, c.in-Some._value) in
    let cut : s ≡ x ∷ t = rest_more deref_pair s t c.next.result (c.in-Some.key, c.in-Some._value) c.in-Some.is c.next.ensures.steps in
    let one : is_one_of keys (member_seen x).0 ≡ true = ap (is_one_of keys) (sym c.as_str.ensures.value) ∙ sym c.is_one_of.ensures ∙ c.if-not-is_one_of.false in
    sym (ap (λ es. has_only keys (map member_seen es)) cut ∙ ap (λ b. b && has_only keys (map member_seen t)) one) ∙ c.loop-key.invariant

pub returns : goal.returns
returns c =
    let keys = map (λ (k : Bor (List ℕ)). k.now) c.args.keys.now in
    let s = c.loop-key.key-iterator in
    let cut : s ≡ [] = rest_all deref_pair s c.next.new.self c.next.result c.in-None.is c.next.ensures.steps in
    sym (ap (λ es. has_only keys (map member_seen es)) cut) ∙ c.loop-key.invariant
