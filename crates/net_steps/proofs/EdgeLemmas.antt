-- The cells that keep their state by themselves, stepped one after another.
use Rattle.std.proofs.Common.{◌≡◌, ◌≢◌, ℕ, ◌+◌, ◌<◌, ◌≤◌, List, Some, length, length-set, get_or, set, refl, sym, ap, subst, ◌∙◌, arith, inl, inr, get_or-set_other, get_or-set_same}
use Rattle.std.specs.Prelude.{slice_get}
use Rattle.std.proofs.lemmas.Bool.{cases_lt}
use Rattle.std.proofs.lemmas.Option.{slice_get_within, slice_get-get_or, same_Some, get_or_from_slice_get}
use Rattle.net_steps.specs.Edge.{IsSteppedOther, AreSteppedOthers}
use Rattle.net_steps.specs.declared.other.Other.{Other}

-- the first cells have moved on, and the others not yet
pub record AreSteppedUpto (places : List (List ℕ)) (slots : List ℕ) (number : ℕ) (old new : List Other) : Type 0 where
  pub all : length new ≡ length old
  pub each : (k : ℕ) (inputs : List ℕ) (o n : Other) → k < number → slice_get places k ≡ Some inputs → slice_get old k ≡ Some o → slice_get new k ≡ Some n → IsSteppedOther inputs slots o n
  pub rest : (k : ℕ) (o n : Other) → number ≤ k → slice_get old k ≡ Some o → slice_get new k ≡ Some n → n ≡ o

pub stepped_none : (places : List (List ℕ)) (slots : List ℕ) (others : List Other) → AreSteppedUpto places slots 0 others others
stepped_none places slots others = record {
  all = refl;
  each = λ k inputs o n lt has at at'. absurd (omega (arith, lt));
  rest = λ k o n le at at'. same_Some n o (sym at' ∙ at);
}

pub stepped_all : (places : List (List ℕ)) (slots : List ℕ) (number : ℕ) (old new : List Other) → length places ≤ number → AreSteppedUpto places slots number old new → AreSteppedOthers places slots old new
stepped_all places slots number old new over so_far = record {
  all = so_far.all;
  each = λ k inputs o n has at at'. let lt = slice_get_within places k inputs has in so_far.each k inputs o n (omega (arith, lt, over)) has at at';
}

-- the next one is as it was
pub still : (places : List (List ℕ)) (slots : List ℕ) (number : ℕ) (old new : List Other) (d : Other) → number < length new → AreSteppedUpto places slots number old new → get_or new number d ≡ get_or old number d
still places slots number old new d lt so_far =
    let here = slice_get-get_or new number d lt in
    let there = slice_get-get_or old number d (let e = so_far.all in omega (arith, lt, e)) in
    so_far.rest number (get_or old number d) (get_or new number d) (omega arith) there here

-- one more
pub stepped_more : (places : List (List ℕ)) (slots : List ℕ) (number : ℕ) (old new : List Other) (inputs : List ℕ) (before after : Other) → slice_get places number ≡ Some inputs → slice_get old number ≡ Some before → number < length new → IsSteppedOther inputs slots before after → AreSteppedUpto places slots number old new → AreSteppedUpto places slots (number + 1) old (set new number after)
stepped_more places slots number old new inputs before after its here lt is so_far = record {
  all = length-set new number after ∙ so_far.all;
  each = λ k mine o n less has at at'. elim (cases_lt k number) [
    | inl earlier ↦
        let ne : k ≢ number = omega (arith, earlier) in
        so_far.each k mine o n earlier has at (unset k n ne at')
    | inr beyond ↦
        let e : k ≡ number = omega (arith, less, beyond) in
        let inputs_is : inputs ≡ mine = same_Some inputs mine (sym its ∙ ap (slice_get places) (sym e) ∙ has) in
        let o_is : before ≡ o = same_Some before o (sym here ∙ ap (slice_get old) (sym e) ∙ at) in
        let n_is : after ≡ n = same_Some after n (sym (set_there) ∙ ap (slice_get (set new number after)) (sym e) ∙ at') in
        subst (λ i. IsSteppedOther i slots o n) inputs_is (subst (λ x. IsSteppedOther inputs slots x n) o_is (subst (IsSteppedOther inputs slots before) n_is is))
  ];
  rest = λ k o n le at at'. let ne : k ≢ number = omega (arith, le) in so_far.rest k o n (omega (arith, le)) at (unset k n ne at');
}
  where
    set_there : slice_get (set new number after) number ≡ Some after
    set_there =
        let l = length-set new number after in
        slice_get-get_or (set new number after) number after (omega (arith, l, lt)) ∙ ap Some (get_or-set_same new number after after lt)

    unset : (k : ℕ) (n : Other) → k ≢ number → slice_get (set new number after) k ≡ Some n → slice_get new k ≡ Some n
    unset k n ne at =
        let within = slice_get_within (set new number after) k n at in
        let l = length-set new number after in
        slice_get-get_or new k n (omega (arith, within, l)) ∙ ap Some (sym (get_or-set_other new number k after n ne) ∙ get_or_from_slice_get (set new number after) k n n at)
