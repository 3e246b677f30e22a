-- The least width in which a number fits.
use Rattle.std.proofs.Common.{◌≡◌, ◌⊎◌, inl, inr, ℕ, zero, suc, ◌+◌, ◌-◌, ◌*◌, ◌<◌, ◌≤◌, ◌^◌, Bool, true, false, refl, sym, ap, subst, ◌∙◌, arith}
use Rattle.std.specs.Prelude.{nat_lt, if◌then◌else◌}
use Rattle.std.proofs.Math.Pow.{pow_mono}
use Rattle.std.proofs.lemmas.Bool.{cases_Bool, cases_lt, ltb-true, ltb-false, lt-ltb, le-ltb, cond-true, cond-false}
use Rattle.std.proofs.lemmas.Grind.{pow_more}
use Rattle.std.proofs.lemmas.Nat.{pow_pos}
use Rattle.cal_state.specs.inside.States.{least_width, width_of}
use Rattle.cal_state.specs.inside.Threads.{Thread}

-- it is the least from this one on in which the number fits, as long as some width within reach is one
pub record IsLeast (more width n x : ℕ) : Type 0 where
  pub from : width ≤ x
  pub bound : x ≤ width + more
  pub fits : n < 2 ^ (width + more) → n < 2 ^ x
  pub least : (x ≡ width) ⊎ (2 ^ (x - 1) ≤ n)

pub is_least : (more width n : ℕ) → IsLeast more width n (least_width more width n)
unfolding least_width
is_least zero width n = record {
  from = omega arith;
  bound = omega arith;
  fits = λ h. let P : ℕ → Type 0 = λ k. n < 2 ^ k in subst P (omega arith) h;
  least = inl refl;
}
is_least (suc more) width n = elim (cases_Bool (nat_lt n (2 ^ width))) [
  | inl fits ↦
      let I : ℕ → Type 0 = λ x. IsLeast (suc more) width n x in
      subst I (sym (cond-true (nat_lt n (2 ^ width)) width (least_width more (width + 1) n) fits))
      (record { from = omega arith; bound = omega arith; fits = λ h. ltb-true n (2 ^ width) fits; least = inl refl })
  | inr wide ↦
      let I : ℕ → Type 0 = λ x. IsLeast (suc more) width n x in
      let rest : IsLeast more (width + 1) n (least_width more (width + 1) n) = is_least more (width + 1) n in
      let from = rest.from in
      let bound = rest.bound in
      let over : 2 ^ width ≤ n = ltb-false n (2 ^ width) wide in
      let P : ℕ → Type 0 = λ k. n < 2 ^ k in
      let Q : ℕ → Type 0 = λ k. 2 ^ (k - 1) ≤ n in
      let L : ℕ → Type 0 = λ k. 2 ^ k ≤ n in
      let one : width ≡ (width + 1) - 1 = omega arith in
      let same : width + suc more ≡ (width + 1) + more = omega arith in
      subst I (sym (cond-false (nat_lt n (2 ^ width)) width (least_width more (width + 1) n) wide))
      (record {
        from = omega (arith, from);
        bound = omega (arith, bound);
        fits = λ h. rest.fits (subst P same h);
        least = elim rest.least [
          | inl is ↦ inr (subst Q (sym is) (subst L one over))
          | inr narrow ↦ inr narrow
        ];
      })
]

-- a thread's register has at least one bit and at most 128, and fewer bits do for no greatest state but 1
pub record IsWide (last width : ℕ) : Type 0 where
  pub some : 1 ≤ width
  pub few : width ≤ 128
  pub fits : last < 2 ^ 128 → last < 2 ^ width
  pub narrow : (width ≡ 1) ⊎ (2 ^ (width - 1) ≤ last)

pub width_is : (thread : Thread) → IsWide thread.last (width_of thread)
width_is thread =
    let is : IsLeast 127 1 thread.last (width_of thread) = is_least 127 1 thread.last in
    record { some = is.from; few = is.bound; fits = is.fits; narrow = is.least }

-- so a register for the states of this many statements is as narrow as is asked for
pub narrow_enough : (thread : Thread) (statements : ℕ) → thread.last ≤ statements + 1 → 2 ^ (width_of thread - 1) ≤ statements + 2
narrow_enough thread statements few = elim (width_is thread).narrow [
  | inl one ↦ let P : ℕ → Type 0 = λ w. 2 ^ (w - 1) ≤ statements + 2 in subst P (sym one) (omega arith)
  | inr narrow ↦ omega (arith, few, narrow)
]

-- ---- the least width, found by going up

least_more : (more width n : ℕ) → 2 ^ width ≤ n → least_width (suc more) width n ≡ least_width more (width + 1) n
unfolding least_width
least_more more width n wide = cond-false (nat_lt n (2 ^ width)) width (least_width more (width + 1) n) (le-ltb n (2 ^ width) wide)

least_here : (more width n : ℕ) → n < 2 ^ width → least_width more width n ≡ width
unfolding least_width
least_here zero width n fits = refl
least_here (suc more) width n fits = cond-true (nat_lt n (2 ^ width)) width (least_width more (width + 1) n) (lt-ltb n (2 ^ width) fits)

-- the width sought is the least one from this width on, whose power of two this is
pub record IsSought (last width power : ℕ) : Type 0 where
  pub is_power : power ≡ 2 ^ width
  pub bound : 2 ^ width ≤ 2 ^ 64
  pub few : width ≤ 64
  pub sought : (more : ℕ) → more + width ≡ 128 → least_width 127 1 last ≡ least_width more width last

pub seeks_first : (last : ℕ) → IsSought last 1 2
seeks_first last = record {
  is_power = refl;
  bound = omega arith;
  few = omega arith;
  sought = λ more same. ap (λ m. least_width m 1 last) (omega (arith, same));
}

pub seeks_next : (last width power : ℕ) → last < 2 ^ 64 → power ≤ last → IsSought last width power → IsSought last (width + 1) (power * 2)
seeks_next last width power small wide so_far =
    let is = so_far.is_power in
    let double : 2 ^ (width + 1) ≡ 2 ^ width * 2 = pow_more 2 width in
    let less : width < 64 = elim (cases_lt width 64) [
      | inl l ↦ l
      | inr over ↦ let far : 2 ^ 64 ≤ 2 ^ width = pow_mono over in absurd (omega (arith, far, is, wide, small))
    ] in
    record {
      is_power = ap (λ p. p * 2) is ∙ sym double;
      bound = pow_mono {i = width + 1} {j = 64} (omega (arith, less));
      few = omega (arith, less);
      sought = λ more same.
          so_far.sought (suc more) (omega (arith, same)) ∙ least_more more width last (omega (arith, is, wide));
    }

pub seeks_last : (last width power : ℕ) → last < power → IsSought last width power → width ≡ least_width 127 1 last
seeks_last last width power fits so_far =
    let is = so_far.is_power in
    let few = so_far.few in
    sym (so_far.sought (128 - width) (omega (arith, few)) ∙ least_here (128 - width) width last (omega (arith, is, fits)))

pub power_some : (last width power : ℕ) → IsSought last width power → 1 ≤ power
power_some last width power so_far = let is = so_far.is_power in let some = pow_pos width in omega (arith, is, some)

pub power_small : (last width power : ℕ) → IsSought last width power → power ≤ 2 ^ 64
power_small last width power so_far = let is = so_far.is_power in let bound = so_far.bound in omega (arith, is, bound)
