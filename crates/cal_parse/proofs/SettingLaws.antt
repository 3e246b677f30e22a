-- What the readers of assignments give, told by what the reader of guards gives.
use Rattle.std.proofs.Common.{◌≡◌, ℕ, Bool, true, false, cond, List, length, Option, Result, Ok, Err, refl, sym, ap, ◌∙◌}
use Rattle.hw_names.specs.Name.{Text}
use Rattle.hw_grammar.specs.declared.terminal.Terminal.{Terminal}
use Rattle.hw_grammar.specs.declared.end.ReadEnd.{ReadEnd}
use Rattle.hw_grammar.specs.Sort.{has}
use Rattle.hw_grammar.specs.Reading.{Reader, Answer, Fails, ◌>>=◌, then_by, mapped}
use Rattle.cal_parse.specs.Grammar.{Source, Guard}
use Rattle.cal_parse.specs.inside.Reading.{guard_to, guard_at, guard_marks, asked_by, behind_by, setting_at}
use Rattle.hw_grammar.proofs.Steps.{bind_fails, mapped_fails}

abbrev Setting : Type 0
Setting = Option Guard × Source

abbrev second : Guard × Setting → Setting
second x = x.1

abbrev with_guard : Guard → Answer Setting → Answer (Guard × Setting)
with_guard g r = r >>= λ y. Ok ((g, y.0), y.1)

abbrev seconds : Answer (Guard × Setting) → Answer Setting
seconds r = r >>= λ x. Ok (second x.0, x.1)

second_is : (g : Guard) (r : Answer Setting) → seconds (with_guard g r) ≡ r
second_is g (Ok x) = refl
second_is g (Err bad) = refl

module _ (names : List Text) (ts : List Terminal) (depth : ℕ) (is : depth ≡ length ts) where
  guard_is : guard_at names ts ≡ guard_to names depth ts
  unfolding guard_at
  guard_is = ap (λ (n : ℕ). guard_to names n ts) (sym is)

  by_is : (q : Guard → Reader Setting) (g : Guard) (mid : List Terminal) → guard_to names depth ts ≡ Ok (g, mid) → mapped second (then_by (guard_at names) q) ts ≡ q g mid
  by_is q g mid e = rw (guard_is ∙ e) (second_is g (q g mid))

  by_fails : (q : Guard → Reader Setting) (e : ReadEnd) → Fails e (guard_to names depth ts) → Fails e (mapped second (then_by (guard_at names) q) ts)
  by_fails q e f =
      mapped_fails second (then_by (guard_at names) q) ts e
      (rw guard_is (bind_fails (λ (x : Guard × List Terminal). (q x.0 x.1 >>= λ (y : Setting × List Terminal). Ok ((x.0, y.0), y.1))) (guard_to names depth ts) e f))

  pub setting_missing : (e : ReadEnd) → Fails e (guard_to names depth ts) → Fails e (setting_at names ts)
  unfolding setting_at
  setting_missing e f =
      let go : (v : Bool) → Fails e (cond v (mapped second (then_by (guard_at names) (asked_by names)) ts) (mapped second (then_by (guard_at names) (behind_by names)) ts)) = λ v. elim v as (λ v. Fails e (cond v (mapped second (then_by (guard_at names) (asked_by names)) ts) (mapped second (then_by (guard_at names) (behind_by names)) ts))) [
        | true ↦ by_fails (asked_by names) e f
        | false ↦ by_fails (behind_by names) e f
      ] in
      go (has guard_marks ts)

  pub setting_marked : (g : Guard) (mid : List Terminal) → has guard_marks ts ≡ true → guard_to names depth ts ≡ Ok (g, mid) → setting_at names ts ≡ asked_by names g mid
  unfolding setting_at
  setting_marked g mid h e = rw h (by_is (asked_by names) g mid e)

  pub setting_plain : (g : Guard) (mid : List Terminal) → has guard_marks ts ≡ false → guard_to names depth ts ≡ Ok (g, mid) → setting_at names ts ≡ behind_by names g mid
  unfolding setting_at
  setting_plain g mid h e = rw h (by_is (behind_by names) g mid e)
