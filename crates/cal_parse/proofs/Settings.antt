-- A source, or a guard and a source, is read exactly.
use Rattle.std.proofs.Common.{◌≡◌, ℕ, zero, suc, Bool, true, false, cond, List, [], ◌∷◌, length, Option, Some, None, Result, Ok, Err, ◌⊎◌, inl, inr, refl, sym, ap, subst, ◌∙◌, arith}
use Rattle.std.proofs.lemmas.Bool.{false≢true}
use Rattle.hw_names.specs.Name.{Text}
use Rattle.hw_grammar.specs.declared.sort.Sort.{Sort}
use Rattle.hw_grammar.specs.declared.sort.Sort.TheVariants.{Name, Literal, LeftParen, Not, Question, Semicolon}
use Rattle.hw_grammar.specs.declared.terminal.Terminal.{Terminal}
use Rattle.hw_grammar.specs.Sort.{has}
use Rattle.hw_grammar.specs.Grammar.{Lang, One, Then, ThenBy, Either, Mapped, After}
use Rattle.hw_grammar.specs.Reading.{Answer, mapped, then_by}
use Rattle.hw_grammar.proofs.Exact.{IsLang, Reads as IsReadBy, Exact, one-exact, then-exact, mapped-exact, mapped-law, either-exact, after-exact, has_apart, clash, pair_is, then-law, either-law, empty-exact, One-law}
use Rattle.hw_grammar.proofs.By.{by-exact, exact-wider, reads_headed}
use Rattle.net_core.specs.declared.net.Cmp.{Cmp}
use Rattle.net_core.specs.Guard.{GuardTrees, Reads, Compares, Negates, AllOf, AnyOf}
use Rattle.cal_ast.specs.Tree.{PortName}
use Rattle.cal_parse.specs.Grammar.{Source, Guard, test_from, all_from, any_from, IsSource, IsTight, IsGuard, UnitOf, GuardOf, IsSetting}
use Rattle.cal_parse.specs.inside.Reading.{guard_at, source_at, asked_from, asked_by, alone_from, behind_by, guard_marks, setting_at}
use Rattle.cal_parse.proofs.Guards.{source-exact, guard-exact, guard_up, guard_down, source_guard, First}

abbrev Setting : Type 0
Setting = Option Guard × Source

abbrev second : Guard × Setting → Setting
second x = x.1

lp_marked : (p : Terminal) (m : List Terminal) → p.sort ≡ LeftParen → has guard_marks (p ∷ m) ≡ true
lp_marked p m e = rw e refl

lp_starts : (w : List Terminal) (p : Terminal) (m : List Terminal) → One LeftParen w p m → has guard_marks w ≡ true
lp_starts w p m l = subst (λ (v : List Terminal). has guard_marks v ≡ true) (sym l.0) (lp_marked p m l.1)

test_not : (s s2 : Source) (o : Option (Cmp × Source)) (x : Cmp × Source) (g : Guard) → o ≡ Some x → g ≡ test_from (s2, o) → g ≡ Reads s → ⊥
test_not s s2 o x g e1 e2 e =
    let r : Compares x.0 s2 x.1 ≡ Reads s = sym (ap (λ (v : Option (Cmp × Source)). test_from (s2, v)) e1) ∙ sym e2 ∙ e in
    cc

module _ (names : List Text) where
  abbrev Asked : Guard → Lang Setting
  Asked g = After Question (Mapped (asked_from g) (Then (IsSource names) (One Semicolon)))

  abbrev Behind : Guard → Lang Setting
  Behind (Reads s) = Either (Asked (Reads s)) (Mapped (alone_from s) (One Semicolon))
  Behind (Compares c s t) = Asked (Compares c s t)
  Behind (Negates g) = Asked (Negates g)
  Behind (AllOf gs) = Asked (AllOf gs)
  Behind (AnyOf gs) = Asked (AnyOf gs)

  asked-exact : (g : Guard) → Exact (Asked g) (asked_by names g) (Question ∷ []) false []
  unfolding asked_by
  asked-exact g = after-exact Question (mapped-exact (asked_from g) (then-exact (source-exact names) (one-exact Semicolon) refl))

  behind-exact : (g : Guard) → Exact (Behind g) (behind_by names g) (Question ∷ Semicolon ∷ []) false []
  behind-exact (Reads s) = either-exact (asked-exact (Reads s)) (mapped-exact (alone_from s) (one-exact Semicolon)) refl
  behind-exact (Compares c s t) = exact-wider (Question ∷ Semicolon ∷ []) refl (asked-exact (Compares c s t))
  behind-exact (Negates g) = exact-wider (Question ∷ Semicolon ∷ []) refl (asked-exact (Negates g))
  behind-exact (AllOf gs) = exact-wider (Question ∷ Semicolon ∷ []) refl (asked-exact (AllOf gs))
  behind-exact (AnyOf gs) = exact-wider (Question ∷ Semicolon ∷ []) refl (asked-exact (AnyOf gs))

  -- a guard that is a lone source, and begins neither with `!` nor with `(`, is that source
  unit_lone : (s : Source) (w : List Terminal) (g : Guard) (m : List Terminal) → UnitOf names (IsTight names) (IsGuard names) w g m → has guard_marks w ≡ false → g ≡ Reads s → IsSource names w s m
  unit_lone s w g m (inl (t, (x, l, e1), e2)) h e = absurd cc
  unit_lone s w g m (inr (inl ((p, y), (m1, first, l), e1))) h e = absurd (clash (lp_starts w p m1 first) h)
  unit_lone s w g m (inr (inr ((s2, o), (m1, l, inl (x, l2, e1)), e2))) h e = absurd (test_not s s2 o x g e1 e2 e)
  unit_lone s w g m (inr (inr ((s2, o), (m1, l, inr (e1, em)), e2))) h e =
      let r : Reads s2 ≡ Reads s = sym (ap (λ (v : Option (Cmp × Source)). test_from (s2, v)) e1) ∙ sym e2 ∙ e in
      let same : s2 ≡ s = cc in
      subst (λ (v : Source). IsSource names w v m) same (subst (λ (v : List Terminal). IsSource names w s2 v) em l)

  guard_lone : (s : Source) (w : List Terminal) (g : Guard) (m : List Terminal) → GuardOf names (IsTight names) (IsGuard names) w g m → has guard_marks w ≡ false → g ≡ Reads s → IsSource names w s m
  guard_lone s w g m (xs, ((x, []), (m1, (ys, ((y, []), (m2, unit, last2), e3), e4), last), e1), e2) h e =
      let e5 : x ≡ y = e4 ∙ ap all_from e3 in
      let e6 : g ≡ x = e2 ∙ ap any_from e1 in
      subst (λ (v : List Terminal). IsSource names w s v) (last2 ∙ last) (unit_lone s w y m2 unit h (sym e5 ∙ sym e6 ∙ e))
  guard_lone s w g m (xs, ((x, []), (m1, (ys, ((y, z ∷ zs), (m2, unit, last2), e3), e4), last), e1), e2) h e =
      let e5 : x ≡ all_from (y ∷ z ∷ zs) = e4 ∙ ap all_from e3 in
      let e6 : g ≡ x = e2 ∙ ap any_from e1 in
      let e7 : all_from (y ∷ z ∷ zs) ≡ Reads s = sym e5 ∙ sym e6 ∙ e in
      absurd cc
  guard_lone s w g m (xs, ((x, z ∷ zs), l, e1), e2) h e =
      let e7 : any_from (x ∷ z ∷ zs) ≡ Reads s = sym (ap any_from e1) ∙ sym e2 ∙ e in
      absurd cc

  asked_up : (w : List Terminal) (a : Setting) (m mid : List Terminal) (g : Guard) → IsGuard names w g mid → Asked g mid a m → IsSetting names w a m
  asked_up w a m mid g lg ((t, v), (m1, ask, ((s, k), sl, e3)), e2) =
      let e : a ≡ asked_from g (s, k) = e2 ∙ e3 in
      (m1, inl (g, ((g, t), (mid, lg, ask), refl), ap (λ (x : Setting). x.0) e), ((s, k), sl, ap (λ (x : Setting). x.1) e))

  behind_asked : (g : Guard) → (w : List Terminal) (a : Setting) (m : List Terminal) → Asked g w a m → Behind g w a m
  behind_asked (Reads s) w a m l = inl l
  behind_asked (Compares c s t) w a m l = l
  behind_asked (Negates g) w a m l = l
  behind_asked (AllOf gs) w a m l = l
  behind_asked (AnyOf gs) w a m l = l

  behind_up : (g : Guard) (w : List Terminal) (a : Setting) (m mid : List Terminal) → IsGuard names w g mid → Behind g mid a m → has guard_marks w ≡ false → IsSetting names w a m
  behind_up (Reads s) w a m mid lg (inl l) h = asked_up w a m mid (Reads s) lg l
  behind_up (Reads s) w a m mid lg (inr (t, semi, e)) h =
      (w, inr (ap (λ (x : Setting). x.0) e, refl), ((s, t), (mid, guard_lone s w (Reads s) mid (guard_down names w (Reads s) mid lg) h refl, semi), ap (λ (x : Setting). x.1) e))
  behind_up (Compares c s t) w a m mid lg l h = asked_up w a m mid (Compares c s t) lg l
  behind_up (Negates g) w a m mid lg l h = asked_up w a m mid (Negates g) lg l
  behind_up (AllOf gs) w a m mid lg l h = asked_up w a m mid (AllOf gs) lg l
  behind_up (AnyOf gs) w a m mid lg l h = asked_up w a m mid (AnyOf gs) lg l

  asked_down : (w : List Terminal) (a : Setting) (m m1 mid : List Terminal) (g g2 : Guard) (t : Terminal) (s : Source) (k : Terminal) → IsGuard names w g2 mid → One Question mid t m1 → g ≡ g2 → a.0 ≡ Some g
      → Then (IsSource names) (One Semicolon) m1 (s, k) m → a.1 ≡ s → Asked g2 mid a m
  asked_down w a m m1 mid g g2 t s k lg ask eg e0 sl e1 = ((t, a), (m1, ask, ((s, k), sl, pair_is a (Some g2) s (e0 ∙ ap (λ (x : Guard). Some x) eg) e1)), refl)

  source_unmarked : (s : Source) (w m : List Terminal) → IsSource names w s m → has guard_marks w ≡ true → ⊥
  source_unmarked s w m l h = elim ((source-exact names).law.starts w s m l) [ inl i ↦ clash h (has_apart (Name ∷ Literal ∷ []) guard_marks w refl i) | inr i ↦ false≢true i.0 ]

  pub setting-law : IsLang (IsSetting names) (Not ∷ LeftParen ∷ Name ∷ Literal ∷ Name ∷ Literal ∷ []) false
  setting-law =
      then-law (either-law (mapped-law (λ (x : Guard). Some x) (mapped-law (λ (x : Guard × Terminal). x.0) (then-law (guard-exact names).law (One-law Question)))) (empty-exact {A = Option Guard} None).law)
      (mapped-law (λ (x : Source × Terminal). x.0) (then-law (source-exact names).law (One-law Semicolon)))

  marked_down : (w : List Terminal) (a : Setting) (m : List Terminal) → IsSetting names w a m → has guard_marks w ≡ true → Mapped second (ThenBy (IsGuard names) Asked) w a m
  marked_down w a m (m1, inl (g, ((g2, t), (mid, lg, ask), eg), e0), ((s, k), sl, e1)) h = ((g2, a), (mid, lg, asked_down w a m m1 mid g g2 t s k lg ask eg e0 sl e1), refl)
  marked_down w a m (m1, inr (e0, em), ((s, k), (m2, src, semi), e1)) h = absurd (source_unmarked s w m2 (subst (λ (v : List Terminal). IsSource names v s m2) (sym em) src) h)

  plain_down : (w : List Terminal) (a : Setting) (m : List Terminal) → IsSetting names w a m → Mapped second (ThenBy (IsGuard names) Behind) w a m
  plain_down w a m (m1, inl (g, ((g2, t), (mid, lg, ask), eg), e0), ((s, k), sl, e1)) = ((g2, a), (mid, lg, behind_asked g2 mid a m (asked_down w a m m1 mid g g2 t s k lg ask eg e0 sl e1)), refl)
  plain_down w a m (m1, inr (e0, em), ((s, k), (m2, src, semi), e1)) =
      let lone : GuardOf names (IsTight names) (IsGuard names) w (Reads s) m2 = source_guard names (IsTight names) (IsGuard names) w (Reads s) m2 (s, subst (λ (v : List Terminal). IsSource names v s m2) (sym em) src, refl) in
      ((Reads s, a), (m2, guard_up names w (Reads s) m2 lone, inr (k, semi, pair_is a None s e0 e1)), refl)

  marked-exact : Exact (Mapped second (ThenBy (IsGuard names) Asked)) (mapped second (then_by (guard_at names) (asked_by names))) First false []
  marked-exact = mapped-exact second (by-exact Asked (asked_by names) (guard-exact names) asked-exact refl)

  plain-exact : Exact (Mapped second (ThenBy (IsGuard names) Behind)) (mapped second (then_by (guard_at names) (behind_by names))) First false []
  plain-exact = mapped-exact second (by-exact Behind (behind_by names) (guard-exact names) behind-exact refl)

  pub setting-exact : Exact (IsSetting names) (setting_at names) (Not ∷ LeftParen ∷ Name ∷ Literal ∷ Name ∷ Literal ∷ []) false []
  unfolding setting_at
  setting-exact = record {
    law = setting-law;
    reads = λ ts.
        let one : Answer Setting = mapped second (then_by (guard_at names) (asked_by names)) ts in
        let two : Answer Setting = mapped second (then_by (guard_at names) (behind_by names)) ts in
        let go : (v : Bool) → has guard_marks ts ≡ v → IsReadBy (IsSetting names) [] ts (cond v one two) = λ v. elim v as (λ v. has guard_marks ts ≡ v → IsReadBy (IsSetting names) [] ts (cond v one two)) [
          | true ↦ λ h.
              reads_headed guard_marks [] [] true ts one setting-law.sample (λ w a m l i. subst (λ (v : Setting). IsSetting names w v m) (sym l.2) (asked_up w l.0.1 m l.1.0 l.0.0 l.1.1 l.1.2))
              (λ w a m l st i. (marked_down w a m l i, st)) h (marked-exact.reads ts)
          | false ↦ λ h.
              reads_headed guard_marks [] [] false ts two setting-law.sample (λ w a m l i. subst (λ (v : Setting). IsSetting names w v m) (sym l.2) (behind_up l.0.0 w l.0.1 m l.1.0 l.1.1 l.1.2 i))
              (λ w a m l st i. (plain_down w a m l, st)) h (plain-exact.reads ts)
        ] in
        go (has guard_marks ts) refl;
  }
