-- The items of a component, judged one after another.
use Rattle.std.proofs.Common.{◌≡◌, ℕ, zero, suc, ◌+◌, ◌≤◌, List, [], ◌∷◌, ◌++◌, length, take, slice_get, All, Some, Result, Ok, Err, IfErr, IsErrAnd, inl, inr, refl, sym, ap, subst, ◌∙◌, add-one, arith}
use Rattle.std.proofs.lemmas.Bool.{cases_lt}
use Rattle.std.proofs.lemmas.List.{take_all}
use Rattle.std.proofs.lemmas.Option.{same_Some, slice_get_within}
use Rattle.hw_names.specs.Name.{Text}
use Rattle.fil_ast.specs.Connections.{ConnectsAll}
use Rattle.fil_ast.specs.Evidence as shown
use Rattle.fil_ast.specs.Items.{Item, TheSignature, TheStatement, TheEnd, scope_after, scope_with}
use Rattle.fil_ast.specs.Refusal.{ShowsBroken, ShowsAtStatement}
use Rattle.fil_ast.specs.Rules.{Rule, F5, F6, F7, F8, F9, Keeps, KeepsItem, KeepsComponent, AtSignature, AtStatement, all_rules}
use Rattle.fil_ast.specs.Scope.{Scope}
use Rattle.fil_ast.specs.Tree.{Statement, Component, Design, component_tree}
use Rattle.fil_ast.specs.declared.tree.FilComp.{FilComp}
use Rattle.fil_rules.specs.FirstItem.{KeepsBefore, IsFirstItem, ItemIs, TellsItem}
use Rattle.fil_rules.specs.Least.{evidence_of}
use Rattle.fil_rules.specs.LeastRule.{IsLeastBroken, TellsLeast, number_of}
use Rattle.fil_rules.specs.inside.StandsAt.{StandsAt}
use Rattle.fil_place.specs.Tables.{grown}
use Rattle.fil_rules.specs.declared.rules.CompEnd.{CompEnd}
use Rattle.fil_rules.specs.declared.rules.Evidence.TheVariants.{Nothing}
use Rattle.fil_rules.specs.declared.rules.ItemEnd.{ItemEnd}
use Rattle.fil_rules.specs.declared.rules.ItemEnd.TheVariants.{Broken, Memory}
use Rattle.fil_rules.specs.declared.rules.Rule.TheVariants as code_rule
use Rattle.fil_place.specs.declared.earlier.Earlier.{Earlier}
use Rattle.fil_place.specs.declared.tables.Tables.{Tables}
use Rattle.fil_place.proofs.BodyLemmas.{scope_more}
use Rattle.fil_rules.proofs.LeastLemmas.{all_thirteen, breaks, first_four, one_more_rule}
use Rattle.fil_share.proofs.ListLemmas.{take_next}

-- what an error that is handed on tells
pub passed_up : {T E : Type 0} (r : Result T E) (e : E) (P : E → Type 0) → IsErrAnd r (λ other. other ≡ e) → P e → IfErr r P
passed_up (Ok x) e P is tells = tt
passed_up (Err y) e P is tells = subst P (sym is) tells

module _ (comps : Design) (c : Component) where
  -- what a rule asks at item k + 1, which is this statement
  abbrev pub AtItem : ℕ → Statement → Rule → Type 0
  AtItem k s rule = AtStatement rule (scope_after comps c (take k c.body)) (scope_with comps c (take k c.body) s) (take k c.body) s

  -- and what one that is broken shows there
  abbrev pub ShownAtItem : ℕ → Statement → Rule → shown.Evidence → Type 0
  ShownAtItem k s rule = ShowsAtStatement rule (scope_after comps c (take k c.body)) (scope_with comps c (take k c.body) s) s

  pub signature_kept : All (λ rule. AtSignature rule comps c) all_rules → KeepsBefore comps c 1
  signature_kept all zero below item is = subst (λ (i : Item). All (Keeps comps c i) all_rules) (sym is) all
  signature_kept all (suc j) below item is = absurd (omega arith)

  statement_kept : (k : ℕ) (s : Statement) → slice_get c.body k ≡ Some s → All (AtItem k s) all_rules → KeepsItem all_rules comps c (suc k)
  statement_kept k s at all item (inl (t, there, is)) =
      let same : s ≡ t = same_Some s t (sym at ∙ there) in
      subst (λ (i : Item). All (Keeps comps c i) all_rules) (ap (TheStatement (take k c.body)) same ∙ sym is) all
  statement_kept k s at all item (inr (end, is)) = let within = slice_get_within c.body k s at in absurd (omega arith)

  pub one_more : (k : ℕ) (s : Statement) → slice_get c.body k ≡ Some s → KeepsBefore comps c (k + 1) → All (AtItem k s) all_rules → KeepsBefore comps c (k + 1 + 1)
  one_more k s at before all zero below = before zero (omega arith)
  one_more k s at before all (suc j) below =
      elim (cases_lt j k) [
        | inl less ↦ before (suc j) (omega arith)
        | inr past ↦ (let same : k ≡ j = omega arith in subst (λ (i : ℕ). KeepsItem all_rules comps c (suc i)) same (statement_kept k s at all))
      ]

  past_kept : (k : ℕ) → length c.body ≤ k → ConnectsAll c → KeepsItem all_rules comps c (suc k)
  past_kept k past connected item (inl (t, there, is)) = let within = slice_get_within c.body k t there in absurd (omega arith)
  past_kept k past connected item (inr (end, is)) =
      subst (λ (i : Item). All (Keeps comps c i) all_rules) (sym is) (all_thirteen (Keeps comps c TheEnd) tt tt tt tt tt tt tt tt connected tt tt tt tt)

  pub all_kept : (n : ℕ) → length c.body ≤ n → KeepsBefore comps c (n + 1) → ConnectsAll c → KeepsComponent all_rules comps c
  all_kept n end before connected zero = before zero (omega arith)
  all_kept n end before connected (suc k) =
      elim (cases_lt k n) [ inl less ↦ before (suc k) (omega arith) | inr past ↦ past_kept k (omega arith) connected ]

  signature_told : (number : ℕ) (evidence : shown.Evidence) → IsLeastBroken (λ rule. AtSignature rule comps c) (λ rule e. e ≡ shown.Nothing) number evidence → IsFirstItem comps c 0 number evidence
  signature_told number evidence least =
      record { items = λ j below. absurd (omega arith); item = TheSignature; here = refl; least = least }

  statement_told : (k : ℕ) (s : Statement) (number : ℕ) (evidence : shown.Evidence) → slice_get c.body k ≡ Some s → KeepsBefore comps c (k + 1) → IsLeastBroken (AtItem k s) (ShownAtItem k s) number evidence
      → IsFirstItem comps c (k + 1) number evidence
  statement_told k s number evidence at before least =
      let P : ℕ → Type 0 = λ n. IsFirstItem comps c n number evidence in
      let here : IsFirstItem comps c (suc k) number evidence = record { items = (λ j below. before j (omega arith)); item = TheStatement (take k c.body) s; here = inl (s, at, refl); least = least } in
      subst P (sym (add-one k)) here

  -- what the end of the signature tells, and the end of a statement
  pub signature_ends : (end : ItemEnd) (r : CompEnd) → TellsLeast (λ rule. AtSignature rule comps c) (λ rule e. e ≡ shown.Nothing) end → ItemIs 0 end r → TellsItem comps c r
  signature_ends (Broken broken) r least is =
      subst (TellsItem comps c) (sym is) (signature_told (number_of broken.rule) (evidence_of broken.evidence) least)
  signature_ends Memory r least is = subst (TellsItem comps c) (sym is) tt

  pub statement_ends : (k : ℕ) (s : Statement) (end : ItemEnd) (r : CompEnd) → slice_get c.body k ≡ Some s → KeepsBefore comps c (k + 1) → TellsLeast (AtItem k s) (ShownAtItem k s) end → ItemIs (k + 1) end r → TellsItem comps c r
  statement_ends k s (Broken broken) r at before least is =
      subst (TellsItem comps c) (sym is) (statement_told k s (number_of broken.rule) (evidence_of broken.evidence) at before least)
  statement_ends k s Memory r at before least is = subst (TellsItem comps c) (sym is) tt

  -- F9 is the only rule at the end of the body
  eight_at_end : All (Keeps comps c TheEnd) (take 8 all_rules)
  eight_at_end =
      let keeps = Keeps comps c TheEnd in
      one_more_rule keeps 7 F8 refl (one_more_rule keeps 6 F7 refl (one_more_rule keeps 5 F6 refl (one_more_rule keeps 4 F5 refl (first_four keeps tt tt tt tt) tt) tt) tt) tt

  end_told : (k : ℕ) → k ≡ length c.body → KeepsBefore comps c (k + 1) → ¬ ConnectsAll c → IsFirstItem comps c (k + 1) 9 shown.Nothing
  end_told k end before unconnected =
      let P : ℕ → Type 0 = λ n. IsFirstItem comps c n 9 shown.Nothing in
      let least = breaks (Keeps comps c TheEnd) (ShowsBroken comps c TheEnd) 8 F9 shown.Nothing refl eight_at_end unconnected refl in
      let here : IsFirstItem comps c (suc k) 9 shown.Nothing = record { items = (λ j below. before j (omega arith)); item = TheEnd; here = inr (end, refl); least = least } in
      subst P (sym (add-one k)) here

  pub body_ends : (k : ℕ) (end : ItemEnd) (r : CompEnd) → k ≡ length c.body → KeepsBefore comps c (k + 1) → ¬ ConnectsAll c → end ≡ Broken (record { rule = code_rule.F9; evidence = Nothing }) → ItemIs (k + 1) end r → TellsItem comps c r
  body_ends k end r last before unconnected breaks_9 is =
      let I : ItemEnd → Type 0 = λ e. ItemIs (k + 1) e r in
      subst (TellsItem comps c) (sym (subst I breaks_9 is)) (end_told k last before unconnected)

-- after these statements of a component the tables show what they mean
abbrev pub Stands : List Text → Earlier → Design → FilComp → Tables → List Statement → Type 0
Stands names earlier comps comp tables before = StandsAt names earlier comp tables (scope_after comps (component_tree names comp) before) before

module _ (names : List Text) (earlier : Earlier) (comps : Design) (comp : FilComp) (tables : Tables) where
  -- so they do after one more
  pub stands_more : (k : ℕ) (s : Statement) → slice_get (component_tree names comp).body k ≡ Some s
      → StandsAt names earlier comp tables (grown (scope_after comps (component_tree names comp) (take k (component_tree names comp).body)) s) (take k (component_tree names comp).body ++ s ∷ [])
      → Stands names earlier comps comp tables (take (k + 1) (component_tree names comp).body)
  stands_more k s at stands =
      let tree = component_tree names comp in
      let before = take k tree.body in
      let S : Scope → Type 0 = λ scope. StandsAt names earlier comp tables scope (before ++ s ∷ []) in
      subst (Stands names earlier comps comp tables) (sym (take_next tree.body k s at)) (subst S (scope_more comps tree before s) stands)

  -- and after all of them
  pub stands_last : (k : ℕ) → length (component_tree names comp).body ≤ k → Stands names earlier comps comp tables (take k (component_tree names comp).body) → Stands names earlier comps comp tables (component_tree names comp).body
  stands_last k end stands = subst (Stands names earlier comps comp tables) (take_all k (component_tree names comp).body end) stands
