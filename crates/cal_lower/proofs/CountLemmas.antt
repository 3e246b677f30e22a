-- Each group of a lowered design has one rule: names of components are apart, and so are those of the groups of one component.
use Rattle.std.proofs.Common.{◌≡◌, ◌≢◌, ℕ, zero, suc, ◌+◌, List, [], ◌∷◌, ◌++◌, map, length, cond, Bool, true, false, ◌&&◌, Option, Some, refl, sym, ap, ap₂, subst, ◌∙◌, inl, inr, arith, add-zero}
use Rattle.std.specs.Prelude.{Contains, filter, slice_get, bytes_eq}
use Rattle.std.proofs.lemmas.Bool.{and_left, cases_order}
use Rattle.std.proofs.lemmas.List.{append-nil}
use Rattle.std.proofs.lemmas.List.Elements.{filter-append}
use Rattle.hw_names.specs.Name.{Text}
use Rattle.cal_ast.proofs.ListLemmas.{Contains-at, Contains-none, Contains-cases_first}
use Rattle.cal_ast.specs.Holes.{ActivityRule, is_rule_of, rules_of}
use Rattle.cal_ast.specs.NoInvoke.{IsPlainDesign}
use Rattle.cal_ast.specs.Plain.{HasPlainTree}
use Rattle.cal_ast.specs.Tree.{GroupDef, Component, Design}
use Rattle.cal_lower.specs.inside.Added.{Additions, extended}
use Rattle.cal_lower.specs.inside.Lowered.{rule_of, rules_from}
use Rattle.cal_lower.proofs.ListLemmas.{Each, each_at}
use Rattle.cal_lower.proofs.ExtendedLemmas.{extended_name}
use Rattle.cal_lower.proofs.PieceLemmas.{same_name, other_name}
use Rattle.cal_lower.proofs.RuleLemmas.{later_name, extended_at, is_of}
use Rattle.cal_lower.proofs.SourceLemmas.{GroupsApart, groups_apart}

module _ (test : ActivityRule → Bool) where
  -- ---- the rules of one component

  abbrev of_groups : ℕ → Component → List GroupDef → List ActivityRule
  of_groups n c gs = map (rule_of n c) gs

  none_pass : (n : ℕ) (c : Component) (gs : List GroupDef) → Each (λ (h : GroupDef). test (rule_of n c h) ≡ false) gs → filter test (of_groups n c gs) ≡ []
  none_pass n c [] all = refl
  none_pass n c (h ∷ gs) all =
      ap (λ b. cond b (rule_of n c h ∷ filter test (of_groups n c gs)) (filter test (of_groups n c gs))) all.0 ∙ none_pass n c gs all.1

  -- a group of another name fails
  others_fail : (n : ℕ) (c : Component) (g : GroupDef) → ((h : GroupDef) → test (rule_of n c h) ≡ bytes_eq h.name g.name) → (gs : List GroupDef)
      → Each (λ (h : GroupDef). g.name ≢ h.name) gs → Each (λ (h : GroupDef). test (rule_of n c h) ≡ false) gs
  others_fail n c g tells [] apart = tt
  others_fail n c g tells (h ∷ gs) apart =
      (tells h ∙ other_name h.name g.name (λ same. apart.0 (sym same)), others_fail n c g tells gs apart.1)

  one_passes : (n : ℕ) (c : Component) (g : GroupDef) → ((h : GroupDef) → test (rule_of n c h) ≡ bytes_eq h.name g.name) → (gs : List GroupDef)
      → GroupsApart gs → Contains gs g → length (filter test (of_groups n c gs)) ≡ 1
  one_passes n c g tells [] apart has = absurd (Contains-none g has)
  one_passes n c g tells (h ∷ gs) apart has =
      let rest : List ActivityRule = filter test (of_groups n c gs) in
      let step : Bool → ℕ = λ b. length (cond b (rule_of n c h ∷ rest) rest) in
      elim (Contains-cases_first h gs g has) [
        | inl is ↦
            let passes : test (rule_of n c h) ≡ true = tells h ∙ ap (λ (x : GroupDef). bytes_eq x.name g.name) is ∙ same_name g.name in
            let apart_here : Each (λ (x : GroupDef). g.name ≢ x.name) gs =
            subst (λ (x : GroupDef). Each (λ (y : GroupDef). x.name ≢ y.name) gs) is apart.0 in
            ap step passes ∙ ap (λ (rules : List ActivityRule). length (rule_of n c h ∷ rules)) (none_pass n c gs (others_fail n c g tells gs apart_here))
        | inr there ↦
            let fails : test (rule_of n c h) ≡ false =
            tells h ∙ other_name h.name g.name (each_at (λ (x : GroupDef). h.name ≢ x.name) gs g apart.0 there) in
            ap step fails ∙ one_passes n c g tells gs apart.1 there
      ]

  -- ---- those of all

  abbrev Fails : ℕ → Component → Type 0
  Fails n c = Each (λ (h : GroupDef). test (rule_of n c h) ≡ false) c.groups

  all_fail : (n : ℕ) (cs : Design) → ((m : ℕ) (d : Component) → slice_get cs m ≡ Some d → Fails (n + m) d) → filter test (rules_from n cs) ≡ []
  all_fail n [] fails = refl
  all_fail n (c ∷ cs) fails =
      filter-append test (of_groups n c c.groups) (rules_from (n + 1) cs)
      ∙ ap₂ (λ (x y : List ActivityRule). x ++ y)
      (none_pass n c c.groups (subst (λ m. Fails m c) (add-zero n) (fails 0 c refl)))
      (all_fail (n + 1) cs (λ m d at.
      let count : n + suc m ≡ n + 1 + m = omega arith in subst (λ k. Fails k d) count (fails (suc m) d at)))

  one_in : (n : ℕ) (cs : Design) (k : ℕ) (c : Component) → slice_get cs k ≡ Some c
      → ((m : ℕ) (d : Component) → m ≢ k → slice_get cs m ≡ Some d → Fails (n + m) d)
      → length (filter test (of_groups (n + k) c c.groups)) ≡ 1 → length (filter test (rules_from n cs)) ≡ 1
  one_in n [] k c at fails one = absurd (cc)
  one_in n (d ∷ cs) zero c at fails one =
      let is : d ≡ c = cc in
      let none : filter test (rules_from (n + 1) cs) ≡ [] =
      all_fail (n + 1) cs (λ m x there.
      let count : n + suc m ≡ n + 1 + m = omega arith in
      subst (λ j. Fails j x) count (fails (suc m) x (λ same. omega (arith, same)) there)) in
      ap length (filter-append test (of_groups n d d.groups) (rules_from (n + 1) cs)
      ∙ ap (λ (rules : List ActivityRule). filter test (of_groups n d d.groups) ++ rules) none ∙ append-nil (filter test (of_groups n d d.groups)))
      ∙ ap₂ (λ (m : ℕ) (x : Component). length (filter test (of_groups m x x.groups))) (sym (add-zero n)) is ∙ one
  one_in n (d ∷ cs) (suc k) c at fails one =
      let none : filter test (of_groups n d d.groups) ≡ [] =
      none_pass n d d.groups (subst (λ m. Fails m d) (add-zero n) (fails 0 d (λ same. omega (arith, same)) refl)) in
      let count : n + suc k ≡ n + 1 + k = omega arith in
      ap length (filter-append test (of_groups n d d.groups) (rules_from (n + 1) cs)
      ∙ ap (λ (rules : List ActivityRule). rules ++ filter test (rules_from (n + 1) cs)) none)
      ∙ one_in (n + 1) cs k c at
      (λ m x other there.
      let here : n + suc m ≡ n + 1 + m = omega arith in
      subst (λ j. Fails j x) here (fails (suc m) x (λ same. other (let less : m ≡ k = omega (arith, same) in less)) there))
      (ap (λ j. length (filter test (of_groups j c c.groups))) (sym count) ∙ one)

module _ (add : Additions) (source : Design) (tree : HasPlainTree source) (plain : IsPlainDesign source) where
  -- a rule is of the group where its component and its group have the names
  tells_of : (m : ℕ) (d c : Component) (name : Text) → slice_get source m ≡ Some d → (h : GroupDef)
      → is_of add source plain c name (rule_of (0 + m) d h) ≡ (bytes_eq d.name c.name && bytes_eq h.name name)
  tells_of m d c name at h =
      let number : 0 + m ≡ m = omega arith in
      ap (λ (o : Option Component). is_rule_of o (extended add c) name (rule_of (0 + m) d h)) (ap (slice_get (map (extended add) source)) number ∙ extended_at add source plain m d at)
      ∙ ap₂ (λ (x y : Text). bytes_eq x y && bytes_eq h.name name) (extended_name add d) (extended_name add c)

  names_differ : (m k : ℕ) (d c : Component) → m ≢ k → slice_get source m ≡ Some d → slice_get source k ≡ Some c → d.name ≢ c.name
  names_differ m k d c other one there same = elim (cases_order m k) [
    | inl equal ↦ other equal
    | inr (inl less) ↦ later_name source plain m k d c less one there same
    | inr (inr more) ↦ later_name source plain k m c d more there one (sym same)
  ]

  each_fails : (m : ℕ) (d c : Component) (name : Text) → d.name ≢ c.name → slice_get source m ≡ Some d → (gs : List GroupDef)
      → Each (λ (h : GroupDef). is_of add source plain c name (rule_of (0 + m) d h) ≡ false) gs
  each_fails m d c name differ at [] = tt
  each_fails m d c name differ at (h ∷ gs) =
      (tells_of m d c name at h ∙ and_left (bytes_eq d.name c.name) (bytes_eq h.name name) (other_name d.name c.name differ), each_fails m d c name differ at gs)

  -- one rule
  pub one_rule : (k : ℕ) (c : Component) (g : GroupDef) → slice_get source k ≡ Some c → Contains c.groups g
      → length (rules_of (map (extended add) source) (rules_from 0 source) (extended add c) g.name) ≡ 1
  one_rule k c g at has =
      one_in (is_of add source plain c g.name) 0 source k c at
      (λ m d other there. each_fails m d c g.name (names_differ m k d c other there at) there d.groups)
      (one_passes (is_of add source plain c g.name) (0 + k) c g
      (λ h. tells_of k c c g.name at h ∙ ap (λ b. b && bytes_eq h.name g.name) (same_name c.name))
      c.groups (groups_apart source tree plain c (Contains-at source k c at)) has)
