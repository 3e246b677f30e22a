-- The rule of a group of the answer: its group acts where the wire that says so shows 1, and never in a component that was bare.
use Rattle.std.proofs.Common.{◌≡◌, inl, inr, ℕ, zero, suc, ◌+◌, ◌<◌, List, [], ◌∷◌, ◌++◌, map, take, cond, Bool, true, false, ◌&&◌, Option, Some, refl, sym, ap, subst, ◌∙◌, arith, add-zero}
use Rattle.std.specs.Prelude.{Contains, filter, slice_get, bytes_eq, if◌then◌else◌, option_map}
use Rattle.std.proofs.lemmas.Bool.{and_parts, and_from, cases_order}
use Rattle.std.proofs.lemmas.List.Elements.{Contains-append_left, Contains-append_right, Contains-append_cases}
use Rattle.std.proofs.lemmas.Option.{slice_get-map}
use Rattle.std.proofs.lemmas.Slice.Eq.{bytes_eq-Decides}
use Rattle.hw_names.specs.Name.{Text}
use Rattle.net_core.specs.Guard.{GuardTree}
use Rattle.cal_ast.proofs.ItemLemmas.{signature_item}
use Rattle.cal_ast.proofs.ListLemmas.{place_of, Contains-here, Contains-there, Contains-none, Contains-cases_first, Contains-map, Contains-from_map}
use Rattle.cal_ast.specs.Holes.{ActivityRule, is_rule_of, rule_guard, when_of}
use Rattle.cal_ast.specs.Items.{TheSignature, items_of}
use Rattle.cal_ast.specs.Naming.{component_names}
use Rattle.cal_ast.specs.NoInvoke.{IsPlainDesign}
use Rattle.cal_ast.specs.Ports.{is_bare}
use Rattle.cal_ast.specs.Rules.{C1}
use Rattle.cal_ast.specs.Tree.{PortName, GroupDef, Component, Design}
use Rattle.cal_lower.specs.inside.Added.{Additions, extended}
use Rattle.cal_lower.specs.inside.Lowered.{rule_of, rules_from}
use Rattle.cal_lower.specs.inside.Pieces.{acts_name, is_set, never}
use Rattle.cal_lower.proofs.ExtendedLemmas.{extended_name}
use Rattle.cal_lower.proofs.SourceLemmas.{Contains-before}

-- what a rule is of, among those of components that are counted from n
pub record IsFrom (n : ℕ) (cs : Design) (rule : ActivityRule) : Type 0 where
  pub place : ℕ
  pub c : Component
  pub at : slice_get cs place ≡ Some c
  pub g : GroupDef
  pub has : Contains c.groups g
  pub is : rule ≡ rule_of (n + place) c g

pub from_rules : (n : ℕ) (cs : Design) (rule : ActivityRule) → Contains (rules_from n cs) rule → IsFrom n cs rule
from_rules n [] rule has = absurd (Contains-none rule has)
from_rules n (c ∷ cs) rule has =
    elim (Contains-append_cases (map (rule_of n c) c.groups) (rules_from (n + 1) cs) rule has) [
      | inl here ↦
          let g = Contains-from_map (rule_of n c) c.groups rule here in
          record { place = 0; c = c; at = refl; g = g.0; has = g.1; is = sym g.2 ∙ ap (λ m. rule_of m c g.0) (sym (add-zero n)) }
      | inr there ↦
          let r = from_rules (n + 1) cs rule there in
          let same : n + 1 + r.place ≡ n + suc r.place = omega arith in
          record { place = suc r.place; c = r.c; at = r.at; g = r.g; has = r.has; is = r.is ∙ ap (λ m. rule_of m r.c r.g) same }
    ]

has_rule : (n : ℕ) (cs : Design) (k : ℕ) (c : Component) (g : GroupDef) → slice_get cs k ≡ Some c → Contains c.groups g → Contains (rules_from n cs) (rule_of (n + k) c g)
has_rule n [] k c g at has = absurd (cc)
has_rule n (d ∷ cs) zero c g at has =
    let is : d ≡ c = cc in
    let here : Contains (map (rule_of n c) c.groups) (rule_of n c g) = Contains-map (rule_of n c) c.groups g has in
    let R : Component → Type 0 = λ x. Contains (map (rule_of n x) x.groups ++ rules_from (n + 1) cs) (rule_of (n + 0) c g) in
    let S : ℕ → Type 0 = λ m. Contains (map (rule_of n c) c.groups ++ rules_from (n + 1) cs) (rule_of m c g) in
    subst R (sym is) (subst S (sym (add-zero n)) (Contains-append_left (map (rule_of n c) c.groups) (rules_from (n + 1) cs) (rule_of n c g) here))
has_rule n (d ∷ cs) (suc k) c g at has =
    let same : n + 1 + k ≡ n + suc k = omega arith in
    let S : ℕ → Type 0 = λ m. Contains (map (rule_of n d) d.groups ++ rules_from (n + 1) cs) (rule_of m c g) in
    subst S same (Contains-append_right (map (rule_of n d) d.groups) (rules_from (n + 1) cs) (rule_of (n + 1 + k) c g) (has_rule (n + 1) cs k c g at has))

-- the guard of the first rule that passes, where all that pass have the same
first_guard : (test : ActivityRule → Bool) (rules : List ActivityRule) (when : GuardTree PortName)
    → ((rule : ActivityRule) → Contains rules rule → test rule ≡ true → rule.when ≡ when)
    → (rule : ActivityRule) → Contains rules rule → test rule ≡ true → rule_guard (filter test rules) ≡ Some when
first_guard test [] when same rule has passes = absurd (Contains-none rule has)
first_guard test (r ∷ rules) when same rule has passes =
    by (λ fails. first_guard test rules when (λ x there ok. same x (Contains-there r rules x there) ok) rule (later fails) passes) (test r) refl
  where
    later : test r ≡ false → Contains rules rule
    later fails = elim (Contains-cases_first r rules rule has) [
      | inl is ↦ (let bad : test rule ≡ false = ap test (sym is) ∙ fails in absurd (cc))
      | inr there ↦ there
    ]

    by : (test r ≡ false → rule_guard (filter test rules) ≡ Some when) → (b : Bool) → test r ≡ b
        → rule_guard (cond b (r ∷ filter test rules) (filter test rules)) ≡ Some when
    by further true e = ap (λ (w : GuardTree PortName). Some w) (same r (Contains-here r rules) e)
    by further false e = further e

-- the guard of a group of this name
abbrev pub guard_for : Component → Text → GuardTree PortName
guard_for c name = if is_bare c then never else is_set (acts_name name)

module _ (source : Design) (plain : IsPlainDesign source) where
  -- components of one name are one
  pub later_name : (m k : ℕ) (c d : Component) → m < k → slice_get source m ≡ Some c → slice_get source k ≡ Some d → c.name ≡ d.name → ⊥
  later_name m k c d less one other same =
      let i = place_of (items_of d) TheSignature (signature_item d) in
      (plain.keeps k d other i.0 TheSignature i.1 0 C1 (omega arith)).new
      (subst (λ x. Contains (component_names (take k source)) x) same
      (Contains-map (λ (x : Component). x.name) (take k source) c (Contains-before source m k c less one)))

  pub same_component : (m k : ℕ) (c d : Component) → slice_get source m ≡ Some c → slice_get source k ≡ Some d → c.name ≡ d.name → c ≡ d
  same_component m k c d one other same = elim (cases_order m k) [
    | inl equal ↦ (let e : Some c ≡ Some d = sym one ∙ ap (slice_get source) equal ∙ other in cc)
    | inr (inl less) ↦ absurd (later_name m k c d less one other same)
    | inr (inr more) ↦ absurd (later_name k m d c more other one (sym same))
  ]

module _ (add : Additions) (source : Design) (plain : IsPlainDesign source) where
  pub extended_at : (k : ℕ) (c : Component) → slice_get source k ≡ Some c → slice_get (map (extended add) source) k ≡ Some (extended add c)
  extended_at k c at = slice_get-map (extended add) source k ∙ ap (option_map (extended add)) at

  abbrev pub is_of : Component → Text → ActivityRule → Bool
  is_of c name rule = is_rule_of (slice_get (map (extended add) source) rule.comp) (extended add c) name rule

  -- a rule of the group has the group's guard
  its_guard : (k : ℕ) (c : Component) (name : Text) → slice_get source k ≡ Some c → (rule : ActivityRule) → Contains (rules_from 0 source) rule
      → is_of c name rule ≡ true → rule.when ≡ guard_for c name
  its_guard k c name at rule has passes =
      let r = from_rules 0 source rule has in
      let number : 0 + r.place ≡ r.place = omega arith in
      let comp : rule.comp ≡ r.place = ap (λ (x : ActivityRule). x.comp) r.is ∙ number in
      let found : slice_get (map (extended add) source) rule.comp ≡ Some (extended add r.c) = ap (slice_get (map (extended add) source)) comp ∙ extended_at r.place r.c r.at in
      let test : (bytes_eq (extended add r.c).name (extended add c).name && bytes_eq rule.group name) ≡ true =
      sym (ap (λ (o : Option Component). is_rule_of o (extended add c) name rule) found) ∙ passes in
      let parts = and_parts (bytes_eq (extended add r.c).name (extended add c).name) (bytes_eq rule.group name) test in
      let names : r.c.name ≡ c.name = sym (extended_name add r.c) ∙ (bytes_eq-Decides (extended add r.c).name (extended add c).name).0 parts.0 ∙ extended_name add c in
      let one : r.c ≡ c = same_component source plain r.place k r.c c r.at at names in
      let group : r.g.name ≡ name = sym (ap (λ (x : ActivityRule). x.group) r.is) ∙ (bytes_eq-Decides rule.group name).0 parts.1 in
      ap (λ (x : ActivityRule). x.when) r.is ∙ ap (λ (x : Component). guard_for x r.g.name) one ∙ ap (guard_for c) group

  pub when_extended : (k : ℕ) (c : Component) (g : GroupDef) → slice_get source k ≡ Some c → Contains c.groups g
      → when_of (map (extended add) source) (rules_from 0 source) (extended add c) g.name ≡ Some (guard_for c g.name)
  when_extended k c g at has =
      let number : 0 + k ≡ k = omega arith in
      let found : slice_get (map (extended add) source) (0 + k) ≡ Some (extended add c) = ap (slice_get (map (extended add) source)) number ∙ extended_at k c at in
      let here : (bytes_eq (extended add c).name (extended add c).name && bytes_eq g.name g.name) ≡ true =
      and_from (bytes_eq (extended add c).name (extended add c).name) (bytes_eq g.name g.name)
      ((bytes_eq-Decides (extended add c).name (extended add c).name).1 refl) ((bytes_eq-Decides g.name g.name).1 refl) in
      let passes : is_of c g.name (rule_of (0 + k) c g) ≡ true =
      ap (λ (o : Option Component). is_rule_of o (extended add c) g.name (rule_of (0 + k) c g)) found ∙ here in
      first_guard (is_of c g.name) (rules_from 0 source) (guard_for c g.name) (its_guard k c g.name at) (rule_of (0 + k) c g) (has_rule 0 source k c g at has) passes
