-- The rules of a design's groups: each group has one, and it keeps C2, C4 and C6 in the group's component.
use Rattle.std.proofs.Common.{◌≡◌, ℕ, ◌<◌, Bool, true, List, [], ◌∷◌, length, take, Option, Some, None, refl, sym, ap, ◌∙◌, subst, inl, inr, arith}
use Rattle.std.specs.Prelude.{All, Contains, bytes_eq, slice_get}
use Rattle.std.proofs.lemmas.Bool.{and_parts, cases_order}
use Rattle.std.proofs.lemmas.List.{length-take, get_or-take}
use Rattle.std.proofs.lemmas.List.Elements.{All-contains, All-filter, filter_passes}
use Rattle.std.proofs.lemmas.Option.{same_Some, slice_get_within, get_or_from_slice_get}
use Rattle.std.proofs.lemmas.Slice.Eq.{bytes_eq-Decides}
use Rattle.hw_names.specs.Name.{Text}
use Rattle.net_core.specs.Guard.{GuardTree}
use Rattle.cal_ast.proofs.ItemLemmas.{signature_item}
use Rattle.cal_ast.proofs.ListLemmas.{place_of, Contains-here, Contains-map}
use Rattle.cal_ast.specs.Holes.{ActivityRule, is_rule_of, rules_of, rule_guard, when_of, IsGuardOf, IsRuleIn, IsHoleDesign}
use Rattle.cal_ast.specs.Items.{Item, TheSignature, items_of}
use Rattle.cal_ast.specs.Naming.{GroupNaming, Unreserved, HasNewNames, component_names}
use Rattle.cal_ast.specs.Rules.{C1, Keeps, KeepsRulesUnder, all_rules}
use Rattle.cal_ast.specs.Tree.{PortName, GroupDef, Component, Design}

-- ---- components with one name are one

pub Contains-before : {X : Type 0} (xs : List X) (j k : ℕ) (x : X) → j < k → slice_get xs j ≡ Some x → Contains (take k xs) x
Contains-before xs j k x less at =
    let within = slice_get_within xs j x at in
    (j, omega (arith, less, within, length-take k xs), get_or-take k xs j x less ∙ get_or_from_slice_get xs j x x at)

module _ (naming : GroupNaming) (design : Design) (keeps : KeepsRulesUnder naming design) where
  pub at_item : (n : ℕ) (c : Component) → slice_get design n ≡ Some c → (item : Item) → Contains (items_of c) item → All (Keeps naming design (take n design) c item) all_rules
  at_item n c at item has = let i = place_of (items_of c) item has in keeps n c at i.0 item i.1

  pub new_names : (n : ℕ) (c : Component) → slice_get design n ≡ Some c → HasNewNames (take n design) c
  new_names n c at = at_item n c at TheSignature (signature_item c) 0 C1 (omega arith)

  -- an earlier component has another name
  pub apart : (m n : ℕ) (c d : Component) → slice_get design m ≡ Some c → slice_get design n ≡ Some d → m < n → c.name ≡ d.name → ⊥
  apart m n c d at_m at_n less same =
      (new_names n d at_n).new (subst (λ name. Contains (component_names (take n design)) name) same
      (Contains-map (λ (x : Component). x.name) (take n design) c (Contains-before design m n c less at_m)))

  pub same_component : (m n : ℕ) (c d : Component) → slice_get design m ≡ Some c → slice_get design n ≡ Some d → c.name ≡ d.name → c ≡ d
  same_component m n c d at_m at_n same = elim (cases_order m n) [
    | inl one ↦ same_Some c d (sym at_m ∙ ap (slice_get design) one ∙ at_n)
    | inr (inl less) ↦ absurd (apart m n c d at_m at_n less same)
    | inr (inr more) ↦ absurd (apart n m d c at_n at_m more (sym same))
  ]

-- ---- the rule of a group

-- the group's rule, with its guard
pub record HasRule (design : Design) (rules : List ActivityRule) (c : Component) (g : GroupDef) : Type 0 where
  pub when : GuardTree PortName
  pub is : when_of design rules c g.name ≡ Some when
  pub guard : IsGuardOf design c when

-- one rule is the first
record IsFirstRule (rules : List ActivityRule) : Type 0 where
  rule : ActivityRule
  has : Contains rules rule
  is : rule_guard rules ≡ Some rule.when

first_rule : (rules : List ActivityRule) → length rules ≡ 1 → IsFirstRule rules
first_rule [] one = absurd (omega (arith, one))
first_rule (rule ∷ rules) one = record { rule = rule; has = Contains-here rule rules; is = refl }

-- a rule of a component of the name of this one is a rule of this one
is_rule_at : (o : Option Component) (d c : Component) (group : Text) (rule : ActivityRule) → o ≡ Some d → is_rule_of o c group rule ≡ true → d.name ≡ c.name
is_rule_at None d c group rule at passes = absurd (cc)
is_rule_at (Some x) d c group rule at passes =
    let both = and_parts (bytes_eq x.name c.name) (bytes_eq rule.group group) passes in
    ap (λ (y : Component). y.name) (sym (same_Some x d at)) ∙ (bytes_eq-Decides x.name c.name).0 both.0

pub has_rule : (design : Design) (rules : List ActivityRule) → IsHoleDesign design rules → (c : Component) (g : GroupDef) → Contains design c → Contains c.groups g → HasRule design rules c g
has_rule design rules hole c g has of_c =
    let test : ActivityRule → Bool = λ rule. is_rule_of (slice_get design rule.comp) c g.name rule in
    let first = first_rule (rules_of design rules c g.name) (hole.one_each c g has of_c) in
    let is_in = All-contains (IsRuleIn design) (rules_of design rules c g.name) first.rule (All-filter test (IsRuleIn design) rules hole.no_other) first.has in
    let passes = All-contains (λ (rule : ActivityRule). test rule ≡ true) (rules_of design rules c g.name) first.rule (filter_passes test rules) first.has in
    let named = is_rule_at (slice_get design first.rule.comp) is_in.c c g.name first.rule is_in.at passes in
    let at = place_of design c has in
    let same = same_component Unreserved design hole.keeps first.rule.comp at.0 is_in.c c is_in.at at.1 named in
    record {
      when = first.rule.when;
      is = first.is;
      guard = subst (λ (x : Component). IsGuardOf design x first.rule.when) same is_in.guard;
    }
