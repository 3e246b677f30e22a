-- The tables by which groups find their rules: places by components, and then by the numbers of groups' names.
use Rattle.std.proofs.Common.{◌≡◌, ◌⊎◌, ℕ, zero, suc, ◌+◌, ◌<◌, Bool, true, false, List, [], ◌∷◌, ◌++◌, filter, get_or, length, map, take, set, Option, Some, None, Vec, Global, refl, sym, ap, ◌∙◌, subst, inl, inr, arith}
use Rattle.std.specs.Prelude.{All, Contains, bytes_eq, if◌then◌else◌, option_map, slice_get}
use Rattle.std.proofs.lemmas.Bool.{and_parts, and_from, cases_order}
use Rattle.std.proofs.lemmas.List.{length-map}
use Rattle.std.proofs.lemmas.List.Elements.{All-contains, All-contains_itself, All-filter, All-weaker, filter_passes, Contains-append_left, Contains-append_right, Contains-append_cases}
use Rattle.std.proofs.lemmas.Option.{same_Some, slice_get-map, slice_get_within, get_or_from_slice_get}
use Rattle.std.proofs.lemmas.Slice.Eq.{bytes_eq-Decides}
use Rattle.hw_names.proofs.NameLemmas.{id_from_number, same_id}
use Rattle.hw_names.specs.Name.{Text, text_of, AreDistinct}
use Rattle.hw_names.specs.declared.names.NameId.{NameId}
use Rattle.cal_ast.proofs.ListLemmas.{place_of, Contains-none, Contains-here, Contains-there, Contains-cases_first, Contains-at, Contains-map, Contains-from_map}
use Rattle.cal_ast.specs.Holes.{ActivityRule, is_rule_of, rule_guard, rule_tree, IsHoleDesign, IsRuleIn, rule_trees}
use Rattle.cal_ast.specs.Naming.{Unreserved}
use Rattle.cal_ast.specs.Numbers.{ComponentHasNumbers, GroupHasNumbers, RuleHasNumbers}
use Rattle.cal_ast.specs.Tree.{Component, Design, group_tree, component_tree}
use Rattle.cal_ast.specs.declared.lowered.ActRule.{ActRule}
use Rattle.cal_ast.specs.declared.tree.CalComp.{CalComp}
use Rattle.cal_ast.specs.declared.tree.Group.{Group}
use Rattle.cal_copy.proofs.CopyLemmas.{get-take, take_next}
use Rattle.cal_group.proofs.RuleOfLemmas.{apart}
use Rattle.cal_group.specs.inside.Ruling.{HasPlaces, HasRulesOf, IsNoted, IsRuleAt}

-- ---- what a filter keeps

Contains-filter : {X : Type 0} (test : X → Bool) (xs : List X) (y : X) → Contains xs y → test y ≡ true → Contains (filter test xs) y
Contains-filter test [] y has passes = absurd (Contains-none y has)
Contains-filter test (x ∷ xs) y has passes = by (test x) refl (Contains-cases_first x xs y has) (λ there. Contains-filter test xs y there passes)
  where
    by : (b : Bool) → test x ≡ b → (x ≡ y) ⊎ Contains xs y → (Contains xs y → Contains (filter test xs) y) → Contains (if b then x ∷ filter test xs else filter test xs) y
    by true is (inl same) later = subst (λ z. Contains (x ∷ filter test xs) z) same (Contains-here x (filter test xs))
    by true is (inr there) later = Contains-there x (filter test xs) y (later there)
    by false is (inl same) later = let no' : test y ≡ false = ap test (sym same) ∙ is in absurd (cc)
    by false is (inr there) later = later there

some_in : {X : Type 0} (xs : List X) → length xs ≡ 1 → (x : X) × Contains xs x
some_in [] one = absurd (omega (arith, one))
some_in (x ∷ xs) one = (x, Contains-here x xs)

only_rule : (rules : List ActivityRule) (rule : ActivityRule) → length rules ≡ 1 → Contains rules rule → rule_guard rules ≡ Some rule.when
only_rule [] rule one has = absurd (Contains-none rule has)
only_rule (x ∷ y ∷ rules) rule one has = absurd (omega (arith, one))
only_rule (x ∷ []) rule one has = elim (Contains-cases_first x [] rule has) [
  | inl same ↦ ap (λ (r : ActivityRule). Some r.when) same
  | inr none ↦ absurd (Contains-none rule none)
]

-- a test passes at a component's own rule, and where it passes the rule is of a component of its name and a group of this name
passes_at : (o : Option Component) (c : Component) (group : Text) (rule : ActivityRule) → o ≡ Some c → rule.group ≡ group → is_rule_of o c group rule ≡ true
passes_at None c group rule at same = absurd (cc)
passes_at (Some d) c group rule at same =
    and_from (bytes_eq d.name c.name) (bytes_eq rule.group group) ((bytes_eq-Decides d.name c.name).1 (ap (λ (x : Component). x.name) (same_Some d c at)))
    ((bytes_eq-Decides rule.group group).1 same)

passed_at : (o : Option Component) (c : Component) (group : Text) (rule : ActivityRule) → is_rule_of o c group rule ≡ true → (d : Component) × (o ≡ Some d) × (d.name ≡ c.name) × (rule.group ≡ group)
passed_at None c group rule passes = absurd (cc)
passed_at (Some d) c group rule passes =
    let both = and_parts (bytes_eq d.name c.name) (bytes_eq rule.group group) passes in
    (d, refl, (bytes_eq-Decides d.name c.name).0 both.0, (bytes_eq-Decides rule.group group).0 both.1)

-- ---- the rule that a group finds

module _ (names : List Text) (comps : List CalComp) (rules : List ActRule) (distinct : AreDistinct names) (numbers : All (ComponentHasNumbers names) comps) (ruled : All (RuleHasNumbers names) rules)
    (hole : IsHoleDesign (map (component_tree names) comps) (rule_trees names rules)) (lists : List (Vec ℕ Global)) (places : HasPlaces rules lists) where
  abbrev design : Design
  design = map (component_tree names) comps

  -- components of one name stand at one place
  same_place : (m n : ℕ) (c d : Component) → slice_get design m ≡ Some c → slice_get design n ≡ Some d → c.name ≡ d.name → m ≡ n
  same_place m n c d at_m at_n same = elim (cases_order m n) [
    | inl one ↦ one
    | inr (inl less) ↦ absurd (apart Unreserved design hole.keeps m n c d at_m at_n less same)
    | inr (inr more) ↦ absurd (apart Unreserved design hole.keeps n m d c at_n at_m more (sym same))
  ]

  module _ (n : ℕ) (comp : CalComp) (at : slice_get comps n ≡ Some comp) (list : Vec ℕ Global) (listed : slice_get lists n ≡ Some list) (table : List ℕ) (noted : IsNoted rules list.items table) where
    abbrev tree : Component
    tree = component_tree names comp

    tree_at : slice_get design n ≡ Some tree
    tree_at = slice_get-map (component_tree names) comps n ∙ ap (λ (o : Option CalComp). option_map (component_tree names) o) at

    comp_numbers : ComponentHasNumbers names comp
    comp_numbers = All-contains (ComponentHasNumbers names) comps comp numbers (Contains-at comps n comp at)

    -- the test of a group passes at a rule of this component and of a group of this name
    own_passes : (name : Text) (other : ActRule) → other.comp ≡ n → text_of names other.group ≡ name → is_rule_of (slice_get design other.comp) tree name (rule_tree names other) ≡ true
    own_passes name other of_comp named = passes_at (slice_get design other.comp) tree name (rule_tree names other) (ap (slice_get design) of_comp ∙ tree_at) named

    finds : HasRulesOf names design rules table comp
    finds group has =
        let name = text_of names group.name in
        let test : ActivityRule → Bool = λ rule. is_rule_of (slice_get design rule.comp) tree name rule in
        let trees = rule_trees names rules in
        let of_tree : Contains tree.groups (group_tree names group) = Contains-map (group_tree names) comp.groups.items group has in
        let one = hole.one_each tree (group_tree names group) (Contains-at design n tree tree_at) of_tree in
        let some = some_in (filter test trees) one in
        let in_trees = All-contains (Contains trees) (filter test trees) some.0 (All-filter test (Contains trees) trees (All-contains_itself trees)) some.1 in
        let passes = All-contains (λ (rule : ActivityRule). test rule ≡ true) (filter test trees) some.0 (filter_passes test trees) some.1 in
        let r = Contains-from_map (rule_tree names) rules some.0 in_trees in
        let first = passed_at (slice_get design some.0.comp) tree name some.0 passes in
        let here : r.0.comp ≡ n = ap (λ (x : ActivityRule). x.comp) r.2 ∙ same_place some.0.comp n first.0 tree first.1 tree_at first.2 in
        let p = place_of rules r.0 r.1 in
        let l = places.all p.0 r.0 p.1 in
        let same_list : l.0 ≡ list = same_Some l.0 list (sym l.1 ∙ ap (slice_get lists) here ∙ listed) in
        let last = noted p.0 r.0 (subst (λ (v : Vec ℕ Global). Contains v.items p.0) same_list l.2) p.1 in
        let other = last.1 in
        let own = places.only n last.0 list listed last.2 in
        let same_other : own.0 ≡ other = same_Some own.0 other (sym own.1 ∙ last.3) in
        let other_comp : other.comp ≡ n = ap (λ (x : ActRule). x.comp) (sym same_other) ∙ own.2 in
        let rule_numbers = All-contains (RuleHasNumbers names) rules r.0 ruled r.1 in
        let group_numbers = All-contains (GroupHasNumbers names) comp.groups.items group comp_numbers.groups has in
        let text : text_of names r.0.group ≡ name = ap (λ (x : ActivityRule). x.group) r.2 ∙ first.3 in
        let id = same_id names r.0.group group.name distinct rule_numbers.0 group_numbers.name text in
        let other_text : text_of names other.group ≡ name = ap (text_of names) (last.4 ∙ id) in
        let other_passes : test (rule_tree names other) ≡ true = own_passes name other other_comp other_text in
        let other_in = Contains-filter test trees (rule_tree names other) (Contains-map (rule_tree names) rules other (Contains-at rules last.0 other last.3)) other_passes in (
          other,
          record { place = last.0; noted = ap (λ (x : NameId). slice_get table x.0) (sym id) ∙ last.5; at = last.3 },
          (All-contains (RuleHasNumbers names) rules other ruled (Contains-at rules last.0 other last.3)).1,
          only_rule (filter test trees) (rule_tree names other) one other_in,
        )

    -- the same where rules and table are read again
    pub finds_again : (rules' : List ActRule) (table' : List ℕ) → rules' ≡ rules → table' ≡ table → HasRulesOf names design rules' table' comp
    finds_again rules' table' same_rules same_table =
        subst (λ (xs : List ActRule). HasRulesOf names design xs table' comp) (sym same_rules) (subst (λ (t : List ℕ). HasRulesOf names design rules t comp) (sym same_table) finds)

-- ---- writes in a table

same_or_other : (m n : ℕ) → (m ≡ n) ⊎ (m ≡ n → ⊥)
same_or_other m n = elim (cases_order m n) [
  | inl same ↦ inl same
  | inr (inl less) ↦ inr (λ same. omega (arith, less, same))
  | inr (inr more) ↦ inr (λ same. omega (arith, more, same))
]

pub get-set_same : {X : Type 0} (xs : List X) (k : ℕ) (v : X) → k < length xs → slice_get (set xs k v) k ≡ Some v
get-set_same [] k v within = absurd (omega (arith, within))
get-set_same (x ∷ xs) zero v within = refl
get-set_same (x ∷ xs) (suc k) v within = get-set_same xs k v (omega (arith, within))

pub get-set_other : {X : Type 0} (xs : List X) (j k : ℕ) (v : X) → (j ≡ k → ⊥) → slice_get (set xs k v) j ≡ slice_get xs j
get-set_other [] j k v differ = refl
get-set_other (x ∷ xs) zero zero v differ = absurd (differ refl)
get-set_other (x ∷ xs) zero (suc k) v differ = refl
get-set_other (x ∷ xs) (suc j) zero v differ = refl
get-set_other (x ∷ xs) (suc j) (suc k) v differ = get-set_other xs j k v (λ same. differ (ap suc same))

-- ---- notes in a table

pub noted_none : (rules : List ActRule) (table : List ℕ) → IsNoted rules [] table
noted_none rules table = λ place rule has at. absurd (Contains-none place has)

-- the table has a place of a rule of the rule's group
abbrev Found : List ActRule → List ℕ → List ℕ → ActRule → Type 0
Found rules places table rule =
    (last : ℕ) × (other : ActRule) × Contains places last × (slice_get rules last ≡ Some other) × (other.group ≡ rule.group) × (slice_get table rule.group.0 ≡ Some last)

-- one note more
pub noted_more : (rules : List ActRule) (places table table' : List ℕ) (i p : ℕ) (r : ActRule) → slice_get places i ≡ Some p → slice_get rules p ≡ Some r → r.group.0 < length table → table' ≡ set table r.group.0 p
    → IsNoted rules (take i places) table → IsNoted rules (take (i + 1) places) table'
noted_more rules places table table' i p r at_i at_p within is noted = λ place rule has at.
    by place rule (subst (λ (xs : List ℕ). Contains xs place) (take_next places i p at_i) has) at (cases_order rule.group.0 r.group.0)
  where
    among : Contains (take (i + 1) places) p
    among = subst (λ (xs : List ℕ). Contains xs p) (sym (take_next places i p at_i)) (Contains-append_right (take i places) (p ∷ []) p (Contains-here p []))

    earlier : (place : ℕ) (rule : ActRule) → slice_get rules place ≡ Some rule → (rule.group.0 ≡ r.group.0 → ⊥) → Contains (take i places ++ p ∷ []) place → Found rules (take (i + 1) places) table' rule
    earlier place rule at differ has = elim (Contains-append_cases (take i places) (p ∷ []) place has) [
      | inr last ↦ elim (Contains-cases_first p [] place last) [
        | inl same ↦ absurd (differ (ap (λ (x : ActRule). x.group.0) (same_Some rule r (sym at ∙ ap (slice_get rules) (sym same) ∙ at_p))))
        | inr none ↦ absurd (Contains-none place none)
      ]
      | inl before ↦ (
          let n = noted place rule before at in (
            n.0,
            n.1,
            subst (λ (xs : List ℕ). Contains xs n.0) (sym (take_next places i p at_i)) (Contains-append_left (take i places) (p ∷ []) n.0 n.2),
            n.3,
            n.4,
            ap (λ (xs : List ℕ). slice_get xs rule.group.0) is ∙ get-set_other table rule.group.0 r.group.0 p differ ∙ n.5,
          ))
    ]

    by : (place : ℕ) (rule : ActRule) → Contains (take i places ++ p ∷ []) place → slice_get rules place ≡ Some rule
        → (rule.group.0 ≡ r.group.0) ⊎ ((rule.group.0 < r.group.0) ⊎ (r.group.0 < rule.group.0)) → Found rules (take (i + 1) places) table' rule
    by place rule has at (inl same) = (
      p,
      r,
      among,
      at_p,
      id_from_number r.group rule.group (sym same),
      ap (λ (xs : List ℕ). slice_get xs rule.group.0) is ∙ ap (slice_get (set table r.group.0 p)) same ∙ get-set_same table r.group.0 p within,
    )
    by place rule has at (inr (inl less)) = earlier place rule at (λ same. omega (arith, less, same)) has
    by place rule has at (inr (inr more)) = earlier place rule at (λ same. omega (arith, more, same)) has

-- ---- places by components

only_one : {X : Type 0} (x y : X) → Contains (x ∷ []) y → x ≡ y
only_one x y has = elim (Contains-cases_first x [] y has) [
  | inl same ↦ same
  | inr none ↦ absurd (Contains-none y none)
]

take-get : {X : Type 0} (xs : List X) (k j : ℕ) (x : X) → j < k → slice_get xs j ≡ Some x → slice_get (take k xs) j ≡ Some x
take-get xs zero j x less at = absurd (omega (arith, less))
take-get [] (suc k) j x less at = at
take-get (y ∷ xs) (suc k) zero x less at = at
take-get (y ∷ xs) (suc k) (suc j) x less at = take-get xs k j x (omega (arith, less)) at

-- lists for no rule yet
pub places_none : (lists : List (Vec ℕ Global)) → All (λ (list : Vec ℕ Global). list.items ≡ []) lists → HasPlaces [] lists
places_none lists empty = record {
  all = λ place rule at. absurd (cc);
  only = λ comp place list at has. (
      let none = All-contains (λ (v : Vec ℕ Global). v.items ≡ []) lists list empty (Contains-at lists comp list at) in
      absurd (Contains-none place (subst (λ (xs : List ℕ). Contains xs place) none has)));
}

-- one rule more
module _ (rules : List ActRule) (lists lists' : List (Vec ℕ Global)) (i : ℕ) (r : ActRule) (old new : Vec ℕ Global) (at_i : slice_get rules i ≡ Some r) (was : slice_get lists r.comp ≡ Some old)
    (pushed : new.items ≡ old.items ++ i ∷ []) (put : lists' ≡ set lists r.comp new) (places : HasPlaces (take i rules) lists) where
  now_at : slice_get lists' r.comp ≡ Some new
  now_at = ap (λ (xs : List (Vec ℕ Global)). slice_get xs r.comp) put ∙ get-set_same lists r.comp new (slice_get_within lists r.comp old was)

  elsewhere : (comp : ℕ) → (comp ≡ r.comp → ⊥) → slice_get lists' comp ≡ slice_get lists comp
  elsewhere comp differ = ap (λ (xs : List (Vec ℕ Global)). slice_get xs comp) put ∙ get-set_other lists comp r.comp new differ

  among_more : (place : ℕ) (rule : ActRule) → slice_get (take i rules) place ≡ Some rule → slice_get (take (i + 1) rules) place ≡ Some rule
  among_more place rule at = let in_all = get-take rules i place rule at in take-get rules (i + 1) place rule (omega (arith, in_all.0)) in_all.1

  listed : (place : ℕ) (rule : ActRule) → slice_get (take i rules) place ≡ Some rule → (list : Vec ℕ Global) × (slice_get lists' rule.comp ≡ Some list) × Contains list.items place
  listed place rule at =
      let own = places.all place rule at in
      elim (same_or_other rule.comp r.comp) [
        | inl same ↦ (
            let is : own.0 ≡ old = same_Some own.0 old (sym own.1 ∙ ap (slice_get lists) same ∙ was) in (
              new,
              ap (slice_get lists') same ∙ now_at,
              subst (λ (xs : List ℕ). Contains xs place) (sym pushed) (Contains-append_left old.items (i ∷ []) place (subst (λ (v : Vec ℕ Global). Contains v.items place) is own.2)),
            ))
        | inr differ ↦ (own.0, elsewhere rule.comp differ ∙ own.1, own.2)
      ]

  listed_more : (place : ℕ) (rule : ActRule) → slice_get (take (i + 1) rules) place ≡ Some rule → (list : Vec ℕ Global) × (slice_get lists' rule.comp ≡ Some list) × Contains list.items place
  listed_more place rule at =
      let in_all = get-take rules (i + 1) place rule at in
      elim (cases_order place i) [
        | inl same ↦ (
            let is : rule ≡ r = same_Some rule r (sym in_all.1 ∙ ap (slice_get rules) same ∙ at_i) in (
              new,
              ap (λ (x : ActRule). slice_get lists' x.comp) is ∙ now_at,
              subst (λ (xs : List ℕ). Contains xs place) (sym pushed) (Contains-append_right old.items (i ∷ []) place (subst (λ (k : ℕ). Contains (i ∷ []) k) (sym same) (Contains-here i []))),
            ))
        | inr (inl less) ↦ listed place rule (take-get rules i place rule less in_all.1)
        | inr (inr more) ↦ absurd (omega (arith, more, in_all.0))
      ]

  of_comp : (comp place : ℕ) (list : Vec ℕ Global) → slice_get lists' comp ≡ Some list → Contains list.items place → (rule : ActRule) × (slice_get (take (i + 1) rules) place ≡ Some rule) × (rule.comp ≡ comp)
  of_comp comp place list at has =
      elim (same_or_other comp r.comp) [
        | inl same ↦ (
            let is : list ≡ new = same_Some list new (sym at ∙ ap (slice_get lists') same ∙ now_at) in
            elim (Contains-append_cases old.items (i ∷ []) place (subst (λ (xs : List ℕ). Contains xs place) (ap (λ (v : Vec ℕ Global). v.items) is ∙ pushed) has)) [
              | inl before ↦ (let own = places.only r.comp place old was before in (own.0, among_more place own.0 own.1, own.2 ∙ sym same))
              | inr last ↦ (r, subst (λ (k : ℕ). slice_get (take (i + 1) rules) k ≡ Some r) (only_one i place last) (take-get rules (i + 1) i r (omega arith) at_i), sym same)
            ])
        | inr differ ↦ (let own = places.only comp place list (sym (elsewhere comp differ) ∙ at) has in (own.0, among_more place own.0 own.1, own.2))
      ]

  pub places_more : HasPlaces (take (i + 1) rules) lists'
  places_more = record { all = listed_more; only = of_comp }

-- ---- what the tables are within

pub rules_within : (names : List Text) (comps : List CalComp) (rules rules' : List ActRule) (n : ℕ) → n ≡ length comps → rules' ≡ rules → All (IsRuleIn (map (component_tree names) comps)) (rule_trees names rules)
    → All (λ (rule : ActRule). rule.comp < n) rules'
rules_within names comps rules rules' n count same are =
    let design : Design = map (component_tree names) comps in
    subst (λ (xs : List ActRule). All (λ (rule : ActRule). rule.comp < n) xs) (sym same)
    (All-weaker (Contains rules) (λ (rule : ActRule). rule.comp < n)
    (λ rule has.
    let is_in = All-contains (IsRuleIn design) (rule_trees names rules) (rule_tree names rule) are (Contains-map (rule_tree names) rules rule has) in
    let within : rule.comp < length design = slice_get_within design rule.comp is_in.c is_in.at in
    omega (arith, within, count, length-map comps (component_tree names)))
    rules (All-contains_itself rules))

pub places_within : (rules rules' : List ActRule) (lists : List (Vec ℕ Global)) (n : ℕ) (list : Vec ℕ Global) (places : List ℕ) → HasPlaces rules lists → slice_get lists n ≡ Some list → rules' ≡ rules → places ≡ list.items
    → All (λ (place : ℕ). place < length rules') places
places_within rules rules' lists n list places has_places at same_rules same_places =
    subst (λ (xs : List ℕ). All (λ (place : ℕ). place < length rules') xs) (sym same_places)
    (All-weaker (Contains list.items) (λ (place : ℕ). place < length rules')
    (λ place has.
    let own = has_places.only n place list at has in
    let within : place < length rules = slice_get_within rules place own.0 own.1 in
    omega (arith, within, ap length same_rules))
    list.items (All-contains_itself list.items))

pub groups_within : (names : List Text) (rules rules' : List ActRule) (n : ℕ) → n ≡ length names → rules' ≡ rules → All (RuleHasNumbers names) rules → All (λ (rule : ActRule). rule.group.0 < n) rules'
groups_within names rules rules' n count same ruled =
    subst (λ (xs : List ActRule). All (λ (rule : ActRule). rule.group.0 < n) xs) (sym same) (All-weaker (RuleHasNumbers names) (λ (rule : ActRule). rule.group.0 < n) (λ rule has. omega (arith, has.0, count)) rules ruled)

-- ---- a group's rule in the table

pub has_places : (names : List Text) (design : Design) (rules : List ActRule) (table : List ℕ) (comp : CalComp) → HasRulesOf names design rules table comp
    → (group : Group) → Contains comp.groups.items group → (place : ℕ) × (rule : ActRule) × (slice_get table group.name.0 ≡ Some place) × (slice_get rules place ≡ Some rule)
has_places names _ rules table comp rules_of group has = let own = rules_of group has in (own.1.place, own.0, own.1.noted, own.1.at)

-- the rule that stands where the table says is the group's
pub same_rule : (rules : List ActRule) (table : List ℕ) (group : Group) (rule found : ActRule) → IsRuleAt rules table group rule → found ≡ get_or rules (get_or table group.name.0 0) found → found ≡ rule
same_rule rules table group rule found is_at read =
    read ∙ ap (λ (k : ℕ). get_or rules k found) (get_or_from_slice_get table group.name.0 is_at.place 0 is_at.noted) ∙ get_or_from_slice_get rules is_at.place rule found is_at.at

pub place_within : (rules : List ActRule) (table : List ℕ) (k place : ℕ) (rule : ActRule) → slice_get table k ≡ Some place → slice_get rules place ≡ Some rule → get_or table k 0 < length rules
place_within rules table k place rule noted at = subst (λ (p : ℕ). p < length rules) (sym (get_or_from_slice_get table k place 0 noted)) (slice_get_within rules place rule at)
