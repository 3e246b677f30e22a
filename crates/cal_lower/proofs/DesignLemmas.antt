-- Components and rules of a design, one component after another.
use Rattle.std.proofs.Common.{◌≡◌, ℕ, ◌+◌, ◌<◌, ◌≤◌, List, [], ◌∷◌, ◌++◌, length, get_or, map, take, All, Some, sym, ap, subst, ◌∙◌, append_assoc, arith}
use Rattle.std.specs.Prelude.{option_map, slice_get}
use Rattle.std.proofs.lemmas.List.{append-nil, length-take-le, take_all}
use Rattle.std.proofs.lemmas.List.Elements.{All-cons, All-contains, All-head, All-nil, All-tail, Contains-append_left, Contains-append_right, Contains-get_or}
use Rattle.std.proofs.lemmas.Option.{slice_get-map, slice_get_within}
use Rattle.hw_names.specs.Name.{KeepsTexts, Text}
use Rattle.cal_ast.proofs.ListLemmas.{Contains-at}
use Rattle.cal_ast.specs.Holes.{rule_tree}
use Rattle.cal_ast.specs.Items.{control_statements, statements_in, statements_of, unless_empty}
use Rattle.cal_ast.specs.NoInvoke.{IsNoInvoke, IsPlainDesign}
use Rattle.cal_ast.specs.Numbers.{ComponentHasNumbers, HasNumbers}
use Rattle.cal_ast.specs.Tree.{Component, ControlSection, Absent, Empty, Body, component_tree, design_of}
use Rattle.cal_ast.specs.Tree.{Statement, Enable, Seq, Par, If, While, Invoke, Statements, NoStatements, MoreStatements}
use Rattle.cal_ast.specs.declared.tree.CalComp.{CalComp}
use Rattle.cal_ast.specs.declared.tree.CalDesign.{CalDesign}
use Rattle.cal_ast.specs.declared.lowered.ActRule.{ActRule}
use Rattle.cal_lower.specs.inside.Lowered.{HasFewParts, IsLoweringOf, lowered, rule_of, rules_from}
use Rattle.cal_lower.specs.inside.Making.{ShowRules}
use Rattle.cal_lower.specs.inside.Shown.{Shows, ShowAll}
use Rattle.cal_lower.specs.inside.Statements.{CanLowerComponent, HasNoInvoke, HaveNoInvoke, SectionHasNoInvoke}
use Rattle.cal_lower.proofs.GrownLemmas.{show_all_kept, show_push, shows_kept}
use Rattle.cal_lower.proofs.NextLemmas.{All-at, All-next, map_next, one_more}
use Rattle.cal_lower.proofs.StableLemmas.{KeepsTexts-refl}

-- ---- no invoke

all_left : (xs ys : List Statement) → All IsNoInvoke (xs ++ ys) → All IsNoInvoke xs
all_left xs ys all k x within = All-contains IsNoInvoke (xs ++ ys) (get_or xs k x) all (Contains-append_left xs ys (get_or xs k x) (Contains-get_or xs k x within))

all_right : (xs ys : List Statement) → All IsNoInvoke (xs ++ ys) → All IsNoInvoke ys
all_right xs ys all k x within = All-contains IsNoInvoke (xs ++ ys) (get_or ys k x) all (Contains-append_right xs ys (get_or ys k x) (Contains-get_or ys k x within))

-- a branch that is an empty sequence has none either
of_branch : (s : Statement) → All IsNoInvoke (unless_empty s (statements_in s)) → All IsNoInvoke (statements_in s)
of_branch (Enable name) all = all
of_branch (Seq NoStatements) all = All-cons IsNoInvoke (Seq NoStatements) [] tt (All-nil IsNoInvoke)
of_branch (Seq (MoreStatements s ss)) all = all
of_branch (Par ss) all = all
of_branch (If port by s t) all = all
of_branch (While port by s) all = all
of_branch (Invoke cell ins outs) all = all

mutual
  none_in : (s : Statement) → All IsNoInvoke (statements_in s) → HasNoInvoke s
  none_in (Enable name) all = tt
  none_in (Seq ss) all = none_of ss (All-tail IsNoInvoke (Seq ss) (statements_of ss) all)
  none_in (Par ss) all = none_of ss (All-tail IsNoInvoke (Par ss) (statements_of ss) all)
  none_in (If port by s t) all =
      let on = unless_empty s (statements_in s) in
      let off = unless_empty t (statements_in t) in
      let both : All IsNoInvoke (on ++ off) = All-tail IsNoInvoke (If port by s t) (on ++ off) all in
      (none_in s (of_branch s (all_left on off both)), none_in t (of_branch t (all_right on off both)))
  none_in (While port by s) all = none_in s (of_branch s (All-tail IsNoInvoke (While port by s) (unless_empty s (statements_in s)) all))
  none_in (Invoke cell ins outs) all = All-head IsNoInvoke (Invoke cell ins outs) [] all

  none_of : (ss : Statements) → All IsNoInvoke (statements_of ss) → HaveNoInvoke ss
  none_of NoStatements all = tt
  none_of (MoreStatements s ss) all =
      (none_in s (all_left (statements_in s) (statements_of ss) all), none_of ss (all_right (statements_in s) (statements_of ss) all))

none_in_section : (control : ControlSection) → All IsNoInvoke (control_statements control) → SectionHasNoInvoke control
none_in_section Absent all = tt
none_in_section Empty all = tt
none_in_section (Body s) all = none_in s all

-- ---- the components

-- the rules with those of one more component
rules_push : (n : ℕ) (cs : List Component) (c : Component) → rules_from n (cs ++ c ∷ []) ≡ rules_from n cs ++ map (rule_of (n + length cs) c) c.groups
rules_push n [] c =
    let same : n ≡ n + 0 = omega arith in
    append-nil (map (rule_of n c) c.groups) ∙ ap (λ k. map (rule_of k c) c.groups) same
rules_push n (d ∷ cs) c =
    let count : (n + 1) + length cs ≡ n + length (d ∷ cs) = omega arith in
    ap (λ l. map (rule_of n d) d.groups ++ l) (rules_push (n + 1) cs c ∙ ap (λ k. rules_from (n + 1) cs ++ map (rule_of k c) c.groups) count)
    ∙ sym (append_assoc (map (rule_of n d) d.groups) (rules_from (n + 1) cs) (map (rule_of (n + length (d ∷ cs)) c) c.groups))

module _ (d : CalDesign) (n : ℕ) (c : CalComp) (at : slice_get d.comps.items n ≡ Some c) where
  abbrev source : Component
  source = component_tree d.names c

  tree_at : slice_get (design_of d) n ≡ Some source
  tree_at = slice_get-map (component_tree d.names) d.comps.items n ∙ ap (option_map (component_tree d.names)) at

  -- each of them can be lowered
  pub can_component : (names : List Text) → HasNumbers d → IsPlainDesign (design_of d) → KeepsTexts d.names names → CanLowerComponent d.names names c
  can_component names numbers plain kept = record {
    kept = kept;
    numbers = All-at (ComponentHasNumbers d.names) d.comps.items n c at numbers;
    no_invoke = none_in_section source.control (plain.no_invoke source (Contains-at (design_of d) n source tree_at));
  }

  -- one more of them
  pub comps_next : (old mid new : List Text) (done more : List CalComp) (made : CalComp) → KeepsTexts old mid → KeepsTexts mid new → more ≡ done ++ made ∷ []
      → ShowAll ComponentHasNumbers component_tree old (map lowered (take n (design_of d))) done → Shows ComponentHasNumbers component_tree mid (lowered source) made
      → ShowAll ComponentHasNumbers component_tree new (map lowered (take (n + 1) (design_of d))) more
  comps_next old mid new done more made first second is before here =
      let T : List Component → Type 0 = λ ys. ShowAll ComponentHasNumbers component_tree new ys more in
      let M : List CalComp → Type 0 = ShowAll ComponentHasNumbers component_tree new (map lowered (take n (design_of d)) ++ lowered source ∷ []) in
      let kept = show_all_kept ComponentHasNumbers component_tree mid new _ done second (show_all_kept ComponentHasNumbers component_tree old mid _ done first before) in
      let one = shows_kept ComponentHasNumbers component_tree mid new (lowered source) made second here in
      subst T (sym (map_next lowered (design_of d) n source tree_at)) (subst M (sym is) (show_push ComponentHasNumbers component_tree new _ done (lowered source) made kept one))

  -- and its rules
  pub rules_next : rules_from 0 (take (n + 1) (design_of d)) ≡ rules_from 0 (take n (design_of d)) ++ map (rule_of n source) source.groups
  rules_next =
      let before = take n (design_of d) in
      let within : n < length (design_of d) = slice_get_within (design_of d) n source tree_at in
      let count : 0 + length before ≡ n = omega (arith, length-take-le n (design_of d), within) in
      ap (rules_from 0) (one_more (design_of d) n source tree_at) ∙ rules_push 0 before source ∙ ap (λ k. rules_from 0 before ++ map (rule_of k source) source.groups) count

  pub few_next : All HasFewParts (take n (design_of d)) → HasFewParts source → All HasFewParts (take (n + 1) (design_of d))
  few_next before here = All-next HasFewParts (design_of d) n source tree_at before here

-- ---- the design

-- past the last component the whole is lowered
module _ (d made : CalDesign) (rules : List ActRule) (n : ℕ) (past : length (design_of d) ≤ n)
    (comps : ShowAll ComponentHasNumbers component_tree made.names (map lowered (take n (design_of d))) made.comps.items)
    (acts : ShowRules made.names (rules_from 0 (take n (design_of d))) rules) where
  pub all_lowered : All HasFewParts (take n (design_of d)) → IsLoweringOf (design_of d) (design_of made) (map (rule_tree made.names) rules)
  all_lowered few =
      let whole = take_all n (design_of d) past in
      let F : List Component → Type 0 = All HasFewParts in
      record {
        few = subst F whole few;
        design = comps.trees made.names (KeepsTexts-refl made.names) ∙ ap (map lowered) whole;
        acting = acts.trees made.names (KeepsTexts-refl made.names) ∙ ap (rules_from 0) whole;
      }
