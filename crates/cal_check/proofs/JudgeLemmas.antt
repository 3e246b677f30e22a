-- Components one after another: the first that breaks a rule.
use Rattle.std.proofs.Common.{◌≡◌, inl, inr, ℕ, zero, suc, ◌+◌, ◌<◌, ◌≤◌, List, [], ◌∷◌, length, take, slice_get, All, Some, refl, sym, ap, subst, ◌∙◌, arith}
use Rattle.std.proofs.lemmas.Bool.{cases_lt}
use Rattle.std.proofs.lemmas.List.{length-map}
use Rattle.std.proofs.lemmas.Option.{same_Some, slice_get_within}
use Rattle.hw_names.specs.Name.{text_of}
use Rattle.cal_ast.specs.Items.{Item}
use Rattle.cal_ast.specs.Naming.{Unreserved}
use Rattle.cal_ast.specs.Rules.{Rule, Keeps, KeepsComponent, KeepsItem, KeepsRules, IsFirstBroken, BreaksRule, HasLoop, all_rules}
use Rattle.cal_ast.specs.Tree.{Component, Design, component_tree, design_of}
use Rattle.cal_ast.specs.declared.tree.CalComp.{CalComp}
use Rattle.cal_ast.specs.declared.tree.CalDesign.{CalDesign}
use Rattle.cal_place.specs.Around.{Around, KeepsAt, comp_at, design_at, earlier_at}
use Rattle.cal_loops.specs.FirstLoop.{TellsFirstLoop}
use Rattle.cal_rules.specs.LeastRule.{place_of, rule_of}
use Rattle.cal_check.specs.inside.ComponentEnd.{ComponentIs}
use Rattle.cal_rules.specs.FirstItem.{IsFirstItem, TellsItem}
use Rattle.cal_check.specs.Refusals.{TellsRefusal}
use Rattle.cal_loops.specs.declared.first_loop.Looped.{Looped}
use Rattle.cal_check.specs.declared.refusal.CalEnd.{CalEnd}
use Rattle.cal_check.specs.declared.refusal.CalEnd.TheVariants.{Refused}
use Rattle.cal_rules.specs.declared.rule.CompEnd.{CompEnd}
use Rattle.cal_rules.specs.declared.rule.CompEnd.TheVariants.{Broken, Memory}
use Rattle.cal_rules.specs.declared.rule.Rule as code
use Rattle.cal_rules.specs.declared.rule.Rule.TheVariants as number
use Rattle.cal_place.proofs.FoundLemmas.{to_map}

-- the components so far keep the rules
abbrev pub KeepBefore : Design → ℕ → Type 0
KeepBefore design n = (m : ℕ) (c : Component) → m < n → slice_get design m ≡ Some c → KeepsComponent Unreserved design (take m design) c

pub keep_more : (design : Design) (n : ℕ) (c : Component) → slice_get design n ≡ Some c → KeepsComponent Unreserved design (take n design) c → KeepBefore design n → KeepBefore design (n + 1)
keep_more design n c at kept before m other less at_m =
    elim (cases_lt m n) [
      | inl earlier ↦ before m other earlier at_m
      | inr here ↦
          let same : n ≡ m = omega arith in
          let one : c ≡ other = same_Some c other (sym at ∙ ap (slice_get design) same ∙ at_m) in
          subst (λ (d : Component). KeepsComponent Unreserved design (take m design) d) one (subst (λ k. KeepsComponent Unreserved design (take k design) c) same kept)
    ]

pub all_keep : (design : Design) (n : ℕ) → length design ≤ n → KeepBefore design n → KeepsRules design
all_keep design n end before m c at = before m c (omega (arith, slice_get_within design m c at)) at

-- a rule has its place in the order
numbered : (rule : code.Rule) → slice_get all_rules (place_of rule) ≡ Some (rule_of rule)
numbered number.C1 = refl
numbered number.C2 = refl
numbered number.C3 = refl
numbered number.C4 = refl
numbered number.C5 = refl
numbered number.C6 = refl
numbered number.C7 = refl
numbered number.C8 = refl
numbered number.C9 = refl
numbered number.C10 = refl
numbered number.C11 = refl

-- what holds of the first rules holds of each of them
kept_at : {X : Type 0} (P : X → Type 0) (n : ℕ) (xs : List X) → All P (take n xs) → (k : ℕ) (x : X) → k < n → slice_get xs k ≡ Some x → P x
kept_at P zero xs all k x below at = absurd (omega arith)
kept_at P (suc n) [] all k x below at = absurd (cc)
kept_at P (suc n) (y ∷ ys) all zero x below at = subst P (same_Some y x at) (all 0 y (omega arith))
kept_at P (suc n) (y ∷ ys) all (suc k) x below at = kept_at P n ys (λ i d within. all (suc i) d (omega arith)) k x (omega arith) at

module _ (place : Around) (design : Design) (n : ℕ) (is_design : design_at place ≡ design) (is_number : place.number ≡ n) where
  -- a fact of the place's design and of the components before is one of the design's
  moved : (P : Design → Design → Type 0) → P (design_at place) (earlier_at place) → P design (take n design)
  moved P here =
      subst (λ k. P design (take k design)) is_number (subst (λ d. P d (take place.number d)) is_design here)

  pub component_kept : KeepsComponent Unreserved (design_at place) (earlier_at place) (comp_at place) → KeepsComponent Unreserved design (take n design) (comp_at place)
  component_kept kept = moved (λ d earlier. KeepsComponent Unreserved d earlier (comp_at place)) kept

  abbrev first_broken : (k : ℕ) (rule : code.Rule) → slice_get design n ≡ Some (comp_at place) → KeepBefore design n → IsFirstItem place k rule → IsFirstBroken design n k (place_of rule)
  first_broken k rule at before first =
      let P : Item → Rule → Design → Design → Type 0 = λ item r d earlier. Keeps Unreserved d earlier (comp_at place) item r in
      record {
        c = comp_at place;
        at = at;
        components = before;
        items = λ j less. moved (λ d earlier. KeepsItem Unreserved d earlier (comp_at place) j) (first.items j less);
        item = first.item;
        here = first.here;
        lesser = λ q lesser less at_q. moved (P first.item lesser) (kept_at (KeepsAt place first.item) (place_of rule) all_rules first.least.lesser q lesser less at_q);
        rule = rule_of rule;
        numbered = numbered rule;
        broken = moved (λ d earlier. ¬ Keeps Unreserved d earlier (comp_at place) first.item (rule_of rule)) first.least.broken;
      }

-- the end of a component tells the first broken rule of its design
pub component_ends : (d : CalDesign) (place : Around) (n : ℕ) (comp : CalComp) (end : CompEnd) (told : CalEnd) → design_at place ≡ design_of d → place.number ≡ n
    → slice_get (design_of d) n ≡ Some (comp_at place) → slice_get (design_of d) n ≡ Some (component_tree d.names comp)
    → KeepBefore (design_of d) n → TellsItem place end → ComponentIs comp.name end told → TellsRefusal d told
component_ends d place n comp (Broken k rule) told is_design is_number at at_comp before first is =
    let named : (comp_at place).name ≡ text_of d.names comp.name =
    ap (λ (c : Component). c.name) (same_Some (comp_at place) (component_tree d.names comp) (sym at ∙ at_comp)) in
    subst (TellsRefusal d) (sym is.1)
    (BreaksRule n (place_of rule) (first_broken place (design_of d) n is_design is_number k rule at before first) named is.2)
component_ends d place n comp Memory told is_design is_number at at_comp before first is = subst (TellsRefusal d) (sym is) tt

-- the first component that has a loop is told
pub looped : (d : CalDesign) (found : Looped) (comp : CalComp) → TellsFirstLoop (design_of d) (Some found) → slice_get d.comps.items found.number ≡ Some comp → TellsRefusal d (Refused 12 comp.name 0 found.ports)
looped d found comp told at =
    let loop = told.3 in
    let at_tree : slice_get (design_of d) found.number ≡ Some (component_tree d.names comp) = to_map (component_tree d.names) d.comps.items found.number comp at in
    let named : loop.c.name ≡ text_of d.names comp.name = ap (λ (c : Component). c.name) (same_Some loop.c (component_tree d.names comp) (sym loop.at ∙ at_tree)) in
    HasLoop found.number told.0 told.1 loop named refl told.2

pub looped_within : (d : CalDesign) (found : Looped) → TellsFirstLoop (design_of d) (Some found) → found.number < length d.comps.items
looped_within d found told = let loop = told.3 in omega (arith, slice_get_within (design_of d) found.number loop.c loop.at, length-map d.comps.items (component_tree d.names))
