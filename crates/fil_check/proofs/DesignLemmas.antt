-- The components of a design, judged one after another.
use Rattle.std.proofs.Common.{◌≡◌, ℕ, zero, suc, ◌+◌, ◌<◌, ◌≤◌, List, [], ◌∷◌, length, take, slice_get, Some, inl, inr, refl, sym, ap, subst, ◌∙◌, arith}
use Rattle.std.proofs.lemmas.Bool.{cases_lt}
use Rattle.std.proofs.lemmas.List.{length-take}
use Rattle.std.proofs.lemmas.Option.{same_Some, slice_get_within}
use Rattle.hw_names.specs.Name.{Text, text_of}
use Rattle.hw_names.specs.declared.names.NameId.{NameId}
use Rattle.fil_ast.specs.Evidence as shown
use Rattle.fil_ast.specs.Refusal.{IsRefusal, BreaksRule, HasLoop}
use Rattle.fil_ast.specs.Rules.{KeepsComponent, KeepsRules, IsFirstBroken, HasFirstLoop, all_rules}
use Rattle.fil_ast.specs.Tree.{Component, Design, component_tree, design_of}
use Rattle.fil_ast.specs.declared.tree.FilComp.{FilComp}
use Rattle.fil_ast.specs.declared.tree.FilDesign.{FilDesign}
use Rattle.fil_check.specs.First.{TellsFirst}
use Rattle.fil_check.specs.inside.FirstComponent.{ComponentIs, TellsComponent}
use Rattle.fil_rules.specs.FirstItem.{IsFirstItem, TellsItem}
use Rattle.fil_rules.specs.Least.{evidence_of}
use Rattle.fil_loops.specs.Wired.{IsFirstLoop}
use Rattle.fil_rules.specs.declared.rules.CompEnd.{CompEnd}
use Rattle.fil_rules.specs.declared.rules.CompEnd.TheVariants as component
use Rattle.fil_check.specs.declared.rules.FilEnd.{FilEnd}
use Rattle.fil_check.specs.declared.rules.FilEnd.TheVariants as design
use Rattle.fil_share.proofs.ListLemmas.{slice_get-take}

-- the components before one keep the rules
abbrev pub KeepBefore : Design → ℕ → Type 0
KeepBefore comps n = (m : ℕ) (c : Component) → m < n → slice_get comps m ≡ Some c → KeepsComponent all_rules (take m comps) c

pub keep_more : (comps : Design) (n : ℕ) (c : Component) → slice_get comps n ≡ Some c → KeepBefore comps n → KeepsComponent all_rules (take n comps) c → KeepBefore comps (n + 1)
keep_more comps n c at before keeps m d below there =
    elim (cases_lt m n) [
      | inl less ↦ before m d less there
      | inr past ↦
          (let same : n ≡ m = omega arith in
          let one : c ≡ d = same_Some c d (sym at ∙ ap (slice_get comps) same ∙ there) in
          subst (λ (k : ℕ). KeepsComponent all_rules (take k comps) d) same (subst (λ (e : Component). KeepsComponent all_rules (take n comps) e) one keeps))
    ]

take_fewer : {X : Type 0} (m n : ℕ) (xs : List X) → m ≤ n → take m (take n xs) ≡ take m xs
take_fewer zero n xs below = refl
take_fewer (suc m) zero xs below = absurd (omega arith)
take_fewer (suc m) (suc n) [] below = refl
take_fewer (suc m) (suc n) (x ∷ xs) below = ap (λ (ys : List _). x ∷ ys) (take_fewer m n xs (omega arith))

-- these components are a design that keeps the rules
pub kept_so_far : (comps : Design) (n : ℕ) → KeepBefore comps n → KeepsRules all_rules (take n comps)
kept_so_far comps n before m c there =
    let within : m < n = omega (arith, slice_get_within (take n comps) m c there, length-take n comps) in
    let P : Design → Type 0 = λ earlier. KeepsComponent all_rules earlier c in
    subst P (sym (take_fewer m n comps (omega arith))) (before m c within (slice_get-take n comps m c there))

pub all_keep : (comps : Design) (n : ℕ) → length comps ≤ n → KeepBefore comps n → KeepsRules all_rules comps
all_keep comps n end before m c there = let within = slice_get_within comps m c there in before m c (omega arith) there

refused : (d : FilDesign) (n : ℕ) (comp : FilComp) (number item : ℕ) (evidence : shown.Evidence) → slice_get (design_of d) n ≡ Some (component_tree d.names comp) → KeepBefore (design_of d) n
    → IsFirstItem (take n (design_of d)) (component_tree d.names comp) item number evidence → IsRefusal (design_of d) (text_of d.names comp.name) item evidence number
refused d n comp number item evidence at before first =
    let R : ℕ → Type 0 = IsRefusal (design_of d) (text_of d.names comp.name) item evidence in
    let broken : IsFirstBroken all_rules (design_of d) n item first.least.place = record {
      c = component_tree d.names comp;
      at = at;
      components = before;
      items = first.items;
      item = first.item;
      here = first.here;
      lesser = first.least.lesser;
      rule = first.least.rule;
      numbered = first.least.numbered;
      broken = first.least.broken;
    } in
    subst R first.least.counted (BreaksRule n first.least.place broken refl first.least.is_shown)

-- the end of a component, as its design's end
pub told_of : (comps : Design) (c : Component) (name : NameId) (end : CompEnd) (r : FilEnd) → TellsItem comps c end → ComponentIs name end r → TellsComponent comps c name r
told_of comps c name (component.Broken item broken) r first is = subst (TellsComponent comps c name) (sym is) (refl, first)
told_of comps c name component.Memory r first is = subst (TellsComponent comps c name) (sym is) tt

-- what the end of a component tells of its design
pub component_ends : (d : FilDesign) (n : ℕ) (comp : FilComp) (r : FilEnd) → slice_get (design_of d) n ≡ Some (component_tree d.names comp) → KeepBefore (design_of d) n
    → TellsComponent (take n (design_of d)) (component_tree d.names comp) comp.name r → TellsFirst d r
component_ends d n comp (design.Refused rule name item evidence) at before told =
    let R : NameId → Type 0 = λ named. IsRefusal (design_of d) (text_of d.names named) item (evidence_of evidence) rule in
    subst R (sym told.0) (refused d n comp rule item (evidence_of evidence) at before told.1)
component_ends d n comp design.Memory at before told = tt

-- where all components keep the rules, the first loop is what is refused
pub looped : (comps : Design) (name : Text) (ports : List Text) → KeepsRules all_rules comps → IsFirstLoop comps name ports → IsRefusal comps name 0 (shown.ALoop ports) 14
looped comps name ports keeps is =
    let first : HasFirstLoop comps is.number is.first is.others = record {
      others_keep = keeps;
      c = is.c;
      at = is.at;
      components = is.components;
      loop = is.loop;
    } in
    HasLoop is.number is.first is.others first is.named refl (ap shown.ALoop is.are)
