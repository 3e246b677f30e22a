-- An extended design is one without control whose groups act where their rules are true: each rule is of a group, and its guard reads a wire of the group.
use Rattle.std.proofs.Common.{◌≡◌, ◌+◌, List, [], ◌∷◌, map, length, true, refl, sym, ap, subst, ◌∙◌, false, inl, inr, arith}
use Rattle.std.specs.Prelude.{All, Contains, slice_get}
use Rattle.std.proofs.lemmas.Bool.{cases_Bool, cond-true, cond-false}
use Rattle.std.proofs.lemmas.List.Elements.{All-nil, All-cons, All-contains}
use Rattle.net_core.specs.Guard.{GuardTree}
use Rattle.cal_ast.proofs.ListLemmas.{place_of, Contains-here, Contains-there, Contains-at, Contains-from_map}
use Rattle.cal_ast.specs.Holes.{ActivityRule, IsGuardOf, IsRuleIn, IsHoleDesign, guarded_design, rules_of}
use Rattle.cal_ast.specs.NoInvoke.{IsPlainDesign}
use Rattle.cal_ast.specs.Plain.{HasPlainTree}
use Rattle.cal_ast.specs.Ports.{is_bare}
use Rattle.cal_ast.specs.Rules.{HasNoLoops}
use Rattle.cal_ast.specs.Tree.{PortName, GroupDef, Component, Design}
use Rattle.cal_lower.specs.inside.Added.{Additions, extended}
use Rattle.cal_lower.specs.inside.Laws.{LoweringsAreHoles}
use Rattle.cal_lower.specs.inside.Lowered.{lowered, rules_from, HasFewParts}
use Rattle.cal_lower.specs.inside.Pieces.{acts_name, is_set, never}
use Rattle.cal_lower.proofs.CountLemmas.{one_rule}
use Rattle.cal_lower.proofs.ExtendedLemmas.{AreOfPrimitives, AreNamed, answer, extended_is_bare, extended_groups}
use Rattle.cal_lower.proofs.GoodLemmas.{guard_from_bits}
use Rattle.cal_lower.proofs.LoopLemmas.{no_loops}
use Rattle.cal_lower.proofs.LoweredLemmas.{tokens, tokens_made}
use Rattle.cal_lower.proofs.RuleLemmas.{from_rules, extended_at, guard_for}
use Rattle.cal_lower.proofs.RulesKeptLemmas.{AgreesWithRules, rules_kept}
use Rattle.cal_lower.proofs.TokenGoodLemmas.{tokens_agree}
use Rattle.cal_lower.proofs.TokenLemmas.{tokens_named}

all_from : {X : Type 0} (P : X → Type 0) (xs : List X) → ((x : X) → Contains xs x → P x) → All P xs
all_from P [] f = All-nil P
all_from P (x ∷ xs) f = All-cons P x xs (f x (Contains-here x xs)) (all_from P xs (λ y has. f y (Contains-there x xs y has)))

module _ (add : Additions) (primitive : AreOfPrimitives add) (source : Design) (tree : HasPlainTree source) (plain : IsPlainDesign source)
    (named : (c : Component) → Contains source c → is_bare c ≡ false → AreNamed add c) (agrees : (c : Component) → Contains source c → is_bare c ≡ false → AgreesWithRules add source c) where
  abbrev low : Design
  low = answer add source

  all_bare : (d : Component) → Contains low d → is_bare d ≡ true
  all_bare d has =
      let c = Contains-from_map (extended add) source d has in
      sym (ap is_bare c.2) ∙ extended_is_bare add c.0

  one_each : (d : Component) (g : GroupDef) → Contains low d → Contains d.groups g → length (rules_of low (rules_from 0 source) d g.name) ≡ 1
  one_each d g has of =
      let c = Contains-from_map (extended add) source d has in
      let k = place_of source c.0 c.1 in
      let there : Contains c.0.groups g = subst (λ (gs : List GroupDef). Contains gs g) (extended_groups add c.0) (subst (λ (x : Component). Contains x.groups g) (sym c.2) of) in
      subst (λ (x : Component). length (rules_of low (rules_from 0 source) x g.name) ≡ 1) c.2 (one_rule add source tree plain k.0 c.0 g k.1 there)

  -- the guard of a rule reads nothing, or the wire of its group
  guard_is : (c : Component) → Contains source c → (g : GroupDef) → Contains c.groups g → IsGuardOf low (extended add c) (guard_for c g.name)
  guard_is c in_design g of =
      let G : GuardTree PortName → Type 0 = λ x. IsGuardOf low (extended add c) x in
      elim (cases_Bool (is_bare c)) [
        | inl bare ↦ subst G (sym (cond-true (is_bare c) never (is_set (acts_name g.name)) bare))
            (guard_from_bits low (extended add c) never (refl, omega arith))
        | inr full ↦ subst G (sym (cond-false (is_bare c) never (is_set (acts_name g.name)) full))
            (guard_from_bits low (extended add c) (is_set (acts_name g.name)) ((agrees c in_design full).acts g of))
      ]

  rule_in : (rule : ActivityRule) → Contains (rules_from 0 source) rule → IsRuleIn low rule
  rule_in rule has =
      let r = from_rules 0 source rule has in
      let number : 0 + r.place ≡ r.place = omega arith in
      let comp : rule.comp ≡ r.place = ap (λ (x : ActivityRule). x.comp) r.is ∙ number in
      let G : GuardTree PortName → Type 0 = λ x. IsGuardOf low (extended add r.c) x in
      record {
        c = extended add r.c;
        at = ap (slice_get low) comp ∙ extended_at add source plain r.place r.c r.at;
        g = r.g;
        has = subst (λ (gs : List GroupDef). Contains gs r.g) (sym (extended_groups add r.c)) r.has;
        named = ap (λ (x : ActivityRule). x.group) r.is;
        guard = subst G (sym (ap (λ (x : ActivityRule). x.when) r.is)) (guard_is r.c (Contains-at source r.place r.c r.at) r.g r.has);
      }

  -- all but C12
  pub hole_design : HasNoLoops (guarded_design low (rules_from 0 source)) → IsHoleDesign low (rules_from 0 source)
  hole_design no_loop = record {
    bare = all_bare;
    keeps = rules_kept add primitive source tree plain named agrees;
    one_each = one_each;
    no_other = all_from (IsRuleIn low) (rules_from 0 source) rule_in;
    no_loop = no_loop;
  }

-- ---- the lowering to registers of one bit

pub lowerings_are_holes : LoweringsAreHoles
lowerings_are_holes source answer rules tree plain is =
    let D : Design → Type 0 = λ design. IsHoleDesign design rules in
    let R : List ActivityRule → Type 0 = λ xs. IsHoleDesign (map lowered source) xs in
    let few = λ (c : Component) (has : Contains source c). All-contains HasFewParts source c is.few has in
    subst D (sym is.design) (subst R (sym is.acting)
    (hole_design tokens tokens_made source tree plain (λ c has full. tokens_named source tree plain c has (few c has)) (λ c has full. tokens_agree source tree plain c has full (few c has))
    (no_loops source tree plain is.few)))
