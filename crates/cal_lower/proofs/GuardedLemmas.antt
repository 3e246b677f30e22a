-- Extended designs where the rules of groups count as guards: their groups are those of the source under the rules, whatever is added, and what their cells are
-- made of comes from the source.
use Rattle.std.proofs.Common.{◌≡◌, List, map, Option, Some, refl, sym, ap, subst, inl, inr, ◌∙◌}
use Rattle.std.specs.Prelude.{Contains, option_map}
use Rattle.hw_names.specs.Name.{Text}
use Rattle.net_core.specs.Guard.{GuardTree}
use Rattle.cal_ast.proofs.LineLemmas.{group_cases, invoke_item}
use Rattle.cal_ast.proofs.ListLemmas.{place_of, Contains-none, Contains-from_map, Contains-map}
use Rattle.cal_ast.proofs.SideLemmas.{some_found}
use Rattle.cal_ast.specs.Holes.{ActivityRule, guarded_set, guarded_group, guarded, guarded_design, when_of}
use Rattle.cal_ast.specs.Invoking.{InvokeDef, invokes_in}
use Rattle.cal_ast.specs.Items.{control_statements}
use Rattle.cal_ast.specs.NoInvoke.{IsPlainDesign}
use Rattle.cal_ast.specs.Ports.{part_in}
use Rattle.cal_ast.specs.Tree.{PortName, Assignment, GroupDef, Statement, Invoke, ControlSection, Component, Design}
use Rattle.cal_ast.specs.Wires.{IsGroupOf, IsAssignedIn}
use Rattle.cal_group.proofs.EdgeLemmas.{own_is_group}
use Rattle.cal_group.proofs.ItemCases.{statement_case}
use Rattle.cal_group.proofs.MappedLemmas.{KeepsFaces, part_in-mapped}
use Rattle.cal_lower.specs.inside.Added.{Additions, extended}
use Rattle.cal_lower.specs.inside.Lowered.{rules_from}
use Rattle.cal_lower.proofs.ExtendedLemmas.{AreOfPrimitives, answer, extended_absent, extended_groups, part_kept}
use Rattle.cal_lower.proofs.RuleLemmas.{when_extended}

abbrev pub whole : Additions → Design → Design
whole add source = guarded_design (answer add source) (rules_from 0 source)

abbrev pub built : Additions → Design → Component → Component
built add source c = guarded (answer add source) (rules_from 0 source) (extended add c)

-- ---- the component that a cell is made of

module _ (add : Additions) (primitive : AreOfPrimitives add) (source : Design) where
  abbrev low : Design
  low = answer add source

  abbrev rules : List ActivityRule
  rules = rules_from 0 source

  faces : KeepsFaces low (guarded low rules)
  faces = record { names = λ c. refl; ins = λ c. refl; outs = λ c. refl; cells = λ c. refl; bare = λ c has. refl }

  pub part_before : (c : Component) (cell : Text) (part : Component) → part_in (whole add source) (built add source c) cell ≡ Some part
      → (b : Component) × (part_in source c cell ≡ Some b) × (built add source b ≡ part)
  part_before c cell part made =
      let x = some_found (guarded low rules) (part_in low (extended add c) cell) part (sym (part_in-mapped low (guarded low rules) faces (extended add c) cell) ∙ made) in
      let b = some_found (extended add) (part_in source c cell) x.0 (sym (part_kept add primitive source c cell) ∙ x.1) in
      (b.0, b.1, ap (λ (d : Component). guarded low rules d) b.2 ∙ x.2)

  pub part_after : (c : Component) (cell : Text) (b : Component) → part_in source c cell ≡ Some b
      → part_in (whole add source) (built add source c) cell ≡ Some (built add source b)
  part_after c cell b made =
      part_in-mapped low (guarded low rules) faces (extended add c) cell
      ∙ ap (option_map (guarded low rules)) (part_kept add primitive source c cell ∙ ap (option_map (extended add)) made)

-- ---- groups

module _ (add : Additions) (source : Design) where
  abbrev its_rule : Component → Text → Option (GuardTree PortName)
  its_rule c name = when_of (answer add source) (rules_from 0 source) (extended add c) name

  abbrev pub under_rule : Component → GroupDef → GroupDef
  under_rule c h = guarded_group (answer add source) (rules_from 0 source) (extended add c) h

  no_invoke : (c : Component) (i : InvokeDef) → Contains (invokes_in (built add source c)) i → ⊥
  no_invoke c i there =
      let s : Statement = Invoke i.cell i.ins i.outs in
      let has : Contains (control_statements (extended add c).control) s = statement_case (built add source c) s (invoke_item (built add source c) i there) in
      Contains-none s (subst (λ (x : ControlSection). Contains (control_statements x) s) (extended_absent add c) has)

  -- the group in the source
  abbrev pub Origin : Component → GroupDef → Type 0
  Origin c g = (h : GroupDef) × Contains c.groups h × (under_rule c h ≡ g)

  pub origin : (c : Component) (g : GroupDef) → IsGroupOf (whole add source) (built add source c) g → Origin c g
  origin c g is = elim (group_cases (whole add source) (built add source c) g is) [
    | inl there ↦
        let r = Contains-from_map (under_rule c) (extended add c).groups g there in
        (r.0, subst (λ (gs : List GroupDef). Contains gs r.0) (extended_groups add c) r.1, r.2)
    | inr (i, there, same) ↦ absurd (no_invoke c i there)
  ]

  pub ruled_group : (c : Component) (h : GroupDef) → Contains c.groups h → IsGroupOf (whole add source) (built add source c) (under_rule c h)
  ruled_group c h of =
      own_is_group (whole add source) (built add source c) (under_rule c h)
      (Contains-map (under_rule c) (extended add c).groups h (subst (λ (gs : List GroupDef). Contains gs h) (sym (extended_groups add c)) of))

  -- an assignment in a group, without the rule
  abbrev pub Unruled : Component → GroupDef → Assignment → Type 0
  Unruled c h a = (b : Assignment) × Contains h.sets b × (guarded_set (its_rule c h.name) b ≡ a)

  pub unruled : (c : Component) (g : GroupDef) (r : Origin c g) (a : Assignment) → Contains g.sets a → Unruled c r.0 a
  unruled c g r a has =
      Contains-from_map (guarded_set (its_rule c r.0.name)) r.0.sets a (subst (λ (x : GroupDef). Contains x.sets a) (sym r.2) has)

  pub assigned_before : (c : Component) (g : GroupDef) (r : Origin c g) (p : PortName) → IsAssignedIn (whole add source) (built add source c) g p → IsAssignedIn source c r.0 p
  assigned_before c g r p assigned =
      let b = unruled c g r assigned.a assigned.has in
      record {
        is = own_is_group source c r.0 r.1;
        a = b.0;
        has = b.1;
        drives = ap (λ (x : Assignment). x.dst) b.2 ∙ assigned.drives;
      }

-- groups are the same whatever is added
module _ (source : Design) (plain : IsPlainDesign source) (add other : Additions) (c : Component) (in_design : Contains source c) where
  pub same_group_in : (g : GroupDef) → IsGroupOf (whole add source) (built add source c) g → IsGroupOf (whole other source) (built other source c) g
  same_group_in g is =
      let k = place_of source c in_design in
      let h = origin add source c g is in
      let rule = when_extended add source plain k.0 c h.0 k.1 h.1 ∙ sym (when_extended other source plain k.0 c h.0 k.1 h.1) in
      let same : under_rule other source c h.0 ≡ g =
      sym (ap (λ (when : Option (GuardTree PortName)). record h.0 { sets = map (guarded_set when) h.0.sets }) rule) ∙ h.2 in
      subst (λ (x : GroupDef). IsGroupOf (whole other source) (built other source c) x) same (ruled_group other source c h.0 h.1)

  pub same_assigned : (g : GroupDef) (p : PortName) → IsAssignedIn (whole add source) (built add source c) g p → IsAssignedIn (whole other source) (built other source c) g p
  same_assigned g p assigned = record { is = same_group_in g assigned.is; a = assigned.a; has = assigned.has; drives = assigned.drives }
