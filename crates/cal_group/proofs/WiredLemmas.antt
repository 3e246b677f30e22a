-- Designs whose groups have become guarded wires keep the rules: C1 to C11 item by item, C12 read by read.
use Rattle.std.proofs.Common.{◌≡◌, ℕ, true, List, [], ◌++◌, take, Option, Some, None, refl, sym, ap, ◌∙◌, subst, inl, inr}
use Rattle.std.specs.Prelude.{All, Contains, flat_map, option_map, slice_get}
use Rattle.std.proofs.lemmas.List.Elements.{All-nil, All-append, Contains-append_cases}
use Rattle.std.proofs.lemmas.Option.{slice_get-map}
use Rattle.net_core.specs.Graph.{guard_ports, option_ports}
use Rattle.net_core.specs.Guard.{GuardTree}
use Rattle.cal_ast.proofs.ItemLemmas.{assignment_item, group_assignment_item, has_widths, new_cell, known_cell, has_parameters, names_known, widths_agree, drives_destination, reads_sources}
use Rattle.cal_ast.proofs.LineLemmas.{invoke_item, group_cases}
use Rattle.cal_ast.proofs.ListLemmas.{place_of, Contains-none, Contains-at, Contains-map, Contains-from_map, Contains-from_flat_map}
use Rattle.cal_ast.specs.Holes.{ActivityRule, with_guard, guarded_set, guarded_group, guarded, guarded_design, when_of, IsGuardOf, IsHoleDesign}
use Rattle.cal_ast.specs.Items.{Item, TheSignature, TheCell, TheAssignment, control_statements, items_of}
use Rattle.cal_ast.specs.Naming.{Unreserved, IsKnownPort, NamesKnown}
use Rattle.cal_ast.specs.Ports.{is_bare, is_bare_by}
use Rattle.cal_ast.specs.Rules.{Keeps, KeepsComponent, KeepsRules, HasNoLoops, all_rules}
use Rattle.cal_ast.specs.Sides.{IsSource, DrivesDestination, ReadsSources}
use Rattle.cal_ast.specs.Tree.{PortName, Assignment, GroupDef, Statement, Invoke, ControlSection, Absent, Empty, Body, Component, Design}
use Rattle.cal_ast.specs.Typing.{OptionAgrees, GuardAgrees, WidthsAgree}
use Rattle.cal_ast.specs.Wires.{IsGroupOf, IsAssignmentOf, HasNoLoop}
use Rattle.cal_group.proofs.EdgeLemmas.{KeepsReads, own_is_group, image_mapped, no_loop_before, no_loops_mapped, replaced_at}
use Rattle.cal_group.proofs.ItemCases.{ItemCase, IsSignature, IsCell, IsGroup, IsSetOf, IsDoneOf, IsSet, IsStatement, item_case, statement_case}
use Rattle.cal_group.proofs.KeptLemmas.{all_eleven, new_names_kept, widths_kept, new_cell_kept, known_cell_kept, names_known_kept, widths_agree_kept, drives_kept, reads_kept}
use Rattle.cal_group.proofs.MappedLemmas.{KeepsFaces}
use Rattle.cal_group.proofs.RemovedLemmas.{removed_bare, removed_faces}
use Rattle.cal_group.proofs.RuleOfLemmas.{has_rule, new_names}
use Rattle.cal_group.specs.inside.Laws.{RemovedIsWired}
use Rattle.cal_group.specs.inside.Removed.{ruled_sets, removed, removed_design}

-- a bare component has no control statement
no_statements : (control : ControlSection) (sets : List Assignment) → is_bare_by control sets ≡ true → control_statements control ≡ []
no_statements Absent sets is = refl
no_statements Empty sets is = refl
no_statements (Body s) sets is = absurd (cc)

-- ---- an assignment with a guard more

all_guarded : (P : PortName → Type 0) (when : GuardTree PortName) (o : Option (GuardTree PortName)) → All P (guard_ports when) → All P (option_ports o) → All P (option_ports (with_guard (Some when) o))
all_guarded P when None first later = first
all_guarded P when (Some g) first later = All-append P (guard_ports when) (guard_ports g ++ []) first (All-append P (guard_ports g) [] later (All-nil P))

agrees_guarded : (design : Design) (c : Component) (when : GuardTree PortName) (o : Option (GuardTree PortName)) → GuardAgrees design c when → OptionAgrees design c o → OptionAgrees design c (with_guard (Some when) o)
agrees_guarded design c when None first later = first
agrees_guarded design c when (Some g) first later = (first, (later, tt))

-- the rules at an assignment
pub record IsGoodSet (design : Design) (c : Component) (a : Assignment) : Type 0 where
  pub known : NamesKnown design c a
  pub widths : WidthsAgree design c a
  pub drives : DrivesDestination design c a
  pub reads : ReadsSources design c a

guarded_good : (design : Design) (c : Component) (when : GuardTree PortName) (a : Assignment) → IsGuardOf design c when → IsGoodSet design c a → IsGoodSet design c (guarded_set (Some when) a)
guarded_good design c when a guard good = record {
  known = record {
    dst = good.known.dst;
    guard = all_guarded (IsKnownPort design c) when a.guard guard.known good.known.guard;
    src = good.known.src;
  };
  widths = record {
    literal = good.widths.literal;
    sides = good.widths.sides;
    guard = agrees_guarded design c when a.guard guard.widths good.widths.guard;
  };
  drives = good.drives;
  reads = (all_guarded (IsSource design c) when a.guard guard.sources good.reads.0, good.reads.1);
}

module _ (design : Design) (rules : List ActivityRule) (hole : IsHoleDesign design rules) where
  module _ (n : ℕ) (c : Component) (at : slice_get design n ≡ Some c) where
    has : Contains design c
    has = Contains-at design n c at

    item_good : (a : Assignment) → Contains (items_of c) (TheAssignment a) → IsGoodSet design c a
    item_good a here = record {
      known = names_known Unreserved design hole.keeps n c at a here;
      widths = widths_agree Unreserved design hole.keeps n c at a here;
      drives = drives_destination Unreserved design hole.keeps n c at a here;
      reads = reads_sources Unreserved design hole.keeps n c at a here;
    }

    -- an assignment under its group's rule keeps the rules
    ruled_good : (g : GroupDef) → Contains c.groups g → (a : Assignment) → Contains (ruled_sets design rules c g) a → IsGoodSet design c a
    ruled_good g of_c a here =
        let rule = has_rule design rules hole c g has of_c in
        let b = Contains-from_map (guarded_set (when_of design rules c g.name)) g.sets a here in
        let good = guarded_good design c rule.when b.0 rule.guard (item_good b.0 (group_assignment_item c g b.0 of_c b.1)) in
        subst (IsGoodSet design c) (ap (λ (o : Option (GuardTree PortName)). guarded_set o b.0) (sym rule.is) ∙ b.2) good

    set_good : (a : Assignment) → Contains (removed design rules c).sets a → IsGoodSet design c a
    set_good a here = elim (Contains-append_cases c.sets (flat_map (ruled_sets design rules c) c.groups) a here) [
      | inl continuous ↦ item_good a (assignment_item c a continuous)
      | inr ruled ↦ (let g = Contains-from_flat_map (ruled_sets design rules c) c.groups a ruled in ruled_good g.0 g.1 a g.2)
    ]

    kept : (item : Item) → ItemCase (removed design rules c) item → All (Keeps Unreserved (removed_design design rules) (take n (removed_design design rules)) (removed design rules c) item) all_rules
    kept item IsSignature =
        let f = removed design rules in
        let face = removed_faces design rules hole in
        all_eleven (Keeps Unreserved (removed_design design rules) (take n (removed_design design rules)) (removed design rules c) TheSignature)
        (new_names_kept design f face c has n (new_names Unreserved design hole.keeps n c at)) tt tt
        (widths_kept design f face c has (has_widths Unreserved design hole.keeps n c at)) tt tt tt tt tt tt tt
    kept item (IsCell k cell there) =
        let f = removed design rules in
        let face = removed_faces design rules hole in
        all_eleven (Keeps Unreserved (removed_design design rules) (take n (removed_design design rules)) (removed design rules c) (TheCell (take k c.cells) cell))
        (new_cell_kept design f face c has (take k c.cells) cell (new_cell Unreserved design hole.keeps n c at k cell there))
        (known_cell_kept design f face c has cell (known_cell Unreserved design hole.keeps n c at k cell there))
        (has_parameters Unreserved design hole.keeps n c at k cell there) tt tt tt tt tt tt tt tt
    kept item (IsGroup k g there) = absurd (cc)
    kept item (IsSetOf g a of_c here) = absurd (Contains-none g of_c)
    kept item (IsDoneOf g k d of_c there) = absurd (Contains-none g of_c)
    kept item (IsSet a here) =
        let f = removed design rules in
        let face = removed_faces design rules hole in
        let good = set_good a here in
        all_eleven (Keeps Unreserved (removed_design design rules) (take n (removed_design design rules)) (removed design rules c) (TheAssignment a))
        tt (names_known_kept design f face c has a good.known) tt (widths_agree_kept design f face c has a good.widths)
        (drives_kept design f face c has a good.drives) (reads_kept design f face c has a good.reads) tt tt tt tt tt
    kept item (IsStatement s here) =
        let sets = (removed design rules c).sets in
        absurd (Contains-none s (subst (λ (ss : List Statement). Contains ss s) (no_statements c.control sets (removed_bare design rules hole c has)) here))

    kept_rules : KeepsComponent Unreserved (removed_design design rules) (take n (removed_design design rules)) (removed design rules c)
    kept_rules k item is = kept item (item_case (removed design rules c) item (Contains-at (items_of (removed design rules c)) k item is))

  -- ---- C12

  -- nothing but continuous assignments is left
  no_group : (c : Component) → Contains design c → (g : GroupDef) → IsGroupOf (removed_design design rules) (removed design rules c) g → ⊥
  no_group c has g is = elim (group_cases (removed_design design rules) (removed design rules c) g is) [
    | inl own ↦ Contains-none g own
    | inr (i, there, same) ↦ (
        let s : Statement = Invoke i.cell i.ins i.outs in
        let here = statement_case (removed design rules c) s (invoke_item (removed design rules c) i there) in
        Contains-none s (subst (λ (ss : List Statement). Contains ss s) (no_statements c.control (removed design rules c).sets (removed_bare design rules hole c has)) here))
  ]

  assigned : (c : Component) → Contains design c → (a : Assignment) → IsAssignmentOf (removed_design design rules) (removed design rules c) a → IsAssignmentOf (guarded_design design rules) (guarded design rules c) a
  assigned c has a (inr (g, is, here)) = absurd (no_group c has g is)
  assigned c has a (inl here) = elim (Contains-append_cases c.sets (flat_map (ruled_sets design rules c) c.groups) a here) [
    | inl continuous ↦ inl continuous
    | inr ruled ↦ (
        let g = Contains-from_flat_map (ruled_sets design rules c) c.groups a ruled in
        inr (
          guarded_group design rules c g.0,
          own_is_group (guarded_design design rules) (guarded design rules c) (guarded_group design rules c g.0) (Contains-map (guarded_group design rules c) c.groups g.0 g.1),
          g.2,
        ))
  ]

  keeps_reads : KeepsReads design (removed_design design rules) (guarded_design design rules) (removed design rules) (guarded design rules)
  keeps_reads = record {
    sets = λ c has port to r. record { a = r.a; is = assigned c has r.a r.is; drives = r.drives; reads = r.reads };
    dones = λ c has port to r. absurd (no_group c has r.g r.assigned.is);
    goes = λ c has port to r. absurd (no_group c has r.g r.assigned.is);
  }

  guarded_faces : KeepsFaces design (guarded design rules)
  guarded_faces = record {
    names = λ c. refl;
    ins = λ c. refl;
    outs = λ c. refl;
    cells = λ c. refl;
    bare = λ c has. refl;
  }

  clear : (c : Component) → Contains design c → HasNoLoop (guarded_design design rules) (guarded design rules c)
  clear c has =
      let at = place_of design c has in
      hole.no_loop at.0 (guarded design rules c) (slice_get-map (guarded design rules) design at.0 ∙ ap (option_map (guarded design rules)) at.1)

  no_loops : HasNoLoops (removed_design design rules)
  no_loops = no_loops_mapped design (removed design rules) (λ c has.
      no_loop_before design (removed_design design rules) (guarded_design design rules) (removed design rules) (guarded design rules)
      (image_mapped design (removed design rules) (removed_faces design rules hole)) (image_mapped design (guarded design rules) guarded_faces) keeps_reads c has (clear c has))

  keeps : KeepsRules (removed_design design rules)
  keeps n d at =
      let q = replaced_at design (removed design rules) n d at in
      subst (KeepsComponent Unreserved (removed_design design rules) (take n (removed_design design rules))) q.2 (kept_rules n q.0 q.1)

pub removed_is_wired : RemovedIsWired
removed_is_wired design rules hole = record {
  bare = λ d has. (let c = Contains-from_map (removed design rules) design d has in
      ap is_bare (sym c.2) ∙ removed_bare design rules hole c.0 c.1);
  no_groups = λ d has. (let c = Contains-from_map (removed design rules) design d has in
      ap (λ (x : Component). x.groups) (sym c.2));
  rules = record { keeps = keeps design rules hole; no_loop = no_loops design rules hole };
}
