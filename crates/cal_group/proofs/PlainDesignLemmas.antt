-- Designs with groups for their invokes keep C1 to C12, but that these groups have names that lowering makes.
use Rattle.std.proofs.Common.{◌≡◌, ℕ, zero, suc, ◌<◌, Bool, true, false, List, [], ◌∷◌, ◌++◌, map, take, Option, Some, None, refl, sym, ap, ◌∙◌, subst, inl, inr, arith}
use Rattle.std.specs.Prelude.{All, Contains, IfSome, bytes_eq, codes, if◌then◌else◌, is_some, slice_get}
use Rattle.std.proofs.lemmas.List.Elements.{All-nil, All-cons, All-contains, Contains-append_right, Contains-append_cases}
use Rattle.std.proofs.lemmas.Option.{same_Some, slice_get_within}
use Rattle.std.proofs.lemmas.Slice.Eq.{bytes_eq-Decides}
use Rattle.hw_names.specs.Name.{Text}
use Rattle.net_core.specs.declared.net.Src.TheVariants.{Lit}
use Rattle.net_core.specs.Graph.{source_ports}
use Rattle.cal_ast.proofs.ItemLemmas.{assignment_item, group_assignment_item, done_item, has_widths, new_cell, known_cell, has_parameters, names_known, widths_agree, drives_destination, reads_sources, statement_names_known, statement_drives, statement_reads, can_invoke}
use Rattle.cal_ast.proofs.LineLemmas.{invoke_item, group_cases}
use Rattle.cal_ast.proofs.ListLemmas.{place_of, Contains-none, Contains-here, Contains-there, Contains-cases_first, Contains-at, Contains-map, Contains-from_map}
use Rattle.cal_ast.proofs.SideLemmas.{some_found}
use Rattle.cal_ast.specs.Actors.{ActorGroup, own_group, invoked_group, actor_groups}
use Rattle.cal_ast.specs.Controlling.{BindsInput, BindsOutput, CanInvoke, IsCondition, HasDone, IsOnlyDone, MayHaveDone, group_named}
use Rattle.cal_ast.specs.Invoking.{InvokeDef, invokes_in, invoke_group, invoke_sets, invoke_done, gives_input, starts_cell, takes_output, go_of}
use Rattle.cal_ast.specs.Items.{Item, TheSignature, TheCell, TheGroup, TheAssignment, TheDone, TheStatement, control_statements, items_of, IsItem}
use Rattle.cal_ast.specs.Naming.{Unreserved, AnyName, BindsKnownIn, BindsKnownOut, IsKnownPort, DoneNamesKnown, InvokeNamesKnown, group_names}
use Rattle.cal_ast.specs.NoInvoke.{IsNoInvoke}
use Rattle.cal_ast.specs.Ports.{Side, Input, Output, SidedPin, is_bare, is_bare_by, port_in, side_in}
use Rattle.cal_ast.specs.Rules.{Rule, C1, Keeps, KeepsComponent, KeepsRulesUnder, HasNoLoops, CalRules, all_rules}
use Rattle.cal_ast.specs.Sides.{IsDestination, IsSource, DoneReadsSources}
use Rattle.cal_ast.specs.Tree.{PortName, own, port_of, Assignment, DoneLine, GroupDef, InBinding, OutBinding, Statement, Enable, Seq, Par, If, While, Invoke, ControlSection, Absent, Empty, Body, Component, Design}
use Rattle.cal_ast.specs.Typing.{InAgrees, OutAgrees, StatementAgrees, DoneAgrees}
use Rattle.cal_ast.specs.Wires.{IsGroupOf, IsAssignmentOf, ReadsByDone, ReadsByGo, done_ports}
use Rattle.cal_group.proofs.EdgeLemmas.{KeepsReads, own_is_group, image_mapped, image_itself, no_loop_before, no_loops_mapped, replaced_at}
use Rattle.cal_group.proofs.ExpandedLemmas.{expanded_faces, free_names, none_left, no_invokes}
use Rattle.cal_group.proofs.GroupLemmas.{named_group, named-none, named-right, named-first, from_invoke}
use Rattle.cal_group.proofs.InvokeNames.{invoke_reserved, invoke_once}
use Rattle.cal_group.proofs.ItemCases.{ItemCase, IsSignature, IsCell, IsGroup, IsSetOf, IsDoneOf, IsSet, IsStatement, item_case, header_item, statement_case}
use Rattle.cal_group.proofs.KeptLemmas.{all_eleven, new_names_kept, widths_kept, new_cell_kept, known_cell_kept, names_known_kept, widths_agree_kept, drives_kept, reads_kept, done_known_kept, done_agrees_kept, done_reads_kept, only_done_kept}
use Rattle.cal_group.proofs.MappedLemmas.{KeepsFaces, known_after, source_after, source_before, width_same}
use Rattle.cal_group.proofs.RuleOfLemmas.{at_item, new_names, Contains-before}
use Rattle.cal_group.proofs.StandingLemmas.{Origin, SameEnable, FromInvoke, SameSeq, SamePar, SameIf, SameWhile, origin, get-cases, get-take, invoke_at_item, items_rise}
use Rattle.cal_group.proofs.WiredLemmas.{IsGoodSet}
use Rattle.cal_group.specs.inside.Expanded.{invoke_name, invoke_groups, expanded, expanded_design}
use Rattle.cal_group.specs.inside.Laws.{ExpandedIsPlain}

-- a component with a control statement isn't bare
has_control : (control : ControlSection) (sets : List Assignment) (s : Statement) → Contains (control_statements control) s → is_bare_by control sets ≡ false
has_control Absent sets s has = absurd (Contains-none s has)
has_control Empty sets s has = absurd (Contains-none s has)
has_control (Body t) sets s has = refl

-- a group that has the name is found, or another before it
found_some : (groups : List GroupDef) (name : Text) (g : GroupDef) → Contains groups g → g.name ≡ name → (h : GroupDef) × (group_named groups name ≡ Some h) × Contains groups h
found_some [] name g has named = absurd (Contains-none g has)
found_some (x ∷ groups) name g has named = by (bytes_eq x.name name) refl (found_some groups name g)
  where
    by : (b : Bool) → bytes_eq x.name name ≡ b → (Contains groups g → g.name ≡ name → (h : GroupDef) × (group_named groups name ≡ Some h) × Contains groups h)
        → (h : GroupDef) × ((if b then Some x else group_named groups name) ≡ Some h) × Contains (x ∷ groups) h
    by true is later = (x, refl, Contains-here x groups)
    by false is later = elim (Contains-cases_first x groups g has) [
      | inl same ↦ (let yes' = (bytes_eq-Decides x.name name).1 (ap (λ (y : GroupDef). y.name) same ∙ named) in absurd (cc))
      | inr there ↦ (let r = later there named in (r.0, r.1, Contains-there x groups r.0 r.2))
    ]

-- a port with a side is known
known_side : (design : Design) (c : Component) (p : PortName) (side : Side) → side_in design c p ≡ Some side → IsKnownPort design c p
known_side design c p side is = ap is_some (some_found (λ (q : SidedPin). q.side) (port_in design c p) side is).1

-- the rules at a done line, after these
record IsGoodDone (design : Design) (c : Component) (g : GroupDef) (before : List DoneLine) (d : DoneLine) : Type 0 where
  known : DoneNamesKnown design c g d
  widths : DoneAgrees design c d
  reads : DoneReadsSources design c d
  only : IsOnlyDone design c g before d
  may : MayHaveDone g

module _ (design : Design) (keeps : KeepsRulesUnder Unreserved design) (n : ℕ) (c : Component) (at : slice_get design n ≡ Some c) where
  -- ---- the group of an invoke

  module _ (i : InvokeDef) (has : Contains (invokes_in c) i) where
    item : Contains (items_of c) (TheStatement (Invoke i.cell i.ins i.outs))
    item = invoke_item c i has

    invoked_control : is_bare c ≡ false
    invoked_control = has_control c.control c.sets (Invoke i.cell i.ins i.outs) (statement_case c (Invoke i.cell i.ins i.outs) item)

    can : CanInvoke design c i.cell i.ins i.outs
    can = can_invoke Unreserved design keeps n c at (Invoke i.cell i.ins i.outs) item

    known : InvokeNamesKnown design c i.cell i.ins i.outs
    known = (statement_names_known Unreserved design keeps n c at (Invoke i.cell i.ins i.outs) item).invoke

    agree : StatementAgrees design c (Invoke i.cell i.ins i.outs)
    agree = at_item Unreserved design keeps n c at (TheStatement (Invoke i.cell i.ins i.outs)) item 3 C1 (omega arith)

    gives_good : (b : InBinding) → Contains i.ins b → IsGoodSet design c (gives_input i.cell b)
    gives_good b there =
        let names = All-contains (BindsKnownIn design c i.cell) i.ins b known.inputs there in
        let widths = All-contains (InAgrees design c i.cell) i.ins b agree.0 there in
        record {
          known = record { dst = names.0; guard = All-nil (IsKnownPort design c); src = names.1 };
          widths = record { literal = widths.0; sides = widths.1; guard = tt };
          drives = record { side = (All-contains (BindsInput design c i.cell can.go) i.ins b can.inputs there).0; not_done = λ control. refl };
          reads = (
            All-nil (IsSource design c),
            All-contains (λ (x : InBinding). All (IsSource design c) (source_ports x.src)) i.ins b (statement_reads Unreserved design keeps n c at (Invoke i.cell i.ins i.outs) item).invoke there,
          );
        }

    starts_good : (a : Assignment) → Contains (starts_cell i.cell (go_of design c i.cell)) a → IsGoodSet design c a
    starts_good a there =
        let first : Contains (starts_cell i.cell (Some can.go)) a = subst (λ (go : Option Text). Contains (starts_cell i.cell go) a) can.starts there in
        let start : Assignment = record { dst = port_of i.cell can.go; guard = None; src = Lit 1 1 } in
        let good : IsGoodSet design c start = record {
          known = record { dst = known_side design c (port_of i.cell can.go) Input can.go_side; guard = All-nil (IsKnownPort design c); src = All-nil (IsKnownPort design c) };
          widths = record { literal = ((omega arith, omega arith), omega arith); sides = can.go_bit; guard = tt };
          drives = record { side = can.go_side; not_done = λ control. refl };
          reads = (All-nil (IsSource design c), All-nil (IsSource design c));
        } in
        elim (Contains-cases_first start [] a first) [ inl same ↦ subst (IsGoodSet design c) same good | inr none ↦ absurd (Contains-none a none) ]

    takes_good : (b : OutBinding) → Contains i.outs b → IsGoodSet design c (takes_output i.cell b)
    takes_good b there =
        let names = All-contains (BindsKnownOut design c i.cell) i.outs b known.outputs there in
        let port = port_of i.cell b.pin in
        record {
          known = record { dst = names.1; guard = All-nil (IsKnownPort design c); src = All-cons (IsKnownPort design c) port [] names.0 (All-nil (IsKnownPort design c)) };
          widths = record { literal = tt; sides = sym (All-contains (OutAgrees design c i.cell) i.outs b agree.1 there); guard = tt };
          drives = All-contains (λ (x : OutBinding). IsDestination design c x.dst) i.outs b (statement_drives Unreserved design keeps n c at (Invoke i.cell i.ins i.outs) item) there;
          reads = (All-nil (IsSource design c), All-cons (IsSource design c) port [] (All-contains (BindsOutput design c i.cell) i.outs b can.outputs there) (All-nil (IsSource design c)));
        }

    invoke_good : (a : Assignment) → Contains (invoke_sets design c i) a → IsGoodSet design c a
    invoke_good a there =
        let ins = map (gives_input i.cell) i.ins in
        let go = starts_cell i.cell (go_of design c i.cell) in
        elim (Contains-append_cases (ins ++ go) (map (takes_output i.cell) i.outs) a there) [
          | inr out ↦ (let b = Contains-from_map (takes_output i.cell) i.outs a out in subst (IsGoodSet design c) b.2 (takes_good b.0 b.1))
          | inl first ↦ elim (Contains-append_cases ins go a first) [
            | inl given ↦ (let b = Contains-from_map (gives_input i.cell) i.ins a given in subst (IsGoodSet design c) b.2 (gives_good b.0 b.1))
            | inr start ↦ starts_good a start
          ]
        ]

    -- its one done line
    first_done_good : IsGoodDone design c (named_group design c i) [] (invoke_done (invoke_name i.item) i.cell)
    first_done_good =
        let port = port_of i.cell (codes "done") in
        record {
          known = record {
            group = refl;
            guard = All-nil (IsKnownPort design c);
            src = All-cons (IsKnownPort design c) port [] (known_side design c port Output can.done_side) (All-nil (IsKnownPort design c));
          };
          widths = record { literal = tt; guard = tt };
          reads = (All-nil (IsSource design c), All-cons (IsSource design c) port [] can.done_side (All-nil (IsSource design c)));
          only = λ acts. (refl, can.done_bit);
          may = refl;
        }

    invoke_done_good : (k : ℕ) (d : DoneLine) → slice_get (named_group design c i).dones k ≡ Some d → IsGoodDone design c (named_group design c i) (take k (named_group design c i).dones) d
    invoke_done_good zero d there = subst (λ (x : DoneLine). IsGoodDone design c (named_group design c i) [] x) (same_Some (invoke_done (invoke_name i.item) i.cell) d there) first_done_good
    invoke_done_good (suc k) d there = absurd (cc)

  -- ---- its own lines

  item_good : (a : Assignment) → Contains (items_of c) (TheAssignment a) → IsGoodSet design c a
  item_good a here = record {
    known = names_known Unreserved design keeps n c at a here;
    widths = widths_agree Unreserved design keeps n c at a here;
    drives = drives_destination Unreserved design keeps n c at a here;
    reads = reads_sources Unreserved design keeps n c at a here;
  }

  group_good : (g : GroupDef) (a : Assignment) → Contains (c.groups ++ invoke_groups design c) g → Contains g.sets a → IsGoodSet design c a
  group_good g a has there = elim (Contains-append_cases c.groups (invoke_groups design c) g has) [
    | inl of_c ↦ item_good a (group_assignment_item c g a of_c there)
    | inr made ↦ (let i = from_invoke design c g made in
        invoke_good i.0 i.1 a (subst (λ (x : GroupDef). Contains x.sets a) (sym i.2) there))
  ]

  done_good : (g : GroupDef) (k : ℕ) (d : DoneLine) → Contains (c.groups ++ invoke_groups design c) g → slice_get g.dones k ≡ Some d → IsGoodDone design c g (take k g.dones) d
  done_good g k d has there = elim (Contains-append_cases c.groups (invoke_groups design c) g has) [
    | inl of_c ↦ (
        let rules = at_item Unreserved design keeps n c at (TheDone g (take k g.dones) d) (done_item c g k d of_c there) in
        record {
          known = rules 1 C1 (omega arith);
          widths = rules 3 C1 (omega arith);
          reads = rules 5 C1 (omega arith);
          only = rules 6 C1 (omega arith);
          may = rules 7 C1 (omega arith);
        })
    | inr made ↦ (let i = from_invoke design c g made in
        subst (λ (x : GroupDef). IsGoodDone design c x (take k x.dones) d) i.2
        (invoke_done_good i.0 i.1 k d (subst (λ (x : GroupDef). slice_get x.dones k ≡ Some d) (sym i.2) there)))
  ]

  -- ---- headers

  has_done : (g : GroupDef) (k : ℕ) → slice_get (c.groups ++ invoke_groups design c) k ≡ Some g → HasDone g
  has_done g k there = elim (Contains-append_cases c.groups (invoke_groups design c) g (Contains-at (c.groups ++ invoke_groups design c) k g there)) [
    | inl of_c ↦ (let q = place_of c.groups g of_c in
        at_item Unreserved design keeps n c at (TheGroup (take q.0 c.groups) g) (header_item c q.0 g q.1) 6 C1 (omega arith))
    | inr made ↦ (let i = from_invoke design c g made in
        subst HasDone i.2 (λ acts empty. cc))
  ]

  -- the invoke of a group at a place
  invoke_at_place : (invokes : List InvokeDef) (k : ℕ) (g : GroupDef) → slice_get (map (named_group design c) invokes) k ≡ Some g → (i : InvokeDef) × (slice_get invokes k ≡ Some i) × (named_group design c i ≡ g)
  invoke_at_place [] k g at = absurd (cc)
  invoke_at_place (i ∷ invokes) zero g at = (i, refl, same_Some (named_group design c i) g at)
  invoke_at_place (i ∷ invokes) (suc k) g at = invoke_at_place invokes k g at

  -- two groups at different places have different names
  apart : (j k : ℕ) (h g : GroupDef) → j < k → slice_get (c.groups ++ invoke_groups design c) j ≡ Some h → slice_get (c.groups ++ invoke_groups design c) k ≡ Some g → h.name ≡ g.name → ⊥
  apart j k h g less at_j at_k same = elim (get-cases c.groups (invoke_groups design c) k g at_k) [
    | inl own_k ↦ elim (get-cases c.groups (invoke_groups design c) j h at_j) [
      | inl own_j ↦ (
          let rules = at_item Unreserved design keeps n c at (TheGroup (take k c.groups) g) (header_item c k g own_k) 0 C1 (omega arith) in
          rules.0 (subst (λ (name : Text). Contains (group_names (take k c.groups)) name) same
          (Contains-map (λ (x : GroupDef). x.name) (take k c.groups) h (Contains-before c.groups j k h less own_j))))
      | inr (p, e, made_j) ↦ (let within = slice_get_within c.groups k g own_k in omega (arith, e, within))
    ]
    | inr (q, e, made_k) ↦ (
        let i = invoke_at_place (invokes_in c) q g made_k in
        let control = invoked_control i.0 (Contains-at (invokes_in c) q i.0 i.1) in
        elim (get-cases c.groups (invoke_groups design c) j h at_j) [
          | inl own_j ↦
              free_names design keeps c (Contains-at design n c at) control h (Contains-at c.groups j h own_j)
              (ap (λ (name : Text). take 2 name) (same ∙ ap (λ (x : GroupDef). x.name) (sym i.2)) ∙ invoke_reserved i.0.item)
          | inr (p, e', made_j) ↦ (
              let i' = invoke_at_place (invokes_in c) p h made_j in
              let one = invoke_once i'.0.item i.0.item (ap (λ (x : GroupDef). x.name) i'.2 ∙ same ∙ ap (λ (x : GroupDef). x.name) (sym i.2)) in
              let rise = items_rise 0 (items_of c) p q i'.0 i.0 (omega (arith, e, e')) i'.1 i.1 in
              omega (arith, one, rise))
        ])
  ]

  -- a name is no earlier group's
  new_group : (k : ℕ) (g : GroupDef) → slice_get (c.groups ++ invoke_groups design c) k ≡ Some g → Contains (group_names (take k (c.groups ++ invoke_groups design c))) g.name → ⊥
  new_group k g there has =
      let groups = c.groups ++ invoke_groups design c in
      let h = Contains-from_map (λ (x : GroupDef). x.name) (take k groups) g.name has in
      let j = place_of (take k groups) h.0 h.1 in
      let before = get-take groups k j.0 h.0 j.1 in
      apart j.0 k h.0 g before.0 before.1 there h.2

  -- ---- statements

  invoke_found : (k : ℕ) (cell : Text) (ins : List InBinding) (outs : List OutBinding) → IsItem c k (TheStatement (Invoke cell ins outs))
      → (g : GroupDef) × (group_named (c.groups ++ invoke_groups design c) (invoke_name k) ≡ Some g) × (g.comb ≡ false)
  invoke_found k cell ins outs is =
      let i = invoke_at_item 0 (items_of c) k cell ins outs is in
      let item_is : i.0.item ≡ k = omega (arith, i.2) in
      let control = invoked_control i.0 i.1 in
      let free = free_names design keeps c (Contains-at design n c at) control in
      let none = named-none c.groups (invoke_name k) (λ g of_c same. free g of_c (ap (λ (name : Text). take 2 name) same ∙ invoke_reserved k)) in
      let found = found_some (invoke_groups design c) (invoke_name k) (named_group design c i.0) (Contains-map (named_group design c) (invokes_in c) i.0 i.1) (ap invoke_name item_is) in
      let made = from_invoke design c found.0 found.2 in
      (found.0, named-right c.groups (invoke_groups design c) (invoke_name k) none ∙ found.1, ap (λ (x : GroupDef). x.comb) (sym made.2))

  condition_found : (by : Option Text) → IfSome by (λ name. (g : GroupDef) × (group_named c.groups name ≡ Some g) × (g.comb ≡ true))
      → IfSome by (λ name. (g : GroupDef) × (group_named (c.groups ++ invoke_groups design c) name ≡ Some g) × (g.comb ≡ true))
  condition_found None found = tt
  condition_found (Some name) found = (found.0, named-first c.groups (invoke_groups design c) name found.0 found.1, found.2)

  -- ---- all items

  has_c : Contains design c
  has_c = Contains-at design n c at

  abbrev Kept : Item → Type 0
  Kept it = All (Keeps AnyName (expanded_design design) (take n (expanded_design design)) (expanded design c) it) all_rules

  abbrev RuleAt : Item → Rule → Type 0
  RuleAt it = Keeps AnyName (expanded_design design) (take n (expanded_design design)) (expanded design c) it

  abbrev face : KeepsFaces design (expanded design)
  face = expanded_faces design

  set_kept : (a : Assignment) → IsGoodSet design c a → Kept (TheAssignment a)
  set_kept a good =
      all_eleven (RuleAt (TheAssignment a)) tt
      (names_known_kept design (expanded design) face c has_c a good.known) tt (widths_agree_kept design (expanded design) face c has_c a good.widths)
      (drives_kept design (expanded design) face c has_c a good.drives) (reads_kept design (expanded design) face c has_c a good.reads) tt tt tt tt tt

  condition_kept : (k : ℕ) (s x : Statement) (port : PortName) (by : Option Text) → IsKnownPort design c port → IsSource design c port → IsCondition design c port by
      → (IsKnownPort (expanded_design design) (expanded design c) port) × (IsSource (expanded_design design) (expanded design c) port) × (IsCondition (expanded_design design) (expanded design c) port by)
  condition_kept k s x port by known' source condition = (
    known_after design (expanded design) face c has_c port known',
    source_after design (expanded design) face c has_c port source,
    record { group = condition_found by condition.group; bit = width_same design (expanded design) face c has_c port ∙ condition.bit },
  )

  statement_kept : (x : Statement) → Origin c x → Kept (TheStatement x)
  statement_kept x (SameEnable k name is) =
      let found = keeps n c at k (TheStatement (Enable name)) is 8 C1 (omega arith) in
      all_eleven (RuleAt (TheStatement (Enable name))) tt (record { condition = tt; invoke = tt }) tt tt tt (record { condition = tt; invoke = tt }) tt tt
      (found.0, named-first c.groups (invoke_groups design c) name found.0 found.1, found.2) tt tt
  statement_kept x (FromInvoke k cell ins outs is) =
      all_eleven (RuleAt (TheStatement (Enable (invoke_name k)))) tt (record { condition = tt; invoke = tt }) tt tt tt (record { condition = tt; invoke = tt }) tt tt
      (invoke_found k cell ins outs is) tt tt
  statement_kept x (SameSeq ss) =
      all_eleven (RuleAt (TheStatement (Seq ss))) tt (record { condition = tt; invoke = tt }) tt tt tt (record { condition = tt; invoke = tt }) tt tt tt tt tt
  statement_kept x (SamePar ss) =
      all_eleven (RuleAt (TheStatement (Par ss))) tt (record { condition = tt; invoke = tt }) tt tt tt (record { condition = tt; invoke = tt }) tt tt tt tt tt
  statement_kept x (SameIf k port by s t on off is) =
      let rules = keeps n c at k (TheStatement (If port by s t)) is in
      let r = condition_kept k (If port by s t) x port by (rules 1 C1 (omega arith)).condition (rules 5 C1 (omega arith)).condition (rules 9 C1 (omega arith)) in
      all_eleven (RuleAt (TheStatement (If port by on off))) tt (record { condition = r.0; invoke = tt }) tt tt tt (record { condition = r.1; invoke = tt }) tt tt tt r.2 tt
  statement_kept x (SameWhile k port by s body is) =
      let rules = keeps n c at k (TheStatement (While port by s)) is in
      let r = condition_kept k (While port by s) x port by (rules 1 C1 (omega arith)).condition (rules 5 C1 (omega arith)).condition (rules 9 C1 (omega arith)) in
      all_eleven (RuleAt (TheStatement (While port by body))) tt (record { condition = r.0; invoke = tt }) tt tt tt (record { condition = r.1; invoke = tt }) tt tt tt r.2 tt

  kept : (it : Item) → ItemCase (expanded design c) it → Kept it
  kept it IsSignature =
      all_eleven (RuleAt TheSignature)
      (new_names_kept design (expanded design) face c has_c n (new_names Unreserved design keeps n c at)) tt tt
      (widths_kept design (expanded design) face c has_c (has_widths Unreserved design keeps n c at)) tt tt tt tt tt tt tt
  kept it (IsCell k cell there) =
      all_eleven (RuleAt (TheCell (take k c.cells) cell))
      (new_cell_kept design (expanded design) face c has_c (take k c.cells) cell (new_cell Unreserved design keeps n c at k cell there))
      (known_cell_kept design (expanded design) face c has_c cell (known_cell Unreserved design keeps n c at k cell there))
      (has_parameters Unreserved design keeps n c at k cell there) tt tt tt tt tt tt tt tt
  kept it (IsGroup k g there) =
      all_eleven (RuleAt (TheGroup (take k (c.groups ++ invoke_groups design c)) g))
      (new_group k g there, tt) tt tt tt tt tt (has_done g k there) tt tt tt tt
  kept it (IsSetOf g a has there) = set_kept a (group_good g a has there)
  kept it (IsDoneOf g k d has there) =
      let good = done_good g k d has there in
      all_eleven (RuleAt (TheDone g (take k g.dones) d)) tt
      (done_known_kept design (expanded design) face c has_c g d good.known) tt (done_agrees_kept design (expanded design) face c has_c d good.widths) tt
      (done_reads_kept design (expanded design) face c has_c d good.reads) (only_done_kept design (expanded design) face c has_c g (take k g.dones) d good.only) good.may tt tt tt
  kept it (IsSet a there) = set_kept a (item_good a (assignment_item c a there))
  kept it (IsStatement s there) = statement_kept s (origin c s there)

  kept_rules : KeepsComponent AnyName (expanded_design design) (take n (expanded_design design)) (expanded design c)
  kept_rules k it is = kept it (item_case (expanded design c) it (Contains-at (items_of (expanded design c)) k it is))

-- ---- C12

-- the group of the source with the same lines
record IsSameGroup (design : Design) (c : Component) (g : GroupDef) : Type 0 where
  h : GroupDef
  is : IsGroupOf design c h
  sets : h.sets ≡ g.sets
  dones : (d : DoneLine) → Contains g.dones d → (e : DoneLine) × Contains h.dones e × (done_ports e ≡ done_ports d)

module _ (design : Design) (c : Component) where
  unnamed_group : (i : InvokeDef) → Contains (invokes_in c) i → IsSameGroup design c (named_group design c i)
  unnamed_group i has =
      let done = invoke_done (invoke_name i.item) i.cell in
      record {
        h = invoke_group design c [] i;
        is = Contains-map (λ (x : ActorGroup). x.group) (actor_groups design c) (invoked_group design c i)
            (Contains-append_right (map own_group c.groups) (map (invoked_group design c) (invokes_in c)) (invoked_group design c i) (Contains-map (invoked_group design c) (invokes_in c) i has));
        sets = refl;
        dones = λ d there. elim (Contains-cases_first done [] d there) [
          | inl same ↦ (invoke_done [] i.cell, Contains-here (invoke_done [] i.cell) [], ap done_ports same)
          | inr none ↦ absurd (Contains-none d none)
        ];
      }

  same_group : (g : GroupDef) → IsGroupOf (expanded_design design) (expanded design c) g → IsSameGroup design c g
  same_group g is = elim (group_cases (expanded_design design) (expanded design c) g is) [
    | inr (i, there, same) ↦ absurd (Contains-none i (subst (λ (invokes : List InvokeDef). Contains invokes i) (no_invokes design c) there))
    | inl own_or_made ↦ elim (Contains-append_cases c.groups (invoke_groups design c) g own_or_made) [
      | inl own_g ↦ record { h = g; is = own_is_group design c g own_g; sets = refl; dones = λ d there. (d, there, refl) }
      | inr made ↦ (let i = from_invoke design c g made in subst (IsSameGroup design c) i.2 (unnamed_group i.0 i.1))
    ]
  ]

  assigned : (a : Assignment) → IsAssignmentOf (expanded_design design) (expanded design c) a → IsAssignmentOf design c a
  assigned a (inl continuous) = inl continuous
  assigned a (inr (g, is, there)) = let s = same_group g is in inr (s.h, s.is, subst (λ (sets : List Assignment). Contains sets a) (sym s.sets) there)

  dones_before : (port to : PortName) → ReadsByDone (expanded_design design) (expanded design c) port to → ReadsByDone design c port to
  dones_before port to r =
      let s = same_group r.g r.assigned.is in
      let e = s.dones r.d r.has in
      record {
        g = s.h;
        assigned = record { is = s.is; a = r.assigned.a; has = subst (λ (sets : List Assignment). Contains sets r.assigned.a) (sym s.sets) r.assigned.has; drives = r.assigned.drives };
        d = e.0;
        has = e.1;
        reads = subst (λ (ports : List PortName). Contains ports to) (sym e.2) r.reads;
      }

  goes_before : Contains design c → (port to : PortName) → ReadsByGo (expanded_design design) (expanded design c) port to → ReadsByGo design c port to
  goes_before has port to r =
      let s = same_group r.g r.assigned.is in
      record {
        g = s.h;
        assigned = record { is = s.is; a = r.assigned.a; has = subst (λ (sets : List Assignment). Contains sets r.assigned.a) (sym s.sets) r.assigned.has; drives = r.assigned.drives };
        is_go = r.is_go;
        is_input = source_before design (expanded design) (expanded_faces design) c has (own (codes "go")) r.is_input;
      }

expanded_reads : (design : Design) → KeepsReads design (expanded_design design) design (expanded design) (λ c. c)
expanded_reads design = record {
  sets = λ c has port to r. record { a = r.a; is = assigned design c r.a r.is; drives = r.drives; reads = r.reads };
  dones = λ c has port to r. dones_before design c port to r;
  goes = λ c has port to r. goes_before design c has port to r;
}

expanded_loops : (design : Design) → CalRules design → HasNoLoops (expanded_design design)
expanded_loops design rules = no_loops_mapped design (expanded design) (λ c has.
    let at = place_of design c has in
    no_loop_before design (expanded_design design) design (expanded design) (λ x. x)
    (image_mapped design (expanded design) (expanded_faces design)) (image_itself design) (expanded_reads design) c has (rules.no_loop at.0 c at.1))

expanded_rules : (design : Design) → CalRules design → KeepsRulesUnder AnyName (expanded_design design)
expanded_rules design rules n d at =
    let q = replaced_at design (expanded design) n d at in
    subst (KeepsComponent AnyName (expanded_design design) (take n (expanded_design design))) q.2 (kept_rules design rules.keeps n q.0 q.1)

pub expanded_is_plain : ExpandedIsPlain
expanded_is_plain design rules = record {
  keeps = expanded_rules design rules;
  no_loop = expanded_loops design rules;
  no_invoke = λ d has. (let c = Contains-from_map (expanded design) design d has in
      subst (λ (x : Component). All IsNoInvoke (control_statements x.control)) c.2 (none_left design c.0));
}
