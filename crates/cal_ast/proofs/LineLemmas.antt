-- By C1 to C11 each assignment of a component, continuous or in a group, drives a destination and reads sources, and each done line reads sources.
use Rattle.std.proofs.Common.{◌≡◌, ◌⊎◌, inl, inr, ℕ, ◌+◌, List, [], ◌∷◌, ◌++◌, map, Some, refl, sym, ap, ◌∙◌, subst}
use Rattle.std.specs.Prelude.{All, Contains, codes, slice_get}
use Rattle.std.proofs.lemmas.List.Elements.{All-nil, All-cons, All-append, All-contains, Contains-append_cases}
use Rattle.net_core.specs.Graph.{option_ports, source_ports}
use Rattle.cal_ast.proofs.ItemLemmas.{assignment_item, group_assignment_item, drives_destination, reads_sources, done_reads_sources, statement_drives, statement_reads, can_invoke}
use Rattle.cal_ast.proofs.ListLemmas.{place_of, Contains-none, Contains-here, Contains-there, Contains-cases_first, Contains-from_map}
use Rattle.cal_ast.specs.Actors.{ActorGroup, own_group, invoked_group, actor_groups}
use Rattle.cal_ast.specs.Controlling.{BindsInput, BindsOutput, CanInvoke}
use Rattle.cal_ast.specs.Invoking.{InvokeDef, invokes_among, invokes_in, invoke_group, invoke_sets, gives_input, starts_cell, takes_output, go_of}
use Rattle.cal_ast.specs.Items.{Item, TheStatement, TheAssignment, items_of}
use Rattle.cal_ast.specs.Naming.{GroupNaming}
use Rattle.cal_ast.specs.Rules.{KeepsRulesUnder}
use Rattle.cal_ast.specs.Sides.{IsDestination, IsSource}
use Rattle.cal_ast.specs.Tree.{PortName, port_of, Assignment, DoneLine, GroupDef, InBinding, OutBinding, Statement, Invoke, Component, Design}
use Rattle.cal_ast.specs.Wires.{IsGroupOf, IsAssignmentOf, set_ports, done_ports}

abbrev invoke_of : InvokeDef → Statement
invoke_of i = Invoke i.cell i.ins i.outs

-- an invoke is one of the items
invokes_among-item : (k : ℕ) (items : List Item) (i : InvokeDef) → Contains (invokes_among k items) i → Contains items (TheStatement (invoke_of i))
invokes_among-item k [] i has = absurd (Contains-none i has)
invokes_among-item k (TheStatement (Invoke cell ins outs) ∷ items) i has =
    elim (Contains-cases_first (record { item = k; cell = cell; ins = ins; outs = outs }) (invokes_among (k + 1) items) i has) [
      | inl same ↦ subst (λ (x : InvokeDef). Contains (TheStatement (Invoke cell ins outs) ∷ items) (TheStatement (invoke_of x))) same (Contains-here (TheStatement (Invoke cell ins outs)) items)
      | inr there ↦ Contains-there (TheStatement (Invoke cell ins outs)) items (TheStatement (invoke_of i)) (invokes_among-item (k + 1) items i there)
    ]
invokes_among-item k (item ∷ items) i has = Contains-there item items (TheStatement (invoke_of i)) (invokes_among-item (k + 1) items i has)

pub invoke_item : (c : Component) (i : InvokeDef) → Contains (invokes_in c) i → Contains (items_of c) (TheStatement (invoke_of i))
invoke_item c i has = invokes_among-item 0 (items_of c) i has

-- a group is one of the component's own, or that of an invoke
pub group_cases : (design : Design) (c : Component) (g : GroupDef) → IsGroupOf design c g → Contains c.groups g ⊎ ((i : InvokeDef) × Contains (invokes_in c) i × (invoke_group design c [] i ≡ g))
group_cases design c g is =
    let a = Contains-from_map (λ (x : ActorGroup). x.group) (actor_groups design c) g is in
    elim (Contains-append_cases (map own_group c.groups) (map (invoked_group design c) (invokes_in c)) a.0 a.1) [
      | inl there ↦ (let own = Contains-from_map own_group c.groups a.0 there in
          let same : own.0 ≡ g = ap (λ (x : ActorGroup). x.group) own.2 ∙ a.2 in
          inl (subst (λ x. Contains c.groups x) same own.1))
      | inr there ↦ (let i = Contains-from_map (invoked_group design c) (invokes_in c) a.0 there in
          inr (i.0, i.1, ap (λ (x : ActorGroup). x.group) i.2 ∙ a.2))
    ]

-- an assignment drives a destination and reads sources
pub record IsLine (design : Design) (c : Component) (a : Assignment) : Type 0 where
  pub drives : IsDestination design c a.dst
  pub reads : All (IsSource design c) (set_ports a)

-- what is read in a guard or as a source
reads_both : (P : PortName → Type 0) (a : Assignment) → All P (option_ports a.guard) × All P (source_ports a.src) → All P (set_ports a)
reads_both P a both = All-append P (option_ports a.guard) (source_ports a.src) both.0 both.1

module _ (naming : GroupNaming) (design : Design) (keeps : KeepsRulesUnder naming design) (n : ℕ) (c : Component) (at : slice_get design n ≡ Some c) where
  by_item : (a : Assignment) → Contains (items_of c) (TheAssignment a) → IsLine design c a
  by_item a has = record {
    drives = drives_destination naming design keeps n c at a has;
    reads = reads_both (IsSource design c) a (reads_sources naming design keeps n c at a has);
  }

  module _ (i : InvokeDef) (has : Contains (invokes_in c) i) where
    item : Contains (items_of c) (TheStatement (invoke_of i))
    item = invoke_item c i has

    can : CanInvoke design c i.cell i.ins i.outs
    can = can_invoke naming design keeps n c at (invoke_of i) item

    gives : (b : InBinding) → Contains i.ins b → IsLine design c (gives_input i.cell b)
    gives b there = record {
      drives = record { side = (All-contains (BindsInput design c i.cell can.go) i.ins b can.inputs there).0; not_done = λ control. refl };
      reads = All-contains (λ (x : InBinding). All (IsSource design c) (source_ports x.src)) i.ins b (statement_reads naming design keeps n c at (invoke_of i) item).invoke there;
    }

    starts : (a : Assignment) → Contains (starts_cell i.cell (go_of design c i.cell)) a → IsLine design c a
    starts a there =
        let first : Contains (starts_cell i.cell (Some can.go)) a = subst (λ go. Contains (starts_cell i.cell go) a) can.starts there in
        let sets = starts_cell i.cell (Some can.go) in
        All-contains (IsLine design c) sets a (All-cons (IsLine design c) _ [] (record {
          drives = record { side = can.go_side; not_done = λ control. refl };
          reads = All-nil (IsSource design c);
        }) (All-nil (IsLine design c))) first

    takes : (b : OutBinding) → Contains i.outs b → IsLine design c (takes_output i.cell b)
    takes b there = record {
      drives = All-contains (λ (x : OutBinding). IsDestination design c x.dst) i.outs b (statement_drives naming design keeps n c at (invoke_of i) item) there;
      reads = All-cons (IsSource design c) (port_of i.cell b.pin) [] (All-contains (BindsOutput design c i.cell) i.outs b can.outputs there) (All-nil (IsSource design c));
    }

    invoke_line : (a : Assignment) → Contains (invoke_sets design c i) a → IsLine design c a
    invoke_line a there =
        let ins = map (gives_input i.cell) i.ins in
        let go = starts_cell i.cell (go_of design c i.cell) in
        elim (Contains-append_cases (ins ++ go) (map (takes_output i.cell) i.outs) a there) [
          | inr out ↦ (let b = Contains-from_map (takes_output i.cell) i.outs a out in subst (IsLine design c) b.2 (takes b.0 b.1))
          | inl first ↦ elim (Contains-append_cases ins go a first) [
            | inl given ↦ (let b = Contains-from_map (gives_input i.cell) i.ins a given in subst (IsLine design c) b.2 (gives b.0 b.1))
            | inr start ↦ starts a start
          ]
        ]

    invoke_done_reads : (d : DoneLine) → Contains (invoke_group design c [] i).dones d → All (IsSource design c) (done_ports d)
    invoke_done_reads d there =
        All-contains (λ (x : DoneLine). All (IsSource design c) (done_ports x)) (invoke_group design c [] i).dones d
        (All-cons (λ (x : DoneLine). All (IsSource design c) (done_ports x)) _ [] (All-cons (IsSource design c) (port_of i.cell (codes "done")) [] can.done_side (All-nil (IsSource design c))) (All-nil _))
        there

  -- an assignment in a group, or in what an invoke stands for
  pub group_line : (g : GroupDef) (a : Assignment) → IsGroupOf design c g → Contains g.sets a → IsLine design c a
  group_line g a is has = elim (group_cases design c g is) [
    | inl of_c ↦ by_item a (group_assignment_item c g a of_c has)
    | inr (i, there, same) ↦ invoke_line i there a (subst (λ (x : GroupDef). Contains x.sets a) (sym same) has)
  ]

  pub line : (a : Assignment) → IsAssignmentOf design c a → IsLine design c a
  line a (inl continuous) = by_item a (assignment_item c a continuous)
  line a (inr (g, is, has)) = group_line g a is has

  -- a done line of one
  pub done_line : (g : GroupDef) (d : DoneLine) → IsGroupOf design c g → Contains g.dones d → All (IsSource design c) (done_ports d)
  done_line g d is has = elim (group_cases design c g is) [
    | inl of_c ↦ (let k = place_of g.dones d has in
        let both = done_reads_sources naming design keeps n c at g of_c k.0 d k.1 in
        All-append (IsSource design c) (option_ports d.guard) (source_ports d.src) both.0 both.1)
    | inr (i, there, same) ↦ invoke_done_reads i there d (subst (λ (x : GroupDef). Contains x.dones d) (sym same) has)
  ]
