-- A Calyx design keeps C1 to C12, or is refused.
use Rattle.std.proofs.Common.{◌≡◌, ◌≢◌, ℕ, ◌+◌, ◌<◌, ◌⊎◌, inl, inr, List, [], ◌∷◌, ◌++◌, length, take, Option, None, Some, refl, sym, ap, subst, ◌∙◌}
use Rattle.std.specs.Prelude.{slice_get, All, Contains, map}
use Rattle.std.specs.List.{flat_map}
use Rattle.std.specs.Cmp.Lexicographic.{slice_cmp}
use Rattle.std.specs.Ordering.{nat_cmp}
use Rattle.std.specs.declared.cmp.Ordering.TheVariants.{Greater}
use Rattle.std.proofs.lemmas.Option.{same_Some, slice_get_within}
use Rattle.hw_graph.proofs.MemberLemmas.{In, in_of, in_left, in_right, in_map, in_flat_map}
use Rattle.hw_names.specs.Name.{Text}
use Rattle.hw_prims.specs.Table.{outputs_of, pin_names}
use Rattle.hw_prims.specs.declared.prim.Primitive.{Primitive}
use Rattle.cal_ast.proofs.LookupLemmas.{cell_named-Some, primitive_in-Some, part_in-Some}
use Rattle.cal_ast.specs.Items.{Item, IsItem, items_of}
use Rattle.cal_ast.specs.Naming.{Unreserved}
use Rattle.cal_ast.specs.Ports.{outputs_in, part_of, primitive_of}
use Rattle.cal_ast.specs.Rules.{Rule, BreaksRule, CalRules, HasFirstLoop, HasLoop, IsFirstBroken, IsRefusal, Keeps, KeepsComponent, KeepsItem, KeepsRules, all_rules}
use Rattle.cal_ast.specs.Tree.{PortName, port_of, Assignment, CellDef, Component, Design, GroupDef}
use Rattle.cal_ast.specs.Wires.{ByAssignment, ByComponent, ByDone, ByGo, ByPrimitive, HasNoLoop, IsAssignedIn, IsLeastLoop, IsLoop, ReadsAlong, ReadsPort, all_groups}
use Rattle.cal_ast.specs.Wires as wires
use Rattle.filc_laws.proofs.existence.Classical.{sure, next, so, by_cases, all_or_first, IsJudgedBelow}
use Rattle.filc_laws.proofs.existence.LeastLemmas.{LeastOf, least_of}
use Rattle.filc_laws.proofs.existence.ListLemmas.{place_of, all_of}
use Rattle.filc_laws.specs.Classically.{Classically}

-- ---- C1 to C11

module _ (design : Design) where
  abbrev IsBrokenSomewhere : Type 0
  IsBrokenSomewhere = (n : ℕ) × (k : ℕ) × (r : ℕ) × IsFirstBroken design n k r

  module _ (n : ℕ) (c : Component) (at : slice_get design n ≡ Some c)
      (components : (m : ℕ) (earlier : Component) → m < n → slice_get design m ≡ Some earlier → KeepsComponent Unreserved design (take m design) earlier) where
    module _ (k : ℕ) (items : (j : ℕ) → j < k → KeepsItem Unreserved design (take n design) c j) (item : Item) (here : IsItem c k item) where
      abbrev KeepsAt : ℕ → Type 0
      KeepsAt r = (rule : Rule) → slice_get all_rules r ≡ Some rule → Keeps Unreserved design (take n design) c item rule

      broken_rule : (KeepsItem Unreserved design (take n design) c k → ⊥) → IsJudgedBelow KeepsAt (length all_rules) → IsBrokenSomewhere
      broken_rule lacks (inl all) =
          absurd (lacks (λ other is. subst (λ (i : Item). All (Keeps Unreserved design (take n design) c i) all_rules) (same_Some item other (sym here ∙ is))
          (all_of (Keeps Unreserved design (take n design) c item) all_rules (λ r less rule rule_at. all r less rule rule_at))))
      broken_rule lacks (inr (r, less, unkept, before)) =
          let rule = place_of all_rules r less in (
            n,
            k,
            r,
            record {
              c = c;
              at = at;
              components = components;
              items = items;
              item = item;
              here = here;
              lesser = λ q other below other_at. before q below other other_at;
              rule = rule.0;
              numbered = rule.1;
              broken = λ keeps. unkept (λ other other_at. subst (Keeps Unreserved design (take n design) c item) (same_Some rule.0 other (sym rule.1 ∙ other_at)) keeps);
            },
          )

      broken_here : (KeepsItem Unreserved design (take n design) c k → ⊥) → Classically IsBrokenSomewhere
      broken_here lacks = so (all_or_first KeepsAt (length all_rules)) (broken_rule lacks)

    broken_item : (KeepsComponent Unreserved design (take n design) c → ⊥) → IsJudgedBelow (KeepsItem Unreserved design (take n design) c) (length (items_of c)) → Classically IsBrokenSomewhere
    broken_item lacks (inl all) = absurd (lacks (λ k item is. all k (slice_get_within (items_of c) k item is) item is))
    broken_item lacks (inr (k, less, unkept, before)) = let item = place_of (items_of c) k less in broken_here k before item.0 item.1 unkept

    broken_component : (KeepsComponent Unreserved design (take n design) c → ⊥) → Classically IsBrokenSomewhere
    broken_component lacks = next (all_or_first (KeepsItem Unreserved design (take n design) c) (length (items_of c))) (broken_item lacks)

  abbrev KeepsNumber : ℕ → Type 0
  KeepsNumber n = (c : Component) → slice_get design n ≡ Some c → KeepsComponent Unreserved design (take n design) c

  broken_design : IsJudgedBelow KeepsNumber (length design) → Classically (KeepsRules design ⊎ IsBrokenSomewhere)
  broken_design (inl all) = sure (inl (λ n c at. all n (slice_get_within design n c at) c at))
  broken_design (inr (n, less, lacks, before)) =
      let c = place_of design n less in
      so (broken_component n c.0 c.1 (λ m other below at. before m below other at)
      (λ keeps. lacks (λ other at. subst (KeepsComponent Unreserved design (take n design)) (same_Some c.0 other (sym c.1 ∙ at)) keeps))) inr

  keeps_or_breaks : Classically (KeepsRules design ⊎ IsBrokenSomewhere)
  keeps_or_breaks = next (all_or_first KeepsNumber (length design)) broken_design

-- ---- C12

module _ (design : Design) (c : Component) where
  abbrev ports_assigned : List Assignment → List PortName
  ports_assigned sets = map (λ (a : Assignment). a.dst) sets

  abbrev primitive_outputs : CellDef → Option Primitive → List PortName
  primitive_outputs cell None = []
  primitive_outputs cell (Some prim) = map (port_of cell.name) (pin_names (outputs_of prim))

  abbrev part_outputs : CellDef → Option Component → List PortName
  part_outputs cell None = []
  part_outputs cell (Some part) = map (port_of cell.name) (pin_names (outputs_in part))

  abbrev in_group : GroupDef → List PortName
  in_group g = ports_assigned g.sets

  abbrev of_primitive : CellDef → List PortName
  of_primitive cell = primitive_outputs cell (primitive_of cell)

  abbrev of_part : CellDef → List PortName
  of_part cell = part_outputs cell (part_of design cell)

  abbrev assigned_ports : List PortName
  assigned_ports = ports_assigned c.sets ++ flat_map in_group (all_groups design c)

  abbrev cell_ports : List PortName
  cell_ports = flat_map of_primitive c.cells ++ flat_map of_part c.cells

  -- the ports that read others
  abbrev reading_ports : List PortName
  reading_ports = assigned_ports ++ cell_ports

  in_assigned : (port : PortName) → In assigned_ports port → In reading_ports port
  in_assigned port has = in_left assigned_ports cell_ports port has

  in_cells : (port : PortName) → In cell_ports port → In reading_ports port
  in_cells port has = in_right assigned_ports cell_ports port has

  dst_in : (sets : List Assignment) (a : Assignment) (port : PortName) → Contains sets a → a.dst ≡ port → In (ports_assigned sets) port
  dst_in sets a port has is = subst (λ (p : PortName). In (ports_assigned sets) p) is (in_map (λ (x : Assignment). x.dst) sets a (in_of sets a has))

  group_in : (g : GroupDef) (a : Assignment) (port : PortName) → Contains (all_groups design c) g → Contains g.sets a → a.dst ≡ port → In reading_ports port
  group_in g a port is has drives =
      in_assigned port (in_right (ports_assigned c.sets) (flat_map in_group (all_groups design c)) port
      (in_flat_map in_group (all_groups design c) g port (in_of (all_groups design c) g is) (dst_in g.sets a port has drives)))

  assigned_in : (g : GroupDef) (port : PortName) → IsAssignedIn design c g port → In reading_ports port
  assigned_in g port is = group_in g is.a port is.is is.has is.drives

  primitive_in_ports : (cell : CellDef) (prim : Primitive) (output : Text) → Contains c.cells cell → primitive_of cell ≡ Some prim → Contains (pin_names (outputs_of prim)) output → In reading_ports (port_of cell.name output)
  primitive_in_ports cell prim output of_c is has =
      in_cells (port_of cell.name output) (in_left (flat_map of_primitive c.cells) (flat_map of_part c.cells) (port_of cell.name output)
      (in_flat_map of_primitive c.cells cell (port_of cell.name output) (in_of c.cells cell of_c)
      (subst (λ (o : Option Primitive). In (primitive_outputs cell o) (port_of cell.name output)) (sym is)
      (in_map (port_of cell.name) (pin_names (outputs_of prim)) output (in_of (pin_names (outputs_of prim)) output has)))))

  part_in_ports : (cell : CellDef) (part : Component) (output : Text) → Contains c.cells cell → part_of design cell ≡ Some part → Contains (pin_names (outputs_in part)) output → In reading_ports (port_of cell.name output)
  part_in_ports cell part output of_c is has =
      in_cells (port_of cell.name output) (in_right (flat_map of_primitive c.cells) (flat_map of_part c.cells) (port_of cell.name output)
      (in_flat_map of_part c.cells cell (port_of cell.name output) (in_of c.cells cell of_c)
      (subst (λ (o : Option Component). In (part_outputs cell o) (port_of cell.name output)) (sym is)
      (in_map (port_of cell.name) (pin_names (outputs_in part)) output (in_of (pin_names (outputs_in part)) output has)))))

  named_so : (cell name output : Text) (port : PortName) → cell ≡ name → port ≡ port_of name output → In reading_ports (port_of cell output) → In reading_ports port
  named_so cell name output port same is has = subst (λ (p : PortName). In reading_ports p) (ap (λ (x : Text). port_of x output) same ∙ sym is) has

-- a port that reads another is among them
reads_from : (design : Design) (c : Component) (port other : PortName) → ReadsPort design c port other → In (reading_ports design c) port
reads_from design c port other (ByAssignment c' p q r) = by r.is
  where
    by : Contains c'.sets r.a ⊎ ((g : GroupDef) × Contains (all_groups design c') g × Contains g.sets r.a) → In (reading_ports design c') p
    by (inl has) =
        in_assigned design c' p (in_left (ports_assigned design c' c'.sets) (flat_map (in_group design c') (all_groups design c')) p (dst_in design c' c'.sets r.a p has r.drives))
    by (inr (g, is, has)) = group_in design c' g r.a p is has r.drives
reads_from design c port other (ByDone c' p q r) = assigned_in design c' r.g p r.assigned
reads_from design c port other (ByGo c' p q r) = assigned_in design c' r.g p r.assigned
reads_from design c port other (ByPrimitive c' p q r) =
    let found = primitive_in-Some c' r.cell r.prim r.made in
    let there = cell_named-Some c'.cells r.cell found.0 found.1 in
    named_so design c' found.0.name r.cell r.output p there.1 r.is_output (primitive_in_ports design c' found.0 r.prim r.output there.0 found.2 r.depends.is_output)
reads_from design c port other (ByComponent c' part p q output input r reaches) =
    let found = part_in-Some design c' r.cell part r.made in
    let there = cell_named-Some c'.cells r.cell found.0 found.1 in
    named_so design c' found.0.name r.cell output p there.1 r.is_output (part_in_ports design c' found.0 part output there.0 found.2 r.has_output)

module _ (design : Design) (c : Component) where
  first_reads : (port : PortName) (others : List PortName) (back : PortName) → ReadsAlong design c (port ∷ others) back → In (reading_ports design c) port
  first_reads port [] back reads = reads_from design c port back reads
  first_reads port (other ∷ others) back along = reads_from design c port other along.0

  abbrev shown_ports : List Text
  shown_ports = map wires.shown (reading_ports design c)

  -- the text shows a port that lies on a loop
  abbrev ShowsLoop : Text → Type 0
  ShowsLoop text = (port : PortName) × (wires.shown port ≡ text) × ((others : List PortName) × IsLoop design c port others)

  abbrev HasLeastLoop : Type 0
  HasLeastLoop = (first : PortName) × (others : List PortName) × IsLeastLoop design c first others

  least_loop : LeastOf ShowsLoop shown_ports → HasLeastLoop
  least_loop l = (
    l.has.0,
    l.has.2.0,
    record {
      is_loop = l.has.2.1;
      least = λ port ports loop. subst (λ (x : Text). slice_cmp nat_cmp x (wires.shown port) ≢ Greater) (sym l.has.1)
          (l.least (wires.shown port) (in_map wires.shown (reading_ports design c) port (first_reads port ports port loop.along)) (port, refl, (ports, loop)));
    },
  )

  some_loop : (HasNoLoop design c → ⊥) → Classically HasLeastLoop
  some_loop loops =
      by_cases ((first : PortName) × ((others : List PortName) × IsLoop design c first others))
      (λ (first, loop). so (least_of ShowsLoop shown_ports (wires.shown first) (first, refl, loop)) least_loop)
      (λ none. absurd (loops (λ first others loop. none (first, (others, loop)))))

module _ (design : Design) (keeps : KeepsRules design) where
  abbrev HasNoLoopAt : ℕ → Type 0
  HasNoLoopAt n = (c : Component) → slice_get design n ≡ Some c → HasNoLoop design c

  abbrev IsLoopedSomewhere : Type 0
  IsLoopedSomewhere = (n : ℕ) × (first : PortName) × (others : List PortName) × HasFirstLoop design n first others

  first_loop : IsJudgedBelow HasNoLoopAt (length design) → Classically (CalRules design ⊎ IsLoopedSomewhere)
  first_loop (inl all) = sure (inl (record { keeps = keeps; no_loop = λ n c at. all n (slice_get_within design n c at) c at }))
  first_loop (inr (n, less, lacks, before)) =
      let c = place_of design n less in
      so (some_loop design c.0 (λ none. lacks (λ other at. subst (HasNoLoop design) (same_Some c.0 other (sym c.1 ∙ at)) none)))
      (λ (first, others, loop). inr (
        n,
        first,
        others,
        record {
          others_keep = keeps;
          c = c.0;
          at = c.1;
          components = λ m other below at. before m below other at;
          loop = loop;
        },
      ))

  loops_or_not : Classically (CalRules design ⊎ IsLoopedSomewhere)
  loops_or_not = next (all_or_first HasNoLoopAt (length design)) first_loop

-- ---- the design

abbrev pub IsCalRuled : Design → Type 0
IsCalRuled design = CalRules design ⊎ ((name : Text) × (item : ℕ) × (ports : List Text) × (rule : ℕ) × IsRefusal design name item ports rule)

by_loop : (design : Design) (keeps : KeepsRules design) → CalRules design ⊎ IsLoopedSomewhere design keeps → IsCalRuled design
by_loop design keeps (inl rules) = inl rules
by_loop design keeps (inr (n, first, others, loop)) = inr (loop.c.name, 0, map wires.shown (first ∷ others), 12, HasLoop n first others loop refl refl refl)

by_rule : (design : Design) → KeepsRules design ⊎ IsBrokenSomewhere design → Classically (IsCalRuled design)
by_rule design (inl keeps) = so (loops_or_not design keeps) (by_loop design keeps)
by_rule design (inr (n, k, r, f)) = sure (inr (f.c.name, k, [], r + 1, BreaksRule n r f refl refl))

pub is_cal_ruled : (design : Design) → Classically (IsCalRuled design)
is_cal_ruled design = next (keeps_or_breaks design) (by_rule design)
