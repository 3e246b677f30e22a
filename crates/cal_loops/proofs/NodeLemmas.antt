-- The graph of ports and holes says which port reads which: at once, or through the hole of a group.
use Rattle.std.proofs.Common.{◌≡◌, ◌⊎◌, inl, inr, ℕ, List, [], ◌∷◌, refl, sym, subst, ◌∙◌}
use Rattle.std.specs.Prelude.{Contains, codes}
use Rattle.std.specs.List.{flat_map}
use Rattle.std.proofs.lemmas.Option.{same_Some}
use Rattle.cal_ast.proofs.ListLemmas.{Contains-at, place_of}
use Rattle.cal_ast.specs.Sides.{IsSource}
use Rattle.cal_ast.specs.Tree.{PortName, own, Assignment, DoneLine, GroupDef, Component, Design}
use Rattle.cal_ast.specs.Wires.{ReadsPort, ByAssignment, ByDone, ByGo, ByPrimitive, ByComponent, Reaches, Straight, Over, ReadsAlong, IsGroupOf, all_groups, done_ports}
use Rattle.cal_wires.specs.Nodes.{Node, APort, AHole, node_ports}
use Rattle.cal_wires.specs.WireGraphs.{IsGroupAt, NodeReads, BySet, InGroup, OfDone, OfGo, OfPrimitive, OfPart}

-- the one reads the other at once, or through a hole
abbrev pub ReadsByHole : Design → Component → PortName → PortName → Type 0
ReadsByHole design c p q = NodeReads design c (APort p) (APort q) ⊎ ((k : ℕ) × NodeReads design c (APort p) (AHole k) × NodeReads design c (AHole k) (APort q))

pub through_nodes : (design : Design) (c : Component) (p q : PortName) → ReadsPort design c p q → ReadsByHole design c p q
through_nodes design c p q (ByAssignment d port other r) =
    inl (subst (λ (x : PortName). NodeReads design d (APort x) (APort other)) r.drives (BySet r.a other r.is r.reads))
through_nodes design c p q (ByDone d port other r) =
    let at = place_of (all_groups design d) r.g r.assigned.is in
    inr (at.0, subst (λ (x : PortName). NodeReads design d (APort x) (AHole at.0)) r.assigned.drives (InGroup at.0 r.g r.assigned.a at.1 r.assigned.has), OfDone at.0 r.g r.d other at.1 r.has r.reads)
through_nodes design c p q (ByGo d port other r) =
    let at = place_of (all_groups design d) r.g r.assigned.is in
    inr (
      at.0,
      subst (λ (x : PortName). NodeReads design d (APort x) (AHole at.0)) r.assigned.drives (InGroup at.0 r.g r.assigned.a at.1 r.assigned.has),
      subst (λ (x : PortName). NodeReads design d (AHole at.0) (APort x)) (sym r.is_go) (OfGo at.0 r.g at.1 r.is_input),
    )
through_nodes design c p q (ByPrimitive d port other r) = inl (OfPrimitive port other r)
through_nodes design c p q (ByComponent d part port other output input crosses reaches) = inl (OfPart part port other output input crosses reaches)

module _ (design : Design) (c : Component) where
  pub port_reads : (p q : PortName) → NodeReads design c (APort p) (APort q) → ReadsPort design c p q
  port_reads p q (BySet a other is reads) = ByAssignment c a.dst other (record { a = a; is = is; drives = refl; reads = reads })
  port_reads p q (OfPrimitive port other r) = ByPrimitive c port other r
  port_reads p q (OfPart part port other output input crosses reaches) = ByComponent c part port other output input crosses reaches

  -- the port is assigned in group k
  record AssignedAt (p : PortName) (k : ℕ) : Type 0 where
    g : GroupDef
    at : IsGroupAt design c k g
    a : Assignment
    has : Contains g.sets a
    drives : a.dst ≡ p

  assigned_at : (p : PortName) (k : ℕ) → NodeReads design c (APort p) (AHole k) → AssignedAt p k
  assigned_at p k (InGroup j g a at has) = record { g = g; at = at; a = a; has = has; drives = refl }

  -- what the hole of group k reads
  abbrev HoleReads : ℕ → PortName → Type 0
  HoleReads k q =
      ((g : GroupDef) × IsGroupAt design c k g × ((d : DoneLine) × Contains g.dones d × Contains (done_ports d) q))
      ⊎ ((q ≡ own (codes "go")) × IsSource design c (own (codes "go")))

  hole_reads : (k : ℕ) (q : PortName) → NodeReads design c (AHole k) (APort q) → HoleReads k q
  hole_reads k q (OfDone i g d other at has reads) = inl (g, at, (d, has, reads))
  hole_reads k q (OfGo i g at is) = inr (refl, is)

  pub reads_through : (p q : PortName) (k : ℕ) → NodeReads design c (APort p) (AHole k) → NodeReads design c (AHole k) (APort q) → ReadsPort design c p q
  reads_through p q k first second =
      let s = assigned_at p k first in
      let is : IsGroupOf design c s.g = Contains-at (all_groups design c) k s.g s.at in
      elim (hole_reads k q second) [
        | inl (g, at, (d, has, reads)) ↦
            (let same : g ≡ s.g = same_Some g s.g (sym at ∙ s.at) in
            ByDone c p q (record {
              g = s.g;
              assigned = record { is = is; a = s.a; has = s.has; drives = s.drives };
              d = d;
              has = subst (λ (x : GroupDef). Contains x.dones d) same has;
              reads = reads;
            }))
        | inr (is_go, is_input) ↦ ByGo c p q (record { g = s.g; assigned = record { is = is; a = s.a; has = s.has; drives = s.drives }; is_go = is_go; is_input = is_input })
      ]

  -- a hole reads no hole
  pub no_holes : (j k : ℕ) → NodeReads design c (AHole j) (AHole k) → ⊥
  no_holes j k r = elim r [ ]

-- ---- along nodes

-- each node of the list reads the next, and the last reads `back`
abbrev pub NodesAlong : Design → Component → Node → List Node → Node → Type 0
NodesAlong design c first [] back = NodeReads design c first back
NodesAlong design c first (next ∷ nodes) back = NodeReads design c first next × NodesAlong design c next nodes back

-- the ports among nodes
abbrev pub ports_among : List Node → List PortName
ports_among nodes = flat_map node_ports nodes

module _ (design : Design) (c : Component) where
  -- ports read along where nodes do
  pub ports_along : (p : PortName) (nodes : List Node) (back : PortName) → NodesAlong design c (APort p) nodes (APort back) → ReadsAlong design c (p ∷ ports_among nodes) back
  ports_along p [] back along = port_reads design c p back along
  ports_along p (APort q ∷ nodes) back along = (port_reads design c p q along.0, ports_along q nodes back along.1)
  ports_along p (AHole k ∷ []) back along = reads_through design c p back k along.0 along.1
  ports_along p (AHole k ∷ APort q ∷ nodes) back along = let rest = along.1 in (reads_through design c p q k along.0 rest.0, ports_along q nodes back rest.1)
  ports_along p (AHole k ∷ AHole j ∷ nodes) back along = let rest = along.1 in absurd (no_holes design c k j rest.0)

-- along a list of reads the first reaches the last
pub along_reaches : (design : Design) (c : Component) (p : PortName) (others : List PortName) (back : PortName) → ReadsAlong design c (p ∷ others) back → Reaches design c p back
along_reaches design c p [] back reads = Straight c p back reads
along_reaches design c p (q ∷ others) back along = Over c p q back along.0 (along_reaches design c q others back along.1)
