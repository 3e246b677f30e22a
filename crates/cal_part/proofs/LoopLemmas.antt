-- C12 read by read: a component has no loop where one that is the same, with the same hierarchy below it, has none.
use Rattle.std.proofs.Common.{◌≡◌, inl, inr, List, [], ◌∷◌, map, Some, sym, ◌∙◌, subst}
use Rattle.std.specs.Prelude.{Contains, codes}
use Rattle.hw_names.specs.Name.{Text}
use Rattle.hw_prims.specs.Table.{Pin, pin_names}
use Rattle.cal_ast.specs.Actors.{ActorGroup}
use Rattle.cal_ast.specs.Ports.{part_in}
use Rattle.cal_ast.specs.Tree.{PortName, own, Assignment, GroupDef, Component, Design}
use Rattle.cal_ast.specs.Wires.{IsGroupOf, IsAssignmentOf, ReadsByAssignment, IsAssignedIn, ReadsByDone, ReadsByGo, ReadsByPrimitive, CrossesCell, ReadsPort, ByAssignment, ByDone, ByGo, ByPrimitive, ByComponent, Reaches, Straight, Over, ReadsAlong, HasNoLoop}
use Rattle.cal_part.specs.SameHierarchy.{IsSameBelow}
use Rattle.cal_part.proofs.PlaceLemmas.{and_then-itself, looks_alike, primitives_same, same_below-sym, same_inputs, same_itself, same_outputs, same_place}
use Rattle.cal_part.proofs.RuleLemmas.{source_kept}
use Rattle.cal_part.proofs.SameLemmas.{actors_same}

-- the component of a cell, in both
record HasSamePart (design other : Design) (d part : Component) (cell : Text) : Type 0 where
  there : Component
  made : part_in other d cell ≡ Some there
  same : IsSameBelow design part other there

module _ (design other : Design) where
  same_part : (c d : Component) → IsSameBelow design c other d → (cell : Text) (part : Component) → part_in design c cell ≡ Some part → HasSamePart design other d part cell
  same_part c d same cell part made =
      let i = same_place design other c d same (cell ∷ []) part (and_then-itself (part_in design c cell) ∙ made) in
      record { there = i.y; made = sym (and_then-itself (part_in other d cell)) ∙ i.at; same = i.same }

  module _ (c d : Component) (same : IsSameBelow design c other d) where
    group_same : (g : GroupDef) → IsGroupOf design c g → IsGroupOf other d g
    group_same g is = subst (λ (actors : List ActorGroup). Contains (map (λ (a : ActorGroup). a.group) actors) g) (actors_same design other c d same) is

    assignment_same : (a : Assignment) → IsAssignmentOf design c a → IsAssignmentOf other d a
    assignment_same a (inl continuous) = inl (subst (λ (sets : List Assignment). Contains sets a) (same_itself design other c d same).sets continuous)
    assignment_same a (inr (g, is, has)) = inr (g, group_same g is, has)

    assigned_same : (g : GroupDef) (port : PortName) → IsAssignedIn design c g port → IsAssignedIn other d g port
    assigned_same g port s = record { is = group_same g s.is; a = s.a; has = s.has; drives = s.drives }

    by_assignment : (port to : PortName) → ReadsByAssignment design c port to → ReadsByAssignment other d port to
    by_assignment port to r = record { a = r.a; is = assignment_same r.a r.is; drives = r.drives; reads = r.reads }

    by_done : (port to : PortName) → ReadsByDone design c port to → ReadsByDone other d port to
    by_done port to r = record { g = r.g; assigned = assigned_same r.g port r.assigned; d = r.d; has = r.has; reads = r.reads }

    by_go : (port to : PortName) → ReadsByGo design c port to → ReadsByGo other d port to
    by_go port to r = record {
      g = r.g;
      assigned = assigned_same r.g port r.assigned;
      is_go = r.is_go;
      is_input = source_kept design c other d (looks_alike design other c d same) (own (codes "go")) r.is_input;
    }

    by_primitive : (port to : PortName) → ReadsByPrimitive c port to → ReadsByPrimitive d port to
    by_primitive port to r = record {
      cell = r.cell;
      prim = r.prim;
      made = sym (primitives_same c d (same_itself design other c d same) r.cell) ∙ r.made;
      output = r.output;
      input = r.input;
      depends = r.depends;
      is_output = r.is_output;
      is_input = r.is_input;
    }

    crosses : (part there : Component) (port to : PortName) (output input : Text) (r : CrossesCell design c part port to output input) → part_in other d r.cell ≡ Some there → IsSameBelow design part other there → CrossesCell other d there port to output input
    crosses part there port to output input r made below = record {
      cell = r.cell;
      made = made;
      has_output = subst (λ (pins : List Pin). Contains (pin_names pins) output) (same_outputs part there (same_itself design other part there below)) r.has_output;
      has_input = subst (λ (pins : List Pin). Contains (pin_names pins) input) (same_inputs part there (same_itself design other part there below)) r.has_input;
      is_output = r.is_output;
      is_input = r.is_input;
    }

  mutual
    reads : (c : Component) (port to : PortName) → ReadsPort design c port to → (d : Component) → IsSameBelow design c other d → ReadsPort other d port to
    reads c port to (ByAssignment x p q r) d same = ByAssignment d p q (by_assignment x d same p q r)
    reads c port to (ByDone x p q r) d same = ByDone d p q (by_done x d same p q r)
    reads c port to (ByGo x p q r) d same = ByGo d p q (by_go x d same p q r)
    reads c port to (ByPrimitive x p q r) d same = ByPrimitive d p q (by_primitive x d same p q r)
    reads c port to (ByComponent x part p q output input r rest) d same =
        let s = same_part x d same r.cell part r.made in
        ByComponent d s.there p q output input (crosses x d same part s.there p q output input r s.made s.same)
        (reaches part (own output) (own input) rest s.there s.same)

    reaches : (c : Component) (port to : PortName) → Reaches design c port to → (d : Component) → IsSameBelow design c other d → Reaches other d port to
    reaches c port to (Straight x p q r) d same = Straight d p q (reads x p q r d same)
    reaches c port to (Over x p between q r rest) d same = Over d p between q (reads x p between r d same) (reaches x between q rest d same)

  along : (c d : Component) → IsSameBelow design c other d → (ports : List PortName) (back : PortName) → ReadsAlong design c ports back → ReadsAlong other d ports back
  along c d same [] back r = tt
  along c d same (p ∷ []) back r = reads c p back r d same
  along c d same (p ∷ q ∷ ports) back r = (reads c p q r.0 d same, along c d same (q ∷ ports) back r.1)

pub no_loop_same : (design other : Design) (c d : Component) → IsSameBelow design c other d → HasNoLoop design c → HasNoLoop other d
no_loop_same design other c d same none first others loop =
    none first others (record { along = along other design d c (same_below-sym design other c d same) (first ∷ others) first loop.along; distinct = loop.distinct })
