-- Where each read of a design's wires is one of another design with the same cells, no loops of the other are none of the first.
use Rattle.std.proofs.Common.{◌≡◌, ℕ, List, [], ◌∷◌, map, Option, Some, None, refl, sym, ap, ◌∙◌, subst}
use Rattle.std.specs.Prelude.{Contains, option_map, slice_get}
use Rattle.std.proofs.lemmas.List.Elements.{Contains-append_left}
use Rattle.std.proofs.lemmas.Option.{slice_get-map}
use Rattle.hw_names.specs.Name.{Text}
use Rattle.hw_prims.specs.Table.{Pin, pin_names}
use Rattle.cal_ast.proofs.ListLemmas.{Contains-at, Contains-map}
use Rattle.cal_ast.proofs.LookupLemmas.{part_in-design}
use Rattle.cal_ast.proofs.SideLemmas.{some_found}
use Rattle.cal_ast.specs.Actors.{ActorGroup, own_group, invoked_group, actor_groups}
use Rattle.cal_ast.specs.Invoking.{invokes_in}
use Rattle.cal_ast.specs.Ports.{inputs_in, outputs_in, primitive_in, part_in}
use Rattle.cal_ast.specs.Rules.{HasNoLoops}
use Rattle.cal_ast.specs.Tree.{PortName, own, GroupDef, Component, Design}
use Rattle.cal_ast.specs.Wires.{IsGroupOf, ReadsByAssignment, ReadsByDone, ReadsByGo, ReadsByPrimitive, CrossesCell, ReadsPort, ByAssignment, ByDone, ByGo, ByPrimitive, ByComponent, Reaches, Straight, Over, ReadsAlong, HasNoLoop}
use Rattle.cal_group.proofs.MappedLemmas.{KeepsFaces, part_in-mapped, primitive_in-mapped, inputs_same, outputs_same}

-- the design `image` has, for each component of the design, one with the same cells and ports
pub record IsImage (design image : Design) (g : Component → Component) : Type 0 where
  pub parts : (c : Component) (cell : Text) → part_in image (g c) cell ≡ option_map g (part_in design c cell)
  pub primitives : (c : Component) (cell : Text) → primitive_in (g c) cell ≡ primitive_in c cell
  pub inputs : (c : Component) → Contains design c → inputs_in (g c) ≡ inputs_in c
  pub outputs : (c : Component) → Contains design c → outputs_in (g c) ≡ outputs_in c

pub image_mapped : (design : Design) (f : Component → Component) → KeepsFaces design f → IsImage design (map f design) f
image_mapped design f face = record {
  parts = part_in-mapped design f face;
  primitives = primitive_in-mapped design f face;
  inputs = inputs_same design f face;
  outputs = outputs_same design f face;
}

itself : {X : Type 0} (o : Option X) → o ≡ option_map (λ (x : X). x) o
itself None = refl
itself (Some x) = refl

pub image_itself : (design : Design) → IsImage design design (λ c. c)
image_itself design = record {
  parts = λ c cell. itself (part_in design c cell);
  primitives = λ c cell. refl;
  inputs = λ c has. refl;
  outputs = λ c has. refl;
}

-- a group of the component itself is one of its groups
pub own_is_group : (design : Design) (c : Component) (g : GroupDef) → Contains c.groups g → IsGroupOf design c g
own_is_group design c g has =
    Contains-map (λ (x : ActorGroup). x.group) (actor_groups design c) (own_group g)
    (Contains-append_left (map own_group c.groups) (map (invoked_group design c) (invokes_in c)) (own_group g) (Contains-map own_group c.groups g has))

-- what a component of the first reads in its assignments, by its groups' done lines and by go, its image in the other reads too
pub record KeepsReads (design first other : Design) (f g : Component → Component) : Type 0 where
  pub sets : (c : Component) → Contains design c → (port to : PortName) → ReadsByAssignment first (f c) port to → ReadsByAssignment other (g c) port to
  pub dones : (c : Component) → Contains design c → (port to : PortName) → ReadsByDone first (f c) port to → ReadsByDone other (g c) port to
  pub goes : (c : Component) → Contains design c → (port to : PortName) → ReadsByGo first (f c) port to → ReadsByGo other (g c) port to

module _ (design first other : Design) (f g : Component → Component) (one : IsImage design first f) (two : IsImage design other g) (keeps : KeepsReads design first other f g) where
  -- a read by a cell of a primitive
  by_primitive : (c : Component) (port to : PortName) → ReadsByPrimitive (f c) port to → ReadsByPrimitive (g c) port to
  by_primitive c port to r = record {
    cell = r.cell;
    prim = r.prim;
    made = two.primitives c r.cell ∙ sym (one.primitives c r.cell) ∙ r.made;
    output = r.output;
    input = r.input;
    depends = r.depends;
    is_output = r.is_output;
    is_input = r.is_input;
  }

  -- the component that a cell is made of, before it was replaced
  part_before : (c part : Component) (cell : Text) → part_in first (f c) cell ≡ Some part → (before : Component) × (part_in design c cell ≡ Some before) × (f before ≡ part)
  part_before c part cell made = some_found f (part_in design c cell) part (sym (one.parts c cell) ∙ made)

  crosses : (c part before : Component) (port to : PortName) (output input : Text) → Contains design before → f before ≡ part → (r : CrossesCell first (f c) part port to output input) → part_in design c r.cell ≡ Some before → CrossesCell other (g c) (g before) port to output input
  crosses c part before port to output input has same r made = record {
    cell = r.cell;
    made = two.parts c r.cell ∙ ap (option_map g) made;
    has_output =
        subst (λ (pins : List Pin). Contains (pin_names pins) output) (ap outputs_in (sym same) ∙ one.outputs before has ∙ sym (two.outputs before has)) r.has_output;
    has_input =
        subst (λ (pins : List Pin). Contains (pin_names pins) input) (ap inputs_in (sym same) ∙ one.inputs before has ∙ sym (two.inputs before has)) r.has_input;
    is_output = r.is_output;
    is_input = r.is_input;
  }

  mutual
    reads : (d : Component) (port to : PortName) → ReadsPort first d port to → (c : Component) → Contains design c → f c ≡ d → ReadsPort other (g c) port to
    reads d port to (ByAssignment x p q r) c has same =
        ByAssignment (g c) p q (keeps.sets c has p q (subst (λ (y : Component). ReadsByAssignment first y p q) (sym same) r))
    reads d port to (ByDone x p q r) c has same =
        ByDone (g c) p q (keeps.dones c has p q (subst (λ (y : Component). ReadsByDone first y p q) (sym same) r))
    reads d port to (ByGo x p q r) c has same =
        ByGo (g c) p q (keeps.goes c has p q (subst (λ (y : Component). ReadsByGo first y p q) (sym same) r))
    reads d port to (ByPrimitive x p q r) c has same =
        ByPrimitive (g c) p q (by_primitive c p q (subst (λ (y : Component). ReadsByPrimitive y p q) (sym same) r))
    reads d port to (ByComponent x part p q output input r there) c has same =
        let crossing = subst (λ (y : Component). CrossesCell first y part p q output input) (sym same) r in
        let b = part_before c part crossing.cell crossing.made in
        let has_part = part_in-design design c crossing.cell b.0 b.1 in
        ByComponent (g c) (g b.0) p q output input (crosses c part b.0 p q output input has_part b.2 crossing b.1) (reaches part (own output) (own input) there b.0 has_part b.2)

    reaches : (d : Component) (port to : PortName) → Reaches first d port to → (c : Component) → Contains design c → f c ≡ d → Reaches other (g c) port to
    reaches d port to (Straight x p q r) c has same = Straight (g c) p q (reads x p q r c has same)
    reaches d port to (Over x p between q r rest) c has same = Over (g c) p between q (reads x p between r c has same) (reaches x between q rest c has same)

  along : (c : Component) → Contains design c → (ports : List PortName) (back : PortName) → ReadsAlong first (f c) ports back → ReadsAlong other (g c) ports back
  along c has [] back r = tt
  along c has (p ∷ []) back r = reads (f c) p back r c has refl
  along c has (p ∷ q ∷ ports) back r = (reads (f c) p q r.0 c has refl, along c has (q ∷ ports) back r.1)

  pub no_loop_before : (c : Component) → Contains design c → HasNoLoop other (g c) → HasNoLoop first (f c)
  no_loop_before c has none start others loop =
      none start others (record { along = along c has (start ∷ others) start loop.along; distinct = loop.distinct })

-- a component of the replaced design, before it was replaced
pub replaced_at : (design : Design) (f : Component → Component) (n : ℕ) (d : Component) → slice_get (map f design) n ≡ Some d → (c : Component) × (slice_get design n ≡ Some c) × (f c ≡ d)
replaced_at design f n d at = some_found f (slice_get design n) d (sym (slice_get-map f design n) ∙ at)

pub no_loops_mapped : (design : Design) (f : Component → Component) → ((c : Component) → Contains design c → HasNoLoop (map f design) (f c)) → HasNoLoops (map f design)
no_loops_mapped design f each n d at =
    let q = replaced_at design f n d at in
    subst (λ (x : Component). HasNoLoop (map f design) x) q.2 (each q.0 (Contains-at design n q.0 q.1))
