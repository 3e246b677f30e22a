-- The wire graph of a lowered component: bits read nothing, interface ports of instances read bits alone, and all else that reads and is read
-- is an edge of the Filament component.
use Rattle.std.proofs.Common.{◌≡◌, ℕ, Bool, true, false, List, [], ◌∷◌, ◌++◌, map, slice_get, Option, Some, None, codes, refl, sym, ap, subst, ◌∙◌, inl, inr}
use Rattle.std.specs.Option.{option_and_then}
use Rattle.std.specs.Prelude.{◌≢◌, Contains, bytes_eq, if◌then◌else◌}
use Rattle.std.proofs.lemmas.Bool.{false≢true}
use Rattle.std.proofs.lemmas.List.Elements.{All-contains, Contains-append_cases, Contains-append_left, Contains-append_right}
use Rattle.std.proofs.lemmas.Option.{none-some, same_Some}
use Rattle.std.proofs.lemmas.Simd.{map-map}
use Rattle.std.proofs.lemmas.Slice.Eq.{bytes_eq-Decides}
use Rattle.hw_names.specs.Name.{Text, AreDistinct}
use Rattle.hw_prims.specs.Meaning.{is_through}
use Rattle.hw_prims.specs.Table.{Pin, inputs_of, is_primitive, outputs_of, pin, pin_names}
use Rattle.hw_prims.specs.declared.prim.Primitive.{Primitive}
use Rattle.hw_prims.specs.declared.prim.Primitive.TheVariants.{StdReg}
use Rattle.net_core.specs.Graph.{option_ports}
use Rattle.net_core.specs.Guard.{GuardTree}
use Rattle.cal_ast.specs.Items.{TheStatement}
use Rattle.cal_ast.proofs.LineLemmas.{group_cases, invoke_item}
use Rattle.cal_ast.specs.Ports as ports
use Rattle.cal_ast.specs.Ports.{cell_named, inputs_in, outputs_in, part_in, part_of, primitive_in, primitive_of}
use Rattle.cal_ast.specs.Tree as calyx
use Rattle.cal_ast.specs.Tree.{Assignment, CellDef, PortName, own, port_of}
use Rattle.cal_ast.specs.Wires.{ReadsPort, ByAssignment, ByDone, ByGo, ByPrimitive, ByComponent, Reaches, IsAssignmentOf, IsGroupOf, set_ports}
use Rattle.cal_ast.specs.Tree.{GroupDef, Invoke}
use Rattle.fil_ast.specs.Rules.{FilRules}
use Rattle.fil_ast.specs.Scope.{Instance, instance_signature}
use Rattle.fil_ast.specs.Signature.{SigPort, Signature, sig_port}
use Rattle.fil_ast.specs.Tree.{Component, DataPort, Design, Interface, ValueTree, Connect}
use Rattle.fil_fsm.specs.Chain.{register}
use Rattle.fil_share.proofs.ListLemmas.{AllPairs-left, Contains-at}
use Rattle.fil_lower.specs.inside.Lowering.{IsLoweringOf, Lowering, all_registers, lowered_component}
use Rattle.fil_lower.proofs.AssignmentLemmas.{set_is}
use Rattle.fil_lower.proofs.AvailableLemmas.{found_passes}
use Rattle.fil_lower.proofs.CallLemmas.{found_among}
use Rattle.fil_lower.proofs.GuardBitLemmas.{IsBit, Later, Start, IsGuard, Always, Where}
use Rattle.fil_lower.proofs.ItemLemmas.{no_statement, place_of_item}
use Rattle.fil_lower.proofs.ListLemmas.{contains_none, first_or_later}
use Rattle.fil_lower.proofs.LoweredLemmas.{IsLowered, IsCellOf, cell_is, component_cell, instance_cell, is_made_of, lowered_at, lowering_at, no_primitive_cell, not_instance, register_cell, register_made}
use Rattle.fil_lower.proofs.MadeLemmas.{OfComponent, instance_signed}
use Rattle.fil_lower.proofs.NameLemmas.{first_differs, from_map, later_distinct}
use Rattle.fil_lower.proofs.FoundPortLemmas.{own_distinct}
use Rattle.fil_lower.proofs.SetLemmas.{IsSet, Takes, Enables, Gives, Starts, Connects}
use Rattle.fil_lower.proofs.GoodSourceLemmas.{ports_of_any}
use Rattle.fil_lower.proofs.TimedAsLemmas.{contains_map}
use Rattle.fil_lower.proofs.WidthLemmas.{connects_wide}

-- an edge of the wire graph of a bare component without groups
pub data IsEdge (design : calyx.Design) (c : calyx.Component) (p q : PortName) : Type 0 where
  BySet : (a : Assignment) → Contains c.sets a → a.dst ≡ p → Contains (set_ports a) q → IsEdge design c p q
  Through : (cell : Text) (prim : Primitive) (input output : Text) → primitive_in c cell ≡ Some prim → Contains (pin_names (inputs_of prim)) input → Contains (pin_names (outputs_of prim)) output → is_through prim input output ≡ true →
      port_of cell output ≡ p → port_of cell input ≡ q → IsEdge design c p q
  Inside : (part : calyx.Component) (cell input output : Text) → part_in design c cell ≡ Some part → Contains (pin_names (inputs_in part)) input → Contains (pin_names (outputs_in part)) output →
      Reaches design part (own output) (own input) → port_of cell output ≡ p → port_of cell input ≡ q → IsEdge design c p q

-- no name is on both sides of distinct names
pub never_both : (xs ys : List Text) (name : Text) → AreDistinct (xs ++ ys) → Contains xs name → Contains ys name → ⊥
never_both [] ys name distinct left right = contains_none name left
never_both (x ∷ xs) ys name distinct left right =
    elim (first_or_later x xs name left) [
      | inl same ↦ first_differs x (xs ++ ys) name distinct (Contains-append_right xs ys name right) same
      | inr later ↦ never_both xs ys name (later_distinct x (xs ++ ys) distinct) later right
    ]

pub register_no_through : (prim : Primitive) (input output : Text) → prim ≡ StdReg 1 → is_through prim input output ≡ true → ⊥
unfolding is_through
register_no_through prim input output same through = false≢true (subst (λ (x : Primitive). is_through x input output ≡ true) same through)

pub own_or_cell : (x cell y : Text) → own x ≡ port_of cell y → ⊥
own_or_cell x cell y same = none-some cell (ap (λ (p : PortName). p.cell) same)

same_cell : (a b x y : Text) → port_of a x ≡ port_of b y → (a ≡ b) × (x ≡ y)
same_cell a b x y same = (same_Some a b (ap (λ (p : PortName). p.cell) same), ap (λ (p : PortName). p.pin) same)

module _ (comps : Design) (rules : FilRules comps) (design : calyx.Design) (lowered : IsLoweringOf comps design) (n : ℕ) (c : Component) (here : slice_get comps n ≡ Some c) where
  abbrev lw : IsLowered comps design n c
  lw = lowered_at comps design lowered n c here

  abbrev l : Lowering
  l = lowering_at comps design n c lw

  abbrev low : calyx.Component
  low = lowered_component l

  no_group : (g : GroupDef) → IsGroupOf design low g → ⊥
  no_group g is =
      elim (group_cases design low g is) [
        | inl has ↦ contains_none g has
        | inr (i, has, same) ↦ no_statement low (Invoke i.cell i.ins i.outs) (place_of_item comps rules design lowered n c here (TheStatement (Invoke i.cell i.ins i.outs)) (invoke_item low i has))
      ]

  -- an edge of the graph is one of these
  pub edge_is : (x : calyx.Component) (p q : PortName) → x ≡ low → ReadsPort design x p q → IsEdge design low p q
  edge_is x p q same (ByAssignment y p' q' by) =
      elim (subst (λ (z : calyx.Component). IsAssignmentOf design z by.a) same by.is) [
        | inl in_sets ↦ BySet by.a in_sets by.drives by.reads
        | inr in_group ↦ absurd (no_group in_group.0 in_group.1)
      ]
  edge_is x p q same (ByDone y p' q' by) = absurd (no_group by.g (subst (λ (z : calyx.Component). IsGroupOf design z by.g) same by.assigned.is))
  edge_is x p q same (ByGo y p' q' by) = absurd (no_group by.g (subst (λ (z : calyx.Component). IsGroupOf design z by.g) same by.assigned.is))
  edge_is x p q same (ByPrimitive y p' q' by) =
      Through by.cell by.prim by.input by.output (subst (λ (z : calyx.Component). primitive_in z by.cell ≡ Some by.prim) same by.made) by.depends.is_input by.depends.is_output by.depends.through (sym by.is_output) (sym by.is_input)
  edge_is x p q same (ByComponent y part p' q' output input by reaches) =
      Inside part by.cell input output (subst (λ (z : calyx.Component). part_in design z by.cell ≡ Some part) same by.made) by.has_input by.has_output reaches (sym by.is_output) (sym by.is_input)

  pub set_of : (a : Assignment) → Contains low.sets a → IsSet l a
  set_of a has = set_is comps rules n c here design lowered lw.registers lw.new lw.enough a has

  -- ---- what cells are made of, by their names

  pub cell_of : (cell : Text) (d : CellDef) → cell_named low.cells cell ≡ Some d → IsCellOf comps rules design lowered n c here lw.registers lw.new d × (d.name ≡ cell)
  cell_of cell d found = (
    cell_is comps rules design lowered n c here lw.registers lw.new d (found_among (λ (x : CellDef). bytes_eq x.name cell) low.cells d found),
    (bytes_eq-Decides d.name cell).0 (found_passes (λ (x : CellDef). bytes_eq x.name cell) low.cells d found),
  )

  register_prim : (name : Text) → Contains (all_registers l) name → primitive_in low name ≡ Some (StdReg 1)
  register_prim name has = ap (option_and_then primitive_of) (register_cell comps rules design lowered n c here lw.registers lw.new name has) ∙ register_made name

  pub no_part : (d : CellDef) → is_primitive d.made ≡ true → part_of design d ≡ None
  no_part d is = ap (λ (b : Bool). if b then None else ports.component_named design d.made) is

  register_part : (name : Text) → Contains (all_registers l) name → part_in design low name ≡ None
  register_part name has =
      ap (option_and_then (part_of design)) (register_cell comps rules design lowered n c here lw.registers lw.new name has)
      ∙ no_part (register name) (is_made_of (codes "std_reg") (1 ∷ []) (StdReg 1) (register_made name))

  -- ---- bits read nothing

  output_is_data : (output : Text) (value : ValueTree) → Contains c.body (Connect output value) → Contains (map (λ (p : DataPort). p.name) c.outs) output
  output_is_data output value of =
      let m = connects_wide comps rules n c here output value of in
      let outs = map (sig_port c.events) c.outs in
      let test = λ (q : SigPort). bytes_eq q.name output in
      let d = from_map (sig_port c.events) c.outs m.port (found_among test outs m.port m.found) in
      subst (Contains (map (λ (p : DataPort). p.name) c.outs)) (ap (λ (q : SigPort). q.name) d.2 ∙ (bytes_eq-Decides m.port.name output).0 (found_passes test outs m.port m.found))
      (contains_map (λ (p : DataPort). p.name) c.outs d.0 d.1)

  -- of a component's ports, an interface port is no output
  interface_no_output : (m : ℕ) (d : Component) → slice_get comps m ≡ Some d → (g : Interface) → Contains d.interfaces g → Contains (map (λ (p : DataPort). p.name) d.outs) g.name → ⊥
  interface_no_output m d at g of has =
      never_both (map (λ (g : Interface). g.name) d.interfaces ++ map (λ (p : DataPort). p.name) d.ins) (map (λ (p : DataPort). p.name) d.outs) g.name (own_distinct comps rules design lowered m d at)
      (Contains-append_left (map (λ (g : Interface). g.name) d.interfaces) (map (λ (p : DataPort). p.name) d.ins) g.name (contains_map (λ (g : Interface). g.name) d.interfaces g of)) has

  pub interface_no_input : (m : ℕ) (d : Component) → slice_get comps m ≡ Some d → (g : Interface) → Contains d.interfaces g → Contains (map (λ (p : DataPort). p.name) d.ins) g.name → ⊥
  interface_no_input m d at g of has =
      never_both (map (λ (g : Interface). g.name) d.interfaces) (map (λ (p : DataPort). p.name) d.ins) g.name
      (AllPairs-left (λ (a b : Text). a ≢ b) (map (λ (g : Interface). g.name) d.interfaces ++ map (λ (p : DataPort). p.name) d.ins) (map (λ (p : DataPort). p.name) d.outs) (own_distinct comps rules design lowered m d at))
      (contains_map (λ (g : Interface). g.name) d.interfaces g of) has

  -- nothing drives an interface port
  start_undriven : (g : Interface) → Contains c.interfaces g → (a : Assignment) → IsSet l a → a.dst ≡ own g.name → ⊥
  start_undriven g has a (Takes name bit of is) same = own_or_cell g.name name (codes "in") (sym same)
  start_undriven g has a (Enables name of) same = own_or_cell g.name name (codes "write_en") (sym same)
  start_undriven g has a (Gives v sig k arg port guard of signed at_arg at_port is_guard) same = own_or_cell g.name v.inst port.name (sym same)
  start_undriven g has a (Starts i sig e go guard of signed of_e is_go is_guard) same = own_or_cell g.name i.name go (sym same)
  start_undriven g has a (Connects output value of) same =
      let is : output ≡ g.name = ap (λ (p : PortName). p.pin) same in
      interface_no_output n c here g has (subst (Contains (map (λ (p : DataPort). p.name) c.outs)) is (output_is_data output value of))

  differ : (a b : Text) → bytes_eq a b ≡ false → a ≡ b → ⊥
  differ a b test same = false≢true (sym test ∙ (bytes_eq-Decides a b).1 same)

  -- nor what a register shows
  register_undriven : (name : Text) → Contains (all_registers l) name → (a : Assignment) → IsSet l a → a.dst ≡ port_of name (codes "out") → ⊥
  register_undriven name has a (Takes other bit of is) same = differ (codes "in") (codes "out") refl (same_cell other name (codes "in") (codes "out") same).1
  register_undriven name has a (Enables other of) same = differ (codes "write_en") (codes "out") refl (same_cell other name (codes "write_en") (codes "out") same).1
  register_undriven name has a (Gives v sig k arg port guard of signed at_arg at_port is_guard) same =
      let i = instance_signed comps rules n c here v.inst sig signed in
      not_instance comps rules design lowered n c here lw.registers lw.new i.0 name i.1 has (i.2 ∙ (same_cell v.inst name port.name (codes "out") same).0)
  register_undriven name has a (Starts i sig e go guard of signed of_e is_go is_guard) same =
      not_instance comps rules design lowered n c here lw.registers lw.new i name of has (same_cell i.name name go (codes "out") same).0
  register_undriven name has a (Connects output value of) same = own_or_cell output name (codes "out") same

  pub bit_reads_nothing : (bit q : PortName) → IsBit l bit → IsEdge design low bit q → ⊥
  bit_reads_nothing bit q (Start g has) (BySet a of dst reads) = start_undriven g has a (set_of a of) dst
  bit_reads_nothing bit q (Start g has) (Through cell prim input output is of_in of_out through at_p at_q) = own_or_cell g.name cell output (sym at_p)
  bit_reads_nothing bit q (Start g has) (Inside part cell input output is of_in of_out reaches at_p at_q) = own_or_cell g.name cell output (sym at_p)
  bit_reads_nothing bit q (Later name has) (BySet a of dst reads) = register_undriven name has a (set_of a of) dst
  bit_reads_nothing bit q (Later name has) (Through cell prim input output is of_in of_out through at_p at_q) =
      let named = (same_cell cell name output (codes "out") at_p).0 in
      let same : prim ≡ StdReg 1 = same_Some prim (StdReg 1) (sym is ∙ ap (primitive_in low) named ∙ register_prim name has) in
      register_no_through prim input output same through
  bit_reads_nothing bit q (Later name has) (Inside part cell input output is of_in of_out reaches at_p at_q) =
      let named = (same_cell cell name output (codes "out") at_p).0 in
      none-some part (sym (register_part name has) ∙ ap (part_in design low) (sym named) ∙ is)

  -- ---- interface ports of instances read bits alone

  -- an interface port of an instance of a component
  pub record IsStart (q : PortName) : Type 0 where
    pub i : Instance
    pub of : Contains l.scope.instances i
    pub sig : Signature
    pub signed : instance_signature l.scope i.name ≡ Some sig
    pub k : OfComponent comps n i sig
    pub g : Interface
    pub of_g : Contains k.d.interfaces g
    pub is : port_of i.name g.name ≡ q

  pub guard_bit : (guard : Option (GuardTree PortName)) → IsGuard l guard → (r : PortName) → Contains (option_ports guard) r → IsBit l r
  guard_bit guard Always r has = absurd (contains_none r has)
  guard_bit guard (Where bits all) r has = All-contains (IsBit l) bits r all (subst (λ (ps : List PortName). Contains ps r) (ports_of_any bits) has)

  -- a data input of an instance of a component
  data_input : (i : Instance) (sig : Signature) (k : OfComponent comps n i sig) (q : SigPort) → Contains sig.ins q → Contains (map (λ (p : DataPort). p.name) k.d.ins) q.name
  data_input i sig k q has =
      let m = from_map (sig_port k.d.events) k.d.ins q (subst (λ (s : Signature). Contains s.ins q) (sym k.same) has) in
      subst (Contains (map (λ (p : DataPort). p.name) k.d.ins)) (ap (λ (x : SigPort). x.name) m.2) (contains_map (λ (p : DataPort). p.name) k.d.ins m.0 m.1)

  start_set_bits : (q : PortName) (s : IsStart q) (a : Assignment) → IsSet l a → a.dst ≡ q → (r : PortName) → Contains (set_ports a) r → IsBit l r
  start_set_bits q s a (Takes name bit of is) dst r has = elim (first_or_later bit [] r has) [ inl same ↦ subst (IsBit l) same is | inr none ↦ absurd (contains_none r none) ]
  start_set_bits q s a (Enables name of) dst r has = absurd (contains_none r has)
  start_set_bits q s a (Starts i sig e go guard of signed of_e is_go is_guard) dst r has =
      elim (Contains-append_cases (option_ports guard) [] r has) [ inl in_guard ↦ guard_bit guard is_guard r in_guard | inr none ↦ absurd (contains_none r none) ]
  start_set_bits q s a (Connects output value of) dst r has = absurd (own_or_cell output s.i.name s.g.name (dst ∙ sym s.is))
  start_set_bits q s a (Gives v sig k arg port guard of signed at_arg at_port is_guard) dst r has =
      let same = same_cell v.inst s.i.name port.name s.g.name (dst ∙ sym s.is) in
      let one : sig ≡ s.sig = same_Some sig s.sig (sym signed ∙ ap (instance_signature l.scope) same.0 ∙ s.signed) in
      let in_ins : Contains s.sig.ins port = subst (λ (x : Signature). Contains x.ins port) one (Contains-at sig.ins k port at_port) in
      absurd (interface_no_input s.k.m s.k.d s.k.at s.g s.of_g (subst (Contains (map (λ (p : DataPort). p.name) s.k.d.ins)) same.1 (data_input s.i s.sig s.k port in_ins)))

  instance_part : (i : Instance) → Contains l.scope.instances i → (sig : Signature) (k : OfComponent comps n i sig) → part_in design low i.name ≡ Some (lowered_component (lowering_at comps design k.m k.d (lowered_at comps design lowered k.m k.d k.at)))
  instance_part i of sig k = ap (option_and_then (part_of design)) (instance_cell comps rules design lowered n c here lw.registers lw.new i of) ∙ component_cell comps rules design lowered n i sig k

  pub start_reads_bits : (q r : PortName) → IsStart q → IsEdge design low q r → IsBit l r
  start_reads_bits q r s (BySet a of dst reads) = start_set_bits q s a (set_of a of) dst r reads
  start_reads_bits q r s (Through cell prim input output is of_in of_out through at_p at_q) =
      let named = (same_cell cell s.i.name output s.g.name (at_p ∙ sym s.is)).0 in
      let none : primitive_in low s.i.name ≡ None =
      ap (option_and_then primitive_of) (instance_cell comps rules design lowered n c here lw.registers lw.new s.i s.of) ∙ no_primitive_cell comps rules design lowered n s.i s.sig s.k in
      absurd (none-some prim (sym none ∙ ap (primitive_in low) (sym named) ∙ is))
  start_reads_bits q r s (Inside part cell input output is of_in of_out reaches at_p at_q) =
      let same = same_cell cell s.i.name output s.g.name (at_p ∙ sym s.is) in
      let sub = lowered_component (lowering_at comps design s.k.m s.k.d (lowered_at comps design lowered s.k.m s.k.d s.k.at)) in
      let one : part ≡ sub = same_Some part sub (sym is ∙ ap (part_in design low) same.0 ∙ instance_part s.i s.of s.sig s.k) in
      let outs : Contains (pin_names (outputs_in sub)) output = subst (λ (x : calyx.Component). Contains (pin_names (outputs_in x)) output) one of_out in
      let among : Contains (map (λ (p : DataPort). p.name) s.k.d.outs) output = subst (λ (ns : List Text). Contains ns output) (map-map (λ (p : Pin). p.name) (λ (p : DataPort). pin p.name p.width) s.k.d.outs) outs in
      absurd (interface_no_output s.k.m s.k.d s.k.at s.g s.of_g (subst (Contains (map (λ (p : DataPort). p.name) s.k.d.outs)) same.1 among))
