-- The ports of cells that are made of components, as code finds them by the numbers of names.
use Rattle.std.proofs.Common.{◌≡◌, inl, inr, ℕ, ◌+◌, ◌<◌, ◌≤◌, Bool, true, false, nat_lt, List, [], ◌∷◌, ◌++◌, Option, Some, None, option_and_then, length, slice_get, Contains, refl, sym, ap, ap₂, subst, ◌∙◌, arith}
use Rattle.std.specs.Option.{option_flatten}
use Rattle.std.specs.Prelude.{IfSome, slice_index}
use Rattle.std.proofs.lemmas.Bool.{cases_lt}
use Rattle.std.proofs.lemmas.Bool.Decides.{Decides-ltb}
use Rattle.std.proofs.lemmas.List.{length-append}
use Rattle.std.proofs.lemmas.List.Elements.{Contains-append_left, Contains-push}
use Rattle.std.proofs.lemmas.Option.{none-some, same_Some, slice_get_within}
use Rattle.hw_levels.specs.declared.cells.CellPort.{CellPort}
use Rattle.hw_names.specs.Name.{Text}
use Rattle.cal_ast.specs.Naming.{cell_names, component_names}
use Rattle.cal_ast.specs.Ports.{cell_named, inputs_in, outputs_in, part_of}
use Rattle.cal_ast.specs.Tree.{CellDef, Component, Design, own, port_of}
use Rattle.cal_place.specs.FirstPlaces.{IsFirst, ShowsFirsts, TellsFirst}
use Rattle.cal_place.specs.Prototypes.{IsMadeOf, made_component}
use Rattle.cal_place.specs.Signatures.{ShowsSignature}
use Rattle.cal_loops.specs.inside.Levels.{IsCellPort, KeepsOwn}
use Rattle.cal_wires.specs.Nodes.{APort, key_of, ports_in}
use Rattle.cal_loops.specs.declared.levels.Levels.{Levels}
use Rattle.cal_place.specs.declared.prototype.Prototype.{Prototype}
use Rattle.cal_place.specs.declared.prototype.Prototype.TheVariants as variant
use Rattle.cal_place.specs.declared.signature.Signature.{Signature}
use Rattle.cal_wires.specs.declared.graph.WireGraph.{WireGraph}
use Rattle.cal_place.proofs.FirstLemmas.{slice_get-front, slice_get-last}
use Rattle.cal_place.proofs.FoundLemmas.{found_first, from_map}
use Rattle.cal_wires.proofs.FullNameLemmas.{same_pin}
use Rattle.cal_place.proofs.SidedNameLemmas.{names_both}
use Rattle.cal_place.proofs.NestLemmas.{first_named, one_first}
use Rattle.cal_place.proofs.PlaceLemmas.{made_at_first}
use Rattle.cal_place.proofs.PlaceTableLemmas.{told_first}

-- what is true where the other is
same_flag : (a b : Bool) → (a ≡ true → b ≡ true) → (b ≡ true → a ≡ true) → a ≡ b
same_flag true true to from = refl
same_flag true false to from = sym (to refl)
same_flag false true to from = from refl
same_flag false false to from = refl

module _ (design : Design) (c : Component) (g : WireGraph) (levels : List Levels) (node : ℕ) (port : CellPort) (same : port.node ≡ node) (is : IsCellPort design c g levels port) where
  -- the number of its component
  made_by : (d : CellDef) (o : Option Prototype) → IsMadeOf design d o → part_of design d ≡ Some is.part → o ≡ Some (variant.Component is.m)
  made_by d None made part = absurd (none-some is.part (sym made.part ∙ part))
  made_by d (Some (variant.Primitive prim)) made part = absurd (none-some is.part (sym made.part ∙ part))
  made_by d (Some (variant.Component k)) made part =
      let there : slice_get design k ≡ Some is.part = sym made.part ∙ part in
      let named : is.part.name ≡ d.made = first_named design d.made k is.part made.first there in
      let number : k ≡ is.m = one_first (component_names design) is.part.name k is.m (subst (λ (t : Text). IsFirst (component_names design) t k) (sym named) made.first) is.named in
      ap (λ i. Some (variant.Component i)) number

  pub made_told : (number : ℕ) → number ≡ port.cell → (o : Option Prototype) → ((d : CellDef) → slice_get c.cells number ≡ Some d → IsMadeOf design d o) → option_and_then made_component o ≡ Some is.m
  made_told number number_is o of =
      let def = from_map (λ (d : CellDef). d.name) c.cells port.cell is.cell is.first.here in
      let found : cell_named c.cells is.cell ≡ Some def.0 = found_first (λ (x : CellDef). x.name) c.cells is.cell port.cell is.first ∙ def.1 in
      let part : part_of design def.0 ≡ Some is.part = sym (ap (option_and_then (part_of design)) found) ∙ is.made in
      ap (option_and_then made_component) (made_by def.0 o (of def.0 (ap (slice_get c.cells) number_is ∙ def.1)) part)

  -- its level there
  pub level_told : (m : ℕ) → m ≡ is.m → (l : Levels) → slice_get levels m ≡ Some l → (j : ℕ) → j ≡ is.j → (o : Option (Option ℕ)) → o ≡ slice_get l.ports.items j → option_flatten o ≡ Some port.level
  level_told m m_is l at_l j j_is o o_is =
      let l_is : l ≡ is.known = same_Some l is.known (sym at_l ∙ ap (slice_get levels) m_is ∙ is.are) in
      ap option_flatten (o_is ∙ ap₂ (λ (x : Levels) (i : ℕ). slice_get x.ports.items i) l_is j_is ∙ is.has_level)

  module _ (cell pin : Text) (at : slice_get g.ports.keys node ≡ Some (key_of (APort (port_of cell pin)))) where
    names : (is.cell ≡ cell) × (is.pin ≡ pin)
    names =
        let here : slice_get g.ports.keys port.node ≡ Some (key_of (APort (port_of cell pin))) = ap (slice_get g.ports.keys) same ∙ at in
        let keys : key_of (APort (port_of is.cell is.pin)) ≡ key_of (APort (port_of cell pin)) =
        same_Some (key_of (APort (port_of is.cell is.pin))) (key_of (APort (port_of cell pin))) (sym is.number.at ∙ here) in
        same_pin is.cell cell is.pin pin keys

    -- the number of its cell
    pub cell_told : (r : Option ℕ) → TellsFirst (cell_names c.cells) cell r → r ≡ Some port.cell
    cell_told r told = (told_first (cell_names c.cells) cell r port.cell told).1 (subst (λ (t : Text). IsFirst (cell_names c.cells) t port.cell) names.0 is.first)

    -- its number in its component
    pub pin_told : (s : Signature) → ShowsSignature s is.part → (r : Option ℕ) → ((list : List Text) → ShowsFirsts s.names list → TellsFirst list pin r) → r ≡ Some is.j
    pin_told s shows r tells =
        let told = tells (ports_in is.part) (subst (λ (l : List Text). ShowsFirsts s.names l) (names_both (inputs_in is.part) (outputs_in is.part)) shows.ports.names) in
        (told_first (ports_in is.part) pin r is.j told).1 (subst (λ (t : Text). IsFirst (ports_in is.part) t is.j) names.1 is.is)

  -- all that is told of it
  pub port_told : (number level j inputs : ℕ) → number ≡ port.cell → level ≡ port.level → j ≡ is.j → inputs ≡ length (inputs_in is.part)
      → ◌≡◌ {A = Option CellPort} (Some (record { cell = number; level = level; node = node; is_input = nat_lt j inputs })) (Some port)
  port_told number level j inputs number_is level_is j_is inputs_is = ap Some (ap₂ (λ a b. make a b node (nat_lt j inputs)) number_is level_is ∙ ap₂ (make port.cell port.level) (sym same) flag)
    where
      make : ℕ → ℕ → ℕ → Bool → CellPort
      make a b n f = record { cell = a; level = b; node = n; is_input = f }

      flag : nat_lt j inputs ≡ port.is_input
      flag = same_flag (nat_lt j inputs) port.is_input (λ e. let less = (Decides-ltb j inputs).0 e in is.side.1 (omega (arith, less, j_is, inputs_is))) (λ e. let less = is.side.0 e in (Decides-ltb j inputs).1 (omega (arith, less, j_is, inputs_is)))

-- it is that of a component
pub part_within : (design : Design) (c : Component) (cell : Text) (number : ℕ) (r : Option ℕ) → r ≡ Some number → TellsFirst (cell_names c.cells) cell r → (o : Option Prototype)
    → ((d : CellDef) → slice_get c.cells number ≡ Some d → IsMadeOf design d o) → (m : ℕ) → option_and_then made_component o ≡ Some m → m < length design
part_within design c cell number r some told o of m is =
    let first : TellsFirst (cell_names c.cells) cell (Some number) = subst (TellsFirst (cell_names c.cells) cell) some told in
    let within = (made_at_first design c cell number o first of).within in
    subst (λ (q : Option ℕ). IfSome q (λ n. n < length design)) is within

-- ---- all of them

module _ (design : Design) (c : Component) (g : WireGraph) (levels : List Levels) where
  -- all with a number below the end are listed
  abbrev pub AreFound : ℕ → List CellPort → Type 0
  AreFound end ports = (port : CellPort) → IsCellPort design c g levels port → port.node < end → Contains ports port

  abbrev pub TellsPort : ℕ → Option CellPort → Type 0
  TellsPort node told = (port : CellPort) → port.node ≡ node → IsCellPort design c g levels port → told ≡ Some port

  pub found_none : (end : ℕ) (ports : List CellPort) → AreFound end ports → TellsPort end None → AreFound (end + 1) ports
  found_none end ports found tells port is less =
      elim (cases_lt port.node end) [
        | inl before ↦ found port is before
        | inr here ↦ absurd (none-some port (tells port (omega (arith, here, less)) is))
      ]

  pub found_more : (end : ℕ) (ports : List CellPort) (told : CellPort) → AreFound end ports → TellsPort end (Some told) → AreFound (end + 1) (ports ++ told ∷ [])
  found_more end ports told found tells port is less =
      elim (cases_lt port.node end) [
        | inl before ↦ Contains-append_left ports (told ∷ []) port (found port is before)
        | inr here ↦ subst (λ (x : CellPort). Contains (ports ++ told ∷ []) x) (same_Some told port (tells port (omega (arith, here, less)) is)) (Contains-push ports told)
      ]

-- ---- levels of a component's own ports

module _ (c : Component) (keys : List Text) (levels : List ℕ) where
  -- so many are kept
  pub record AreKept (end : ℕ) (kept : List (Option ℕ)) : Type 0 where
    pub sized : length kept ≡ end
    pub each : (n node : ℕ) (port : Text) → n < end → slice_get (ports_in c) n ≡ Some port → slice_get keys node ≡ Some (key_of (APort (own port))) →
        slice_get kept n ≡ Some (Some (slice_index levels node))

  pub kept_more : (end : ℕ) (kept : List (Option ℕ)) (name : Text) (level : Option ℕ) → slice_get (ports_in c) end ≡ Some name
      → ((node : ℕ) → slice_get keys node ≡ Some (key_of (APort (own name))) → level ≡ Some (slice_index levels node)) → AreKept end kept → AreKept (end + 1) (kept ++ level ∷ [])
  kept_more end kept name level at tells so_far = record {
    sized = length-append kept (level ∷ []) ∙ ap (λ k. k + 1) so_far.sized;
    each = λ n node port less at_n at_node. elim (cases_lt n end) [
      | inl before ↦ slice_get-front kept (level ∷ []) n (Some (slice_index levels node)) (so_far.each n node port before at_n at_node)
      | inr past ↦
          let here : n ≡ end = omega (arith, less, past) in
          let named : name ≡ port = same_Some name port (sym at ∙ ap (slice_get (ports_in c)) (sym here) ∙ at_n) in
          ap (slice_get (kept ++ level ∷ [])) (here ∙ sym so_far.sized) ∙ slice_get-last kept level
          ∙ ap Some (tells node (subst (λ (t : Text). slice_get keys node ≡ Some (key_of (APort (own t)))) (sym named) at_node))
    ];
  }

  pub kept_all : (end : ℕ) (kept : Levels) → length (ports_in c) ≤ end → AreKept end kept.ports.items → KeepsOwn c keys levels kept
  kept_all end kept all are n node port at at_node = are.each n node port (omega (arith, slice_get_within (ports_in c) n port at, all)) at at_node
