-- The ports of cells that are made of components, as a graph has them: whose they are, and their nodes inside.
use Rattle.std.proofs.Common.{◌≡◌, ◌↔◌, inl, inr, ℕ, ◌+◌, ◌<◌, ◌≤◌, Bool, true, false, nat_lt, List, [], ◌∷◌, ◌++◌, Option, Some, None, option_and_then, length, get_or, slice_get, All, Contains, refl, sym, ap, ap₂, subst, ◌∙◌, arith}
use Rattle.std.specs.Prelude.{IfSome, take}
use Rattle.std.proofs.lemmas.Bool.{cases_lt}
use Rattle.std.proofs.lemmas.Bool.Decides.{Decides-ltb}
use Rattle.std.proofs.lemmas.List.{take_all, take_more}
use Rattle.std.proofs.lemmas.List.Elements.{Contains-append_left, Contains-get_or, Contains-push, Contains-push_cases}
use Rattle.std.proofs.lemmas.Option.{get_or_from_slice_get, none-some, same_Some, slice_get_within}
use Rattle.hw_cells.specs.declared.cell.Pin.{Pin}
use Rattle.hw_graph.proofs.MemberLemmas.{contains_of, in_of}
use Rattle.hw_graph.specs.Graph.{HasRead}
use Rattle.hw_graph.specs.Groups.{IsGathered}
use Rattle.hw_graph.specs.declared.groups.Entry.{Entry}
use Rattle.hw_names.specs.Name.{Text}
use Rattle.cal_ast.proofs.ListLemmas.{Contains-none}
use Rattle.cal_ast.specs.Naming.{cell_names}
use Rattle.cal_ast.specs.Ports.{inputs_in, outputs_in, part_in}
use Rattle.cal_ast.specs.Tree.{CellDef, Component, Design, port_of}
use Rattle.cal_place.specs.FirstPlaces.{IsFirst, ShowsFirsts, TellsFirst}
use Rattle.cal_place.specs.Prototypes.{made_component}
use Rattle.cal_place.specs.Signatures.{ShowsSignature}
use Rattle.cal_loops.specs.inside.CellPins.{AreCellPorts, ArePins, IsInputPin, IsOutputPin, IsPinAt, IsPortOfCell, TellsPin}
use Rattle.cal_wires.specs.Nodes.{APort, key_of, ports_in}
use Rattle.hw_cells.specs.declared.cell.CellPin.{CellPin}
use Rattle.cal_loops.specs.declared.cells.inside.Inside.{Inside}
use Rattle.cal_place.specs.declared.prototype.Prototype.{Prototype}
use Rattle.cal_place.specs.declared.signature.Signature.{Signature}
use Rattle.cal_wires.specs.declared.graph.WireGraph.{WireGraph}
use Rattle.cal_place.proofs.FoundLemmas.{from_map}
use Rattle.cal_place.proofs.GraphLemmas.{entry_read, exists_at, read_entry}
use Rattle.cal_wires.proofs.FullNameLemmas.{same_pin}
use Rattle.cal_place.proofs.SidedNameLemmas.{names_both}
use Rattle.cal_place.proofs.PlaceLemmas.{IsMadeIn}
use Rattle.cal_place.proofs.PlaceTableLemmas.{told_first}

-- ---- the cell of a port

module _ (design : Design) (c : Component) (g : WireGraph) (node : ℕ) where
  -- the node is no port of a cell
  pub no_cell_port : ((cell pin : Text) → slice_get g.ports.keys node ≡ Some (key_of (APort (port_of cell pin))) → ⊥) → (k : ℕ) → (◌≡◌ {A = Option ℕ} None (Some k)) ↔ IsPortOfCell design c g k node
  no_cell_port none k = (λ e. absurd (none-some k e), λ is. absurd (none is.name is.pin is.at.at))

  module _ (cell pin : Text) (at : slice_get g.ports.keys node ≡ Some (key_of (APort (port_of cell pin)))) where
    same_cell : (k : ℕ) (is : IsPortOfCell design c g k node) → is.name ≡ cell
    same_cell k is = (same_pin is.name cell is.pin pin (same_Some (key_of (APort (port_of is.name is.pin))) (key_of (APort (port_of cell pin))) (sym is.at.at ∙ at))).0

    -- of a cell that is not there
    pub no_cell : (r : Option ℕ) → TellsFirst (cell_names c.cells) cell r → r ≡ None → (k : ℕ) → (◌≡◌ {A = Option ℕ} None (Some k)) ↔ IsPortOfCell design c g k node
    no_cell r told none k = (
      λ e. absurd (none-some k e),
      λ is.
          let first = subst (λ (t : Text). IsFirst (cell_names c.cells) t k) (same_cell k is) is.first in
          absurd (none-some k (sym none ∙ (told_first (cell_names c.cells) cell r k told).1 first)),
    )

    -- of one that is not made of a component
    pub no_part : (made : Option Prototype) → IsMadeIn design c cell made → option_and_then made_component made ≡ None → (k : ℕ) → (◌≡◌ {A = Option ℕ} None (Some k)) ↔ IsPortOfCell design c g k node
    no_part made is_made none k = (
      λ e. absurd (none-some k e),
      λ is.
          let part : part_in design c cell ≡ None = is_made.part ∙ ap (option_and_then (slice_get design)) none in
          absurd (none-some is.part (sym part ∙ ap (part_in design c) (sym (same_cell k is)) ∙ is.made)),
    )

    -- of one that is
    pub cell_told : (number : ℕ) → IsFirst (cell_names c.cells) cell number → (made : Option Prototype) → IsMadeIn design c cell made → (m : ℕ) → option_and_then made_component made ≡ Some m → (k : ℕ)
        → (Some number ≡ Some k) ↔ IsPortOfCell design c g k node
    cell_told number first made is_made m some k = (to, from)
      where
        to : Some number ≡ Some k → IsPortOfCell design c g k node
        to e =
            let within : m < length design = subst (λ (o : Option ℕ). IfSome o (λ i. i < length design)) some is_made.within in
            let part = exists_at design m within in
            record {
              name = cell;
              pin = pin;
              first = subst (IsFirst (cell_names c.cells) cell) (same_Some number k e) first;
              part = part.0;
              made = is_made.part ∙ ap (option_and_then (slice_get design)) some ∙ part.1;
              at = record { has_key = tt; at = at };
            }

        from : IsPortOfCell design c g k node → Some number ≡ Some k
        from is =
            let own = subst (λ (t : Text). IsFirst (cell_names c.cells) t k) (same_cell k is) is.first in
            (told_first (cell_names c.cells) cell (Some number) k first).1 own

-- ---- the ports of cells, by the numbers of the cells

module _ (design : Design) (c : Component) (g : WireGraph) where
  -- those below the end
  abbrev pub AreCellPortsBelow : ℕ → List Entry → Type 0
  AreCellPortsBelow end entries = (cell node : ℕ) → Contains entries (record { key = cell; value = node }) ↔ ((node < end) × IsPortOfCell design c g cell node)

  abbrev pub TellsCell : ℕ → Option ℕ → Type 0
  TellsCell node told = (k : ℕ) → (told ≡ Some k) ↔ IsPortOfCell design c g k node

  pub ports_none : AreCellPortsBelow 0 []
  ports_none cell node = (λ has. absurd (Contains-none (record { key = cell; value = node }) has), λ r. absurd (omega (arith, r.0)))

  pub ports_same : (end : ℕ) (entries : List Entry) → TellsCell end None → AreCellPortsBelow end entries → AreCellPortsBelow (end + 1) entries
  ports_same end entries tells are cell node = (
    λ has. let r = (are cell node).0 has in (omega (arith, r.0), r.1),
    λ r. elim (cases_lt node end) [
      | inl before ↦ (are cell node).1 (before, r.1)
      | inr past ↦
          let here : node ≡ end = omega (arith, r.0, past) in
          absurd (none-some cell ((tells cell).1 (subst (IsPortOfCell design c g cell) here r.1)))
    ],
  )

  pub ports_more : (end : ℕ) (entries : List Entry) (number : ℕ) → TellsCell end (Some number) → AreCellPortsBelow end entries → AreCellPortsBelow (end + 1) (entries ++ (record { key = number; value = end }) ∷ [])
  ports_more end entries number tells are cell node = (to, from)
    where
      last : Entry
      last = record { key = number; value = end }

      to : Contains (entries ++ last ∷ []) (record { key = cell; value = node }) → (node < end + 1) × IsPortOfCell design c g cell node
      to has =
          elim (Contains-push_cases entries last (record { key = cell; value = node }) has) [
            | inl before ↦ (let r = (are cell node).0 before in (omega (arith, r.0), r.1))
            | inr e ↦
                let is_cell : number ≡ cell = ap (λ (x : Entry). x.key) e in
                let is_node : end ≡ node = ap (λ (x : Entry). x.value) e in
                (omega (arith, is_node), subst (IsPortOfCell design c g cell) is_node ((tells cell).0 (ap Some is_cell)))
          ]

      from : (node < end + 1) × IsPortOfCell design c g cell node → Contains (entries ++ last ∷ []) (record { key = cell; value = node })
      from r =
          elim (cases_lt node end) [
            | inl before ↦ Contains-append_left entries (last ∷ []) (record { key = cell; value = node }) ((are cell node).1 (before, r.1))
            | inr past ↦
                let here : node ≡ end = omega (arith, r.0, past) in
                let is_cell : number ≡ cell = same_Some number cell ((tells cell).1 (subst (IsPortOfCell design c g cell) here r.1)) in
                let make : ℕ → ℕ → Entry = λ a b. record { key = a; value = b } in
                subst (Contains (entries ++ last ∷ [])) (ap₂ make is_cell (sym here)) (Contains-push entries last)
          ]

  pub ports_all : (end : ℕ) (entries : List Entry) → length g.ports.keys ≤ end → AreCellPortsBelow end entries → AreCellPorts design c g entries
  ports_all end entries all are cell node = (
    λ has. ((are cell node).0 has).1,
    λ is. (are cell node).1 (omega (arith, all, slice_get_within g.ports.keys node (key_of (APort (port_of is.name is.pin))) is.at.at), is),
  )

  -- each has a cell
  pub ports_within : (entries : List Entry) → AreCellPorts design c g entries → All (λ (entry : Entry). entry.key < length c.cells) entries
  ports_within entries are = λ k d lt. each (get_or entries k d) (Contains-get_or entries k d lt)
    where
      each : (entry : Entry) → Contains entries entry → entry.key < length c.cells
      each entry has =
          let is = (are entry.key entry.value).0 has in
          let def = from_map (λ (d : CellDef). d.name) c.cells entry.key is.name is.first.here in
          slice_get_within c.cells entry.key def.0 def.1

  -- gathered, each cell has its own
  pub ports_gathered : (entries : List Entry) → AreCellPorts design c g entries → (count : ℕ) (groups : List (List ℕ)) → IsGathered entries count groups → (number : ℕ) → number < count → (ports : List ℕ) → slice_get groups number ≡ Some ports
      → (node : ℕ) → Contains ports node ↔ IsPortOfCell design c g number node
  ports_gathered entries are count groups gathered number less ports at node = (to, from)
    where
      is : get_or groups number [] ≡ ports
      is = get_or_from_slice_get groups number ports [] at

      to : Contains ports node → IsPortOfCell design c g number node
      to has =
          let read : HasRead groups number node = subst (λ (l : List ℕ). Contains l node) (sym is) has in
          (are number node).0 (contains_of entries (record { key = number; value = node }) (read_entry entries count groups gathered number node read))

      from : IsPortOfCell design c g number node → Contains ports node
      from own =
          let there = in_of entries (record { key = number; value = node }) ((are number node).1 own) in
          subst (λ (l : List ℕ). Contains l node) is (entry_read entries count groups gathered number node less there)

  pub nodes_within : (number : ℕ) (ports : List ℕ) → ((node : ℕ) → Contains ports node ↔ IsPortOfCell design c g number node) → All (λ (node : ℕ). node < length g.ports.keys) ports
  nodes_within number ports are = λ k d lt. each (get_or ports k d) (Contains-get_or ports k d lt)
    where
      each : (node : ℕ) → Contains ports node → node < length g.ports.keys
      each node has = let is = (are node).0 has in slice_get_within g.ports.keys node (key_of (APort (port_of is.name is.pin))) is.at.at

-- ---- the pin of a port

-- the place of a name among a component's ports
pub place_told : (s : Signature) (part : Component) → ShowsSignature s part → (name : Text) (r : Option ℕ) → ((list : List Text) → ShowsFirsts s.names list → TellsFirst list name r) → TellsFirst (ports_in part) name r
place_told s part shows name r tells =
    tells (ports_in part) (subst (λ (l : List Text). ShowsFirsts s.names l) (names_both (inputs_in part) (outputs_in part)) shows.ports.names)

module _ (g : WireGraph) (part : Component) (inside : Inside) (port : ℕ) where
  -- it has none
  pub no_pin : ((number : ℕ) (pin : Pin) → pin.port ≡ port → IsPinAt g part inside number pin → ⊥) → TellsPin g part inside port None
  no_pin none = record {
    same = tt;
    input = λ pin e. (λ some. absurd (none-some (record { pin = pin; is_input = true }) some), λ is. absurd (none is.0 pin e is.2));
    output = λ pin e. (λ some. absurd (none-some (record { pin = pin; is_input = false }) some), λ is. absurd (none is.0 pin e is.2));
  }

  -- the port is none of a cell
  pub no_pin_port : ((cell pin : Text) → slice_get g.ports.keys port ≡ Some (key_of (APort (port_of cell pin))) → ⊥) → TellsPin g part inside port None
  no_pin_port none = no_pin (λ number pin e is. none is.cell is.name (ap (slice_get g.ports.keys) (sym e) ∙ is.at.at))

  module _ (cell name : Text) (at : slice_get g.ports.keys port ≡ Some (key_of (APort (port_of cell name)))) (r : Option ℕ) (told : TellsFirst (ports_in part) name r) where
    number_told : (number : ℕ) (pin : Pin) → pin.port ≡ port → IsPinAt g part inside number pin → r ≡ Some number
    number_told number pin e is =
        let key = same_Some (key_of (APort (port_of is.cell is.name))) (key_of (APort (port_of cell name))) (sym is.at.at ∙ ap (slice_get g.ports.keys) e ∙ at) in
        let same : is.name ≡ name = (same_pin is.cell cell is.name name key).1 in
        (told_first (ports_in part) name r number told).1 (subst (λ (t : Text). IsFirst (ports_in part) t number) same is.first)

    -- its component has no such port
    pub no_number : r ≡ None → TellsPin g part inside port None
    no_number none = no_pin (λ number pin e is. none-some number (sym none ∙ number_told number pin e is))

    module _ (j : ℕ) (found : r ≡ Some j) where
      -- the port has no node inside
      pub no_node : ((node : ℕ) → slice_get inside.graph.nodes.items j ≡ Some (Some node) → ⊥) → TellsPin g part inside port None
      no_node none =
          no_pin (λ number pin e is.
          let same : number ≡ j = same_Some number j (sym (number_told number pin e is) ∙ found) in
          none pin.node (ap (slice_get inside.graph.nodes.items) (sym same) ∙ is.node))

      module _ (node inputs : ℕ) (there : slice_get inside.graph.nodes.items j ≡ Some (Some node)) (sized : inputs ≡ length (inputs_in part)) where
        abbrev make : Pin → Bool → CellPin
        make pin is_input = record { pin = pin; is_input = is_input }

        abbrev own : Pin
        own = record { port = port; node = node }

        is_own : IsPinAt g part inside j own
        is_own = record {
          cell = cell;
          name = name;
          at = record { has_key = tt; at = at };
          first = subst (λ (o : Option ℕ). TellsFirst (ports_in part) name o) found told;
          node = there;
        }

        module _ (pin : Pin) (same : pin.port ≡ port) where
          pin_is : (side : Bool) → Some (make own (nat_lt j inputs)) ≡ Some (make pin side) → IsPinAt g part inside j pin × (nat_lt j inputs ≡ side)
          pin_is side e =
              let one = same_Some (make own (nat_lt j inputs)) (make pin side) e in
              (subst (IsPinAt g part inside j) (ap (λ (x : CellPin). x.pin) one) is_own, ap (λ (x : CellPin). x.is_input) one)

          is_pin : (number : ℕ) → IsPinAt g part inside number pin → (number ≡ j) × (own ≡ pin)
          is_pin number is =
              let here : number ≡ j = same_Some number j (sym (number_told number pin same is) ∙ found) in
              let nodes : node ≡ pin.node = same_Some node pin.node (same_Some (Some node) (Some pin.node) (sym there ∙ ap (slice_get inside.graph.nodes.items) (sym here) ∙ is.node)) in
              let pair : ℕ → ℕ → Pin = λ a b. record { port = a; node = b } in
              (here, ap₂ pair (sym same) nodes)

          input : (Some (make own (nat_lt j inputs)) ≡ Some (make pin true)) ↔ IsInputPin g part inside pin
          input = (
            λ e.
                let is = pin_is true e in
                let less = (Decides-ltb j inputs).0 is.1 in
                (j, omega (arith, less, sized), is.0),
            λ is.
                let same_pin' = is_pin is.0 is.2 in
                let flag : nat_lt j inputs ≡ true = (Decides-ltb j inputs).1 (omega (arith, is.1, same_pin'.0, sized)) in
                ap Some (ap₂ make same_pin'.1 flag),
          )

          output : (Some (make own (nat_lt j inputs)) ≡ Some (make pin false)) ↔ IsOutputPin g part inside pin
          output = (
            λ e.
                let is = pin_is false e in
                (j, past (nat_lt j inputs) refl is.1, is.0),
            λ is.
                let same_pin' = is_pin is.0 is.2 in
                ap Some (ap₂ make same_pin'.1 (flag (nat_lt j inputs) refl is.1 same_pin'.0)),
          )
            where
              past : (b : Bool) → nat_lt j inputs ≡ b → b ≡ false → length (inputs_in part) ≤ j
              past true is e = absurd (cc)
              past false is e =
                  elim (cases_lt j inputs) [
                    | inl less ↦ (let yes' = (Decides-ltb j inputs).1 less in absurd (cc))
                    | inr more ↦ omega (arith, more, sized)
                  ]

              flag : (b : Bool) → nat_lt j inputs ≡ b → {number : ℕ} → length (inputs_in part) ≤ number → number ≡ j → b ≡ false
              flag true is more here = (let less = (Decides-ltb j inputs).0 is in absurd (omega (arith, less, more, here, sized)))
              flag false is more here = refl

        pub pin_told : TellsPin g part inside port (Some (record { pin = record { port = port; node = node }; is_input = nat_lt j inputs }))
        pin_told = record { same = refl; input = input; output = output }

-- ---- the pins of a cell

module _ (P : Pin → Type 0) (ports : List ℕ) (pins : List Pin) (port : ℕ) where
  pub pins_more : (pin : Pin) → pin.port ≡ port → P pin → ((other : Pin) → other.port ≡ port → P other → pin ≡ other) → ArePins P ports pins → ArePins P (ports ++ port ∷ []) (pins ++ pin ∷ [])
  pins_more pin same holds once are other = (to, from)
    where
      to : Contains (pins ++ pin ∷ []) other → Contains (ports ++ port ∷ []) other.port × P other
      to has =
          elim (Contains-push_cases pins pin other has) [
            | inl before ↦ (let r = (are other).0 before in (Contains-append_left ports (port ∷ []) other.port r.0, r.1))
            | inr e ↦
                let there : port ≡ other.port = sym same ∙ ap (λ (x : Pin). x.port) e in
                (subst (Contains (ports ++ port ∷ [])) there (Contains-push ports port), subst P e holds)
          ]

      from : Contains (ports ++ port ∷ []) other.port × P other → Contains (pins ++ pin ∷ []) other
      from r =
          elim (Contains-push_cases ports port other.port r.0) [
            | inl before ↦ Contains-append_left pins (pin ∷ []) other ((are other).1 (before, r.1))
            | inr e ↦ subst (Contains (pins ++ pin ∷ [])) (once other (sym e) r.1) (Contains-push pins pin)
          ]

  pub pins_same : ((other : Pin) → other.port ≡ port → P other → ⊥) → ArePins P ports pins → ArePins P (ports ++ port ∷ []) pins
  pins_same none are other = (
    λ has. let r = (are other).0 has in (Contains-append_left ports (port ∷ []) other.port r.0, r.1),
    λ r. elim (Contains-push_cases ports port other.port r.0) [
      | inl before ↦ (are other).1 (before, r.1)
      | inr e ↦ absurd (none other (sym e) r.1)
    ],
  )

-- both sides of a cell
pub record HasBoth (g : WireGraph) (part : Component) (inside : Inside) (ports : List ℕ) (output_pins input_pins : List Pin) : Type 0 where
  pub outputs : ArePins (IsOutputPin g part inside) ports output_pins
  pub inputs : ArePins (IsInputPin g part inside) ports input_pins

pub no_pins : (P : Pin → Type 0) (pins : List Pin) → pins ≡ [] → ArePins P [] pins
no_pins P pins none pin = (λ has. absurd (Contains-none pin (subst (λ (l : List Pin). Contains l pin) none has)), λ r. absurd (Contains-none pin.port r.0))

module _ (g : WireGraph) (part : Component) (inside : Inside) (ports : List ℕ) (outputs inputs : List Pin) (are : HasBoth g part inside ports outputs inputs) (port : ℕ) where
  pub both_none : TellsPin g part inside port None → HasBoth g part inside (ports ++ port ∷ []) outputs inputs
  both_none tells = record {
    outputs = pins_same (IsOutputPin g part inside) ports outputs port (λ other e is. none-some (record { pin = other; is_input = false }) ((tells.output other e).1 is)) are.outputs;
    inputs = pins_same (IsInputPin g part inside) ports inputs port (λ other e is. none-some (record { pin = other; is_input = true }) ((tells.input other e).1 is)) are.inputs;
  }

  module _ (pin : Pin) where
    abbrev told : Bool → CellPin
    told side = record { pin = pin; is_input = side }

    found : (side other_side : Bool) (other : Pin) → Some (told side) ≡ Some (record { pin = other; is_input = other_side }) → (pin ≡ other) × (side ≡ other_side)
    found side other_side other e =
        let one = same_Some (told side) (record { pin = other; is_input = other_side }) e in
        (ap (λ (x : CellPin). x.pin) one, ap (λ (x : CellPin). x.is_input) one)

    pub both_output : TellsPin g part inside port (Some (record { pin = pin; is_input = false })) → HasBoth g part inside (ports ++ port ∷ []) (outputs ++ pin ∷ []) inputs
    both_output tells = record {
      outputs = pins_more (IsOutputPin g part inside) ports outputs port pin tells.same ((tells.output pin tells.same).0 refl) (λ other e is. (found false false other ((tells.output other e).1 is)).0) are.outputs;
      inputs = pins_same (IsInputPin g part inside) ports inputs port (λ other e is. let no' = (found false true other ((tells.input other e).1 is)).1 in absurd (cc)) are.inputs;
    }

    pub both_input : TellsPin g part inside port (Some (record { pin = pin; is_input = true })) → HasBoth g part inside (ports ++ port ∷ []) outputs (inputs ++ pin ∷ [])
    both_input tells = record {
      outputs = pins_same (IsOutputPin g part inside) ports outputs port (λ other e is. let no' = (found true false other ((tells.output other e).1 is)).1 in absurd (cc)) are.outputs;
      inputs = pins_more (IsInputPin g part inside) ports inputs port pin tells.same ((tells.input pin tells.same).0 refl) (λ other e is. (found true true other ((tells.input other e).1 is)).0) are.inputs;
    }

-- ---- over all ports of a list

module _ (g : WireGraph) (part : Component) (inside : Inside) (ports : List ℕ) (k : ℕ) (outputs inputs : List Pin) where
  -- one port more
  pub both_on : k < length ports → HasBoth g part inside (take k ports ++ get_or ports k 0 ∷ []) outputs inputs → HasBoth g part inside (take (k + 1) ports) outputs inputs
  both_on less both = subst (λ (l : List ℕ). HasBoth g part inside l outputs inputs) (sym (take_more ports k 0 less)) both

  pub both_all : length ports ≤ k → HasBoth g part inside (take k ports) outputs inputs → HasBoth g part inside ports outputs inputs
  both_all past both = subst (λ (l : List ℕ). HasBoth g part inside l outputs inputs) (take_all k ports past) both
