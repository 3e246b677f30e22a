-- A graph of a component's ports alone leads as the graph of all that it is made of.
use Rattle.std.proofs.Common.{◌≡◌, ◌↔◌, ◌⊎◌, inl, inr, ℕ, ◌+◌, ◌<◌, ◌≤◌, List, [], ◌∷◌, ◌++◌, Option, Some, None, length, get_or, slice_get, Contains, refl, sym, ap, ap₂, subst, ◌∙◌, arith}
use Rattle.std.specs.Borrow.{Bor}
use Rattle.std.specs.Prelude.{IfSome}
use Rattle.std.specs.Option.{option_copied, option_flatten}
use Rattle.std.specs.Slice.{IsItemAt}
use Rattle.std.proofs.lemmas.Bool.{cases_lt}
use Rattle.std.proofs.lemmas.List.Elements.{Contains-append_left, Contains-get_or, Contains-push, Contains-push_cases}
use Rattle.std.proofs.lemmas.Option.{none-some, same_Some, slice_get_past, slice_get_within, slice_get-get_or}
use Rattle.hw_cells.specs.Cells.{HasOwnNodes, IsCondensed, IsFit, IsOrReaches, IsPinWithin, IsTold, ReadsThrough}
use Rattle.hw_cells.specs.declared.cell.Cell.{Cell}
use Rattle.hw_cells.specs.declared.cell.Pin.{Pin}
use Rattle.hw_cells.specs.declared.told.Told.{Told}
use Rattle.hw_graph.specs.Graph as graph
use Rattle.hw_graph.specs.Graph.{AreInRange}
use Rattle.hw_cells.specs.PartGraph.{Leads, LeadsAlike}
use Rattle.hw_cells.specs.declared.part_graph.PartGraph.{PartGraph}
use Rattle.hw_cells.specs.inside.Ports.{IsOfPorts, IsPinBetween}

-- ---- the pins of ports from a start to an end

abbrev pub AreBetween : List (Option ℕ) → ℕ → ℕ → List Pin → Type 0
AreBetween nodes start end pins = (pin : Pin) → Contains pins pin ↔ IsPinBetween nodes start end pin

pub between_none : (nodes : List (Option ℕ)) (start end : ℕ) → end ≤ start → AreBetween nodes start end []
between_none nodes start end past pin = (λ has. absurd (omega (arith, has.1)), λ is. absurd (omega (arith, is.from, is.to, past)))

-- so far: all numbers from the start on are below the port, which is past the end only where the start is
pub record AreSoFar (nodes : List (Option ℕ)) (start end port : ℕ) (pins : List Pin) : Type 0 where
  pub are : AreBetween nodes start port pins
  pub low : start ≤ port
  pub high : (port ≤ end) ⊎ (port ≡ start)

module _ (nodes : List (Option ℕ)) (start end : ℕ) (pins : List Pin) (are : AreBetween nodes start end pins) where
  wider : (pin : Pin) → IsPinBetween nodes start end pin → IsPinBetween nodes start (end + 1) pin
  wider pin is = record { from = is.from; to = omega (arith, is.to); has_node = is.has_node }

  pub between_same : ((node : ℕ) → slice_get nodes end ≡ Some (Some node) → ⊥) → AreBetween nodes start (end + 1) pins
  between_same none pin = (
    λ has. wider pin ((are pin).0 has),
    λ is. elim (cases_lt pin.port end) [
      | inl before ↦ (are pin).1 (record { from = is.from; to = before; has_node = is.has_node })
      | inr past ↦
          (let here : pin.port ≡ end = omega (arith, is.to, past) in
          absurd (none pin.node (subst (λ (k : ℕ). slice_get nodes k ≡ Some (Some pin.node)) here is.has_node)))
    ],
  )

  pub between_more : (node : ℕ) → start ≤ end → slice_get nodes end ≡ Some (Some node) → AreBetween nodes start (end + 1) (pins ++ record { port = end; node = node } ∷ [])
  between_more node from at pin = (
    λ has. elim (Contains-push_cases pins last pin has) [
      | inl early ↦ wider pin ((are pin).0 early)
      | inr same ↦ subst (IsPinBetween nodes start (end + 1)) same (record { from = from; to = omega arith; has_node = at })
    ],
    λ is. elim (cases_lt pin.port end) [
      | inl before ↦ Contains-append_left pins (last ∷ []) pin ((are pin).1 (record { from = is.from; to = before; has_node = is.has_node }))
      | inr past ↦
          (let here : pin.port ≡ end = omega (arith, is.to, past) in
          let its = subst (λ (k : ℕ). slice_get nodes k ≡ Some (Some pin.node)) here is.has_node in
          let node_is : node ≡ pin.node = same_Some node pin.node (same_Some (Some node) (Some pin.node) (sym at ∙ its)) in
          let make : ℕ → ℕ → Pin = λ a b. record { port = a; node = b } in
          subst (Contains (pins ++ last ∷ [])) (ap₂ make (sym here) node_is) (Contains-push pins last))
    ],
  )
    where
      last : Pin
      last = record { port = end; node = node }

pub far_none : (nodes : List (Option ℕ)) (start end : ℕ) → AreSoFar nodes start end start []
far_none nodes start end = record { are = between_none nodes start start (omega arith); low = omega arith; high = inr refl }

pub far_same : (nodes : List (Option ℕ)) (start end port : ℕ) (pins : List Pin) → port < end → ((node : ℕ) → slice_get nodes port ≡ Some (Some node) → ⊥) → AreSoFar nodes start end port pins → AreSoFar nodes start end (port + 1) pins
far_same nodes start end port pins within none far = record { are = between_same nodes start port pins far.are none; low = omega (arith, far.low); high = inl (omega (arith, within)) }

pub far_more : (nodes : List (Option ℕ)) (start end port node : ℕ) (pins : List Pin) → port < end → slice_get nodes port ≡ Some (Some node) → AreSoFar nodes start end port pins → AreSoFar nodes start end (port + 1) (pins ++ record { port = port; node = node } ∷ [])
far_more nodes start end port node pins within at far = record { are = between_more nodes start port pins far.are node far.low at; low = omega (arith, far.low); high = inl (omega (arith, within)) }

pub far_all : (nodes : List (Option ℕ)) (start end port : ℕ) (pins : List Pin) → end ≤ port → AreSoFar nodes start end port pins → AreBetween nodes start end pins
far_all nodes start end port pins past far = elim far.high [
  | inl within ↦ let here : port ≡ end = omega (arith, past, within) in subst (λ (k : ℕ). AreBetween nodes start k pins) here far.are
  | inr at_start ↦ (λ pin. (
    λ has. (let is = (far.are pin).0 has in absurd (omega (arith, is.from, is.to, at_start))),
    λ is. absurd (omega (arith, is.from, is.to, past, at_start)),
  ))
]

-- ---- the component as a cell

-- no port stands before a number and from it on
pub on_one_side : (nodes : List (Option ℕ)) (inputs ports : ℕ) (outputs ins : List Pin) → AreBetween nodes inputs ports outputs → AreBetween nodes 0 inputs ins → (output input : Pin) → Contains outputs output → Contains ins input → output.port ≡ input.port → ⊥
on_one_side nodes inputs ports outputs ins are_outputs are_inputs output input has_output has_input same =
    let o = (are_outputs output).0 has_output in
    let i = (are_inputs input).0 has_input in
    omega (arith, o.from, i.to, same)

module _ (part : PartGraph) (ports : ℕ) (cell : Cell) (nodes : List (Option ℕ)) (nodes_are : nodes ≡ part.nodes.items) (ports_are : ports ≡ length part.nodes.items)
    (reads_are : cell.reads.now ≡ part.reads) (outputs : AreBetween nodes part.inputs ports cell.outputs.items) (ins : AreBetween nodes 0 part.inputs cell.inputs.items) where
  has_node : (n node : ℕ) → slice_get nodes n ≡ Some (Some node) → slice_get part.nodes.items n ≡ Some (Some node)
  has_node n node at = subst (λ (list : List (Option ℕ)). slice_get list n ≡ Some (Some node)) nodes_are at

  node_at : (n node : ℕ) → slice_get part.nodes.items n ≡ Some (Some node) → slice_get nodes n ≡ Some (Some node)
  node_at n node at = subst (λ (list : List (Option ℕ)). slice_get list n ≡ Some (Some node)) (sym nodes_are) at

  pin_within : HasOwnNodes part.reads part.nodes.items → (pin : Pin) → slice_get nodes pin.port ≡ Some (Some pin.node) → IsPinWithin ports (length cell.reads.now) pin
  pin_within within pin at =
      let there = has_node pin.port pin.node at in (
        omega (arith, slice_get_within part.nodes.items pin.port (Some pin.node) there, ports_are),
        subst (λ (r : List (List ℕ)). pin.node < length r) (sym reads_are) (within pin.port pin.node there),
      )

  pub ports_fit : IfSome cell.told (λ (told : Bor Told). IsTold cell.reads.now told.now) → AreInRange part.reads → HasOwnNodes part.reads part.nodes.items → IsFit ports cell
  ports_fit told in_range within = record {
    in_range = subst AreInRange (sym reads_are) in_range;
    told = told;
    outputs = λ k d lt.
        (let pin = get_or cell.outputs.items k d in pin_within within pin ((outputs pin).0 (Contains-get_or cell.outputs.items k d lt)).has_node);
    inputs = λ k d lt. (let pin = get_or cell.inputs.items k d in pin_within within pin ((ins pin).0 (Contains-get_or cell.inputs.items k d lt)).has_node);
  }

  through_leads : (n m : ℕ) → ReadsThrough cell n m → Leads part n m
  through_leads n m t =
      let o = (outputs t.output).0 t.has_output in
      let i = (ins t.input).0 t.has_input in
      record {
        node = (t.output).node;
        other = (t.input).node;
        is_node = subst (λ (k : ℕ). slice_get part.nodes.items k ≡ Some (Some (t.output).node)) t.is_output (has_node (t.output).port (t.output).node o.has_node);
        is_other = subst (λ (k : ℕ). slice_get part.nodes.items k ≡ Some (Some (t.input).node)) t.is_input (has_node (t.input).port (t.input).node i.has_node);
        leads = subst (λ (r : List (List ℕ)). IsOrReaches r (t.output).node (t.input).node) reads_are t.reaches;
      }

  leads_through : (n m : ℕ) → part.inputs ≤ n → m < part.inputs → Leads part n m → ReadsThrough cell n m
  leads_through n m from to l =
      let output : Pin = record { port = n; node = l.node } in
      let input : Pin = record { port = m; node = l.other } in
      let end : n < ports = omega (arith, slice_get_within part.nodes.items n (Some l.node) l.is_node, ports_are) in
      record {
        output = output;
        input = input;
        has_output = (outputs output).1 (record { from = from; to = end; has_node = node_at n l.node l.is_node });
        has_input = (ins input).1 (record { from = omega arith; to = to; has_node = node_at m l.other l.is_other });
        is_output = refl;
        is_input = refl;
        reaches = subst (λ (r : List (List ℕ)). IsOrReaches r l.node l.other) (sym reads_are) l.leads;
      }

  of_ports : (reads : List (List ℕ)) → IsCondensed ports cell reads → IsOfPorts part reads
  of_ports reads is = record {
    all = is.all ∙ ports_are;
    in_range = is.in_range;
    reaches = λ n m from to. (λ way. through_leads n m ((is.reaches n m).0 way), λ leads. (is.reaches n m).1 (leads_through n m from to leads));
  }

  pub kept_of_ports : (kept : Option (List (List ℕ))) → IfSome kept (IsCondensed ports cell) → IfSome kept (IsOfPorts part)
  kept_of_ports None none = none
  kept_of_ports (Some reads) is = of_ports reads is

-- ---- what is known of the component

module _ (old new : PartGraph) (inputs_are : new.inputs ≡ old.inputs) (is : IsOfPorts old new.reads) (all : length new.nodes.items ≡ length old.nodes.items)
    (each : (n : ℕ) → n < length old.nodes.items → slice_get new.nodes.items n ≡ Some (Some n)) where
  -- the node of a port is its number
  own_number : (n node : ℕ) → slice_get new.nodes.items n ≡ Some (Some node) → (n ≡ node) × (n < length old.nodes.items)
  own_number n node at =
      let lt : n < length old.nodes.items = omega (arith, slice_get_within new.nodes.items n (Some node) at, all) in
      (same_Some n node (same_Some (Some n) (Some node) (sym (each n lt) ∙ at)), lt)

  to_old : (n m : ℕ) → old.inputs ≤ n → m < old.inputs → Leads new n m → Leads old n m
  to_old n m from to l =
      let node = own_number n l.node l.is_node in
      let other = own_number m l.other l.is_other in
      elim l.leads [
        | inl same ↦ absurd (omega (arith, node.0, other.0, same, from, to))
        | inr way ↦ (is.reaches n m from to).0 (subst (λ (k : ℕ). graph.Reaches new.reads k m) (sym node.0) (subst (graph.Reaches new.reads l.node) (sym other.0) way))
      ]

  to_new : (n m : ℕ) → old.inputs ≤ n → m < old.inputs → Leads old n m → Leads new n m
  to_new n m from to l = record {
    node = n;
    other = m;
    is_node = each n (slice_get_within old.nodes.items n (Some l.node) l.is_node);
    is_other = each m (slice_get_within old.nodes.items m (Some l.other) l.is_other);
    leads = inr ((is.reaches n m from to).1 l);
  }

  pub leads_alike : LeadsAlike old new
  leads_alike = record { inputs = inputs_are; all = all; leads = λ n m from to. (to_old n m from to, to_new n m from to) }

-- ---- what is looked up

-- what is told of a node that may not be there
pub flat_none : (o : Option (Option ℕ)) (f : Option ℕ) → f ≡ option_flatten o → f ≡ None → (node : ℕ) → o ≡ Some (Some node) → ⊥
flat_none None f is none node e = none-some (Some node) e
flat_none (Some None) f is none node e = none-some node (same_Some None (Some node) e)
flat_none (Some (Some k)) f is none node e = none-some k (sym none ∙ is)

pub flat_some : (o : Option (Option ℕ)) (f : Option ℕ) → f ≡ option_flatten o → (node : ℕ) → f ≡ Some node → o ≡ Some (Some node)
flat_some None f is node some = absurd (none-some node (sym is ∙ some))
flat_some (Some None) f is node some = absurd (none-some node (sym is ∙ some))
flat_some (Some (Some k)) f is node some = ap Some (sym is ∙ some)

pub got : {X : Type 0} (xs : List X) (i : ℕ) (r : Option (Bor X)) → IsItemAt xs i r → option_copied r ≡ slice_get xs i
got xs i None h = sym (slice_get_past xs i h.3)
got xs i (Some x) h = sym (slice_get-get_or xs i x.now h.3.0 ∙ ap Some (sym h.1))
