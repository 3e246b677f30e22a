-- The ports of instances of components, as a graph has them: whose they are by their full names, and their nodes inside.
use Rattle.std.proofs.Common.{◌≡◌, ◌↔◌, ◌⊎◌, inl, inr, ℕ, ◌+◌, ◌-◌, ◌<◌, ◌≤◌, Bool, true, false, List, [], ◌∷◌, ◌++◌, Some, None, length, filter, take, drop, get_or, slice_get, All, Contains, refl, sym, ap, ap₂, subst, ◌∙◌, arith}
use Rattle.std.proofs.Math.Seq.{drop-append_seam, take-append_seam}
use Rattle.std.specs.Bool.{Decides}
use Rattle.std.proofs.lemmas.Bool.{cases_lt}
use Rattle.std.proofs.lemmas.Bool.Decides.{Decides-eqb}
use Rattle.std.proofs.lemmas.List.{drop_more, length-append, length-take-le, take-append-drop, take_all, take_more}
use Rattle.std.proofs.lemmas.List.Elements.{All-contains, Contains-append_left, Contains-get_or, Contains-push, Contains-push_cases}
use Rattle.std.proofs.lemmas.Option.{none-some, same_Some, slice_get_within}
use Rattle.hw_cells.specs.declared.cell.CellPin.{CellPin}
use Rattle.hw_cells.specs.declared.cell.Pin.{Pin}
use Rattle.hw_graph.proofs.MemberLemmas.{contains_of, from_filter, from_map, in_filter, in_map, in_of}
use Rattle.hw_graph.specs.Groups.{IsGathered, has_key, with_key}
use Rattle.hw_graph.specs.declared.groups.Entry.{Entry}
use Rattle.hw_names.proofs.NameLemmas.{Contains-slice_get, same_number}
use Rattle.hw_names.specs.Name.{AreDistinct, HasNoDot, Text, dot, dotted}
use Rattle.fil_loops.specs.inside.CellPins.{AddsInstances, AreInstancePorts, ArePins, IsInputPin, IsNamedAfter, IsNamedPin, IsOutputPin, IsPortOfInstance, TellsPin}
use Rattle.fil_loops.proofs.PortNumberLemmas.{cut_at_first, no_dot_in, rest_of}
use Rattle.fil_loops.specs.inside.Ports.{PortList}
use Rattle.fil_loops.specs.declared.inside.Inside.{Inside}

-- ---- a full name and the instance that it is named after

module _ (inst port name : Text) (is : name ≡ dotted inst port) where
  rest : drop (length inst) name ≡ dot ∷ port
  rest = ap (drop (length inst)) is ∙ drop-append_seam inst (dot ∷ port)

  pub instance_before : take (length inst) name ≡ inst
  instance_before = ap (take (length inst)) is ∙ take-append_seam inst (dot ∷ port)

  pub instance_shorter : length inst < length name
  instance_shorter = omega (arith, ap length is, length-append inst (dot ∷ port))

  split : get_or name (length inst) 0 ∷ drop (length inst + 1) name ≡ dot ∷ port
  split = sym (drop_more name (length inst) 0 instance_shorter) ∙ rest

  pub dot_between : get_or name (length inst) 0 ≡ dot
  dot_between = let both = split in cc

  pub port_after : drop (length inst + 1) name ≡ port
  port_after = let both = split in cc

module _ (ports : PortList) (node : ℕ) where
  -- its own name is one
  pub same_port : (inst port name : Text) → slice_get ports.names node ≡ Some (dotted inst port) → slice_get ports.names node ≡ Some (dotted inst name) → port ≡ name
  same_port inst port name here at =
      let same : dotted inst port ≡ dotted inst name = same_Some (dotted inst port) (dotted inst name) (sym here ∙ at) in
      sym (port_after inst port (dotted inst port) refl) ∙ port_after inst name (dotted inst port) same

  -- and stands behind the instance's name and a dot
  pub port_cut : (own inst name full : Text) → own ≡ inst → slice_get ports.names node ≡ Some full → slice_get ports.names node ≡ Some (dotted inst name) → take (length full - (length own + 1)) (drop (length own + 1) full) ≡ name
  port_cut own inst name full same here at =
      let is : full ≡ dotted inst name = same_Some full (dotted inst name) (sym here ∙ at) in
      rest_of full (length own + 1) ∙ ap (λ (t : Text). drop (length t + 1) full) same ∙ port_after inst name full is

-- ---- the instances that a full name can be of, dot by dot

-- the name of the instance is shorter than this
abbrev pub IsNamedBelow : List Text → Text → ℕ → ℕ → Type 0
IsNamedBelow instances name end instance = (named : IsNamedAfter instances name instance) × (length named.inst < end)

abbrev pub AddsBelow : List Text → Text → ℕ → ℕ → List Entry → List Entry → Type 0
AddsBelow instances name node end old new =
    (instance value : ℕ) → Contains new (record { key = instance; value = value }) ↔ (Contains old (record { key = instance; value = value }) ⊎ ((value ≡ node) × IsNamedBelow instances name end instance))

module _ (instances : List Text) (name : Text) (node : ℕ) (old : List Entry) where
  -- no instance has a name of this length
  adds_skip : (end : ℕ) (new : List Entry) → ((instance : ℕ) (is : IsNamedAfter instances name instance) → length is.inst ≡ end → ⊥) → AddsBelow instances name node end old new → AddsBelow instances name node (end + 1) old new
  adds_skip end new none adds instance value = (
    λ has. elim ((adds instance value).0 has) [
      | inl before ↦ inl before
      | inr r ↦ inr (r.0, (r.1.0, omega (arith, r.1.1)))
    ],
    λ e. elim e [
      | inl before ↦ (adds instance value).1 (inl before)
      | inr r ↦ elim (cases_lt (length r.1.0.inst) end) [
        | inl less ↦ (adds instance value).1 (inr (r.0, (r.1.0, less)))
        | inr past ↦ absurd (none instance r.1.0 (omega (arith, past, r.1.1)))
      ]
    ],
  )

  pub skip_no_dot : (end : ℕ) (new : List Entry) → (get_or name end 0 ≡ dot → ⊥) → AddsBelow instances name node end old new → AddsBelow instances name node (end + 1) old new
  skip_no_dot end new no_dot adds = adds_skip end new (λ instance is same. no_dot (subst (λ (k : ℕ). get_or name k 0 ≡ dot) same (dot_between is.inst is.port name is.is))) adds

  pub skip_no_instance : (end : ℕ) (new : List Entry) → ¬ Contains instances (take end name) → AddsBelow instances name node end old new → AddsBelow instances name node (end + 1) old new
  skip_no_instance end new absent adds =
      adds_skip end new (λ instance is same.
      let before : take end name ≡ is.inst = subst (λ (k : ℕ). take k name ≡ is.inst) same (instance_before is.inst is.port name is.is) in
      absent (subst (Contains instances) (sym before) (Contains-slice_get instances instance is.inst is.instance_at))) adds

  module _ (distinct : AreDistinct instances) (end : ℕ) (less : end < length name) (is_dot : get_or name end 0 ≡ dot) (found : ℕ) (at : slice_get instances found ≡ Some (take end name)) where
    found_named : IsNamedBelow instances name (end + 1) found
    found_named = (
      record {
        inst = take end name;
        port = drop (end + 1) name;
        instance_at = at;
        is = cut_here;
      },
      omega (arith, length_taken),
    )
      where
        cut_here : name ≡ dotted (take end name) (drop (end + 1) name)
        cut_here = sym (ap (λ (l : Text). take end name ++ l) (sym (drop_more name end 0 less ∙ ap (λ (byte : ℕ). byte ∷ drop (end + 1) name) is_dot)) ∙ take-append-drop end name)

        length_taken : length (take end name) ≡ end
        length_taken = length-take-le end name (omega (arith, less))

    pub adds_found : (new : List Entry) → AddsBelow instances name node end old new → AddsBelow instances name node (end + 1) old (new ++ (record { key = found; value = node }) ∷ [])
    adds_found new adds instance value = (to, from)
      where
        make : ℕ → ℕ → Entry
        make k v = record { key = k; value = v }

        to : Contains (new ++ make found node ∷ []) (make instance value) → Contains old (make instance value) ⊎ ((value ≡ node) × IsNamedBelow instances name (end + 1) instance)
        to has =
            elim (Contains-push_cases new (make found node) (make instance value) has) [
              | inl before ↦ elim ((adds instance value).0 before) [
                | inl first ↦ inl first
                | inr r ↦ inr (r.0, (r.1.0, omega (arith, r.1.1)))
              ]
              | inr e ↦ inr (sym (ap (λ (x : Entry). x.value) e), subst (IsNamedBelow instances name (end + 1)) (ap (λ (x : Entry). x.key) e) found_named)
            ]

        last : (named : IsNamedAfter instances name instance) → length named.inst ≡ end → found ≡ instance
        last named same =
            let before : take end name ≡ named.inst = subst (λ (k : ℕ). take k name ≡ named.inst) same (instance_before named.inst named.port name named.is) in
            same_number instances found instance (take end name) distinct at (named.instance_at ∙ ap Some (sym before))

        from : Contains old (make instance value) ⊎ ((value ≡ node) × IsNamedBelow instances name (end + 1) instance) → Contains (new ++ make found node ∷ []) (make instance value)
        from (inl first) = Contains-append_left new (make found node ∷ []) (make instance value) ((adds instance value).1 (inl first))
        from (inr r) =
            elim (cases_lt (length r.1.0.inst) end) [
              | inl shorter ↦ Contains-append_left new (make found node ∷ []) (make instance value) ((adds instance value).1 (inr (r.0, (r.1.0, shorter))))
              | inr past ↦
                  let here = last r.1.0 (omega (arith, past, r.1.1)) in
                  subst (Contains (new ++ make found node ∷ [])) (ap₂ make here (sym r.0)) (Contains-push new (make found node))
            ]

  pub adds_all : (end : ℕ) (new : List Entry) → length name ≤ end → AddsBelow instances name node end old new → AddsInstances instances name node old new
  adds_all end new all adds instance value = (
    λ has. elim ((adds instance value).0 has) [
      | inl before ↦ inl before
      | inr r ↦ inr (r.0, r.1.0)
    ],
    λ e. elim e [
      | inl before ↦ (adds instance value).1 (inl before)
      | inr r ↦ (adds instance value).1 (inr (r.0, (r.1, omega (arith, instance_shorter r.1.inst r.1.port name r.1.is, all))))
    ],
  )

-- ---- the instance that a full name is of, where no instance's name has a dot

-- a name without a dot is no instance's port
pub adds_none : (instances : List Text) (name : Text) (node : ℕ) (old : List Entry) → HasNoDot name → AddsInstances instances name node old old
adds_none instances name node old plain instance value = (
  λ has. inl has,
  λ e. elim e [
    | inl before ↦ before
    | inr r ↦ absurd (no_dot_in name r.1.inst r.1.port plain r.1.is)
  ],
)

module _ (instances : List Text) (dotless : All HasNoDot instances) (distinct : AreDistinct instances) (found : ℕ) (inst port : Text) (at : slice_get instances found ≡ Some inst) where
  dotless_name : (i : ℕ) (text : Text) → slice_get instances i ≡ Some text → HasNoDot text
  dotless_name i text there = All-contains HasNoDot instances text dotless (Contains-slice_get instances i text there)

  -- a port is one of one instance
  pub adds_one : (name : Text) (node : ℕ) (old : List Entry) → name ≡ dotted inst port → AddsInstances instances name node old (old ++ (record { key = found; value = node }) ∷ [])
  adds_one name node old is instance value = (to, from)
    where
      make : ℕ → ℕ → Entry
      make k v = record { key = k; value = v }

      own : IsNamedAfter instances name found
      own = record { inst = inst; port = port; instance_at = at; is = is }

      to : Contains (old ++ make found node ∷ []) (make instance value) → Contains old (make instance value) ⊎ ((value ≡ node) × IsNamedAfter instances name instance)
      to has =
          elim (Contains-push_cases old (make found node) (make instance value) has) [
            | inl before ↦ inl before
            | inr e ↦ inr (sym (ap (λ (x : Entry). x.value) e), subst (IsNamedAfter instances name) (ap (λ (x : Entry). x.key) e) own)
          ]

      same : (named : IsNamedAfter instances name instance) → found ≡ instance
      same named =
          let texts : inst ≡ named.inst = cut_at_first inst named.inst port named.port (dotless_name found inst at) (dotless_name instance named.inst named.instance_at) (sym is ∙ named.is) in
          same_number instances found instance inst distinct at (named.instance_at ∙ ap Some (sym texts))

      from : Contains old (make instance value) ⊎ ((value ≡ node) × IsNamedAfter instances name instance) → Contains (old ++ make found node ∷ []) (make instance value)
      from (inl before) = Contains-append_left old (make found node ∷ []) (make instance value) before
      from (inr r) = subst (Contains (old ++ make found node ∷ [])) (ap₂ make (same r.1) (sym r.0)) (Contains-push old (make found node))

-- ---- the ports of instances, by the numbers of the instances

module _ (ports : PortList) where
  -- those below the end
  abbrev pub AreInstancePortsBelow : ℕ → List Entry → Type 0
  AreInstancePortsBelow end entries = (instance node : ℕ) → Contains entries (record { key = instance; value = node }) ↔ ((node < end) × IsPortOfInstance ports instance node)

  pub ports_next : (end : ℕ) (full : Text) (old new : List Entry) → slice_get ports.names end ≡ Some full → AddsInstances ports.instances full end old new → AreInstancePortsBelow end old → AreInstancePortsBelow (end + 1) new
  ports_next end full old new at adds are instance node = (to, from)
    where
      to : Contains new (record { key = instance; value = node }) → (node < end + 1) × IsPortOfInstance ports instance node
      to has =
          elim ((adds instance node).0 has) [
            | inl before ↦ (let r = (are instance node).0 before in (omega (arith, r.0), r.1))
            | inr r ↦ (omega (arith, r.0), record { full = full; at = ap (slice_get ports.names) r.0 ∙ at; named = r.1 })
          ]

      from : (node < end + 1) × IsPortOfInstance ports instance node → Contains new (record { key = instance; value = node })
      from r =
          elim (cases_lt node end) [
            | inl before ↦ (adds instance node).1 (inl ((are instance node).1 (before, r.1)))
            | inr past ↦
                let here : node ≡ end = omega (arith, r.0, past) in
                let same : r.1.full ≡ full = same_Some r.1.full full (sym r.1.at ∙ ap (slice_get ports.names) here ∙ at) in
                (adds instance node).1 (inr (here, subst (λ (t : Text). IsNamedAfter ports.instances t instance) same r.1.named))
          ]

  pub ports_all : (end : ℕ) (entries : List Entry) → length ports.names ≤ end → AreInstancePortsBelow end entries → AreInstancePorts ports entries
  ports_all end entries all are instance node = (
    λ has. ((are instance node).0 has).1,
    λ is. (are instance node).1 (omega (arith, all, slice_get_within ports.names node is.full is.at), is),
  )

  -- each has an instance
  pub keys_within : (entries : List Entry) → AreInstancePorts ports entries → All (λ (entry : Entry). entry.key < length ports.instances) entries
  keys_within entries are k d lt = each (get_or entries k d) (Contains-get_or entries k d lt)
    where
      each : (entry : Entry) → Contains entries entry → entry.key < length ports.instances
      each entry has = let is = (are entry.key entry.value).0 has in slice_get_within ports.instances entry.key is.named.inst is.named.instance_at

  -- gathered, each instance has its own
  pub ports_gathered : (entries : List Entry) → AreInstancePorts ports entries → (count : ℕ) (groups : List (List ℕ)) → IsGathered entries count groups → (instance : ℕ) → instance < count → (nodes : List ℕ) → slice_get groups instance ≡ Some nodes
      → (node : ℕ) → Contains nodes node ↔ IsPortOfInstance ports instance node
  ports_gathered entries are count groups gathered instance less nodes at node = (to, from)
    where
      is : nodes ≡ with_key instance entries
      is = same_Some nodes (with_key instance entries) (sym at ∙ gathered.each instance less)

      entry : Entry
      entry = record { key = instance; value = node }

      to : Contains nodes node → IsPortOfInstance ports instance node
      to has =
          let there = in_of (with_key instance entries) node (subst (λ (l : List ℕ). Contains l node) is has) in
          let m = from_map (λ (e : Entry). e.value) (filter (has_key instance) entries) node there in
          let f = from_filter (has_key instance) entries m.0 m.1 in
          let same : m.0 ≡ entry = same_entry m.0 ((Decides-eqb (m.0).key instance).0 f.1) m.2 in
          (are instance node).0 (subst (Contains entries) same (contains_of entries m.0 f.0))
        where
          same_entry : (e : Entry) → e.key ≡ instance → e.value ≡ node → e ≡ entry
          same_entry e p q = let make : ℕ → ℕ → Entry = λ a b. record { key = a; value = b } in ap₂ make p q

      from : IsPortOfInstance ports instance node → Contains nodes node
      from own =
          let has = in_of entries entry ((are instance node).1 own) in
          let kept = in_filter (has_key instance) entries entry has ((Decides-eqb instance instance).1 refl) in
          subst (λ (l : List ℕ). Contains l node) (sym is) (contains_of (with_key instance entries) node (in_map (λ (e : Entry). e.value) (filter (has_key instance) entries) entry kept))

-- ---- the pins of a cell

module _ (ports : PortList) (inst : Text) (nodes : List ℕ) (node : ℕ) (name : Text) (at : slice_get ports.names node ≡ Some (dotted inst name)) where
  module _ (P : Text → ℕ → Pin → Type 0) (pins : List Pin) where
    -- the node's port has one name
    here_it_is : (other : ℕ) (port : Text) (pin : Pin) → node ≡ other → slice_get ports.names other ≡ Some (dotted inst port) → P port other pin → P name node pin
    here_it_is other port pin same there holds =
        let full : dotted inst port ≡ dotted inst name = same_Some (dotted inst port) (dotted inst name) (sym there ∙ ap (slice_get ports.names) (sym same) ∙ at) in
        let one : port ≡ name = sym (port_after inst port (dotted inst port) refl) ∙ port_after inst name (dotted inst port) full in
        subst (λ (n : ℕ). P name n pin) (sym same) (subst (λ (t : Text). P t other pin) one holds)

    pins_more : (pin : Pin) → P name node pin → ((other : Pin) → P name node other → pin ≡ other) → ArePins P ports inst nodes pins → ArePins P ports inst (nodes ++ node ∷ []) (pins ++ pin ∷ [])
    pins_more pin holds once are other = (to, from)
      where
        to : Contains (pins ++ pin ∷ []) other → (n : ℕ) × Contains (nodes ++ node ∷ []) n × (port : Text) × (slice_get ports.names n ≡ Some (dotted inst port)) × P port n other
        to has =
            elim (Contains-push_cases pins pin other has) [
              | inl before ↦ (let r = (are other).0 before in (r.0, Contains-append_left nodes (node ∷ []) r.0 r.1, r.2, r.3, r.4))
              | inr e ↦ (node, Contains-push nodes node, name, at, subst (P name node) e holds)
            ]

        from : (n : ℕ) × Contains (nodes ++ node ∷ []) n × (port : Text) × (slice_get ports.names n ≡ Some (dotted inst port)) × P port n other → Contains (pins ++ pin ∷ []) other
        from r =
            elim (Contains-push_cases nodes node r.0 r.1) [
              | inl before ↦ Contains-append_left pins (pin ∷ []) other ((are other).1 (r.0, before, r.2, r.3, r.4))
              | inr e ↦ subst (Contains (pins ++ pin ∷ [])) (once other (here_it_is r.0 r.2 other e r.3 r.4)) (Contains-push pins pin)
            ]

    pins_same : ((other : Pin) → P name node other → ⊥) → ArePins P ports inst nodes pins → ArePins P ports inst (nodes ++ node ∷ []) pins
    pins_same none are other = (
      λ has. let r = (are other).0 has in (r.0, Contains-append_left nodes (node ∷ []) r.0 r.1, r.2, r.3, r.4),
      λ r. elim (Contains-push_cases nodes node r.0 r.1) [
        | inl before ↦ (are other).1 (r.0, before, r.2, r.3, r.4)
        | inr e ↦ absurd (none other (here_it_is r.0 r.2 other e r.3 r.4))
      ],
    )

-- ---- the pin of a port, by its name

module _ (inside : Inside) (name : Text) (port : ℕ) (distinct : AreDistinct inside.names) (j node : ℕ) (at : slice_get inside.names j ≡ Some name) (there : slice_get inside.graph.nodes.items j ≡ Some (Some node)) where
  abbrev pin_of : ℕ → ℕ → Pin
  pin_of k n = record { port = k; node = n }

  abbrev found_pin : Bool → Pin → CellPin
  found_pin side pin = record { pin = pin; is_input = side }

  -- one port has the name
  one_number : (number : ℕ) → slice_get inside.names number ≡ Some name → number ≡ j
  one_number number is = same_number inside.names number j name distinct is at

  one_pin : (number : ℕ) (pin : Pin) → IsNamedPin inside name port number pin → pin_of port node ≡ pin
  one_pin number pin is =
      let its : slice_get inside.graph.nodes.items j ≡ Some (Some pin.node) = ap (slice_get inside.graph.nodes.items) (sym (one_number number is.named)) ∙ is.node in
      ap₂ pin_of (sym is.is_port) (same_Some node pin.node (same_Some (Some node) (Some pin.node) (sym there ∙ its)))

  named_pin : IsNamedPin inside name port j (pin_of port node)
  named_pin = record { named = at; node = there; is_port = refl }

  both_same : (side other_side : Bool) (pin : Pin) → Some (found_pin side (pin_of port node)) ≡ Some (found_pin other_side pin) → IsNamedPin inside name port j pin × (side ≡ other_side)
  both_same side other_side pin e =
      let one = same_Some (found_pin side (pin_of port node)) (found_pin other_side pin) e in
      (subst (IsNamedPin inside name port j) (ap (λ (x : CellPin). x.pin) one) named_pin, ap (λ (x : CellPin). x.is_input) one)

  pub pin_told : (side : Bool) → Decides side (j < inside.graph.inputs) → TellsPin inside name port (Some (found_pin side (pin_of port node)))
  pin_told true decides = record {
    input = λ pin. (λ some. (j, less, (both_same true true pin some).0), λ is. ap (λ (p : Pin). Some (found_pin true p)) (one_pin is.0 pin is.2));
    output = λ pin. (
      λ some. let bad = (both_same true false pin some).1 in absurd (cc),
      λ is. let here = one_number is.0 is.2.named in absurd (omega (arith, less, is.1, here)),
    );
  }
    where
      less : j < inside.graph.inputs
      less = decides.0 refl
  pin_told false decides = record {
    input = λ pin. (
      λ some. let bad = (both_same false true pin some).1 in absurd (cc),
      λ is. let here = one_number is.0 is.2.named in absurd (omega (arith, past, is.1, here)),
    );
    output = λ pin. (λ some. (j, past, (both_same false false pin some).0), λ is. ap (λ (p : Pin). Some (found_pin false p)) (one_pin is.0 pin is.2));
  }
    where
      past : inside.graph.inputs ≤ j
      past = elim (cases_lt j inside.graph.inputs) [
        | inl less ↦ (let bad : false ≡ true = decides.1 less in absurd (cc))
        | inr not_less ↦ not_less
      ]

-- both sides of a cell
pub record HasBoth (inside : Inside) (ports : PortList) (inst : Text) (nodes : List ℕ) (output_pins input_pins : List Pin) : Type 0 where
  pub outputs : ArePins (IsOutputPin inside) ports inst nodes output_pins
  pub inputs : ArePins (IsInputPin inside) ports inst nodes input_pins

module _ (inside : Inside) (ports : PortList) (inst : Text) (nodes : List ℕ) (outputs inputs : List Pin) (are : HasBoth inside ports inst nodes outputs inputs) (node : ℕ) (name : Text)
    (at : slice_get ports.names node ≡ Some (dotted inst name)) where
  pub both_none : TellsPin inside name node None → HasBoth inside ports inst (nodes ++ node ∷ []) outputs inputs
  both_none tells = record {
    outputs = pins_same ports inst nodes node name at (IsOutputPin inside) outputs (λ other is. none-some (record { pin = other; is_input = false }) ((tells.output other).1 is)) are.outputs;
    inputs = pins_same ports inst nodes node name at (IsInputPin inside) inputs (λ other is. none-some (record { pin = other; is_input = true }) ((tells.input other).1 is)) are.inputs;
  }

  module _ (pin : Pin) where
    abbrev told : Bool → CellPin
    told side = record { pin = pin; is_input = side }

    found : (side other_side : Bool) (other : Pin) → Some (told side) ≡ Some (record { pin = other; is_input = other_side }) → (pin ≡ other) × (side ≡ other_side)
    found side other_side other e =
        let one = same_Some (told side) (record { pin = other; is_input = other_side }) e in
        (ap (λ (x : CellPin). x.pin) one, ap (λ (x : CellPin). x.is_input) one)

    pub both_output : TellsPin inside name node (Some (record { pin = pin; is_input = false })) → HasBoth inside ports inst (nodes ++ node ∷ []) (outputs ++ pin ∷ []) inputs
    both_output tells = record {
      outputs = pins_more ports inst nodes node name at (IsOutputPin inside) outputs pin ((tells.output pin).0 refl) (λ other is. (found false false other ((tells.output other).1 is)).0) are.outputs;
      inputs = pins_same ports inst nodes node name at (IsInputPin inside) inputs (λ other is. let no' = (found false true other ((tells.input other).1 is)).1 in absurd (cc)) are.inputs;
    }

    pub both_input : TellsPin inside name node (Some (record { pin = pin; is_input = true })) → HasBoth inside ports inst (nodes ++ node ∷ []) outputs (inputs ++ pin ∷ [])
    both_input tells = record {
      outputs = pins_same ports inst nodes node name at (IsOutputPin inside) outputs (λ other is. let no' = (found true false other ((tells.output other).1 is)).1 in absurd (cc)) are.outputs;
      inputs = pins_more ports inst nodes node name at (IsInputPin inside) inputs pin ((tells.input pin).0 refl) (λ other is. (found true true other ((tells.input other).1 is)).0) are.inputs;
    }

pub both_of : (inside : Inside) (ports : PortList) (own inst : Text) (nodes : List ℕ) (outputs inputs : List Pin) → own ≡ inst → HasBoth inside ports own nodes outputs inputs → HasBoth inside ports inst nodes outputs inputs
both_of inside ports own inst nodes outputs inputs same both = subst (λ (t : Text). HasBoth inside ports t nodes outputs inputs) same both

-- ---- over all nodes of a list

module _ (inside : Inside) (ports : PortList) (inst : Text) (nodes : List ℕ) (k : ℕ) (outputs inputs : List Pin) where
  -- one node more
  pub both_on : k < length nodes → HasBoth inside ports inst (take k nodes ++ get_or nodes k 0 ∷ []) outputs inputs → HasBoth inside ports inst (take (k + 1) nodes) outputs inputs
  both_on less both = subst (λ (l : List ℕ). HasBoth inside ports inst l outputs inputs) (sym (take_more nodes k 0 less)) both

  pub both_all : length nodes ≤ k → HasBoth inside ports inst (take k nodes) outputs inputs → HasBoth inside ports inst nodes outputs inputs
  both_all past both = subst (λ (l : List ℕ). HasBoth inside ports inst l outputs inputs) (take_all k nodes past) both
