-- From the flat graph to a component's ports: its loops, and what its outputs reach.
use Rattle.std.proofs.Common.{◌≡◌, ◌≢◌, ◌↔◌, inl, inr, ℕ, suc, ◌+◌, ◌-◌, ◌<◌, ◌≤◌, List, [], ◌∷◌, ◌++◌, Option, Some, All, Contains, length, map, get_or, slice_get, take, sym, ap, ap₂, subst, subst₂, ◌∙◌, add-one, arith}
use Rattle.std.specs.Prelude.{filter}
use Rattle.std.specs.Cmp.Lexicographic.{slice_cmp}
use Rattle.std.specs.Ordering.{nat_cmp}
use Rattle.std.specs.declared.cmp.Ordering.TheVariants.{Greater}
use Rattle.std.proofs.lemmas.Bool.{cases_lt}
use Rattle.std.proofs.Math.Seq.{take-append-add}
use Rattle.std.proofs.lemmas.List.Elements.{All-contains}
use Rattle.std.proofs.lemmas.List.{get_or-map, get_or-take, length-map, length-take}
use Rattle.std.proofs.lemmas.Option.{same_Some, slice_get_within, get_or_from_slice_get, slice_get-get_or}
use Rattle.hw_cells.proofs.WayLemmas.{kept}
use Rattle.hw_cells.specs.Cells.{HasOwnNodes, is_below}
use Rattle.hw_cells.specs.PartGraph.{Leads, LeadsAlike}
use Rattle.hw_graph.proofs.SearchLemmas.{contained_at}
use Rattle.hw_graph.specs.Graph as graph
use Rattle.hw_graph.specs.Graph.{HasRead, IsLeastCycleAmong, IsOffCycles, IsReadOrder}
use Rattle.hw_names.proofs.NameLemmas.{same_number}
use Rattle.hw_names.specs.Name.{Text, AreDistinct}
use Rattle.fil_ast.specs.Rules.{KeepsComponent, all_rules}
use Rattle.fil_ast.specs.Tree.{Component, DataPort, Design}
use Rattle.fil_ast.specs.Wires.{Straight, HasNoLoop, IsLeastLoop, Over, Reaches, ReadsAlong, ReadsPort, through_before, whole_scope}
use Rattle.fil_share.proofs.ListLemmas.{Contains-at}
use Rattle.fil_loops.proofs.DependLemmas.{number_of, numbered_length}
use Rattle.fil_loops.proofs.OwnPortLemmas.{inputs_differ, ports_differ}
use Rattle.fil_place.proofs.GeneralLemmas.{mapped_at, unmapped}
use Rattle.fil_place.proofs.GeneralLemmas.{at_left, at_right}
use Rattle.fil_loops.proofs.PortNumberLemmas.{next_absent}
use Rattle.fil_loops.specs.inside.Cells.{IsLoopAt, LeadsAsRead, ReadsAt}
use Rattle.fil_loops.specs.inside.Ports.{TellNames}
use Rattle.fil_loops.specs.inside.Reached.{AreNumbered}
use Rattle.fil_loops.specs.OwnPorts.{input_names, output_names, own_port_names}
use Rattle.fil_loops.specs.Wiring.{IsInside}
use Rattle.fil_loops.specs.declared.inside.Inside.{Inside}

-- the component's own ports, inputs first
pub input_own : (c : Component) (i : ℕ) (input : DataPort) → slice_get c.ins i ≡ Some input → slice_get (own_port_names c) i ≡ Some input.name
input_own c i input at = at_left (input_names c) (output_names c) i input.name (mapped_at (λ (p : DataPort). p.name) c.ins i input at)

pub output_own : (c : Component) (o : ℕ) (output : DataPort) → slice_get c.outs o ≡ Some output → slice_get (own_port_names c) (length c.ins + o) ≡ Some output.name
output_own c o output at =
    subst (λ (n : ℕ). slice_get (own_port_names c) (n + o) ≡ Some output.name) (length-map c.ins (λ (p : DataPort). p.name))
    (at_right (input_names c) (output_names c) o output.name (mapped_at (λ (p : DataPort). p.name) c.outs o output at))

module _ (earlier : Design) (c : Component) where
  abbrev Reads : Text → Text → Type 0
  Reads port other = ReadsPort (through_before earlier) (whole_scope earlier c) port other

  abbrev ReachesText : Text → Text → Type 0
  ReachesText port other = Reaches (through_before earlier) (whole_scope earlier c) other port

  -- the first step of a way, and the last
  first_step : (other port : Text) → ReachesText port other → (next : Text) × Reads port next
  first_step other port (Straight p read) = (other, read)
  first_step other port (Over p between read rest) = (between, read)

  last_step : (other port : Text) → ReachesText port other → (before : Text) × Reads before other
  last_step other port (Straight p read) = (p, read)
  last_step other port (Over p between read rest) = last_step other between rest

  along_reaches : (port : Text) (others : List Text) (back : Text) → ReadsAlong earlier c (port ∷ others) back → ReachesText port back
  along_reaches port [] back read = Straight port read
  along_reaches port (next ∷ others) back along = Over port next along.0 (along_reaches next others back along.1)

module _ (earlier : Design) (c : Component) (names : List Text) (reads : List (List ℕ)) (is : LeadsAsRead earlier c names reads) where
  -- a port on a loop has a number, which lies on a cycle
  on_loop : (port : Text) → ReachesText earlier c port port → (i : ℕ) × (slice_get names i ≡ Some port) × graph.Reaches reads i i
  on_loop port round =
      let first = first_step earlier c port port round in
      let last = last_step earlier c port port round in
      let has = is.between last.0 port first.0 last.1 first.1 in
      let at : slice_get names has.0 ≡ Some port = slice_get-get_or names has.0 port has.1 ∙ ap Some has.2 in
      (has.0, at, (is.reaches port port has.0 has.0 at at).1 round)

  port_on_loop : (port : Text) (others : List Text) → ReadsAlong earlier c (port ∷ others) port → (i : ℕ) × (slice_get names i ≡ Some port) × graph.Reaches reads i i
  port_on_loop port others along = on_loop port (along_reaches earlier c port others port along)

  -- where no port lies on a cycle there is no loop
  pub no_loop_off : ((i : ℕ) → i < length names → IsOffCycles reads i) → HasNoLoop earlier c
  no_loop_off off port others loop = let m = port_on_loop port others loop.along in off m.0 (slice_get_within names m.0 port m.1) m.2

  -- in an order each number comes after all that it reaches
  module _ (order : List ℕ) (ordered : IsReadOrder reads order) where
    read_before : (i k : ℕ) → i < length order → HasRead reads (get_or order i 0) k → (j : ℕ) × (j < i) × (get_or order j 0 ≡ k)
    read_before i k lt read =
        let has = ordered.after i k lt read in
        let short : has.0 < i = omega (arith, has.1, length-take i order) in
        (has.0, short, sym (get_or-take i order has.0 0 short) ∙ contained_at (take i order) k has)

    reach_before : (k other : ℕ) → graph.Reaches reads k other → (i : ℕ) → i < length order → get_or order i 0 ≡ k → (j : ℕ) × (j < i) × (get_or order j 0 ≡ other)
    reach_before k other (graph.Directly q o read) i lt at = read_before i o lt (subst (λ (m : ℕ). HasRead reads m o) (sym at) read)
    reach_before k other (graph.Through q next o read rest) i lt at =
        let first = read_before i next lt (subst (λ (m : ℕ). HasRead reads m next) (sym at) read) in
        let second = reach_before next o rest first.0 (omega (arith, first.1, lt)) first.2 in
        (second.0, omega (arith, second.1, first.1), second.2)

    off_cycles : (i : ℕ) → i < length names → IsOffCycles reads i
    off_cycles i less round =
        let place = ordered.each i (omega (arith, less, is.all)) in
        let at = contained_at order i place in
        let before = reach_before i i round place.0 place.1 at in
        let same = ordered.once before.0 place.0 (omega (arith, before.1, place.1)) place.1 (before.2 ∙ sym at) in
        omega (arith, same, before.1)

    pub no_loop : HasNoLoop earlier c
    no_loop = no_loop_off off_cycles

  -- ---- the least loop

  module _ (distinct : AreDistinct names) where
    abbrev pub name : ℕ → Text
    name k = get_or names k []

    named : (k : ℕ) → k < length names → slice_get names k ≡ Some (name k)
    named k lt = slice_get-get_or names k [] lt

    name_reads : (i j : ℕ) → ReadsAt earlier c names i j → Reads earlier c (name i) (name j)
    name_reads i j r = subst₂ (Reads earlier c) (sym (get_or_from_slice_get names i r.port [] r.is_port)) (sym (get_or_from_slice_get names j r.read [] r.is_read)) r.reads

    along_from : (i : ℕ) (ks : List ℕ) (back : ℕ) → ((k : ℕ) → suc k < length (i ∷ ks) → ReadsAt earlier c names (get_or (i ∷ ks) k 0) (get_or (i ∷ ks) (suc k) 0)) → ReadsAt earlier c names (get_or (i ∷ ks) (length ks) 0) back
        → ReadsAlong earlier c (name i ∷ map name ks) (name back)
    along_from i [] back along last = name_reads i back last
    along_from i (next ∷ ks) back along last = (name_reads i next (along 0 (omega arith)), along_from next ks back (λ k lt. along (suc k) (omega (arith, lt))) last)

    loop_within : (ks : List ℕ) → IsLoopAt earlier c names ks → (a : ℕ) → a < length ks → get_or ks a 0 < length names
    loop_within ks loop a lt =
        elim (cases_lt (a + 1) (length ks)) [
          | inl more ↦ (let r = loop.along a more in slice_get_within names (get_or ks a 0) r.port r.is_port)
          | inr last ↦
              (let r = loop.back in
              let at : length ks - 1 ≡ a = omega (arith, lt, last) in
              subst (λ (j : ℕ). get_or ks j 0 < length names) at (slice_get_within names (get_or ks (length ks - 1) 0) r.port r.is_port))
        ]

    -- it starts with the least port
    abbrev IsLeastOf : ℕ → Type 0
    IsLeastOf first = (i : ℕ) → i < length names → graph.Reaches reads i i → slice_cmp nat_cmp (name first) (name i) ≢ Greater

    least_loop : (i : ℕ) (ks : List ℕ) → IsLoopAt earlier c names (i ∷ ks) → IsLeastOf i → IsLeastLoop earlier c (name i) (map name ks)
    least_loop i ks loop least = record {
      is_loop = record {
        along = along_from i ks i (λ k lt. subst (λ (m : ℕ). ReadsAt earlier c names (get_or (i ∷ ks) k 0) (get_or (i ∷ ks) m 0)) (add-one k) (loop.along k (omega (arith, lt))))
            (subst (λ (m : ℕ). ReadsAt earlier c names (get_or (i ∷ ks) m 0) i) (let at_end : length (i ∷ ks) - 1 ≡ length ks = omega arith in at_end) loop.back);
        distinct = λ a b d before within.
            λ same.
            let la : a < length (i ∷ ks) = omega (arith, before, within, length-map (i ∷ ks) name) in
            let lb : b < length (i ∷ ks) = omega (arith, within, length-map (i ∷ ks) name) in
            let at_a = named (get_or (i ∷ ks) a 0) (range a la) in
            let at_b = named (get_or (i ∷ ks) b 0) (range b lb) in
            let alike : name (get_or (i ∷ ks) a 0) ≡ name (get_or (i ∷ ks) b 0) = sym (get_or-map name (i ∷ ks) a 0 d la) ∙ (same ∙ get_or-map name (i ∷ ks) b 0 d lb) in
            let e = loop.once a b la lb (same_number names _ _ _ distinct at_a (at_b ∙ ap Some (sym alike))) in
            omega (arith, before, e);
      };
      least = λ port others other.
          let m = port_on_loop port others other.along in
          subst (λ (t : Text). slice_cmp nat_cmp (name i) t ≢ Greater) (get_or_from_slice_get names m.0 port [] m.1) (least m.0 (slice_get_within names m.0 port m.1) m.2);
    }
      where
        range : (a : ℕ) → a < length (i ∷ ks) → get_or (i ∷ ks) a 0 < length names
        range = loop_within (i ∷ ks) loop

    pub told_loop : (short : List Text) → TellNames names short → (words : List Text) (numbers : List ℕ) → words ≡ map name (filter (is_below (length names)) numbers) → IsLeastCycleAmong reads short numbers
        → (first : Text) × (others : List Text) × (words ≡ first ∷ others) × IsLeastLoop earlier c first others
    told_loop short tell words [] are least = absurd (omega (arith, least.is_cycle.some))
    told_loop short tell words (i ∷ rest) are least = (name i, map name ks, are ∙ ap (map name) starts, least_loop i ks loop least_of)
      where
        within : i < length names
        within = omega (arith, least.named, tell.sized)

        ks : List ℕ
        ks = filter (is_below (length names)) rest

        starts : filter (is_below (length names)) (i ∷ rest) ≡ i ∷ ks
        starts = kept (length names) i rest within

        loop : IsLoopAt earlier c names (i ∷ ks)
        loop = subst (IsLoopAt earlier c names) starts (is.loops (i ∷ rest) least.is_cycle within)

        least_of : IsLeastOf i
        least_of m less round = tell.each i m within less (least.least m (omega (arith, less, tell.sized)) round)

  -- ---- what the outputs reach

  module _ (inside : Inside) (texts : inside.names ≡ own_port_names c) (distinct : AreDistinct inside.names) (inputs : inside.graph.inputs ≡ length c.ins) (same_reads : inside.graph.reads ≡ reads)
      (nodes : List ℕ) (same_nodes : inside.graph.nodes.items ≡ map Some nodes) (numbered : AreNumbered names nodes (own_port_names c)) where
    -- the node of the port of this number among the component's own
    node_of : (k : ℕ) (text : Text) → slice_get (own_port_names c) k ≡ Some text → (node : ℕ) × (slice_get inside.graph.nodes.items k ≡ Some (Some node)) × (slice_get names node ≡ Some text)
    node_of k text at =
        let n = number_of names nodes (own_port_names c) numbered k text at in
        (n.0, ap (λ (l : List (Option ℕ)). slice_get l k) same_nodes ∙ mapped_at (λ (m : ℕ). Some m) nodes k n.0 n.1, n.2)

    node_at : (k node : ℕ) (text : Text) → slice_get (own_port_names c) k ≡ Some text → slice_get inside.graph.nodes.items k ≡ Some (Some node) → slice_get names node ≡ Some text
    node_at k node text at has =
        let n = node_of k text at in
        subst (λ (m : ℕ). slice_get names m ≡ Some text) (same_Some n.0 node (same_Some (Some n.0) (Some node) (sym n.1 ∙ has))) n.2

    module _ (i o : ℕ) (input output : DataPort) (at_input : slice_get c.ins i ≡ Some input) (at_output : slice_get c.outs o ≡ Some output) where
      input_at : slice_get (own_port_names c) i ≡ Some input.name
      input_at = input_own c i input at_input

      output_at : slice_get (own_port_names c) (inside.graph.inputs + o) ≡ Some output.name
      output_at = subst (λ (k : ℕ). slice_get (own_port_names c) (k + o) ≡ Some output.name) (sym inputs) (output_own c o output at_output)

      -- an output is no input
      apart : (node other : ℕ) → slice_get names node ≡ Some output.name → slice_get names other ≡ Some input.name → node ≡ other → ⊥
      apart node other is_node is_other same =
          let alike : input.name ≡ output.name = same_Some input.name output.name (sym is_other ∙ ap (slice_get names) (sym same) ∙ is_node) in
          let D : List Text → Type 0 = AreDistinct in
          let number = same_number (own_port_names c) i (inside.graph.inputs + o) output.name (subst D texts distinct) (input_at ∙ ap Some alike) output_at in
          omega (arith, number, inputs, slice_get_within c.ins i input at_input)

      to : Leads inside.graph (inside.graph.inputs + o) i → ReachesText earlier c output.name input.name
      to l =
          let is_node = node_at (inside.graph.inputs + o) l.node output.name output_at l.is_node in
          let is_other = node_at i l.other input.name input_at l.is_other in
          elim l.leads [
            | inl same ↦ absurd (apart l.node l.other is_node is_other same)
            | inr way ↦ (is.reaches output.name input.name l.node l.other is_node is_other).0 (subst (λ (r : List (List ℕ)). graph.Reaches r l.node l.other) same_reads way)
          ]

      from : ReachesText earlier c output.name input.name → Leads inside.graph (inside.graph.inputs + o) i
      from reaches =
          let node = node_of (inside.graph.inputs + o) output.name output_at in
          let other = node_of i input.name input_at in
          record {
            node = node.0;
            other = other.0;
            is_node = node.1;
            is_other = other.1;
            leads = inr (subst (λ (r : List (List ℕ)). graph.Reaches r node.0 other.0) (sym same_reads) ((is.reaches output.name input.name node.0 other.0 node.2 other.2).1 reaches));
          }

    pub is_inside : IsInside earlier c inside
    is_inside = record {
      names = texts;
      distinct = distinct;
      inputs = inputs;
      all = ap length same_nodes ∙ length-map nodes (λ (m : ℕ). Some m) ∙ numbered_length names nodes (own_port_names c) numbered ∙ ap length (sym texts);
      leads = λ i o input output at_input at_output. (to i o input output at_input at_output, from i o input output at_input at_output);
    }

-- nodes of ports that all have one
pub own_nodes : (reads : List (List ℕ)) (nodes : List ℕ) (all : List (Option ℕ)) → all ≡ map Some nodes → All (λ (node : ℕ). node < length reads) nodes → HasOwnNodes reads all
own_nodes reads nodes all are within n node at =
    let own = unmapped (λ (m : ℕ). Some m) nodes n (Some node) (ap (λ (l : List (Option ℕ)). slice_get l n) (sym are) ∙ at) in
    let less = All-contains (λ (m : ℕ). m < length reads) nodes own.0 within (Contains-at nodes n own.0 own.1) in
    subst (λ (m : ℕ). m < length reads) (same_Some own.0 node own.2) less

-- with another graph that leads alike
module _ (earlier : Design) (c : Component) (old new : Inside) (known : IsInside earlier c old) (same : new.names ≡ old.names) (alike : LeadsAlike old.graph new.graph) where
  still_leads : (i o : ℕ) (input output : DataPort) → slice_get c.ins i ≡ Some input → slice_get c.outs o ≡ Some output → Leads new.graph (new.graph.inputs + o) i ↔ ReachesText earlier c output.name input.name
  still_leads i o input output at_input at_output =
      let below : i < old.graph.inputs = omega (arith, slice_get_within c.ins i input at_input, known.inputs) in
      let past : old.graph.inputs ≤ new.graph.inputs + o = omega (arith, alike.inputs) in
      let leads = alike.leads (new.graph.inputs + o) i past below in
      let was = subst (λ (k : ℕ). Leads old.graph (k + o) i ↔ ReachesText earlier c output.name input.name) (sym alike.inputs) (known.leads i o input output at_input at_output) in
      (λ l. was.0 (leads.0 l), λ reaches. leads.1 (was.1 reaches))

  pub still_inside : IsInside earlier c new
  still_inside = record {
    names = same ∙ known.names;
    distinct = subst AreDistinct (sym same) known.distinct;
    inputs = alike.inputs ∙ known.inputs;
    all = alike.all ∙ known.all ∙ ap length (sym same);
    leads = still_leads;
  }

-- the names of the component's own ports, put one after another
pub own_named : (comps : Design) (c : Component) → KeepsComponent all_rules comps c → (start mid new ins outs : List Text) → start ≡ [] → ins ≡ input_names c → outs ≡ output_names c
    → (AreDistinct (start ++ ins) → mid ≡ start ++ ins) → (AreDistinct (mid ++ outs) → new ≡ mid ++ outs) → new ≡ own_port_names c
own_named comps c keeps start mid new ins outs none ins_are outs_are first second =
    let D : List Text → Type 0 = AreDistinct in
    let inputs : start ++ ins ≡ input_names c = ap₂ ◌++◌ none ins_are in
    let mid_is : mid ≡ input_names c = first (subst D (sym inputs) (inputs_differ comps c keeps)) ∙ inputs in
    let all : mid ++ outs ≡ own_port_names c = ap₂ ◌++◌ mid_is outs_are in
    second (subst D (sym all) (ports_differ comps c keeps)) ∙ all

-- a name of distinct ones is new after those before it
pub next_new : (old all : List Text) (k : ℕ) (text : Text) → AreDistinct (old ++ all) → slice_get all k ≡ Some text → ¬ Contains (old ++ take k all) text
next_new old all k text distinct at =
    subst (λ (l : List Text). ¬ Contains l text) (take-append-add old all k) (next_absent (old ++ all) (length old + k) text distinct (at_right old all k text at))
