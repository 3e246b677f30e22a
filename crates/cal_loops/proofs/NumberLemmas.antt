-- From the nodes of a graph to a component's ports: what they reach, and their loops.
use Rattle.std.proofs.Common.{◌≡◌, ◌≢◌, ◌⊎◌, inl, inr, ℕ, suc, ◌+◌, ◌-◌, ◌<◌, ◌≤◌, List, [], ◌∷◌, ◌++◌, Some, Contains, length, map, get_or, take, refl, sym, ap, ap₂, subst, subst₂, ◌∙◌, add-one, arith}
use Rattle.std.specs.Prelude.{All, AllPairs, filter}
use Rattle.std.specs.List.{flat_map}
use Rattle.std.proofs.lemmas.Bool.{cases_lt}
use Rattle.std.proofs.lemmas.List.{get_or-take, get_or_default, length-take, map-append}
use Rattle.std.proofs.lemmas.List.Elements.{Contains-get_or}
use Rattle.std.proofs.lemmas.List.Kept.{AllPairs-cons}
use Rattle.std.proofs.lemmas.Option.{same_Some, slice_get_within, slice_get-get_or}
use Rattle.hw_cells.proofs.WayLemmas.{kept}
use Rattle.hw_cells.specs.Cells.{is_below}
use Rattle.hw_graph.proofs.CycleLemmas.{cycle_reaches}
use Rattle.hw_graph.proofs.SearchLemmas.{contained_at}
use Rattle.hw_graph.specs.ByName.{IsAtMost}
use Rattle.hw_graph.specs.Graph as graph
use Rattle.hw_graph.specs.Graph.{HasRead, IsLeastCycleAmong, IsOffCycles, IsReadOrder}
use Rattle.hw_names.proofs.NameLemmas.{same_number}
use Rattle.hw_names.specs.Name.{Text, AreDistinct}
use Rattle.cal_ast.proofs.ListLemmas.{Contains-cases_first, Contains-from_flat_map, Contains-from_map, Contains-none}
use Rattle.cal_ast.specs.Tree.{PortName, Component, Design}
use Rattle.cal_ast.specs.Wires.{ReadsPort, Reaches, Straight, Over, ReadsAlong, HasNoLoop, IsLeastLoop, shown}
use Rattle.cal_loops.specs.inside.Cells.{Directly, IsLoopAt, IsNodeAt, LeadsAsRead, NodeReaches, ReadsAt, Through}
use Rattle.cal_wires.specs.Nodes.{Node, APort, AHole, IsKey, key_of, node_ports}
use Rattle.cal_wires.specs.NodeOrder.{TellNodes}
use Rattle.cal_wires.specs.WireGraphs.{NodeReads}
use Rattle.cal_wires.proofs.FullNameLemmas.{same_node}
use Rattle.cal_loops.proofs.NodeLemmas.{NodesAlong, along_reaches, no_holes, port_reads, ports_along, ports_among, reads_through, through_nodes}

-- what holds of each member of a list
all_of : {X : Type 0} (P : X → Type 0) (xs : List X) → ((x : X) → Contains xs x → P x) → All P xs
all_of P xs f k d within = f (get_or xs k d) (Contains-get_or xs k d within)

-- a port of a node is the node
node_port : (n : Node) (q : PortName) → Contains (node_ports n) q → n ≡ APort q
node_port (APort p) q has = elim (Contains-cases_first p [] q has) [ inl same ↦ ap APort same | inr none ↦ absurd (Contains-none q none) ]
node_port (AHole k) q has = absurd (Contains-none q has)

-- ---- nodes by their places

pub node_at : (keys : List Text) → All IsKey keys → (k : ℕ) → k < length keys → (node : Node) × IsNodeAt keys node k
node_at keys nodes k lt =
    let key = nodes k [] lt in
    (key.node, record { has_key = key.has_key; at = slice_get-get_or keys k [] lt ∙ ap Some key.is })

-- the node of a number, and some node past the last
abbrev pub node_in : (keys : List Text) → All IsKey keys → (k : ℕ) → (k < length keys) ⊎ (length keys ≤ k) → Node
node_in keys nodes k (inl lt) = (node_at keys nodes k lt).0
node_in keys nodes k (inr past) = AHole 0

abbrev pub node_of : (keys : List Text) → All IsKey keys → ℕ → Node
node_of keys nodes k = node_in keys nodes k (cases_lt k (length keys))

pub node_is : (keys : List Text) (nodes : All IsKey keys) (k : ℕ) → k < length keys → IsNodeAt keys (node_of keys nodes k) k
node_is keys nodes k lt = by (cases_lt k (length keys))
  where
    by : (o : (k < length keys) ⊎ (length keys ≤ k)) → IsNodeAt keys (node_in keys nodes k o) k
    by (inl less) = (node_at keys nodes k less).1
    by (inr past) = absurd (omega (arith, lt, past))

-- ---- what nodes reach

nodes_reach : (design : Design) (c : Component) (x y z : Node) → NodeReaches design c x y → NodeReaches design c y z → NodeReaches design c x z
nodes_reach design c x y z (Directly a b read) more = Through a b z read more
nodes_reach design c x y z (Through a next b read rest) more = Through a next z read (nodes_reach design c next b z rest more)

-- the first step of a way, and the last
pub first_of : (design : Design) (c : Component) (x y : Node) → NodeReaches design c x y → (z : Node) × NodeReads design c x z
first_of design c x y (Directly a b read) = (b, read)
first_of design c x y (Through a next b read rest) = (next, read)

pub last_of : (design : Design) (c : Component) (x y : Node) → NodeReaches design c x y → (z : Node) × NodeReads design c z y
last_of design c x y (Directly a b read) = (a, read)
last_of design c x y (Through a next b read rest) = last_of design c next b rest

-- what a port reaches, its node reaches
port_way : (design : Design) (c : Component) (p q : PortName) → ReadsPort design c p q → NodeReaches design c (APort p) (APort q)
port_way design c p q read = elim (through_nodes design c p q read) [
  | inl direct ↦ Directly (APort p) (APort q) direct
  | inr (k, first, second) ↦ Through (APort p) (AHole k) (APort q) first (Directly (AHole k) (APort q) second)
]

pub reach_nodes : (design : Design) (c : Component) (p q : PortName) → Reaches design c p q → NodeReaches design c (APort p) (APort q)
reach_nodes design c p q (Straight d port other read) = port_way design d port other read
reach_nodes design c p q (Over d port between other read rest) =
    nodes_reach design d (APort port) (APort between) (APort other) (port_way design d port between read) (reach_nodes design d between other rest)

module _ (design : Design) (c : Component) where
  -- what a node reaches, a port reaches
  abbrev pub LeadsFrom : Node → PortName → Type 0
  LeadsFrom (APort p) q = Reaches design c p q
  LeadsFrom (AHole k) q = (p : PortName) → NodeReads design c (APort p) (AHole k) → Reaches design c p q

  last_step : (n : Node) (q : PortName) → NodeReads design c n (APort q) → LeadsFrom n q
  last_step (APort p) q read = Straight c p q (port_reads design c p q read)
  last_step (AHole k) q read = λ p first. Straight c p q (reads_through design c p q k first read)

  step_before : (n m : Node) (q : PortName) → NodeReads design c n m → LeadsFrom m q → LeadsFrom n q
  step_before (APort p) (APort m) q read rest = Over c p m q (port_reads design c p m read) rest
  step_before (APort p) (AHole k) q read rest = rest p read
  step_before (AHole k) (APort m) q read rest = λ p first. Over c p m q (reads_through design c p m k first read) rest
  step_before (AHole k) (AHole j) q read rest = absurd (no_holes design c k j read)

  pub leads : (n m : Node) (q : PortName) → NodeReaches design c n m → m ≡ APort q → LeadsFrom n q
  leads n m q (Directly a b read) same = last_step a q (subst (NodeReads design c a) same read)
  leads n m q (Through a next b read rest) same = step_before a next q read (leads next b q rest same)

  -- after a hole on a loop comes a port on it
  after_hole : (x y : Node) → NodeReaches design c x y → (k : ℕ) → x ≡ AHole k → y ≡ x → (q : PortName) × NodeReaches design c (APort q) (APort q)
  after_hole x y (Directly a b read) k hole same = absurd (no_holes design c k k (subst₂ (NodeReads design c) hole (same ∙ hole) read))
  after_hole x y (Through a next b read rest) k hole same = by next read rest
    where
      by : (n : Node) → NodeReads design c a n → NodeReaches design c n b → (q : PortName) × NodeReaches design c (APort q) (APort q)
      by (APort q) r more = (q, nodes_reach design c (APort q) a (APort q) (subst (NodeReaches design c (APort q)) same more) (Directly a (APort q) r))
      by (AHole h) r more = absurd (no_holes design c k h (subst (λ (n : Node). NodeReads design c n (AHole h)) hole r))

module _ (design : Design) (c : Component) (keys : List Text) (reads : List (List ℕ)) (is : LeadsAsRead design c keys reads) where
  within : (n : Node) (i : ℕ) → IsNodeAt keys n i → i < length keys
  within n i is_n = slice_get_within keys i (key_of n) is_n.at

  one_node : (i : ℕ) (n m : Node) → IsNodeAt keys n i → IsNodeAt keys m i → n ≡ m
  one_node i n m is_n is_m = same_node n m is_n.has_key is_m.has_key (same_Some (key_of n) (key_of m) (sym is_n.at ∙ is_m.at))

  -- a node on a loop has a place, which lies on a cycle
  on_loop : (n : Node) → NodeReaches design c n n → (i : ℕ) × IsNodeAt keys n i × graph.Reaches reads i i
  on_loop n round =
      let first = first_of design c n n round in
      let last = last_of design c n n round in
      let i = is.between last.0 n first.0 last.1 first.1 in
      (i.0, i.1, (is.reaches n n i.0 i.0 i.1 i.1).1 round)

  port_on_loop : (p : PortName) (others : List PortName) → ReadsAlong design c (p ∷ others) p → (i : ℕ) × IsNodeAt keys (APort p) i × graph.Reaches reads i i
  port_on_loop p others along = on_loop (APort p) (reach_nodes design c p p (along_reaches design c p others p along))

  -- where no port or hole lies on a cycle there is no loop
  pub no_loop_off : ((i : ℕ) → i < length keys → IsOffCycles reads i) → HasNoLoop design c
  no_loop_off off p others loop = let m = port_on_loop p others loop.along in off m.0 (within (APort p) m.0 m.1) m.2

  -- in an order each number comes after all that it reaches
  module _ (order : List ℕ) (ordered : IsReadOrder reads order) where
    read_before : (i k : ℕ) → i < length order → HasRead reads (get_or order i 0) k → (j : ℕ) × (j < i) × (get_or order j 0 ≡ k)
    read_before i k lt read =
        let has = ordered.after i k lt read in
        let short : has.0 < i = omega (arith, has.1, length-take i order) in
        (has.0, short, sym (get_or-take i order has.0 0 short) ∙ contained_at (take i order) k has)

    reach_before : (k other : ℕ) → graph.Reaches reads k other → (i : ℕ) → i < length order → get_or order i 0 ≡ k → (j : ℕ) × (j < i) × (get_or order j 0 ≡ other)
    reach_before k other (graph.Directly q o read) i lt at = read_before i o lt (subst (λ (m : ℕ). HasRead reads m o) (sym at) read)
    reach_before k other (graph.Through q next o read rest) i lt at =
        let first = read_before i next lt (subst (λ (m : ℕ). HasRead reads m next) (sym at) read) in
        let second = reach_before next o rest first.0 (omega (arith, first.1, lt)) first.2 in
        (second.0, omega (arith, second.1, first.1), second.2)

    off_cycles : (i : ℕ) → i < length keys → IsOffCycles reads i
    off_cycles i less round =
        let place = ordered.each i (omega (arith, less, is.all)) in
        let at = contained_at order i place in
        let earlier = reach_before i i round place.0 place.1 at in
        let same = ordered.once earlier.0 place.0 (omega (arith, earlier.1, place.1)) place.1 (earlier.2 ∙ sym at) in
        omega (arith, same, earlier.1)

    pub no_loop : HasNoLoop design c
    no_loop = no_loop_off off_cycles

  -- ---- the least loop

  -- that starts with the least port or hole
  abbrev pub IsLeastOf : List Text → ℕ → Type 0
  IsLeastOf names first = (i : ℕ) → i < length keys → graph.Reaches reads i i → IsAtMost names first i

  -- which is no hole
  no_least_hole : (names : List Text) → TellNodes keys names → (i k : ℕ) → IsNodeAt keys (AHole k) i → graph.Reaches reads i i → IsLeastOf names i → ⊥
  no_least_hole names tell i k is_hole reaches least =
      let round = (is.reaches (AHole k) (AHole k) i i is_hole is_hole).0 reaches in
      let q = after_hole design c (AHole k) (AHole k) round k refl refl in
      let m = on_loop (APort q.0) q.1 in
      tell.each i m.0 (AHole k) (APort q.0) is_hole.has_key tt is_hole.at (m.1).at (least m.0 (within (APort q.0) m.0 m.1) m.2)

  module _ (distinct : AreDistinct keys) where
    one_number : (n : Node) (i j : ℕ) → IsNodeAt keys n i → IsNodeAt keys n j → i ≡ j
    one_number n i j is_i is_j = same_number keys i j (key_of n) distinct is_i.at is_j.at

    number_edge : (i j : ℕ) → ReadsAt design c keys i j → NodeReads design c (node_of keys is.nodes i) (node_of keys is.nodes j)
    number_edge i j r =
        let node = one_node i r.node (node_of keys is.nodes i) r.is_node (node_is keys is.nodes i (within r.node i r.is_node)) in
        let read = one_node j r.read (node_of keys is.nodes j) r.is_read (node_is keys is.nodes j (within r.read j r.is_read)) in
        subst₂ (NodeReads design c) node read r.reads

    nodes_along : (i : ℕ) (ks : List ℕ) (back : ℕ) → ((k : ℕ) → suc k < length (i ∷ ks) → ReadsAt design c keys (get_or (i ∷ ks) k 0) (get_or (i ∷ ks) (suc k) 0)) → ReadsAt design c keys (get_or (i ∷ ks) (length ks) 0) back
        → NodesAlong design c (node_of keys is.nodes i) (map (node_of keys is.nodes) ks) (node_of keys is.nodes back)
    nodes_along i [] back along last = number_edge i back last
    nodes_along i (next ∷ ks) back along last = (number_edge i next (along 0 (omega arith)), nodes_along next ks back (λ k lt. along (suc k) (omega (arith, lt))) last)

    loop_within : (ks : List ℕ) → IsLoopAt design c keys ks → (a : ℕ) → a < length ks → get_or ks a 0 < length keys
    loop_within ks loop a lt =
        elim (cases_lt (a + 1) (length ks)) [
          | inl more ↦ (let r = loop.along a more in within r.node (get_or ks a 0) r.is_node)
          | inr last ↦
              (let r = loop.back in
              let at : length ks - 1 ≡ a = omega (arith, lt, last) in
              subst (λ (j : ℕ). get_or ks j 0 < length keys) at (within r.node (get_or ks (length ks - 1) 0) r.is_node))
        ]

    -- ports of distinct numbers are distinct
    apart : (p : PortName) (k : ℕ) (ks : List ℕ) → IsNodeAt keys (APort p) k → ((a : ℕ) → a < length ks → get_or ks a 0 ≡ k → ⊥) → ((a : ℕ) → a < length ks → get_or ks a 0 < length keys) → (q : PortName) → Contains (ports_among (map (node_of keys is.nodes) ks)) q → p ≢ q
    apart p k ks is_p others range q has same =
        let n = Contains-from_flat_map node_ports (map (node_of keys is.nodes) ks) q has in
        let j = Contains-from_map (node_of keys is.nodes) ks n.0 n.1 in
        let place = j.1 in
        let at : get_or ks place.0 0 ≡ j.0 = get_or_default ks place.0 0 j.0 place.1 ∙ place.2 in
        let lt : j.0 < length keys = subst (λ (m : ℕ). m < length keys) at (range place.0 place.1) in
        let node : node_of keys is.nodes j.0 ≡ APort p = j.2 ∙ node_port n.0 q n.2 ∙ ap APort (sym same) in
        let is_j : IsNodeAt keys (APort p) j.0 = subst (λ (x : Node). IsNodeAt keys x j.0) node (node_is keys is.nodes j.0 lt) in
        others place.0 place.1 (at ∙ one_number (APort p) j.0 k is_j is_p)

    ports_distinct : (ks : List ℕ) → ((a b : ℕ) → a < length ks → b < length ks → get_or ks a 0 ≡ get_or ks b 0 → a ≡ b) → ((a : ℕ) → a < length ks → get_or ks a 0 < length keys) → AllPairs (λ p q. p ≢ q) (ports_among (map (node_of keys is.nodes) ks))
    ports_distinct [] once range = λ i j d less within. absurd (omega (arith, less, within))
    ports_distinct (k ∷ ks) once range =
        by (ports_distinct ks (λ a b la lb e. let s = once (suc a) (suc b) (omega (arith, la)) (omega (arith, lb)) e in omega (arith, s)) (λ a lt. range (suc a) (omega (arith, lt)))) (node_of keys is.nodes k) refl
      where
        by : AllPairs (λ p q. p ≢ q) (ports_among (map (node_of keys is.nodes) ks)) → (n : Node) → node_of keys is.nodes k ≡ n → AllPairs (λ p q. p ≢ q) (node_ports n ++ ports_among (map (node_of keys is.nodes) ks))
        by rest (AHole h) e = rest
        by rest (APort p) e =
            let is_p : IsNodeAt keys (APort p) k = subst (λ (x : Node). IsNodeAt keys x k) e (node_is keys is.nodes k (range 0 (omega arith))) in
            let none : (a : ℕ) → a < length ks → get_or ks a 0 ≡ k → ⊥ = λ a lt same. (let s = once (suc a) 0 (omega (arith, lt)) (omega arith) same in omega (arith, s)) in
            AllPairs-cons (λ (p q : PortName). p ≢ q) p (ports_among (map (node_of keys is.nodes) ks)) (all_of (λ q. p ≢ q) (ports_among (map (node_of keys is.nodes) ks)) (apart p k ks is_p none (λ a lt. range (suc a) (omega (arith, lt))))) rest

    -- the names of the ports among nodes
    names_among : (ks : List ℕ) → flat_map (λ k. map shown (node_ports (node_of keys is.nodes k))) ks ≡ map shown (ports_among (map (node_of keys is.nodes) ks))
    names_among [] = refl
    names_among (k ∷ ks) =
        ap (λ (l : List Text). map shown (node_ports (node_of keys is.nodes k)) ++ l) (names_among ks) ∙ sym (map-append shown (node_ports (node_of keys is.nodes k)) (ports_among (map (node_of keys is.nodes) ks)))

    least_loop : (names : List Text) → TellNodes keys names → (i : ℕ) (ks : List ℕ) (p : PortName) → IsLoopAt design c keys (i ∷ ks) → IsLeastOf names i → node_of keys is.nodes i ≡ APort p → IsLeastLoop design c p (ports_among (map (node_of keys is.nodes) ks))
    least_loop names tell i ks p loop least e = record {
      is_loop = record {
        along = ports_along design c p (map (node_of keys is.nodes) ks) p (subst (λ (n : Node). NodesAlong design c n (map (node_of keys is.nodes) ks) n) e nodes);
        distinct = subst (λ (n : Node). AllPairs (λ p q. p ≢ q) (node_ports n ++ ports_among (map (node_of keys is.nodes) ks))) e (ports_distinct (i ∷ ks) loop.once range);
      };
      least = λ q others other.
          let m = port_on_loop q others other.along in
          tell.each i m.0 (APort p) (APort q) tt tt is_p.at (m.1).at (least m.0 (within (APort q) m.0 m.1) m.2);
    }
      where
        range : (a : ℕ) → a < length (i ∷ ks) → get_or (i ∷ ks) a 0 < length keys
        range = loop_within (i ∷ ks) loop

        is_p : IsNodeAt keys (APort p) i
        is_p = subst (λ (n : Node). IsNodeAt keys n i) e (node_is keys is.nodes i (range 0 (omega arith)))

        nodes : NodesAlong design c (node_of keys is.nodes i) (map (node_of keys is.nodes) ks) (node_of keys is.nodes i)
        nodes =
            nodes_along i ks i (λ k lt. subst (λ (m : ℕ). ReadsAt design c keys (get_or (i ∷ ks) k 0) (get_or (i ∷ ks) m 0)) (add-one k) (loop.along k (omega (arith, lt))))
            (subst (λ (m : ℕ). ReadsAt design c keys (get_or (i ∷ ks) m 0) i) (let at_end : length (i ∷ ks) - 1 ≡ length ks = omega arith in at_end) loop.back)

    -- the names of the ports and holes of a loop
    abbrev pub names_told : List ℕ → List Text
    names_told ks = flat_map (λ k. map shown (node_ports (node_of keys is.nodes k))) ks

    pub told_loop : (names : List Text) → TellNodes keys names → (words : List Text) (numbers : List ℕ) → words ≡ names_told (filter (is_below (length keys)) numbers) → IsLeastCycleAmong reads names numbers
        → (first : PortName) × (others : List PortName) × (words ≡ map shown (first ∷ others)) × IsLeastLoop design c first others
    told_loop names tell words [] are least = absurd (omega (arith, least.is_cycle.some))
    told_loop names tell words (i ∷ rest) are least = by (node_of keys is.nodes i) refl
      where
        lt : i < length keys
        lt = omega (arith, least.named, tell.sized)

        ks : List ℕ
        ks = filter (is_below (length keys)) rest

        starts : filter (is_below (length keys)) (i ∷ rest) ≡ i ∷ ks
        starts = kept (length keys) i rest lt

        loop : IsLoopAt design c keys (i ∷ ks)
        loop = subst (λ (l : List ℕ). IsLoopAt design c keys l) starts (is.loops (i ∷ rest) least.is_cycle lt)

        least_of : IsLeastOf names i
        least_of m less round = least.least m (omega (arith, less, tell.sized)) round

        by : (n : Node) → node_of keys is.nodes i ≡ n → (first : PortName) × (others : List PortName) × (words ≡ map shown (first ∷ others)) × IsLeastLoop design c first others
        by (AHole k) e =
            absurd (no_least_hole names tell i k (subst (λ (n : Node). IsNodeAt keys n i) e (node_is keys is.nodes i lt)) (cycle_reaches reads (i ∷ rest) least.is_cycle) least_of)
        by (APort p) e = (
          p,
          ports_among (map (node_of keys is.nodes) ks),
          are ∙ ap names_told starts ∙ ap₂ (λ (n : Node) (l : List Text). map shown (node_ports n) ++ l) e (names_among ks),
          least_loop names tell i ks p loop least_of e,
        )
