-- From entries and a graph of numbered ports to the order of a netlist.
use Rattle.std.proofs.Common.{add-one, ◌≡◌, ℕ, suc, ◌+◌, ◌-◌, ◌<◌, inl, inr, List, [], ◌∷◌, ◌++◌, Bool, true, false, Option, None, Some, length, get_or, take, refl, sym, ap, ap₂, ◌∙◌, arith, subst, subst₂, add-one}
use Rattle.std.specs.Prelude.{Contains, map, filter, slice_get, bytes_eq, if◌then◌else◌, ◌==◌, All, option_map}
use Rattle.std.specs.List.{flat_map}
use Rattle.std.proofs.lemmas.Bool.{cases_lt}
use Rattle.std.proofs.lemmas.Bool.Decides.{Decides-eqb, same_from_decides}
use Rattle.std.proofs.lemmas.List.{get_or-map, get_or-take, length-map, length-take, get_or_default, get_or_past}
use Rattle.std.proofs.lemmas.List.Elements.{All-contains, All-nil, All-cons}
use Rattle.std.proofs.lemmas.Option.{slice_get_within, get_or_from_slice_get, slice_get-get_or, slice_get-map, same_Some}
use Rattle.std.proofs.lemmas.Slice.Eq.{bytes_eq-Decides}
use Rattle.hw_names.proofs.NameLemmas.{same_number}
use Rattle.hw_names.specs.Name.{Text, dotted, AreDistinct}
use Rattle.hw_prims.specs.Meaning.{is_through}
use Rattle.hw_prims.specs.Table.{prim_of, inputs_of, outputs_of, pin_names}
use Rattle.hw_prims.specs.declared.prim.Primitive.{Primitive}
use Rattle.net_core.specs.Graph.{ReadsPort, ByAssignment, ByCell, ReadsAlong, IsLoop, set_ports}
use Rattle.net_core.specs.Netlist.{Netlist, CellLine, SetLine}
use Rattle.net_core.specs.Rules.{PortLine, ports_of}
use Rattle.hw_graph.proofs.MemberLemmas.{In, in_at, at_of, in_of, contains_of, in_left, in_right, in_append, in_map, from_map, in_flat_map, from_flat_map, in_filter, from_filter}
use Rattle.hw_graph.proofs.PigeonholeLemmas.{at_most, at_least}
use Rattle.hw_graph.proofs.SearchLemmas.{contained_at}
use Rattle.net_sim.proofs.WireLemmas.{cell_readings-prim}
use Rattle.net_sim.specs.inside.Destinations.{AreDestinations}
use Rattle.hw_graph.specs.Groups.{IsGathered, with_key, has_key}
use Rattle.net_sim.specs.Layout.{port_names, name_of}
use Rattle.net_sim.specs.Order.{IsNamed, IsOrderOf}
use Rattle.net_sim.specs.PortOrder.{numbers_of}
use Rattle.hw_graph.specs.Graph.{HasRead, AreInRange, IsReadOrder, IsCycle}
use Rattle.net_sim.specs.inside.Wires.{Reading, reading, set_readings, input_readings, output_readings, prim_readings, cell_readings, some_readings, net_readings, named_entry, AreEntriesOf}
use Rattle.hw_graph.specs.declared.groups.Entry.{Entry}

-- ---- the pairs of a netlist are its reads

pub reading_reads : (n : Netlist) (port other : Text) → In (net_readings n) (reading port other) → ReadsPort n port other
reading_reads n port other has = elim (in_append (flat_map set_readings n.sets) (flat_map cell_readings n.cells) (reading port other) has) [
  | inl by_set ↦
      let r = from_flat_map set_readings n.sets (reading port other) by_set in
      let place = at_of n.sets r.0 r.1 in
      let p = from_map (reading (r.0).dst) (set_ports r.0) (reading port other) r.2 in
      let dst : (r.0).dst ≡ port = ap (λ (x : Reading). x.port) p.2 in
      let same : p.0 ≡ other = ap (λ (x : Reading). x.other) p.2 in
      ByAssignment place.0 r.0 place.1 dst (subst (Contains (set_ports r.0)) same (contains_of (set_ports r.0) p.0 p.1))
  | inr by_cell ↦
      let r = from_flat_map cell_readings n.cells (reading port other) by_cell in
      of_cell r.0 r.1 (prim_of (r.0).prim (r.0).params) refl r.2
]
  where
    of_prim : (c : CellLine) (prim : Primitive) → In n.cells c → prim_of c.prim c.params ≡ Some prim → In (prim_readings c.name prim) (reading port other) → ReadsPort n port other
    of_prim c prim in_cells is there =
        let place = at_of n.cells c in_cells in
        let o = from_flat_map (output_readings c.name prim) (pin_names (outputs_of prim)) (reading port other) there in
        let i = from_flat_map (input_readings c.name prim o.0) (pin_names (inputs_of prim)) (reading port other) o.2 in
        through c prim place.0 place.1 is o.0 (contains_of (pin_names (outputs_of prim)) o.0 o.1) i.0 (contains_of (pin_names (inputs_of prim)) i.0 i.1) (is_through prim i.0 o.0) refl i.2
      where
        through : (c : CellLine) (prim : Primitive) (k : ℕ) → slice_get n.cells k ≡ Some c → prim_of c.prim c.params ≡ Some prim → (output : Text) → Contains (pin_names (outputs_of prim)) output → (input : Text) → Contains (pin_names (inputs_of prim)) input → (b : Bool) → is_through prim input output ≡ b → In (if b then reading (dotted c.name output) (dotted c.name input) ∷ [] else []) (reading port other) → ReadsPort n port other
        through c prim k at is output in_outputs input in_inputs true t (inl e) = ByCell c.name prim input output (k, c, at, refl, is) in_inputs in_outputs t (ap (λ (x : Reading). x.port) e) (ap (λ (x : Reading). x.other) e)
        through c prim k at is output in_outputs input in_inputs true t (inr none) = absurd none
        through c prim k at is output in_outputs input in_inputs false t none = absurd none

    of_cell : (c : CellLine) → In n.cells c → (o : Option Primitive) → prim_of c.prim c.params ≡ o → In (cell_readings c) (reading port other) → ReadsPort n port other
    of_cell c in_cells None e there = absurd (subst (λ (o : Option Primitive). In (some_readings c.name o) (reading port other)) e there)
    of_cell c in_cells (Some prim) e there = of_prim c prim in_cells e (subst (λ (o : Option Primitive). In (some_readings c.name o) (reading port other)) e there)

pub reads_reading : (n : Netlist) (port other : Text) → ReadsPort n port other → In (net_readings n) (reading port other)
reads_reading n port other (ByAssignment k a at dst has) =
    let there : In (set_readings a) (reading port other) = rw (← dst) (in_map (reading a.dst) (set_ports a) other (in_of (set_ports a) other has)) in
    in_left (flat_map set_readings n.sets) (flat_map cell_readings n.cells) (reading port other) (in_flat_map set_readings n.sets a (reading port other) (in_at n.sets k a at) there)
reads_reading n port other (ByCell cell prim input output (k, c, at, named, is) in_inputs in_outputs through is_port is_other) =
    let one : In (input_readings c.name prim output input) (reading (dotted c.name output) (dotted c.name input)) = rw through (inl refl) in
    let of_output : In (output_readings c.name prim output) (reading (dotted c.name output) (dotted c.name input)) = in_flat_map (input_readings c.name prim output) (pin_names (inputs_of prim)) input _ (in_of (pin_names (inputs_of prim)) input in_inputs) one in
    let of_prim : In (prim_readings c.name prim) (reading (dotted c.name output) (dotted c.name input)) = in_flat_map (output_readings c.name prim) (pin_names (outputs_of prim)) output _ (in_of (pin_names (outputs_of prim)) output in_outputs) of_output in
    let of_cell : In (cell_readings c) (reading (dotted c.name output) (dotted c.name input)) = rw (cell_readings-prim c prim is) of_prim in
    let same : reading (dotted c.name output) (dotted c.name input) ≡ reading port other = ap₂ reading (ap (λ x. dotted x output) named ∙ is_port) (ap (λ x. dotted x input) named ∙ is_other) in
    subst (In (net_readings n)) same (in_right (flat_map set_readings n.sets) (flat_map cell_readings n.cells) _ (in_flat_map cell_readings n.cells c _ (in_at n.cells k c at) of_cell))

-- ---- the graph of the entries is the graph of the names

-- these ports are a loop
abbrev pub IsLoopOf : Netlist → List ℕ → Type 0
IsLoopOf n [] = ⊥
IsLoopOf n (port ∷ ports) = All (λ p. p < length (ports_of n)) (port ∷ ports) × IsLoop n (name_of n port) (map (name_of n) ports)

module _ (n : Netlist) (entries : List Entry) (reads : List (List ℕ)) (distinct : AreDistinct (port_names n)) (are : AreEntriesOf (port_names n) (net_readings n) entries) (gathered : IsGathered entries (length (port_names n)) reads) where
  reads_at : (port : ℕ) → port < length (port_names n) → get_or reads port [] ≡ with_key port entries
  reads_at port lt = get_or_from_slice_get reads port (with_key port entries) [] (gathered.each port lt)

  port_in_range : (port other : ℕ) → HasRead reads port other → port < length (port_names n)
  port_in_range port other has = elim (cases_lt port (length reads)) [
    | inl lt ↦ omega (arith, lt, gathered.all)
    | inr past ↦ let none : get_or reads port [] ≡ [] = get_or_past reads port [] past in absurd (omega (arith, has.1, ap length none))
  ]

  entry_of : (port other : ℕ) → HasRead reads port other → (e : Entry) × In entries e × (e.key ≡ port) × (e.value ≡ other)
  entry_of port other has =
      let lt = port_in_range port other has in
      let there = subst (λ l. Contains l other) (reads_at port lt) has in
      let m = from_map (λ (e : Entry). e.value) (filter (has_key port) entries) other (in_of (with_key port entries) other there) in
      let f = from_filter (has_key port) entries m.0 m.1 in
      (m.0, f.0, (Decides-eqb (m.0).key port).0 f.1, m.2)

  in_range_of : (e : Entry) → In entries e → (e.key < length (port_names n)) × (e.value < length (port_names n))
  in_range_of e has = All-contains (λ (x : Entry). (x.key < length (port_names n)) × (x.value < length (port_names n))) entries e are.in_range (contains_of entries e has)

  pub graph_in_range : AreInRange reads
  graph_in_range port other has =
      let e = entry_of port other has in
      let r = in_range_of e.0 e.1 in
      omega (arith, r.1, e.3, gathered.all)

  pub graph_reads : (port other : ℕ) → HasRead reads port other → ReadsPort n (name_of n port) (name_of n other)
  graph_reads port other has =
      let e = entry_of port other has in
      let named : In (net_readings n) (named_entry (port_names n) e.0) = subst (λ l. In l (named_entry (port_names n) e.0)) are.names_are (in_map (named_entry (port_names n)) entries e.0 e.1) in
      let same : named_entry (port_names n) e.0 ≡ reading (name_of n port) (name_of n other) = ap₂ (λ k v. reading (name_of n k) (name_of n v)) e.2 e.3 in
      reading_reads n (name_of n port) (name_of n other) (subst (In (net_readings n)) same named)

  pub same_port : (i j : ℕ) → i < length (port_names n) → j < length (port_names n) → name_of n i ≡ name_of n j → i ≡ j
  same_port i j wi wj e = same_number (port_names n) i j (name_of n i) distinct (slice_get-get_or (port_names n) i [] wi) (slice_get-get_or (port_names n) j [] wj ∙ ap Some (sym e))

  pub graph_has : (port other : ℕ) → port < length (port_names n) → other < length (port_names n) → ReadsPort n (name_of n port) (name_of n other) → HasRead reads port other
  graph_has port other lt lt' read =
      let named = subst (λ l. In l (reading (name_of n port) (name_of n other))) (sym are.names_are) (reads_reading n (name_of n port) (name_of n other) read) in
      let m = from_map (named_entry (port_names n)) entries (reading (name_of n port) (name_of n other)) named in
      let r = in_range_of m.0 m.1 in
      let key = same_port (m.0).key port r.0 lt (ap (λ (x : Reading). x.port) m.2) in
      let value = same_port (m.0).value other r.1 lt' (ap (λ (x : Reading). x.other) m.2) in
      let there : In (with_key port entries) other = subst (In (with_key port entries)) value (in_map (λ (e : Entry). e.value) (filter (has_key port) entries) m.0 (in_filter (has_key port) entries m.0 m.1 ((Decides-eqb (m.0).key port).1 key))) in
      subst (λ l. Contains l other) (sym (reads_at port lt)) (contains_of (with_key port entries) other there)

  -- ---- an order of the graph is one of the netlist

  count_is : length (port_names n) ≡ length (ports_of n)
  count_is = length-map (ports_of n) (λ (p : PortLine). p.name)

  pub named_is : (port : ℕ) (name : Text) → IsNamed n port name → name_of n port ≡ name
  named_is port name (p, at, e) = get_or_from_slice_get (port_names n) port name [] (slice_get-map (λ (q : PortLine). q.name) (ports_of n) port ∙ ap (option_map (λ (q : PortLine). q.name)) at ∙ ap Some e)

  pub named_within : (port : ℕ) (name : Text) → IsNamed n port name → port < length (port_names n)
  named_within port name (p, at, e) = omega (arith, slice_get_within (ports_of n) port p at, count_is)

  pub order_is : (ports : List ℕ) → IsReadOrder reads ports → IsOrderOf n ports
  order_is ports order = record {
    all = omega (arith, at_most ports (length reads) order.in_range order.once, at_least (length reads) ports order.each, gathered.all, count_is);
    in_range = λ i port at. let within = slice_get_within ports i port at in omega (arith, order.in_range i within, get_or_from_slice_get ports i port 0 at, gathered.all, count_is);
    once = λ i j port at at'. order.once i j (slice_get_within ports i port at) (slice_get_within ports j port at') (get_or_from_slice_get ports i port 0 at ∙ sym (get_or_from_slice_get ports j port 0 at'));
    after = after;
  }
    where
      after : (i j port other : ℕ) (name read : Text) → slice_get ports i ≡ Some port → slice_get ports j ≡ Some other → IsNamed n port name → IsNamed n other read → ReadsPort n name read → j < i
      after i j port other name read at at' named named' reads' =
          let within = slice_get_within ports i port at in
          let edge = graph_has port other (named_within port name named) (named_within other read named') (subst₂ (ReadsPort n) (sym (named_is port name named)) (sym (named_is other read named')) reads') in
          let is = get_or_from_slice_get ports i port 0 at in
          let has = order.after i other within (subst (λ p. HasRead reads p other) (sym is) edge) in
          let short : has.0 < i = omega (arith, has.1, length-take i ports) in
          let there : get_or ports has.0 0 ≡ other = sym (get_or-take i ports has.0 0 short) ∙ contained_at (take i ports) other has in
          let same : has.0 ≡ j = order.once has.0 j (omega (arith, short, within)) (slice_get_within ports j other at') (there ∙ sym (get_or_from_slice_get ports j other 0 at')) in
          omega (arith, short, same)

  -- ---- a loop of the graph is one of the netlist

  along_from : (port : ℕ) (ports : List ℕ) (back : ℕ) → ((i : ℕ) → suc i < length (port ∷ ports) → HasRead reads (get_or (port ∷ ports) i 0) (get_or (port ∷ ports) (suc i) 0)) → HasRead reads (get_or (port ∷ ports) (length ports) 0) back → ReadsAlong n (name_of n port ∷ map (name_of n) ports) (name_of n back)
  along_from port [] back along last = graph_reads port back last
  along_from port (next ∷ ports) back along last =
      (graph_reads port next (along 0 (omega arith)), along_from next ports back (λ i lt. along (suc i) (omega (arith, lt))) last)

  pub loop_is : (ports : List ℕ) → IsCycle reads ports → IsLoopOf n ports
  loop_is [] cycle = absurd (omega (arith, cycle.some))
  loop_is (port ∷ ports) cycle = (
    λ k d lt. omega (arith, cycle.trail.in_range k lt, get_or_default (port ∷ ports) k d 0 lt, gathered.all, count_is),
    record {
      along = along_from port ports port (λ i lt. subst (λ k. HasRead reads (get_or (port ∷ ports) i 0) (get_or (port ∷ ports) k 0)) (add-one i) (cycle.trail.along i (omega (arith, lt)))) (subst (λ k. HasRead reads (get_or (port ∷ ports) k 0) port) (let e : length (port ∷ ports) - 1 ≡ length ports = omega arith in e) cycle.back);
      distinct = λ i j name at at'. apart i j name at at';
    },
  )
    where
      place_of : (i : ℕ) (name : Text) → slice_get (map (name_of n) (port ∷ ports)) i ≡ Some name → (i < length (port ∷ ports)) × (name_of n (get_or (port ∷ ports) i 0) ≡ name)
      place_of i name at =
          let within : i < length (port ∷ ports) = omega (arith, slice_get_within (map (name_of n) (port ∷ ports)) i name at, length-map (port ∷ ports) (name_of n)) in
          (within, sym (get_or-map (name_of n) (port ∷ ports) i 0 [] within) ∙ get_or_from_slice_get (map (name_of n) (port ∷ ports)) i name [] at)

      apart : (i j : ℕ) (name : Text) → slice_get (map (name_of n) (port ∷ ports)) i ≡ Some name → slice_get (map (name_of n) (port ∷ ports)) j ≡ Some name → i ≡ j
      apart i j name at at' =
          let p = place_of i name at in
          let q = place_of j name at' in
          cycle.trail.once i j p.0 q.0 (same_port (get_or (port ∷ ports) i 0) (get_or (port ∷ ports) j 0) (omega (arith, cycle.trail.in_range i p.0, gathered.all)) (omega (arith, cycle.trail.in_range j q.0, gathered.all)) (p.1 ∙ sym q.1))

-- ---- the assignments to each port

pub destinations_more : (names : List Text) (k : ℕ) (entries : List Entry) (sets : List SetLine) (e : Entry) (a : SetLine) → AreDestinations names k entries sets → e.key < length names → get_or names e.key [] ≡ a.dst → e.value ≡ k + length sets → AreDestinations names k (entries ++ e ∷ []) (sets ++ a ∷ [])
destinations_more names k [] [] e a are lt named value = (lt, named, omega (arith, value), tt)
destinations_more names k [] (b ∷ sets) e a are lt named value = absurd are
destinations_more names k (f ∷ entries) [] e a are lt named value = absurd are
destinations_more names k (f ∷ entries) (b ∷ sets) e a are lt named value = (are.0, are.1, are.2, destinations_more names (k + 1) entries sets e a are.3 lt named (omega (arith, value)))

pub destinations_in_range : (names : List Text) (k : ℕ) (entries : List Entry) (sets : List SetLine) → AreDestinations names k entries sets → All (λ (e : Entry). e.key < length names) entries
destinations_in_range names k [] sets are = All-nil (λ (e : Entry). e.key < length names)
destinations_in_range names k (e ∷ entries) [] are = absurd are
destinations_in_range names k (e ∷ entries) (a ∷ sets) are = All-cons (λ (e : Entry). e.key < length names) e entries are.0 (destinations_in_range names (k + 1) entries sets are.3)

numbers_step : (b : Bool) (v : ℕ) (xs : List Entry) (e : Entry) (ys : List ℕ) → e.value ≡ v → map (λ (x : Entry). x.value) xs ≡ ys → map (λ (x : Entry). x.value) (if b then e ∷ xs else xs) ≡ (if b then v ∷ ys else ys)
numbers_step true v xs e ys is rest = ap₂ ◌∷◌ is rest
numbers_step false v xs e ys is rest = rest

pub with_key_is : (names : List Text) (distinct : AreDistinct names) (port : ℕ) (name : Text) → slice_get names port ≡ Some name → (k : ℕ) (entries : List Entry) (sets : List SetLine) → AreDestinations names k entries sets → with_key port entries ≡ numbers_of name k sets
with_key_is names distinct port name at k [] [] are = refl
with_key_is names distinct port name at k [] (a ∷ sets) are = absurd are
with_key_is names distinct port name at k (e ∷ entries) [] are = absurd are
with_key_is names distinct port name at k (e ∷ entries) (a ∷ sets) are =
    let rest = with_key_is names distinct port name at (k + 1) entries sets are.3 in
    let here = slice_get-get_or names e.key [] are.0 ∙ ap Some are.1 in
    let to : e.key ≡ port → a.dst ≡ name = λ same. same_Some a.dst name (sym here ∙ ap (slice_get names) same ∙ at) in
    let back : a.dst ≡ name → e.key ≡ port = λ same. same_number names e.key port name distinct (here ∙ ap Some same) at in
    let test : (e.key == port) ≡ bytes_eq a.dst name = same_from_decides (e.key == port) (bytes_eq a.dst name) (λ t. (to ((Decides-eqb e.key port).0 t)), λ s. (Decides-eqb e.key port).1 (back s)) (bytes_eq-Decides a.dst name) in
    ap (λ b. map (λ (x : Entry). x.value) (if b then e ∷ filter (has_key port) entries else filter (has_key port) entries)) test
    ∙ numbers_step (bytes_eq a.dst name) k (filter (has_key port) entries) e (numbers_of name (suc k) sets) are.2 (rest ∙ ap (λ j. numbers_of name j sets) (add-one k))

-- each port's group has its assignments
pub sets_of_port : (n : Netlist) (entries : List Entry) (groups : List (List ℕ)) → AreDistinct (port_names n) → AreDestinations (port_names n) 0 entries n.sets → IsGathered entries (length (port_names n)) groups → (port : ℕ) (name : Text) → IsNamed n port name → slice_get groups port ≡ Some (numbers_of name 0 n.sets)
sets_of_port n entries groups distinct are gathered port name (p, at, e) =
    let there : slice_get (port_names n) port ≡ Some name = slice_get-map (λ (q : PortLine). q.name) (ports_of n) port ∙ ap (option_map (λ (q : PortLine). q.name)) at ∙ ap Some e in
    gathered.each port (slice_get_within (port_names n) port name there) ∙ ap Some (with_key_is (port_names n) distinct port name there 0 entries n.sets are)
