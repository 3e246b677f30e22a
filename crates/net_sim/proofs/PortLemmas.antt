-- What the rules of a netlist give of its ports: names, widths, and which are driven.
use Rattle.std.proofs.Common.{◌≡◌, ℕ, zero, suc, ◌+◌, ◌-◌, ◌<◌, ◌≤◌, List, [], ◌∷◌, ◌++◌, Option, Some, None, length, get_or, take, drop, refl, sym, ap, ◌∙◌, arith, inl, inr, Bool, true, false, subst, length-drop, length-take}
use Rattle.std.specs.Prelude.{slice_get, slice_range, map, option_map, bytes_eq, is_some, not, ◌&&◌, ◌||◌, ◌==◌, if◌then◌else◌}
use Rattle.std.specs.List.{flat_map}
use Rattle.std.proofs.lemmas.Bool.{and_parts, cases_lt, cases_eq}
use Rattle.std.proofs.lemmas.Bool.Decides.{Decides-eqb}
use Rattle.std.proofs.lemmas.List.{length-map, get_or-map, get_or-take, get_or-drop, ext_get_or}
use Rattle.std.proofs.lemmas.Option.{slice_get-map, slice_get_within, get_or_from_slice_get, same_Some}
use Rattle.std.proofs.lemmas.Slice.Eq.{bytes_eq-Decides}
use Rattle.hw_names.specs.Name.{Text}
use Rattle.hw_prims.specs.Table.{Pin, prim_of, inputs_of, outputs_of, pin_names, pin_widths}
use Rattle.hw_prims.specs.declared.prim.Primitive.{Primitive}
use Rattle.net_core.specs.NetRun.{HasPin, IsNetCell, IsWritable}
use Rattle.net_core.specs.Netlist.{Netlist, CellLine, SetLine, Line, InLine, OutLine, WireLine, CellOf, lines_of}
use Rattle.net_core.specs.Rules.{PortLine, ports_of, own_port, cell_input, cell_output, port_named, has_name, port_width, width_or_none, source_width, is_writable, has_good_widths, has_known_names, has_good_sides, has_good_parameters, each_source, literal_fits, source_is_readable, option_widths_agree, LineKeepsRules, IsValid, cell_names_at, is_among, has_new_names, ports_at, are_new, port_names as names_in}
use Rattle.net_sim.proofs.GiverLemmas.{at_some}
use Rattle.net_sim.proofs.LayoutLemmas.{ports_of-parts, ports_of_prim, input_at, output_at, first_port-more, first_port-le, length-ports_of_cell}
use Rattle.hw_graph.proofs.MemberLemmas.{In, in_at, at_of, contains_of, in_append, in_map, from_map, in_flat_map, from_flat_map}
use Rattle.net_sim.proofs.PlaceLemmas.{named_at}
use Rattle.net_sim.proofs.RowLemmas.{Once}
use Rattle.net_sim.proofs.ValidLemmas.{found, set_keeps, cell_line, cell_has_prim}
use Rattle.net_sim.specs.Layout.{port_names, port_widths, first_port, ports_of_cell, AreCellPorts, IsCellPorts}
use Rattle.net_sim.specs.PortOrder.{numbers_of}
use Rattle.net_sim.specs.Sim.{cell_names}
use Rattle.net_sim.specs.declared.cells.CellPorts.{CellPorts}

some_of : {X : Type 0} (o : Option X) → is_some o ≡ true → (x : X) × (o ≡ Some x)
some_of None e = absurd (cc)
some_of (Some x) e = (x, refl)

abbrev name_in : PortLine → Text
name_in p = p.name

-- ---- a part of a list

pub part_is : (xs ys : List ℕ) (from to : ℕ) → to ≡ from + length ys → to ≤ length xs → ((i : ℕ) → i < length ys → get_or xs (from + i) 0 ≡ get_or ys i 0) → slice_range xs from to ≡ ys
part_is xs ys from to end within same = ext_get_or 0 (slice_range xs from to) ys size (λ i lt. let below : i < to - from = omega (arith, lt, size, end) in get_or-take (to - from) (drop from xs) i 0 below ∙ get_or-drop from xs i 0 ∙ same i (omega (arith, lt, size)))
  where
    size : length (slice_range xs from to) ≡ length ys
    size = omega (arith, length-take (to - from) (drop from xs), length-drop from xs, end, within)

-- ---- ports by their names

port_found : (ports : List PortLine) → Once (map name_in ports) → (k : ℕ) (p : PortLine) → slice_get ports k ≡ Some p → port_named ports p.name ≡ Some p
port_found [] once k p at = cc
port_found (q ∷ ports) once zero p at =
    let same : q ≡ p = cc in
    ap (λ (b : Bool). if b then Some q else port_named ports p.name) ((bytes_eq-Decides q.name p.name).1 (ap name_in same)) ∙ ap Some same
port_found (q ∷ ports) once (suc k) p at = by (port_found ports (λ i j x a b. let s : suc i ≡ suc j = once (suc i) (suc j) x a b in omega (arith, s)) k p at) (has_name p.name q) refl
  where
    by : port_named ports p.name ≡ Some p → (b : Bool) → has_name p.name q ≡ b → (if b then Some q else port_named ports p.name) ≡ Some p
    by rest true e =
        let twice : zero ≡ suc k = once zero (suc k) p.name (ap Some ((bytes_eq-Decides q.name p.name).0 e)) (slice_get-map name_in ports k ∙ ap (option_map name_in) at) in absurd (omega (arith, twice))
    by rest false e = rest

-- the port of a number
pub port_with : (n : Netlist) (k : ℕ) → k < length (port_names n) → (p : PortLine) × (slice_get (ports_of n) k ≡ Some p)
port_with n k lt = at_some (ports_of n) k (omega (arith, lt, length-map (ports_of n) name_in))

pub width_at : (n : Netlist) → Once (port_names n) → (k : ℕ) (name : Text) → slice_get (port_names n) k ≡ Some name → slice_get (port_widths n) k ≡ Some (port_width (ports_of n) name)
width_at n once k name at =
    let p = port_with n k (slice_get_within (port_names n) k name at) in
    let named : p.0.name ≡ name = same_Some p.0.name name (sym (named_at n k p.0 p.1) ∙ at) in
    let is : port_named (ports_of n) name ≡ Some p.0 = ap (port_named (ports_of n)) (sym named) ∙ port_found (ports_of n) once k p.0 p.1 in
    slice_get-map (λ (q : PortLine). q.width) (ports_of n) k ∙ ap (option_map (λ (q : PortLine). q.width)) p.1 ∙ ap Some (ap width_or_none (sym is))

-- both sides of an assignment have one width
pub set_width : (n : Netlist) → IsValid n → (k : ℕ) (a : SetLine) → slice_get n.sets k ≡ Some a → port_width (ports_of n) a.dst ≡ source_width (ports_of n) a.src
set_width n valid k a at =
    let widths = (set_keeps n valid k a at).widths in
    let both = (and_parts (each_source literal_fits a && (port_width (ports_of n) a.dst == source_width (ports_of n) a.src)) (option_widths_agree (ports_of n) a.guard) widths).0 in
    (Decides-eqb (port_width (ports_of n) a.dst) (source_width (ports_of n) a.src)).0 (and_parts (each_source literal_fits a) (port_width (ports_of n) a.dst == source_width (ports_of n) a.src) both).1

-- ---- the assignments by their numbers

pub record IsSetAt (name : Text) (base : ℕ) (sets : List SetLine) (k : ℕ) : Type 0 where
  pub index : ℕ
  pub set : SetLine
  pub counted : k ≡ base + index
  pub at : slice_get sets index ≡ Some set
  pub named : set.dst ≡ name

later_set : (name : Text) (base : ℕ) (a : SetLine) (sets : List SetLine) (k : ℕ) → IsSetAt name (suc base) sets k → IsSetAt name base (a ∷ sets) k
later_set name base a sets k r = record { index = suc r.index; set = r.set; counted = omega (arith, r.counted); at = r.at; named = r.named }

pub set_of_number : (name : Text) (base : ℕ) (sets : List SetLine) (i k : ℕ) → slice_get (numbers_of name base sets) i ≡ Some k → IsSetAt name base sets k
set_of_number name base [] i k at = cc
set_of_number name base (a ∷ sets) i k at = by (bytes_eq a.dst name) refl i at (λ i' at'. set_of_number name (suc base) sets i' k at')
  where
    by : (b : Bool) → bytes_eq a.dst name ≡ b → (i : ℕ) → slice_get (if b then base ∷ numbers_of name (suc base) sets else numbers_of name (suc base) sets) i ≡ Some k → ((i' : ℕ) → slice_get (numbers_of name (suc base) sets) i' ≡ Some k → IsSetAt name (suc base) sets k) → IsSetAt name base (a ∷ sets) k
    by true t zero at later = let e : base ≡ k = same_Some base k at in record { index = 0; set = a; counted = omega (arith, e); at = refl; named = (bytes_eq-Decides a.dst name).0 t }
    by true t (suc i) at later = later_set name base a sets k (later i at)
    by false t i at later = later_set name base a sets k (later i at)

-- ---- what is assigned may be driven

writable_port : (o : Option PortLine) → is_writable o ≡ true → (p : PortLine) × (o ≡ Some p) × (p.writable ≡ true)
writable_port None e = absurd (cc)
writable_port (Some p) e = (p, refl, e)

not_both : (b : Bool) → b ≡ true → b ≡ false → ⊥
not_both b t f = cc

has_pin : (pins : List Pin) (pin : Pin) → In pins pin → HasPin pins pin.name
has_pin pins pin has = contains_of (map (λ (p : Pin). p.name) pins) pin.name (in_map (λ (p : Pin). p.name) pins pin has)

abbrev writes : PortLine → Bool
writes p = p.writable

module _ (n : Netlist) (valid : IsValid n) where
  cell_port_writable : (c : CellLine) (prim : Primitive) (p : PortLine) → IsNetCell n c.name prim → prim_of c.prim c.params ≡ Some prim → In (ports_of_cell c) p → p.writable ≡ true → IsWritable n p.name
  cell_port_writable c prim p net_cell is has writable = elim (in_append (map (cell_input c.name) (inputs_of prim)) (map (cell_output c.name) (outputs_of prim)) p (subst (λ l. In l p) (ports_of_prim c prim is) has)) [
    | inl input ↦
        let r = from_map (cell_input c.name) (inputs_of prim) p input in
        inr (inr (c.name, prim, net_cell, r.0.name, contains_of (pin_names (inputs_of prim)) r.0.name (in_map (λ (q : Pin). q.name) (inputs_of prim) r.0 r.1), ap name_in r.2))
    | inr output ↦ let r = from_map (cell_output c.name) (outputs_of prim) p output in absurd (not_both p.writable writable (sym (ap writes r.2)))
  ]

  port_writable : (p : PortLine) → In (ports_of n) p → p.writable ≡ true → IsWritable n p.name
  port_writable p has writable = elim (in_append (map (own_port true false) n.ins ++ map (own_port false true) n.outs ++ map (own_port true true) n.wires) (flat_map ports_of_cell n.cells) p (subst (λ l. In l p) (ports_of-parts n) has)) [
    | inr cells ↦
        let r = from_flat_map ports_of_cell n.cells p cells in
        let k = at_of n.cells r.0 r.1 in
        let prim = some_of (prim_of r.0.prim r.0.params) (cell_has_prim n valid k.0 r.0 k.1) in
        cell_port_writable r.0 prim.0 p (k.0, r.0, k.1, refl, prim.1) prim.1 r.2 writable
    | inl own ↦ elim (in_append (map (own_port true false) n.ins ++ map (own_port false true) n.outs) (map (own_port true true) n.wires) p own) [
      | inr wire ↦ let r = from_map (own_port true true) n.wires p wire in inr (inl (subst (HasPin n.wires) (ap name_in r.2) (has_pin n.wires r.0 r.1)))
      | inl others ↦ elim (in_append (map (own_port true false) n.ins) (map (own_port false true) n.outs) p others) [
        | inl input ↦ let r = from_map (own_port true false) n.ins p input in absurd (not_both p.writable writable (sym (ap writes r.2)))
        | inr out ↦ let r = from_map (own_port false true) n.outs p out in inl (subst (HasPin n.outs) (ap name_in r.2) (has_pin n.outs r.0 r.1))
      ]
    ]
  ]

  pub set_writable : (k : ℕ) (a : SetLine) → slice_get n.sets k ≡ Some a → IsWritable n a.dst
  set_writable k a at =
      let sides = (set_keeps n valid k a at).sides in
      let p = writable_port (port_named (ports_of n) a.dst) (and_parts (is_writable (port_named (ports_of n) a.dst)) (each_source (source_is_readable (ports_of n)) a) sides).0 in
      let f = found (ports_of n) a.dst p.0 p.1 in
      subst (IsWritable n) f.named (port_writable p.0 (in_at (ports_of n) f.place p.0 f.at) p.2)

  -- ---- the inputs of a cell have its primitive's widths

  pub input_widths : (cells : List CellPorts) → AreCellPorts n cells → (k : ℕ) (c : CellPorts) → slice_get cells k ≡ Some c → (c.first + length (inputs_of c.prim) ≤ length (port_widths n)) × (slice_range (port_widths n) c.first (c.first + length (inputs_of c.prim)) ≡ pin_widths (inputs_of c.prim))
  input_widths cells listed k c at =
      let line = at_some n.cells k (omega (arith, listed.all, slice_get_within cells k c at)) in
      let is : IsCellPorts n k line.0 c = listed.each k line.0 c line.1 at in
      let some : Pin = record { name = []; width = 0 } in
      let size = length-map (inputs_of c.prim) (λ (p : Pin). p.width) in
      let within : c.first + length (inputs_of c.prim) ≤ length (port_widths n) = omega (arith, is.first, first_port-more n k line.0 line.1, first_port-le n (k + 1), length-ports_of_cell line.0 c.prim is.prim, length-map (ports_of n) (λ (p : PortLine). p.width)) in (
        within,
        part_is (port_widths n) (pin_widths (inputs_of c.prim)) c.first (c.first + length (inputs_of c.prim)) (omega (arith, size)) within (λ i lt.
            let below : i < length (inputs_of c.prim) = omega (arith, lt, size) in
            let port = input_at n k line.0 c.prim line.1 is.prim i some below in
            get_or_from_slice_get (port_widths n) (c.first + i) (get_or (inputs_of c.prim) i some).width 0 (slice_get-map (λ (p : PortLine). p.width) (ports_of n) (c.first + i) ∙ ap (λ f. option_map (λ (p : PortLine). p.width) (slice_get (ports_of n) (f + i))) is.first ∙ ap (option_map (λ (p : PortLine). p.width)) port)
            ∙ sym (get_or-map (λ (p : Pin). p.width) (inputs_of c.prim) i some 0 below)),
      )

  -- an output has its primitive's width
  pub output_width : (cells : List CellPorts) → AreCellPorts n cells → (k : ℕ) (c : CellPorts) (j w : ℕ) → slice_get cells k ≡ Some c → slice_get (pin_widths (outputs_of c.prim)) j ≡ Some w → slice_get (port_widths n) (first_port n k + (length (inputs_of c.prim) + j)) ≡ Some w
  output_width cells listed k c j w at is_w =
      let line = at_some n.cells k (omega (arith, listed.all, slice_get_within cells k c at)) in
      let is : IsCellPorts n k line.0 c = listed.each k line.0 c line.1 at in
      let some : Pin = record { name = []; width = 0 } in
      let lt : j < length (outputs_of c.prim) = omega (arith, slice_get_within (pin_widths (outputs_of c.prim)) j w is_w, length-map (outputs_of c.prim) (λ (p : Pin). p.width)) in
      let port = output_at n k line.0 c.prim line.1 is.prim j some lt in
      let width : (get_or (outputs_of c.prim) j some).width ≡ w = sym (get_or-map (λ (p : Pin). p.width) (outputs_of c.prim) j some 0 lt) ∙ get_or_from_slice_get (pin_widths (outputs_of c.prim)) j w 0 is_w in
      let place : first_port n k + (length (inputs_of c.prim) + j) ≡ first_port n k + length (inputs_of c.prim) + j = omega arith in
      ap (slice_get (port_widths n)) place ∙ slice_get-map (λ (p : PortLine). p.width) (ports_of n) (first_port n k + length (inputs_of c.prim) + j) ∙ ap (option_map (λ (p : PortLine). p.width)) port ∙ ap Some width

  -- ---- no two cells have one name

  first_rule : (a b c d e : Bool) → (a && (b && (c && (d && (e && true))))) ≡ true → a ≡ true
  first_rule true b c d e h = refl
  first_rule false b c d e h = cc

  rule_new : (k : ℕ) (line : Line) → LineKeepsRules n k line → has_new_names (flat_map ports_at (take k (lines_of n))) (flat_map cell_names_at (take k (lines_of n))) line ≡ true
  rule_new k line h = first_rule (has_new_names (flat_map ports_at (take k (lines_of n))) (flat_map cell_names_at (take k (lines_of n))) line) (has_known_names (ports_of n) line) (has_good_widths (ports_of n) line) (has_good_sides (ports_of n) line) (has_good_parameters line) h

  among : (names : List Text) (name : Text) → In names name → is_among names name ≡ true
  among [] name has = absurd has
  among (x ∷ xs) name has = by (bytes_eq name x) refl has (among xs name)
    where
      by : (b : Bool) → bytes_eq name x ≡ b → In (x ∷ xs) name → (In xs name → is_among xs name ≡ true) → (b || is_among xs name) ≡ true
      by true t has rest = refl
      by false t (inl e) rest = let yes' = (bytes_eq-Decides name x).1 (sym e) in absurd (cc)
      by false t (inr has) rest = rest has

  in_taken : (lines : List Line) (m i : ℕ) (line : Line) → i < m → slice_get lines i ≡ Some line → In (take m lines) line
  in_taken lines zero i line lt at = absurd (omega (arith, lt))
  in_taken [] (suc m) i line lt at = cc
  in_taken (l ∷ ls) (suc m) zero line lt at = inl (cc)
  in_taken (l ∷ ls) (suc m) (suc i) line lt at = inr (in_taken ls m i line (omega (arith, lt)) at)

  abbrev cell_base : ℕ
  cell_base = length (map InLine n.ins ++ map OutLine n.outs ++ map WireLine n.wires)

  new_cell : (i j : ℕ) (c d : CellLine) → i < j → slice_get n.cells i ≡ Some c → slice_get n.cells j ≡ Some d → c.name ≡ d.name → ⊥
  new_cell i j c d lt at at' same =
      let before = take (cell_base + j) (lines_of n) in
      let rule = rule_new (cell_base + j) (CellOf d) (valid (cell_base + j) (CellOf d) (cell_line n j d at')) in
      let cells = (and_parts (are_new (names_in (flat_map ports_at before)) (names_in (ports_at (CellOf d)))) (are_new (flat_map cell_names_at before) (cell_names_at (CellOf d))) rule).1 in
      let is_new = (and_parts (not (is_among (flat_map cell_names_at before) d.name)) true cells).0 in
      let there = among (flat_map cell_names_at before) d.name (in_flat_map cell_names_at before (CellOf c) d.name (in_taken (lines_of n) (cell_base + j) (cell_base + i) (CellOf c) (omega (arith, lt)) (cell_line n i c at)) (inl same)) in
      contradict (is_among (flat_map cell_names_at before) d.name) there is_new
    where
      contradict : (b : Bool) → b ≡ true → not b ≡ true → ⊥
      contradict true e f = cc
      contradict false e f = cc

  pub cells_once : Once (cell_names n)
  cells_once i j x at at' = elim (cases_lt i j) [
    | inl before ↦ absurd (apart i j x before at at')
    | inr later ↦ elim (cases_eq i j) [
      | inl same ↦ same
      | inr other ↦ absurd (apart j i x (omega (arith, later, other)) at' at)
    ]
  ]
    where
      apart : (i j : ℕ) (x : Text) → i < j → slice_get (cell_names n) i ≡ Some x → slice_get (cell_names n) j ≡ Some x → ⊥
      apart i j x lt at at' =
          let c = at_some n.cells i (omega (arith, slice_get_within (cell_names n) i x at, length-map n.cells (λ (c : CellLine). c.name))) in
          let d = at_some n.cells j (omega (arith, slice_get_within (cell_names n) j x at', length-map n.cells (λ (c : CellLine). c.name))) in
          let e = same_Some c.0.name x (sym (slice_get-map (λ (c : CellLine). c.name) n.cells i ∙ ap (option_map (λ (c : CellLine). c.name)) c.1) ∙ at) in
          let e' = same_Some d.0.name x (sym (slice_get-map (λ (c : CellLine). c.name) n.cells j ∙ ap (option_map (λ (c : CellLine). c.name)) d.1) ∙ at') in
          new_cell i j c.0 d.0 lt c.1 d.1 (e ∙ sym e')
