-- Each port of a netlist is declared in its module, with its width: as an input, an output or a wire, before all registers, and not as the clock.
use Rattle.std.proofs.Common.{◌≡◌, Bool, true, false, cond, List, [], ◌∷◌, ◌++◌, map, filter, flat_map, codes, Option, None, Some, inl, inr, refl, sym, ap, ap₂, ◌∙◌, append_assoc, append-nil}
use Rattle.std.specs.Prelude.{◌&&◌, bytes_eq, find, option_map}
use Rattle.std.specs.List.{list_all}
use Rattle.std.specs.Option.{option_map_or, option_or}
use Rattle.std.proofs.lemmas.Bool.{and_parts}
use Rattle.std.proofs.lemmas.List.{map-append}
use Rattle.std.proofs.lemmas.List.Concat.{flat_map-append}
use Rattle.std.proofs.lemmas.List.Folds.{find-append}
use Rattle.std.proofs.lemmas.Slice.Eq.{bytes_eq-Decides}
use Rattle.hw_graph.proofs.MemberLemmas.{In, at_of, from_flat_map, from_map, in_append, in_of}
use Rattle.hw_names.specs.Name.{Text, dotted}
use Rattle.hw_prims.specs.Table.{Pin, prim_of, inputs_of, outputs_of, input_names, output_names}
use Rattle.hw_prims.specs.declared.prim.Primitive.{Primitive}
use Rattle.net_core.proofs.PortListLemmas.{port_named-there}
use Rattle.net_core.proofs.ValidLemmas.{port_names_are_distinct}
use Rattle.net_core.specs.Netlist.{Netlist, SetLine, Line, InLine, OutLine, WireLine, CellOf, SetOf, lines_of}
use Rattle.net_core.specs.Rules.{PortLine, IsValid, cell_input, cell_output, port_named, ports_at, ports_from, ports_of, unsized}
use Rattle.net_text.specs.Names.{HasText, begins_name, continues_name, is_number, is_path, is_rest_of_path, is_segment, line_has_text}
use Rattle.ver_lang.specs.NetModule.{drive_item, inner_ports, items_of, items_of_cell, line_signal, module_of, pin_signal}
use Rattle.ver_lang.specs.Run.{item_signals, signals, widths_of}
use Rattle.ver_lang.specs.Tree.{Signal, Wire}
use Rattle.ver_runs.specs.Rows.{PortsAreDeclared}

-- ---- a name that a netlist's text has doesn't begin as the clock's

abbrev clock_name : Text
clock_name = codes "$clk"

abbrev begins : Text → Bool
begins [] = false
begins (c ∷ cs) = begins_name c

not_the_clock : (name : Text) → begins name ≡ true → bytes_eq clock_name name ≡ false
not_the_clock name is = by (bytes_eq clock_name name) refl
  where
    by : (b : Bool) → bytes_eq clock_name name ≡ b → bytes_eq clock_name name ≡ false
    by false e = e
    by true e =
        let same : clock_name ≡ name = (bytes_eq-Decides clock_name name).0 e in
        let bad : begins clock_name ≡ true = ap begins same ∙ is in
        absurd (cc)

segment_begins : (name : Text) → is_segment name ≡ true → begins name ≡ true
segment_begins [] is = absurd (cc)
segment_begins (c ∷ cs) is = (and_parts (begins_name c) (list_all continues_name cs) is).0

path_begins : (name : Text) → is_path name ≡ true → begins name ≡ true
path_begins [] is = absurd (cc)
path_begins (c ∷ cs) is = (and_parts (begins_name c) (is_rest_of_path cs) is).0

dotted_begins : (cell pin : Text) → begins cell ≡ true → begins (dotted cell pin) ≡ true
dotted_begins [] pin is = absurd (cc)
dotted_begins (c ∷ cs) pin is = is

-- the ports of a cell have dotted names
cell_names : (o : Option Primitive) (cell prim : Text) (p : PortLine) → In (ports_from o cell prim) p → (pin : Text) × (dotted cell pin ≡ p.name)
cell_names None cell prim p has = elim (in_append (map (λ q. cell_input cell (unsized q)) (input_names prim)) (map (λ q. cell_output cell (unsized q)) (output_names prim)) p has) [
  | inl input ↦ let r = from_map (λ q. cell_input cell (unsized q)) (input_names prim) p input in (r.0, ap (λ (q : PortLine). q.name) r.2)
  | inr output ↦ let r = from_map (λ q. cell_output cell (unsized q)) (output_names prim) p output in (r.0, ap (λ (q : PortLine). q.name) r.2)
]
cell_names (Some made) cell prim p has = elim (in_append (map (cell_input cell) (inputs_of made)) (map (cell_output cell) (outputs_of made)) p has) [
  | inl input ↦ let r = from_map (cell_input cell) (inputs_of made) p input in (r.0.name, ap (λ (q : PortLine). q.name) r.2)
  | inr output ↦ let r = from_map (cell_output cell) (outputs_of made) p output in (r.0.name, ap (λ (q : PortLine). q.name) r.2)
]

begins_along : (a b : Text) → a ≡ b → begins a ≡ true → begins b ≡ true
begins_along a b same is = ap begins (sym same) ∙ is

line_begins : (line : Line) → line_has_text line ≡ true → (p : PortLine) → In (ports_at line) p → begins p.name ≡ true
line_begins (InLine q) text p (inl same) = begins_along q.name p.name (ap (λ (r : PortLine). r.name) same) (segment_begins q.name (and_parts (is_segment q.name) (is_number q.width) text).0)
line_begins (InLine q) text p (inr none) = absurd none
line_begins (OutLine q) text p (inl same) = begins_along q.name p.name (ap (λ (r : PortLine). r.name) same) (segment_begins q.name (and_parts (is_segment q.name) (is_number q.width) text).0)
line_begins (OutLine q) text p (inr none) = absurd none
line_begins (WireLine q) text p (inl same) = begins_along q.name p.name (ap (λ (r : PortLine). r.name) same) (path_begins q.name (and_parts (is_path q.name) (is_number q.width) text).0)
line_begins (WireLine q) text p (inr none) = absurd none
line_begins (SetOf a) text p none = absurd none
line_begins (CellOf c) text p has =
    let named = cell_names (prim_of c.prim c.params) c.name c.prim p has in
    let both = and_parts (is_path c.name && is_segment c.prim) (list_all is_number c.params) text in
    let path = (and_parts (is_path c.name) (is_segment c.prim) both.0).0 in
    begins_along (dotted c.name named.0) p.name named.1 (dotted_begins c.name named.0 (path_begins c.name path))

pub all_in : {X : Type 0} (test : X → Bool) (xs : List X) (x : X) → list_all test xs ≡ true → In xs x → test x ≡ true
all_in test [] x all has = absurd has
all_in test (y ∷ xs) x all (inl same) = ap test (sym same) ∙ (and_parts (test y) (list_all test xs) all).0
all_in test (y ∷ xs) x all (inr later) = all_in test xs x (and_parts (test y) (list_all test xs) all).1 later

port_begins : (n : Netlist) → HasText n → (p : PortLine) → In (ports_of n) p → begins p.name ≡ true
port_begins n text p has =
    let line = from_flat_map ports_at (lines_of n) p has in
    line_begins line.0 (all_in line_has_text (lines_of n) line.0 text.1 line.1) p line.2

-- ---- the signals of the module: the clock, a signal for each port, then the cells' own

find_one : (b : Bool) (p : PortLine) (found : Option Signal) (named : Option PortLine) → found ≡ option_map line_signal named → cond b (Some (line_signal p)) found ≡ option_map line_signal (cond b (Some p) named)
find_one true p found named same = refl
find_one false p found named same = same

find_port : (ports : List PortLine) (x : Text) → find (λ (s : Signal). bytes_eq s.name x) (map line_signal ports) ≡ option_map line_signal (port_named ports x)
find_port [] x = refl
find_port (p ∷ ports) x = find_one (bytes_eq p.name x) p (find (λ (s : Signal). bytes_eq s.name x) (map line_signal ports)) (port_named ports x) (find_port ports x)

ins_are : (pins : List Pin) → map line_signal (flat_map ports_at (map InLine pins)) ≡ map pin_signal pins
ins_are [] = refl
ins_are (p ∷ pins) = ap (λ (s : List Signal). pin_signal p ∷ s) (ins_are pins)

outs_are : (pins : List Pin) → map line_signal (flat_map ports_at (map OutLine pins)) ≡ map pin_signal pins
outs_are [] = refl
outs_are (p ∷ pins) = ap (λ (s : List Signal). pin_signal p ∷ s) (outs_are pins)

sets_make_none : (sets : List SetLine) → flat_map ports_at (map SetOf sets) ≡ []
sets_make_none [] = refl
sets_make_none (a ∷ sets) = sets_make_none sets

wires_are : (ports : List PortLine) → flat_map item_signals (map (λ p. Wire (line_signal p)) ports) ≡ map line_signal ports
wires_are [] = refl
wires_are (p ∷ ports) = ap (λ (s : List Signal). line_signal p ∷ s) (wires_are ports)

module _ (n : Netlist) where
  -- the signals after those of the ports
  abbrev others : List Signal
  others = flat_map item_signals (flat_map items_of_cell n.cells ++ map (drive_item n.sets) (filter (λ (p : PortLine). p.writable) (ports_of n)))

  ports_in_parts : ports_of n ≡ flat_map ports_at (map InLine n.ins) ++ flat_map ports_at (map OutLine n.outs) ++ inner_ports n
  ports_in_parts =
      flat_map-append ports_at (map InLine n.ins ++ map OutLine n.outs ++ map WireLine n.wires ++ map CellOf n.cells) (map SetOf n.sets)
      ∙ ap (λ (ps : List PortLine). flat_map ports_at (map InLine n.ins ++ map OutLine n.outs ++ map WireLine n.wires ++ map CellOf n.cells) ++ ps) (sets_make_none n.sets)
      ∙ append-nil (flat_map ports_at (map InLine n.ins ++ map OutLine n.outs ++ map WireLine n.wires ++ map CellOf n.cells))
      ∙ ap (flat_map ports_at) (append_assoc (map InLine n.ins ++ map OutLine n.outs) (map WireLine n.wires) (map CellOf n.cells))
      ∙ flat_map-append ports_at (map InLine n.ins ++ map OutLine n.outs) (map WireLine n.wires ++ map CellOf n.cells)
      ∙ ap (λ (ps : List PortLine). ps ++ inner_ports n) (flat_map-append ports_at (map InLine n.ins) (map OutLine n.outs))

  port_signals : map line_signal (ports_of n) ≡ map pin_signal n.ins ++ map pin_signal n.outs ++ map line_signal (inner_ports n)
  port_signals =
      let ins = flat_map ports_at (map InLine n.ins) in
      let outs = flat_map ports_at (map OutLine n.outs) in
      ap (map line_signal) ports_in_parts
      ∙ map-append line_signal (ins ++ outs) (inner_ports n)
      ∙ ap (λ (s : List Signal). s ++ map line_signal (inner_ports n)) (map-append line_signal ins outs ∙ ap₂ (λ (s t : List Signal). s ++ t) (ins_are n.ins) (outs_are n.outs))

  inner_signals : flat_map item_signals (items_of n) ≡ map line_signal (inner_ports n) ++ others
  inner_signals =
      let wires = map (λ p. Wire (line_signal p)) (inner_ports n) in
      let drives = map (drive_item n.sets) (filter (λ (p : PortLine). p.writable) (ports_of n)) in
      ap (flat_map item_signals) (append_assoc wires (flat_map items_of_cell n.cells) drives)
      ∙ flat_map-append item_signals wires (flat_map items_of_cell n.cells ++ drives)
      ∙ ap (λ (s : List Signal). s ++ others) (wires_are (inner_ports n))

  -- the clock, a signal for each port in their order, and others
  signals_are : signals (module_of n) ≡ (record { name = clock_name; width = 1 }) ∷ (map line_signal (ports_of n) ++ others)
  signals_are =
      let clock : Signal = record { name = clock_name; width = 1 } in
      let ins = map pin_signal n.ins in
      let outs = map pin_signal n.outs in
      let inner = map line_signal (inner_ports n) in
      ap (λ (s : List Signal). clock ∷ (ins ++ outs ++ s)) inner_signals
      ∙ ap (λ (s : List Signal). clock ∷ s) (sym (append_assoc (ins ++ outs) inner others))
      ∙ ap (λ (s : List Signal). clock ∷ (s ++ others)) (sym port_signals)

  pub port_is_declared : IsValid n → HasText n → (p : PortLine) → In (ports_of n) p → widths_of (module_of n) p.name ≡ p.width
  port_is_declared valid text p has =
      let at = at_of (ports_of n) p has in
      let named : port_named (ports_of n) p.name ≡ Some p = port_named-there (ports_of n) at.0 p (port_names_are_distinct n valid) at.1 in
      let test : Signal → Bool = λ s. bytes_eq s.name p.name in
      let clock : Signal = record { name = clock_name; width = 1 } in
      let here : find test (map line_signal (ports_of n)) ≡ Some (line_signal p) = find_port (ports_of n) p.name ∙ ap (option_map line_signal) named in
      let later : find test (map line_signal (ports_of n) ++ others) ≡ Some (line_signal p) =
      find-append test (map line_signal (ports_of n)) others ∙ ap (λ (o : Option Signal). option_or o (find test others)) here in
      let found : find test (signals (module_of n)) ≡ Some (line_signal p) =
      ap (find test) signals_are
      ∙ ap (λ (b : Bool). cond b (Some clock) (find test (map line_signal (ports_of n) ++ others))) (not_the_clock p.name (port_begins n text p has))
      ∙ later in
      ap (λ (o : Option Signal). option_map_or (λ (s : Signal). s.width) o 0) found

pub ports_are_declared : PortsAreDeclared
ports_are_declared n valid text p has = port_is_declared n valid text p (in_of (ports_of n) p has)
