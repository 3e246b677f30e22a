-- The ports of a netlist by its table, and the wires among them.
use Rattle.std.proofs.Common.{◌≡◌, ℕ, ◌+◌, ◌<◌, ◌≤◌, false, List, [], ◌∷◌, ◌++◌, length, map, take, drop, get_or, flat_map, codes, slice_get, Some, option_map, refl, sym, ap, ap₂, ◌∙◌, append_assoc, append-nil, arith, length-append}
use Rattle.std.proofs.lemmas.List.{length-map, length-take, take_more, take_all, drop_all, drop_at, drop-append-le}
use Rattle.std.proofs.lemmas.List.Concat.{flat_map-append}
use Rattle.std.proofs.lemmas.List.Folds.{flat_map-map}
use Rattle.std.proofs.lemmas.Option.{slice_get_within, slice_get-map, slice_get-get_or, get_or_from_slice_get, same_Some}
use Rattle.hw_names.specs.Name.{Text}
use Rattle.hw_prims.specs.Table.{Pin}
use Rattle.net_core.specs.Netlist.{Netlist, SetLine, Line, InLine, OutLine, WireLine, CellOf, SetOf, pin_of, netlist_of}
use Rattle.net_core.specs.Rules.{PortLine, ports_at, ports_of}
use Rattle.net_core.specs.Table.{IsTableOf}
use Rattle.net_core.specs.declared.net.Net.{Net}
use Rattle.net_core.specs.declared.table.PortInfo.{PortInfo}
use Rattle.net_core.specs.declared.table.Table.{Table}
use Rattle.ver_print.specs.Ports.{inner_ports, port_text, ports_text, wire_line, wires_text}
use Rattle.ver_print.specs.Words.{escaped, range}
use Rattle.ver_print.proofs.PutLemmas.{put_then}

-- ---- the table

-- what is read past the end of a table
abbrev pub no_info : PortInfo
no_info = record { name = record { 0 = 0 }; width = 0 }

-- a port of the netlist, as its table has it
pub record HasPort (n : Netlist) (table : Table) (k : ℕ) (info : PortInfo) : Type 0 where
  pub port : PortLine
  pub at : slice_get (ports_of n) k ≡ Some port
  pub name : slice_get table.names info.name.0 ≡ Some port.name
  pub width : port.width ≡ info.width

module _ (n : Netlist) (table : Table) (is : IsTableOf n table) where
  pub length_table : length table.ports.items ≡ length (ports_of n)
  length_table =
      sym (length-map table.ports.items (λ (p : PortInfo). p.width)) ∙ ap length is.widths ∙ length-map (ports_of n) (λ (p : PortLine). p.width)

  pub table_port : (k : ℕ) (info : PortInfo) → slice_get table.ports.items k ≡ Some info → HasPort n table k info
  table_port k info at =
      let within : k < length (ports_of n) = omega (arith, slice_get_within table.ports.items k info at, length_table) in
      let none : PortLine = record { name = []; width = 0; readable = false; writable = false } in
      let port : PortLine = get_or (ports_of n) k none in
      let here : slice_get (ports_of n) k ≡ Some port = slice_get-get_or (ports_of n) k none within in
      record {
        port = port;
        at = here;
        name =
            ap (slice_get table.names) (is.numbers k info at) ∙ ap (λ (names : List Text). slice_get names k) is.names
            ∙ slice_get-map (λ (p : PortLine). p.name) (ports_of n) k ∙ ap (option_map (λ (p : PortLine). p.name)) here;
        width =
            let by_lines : slice_get (map (λ (p : PortLine). p.width) (ports_of n)) k ≡ Some port.width = slice_get-map (λ (p : PortLine). p.width) (ports_of n) k ∙ ap (option_map (λ (p : PortLine). p.width)) here in
            let by_table : slice_get (map (λ (p : PortInfo). p.width) table.ports.items) k ≡ Some info.width = slice_get-map (λ (p : PortInfo). p.width) table.ports.items k ∙ ap (option_map (λ (p : PortInfo). p.width)) at in
            same_Some port.width info.width (sym by_lines ∙ ap (λ (widths : List ℕ). slice_get widths k) (sym is.widths) ∙ by_table);
      }

  pub table_name_within : (k : ℕ) (info : PortInfo) → slice_get table.ports.items k ≡ Some info → info.name.0 < length table.names
  table_name_within k info at = let port = table_port k info at in slice_get_within table.names info.name.0 port.port.name port.name

  pub info_at : (items : List PortInfo) (k : ℕ) → items ≡ table.ports.items → k < length items → slice_get table.ports.items k ≡ Some (get_or items k no_info)
  info_at items k same within = ap (λ (ports : List PortInfo). slice_get ports k) (sym same) ∙ slice_get-get_or items k no_info within

-- ---- the ports of the module

pub port_put : (direction : Text) (p : Pin) (name a b c d e f : Text) → p.name ≡ name → b ≡ a ++ codes ",\n  " → c ≡ b ++ direction → d ≡ c ++ codes " wire " → e ≡ d ++ range p.width → f ≡ e ++ codes " "
    → f ++ escaped name ≡ a ++ port_text direction p
port_put direction p name a b c d e f named h1 h2 h3 h4 h5 =
    let most : f ≡ a ++ (codes ",\n  " ++ direction ++ codes " wire " ++ range p.width ++ codes " ") =
    put_then a e f (codes ",\n  " ++ direction ++ codes " wire " ++ range p.width) (codes " ")
    (put_then a d e (codes ",\n  " ++ direction ++ codes " wire ") (range p.width) (put_then a c d (codes ",\n  " ++ direction) (codes " wire ") (put_then a b c (codes ",\n  ") direction h1 h2) h3) h4) h5 in
    ap₂ (λ (t s : Text). t ++ escaped s) most (sym named) ∙ append_assoc a (codes ",\n  " ++ direction ++ codes " wire " ++ range p.width ++ codes " ") (escaped p.name)

pub ports_put : (net : Net) (a b c d : Text) → b ≡ a ++ codes "  input wire \\$clk " → c ≡ b ++ flat_map (λ p. port_text (codes "input") (pin_of net.names p)) net.ins.items
    → d ≡ c ++ flat_map (λ p. port_text (codes "output") (pin_of net.names p)) net.outs.items → d ++ codes "\n" ≡ a ++ ports_text (netlist_of net)
ports_put net a b c d h1 h2 h3 =
    let ins : Text = flat_map (λ p. port_text (codes "input") (pin_of net.names p)) net.ins.items in
    let outs : Text = flat_map (λ p. port_text (codes "output") (pin_of net.names p)) net.outs.items in
    four a b c d (codes "  input wire \\$clk ") ins outs (codes "\n") h1 h2 h3
    ∙ ap₂ (λ (i o : Text). a ++ (((codes "  input wire \\$clk " ++ i) ++ o) ++ codes "\n"))
    (sym (flat_map-map (port_text (codes "input")) (pin_of net.names) net.ins.items)) (sym (flat_map-map (port_text (codes "output")) (pin_of net.names) net.outs.items))
  where
    four : (a b c d l i o e : Text) → b ≡ a ++ l → c ≡ b ++ i → d ≡ c ++ o → d ++ e ≡ a ++ (((l ++ i) ++ o) ++ e)
    four a b c d l i o e h1 h2 h3 = rw (h3, h2, h1) (simp append_assoc)

-- ---- the wires

wire_parts : (a i w r s e c l : Text) → a ++ (i ++ w) ++ r ++ s ++ e ++ (c ++ l) ≡ a ++ (i ++ (w ++ r ++ s ++ e ++ c) ++ l)
wire_parts a i w r s e c l = simp append_assoc

pub wire_put : (p : PortLine) (name : Text) (width : ℕ) (a b c d e : Text) → p.name ≡ name → p.width ≡ width → b ≡ a ++ codes "  wire " → c ≡ b ++ range width → d ≡ c ++ codes " " → e ≡ d ++ escaped name
    → e ++ codes ";\n" ≡ a ++ wire_line p
wire_put p name width a b c d e named wide h1 h2 h3 h4 =
    rw (h4, h3, h2, h1) (ap₂ (λ (w : ℕ) (t : Text). (((a ++ codes "  wire ") ++ range w) ++ codes " ") ++ escaped t ++ codes ";\n") (sym wide) (sym named)
    ∙ wire_parts a (codes "  ") (codes "wire ") (range p.width) (codes " ") (escaped p.name) (codes ";") (codes "\n"))

module _ (ports : List PortLine) (first : ℕ) where
  abbrev pub wires_before : ℕ → Text
  wires_before i = flat_map wire_line (drop first (take i ports))

  pub wires_none : (out : Text) → out ≡ out ++ wires_before 0
  wires_none out = sym (ap (λ (ps : List PortLine). out ++ flat_map wire_line ps) (drop_all first [] (omega arith)) ∙ append-nil out)

  pub wires_more : (i : ℕ) (p : PortLine) (before out new : Text) → slice_get ports i ≡ Some p → first ≤ i → out ≡ before ++ wires_before i → new ≡ out ++ wire_line p → new ≡ before ++ wires_before (i + 1)
  wires_more i p before out new at past so_far put =
      let within = slice_get_within ports i p at in
      let next : take (i + 1) ports ≡ take i ports ++ p ∷ [] = take_more ports i p within ∙ ap (λ (q : PortLine). take i ports ++ q ∷ []) (get_or_from_slice_get ports i p p at) in
      let cut : drop first (take (i + 1) ports) ≡ drop first (take i ports) ++ p ∷ [] = ap (drop first) next ∙ drop-append-le first (take i ports) (p ∷ []) (omega (arith, length-take i ports)) in
      let more : wires_before (i + 1) ≡ wires_before i ++ wire_line p =
      ap (flat_map wire_line) cut ∙ flat_map-append wire_line (drop first (take i ports)) (p ∷ []) ∙ ap (λ (t : Text). wires_before i ++ t) (append-nil (wire_line p)) in
      put ∙ ap (λ (t : Text). t ++ wire_line p) so_far ∙ append_assoc before (wires_before i) (wire_line p) ∙ ap (λ (t : Text). before ++ t) (sym more)

  pub wires_skip : (i : ℕ) (before out : Text) → i < first → out ≡ before ++ wires_before i → out ≡ before ++ wires_before (i + 1)
  wires_skip i before out early so_far =
      let none : (k : ℕ) → k ≤ first → drop first (take k ports) ≡ [] = λ k small. drop_all first (take k ports) (omega (arith, length-take k ports, small)) in
      so_far ∙ ap (λ (ps : List PortLine). before ++ flat_map wire_line ps) (none i (omega arith) ∙ sym (none (i + 1) (omega arith)))

-- past the ports of the module are the wires
inner_ports_are : (n : Netlist) → drop (length n.ins + length n.outs) (ports_of n) ≡ inner_ports n
inner_ports_are n =
    let outer : List PortLine = flat_map ports_at (map InLine n.ins ++ map OutLine n.outs) in
    let inner : List PortLine = inner_ports n in
    let parts : ports_of n ≡ outer ++ inner =
    flat_map-append ports_at (map InLine n.ins ++ map OutLine n.outs ++ map WireLine n.wires ++ map CellOf n.cells) (map SetOf n.sets)
    ∙ ap (λ (ps : List PortLine). flat_map ports_at (map InLine n.ins ++ map OutLine n.outs ++ map WireLine n.wires ++ map CellOf n.cells) ++ ps) (no_ports n.sets)
    ∙ append-nil (flat_map ports_at (map InLine n.ins ++ map OutLine n.outs ++ map WireLine n.wires ++ map CellOf n.cells))
    ∙ ap (flat_map ports_at) (append_assoc (map InLine n.ins ++ map OutLine n.outs) (map WireLine n.wires) (map CellOf n.cells))
    ∙ flat_map-append ports_at (map InLine n.ins ++ map OutLine n.outs) (map WireLine n.wires ++ map CellOf n.cells) in
    let count : length outer ≡ length n.ins + length n.outs =
    ap length (flat_map-append ports_at (map InLine n.ins) (map OutLine n.outs)) ∙ length-append (flat_map ports_at (map InLine n.ins)) (flat_map ports_at (map OutLine n.outs))
    ∙ ap₂ ◌+◌ (one_each InLine (λ p. refl) n.ins) (one_each OutLine (λ p. refl) n.outs) in
    ap (drop (length n.ins + length n.outs)) parts ∙ drop_at outer inner (length n.ins + length n.outs) count
  where
    no_ports : (sets : List SetLine) → flat_map ports_at (map SetOf sets) ≡ []
    no_ports [] = refl
    no_ports (a ∷ sets) = no_ports sets

    one_each : (of : Pin → Line) → ((p : Pin) → length (ports_at (of p)) ≡ 1) → (pins : List Pin) → length (flat_map ports_at (map of pins)) ≡ length pins
    one_each of one [] = refl
    one_each of one (p ∷ pins) = let rest = one_each of one pins in omega (arith, length-append (ports_at (of p)) (flat_map ports_at (map of pins)), one p, rest)

pub wires_all : (net : Net) (first i : ℕ) → first ≡ length net.ins.items + length net.outs.items → length (ports_of (netlist_of net)) ≤ i → wires_before (ports_of (netlist_of net)) first i ≡ wires_text (netlist_of net)
wires_all net first i counted all =
    let n = netlist_of net in
    let same : first ≡ length n.ins + length n.outs = counted ∙ ap₂ ◌+◌ (sym (length-map net.ins.items (pin_of net.names))) (sym (length-map net.outs.items (pin_of net.names))) in
    ap (λ (ps : List PortLine). flat_map wire_line (drop first ps)) (take_all i (ports_of n) all)
    ∙ ap (λ k. flat_map wire_line (drop k (ports_of n))) same
    ∙ ap (flat_map wire_line) (inner_ports_are n)
