-- In a cycle of the module a port that may be driven has the value of the first assignment whose guard is true.
use Rattle.std.proofs.Common.{◌≡◌, ℕ, suc, ◌^◌, ◌<◌, max, Bool, true, false, cond, ◌&&◌, List, [], ◌∷◌, ◌++◌, map, filter, flat_map, Option, None, Some, inl, inr, refl, sym, ap, ◌∙◌, subst, arith}
use Rattle.std.specs.Prelude.{Contains, bytes_eq, is_some, option_map, nat_lt, if◌then◌else◌}
use Rattle.std.proofs.lemmas.Bool.{and_parts}
use Rattle.std.proofs.lemmas.Bool.Decides.{nat_tests}
use Rattle.std.proofs.lemmas.Nat.{pow_pos}
use Rattle.std.proofs.lemmas.Option.{same_Some}
use Rattle.std.proofs.lemmas.Slice.Eq.{bytes_eq-Decides}
use Rattle.hw_bits.specs.Width.{low_bits}
use Rattle.hw_bits.proofs.WidthLemmas.{low_bits-of_lt}
use Rattle.hw_graph.proofs.MemberLemmas.{In, at_of, contains_of, in_filter, in_map, in_right}
use Rattle.hw_names.specs.Name.{Text}
use Rattle.hw_prims.specs.Row.{Row}
use Rattle.hw_prims.specs.Table.{is_width}
use Rattle.net_core.proofs.PortListLemmas.{port_named-there}
use Rattle.net_core.proofs.ValidLemmas.{port_names_are_distinct}
use Rattle.net_core.proofs.WritableLemmas.{set_keeps, writable-IsWritable}
use Rattle.net_core.specs.Guard.{GuardTree, guard_holds, source_value}
use Rattle.net_core.specs.NetRun.{IsWritable, values_for}
use Rattle.net_core.specs.Netlist.{Netlist, SetLine, InLine, OutLine, WireLine, CellOf, SetOf, lines_of}
use Rattle.net_core.specs.Rules.{PortLine, IsValid, each_in_guard, is_writable, literal_fits, option_widths_agree, port_named, port_width, ports_of, source_exists, source_width, width_or_none}
use Rattle.net_core.specs.declared.net.Src.{Src}
use Rattle.net_core.specs.declared.net.Src.TheVariants.{Port, Lit}
use Rattle.net_text.specs.Names.{HasText, is_path, line_has_text, source_has_text, when_has_text}
use Rattle.ver_lang.specs.NetModule.{chain, drive_item, inner_ports, items_of, items_of_cell, line_signal, module_of, sets_to}
use Rattle.ver_lang.specs.Run.{IsCycle, widths_of}
use Rattle.ver_lang.specs.Size.{Widths, size}
use Rattle.ver_lang.specs.Tree.{Expr, Literal, Wire}
use Rattle.ver_lang.specs.Value.{Cycle, value}
use Rattle.ver_runs.specs.Rows.{PortsAreDriven, PortsFit, first_of}
use Rattle.ver_runs.proofs.ChainLemmas.{IsSoundOption, IsSoundSet, chain_gives}
use Rattle.ver_runs.proofs.WidthLemmas.{all_in, port_is_declared}

-- ---- ports by their names

pub record IsFound (ports : List PortLine) (x : Text) (p : PortLine) : Type 0 where
  pub among : In ports p
  pub named : p.name ≡ x

pub found_in : (ports : List PortLine) (x : Text) (p : PortLine) → port_named ports x ≡ Some p → IsFound ports x p
found_in [] x p is = absurd (cc)
found_in (q ∷ ports) x p is = by (bytes_eq q.name x) refl is (λ found. found_in ports x p found)
  where
    by : (b : Bool) → bytes_eq q.name x ≡ b → cond b (Some q) (port_named ports x) ≡ Some p → (port_named ports x ≡ Some p → IsFound ports x p) → IsFound (q ∷ ports) x p
    by true e found others =
        let same : q ≡ p = same_Some q p found in
        record { among = inl same; named = ap (λ (r : PortLine). r.name) (sym same) ∙ (bytes_eq-Decides q.name x).0 e }
    by false e found others = let later = others found in record { among = inr later.among; named = later.named }

width_found : (ports : List PortLine) (x : Text) (w : ℕ) (o : Option PortLine) → port_named ports x ≡ o → width_or_none o ≡ suc w → (p : PortLine) × IsFound ports x p × (p.width ≡ suc w)
width_found ports x w None is wide = absurd (cc)
width_found ports x w (Some p) is wide = (p, found_in ports x p is, wide)

some_found : (o : Option PortLine) → is_some o ≡ true → (p : PortLine) × (o ≡ Some p)
some_found None is = absurd (cc)
some_found (Some p) is = (p, refl)

writable_found : (o : Option PortLine) → is_writable o ≡ true → (p : PortLine) × (o ≡ Some p) × (p.writable ≡ true)
writable_found None is = absurd (cc)
writable_found (Some p) is = (p, refl, is)

-- ---- the first of the values fits

first_one : (w : ℕ) (b : Bool) (v : ℕ) (vs : List ℕ) → (b ≡ true → v < 2 ^ w) → first_of vs < 2 ^ w → first_of (if b then v ∷ vs else vs) < 2 ^ w
first_one w true v vs small others = small refl
first_one w false v vs small others = others

first_fits : (w : ℕ) (port : Text) (row : Row) (sets : List SetLine) → ((a : SetLine) → a.dst ≡ port → In sets a → source_value row a.src < 2 ^ w) → first_of (values_for port row sets) < 2 ^ w
first_fits w port row [] small = pow_pos w
first_fits w port row (a ∷ sets) small =
    first_one w (bytes_eq a.dst port && guard_holds row a.guard) (source_value row a.src) (values_for port row sets)
    (λ is. small a ((bytes_eq-Decides a.dst port).0 (and_parts (bytes_eq a.dst port) (guard_holds row a.guard) is).0) (inl refl))
    (first_fits w port row sets (λ b named later. small b named (inr later)))

-- what is assigned, where the expression has a value that fits the target
taken : (o w v x : ℕ) (given : Option ℕ) → given ≡ Some v → o ≡ w → v < 2 ^ w → option_map (low_bits o) given ≡ Some x → x ≡ v
taken o w v x given is same fits kept =
    let low : low_bits o v ≡ x = same_Some (low_bits o v) x (ap (option_map (low_bits o)) (sym is) ∙ kept) in
    sym low ∙ ap (λ (k : ℕ). low_bits k v) same ∙ low_bits-of_lt w v fits

module _ (n : Netlist) (valid : IsValid n) (text : HasText n) (now : Cycle) (fit : PortsFit n now.row) where
  abbrev ports : List PortLine
  ports = ports_of n

  abbrev widths : Widths
  widths = widths_of (module_of n)

  -- a port of one bit has a bit
  bit_fits : (x : Text) → port_width ports x ≡ 1 → now.row x < 2
  bit_fits x wide =
      let p = width_found ports x 0 (port_named ports x) refl wide in
      let small : now.row p.0.name < 2 ^ p.0.width = fit p.0 (contains_of ports p.0 p.1.among) in
      let one : now.row p.0.name < 2 ^ 1 = subst (λ (w : ℕ). now.row p.0.name < 2 ^ w) p.2 small in
      subst (λ (name : Text). now.row name < 2) p.1.named one

  -- a source's value fits its width
  source_fits : (s : Src Text) (w : ℕ) → literal_fits s ≡ true → source_exists ports s ≡ true → source_width ports s ≡ w → source_value now.row s < 2 ^ w
  source_fits (Port x) w literal exists wide =
      let p = some_found (port_named ports x) exists in
      let stands = found_in ports x p.0 p.1 in
      let small : now.row p.0.name < 2 ^ p.0.width = fit p.0 (contains_of ports p.0 stands.among) in
      let width : p.0.width ≡ w = ap width_or_none (sym p.1) ∙ wide in
      subst (λ (name : Text). now.row name < 2 ^ w) stands.named (subst (λ (k : ℕ). now.row p.0.name < 2 ^ k) width small)
  source_fits (Lit width v) w literal exists wide =
      let test = (and_parts (is_width width) (nat_lt v (2 ^ width)) literal).1 in
      let small : v < 2 ^ width = grind (arith, nat_tests) in
      subst (λ (k : ℕ). v < 2 ^ k) wide small

  -- the assignments of a netlist are sound
  set_text : (a : SetLine) → In n.sets a → line_has_text (SetOf a) ≡ true
  set_text a has =
      all_in line_has_text (lines_of n) (SetOf a) text.1
      (in_right (map InLine n.ins ++ map OutLine n.outs ++ map WireLine n.wires ++ map CellOf n.cells) (map SetOf n.sets) (SetOf a) (in_map SetOf n.sets a has))

  sound_option : (g : Option (GuardTree Text)) → when_has_text g ≡ true → option_widths_agree ports g ≡ true → each_in_guard literal_fits g ≡ true → IsSoundOption widths now ports bit_fits g
  sound_option None texts agree literals = tt
  sound_option (Some g) texts agree literals = record { text = texts; agrees = agree; literals = literals }

  set_sound : (a : SetLine) → In n.sets a → IsSoundSet widths now ports bit_fits a
  set_sound a has =
      let at = at_of n.sets a has in
      let keeps = set_keeps n valid at.0 a at.1 in
      let literals = and_parts (each_in_guard literal_fits a.guard) (literal_fits a.src) keeps.literals in
      let texts = (and_parts (is_path a.dst) (when_has_text a.guard) (and_parts (is_path a.dst && when_has_text a.guard) (source_has_text a.src) (set_text a has)).0).1 in
      record { guard = sound_option a.guard texts keeps.guard literals.0; literal = literals.1 }

  module _ (inputs : Row) (cycle : IsCycle (module_of n) inputs now) where
    -- the item that drives a port
    item_there : (p : PortLine) → In ports p → p.writable ≡ true → Contains (items_of n) (drive_item n.sets p)
    item_there p has writes =
        contains_of (items_of n) (drive_item n.sets p)
        (in_right (map (λ q. Wire (line_signal q)) (inner_ports n) ++ flat_map items_of_cell n.cells) (map (drive_item n.sets) (filter (λ (q : PortLine). q.writable) ports)) (drive_item n.sets p)
        (in_map (drive_item n.sets) (filter (λ (q : PortLine). q.writable) ports) p (in_filter (λ (q : PortLine). q.writable) ports p has writes)))

    port_driven : (p : PortLine) → In ports p → p.writable ≡ true → now.row p.name ≡ first_of (values_for p.name now.row n.sets)
    port_driven p has writes =
        let e : Expr = chain (Literal p.width 0) (sets_to p.name n.sets) in
        let v : ℕ = first_of (values_for p.name now.row n.sets) in
        let at_port = at_of ports p has in
        let named : port_named ports p.name ≡ Some p = port_named-there ports at_port.0 p (port_names_are_distinct n valid) at_port.1 in
        let small : v < 2 ^ p.width = first_fits p.width p.name now.row n.sets (λ a dst there.
        let at = at_of n.sets a there in
        let keeps = set_keeps n valid at.0 a at.1 in
        let literal = (and_parts (each_in_guard literal_fits a.guard) (literal_fits a.src) keeps.literals).1 in
        let exists = (and_parts (each_in_guard (source_exists ports) a.guard) (source_exists ports a.src) keeps.sources).1 in
        source_fits a.src p.width literal exists (sym keeps.widths ∙ ap (port_width ports) dst ∙ ap width_or_none named)) in
        let given : value widths now (max (widths p.name) (size widths e)) e ≡ Some v =
        chain_gives widths now ports bit_fits p.name p.width n.sets (λ a dst there. set_sound a there) (max (widths p.name) (size widths e)) in
        taken (widths p.name) p.width v (now.row p.name) (value widths now (max (widths p.name) (size widths e)) e) given (port_is_declared n valid text p has) small
        (cycle.assigns p.name e (item_there p has writes))

    pub written : (port : Text) → IsWritable n port → now.row port ≡ first_of (values_for port now.row n.sets)
    written port is =
        let p = writable_found (port_named ports port) (writable-IsWritable n valid port is) in
        let stands = found_in ports port p.0 p.1 in
        subst (λ (name : Text). now.row name ≡ first_of (values_for name now.row n.sets)) stands.named (port_driven p.0 stands.among p.2)

pub ports_are_driven : PortsAreDriven
ports_are_driven n valid text inputs now cycle fit port is = written n valid text now fit inputs cycle port is
