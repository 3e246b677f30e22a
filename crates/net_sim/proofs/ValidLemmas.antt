-- What the rules of a netlist give of its cells and assignments.
use Rattle.std.proofs.Common.{◌≡◌, ℕ, zero, suc, ◌+◌, ◌<◌, List, [], ◌∷◌, ◌++◌, Bool, true, false, ◌&&◌, Option, Some, None, length, refl, sym, ap, ◌∙◌, arith}
use Rattle.std.specs.Prelude.{map, slice_get, is_some, Contains, not, ◌||◌, option_map, if◌then◌else◌, All}
use Rattle.std.proofs.lemmas.Bool.{and_parts}
use Rattle.std.proofs.lemmas.List.Elements.{All-cons, All-nil}
use Rattle.std.proofs.lemmas.Option.{slice_get-map, slice_get_within, get_or_from_slice_get, same_Some}
use Rattle.std.proofs.lemmas.Slice.Eq.{bytes_eq-Decides}
use Rattle.hw_names.specs.Name.{Text}
use Rattle.hw_prims.specs.Table.{prim_of, is_primitive, is_memory}
use Rattle.net_core.specs.Graph.{source_ports}
use Rattle.net_core.specs.declared.net.Src.{Src}
use Rattle.net_core.specs.declared.net.Src.TheVariants.{Port, Lit}
use Rattle.net_core.specs.Netlist.{Netlist, CellLine, SetLine, Line, InLine, OutLine, WireLine, CellOf, SetOf, lines_of}
use Rattle.net_core.specs.Rules.{PortLine, ports_of, port_named, has_name, has_known_names, has_good_widths, has_good_sides, has_good_parameters, each_source, each_in_guard, source_exists, LineKeepsRules, IsValid}

pub slice_get-append_right : {X : Type 0} (xs ys : List X) (k : ℕ) → slice_get (xs ++ ys) (length xs + k) ≡ slice_get ys k
slice_get-append_right {X = X} [] ys k = ap (slice_get ys) (let e : length {A = X} [] + k ≡ k = omega arith in e)
slice_get-append_right {X = X} (x ∷ xs) ys k = ap (slice_get (x ∷ (xs ++ ys))) (let e : length (x ∷ xs) + k ≡ suc (length xs + k) = omega arith in e) ∙ slice_get-append_right xs ys k

pub slice_get-append_left : {X : Type 0} (xs ys : List X) (k : ℕ) (x : X) → slice_get xs k ≡ Some x → slice_get (xs ++ ys) k ≡ Some x
slice_get-append_left [] ys k x at = cc
slice_get-append_left (y ∷ xs) ys zero x at = at
slice_get-append_left (y ∷ xs) ys (suc k) x at = slice_get-append_left xs ys k x at

-- the lines of cells and assignments
pub cell_line : (n : Netlist) (k : ℕ) (c : CellLine) → slice_get n.cells k ≡ Some c → slice_get (lines_of n) (length (map InLine n.ins ++ map OutLine n.outs ++ map WireLine n.wires) + k) ≡ Some (CellOf c)
cell_line n k c at =
    slice_get-append_left (map InLine n.ins ++ map OutLine n.outs ++ map WireLine n.wires ++ map CellOf n.cells) (map SetOf n.sets) _ (CellOf c)
    (slice_get-append_right (map InLine n.ins ++ map OutLine n.outs ++ map WireLine n.wires) (map CellOf n.cells) k ∙ slice_get-map CellOf n.cells k ∙ ap (option_map CellOf) at)

pub set_line : (n : Netlist) (k : ℕ) (a : SetLine) → slice_get n.sets k ≡ Some a → slice_get (lines_of n) (length (map InLine n.ins ++ map OutLine n.outs ++ map WireLine n.wires ++ map CellOf n.cells) + k) ≡ Some (SetOf a)
set_line n k a at =
    slice_get-append_right (map InLine n.ins ++ map OutLine n.outs ++ map WireLine n.wires ++ map CellOf n.cells) (map SetOf n.sets) k ∙ slice_get-map SetOf n.sets k ∙ ap (option_map SetOf) at

-- the five rules at a line, one by one
pub record Keeps (n : Netlist) (line : Line) : Type 0 where
  pub known : has_known_names (ports_of n) line ≡ true
  pub widths : has_good_widths (ports_of n) line ≡ true
  pub sides : has_good_sides (ports_of n) line ≡ true
  pub parameters : has_good_parameters line ≡ true

five : (a b c d e : Bool) → (a && (b && (c && (d && (e && true))))) ≡ true → (b ≡ true) × (c ≡ true) × (d ≡ true) × (e ≡ true)
five true true true true true h = (refl, refl, refl, refl)
five true true true true false h = cc
five true true true false e h = cc
five true true false d e h = cc
five true false c d e h = cc
five false b c d e h = cc

keeps : (n : Netlist) (k : ℕ) (line : Line) → LineKeepsRules n k line → Keeps n line
keeps n k line h = let p = five _ _ _ _ _ h in record { known = p.0; widths = p.1; sides = p.2; parameters = p.3 }

-- a valid netlist's cells have a primitive
pub cell_keeps : (n : Netlist) → IsValid n → (k : ℕ) (c : CellLine) → slice_get n.cells k ≡ Some c → Keeps n (CellOf c)
cell_keeps n valid k c at =
    let place = length (map InLine n.ins ++ map OutLine n.outs ++ map WireLine n.wires) + k in
    keeps n place (CellOf c) (valid place (CellOf c) (cell_line n k c at))

pub set_keeps : (n : Netlist) → IsValid n → (k : ℕ) (a : SetLine) → slice_get n.sets k ≡ Some a → Keeps n (SetOf a)
set_keeps n valid k a at =
    let place = length (map InLine n.ins ++ map OutLine n.outs ++ map WireLine n.wires ++ map CellOf n.cells) + k in
    keeps n place (SetOf a) (valid place (SetOf a) (set_line n k a at))

pub cell_is_primitive : (n : Netlist) → IsValid n → (k : ℕ) (c : CellLine) → slice_get n.cells k ≡ Some c → is_primitive c.prim ≡ true
cell_is_primitive n valid k c at = (cell_keeps n valid k c at).known

pub cell_has_prim : (n : Netlist) → IsValid n → (k : ℕ) (c : CellLine) → slice_get n.cells k ≡ Some c → is_some (prim_of c.prim c.params) ≡ true
cell_has_prim n valid k c at = (and_parts (is_some (prim_of c.prim c.params)) (not c.shown || is_memory c.prim) (cell_keeps n valid k c at).parameters).0

pub slice_get-append_before : {X : Type 0} (xs ys : List X) (k : ℕ) → k < length xs → slice_get (xs ++ ys) k ≡ slice_get xs k
slice_get-append_before {X = X} [] ys k within = let none : length {A = X} [] ≡ 0 = refl in absurd (omega (arith, within, none))
slice_get-append_before (y ∷ xs) ys zero within = refl
slice_get-append_before (y ∷ xs) ys (suc k) within = slice_get-append_before xs ys k (omega (arith, within))

-- ---- ports by their names

abbrev name_in : PortLine → Text
name_in p = p.name

-- a port that is found stands somewhere among the ports, with this name
pub record IsFound (ports : List PortLine) (name : Text) (p : PortLine) : Type 0 where
  pub place : ℕ
  pub at : slice_get ports place ≡ Some p
  pub named : p.name ≡ name

pub found : (ports : List PortLine) (name : Text) (p : PortLine) → port_named ports name ≡ Some p → IsFound ports name p
found [] name p e = cc
found (q ∷ ports) name p e = by (λ later. found ports name p later) (has_name name q) refl
  where
    by : (port_named ports name ≡ Some p → IsFound ports name p) → (b : Bool) → has_name name q ≡ b → IsFound (q ∷ ports) name p
    by go true t =
        let same : q ≡ p = same_Some q p (sym (ap (λ (b : Bool). if b then Some q else port_named ports name) t) ∙ e) in
        record { place = 0; at = ap Some same; named = ap name_in (sym same) ∙ (bytes_eq-Decides q.name name).0 t }
    by go false t =
        let rest = go (sym (ap (λ (b : Bool). if b then Some q else port_named ports name) t) ∙ e) in
        record { place = suc rest.place; at = rest.at; named = rest.named }

some_of : {X : Type 0} (o : Option X) → is_some o ≡ true → (x : X) × (o ≡ Some x)
some_of None e = absurd (cc)
some_of (Some x) e = (x, refl)

pub named_contains : (ports : List PortLine) (name : Text) → is_some (port_named ports name) ≡ true → Contains (map name_in ports) name
named_contains ports name e =
    let p = some_of (port_named ports name) e in
    let f = found ports name p.0 p.1 in
    let at : slice_get (map name_in ports) f.place ≡ Some name = slice_get-map name_in ports f.place ∙ ap (option_map name_in) f.at ∙ ap Some f.named in
    (f.place, slice_get_within (map name_in ports) f.place name at, get_or_from_slice_get (map name_in ports) f.place name name at)

-- ---- the ports that an assignment names exist

pub dst_exists : (n : Netlist) → IsValid n → (k : ℕ) (a : SetLine) → slice_get n.sets k ≡ Some a → Contains (map name_in (ports_of n)) a.dst
dst_exists n valid k a at =
    named_contains (ports_of n) a.dst (and_parts (is_some (port_named (ports_of n) a.dst)) (each_source (source_exists (ports_of n)) a) (set_keeps n valid k a at).known).0

source_is_there : (ports : List PortLine) (s : Src Text) → source_exists ports s ≡ true → All (Contains (map name_in ports)) (source_ports s)
source_is_there ports (Port p) e = All-cons (Contains (map name_in ports)) p [] (named_contains ports p e) (All-nil (Contains (map name_in ports)))
source_is_there ports (Lit width value) e = All-nil (Contains (map name_in ports))

pub source_there : (n : Netlist) → IsValid n → (k : ℕ) (a : SetLine) → slice_get n.sets k ≡ Some a → All (Contains (map name_in (ports_of n))) (source_ports a.src)
source_there n valid k a at =
    let exists = (and_parts (is_some (port_named (ports_of n) a.dst)) (each_source (source_exists (ports_of n)) a) (set_keeps n valid k a at).known).1 in
    source_is_there (ports_of n) a.src (and_parts (each_in_guard (source_exists (ports_of n)) a.guard) (source_exists (ports_of n) a.src) exists).1
