-- What the rules say of one line, and the lines of a list of ports, cells or assignments.
use Rattle.std.proofs.Common.{◌≡◌, ℕ, Bool, true, false, not, ◌&&◌, ◌||◌, List, [], ◌∷◌, ◌++◌, ◌+◌, length, length-append, flat_map, map, get_or, Option, Some, None, is_some, unwrap_or, Result, Ok, Err, refl, sym, ap, ap₂, subst, ◌∙◌, arith}
use Rattle.std.proofs.lemmas.Grind.{flat_map-append}
use Rattle.std.proofs.Math.Bool.{and-false}
use Rattle.std.proofs.Math.ListN.{get_or-map}
use Rattle.std.proofs.lemmas.List.{length-map, append-nil}
use Rattle.std.specs.Prelude.{if◌then◌else◌, IfOk, IsSome, IsErrAnd}
use Rattle.std.specs.Result.{result_ok}
use Rattle.hw_names.specs.Name.{Text}
use Rattle.hw_prims.specs.Table.{Pin, is_width, is_primitive, is_memory, prim_of, IsMade}
use Rattle.hw_prims.proofs.PortNameLemmas.{has_names, unknown_makes_none, prim_of-made}
use Rattle.hw_prims.specs.declared.prim.PrimEnd.{PrimEnd}
use Rattle.hw_prims.specs.declared.prim.PrimEnd.TheVariants.{UnknownPrim, BadParams}
use Rattle.hw_prims.specs.declared.prim.Primitive.{Primitive}
use Rattle.net_core.specs.Judging.{own_line, own_lines, own_part, cell_lines, set_lines, first_not_kept, or_later, first_broken, made_fault, Tells}
use Rattle.net_core.specs.inside.Kept.{kept_by_set, fault_of}
use Rattle.net_core.specs.Netlist.{Line, CellLine, SetLine, CellOf, SetOf, pin_of, cell_of, set_of, netlist_of}
use Rattle.net_core.specs.PortList.{IsNamedAs}
use Rattle.net_core.specs.Rules.{PortLine, ports_at, ports_of, cell_names_at, port_names, is_among, are_new, has_good_parameters, has_known_names, has_good_widths, has_good_sides}
use Rattle.net_core.specs.declared.rules.NetEnd.{NetEnd}
use Rattle.net_core.proofs.JudgingLemmas.{Begun, begun_none, begun_more, tells_begun, tells_broken}
use Rattle.net_core.specs.declared.net.Net.{Net}
use Rattle.net_core.specs.declared.net.NetAssign.{NetAssign}
use Rattle.net_core.specs.declared.net.NetCell.{NetCell}
use Rattle.net_core.specs.declared.net.NetPort.{NetPort}
use Rattle.net_core.specs.declared.ports.Side.{Side}
use Rattle.net_core.specs.declared.ports.Side.TheVariants.{In, Out, Wire}

-- what the rules say of a line `in`, `out` or `wire` by its name and its width
abbrev own_rule : Bool → Bool → Option ℕ
own_rule false good_width = Some 1
own_rule true false = Some 3
own_rule true true = None

first_not_kept-own : (new good_width : Bool) → first_not_kept 1 (((new && true) && true) ∷ true ∷ good_width ∷ true ∷ true ∷ []) ≡ own_rule new good_width
first_not_kept-own true true = refl
first_not_kept-own true false = refl
first_not_kept-own false good_width = refl

first_broken-own : (all ports : List PortLine) (cells : List Text) (item : ℕ) (side : Side) (pin : Pin)
    → first_broken all ports cells item (own_line side pin ∷ []) ≡ or_later (own_rule (not (is_among (port_names ports) pin.name)) (is_width pin.width)) item None
unfolding first_broken
first_broken-own all ports cells item In pin = ap (λ rule. or_later rule item None) (first_not_kept-own (not (is_among (port_names ports) pin.name)) (is_width pin.width))
first_broken-own all ports cells item Out pin = ap (λ rule. or_later rule item None) (first_not_kept-own (not (is_among (port_names ports) pin.name)) (is_width pin.width))
first_broken-own all ports cells item Wire pin = ap (λ rule. or_later rule item None) (first_not_kept-own (not (is_among (port_names ports) pin.name)) (is_width pin.width))

-- a port whose name is there already breaks N1
pub own_taken : (all ports : List PortLine) (cells : List Text) (item : ℕ) (side : Side) (pin : Pin) (name : Text) → pin.name ≡ name
    → not (is_among (port_names ports) name) ≡ false → first_broken all ports cells item (own_line side pin ∷ []) ≡ Some (1, item)
own_taken all ports cells item side pin name same taken =
    first_broken-own all ports cells item side pin
    ∙ ap (λ new. or_later (own_rule new (is_width pin.width)) item None) (ap (λ n. not (is_among (port_names ports) n)) same ∙ taken)

-- a new port whose width is out of range breaks N3
pub own_wide : (all ports : List PortLine) (cells : List Text) (item : ℕ) (side : Side) (pin : Pin) (name : Text) → pin.name ≡ name
    → not (is_among (port_names ports) name) ≡ true → is_width pin.width ≡ false → first_broken all ports cells item (own_line side pin ∷ []) ≡ Some (3, item)
own_wide all ports cells item side pin name same new wide =
    first_broken-own all ports cells item side pin
    ∙ ap₂ (λ n w. or_later (own_rule n w) item None) (ap (λ n. not (is_among (port_names ports) n)) same ∙ new) wide

-- any other keeps the rules
pub own_good : (all ports : List PortLine) (cells : List Text) (item : ℕ) (side : Side) (pin : Pin) (name : Text) → pin.name ≡ name
    → not (is_among (port_names ports) name) ≡ true → is_width pin.width ≡ true → first_broken all ports cells item (own_line side pin ∷ []) ≡ None
own_good all ports cells item side pin name same new narrow =
    first_broken-own all ports cells item side pin
    ∙ ap₂ (λ n w. or_later (own_rule n w) item None) (ap (λ n. not (is_among (port_names ports) n)) same ∙ new) narrow

-- whether a width was found
pub is_width-from_found : (w : ℕ) (found : Option ℕ) (some : Bool) → found ≡ (if is_width w then Some w else None) → is_some found ≡ some → is_width w ≡ some
is_width-from_found w found some e test = by (is_width w) (ap is_some (sym e) ∙ test)
  where
    by : (b : Bool) → is_some (if b then Some w else None) ≡ some → b ≡ some
    by true t = t
    by false t = t

pub width-from_found : (w : ℕ) (found : Option ℕ) → found ≡ (if is_width w then Some w else None) → is_width w ≡ true → w ≡ unwrap_or found 0
width-from_found w found e good = sym (ap (λ o. unwrap_or o 0) (e ∙ ap (λ (b : Bool). if b then Some w else None) good))

-- the lines of ports, by their ports
pub own_line_at : (side : Side) (names : List Text) (pins : List NetPort) (i : ℕ) (d : NetPort) → get_or (own_lines side names pins) i (own_line side (pin_of names d)) ≡ own_line side (pin_of names (get_or pins i d))
own_line_at side names pins i d =
    get_or-map (own_line side) (map (pin_of names) pins) i (pin_of names d) ∙ ap (own_line side) (get_or-map (pin_of names) pins i d)

pub length-own_lines : (side : Side) (names : List Text) (pins : List NetPort) → length (own_lines side names pins) ≡ length pins
length-own_lines side names pins = length-map (map (pin_of names) pins) (own_line side) ∙ length-map pins (pin_of names)

pub cell_names_at-own : (side : Side) (pin : Pin) → cell_names_at (own_line side pin) ≡ []
cell_names_at-own In pin = refl
cell_names_at-own Out pin = refl
cell_names_at-own Wire pin = refl

-- what the rules say of a cell: whether its names are new, the table has its primitive, and its parameters are right
abbrev pub cell_rule : Bool → Bool → Bool → Option ℕ
cell_rule false known good = Some 1
cell_rule true false good = Some 2
cell_rule true true false = Some 5
cell_rule true true true = None

first_not_kept-cell : (new named known good : Bool) → first_not_kept 1 ((new && (named && true)) ∷ known ∷ true ∷ true ∷ good ∷ []) ≡ cell_rule (new && named) known good
first_not_kept-cell true true true true = refl
first_not_kept-cell true true true false = refl
first_not_kept-cell true true false good = refl
first_not_kept-cell true false known good = refl
first_not_kept-cell false named known good = refl

pub first_broken-cell : (all ports : List PortLine) (cells : List Text) (item : ℕ) (c : CellLine) → first_broken all ports cells item (CellOf c ∷ [])
    ≡ or_later (cell_rule (are_new (port_names ports) (port_names (ports_at (CellOf c))) && not (is_among cells c.name)) (is_primitive c.prim) (has_good_parameters (CellOf c))) item None
unfolding first_broken
first_broken-cell all ports cells item c =
    ap (λ rule. or_later rule item None) (first_not_kept-cell (are_new (port_names ports) (port_names (ports_at (CellOf c)))) (not (is_among cells c.name)) (is_primitive c.prim) (has_good_parameters (CellOf c)))

-- a cell whose name is there already
pub cell_named_twice : (all ports : List PortLine) (cells : List Text) (item : ℕ) (c : CellLine) (name : Text) → c.name ≡ name → not (is_among cells name) ≡ false
    → first_broken all ports cells item (CellOf c ∷ []) ≡ Some (1, item)
cell_named_twice all ports cells item c name same taken =
    let new = are_new (port_names ports) (port_names (ports_at (CellOf c))) in
    first_broken-cell all ports cells item c
    ∙ ap (λ n. or_later (cell_rule (new && n) (is_primitive c.prim) (has_good_parameters (CellOf c))) item None) (ap (λ n. not (is_among cells n)) same ∙ taken)
    ∙ ap (λ n. or_later (cell_rule n (is_primitive c.prim) (has_good_parameters (CellOf c))) item None) (and-false new)

-- a cell one of whose ports is there already
pub cell_ports_taken : (all ports : List PortLine) (cells : List Text) (item : ℕ) (c : CellLine) → are_new (port_names ports) (port_names (ports_at (CellOf c))) ≡ false
    → first_broken all ports cells item (CellOf c ∷ []) ≡ Some (1, item)
cell_ports_taken all ports cells item c taken =
    first_broken-cell all ports cells item c
    ∙ ap (λ n. or_later (cell_rule (n && not (is_among cells c.name)) (is_primitive c.prim) (has_good_parameters (CellOf c))) item None) taken

-- any other cell, by what its name and parameters make
pub record Makes (name : Text) (params : List ℕ) (made : Result Primitive PrimEnd) : Type 0 where
  pub made_one : IfOk made (λ prim. prim_of name params ≡ Some prim)
  pub unknown : (made ≡ Err UnknownPrim → is_primitive name ≡ false) × (is_primitive name ≡ false → made ≡ Err UnknownPrim)
  pub bad : made ≡ Err BadParams → (is_primitive name ≡ true) × (prim_of name params ≡ None)

pub rule_by_made : (name : Text) (params : List ℕ) (shown : Bool) (made : Result Primitive PrimEnd) → Makes name params made
    → cell_rule true (is_primitive name) (is_some (prim_of name params) && (not shown || is_memory name)) ≡ made_fault made shown (is_memory name)
rule_by_made name params shown (Err UnknownPrim) m =
    ap (λ k. cell_rule true k (is_some (prim_of name params) && (not shown || is_memory name))) (m.unknown.0 refl)
rule_by_made name params shown (Err BadParams) m =
    let bad = m.bad refl in
    ap₂ (λ k o. cell_rule true k (is_some o && (not shown || is_memory name))) bad.0 bad.1
rule_by_made name params shown (Ok prim) m =
    ap₂ (λ k o. cell_rule true k (is_some o && (not shown || is_memory name))) (known (is_primitive name) refl) m.made_one ∙ by (not shown || is_memory name)
  where
    known : (b : Bool) → is_primitive name ≡ b → is_primitive name ≡ true
    known true e = e
    known false e = let unknown = m.unknown.1 e in cc

    by : (b : Bool) → cell_rule true true (true && b) ≡ (if b then None else Some 5)
    by true = refl
    by false = refl

-- a cell with new names
pub cell_made : (all ports : List PortLine) (cells : List Text) (item : ℕ) (c : CellLine) (made : Result Primitive PrimEnd) → Makes c.prim c.params made
    → are_new (port_names ports) (port_names (ports_at (CellOf c))) ≡ true → not (is_among cells c.name) ≡ true
    → first_broken all ports cells item (CellOf c ∷ []) ≡ or_later (made_fault made c.shown (is_memory c.prim)) item None
cell_made all ports cells item c made m new named =
    first_broken-cell all ports cells item c
    ∙ ap₂ (λ n d. or_later (cell_rule (n && d) (is_primitive c.prim) (has_good_parameters (CellOf c))) item None) new named
    ∙ ap (λ rule. or_later rule item None) (rule_by_made c.prim c.params c.shown made m)

-- what a name and parameters make, where they are told by equal ones
pub makes_from : (name name' : Text) (params params' : List ℕ) (made : Result Primitive PrimEnd) → name' ≡ name → params' ≡ params
    → IfOk made (λ prim. (prim_of name params ≡ Some prim) × IsMade prim)
    → ((made ≡ Err UnknownPrim → is_primitive name ≡ false) × (is_primitive name ≡ false → made ≡ Err UnknownPrim))
    → ((made ≡ Err BadParams → (is_primitive name ≡ true) × (prim_of name params ≡ None)) × ((is_primitive name ≡ true) × (prim_of name params ≡ None) → made ≡ Err BadParams))
    → Makes name' params' made
makes_from name name' params params' made same_name same_params is_made unknown bad =
    let m : Makes name params made = record { made_one = one made is_made; unknown = unknown; bad = bad.0 } in
    let M : Text → List ℕ → Type 0 = λ n ps. Makes n ps made in
    let P : List ℕ → Type 0 = λ ps. M name' ps in
    let N : Text → Type 0 = λ n. M n params in
    subst P (sym same_params) (subst N (sym same_name) m)
  where
    one : (r : Result Primitive PrimEnd) → IfOk r (λ prim. (prim_of name params ≡ Some prim) × IsMade prim) → IfOk r (λ prim. prim_of name params ≡ Some prim)
    one (Ok prim) h = h.0
    one (Err e) h = h

module _ {name : Text} {params : List ℕ} where
  pub prim_of-result_ok : (made : Result Primitive PrimEnd) → Makes name params made → prim_of name params ≡ result_ok made
  prim_of-result_ok (Ok prim) m = m.made_one
  prim_of-result_ok (Err UnknownPrim) m = unknown_makes_none name params (m.unknown.0 refl)
  prim_of-result_ok (Err BadParams) m = (m.bad refl).1

  pub named_as : (made : Result Primitive PrimEnd) (prim : Option Primitive) → Makes name params made → prim ≡ result_ok made → IsNamedAs name prim
  named_as made None m e = tt
  named_as made (Some prim) m e =
      let is = prim_of-result_ok made m ∙ sym e in
      let named = has_names name params prim is in (prim_of-made name params prim is, named.inputs, named.outputs)

-- where no rule is broken, a primitive was made
pub made_where_good : (made : Result Primitive PrimEnd) (shown memory : Bool) → made_fault made shown memory ≡ None → IsSome (result_ok made)
made_where_good (Ok prim) shown memory e = refl
made_where_good (Err UnknownPrim) shown memory e = cc
made_where_good (Err BadParams) shown memory e = cc

-- the lines of cells, by their cells
pub cell_line_at : (names : List Text) (cells : List NetCell) (i : ℕ) (d : NetCell) → get_or (cell_lines names cells) i (CellOf (cell_of names d)) ≡ CellOf (cell_of names (get_or cells i d))
cell_line_at names cells i d = get_or-map CellOf (map (cell_of names) cells) i (cell_of names d) ∙ ap CellOf (get_or-map (cell_of names) cells i d)

pub length-cell_lines : (names : List Text) (cells : List NetCell) → length (cell_lines names cells) ≡ length cells
length-cell_lines names cells = length-map (map (cell_of names) cells) CellOf ∙ length-map cells (cell_of names)

-- what the rules say of an assignment
first_not_kept-set : (known widths sides : Bool) → first_not_kept 1 ((true && true) ∷ known ∷ widths ∷ sides ∷ true ∷ []) ≡ fault_of (record { known = known; widths = widths; sides = sides })
first_not_kept-set true true true = refl
first_not_kept-set true true false = refl
first_not_kept-set true false sides = refl
first_not_kept-set false widths sides = refl

pub first_broken-set : (all ports : List PortLine) (cells : List Text) (item : ℕ) (a : SetLine) → first_broken all ports cells item (SetOf a ∷ []) ≡ or_later (fault_of (kept_by_set all a)) item None
unfolding first_broken kept_by_set
first_broken-set all ports cells item a =
    ap (λ rule. or_later rule item None) (first_not_kept-set (has_known_names all (SetOf a)) (has_good_widths all (SetOf a)) (has_good_sides all (SetOf a)))

-- the lines of assignments, by their assignments
pub set_line_at : (names : List Text) (sets : List NetAssign) (i : ℕ) (d : NetAssign) → get_or (set_lines names sets) i (SetOf (set_of names d)) ≡ SetOf (set_of names (get_or sets i d))
set_line_at names sets i d = get_or-map SetOf (map (set_of names) sets) i (set_of names d) ∙ ap SetOf (get_or-map (set_of names) sets i d)

pub length-set_lines : (names : List Text) (sets : List NetAssign) → length (set_lines names sets) ≡ length sets
length-set_lines names sets = length-map (map (set_of names) sets) SetOf ∙ length-map sets (set_of names)

-- lines of which each makes one port and names no cell
pub record AreOwn (lines : List Line) : Type 0 where
  pub ports : length (flat_map ports_at lines) ≡ length lines
  pub cells : flat_map cell_names_at lines ≡ []

one_port : (side : Side) (pin : Pin) → length (ports_at (own_line side pin)) ≡ 1
one_port In pin = refl
one_port Out pin = refl
one_port Wire pin = refl

pub own_lines_are_own : (side : Side) (names : List Text) (pins : List NetPort) → AreOwn (own_lines side names pins)
own_lines_are_own side names [] = record { ports = refl; cells = refl }
own_lines_are_own side names (p ∷ pins) =
    let rest = own_lines_are_own side names pins in
    let line = own_line side (pin_of names p) in
    record {
      ports = omega (arith, length-append (ports_at line) (flat_map ports_at (own_lines side names pins)), one_port side (pin_of names p), rest.ports);
      cells = ap₂ ◌++◌ (cell_names_at-own side (pin_of names p)) rest.cells;
    }

pub append_is_own : (xs ys : List Line) → AreOwn xs → AreOwn ys → AreOwn (xs ++ ys)
append_is_own xs ys own_xs own_ys = record {
  ports = ap length (flat_map-append ports_at xs ys) ∙ length-append (flat_map ports_at xs) (flat_map ports_at ys) ∙ ap₂ ◌+◌ own_xs.ports own_ys.ports ∙ sym (length-append xs ys);
  cells = flat_map-append cell_names_at xs ys ∙ ap₂ ◌++◌ own_xs.cells own_ys.cells;
}

own_part_is_own : (net : Net) → AreOwn (own_part net)
own_part_is_own net =
    let ins = own_lines In net.names net.ins.items in
    let outs = own_lines Out net.names net.outs.items in
    let wires = own_lines Wire net.names net.wires.items in
    append_is_own (ins ++ outs) wires
    (append_is_own ins outs (own_lines_are_own In net.names net.ins.items) (own_lines_are_own Out net.names net.outs.items))
    (own_lines_are_own Wire net.names net.wires.items)

-- each cell's line has one name
pub length-cell_names : (names : List Text) (cells : List NetCell) → length (flat_map cell_names_at (cell_lines names cells)) ≡ length (cell_lines names cells)
length-cell_names names [] = refl
length-cell_names names (c ∷ cells) = let rest = length-cell_names names cells in omega (arith, rest)

-- assignments make no ports
pub ports_at-sets : (names : List Text) (sets : List NetAssign) → flat_map ports_at (set_lines names sets) ≡ []
ports_at-sets names [] = refl
ports_at-sets names (a ∷ sets) = ports_at-sets names sets

-- the lines go on by those of ports on one side, which keep the rules
pub own_more : (all : List PortLine) (xs : List Line) (ports ports' : List PortLine) (item n : ℕ) (side : Side) (names : List Text) (pins pins' : List NetPort) → Begun all xs ports [] item → AreOwn xs → pins' ≡ pins
    → first_broken all ports [] item (own_lines side names pins') ≡ None → ports' ≡ ports ++ flat_map ports_at (own_lines side names pins') → n ≡ length ports'
    → Begun all (xs ++ own_lines side names pins) ports' [] (1 + n)
own_more all xs ports ports' item n side names pins pins' b own same kept added counted =
    let lines' = own_lines side names pins' in
    let own' = own_lines_are_own side names pins' in
    let longer : length ports' ≡ length xs + length lines' =
    ap length added ∙ length-append ports (flat_map ports_at lines') ∙ ap₂ ◌+◌ (ap length b.ports_are ∙ own.ports) own'.ports in
    let go = begun_more b lines' ports' [] (1 + n) kept added (sym own'.cells) (omega (arith, b.item_is, longer, counted)) in
    let P : List NetPort → Type 0 = λ ps. Begun all (xs ++ own_lines side names ps) ports' [] (1 + n) in
    subst P same go

-- an error in the lines of ports on one side
pub own_broken : {T : Type 0} (answer : Result T NetEnd) (e : NetEnd) (all : List PortLine) (xs : List Line) (ports : List PortLine) (item : ℕ) (side : Side) (names : List Text) (pins pins' : List NetPort) → IsErrAnd answer (λ x. x ≡ e) → Begun all xs ports [] item → pins' ≡ pins
    → Tells {T = Unit {0}} (Err e) (first_broken all ports [] item (own_lines side names pins')) → Tells answer (first_broken all [] [] 1 (xs ++ own_lines side names pins))
own_broken answer e all xs ports item side names pins pins' passed b same tells =
    let P : List NetPort → Type 0 = λ ps. Tells answer (first_broken all [] [] 1 (xs ++ own_lines side names ps)) in
    subst P same (tells_broken answer e all xs (own_lines side names pins') ports [] item passed b tells)

-- nothing before, in ports that are none
pub begun_empty : (all ports : List PortLine) → ports ≡ [] → Begun all [] ports [] 1
begun_empty all ports none = let P : List PortLine → Type 0 = λ ps. Begun all [] ps [] 1 in subst P (sym none) (begun_none all)

pub none_are_own : AreOwn []
none_are_own = record { ports = refl; cells = refl }

-- what the last call tells of the lines of ports on one side
pub own_tells : {T : Type 0} (answer : Result T NetEnd) (all : List PortLine) (xs : List Line) (ports : List PortLine) (item : ℕ) (side : Side) (names : List Text) (pins pins' : List NetPort) → Begun all xs ports [] item → pins' ≡ pins
    → Tells answer (first_broken all ports [] item (own_lines side names pins')) → Tells answer (first_broken all [] [] 1 (xs ++ own_lines side names pins))
own_tells answer all xs ports item side names pins pins' b same tells =
    let P : List NetPort → Type 0 = λ ps. Tells answer (first_broken all [] [] 1 (xs ++ own_lines side names ps)) in
    subst P same (tells_begun answer b (own_lines side names pins') tells)

-- after the lines of the netlist's own ports
pub begun_own : (all : List PortLine) (net : Net) (ports : List PortLine) (cells : List Text) (n : ℕ) → first_broken all [] [] 1 (own_part net) ≡ None → ports ≡ flat_map ports_at (own_part net) → cells ≡ [] → n ≡ length ports
    → Begun all (own_part net) ports cells (1 + n)
begun_own all net ports cells n kept are none counted =
    let own = own_part_is_own net in
    record { ports_are = are; cells_are = none ∙ sym own.cells; item_is = omega (arith, counted, ap length are, own.ports); kept = kept }

-- after the lines of the cells
pub begun_cells : (all : List PortLine) (net : Net) (ports ports' : List PortLine) (cells cells' : List Text) (item n : ℕ) (list : List NetCell) → Begun all (own_part net) ports cells item → cells ≡ [] → list ≡ net.cells.items
    → first_broken all ports cells item (cell_lines net.names list) ≡ None → ports' ≡ ports ++ flat_map ports_at (cell_lines net.names list) → cells' ≡ cells ++ flat_map cell_names_at (cell_lines net.names list) → n ≡ length cells'
    → Begun all (own_part net ++ cell_lines net.names net.cells.items) ports' cells' (item + n)
begun_cells all net ports ports' cells cells' item n list b none same kept added named counted =
    let lines = cell_lines net.names list in
    let longer : length cells' ≡ length lines =
    omega (arith, ap length named, length-append cells (flat_map cell_names_at lines), ap length none, length-cell_names net.names list) in
    let go = begun_more b lines ports' cells' (item + n) kept added named (omega (arith, longer, counted)) in
    let P : List NetCell → Type 0 = λ cs. Begun all (own_part net ++ cell_lines net.names cs) ports' cells' (item + n) in
    subst P same go

-- the ports of the lines before the assignments are all ports
pub all_ports : (all : List PortLine) (net : Net) (ports : List PortLine) (cells : List Text) (item : ℕ) → Begun all (own_part net ++ cell_lines net.names net.cells.items) ports cells item → ports ≡ ports_of (netlist_of net)
all_ports all net ports cells item b =
    let lines = own_part net ++ cell_lines net.names net.cells.items in
    let sets = set_lines net.names net.sets.items in
    b.ports_are ∙ sym (flat_map-append ports_at lines sets ∙ ap (λ ps. flat_map ports_at lines ++ ps) (ports_at-sets net.names net.sets.items) ∙ append-nil (flat_map ports_at lines))
