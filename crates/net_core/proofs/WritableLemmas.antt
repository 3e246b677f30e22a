-- A valid netlist's cells have primitives, its assignments fit their ports, and what assignments may drive are the writable ports.
use Rattle.std.proofs.Common.{◌≡◌, ℕ, zero, suc, Bool, true, false, List, [], ◌∷◌, ◌++◌, map, flat_map, slice_get, Contains, Option, Some, None, is_some, not, ◌&&◌, ◌||◌, ◌==◌, refl, sym, ap, subst, ◌∙◌, inl, inr, ◌⊎◌}
use Rattle.std.proofs.lemmas.Bool.{and_parts}
use Rattle.std.proofs.lemmas.Bool.Decides.{Decides-eqb}
use Rattle.std.proofs.lemmas.Option.{slice_get-get_or}
use Rattle.std.proofs.lemmas.Slice.Eq.{bytes_eq-Decides}
use Rattle.std.specs.Prelude.{cond}
use Rattle.std.specs.Str.{bytes_eq}
use Rattle.hw_names.specs.Name.{Text, dotted}
use Rattle.hw_names.proofs.NameLemmas.{Contains-slice_get}
use Rattle.hw_prims.specs.Table.{Pin, prim_of, is_memory, inputs_of, outputs_of}
use Rattle.hw_prims.specs.declared.prim.Primitive.{Primitive}
use Rattle.net_core.specs.NetRun.{HasPin, IsCellInput, IsWritable}
use Rattle.net_core.specs.Netlist.{Netlist, Line, InLine, OutLine, WireLine, CellOf, SetOf, CellLine, SetLine, lines_of}
use Rattle.net_core.specs.Rules.{PortLine, ports_at, ports_from, ports_of, port_named, cell_input, cell_output, is_writable, each_source, source_exists, literal_fits, port_width, source_width, option_widths_agree, source_is_readable, IsValid}
use Rattle.net_core.proofs.PortListLemmas.{port_named-there}
use Rattle.net_core.proofs.ValidLemmas.{keeps_at, port_names_are_distinct}

-- the element stands in the list
abbrev In : {X : Type 0} → List X → X → Type 0
In [] x = ⊥
In (y ∷ ys) x = (y ≡ x) ⊎ In ys x

module _ {X : Type 0} where
  in_left : (xs ys : List X) (x : X) → In xs x → In (xs ++ ys) x
  in_left [] ys x h = absurd h
  in_left (y ∷ xs) ys x (inl e) = inl e
  in_left (y ∷ xs) ys x (inr h) = inr (in_left xs ys x h)

  in_right : (xs ys : List X) (x : X) → In ys x → In (xs ++ ys) x
  in_right [] ys x h = h
  in_right (y ∷ xs) ys x h = inr (in_right xs ys x h)

  in_either : (xs ys : List X) (x : X) → In (xs ++ ys) x → In xs x ⊎ In ys x
  in_either [] ys x h = inr h
  in_either (y ∷ xs) ys x (inl e) = inl (inl e)
  in_either (y ∷ xs) ys x (inr h) = elim (in_either xs ys x h) [ inl l ↦ inl (inr l) | inr r ↦ inr r ]

  at_of : (xs : List X) (x : X) → In xs x → (k : ℕ) × (slice_get xs k ≡ Some x)
  at_of [] x h = absurd h
  at_of (y ∷ xs) x (inl e) = (0, ap Some e)
  at_of (y ∷ xs) x (inr h) = let rest = at_of xs x h in (suc rest.0, rest.1)

  in_of : (xs : List X) (k : ℕ) (x : X) → slice_get xs k ≡ Some x → In xs x
  in_of [] k x at = cc
  in_of (y ∷ xs) zero x at = inl (same y x at)
    where
      same : (a b : X) → Some a ≡ Some b → a ≡ b
      same a b e = cc
  in_of (y ∷ xs) (suc k) x at = inr (in_of xs k x at)

module _ {X Y : Type 0} where
  in_map : (f : X → Y) (xs : List X) (x : X) → In xs x → In (map f xs) (f x)
  in_map f [] x h = absurd h
  in_map f (y ∷ xs) x (inl e) = inl (ap f e)
  in_map f (y ∷ xs) x (inr h) = inr (in_map f xs x h)

  from_map : (f : X → Y) (xs : List X) (y : Y) → In (map f xs) y → (x : X) × In xs x × (f x ≡ y)
  from_map f [] y h = absurd h
  from_map f (x ∷ xs) y (inl e) = (x, inl refl, e)
  from_map f (x ∷ xs) y (inr h) = let rest = from_map f xs y h in (rest.0, inr rest.1, rest.2)

  in_flat_map : (f : X → List Y) (xs : List X) (x : X) (y : Y) → In xs x → In (f x) y → In (flat_map f xs) y
  in_flat_map f [] x y there h = absurd there
  in_flat_map f (z ∷ xs) x y (inl e) h = let P : X → Type 0 = λ v. In (f v) y in in_left (f z) (flat_map f xs) y (subst P (sym e) h)
  in_flat_map f (z ∷ xs) x y (inr there) h = in_right (f z) (flat_map f xs) y (in_flat_map f xs x y there h)

  from_flat_map : (f : X → List Y) (xs : List X) (y : Y) → In (flat_map f xs) y → (x : X) × In xs x × In (f x) y
  from_flat_map f [] y h = absurd h
  from_flat_map f (x ∷ xs) y h =
      elim (in_either (f x) (flat_map f xs) y h) [
        | inl here ↦ (x, inl refl, here)
        | inr later ↦ let rest = from_flat_map f xs y later in (rest.0, inr rest.1, rest.2)
      ]

-- a name in a list of names
contains_of : (names : List Text) (name : Text) → In names name → Contains names name
contains_of names name h = let at = at_of names name h in Contains-slice_get names at.0 name at.1

of_contains : (names : List Text) (name : Text) → Contains names name → In names name
of_contains names name there = in_of names there.0 name (slice_get-get_or names there.0 name there.1 ∙ ap Some there.2)

abbrev name_of_pin : Pin → Text
name_of_pin p = p.name

has_pin : (pins : List Pin) (p : Pin) → In pins p → HasPin pins p.name
has_pin pins p h = contains_of (map name_of_pin pins) p.name (in_map name_of_pin pins p h)

pin_of_name : (pins : List Pin) (name : Text) → HasPin pins name → (p : Pin) × In pins p × (p.name ≡ name)
pin_of_name pins name h = from_map name_of_pin pins name (of_contains (map name_of_pin pins) name h)

-- a port that is found stands in the list
found_in : (ports : List PortLine) (name : Text) (p : PortLine) → port_named ports name ≡ Some p → In ports p × (p.name ≡ name)
found_in [] name p e = cc
found_in (q ∷ ports) name p e = by (bytes_eq q.name name) refl e (found_in ports name p)
  where
    same : (a b : PortLine) → Some a ≡ Some b → a ≡ b
    same a b h = cc

    by : (b : Bool) → bytes_eq q.name name ≡ b → cond (bytes_eq q.name name) (Some q) (port_named ports name) ≡ Some p
        → (port_named ports name ≡ Some p → In ports p × (p.name ≡ name)) → In (q ∷ ports) p × (p.name ≡ name)
    by true t found rest =
        let is : q ≡ p = same q p (sym (ap (λ b. cond b (Some q) (port_named ports name)) t) ∙ found) in
        (inl is, ap (λ (x : PortLine). x.name) (sym is) ∙ (bytes_eq-Decides q.name name).0 t)
    by false t found rest =
        let later = rest (sym (ap (λ b. cond b (Some q) (port_named ports name)) t) ∙ found) in (inr later.0, later.1)

abbrev writes : PortLine → Bool
writes p = p.writable

true_false : (b : Bool) → b ≡ true → b ≡ false → ⊥
true_false b t f = cc

some_of : {X : Type 0} (o : Option X) → is_some o ≡ true → (x : X) × (o ≡ Some x)
some_of None e = cc
some_of (Some x) e = (x, refl)

writable_port : (o : Option PortLine) → is_writable o ≡ true → (p : PortLine) × (o ≡ Some p) × (p.writable ≡ true)
writable_port None e = cc
writable_port (Some p) e = (p, refl, e)

abbrev own_lines_of : Netlist → List Line
own_lines_of n = map InLine n.ins ++ map OutLine n.outs ++ map WireLine n.wires

-- a line stands among the lines where what it is of stands in its list
out_line : (n : Netlist) (p : Pin) → In n.outs p → In (lines_of n) (OutLine p)
out_line n p h = in_left (own_lines_of n ++ map CellOf n.cells) (map SetOf n.sets) (OutLine p) (in_left (own_lines_of n) (map CellOf n.cells) (OutLine p) (in_left (map InLine n.ins ++ map OutLine n.outs) (map WireLine n.wires) (OutLine p) (in_right (map InLine n.ins) (map OutLine n.outs) (OutLine p) (in_map OutLine n.outs p h))))

wire_line : (n : Netlist) (p : Pin) → In n.wires p → In (lines_of n) (WireLine p)
wire_line n p h = in_left (own_lines_of n ++ map CellOf n.cells) (map SetOf n.sets) (WireLine p) (in_left (own_lines_of n) (map CellOf n.cells) (WireLine p) (in_right (map InLine n.ins ++ map OutLine n.outs) (map WireLine n.wires) (WireLine p) (in_map WireLine n.wires p h)))

cell_line : (n : Netlist) (c : CellLine) → In n.cells c → In (lines_of n) (CellOf c)
cell_line n c h = in_left (own_lines_of n ++ map CellOf n.cells) (map SetOf n.sets) (CellOf c) (in_right (own_lines_of n) (map CellOf n.cells) (CellOf c) (in_map CellOf n.cells c h))

-- where a line stands, what it is of stands in its list
abbrev IsOf : Netlist → Line → Type 0
IsOf n (InLine p) = In n.ins p
IsOf n (OutLine p) = In n.outs p
IsOf n (WireLine p) = In n.wires p
IsOf n (CellOf c) = In n.cells c
IsOf n (SetOf a) = Unit {0}

of_line : (n : Netlist) (line : Line) → In (lines_of n) line → IsOf n line
of_line n line h =
    let P : Line → Type 0 = IsOf n in
    elim (in_either (own_lines_of n ++ map CellOf n.cells) (map SetOf n.sets) line h) [
      | inr set ↦ let r = from_map SetOf n.sets line set in subst P r.2 tt
      | inl most ↦ elim (in_either (own_lines_of n) (map CellOf n.cells) line most) [
        | inr cell ↦ let r = from_map CellOf n.cells line cell in subst P r.2 r.1
        | inl own ↦ elim (in_either (map InLine n.ins ++ map OutLine n.outs) (map WireLine n.wires) line own) [
          | inr wire ↦ let r = from_map WireLine n.wires line wire in subst P r.2 r.1
          | inl two ↦ elim (in_either (map InLine n.ins) (map OutLine n.outs) line two) [
            | inl input ↦ let r = from_map InLine n.ins line input in subst P r.2 r.1
            | inr out ↦ let r = from_map OutLine n.outs line out in subst P r.2 r.1
          ]
        ]
      ]
    ]

set_line : (n : Netlist) (a : SetLine) → In n.sets a → In (lines_of n) (SetOf a)
set_line n a h = in_right (own_lines_of n ++ map CellOf n.cells) (map SetOf n.sets) (SetOf a) (in_map SetOf n.sets a h)

-- what the rules say of an assignment, one by one
pub record SetKeeps (n : Netlist) (a : SetLine) : Type 0 where
  pub exists : is_some (port_named (ports_of n) a.dst) ≡ true
  pub sources : each_source (source_exists (ports_of n)) a ≡ true
  pub literals : each_source literal_fits a ≡ true
  pub widths : port_width (ports_of n) a.dst ≡ source_width (ports_of n) a.src
  pub guard : option_widths_agree (ports_of n) a.guard ≡ true
  pub writable : is_writable (port_named (ports_of n) a.dst) ≡ true
  pub readable : each_source (source_is_readable (ports_of n)) a ≡ true

module _ (n : Netlist) (valid : IsValid n) where
  -- a cell of a valid netlist has a primitive
  pub cell_is_made : (c : CellLine) → In n.cells c → (prim : Primitive) × (prim_of c.prim c.params ≡ Some prim)
  cell_is_made c h =
      let place = at_of (lines_of n) (CellOf c) (cell_line n c h) in
      some_of (prim_of c.prim c.params) (and_parts (is_some (prim_of c.prim c.params)) (not c.shown || is_memory c.prim) (keeps_at n valid place.0 (CellOf c) place.1).parameters).0

  pub cell_has_primitive : (k : ℕ) (c : CellLine) → slice_get n.cells k ≡ Some c → (prim : Primitive) × (prim_of c.prim c.params ≡ Some prim)
  cell_has_primitive k c at = cell_is_made c (in_of n.cells k c at)

  -- an assignment of a valid netlist
  pub set_keeps : (k : ℕ) (a : SetLine) → slice_get n.sets k ≡ Some a → SetKeeps n a
  set_keeps k a at =
      let ports = ports_of n in
      let place = at_of (lines_of n) (SetOf a) (set_line n a (in_of n.sets k a at)) in
      let keeps = keeps_at n valid place.0 (SetOf a) place.1 in
      let dst = port_named ports a.dst in
      let known = and_parts (is_some dst) (each_source (source_exists ports) a) keeps.known in
      let widths = and_parts (each_source literal_fits a && (port_width ports a.dst == source_width ports a.src)) (option_widths_agree ports a.guard) keeps.widths in
      let both = and_parts (each_source literal_fits a) (port_width ports a.dst == source_width ports a.src) widths.0 in
      let sides = and_parts (is_writable dst) (each_source (source_is_readable ports) a) keeps.sides in
      record {
        exists = known.0;
        sources = known.1;
        literals = both.0;
        widths = (Decides-eqb (port_width ports a.dst) (source_width ports a.src)).0 both.1;
        guard = widths.1;
        writable = sides.0;
        readable = sides.1;
      }

  -- a port that stands in the list is what its name finds
  port_is_named : (p : PortLine) → In (ports_of n) p → port_named (ports_of n) p.name ≡ Some p
  port_is_named p h = let at = at_of (ports_of n) p h in port_named-there (ports_of n) at.0 p (port_names_are_distinct n valid) at.1

  writable_at : (line : Line) (p : PortLine) (port : Text) → In (lines_of n) line → In (ports_at line) p → p.writable ≡ true → p.name ≡ port → is_writable (port_named (ports_of n) port) ≡ true
  writable_at line p port at_line at_port writes named =
      ap (λ name. is_writable (port_named (ports_of n) name)) (sym named)
      ∙ ap is_writable (port_is_named p (in_flat_map ports_at (lines_of n) line p at_line at_port)) ∙ writes

  cell_writable : (port : Text) → IsCellInput n port → is_writable (port_named (ports_of n) port) ≡ true
  cell_writable port (cell, prim, (k, c, at, named, made), pin, there, joined) =
      let q = pin_of_name (inputs_of prim) pin there in
      let p = cell_input c.name q.0 in
      let F : Option Primitive → Type 0 = λ o. In (ports_from o c.name c.prim) p in
      let here : F (Some prim) = in_left (map (cell_input c.name) (inputs_of prim)) (map (cell_output c.name) (outputs_of prim)) p (in_map (cell_input c.name) (inputs_of prim) q.0 q.1) in
      writable_at (CellOf c) p port (cell_line n c (in_of n.cells k c at)) (subst F (sym made) here) refl (ap (dotted c.name) q.2 ∙ ap (λ name. dotted name pin) named ∙ joined)

  -- what assignments may drive is a writable port
  pub writable-IsWritable : (port : Text) → IsWritable n port → is_writable (port_named (ports_of n) port) ≡ true
  writable-IsWritable port (inl out) = let r = pin_of_name n.outs port out in writable_at (OutLine r.0) _ port (out_line n r.0 r.1) (inl refl) refl r.2
  writable-IsWritable port (inr (inl wire)) = let r = pin_of_name n.wires port wire in writable_at (WireLine r.0) _ port (wire_line n r.0 r.1) (inl refl) refl r.2
  writable-IsWritable port (inr (inr input)) = cell_writable port input

  line_writable : (line : Line) (p : PortLine) → IsOf n line → In (ports_at line) p → p.writable ≡ true → IsWritable n p.name
  line_writable (InLine q) p there (inl e) driven = absurd (true_false p.writable driven (sym (ap writes e)))
  line_writable (InLine q) p there (inr h) driven = absurd h
  line_writable (OutLine q) p there (inl e) driven =
      let H : Text → Type 0 = HasPin n.outs in inl (subst H (ap (λ (x : PortLine). x.name) e) (has_pin n.outs q there))
  line_writable (OutLine q) p there (inr h) driven = absurd h
  line_writable (WireLine q) p there (inl e) driven =
      let H : Text → Type 0 = HasPin n.wires in inr (inl (subst H (ap (λ (x : PortLine). x.name) e) (has_pin n.wires q there)))
  line_writable (WireLine q) p there (inr h) driven = absurd h
  line_writable (SetOf a) p there at driven = absurd at
  line_writable (CellOf c) p there at driven =
      let made = cell_is_made c there in
      let prim = made.0 in
      let F : Option Primitive → Type 0 = λ o. In (ports_from o c.name c.prim) p in
      let place = at_of n.cells c there in
      elim (in_either (map (cell_input c.name) (inputs_of prim)) (map (cell_output c.name) (outputs_of prim)) p (subst F made.1 at)) [
        | inl input ↦
            let r = from_map (cell_input c.name) (inputs_of prim) p input in
            inr (inr (c.name, prim, (place.0, c, place.1, refl, made.1), r.0.name, has_pin (inputs_of prim) r.0 r.1, ap (λ (x : PortLine). x.name) r.2))
        | inr output ↦ let r = from_map (cell_output c.name) (outputs_of prim) p output in absurd (true_false p.writable driven (sym (ap writes r.2)))
      ]

  -- a writable port is what assignments may drive
  pub IsWritable-writable : (port : Text) → is_writable (port_named (ports_of n) port) ≡ true → IsWritable n port
  IsWritable-writable port e =
      let found = writable_port (port_named (ports_of n) port) e in
      let stands = found_in (ports_of n) port found.0 found.1 in
      let line = from_flat_map ports_at (lines_of n) found.0 stands.0 in
      let W : Text → Type 0 = IsWritable n in
      subst W stands.1 (line_writable line.0 found.0 (of_line n line.0 line.1) line.2 found.2)
