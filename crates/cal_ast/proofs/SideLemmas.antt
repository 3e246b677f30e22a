-- Sides of ports: the first port of a name is an input where an input has the name, and else an output.
use Rattle.std.proofs.Common.{◌≡◌, ◌⊎◌, inl, inr, Bool, true, false, List, [], ◌∷◌, Option, Some, None, refl, sym, ap, ◌∙◌, subst}
use Rattle.std.specs.Prelude.{Contains, IsSome, bytes_eq, is_some, option_map}
use Rattle.std.proofs.lemmas.List.Elements.{Contains-append_cases}
use Rattle.std.proofs.lemmas.Slice.Eq.{bytes_eq-Decides}
use Rattle.hw_names.specs.Name.{Text}
use Rattle.hw_prims.specs.Table.{Pin, pin_names}
use Rattle.cal_ast.proofs.ListLemmas.{Contains-none, Contains-here, Contains-there, Contains-cases_first, Contains-map, Contains-from_map, find-Some}
use Rattle.cal_ast.specs.Naming.{IsKnownPort}
use Rattle.cal_ast.specs.Ports.{Side, Input, Output, SidedPin, on_side, both_sides, port_named, port_in, is_bare, inputs_in, outputs_in, cell_inputs, cell_outputs}
use Rattle.cal_ast.specs.Sides.{IsDestination, IsSource}
use Rattle.cal_ast.specs.Tree.{own, port_of, Component, Design}

-- the pins that assignments of the component read, and those that they may drive, in the place of a port's cell
abbrev pub readable_in : Design → Component → Option Text → List Pin
readable_in design c None = inputs_in c
readable_in design c (Some cell) = cell_outputs design c cell

abbrev pub writable_in : Design → Component → Option Text → List Pin
writable_in design c None = outputs_in c
writable_in design c (Some cell) = cell_inputs design c cell

abbrev side_found : List Pin → List Pin → Text → Option Side
side_found ins outs name = option_map (λ (q : SidedPin). q.side) (port_named (both_sides ins outs) name)

among_later : (p : Pin) (pins : List Pin) (name : Text) → bytes_eq p.name name ≡ false → Contains (pin_names (p ∷ pins)) name → Contains (pin_names pins) name
among_later p pins name e has = elim (Contains-cases_first p.name (pin_names pins) name has) [
  | inl same ↦ (let is = (bytes_eq-Decides p.name name).1 same in absurd (cc))
  | inr there ↦ there
]

-- a name that an input has is an input's
pub input_first : (ins outs : List Pin) (name : Text) → Contains (pin_names ins) name → side_found ins outs name ≡ Some Input
input_first [] outs name has = absurd (Contains-none name has)
input_first (p ∷ ins) outs name has = by (bytes_eq p.name name) refl (input_first ins outs name)
  where
    by : (b : Bool) → bytes_eq p.name name ≡ b → (Contains (pin_names ins) name → side_found ins outs name ≡ Some Input) → side_found (p ∷ ins) outs name ≡ Some Input
    by true e later = rw e refl
    by false e later = rw e (later (among_later p ins name e has))

output_found : (outs : List Pin) (name : Text) → Contains (pin_names outs) name → side_found [] outs name ≡ Some Output
output_found [] name has = absurd (Contains-none name has)
output_found (p ∷ outs) name has = by (bytes_eq p.name name) refl (output_found outs name)
  where
    by : (b : Bool) → bytes_eq p.name name ≡ b → (Contains (pin_names outs) name → side_found [] outs name ≡ Some Output) → side_found [] (p ∷ outs) name ≡ Some Output
    by true e later = rw e refl
    by false e later = rw e (later (among_later p outs name e has))

-- a name that no input has, and an output, is an output's
pub output_first : (ins outs : List Pin) (name : Text) → (Contains (pin_names ins) name → ⊥) → Contains (pin_names outs) name → side_found ins outs name ≡ Some Output
output_first [] outs name none has = output_found outs name has
output_first (p ∷ ins) outs name none has = by (bytes_eq p.name name) refl (output_first ins outs name)
  where
    by : (b : Bool) → bytes_eq p.name name ≡ b → ((Contains (pin_names ins) name → ⊥) → Contains (pin_names outs) name → side_found ins outs name ≡ Some Output) → side_found (p ∷ ins) outs name ≡ Some Output
    by true e later = absurd (none (subst (λ x. Contains (p.name ∷ pin_names ins) x) ((bytes_eq-Decides p.name name).0 e) (Contains-here p.name (pin_names ins))))
    by false e later = rw e (later (λ there. none (Contains-there p.name (pin_names ins) name there)) has)

-- a port of the name and of the side
pub record HasSide (ins outs : List Pin) (name : Text) (q : SidedPin) : Type 0 where
  pub input : q.side ≡ Input → Contains (pin_names ins) name
  pub output : q.side ≡ Output → Contains (pin_names outs) name

on_side-found : (side : Side) (pins : List Pin) (name : Text) (q : SidedPin) → Contains (on_side side pins) q → q.pin.name ≡ name → (q.side ≡ side) × Contains (pin_names pins) name
on_side-found side pins name q has named =
    let p = Contains-from_map (λ (x : Pin). record { side = side; pin = x }) pins q has in
    let is : p.0.name ≡ name = ap (λ (x : SidedPin). x.pin.name) p.2 ∙ named in
    (sym (ap (λ (x : SidedPin). x.side) p.2), subst (λ x. Contains (pin_names pins) x) is (Contains-map (λ (x : Pin). x.name) pins p.0 p.1))

-- the port that is found has a side, and is a pin of that side
pub found_side : (ins outs : List Pin) (name : Text) (q : SidedPin) → port_named (both_sides ins outs) name ≡ Some q → HasSide ins outs name q
found_side ins outs name q found =
    let r = find-Some (λ (x : SidedPin). bytes_eq x.pin.name name) (both_sides ins outs) q found in
    let named = (bytes_eq-Decides q.pin.name name).0 r.1 in
    elim (Contains-append_cases (on_side Input ins) (on_side Output outs) q r.0) [
      | inl there ↦ (let s = on_side-found Input ins name q there named in
          record { input = λ is. s.1; output = λ is. let apart : Input ≡ Output = sym s.0 ∙ is in absurd (cc) })
      | inr there ↦ (let s = on_side-found Output outs name q there named in
          record { input = λ is. let apart : Output ≡ Input = sym s.0 ∙ is in absurd (cc); output = λ is. s.1 })
    ]

-- what is found is some port
pub some_found : {X Y : Type 0} (f : X → Y) (o : Option X) (y : Y) → option_map f o ≡ Some y → (x : X) × (o ≡ Some x) × (f x ≡ y)
some_found f None y e = absurd (cc)
some_found f (Some x) y e = (x, refl, cc)

pub some_of : {X : Type 0} (o : Option X) → is_some o ≡ true → (x : X) × (o ≡ Some x)
some_of None e = absurd (cc)
some_of (Some x) e = (x, refl)

-- what assignments may drive, and what they read, stands among the pins of its side
pub destination_pin : (design : Design) (c : Component) (cell : Option Text) (pin : Text) → IsDestination design c (record { cell = cell; pin = pin }) → Contains (pin_names (writable_in design c cell)) pin
destination_pin design c None pin is =
    let q = some_found (λ (x : SidedPin). x.side) (port_in design c (own pin)) Output is.side in
    (found_side (inputs_in c) (outputs_in c) pin q.0 q.1).output q.2
destination_pin design c (Some cell) pin is =
    let q = some_found (λ (x : SidedPin). x.side) (port_in design c (port_of cell pin)) Input is.side in
    (found_side (cell_inputs design c cell) (cell_outputs design c cell) pin q.0 q.1).input q.2

pub source_pin : (design : Design) (c : Component) (cell : Option Text) (pin : Text) → IsSource design c (record { cell = cell; pin = pin }) → Contains (pin_names (readable_in design c cell)) pin
source_pin design c None pin is =
    let q = some_found (λ (x : SidedPin). x.side) (port_in design c (own pin)) Input is in
    (found_side (inputs_in c) (outputs_in c) pin q.0 q.1).input q.2
source_pin design c (Some cell) pin is =
    let q = some_found (λ (x : SidedPin). x.side) (port_in design c (port_of cell pin)) Output is in
    (found_side (cell_inputs design c cell) (cell_outputs design c cell) pin q.0 q.1).output q.2

-- a known port stands among the pins of one of the sides
either_side : (ins outs : List Pin) (name : Text) → IsSome (port_named (both_sides ins outs) name) → Contains (pin_names ins) name ⊎ Contains (pin_names outs) name
either_side ins outs name known =
    let q = some_of (port_named (both_sides ins outs) name) known in
    by q.0.side refl (found_side ins outs name q.0 q.1)
  where
    by : (side : Side) → (some_of (port_named (both_sides ins outs) name) known).0.side ≡ side → HasSide ins outs name (some_of (port_named (both_sides ins outs) name) known).0
        → Contains (pin_names ins) name ⊎ Contains (pin_names outs) name
    by Input is has = inl (has.input is)
    by Output is has = inr (has.output is)

pub known_pin : (design : Design) (c : Component) (cell : Option Text) (pin : Text) → IsKnownPort design c (record { cell = cell; pin = pin })
    → Contains (pin_names (readable_in design c cell)) pin ⊎ Contains (pin_names (writable_in design c cell)) pin
known_pin design c None pin known = either_side (inputs_in c) (outputs_in c) pin known
known_pin design c (Some cell) pin known = elim (either_side (cell_inputs design c cell) (cell_outputs design c cell) pin known) [
  | inl input ↦ inr input
  | inr output ↦ inl output
]

-- an input of a cell may be driven
pub cell_input_destination : (design : Design) (c : Component) (cell pin : Text) → Contains (pin_names (cell_inputs design c cell)) pin → IsDestination design c (port_of cell pin)
cell_input_destination design c cell pin has =
    record { side = input_first (cell_inputs design c cell) (cell_outputs design c cell) pin has; not_done = λ control. refl }

-- so may an output of a bare component that no input has the name of
pub output_destination : (design : Design) (c : Component) (pin : Text) → is_bare c ≡ true → (Contains (pin_names (inputs_in c)) pin → ⊥) → Contains (pin_names (outputs_in c)) pin → IsDestination design c (own pin)
output_destination design c pin bare none has =
    record { side = output_first (inputs_in c) (outputs_in c) pin none has; not_done = λ control. let apart : true ≡ false = sym bare ∙ control in absurd (cc) }
