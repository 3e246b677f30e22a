-- What gives a port of a design its value: the inputs, assignments of an instance, the control of one, or a primitive's cell.
use Rattle.std.proofs.Common.{◌≡◌, inl, inr, List, [], ◌∷◌, ◌++◌, Bool, true, false, ◌||◌, Option, Some, None, refl, sym, ap, ◌∙◌, subst}
use Rattle.std.specs.Prelude.{Contains, bytes_eq, codes, is_some, if◌then◌else◌}
use Rattle.std.proofs.lemmas.List.Elements.{Contains-append_right}
use Rattle.std.proofs.lemmas.Option.{same_Some}
use Rattle.std.proofs.lemmas.Slice.Eq.{bytes_eq-Decides}
use Rattle.hw_names.proofs.NameLemmas.{full_name-append}
use Rattle.hw_names.specs.Name.{Text, Path, dotted, full_name, port_at}
use Rattle.hw_prims.specs.Table.{Pin, pin, pin_names, outputs_of}
use Rattle.hw_prims.specs.declared.prim.Primitive.{Primitive}
use Rattle.cal_ast.proofs.DriveLemmas.{input_or_output}
use Rattle.cal_ast.proofs.InstanceLemmas.{component_at-design, component_at-below, parent_of}
use Rattle.cal_ast.proofs.ListLemmas.{Contains-here, Contains-there}
use Rattle.cal_ast.proofs.LookupLemmas.{cell_output_cases, cell_inputs-part}
use Rattle.cal_ast.proofs.SideLemmas.{known_pin, cell_input_destination, input_first, output_first, some_found}
use Rattle.cal_ast.specs.Instances.{component_at, port_name, IsPrimitiveCell}
use Rattle.cal_ast.specs.Naming.{GroupNaming, IsKnownPort}
use Rattle.cal_ast.specs.Ports.{SidedPin, is_bare, has_pin, with_pin, inputs_in, outputs_in, port_in}
use Rattle.cal_ast.specs.Rules.{KeepsRulesUnder}
use Rattle.cal_ast.specs.Schedule.{IsPortOf}
use Rattle.cal_ast.specs.Sides.{IsDestination, IsSource, driven_side, read_side}
use Rattle.cal_ast.specs.Tree.{PortName, own, Component, Design}

pub data Role (design : Design) (top : Component) (name : Text) : Type 0 where
  Given : Contains (pin_names (inputs_in top)) name → Role design top name
  Driven : (path : Path) (c : Component) (cell : Option Text) (pin : Text) → component_at design top path ≡ Some c → IsDestination design c (record { cell = cell; pin = pin }) → port_at path cell pin ≡ name → Role design top name
  Controlled : (path : Path) (c : Component) → component_at design top path ≡ Some c → is_bare c ≡ false → full_name path (codes "done") ≡ name → Role design top name
  Computed : (cell : Text) (prim : Primitive) (output : Text) → IsPrimitiveCell design top cell prim → Contains (pin_names (outputs_of prim)) output → dotted cell output ≡ name → Role design top name

-- ---- the go of a component that isn't bare

abbrev HasNamed : Text → List Pin → Type 0
HasNamed name pins = Contains (pin_names pins) name

among : (name : Text) (pins : List Pin) → has_pin pins name ≡ true → HasNamed name pins
among name [] e = absurd (cc)
among name (p ∷ pins) e = by (bytes_eq p.name name) refl (among name pins)
  where
    by : (b : Bool) → bytes_eq p.name name ≡ b → (has_pin pins name ≡ true → HasNamed name pins) → HasNamed name (p ∷ pins)
    by true same later =
        let H : Text → Type 0 = λ x. Contains (p.name ∷ pin_names pins) x in
        subst H ((bytes_eq-Decides p.name name).0 same) (Contains-here p.name (pin_names pins))
    by false other later =
        let rest : has_pin pins name ≡ true = sym (ap (λ b. b || has_pin pins name) other) ∙ e in
        Contains-there p.name (pin_names pins) name (later rest)

names_append : (pins : List Pin) (p : Pin) → pin_names (pins ++ p ∷ []) ≡ pin_names pins ++ p.name ∷ []
names_append [] p = refl
names_append (q ∷ pins) p = ap (λ names. q.name ∷ names) (names_append pins p)

with_pin_has : (name : Text) (pins : List Pin) → HasNamed name (with_pin name pins)
with_pin_has name pins = by (has_pin pins name) refl
  where
    by : (b : Bool) → has_pin pins name ≡ b → HasNamed name (if b then pins else pins ++ pin name 1 ∷ [])
    by true e = among name pins e
    by false e =
        let H : List Text → Type 0 = λ names. Contains names name in
        subst H (sym (names_append pins (pin name 1))) (Contains-append_right (pin_names pins) (name ∷ []) name (Contains-here name []))

-- it is read as an input
pub go_source : (design : Design) (c : Component) → is_bare c ≡ false → IsSource design c (own (codes "go"))
go_source design c control =
    let has : HasNamed (codes "go") (if is_bare c then c.ins else with_pin (codes "go") c.ins) = rw control (with_pin_has (codes "go") c.ins) in
    input_first (inputs_in c) (outputs_in c) (codes "go") has

-- what is read has a name that lines can say
pub source_known : (design : Design) (c : Component) (p : PortName) → IsSource design c p → IsKnownPort design c p
source_known design c p is =
    let q = some_found (λ (x : SidedPin). x.side) (port_in design c p) (read_side p.cell) is in
    ap is_some q.1

-- so has what is driven
pub destination_known : (design : Design) (c : Component) (p : PortName) → IsDestination design c p → IsKnownPort design c p
destination_known design c p is =
    let q = some_found (λ (x : SidedPin). x.side) (port_in design c p) (driven_side p.cell) is.side in
    ap is_some q.1

-- ---- roles

module _ (naming : GroupNaming) (design : Design) (top : Component) (keeps : KeepsRulesUnder naming design) (in_design : Contains design top) where
  role_along : (a b : Text) → a ≡ b → Role design top a → Role design top b
  role_along a b e role = subst (λ (x : Text). Role design top x) e role

  own_output : (path : Path) (c : Component) (pin : Text) → component_at design top path ≡ Some c → Contains (pin_names (outputs_in c)) pin → Role design top (full_name path pin)
  own_output path c pin at has = by (is_bare c) refl (bytes_eq pin (codes "done")) refl
    where
      no_input : Contains (pin_names (inputs_in c)) pin → ⊥
      no_input input = input_or_output naming design keeps c (component_at-design design top path c in_design at) pin input has

      by : (bare : Bool) → is_bare c ≡ bare → (done : Bool) → bytes_eq pin (codes "done") ≡ done → Role design top (full_name path pin)
      by true bare done test = Driven path c None pin at (record { side = output_first (inputs_in c) (outputs_in c) pin no_input has; not_done = λ control. let apart : true ≡ false = sym bare ∙ control in absurd (cc) }) refl
      by false bare true test = Controlled path c at bare (ap (full_name path) (sym ((bytes_eq-Decides pin (codes "done")).0 test)))
      by false bare false test = Driven path c None pin at (record { side = output_first (inputs_in c) (outputs_in c) pin no_input has; not_done = λ control. test }) refl

  own_input : (path : Path) (c : Component) (pin : Text) → component_at design top path ≡ Some c → Contains (pin_names (inputs_in c)) pin → Role design top (full_name path pin)
  own_input [] c pin at has = Given (subst (λ (x : Component). Contains (pin_names (inputs_in x)) pin) (sym (same_Some top c at)) has)
  own_input (s ∷ path) c pin at has =
      let up = parent_of design top (s ∷ path) c (λ e. cc) at in
      let input = subst (λ (pins : List Pin). Contains (pin_names pins) pin) (sym (cell_inputs-part design up.parent up.cell c up.part)) has in
      Driven up.above up.parent (Some up.cell) pin up.at (cell_input_destination design up.parent up.cell pin input)
      (sym (full_name-append up.above up.cell pin) ∙ ap (λ (way : Path). full_name way pin) (sym up.ends))

  known_role : (path : Path) (c : Component) (cell : Option Text) (pin : Text) → component_at design top path ≡ Some c → IsKnownPort design c (record { cell = cell; pin = pin }) → Role design top (port_at path cell pin)
  known_role path c None pin at known = elim (known_pin design c None pin known) [
    | inl read ↦ own_input path c pin at read
    | inr written ↦ own_output path c pin at written
  ]
  known_role path c (Some cell) pin at known = elim (known_pin design c (Some cell) pin known) [
    | inl read ↦ elim (cell_output_cases design c cell pin read) [
      | inl (prim, is, there) ↦ Computed (full_name path cell) prim pin (record { path = path; c = c; at = at; cell = cell; made = is; named = refl }) there refl
      | inr (part, is, there) ↦
          role_along (full_name (path ++ cell ∷ []) pin) (dotted (full_name path cell) pin) (full_name-append path cell pin)
          (own_output (path ++ cell ∷ []) part pin (component_at-below design top path c cell at ∙ is) there)
    ]
    | inr written ↦ Driven path c (Some cell) pin at (cell_input_destination design c cell pin written) refl
  ]

  pub role_of : (name : Text) → IsPortOf design top name → Role design top name
  role_of name port = role_along (port_name port.path port.p) name port.named (known_role port.path port.c port.p.cell port.p.pin port.at port.known)
