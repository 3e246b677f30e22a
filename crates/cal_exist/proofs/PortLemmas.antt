-- Which names are ports of a design, and that outputs and inputs are apart.
use Rattle.std.proofs.Common.{◌≡◌, ◌≢◌, ◌⊎◌, inl, inr, suc, List, [], ◌∷◌, ◌++◌, Bool, true, false, not, ◌&&◌, ◌||◌, Option, Some, None, refl, sym, ap, ◌∙◌, subst, arith}
use Rattle.std.specs.Prelude.{Contains, bytes_eq, codes, is_some, if◌then◌else◌}
use Rattle.std.proofs.lemmas.List.{map-append}
use Rattle.std.proofs.lemmas.List.Elements.{Contains-append_right}
use Rattle.std.proofs.lemmas.Option.{same_Some}
use Rattle.std.proofs.lemmas.Slice.Eq.{bytes_eq-Decides}
use Rattle.hw_names.proofs.NameLemmas.{full_name-append, plain_append}
use Rattle.hw_names.specs.Name.{Text, Path, full_name, port_at, IsPlain, IsPlainPath, AreDistinct}
use Rattle.hw_prims.proofs.PortNameLemmas.{has_names, pins_differ}
use Rattle.hw_prims.specs.Table.{Pin, pin, pin_names, inputs_of, outputs_of}
use Rattle.hw_prims.specs.declared.prim.Primitive.{Primitive}
use Rattle.cal_ast.proofs.DriveLemmas.{input_or_output}
use Rattle.cal_ast.proofs.InstanceLemmas.{component_at-design, plain_path}
use Rattle.cal_ast.proofs.ListLemmas.{AllPairs-across, Contains-here, Contains-there}
use Rattle.cal_ast.proofs.LookupLemmas.{cell_inputs-primitive, cell_outputs-primitive, primitive_in-Some}
use Rattle.cal_ast.proofs.PlainLemmas.{known_ports_are_plain}
use Rattle.cal_ast.proofs.SideLemmas.{output_first}
use Rattle.cal_ast.specs.Instances.{component_at}
use Rattle.cal_ast.specs.Naming.{Unreserved, IsKnownPort}
use Rattle.cal_ast.specs.Plain.{HasPlainTree}
use Rattle.cal_ast.specs.Ports.{Output, is_bare, has_pin, with_pin, inputs_in, outputs_in, primitive_in, cell_inputs, cell_outputs, port_in, side_in}
use Rattle.cal_ast.specs.Rules.{CalRules}
use Rattle.cal_ast.specs.Schedule.{IsPortOf}
use Rattle.cal_ast.specs.Tree.{PortName, own, port_of, Component, Design}
use Rattle.cal_exist.proofs.PartLemmas.{Parts, End, parts, parts_of, joined, end_of, end_of-append, end_is}

-- ---- the done of a component that isn't bare

abbrev HasNamed : Text → List Pin → Type 0
HasNamed name pins = Contains (pin_names pins) name

among : (name : Text) (pins : List Pin) → has_pin pins name ≡ true → HasNamed name pins
among name [] e = absurd (cc)
among name (p ∷ pins) e = by (bytes_eq p.name name) refl (among name pins)
  where
    by : (b : Bool) → bytes_eq p.name name ≡ b → (has_pin pins name ≡ true → HasNamed name pins) → HasNamed name (p ∷ pins)
    by true same later = subst (λ (x : Text). Contains (p.name ∷ pin_names pins) x) ((bytes_eq-Decides p.name name).0 same) (Contains-here p.name (pin_names pins))
    by false other later =
        let rest : has_pin pins name ≡ true = sym (ap (λ (b : Bool). b || has_pin pins name) other) ∙ e in
        Contains-there p.name (pin_names pins) name (later rest)

with_pin_has : (name : Text) (pins : List Pin) → HasNamed name (with_pin name pins)
with_pin_has name pins = by (has_pin pins name) refl
  where
    by : (b : Bool) → has_pin pins name ≡ b → HasNamed name (if b then pins else pins ++ pin name 1 ∷ [])
    by true e = among name pins e
    by false e = subst (λ (names : List Text). Contains names name) (sym (map-append (λ (p : Pin). p.name) pins (pin name 1 ∷ []))) (Contains-append_right (pin_names pins) (name ∷ []) name (Contains-here name []))

pub done_output : (c : Component) → is_bare c ≡ false → Contains (pin_names (outputs_in c)) (codes "done")
done_output c control =
    let H : Bool → Type 0 = λ b. Contains (pin_names (if b then c.outs else with_pin (codes "done") c.outs)) (codes "done") in
    subst H (sym control) (with_pin_has (codes "done") c.outs)

-- ---- a primitive's pins

distinct_right : (xs ys : List Text) → AreDistinct (xs ++ ys) → AreDistinct ys
distinct_right [] ys all = all
distinct_right (x ∷ xs) ys all = distinct_right xs ys (λ i j d before within. all (suc i) (suc j) d (omega arith) (omega arith))

module _ (c : Component) (cell : Text) (prim : Primitive) (made : primitive_in c cell ≡ Some prim) where
  pins_apart : AreDistinct (pin_names (inputs_of prim) ++ pin_names (outputs_of prim))
  pins_apart =
      let found = primitive_in-Some c cell prim made in
      subst AreDistinct (map-append (λ (p : Pin). p.name) (inputs_of prim) (outputs_of prim)) (pins_differ found.0.made prim (has_names found.0.made found.0.params prim found.2))

  pub outputs_apart : AreDistinct (pin_names (outputs_of prim))
  outputs_apart = distinct_right (pin_names (inputs_of prim)) (pin_names (outputs_of prim)) pins_apart

  -- an output of a primitive's cell is read
  pub output_side : (design : Design) (output : Text) → Contains (pin_names (outputs_of prim)) output → side_in design c (port_of cell output) ≡ Some Output
  output_side design output has =
      output_first (cell_inputs design c cell) (cell_outputs design c cell) output
      (λ input. AllPairs-across (λ (a b : Text). a ≢ b) (pin_names (inputs_of prim)) (pin_names (outputs_of prim)) pins_apart output output (subst (λ (pins : List Pin). Contains (pin_names pins) output) (cell_inputs-primitive design c cell prim made) input) has refl)
      (subst (λ (pins : List Pin). Contains (pin_names pins) output) (sym (cell_outputs-primitive design c cell prim made)) has)

module _ (design : Design) (top : Component) (plain : HasPlainTree design) (rules : CalRules design) (in_design : Contains design top) where
  module _ (path : Path) (c : Component) (at : component_at design top path ≡ Some c) where
    pub here : Contains design c
    here = component_at-design design top path c in_design at

    pub plain_here : IsPlainPath path
    plain_here = plain_path design top path c plain in_design at

    -- its done is an output
    pub done_side : is_bare c ≡ false → side_in design c (own (codes "done")) ≡ Some Output
    done_side control =
        output_first (inputs_in c) (outputs_in c) (codes "done") (λ input. input_or_output Unreserved design rules.keeps c here (codes "done") input (done_output c control)) (done_output c control)

    -- an input is not the done of one that isn't bare
    pub input_not_done : (name : Text) → Contains (pin_names (inputs_in c)) name → (not (is_bare c) && bytes_eq name (codes "done")) ≡ false
    input_not_done name has = by (is_bare c) refl (bytes_eq name (codes "done")) refl
      where
        by : (b : Bool) → is_bare c ≡ b → (d : Bool) → bytes_eq name (codes "done") ≡ d → (not b && d) ≡ false
        by true bare d e = refl
        by false bare false e = refl
        by false bare true e =
            absurd (input_or_output Unreserved design rules.keeps c here name has (subst (λ (x : Text). Contains (pin_names (outputs_in c)) x) (sym ((bytes_eq-Decides name (codes "done")).0 e)) (done_output c bare)))

  -- the parts of a port's name
  pub parts_name : (path : Path) (last name : Text) → IsPlainPath path → IsPlain last → full_name path last ≡ name → parts name ≡ record { path = path; last = last }
  parts_name path last name p q named = ap parts (sym named) ∙ parts_of path last p q

  -- ---- which names are ports

  -- the instance at the path has the port
  abbrev HasPort : Path → PortName → Type 0
  HasPort path p = (c : Component) × (component_at design top path ≡ Some c) × IsKnownPort design c p

  has_or_not : (path : Path) (p : PortName) → HasPort path p ⊎ (HasPort path p → ⊥)
  has_or_not path p = by (component_at design top path) refl
    where
      by_port : (c : Component) → component_at design top path ≡ Some c → (b : Bool) → is_some (port_in design c p) ≡ b → HasPort path p ⊎ (HasPort path p → ⊥)
      by_port c at true known = inl (c, at, known)
      by_port c at false none = inr (λ has.
          let same : has.0 ≡ c = same_Some has.0 c (sym has.1 ∙ at) in
          let bad : true ≡ false = sym (subst (λ (x : Component). is_some (port_in design x p) ≡ true) same has.2) ∙ none in
          cc)

      by : (o : Option Component) → component_at design top path ≡ o → HasPort path p ⊎ (HasPort path p → ⊥)
      by None at = inr (λ has. let bad : None ≡ Some has.0 = sym at ∙ has.1 in cc)
      by (Some c) at = by_port c at (is_some (port_in design c p)) refl

  abbrev InstancePort : Text → Type 0
  InstancePort name = HasPort (parts name).path (own (parts name).last)

  abbrev CellPort : Text → Type 0
  CellPort name = (e : End) × (end_of (parts name).path ≡ Some e) × HasPort e.above (port_of e.cell (parts name).last)

  cell_port_or_not : (name : Text) → CellPort name ⊎ (CellPort name → ⊥)
  cell_port_or_not name = by (end_of (parts name).path) refl
    where
      by : (o : Option End) → end_of (parts name).path ≡ o → CellPort name ⊎ (CellPort name → ⊥)
      by None none = inr (λ has. let bad : None ≡ Some has.0 = sym none ∙ has.1 in cc)
      by (Some e) is = elim (has_or_not e.above (port_of e.cell (parts name).last)) [
        | inl has ↦ inl (e, is, has)
        | inr none ↦ inr (λ has.
            let same : has.0 ≡ e = same_Some has.0 e (sym has.1 ∙ is) in
            none (subst (λ (x : End). HasPort x.above (port_of x.cell (parts name).last)) same has.2))
      ]

  -- a port of an instance is found so
  found : (name : Text) (path : Path) (c : Component) (cell : Option Text) (last : Text) → component_at design top path ≡ Some c → IsKnownPort design c (record { cell = cell; pin = last }) → port_at path cell last ≡ name → InstancePort name ⊎ CellPort name
  found name path c None last at known named =
      let is = known_ports_are_plain design c (own last) plain (here path c at) known in
      let cut = parts_name path last name (plain_here path c at) is.1 named in
      inl (subst (λ (p : Parts). HasPort p.path (own p.last)) (sym cut) (c, at, known))
  found name path c (Some cell) last at known named =
      let is = known_ports_are_plain design c (port_of cell last) plain (here path c at) known in
      let cut = parts_name (path ++ cell ∷ []) last name (plain_append path cell (plain_here path c at) is.0) is.1 (full_name-append path cell last ∙ named) in
      inr (subst (λ (p : Parts). (e : End) × (end_of p.path ≡ Some e) × HasPort e.above (port_of e.cell p.last)) (sym cut) (record { above = path; cell = cell }, end_of-append path cell, (c, at, known)))

  pub port_or_not : (name : Text) → IsPortOf design top name ⊎ (IsPortOf design top name → ⊥)
  port_or_not name = elim (has_or_not (parts name).path (own (parts name).last)) [
    | inl has ↦ inl (record { path = (parts name).path; c = has.0; at = has.1; p = own (parts name).last; known = has.2; named = joined name })
    | inr none ↦ elim (cell_port_or_not name) [
      | inl has ↦ inl (record {
        path = has.0.above;
        c = has.2.0;
        at = has.2.1;
        p = port_of has.0.cell (parts name).last;
        known = has.2.2;
        named = sym (full_name-append has.0.above has.0.cell (parts name).last) ∙ ap (λ (way : Path). full_name way (parts name).last) (sym (end_is (parts name).path has.0 has.1)) ∙ joined name;
      })
      | inr none' ↦ inr (λ port. elim (found name port.path port.c port.p.cell port.p.pin port.at port.known port.named) [ inl has ↦ none has | inr has ↦ none' has ])
    ]
  ]
