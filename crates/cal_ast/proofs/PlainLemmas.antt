-- Ports that lines of a component name have plain names, where pins and cells have.
use Rattle.std.proofs.Common.{◌≡◌, Bool, true, false, not, ◌&&◌, ◌==◌, List, [], ◌∷◌, ◌++◌, Option, Some, None, refl, inl, inr}
use Rattle.std.specs.Prelude.{All, Contains, IfSome, codes, if◌then◌else◌}
use Rattle.std.specs.List.{list_all}
use Rattle.std.proofs.lemmas.Bool.{and_parts}
use Rattle.std.proofs.lemmas.List.Elements.{All-nil, All-cons, All-push, All-map, All-contains}
use Rattle.hw_names.proofs.NameLemmas.{HasNoDot-from_test}
use Rattle.hw_names.specs.Name.{Text, dot, IsPlain}
use Rattle.hw_prims.specs.Table.{Pin, pin, pin_names, inputs_of, outputs_of}
use Rattle.hw_prims.specs.declared.prim.Primitive.{Primitive}
use Rattle.hw_prims.specs.declared.prim.Primitive.TheVariants.{StdConst}
use Rattle.cal_ast.proofs.InstanceLemmas.{plain_cell}
use Rattle.cal_ast.proofs.LookupLemmas.{cell_input_cases, cell_output_cases, primitive_in-Some, part_in-Some, part_in-design}
use Rattle.cal_ast.proofs.SideLemmas.{readable_in, writable_in, known_pin}
use Rattle.cal_ast.specs.Laws.{KnownPortsArePlain}
use Rattle.cal_ast.specs.Plain.{IsPlainPin, IsPlainComponent, HasPlainTree}
use Rattle.cal_ast.specs.Ports.{is_bare, has_pin, with_pin, inputs_in, outputs_in}
use Rattle.cal_ast.specs.Tree.{Component, Design}

-- whether a text is plain, and whether all are, as tests that compute
abbrev plain_text : Text → Bool
plain_text [] = false
plain_text (c ∷ cs) = list_all (λ byte. not (byte == dot)) (c ∷ cs)

abbrev plain_texts : List Text → Bool
plain_texts [] = true
plain_texts (x ∷ xs) = plain_text x && plain_texts xs

IsPlain-from_test : (text : Text) → plain_text text ≡ true → IsPlain text
IsPlain-from_test [] e = absurd (cc)
IsPlain-from_test (c ∷ cs) e = (λ empty. cc, HasNoDot-from_test (c ∷ cs) e)

All-from_test : (texts : List Text) → plain_texts texts ≡ true → All IsPlain texts
All-from_test [] e = All-nil IsPlain
All-from_test (x ∷ xs) e =
    let parts = and_parts (plain_text x) (plain_texts xs) e in
    All-cons IsPlain x xs (IsPlain-from_test x parts.0) (All-from_test xs parts.1)

inputs_tested : (prim : Primitive) → plain_texts (pin_names (inputs_of prim)) ≡ true
unfolding inputs_of
inputs_tested (StdConst w v) = refl
inputs_tested prim = refl

-- the inputs of primitives have plain names
pub plain_primitive : (prim : Primitive) → All IsPlain (pin_names (inputs_of prim))
plain_primitive prim = All-from_test (pin_names (inputs_of prim)) (inputs_tested prim)

outputs_tested : (prim : Primitive) → plain_texts (pin_names (outputs_of prim)) ≡ true
unfolding outputs_of
outputs_tested (StdConst w v) = refl
outputs_tested prim = refl

pub plain_primitive_outputs : (prim : Primitive) → All IsPlain (pin_names (outputs_of prim))
plain_primitive_outputs prim = All-from_test (pin_names (outputs_of prim)) (outputs_tested prim)

plain_with_pin : (name : Text) (pins : List Pin) → IsPlain name → All IsPlainPin pins → All IsPlainPin (with_pin name pins)
plain_with_pin name pins plain all = by (has_pin pins name)
  where
    by : (b : Bool) → All IsPlainPin (if b then pins else pins ++ pin name 1 ∷ [])
    by true = all
    by false = All-push IsPlainPin pins (pin name 1) all plain

if_control : (b : Bool) (written implied : List Pin) → All IsPlainPin written → All IsPlainPin implied → All IsPlainPin (if b then written else implied)
if_control true written implied p q = p
if_control false written implied p q = q

plain_names : (pins : List Pin) → All IsPlainPin pins → All IsPlain (pin_names pins)
plain_names pins all = All-map IsPlain (λ (p : Pin). p.name) pins all

pub plain_inputs : (c : Component) → IsPlainComponent c → All IsPlain (pin_names (inputs_in c))
plain_inputs c plain =
    plain_names (inputs_in c) (if_control (is_bare c) c.ins (with_pin (codes "go") c.ins) plain.ins (plain_with_pin (codes "go") c.ins (IsPlain-from_test (codes "go") refl) plain.ins))

pub plain_outputs : (c : Component) → IsPlainComponent c → All IsPlain (pin_names (outputs_in c))
plain_outputs c plain =
    plain_names (outputs_in c) (if_control (is_bare c) c.outs (with_pin (codes "done") c.outs) plain.outs (plain_with_pin (codes "done") c.outs (IsPlain-from_test (codes "done") refl) plain.outs))

-- a port that assignments of a component may drive has plain names
pub plain_writable : (design : Design) (c : Component) → HasPlainTree design → Contains design c → (cell : Option Text) (pin : Text) → Contains (pin_names (writable_in design c cell)) pin → IfSome cell IsPlain × IsPlain pin
plain_writable design c plain in_design None pin has =
    (tt, All-contains IsPlain (pin_names (outputs_in c)) pin (plain_outputs c (All-contains IsPlainComponent design c plain in_design)) has)
plain_writable design c plain in_design (Some cell) pin has =
    let here = All-contains IsPlainComponent design c plain in_design in
    elim (cell_input_cases design c cell pin has) [
      | inl (prim, is, there) ↦
          let found = primitive_in-Some c cell prim is in
          (plain_cell c cell found.0 here found.1, All-contains IsPlain (pin_names (inputs_of prim)) pin (plain_primitive prim) there)
      | inr (part, is, there) ↦
          let found = part_in-Some design c cell part is in
          (plain_cell c cell found.0 here found.1, All-contains IsPlain (pin_names (inputs_in part)) pin (plain_inputs part (All-contains IsPlainComponent design part plain (part_in-design design c cell part is))) there)
    ]

-- so has one that they read
pub plain_readable : (design : Design) (c : Component) → HasPlainTree design → Contains design c → (cell : Option Text) (pin : Text) → Contains (pin_names (readable_in design c cell)) pin → IfSome cell IsPlain × IsPlain pin
plain_readable design c plain in_design None pin has =
    (tt, All-contains IsPlain (pin_names (inputs_in c)) pin (plain_inputs c (All-contains IsPlainComponent design c plain in_design)) has)
plain_readable design c plain in_design (Some cell) pin has =
    let here = All-contains IsPlainComponent design c plain in_design in
    elim (cell_output_cases design c cell pin has) [
      | inl (prim, is, there) ↦
          let found = primitive_in-Some c cell prim is in
          (plain_cell c cell found.0 here found.1, All-contains IsPlain (pin_names (outputs_of prim)) pin (plain_primitive_outputs prim) there)
      | inr (part, is, there) ↦
          let found = part_in-Some design c cell part is in
          (plain_cell c cell found.0 here found.1, All-contains IsPlain (pin_names (outputs_in part)) pin (plain_outputs part (All-contains IsPlainComponent design part plain (part_in-design design c cell part is))) there)
    ]

-- so has each port that a line names
pub known_ports_are_plain : KnownPortsArePlain
known_ports_are_plain design c p plain in_design known = elim (known_pin design c p.cell p.pin known) [
  | inl read ↦ plain_readable design c plain in_design p.cell p.pin read
  | inr written ↦ plain_writable design c plain in_design p.cell p.pin written
]
