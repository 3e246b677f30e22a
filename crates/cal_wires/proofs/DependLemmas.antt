-- Names of ports by their numbers, and what a cell of a primitive says.
use Rattle.std.proofs.Common.{◌≡◌, ℕ, zero, suc, ◌+◌, ◌<◌, ◌≤◌, List, [], ◌∷◌, ◌++◌, Some, None, Contains, length, slice_get, refl, sym, ap, subst, ◌∙◌, arith}
use Rattle.std.specs.Prelude.{option_and_then}
use Rattle.std.proofs.lemmas.List.{length-append, length-map}
use Rattle.std.proofs.lemmas.Option.{none-some, same_Some, slice_get_within}
use Rattle.hw_names.specs.Name.{Text, AreDistinct}
use Rattle.hw_prims.specs.Table.{Pin, pin_names}
use Rattle.hw_prims.specs.declared.prim.Primitive.{Primitive}
use Rattle.cal_ast.proofs.ItemLemmas.{new_ports}
use Rattle.cal_ast.proofs.ListLemmas.{Contains-at, place_of}
use Rattle.cal_ast.proofs.LookupLemmas.{cell_named-itself}
use Rattle.cal_ast.specs.Naming.{Unreserved}
use Rattle.cal_ast.specs.Ports.{cell_named, inputs_in, outputs_in, primitive_in, primitive_of, Input, Output, Side, SidedPin, on_side}
use Rattle.cal_ast.specs.Rules.{KeepsRules}
use Rattle.cal_ast.specs.Tree.{CellDef, Component, Design}
use Rattle.cal_place.specs.FirstPlaces.{ShowsFirsts}
use Rattle.cal_place.specs.Prototypes.{IsMadeOf}
use Rattle.cal_wires.specs.Nodes.{Node}
use Rattle.cal_wires.specs.Readings.{ReadsInPrimitive, ReadsPrimitive}
use Rattle.cal_place.specs.Signatures.{ShowsSignature, found}
use Rattle.cal_wires.specs.WireGraphs.{Grows}
use Rattle.cal_place.specs.declared.prototype.Prototype.TheVariants as made
use Rattle.cal_place.specs.declared.signature.Signature.{Signature}
use Rattle.cal_wires.specs.declared.graph.WireGraph.{WireGraph}
use Rattle.cal_place.proofs.FoundLemmas.{from_map, to_map}
use Rattle.cal_wires.proofs.GainLemmas.{get_right, get_left, grows_none, grows_same}
use Rattle.cal_place.proofs.SidedNameLemmas.{names_both}

-- ---- names of ports by their numbers

-- an element has a place
pub got_at : {X : Type 0} (xs : List X) (j : ℕ) → j < length xs → (x : X) × (slice_get xs j ≡ Some x)
got_at [] j lt = absurd (omega (arith, lt))
got_at (x ∷ xs) zero lt = (x, refl)
got_at (x ∷ xs) (suc j) lt = got_at xs j (omega (arith, lt))

pub input_named : (ins outs : List Pin) (i : ℕ) (p : Pin) → slice_get ins i ≡ Some p → slice_get (pin_names (ins ++ outs)) i ≡ Some p.name
input_named ins outs i p at = to_map (λ (q : Pin). q.name) (ins ++ outs) i p (get_left ins outs i p at)

pub output_named : (ins outs : List Pin) (o : ℕ) (p : Pin) → slice_get outs o ≡ Some p → slice_get (pin_names (ins ++ outs)) (length ins + o) ≡ Some p.name
output_named ins outs o p at = to_map (λ (q : Pin). q.name) (ins ++ outs) (length ins + o) p (get_right ins outs o ∙ at)

-- the place of a name among inputs or outputs
pub input_place : (ins outs : List Pin) (name : Text) → Contains (pin_names ins) name → (j : ℕ) × (j < length ins) × (slice_get (pin_names (ins ++ outs)) j ≡ Some name)
input_place ins outs name has =
    let i = place_of (pin_names ins) name has in
    let pin = from_map (λ (q : Pin). q.name) ins i.0 name i.1 in
    (i.0, slice_get_within ins i.0 pin.0 pin.1, input_named ins outs i.0 pin.0 pin.1 ∙ ap Some pin.2)

pub output_place : (ins outs : List Pin) (name : Text) → Contains (pin_names outs) name → (j : ℕ) × (length ins ≤ j) × (slice_get (pin_names (ins ++ outs)) j ≡ Some name)
output_place ins outs name has =
    let i = place_of (pin_names outs) name has in
    let pin = from_map (λ (q : Pin). q.name) outs i.0 name i.1 in
    (length ins + i.0, omega arith, output_named ins outs i.0 pin.0 pin.1 ∙ ap Some pin.2)

pub ports_counted : (ins outs : List Pin) → length (pin_names (ins ++ outs)) ≡ length ins + length outs
ports_counted ins outs = length-map (ins ++ outs) (λ (q : Pin). q.name) ∙ length-append ins outs

-- the names that a signature lists, in a component that keeps C1
pub ports_listed : (design : Design) → KeepsRules design → (n : ℕ) (c : Component) → slice_get design n ≡ Some c → (s : Signature) → ShowsSignature s c → (ports : List Text)
    → ((list : List Text) → ShowsFirsts s.names list → AreDistinct list → ports ≡ list) → ports ≡ pin_names (inputs_in c ++ outputs_in c)
ports_listed design keeps n c at s shows ports listed =
    let names = names_both (inputs_in c) (outputs_in c) in
    let firsts = subst (λ (l : List Text). ShowsFirsts s.names l) names shows.ports.names in
    listed (pin_names (inputs_in c ++ outputs_in c)) firsts (new_ports Unreserved design keeps n c at)

-- a signature has a pin for each port
pub pins_counted : (s : Signature) (c : Component) → ShowsSignature s c → length s.pins.items ≡ length (inputs_in c) + length (outputs_in c)
pins_counted s c shows =
    let ins = on_side Input (inputs_in c) in
    let outs = on_side Output (outputs_in c) in
    let side : Side → Pin → SidedPin = λ side p. record { side = side; pin = p } in
    omega (arith, ap length shows.ports.pins, length-map (ins ++ outs) found, length-append ins outs, length-map (inputs_in c) (side Input), length-map (outputs_in c) (side Output))

-- ---- what a cell says, by what it is made of

module _ (design : Design) (keeps : KeepsRules design) (number : ℕ) (c : Component) (at : slice_get design number ≡ Some c) (cell : CellDef) (has : Contains c.cells cell) where
  named_itself : cell_named c.cells cell.name ≡ Some cell
  named_itself = cell_named-itself Unreserved design keeps c (Contains-at design number c at) cell has

  primitive_is : primitive_in c cell.name ≡ primitive_of cell
  primitive_is = ap (option_and_then primitive_of) named_itself

  -- what it says if it is of a primitive
  pub primitive_alone : (prim : Primitive) (a b : WireGraph) → IsMadeOf design cell (Some (made.Primitive prim)) → Grows (ReadsInPrimitive cell.name prim) a b → Grows (ReadsPrimitive c cell.name) a b
  primitive_alone prim a b is grows = grows_same (ReadsInPrimitive cell.name prim) (ReadsPrimitive c cell.name) a b (λ n o. (to n o, from n o)) grows
    where
      to : (n o : Node) → ReadsInPrimitive cell.name prim n o → ReadsPrimitive c cell.name n o
      to n o r = (prim, primitive_is ∙ is.primitive, r)

      from : (n o : Node) → ReadsPrimitive c cell.name n o → ReadsInPrimitive cell.name prim n o
      from n o (other, made, r) = subst (λ (p : Primitive). ReadsInPrimitive cell.name p n o) (same_Some other prim (sym made ∙ primitive_is ∙ is.primitive)) r

  -- and nothing else
  pub no_primitive : (g : WireGraph) → primitive_of cell ≡ None → Grows (ReadsPrimitive c cell.name) g g
  no_primitive g none = grows_none (ReadsPrimitive c cell.name) g nothing
    where
      nothing : (n o : Node) → ReadsPrimitive c cell.name n o → ⊥
      nothing n o (prim, made, r) = none-some prim (sym none ∙ sym primitive_is ∙ made)
