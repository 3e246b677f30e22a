-- The names of a primitive's ports by their places, and an output that reads an input.
use Rattle.std.proofs.Common.{◌≡◌, ◌+◌, ◌<◌, true, false, ℕ, List, [], ◌++◌, Some, length, get_or, slice_get, sym, ap, ◌∙◌, arith}
use Rattle.std.proofs.lemmas.List.{get_or-append-add, get_or_append_left, length-map, map-append}
use Rattle.std.proofs.lemmas.Option.{slice_get-get_or}
use Rattle.hw_names.specs.Name.{Text}
use Rattle.hw_prims.specs.Meaning.{is_through}
use Rattle.hw_prims.specs.Table.{Pin, inputs_of, name_at, outputs_of, pin_names, pins_of}
use Rattle.hw_prims.specs.declared.prim.Primitive.{Primitive}
use Rattle.cal_ast.specs.Tree.{port_of}
use Rattle.cal_wires.specs.Nodes.{Node, APort}
use Rattle.cal_wires.specs.Readings.{ReadsThrough}
use Rattle.cal_wires.specs.WireGraphs.{Grows, IsPair}
use Rattle.cal_wires.specs.declared.graph.WireGraph.{WireGraph}
use Rattle.cal_wires.proofs.GainLemmas.{grows_none, grows_same}

-- the names of both sides
both_names : (ins outs : List Pin) → pin_names (ins ++ outs) ≡ pin_names ins ++ pin_names outs
both_names ins outs = map-append (λ (p : Pin). p.name) ins outs

pub input_name : (prim : Primitive) (i : ℕ) → i < length (inputs_of prim) → name_at (pins_of prim) i ≡ name_at (inputs_of prim) i
input_name prim i lt =
    ap (λ (l : List Text). get_or l i []) (both_names (inputs_of prim) (outputs_of prim))
    ∙ get_or_append_left (pin_names (inputs_of prim)) (pin_names (outputs_of prim)) [] i (omega (arith, lt, length-map (inputs_of prim) (λ (p : Pin). p.name)))

pub output_name : (prim : Primitive) (o : ℕ) → o < length (outputs_of prim) → name_at (pins_of prim) (length (inputs_of prim) + o) ≡ name_at (outputs_of prim) o
output_name prim o lt =
    ap (λ (l : List Text). get_or l (length (inputs_of prim) + o) []) (both_names (inputs_of prim) (outputs_of prim))
    ∙ ap (λ (k : ℕ). get_or (pin_names (inputs_of prim) ++ pin_names (outputs_of prim)) (k + o) []) (sym (length-map (inputs_of prim) (λ (p : Pin). p.name)))
    ∙ get_or-append-add (pin_names (inputs_of prim)) (pin_names (outputs_of prim)) o []

-- the name at a place stands there
pub name_there : (pins : List Pin) (i : ℕ) → i < length pins → slice_get (pin_names pins) i ≡ Some (name_at pins i)
name_there pins i lt = slice_get-get_or (pin_names pins) i [] (omega (arith, lt, length-map pins (λ (p : Pin). p.name)))

module _ (cell : Text) (prim : Primitive) (output input : Text) where
  pub through_added : (a b : WireGraph) → is_through prim input output ≡ true → Grows (IsPair (APort (port_of cell output)) (APort (port_of cell input))) a b → Grows (ReadsThrough cell prim output input) a b
  through_added a b through grows = grows_same (IsPair (APort (port_of cell output)) (APort (port_of cell input))) (ReadsThrough cell prim output input) a b (λ n o. (λ p. (through, p), λ r. r.1)) grows

  pub through_none : (g : WireGraph) → is_through prim input output ≡ false → Grows (ReadsThrough cell prim output input) g g
  through_none g apart = grows_none (ReadsThrough cell prim output input) g nothing
    where
      nothing : (n o : Node) → ReadsThrough cell prim output input n o → ⊥
      nothing n o r = let bad : false ≡ true = sym apart ∙ r.0 in absurd (cc)
