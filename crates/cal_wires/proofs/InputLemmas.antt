-- The keys of a component's inputs, which are the first of its graph.
use Rattle.std.proofs.Common.{◌≡◌, ◌≢◌, ℕ, ◌+◌, List, [], ◌∷◌, ◌++◌, Some, Contains, map, take, slice_get, sym, ap, ◌∙◌}
use Rattle.std.proofs.lemmas.List.{take_more}
use Rattle.std.proofs.lemmas.Option.{get_or_from_slice_get, slice_get_within}
use Rattle.hw_names.specs.Name.{Text, AreDistinct}
use Rattle.hw_prims.specs.Table.{Pin, pin_names}
use Rattle.cal_ast.proofs.ListLemmas.{AllPairs-at, place_of}
use Rattle.cal_ast.specs.Tree.{PortName, own}
use Rattle.cal_wires.specs.Nodes.{input_key}
use Rattle.cal_place.proofs.FoundLemmas.{from_map, to_map}
use Rattle.cal_wires.proofs.GainLemmas.{get_take}
use Rattle.cal_wires.proofs.FullNameLemmas.{same_port}
use Rattle.cal_wires.proofs.DependLemmas.{input_named}

-- the key of an input is new
pub input_absent : (ins outs : List Pin) → AreDistinct (pin_names (ins ++ outs)) → (i : ℕ) (p : Pin) → slice_get ins i ≡ Some p → Contains (take i (map input_key ins)) (input_key p) → ⊥
input_absent ins outs distinct i p at has =
    let j = place_of (take i (map input_key ins)) (input_key p) has in
    let there = get_take i (map input_key ins) j.0 (input_key p) j.1 in
    let q = from_map input_key ins j.0 (input_key p) there.1 in
    let same : q.0.name ≡ p.name = ap (λ (x : PortName). x.pin) (same_port (own q.0.name) (own p.name) q.2) in
    AllPairs-at (λ (a b : Text). a ≢ b) (pin_names (ins ++ outs)) distinct j.0 i q.0.name p.name there.0 (input_named ins outs j.0 q.0 q.1) (input_named ins outs i p at) same

-- the key of one input more
pub input_next : (ins : List Pin) (i : ℕ) (p : Pin) → slice_get ins i ≡ Some p → take i (map input_key ins) ++ input_key p ∷ [] ≡ take (i + 1) (map input_key ins)
input_next ins i p at =
    let there = to_map input_key ins i p at in
    let keys = map input_key ins in
    ap (λ (x : Text). take i keys ++ x ∷ []) (sym (get_or_from_slice_get keys i (input_key p) (input_key p) there)) ∙ sym (take_more keys i (input_key p) (slice_get_within keys i (input_key p) there))
