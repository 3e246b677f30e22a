-- The outputs of a signature, by name.
use Rattle.std.proofs.Common.{◌≡◌, ℕ, ◌+◌, ◌<◌, List, [], ◌∷◌, ◌++◌, length, map, take, drop, get_or, slice_get, Contains, Some, None, option_map, refl, sym, ap, ap₂, subst, ◌∙◌, arith}
use Rattle.std.proofs.lemmas.List.{length-map}
use Rattle.std.proofs.lemmas.Option.{slice_get-map, slice_get_read, slice_get_within}
use Rattle.std.proofs.lemmas.Simd.{map-map}
use Rattle.hw_names.specs.Name.{Text, AreDistinct}
use Rattle.fil_ast.specs.Scope.{sig_port_named}
use Rattle.fil_ast.specs.Signature as tree
use Rattle.fil_sig.specs.Seen.{seen, seen_port}
use Rattle.fil_sig.specs.declared.time_sig.SigPort.{SigPort}
use Rattle.fil_sig.specs.declared.time_sig.TimeSig.{TimeSig}
use Rattle.fil_sig.proofs.ListLemmas.{comes_twice, map_at, map_more}
use Rattle.fil_place.specs.Outputs.{output_names}
use Rattle.fil_place.proofs.FindLemmas.{find_at_place, find_nowhere}

-- a port's name, before and after it is seen
abbrev pub port_name : SigPort → Text
port_name p = p.name

abbrev seen_name : tree.SigPort → Text
seen_name p = p.name

-- the names of the outputs are those of the ports
pub port_names_seen : (sig : TimeSig) → map port_name sig.outs.items ≡ output_names (seen sig)
port_names_seen sig = sym (map-map seen_name seen_port sig.outs.items)

-- a name that stands among those before a port is not the port's
pub output_is_new : (sig : TimeSig) (ports : List SigPort) → ports ≡ sig.outs.items → AreDistinct (output_names (seen sig)) → (i : ℕ) (port : SigPort) → i < length ports → port ≡ get_or ports i port → Contains (map port_name (take i ports)) port.name → ⊥
output_is_new sig ports same distinct i port within is there =
    let D : List Text → Type 0 = AreDistinct in
    let all : AreDistinct (map port_name ports) = subst D (sym (ap (map port_name) same ∙ port_names_seen sig)) distinct in
    let cut = map_at port_name ports i port within ∙ ap (λ (p : SigPort). map port_name (take i ports) ++ port_name p ∷ map port_name (drop (i + 1) ports)) (sym is) in
    comes_twice (map port_name (take i ports)) (map port_name (drop (i + 1) ports)) port.name there (subst D cut all)

-- the names so far, with the next
pub output_put : (ports : List SigPort) (i : ℕ) (port : SigPort) (old new : List Text) → i < length ports → port ≡ get_or ports i port → old ≡ map port_name (take i ports) → new ≡ old ++ port.name ∷ [] → new ≡ map port_name (take (i + 1) ports)
output_put ports i port old new within is so_far put =
    put ∙ ap₂ (λ (ts : List Text) (p : SigPort). ts ++ port_name p ∷ []) so_far is ∙ sym (map_more port_name ports i port within)

-- a name with a place among the names of a signature's outputs
module _ (sig : TimeSig) (outs : List Text) (name : Text) (are : outs ≡ output_names (seen sig)) where
  pub output_within : (i : ℕ) → slice_get outs i ≡ Some name → i < length sig.outs.items
  output_within i at =
      let below = slice_get_within outs i name at in
      omega (arith, below, ap length are, length-map (map seen_port sig.outs.items) seen_name, length-map sig.outs.items seen_port)

  pub output_found : AreDistinct outs → (i : ℕ) → slice_get outs i ≡ Some name → (port : SigPort) → port ≡ get_or sig.outs.items i port → Some (seen_port port) ≡ sig_port_named (seen sig).outs name
  output_found distinct i at port is =
      let ports = sig.outs.items in
      let here : slice_get ports i ≡ Some port = slice_get_read ports (length ports) i port refl (output_within i at) is in
      sym (find_at_place seen_name (map seen_port ports) outs name i are distinct at ∙ slice_get-map seen_port ports i ∙ ap (option_map seen_port) here)

  pub output_absent : (Contains outs name → ⊥) → None ≡ sig_port_named (seen sig).outs name
  output_absent absent = sym (find_nowhere seen_name (map seen_port sig.outs.items) outs name are absent)
