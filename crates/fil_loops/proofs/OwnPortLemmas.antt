-- The ports of a component that keeps the rules have different names.
use Rattle.std.proofs.Common.{◌≢◌, List, map, subst, append_assoc}
use Rattle.hw_names.specs.Name.{Text, AreDistinct}
use Rattle.fil_ast.specs.Rules.{KeepsComponent, all_rules}
use Rattle.fil_ast.specs.Tree.{Interface, DataPort, Component, Design}
use Rattle.fil_loops.specs.OwnPorts.{input_names, own_port_names}
use Rattle.fil_place.proofs.ComponentLemmas.{new_names}
use Rattle.fil_place.proofs.GeneralLemmas.{pairs_back, pairs_front}

-- its ports have different names
pub ports_differ : (comps : Design) (c : Component) → KeepsComponent all_rules comps c → AreDistinct (own_port_names c)
ports_differ comps c keeps =
    let D : List Text → Type 0 = AreDistinct in
    let before = map (λ (g : Interface). g.name) c.interfaces in
    let outs = map (λ (p : DataPort). p.name) c.outs in
    pairs_back (λ (a b : Text). a ≢ b) before (own_port_names c) (subst D (append_assoc before (input_names c) outs) (new_names comps c keeps).ports)

pub inputs_differ : (comps : Design) (c : Component) → KeepsComponent all_rules comps c → AreDistinct (input_names c)
inputs_differ comps c keeps = pairs_front (λ (a b : Text). a ≢ b) (input_names c) (map (λ (p : DataPort). p.name) c.outs) (ports_differ comps c keeps)
