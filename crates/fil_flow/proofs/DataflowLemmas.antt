-- A component made ready: its plans give the flow of the design.
use Rattle.std.proofs.Common.{◌≡◌, ℕ, ◌+◌, take, slice_get, Some, option_map, ap, ◌∙◌, arith}
use Rattle.std.proofs.lemmas.Option.{slice_get-map, slice_get_within}
use Rattle.fil_ast.specs.Rules.{KeepsRules, all_rules}
use Rattle.fil_ast.specs.Tree.{Component, Design}
use Rattle.fil_flow.specs.Dataflow.{IsDataflowOf, shapes_to}
use Rattle.fil_flow.specs.Shown.{ShowPlans, component_shape, flow_at}
use Rattle.fil_flow.specs.declared.dataflow.Dataflow.{Dataflow}
use Rattle.fil_flow.proofs.PlaceLemmas.{get-taken}
use Rattle.fil_flow.proofs.ShownLemmas.{agree_first, same_flow}

-- the plans of the components up to one
pub is_dataflow : (comps : Design) (c : Component) (d : Dataflow) → KeepsRules all_rules comps → slice_get comps d.comp ≡ Some c
    → ShowPlans (take (d.comp + 1) comps) d.plans.items → IsDataflowOf comps c d
is_dataflow comps c d keeps at shown =
    let within = slice_get_within comps d.comp c at in
    record {
      at = at;
      fit = shown.fit;
      flow = same_flow d.plans.items (shapes_to comps d.comp) (flow_at (take (d.comp + 1) comps)) (flow_at comps) (agree_first comps keeps (d.comp + 1) (omega arith)) shown.fit shown.flow;
    }

-- the shape of the last of the components up to one
pub last_shape : (comps : Design) (c : Component) (n : ℕ) → slice_get comps n ≡ Some c → slice_get (shapes_to comps n) n ≡ Some (component_shape c)
last_shape comps c n at = slice_get-map component_shape (take (n + 1) comps) n ∙ ap (option_map component_shape) (get-taken (n + 1) comps n (omega arith) ∙ at)
