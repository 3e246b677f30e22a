-- That plans show the components of a design. This project's.
use Rattle.std.specs.Prelude.{◌≡◌, ℕ, List, [], map, reverse, length, slice_get}
use Rattle.std.specs.Option.{option_map_or}
use Rattle.fil_ast.specs.Flow.{Named, flow, flow_of, component_flow}
use Rattle.fil_ast.specs.Tree.{DataPort, Component, Design}
use Rattle.fil_flow.specs.Plans.{Shape, Fit, IsFlow, PlansFit, values_by}
use Rattle.fil_flow.specs.declared.plan.Plan.{Plan}

-- the widths of ports, in their order
abbrev pub port_widths : List DataPort → List ℕ
port_widths ports = map (λ (p : DataPort). p.width) ports

-- the widths of a component's inputs and outputs
abbrev pub component_shape : Component → Shape
component_shape c = record { ins = port_widths c.ins; outs = port_widths c.outs }

-- the flow of the component with this number; nothing past the last
abbrev pub flow_at : Design → ℕ → List ℕ → List ℕ
flow_at comps number args = option_map_or (λ (c : Component). flow comps c args) (slice_get comps number) []

-- the plan of a component that stands after these: it fits their widths and its own, and has its flow
pub record ShowsPlan (before : Design) (c : Component) (plan : Plan) : Type 0 where
  pub fit : Fit (map component_shape before) (port_widths c.ins) plan.calls.items plan.outs.items (port_widths c.outs)
  pub flow : (args : List ℕ) → length args ≡ length c.ins
      → values_by (flow_at before) plan.calls.items plan.outs.items args ≡ map (λ (p : Named). p.value) (component_flow (flow_of (reverse before)) c args)

-- there is a plan for each component, with its widths and its flow
pub record ShowPlans (comps : Design) (plans : List Plan) : Type 0 where
  pub each : length plans ≡ length comps
  pub fit : PlansFit plans (map component_shape comps)
  pub flow : IsFlow plans (map component_shape comps) (flow_at comps)
