-- What a component that is ready to run keeps. This project's.
use Rattle.std.specs.Prelude.{◌≡◌, ℕ, ◌+◌, List, map, take, slice_get, Some}
use Rattle.fil_ast.specs.Tree.{Component, Design}
use Rattle.fil_flow.specs.Plans.{Shape, IsFlow, PlansFit}
use Rattle.fil_flow.specs.Shown.{component_shape, flow_at}
use Rattle.fil_flow.specs.declared.dataflow.Dataflow.{Dataflow}

-- the shapes of the components up to the one with this number
abbrev pub shapes_to : Design → ℕ → List Shape
shapes_to comps comp = map component_shape (take (comp + 1) comps)

-- the dataflow is of component c of the design: it has the plans of the components up to that one, and they give the design's flow
pub record IsDataflowOf (comps : Design) (c : Component) (d : Dataflow) : Type 0 where
  pub at : slice_get comps d.comp ≡ Some c
  pub fit : PlansFit d.plans.items (shapes_to comps d.comp)
  pub flow : IsFlow d.plans.items (shapes_to comps d.comp) (flow_at comps)
