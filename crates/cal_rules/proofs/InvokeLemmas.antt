-- C11: when a cell can be invoked.
use Rattle.std.proofs.Common.{◌≡◌, ◌↔◌, Bool, false, List, All, Option, Some, None, map, codes, sym, subst, ◌∙◌}
use Rattle.std.specs.Bool.{IsTrue}
use Rattle.hw_names.specs.Name.{Text, AreDistinct}
use Rattle.cal_ast.specs.Controlling.{BindsInput, BindsOutput, CanInvoke}
use Rattle.cal_ast.specs.Invoking.{go_of}
use Rattle.cal_ast.specs.Ports.{Input, Output, side_in, width_in}
use Rattle.cal_ast.specs.Tree.{Component, Design, InBinding, OutBinding, port_of}
use Rattle.cal_place.proofs.ListLemmas.{told_false}

module _ (design : Design) (c : Component) (cell : Text) (ins : List InBinding) (outs : List OutBinding) where
  abbrev Can : Type 0
  Can = CanInvoke design c cell ins outs

  -- no port starts the cell
  pub none_starts : go_of design c cell ≡ None → IsTrue false ↔ Can
  none_starts none = told_false Can (λ can. let bad : ◌≡◌ {A = Option Text} None (Some can.go) = sym none ∙ can.starts in cc)

  module _ (go : Text) (starts : go_of design c cell ≡ Some go) where
    abbrev HasGo : Text → Type 0
    HasGo name = (side_in design c (port_of cell name) ≡ Some Input) × (width_in design c (port_of cell name) ≡ Some 1)

    abbrev HasDone : Type 0
    HasDone = (side_in design c (port_of cell (codes "done")) ≡ Some Output) × (width_in design c (port_of cell (codes "done")) ≡ Some 1)

    same_go : (can : Can) → can.go ≡ go
    same_go can = let e : Some can.go ≡ Some go = sym can.starts ∙ starts in cc

    pub go_fails : (HasGo go → ⊥) → IsTrue false ↔ Can
    go_fails fails = told_false Can (λ can. fails (subst HasGo (same_go can) (can.go_side, can.go_bit)))

    pub done_fails : (HasDone → ⊥) → IsTrue false ↔ Can
    done_fails fails = told_false Can (λ can. fails (can.done_side, can.done_bit))

    pub inputs_fail : (All (BindsInput design c cell go) ins → ⊥) → IsTrue false ↔ Can
    inputs_fail fails = told_false Can (λ can. fails (subst (λ (name : Text). All (BindsInput design c cell name) ins) (same_go can) can.inputs))

    pub outputs_fail : (All (BindsOutput design c cell) outs → ⊥) → IsTrue false ↔ Can
    outputs_fail fails = told_false Can (λ can. fails can.outputs)

    -- what is left is that no input is bound twice
    pub by_once : HasGo go → HasDone → All (BindsInput design c cell go) ins → All (BindsOutput design c cell) outs → (once : Bool) → IsTrue once ↔ AreDistinct (map (λ (b : InBinding). b.pin) ins) → IsTrue once ↔ Can
    by_once has_go has_done inputs outputs once told = (
      λ t. record {
        go = go;
        starts = starts;
        go_side = has_go.0;
        go_bit = has_go.1;
        done_side = has_done.0;
        done_bit = has_done.1;
        inputs = inputs;
        outputs = outputs;
        once = told.0 t;
      },
      λ can. told.1 can.once,
    )
