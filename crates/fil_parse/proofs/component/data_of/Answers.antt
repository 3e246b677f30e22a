use Rattle.std.proofs.Common.{sym, ◌∙◌}
use Rattle.std.proofs.lemmas.List.{append-nil, map_push}
use Rattle.fil_ast.specs.Tree.{port_tree}
use Rattle.fil_parse.specs.declared.input.InputPort.TheVariants as inputs
use Rattle.fil_parse.proofs.InputLists.{data_next}
use Rattle.fil_parse.proofs.component.data_of.Goals as goal
use Rattle.fil_parse.proofs.component.data_of.Goals.{in-Data+in_ok-push, in_default}

pub loop-input-preserved : goal.loop-input-preserved
loop-input-preserved g c =
    elim c.match-input.branch [
      | in-Data+in_ok-push w ↦
          rw (w.ports-is, w.in_ok-push.ensures.items)
          (map_push (port_tree g.names) c.loop-input.ports.items w.in-Data.port ∙ sym (data_next g.names _ _ _ (inputs.Data w.in-Data.port) c.loop-input.ports.items c.loop-input-test.true w.in-Data.is c.loop-input.invariant))
      | in_default w ↦
          rw w.ports-is (sym (append-nil _) ∙ sym (data_next g.names _ _ _ (inputs.Interface w.in_default.field-0) c.loop-input.ports.items c.loop-input-test.true w.in_default.is c.loop-input.invariant))
    ]
