use Rattle.std.proofs.Common.{List, ◌++◌, ap, ◌∙◌}
use Rattle.cal_ast.specs.declared.tree.CalCell.{CalCell}
use Rattle.cal_state.proofs.WholeLemmas.{cells_encoded}
use Rattle.cal_state.proofs.component.encoded_cells.Goals as goal

pub returns : goal.returns
returns c = λ names first added more count is shows others.
    cells_encoded names c.args.wire is first added more c.args.own c.args.cells.items c.args.registers.items c.take_off.new.cells.items c.in_ok-added.added.items c.in_ok-wires.wires.items
    c.append-2.new.self.items count shows others c.in_ok-added.ensures.own c.in_ok-added.ensures.rest c.in_ok-wires.ensures
    (c.in_ok-append-2.ensures.items ∙ ap (λ (l : List CalCell). l ++ c.args.registers.items) c.in_ok-append.ensures.items)
