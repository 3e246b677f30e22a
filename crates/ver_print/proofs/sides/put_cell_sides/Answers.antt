use Rattle.std.proofs.Common.{◌≡◌, length, sym, ap, ◌∙◌}
use Rattle.hw_names.proofs.NameLemmas.{text_of-slice_get}
use Rattle.hw_names.specs.Name.{Text, text_of}
use Rattle.hw_prims.specs.Table.{input_names, output_names}
use Rattle.ver_print.proofs.SideLemmas.{cell_sides_put, names_counted}
use Rattle.ver_print.proofs.sides.put_cell_sides.Goals as goal

pub returns : goal.returns
returns c =
    let name = text_of c.args.names.now c.args.cell.now.prim in
    let named = text_of-slice_get c.args.names.now c.args.cell.now.prim c.text-prim.result.now c.text-prim.ensures in
    let ins : length c.input_names.result.now ≡ length (input_names name) = names_counted c.input_names.result.now _ c.input_names.ensures ∙ ap (λ (t : Text). length (input_names t)) (sym named) in
    let outs : length c.output_names.result.now ≡ length (output_names name) = names_counted c.output_names.result.now _ c.output_names.ensures ∙ ap (λ (t : Text). length (output_names t)) (sym named) in
    cell_sides_put c.put_sides-2.result c.args.sides.now.items c.put_sides.new.sides.items c.put_sides-2.new.sides.items (length c.input_names.result.now) (length c.output_names.result.now) (length (input_names name)) (length (output_names name))
    ins outs c.in_ok-put_sides.ensures c.put_sides-2.ensures
