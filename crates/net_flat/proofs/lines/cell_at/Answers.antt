use Rattle.std.proofs.Common.{◌≡◌, ◌++◌, ◌&&◌, ◌==◌, true, false, List, ℕ, length, Some, ap, sym, ◌∙◌}
use Rattle.hw_names.proofs.NameLemmas.{text_of-slice_get}
use Rattle.hw_names.specs.Name.{text_of}
use Rattle.hw_prims.specs.Table.{is_memory}
use Rattle.net_flat.proofs.LineLemmas.{cell_stands}
use Rattle.net_flat.proofs.lines.cell_at.Goals as goal
use Rattle.net_flat.proofs.lines.cell_at.Goals.{then-is_empty, else-is_empty, then-cell, else-cell}

pub returns-clause-cell : goal.returns-clause-cell
returns-clause-cell c = λ path at.
    let source = c.args.source.now in
    let cell = c.args.cell.now in
    let prefix = c.args.prefix.now in
    let name = text_of-slice_get source cell.name c.text.result.now c.text.ensures in
    let made = text_of-slice_get source cell.made c.text-made.result.now c.text-made.ensures in
    let first : c.if-is_empty.value ≡ ((length prefix == 0) && cell.external) = elim c.if-is_empty.branch [
      | then-is_empty w ↦ let is : (length prefix == 0) ≡ true = sym c.is_empty.ensures ∙ w.if-is_empty.true in rw is w.value-is
      | else-is_empty w ↦ let is : (length prefix == 0) ≡ false = sym c.is_empty.ensures ∙ w.if-is_empty.false in rw is (w.value-is ∙ w.if-is_empty.false)
    ] in
    let shown : c.if-cell.shown ≡ ((length prefix == 0) && cell.external && is_memory (text_of source cell.made)) = elim c.if-cell.branch [
      | then-cell w ↦ let is : ((length prefix == 0) && cell.external) ≡ true = sym first ∙ w.if-cell.true in rw is (w.shown-is ∙ w.is_memory-shown.ensures ∙ ap is_memory (sym made))
      | else-cell w ↦ let is : ((length prefix == 0) && cell.external) ≡ false = sym first ∙ w.if-cell.false in rw is (w.shown-is ∙ w.if-cell.false)
    ] in
    cell_stands c.number_of.new.names source prefix path cell (record { name = c.in_ok-name.name; prim = c.in_ok-prim.prim; params = c.in_ok-params.params; shown = c.if-cell.shown }) at
    (c.number_of.ensures.kept c.in_ok-name.name.0 _ c.in_ok-name.ensures.text ∙ ap (λ (t : List ℕ). Some (prefix ++ t)) (sym name))
    (c.in_ok-prim.ensures.text ∙ ap (λ (t : List ℕ). Some t) (sym made))
    (c.in_ok-params.ensures.items ∙ c.deref.ensures.value)
    shown
