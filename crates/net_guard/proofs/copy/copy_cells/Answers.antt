use Rattle.std.proofs.Common.{◌≡◌, ℕ, ◌++◌, ◌∷◌, [], List, All, length, map, take, sym, ap, ap₂, subst, ◌∙◌, arith}
use Rattle.std.proofs.Math.Seq.{take-length}
use Rattle.std.proofs.lemmas.List.{map-append}
use Rattle.std.proofs.lemmas.List.Elements.{All-nil, All-push}
use Rattle.net_core.specs.Netlist.{CellLine, cell_of}
use Rattle.net_core.specs.Numbers.{CellHasNumbers}
use Rattle.net_core.specs.declared.net.NetCell.{NetCell}
use Rattle.net_guard.proofs.Lists.{map_next}
use Rattle.net_guard.proofs.copy.copy_cells.Goals as goal

pub loop-cell-init : goal.loop-cell-init
loop-cell-init c = record {
  same = λ names. ap (map (cell_of names)) c.in_ok-copies.ensures.items;
  numbers = λ names all.
      let A : List NetCell → Type 0 = All (CellHasNumbers names) in
      subst A (sym c.in_ok-copies.ensures.items) (All-nil (CellHasNumbers names));
}

pub loop-cell-preserved : goal.loop-cell-preserved
loop-cell-preserved c =
    let cells = c.args.cells.now in
    let i = c.loop-cell.cell-index in
    let copies = c.loop-cell.copies.items in
    let copy = c.in_ok-copy_cell.field-0 in
    record {
      same = λ names.
          ap (map (cell_of names)) c.in_ok-push.ensures.items ∙ map-append (cell_of names) copies (copy ∷ [])
          ∙ ap₂ (λ (lines : List CellLine) (line : CellLine). lines ++ line ∷ []) (c.loop-cell.invariant.same names) (c.in_ok-copy_cell.ensures.same names)
          ∙ sym (map_next (cell_of names) cells i c.cell-item.result c.loop-cell-test.true c.cell-item.is);
      numbers = λ names all.
          let A : List NetCell → Type 0 = All (CellHasNumbers names) in
          let N : NetCell → Type 0 = CellHasNumbers names in
          let has : N c.cell-item.result = subst N (sym c.cell-item.is) (all i c.cell-item.result c.loop-cell-test.true) in
          subst A (sym c.in_ok-push.ensures.items) (All-push N copies copy (c.loop-cell.invariant.numbers names all) (c.in_ok-copy_cell.ensures.numbers names has));
    }

pub returns-clause-same : goal.returns-clause-same
returns-clause-same c = λ names.
    let cells = c.args.cells.now in
    let end : c.loop-cell.cell-index ≡ length cells = omega arith in
    c.loop-cell.invariant.same names ∙ ap (map (cell_of names)) (ap (λ (k : ℕ). take k cells) end ∙ take-length cells)
