use Rattle.std.proofs.Common.{◌≡◌, IfOk, length, sym, subst, ◌∙◌, arith}
use Rattle.std.proofs.lemmas.List.{length-map}
use Rattle.cal_ast.specs.Numbers.{ComponentHasNumbers}
use Rattle.cal_ast.specs.Tree.{Component, cell_tree, component_tree}
use Rattle.cal_lower.specs.inside.Shown.{Shows}
use Rattle.cal_state.proofs.EncodedLemmas.{encoded_full}
use Rattle.cal_state.proofs.WholeLemmas.{full_shows, is_full, stays_bare}
use Rattle.cal_state.proofs.component.encode.Goals as goal

pub returns-then-len-clause-encoded : goal.returns-then-len-clause-encoded
returns-then-len-clause-encoded c = λ texts shows.
    let source = c.args.source.now in
    let bits = c.args.bits in
    let same : length bits.cells.items ≡ length source.cells.items = omega (arith, c.len.ensures, c.len-2.ensures, c.if-len.true, bits.cells.ok.0, source.cells.ok.0) in
    stays_bare (component_tree texts source) c.args.names.now bits shows (same ∙ sym (length-map source.cells.items (cell_tree texts)))

pub returns-clause-encoded : goal.returns-clause-encoded
returns-clause-encoded c = λ texts shows.
    let source = c.args.source.now in
    let bits = c.args.bits in
    let names = c.args.names.now in
    let tree = component_tree texts source in
    let counted = length-map source.cells.items (cell_tree texts) in
    let full = is_full tree names bits shows
    (λ same. omega (arith, same, counted, c.len.ensures, c.len-2.ensures, c.if-len.false, bits.cells.ok.0, source.cells.ok.0)) in
    let P : Component → Type 0 = λ d. IfOk c.with_states.result (Shows ComponentHasNumbers component_tree c.with_states.new.names d) in
    subst P (sym (encoded_full tree full)) (c.with_states.ensures.encoded texts (full_shows tree names bits shows full))
