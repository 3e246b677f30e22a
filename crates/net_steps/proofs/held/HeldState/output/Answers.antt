use Rattle.std.proofs.Common.{◌≡◌, ◌<◌, ◌≤◌, ◌^◌, ℕ, length, get_or, Some, subst, sym, ap, ◌∙◌, arith}
use Rattle.std.proofs.lemmas.Option.{slice_get_within, get_or_from_slice_get}
use Rattle.std.specs.Prelude.{slice_get}
use Rattle.hw_bits.proofs.WidthLemmas.{lt-wider}
use Rattle.hw_prims.specs.Cell.{CellValue}
use Rattle.hw_prims.specs.Table.{outputs_of, pin_widths}
use Rattle.hw_prims.specs.declared.prim.Primitive.{Primitive}
use Rattle.net_steps.specs.inside.Words.{IsStorage, stored_cell}
use Rattle.net_steps.specs.declared.held.Storage.TheVariants.{Words}
use Rattle.net_steps.proofs.WordLemmas.{output_count}
use Rattle.net_steps.proofs.held.HeldState.output.Goals as goal

pub output-requires-clause-output : goal.output-requires-clause-output
output-requires-clause-output c =
    let words = c.in-Words.words in
    let kept : IsStorage (Words words) = subst IsStorage c.in-Words.is c.self.invariant in
    let is : c.args.self.now.prim ≡ words.prim = ap (λ (v : CellValue). v.prim) (sym c.self.view_is ∙ ap stored_cell c.in-Words.is) in
    let two : length (outputs_of c.args.self.now.prim) ≡ 2 = ap (λ (p : Primitive). length (outputs_of p)) is ∙ output_count words.prim words.grid kept.grid_is in
    subst (λ (n : ℕ). c.args.output < n) two c.requires.output

pub overflow_cast-result : goal.overflow_cast-result
overflow_cast-result c =
    let cell = c.in-Cell.cell in
    let widths = pin_widths (outputs_of c.args.self.now.prim) in
    let b = c.comb.result in
    let prim : c.args.self.now.prim ≡ cell.prim = ap (λ (v : CellValue). v.prim) (sym c.self.view_is ∙ ap stored_cell c.in-Cell.is) in
    let at : slice_get widths c.args.output ≡ Some b.width = ap (λ (p : Primitive). slice_get (pin_widths (outputs_of p)) c.args.output) prim ∙ c.comb.ensures.width in
    let lt = slice_get_within widths c.args.output b.width at in
    let is : get_or widths c.args.output 0 ≡ b.width = get_or_from_slice_get widths c.args.output b.width 0 at in
    let le : b.width ≤ 64 = subst (λ w. w ≤ 64) is (c.requires.narrow.outputs c.args.output 0 lt) in
    let small : c.value.result < 2 ^ 64 = subst (λ v. v < 2 ^ 64) (sym c.value.ensures) (lt-wider b.width 64 b.value le b.fits) in
    omega (arith, small)
