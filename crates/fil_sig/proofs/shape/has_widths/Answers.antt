use Rattle.std.proofs.Common.{List, All, subst, sym}
use Rattle.fil_ast.specs.Typing.{IsWidth}
use Rattle.fil_ast.specs.declared.tree.FilPort.{FilPort}
use Rattle.fil_sig.proofs.ShapeLemmas.{widths_made, wide_ins, wide_outs}
use Rattle.fil_sig.proofs.shape.has_widths.Goals as goal

pub returns-then-are_widths : goal.returns-then-are_widths
returns-then-are_widths c names =
    let P : List FilPort → Type 0 = All (λ (p : FilPort). IsWidth p.width) in
    let ins = subst P c.deref.ensures.value (c.are_widths.ensures.0 c.if-are_widths.true) in (
      λ yes. widths_made names c.args.comp.now ins (subst P c.deref-then-are_widths.ensures.value (c.are_widths-then-are_widths.ensures.0 yes)),
      λ wide. c.are_widths-then-are_widths.ensures.1 (subst P (sym c.deref-then-are_widths.ensures.value) (wide_outs names c.args.comp.now wide)),
    )

pub returns-else-are_widths : goal.returns-else-are_widths
returns-else-are_widths c names =
    let P : List FilPort → Type 0 = All (λ (p : FilPort). IsWidth p.width) in (
      λ yes. let no = c.if-are_widths.false in absurd (cc),
      λ wide. c.are_widths.ensures.1 (subst P (sym c.deref.ensures.value) (wide_ins names c.args.comp.now wide)),
    )
