use Rattle.std.proofs.Common.{List, All, subst, sym}
use Rattle.fil_ast.specs.Typing.{IsWidth}
use Rattle.fil_ast.specs.declared.tree.FilPort.{FilPort}
use Rattle.fil_sig.proofs.ShapeLemmas.{wide_ins, wide_outs}
use Rattle.fil_sig.proofs.component.component_signature.Goals as goal

pub sig_ports-requires-clause-wide : goal.sig_ports-requires-clause-wide
sig_ports-requires-clause-wide c =
    let P : List FilPort → Type 0 = All (λ (p : FilPort). IsWidth p.width) in
    subst P (sym c.deref-4.ensures.value) (wide_ins c.args.names.now c.args.comp.now c.requires.wide)

pub sig_ports-requires-2-clause-wide : goal.sig_ports-requires-2-clause-wide
sig_ports-requires-2-clause-wide c =
    let P : List FilPort → Type 0 = All (λ (p : FilPort). IsWidth p.width) in
    subst P (sym c.deref-6.ensures.value) (wide_outs c.args.names.now c.args.comp.now c.requires.wide)
