use Rattle.std.proofs.Common.{List, All, sym, subst}
use Rattle.fil_ast.specs.Timeline.{HasShortPorts}
use Rattle.fil_ast.specs.Tree.{component_tree}
use Rattle.fil_ast.specs.declared.tree.FilPort.{FilPort}
use Rattle.fil_place.proofs.GeneralLemmas.{clash, told_no}
use Rattle.fil_rules.proofs.ShortLemmas.{Short, short_ins, short_outs, short_ports}
use Rattle.fil_rules.proofs.timeline.has_short_ports.Goals as goal

pub returns-then-are_short : goal.returns-then-are_short
returns-then-are_short c =
    let names = c.args.names.now in
    let comp = c.args.comp.now in
    let S : List FilPort → Type 0 = All (Short names comp) in
    let ins = subst S c.deref.ensures.value (c.are_short.ensures.0 c.if-are_short.true) in (
      λ t. short_ports names comp ins (subst S c.deref-then-are_short.ensures.value (c.are_short-then-are_short.ensures.0 t)),
      λ short. c.are_short-then-are_short.ensures.1 (subst S (sym c.deref-then-are_short.ensures.value) (short_outs names comp short)),
    )

pub returns-else-are_short : goal.returns-else-are_short
returns-else-are_short c =
    let names = c.args.names.now in
    let comp = c.args.comp.now in
    let S : List FilPort → Type 0 = All (Short names comp) in
    told_no (HasShortPorts (component_tree names comp)) c.are_short.result c.if-are_short.false
    (λ short. clash c.are_short.result (c.are_short.ensures.1 (subst S (sym c.deref.ensures.value) (short_ins names comp short))) c.if-are_short.false)
