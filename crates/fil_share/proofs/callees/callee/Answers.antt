use Rattle.std.proofs.Common.{map, sym, subst}
use Rattle.std.proofs.lemmas.List.Elements.{All-contains}
use Rattle.std.proofs.lemmas.Option.{IfSome_then}
use Rattle.fil_ast.specs.Limits.{KeepsLimits}
use Rattle.fil_ast.specs.Tree.{component_tree}
use Rattle.fil_sig.specs.Refusals.{TellsCause}
use Rattle.fil_sig.specs.declared.named.SigEnd.{SigEnd}
use Rattle.fil_share.proofs.CalleeLemmas.{not_refused}
use Rattle.fil_share.proofs.callees.callee.Goals as goal

pub used_signature-requires-clause-small : goal.used_signature-requires-clause-small
used_signature-requires-clause-small c =
    IfSome_then c.component_of-comp.result c.component_of-comp.ensures.among (λ x among. All-contains KeepsLimits c.args.comps.now x.now c.requires.small among)

pub unreachable-requires : goal.unreachable-requires
unreachable-requires c =
    let trees = map (component_tree c.args.names.now) c.args.comps.now in
    let name = c.args.name.now in
    let params = c.args.params.now in
    let T : SigEnd → Type 0 = TellsCause trees name params in
    let cause = subst T c.in-Err-Refused.field-0-is (c.in-Err-Refused.ensures.refused trees (sym (c.component_of-comp.ensures.found c.args.names.now c.requires.known))) in
    not_refused trees name params c.in-Err-Refused.field-0-0 c.requires.usable cause
