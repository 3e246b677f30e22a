use Rattle.std.proofs.Common.{◌≡◌, List, length, subst, sym, ◌∙◌, arith}
use Rattle.std.specs.List.{Any}
use Rattle.fil_ast.specs.Signature as tree
use Rattle.fil_sig.specs.Seen.{seen, seen_delay}
use Rattle.fil_sig.specs.declared.time_sig.SigEvent.{SigEvent}
use Rattle.fil_ast.specs.Tree.{giving}
use Rattle.fil_ast.specs.Typing.{GivesEach}
use Rattle.fil_sig.proofs.ListLemmas.{told_true}
use Rattle.fil_rules.proofs.ArgumentLemmas.{each_with_gap, each_without_gap}
use Rattle.fil_rules.proofs.typing.gives_each.Goals as goal

pub returns-then-has_gap : goal.returns-then-has_gap
returns-then-has_gap c =
    let sig = c.args.sig.now in
    let at = c.args.at.now in
    let args = c.args.args.now in
    let G : List SigEvent → Type 0 = Any (λ (e : SigEvent). seen_delay e.delay ≡ tree.Gap) in
    let times : length at ≡ length sig.events.items = omega (arith, c.if-at-len.false, c.len.ensures, sig.events.ok.0) in
    let arguments : length args ≡ length sig.ins.items = omega (arith, c.if-args-len.false, c.len-else-at-len.ensures, sig.ins.ok.0) in
    each_with_gap c.args.names.now sig at args times arguments (subst G c.deref.ensures.value (c.has_gap.ensures.0 c.if-has_gap.true)) c.name_one_event.result c.name_one_event.ensures

pub returns-else-has_gap : goal.returns-else-has_gap
returns-else-has_gap c =
    let sig = c.args.sig.now in
    let at = c.args.at.now in
    let args = c.args.args.now in
    let G : List SigEvent → Type 0 = Any (λ (e : SigEvent). seen_delay e.delay ≡ tree.Gap) in
    let times : length at ≡ length sig.events.items = omega (arith, c.if-at-len.false, c.len.ensures, sig.events.ok.0) in
    let arguments : length args ≡ length sig.ins.items = omega (arith, c.if-args-len.false, c.len-else-at-len.ensures, sig.ins.ok.0) in
    told_true (GivesEach (seen sig) (giving c.args.names.now at args))
    (each_without_gap c.args.names.now sig at args times arguments (λ gap.
    let yes = c.has_gap.ensures.1 (subst G (sym c.deref.ensures.value) gap) in
    let bad = sym c.if-has_gap.false ∙ yes in
    absurd (cc)))
