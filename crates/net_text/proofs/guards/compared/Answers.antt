use Rattle.std.proofs.Common.{◌≡◌, sym, ap, ◌∙◌}
use Rattle.hw_names.specs.Name.{Text, text_of}
use Rattle.hw_names.specs.declared.names.NameId.{NameId}
use Rattle.net_core.specs.declared.net.Src.{Src}
use Rattle.net_core.specs.Guard.{GuardTree, Reads, source_tree, guard_tree}
use Rattle.net_text.specs.inside.ReadGuards.{test_at, test_from}
use Rattle.net_text.proofs.CompareLemmas.{no_source, source_stays}
use Rattle.net_text.proofs.NameLemmas.{Extends-itself}
use Rattle.net_text.proofs.guards.compared.Goals as goal

pub returns-in-Read-clause-read : goal.returns-in-Read-clause-read
returns-in-Read-clause-read c = λ tree stays.
    let names = c.args.names.now in
    let text = c.args.text.now in
    let left = source_tree (text_of names) c.deref.result.now in
    let same : test_at left text ≡ test_from tree text =
    ap (λ (g : GuardTree Text). test_from g text) (ap (λ (s : Src NameId). Reads (source_tree (text_of names) s)) c.deref.ensures ∙ ap (guard_tree (text_of names)) (sym c.in-Read.is) ∙ stays names (Extends-itself names)) in
    rw (← same) (c.test.ensures.read left (λ later ext. rw c.deref.ensures (source_stays names c.args.first.now c.in-Read.left tree c.in-Read.is stays later ext)))

pub returns-in_default-clause-read : goal.returns-in_default-clause-read
returns-in_default-clause-read c = λ tree stays.
    let names = c.args.names.now in
    ap (λ (g : GuardTree Text). test_from g c.args.text.now) (sym (stays names (Extends-itself names))) ∙ no_source names c.args.first.now c.args.text.now c.in_default.not-Read
