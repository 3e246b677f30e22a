use Rattle.std.proofs.Common.{Option, sym, ap, ◌∙◌, ◌++◌}
use Rattle.hw_names.specs.Name.{Text, text_of}
use Rattle.hw_names.specs.declared.names.NameId.{NameId}
use Rattle.net_core.specs.Guard.{guard_option, guard_tree, source_tree}
use Rattle.net_core.specs.declared.net.Guard.{Guard}
use Rattle.ver_print.specs.Values.{guard_text, guarded_text, source_gap, source_text}
use Rattle.ver_print.proofs.DriveLemmas.{guarded_put}
use Rattle.ver_print.proofs.drives.put_guarded.Goals as goal

pub returns-in_ok-put_source-in-None : goal.returns-in_ok-put_source-in-None
returns-in_ok-put_source-in-None c = λ others.
    let f = text_of c.args.names.now in
    let out = c.args.out.now.items in
    let source = source_tree f c.args.set.now.src in
    c.in_ok-put_source-in-None.ensures ∙ ap (λ (g : Option (Guard NameId)). out ++ guarded_text (guard_option f g) source others) (sym c.in-None.is)

pub returns-in_ok-put-in-Some-4 : goal.returns-in_ok-put-in-Some-4
returns-in_ok-put-in-Some-4 c = λ others.
    let names = c.args.names.now in
    let f = text_of names in
    let out = c.args.out.now.items in
    let source = source_tree f c.args.set.now.src in
    let before = c.put_source-in-Some.new.out.items in
    guarded_put out c.put.new.out.items c.put_guard.new.out.items c.put-in-Some.new.out.items before c.put-in-Some-2.new.out.items c.put-in-Some-3.new.out.items
    (guard_text (guard_tree f c.in-Some.guard)) (source_text source) (source_gap source) others
    c.in_ok-put-in-Some.ensures c.in_ok-put_guard-in-Some.ensures c.in_ok-put-in-Some-2.ensures c.in_ok-put_source-in-Some.ensures
    (c.in_ok-put-in-Some-3.ensures ∙ ap (λ (text : Text). before ++ text) (c.source_gap_of.ensures names)) c.in_ok-put-in-Some-4.ensures
    ∙ ap (λ (g : Option (Guard NameId)). out ++ guarded_text (guard_option f g) source others) (sym c.in-Some.is)
