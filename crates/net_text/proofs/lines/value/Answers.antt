use Rattle.std.proofs.Common.{◌≡◌, ◌<◌, length, arith, ◌∙◌, refl}
use Rattle.std.proofs.lemmas.Bool.Decides.{nat_tests}
use Rattle.std.proofs.lemmas.Result.{err_from_is_err_and}
use Rattle.hw_names.specs.Name.{text_of}
use Rattle.net_core.specs.Guard.{source_tree, guard_tree, guard_option}
use Rattle.net_text.specs.inside.ReadLines.{guarded_of_text, value_of_text}
use Rattle.net_text.proofs.CompareLemmas.{value_alone, value_guarded}
use Rattle.net_text.proofs.ExitLemmas.{fails, named_from}
use Rattle.net_text.proofs.NameLemmas.{Extends-itself, Extends-then}
use Rattle.net_text.proofs.lines.value.Goals as goal

pub returns-then-is_empty-clause-read : goal.returns-then-is_empty-clause-read
returns-then-is_empty-clause-read c =
    let none : length c.in_ok-guard.rest.now ≡ 0 = grind (arith, nat_tests) in
    named_from c.guard.new.names (λ names x. (guard_option (text_of names) x.0, source_tree (text_of names) x.1)) c.unguarded.result (value_of_text c.args.text.now)
    (λ later ext. rw (value_alone c.args.text.now (guard_tree (text_of later) c.in_ok-guard.guard) c.in_ok-guard.rest.now (c.in_ok-guard.ensures.read later ext) none) (c.unguarded.ensures later))

pub returns-in_err-src-clause-read : goal.returns-in_err-src-clause-read
returns-in_err-src-clause-read c =
    let p = err_from_is_err_and c.from_residual-in_err-src.result c.from_residual-in_err-src.ensures.1 in
    let names = c.guard.new.names in
    let rest = c.in_ok-guard.rest.now in
    let some : 0 < length rest = grind (arith, nat_tests) in
    rw (p.1, p.2) (fails c.in_err-src.field-0.0 (guarded_of_text rest) (value_of_text c.args.text.now) c.in_err-src.ensures.read
    (λ none. value_guarded c.args.text.now (guard_tree (text_of names) c.in_ok-guard.guard) rest (c.in_ok-guard.ensures.read names (Extends-itself names)) some ∙ rw none refl))

pub returns-clause-read : goal.returns-clause-read
returns-clause-read c = λ later ext.
    let rest = c.in_ok-guard.rest.now in
    let some : 0 < length rest = grind (arith, nat_tests) in
    value_guarded c.args.text.now (guard_tree (text_of later) c.in_ok-guard.guard) rest (c.in_ok-guard.ensures.read later (Extends-then c.in_ok-src.ensures.grows.extends ext)) some
    ∙ rw (c.in_ok-src.ensures.read later ext) refl
