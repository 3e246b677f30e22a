use Rattle.std.proofs.Common.{◌≡◌, Bor, Option, Some, map, option_map, refl, subst, sym, ap, ◌∙◌}
use Rattle.std.specs.Option.{IfSome}
use Rattle.std.specs.Prelude.{IfErr, OnOk}
use Rattle.fil_ast.specs.Signature.{Signature}
use Rattle.fil_ast.specs.Tree.{Giving, value_tree}
use Rattle.fil_sig.specs.Seen.{seen}
use Rattle.fil_place.specs.Callees.{HasGoodTimes}
use Rattle.fil_rules.specs.inside.Invocation.{KeepsTimes, TellsTimes}
use Rattle.fil_place.specs.declared.callee.Callee.{Callee}
use Rattle.fil_rules.specs.declared.rules.ItemEnd.{ItemEnd}
use Rattle.fil_rules.proofs.StageLemmas.{on_err}
use Rattle.fil_rules.proofs.timeline.judge_callee.Goals as goal

pub returns-in-Some-clause-kept : goal.returns-in-Some-clause-kept
returns-in-Some-clause-kept c scope times inst place distinct are =
    let gives : Giving = record { times = times; args = map (value_tree c.args.place.now.names.now) c.args.args.now } in
    let P : Option Signature → Type 0 = λ o. OnOk c.judge_invocation.result (IfSome o (λ (sig : Signature). KeepsTimes scope sig inst gives)) in
    subst P (ap Some c.sig.ensures.same ∙ sym (ap (option_map (λ (callee : Bor Callee). callee.now)) c.in-Some.is))
    (c.judge_invocation.ensures.kept scope times inst place distinct are)

pub returns-in-Some-clause-broken : goal.returns-in-Some-clause-broken
returns-in-Some-clause-broken c scope times inst place distinct are =
    let gives : Giving = record { times = times; args = map (value_tree c.args.place.now.names.now) c.args.args.now } in
    let own = seen c.sig.result.now in
    let P : Option Signature → Type 0 = λ o. IfErr c.judge_invocation.result (λ (end : ItemEnd). (sig : Signature) × (o ≡ Some sig) × TellsTimes scope sig inst gives end) in
    subst P (ap Some c.sig.ensures.same ∙ sym (ap (option_map (λ (callee : Bor Callee). callee.now)) c.in-Some.is))
    (on_err c.judge_invocation.result (TellsTimes scope own inst gives) (λ (end : ItemEnd). (sig : Signature) × (Some own ≡ Some sig) × TellsTimes scope sig inst gives end)
    (c.judge_invocation.ensures.broken scope times inst place distinct are) (λ end told. (own, refl, told)))

pub returns-in-Some-clause-good : goal.returns-in-Some-clause-good
returns-in-Some-clause-good c =
    let P : Option Signature → Type 0 = λ o. IfSome o HasGoodTimes in
    subst P (ap Some c.sig.ensures.same ∙ sym (ap (option_map (λ (callee : Bor Callee). callee.now)) c.in-Some.is)) c.sig.ensures.times
