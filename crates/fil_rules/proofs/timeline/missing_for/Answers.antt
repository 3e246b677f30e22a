use Rattle.std.proofs.Common.{◌≡◌, ◌^◌, ℕ, [], ◌∷◌, Option, Some, length, map, rules, length-append, subst, sym, ap, ◌∙◌}
use Rattle.std.specs.Option.{IfSome, MatchOption, is_some}
use Rattle.std.specs.Iterator.Adapters.{zip_first, zip_second}
use Rattle.std.specs.Slice.Iter.{iter_rest}
use Rattle.std.proofs.lemmas.Option.{get_or_from_slice_get, slice_get-get_or, slice_get_within}
use Rattle.std.proofs.lemmas.Slice.Zip.{zip_end, zip_turn}
use Rattle.fil_ast.specs.Evidence.{IsMissingOffset}
use Rattle.fil_ast.specs.Timeline.{Covers, ReadsAvailable, interval_at}
use Rattle.fil_ast.specs.Tree.{Giving, value_tree}
use Rattle.fil_sig.specs.Seen.{seen_port}
use Rattle.fil_rules.specs.inside.Available.{IsMissingIn}
use Rattle.fil_place.specs.Callees.{HasSmallInterval}
use Rattle.fil_rules.proofs.AvailableLemmas.{among}
use Rattle.fil_place.proofs.GeneralLemmas.{clash, mapped_at}
use Rattle.fil_rules.proofs.ReadLemmas.{ReadsBelow, missing_here, none_of, reads_all, reads_more, told_none, told_some}
use Rattle.fil_rules.proofs.timeline.missing_for.Goals as goal

pub returns-then-is_some-clause-cases : goal.returns-then-is_some-clause-cases
returns-then-is_some-clause-cases c scope times sig place distinct are is =
    let names = c.args.place.now.names.now in
    let args = c.args.args.now in
    let ports = c.args.ports.now in
    let s = c.into_iter-arg-iterator.result in
    let first : iter_rest (zip_first s) ≡ args = search rules in
    let second : iter_rest (zip_second s) ≡ ports = search rules in
    let turn = zip_turn args ports c.loop-arg.yielded s c.loop-arg.arg-iterator c.next.new.self c.next.result first second c.loop-arg.yielded_by (c.in-Some.arg, c.in-Some.port) c.in-Some.is c.next.ensures.steps in
    let n = length c.loop-arg.yielded in
    let a = c.in-Some.arg.now in
    let p = c.in-Some.port.now in
    let a_at = slice_get-get_or args n a turn.0 ∙ ap Some (sym (turn.2 a)) in
    let p_at = slice_get-get_or ports n p turn.1 ∙ ap Some (sym (turn.3 p)) in
    let gives : Giving = record { times = times; args = map (value_tree names) args } in
    let value = value_tree names a in
    let need = interval_at times (seen_port p) in
    let Goal : Option ℕ → Type 0 = λ r. MatchOption r (ReadsAvailable scope sig gives) (IsMissingOffset scope sig gives) in
    told_some (IfSome need (Covers scope value)) (IsMissingIn scope value need) c.missing_in-found.result Goal
    (c.missing_in-found.ensures.cases scope need place distinct (c.interval_at-need.ensures.shown c.args.place.now.tables.now.events times are))
    (λ offset missing. missing_here names scope times ports args sig is n a p offset a_at p_at (c.loop-arg.invariant scope times place distinct are) missing)
    (λ none. clash c.is_some.result c.if-is_some.true (c.is_some.ensures ∙ ap is_some none))

pub returns-then-is_some-clause-small : goal.returns-then-is_some-clause-small
returns-then-is_some-clause-small c all =
    let args = c.args.args.now in
    let ports = c.args.ports.now in
    let s = c.into_iter-arg-iterator.result in
    let first : iter_rest (zip_first s) ≡ args = search rules in
    let second : iter_rest (zip_second s) ≡ ports = search rules in
    let turn = zip_turn args ports c.loop-arg.yielded s c.loop-arg.arg-iterator c.next.new.self c.next.result first second c.loop-arg.yielded_by (c.in-Some.arg, c.in-Some.port) c.in-Some.is c.next.ensures.steps in
    let n = length c.loop-arg.yielded in
    let p = c.in-Some.port.now in
    let p_at = slice_get-get_or ports n p turn.1 ∙ ap Some (sym (turn.3 p)) in
    let at = mapped_at seen_port ports n p p_at in
    let within = slice_get_within (map seen_port ports) n (seen_port p) at in
    let small = among HasSmallInterval (map seen_port ports) (seen_port p) all (n, within, get_or_from_slice_get (map seen_port ports) n (seen_port p) (seen_port p) at) in
    c.missing_in-found.ensures.inside (2 ^ 32) (c.interval_at-need.ensures.small small)

pub loop-arg-preserved : goal.loop-arg-preserved
loop-arg-preserved c scope times place distinct are =
    let names = c.args.place.now.names.now in
    let args = c.args.args.now in
    let ports = c.args.ports.now in
    let s = c.into_iter-arg-iterator.result in
    let first : iter_rest (zip_first s) ≡ args = search rules in
    let second : iter_rest (zip_second s) ≡ ports = search rules in
    let turn = zip_turn args ports c.loop-arg.yielded s c.loop-arg.arg-iterator c.next.new.self c.next.result first second c.loop-arg.yielded_by (c.in-Some.arg, c.in-Some.port) c.in-Some.is c.next.ensures.steps in
    let n = length c.loop-arg.yielded in
    let a = c.in-Some.arg.now in
    let p = c.in-Some.port.now in
    let a_at = slice_get-get_or args n a turn.0 ∙ ap Some (sym (turn.2 a)) in
    let p_at = slice_get-get_or ports n p turn.1 ∙ ap Some (sym (turn.3 p)) in
    let value = value_tree names a in
    let need = interval_at times (seen_port p) in
    let none = none_of c.missing_in-found.result (sym c.is_some.ensures ∙ c.if-is_some.false) in
    let here = told_none (IfSome need (Covers scope value)) (IsMissingIn scope value need) c.missing_in-found.result
    (c.missing_in-found.ensures.cases scope need place distinct (c.interval_at-need.ensures.shown c.args.place.now.tables.now.events times are)) none in
    subst (ReadsBelow names scope times ports args) (sym (length-append c.loop-arg.yielded ((c.in-Some.arg, c.in-Some.port) ∷ [])))
    (reads_more names scope times ports args n a p a_at p_at (c.loop-arg.invariant scope times place distinct are) here)

pub returns-clause-cases : goal.returns-clause-cases
returns-clause-cases c scope times sig place distinct are is =
    let names = c.args.place.now.names.now in
    let args = c.args.args.now in
    let ports = c.args.ports.now in
    let s = c.into_iter-arg-iterator.result in
    let first : iter_rest (zip_first s) ≡ args = search rules in
    let second : iter_rest (zip_second s) ≡ ports = search rules in
    let end = zip_end args ports c.loop-arg.yielded s c.loop-arg.arg-iterator c.next.new.self c.next.result first second c.loop-arg.yielded_by c.in-None.is c.next.ensures.steps in
    reads_all names scope times ports args sig is (length c.loop-arg.yielded) end (c.loop-arg.invariant scope times place distinct are)
