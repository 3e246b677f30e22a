use Rattle.std.proofs.Common.{◌≡◌, List, All, length, map, take, get_or, subst, sym, ap, ◌∙◌, arith}
use Rattle.std.specs.List.{AllPairs}
use Rattle.std.proofs.Math.Seq.{take-length}
use Rattle.std.proofs.lemmas.List.Elements.{All-more}
use Rattle.hw_names.specs.Name.{text_of}
use Rattle.hw_names.proofs.NameLemmas.{text_of-slice_get}
use Rattle.fil_ast.specs.Tree.{TimeAt, time_tree}
use Rattle.fil_ast.specs.declared.tree.Time.{Time}
use Rattle.fil_sig.proofs.ListLemmas.{told_false, told_true}
use Rattle.fil_rules.proofs.ArgumentLemmas.{one_event, other_event, texts_differ, texts_same}
use Rattle.fil_rules.proofs.typing.name_one_event.Goals as goal

no_time : Time
no_time = record { event = record { 0 = 0 }; plus = 0 }

pub returns-then-ne : goal.returns-then-ne
unfolding no_time
returns-then-ne c =
    let names = c.args.names.now in
    let at = c.args.at.now in
    let first = c.in-Some.first.now in
    let event = c.text-event.result.now in
    let here = text_of-slice_get names (get_or at c.loop-time.time-index no_time).event c.text.result.now c.text.ensures in
    told_false (AllPairs (λ (s t : TimeAt). s.event ≡ t.event) (map (time_tree names) at))
    (other_event names at first event c.in-Some.ensures.value (text_of-slice_get names first.event event c.text-event.ensures) c.loop-time.time-index no_time c.loop-time-test.true
    (λ same. texts_differ c.text.result.now event c.ne.result c.ne.ensures c.if-ne.true (sym here ∙ same)))

pub loop-time-preserved : goal.loop-time-preserved
unfolding no_time
loop-time-preserved c =
    let names = c.args.names.now in
    let at = c.args.at.now in
    let event = c.text-event.result.now in
    let P : Time → Type 0 = λ t. text_of names t.event ≡ event in
    let here = text_of-slice_get names (get_or at c.loop-time.time-index no_time).event c.text.result.now c.text.ensures in
    All-more P at c.loop-time.time-index no_time c.loop-time-test.true c.loop-time.invariant (here ∙ texts_same c.text.result.now event c.ne.result c.ne.ensures c.if-ne.false)

pub returns : goal.returns
returns c =
    let names = c.args.names.now in
    let at = c.args.at.now in
    let first = c.in-Some.first.now in
    let event = c.text-event.result.now in
    let P : Time → Type 0 = λ t. text_of names t.event ≡ event in
    let A : List Time → Type 0 = All P in
    let end : c.loop-time.time-index ≡ length at = omega arith in
    told_true (AllPairs (λ (s t : TimeAt). s.event ≡ t.event) (map (time_tree names) at))
    (one_event names at first event c.in-Some.ensures.value (text_of-slice_get names first.event event c.text-event.ensures)
    (subst A (ap (λ k. take k at) end ∙ take-length at) c.loop-time.invariant))
