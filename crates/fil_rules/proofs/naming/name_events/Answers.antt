use Rattle.std.proofs.Common.{◌≡◌, List, All, Contains, length, not, take, get_or, subst, sym, ap, ◌∙◌, arith}
use Rattle.std.proofs.Math.Seq.{take-length}
use Rattle.std.proofs.lemmas.List.Elements.{All-more, All-get_or}
use Rattle.hw_names.specs.Name.{Text, text_of}
use Rattle.hw_names.proofs.NameLemmas.{text_of-slice_get}
use Rattle.fil_ast.specs.declared.tree.Time.{Time}
use Rattle.fil_sig.proofs.ListLemmas.{told_false, told_true}
use Rattle.fil_rules.proofs.naming.name_events.Goals as goal

no_time : Time
no_time = record { event = record { 0 = 0 }; plus = 0 }

pub returns-then-is_none : goal.returns-then-is_none
unfolding no_time
returns-then-is_none c =
    let names = c.args.names.now in
    let at = c.args.at.now in
    let P : Time → Type 0 = λ t. Contains c.args.events.now (text_of names t.event) in
    let named = text_of-slice_get names (get_or at c.loop-time.time-index no_time).event c.text.result.now c.text.ensures in
    let C : Text → Type 0 = Contains c.args.events.now in
    told_false (All P at) (λ all.
    let some = c.find.ensures.present.1 (subst C named (All-get_or P at c.loop-time.time-index no_time c.loop-time-test.true all)) in
    let none = sym some ∙ c.is_none.ensures ∙ ap not c.if-is_none.true in
    absurd (cc))

pub loop-time-preserved : goal.loop-time-preserved
unfolding no_time
loop-time-preserved c =
    let names = c.args.names.now in
    let at = c.args.at.now in
    let P : Time → Type 0 = λ t. Contains c.args.events.now (text_of names t.event) in
    let named = text_of-slice_get names (get_or at c.loop-time.time-index no_time).event c.text.result.now c.text.ensures in
    let C : Text → Type 0 = Contains c.args.events.now in
    All-more P at c.loop-time.time-index no_time c.loop-time-test.true c.loop-time.invariant
    (subst C (sym named) (c.find.ensures.present.0 (c.is_none.ensures ∙ ap not c.if-is_none.false)))

pub returns : goal.returns
returns c =
    let at = c.args.at.now in
    let P : Time → Type 0 = λ t. Contains c.args.events.now (text_of c.args.names.now t.event) in
    let A : List Time → Type 0 = All P in
    let end : c.loop-time.time-index ≡ length at = omega arith in
    told_true (All P at) (subst A (ap (λ k. take k at) end ∙ take-length at) c.loop-time.invariant)
