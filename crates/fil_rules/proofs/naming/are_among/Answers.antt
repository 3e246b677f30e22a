use Rattle.std.proofs.Common.{◌≡◌, not, is_some, List, All, Contains, length, take, get_or, subst, sym, ap, ◌∙◌, arith}
use Rattle.std.proofs.Math.Seq.{take-length}
use Rattle.std.proofs.lemmas.Bool.Decides.{not_from_Decides}
use Rattle.std.proofs.lemmas.List.Elements.{All-more, All-get_or}
use Rattle.hw_names.specs.Name.{Text, text_of}
use Rattle.hw_names.specs.declared.names.NameId.{NameId}
use Rattle.hw_names.proofs.NameLemmas.{text_of-slice_get}
use Rattle.fil_sig.proofs.ListLemmas.{told_false, told_true}
use Rattle.fil_rules.proofs.naming.are_among.Goals as goal

no_name : NameId
no_name = record { 0 = 0 }

pub returns-then-is_none : goal.returns-then-is_none
unfolding no_name
returns-then-is_none c =
    let names = c.args.names.now in
    let ids = c.args.ids.now in
    let P : NameId → Type 0 = λ id. Contains c.args.those.now (text_of names id) in
    let named = text_of-slice_get names (get_or ids c.loop-id.id-index no_name) c.text.result.now c.text.ensures in
    let C : Text → Type 0 = Contains c.args.those.now in
    told_false (All P ids) (λ all.
    let here = subst C named (All-get_or P ids c.loop-id.id-index no_name c.loop-id-test.true all) in
    not_from_Decides (is_some c.find.result) c.find.ensures.present (c.is_none.ensures ∙ ap not c.if-is_none.true) here)

pub loop-id-preserved : goal.loop-id-preserved
unfolding no_name
loop-id-preserved c =
    let names = c.args.names.now in
    let ids = c.args.ids.now in
    let P : NameId → Type 0 = λ id. Contains c.args.those.now (text_of names id) in
    let named = text_of-slice_get names (get_or ids c.loop-id.id-index no_name) c.text.result.now c.text.ensures in
    let C : Text → Type 0 = Contains c.args.those.now in
    let some = c.is_none.ensures ∙ ap not c.if-is_none.false in
    All-more P ids c.loop-id.id-index no_name c.loop-id-test.true c.loop-id.invariant (subst C (sym named) (c.find.ensures.present.0 some))

pub returns : goal.returns
returns c =
    let names = c.args.names.now in
    let ids = c.args.ids.now in
    let P : NameId → Type 0 = λ id. Contains c.args.those.now (text_of names id) in
    let A : List NameId → Type 0 = All P in
    let end : c.loop-id.id-index ≡ length ids = omega arith in
    told_true (All P ids) (subst A (ap (λ k. take k ids) end ∙ take-length ids) c.loop-id.invariant)
