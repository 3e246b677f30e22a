use Rattle.std.proofs.Common.{◌++◌, ◌+◌, [], ◌∷◌, List, Contains, Ok, map, take, drop, get_or, subst, sym, ap, ap₂, ◌∙◌, append_assoc}
use Rattle.hw_names.specs.Name.{Text, AreDistinct, text_of}
use Rattle.hw_names.specs.declared.names.NameId.{NameId}
use Rattle.hw_names.proofs.NameLemmas.{text_of-slice_get}
use Rattle.fil_sig.proofs.ListLemmas.{comes_twice, map_at, map_more}
use Rattle.fil_place.proofs.signature_names.take_names.Goals as goal

no_name : NameId
no_name = record { 0 = 0 }

pub returns-then-not-branch-clause-there : goal.returns-then-not-branch-clause-there
unfolding no_name
returns-then-not-branch-clause-there c is_there distinct =
    let f = text_of c.args.names.now in
    let ids = c.args.ids.now in
    let old = c.args.taken.now in
    let i = c.loop-id.id-index in
    let D : List Text → Type 0 = AreDistinct in
    let name = c.text.result.now in
    let named = text_of-slice_get c.args.names.now (get_or ids i no_name) name c.text.ensures in
    let there = (c.in_ok-add_name.ensures.there (ap Ok c.if-not-branch.true)).0 in
    let C : List Text → Type 0 = λ ts. Contains ts name in
    let whole = ap (λ ts. old ++ ts) (map_at f ids i no_name c.loop-id-test.true ∙ ap (λ t. map f (take i ids) ++ t ∷ map f (drop (i + 1) ids)) named)
    ∙ sym (append_assoc old (map f (take i ids)) (name ∷ map f (drop (i + 1) ids))) in
    comes_twice (old ++ map f (take i ids)) (map f (drop (i + 1) ids)) name (subst C c.loop-id.invariant.0 there) (subst D whole distinct)

pub loop-id-preserved : goal.loop-id-preserved
unfolding no_name
loop-id-preserved c =
    let f = text_of c.args.names.now in
    let ids = c.args.ids.now in
    let old = c.args.taken.now in
    let i = c.loop-id.id-index in
    let named = text_of-slice_get c.args.names.now (get_or ids i no_name) c.text.result.now c.text.ensures in (
      (c.in_ok-add_name.ensures.new (ap Ok c.if-not-branch.false)).1 ∙ ap₂ (λ ts t. ts ++ t ∷ []) c.loop-id.invariant.0 (sym named)
          ∙ append_assoc old (map f (take i ids)) (f (get_or ids i no_name) ∷ []) ∙ ap (λ ts. old ++ ts) (sym (map_more f ids i no_name c.loop-id-test.true)),
      c.in_ok-add_name.ensures.distinct,
    )
