use Rattle.std.proofs.Common.{◌++◌, ◌+◌, [], ◌∷◌, List, Contains, Ok, map, take, drop, get_or, subst, sym, ap, ap₂, ◌∙◌}
use Rattle.hw_names.specs.Name.{Text, AreDistinct}
use Rattle.hw_names.proofs.NameLemmas.{text_of-slice_get}
use Rattle.fil_ast.specs.declared.tree.GoPort.{GoPort}
use Rattle.fil_sig.specs.inside.Shape.{event_of}
use Rattle.fil_sig.proofs.ListLemmas.{told_false, comes_twice, map_at, map_more}
use Rattle.fil_sig.proofs.shape.are_apart.Goals as goal

no_port : GoPort
no_port = record { event = record { 0 = 0 }; name = record { 0 = 0 }; width = 0 }

pub returns-then-not-branch : goal.returns-then-not-branch
unfolding no_port
returns-then-not-branch c =
    let f = event_of c.args.names.now in
    let gos = c.args.gos.now in
    let i = c.loop-go.go-index in
    let D : List Text → Type 0 = AreDistinct in
    let name = c.text.result.now in
    let named = text_of-slice_get c.args.names.now (get_or gos i no_port).event name c.text.ensures in
    let there = (c.in_ok-add_name.ensures.there (ap Ok c.if-not-branch.true)).0 in
    let C : List Text → Type 0 = λ ts. Contains ts name in
    told_false (AreDistinct (map f gos)) (λ distinct.
    comes_twice (map f (take i gos)) (map f (drop (i + 1) gos)) name (subst C c.loop-go.invariant.0 there)
    (subst D (map_at f gos i no_port c.loop-go-test.true ∙ ap (λ t. map f (take i gos) ++ t ∷ map f (drop (i + 1) gos)) named) distinct))

pub loop-go-preserved : goal.loop-go-preserved
unfolding no_port
loop-go-preserved c =
    let f = event_of c.args.names.now in
    let gos = c.args.gos.now in
    let i = c.loop-go.go-index in
    let named = text_of-slice_get c.args.names.now (get_or gos i no_port).event c.text.result.now c.text.ensures in
    ((c.in_ok-add_name.ensures.new (ap Ok c.if-not-branch.false)).1 ∙ ap₂ (λ ts t. ts ++ t ∷ []) c.loop-go.invariant.0 (sym named) ∙ sym (map_more f gos i no_port c.loop-go-test.true), c.in_ok-add_name.ensures.distinct)
