use Rattle.std.proofs.Common.{◌≡◌, List, [], ◌∷◌, ◌++◌, Contains, Option, length, map, take, sym, ap, ap₂, ◌∙◌, arith}
use Rattle.std.proofs.Math.Seq.{take-length}
use Rattle.std.proofs.lemmas.List.{map-append}
use Rattle.std.proofs.lemmas.List.Elements.{All-get_or}
use Rattle.std.proofs.lemmas.Simd.{map-map}
use Rattle.hw_names.specs.Name.{text_of}
use Rattle.fil_ast.specs.Tree.{TimeAt, time_tree}
use Rattle.fil_ast.specs.declared.tree.Time.{Time}
use Rattle.fil_sig.proofs.ListLemmas.{map_more}
use Rattle.fil_place.specs.Times.{known, time_shown}
use Rattle.fil_place.proofs.offsets.offsets_of.Goals as goal

no_time : Time
no_time = record { event = record { 0 = 0 }; plus = 0 }

pub loop-time-preserved : goal.loop-time-preserved
unfolding no_time
loop-time-preserved c all =
    let names = c.args.names.now in
    let events = c.args.events.now in
    let at = c.args.at.now in
    let i = c.loop-time.time-index in
    let o = c.offset_of.result in
    let Named : Time → Type 0 = λ t. Contains events (text_of names t.event) in
    let F : Time → Option TimeAt = λ t. known (time_tree names t) in
    let shown = c.offset_of.ensures (All-get_or Named at i no_time c.loop-time-test.true all) in
    ap (map (time_shown events)) c.in_ok-push.ensures.items ∙ map-append (time_shown events) c.loop-time.offsets.items (o ∷ [])
    ∙ ap₂ (λ (os : List (Option TimeAt)) o. os ++ o ∷ []) (c.loop-time.invariant all) shown ∙ sym (map_more F at i no_time c.loop-time-test.true)

pub returns : goal.returns
returns c all =
    let names = c.args.names.now in
    let at = c.args.at.now in
    let F : Time → Option TimeAt = λ t. known (time_tree names t) in
    let end : c.loop-time.time-index ≡ length at = omega arith in
    c.loop-time.invariant all ∙ ap (λ k. map F (take k at)) end ∙ ap (map F) (take-length at) ∙ sym (map-map known (time_tree names) at)
