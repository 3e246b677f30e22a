use Rattle.std.proofs.Common.{All, List, [], ◌∷◌, ◌++◌, ap₂, map, take, ap, subst, sym, ◌∙◌, ◌<◌, length, rules, arith}
use Rattle.std.proofs.lemmas.List.{take_more, map-append}
use Rattle.hw_names.specs.Name.{text_of}
use Rattle.hw_names.specs.declared.names.NameId.{NameId}
use Rattle.net_core.specs.Guard.{Reads, Compares, guards_of, guard_tree, source_tree}
use Rattle.net_core.specs.inside.Kept.{both_kept, kept_by_guard, kept_by_guards}
use Rattle.net_core.specs.Numbers.{GuardHasNumbers}
use Rattle.net_core.proofs.GuardLemmas.{list_numbers}
use Rattle.net_core.specs.declared.net.Guard.{Guard, the_lemmas}
use Rattle.net_core.proofs.KeptLemmas.{kept_by_guards-none, kept_by_guards-push, kept_by_guard-Negates, kept_by_guard-list, kept_by_guard-Reads, kept_by_guard-Compares}
use Rattle.net_core.proofs.sets.+guard_kept.Goals as goal

pub guard_kept-loop-inner-preserved : goal.guard_kept-loop-inner-preserved
guard_kept-loop-inner-preserved t c =
    let ports = c.args.ports.now in
    let texts = text_of c.args.names.now in
    let N : Guard NameId → Type 0 = GuardHasNumbers c.args.names.now in
    let negated : N c.in-Not.negated.value = subst N c.in-Not.is c.loop-inner.invariant.1 in (
      ap (λ g. kept_by_guard ports (guard_tree texts g)) c.deref-inner.ensures ∙ sym (kept_by_guard-Negates ports (guard_tree texts c.in-Not.negated.value))
          ∙ ap (λ g. kept_by_guard ports (guard_tree texts g)) (sym c.in-Not.is) ∙ c.loop-inner.invariant.0,
      subst N (sym c.deref-inner.ensures) negated,
      search (rules, the_lemmas),
    )

pub guard_kept-returns-in-Read : goal.guard_kept-returns-in-Read
guard_kept-returns-in-Read t c =
    let ports = c.args.ports.now in
    let texts = text_of c.args.names.now in
    let found = c.judge_source.ensures in
    let src = c.deref.result.now in
    c.alone.ensures
    ∙ kept_by_guard-Reads ports (source_tree texts src) c.judge_source.result (record { known = found.known; fits = found.fits; readable = found.readable; width = found.width })
    ∙ ap (λ s. kept_by_guard ports (Reads (source_tree texts s))) c.deref.ensures
    ∙ ap (λ g. kept_by_guard ports (guard_tree texts g)) (sym c.in-Read.is) ∙ c.loop-inner.invariant.0

pub guard_kept-returns-in-Test : goal.guard_kept-returns-in-Test
guard_kept-returns-in-Test t c =
    let ports = c.args.ports.now in
    let texts = text_of c.args.names.now in
    let left = c.judge_source-left.ensures in
    let right = c.judge_source-right.ensures in
    let one = c.deref-in-Test.result.now in
    let other = c.deref-in-Test-2.result.now in
    c.compared.ensures
    ∙ kept_by_guard-Compares ports c.in-Test.field-0 (source_tree texts one) (source_tree texts other) c.judge_source-left.result c.judge_source-right.result
    (record { known = left.known; fits = left.fits; readable = left.readable; width = left.width }) (record { known = right.known; fits = right.fits; readable = right.readable; width = right.width })
    ∙ ap (λ s. kept_by_guard ports (Compares c.in-Test.field-0 (source_tree texts s) (source_tree texts other))) c.deref-in-Test.ensures
    ∙ ap (λ s. kept_by_guard ports (Compares c.in-Test.field-0 (source_tree texts c.in-Test.left.value) (source_tree texts s))) c.deref-in-Test-2.ensures
    ∙ ap (λ g. kept_by_guard ports (guard_tree texts g)) (sym c.in-Test.is) ∙ c.loop-inner.invariant.0

pub guard_kept-guards_kept-requires : goal.guard_kept-guards_kept-requires
guard_kept-guards_kept-requires t c =
    let P : List (Guard NameId) → Type 0 = All (GuardHasNumbers c.args.names.now) in (
      search (rules, the_lemmas),
      subst P (sym c.deref-in-All.ensures.value) (list_numbers c.args.names.now c.loop-inner.inner.now c.in-All.guards c.in-All.is c.loop-inner.invariant.1),
    )

pub guard_kept-returns-in-All : goal.guard_kept-returns-in-All
guard_kept-returns-in-All t c =
    let ports = c.args.ports.now in
    let texts = text_of c.args.names.now in
    c.guards_kept.ensures ∙ ap (λ (gs : List (Guard NameId)). kept_by_guards ports (guards_of (map (guard_tree texts) gs))) c.deref-in-All.ensures.value
    ∙ sym (kept_by_guard-list c.loop-inner.inner.now c.in-All.guards ports texts c.in-All.is) ∙ c.loop-inner.invariant.0

pub guards_kept-loop-guard-init : goal.guards_kept-loop-guard-init
guards_kept-loop-guard-init t c = c.all-kept.ensures ∙ kept_by_guards-none c.args.ports.now

pub guards_kept-guard_kept-requires : goal.guards_kept-guard_kept-requires
guards_kept-guard_kept-requires t c =
    let N : Guard NameId → Type 0 = GuardHasNumbers c.args.names.now in
    let within : c.loop-guard.guard-index < length c.args.guards.now = omega arith in
    (search (rules, the_lemmas), subst N (sym c.guard-item.is) (c.requires c.loop-guard.guard-index c.guard-item.result within))

pub guards_kept-loop-guard-preserved : goal.guards_kept-loop-guard-preserved
guards_kept-loop-guard-preserved t c =
    let ports = c.args.ports.now in
    let tree = guard_tree (text_of c.args.names.now) in
    let i = c.loop-guard.guard-index in
    let within : i < length c.args.guards.now = omega arith in
    let taken = take_more c.args.guards.now i c.guard-item.result within ∙ ap (λ g. take i c.args.guards.now ++ g ∷ []) (sym c.guard-item.is) in
    c.and-kept.ensures ∙ ap₂ both_kept c.loop-guard.invariant c.guard_kept.ensures
    ∙ sym (kept_by_guards-push ports (map tree (take i c.args.guards.now)) (tree c.guard-item.result))
    ∙ ap (λ gs. kept_by_guards ports (guards_of gs)) (sym (map-append tree (take i c.args.guards.now) (c.guard-item.result ∷ [])))
    ∙ ap (λ gs. kept_by_guards ports (guards_of (map tree gs))) (sym taken)
