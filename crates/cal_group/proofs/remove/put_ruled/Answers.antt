use Rattle.std.proofs.Common.{List, length, refl, subst, ◌∙◌}
use Rattle.std.proofs.lemmas.List.{take_all}
use Rattle.std.proofs.lemmas.Option.{slice_get_read}
use Rattle.cal_ast.specs.declared.tree.Assign.{Assign}
use Rattle.cal_group.proofs.RulingLemmas.{adds_none, adds_more}
use Rattle.cal_group.specs.inside.Ruling.{AddsRuled}
use Rattle.cal_group.proofs.remove.put_ruled.Goals as goal

pub loop-set-init : goal.loop-set-init
loop-set-init c = adds_none c.args.when.now c.args.sets.now.items

pub loop-set-preserved : goal.loop-set-preserved
loop-set-preserved c =
    let items = c.deref-set-items.result.now in
    let i = c.loop-set.set-index in
    let set = c.set-item.result in
    adds_more c.args.when.now items c.args.sets.now.items c.loop-set.sets.items c.push.new.self.items i set c.in_ok-ruled_set.field-0 (slice_get_read items (length items) i set refl c.loop-set-test.true c.set-item.is)
    c.loop-set.invariant c.in_ok-ruled_set.ensures c.in_ok-push.ensures.items

pub returns : goal.returns
returns c =
    subst (λ (sets : List Assign). AddsRuled c.args.when.now sets c.args.sets.now.items c.loop-set.sets.items)
    (take_all c.loop-set.set-index c.deref-set-items.result.now c.loop-set-test.false ∙ c.deref-set-items.ensures.value) c.loop-set.invariant
