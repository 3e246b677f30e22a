use Rattle.std.proofs.Common.{◌≡◌, Some, length, refl, arith}
use Rattle.std.specs.Prelude.{slice_get}
use Rattle.std.proofs.lemmas.Option.{slice_get_read}
use Rattle.net_sim.proofs.BranchLemmas.{along_none, along_more, along_all, slot_kept}
use Rattle.net_sim.specs.Branches.{IsSlotOf}
use Rattle.net_sim.proofs.lower.slots.Goals as goal

pub loop-source-init : goal.loop-source-init
loop-source-init c = rw c.new-slots.ensures.items (along_none (IsSlotOf c.args.ports c.args.literals.now.items) c.args.sources.now)

pub loop-source-preserved : goal.loop-source-preserved
loop-source-preserved c =
    let ports = c.args.ports in
    let sources = c.args.sources.now in
    let old = c.loop-source.literals.items in
    let new = c.slot_of.new.literals.items in
    let i = c.loop-source.source-index in
    let source = c.source-item.result in
    let at : slice_get sources i ≡ Some source = slice_get_read sources (length sources) i source refl c.loop-source-test.true c.source-item.is in
    rw c.in_ok-push.ensures.items
    (along_more (IsSlotOf ports old) (IsSlotOf ports new) sources c.loop-source.slots.items i source c.in_ok-slot_of.field-0 (slot_kept ports old new c.in_ok-slot_of.ensures.kept) at c.in_ok-slot_of.ensures.slot c.loop-source.invariant)

pub returns : goal.returns
returns c = along_all (IsSlotOf c.args.ports c.loop-source.literals.items) c.args.sources.now c.loop-source.slots.items c.loop-source.source-index (omega (arith, c.loop-source-test.false)) c.loop-source.invariant
