use Rattle.std.proofs.Common.{◌∷◌, [], ◌++◌, refl, ap, ◌∙◌, arith}
use Rattle.net_row.proofs.NextLemmas.{no_kept, next_of_none, next_of_register, next_of_delay, next_of_fast_mult}
use Rattle.net_row.proofs.outputs.add_next.Goals as goal

pub returns-in_ok-push-in-StdReg-2 : goal.returns-in_ok-push-in-StdReg-2
returns-in_ok-push-in-StdReg-2 c =
    next_of_register c.args.steps.now c.chosen_slot.new.steps c.args.ports.now.slots.items c.args.cell c.args.next.now.items c.push-in-StdReg.new.self.items
    c.in-StdReg.w c.in_ok-chosen_slot-in-StdReg.field-0 c.in_ok-data-in-StdReg.data c.in_ok-enable-in-StdReg.enable c.in_ok-kept-in-StdReg.kept
    c.in-StdReg.is c.in_ok-data-in-StdReg.ensures c.in_ok-enable-in-StdReg.ensures (omega (arith, c.in_ok-kept-in-StdReg.ensures))
    c.in_ok-chosen_slot-in-StdReg.ensures
    (c.in_ok-push-in-StdReg-2.ensures.items ∙ ap (λ l. l ++ c.in_ok-enable-in-StdReg.enable ∷ []) c.in_ok-push-in-StdReg.ensures.items)

pub returns-in_ok-push-in-FilDelay : goal.returns-in_ok-push-in-FilDelay
returns-in_ok-push-in-FilDelay c =
    next_of_delay c.args.steps.now c.args.steps.now c.args.ports.now.slots.items c.args.cell c.args.next.now.items c.push-in-FilDelay.new.self.items
    c.in-FilDelay.w c.in_ok-input_slot-in-FilDelay.field-0 c.in-FilDelay.is c.in_ok-input_slot-in-FilDelay.ensures refl c.in_ok-push-in-FilDelay.ensures.items

pub returns-in_ok-push-in-FilFastMult-2 : goal.returns-in_ok-push-in-FilFastMult-2
returns-in_ok-push-in-FilFastMult-2 c =
    next_of_fast_mult c.args.steps.now c.product.new.steps c.args.ports.now.slots.items c.args.cell c.args.next.now.items c.push-in-FilFastMult-2.new.self.items
    c.in-FilFastMult.w c.in_ok-product-in-FilFastMult.field-0 c.in_ok-left-in-FilFastMult.left c.in_ok-right-in-FilFastMult.right c.in_ok-kept-in-FilFastMult.kept
    c.in-FilFastMult.is c.in_ok-left-in-FilFastMult.ensures c.in_ok-right-in-FilFastMult.ensures (omega (arith, c.in_ok-kept-in-FilFastMult.ensures))
    c.in_ok-product-in-FilFastMult.ensures
    (c.in_ok-push-in-FilFastMult-2.ensures.items ∙ ap (λ l. l ++ c.in_ok-kept-in-FilFastMult.kept ∷ []) c.in_ok-push-in-FilFastMult.ensures.items)

pub returns-in_default : goal.returns-in_default
returns-in_default c =
    next_of_none c.args.steps.now c.args.steps.now c.args.ports.now.slots.items c.args.cell c.args.next.now.items c.args.next.now.items
    (no_kept c.args.cell.prim c.in_default.not-StdReg c.in_default.not-FilDelay c.in_default.not-FilFastMult) refl refl
