use Rattle.net_row.proofs.OutputLemmas.{ok_combined, ok_register, ok_delay, ok_fast_mult}
use Rattle.net_row.proofs.outputs.output_slot.Goals as goal

pub returns-in-Stateless : goal.returns-in-Stateless
returns-in-Stateless c =
    ok_combined c.combined_slot.result c.args.steps.now c.combined_slot.new.steps c.args.ports.now.slots.items c.args.cell c.args.kind c.args.output
    c.in-Stateless.is c.combined_slot.ensures

pub returns-in-Register : goal.returns-in-Register
returns-in-Register c =
    ok_register c.kept_slot.result c.args.steps.now c.args.ports.now.slots.items c.args.cell c.args.kind c.args.output c.in-Register.first
    c.in-Register.is c.kept_slot.ensures

pub returns-in-Delay : goal.returns-in-Delay
returns-in-Delay c =
    ok_delay c.kept_slot-in-Delay.result c.args.steps.now c.args.ports.now.slots.items c.args.cell c.args.kind c.args.output c.in-Delay.first
    c.in-Delay.is c.kept_slot-in-Delay.ensures

pub returns-in-FastMult : goal.returns-in-FastMult
returns-in-FastMult c =
    ok_fast_mult c.kept_slot-in-FastMult.result c.args.steps.now c.args.ports.now.slots.items c.args.cell c.args.kind c.args.output c.in-FastMult.first
    c.in-FastMult.is c.kept_slot-in-FastMult.ensures
