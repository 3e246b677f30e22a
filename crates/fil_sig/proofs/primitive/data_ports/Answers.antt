use Rattle.std.proofs.Common.{◌≤◌, ◌<◌, ◌+◌, length, map, sym, ap, ◌∙◌, arith}
use Rattle.hw_names.specs.Name.{Text}
use Rattle.hw_prims.specs.Table.{pin, pins_of}
use Rattle.fil_sig.specs.inside.Kinds.{port_in}
use Rattle.fil_sig.specs.Seen.{seen_offset, seen_port}
use Rattle.fil_sig.specs.declared.time_sig.SigPort.{SigPort}
use Rattle.fil_sig.proofs.PinLemmas.{few_pins, data_pushed, data_skipped}
use Rattle.fil_sig.proofs.primitive.data_ports.Goals.{in-Some+then-is_data+in_ok-name+in_ok-push, in-Some+else-is_data, in_default}
use Rattle.fil_sig.proofs.primitive.data_ports.Goals as goal

pub overflow_add-first : goal.overflow_add-first
overflow_add-first c =
    let few : length (pins_of c.args.prim) ≤ 6 = few_pins c.args.prim in
    let within : c.args.first + c.args.count ≤ length (pins_of c.args.prim) = c.requires.within in
    omega arith

pub loop-i-preserved : goal.loop-i-preserved
loop-i-preserved c =
    let from = seen_offset c.args.from in
    let to = seen_offset c.args.to in
    let pins = pins_of c.args.prim in
    elim c.match-port.branch [
      | in-Some+then-is_data+in_ok-name+in_ok-push w ↦
          (let p = pin w.in-Some.pin.name.now w.in-Some.pin.width in
          let port : SigPort = record { name = w.in_ok-name.name; from = c.args.from; to = c.args.to; width = w.in-Some.pin.width } in
          let seen = ap (λ (n : Text). port_in from to (pin n w.in-Some.pin.width)) (w.in_ok-name.ensures ∙ w.as_bytes.ensures.value) in
          ap (λ v. map seen_port v.items) w.ports-is ∙ ap (map seen_port) w.in_ok-push.ensures.items
          ∙ data_pushed from to pins c.args.first c.loop-i.i p w.in-Some.ensures.pin c.loop-i.ports.items c.loop-i.invariant port
          (sym (w.is_data.ensures w.in-Some.pin.width) ∙ w.if-is_data.true) seen)
      | in-Some+else-is_data w ↦
          (let p = pin w.in-Some.pin.name.now w.in-Some.pin.width in
          ap (λ v. map seen_port v.items) w.ports-is
          ∙ data_skipped from to pins c.args.first c.loop-i.i p w.in-Some.ensures.pin c.loop-i.ports.items c.loop-i.invariant
          (sym (w.is_data.ensures w.in-Some.pin.width) ∙ w.if-is_data.false))
      | in_default w ↦
          (let past : length pins ≤ c.args.first + c.loop-i.i = w.in_default.ensures.pin in
          let within : c.args.first + c.args.count ≤ length pins = c.requires.within in
          let before : c.loop-i.i < c.args.count = c.loop-i-test.true in
          absurd (omega arith))
    ]
