use Rattle.std.proofs.Common.{◌≡◌, ◌+◌, ◌<◌, [], ◌∷◌, ◌++◌, length, take, get_or, false, refl, ap, sym, ◌∙◌, arith}
use Rattle.std.proofs.lemmas.List.{take_more, length-take-le}
use Rattle.std.proofs.Math.Seq.{take-length}
use Rattle.net_core.specs.declared.ports.Port.{Port}
use Rattle.net_core.proofs.PortListLemmas.{numbered, numbered-push, is_table}
use Rattle.net_core.proofs.ports.Ports.into_table.Goals as goal

pub loop-i-preserved : goal.loop-i-preserved
loop-i-preserved c =
    let items = c.deref-port-items.result.now in
    let i = c.loop-i.i in
    let none : Port = record { width = 0; readable = false; writable = false } in
    let within : i < length items = omega arith in
    let here : i ≡ 0 + length (take i items) = omega (arith, length-take-le i items (omega arith)) in
    c.in_ok-push.ensures.items
    ∙ ap (λ infos. infos ++ record { name = record { 0 = i }; width = (get_or items i none).width } ∷ []) c.loop-i.invariant
    ∙ numbered-push 0 (take i items) (get_or items i none) i here
    ∙ ap (numbered 0) (sym (take_more items i none within))

pub returns : goal.returns
returns c n are =
    let own = c.self.inside in
    let items = c.deref-port-items.result.now in
    let end : c.loop-i.i ≡ length items = omega arith in
    let infos = c.loop-i.invariant ∙ ap (λ k. numbered 0 (take k items)) end ∙ ap (numbered 0) (take-length items ∙ c.deref-port-items.ensures.value) in
    is_table n own.names own.ports.items _ c.self.invariant (are ∙ sym c.self.view_is) refl infos
