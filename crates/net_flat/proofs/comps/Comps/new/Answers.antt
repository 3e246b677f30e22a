use Rattle.std.proofs.Common.{◌<◌, ℕ, List, All, None, length, replicate, take, ap, refl, sym, subst, ◌∙◌, arith}
use Rattle.std.proofs.lemmas.List.{take_all}
use Rattle.cal_ast.specs.Numbers.{ComponentHasNumbers}
use Rattle.cal_ast.specs.declared.tree.CalComp.{CalComp}
use Rattle.net_flat.proofs.CompLemmas.{HasFirst, none_alone, first_none, first_kept, first_set, read_none, read_some}
use Rattle.net_flat.proofs.StandLemmas.{take_one}
use Rattle.net_flat.proofs.comps.Comps.new.Goals as goal
use Rattle.net_flat.proofs.comps.Comps.new.Goals.{then-is_none, else-is_none}

pub loop-comp-init : goal.loop-comp-init
loop-comp-init c =
    let none = none_alone c.in_ok-by_name.ensures.items_if_clones_equal (λ x h. h) in
    let names = c.args.design.now.names in
    first_none names c.in_ok-by_name.by_name.items (none ∙ ap (λ (n : ℕ). replicate n None) c.len.ensures.len)

pub loop-comp-preserved : goal.loop-comp-preserved
loop-comp-preserved c =
    let d = c.args.design.now in
    let comp = c.comp-item.result in
    let items = c.deref-comp-items.result.now in
    let k = c.loop-comp.comp-index in
    let more = take_one items k comp c.loop-comp-test.true c.comp-item.is in
    let N : CalComp → Type 0 = ComponentHasNumbers d.names in
    let all = subst (λ (cs : List CalComp). All N cs) (sym c.deref-comp-items.ensures.value) c.requires in
    let numbers : N comp = subst N (sym c.comp-item.is) (all k comp c.loop-comp-test.true) in
    let within = numbers.name in
    let table = c.loop-comp.by_name.items in
    let there : comp.name.0 < length table = omega (arith, within, c.loop-comp.invariant.sized) in
    elim c.if-is_none.branch [
      | then-is_none w ↦
          let none = read_none table comp.name.0 c.index.result.now there c.index.ensures w.if-is_none.ensures in
          rw (w.by_name-is, more) (first_set d.names c.len.ensures.distinct (take k items) table c.loop-comp.invariant comp within _ refl numbers none)
      | else-is_none w ↦
          let some = read_some table comp.name.0 c.index.result.now there c.index.ensures w.if-is_none.ensures in
          rw (w.by_name-is, more) (first_kept d.names c.len.ensures.distinct (take k items) table c.loop-comp.invariant comp within some.0 some.1)
    ]

pub returns : goal.returns
returns c =
    let d = c.args.design.now in
    let all = take_all c.loop-comp.comp-index c.deref-comp-items.result.now c.loop-comp-test.false ∙ c.deref-comp-items.ensures.value in
    let h = subst (λ (cs : List CalComp). HasFirst d.names cs c.loop-comp.by_name.items) all c.loop-comp.invariant in
    record { sized = h.sized; first = h.first; numbers = h.numbers }
