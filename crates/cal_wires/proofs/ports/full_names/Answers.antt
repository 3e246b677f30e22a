use Rattle.std.proofs.Common.{◌++◌, ◌∷◌, [], List, map, sym, ap, ap₂, ◌∙◌}
use Rattle.std.proofs.lemmas.List.{map_more, take_all}
use Rattle.hw_short.specs.declared.full_name.FullName.{FullName}
use Rattle.cal_wires.specs.NodeOrder.{full_name_in}
use Rattle.cal_wires.proofs.ports.full_names.Goals as goal

pub loop-key-preserved : goal.loop-key-preserved
loop-key-preserved c =
    c.in_ok-push.ensures.items
    ∙ ap₂ (λ (l : List FullName) (name : FullName). l ++ name ∷ []) c.loop-key.invariant c.full_name.ensures
    ∙ sym (map_more full_name_in c.args.keys.now c.loop-key.key-index _ c.loop-key-test.true)

pub returns : goal.returns
returns c = c.loop-key.invariant ∙ ap (map full_name_in) (take_all c.loop-key.key-index c.args.keys.now c.loop-key-test.false)
