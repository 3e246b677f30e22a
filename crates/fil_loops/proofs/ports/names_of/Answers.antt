use Rattle.std.proofs.Common.{◌++◌, ◌∷◌, [], List, map, sym, ap, ap₂, ◌∙◌}
use Rattle.std.proofs.lemmas.List.{map_more, take_all}
use Rattle.hw_short.specs.declared.full_name.FullName.{FullName}
use Rattle.fil_loops.specs.inside.Ports.{full_of}
use Rattle.fil_loops.proofs.ports.names_of.Goals as goal

pub loop-key-preserved : goal.loop-key-preserved
loop-key-preserved c =
    c.in_ok-push.ensures.items
    ∙ ap₂ (λ (l : List FullName) (f : FullName). l ++ f ∷ []) c.loop-key.invariant c.name_of.ensures
    ∙ sym (map_more full_of c.args.keys.now c.loop-key.key-index _ c.loop-key-test.true)

pub returns : goal.returns
returns c = c.loop-key.invariant ∙ ap (map full_of) (take_all c.loop-key.key-index c.args.keys.now c.loop-key-test.false)
