use Rattle.std.proofs.Common.{ℕ, List, [], ◌∷◌, ◌++◌, get_or, sym, ap, ◌∙◌}
use Rattle.std.proofs.lemmas.List.{append-nil, take_all}
use Rattle.cal_wires.specs.Nodes.{marked}
use Rattle.cal_wires.proofs.FullNameLemmas.{marked_more}
use Rattle.cal_wires.proofs.full_names.add_marked.Goals as goal

pub loop-byte-init : goal.loop-byte-init
loop-byte-init c = sym (append-nil c.args.key.now.items)

pub loop-byte-preserved : goal.loop-byte-preserved
loop-byte-preserved c =
    let text = c.args.text.now in
    let i = c.loop-byte.byte-index in
    c.in_ok-push-2.ensures.items
    ∙ ap (λ (l : List ℕ). l ++ get_or text i 0 ∷ []) c.in_ok-push.ensures.items
    ∙ marked_more c.args.key.now.items c.loop-byte.key.items text i c.loop-byte-test.true c.loop-byte.invariant

pub returns : goal.returns
returns c = c.loop-byte.invariant ∙ ap (λ (t : List ℕ). c.args.key.now.items ++ marked t) (take_all c.loop-byte.byte-index c.args.text.now c.loop-byte-test.false)
