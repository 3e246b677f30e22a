use Rattle.std.proofs.Common.{◌≡◌, ◌≤◌, ◌+◌, ℕ, List, ◌++◌, Some, length, drop, length-drop, sym, ap, subst, ◌∙◌, arith}
use Rattle.hw_names.specs.Name.{Text}
use Rattle.cal_wires.specs.Nodes.{IsName, marked}
use Rattle.cal_wires.proofs.FullNameLemmas.{name_told, none_told, read_more}
use Rattle.cal_wires.proofs.full_names.name_in.Goals as goal

pub returns-then-is_hole : goal.returns-then-is_hole
returns-then-is_hole c node is = none_told node c.args.key.now is (sym c.is_hole.ensures ∙ c.if-is_hole.true)

pub loop-byte-preserved : goal.loop-byte-preserved
loop-byte-preserved c =
    let key = c.args.key.now in
    let place = c.loop-byte.place in
    let here = c.in-Some.ensures in
    let longer : 2 ≤ length (drop place key) = omega (arith, ap length here) in
    record {
      within = omega (arith, longer, length-drop place key);
      read = read_more key c.loop-byte.name.items place c.in-Some.byte c.loop-byte.invariant.read here ∙ ap (λ (t : List ℕ). marked t ++ drop (place + 2) key) (sym c.in_ok-push.ensures.items);
    }

pub returns : goal.returns
returns c node is =
    let key = c.args.key.now in
    let name = c.loop-byte.name.items in
    let made : name ≡ c.in_ok-make.field-0 = sym (c.in_ok-make.ensures ∙ c.deref.ensures.value) in
    subst (λ (t : Text). IsName node (Some t)) made (name_told node key name (drop c.loop-byte.place key) is (sym c.is_hole.ensures ∙ c.if-is_hole.false) c.loop-byte.invariant.read c.in_default.ensures)
