use Rattle.std.proofs.Common.{◌≤◌, List, flat_map, length, option_map, ap, subst, ◌∙◌, arith}
use Rattle.std.proofs.lemmas.List.{length-map, take_all}
use Rattle.std.proofs.lemmas.Option.{slice_get-map}
use Rattle.fil_ast.specs.Scope.{instances_at}
use Rattle.fil_ast.specs.Tree.{Statement, component_tree, statement_tree}
use Rattle.fil_place.proofs.EachLemmas.{item_at}
use Rattle.fil_loops.proofs.PartLemmas.{HaveParts, part_told, statement_makes, statement_makes_none}
use Rattle.fil_loops.proofs.levels.parts_of.Goals.{in-Some+in_ok-push, in_default}
use Rattle.fil_loops.proofs.levels.parts_of.Goals as goal

pub loop-stmt-preserved : goal.loop-stmt-preserved
loop-stmt-preserved c comps place =
    let names = c.args.place.now.names.now in
    let tree = component_tree names c.args.place.now.comp.now in
    let k = c.loop-stmt.stmt-index in
    let body = c.args.place.now.comp.now.body.items in
    let here = item_at body c.deref-stmt-items.result.now k c.stmt-item.result c.deref-stmt-items.ensures.value c.loop-stmt-test.true c.stmt-item.is in
    let s = statement_tree names c.stmt-item.result in
    let at = slice_get-map (statement_tree names) body k ∙ ap (option_map (statement_tree names)) here in
    elim c.match-made_by.branch [
      | in-Some+in_ok-push w ↦
          rw (w.parts-is, w.in_ok-push.ensures.items)
          (let makes = w.in-Some.ensures.some in
          statement_makes comps tree.body k s makes.0 c.loop-stmt.parts.items w.number_of.result at makes.1
          (part_told comps c.args.place.now.earlier.now.names place.shows.components.names makes.0 _ makes.2 w.number_of.result w.number_of.ensures)
          (c.loop-stmt.invariant comps place))
      | in_default w ↦ rw w.parts-is (statement_makes_none comps tree.body k s c.loop-stmt.parts.items at w.in_default.ensures.none (c.loop-stmt.invariant comps place))
    ]

pub returns-clause-parts : goal.returns-clause-parts
returns-clause-parts c comps place =
    let tree = component_tree c.args.place.now.names.now c.args.place.now.comp.now in
    let end : length tree.body ≤ c.loop-stmt.stmt-index = omega (arith, c.loop-stmt-test.false, length-map c.args.place.now.comp.now.body.items (statement_tree c.args.place.now.names.now), ap length c.deref-stmt-items.ensures.value) in
    let all = subst (λ (l : List Statement). HaveParts comps (flat_map instances_at l) c.loop-stmt.parts.items) (take_all c.loop-stmt.stmt-index tree.body end) (c.loop-stmt.invariant comps place) in
    all.are
